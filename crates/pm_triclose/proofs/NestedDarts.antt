-- Brackets are nested in the order of the darts, and so are stems with their twins.
use Rattle.std.proofs.Common.{◌≡◌, ℕ, ◌<◌, ◌≤◌, inl, inr, List, length, slice_index, ap, ◌∙◌, sym, subst, arith}
use Rattle.std.proofs.lemmas.Bool.{cases_eq, cases_order}
use Rattle.pm_brackets.specs.Ring.{AreBrackets}
use Rattle.pm_brackets.specs.Word.{IsBracketPair}
use Rattle.pm_brackets.proofs.Nesting.{closes_inside, opens_inside}
use Rattle.pm_brackets.proofs.RingPlaces.{in_order}
use Rattle.pm_tri.specs.declared.letters.TheConstants.{STEM}
use Rattle.pm_triclose.specs.Closure.{Dart, a_to_b, at_place, b_to_a, twin_of}
use Rattle.pm_triclose.specs.WholeClosure.{IsWholeDart}
use Rattle.pm_triclose.proofs.AheadOrder.{IsStemRing, ahead_later, no_stem_ahead, within_ahead}
use Rattle.pm_triclose.proofs.DartKeys.{IsLess, at_bracket, at_stem, bracket, by_line, by_rank, is_bracket, key, key_less, key_tells, key_within, stem_pair, stem_within}

module _ (places : List ℕ) (across ends : ℕ → ℕ) (w : IsStemRing places across ends) where
  abbrev is_at : Dart → ℕ
  is_at x = key (length places) ends x

  -- a dart strictly between two others, by their keys
  pub record IsInside (x c y : Dart) : Type 0 where
    pub above : key (length places) ends x < key (length places) ends c
    pub below : key (length places) ends c < key (length places) ends y

  place_order : (p q : ℕ) → is_at (at_place p) < is_at (at_place q) → p < q
  place_order p q l = found (key_tells (length places) ends (at_place p) (at_place q) l) where
    found : IsLess (length places) ends (at_place p) (at_place q) → p < q
    found (by_line m) = m
    found (by_rank e m) = absurd (omega (arith, m))

  -- the other bracket of one between two of an edge is there too
  across_between : (p m : ℕ) → p < length places → m < length places → p < m → m < across p → (p < across m) × (across m < across p)
  across_between p m h i l k = elim (cases_eq (slice_index places p) STEM) [
    | inl e ↦ let f = w.alone p e in absurd (omega (arith, f, l, k))
    | inr ne ↦
        let outer = in_order places p (across p) (omega (arith, l, k)) (w.brackets p (is_bracket places across ends w p h ne)) in
        elim (cases_eq (slice_index places m) STEM) [
          | inl e ↦ let f = w.alone m e in (omega (arith, f, l), omega (arith, f, k))
          | inr other ↦ found outer (w.brackets m (is_bracket places across ends w m i other))
        ]
  ] where
    found : IsBracketPair places p (across p) → AreBrackets places m (across m) → (p < across m) × (across m < across p)
    found outer (inl a) = let b = a.before in (omega (arith, l, b), opens_inside places p (across p) m (across m) outer a l k)
    found outer (inr a) = let b = a.before in (closes_inside places p (across p) (across m) m outer a l k, omega (arith, b, k))

  pub brackets_nest : (x c : Dart) → IsWholeDart places x → IsWholeDart places c → is_at x < is_at c → is_at c < is_at (bracket across x) → IsInside x (bracket across c) (bracket across x)
  brackets_nest (at_place p) (at_place m) h i l k =
      let b = across_between p m h i (place_order p m l) (place_order m (across p) k) in
      record { above = key_less (length places) ends (at_place p) (at_place (across m)) b.0; below = key_less (length places) ends (at_place (across m)) (at_place (across p)) b.1 }
  brackets_nest (at_place p) (twin_of z) h i l k = record { above = l; below = k }
  brackets_nest (twin_of x) c h i l k = absurd (omega (arith, l, k))
  brackets_nest a_to_b c h i l k = absurd h
  brackets_nest b_to_a c h i l k = absurd h
  brackets_nest (at_place p) a_to_b h i l k = absurd i
  brackets_nest (at_place p) b_to_a h i l k = absurd i

  ends_later : (x : ℕ) → slice_index places x ≡ STEM → x < ends x
  ends_later x e = ahead_later places across ends w x (ends x) (w.closes x e)

  not_end : (p x : ℕ) → slice_index places p ≡ STEM → slice_index places x ≡ STEM → p ≡ ends x → ⊥
  not_end p x e f g = no_stem_ahead places across ends w x (ends x) (w.closes x f) (sym (ap (slice_index places) g) ∙ e)

  ends_within : (x y : ℕ) → slice_index places x ≡ STEM → slice_index places y ≡ STEM → x < y → y < ends x → ends y ≤ ends x
  ends_within x y e f l k = within_ahead places across ends w x (ends x) y (ends y) (w.closes x e) (w.closes y f) l k

  -- a stem's twin stands behind that of a stem before it only where it closes later
  twin_inside : (x y : ℕ) → slice_index places x ≡ STEM → slice_index places y ≡ STEM → x < y → ends y ≤ ends x → is_at (twin_of y) < is_at (twin_of x)
  twin_inside x y e f l k = elim (cases_eq (ends y) (ends x)) [
    | inl same ↦ let m = stem_within places across ends w y f in key_within (length places) ends (twin_of y) (twin_of x) same (omega (arith, l, m))
    | inr ne ↦ key_less (length places) ends (twin_of y) (twin_of x) (omega (arith, k, ne))
  ]

  -- between a stem's dart and its twin
  inside_stem : (p : ℕ) (c : Dart) → slice_index places p ≡ STEM → IsWholeDart places c → is_at (at_place p) < is_at c → is_at c < is_at (twin_of p) → IsInside (at_place p) (stem_pair places c) (twin_of p)
  inside_stem p (at_place m) e i l k = elim (cases_eq (slice_index places m) STEM) [
    | inr ne ↦ subst (λ (d : Dart). IsInside (at_place p) d (twin_of p)) (sym (at_bracket places m ne)) (record { above = l; below = k })
    | inl f ↦
        let less = place_order p m l in
        let most : m ≤ ends p = before (key_tells (length places) ends (at_place m) (twin_of p) k) in
        let inner : m < ends p = elim (cases_eq m (ends p)) [ inl g ↦ absurd (not_end m p f e g) | inr ne ↦ omega (arith, most, ne) ] in
        let later = ends_later m f in
        subst (λ (d : Dart). IsInside (at_place p) d (twin_of p)) (sym (at_stem places m f)) (record {
          above = key_less (length places) ends (at_place p) (twin_of m) (omega (arith, less, later));
          below = twin_inside p m e f less (ends_within p m e f less inner);
        })
  ] where
    before : IsLess (length places) ends (at_place m) (twin_of p) → m ≤ ends p
    before (by_line n) = omega (arith, n)
    before (by_rank g n) = omega (arith, g)
  inside_stem p (twin_of z) e i l k =
      let reach = from (key_tells (length places) ends (at_place p) (twin_of z) l) in
      let apart : p < ends z = elim (cases_eq p (ends z)) [ inl g ↦ absurd (not_end p z e i g) | inr ne ↦ omega (arith, reach, ne) ] in
      let less : p < z = elim (cases_order p z) [
        | inl same ↦ let g = ap (λ (x : ℕ). is_at (twin_of x)) same in absurd (omega (arith, g, k))
        | inr order ↦ elim order [
          | inl fine ↦ fine
          | inr more ↦ let m = twin_inside z p i e more (ends_within z p i e more apart) in absurd (omega (arith, m, k))
        ]
      ] in
      let most = to (key_tells (length places) ends (twin_of z) (twin_of p) k) in
      let later = ends_later z i in
      record { above = key_less (length places) ends (at_place p) (at_place z) less; below = key_less (length places) ends (at_place z) (twin_of p) (omega (arith, later, most)) } where
        from : IsLess (length places) ends (at_place p) (twin_of z) → p ≤ ends z
        from (by_line n) = omega (arith, n)
        from (by_rank g n) = omega (arith, g)

        to : IsLess (length places) ends (twin_of z) (twin_of p) → ends z ≤ ends p
        to (by_line n) = omega (arith, n)
        to (by_rank g n) = omega (arith, g)
  inside_stem p a_to_b e i l k = absurd i
  inside_stem p b_to_a e i l k = absurd i

  pub stems_nest : (x c : Dart) → IsWholeDart places x → IsWholeDart places c → is_at x < is_at c → is_at c < is_at (stem_pair places x) → IsInside x (stem_pair places c) (stem_pair places x)
  stems_nest (at_place p) c h i l k = elim (cases_eq (slice_index places p) STEM) [
    | inl e ↦ let s = at_stem places p e in subst (λ (d : Dart). IsInside (at_place p) (stem_pair places c) d) (sym s) (inside_stem p c e i l (subst (λ (d : Dart). is_at c < is_at d) s k))
    | inr ne ↦ let s = ap is_at (at_bracket places p ne) in absurd (omega (arith, s, l, k))
  ]
  stems_nest (twin_of x) c h i l k =
      let m = key_less (length places) ends (at_place x) (twin_of x) (ends_later x h) in
      absurd (omega (arith, m, l, k))
  stems_nest a_to_b c h i l k = absurd h
  stems_nest b_to_a c h i l k = absurd h
