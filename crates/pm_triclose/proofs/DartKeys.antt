-- The darts of the closure in one order: those of the places in theirs, and behind a side the twins of the stems that close there,
-- that of the nearest stem first.
use Rattle.std.proofs.Common.{◌≡◌, ◌≢◌, ◌⊎◌, ℕ, zero, suc, ◌+◌, ◌-◌, ◌*◌, ◌%◌, ◌<◌, ◌≤◌, cond, eqb, inl, inr, Bool, List, length, slice_index, refl, ap, ◌∙◌, sym, subst, arith, eq-eqb, ne_eqb}
use Rattle.std.proofs.Math.Nat.{add-mod_right, mul-le-mul_right}
use Rattle.std.proofs.lemmas.Bool.{cases_eq, cases_lt, cases_order}
use Rattle.pm_brackets.specs.Ring.{AreBrackets}
use Rattle.pm_brackets.specs.declared.letters.TheConstants.{OPEN, CLOSE}
use Rattle.pm_brackets.proofs.Levels.{inside}
use Rattle.pm_brackets.proofs.RingPlaces.{flipped, mod_stays, mod_under, one_other}
use Rattle.pm_tri.specs.declared.letters.TheConstants.{STEM}
use Rattle.pm_tri.specs.Whole.{IsAhead}
use Rattle.pm_triclose.specs.Closure.{AreTwins, Dart, IsBehind, a_to_b, at_place, b_to_a, from_bracket, from_stem, next_twin, no_more, of_bracket, of_stem, twin_of}
use Rattle.pm_triclose.specs.WholeClosure.{FollowsWhole, IsWholeDart}
use Rattle.pm_triclose.proofs.AheadOrder.{IsStemRing, no_stem_ahead}
use Rattle.pm_triclose.proofs.AheadStems.{one_ahead}
use Rattle.pm_triclose.proofs.WholeBrackets.{bracket_inside}

-- the place of a dart, and of a twin the side at which its stem closes
abbrev pub line : (ℕ → ℕ) → Dart → ℕ
line ends (at_place p) = p
line ends (twin_of x) = ends x
line ends a_to_b = 0
line ends b_to_a = 0

-- the order of those with one place
abbrev pub rank : ℕ → Dart → ℕ
rank n (at_place p) = 0
rank n (twin_of x) = n - x
rank n a_to_b = 0
rank n b_to_a = 0

pub key : ℕ → (ℕ → ℕ) → Dart → ℕ
key n ends x = line ends x * suc n + rank n x

key_is : (n : ℕ) (ends : ℕ → ℕ) (x : Dart) → key n ends x ≡ line ends x * suc n + rank n x
unfolding key
key_is n ends x = refl

rank_most : (n : ℕ) (x : Dart) → rank n x ≤ n
rank_most n (at_place p) = omega arith
rank_most n (twin_of x) = omega arith
rank_most n a_to_b = omega arith
rank_most n b_to_a = omega arith

pub key_less : (n : ℕ) (ends : ℕ → ℕ) (x y : Dart) → line ends x < line ends y → key n ends x < key n ends y
key_less n ends x y l =
    let m : suc (line ends x) * suc n ≤ line ends y * suc n = mul-le-mul_right (suc n) l in
    let e : suc (line ends x) * suc n ≡ suc n + line ends x * suc n = grind arith in
    omega (arith, m, e, rank_most n x, key_is n ends x, key_is n ends y)

pub key_within : (n : ℕ) (ends : ℕ → ℕ) (x y : Dart) → line ends x ≡ line ends y → rank n x < rank n y → key n ends x < key n ends y
key_within n ends x y e l = let f = ap (λ (k : ℕ). k * suc n) e in omega (arith, f, l, key_is n ends x, key_is n ends y)

pub key_most : (n : ℕ) (ends : ℕ → ℕ) (x y : Dart) → line ends x ≡ line ends y → rank n x ≤ rank n y → key n ends x ≤ key n ends y
key_most n ends x y e l = let f = ap (λ (k : ℕ). k * suc n) e in omega (arith, f, l, key_is n ends x, key_is n ends y)

-- that of the first place is the least
pub first_key : (n : ℕ) (ends : ℕ → ℕ) → key n ends (at_place 0) ≡ 0
first_key n ends = omega (arith, key_is n ends (at_place 0))

-- how the keys of two darts come to differ
pub data IsLess (n : ℕ) (ends : ℕ → ℕ) (x y : Dart) : Type 0 where
  by_line : line ends x < line ends y → IsLess n ends x y
  by_rank : line ends x ≡ line ends y → rank n x < rank n y → IsLess n ends x y

pub key_tells : (n : ℕ) (ends : ℕ → ℕ) (x y : Dart) → key n ends x < key n ends y → IsLess n ends x y
key_tells n ends x y l = elim (cases_order (line ends x) (line ends y)) [
  | inl e ↦ elim (cases_lt (rank n x) (rank n y)) [
    | inl less ↦ by_rank e less
    | inr more ↦ let m = key_most n ends y x (sym e) more in absurd (omega (arith, l, m))
  ]
  | inr apart ↦ elim apart [
    | inl less ↦ by_line less
    | inr more ↦ let m = key_less n ends y x more in absurd (omega (arith, l, m))
  ]
]

-- the other bracket; of any other dart itself
abbrev pub bracket : (ℕ → ℕ) → Dart → Dart
bracket across (at_place p) = at_place (across p)
bracket across (twin_of x) = twin_of x
bracket across a_to_b = a_to_b
bracket across b_to_a = b_to_a

-- a stem's dart and its twin; of any other dart itself
abbrev pub stem_pair : List ℕ → Dart → Dart
stem_pair places (at_place p) = cond {A = Dart} (eqb (slice_index places p) STEM) (twin_of p) (at_place p)
stem_pair places (twin_of x) = at_place x
stem_pair places a_to_b = a_to_b
stem_pair places b_to_a = b_to_a

pub at_stem : (places : List ℕ) (p : ℕ) → slice_index places p ≡ STEM → stem_pair places (at_place p) ≡ twin_of p
at_stem places p e = ap (λ (b : Bool). cond {A = Dart} b (twin_of p) (at_place p)) (eq-eqb (slice_index places p) STEM e)

pub at_bracket : (places : List ℕ) (p : ℕ) → slice_index places p ≢ STEM → stem_pair places (at_place p) ≡ at_place p
at_bracket places p ne = ap (λ (b : Bool). cond {A = Dart} b (twin_of p) (at_place p)) (ne_eqb (slice_index places p) STEM ne)

module _ (places : List ℕ) (across ends : ℕ → ℕ) (w : IsStemRing places across ends) where
  -- what comes next in the order
  abbrev pub IsNext : Dart → Dart → Type 0
  IsNext x y = IsBehind (λ (z : ℕ). IsAhead places z (line ends x)) (at_place (suc (line ends x) % length places)) (length places - rank (length places) x) y

  -- a place has a stem or a bracket
  pub is_bracket : (p : ℕ) → p < length places → slice_index places p ≢ STEM → (slice_index places p ≡ OPEN) ⊎ (slice_index places p ≡ CLOSE)
  is_bracket p l ne = elim (w.letters p l) [ inl side ↦ side | inr stem ↦ absurd (ne stem) ]

  pub stem_within : (x : ℕ) → slice_index places x ≡ STEM → x < length places
  stem_within x e = inside places x STEM (omega arith) e

  pub line_within : (x : Dart) → IsWholeDart places x → line ends x < length places
  line_within (at_place p) h = h
  line_within (twin_of x) h = (w.closes x h).within
  line_within a_to_b h = absurd h
  line_within b_to_a h = absurd h

  -- brackets, two and two
  pub bracket_named : (x : Dart) → IsWholeDart places x → IsWholeDart places (bracket across x)
  bracket_named (at_place p) h = elim (cases_eq (slice_index places p) STEM) [
    | inl e ↦ subst (λ (k : ℕ). k < length places) (sym (w.alone p e)) h
    | inr ne ↦ bracket_inside places (across p) p (flipped places p (across p) (w.brackets p (is_bracket p h ne)))
  ]
  bracket_named (twin_of x) h = h
  bracket_named a_to_b h = absurd h
  bracket_named b_to_a h = absurd h

  across_letter : (p q : ℕ) → AreBrackets places p q → (slice_index places q ≡ OPEN) ⊎ (slice_index places q ≡ CLOSE)
  across_letter p q (inl a) = inr a.closes
  across_letter p q (inr a) = inl a.opens

  pub bracket_back : (x : Dart) → IsWholeDart places x → bracket across (bracket across x) ≡ x
  bracket_back (at_place p) h = elim (cases_eq (slice_index places p) STEM) [
    | inl e ↦ ap at_place (ap across (w.alone p e) ∙ w.alone p e)
    | inr ne ↦
        let a = w.brackets p (is_bracket p h ne) in
        let b = w.brackets (across p) (across_letter p (across p) a) in
        ap at_place (sym (one_other places (across p) p (across (across p)) (flipped places p (across p) a) b))
  ]
  bracket_back (twin_of x) h = refl
  bracket_back a_to_b h = absurd h
  bracket_back b_to_a h = absurd h

  pub stem_named : (x : Dart) → IsWholeDart places x → IsWholeDart places (stem_pair places x)
  stem_named (at_place p) h = elim (cases_eq (slice_index places p) STEM) [
    | inl e ↦ subst (IsWholeDart places) (sym (at_stem places p e)) e
    | inr ne ↦ subst (IsWholeDart places) (sym (at_bracket places p ne)) h
  ]
  stem_named (twin_of x) h = stem_within x h
  stem_named a_to_b h = absurd h
  stem_named b_to_a h = absurd h

  pub stem_back : (x : Dart) → IsWholeDart places x → stem_pair places (stem_pair places x) ≡ x
  stem_back (at_place p) h = elim (cases_eq (slice_index places p) STEM) [
    | inl e ↦ ap (stem_pair places) (at_stem places p e)
    | inr ne ↦ ap (stem_pair places) (at_bracket places p ne) ∙ at_bracket places p ne
  ]
  stem_back (twin_of x) h = at_stem places x h
  stem_back a_to_b h = absurd h
  stem_back b_to_a h = absurd h

  -- the two are the twins of the closure
  pub pair_twins : (x : Dart) → IsWholeDart places x → AreTwins places x (bracket across (stem_pair places x))
  pair_twins (at_place p) h = elim (cases_eq (slice_index places p) STEM) [
    | inl e ↦ of_stem e (ap (bracket across) (at_stem places p e))
    | inr ne ↦ of_bracket (across p) (w.brackets p (is_bracket p h ne)) (ap (bracket across) (at_bracket places p ne))
  ]
  pair_twins (twin_of x) h = ap at_place (w.alone x h)
  pair_twins a_to_b h = absurd h
  pair_twins b_to_a h = absurd h

  -- each dart is in one pair
  pub data IsPaired (x : Dart) : Type 0 where
    of_brackets : stem_pair places x ≡ x → bracket across x ≢ x → IsPaired x
    of_stems : bracket across x ≡ x → bracket across (stem_pair places x) ≡ stem_pair places x → stem_pair places x ≢ x → IsPaired x

  place_of_dart : Dart → ℕ
  place_of_dart (at_place p) = p
  place_of_dart (twin_of x) = 0
  place_of_dart a_to_b = 0
  place_of_dart b_to_a = 0

  is_place : Dart → ℕ
  is_place (at_place p) = 1
  is_place (twin_of x) = 0
  is_place a_to_b = 0
  is_place b_to_a = 0

  not_across : (p q : ℕ) → AreBrackets places p q → q ≡ p → ⊥
  not_across p q (inl a) e = let l = a.before in omega (arith, l, e)
  not_across p q (inr a) e = let l = a.before in omega (arith, l, e)

  pub paired : (x : Dart) → IsWholeDart places x → IsPaired x
  unfolding place_of_dart is_place
  paired (at_place p) h = elim (cases_eq (slice_index places p) STEM) [
    | inl e ↦
        let s = at_stem places p e in
        of_stems (ap at_place (w.alone p e)) (ap (bracket across) s ∙ sym s) (λ f. let c = ap is_place (sym s ∙ f) in absurd (omega (arith, c)))
    | inr ne ↦ of_brackets (at_bracket places p ne) (λ f. not_across p (across p) (w.brackets p (is_bracket p h ne)) (ap place_of_dart f))
  ]
  paired (twin_of x) h = of_stems refl (ap at_place (w.alone x h)) (λ f. let c = ap is_place f in omega (arith, c))
  paired a_to_b h = absurd h
  paired b_to_a h = absurd h

  -- no two darts have one key
  pub one_key : (x y : Dart) → IsWholeDart places x → IsWholeDart places y → key (length places) ends x ≡ key (length places) ends y → x ≡ y
  one_key x y h i e = elim (cases_order (line ends x) (line ends y)) [
    | inr apart ↦ elim apart [
      | inl less ↦ let l = key_less (length places) ends x y less in absurd (omega (arith, l, e))
      | inr more ↦ let l = key_less (length places) ends y x more in absurd (omega (arith, l, e))
    ]
    | inl same ↦ elim (cases_order (rank (length places) x) (rank (length places) y)) [
      | inr apart ↦ elim apart [
        | inl less ↦ let l = key_within (length places) ends x y same less in absurd (omega (arith, l, e))
        | inr more ↦ let l = key_within (length places) ends y x (sym same) more in absurd (omega (arith, l, e))
      ]
      | inl level ↦ alike x y h i same level
    ]
  ] where
    alike : (x y : Dart) → IsWholeDart places x → IsWholeDart places y → line ends x ≡ line ends y → rank (length places) x ≡ rank (length places) y → x ≡ y
    alike (at_place p) (at_place q) h i e f = ap at_place e
    alike (at_place p) (twin_of y) h i e f = let l = stem_within y i in absurd (omega (arith, l, f))
    alike (twin_of x) (at_place q) h i e f = let l = stem_within x h in absurd (omega (arith, l, f))
    alike (twin_of x) (twin_of y) h i e f = let l = stem_within x h in let m = stem_within y i in ap twin_of (omega (arith, l, m, f))
    alike a_to_b y h i e f = absurd h
    alike b_to_a y h i e f = absurd h
    alike x a_to_b h i e f = absurd i
    alike x b_to_a h i e f = absurd i

  -- what follows the other bracket is what comes next
  pub next_follows : (x y : Dart) → IsWholeDart places x → IsNext x y → FollowsWhole places (bracket across x) y
  next_follows (at_place p) y h f = elim (cases_eq (slice_index places p) STEM) [
    | inl e ↦ subst (λ (k : ℕ). FollowsWhole places (at_place k) y) (sym (w.alone p e)) (from_stem e (plain p y e f))
    | inr ne ↦ from_bracket p (flipped places p (across p) (w.brackets p (is_bracket p h ne))) (subst (λ (k : ℕ). IsBehind (λ (z : ℕ). IsAhead places z p) (at_place (suc p % length places)) k y) (omega arith) f)
  ] where
    plain : (p : ℕ) (y : Dart) → slice_index places p ≡ STEM → IsNext (at_place p) y → y ≡ at_place (suc p % length places)
    plain p y e (next_twin z m a none g) = absurd (no_stem_ahead places across ends w z p a e)
    plain p y e (no_more none g) = g
  next_follows (twin_of x) y h f =
      let l = stem_within x h in
      let e : length places - (length places - x) ≡ x = omega (arith, l) in
      record {
        side = ends x;
        closes = w.closes x h;
        behind = subst (λ (k : ℕ). IsBehind (λ (z : ℕ). IsAhead places z (ends x)) (at_place (suc (ends x) % length places)) k y) e f;
      }
  next_follows a_to_b y h f = absurd h
  next_follows b_to_a y h f = absurd h

  -- something does
  found_behind : (q bound : ℕ) (other : Dart) → (y : Dart) × IsBehind (λ (z : ℕ). IsAhead places z q) other bound y
  found_behind q zero other = (other, no_more (λ x l a. omega (arith, l)) refl)
  found_behind q (suc bound) other = elim (cases_eq (slice_index places bound) STEM) [
    | inr ne ↦ skipped (λ a. ne a.stem) (found_behind q bound other)
    | inl e ↦ elim (cases_eq (ends bound) q) [
      | inl here ↦ (twin_of bound, next_twin bound (omega arith) (subst (IsAhead places bound) here (w.closes bound e)) (λ x l m a. omega (arith, l, m)) refl)
      | inr apart ↦ skipped (λ a. apart (one_ahead places bound (ends bound) q (w.closes bound e) a)) (found_behind q bound other)
    ]
  ] where
    further : (IsAhead places bound q → ⊥) → (y : Dart) → IsBehind (λ (z : ℕ). IsAhead places z q) other bound y → IsBehind (λ (z : ℕ). IsAhead places z q) other (suc bound) y
    further not_here y (next_twin x l a none e) = next_twin x (omega (arith, l)) a (λ z m k b. elim (cases_eq z bound) [ inl g ↦ not_here (subst (λ (i : ℕ). IsAhead places i q) g b) | inr ne ↦ none z m (omega (arith, k, ne)) b ]) e
    further not_here y (no_more none e) = no_more (λ z k b. elim (cases_eq z bound) [ inl g ↦ not_here (subst (λ (i : ℕ). IsAhead places i q) g b) | inr ne ↦ none z (omega (arith, k, ne)) b ]) e

    skipped : (IsAhead places bound q → ⊥) → (y : Dart) × IsBehind (λ (z : ℕ). IsAhead places z q) other bound y → (y : Dart) × IsBehind (λ (z : ℕ). IsAhead places z q) other (suc bound) y
    skipped not_here before = (before.0, further not_here before.0 before.1)

  pub next_found : (x : Dart) → (y : Dart) × IsNext x y
  next_found x = found_behind (line ends x) (length places - rank (length places) x) (at_place (suc (line ends x) % length places))

  pub next_named : (x y : Dart) → IsNext x y → IsWholeDart places y
  next_named x y (next_twin z l a none e) = subst (IsWholeDart places) (sym e) a.stem
  next_named x y (no_more none e) =
      let some = w.some in
      subst (IsWholeDart places) (sym e) (mod_under (suc (line ends x)) (length places) some)

  -- a later dart with the same place
  record IsLater (x c : Dart) : Type 0 where
    stem : ℕ
    is : c ≡ twin_of stem
    below : stem < length places - rank (length places) x
    closes : IsAhead places stem (line ends x)

  later : (x c : Dart) → IsWholeDart places c → line ends x ≡ line ends c → rank (length places) x < rank (length places) c → IsLater x c
  later x (at_place p) h e l = absurd (omega (arith, l))
  later x (twin_of z) h e l = record { stem = z; is = refl; below = omega (arith, l); closes = subst (IsAhead places z) (sym e) (w.closes z h) }
  later x a_to_b h e l = absurd h
  later x b_to_a h e l = absurd h

  -- the twin that is next comes behind
  twin_rises : (x : Dart) (z : ℕ) → z < length places - rank (length places) x → IsAhead places z (line ends x) → key (length places) ends x < key (length places) ends (twin_of z)
  twin_rises x z l a =
      let e = one_ahead places z (line ends x) (ends z) a (w.closes z a.stem) in
      key_within (length places) ends x (twin_of z) e (omega (arith, l))

  pub next_rises : (x c y : Dart) → IsWholeDart places x → IsWholeDart places c → IsNext x y → key (length places) ends x < key (length places) ends c
      → (key (length places) ends x < key (length places) ends y) × (key (length places) ends y ≤ key (length places) ends c)
  next_rises x c y h i (next_twin z l a none e) less =
      subst (λ (d : Dart). (key (length places) ends x < key (length places) ends d) × (key (length places) ends d ≤ key (length places) ends c)) (sym e)
      (twin_rises x z l a, most (key_tells (length places) ends x c less)) where
        same : line ends x ≡ ends z
        same = one_ahead places z (line ends x) (ends z) a (w.closes z a.stem)

        most : IsLess (length places) ends x c → key (length places) ends (twin_of z) ≤ key (length places) ends c
        most (by_line m) = let k = key_less (length places) ends (twin_of z) c (omega (arith, m, same)) in omega (arith, k)
        most (by_rank f m) = found (later x c i f m) where
          found : IsLater x c → key (length places) ends (twin_of z) ≤ key (length places) ends c
          found t =
              let r = t.stem in
              let other = one_ahead places r (line ends x) (ends r) t.closes (w.closes r t.closes.stem) in
              let no_further : r ≤ z = elim (cases_lt z r) [ inl past ↦ absurd (none r past t.below t.closes) | inr fine ↦ fine ] in
              subst (λ (d : Dart). key (length places) ends (twin_of z) ≤ key (length places) ends d) (sym t.is) (key_most (length places) ends (twin_of z) (twin_of r) (sym same ∙ other) (omega (arith, no_further)))
  next_rises x c y h i (no_more none e) less = found (key_tells (length places) ends x c less) where
    found : IsLess (length places) ends x c → (key (length places) ends x < key (length places) ends y) × (key (length places) ends y ≤ key (length places) ends c)
    found (by_rank f m) = let t = later x c i f m in absurd (none t.stem t.below t.closes)
    found (by_line m) =
        let within = line_within c i in
        let g : y ≡ at_place (suc (line ends x)) = e ∙ ap at_place (mod_stays (suc (line ends x)) (length places) (omega (arith, m, within))) in
        subst (λ (d : Dart). (key (length places) ends x < key (length places) ends d) × (key (length places) ends d ≤ key (length places) ends c)) (sym g) (
          key_less (length places) ends x (at_place (suc (line ends x))) (omega arith),
          elim (cases_eq (suc (line ends x)) (line ends c)) [
            | inl k ↦ key_most (length places) ends (at_place (suc (line ends x))) c k (omega arith)
            | inr ne ↦ let k = key_less (length places) ends (at_place (suc (line ends x))) c (omega (arith, ne, m)) in omega (arith, k)
          ],
        )

  pub next_returns : (x y : Dart) → IsWholeDart places x → IsNext x y → ((c : Dart) → IsWholeDart places c → key (length places) ends c ≤ key (length places) ends x)
      → (c : Dart) → key (length places) ends y ≤ key (length places) ends c
  next_returns x y h (next_twin z l a none e) greatest c = let k = greatest (twin_of z) a.stem in let m = twin_rises x z l a in absurd (omega (arith, k, m))
  next_returns x y h (no_more none e) greatest c =
      let within = line_within x h in
      elim (cases_eq (suc (line ends x)) (length places)) [
        | inr ne ↦
            let fits : suc (line ends x) < length places = omega (arith, ne, within) in
            let k = greatest (at_place (suc (line ends x))) fits in
            let m = key_less (length places) ends x (at_place (suc (line ends x))) (omega arith) in
            absurd (omega (arith, k, m))
        | inl last ↦
            let some = w.some in
            let f : suc (line ends x) ≡ 0 + length places = omega (arith, last) in
            let g : y ≡ at_place 0 = e ∙ ap at_place (ap (λ (k : ℕ). k % length places) f ∙ add-mod_right 0 (length places) ∙ mod_stays 0 (length places) some) in
            let i = ap (key (length places) ends) g in
            omega (arith, i, first_key (length places) ends)
      ]
