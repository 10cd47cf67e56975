-- What follows a dart of the tree follows it in the whole tree, and so do twins.
use Rattle.std.proofs.Common.{◌≡◌, ℕ, suc, ◌+◌, ◌%◌, ◌<◌, ◌≤◌, inl, inr, List, length, slice_index, refl, ap, ◌∙◌, sym, subst, arith}
use Rattle.std.proofs.lemmas.Bool.{cases_eq, cases_lt}
use Rattle.pm_brackets.specs.Ring.{AreBrackets}
use Rattle.pm_brackets.proofs.Levels.{inside}
use Rattle.pm_brackets.proofs.RingPlaces.{flipped}
use Rattle.pm_tri.specs.declared.letters.TheConstants.{STEM}
use Rattle.pm_tri.specs.Runs.{IsClosing, IsInRun}
use Rattle.pm_tri.specs.Whole.{IsAhead}
use Rattle.pm_triclose.specs.Closure.{AreTwins, Dart, Follows, FollowsB, FollowsPlace, FollowsTwin, IsBehind, IsDart, IsTwinOfPlace, a_to_b, at_a, at_b, at_place, at_side, b_to_a, from_bracket, from_stem, next_twin, no_more, of_bracket, of_stem, twin_of}
use Rattle.pm_triclose.specs.WholeClosure.{FollowsWhole, IsWholeDart}
use Rattle.pm_triclose.proofs.AheadStems.{closing_of, none_ahead, run_of_a, run_of_b, stem_new, stem_old}
use Rattle.pm_triclose.proofs.InTree.{next_in, first_again, place_next, root_next}
use Rattle.pm_triclose.proofs.Numbers.{behind_moves}
use Rattle.pm_triclose.proofs.TreeDarts.{in_whole, last_twin, old_twin}
use Rattle.pm_triclose.proofs.WholeBrackets.{bracket_old, inner, old_brackets, outer}
use Rattle.pm_triclose.proofs.WholeOf.{IsWholeOf}

module _ (places all : List ℕ) (last start : ℕ) (w : IsWholeOf places all last start) where
  -- at the two last places no stem closes
  alone : (q bound : ℕ) (dart : Dart) → suc last < q → dart ≡ at_place (suc q % length all) → IsBehind (λ (x : ℕ). IsAhead all x q) (at_place (suc q % length all)) bound dart
  alone q bound dart l e = no_more (λ x m a. none_ahead places all last start w x q l a) e

  -- the twin of a stem that isn't the last
  same_twin : (x : ℕ) → x < last → in_whole last (twin_of x) ≡ twin_of x
  same_twin x l = old_twin last x (λ e. omega (arith, l, e))

  -- the stems that close at an old side, so far
  side_behind : (q bound limit : ℕ) (dart : Dart) → q < last → ((x : ℕ) → x < last → x < bound → x < limit) → ((x : ℕ) → x < last → x < limit → x < bound)
      → IsBehind (λ (x : ℕ). IsClosing places x q) (at_place (suc q % length places)) bound dart → IsBehind (λ (x : ℕ). IsAhead all x q) (at_place (suc q % length all)) limit (in_whole last dart)
  side_behind q bound limit dart l to from =
      behind_moves (λ (x : ℕ). IsClosing places x q) (λ (x : ℕ). IsAhead all x q) (at_place (suc q % length places)) (at_place (suc q % length all)) bound limit (in_whole last) dart
      (ap at_place (place_next places all last start w q (omega (arith, l)) ∙ sym (next_in places all last start w q (omega (arith, l)))))
      (λ x m c. let a = w.closes_old x q c in let old = stem_old places all last start w x a.stem in (to x old m, a, same_twin x old))
      (λ x m a. (from x (stem_old places all last start w x a.stem) m, closing_of places all last start w x q l a))

  plants_behind : (bound limit : ℕ) (dart : Dart) → ((x : ℕ) → x < last → x < bound → x < limit) → ((x : ℕ) → x < last → x < limit → x < bound)
      → IsBehind (IsInRun places 0) a_to_b bound dart → IsBehind (λ (x : ℕ). IsAhead all x (suc last)) (at_place (suc (suc last) % length all)) limit (in_whole last dart)
  plants_behind bound limit dart to from =
      let e : last + 2 ≡ suc (suc last) = omega arith in
      behind_moves (IsInRun places 0) (λ (x : ℕ). IsAhead all x (suc last)) a_to_b (at_place (suc (suc last) % length all)) bound limit (in_whole last) dart
      (ap at_place (e ∙ sym (next_in places all last start w (suc last) (omega arith))))
      (λ x m i. let a = w.closes_a x i in let old = stem_old places all last start w x a.stem in (to x old m, a, same_twin x old))
      (λ x m a. (from x (stem_old places all last start w x a.stem) m, run_of_a places all last start w x a))

  -- before the last stem stand these
  others_behind : (bound limit : ℕ) (dart : Dart) → bound ≤ last → ((x : ℕ) → x < last → x < bound → x < limit) → ((x : ℕ) → x < last → x < limit → x < bound)
      → IsBehind (IsInRun places start) b_to_a bound dart → IsBehind (λ (x : ℕ). IsAhead all x last) (at_place (suc last % length all)) limit (in_whole last dart)
  others_behind bound limit dart few to from =
      let e : last + 1 ≡ suc last = omega arith in
      behind_moves (IsInRun places start) (λ (x : ℕ). IsAhead all x last) b_to_a (at_place (suc last % length all)) bound limit (in_whole last) dart
      (ap at_place (e ∙ sym (next_in places all last start w last (omega arith))))
      (λ x m i. let old : x < last = omega (arith, m, few) in (to x old m, w.closes_b x i old, same_twin x old))
      (λ x m a. (from x (stem_old places all last start w x a.stem) m, run_of_b places all last start w x a))

  -- a place below the tree's length is the last or before it
  within_all : (x : ℕ) → x < last → x < length all
  within_all x l = let wide = w.wide in omega (arith, wide, l)

  within_places : (x : ℕ) → x < last → x < length places
  within_places x l = let long = w.long in omega (arith, long, l)

  place_follows : (p : ℕ) (y : Dart) → FollowsPlace places (IsClosing places) p y → FollowsPlace all (IsAhead all) p (in_whole last y)
  place_follows p y (from_stem e f) = elim (cases_lt p last) [
    | inl l ↦ from_stem (stem_new places all last start w p l e)
        (ap (in_whole last) f ∙ ap at_place (place_next places all last start w p (omega (arith, l)) ∙ sym (next_in places all last start w p (omega (arith, l)))))
    | inr high ↦
        let within = inside places p STEM (omega arith) e in
        let long = w.long in
        let is : p ≡ last = omega (arith, high, within, long) in
        let root : in_whole last y ≡ at_place 0 = ap (in_whole last) f ∙ ap (λ (k : ℕ). at_place (suc k % length places)) is ∙ ap at_place (root_next places all last start w) in
        let far : last + 3 ≡ last + 3 = refl in
        subst (λ (k : ℕ). FollowsPlace all (IsAhead all) k (in_whole last y)) (sym is)
        (from_bracket (last + 3) (inl (outer places all last start w)) (alone (last + 3) (length all) (in_whole last y) (omega arith) (root ∙ ap at_place (sym (first_again places all last start w (last + 3) far)))))
  ]
  place_follows p y (from_bracket q a h) =
      let l = bracket_old places all last start w q p (flipped places p q a) in
      from_bracket q (old_brackets places all last start w p q a) (side_behind q (length places) (length all) y l (λ x m n. within_all x m) (λ x m n. within_places x m) h)

  twin_follows : (x : ℕ) (y : Dart) → FollowsTwin places x y → FollowsWhole all (in_whole last (twin_of x)) (in_whole last y)
  twin_follows x y (at_side q c h) =
      let a = w.closes_old x q c in
      let old = stem_old places all last start w x a.stem in
      subst (λ (d : Dart). FollowsWhole all d (in_whole last y)) (sym (same_twin x old))
      (record { side = q; closes = a; behind = side_behind q x x y (w.old_side x q c) (λ z m n. n) (λ z m n. n) h })
  twin_follows x y (at_a i h) =
      let a = w.closes_a x i in
      let old = stem_old places all last start w x a.stem in
      subst (λ (d : Dart). FollowsWhole all d (in_whole last y)) (sym (same_twin x old))
      (record { side = suc last; closes = a; behind = plants_behind x x y (λ z m n. n) (λ z m n. n) h })
  twin_follows x y (at_b r ne i h) =
      let is : r ≡ start = w.one_start r ne i.starts in
      let j = subst (λ (k : ℕ). IsInRun places k x) is i in
      let g = subst (λ (k : ℕ). IsBehind (IsInRun places k) b_to_a x y) is h in
      elim (cases_lt x last) [
        | inl old ↦ subst (λ (d : Dart). FollowsWhole all d (in_whole last y)) (sym (same_twin x old))
            (record { side = last; closes = w.closes_b x j old; behind = others_behind x x y (omega (arith, old)) (λ z m n. n) (λ z m n. n) g })
        | inr high ↦
            let within = inside places x STEM (omega arith) i.is_free.stem in
            let long = w.long in
            let wide = w.wide in
            let same : x ≡ last = omega (arith, high, within, long) in
            subst (λ (d : Dart). FollowsWhole all d (in_whole last y)) (sym (last_twin last x same))
            (from_bracket last (inr (outer places all last start w)) (others_behind x (length all) y (omega (arith, same)) (λ z m n. omega (arith, wide, m)) (λ z m n. omega (arith, same, m)) g))
      ]

  b_follows : (y : Dart) → FollowsB places y → FollowsWhole all (in_whole last b_to_a) (in_whole last y)
  b_follows y h = behind (subst (λ (k : ℕ). IsBehind (IsInRun places k) b_to_a (length places) y) (w.one_start h.start h.is_other h.starts) h.behind) where
    last_within : last < length places
    last_within = let long = w.long in omega (arith, long)

    behind : IsBehind (IsInRun places start) b_to_a (length places) y → FollowsWhole all (in_whole last b_to_a) (in_whole last y)
    behind (no_more none e) = absurd (none last last_within w.last_in)
    behind (next_twin x m i none e) = elim (cases_eq x last) [
      | inl is ↦
          let f : last + 3 ≡ suc (last + 2) = omega arith in
          from_bracket (last + 2) (inl (inner places all last start w)) (alone (last + 2) (length all) (in_whole last y) (omega arith)
          (ap (in_whole last) e ∙ last_twin last x is ∙ ap at_place (f ∙ sym (next_in places all last start w (last + 2) (omega arith)))))
      | inr ne ↦
          let long = w.long in
          absurd (none last (omega (arith, ne, m, long)) last_within w.last_in)
    ]

  a_follows : (y : Dart) → IsBehind (IsInRun places 0) a_to_b (length places) y → FollowsWhole all (in_whole last a_to_b) (in_whole last y)
  a_follows y h =
      let e : last + 1 ≡ suc last = omega arith in
      from_bracket (suc last) (subst (λ (k : ℕ). AreBrackets all (last + 2) k) e (inr (inner places all last start w)))
      (plants_behind (length places) (length all) y (λ x m n. within_all x m) (λ x m n. within_places x m) h)

  pub follows_in_whole : (x y : Dart) → Follows places x y → FollowsWhole all (in_whole last x) (in_whole last y)
  follows_in_whole (at_place p) y f = place_follows p y f
  follows_in_whole (twin_of x) y f = twin_follows x y f
  follows_in_whole a_to_b y f = a_follows y f
  follows_in_whole b_to_a y f = b_follows y f

  place_twins : (p : ℕ) (y : Dart) → IsTwinOfPlace places p y → IsTwinOfPlace all p (in_whole last y)
  place_twins p y (of_stem e f) = elim (cases_lt p last) [
    | inl l ↦ of_stem (stem_new places all last start w p l e) (ap (in_whole last) f ∙ same_twin p l)
    | inr high ↦
        let within = inside places p STEM (omega arith) e in
        let long = w.long in
        let is : p ≡ last = omega (arith, high, within, long) in
        subst (λ (k : ℕ). IsTwinOfPlace all k (in_whole last y)) (sym is) (of_bracket (last + 3) (inl (outer places all last start w)) (ap (in_whole last) f ∙ last_twin last p is))
  ]
  place_twins p y (of_bracket q a f) = of_bracket q (old_brackets places all last start w p q a) (ap (in_whole last) f)

  stem_twins : (x : ℕ) → slice_index places x ≡ STEM → AreTwins all (in_whole last (twin_of x)) (at_place x)
  stem_twins x e = elim (cases_lt x last) [
    | inl l ↦ subst (λ (d : Dart). AreTwins all d (at_place x)) (sym (same_twin x l)) refl
    | inr high ↦
        let within = inside places x STEM (omega arith) e in
        let long = w.long in
        let is : x ≡ last = omega (arith, high, within, long) in
        subst (λ (d : Dart). AreTwins all d (at_place x)) (sym (last_twin last x is)) (of_bracket last (inr (outer places all last start w)) (ap at_place is))
  ]

  pub twins_in_whole : (x y : Dart) → IsDart places x → AreTwins places x y → AreTwins all (in_whole last x) (in_whole last y)
  twins_in_whole (at_place p) y h f = place_twins p y f
  twins_in_whole (twin_of x) y h f = subst (λ (d : Dart). AreTwins all (in_whole last (twin_of x)) (in_whole last d)) (sym f) (stem_twins x h)
  twins_in_whole a_to_b y h f = of_bracket (last + 1) (inr (inner places all last start w)) (ap (in_whole last) f)
  twins_in_whole b_to_a y h f = of_bracket (last + 2) (inl (inner places all last start w)) (ap (in_whole last) f)

  -- the names of the one lead to those of the other
  pub whole_named : (x : Dart) → IsDart places x → IsWholeDart all (in_whole last x)
  whole_named (at_place p) h = let long = w.long in let wide = w.wide in omega (arith, long, wide, h)
  whole_named (twin_of x) h = elim (cases_lt x last) [
    | inl l ↦ subst (IsWholeDart all) (sym (same_twin x l)) (stem_new places all last start w x l h)
    | inr high ↦
        let within = inside places x STEM (omega arith) h in
        let long = w.long in
        let wide = w.wide in
        let fits : last + 3 < length all = omega (arith, wide) in
        subst (IsWholeDart all) (sym (last_twin last x (omega (arith, high, within, long)))) fits
  ]
  whole_named a_to_b h = let wide = w.wide in omega (arith, wide)
  whole_named b_to_a h = let wide = w.wide in omega (arith, wide)
