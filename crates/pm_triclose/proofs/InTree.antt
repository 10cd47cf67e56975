-- What follows a dart of the whole tree follows it in the tree, and so do twins.
use Rattle.std.proofs.Common.{◌≡◌, ℕ, suc, ◌+◌, ◌%◌, ◌<◌, ◌≤◌, List, length, slice_index, refl, ap, ◌∙◌, sym, subst, arith}
use Rattle.std.proofs.Math.Nat.{add-mod_right}
use Rattle.pm_brackets.proofs.Levels.{inside}
use Rattle.pm_brackets.proofs.RingPlaces.{mod_stays}
use Rattle.pm_tri.specs.declared.letters.TheConstants.{STEM}
use Rattle.pm_tri.specs.Runs.{IsClosing, IsInRun}
use Rattle.pm_tri.specs.Whole.{IsAhead}
use Rattle.pm_triclose.specs.Closure.{AreTwins, Dart, Follows, FollowsPlace, FollowsTwin, IsBehind, IsTwinOfPlace, a_to_b, at_a, at_b, at_place, at_side, b_to_a, from_bracket, from_stem, next_twin, no_more, of_bracket, of_stem, twin_of}
use Rattle.pm_triclose.specs.WholeClosure.{FollowsWhole, IsWholeDart}
use Rattle.pm_triclose.proofs.AheadStems.{IsAheadIn, ahead_a, ahead_b, ahead_in, ahead_old, closing_of, none_ahead, old_stem, run_of_a, run_of_b, stem_old}
use Rattle.pm_triclose.proofs.Numbers.{behind_moves}
use Rattle.pm_triclose.proofs.TreeDarts.{in_tree, old_place, place_a, place_b, place_last}
use Rattle.pm_triclose.proofs.WholeBrackets.{IsPairIn, at_first, at_fourth, at_second, at_third, new_pair, old_pair, pair_in}
use Rattle.pm_triclose.proofs.WholeOf.{IsWholeOf}

module _ (places all : List ℕ) (last start : ℕ) (w : IsWholeOf places all last start) where
  -- the place behind one of the whole tree
  pub next_in : (q : ℕ) → suc q < last + 4 → suc q % length all ≡ suc q
  next_in q l = let wide = w.wide in mod_stays (suc q) (length all) (omega (arith, wide, l))

  pub first_again : (q : ℕ) → q ≡ last + 3 → suc q % length all ≡ 0
  first_again q e =
      let wide = w.wide in
      let f : suc q ≡ 0 + length all = omega (arith, wide, e) in
      ap (λ (k : ℕ). k % length all) f ∙ add-mod_right 0 (length all) ∙ mod_stays 0 (length all) (omega (arith, wide))

  pub place_next : (q : ℕ) → suc q ≤ last → suc q % length places ≡ suc q
  place_next q l = let long = w.long in mod_stays (suc q) (length places) (omega (arith, long, l))

  pub root_next : suc last % length places ≡ 0
  root_next =
      let long = w.long in
      let f : suc last ≡ 0 + length places = omega (arith, long) in
      ap (λ (k : ℕ). k % length places) f ∙ add-mod_right 0 (length places) ∙ mod_stays 0 (length places) (omega (arith, long))

  -- the place behind an old side, in the tree
  old_next : (q : ℕ) → suc q ≤ last → in_tree last (at_place (suc q % length all)) ≡ at_place (suc q % length places)
  old_next q l = ap (λ (k : ℕ). in_tree last (at_place k)) (next_in q (omega (arith, l))) ∙ old_place last (suc q) l ∙ ap at_place (sym (place_next q l))

  -- the stems that close at an old side, so far
  old_behind : (q bound limit : ℕ) (dart : Dart) → q < last → ((x : ℕ) → slice_index all x ≡ STEM → x < bound → x < limit) → ((x : ℕ) → slice_index all x ≡ STEM → x < limit → x < bound)
      → IsBehind (λ (x : ℕ). IsAhead all x q) (at_place (suc q % length all)) bound dart → IsBehind (λ (x : ℕ). IsClosing places x q) (at_place (suc q % length places)) limit (in_tree last dart)
  old_behind q bound limit dart l to from =
      behind_moves (λ (x : ℕ). IsAhead all x q) (λ (x : ℕ). IsClosing places x q) (at_place (suc q % length all)) (at_place (suc q % length places)) bound limit (in_tree last) dart
      (old_next q l) (λ x m a. (to x a.stem m, closing_of places all last start w x q l a, refl)) (λ x m c. let a = w.closes_old x q c in (from x a.stem m, a))

  a_behind : (q bound limit : ℕ) (dart : Dart) → q ≡ suc last → ((x : ℕ) → slice_index all x ≡ STEM → x < bound → x < limit) → ((x : ℕ) → slice_index all x ≡ STEM → x < limit → x < bound)
      → IsBehind (λ (x : ℕ). IsAhead all x q) (at_place (suc q % length all)) bound dart → IsBehind (IsInRun places 0) a_to_b limit (in_tree last dart)
  a_behind q bound limit dart e to from =
      behind_moves (λ (x : ℕ). IsAhead all x q) (IsInRun places 0) (at_place (suc q % length all)) a_to_b bound limit (in_tree last) dart
      (ap (λ (k : ℕ). in_tree last (at_place k)) (next_in q (omega (arith, e))) ∙ place_a last (suc q) (omega (arith, e)))
      (λ x m a. (to x a.stem m, run_of_a places all last start w x (subst (IsAhead all x) e a), refl))
      (λ x m i. let a = w.closes_a x i in (from x a.stem m, subst (IsAhead all x) (sym e) a))

  -- the last stem stands behind these
  b_behind : (q bound limit : ℕ) (dart : Dart) → q ≡ last → limit ≤ last → ((x : ℕ) → slice_index all x ≡ STEM → x < bound → x < limit) → ((x : ℕ) → x < limit → x < bound)
      → IsBehind (λ (x : ℕ). IsAhead all x q) (at_place (suc q % length all)) bound dart → IsBehind (IsInRun places start) b_to_a limit (in_tree last dart)
  b_behind q bound limit dart e few to from =
      behind_moves (λ (x : ℕ). IsAhead all x q) (IsInRun places start) (at_place (suc q % length all)) b_to_a bound limit (in_tree last) dart
      (ap (λ (k : ℕ). in_tree last (at_place k)) (next_in q (omega (arith, e))) ∙ place_b last (suc q) (omega (arith, e)))
      (λ x m a. (to x a.stem m, run_of_b places all last start w x (subst (IsAhead all x) e a), refl))
      (λ x m i. (from x m, subst (IsAhead all x) (sym e) (w.closes_b x i (omega (arith, m, few)))))

  -- at the two last places no stem closes
  none_behind : (q bound : ℕ) (other dart : Dart) → suc last < q → IsBehind (λ (x : ℕ). IsAhead all x q) other bound dart → dart ≡ other
  none_behind q bound other dart l (next_twin x m a none e) = absurd (none_ahead places all last start w x q l a)
  none_behind q bound other dart l (no_more none e) = e

  stem_in : (x : ℕ) → slice_index all x ≡ STEM → x < length places
  stem_in x e = let long = w.long in let l = stem_old places all last start w x e in omega (arith, long, l)

  stem_wide : (x : ℕ) → slice_index all x ≡ STEM → x < length all
  stem_wide x e = inside all x STEM (omega arith) e

  brackets_follow : (p q : ℕ) (dart : Dart) → IsPairIn places last p q → IsBehind (λ (x : ℕ). IsAhead all x q) (at_place (suc q % length all)) (length all) dart
      → Follows places (in_tree last (at_place p)) (in_tree last dart)
  brackets_follow p q dart (old_pair l m a) h =
      subst (λ (x : Dart). Follows places x (in_tree last dart)) (sym (old_place last p (omega (arith, l))))
      (from_bracket q a (old_behind q (length all) (length places) dart m (λ x s n. stem_in x s) (λ x s n. stem_wide x s) h))
  brackets_follow p q dart (new_pair (at_first e) s) h =
      let is : q ≡ last + 3 = omega (arith, e, s) in
      let root : in_tree last dart ≡ at_place 0 = ap (in_tree last) (none_behind q (length all) (at_place (suc q % length all)) dart (omega (arith, is)) h ∙ ap at_place (first_again q is)) ∙ old_place last 0 (omega arith) in
      subst (λ (x : Dart). Follows places x (in_tree last dart)) (sym (old_place last p (omega (arith, e))))
      (from_stem (ap (slice_index places) e ∙ w.end) (root ∙ ap at_place (sym root_next) ∙ ap (λ (k : ℕ). at_place (suc k % length places)) (sym e)))
  brackets_follow p q dart (new_pair (at_second e) s) h =
      let is : q ≡ last + 2 = omega (arith, e, s) in
      let twin : in_tree last dart ≡ twin_of last = ap (in_tree last) (none_behind q (length all) (at_place (suc q % length all)) dart (omega (arith, is)) h ∙ ap at_place (next_in q (omega (arith, is)))) ∙ place_last last (suc q) (omega (arith, is)) in
      let long = w.long in
      subst (λ (x : Dart). Follows places x (in_tree last dart)) (sym (place_b last p e)) (record {
        start = start;
        is_other = w.is_other;
        starts = w.starts;
        behind = next_twin last (omega (arith, long)) w.last_in (λ x l m i. omega (arith, long, l, m)) twin;
      })
  brackets_follow p q dart (new_pair (at_third e) s) h =
      subst (λ (x : Dart). Follows places x (in_tree last dart)) (sym (place_a last p e))
      (a_behind q (length all) (length places) dart (omega (arith, e, s)) (λ x i n. stem_in x i) (λ x i n. stem_wide x i) h)
  brackets_follow p q dart (new_pair (at_fourth e) s) h =
      let wide = w.wide in
      subst (λ (x : Dart). Follows places x (in_tree last dart)) (sym (place_last last p e))
      (at_b start w.is_other w.last_in (b_behind q (length all) last dart (omega (arith, e, s)) (omega arith) (λ x i n. stem_old places all last start w x i) (λ x n. omega (arith, wide, n)) h))

  twins_follow : (x q : ℕ) (dart : Dart) → slice_index all x ≡ STEM → IsAheadIn places last start x q → IsBehind (λ (y : ℕ). IsAhead all y q) (at_place (suc q % length all)) x dart
      → FollowsTwin places x (in_tree last dart)
  twins_follow x q dart e (ahead_old l c) h = at_side q c (old_behind q x x dart l (λ y s n. n) (λ y s n. n) h)
  twins_follow x q dart e (ahead_a f i) h = at_a i (a_behind q x x dart f (λ y s n. n) (λ y s n. n) h)
  twins_follow x q dart e (ahead_b f i) h =
      let l = stem_old places all last start w x e in
      at_b start w.is_other i (b_behind q x x dart f (omega (arith, l)) (λ y s n. n) (λ y n. n) h)

  places_follow : (p : ℕ) (dart : Dart) → FollowsPlace all (IsAhead all) p dart → Follows places (in_tree last (at_place p)) (in_tree last dart)
  places_follow p dart (from_stem e f) =
      let l = stem_old places all last start w p e in
      subst (λ (x : Dart). Follows places x (in_tree last dart)) (sym (old_place last p (omega (arith, l)))) (from_stem (old_stem places all last start w p e) (ap (in_tree last) f ∙ old_next p (omega (arith, l))))
  places_follow p dart (from_bracket q a h) = brackets_follow p q dart (pair_in places all last start w p q a) h

  pub follows_in_tree : (x y : Dart) → IsWholeDart all x → FollowsWhole all x y → Follows places (in_tree last x) (in_tree last y)
  follows_in_tree (at_place p) y h f = places_follow p y f
  follows_in_tree (twin_of x) y h f = twins_follow x f.side y h (ahead_in places all last start w x f.side f.closes) f.behind
  follows_in_tree a_to_b y h f = absurd h
  follows_in_tree b_to_a y h f = absurd h

  -- a place and its twin
  pair_twins : (p q : ℕ) (dart : Dart) → IsPairIn places last p q → dart ≡ at_place q → AreTwins places (in_tree last (at_place p)) (in_tree last dart)
  pair_twins p q dart (old_pair l m a) e =
      subst (λ (x : Dart). AreTwins places x (in_tree last dart)) (sym (old_place last p (omega (arith, l)))) (of_bracket q a (ap (in_tree last) e ∙ old_place last q (omega (arith, m))))
  pair_twins p q dart (new_pair (at_first f) s) e =
      subst (λ (x : Dart). AreTwins places x (in_tree last dart)) (sym (old_place last p (omega (arith, f))))
      (of_stem (ap (slice_index places) f ∙ w.end) (ap (in_tree last) e ∙ place_last last q (omega (arith, f, s)) ∙ ap twin_of (sym f)))
  pair_twins p q dart (new_pair (at_second f) s) e = subst (λ (x : Dart). AreTwins places x (in_tree last dart)) (sym (place_b last p f)) (ap (in_tree last) e ∙ place_a last q (omega (arith, f, s)))
  pair_twins p q dart (new_pair (at_third f) s) e = subst (λ (x : Dart). AreTwins places x (in_tree last dart)) (sym (place_a last p f)) (ap (in_tree last) e ∙ place_b last q (omega (arith, f, s)))
  pair_twins p q dart (new_pair (at_fourth f) s) e =
      let is : q ≡ last = omega (arith, f, s) in
      subst (λ (x : Dart). AreTwins places x (in_tree last dart)) (sym (place_last last p f)) (ap (in_tree last) e ∙ old_place last q (omega (arith, is)) ∙ ap at_place is)

  place_twins : (p : ℕ) (dart : Dart) → IsTwinOfPlace all p dart → AreTwins places (in_tree last (at_place p)) (in_tree last dart)
  place_twins p dart (of_stem e f) =
      let l = stem_old places all last start w p e in
      subst (λ (x : Dart). AreTwins places x (in_tree last dart)) (sym (old_place last p (omega (arith, l)))) (of_stem (old_stem places all last start w p e) (ap (in_tree last) f))
  place_twins p dart (of_bracket q a e) = pair_twins p q dart (pair_in places all last start w p q a) e

  pub twins_in_tree : (x y : Dart) → IsWholeDart all x → AreTwins all x y → AreTwins places (in_tree last x) (in_tree last y)
  twins_in_tree (at_place p) y h f = place_twins p y f
  twins_in_tree (twin_of x) y h f = let l = stem_old places all last start w x h in ap (in_tree last) f ∙ old_place last x (omega (arith, l))
  twins_in_tree a_to_b y h f = absurd h
  twins_in_tree b_to_a y h f = absurd h
