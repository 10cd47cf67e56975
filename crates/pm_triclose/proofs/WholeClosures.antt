-- The closures of a balanced stem tree are those of its whole tree.
use Rattle.std.proofs.Common.{◌≡◌, ℕ, ◌+◌, ◌<◌, inl, inr, List, length, refl, ap, ◌∙◌, sym, subst, arith}
use Rattle.std.proofs.lemmas.Bool.{cases_eq, cases_lt}
use Rattle.pm_tri.specs.Runs.{IsBalanced}
use Rattle.pm_tri.specs.StemTree.{IsStemTree, contour}
use Rattle.pm_tri.specs.Whole.{whole}
use Rattle.pm_tri.proofs.RunStarts.{two_runs}
use Rattle.pm_map.specs.Structure.{Structure}
use Rattle.pm_triclose.specs.Closure.{AreTwins, Dart, Follows, IsDart, IsStemClosure, a_to_b, at_place, b_to_a, twin_of}
use Rattle.pm_triclose.specs.ClosureLaws.{ClosuresAreWhole}
use Rattle.pm_triclose.specs.WholeClosure.{FollowsWhole, IsWholeClosure, IsWholeDart}
use Rattle.pm_triclose.proofs.AheadStems.{old_stem, stem_old}
use Rattle.pm_triclose.proofs.InTree.{follows_in_tree, twins_in_tree}
use Rattle.pm_triclose.proofs.InWhole.{follows_in_whole, twins_in_whole, whole_named}
use Rattle.pm_triclose.proofs.Numbers.{AreRenamed, renamed}
use Rattle.pm_triclose.proofs.TreeDarts.{in_tree, in_whole, last_twin, old_place, old_twin, place_a, place_b, place_last}
use Rattle.pm_triclose.proofs.WholeBrackets.{IsNew, at_first, at_fourth, at_second, at_third, is_new}
use Rattle.pm_triclose.proofs.WholeOf.{IsWholeOf, second_start, whole_of}

module _ (places all : List ℕ) (last start : ℕ) (w : IsWholeOf places all last start) where
  -- a dart of the whole tree, and its name in the tree
  record IsNamedIn (x : Dart) : Type 0 where
    named : IsDart places (in_tree last x)
    back : in_whole last (in_tree last x) ≡ x

  new_name : (p : ℕ) → IsNew last p → IsNamedIn (at_place p)
  new_name p (at_first e) =
      let long = w.long in
      let within : p < length places = omega (arith, e, long) in
      let old = old_place last p (omega (arith, e)) in
      record { named = subst (IsDart places) (sym old) within; back = ap (in_whole last) old }
  new_name p (at_second e) =
      let new = place_b last p e in
      record { named = subst (IsDart places) (sym new) tt; back = ap (in_whole last) new ∙ ap at_place (sym e) }
  new_name p (at_third e) =
      let new = place_a last p e in
      record { named = subst (IsDart places) (sym new) tt; back = ap (in_whole last) new ∙ ap at_place (sym e) }
  new_name p (at_fourth e) =
      let new = place_last last p e in
      record { named = subst (IsDart places) (sym new) w.end; back = ap (in_whole last) new ∙ last_twin last last refl ∙ ap at_place (sym e) }

  tree_name : (x : Dart) → IsWholeDart all x → IsNamedIn x
  tree_name (at_place p) h = elim (cases_lt p last) [
    | inl l ↦
        let long = w.long in
        let within : p < length places = omega (arith, l, long) in
        let old = old_place last p (omega (arith, l)) in
        record { named = subst (IsDart places) (sym old) within; back = ap (in_whole last) old }
    | inr new ↦ let wide = w.wide in new_name p (is_new last p new (omega (arith, wide, h)))
  ]
  tree_name (twin_of x) h =
      let l = stem_old places all last start w x h in
      record { named = old_stem places all last start w x h; back = old_twin last x (λ e. omega (arith, e, l)) }
  tree_name a_to_b h = absurd h
  tree_name b_to_a h = absurd h

  there : (x : Dart) → IsDart places x → in_tree last (in_whole last x) ≡ x
  there (at_place p) h = let long = w.long in old_place last p (omega (arith, long, h))
  there (twin_of x) h = elim (cases_eq x last) [
    | inl e ↦ ap (in_tree last) (last_twin last x e) ∙ place_last last (last + 3) refl ∙ ap twin_of (sym e)
    | inr ne ↦ ap (in_tree last) (old_twin last x ne)
  ]
  there a_to_b h = place_a last (last + 2) refl
  there b_to_a h = place_b last (last + 1) refl

  to_tree : AreRenamed (IsWholeDart all) (IsDart places) (FollowsWhole all) (AreTwins all) (Follows places) (AreTwins places) (in_whole last) (in_tree last)
  to_tree = record {
    named = whole_named places all last start w;
    others = λ x h. (tree_name x h).named;
    back = λ x h. (tree_name x h).back;
    there = there;
    root = refl;
    next = λ x y h f. follows_in_whole places all last start w x y f;
    twin = twins_in_whole places all last start w;
  }

  to_whole : AreRenamed (IsDart places) (IsWholeDart all) (Follows places) (AreTwins places) (FollowsWhole all) (AreTwins all) (in_tree last) (in_whole last)
  to_whole = record {
    named = λ x h. (tree_name x h).named;
    others = whole_named places all last start w;
    back = there;
    there = λ x h. (tree_name x h).back;
    root = old_place last 0 (omega arith);
    next = follows_in_tree places all last start w;
    twin = twins_in_tree places all last start w;
  }

module _ (word : List ℕ) (t : IsStemTree word) (b : IsBalanced (contour word)) where
  w : IsWholeOf (contour word) (contour (whole word)) (length word) (two_runs word t).later
  w = whole_of word t b (two_runs word t).later (second_start (contour word) b (two_runs word t))

  pub in_tree_closure : (s : Structure) → IsWholeClosure (contour (whole word)) s → IsStemClosure (contour word) s
  in_tree_closure s c = (
    λ (x : Dart). c.0 (in_whole (length word) x),
    renamed (IsWholeDart (contour (whole word))) (IsDart (contour word)) (FollowsWhole (contour (whole word))) (AreTwins (contour (whole word))) (Follows (contour word)) (AreTwins (contour word))
        (in_whole (length word)) (in_tree (length word)) s c.0 (to_tree (contour word) (contour (whole word)) (length word) (two_runs word t).later w) c.1,
  )

  pub in_whole_closure : (s : Structure) → IsStemClosure (contour word) s → IsWholeClosure (contour (whole word)) s
  in_whole_closure s c = (
    λ (x : Dart). c.0 (in_tree (length word) x),
    renamed (IsDart (contour word)) (IsWholeDart (contour (whole word))) (Follows (contour word)) (AreTwins (contour word)) (FollowsWhole (contour (whole word))) (AreTwins (contour (whole word)))
        (in_tree (length word)) (in_whole (length word)) s c.0 (to_whole (contour word) (contour (whole word)) (length word) (two_runs word t).later w) c.1,
  )

pub closures_whole : ClosuresAreWhole
closures_whole word s t b = (in_whole_closure word t b s, in_tree_closure word t b s)
