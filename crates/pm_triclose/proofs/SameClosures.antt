-- A balanced stem tree has one closure, but for the numbers of its darts.
use Rattle.std.proofs.Common.{◌≡◌, ℕ, ◌<◌, List, ap, ◌∙◌, sym, subst}
use Rattle.pm_perm.specs.Permutation.{IsPermutationBelow}
use Rattle.pm_map.specs.Structure.{CarriesTo, Structure}
use Rattle.pm_tri.specs.StemTree.{contour}
use Rattle.pm_tri.specs.Whole.{whole}
use Rattle.pm_triclose.specs.Closure.{AreNumbers, AreTwins, Dart, at_place}
use Rattle.pm_triclose.specs.ClosureLaws.{ClosuresAreSame}
use Rattle.pm_triclose.specs.WholeClosure.{FollowsWhole, IsWholeDart}
use Rattle.pm_triclose.proofs.AheadOrder.{IsStemRing}
use Rattle.pm_triclose.proofs.DartKeys.{bracket, bracket_back, bracket_named, next_follows, next_found, next_named, pair_twins, stem_named, stem_pair}
use Rattle.pm_triclose.proofs.TreeClosures.{whole_sized}
use Rattle.pm_triclose.proofs.TreeRing.{tree_ring}
use Rattle.pm_triclose.proofs.WholeClosures.{in_whole_closure}
use Rattle.pm_triclose.proofs.WholePlane.{name, name_back, named, number_back}

module _ (places : List ℕ) (across ends : ℕ → ℕ) (w : IsStemRing places across ends) where
  -- a named dart and what holds of it
  pub record IsFound (P : Dart → Type 0) : Type 0 where
    pub dart : Dart
    pub is_named : IsWholeDart places dart
    pub holds : P dart

  pub follows_found : (x : Dart) → IsWholeDart places x → IsFound (FollowsWhole places x)
  follows_found x h =
      let y = next_found places across ends w (bracket across x) in
      let i = bracket_named places across ends w x h in
      record {
        dart = y.0;
        is_named = next_named places across ends w (bracket across x) y.0 y.1;
        holds = subst (λ (z : Dart). FollowsWhole places z y.0) (bracket_back places across ends w x h) (next_follows places across ends w (bracket across x) y.0 i y.1);
      }

  pub twin_found : (x : Dart) → IsWholeDart places x → IsFound (AreTwins places x)
  twin_found x h = record {
    dart = bracket across (stem_pair places x);
    is_named = bracket_named places across ends w (stem_pair places x) (stem_named places across ends w x h);
    holds = pair_twins places across ends w x h;
  }

  module _ (s t : Structure) (one other : Dart → ℕ) (n : AreNumbers (IsWholeDart places) (FollowsWhole places) (AreTwins places) s one)
      (m : AreNumbers (IsWholeDart places) (FollowsWhole places) (AreTwins places) t other) (same : s.darts ≡ t.darts) where
    -- the dart of the second structure with the same name
    renamed : ℕ → ℕ
    renamed d = other (name places across ends w s one n d)

    renamed_is : (x : Dart) → IsWholeDart places x → renamed (one x) ≡ other x
    unfolding renamed
    renamed_is x h = ap other (name_back places across ends w s one n x h)

    renumbers : IsPermutationBelow s.darts renamed
    unfolding renamed
    renumbers = record {
      stays = λ k l. subst (λ (d : ℕ). other (name places across ends w s one n k) < d) (sym same) (m.within (name places across ends w s one n k) (named places across ends w s one n k l));
      injective = λ j k i l e.
          let f = m.different (name places across ends w s one n j) (name places across ends w s one n k) (named places across ends w s one n j i) (named places across ends w s one n k l) e in
          sym (number_back places across ends w s one n j i) ∙ ap one f ∙ number_back places across ends w s one n k l;
    }

    next_carried : (d : ℕ) → d < s.darts → renamed (s.next d) ≡ t.next (renamed d)
    unfolding renamed
    next_carried d l =
        let x = name places across ends w s one n d in
        let h = named places across ends w s one n d l in
        let y = follows_found x h in
        ap renamed (ap s.next (sym (number_back places across ends w s one n d l)) ∙ n.next x y.dart h y.holds)
        ∙ renamed_is y.dart y.is_named ∙ sym (m.next x y.dart h y.holds)

    twin_carried : (d : ℕ) → d < s.darts → renamed (s.twin d) ≡ t.twin (renamed d)
    unfolding renamed
    twin_carried d l =
        let x = name places across ends w s one n d in
        let h = named places across ends w s one n d l in
        let y = twin_found x h in
        ap renamed (ap s.twin (sym (number_back places across ends w s one n d l)) ∙ n.twin x y.dart h y.holds)
        ∙ renamed_is y.dart y.is_named ∙ sym (m.twin x y.dart h y.holds)

    carried : CarriesTo renamed s t
    carried = record {
      darts = same;
      renumbers = renumbers;
      next = next_carried;
      twin = twin_carried;
      root = λ l. ap renamed n.root ∙ renamed_is (at_place 0) w.some ∙ sym m.root;
    }

pub closures_same : ClosuresAreSame
closures_same word s t tree b c e =
    let p = in_whole_closure word tree b s c in
    let q = in_whole_closure word tree b t e in
    let r = tree_ring word tree b in
    let a = whole_sized word s tree b p in
    let d = whole_sized word t tree b q in
    (renamed (contour (whole word)) r.across r.ends r.ring s t p.0 q.0 p.1 q.1 (a.darts_are ∙ sym d.darts_are), carried (contour (whole word)) r.across r.ends r.ring s t p.0 q.0 p.1 q.1 (a.darts_are ∙ sym d.darts_are))
