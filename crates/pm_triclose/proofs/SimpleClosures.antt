-- The closure of a balanced stem tree is simple, so it is a triangulation.
use Rattle.std.proofs.Common.{◌≡◌, ◌≢◌, ℕ, suc, ◌<◌, inl, inr, List, length, refl, ap, ◌∙◌, sym, subst, arith}
use Rattle.std.proofs.lemmas.Bool.{cases_lt}
use Rattle.pm_brackets.specs.Ring.{AreBrackets}
use Rattle.pm_brackets.proofs.RingPlaces.{mod_stays, one_other}
use Rattle.pm_perm.specs.Cycles.{IsInCycle}
use Rattle.pm_map.specs.Simple.{HaveSameEnds, IsLoop, IsSimple}
use Rattle.pm_map.specs.Structure.{Structure}
use Rattle.pm_tri.specs.Runs.{IsBalanced}
use Rattle.pm_tri.specs.StemTree.{IsStemTree, contour, node_at}
use Rattle.pm_tri.specs.Whole.{whole}
use Rattle.pm_tri.proofs.NodeTurns.{before_closer}
use Rattle.pm_triclose.specs.Closure.{AreNumbers, AreTwins, Dart, a_to_b, at_place, b_to_a, of_bracket, of_stem, twin_of}
use Rattle.pm_triclose.specs.ClosureLaws.{ClosuresAreSimple, ClosuresAreTriangulations}
use Rattle.pm_triclose.specs.WholeClosure.{FollowsWhole, IsWholeDart}
use Rattle.pm_triclose.proofs.AheadOrder.{IsStemRing}
use Rattle.pm_triclose.proofs.AheadStems.{none_ahead}
use Rattle.pm_triclose.proofs.FaceTriangles.{closures_triangles}
use Rattle.pm_triclose.proofs.SameClosures.{twin_found}
use Rattle.pm_triclose.proofs.SimpleArcs.{Arc, IsArc, bracket_arc, head, no_crossed, no_loop, no_parallel, stem_arc, tail}
use Rattle.pm_triclose.proofs.TreeClosures.{closures_plane}
use Rattle.pm_triclose.proofs.TreeRing.{tree_ring}
use Rattle.pm_triclose.proofs.VertexNodes.{node_of, node_of_dart, node_of_name, vertex_node}
use Rattle.pm_triclose.proofs.WholeClosures.{in_whole_closure}
use Rattle.pm_triclose.proofs.WholeInOrder.{other_run, whole_in_order}
use Rattle.pm_triclose.proofs.WholePlane.{name, named, number_back, structure}

module _ (word : List ℕ) (t : IsStemTree word) (b : IsBalanced (contour word)) (across ends : ℕ → ℕ) (w : IsStemRing (contour (whole word)) across ends)
    (s : Structure) (number : Dart → ℕ) (n : AreNumbers (IsWholeDart (contour (whole word))) (FollowsWhole (contour (whole word))) (AreTwins (contour (whole word))) s number) where
  -- the two darts of an arc
  out_dart : Arc → Dart
  out_dart (stem_arc x) = at_place x
  out_dart (bracket_arc o) = at_place (across o)

  in_dart : Arc → Dart
  in_dart (stem_arc x) = twin_of x
  in_dart (bracket_arc o) = at_place o

  -- a dart leaves or enters along an arc
  data IsAlong (x y : Dart) : Type 0 where
    leaves : (a : Arc) → IsArc (contour (whole word)) a → x ≡ out_dart a → y ≡ in_dart a → IsAlong x y
    enters : (a : Arc) → IsArc (contour (whole word)) a → y ≡ out_dart a → x ≡ in_dart a → IsAlong x y

  along_brackets : (p q : ℕ) → AreBrackets (contour (whole word)) p q → IsAlong (at_place p) (at_place q)
  unfolding out_dart in_dart
  along_brackets p q (inl a) = enters (bracket_arc p) a.opens (ap at_place (one_other (contour (whole word)) p q (across p) (inl a) (w.brackets p (inl a.opens)))) refl
  along_brackets p q (inr a) = leaves (bracket_arc q) a.opens (ap at_place (one_other (contour (whole word)) q p (across q) (inl a) (w.brackets q (inl a.opens)))) refl

  along : (x y : Dart) → IsWholeDart (contour (whole word)) x → AreTwins (contour (whole word)) x y → IsAlong x y
  unfolding out_dart in_dart
  along (at_place p) y h (of_stem e f) = leaves (stem_arc p) e refl f
  along (at_place p) y h (of_bracket q a f) = subst (IsAlong (at_place p)) (sym f) (along_brackets p q a)
  along (twin_of x) y h f = enters (stem_arc x) h f refl
  along a_to_b y h f = absurd h
  along b_to_a y h f = absurd h

  tail_is : (a : Arc) → IsArc (contour (whole word)) a → node_of (contour (whole word)) ends (out_dart a) ≡ tail (contour (whole word)) a
  unfolding out_dart
  tail_is (stem_arc x) h = refl
  tail_is (bracket_arc o) h = closer (w.brackets o (inl h)) where
    closer : AreBrackets (contour (whole word)) o (across o) → node_at (contour (whole word)) (across o) ≡ o
    closer (inl a) = before_closer (whole word) o (across o) (whole_in_order word t b).matched a
    closer (inr a) = let c = a.closes in absurd (omega (arith, c, h))

  head_is : (a : Arc) → IsArc (contour (whole word)) a → node_of (contour (whole word)) ends (in_dart a) ≡ head (contour (whole word)) ends a
  unfolding in_dart
  head_is (bracket_arc o) h = refl
  head_is (stem_arc x) h =
      let whole_of = (other_run word t b).1 in
      let wide = whole_of.wide in
      let within : suc (ends x) < length (contour (whole word)) = elim (cases_lt (suc (length word)) (ends x)) [
        | inl past ↦ absurd (none_ahead (contour word) (contour (whole word)) (length word) (other_run word t b).0 whole_of x (ends x) past (w.closes x h))
        | inr fine ↦ omega (arith, fine, wide)
      ] in
      ap (node_at (contour (whole word))) (mod_stays (suc (ends x)) (length (contour (whole word))) within)

  at : ℕ → ℕ
  at d = node_of_dart (whole word) (whole_in_order word t b) across ends w s number n d

  -- a dart's edge by its arc, with the nodes of the two darts
  data HasArc (d : ℕ) : Type 0 where
    out_of : (a : Arc) → IsArc (contour (whole word)) a → d ≡ number (out_dart a) → s.twin d ≡ number (in_dart a) → at d ≡ tail (contour (whole word)) a → at (s.twin d) ≡ head (contour (whole word)) ends a → HasArc d
    in_to : (a : Arc) → IsArc (contour (whole word)) a → d ≡ number (in_dart a) → s.twin d ≡ number (out_dart a) → at d ≡ head (contour (whole word)) ends a → at (s.twin d) ≡ tail (contour (whole word)) a → HasArc d

  at_name : (x z : Dart) (d : ℕ) → IsWholeDart (contour (whole word)) x → d ≡ number x → x ≡ z → at d ≡ node_of (contour (whole word)) ends z
  unfolding at
  at_name x z d h e f = ap (node_of_dart (whole word) (whole_in_order word t b) across ends w s number n) e ∙ node_of_name (whole word) (whole_in_order word t b) across ends w s number n x h ∙ ap (node_of (contour (whole word)) ends) f

  has_arc : (d : ℕ) → d < s.darts → HasArc d
  has_arc d l =
      let x = name (contour (whole word)) across ends w s number n d in
      let h = named (contour (whole word)) across ends w s number n d l in
      let back = number_back (contour (whole word)) across ends w s number n d l in
      let y = twin_found (contour (whole word)) across ends w x h in
      found x y.dart h y.is_named (sym back) (ap s.twin (sym back) ∙ n.twin x y.dart h y.holds) (along x y.dart h y.holds) where
        found : (x y : Dart) → IsWholeDart (contour (whole word)) x → IsWholeDart (contour (whole word)) y → d ≡ number x → s.twin d ≡ number y → IsAlong x y → HasArc d
        found x y h i e f (leaves a k u v) = out_of a k (e ∙ ap number u) (f ∙ ap number v) (at_name x (out_dart a) d h e u ∙ tail_is a k) (at_name y (in_dart a) (s.twin d) i f v ∙ head_is a k)
        found x y h i e f (enters a k u v) = in_to a k (e ∙ ap number v) (f ∙ ap number u) (at_name x (in_dart a) d h e v ∙ head_is a k) (at_name y (out_dart a) (s.twin d) i f u ∙ tail_is a k)

  same_at : (d e : ℕ) → d < s.darts → IsInCycle s.next d e → at d ≡ at e
  unfolding at
  same_at d e l c = sym (vertex_node (whole word) (whole_in_order word t b) across ends w s number n d e l c)

  no_loops : (d : ℕ) → d < s.darts → IsLoop s d → ⊥
  no_loops d l c = found (has_arc d l) where
    found : HasArc d → ⊥
    found (out_of a k e f u v) = no_loop word t b across ends w a k (sym u ∙ same_at d (s.twin d) l c ∙ v)
    found (in_to a k e f u v) = no_loop word t b across ends w a k (sym v ∙ sym (same_at d (s.twin d) l c) ∙ u)

  twin_stays : (d : ℕ) → d < s.darts → s.twin d < s.darts
  twin_stays d l = (structure (contour (whole word)) across ends w s number n).twin_stays d l

  twin_back : (d : ℕ) → d < s.darts → s.twin (s.twin d) ≡ d
  twin_back d l = (structure (contour (whole word)) across ends w s number n).twin_back d l

  -- two darts at one vertex, with twins at one vertex, are one
  one_way : (d e : ℕ) → HasArc d → HasArc e → at d ≡ at e → at (s.twin d) ≡ at (s.twin e) → d ≡ e
  one_way d e (out_of a k x y u v) (out_of c j x' y' u' v') p q = x ∙ ap (λ (z : Arc). number (out_dart z)) (no_parallel word t b across ends w a c k j (sym u ∙ p ∙ u') (sym v ∙ q ∙ v')) ∙ sym x'
  one_way d e (in_to a k x y u v) (in_to c j x' y' u' v') p q = x ∙ ap (λ (z : Arc). number (in_dart z)) (no_parallel word t b across ends w a c k j (sym v ∙ q ∙ v') (sym u ∙ p ∙ u')) ∙ sym x'
  one_way d e (out_of a k x y u v) (in_to c j x' y' u' v') p q = absurd (no_crossed word t b across ends w a c k j (sym u ∙ p ∙ u') (sym v ∙ q ∙ v'))
  one_way d e (in_to a k x y u v) (out_of c j x' y' u' v') p q = absurd (no_crossed word t b across ends w a c k j (sym v ∙ q ∙ v') (sym u ∙ p ∙ u'))

  no_doubles : (d e : ℕ) → d < s.darts → e < s.darts → e ≢ d → e ≢ s.twin d → HaveSameEnds s d e → ⊥
  no_doubles d e l m ne nt (inl c) = ne (sym (one_way d e (has_arc d l) (has_arc e m) (same_at d e l c.0) (same_at (s.twin d) (s.twin e) (twin_stays d l) c.1)))
  no_doubles d e l m ne nt (inr c) =
      nt (sym (twin_back e m) ∙ ap s.twin (sym (one_way d (s.twin e) (has_arc d l) (has_arc (s.twin e) (twin_stays e m)) (same_at d (s.twin e) l c.0)
      (same_at (s.twin d) e (twin_stays d l) c.1 ∙ ap at (sym (twin_back e m))))))

  pub simple : IsSimple s
  simple = record { no_loop = no_loops; no_double = no_doubles }

pub closures_simple : ClosuresAreSimple
closures_simple word s t b c =
    let inner = in_whole_closure word t b s c in
    let r = tree_ring word t b in
    simple word t b r.across r.ends r.ring s inner.0 inner.1

pub closures_triangulations : ClosuresAreTriangulations
closures_triangulations word s t b c =
    let size = closures_plane word s t b c in
    let darts = size.darts_are in
    record {
      plane = size.plane;
      some = omega (arith, darts);
      count = size.vertices_are;
      degrees = closures_triangles word s t b c;
      simple = closures_simple word s t b c;
    }
