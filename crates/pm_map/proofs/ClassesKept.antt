-- The classes of maps are kept where the darts are renumbered.
use Rattle.std.proofs.Common.{ℕ, ◌/◌, ◌<◌, inl, inr, List, sym, ◌∙◌, ap, subst}
use Rattle.pm_perm.specs.Cycles.{IsInCycle}
use Rattle.pm_map.specs.Structure.{Structure, IsStructure, CarriesTo, Same, dual}
use Rattle.pm_map.specs.Plane.{IsPlane}
use Rattle.pm_map.specs.Simple.{IsSimple}
use Rattle.pm_map.specs.Classes.{HasDegrees, IsQuartic, IsGeneral, IsEulerian, IsBipartite, IsTriangulation}
use Rattle.pm_map.specs.SameLaws.{IsKept}
use Rattle.pm_map.proofs.SameMaps.{same_symmetric}
use Rattle.pm_map.proofs.CarriedStructure.{plane_carried, vertices_carried, dual_carries, dual_is_structure}
use Rattle.pm_map.proofs.CarriedSizes.{cycle_carried, sizes_carried}
use Rattle.pm_map.proofs.CarriedDegrees.{degrees_carried}

plane_kept : IsKept IsPlane
plane_kept a b is also same plane = plane_carried same.0 a b also same.1 plane

duals_same : (a b : Structure) → IsStructure a → Same a b → Same (dual a) (dual b)
duals_same a b is same = (same.0, dual_carries same.0 a b is same.1)

degrees_kept : (pairs : List (ℕ × ℕ)) → IsKept (λ s. HasDegrees s pairs)
degrees_kept pairs a b is also same has = record {
  rising = has.rising;
  some = has.some;
  even = has.even;
  counts = λ k h. degrees_carried a b is also same _ ∙ has.counts k h;
  others = λ degree none. degrees_carried a b is also same degree ∙ has.others degree none;
}

-- what a renumbering carries back has a loop or a double where the other has one
simple_back : (f : ℕ → ℕ) (a b : Structure) → IsStructure a → CarriesTo f a b → IsSimple b → IsSimple a
simple_back f a b is c simple =
    let stays : (d : ℕ) → d < a.darts → f d < b.darts = λ d h. subst (λ n. f d < n) c.darts (c.renumbers.stays d h) in
    let around : (d e : ℕ) → d < a.darts → IsInCycle a.next d e → IsInCycle b.next (f d) (f e) = λ d e h. cycle_carried f a b c is.rotation d e h in
    let to_twin : (d e : ℕ) → e < a.darts → IsInCycle b.next (f d) (f (a.twin e)) → IsInCycle b.next (f d) (b.twin (f e)) = λ d e h. subst (IsInCycle b.next (f d)) (c.twin e h) in
    let from_twin : (d e : ℕ) → d < a.darts → IsInCycle b.next (f (a.twin d)) e → IsInCycle b.next (b.twin (f d)) e = λ d e h. subst (λ x. IsInCycle b.next x e) (c.twin d h) in
    record {
      no_loop = λ d h loop. simple.no_loop (f d) (stays d h) (to_twin d d h (around d (a.twin d) h loop));
      no_double = λ d e hd he differs other ends. simple.no_double (f d) (f e) (stays d hd) (stays e he)
          (λ same. differs (c.renumbers.injective e d he hd same))
          (λ same. other (c.renumbers.injective e (a.twin d) he (is.twin_stays d hd) (same ∙ sym (c.twin d hd))))
          (elim ends [
            | inl straight ↦ inl (
              around d e hd straight.0,
              from_twin d (b.twin (f e)) hd (subst (IsInCycle b.next (f (a.twin d))) (c.twin e he) (around (a.twin d) (a.twin e) (is.twin_stays d hd) straight.1)),
            )
            | inr crossed ↦ inr (
              to_twin d e he (around d (a.twin e) hd crossed.0),
              from_twin d (f e) hd (around (a.twin d) e (is.twin_stays d hd) crossed.1),
            )
          ]);
    }

pub simple_kept : IsKept IsSimple
simple_kept a b is also same simple = (let back = same_symmetric a b is same in simple_back back.0 b a also back.1 simple)

pub quartic_kept : (n : ℕ) → IsKept (λ s. IsQuartic s n)
quartic_kept n a b is also same has = record {
  plane = plane_kept a b is also same has.plane;
  some = subst (λ n. 0 < n) same.1.darts has.some;
  count = sym (vertices_carried same.0 a b is also same.1) ∙ has.count;
  degrees = sizes_carried a b 4 is same has.degrees;
}

pub general_kept : (n : ℕ) → IsKept (λ s. IsGeneral s n)
general_kept n a b is also same has = record {
  plane = plane_kept a b is also same has.plane;
  count = ap (λ n. n / 2) (sym same.1.darts) ∙ has.count;
}

pub eulerian_kept : (pairs : List (ℕ × ℕ)) → IsKept (λ s. IsEulerian s pairs)
eulerian_kept pairs a b is also same has = record {
  plane = plane_kept a b is also same has.plane;
  degrees = degrees_kept pairs a b is also same has.degrees;
}

pub bipartite_kept : (pairs : List (ℕ × ℕ)) → IsKept (λ s. IsBipartite s pairs)
bipartite_kept pairs a b is also same has = record {
  plane = plane_kept a b is also same has.plane;
  degrees = degrees_kept pairs (dual a) (dual b) (dual_is_structure a is) (dual_is_structure b also) (duals_same a b is same) has.degrees;
}

pub triangulation_kept : (n : ℕ) → IsKept (λ s. IsTriangulation s n)
triangulation_kept n a b is also same has = record {
  plane = plane_kept a b is also same has.plane;
  some = subst (λ n. 0 < n) same.1.darts has.some;
  count = sym (vertices_carried same.0 a b is also same.1) ∙ has.count;
  degrees = sizes_carried (dual a) (dual b) 3 (dual_is_structure a is) (duals_same a b is same) has.degrees;
  simple = simple_kept a b is also same has.simple;
}
