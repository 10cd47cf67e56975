-- Duals exchange degrees and classes.
use Rattle.std.proofs.Common.{◌≡◌, ℕ, zero, suc, ◌<◌, List, refl, sym, ap, ◌∙◌, subst}
use Rattle.pm_perm.specs.Cycles.{repeated}
use Rattle.pm_perm.proofs.Repeats.{repeated-inside}
use Rattle.pm_map.specs.Structure.{Structure, IsStructure, Same, dual, face_next}
use Rattle.pm_map.specs.CycleSize.{IsCycleSize}
use Rattle.pm_map.specs.Classes.{HasDegrees, IsEulerian, IsBipartite}
use Rattle.pm_map.proofs.CarriedStructure.{dual_is_structure}
use Rattle.pm_map.proofs.CarriedDegrees.{degrees_carried}
use Rattle.pm_map.proofs.DualMaps.{dual_is_plane, dual_twice_is_same}
use Rattle.pm_medial.specs.DualDegrees.{DualIsPlane, DualExchangesDegrees, DualExchangesClasses}

pub dual_plane : DualIsPlane
dual_plane = dual_is_plane

-- the face rule of the dual is the rotation
steps_alike : (s : Structure) → IsStructure s → (k d : ℕ) → d < s.darts → repeated (face_next (dual s)) k d ≡ repeated s.next k d
steps_alike s is zero d h = refl
steps_alike s is (suc k) d h =
    ap (face_next (dual s)) (steps_alike s is k d h) ∙ ap s.next (is.twin_back (repeated s.next k d) (repeated-inside s.next s.darts is.rotation k d h))

pub dual_exchanges_degrees : DualExchangesDegrees
dual_exchanges_degrees s d degree is h = (
  λ size. record { some = size.some; back = sym (steps_alike s is degree d h) ∙ size.back; least = λ k some less e. size.least k some less (steps_alike s is k d h ∙ e) },
  λ size. record { some = size.some; back = steps_alike s is degree d h ∙ size.back; least = λ k some less e. size.least k some less (sym (steps_alike s is k d h) ∙ e) },
)

-- the degrees of what is the same
degrees_same : (a b : Structure) (pairs : List (ℕ × ℕ)) → IsStructure a → IsStructure b → Same a b → HasDegrees a pairs → HasDegrees b pairs
degrees_same a b pairs is also same has = record {
  rising = has.rising;
  some = has.some;
  even = has.even;
  counts = λ k h. degrees_carried a b is also same _ ∙ has.counts k h;
  others = λ degree none. degrees_carried a b is also same degree ∙ has.others degree none;
}

pub dual_exchanges_classes : DualExchangesClasses
dual_exchanges_classes s pairs = (
  λ has. (let is = has.plane.structure in record {
    plane = dual_is_plane s has.plane;
    degrees = degrees_same s (dual (dual s)) pairs is (dual_is_structure (dual s) (dual_is_structure s is)) (dual_twice_is_same s is) has.degrees;
  }),
  λ has. record { plane = dual_is_plane s has.plane; degrees = has.degrees },
)
