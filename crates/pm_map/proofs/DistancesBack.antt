-- A way from a face to another leads back by the twins of its darts, so the distance is the same both ways.
use Rattle.std.proofs.Common.{◌≡◌, ℕ, ◌+◌, ◌<◌, List, [], ◌∷◌, length, sym, subst, arith}
use Rattle.pm_perm.proofs.SameCycle.{in_cycle-through}
use Rattle.pm_map.specs.Structure.{Structure, IsStructure, face_next}
use Rattle.pm_map.specs.FaceDistance.{AreInOneFace, LeadsOver}
use Rattle.pm_map.specs.DistanceLaws.{DistanceIsSymmetric}
use Rattle.pm_map.proofs.DistanceLemmas.{face_back, face_itself}

-- the twins of the darts, the last first, and then these
back_before : Structure → List ℕ → List ℕ → List ℕ
back_before s [] rest = rest
back_before s (dart ∷ darts) rest = back_before s darts (s.twin dart ∷ rest)

length-back_before : (s : Structure) (darts rest : List ℕ) → length (back_before s darts rest) ≡ length darts + length rest
unfolding back_before
length-back_before s [] rest = omega arith
length-back_before s (dart ∷ darts) rest = omega (arith, length-back_before s darts (s.twin dart ∷ rest))

-- a way may begin at any dart of its face
from_face : (s : Structure) (c d e : ℕ) (darts : List ℕ) → AreInOneFace s c d → LeadsOver s d e darts → LeadsOver s c e darts
from_face s c d e [] same leads = in_cycle-through (face_next s) c d e same leads
from_face s c d e (dart ∷ darts) same leads = (leads.0, in_cycle-through (face_next s) c d dart same leads.1, leads.2)

leads_back : (s : Structure) (c d e : ℕ) (darts rest : List ℕ) → IsStructure s → c < s.darts → LeadsOver s c e darts → LeadsOver s c d rest → LeadsOver s e d (back_before s darts rest)
unfolding back_before
leads_back s c d e [] rest is h there back = from_face s e c d rest (face_back s c e is h there) back
leads_back s c d e (dart ∷ darts) rest is h there back =
    let behind : AreInOneFace s dart c = face_back s c dart is h there.1 in
    let home : LeadsOver s (s.twin (s.twin dart)) d rest = subst (λ x. LeadsOver s x d rest) (sym (is.twin_back dart there.0)) (from_face s dart c d rest behind back) in
    leads_back s (s.twin dart) d e darts (s.twin dart ∷ rest) is (is.twin_stays dart there.0) there.2 (is.twin_stays dart there.0, face_itself s (s.twin dart), home)

pub distance_is_symmetric : DistanceIsSymmetric
distance_is_symmetric s d e distance is hd he far =
    let here : LeadsOver s d d [] = face_itself s d in
    let there : LeadsOver s e e [] = face_itself s e in
    record {
      over = back_before s far.over [];
      leads = leads_back s d d e far.over [] is hd far.leads here;
      counted = omega (arith, length-back_before s far.over [], far.counted);
      least = λ others leads. (
          let least = far.least (back_before s others []) (leads_back s e e d others [] is he leads there) in
          omega (arith, length-back_before s others [], least));
    }
