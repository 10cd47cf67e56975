-- Which darts lead nearer, told by the levels of the faces.
use Rattle.std.proofs.Common.{◌≡◌, ℕ, suc, ◌<◌, nat_lt, true, ◌∙◌, ap, subst, arith}
use Rattle.pm_perm.proofs.SameCycle.{in_cycle-through}
use Rattle.pm_map.specs.Structure.{Structure, IsStructure, face_next}
use Rattle.pm_map.specs.FaceDistance.{AreInOneFace, IsFaceDistance, AreFaceLevels}
use Rattle.pm_map.proofs.DistanceLemmas.{levels-around, levels_are_distances, face_back}
use Rattle.pm_distances.proofs.SameLevels.{one_distance}
use Rattle.pm_reach.specs.Layers.{LeadsNearer}

-- numbers that are the levels of the faces, and so their distances
pub record AreLevels (s : Structure) (level : ℕ → ℕ) : Type 0 where
  pub structure : IsStructure s
  pub levels : AreFaceLevels s level
  pub distance : (d : ℕ) → d < s.darts → IsFaceDistance s s.root d (level d)

pub levels_of_distances : (s : Structure) (level : ℕ → ℕ) → IsStructure s → ((d : ℕ) → d < s.darts → IsFaceDistance s s.root d (level d)) → AreLevels s level
levels_of_distances s level is all = record { structure = is; levels = (levels_are_distances s level is).1 all; distance = all }

-- a dart of the face of d leads nearer exactly where its twin is one lower
pub nearer_lower : (s : Structure) (level : ℕ → ℕ) → AreLevels s level → (d e : ℕ) → d < s.darts → e < s.darts → LeadsNearer s d e → level d ≡ suc (level (s.twin e))
nearer_lower s level l d e hd he near =
    one_distance s s.root d (level d) (suc near.distance) (l.distance d hd) near.here
    ∙ ap suc (one_distance s s.root (s.twin e) near.distance (level (s.twin e)) near.beyond (l.distance (s.twin e) (l.structure.twin_stays e he)))

pub lower_nearer : (s : Structure) (level : ℕ → ℕ) → AreLevels s level → (d e : ℕ) → d < s.darts → e < s.darts → AreInOneFace s d e → level d ≡ suc (level (s.twin e)) → LeadsNearer s d e
lower_nearer s level l d e hd he one lower = record {
  one_face = one;
  distance = level (s.twin e);
  here = subst (λ x. IsFaceDistance s s.root d x) lower (l.distance d hd);
  beyond = l.distance (s.twin e) (l.structure.twin_stays e he);
}

-- which darts lead nearer is the same all around a face
pub nearer_around : (s : Structure) (level : ℕ → ℕ) → AreLevels s level → (d f e : ℕ) → d < s.darts → f < s.darts → e < s.darts → AreInOneFace s d f → LeadsNearer s d e → LeadsNearer s f e
nearer_around s level l d f e hd hf he one near =
    lower_nearer s level l f e hf he (in_cycle-through (face_next s) f d e (face_back s d f l.structure hd one) near.one_face)
    (levels-around s level l.structure l.levels d f hd one ∙ nearer_lower s level l d e hd he near)

-- what a comparison tells
pub less_told : (a b : ℕ) → nat_lt a b ≡ true → a < b
less_told a b told = grind arith

pub told_less : (a b : ℕ) → a < b → nat_lt a b ≡ true
told_less a b less = grind arith
