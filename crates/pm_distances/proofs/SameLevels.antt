-- Of structures that are the same, numbered along the walk by their levels, the renumbering keeps the levels and moves no dart.
use Rattle.std.proofs.Common.{◌≡◌, ℕ, suc, ◌<◌, eqb, sym, ap, ◌∙◌, subst, arith}
use Rattle.pm_map.specs.Structure.{Structure, IsStructure, CarriesTo}
use Rattle.pm_map.specs.FaceDistance.{IsFaceDistance, AreFaceLevels}
use Rattle.pm_map.proofs.DistanceLemmas.{levels_are_distances, distances_are_carried}
use Rattle.pm_walk.proofs.OneWalk.{walked_is_one as one_numbering}
use Rattle.pm_distances.proofs.Walked.{is_up, IsWalkedInOrder}

-- the distance to a face is one number
pub one_distance : (s : Structure) (d e a b : ℕ) → IsFaceDistance s d e a → IsFaceDistance s d e b → a ≡ b
one_distance s d e a b one other = omega (arith, one.least other.over other.leads, other.least one.over one.leads, one.counted, other.counted)

-- levels of the faces are kept by a renumbering
pub levels_carried : (s t : Structure) (level t_level rename : ℕ → ℕ) → IsStructure s → IsStructure t → CarriesTo rename s t → AreFaceLevels s level → AreFaceLevels t t_level
    → (d : ℕ) → d < s.darts → t_level (rename d) ≡ level d
levels_carried s t level t_level rename one other carries levels t_levels d l =
    let some : 0 < s.darts = omega arith in
    let below : rename d < t.darts = subst (λ n. rename d < n) carries.darts (carries.renumbers.stays d l) in
    let here : IsFaceDistance s s.root d (level d) = (levels_are_distances s level one).0 levels d l in
    let there : IsFaceDistance t (rename s.root) (rename d) (level d) =
    distances_are_carried s t rename one other carries s.root d (level d) (one.root_stays some) l here in
    let is : IsFaceDistance t t.root (rename d) (t_level (rename d)) = (levels_are_distances t t_level other).0 t_levels (rename d) below in
    one_distance t t.root (rename d) (t_level (rename d)) (level d) is (subst (λ r. IsFaceDistance t r (rename d) (level d)) (carries.root some) there)

module _ (s t : Structure) (level t_level rename : ℕ → ℕ) (structure : IsStructure s) (carries : CarriesTo rename s t) (same : (d : ℕ) → d < s.darts → t_level (rename d) ≡ level d) where
  -- the face beyond is further at a dart and at its number
  pub up_agrees : (d : ℕ) → d < s.darts → is_up t t_level (rename d) ≡ is_up s level d
  up_agrees d l =
      let beyond : t_level (t.twin (rename d)) ≡ level (s.twin d) = ap t_level (sym (carries.twin d l)) ∙ same (s.twin d) (structure.twin_stays d l) in
      ap (λ (x : ℕ). eqb x (suc (t_level (rename d)))) beyond ∙ ap (λ (x : ℕ). eqb (level (s.twin d)) (suc x)) (same d l)

pub walked_is_one : (s t : Structure) (level t_level rename : ℕ → ℕ) → IsStructure s → CarriesTo rename s t → IsWalkedInOrder s level → IsWalkedInOrder t t_level
    → ((d : ℕ) → d < s.darts → t_level (rename d) ≡ level d) → (d : ℕ) → d < s.darts → rename d ≡ d
walked_is_one s t level t_level rename structure carries walked t_walked same d l =
    one_numbering s t (is_up s level) (is_up t t_level) rename structure carries walked t_walked (up_agrees s t level t_level rename structure carries same) d l
