-- The walk along the darts of a map, place by place.
use Rattle.std.proofs.Common.{◌≡◌, ℕ, suc, ◌*◌, ◌/◌, ◌<◌, inl, inr, Bool, List, length, replicate, sym, ap, ◌∙◌, subst, arith, length-set}
use Rattle.std.specs.Prelude.{slice_index_or}
use Rattle.std.proofs.lemmas.Bool.{cases_lt}
use Rattle.std.proofs.lemmas.List.{get_or-replicate, get_or_past, length-replicate}
use Rattle.std.proofs.Math.Nat.{mod-eq_of_lt}
use Rattle.pm_map.specs.Structure.{IsStructure}
use Rattle.pm_map.specs.Rotation.{RotationSystem, IsRootedMap, structure_of, twin}
use Rattle.pm_walk.specs.declared.passing.Fate.{Fate}
use Rattle.pm_walk.specs.declared.passing.Fate.TheVariants.{Unmet}
use Rattle.pm_walk.specs.declared.passing.Step.{Step}
use Rattle.pm_walk.specs.Passing.{IsPassed, cuts, keeps, meets_cut, meets_kept}
use Rattle.pm_walk.proofs.PassedDarts.{HasPlaces, ArePassed, IsStep, kind_of, stepped, passed_more}

-- the walk is at the dart of this place
pub record IsAlong (map : RotationSystem) (out : ℕ → Bool) (place dart : ℕ) (fates : List Fate) : Type 0 where
  pub within : dart < length map.sigma
  pub edges : 2 * length fates ≡ length map.sigma
  pub passed : (w : HasPlaces (structure_of map) out) → ArePassed map out w place dart fates

-- at the root no edge is met
none_met : (size e : ℕ) → slice_index_or (replicate size Unmet) e Unmet ≡ Unmet
none_met size e = elim (cases_lt e size) [
  | inl below ↦ get_or-replicate size e Unmet Unmet below
  | inr past ↦ get_or_past (replicate size Unmet) e Unmet (omega (arith, length-replicate size Unmet))
]

pub along_start : (map : RotationSystem) (out : ℕ → Bool) (fates : List Fate) → IsRootedMap map → 0 < length map.sigma → fates ≡ replicate (length map.sigma / 2) Unmet
    → IsAlong map out 0 map.root fates
along_start map out fates valid some fresh = record {
  within = valid.structure.root_stays some;
  edges = omega (arith, ap length fresh, length-replicate (length map.sigma / 2) Unmet, valid.even);
  passed = λ w. record {
    here = w.carries.root some ∙ w.in_order.root ∙ sym (mod-eq_of_lt some);
    met = λ d l before. absurd (omega arith);
    unmet = λ d l _. ap (λ (xs : List Fate). slice_index_or xs (d / 2) Unmet) fresh ∙ none_met (length map.sigma / 2) (d / 2);
  };
}

passed_long : (map : RotationSystem) (dart : ℕ) (passes : Bool) (before after : List Fate) (step : Step) → IsPassed map dart passes before after step → length after ≡ length before
passed_long map dart passes before after step (cuts _ _ written _ _) = ap length written ∙ simp length-set
passed_long map dart passes before after step (keeps _ _ written _ _) = ap length written ∙ simp length-set
passed_long map dart passes before after step (meets_cut _ same _ _) = ap length same
passed_long map dart passes before after step (meets_kept _ same _ _) = ap length same

next_inside : (map : RotationSystem) (dart : ℕ) (passes : Bool) (before after : List Fate) (step : Step) → IsStructure (structure_of map) → dart < length map.sigma
    → IsPassed map dart passes before after step → step.next < length map.sigma
next_inside map dart passes before after step is inside (cuts _ _ _ _ next) = subst (λ x. x < length map.sigma) (sym next) (is.rotation.stays dart inside)
next_inside map dart passes before after step is inside (keeps _ _ _ _ next) = subst (λ x. x < length map.sigma) (sym next) (is.rotation.stays (twin dart) (is.twin_stays dart inside))
next_inside map dart passes before after step is inside (meets_cut _ _ _ next) = subst (λ x. x < length map.sigma) (sym next) (is.rotation.stays dart inside)
next_inside map dart passes before after step is inside (meets_kept _ _ _ next) = subst (λ x. x < length map.sigma) (sym next) (is.rotation.stays (twin dart) (is.twin_stays dart inside))

module _ (map : RotationSystem) (out : ℕ → Bool) (place dart : ℕ) (before after : List Fate) (step : Step) (structure : IsStructure (structure_of map)) (l : place < length map.sigma) (along : IsAlong map out place dart before) (goes : IsPassed map dart (out dart) before after step) where
  goes_on : (w : HasPlaces (structure_of map) out) → IsStep map out w place dart before after step
  goes_on w = stepped map out structure w place dart before l along.within (along.passed w) after step along.edges goes

  -- it finds the kind of the dart of this place
  pub kind_here : (w : HasPlaces (structure_of map) out) → step.kind ≡ kind_of w.walked w.passes place
  kind_here w = (goes_on w).kind

  -- and goes on to the dart of the next place
  pub along_more : IsAlong map out (suc place) step.next after
  along_more = record {
    within = next_inside map dart (out dart) before after step structure along.within goes;
    edges = omega (arith, passed_long map dart (out dart) before after step goes, along.edges);
    passed = λ w. passed_more map out structure w place dart before l along.within (along.passed w) after step (goes_on w);
  }
