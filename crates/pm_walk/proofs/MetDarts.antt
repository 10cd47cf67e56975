-- The darts that the walk meets.
use Rattle.std.proofs.Common.{◌≡◌, ℕ, zero, suc, ◌<◌, ◌⊎◌, inl, inr, Bool, true, refl, ap, ◌∙◌, subst}
use Rattle.std.proofs.lemmas.Bool.{cases_Bool}
use Rattle.pm_perm.specs.Cycles.{repeated, IsInCycle}
use Rattle.pm_perm.proofs.Permutations.{IsReached, reached_or_not}
use Rattle.pm_perm.proofs.Repeats.{repeated-inside}
use Rattle.pm_perm.proofs.SameCycle.{in_cycle-reached}
use Rattle.pm_map.specs.Structure.{Structure, IsStructure, face_next}
use Rattle.pm_map.specs.FaceDistance.{AreInOneFace}
use Rattle.pm_walk.proofs.Cutting.{IsCutting, IsDecided, step_by, dart_after, step_by-cut, step_by-kept, step_by-permutes}

-- a walk from the root, with edges that are cut, and each edge decided where the walk meets it first
pub record IsDecidedWalk (s : Structure) (out cut : ℕ → Bool) : Type 0 where
  pub structure : IsStructure s
  pub some : 0 < s.darts
  pub cutting : IsCutting s cut
  pub decided : IsDecided s out cut s.darts

-- the walk meets a dart
pub record IsMet (s : Structure) (cut : ℕ → Bool) (d : ℕ) : Type 0 where
  pub met : IsInCycle (step_by s cut) s.root d

pub met_inside : (s : Structure) (out cut : ℕ → Bool) → IsDecidedWalk s out cut → (d : ℕ) → IsMet s cut d → d < s.darts
met_inside s out cut w d m =
    subst (λ x. x < s.darts) m.met.leads
    (repeated-inside (step_by s cut) s.darts (step_by-permutes s cut w.structure w.cutting) m.met.steps s.root (w.structure.root_stays w.some))

pub met_next : (s : Structure) (cut : ℕ → Bool) (d e : ℕ) → IsMet s cut d → step_by s cut d ≡ e → IsMet s cut e
met_next s cut d e m goes = record { met = record { steps = suc m.met.steps; leads = ap (step_by s cut) m.met.leads ∙ goes } }

pub met_reached : (s : Structure) (out cut : ℕ → Bool) → IsDecidedWalk s out cut → (d : ℕ) → IsMet s cut d → IsReached (dart_after s cut) s.darts d
met_reached s out cut w d m =
    in_cycle-reached s.darts (step_by s cut) s.root d (step_by-permutes s cut w.structure w.cutting) (w.structure.root_stays w.some) m.met

-- an edge that is met is cut as its dart that is met says, or its other dart is met too
pub met_decided : (s : Structure) (out cut : ℕ → Bool) → IsDecidedWalk s out cut → (d : ℕ) → IsMet s cut d → (cut d ≡ out d) ⊎ IsMet s cut (s.twin d)
met_decided s out cut w d m =
    let at : IsReached (dart_after s cut) s.darts d = met_reached s out cut w d m in
    elim (reached_or_not (dart_after s cut) at.from (s.twin d)) [
      | inl before ↦ inr (record { met = record { steps = before.from; leads = before.value } })
      | inr fresh ↦ inl (subst (λ x. cut x ≡ out x) at.value
          (w.decided.decided at.from at.below (λ i h e. fresh i h (e ∙ ap s.twin at.value))))
    ]

-- the next dart around the face is met, if where the edge is cut its other dart is met
pub met_around : (s : Structure) (out cut : ℕ → Bool) → IsDecidedWalk s out cut → (d : ℕ) → IsMet s cut d → (cut d ≡ true → IsMet s cut (s.twin d)) → IsMet s cut (face_next s d)
met_around s out cut w d m twin = elim (cases_Bool (cut d)) [
  | inl cuts ↦ met_next s cut (s.twin d) (face_next s d) (twin cuts) (step_by-cut s cut (s.twin d) (w.cutting.both d (met_inside s out cut w d m) ∙ cuts))
  | inr kept ↦ met_next s cut d (face_next s d) m (step_by-kept s cut d kept)
]

-- a face of which a dart is met is met, if with a dart of it that is met the next one is
pub face_met : (s : Structure) (cut : ℕ → Bool) (d : ℕ) → IsMet s cut d → ((e : ℕ) → AreInOneFace s d e → IsMet s cut e → IsMet s cut (face_next s e))
    → (steps : ℕ) → IsMet s cut (repeated (face_next s) steps d)
face_met s cut d m goes zero = m
face_met s cut d m goes (suc steps) =
    goes (repeated (face_next s) steps d) (record { steps = steps; leads = refl }) (face_met s cut d m goes steps)
