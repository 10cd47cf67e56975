-- Writing the rotation of a dual, dart by dart.
use Rattle.std.proofs.Common.{◌≡◌, ℕ, ◌+◌, List, [], ◌∷◌, ◌++◌, length, length-append, get_or, inl, inr, sym, ap, ◌∙◌, arith}
use Rattle.std.proofs.lemmas.Bool.{cases_eq}
use Rattle.std.proofs.lemmas.List.{get_or_append_left, get_or_push}
use Rattle.pm_map.specs.Rotation.{RotationSystem, twin}
use Rattle.pm_map.specs.DualLaws.{IsDualOf}
use Rattle.pm_medial.specs.steps.Written.{IsDualRotation}

pub turned_more : (sigma rotation : List ℕ) (dart after : ℕ) → IsDualRotation sigma rotation dart → after ≡ get_or sigma (twin dart) 0
    → IsDualRotation sigma (rotation ++ after ∷ []) (dart + 1)
turned_more sigma rotation dart after w is = record {
  long = length-append rotation (after ∷ []) ∙ ap (λ n. n + 1) w.long;
  entry = λ d l. elim (cases_eq d dart) [
    | inl same ↦ get_or_push rotation after 0 d (w.long ∙ sym same) ∙ is ∙ ap (λ x. get_or sigma (twin x) 0) (sym same)
    | inr other ↦ get_or_append_left rotation (after ∷ []) 0 d (omega (arith, w.long, l, other)) ∙ w.entry d (omega (arith, l, other))
  ];
}

pub turned_is_dual : (m : RotationSystem) (rotation : List ℕ) (root bound : ℕ) → IsDualRotation m.sigma rotation bound → bound ≡ length m.sigma → root ≡ m.root
    → IsDualOf m (record { sigma = rotation; root = root })
turned_is_dual m rotation root bound w whole is = record {
  as_long = w.long ∙ whole;
  entry = λ d l. w.entry d (omega (arith, whole, l));
  root = is;
}
