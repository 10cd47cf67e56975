-- The steps of writing the rotation.
use Rattle.std.proofs.Common.{◌≡◌, ◌≢◌, ℕ, suc, ◌+◌, ◌%◌, ◌<◌, inl, inr, List, length, set, sym, ◌∙◌, ap, arith, length-set}
use Rattle.std.specs.Prelude.{slice_index}
use Rattle.std.proofs.lemmas.Bool.{cases_lt}
use Rattle.std.proofs.lemmas.Grind.{get_or-set_at}
use Rattle.std.proofs.Common.{get_or-set_other}
use Rattle.pm_perm.specs.Permutation.{IsPermutationList}

below_not : (p place : ℕ) → p < place → p ≡ place → ⊥
below_not p place l e = omega arith

-- the darts of the places below this one have their next dart
pub record IsRotated (darts across sigma : List ℕ) (place : ℕ) : Type 0 where
  pub as_long : length sigma ≡ length darts
  pub each : (p : ℕ) → p < place → slice_index sigma (slice_index darts p) ≡ slice_index darts (suc (slice_index across p) % length darts)

pub rotated_start : (darts across sigma : List ℕ) → length sigma ≡ length darts → IsRotated darts across sigma 0
rotated_start darts across sigma e = record { as_long = e; each = λ p l. absurd (none p l) } where
  none : (p : ℕ) → p < 0 → ⊥
  none p l = omega arith

pub rotated_more : (darts across sigma : List ℕ) (place next : ℕ) → IsPermutationList darts → place < length darts → IsRotated darts across sigma place
    → next ≡ slice_index darts (suc (slice_index across place) % length darts)
    → IsRotated darts across (set sigma (slice_index darts place) next) (place + 1)
rotated_more darts across sigma place next perm l h e = record {
  as_long = length-set sigma (slice_index darts place) next ∙ h.as_long;
  each = λ p m. entry darts across sigma place next perm l h e p m;
} where
  entry : (darts across sigma : List ℕ) (place next : ℕ) → IsPermutationList darts → place < length darts → IsRotated darts across sigma place
      → next ≡ slice_index darts (suc (slice_index across place) % length darts) → (p : ℕ) → p < place + 1
      → slice_index (set sigma (slice_index darts place) next) (slice_index darts p) ≡ slice_index darts (suc (slice_index across p) % length darts)
  entry darts across sigma place next perm l h e p m = elim (cases_lt p place) [
    | inl below ↦
        let ne : slice_index darts p ≢ slice_index darts place = λ same. below_not p place below (perm.injective p place (omega arith) l same) in
        (rw get_or-set_other (h.each p below))
    | inr above ↦
        let here : p ≡ place = omega arith in
        let inside : slice_index darts place < length sigma = omega (arith, perm.stays place l, h.as_long) in
        get_or-set_at sigma (slice_index darts place) (slice_index darts p) next 0 (ap (slice_index darts) here) inside
        ∙ e ∙ ap (λ (k : ℕ). slice_index darts (suc (slice_index across k) % length darts)) (sym here)
  ]
