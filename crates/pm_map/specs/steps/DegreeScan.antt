-- The first entry of a list of sizes that isn't admitted.
use Rattle.std.specs.Prelude.{ℕ, ◌<◌, List, length, slice_index}
use Rattle.pm_map.specs.declared.admitted.Degrees.{Degrees}
use Rattle.pm_perm.specs.Least.{IsLeast}
use Rattle.pm_map.specs.ClassRules.{IsAdmitted}

-- each entry is admitted
abbrev pub AreAdmitted : Degrees → List ℕ → Type 0
AreAdmitted degrees sizes = (k : ℕ) → k < length sizes → IsAdmitted degrees (slice_index sizes k)

-- the least place whose entry isn't admitted
abbrev pub IsLeastEntry : Degrees → List ℕ → ℕ → Type 0
IsLeastEntry degrees sizes place = IsLeast (length sizes) (λ k. IsAdmitted degrees (slice_index sizes k)) (λ k. IsAdmitted degrees (slice_index sizes k) → ⊥) place
