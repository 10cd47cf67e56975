-- Faults that are noted one after the other, and the least of them.
use Rattle.std.specs.Prelude.{◌≡◌, ◌⊎◌, ℕ, min, Option, Some, None}

-- the lesser of two places, of which each may be missing
abbrev pub lesser : Option ℕ → Option ℕ → Option ℕ
lesser None second = second
lesser (Some first) None = Some first
lesser (Some first) (Some second) = Some (min first second)

-- the place is noted beside what was noted before, if it isn't right
abbrev pub IsNoted : Type 0 → Option ℕ → Option ℕ → ℕ → Type 0
IsNoted Right old new place = (Right × (new ≡ old)) ⊎ ((Right → ⊥) × (new ≡ lesser old (Some place)))
