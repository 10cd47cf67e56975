-- The source and the sink in memory, as clauses see them. Their calls are numbered from 1, and exactly those whose
-- numbers stand in `fail` fail for their number. Numbers in `fail` have 32 bits, so no later call is among them.
use Rattle.std.specs.Prelude.{ℕ, ◌-◌, ◌<◌, ◌⊎◌, List, length, take, min}
use Rattle.std.specs.List.{Contains}
use Rattle.pm_io.specs.Faults.{one_more}

-- a source in memory: the bytes left, the most that a call gives, the calls that fail, the calls made, the faults
pub record Supply : Type 0 where
  pub left : List ℕ
  pub piece : ℕ
  pub fail : List ℕ
  pub calls : ℕ
  pub faults : ℕ

-- A sink in memory: the bytes held, the most that it can hold, the most that a failing write keeps of its piece, the
-- calls that fail, the calls made, the faults.
pub record Store : Type 0 where
  pub holds : List ℕ
  pub room : ℕ
  pub part : ℕ
  pub fail : List ℕ
  pub calls : ℕ
  pub faults : ℕ

-- after these calls the next one is among those that fail
abbrev pub FailsNext : List ℕ → ℕ → Type 0
FailsNext fail calls = Contains fail (one_more calls)

-- how many bytes more a sink can hold
abbrev pub spare : Store → ℕ
spare store = store.room - length store.holds

-- the next write fails: it is among the calls that fail, or its piece is longer than the room left
abbrev pub FailsToWrite : Store → List ℕ → Type 0
FailsToWrite store piece = FailsNext store.fail store.calls ⊎ (spare store < length piece)

-- what a failing write keeps of its piece: the first `part` bytes, as far as the room left holds them
abbrev pub kept : Store → List ℕ → List ℕ
kept store piece = take (min store.part (spare store)) piece
