-- What `draw` answers: records of choices, map and residue.
use Rattle.std.specs.Prelude.{◌≡◌, ℕ, zero, suc, List, ◌++◌, Result, Ok, Err}
use Rattle.rand_core.specs.Stream.{Stream}
use Rattle.pm_draw.specs.Drawn.{generator_of, words_of, drawn}
use Rattle.pm_map.specs.Rotation.{RotationSystem}
use Rattle.pm_cli.specs.declared.refusal.Refusal.{Refusal}
use Rattle.pm_cli.specs.Records.{AreRecords}
use Rattle.pm_cli.specs.Sampling.{IsChoicesLine, IsSampleText}

-- the record of the choices: the choices file that spells them, and then the text of the map and the residue that they
-- give, as `sample` answers to that file
pub record IsRecord (samples : List ℕ → RotationSystem → List ℕ → Type 0) (choices text : List ℕ) : Type 0 where
  pub line : List ℕ
  pub is_line : IsChoicesLine choices line
  pub rest : List ℕ
  pub is_rest : IsSampleText samples choices rest
  pub whole : text ≡ line ++ rest

-- the stream that is left after so many lists were drawn for the bounds
unfoldable pub left_after : List ℕ → Stream → ℕ → Stream
left_after bounds stream zero = stream
left_after bounds stream (suc count) = (drawn bounds (left_after bounds stream count)).1

-- the record of the list that is drawn from the seed at this place, counted from 0
abbrev pub IsDrawnRecord : List ℕ → (List ℕ → RotationSystem → List ℕ → Type 0) → ℕ → ℕ → List ℕ → Type 0
IsDrawnRecord bounds samples seed place text = IsRecord samples (drawn bounds (left_after bounds (words_of (generator_of seed)) place)).0 text

-- so many records of the lists that are drawn from the seed in turn
abbrev pub IsDrawing : List ℕ → (List ℕ → RotationSystem → List ℕ → Type 0) → ℕ → ℕ → List ℕ → Type 0
IsDrawing bounds samples seed count text = AreRecords (IsDrawnRecord bounds samples seed) count text

-- the answer: so many records
abbrev pub Draws : List ℕ → (List ℕ → RotationSystem → List ℕ → Type 0) → ℕ → ℕ → Result (List ℕ) Refusal → Type 0
Draws bounds samples seed count (Ok text) = IsDrawing bounds samples seed count text
Draws bounds samples seed count (Err refusal) = ⊥
