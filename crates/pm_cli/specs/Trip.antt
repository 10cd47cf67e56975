-- What `trip` answers: the counts of the map of one drawn list.
use Rattle.std.specs.Prelude.{◌≡◌, ℕ, List, ◌++◌, Result, Ok, Err, codes}
use Rattle.pm_draw.specs.Drawn.{generator_of, words_of, drawn}
use Rattle.pm_map.specs.Rotation.{RotationSystem}
use Rattle.pm_cli.specs.declared.refusal.Refusal.{Refusal}
use Rattle.pm_cli.specs.MapAnswers.{counts_line}

-- the list that is drawn first from the seed, as the first record of a drawing has it
abbrev pub first_drawn : List ℕ → ℕ → List ℕ
first_drawn bounds seed = (drawn bounds (words_of (generator_of seed))).0

-- The text is `trip ok V E F`: how many vertices, edges and faces the map has that the drawn list gives. By the laws of a
-- class that map and its residue come from no other list.
pub record IsTrip (bounds : List ℕ) (samples : List ℕ → RotationSystem → List ℕ → Type 0) (seed : ℕ) (text : List ℕ) : Type 0 where
  pub map : RotationSystem
  pub residue : List ℕ
  pub sampled : samples (first_drawn bounds seed) map residue
  pub is_text : text ≡ codes "trip " ++ counts_line map

-- the answer: that text
abbrev pub Trips : List ℕ → (List ℕ → RotationSystem → List ℕ → Type 0) → ℕ → Result (List ℕ) Refusal → Type 0
Trips bounds samples seed (Ok text) = IsTrip bounds samples seed text
Trips bounds samples seed (Err refusal) = ⊥
