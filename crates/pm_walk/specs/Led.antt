-- Darts that lead from the root to all.
use Rattle.std.specs.Prelude.{◌≡◌, ℕ, ◌<◌, Bool, true, not, IsTrue}
use Rattle.pm_map.specs.Structure.{Structure, IsStructure, dual}
use Rattle.pm_walk.specs.Walk.{IsWalkedInOrder}

-- the set holds with a dart the next one around the vertex, and with a dart that passes its twin
pub record IsClosedAlong (s : Structure) (passes holds : ℕ → Bool) : Type 0 where
  pub under_next : (d : ℕ) → d < s.darts → IsTrue (holds d) → IsTrue (holds (s.next d))
  pub under_twin : (d : ℕ) → d < s.darts → passes d ≡ true → IsTrue (holds d) → IsTrue (holds (s.twin d))

-- darts that pass lead from the root's vertex to all vertices: every such set that holds the root is the set of all darts
abbrev pub IsLed : Structure → (ℕ → Bool) → Type 0
IsLed s passes = (holds : ℕ → Bool) → IsTrue (holds s.root) → IsClosedAlong s passes holds → (d : ℕ) → d < s.darts → IsTrue (holds d)

-- where the darts are numbered along the walk, those that do not pass lead to all vertices, and those that pass to all faces
abbrev pub WalkedIsLed : Type 0
WalkedIsLed = (s : Structure) (out : ℕ → Bool) → IsStructure s → IsWalkedInOrder s out → IsLed s (λ d. not (out d)) × IsLed (dual s) out
