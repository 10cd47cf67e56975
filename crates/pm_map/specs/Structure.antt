-- Structures: darts with a rotation and a twin, and a root. The field's name for a structure is a combinatorial map
-- (Edmonds 1960, Tutte 1963); a dart is half an edge.
use Rattle.std.specs.Prelude.{◌≡◌, ◌≢◌, ℕ, ◌<◌, Bool, IsTrue}
use Rattle.pm_perm.specs.Permutation.{IsPermutationBelow}

-- Darts 0 to darts-1, the rotation `next` around the vertices, the twin of each dart, and the root.
-- The functions stand for their values below the number of darts.
pub record Structure : Type 0 where
  pub darts : ℕ
  pub next : ℕ → ℕ
  pub twin : ℕ → ℕ
  pub root : ℕ

-- the rotation is a permutation; twins are two different darts, each the twin of the other; the root is a dart, and 0
-- where there is none
pub record IsStructure (s : Structure) : Type 0 where
  pub rotation : IsPermutationBelow s.darts s.next
  pub twin_stays : (d : ℕ) → d < s.darts → s.twin d < s.darts
  pub twin_back : (d : ℕ) → d < s.darts → s.twin (s.twin d) ≡ d
  pub twin_other : (d : ℕ) → d < s.darts → s.twin d ≢ d
  pub root_stays : 0 < s.darts → s.root < s.darts
  pub no_root : s.darts ≡ 0 → s.root ≡ 0

-- the face rule: the next dart around the face is the one after the twin
abbrev pub face_next : Structure → ℕ → ℕ
face_next s d = s.next (s.twin d)

-- the dual structure: its vertices are the faces
abbrev pub dual : Structure → Structure
dual s = record { darts = s.darts; next = face_next s; twin = s.twin; root = s.root }

-- a set of darts, told by a test, that holds with a dart the next one and the twin
pub record IsClosedSet (s : Structure) (holds : ℕ → Bool) : Type 0 where
  pub under_next : (d : ℕ) → d < s.darts → IsTrue (holds d) → IsTrue (holds (s.next d))
  pub under_twin : (d : ℕ) → d < s.darts → IsTrue (holds d) → IsTrue (holds (s.twin d))

-- every set that holds the root and is closed under rotation and twin is the set of all darts
abbrev pub IsConnected : Structure → Type 0
IsConnected s = (holds : ℕ → Bool) → IsTrue (holds s.root) → IsClosedSet s holds → (d : ℕ) → d < s.darts → IsTrue (holds d)

-- this renumbering of the darts carries rotation, twin and root of one structure to those of the other
pub record CarriesTo (rename : ℕ → ℕ) (a b : Structure) : Type 0 where
  pub darts : a.darts ≡ b.darts
  pub renumbers : IsPermutationBelow a.darts rename
  pub next : (d : ℕ) → d < a.darts → rename (a.next d) ≡ b.next (rename d)
  pub twin : (d : ℕ) → d < a.darts → rename (a.twin d) ≡ b.twin (rename d)
  pub root : 0 < a.darts → rename a.root ≡ b.root

-- two structures are the same where some renumbering carries the one to the other
abbrev pub Same : Structure → Structure → Type 0
Same a b = (rename : ℕ → ℕ) × CarriesTo rename a b
