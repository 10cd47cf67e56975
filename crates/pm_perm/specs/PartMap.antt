-- Part maps: darts with a rotation and a twin, where a dart that is its own twin is a stem.
use Rattle.std.specs.Prelude.{◌≡◌, ◌≢◌, ℕ, ◌<◌, Bool, IsTrue}
use Rattle.pm_perm.specs.Permutation.{IsPermutationBelow}
use Rattle.pm_perm.specs.Cycles.{cycles}
use Rattle.pm_perm.specs.Pairs.{IsInvolutionBelow, pairs}

-- Darts 0 to darts-1, the rotation `next` around the vertices, and the twin of each dart.
-- The functions stand for their values below the number of darts.
pub record PartMap : Type 0 where
  pub darts : ℕ
  pub next : ℕ → ℕ
  pub twin : ℕ → ℕ

-- the rotation is a permutation, and each dart is the twin of its twin
pub record IsPartMap (m : PartMap) : Type 0 where
  pub rotation : IsPermutationBelow m.darts m.next
  pub twins : IsInvolutionBelow m.darts m.twin

-- the face rule: the next dart around the face is the one after the twin
abbrev pub part_face : PartMap → ℕ → ℕ
part_face m d = m.next (m.twin d)

-- how many vertices, edges and faces: cycles of the rotation, pairs of different twins, cycles of the face rule
abbrev pub part_vertices : PartMap → ℕ
part_vertices m = cycles m.darts m.next

abbrev pub part_edges : PartMap → ℕ
part_edges m = pairs m.darts m.twin

abbrev pub part_faces : PartMap → ℕ
part_faces m = cycles m.darts (part_face m)

-- a set of darts, told by a test, that holds with a dart the next one and the twin
pub record IsPartClosed (m : PartMap) (holds : ℕ → Bool) : Type 0 where
  pub under_next : (d : ℕ) → d < m.darts → IsTrue (holds d) → IsTrue (holds (m.next d))
  pub under_twin : (d : ℕ) → d < m.darts → IsTrue (holds d) → IsTrue (holds (m.twin d))

-- all darts are reached from this one: every closed set that holds it is the set of all darts
abbrev pub ReachesAll : PartMap → ℕ → Type 0
ReachesAll m from = (holds : ℕ → Bool) → IsTrue (holds from) → IsPartClosed m holds → (d : ℕ) → d < m.darts → IsTrue (holds d)

-- all darts are reached from one
pub record IsPartConnected (m : PartMap) : Type 0 where
  pub from : ℕ
  pub within : from < m.darts
  pub reaches : ReachesAll m from

-- two different stems x and y of one part map are twins in the other, and all else is the same: the other way, the
-- edge of x and y is cut
pub record IsJoined (parted joined : PartMap) (x y : ℕ) : Type 0 where
  pub same_darts : parted.darts ≡ joined.darts
  pub first : x < parted.darts
  pub second : y < parted.darts
  pub differ : x ≢ y
  pub first_stem : parted.twin x ≡ x
  pub second_stem : parted.twin y ≡ y
  pub first_twin : joined.twin x ≡ y
  pub second_twin : joined.twin y ≡ x
  pub same_next : (d : ℕ) → d < parted.darts → joined.next d ≡ parted.next d
  pub same_twin : (d : ℕ) → d < parted.darts → d ≢ x → d ≢ y → joined.twin d ≡ parted.twin d

-- this renumbering of the darts carries rotation and twin of one part map to those of the other
pub record CarriesPart (rename : ℕ → ℕ) (a b : PartMap) : Type 0 where
  pub same_darts : a.darts ≡ b.darts
  pub renumbers : IsPermutationBelow a.darts rename
  pub next : (d : ℕ) → d < a.darts → rename (a.next d) ≡ b.next (rename d)
  pub twin : (d : ℕ) → d < a.darts → rename (a.twin d) ≡ b.twin (rename d)
