-- A structure that is told by the plus darts of a quartic one.
use Rattle.std.specs.Prelude.{◌≡◌, ℕ, suc, ◌*◌, ◌/◌, ◌<◌, Bool, true, false, List, length, slice_index, slice_index_or, if◌then◌else◌}
use Rattle.pm_map.specs.Structure.{Structure}
use Rattle.pm_map.specs.Rotation.{RotationSystem, twin}
use Rattle.pm_map.specs.EdgeNumbers.{dart_of}

-- Each plus has a name below half of the darts, and each such number is the name of one plus. The twin of a plus is the plus
-- two steps on around its vertex, and the next one after it the plus before the minus across its edge, which is three steps
-- on from that.
pub record IsHalfOf (q : Structure) (plus : ℕ → Bool) (name : ℕ → ℕ) (m : Structure) : Type 0 where
  pub darts : q.darts ≡ 2 * m.darts
  pub stays : (p : ℕ) → p < q.darts → plus p ≡ true → name p < m.darts
  pub injective : (p r : ℕ) → p < q.darts → r < q.darts → plus p ≡ true → plus r ≡ true → name p ≡ name r → p ≡ r
  pub onto : (k : ℕ) → k < m.darts → (p : ℕ) × (p < q.darts) × (plus p ≡ true) × (name p ≡ k)
  pub twin : (p : ℕ) → p < q.darts → plus p ≡ true → m.twin (name p) ≡ name (q.next (q.next p))
  pub next : (p : ℕ) → p < q.darts → plus p ≡ true → m.next (name p) ≡ name (q.next (q.next (q.next (q.twin p))))
  pub root : m.root ≡ name q.root

-- the plus of an edge, which has the darts 2k and 2k+1
abbrev pub plus_of : (ℕ → Bool) → ℕ → ℕ
plus_of plus k = if plus (2 * k) then 2 * k else suc (2 * k)

-- Edges stand for their pluses: the edge of the plus two steps on around the vertex, and that of the plus before the minus.
abbrev pub edge_two_on : (ℕ → ℕ) → (ℕ → Bool) → ℕ → ℕ
edge_two_on next plus k = next (next (plus_of plus k)) / 2

abbrev pub edge_before : (ℕ → ℕ) → (ℕ → Bool) → ℕ → ℕ
edge_before next plus k = next (next (next (twin (plus_of plus k)))) / 2

-- The map has a dart for each edge of the quartic one; darts are numbered as edges by their first places.
pub record IsHalfMap (q : RotationSystem) (plus : ℕ → Bool) (m : RotationSystem) : Type 0 where
  pub half : 2 * length m.sigma ≡ length q.sigma
  pub entry : (k : ℕ) → k < length m.sigma
      → slice_index m.sigma (dart_of (edge_two_on (slice_index q.sigma) plus) k) ≡ dart_of (edge_two_on (slice_index q.sigma) plus) (edge_before (slice_index q.sigma) plus k)
  pub root : m.root ≡ dart_of (edge_two_on (slice_index q.sigma) plus) (q.root / 2)

-- entry k is the edge of the plus two steps on from that of edge k
pub record AreEdgesTwoOn (q : RotationSystem) (colours : List Bool) (twins : List ℕ) : Type 0 where
  pub half : 2 * length twins ≡ length q.sigma
  pub entry : (k : ℕ) → k < length twins → slice_index twins k ≡ edge_two_on (slice_index q.sigma) (λ d. slice_index_or colours d false) k

-- of the edges below the bound the darts after theirs are written
pub record IsHalfRotation (q : RotationSystem) (colours : List Bool) (darts rotation : List ℕ) (bound : ℕ) : Type 0 where
  pub long : length rotation ≡ length darts
  pub entry : (k : ℕ) → k < bound → slice_index rotation (slice_index darts k) ≡ slice_index darts (edge_before (slice_index q.sigma) (λ d. slice_index_or colours d false) k)
