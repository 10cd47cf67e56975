-- The laws of part maps.
use Rattle.std.specs.Prelude.{◌≡◌, ◌↔◌, ℕ, ◌+◌, ◌<◌, List, ◌∷◌, ◌++◌}
use Rattle.pm_perm.specs.Cycles.{IsInCycle}
use Rattle.pm_perm.specs.CycleList.{IsCycleFrom}
use Rattle.pm_perm.specs.PartMap.{PartMap, IsPartMap, part_face, part_vertices, part_edges, part_faces, IsPartConnected, IsJoined, CarriesPart}

-- the joined part map has as many vertices as the parted one, and one edge and one face more
pub record JoinedCounts (parted joined : PartMap) : Type 0 where
  pub vertices : part_vertices joined ≡ part_vertices parted
  pub edges : part_edges joined ≡ part_edges parted + 1
  pub faces : part_faces joined ≡ part_faces parted + 1

-- two different stems of one face, made twins: they are then in two faces
pub record JoinKeeps (parted joined : PartMap) (x y : ℕ) : Type 0 where
  pub is_part_map : IsPartMap joined
  pub counts : JoinedCounts parted joined
  pub connected : IsPartConnected parted → IsPartConnected joined
  pub two_faces : IsInCycle (part_face joined) x y → ⊥

abbrev pub JoinLaw : Type 0
JoinLaw = (parted joined : PartMap) (x y : ℕ) → IsPartMap parted → IsJoined parted joined x y → IsInCycle (part_face parted) x y → JoinKeeps parted joined x y

-- the face that from x on is x, `first`, y and `second` becomes the face of x and `second` and that of y and `first`
abbrev pub JoinSplitsFace : Type 0
JoinSplitsFace = (parted joined : PartMap) (x y : ℕ) (first second : List ℕ) → IsPartMap parted → IsJoined parted joined x y
    → IsCycleFrom (part_face parted) x (x ∷ first ++ y ∷ second)
    → IsCycleFrom (part_face joined) x (x ∷ second) × IsCycleFrom (part_face joined) y (y ∷ first)

-- an edge whose two darts are in two faces, made two stems: they are then in one face
pub record CutKeeps (parted joined : PartMap) (x y : ℕ) : Type 0 where
  pub is_part_map : IsPartMap parted
  pub counts : JoinedCounts parted joined
  pub connected : IsPartConnected joined → IsPartConnected parted
  pub one_face : IsInCycle (part_face parted) x y

abbrev pub CutLaw : Type 0
CutLaw = (parted joined : PartMap) (x y : ℕ) → IsPartMap joined → IsJoined parted joined x y
    → (IsInCycle (part_face joined) x y → ⊥) → CutKeeps parted joined x y

-- the two faces become one: from x on it is x, what came after y, y, and what came after x
abbrev pub CutMergesFaces : Type 0
CutMergesFaces = (parted joined : PartMap) (x y : ℕ) (first second : List ℕ) → IsPartMap joined → IsJoined parted joined x y
    → (IsInCycle (part_face joined) x y → ⊥) → IsCycleFrom (part_face joined) x (x ∷ second) → IsCycleFrom (part_face joined) y (y ∷ first)
    → IsCycleFrom (part_face parted) x (x ∷ first ++ y ∷ second)

-- each other face stays
abbrev pub OtherFacesStay : Type 0
OtherFacesStay = (parted joined : PartMap) (x y d : ℕ) (face : List ℕ) → IsPartMap parted → IsJoined parted joined x y → d < parted.darts
    → (IsInCycle (part_face parted) d x → ⊥) → (IsInCycle (part_face parted) d y → ⊥) → (IsCycleFrom (part_face parted) d face ↔ IsCycleFrom (part_face joined) d face)

-- the darts renumbered
pub record RenumberingKeeps (a b : PartMap) : Type 0 where
  pub vertices : part_vertices a ≡ part_vertices b
  pub edges : part_edges a ≡ part_edges b
  pub faces : part_faces a ≡ part_faces b
  pub connected : IsPartConnected a → IsPartConnected b

abbrev pub RenumberingLaw : Type 0
RenumberingLaw = (rename : ℕ → ℕ) (a b : PartMap) → IsPartMap a → IsPartMap b → CarriesPart rename a b → RenumberingKeeps a b
