-- Heads: where the walk leaves a vertex for good.
use Rattle.std.specs.Prelude.{◌≡◌, ℕ, ◌<◌, ◌≤◌, Bool, false}
use Rattle.pm_perm.specs.Cycles.{IsInCycle}
use Rattle.pm_map.specs.Structure.{Structure, IsStructure}
use Rattle.pm_map.specs.Plane.{HasEulerTwo}
use Rattle.pm_walk.specs.Walk.{is_cut, IsWalkedInOrder}

-- a dart of an edge that is kept, and that the walk meets there for the second time
pub record IsHead (s : Structure) (out : ℕ → Bool) (d : ℕ) : Type 0 where
  pub kept : is_cut s out d ≡ false
  pub again : s.twin d < d

-- the head of the vertex of a dart: its last dart, and its only one of that kind
pub record HasHead (s : Structure) (out : ℕ → Bool) (d : ℕ) : Type 0 where
  pub head : ℕ
  pub around : IsInCycle s.next d head
  pub is_head : IsHead s out head
  pub last : (e : ℕ) → IsInCycle s.next d e → e ≤ head
  pub only : (e : ℕ) → IsInCycle s.next d e → IsHead s out e → e ≡ head

-- the root's vertex has no head, and each other one has its head
pub record HaveHeads (s : Structure) (out : ℕ → Bool) : Type 0 where
  pub root : (d : ℕ) → IsInCycle s.next s.root d → IsHead s out d → ⊥
  pub others : (d : ℕ) → d < s.darts → (IsInCycle s.next s.root d → ⊥) → HasHead s out d

-- where the darts of a plane structure are numbered along the walk, vertices have their heads
abbrev pub VerticesHaveHeads : Type 0
VerticesHaveHeads = (s : Structure) (out : ℕ → Bool) → IsStructure s → 0 < s.darts → HasEulerTwo s → IsWalkedInOrder s out → HaveHeads s out
