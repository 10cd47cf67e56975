-- Rooms: what closing and opening work in, reserved once.
use Rattle.std.specs.Prelude.{◌≡◌, ℕ, ◌*◌, Bool, length}
use Rattle.pm_pool.specs.Region.{IsCleared}
use Rattle.pm_pool.specs.declared.room.Work.{Work}

-- for how many edges a room is, and whether it has its work, or has lent it
pub record RoomState : Type 0 where
  pub edges : ℕ
  pub whole : Bool

-- The pool has two darts for each edge, none of which is live, and the lists are as long; what they hold is free.
pub record FitsWork (work : Work) (edges : ℕ) : Type 0 where
  pub pool : IsCleared work.pool (2 * edges)
  pub stack : length work.stack.items ≡ 2 * edges
  pub queue : length work.queue.items ≡ 2 * edges
  pub names : length work.names.items ≡ 2 * edges
  pub marks : length work.marks.items ≡ 2 * edges
