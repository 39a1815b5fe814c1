-- What a queue holds, and the room that it keeps.
use Rattle.std.specs.Prelude.{ℕ, List}
use Rattle.std.specs.VecDeque.{deque_capacity}
use Rattle.ir_core.specs.declared.queue.Queue.{Queue}

abbrev pub ids_of : Queue → List ℕ
ids_of q = q.ids.items

abbrev pub room_of : Queue → ℕ
room_of q = deque_capacity q.ids
