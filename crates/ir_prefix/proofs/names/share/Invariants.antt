use Rattle.std.proofs.Common.{◌≡◌, ℕ, ◌&&◌, take}
use Rattle.ir_prefix.specs.Joined.{is_among}
use Rattle.ir_prefix.proofs.names.share.Given as goal

abbrev pub invariant-loop-port : goal.invariant-loop-port
invariant-loop-port l = (p : ℕ) → is_among l.room.items p ≡ (is_among l.left p && is_among (take l.port-index l.right) p)
