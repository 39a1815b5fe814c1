use Rattle.std.specs.Prelude.{◌≡◌, take, vec_len, vec_capacity}
use Rattle.ir_control.specs.Fresh.{AreFreshOuts, AreFreshIns}
use Rattle.ir_control.proofs.channels.all_ends.Given as goal

abbrev pub invariant-loop-channel : goal.invariant-loop-channel
invariant-loop-channel l =
    AreFreshOuts (take l.channel-index l.channels.items) l.senders.items × AreFreshIns (take l.channel-index l.channels.items) l.takers.items
    × (vec_capacity l.senders ≡ vec_len l.channels) × (vec_capacity l.takers ≡ vec_len l.channels)
