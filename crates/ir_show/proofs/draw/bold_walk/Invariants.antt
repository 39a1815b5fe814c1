use Rattle.std.proofs.Common.{◌≡◌, map, take}
use Rattle.ir_show.specs.declared.stops.WalkStop.{WalkStop}
use Rattle.ir_show.proofs.draw.bold_walk.Given as goal

abbrev pub invariant-loop-stop : goal.invariant-loop-stop
invariant-loop-stop l = l.nodes.items ≡ map (λ (s : WalkStop). s.node) (take l.stop-index l.stop-items)
