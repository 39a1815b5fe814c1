use Rattle.std.specs.Prelude.{◌≡◌, All, map}
use Rattle.ir_control.proofs.working.start_all.Given as goal

abbrev pub invariant-loop-node : goal.invariant-loop-node
invariant-loop-node g l = (map (λ h. h.promise.node.value) l.running.items ≡ l.yielded)
    × All (λ h. (h.promise.stop.value ≡ l.by.stop.now) × (h.promise.gate.value ≡ l.by.gate.now)) l.running.items
