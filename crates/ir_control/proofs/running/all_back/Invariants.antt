use Rattle.std.specs.Prelude.{◌≡◌, All, None, map}
use Rattle.ir_control.proofs.running.all_back.Given as goal

abbrev pub invariant-loop-node : goal.invariant-loop-node
invariant-loop-node g l =
    (l.nodes.items ≡ map (λ b. b.0) l.yielded) × All (λ b. b.1 ≡ None) l.yielded × All (g.S.Starter.came_back l.starter) l.nodes.items
