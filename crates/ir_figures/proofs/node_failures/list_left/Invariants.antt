use Rattle.std.proofs.Common.{◌≡◌, take}
use Rattle.ir_figures.specs.Failures.{list_left}
use Rattle.ir_figures.proofs.node_failures.list_left.Given as goal

abbrev pub invariant-loop-u : goal.invariant-loop-u
invariant-loop-u l = l.left.items ≡ list_left l.k (take l.u-index l.nodes)
