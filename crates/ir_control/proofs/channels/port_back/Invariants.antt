use Rattle.std.specs.Prelude.{◌≡◌, ◌<◌, ℕ, Some, slice_get}
use Rattle.ir_model.specs.declared.Hop.{Hop}
use Rattle.ir_model.specs.Topology.{ports_of}
use Rattle.ir_control.proofs.channels.port_back.Given as goal

abbrev pub invariant-loop-q : goal.invariant-loop-q
invariant-loop-q l = (k : ℕ) (other : Hop) → k < l.q → slice_get (ports_of l.topology l.hop.node) k ≡ Some other → other.node ≡ l.u → ⊥
