use Rattle.ir_lanes.specs.Lanes.{AreLeastOffers}
use Rattle.ir_lanes.proofs.sweeps.least_over.Given as goal

abbrev pub invariant-loop-hop : goal.invariant-loop-hop
invariant-loop-hop l = AreLeastOffers l.ports l.unit l.hop-index l.lanes l.least
