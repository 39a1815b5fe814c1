use Rattle.ir_model.specs.Topology.{ports_of}
use Rattle.ir_lanes.specs.Inward.{IsPushing}
use Rattle.ir_lanes.specs.Lanes.{AreLeastOffers}
use Rattle.ir_lanes.proofs.inward.push_words.Given as goal

abbrev pub invariant-loop-hop : goal.invariant-loop-hop
invariant-loop-hop l = record {
  pushing : IsPushing l.topology l.lanes l.u l.hop-index l.initial.words.items l.words.items;
  least : AreLeastOffers (ports_of l.topology l.u) 1 l.hop-index l.lanes l.least;
}
