use Rattle.ir_figures.specs.Search.{Searches, OnlyFall}
use Rattle.ir_figures.proofs.search.Search.follow.Given as goal

abbrev pub invariant-loop-self : goal.invariant-loop-self
invariant-loop-self l = record {
  search : Searches l.first l.leads l.self;
  fall : OnlyFall l.fn.self l.self;
}

abbrev pub decreases-loop-self : goal.decreases-loop-self
decreases-loop-self l = l.self.total
