use Rattle.std.proofs.Common.{below_more, ◌∙◌, true, false, arith}
use Rattle.std.proofs.lemmas.List.{get_or_default}
use Rattle.ir_numbering.proofs.search.first_unmarked.Goals as goal

pub loop-p-preserved : goal.loop-p-preserved
loop-p-preserved c = below_more _ _ c.loop-p.invariant c.if-not-marked-nodes.false

pub bounds-marked-nodes : goal.bounds-marked-nodes
bounds-marked-nodes c = c.requires.nodes c.loop-p.p 0 c.loop-p-test.true

pub bounds-nodes-p : goal.bounds-nodes-p
bounds-nodes-p c = c.loop-p-test.true

pub loop-p-init : goal.loop-p-init
loop-p-init c = c.requires.from

pub returns-then-not-marked-nodes-clause-place : goal.returns-then-not-marked-nodes-clause-place
returns-then-not-marked-nodes-clause-place c = c.loop-p-test.true

pub returns-then-not-marked-nodes-clause-unmarked : goal.returns-then-not-marked-nodes-clause-unmarked
returns-then-not-marked-nodes-clause-unmarked c =
    let within = c.requires.nodes c.loop-p.p 0 c.loop-p-test.true in
    record {
      below = c.loop-p-test.true;
      unmarked = get_or_default c.args.marked.now _ true false within ∙ c.if-not-marked-nodes.true;
      first = c.loop-p.invariant;
    }

pub returns-clause-unmarked : goal.returns-clause-unmarked
returns-clause-unmarked c k below = c.loop-p.invariant k (omega (arith, below, c.loop-p-test.false))
