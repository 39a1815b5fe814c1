use Rattle.std.proofs.Common.{sym}
use Rattle.std.proofs.lemmas.Bool.{eqb-true}
use Rattle.ir_explain.proofs.Numbered.{line_after, line_behind}
use Rattle.ir_explain.proofs.lines.line_at.Goals as goal

pub returns-then-is_empty : goal.returns-then-is_empty
returns-then-is_empty c =
    line_behind c.args.text.now c.loop-turn.rest.now c.loop-turn.found.now c.loop-turn._turn c.args.number c.loop-turn.invariant (eqb-true _ _ (sym c.if-is_empty.ensures))
    c.loop-turn-test.true

pub loop-turn-preserved : goal.loop-turn-preserved
loop-turn-preserved c =
    line_after c.args.text.now c.loop-turn.rest.now c.next_line.result.0.now c.next_line.result.1.now c.loop-turn.found.now c.loop-turn._turn c.loop-turn.invariant
    c.next_line.ensures.lines
