use Rattle.ir_explain.proofs.Numbered.{IsLineBefore}
use Rattle.ir_explain.proofs.lines.line_at.Given as goal

-- the line before the rest is the one with the number of the turns
abbrev pub invariant-loop-turn : goal.invariant-loop-turn
invariant-loop-turn l = IsLineBefore l.text l._turn l.found l.rest
