use Rattle.std.proofs.Common.{◌≡◌, ◌≤◌, ◌+◌, length, []}
use Rattle.ir_model.specs.Text.{lines}
use Rattle.ir_adjlist.specs.Steps.{line_run, text_run}
use Rattle.ir_adjlist.proofs.parse_adjlist.Given as goal

-- what is left to do from here is what there was to do
abbrev pub invariant-loop-rest : goal.invariant-loop-rest
invariant-loop-rest l = record {
  counted : l.line + length l.rest ≤ length l.text;
  same : text_run line_run 0 [] (lines l.text) ≡ text_run line_run l.line l.graph (lines l.rest);
}

abbrev pub decreases-loop-rest : goal.decreases-loop-rest
decreases-loop-rest l = length l.rest
