use Rattle.std.proofs.Common.{◌≡◌, take, flat_map}
use Rattle.ir_cli.specs.Lines.{steps_text}
use Rattle.ir_shell.specs.Lives.{refusal_line}
use Rattle.ir_shell.proofs.live.refused_steps.Given as goal

abbrev pub invariant-loop-i : goal.invariant-loop-i
invariant-loop-i l = steps_text l.steps.items ≡ flat_map (refusal_line l.lines) (take l.i l.refusals)
