use Rattle.std.proofs.Common.{◌≡◌, take, flat_map}
use Rattle.std.specs.List.{zip}
use Rattle.ir_cli.specs.Lines.{reply_line, steps_text}
use Rattle.ir_answer.proofs.play.refused_steps.Given as goal

abbrev pub invariant-loop-i : goal.invariant-loop-i
invariant-loop-i l = steps_text l.steps.items ≡ flat_map reply_line (take l.i (zip l.lines l.replies))
