use Rattle.std.proofs.Common.{◌≡◌, take, string_bytes, flat_map}
use Rattle.ir_cli.specs.Lines.{step_line}
use Rattle.ir_cli.proofs.lines.steps_text.Given as goal

abbrev pub invariant-loop-i : goal.invariant-loop-i
invariant-loop-i l = string_bytes l.text ≡ flat_map step_line (take l.i l.steps)
