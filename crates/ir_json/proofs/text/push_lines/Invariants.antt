use Rattle.std.proofs.Common.{◌≡◌, ◌+◌, ◌≤◌, ◌++◌, length, string_bytes}
use Rattle.ir_model.specs.Text.{lines}
use Rattle.ir_json.specs.JsonText.{lines_text}
use Rattle.ir_json.proofs.text.push_lines.Given as goal

abbrev pub invariant-loop-rest : goal.invariant-loop-rest
invariant-loop-rest l = record {
  text : string_bytes l.json ++ lines_text l.shape l.place (lines l.rest) ≡ string_bytes l.fn.json ++ lines_text l.shape 0 (lines l.fn.text);
  few : l.place + length l.rest ≤ length l.fn.text;
}

abbrev pub decreases-loop-rest : goal.decreases-loop-rest
decreases-loop-rest l = length l.rest
