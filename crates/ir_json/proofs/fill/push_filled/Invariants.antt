use Rattle.std.proofs.Common.{◌≡◌, ◌++◌, drop, string_bytes}
use Rattle.ir_model.specs.Text.{words_of}
use Rattle.ir_json.specs.Signs.{filled, left}
use Rattle.ir_json.proofs.fill.push_filled.Given as goal

-- what is written and what is left to write make the whole
abbrev pub invariant-loop-byte : goal.invariant-loop-byte
invariant-loop-byte l = record {
  text : string_bytes l.text ++ filled (drop l.byte-index l.bytes) (words_of l.rest) ≡ string_bytes l.fn.text ++ filled l.fn.template (words_of l.fn.line);
  rest : left (drop l.byte-index l.bytes) (words_of l.rest) ≡ left l.fn.template (words_of l.fn.line);
}
