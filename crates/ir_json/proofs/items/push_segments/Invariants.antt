use Rattle.std.proofs.Common.{◌≡◌, ◌++◌, [], length, string_bytes}
use Rattle.ir_model.specs.Text.{words_of}
use Rattle.ir_json.specs.Lists.{segments_from}
use Rattle.ir_json.proofs.items.push_segments.Given as goal

-- what is written and what is left to write make the whole
abbrev pub invariant-loop-word : goal.invariant-loop-word
invariant-loop-word l = string_bytes l.text ++ segments_from l.before (words_of l.rest) ≡ string_bytes l.fn.text ++ segments_from [] (words_of l.fn.line)

abbrev pub decreases-loop-word : goal.decreases-loop-word
decreases-loop-word l = length l.rest
