use Rattle.std.proofs.Common.{◌≡◌, ◌++◌, true, length, string_bytes}
use Rattle.ir_model.specs.Text.{words_of}
use Rattle.ir_json.specs.Lists.{pairs_from}
use Rattle.ir_json.proofs.items.push_pairs.Given as goal

-- what is written and what is left to write make the whole
abbrev pub invariant-loop-after : goal.invariant-loop-after
invariant-loop-after l = string_bytes l.text ++ pairs_from l.fn.template l.is_first (words_of l.rest) ≡ string_bytes l.fn.text ++ pairs_from l.fn.template true (words_of l.fn.line)

abbrev pub decreases-loop-after : goal.decreases-loop-after
decreases-loop-after l = length l.rest
