use Rattle.std.proofs.Common.{◌≡◌, ◌++◌, true, length, string_bytes}
use Rattle.ir_model.specs.Text.{words_of}
use Rattle.ir_json.specs.Lists.{marked_from}
use Rattle.ir_json.proofs.items.push_marked.Given as goal

-- what is written and what is left to write make the whole
abbrev pub invariant-loop-word : goal.invariant-loop-word
invariant-loop-word l = string_bytes l.text ++ marked_from l.fn.mark l.fn.template l.is_first (words_of l.rest) ≡ string_bytes l.fn.text ++ marked_from l.fn.mark l.fn.template true (words_of l.fn.line)

abbrev pub decreases-loop-word : goal.decreases-loop-word
decreases-loop-word l = length l.rest
