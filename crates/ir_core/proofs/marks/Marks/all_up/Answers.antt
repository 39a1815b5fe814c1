use Rattle.std.proofs.Common.{◌-◌, ◌^◌, replicate}
use Rattle.std.proofs.lemmas.List.{get_or-replicate}
use Rattle.ir_core.specs.declared.marks.TheConstants.{WORD_LINKS, MARK_WORDS}
use Rattle.ir_core.proofs.MarkWords.{all_ones, ones_are_words}
use Rattle.ir_core.proofs.marks.Marks.all_up.Goals as goal

pub invariant_of-result : goal.invariant_of-result
invariant_of-result c = ones_are_words

pub returns : goal.returns
returns c = all_ones (replicate MARK_WORDS (2 ^ WORD_LINKS - 1)) ones_are_words (λ k h. get_or-replicate MARK_WORDS k (2 ^ WORD_LINKS - 1) 0 h)
