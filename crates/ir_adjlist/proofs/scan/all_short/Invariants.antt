use Rattle.std.proofs.Common.{◌≡◌, length, nat_le}
use Rattle.std.specs.List.{list_all}
use Rattle.ir_model.specs.declared.TheConstants.{MAX_NAME_BYTES}
use Rattle.ir_model.specs.Graph.{Name}
use Rattle.ir_model.specs.Text.{words_of}
use Rattle.ir_adjlist.proofs.scan.all_short.Given as goal

abbrev pub invariant-loop-word : goal.invariant-loop-word
invariant-loop-word l = list_all (λ (w : Name). nat_le (length w) MAX_NAME_BYTES) (words_of l.rest) ≡ list_all (λ (w : Name). nat_le (length w) MAX_NAME_BYTES) (words_of l.fn.bytes)

abbrev pub decreases-loop-word : goal.decreases-loop-word
decreases-loop-word l = length l.rest
