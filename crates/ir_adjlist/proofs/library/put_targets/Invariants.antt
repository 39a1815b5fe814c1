use Rattle.std.proofs.Common.{◌≡◌, ◌++◌, take}
use Rattle.std.specs.Map.{keys_of}
use Rattle.ir_model.specs.Graph.{neighbors}
use Rattle.ir_adjlist.specs.Writing.{spaced_words, unwritten}
use Rattle.ir_adjlist.proofs.library.put_targets.Given as goal

abbrev pub invariant-loop-place : goal.invariant-loop-place
invariant-loop-place l = l.text.items ≡ l.fn.text.items ++ spaced_words (unwritten l.graph l.count (take l.place (keys_of (neighbors l.graph l.source))))
