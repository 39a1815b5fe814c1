use Rattle.std.proofs.Common.{◌≡◌, ◌++◌}
use Rattle.ir_adjlist.specs.Written.{adjlist_text}
use Rattle.ir_adjlist.proofs.Writing.{rows_text}
use Rattle.ir_adjlist.proofs.library.generate_adjlist.Given as goal

-- what is written, and what the nodes from here on are to be written as
abbrev pub invariant-loop-place : goal.invariant-loop-place
invariant-loop-place l = l.text.items ++ rows_text l.graph l.place ≡ adjlist_text l.graph
