use Rattle.std.proofs.Common.{◌≡◌, ◌++◌}
use Rattle.ir_adjlist.specs.Written.{edgelist_text}
use Rattle.ir_adjlist.proofs.Writing.{edges_text}
use Rattle.ir_adjlist.proofs.library.generate_weighted_edgelist.Given as goal

-- what is written, and what the nodes from here on are to be written as
abbrev pub invariant-loop-place : goal.invariant-loop-place
invariant-loop-place l = l.text.items ++ edges_text l.graph l.place ≡ edgelist_text l.graph
