use Rattle.ir_bounds.specs.Entries.{AreAllEntries}
use Rattle.ir_bounds.proofs.near.all_entries.Given as goal

abbrev pub invariant-loop-d : goal.invariant-loop-d
invariant-loop-d l = AreAllEntries l.topology l.owners.landmarks.items l.stretch l.u l.d l.entries.items
