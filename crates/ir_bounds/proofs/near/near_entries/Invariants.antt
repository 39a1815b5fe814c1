use Rattle.ir_bounds.specs.Entries.{AreNearEntries}
use Rattle.ir_bounds.proofs.near.near_entries.Given as goal

abbrev pub invariant-loop-d : goal.invariant-loop-d
invariant-loop-d l = AreNearEntries l.topology l.owners.landmarks.items l.stretch l.u l.d l.count l.entries.items
