use Rattle.std.proofs.Common.{◌≡◌, ◌<◌, length, take, get_or}
use Rattle.std.specs.Prelude.{not}
use Rattle.std.specs.List.{filter}
use Rattle.ir_diff.specs.Changes.{lead_starts, has_start}
use Rattle.ir_diff.specs.Cuts.{AreLowerStarts}
use Rattle.ir_diff.proofs.changes.removed_of.Given as goal

abbrev pub invariant-loop-lead : goal.invariant-loop-lead
invariant-loop-lead l = record {
  made : l.removed.items ≡ filter (λ start. not (has_start l.new start)) (take l.lead-index (lead_starts l.old));
  below : l.lead-index < length l.old → AreLowerStarts l.new (get_or (lead_starts l.old) l.lead-index 0) l.place;
}
