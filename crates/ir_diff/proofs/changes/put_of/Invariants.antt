use Rattle.std.proofs.Common.{◌≡◌, ◌<◌, length, take, get_or}
use Rattle.std.specs.Prelude.{not}
use Rattle.std.specs.List.{filter}
use Rattle.ir_diff.specs.Changes.{lead_starts, has_lead}
use Rattle.ir_diff.specs.Cuts.{AreLowerStarts}
use Rattle.ir_diff.proofs.changes.put_of.Given as goal

abbrev pub invariant-loop-lead : goal.invariant-loop-lead
invariant-loop-lead l = record {
  made : l.put.items ≡ filter (λ m. not (has_lead l.old m)) (take l.lead-index l.new);
  below : l.lead-index < length l.new → AreLowerStarts l.old (get_or (lead_starts l.new) l.lead-index 0) l.place;
}
