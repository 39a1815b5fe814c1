use Rattle.std.proofs.Common.{◌≡◌, ◌/◌, ◌^◌, ◌≤◌}
use Rattle.ir_lanes.specs.Marks.{IsMarking}
use Rattle.ir_lanes.proofs.marks.put_word.Given as goal

abbrev pub invariant-loop-rest : goal.invariant-loop-rest
invariant-loop-rest l = record {
  few : l.bit ≤ 16;
  rest : l.rest ≡ l.word / 2 ^ l.bit;
  marking : IsMarking l.word l.first l.bit l.initial.row.items l.initial.marked.items l.row.items l.marked.items;
}

abbrev pub decreases-loop-rest : goal.decreases-loop-rest
decreases-loop-rest l = l.rest
