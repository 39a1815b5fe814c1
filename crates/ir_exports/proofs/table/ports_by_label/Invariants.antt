use Rattle.std.proofs.Common.{◌≡◌, take}
use Rattle.ir_model.specs.Plan.{by_label}
use Rattle.ir_exports.specs.Before.{AreBelow}
use Rattle.ir_exports.proofs.table.ports_by_label.Given as goal

abbrev pub invariant-loop-label : goal.invariant-loop-label
invariant-loop-label l = record {
  ports : l.ports.items ≡ take l.label (by_label l.plan l.u);
  below : AreBelow l.row l.label l.below;
}
