use Rattle.ir_plan.proofs.DepthFirst.{labels_same, rows_same, table_same}
use Rattle.ir_plan.proofs.Labelled.{order_determined}
use Rattle.ir_plan.proofs.laws.labels_are_determined.Goals as goal

pub returns : goal.returns
returns c = record {
  order = order_determined;
  labels = λ labels p q is like one other. labels_same p q is like (order_determined labels p q is like one other);
  tables = λ labels p q is like apart one other. table_same p q apart is like (order_determined labels p q is like one other);
  rows = λ labels p q is like apart one other. rows_same p q apart is like (order_determined labels p q is like one other);
}
