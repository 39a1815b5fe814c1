use Rattle.std.proofs.Common.{◌≡◌, ◌≢◌, ℕ, ◌<◌, ◌∙◌, Some, sym, subst}
use Rattle.ir_model.specs.declared.Kind.{Kind}
use Rattle.ir_model.specs.declared.Kind.TheVariants.{Tree}
use Rattle.ir_model.specs.Topology.{Topology, node_count}
use Rattle.ir_model.specs.Plan.{Plan}
use Rattle.ir_plan.specs.Building.{Labelling}
use Rattle.ir_plan.proofs.DepthFirst.{labels_same, rows_same, table_same}
use Rattle.ir_core.specs.Meaning.{IsMade}
use Rattle.ir_core.proofs.Labelled.{IsTwin, twins}
use Rattle.ir_core.proofs.laws.made_plan_is_determined.Goals as goal

module _ (labels : Labelling) (kind : Kind) (net : Topology) (p q : Plan) (a : IsMade labels kind net (Some p)) (b : IsMade labels kind net (Some q)) where
  twin : IsTwin p q
  twin = twins net kind labels p q a b

  apart : kind ≢ Tree → p.kind ≢ Tree
  apart other e = other (sym a.of_kind ∙ e)

  in_p : (u : ℕ) → u < node_count net → u < node_count p.topology
  in_p u lt = subst (λ (x : Topology). u < node_count x) (sym a.over) lt

pub returns : goal.returns
returns c = record {
  order = λ labels kind net p q m. (twin labels kind net p q m.0 m.1).order;
  labels = λ labels kind net p q m. (let two = twin labels kind net p q m.0 m.1 in labels_same p q m.0.valid two.like two.order);
  tables = λ labels kind net p q other m u d hu hd.
      (let two = twin labels kind net p q m.0 m.1 in
      table_same p q (apart labels kind net p q m.0 m.1 other) m.0.valid two.like two.order u d (in_p labels kind net p q m.0 m.1 u hu) (in_p labels kind net p q m.0 m.1 d hd));
  rows = λ labels kind net p q other m.
      (let two = twin labels kind net p q m.0 m.1 in rows_same p q (apart labels kind net p q m.0 m.1 other) m.0.valid two.like two.order);
}
