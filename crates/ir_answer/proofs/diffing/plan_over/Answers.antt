use Rattle.std.proofs.Common.{◌∙◌, ap, subst}
use Rattle.ir_core.specs.Codes.{open_error_of}
use Rattle.ir_model.specs.Topology.{Topology}
use Rattle.ir_plan.specs.Building.{RefusesPlan, labelling_of}
use Rattle.ir_answer.proofs.diffing.plan_over.Goals as goal

pub returns-in-Err-clause-refused : goal.returns-in-Err-clause-refused
returns-in-Err-clause-refused g c = λ other. (
  c.in-Err.error,
  (λ same. other (c.from.ensures ∙ ap open_error_of same)),
  subst (λ (topology : Topology). RefusesPlan topology (labelling_of c.args.labels) c.in-Err.error) c.in-Ok.ensures c.in-Err.ensures.refused,
  c.from.ensures,
)
