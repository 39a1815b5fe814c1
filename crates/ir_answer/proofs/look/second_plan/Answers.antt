use Rattle.std.proofs.Common.{◌≡◌, ◌∙◌, true, false, subst}
use Rattle.ir_model.specs.Topology.{Topology}
use Rattle.ir_plan.specs.Building.{FromRoot, RefusesPlan}
use Rattle.ir_plan.specs.declared.error.PlanError.TheVariants.{NoMemory}
use Rattle.ir_plan.specs.declared.tour.LabelOrder.TheVariants as orders
use Rattle.ir_answer.proofs.Looking.{second_refused}
use Rattle.ir_answer.proofs.look.second_plan.Goals as goal

pub unreachable-requires : goal.unreachable-requires
unreachable-requires g c =
    let plan = c.args.plan.now in
    let root = c.args.second.1 in
    let copy : c.in_ok-topology.topology ≡ plan.topology = c.in_ok-topology.ensures ∙ c.topology.ensures in
    let refuses = subst (λ (over : Topology). RefusesPlan over (FromRoot orders.DepthFirst root) c.in-Err.error) copy c.in-Err.ensures.refused in
    let memory : c.in-Err.error ≡ NoMemory = second_refused plan c.invariant.ensures.plan root c.requires.root c.in-Err.error refuses in
    let other : true ≡ false = rw memory at c.if-ne.ensures in cc other
