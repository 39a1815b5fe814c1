use Rattle.std.proofs.Common.{◌≡◌, ◌≢◌, ◌<◌, ◌∙◌, ℕ, List, refl, arith}
use Rattle.std.proofs.lemmas.Result.{IfErr-weaker}
use Rattle.ir_model.specs.Topology.{Topology, node_count}
use Rattle.ir_model.specs.Walk.{IsDisconnected}
use Rattle.ir_plan.specs.declared.error.PlanError.{PlanError}
use Rattle.ir_plan.specs.declared.error.PlanError.TheVariants.{NoNode, Empty, Disconnected, NoMemory}
use Rattle.ir_plan.specs.Building.{ByList, RefusesPlan}
use Rattle.ir_plan.proofs.Labelled.{built_by_list}
use Rattle.ir_plan.proofs.building.listed_plan.Goals as goal

some_node : (n : ℕ) → n ≢ 0 → 0 < n
some_node n some = omega (arith, some)

-- what a refusal of numbers by a list says
refused_from : (net : Topology) (list : List ℕ) (e : PlanError) → 0 < node_count net → (e ≡ Disconnected → IsDisconnected net) → e ≢ Empty → e ≢ NoNode → RefusesPlan net (ByList list) e
refused_from net list Empty some cut not_empty not_gone = absurd (not_empty refl)
refused_from net list NoNode some cut not_empty not_gone = absurd (not_gone refl)
refused_from net list Disconnected some cut not_empty not_gone = (some, tt, cut refl)
refused_from net list NoMemory some cut not_empty not_gone = (some, tt)

pub rows_of-rows-requires-clause-labels : goal.rows_of-rows-requires-clause-labels
rows_of-rows-requires-clause-labels g c κs within = c.in-Ok.ensures.labels

pub rows_of-rows-requires-clause-tree : goal.rows_of-rows-requires-clause-tree
rows_of-rows-requires-clause-tree g c κs within = λ tree. absurd (c.requires.kind tree)

pub rows_of-rows-requires-clause-connected : goal.rows_of-rows-requires-clause-connected
rows_of-rows-requires-clause-connected g c κs within = c.in-Ok.ensures.connected

pub rows_of-rows-requires-clause-some : goal.rows_of-rows-requires-clause-some
rows_of-rows-requires-clause-some g c κs within = some_node (node_count c.args.topology) (λ e. c.if-nodes-eq0.false (c.nodes.ensures.count ∙ e))

pub of_rows-requires-clause-connected : goal.of_rows-requires-clause-connected
of_rows-requires-clause-connected g c = c.in-Ok.ensures.connected

pub of_rows-requires-clause-labels : goal.of_rows-requires-clause-labels
of_rows-requires-clause-labels g c = c.in-Ok.ensures.labels

pub of_rows-requires-clause-rows : goal.of_rows-requires-clause-rows
of_rows-requires-clause-rows g c = c.rows_of-rows.ensures

pub of_rows-requires-clause-depth_first : goal.of_rows-requires-clause-depth_first
of_rows-requires-clause-depth_first g c = λ tree. absurd (c.requires.kind tree)

pub returns-in-Err-clause-refused : goal.returns-in-Err-clause-refused
returns-in-Err-clause-refused g c =
    refused_from c.args.topology c.args.list.items c.in-Err.refusal (some_node (node_count c.args.topology) (λ e. c.if-nodes-eq0.false (c.nodes.ensures.count ∙ e)))
    c.in-Err.ensures.disconnected c.in-Err.ensures.others.0 c.in-Err.ensures.others.1

pub returns-in-Ok-clause-made : goal.returns-in-Ok-clause-made
returns-in-Ok-clause-made g c =
    built_by_list c.of_rows.result c.args.topology c.args.kind c.in-Ok.numbers.order c.args.list.items c.in-Ok.ensures.order c.of_rows.ensures.kind c.of_rows.ensures.topology c.of_rows.ensures.order c.of_rows.ensures.plan

pub returns-in-Ok-clause-refused : goal.returns-in-Ok-clause-refused
returns-in-Ok-clause-refused g c =
    let net = c.args.topology in
    let some = some_node (node_count net) (λ e. c.if-nodes-eq0.false (c.nodes.ensures.count ∙ e)) in
    IfErr-weaker c.of_rows.result (λ (e : PlanError × Topology). e.0 ≡ NoMemory) (λ (e : PlanError × Topology). RefusesPlan net (ByList c.args.list.items) e.0)
    (λ e memory. rw memory (some, tt)) c.of_rows.ensures.memory
