use Rattle.std.proofs.Common.{◌≡◌, ◌↔◌, ◌<◌, ◌≤◌, ℕ, List, Ok, Err, refl, sym, subst, inl, inr, arith}
use Rattle.std.specs.Prelude.{IfOk}
use Rattle.std.specs.declared.result.Result.{Result}
use Rattle.std.proofs.lemmas.Result.{IfErr-weaker}
use Rattle.std.proofs.lemmas.Bool.{cases_lt}
use Rattle.ir_model.specs.declared.Kind.{Kind}
use Rattle.ir_model.specs.Plan.{Plan, IsPlan}
use Rattle.ir_model.specs.Topology.{Topology, node_count}
use Rattle.ir_model.specs.Walk.{IsDisconnected}
use Rattle.ir_plan.specs.declared.error.PlanError.{PlanError}
use Rattle.ir_plan.specs.declared.error.PlanError.TheVariants.{NoNode, Empty, Disconnected, NoMemory}
use Rattle.ir_plan.specs.declared.tour.LabelOrder.TheVariants.{DepthFirst}
use Rattle.ir_plan.specs.Building.{FromRoot, IsPlanBy, RefusesPlan}
use Rattle.ir_plan.specs.Starts.{IsFirstOrder}
use Rattle.ir_plan.proofs.building.first_plan.Goals as goal

-- what a refusal of numbers says
refused_from : (net : Topology) (root : ℕ) (e : PlanError) → (e ≡ Empty) ↔ (node_count net ≡ 0) → (e ≡ NoNode) ↔ ((0 < node_count net) × (node_count net ≤ root))
    → (e ≡ Disconnected → (0 < node_count net) × (root < node_count net) × IsDisconnected net) → RefusesPlan net (FromRoot DepthFirst root) e
refused_from net root Empty empty no_node disconnected = empty.0 refl
refused_from net root NoNode empty no_node disconnected = no_node.0 refl
refused_from net root Disconnected empty no_node disconnected = disconnected refl
refused_from net root NoMemory empty no_node disconnected =
    elim (cases_lt 0 (node_count net)) [
      | inl some ↦
          elim (cases_lt root (node_count net)) [
            | inl in_net ↦ (some, in_net)
            | inr past ↦ absurd (cc (no_node.1 (some, past)))
          ]
      | inr none ↦ absurd (cc (empty.1 (omega (arith, none))))
    ]

pub returns-in-Err-clause-refused : goal.returns-in-Err-clause-refused
returns-in-Err-clause-refused g c = refused_from c.args.topology c.args.root _ c.in-Err.ensures.empty c.in-Err.ensures.no_node c.in-Err.ensures.disconnected

pub rows_of-rows-requires-clause-labels : goal.rows_of-rows-requires-clause-labels
rows_of-rows-requires-clause-labels g c κs within = c.in-Ok.ensures.labels

pub rows_of-rows-requires-clause-tree : goal.rows_of-rows-requires-clause-tree
rows_of-rows-requires-clause-tree g c κs within = c.in-Ok.ensures.numbering

pub rows_of-rows-requires-clause-some : goal.rows_of-rows-requires-clause-some
rows_of-rows-requires-clause-some g c κs within = let root = c.in-Ok.ensures.root in omega (arith, root)

pub of_rows-requires-clause-rows : goal.of_rows-requires-clause-rows
of_rows-requires-clause-rows g c = c.rows_of-rows.ensures

-- a plan of first numbers is one from their root
built_from : {E : Type 0} (r : Result Plan E) (net : Topology) (kind : Kind) (root : ℕ) (order : List ℕ) → IsFirstOrder kind net root order
    → IfOk r (λ p. p.kind ≡ kind) → IfOk r (λ p. p.root ≡ root) → IfOk r (λ p. p.topology ≡ net) → IfOk r (λ p. p.order ≡ order) → IfOk r IsPlan → IfOk r (IsPlanBy net kind (FromRoot DepthFirst root))
built_from (Ok p) net kind root order numbers of_kind at_root over by valid = record {
  valid = valid;
  over = over;
  of_kind = of_kind;
  labelled = (
    subst (λ (k : Kind). IsFirstOrder k p.topology p.root p.order) (sym of_kind)
        (subst (λ (x : Topology). IsFirstOrder kind x p.root p.order) (sym over)
        (subst (λ (x : ℕ). IsFirstOrder kind net x p.order) (sym at_root) (subst (λ (x : List ℕ). IsFirstOrder kind net root x) (sym by) numbers))),
    at_root,
  );
}
built_from (Err e) net kind root order numbers of_kind at_root over by valid = tt

pub returns-in-Ok-clause-made : goal.returns-in-Ok-clause-made
returns-in-Ok-clause-made g c =
    let numbers = c.in-Ok.numbering in
    let made = c.of_rows.ensures in
    built_from c.of_rows.result c.args.topology c.args.kind c.args.root numbers.order c.in-Ok.ensures.order made.kind made.root made.topology made.order made.plan

pub returns-in-Ok-clause-refused : goal.returns-in-Ok-clause-refused
returns-in-Ok-clause-refused g c =
    let net = c.args.topology in
    let root = c.in-Ok.ensures.root in
    let some : 0 < node_count net = omega (arith, root) in
    IfErr-weaker c.of_rows.result (λ (e : PlanError × Topology). e.0 ≡ NoMemory) (λ (e : PlanError × Topology). RefusesPlan net (FromRoot DepthFirst c.args.root) e.0)
    (λ e memory. rw memory (some, root)) c.of_rows.ensures.memory
