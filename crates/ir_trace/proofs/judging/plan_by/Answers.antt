use Rattle.std.proofs.Common.{◌≡◌, ◌∙◌, ℕ, ◌<◌, List, Option, Some, None, true, false, refl, ap, sym, subst, arith}
use Rattle.ir_model.specs.Topology.{Topology, node_count, restrict}
use Rattle.ir_model.proofs.Restrict.{node_count-restrict}
use Rattle.ir_plan.specs.declared.error.PlanError.{PlanError}
use Rattle.ir_plan.specs.declared.error.PlanError.TheVariants.{NoNode, Empty, Disconnected, NoMemory}
use Rattle.ir_plan.specs.declared.tour.LabelOrder.{LabelOrder}
use Rattle.ir_plan.specs.Building.{Labelling, HasRoot, HasNoRoot, MayLabel, IsPlanBy, RefusesPlan}
use Rattle.ir_core.specs.declared.built.Install.{Install}
use Rattle.ir_core.specs.Drafts.{items_of, labelling_by}
use Rattle.ir_core.specs.Installed.{labelled_by}
use Rattle.ir_trace.specs.Checked.{IsInstall}
use Rattle.ir_trace.proofs.judging.plan_by.Goals as goal

-- where there is a root, none is missing
not_missing : (net over : Topology) → node_count over ≡ node_count net → (labels : Labelling) → HasRoot net labels → HasNoRoot over labels → ⊥
not_missing net over same (Labelling.FromRoot order root) is none = omega (arith, is, none, same)
not_missing net over same (Labelling.ByList list) is none = none

-- the plan of an install is refused for memory alone
for_memory : (topology : Topology) (install : Install) → IsInstall topology install → (error : PlanError)
    → RefusesPlan (restrict install.up.items topology) (labelled_by install) error → error ≡ NoMemory
for_memory topology install is NoNode refuses = absurd (not_missing topology (restrict install.up.items topology) (node_count-restrict install.up.items topology) (labelled_by install) is.root refuses.1)
for_memory topology install is Empty refuses = absurd (let some = is.some in omega (arith, some, node_count-restrict install.up.items topology, refuses))
for_memory topology install is Disconnected refuses =
    let off = refuses.2 in
    let way = is.joined off.0 off.1 off.2 off.3 in
    absurd (off.4 way.0 way.1)
for_memory topology install is NoMemory refuses = refl

-- an order that was copied
by_copy : (install : Install) (kept : Option (List ℕ)) → kept ≡ items_of install.kept → labelling_by install.labels install.root kept ≡ labelled_by install
by_copy install kept same = ap (labelling_by install.labels install.root) same

pub unreachable-requires : goal.unreachable-requires
unreachable-requires g c =
    let topology = c.args.topology.now in
    let install = c.args.install.now in
    let kept : c.in_ok-kept.kept ≡ restrict install.up.items topology = c.in_ok-kept.ensures ∙ ap (λ marks. restrict marks topology) c.as_slice.ensures.value in
    let labels = by_copy install (items_of c.in_ok-kept_order.kept_order) c.in_ok-kept_order.ensures in
    let over = subst (λ (l : Labelling). RefusesPlan c.in_ok-kept.kept l c.in-Err.error) labels c.in-Err.ensures.refused in
    let refuses = subst (λ (over : Topology). RefusesPlan over (labelled_by install) c.in-Err.error) kept over in
    let memory : c.in-Err.error ≡ NoMemory = for_memory topology install c.requires c.in-Err.error refuses in
    let other : true ≡ false = rw memory at c.if-ne.ensures in cc other
