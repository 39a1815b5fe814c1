-- The installs of a list of steps join all nodes, and the plans beside them are theirs.
use Rattle.std.proofs.Common.{◌≡◌, ◌∙◌, ℕ, Option, Some, None, zero, suc, List, [], ◌∷◌, length, ap, sym, subst, arith}
use Rattle.std.proofs.lemmas.Option.{none-some, same_Some}
use Rattle.ir_model.specs.declared.Kind.{Kind}
use Rattle.ir_model.specs.declared.Kind.TheVariants.{Tree}
use Rattle.ir_model.specs.Topology.{Topology, node_count}
use Rattle.ir_model.specs.Walk.{IsConnected}
use Rattle.ir_model.specs.Plan.{Plan, IsPlan}
use Rattle.ir_plan.specs.declared.tour.LabelOrder.{LabelOrder}
use Rattle.ir_plan.specs.Building.{ByList, IsLabelled, HasRoot, MayLabel}
use Rattle.ir_core.specs.Drafts.{items_of, labelling_by}
use Rattle.ir_core.proofs.Labelled.{listed}
use Rattle.ir_model.proofs.Restrict.{node_count-restrict}
use Rattle.ir_core.specs.declared.built.Install.{Install}
use Rattle.ir_core.specs.declared.opening.Opening.{Opening}
use Rattle.ir_core.specs.declared.event.Step.{Step}
use Rattle.ir_core.specs.Setting.{Setting}
use Rattle.ir_core.specs.History.{plans}
use Rattle.ir_core.specs.Installed.{IsBuiltFrom, AreBuiltFrom}
use Rattle.ir_core.specs.Installed as core
use Rattle.ir_trace.specs.Checked.{IsInstall, AreInstalls, ArePlansOf}

-- what a plan is labelled by, it may be labelled by over any network of as many nodes
labels_for : (net : Topology) (t : Plan) → IsPlan t → node_count t.topology ≡ node_count net → (labels : LabelOrder) (root : ℕ) (kept : Option (List ℕ)) (kind : Kind) → (kind ≡ Tree → kept ≡ None)
    → IsLabelled (labelling_by labels root kept) t → HasRoot net (labelling_by labels root kept) × MayLabel net kind (labelling_by labels root kept)
labels_for net t is same labels root None kind tree by = (let root_in = is.root_in in omega (arith, root_in, same, by.1), tt)
labels_for net t is same labels root (Some order) kind tree by =
    (tt, subst (λ (xs : List ℕ). MayLabel net kind (ByList xs)) by (listed net t is same kind (λ e. none-some order (sym (tree e)))))

is_install : (o : Setting) (i : Install) (s : Plan) → IsBuiltFrom o i s → IsInstall o.topology i
is_install o i s built =
    let made = built.1 in
    let nodes = ap (λ (n : Topology). length n.ports) made.over ∙ node_count-restrict i.up.items o.topology in
    let by = labels_for o.topology s made.valid nodes i.labels i.root (items_of i.kept) i.kind built.3 made.labelled in
    record {
      some = (let root_in = made.valid.root_in in omega (arith, root_in, nodes));
      root = by.0;
      labels = by.1;
      marks = built.0;
      joined = subst (λ (n : Topology). IsConnected n) made.over made.valid.connected;
    }

each_install : (o : Setting) (installs : List Install) (plans : List Plan) → AreBuiltFrom o installs plans → AreInstalls o.topology installs
each_install o [] [] built i install at = absurd (none-some install at)
each_install o [] (s ∷ plans) built i install at = absurd built
each_install o (x ∷ installs) [] built i install at = absurd built
each_install o (x ∷ installs) (s ∷ plans) built zero install at = subst (λ (y : Install). IsInstall o.topology y) (same_Some x install at) (is_install o x s built.0)
each_install o (x ∷ installs) (s ∷ plans) built (suc i) install at = each_install o installs plans built.1 i install at

pub replayed : (opening : Opening) (steps : List Step) (installs : List Install) → core.AreInstallsOf opening steps installs → AreInstalls opening.topology installs
replayed opening steps installs is =
    subst (λ (n : Topology). AreInstalls n installs) is.opened.topology (each_install is.setting installs (plans is.setting is.log) is.built)

plans_built : (o : Setting) (installs : List Install) (made : List Plan) → AreBuiltFrom o installs made → ArePlansOf o.topology installs made
plans_built o [] [] built = tt
plans_built o [] (s ∷ made) built = absurd built
plans_built o (x ∷ installs) [] built = absurd built
plans_built o (x ∷ installs) (s ∷ made) built = (built.0.1, plans_built o installs made built.1)

-- the plans beside the installs of a list of steps are theirs
pub replayed_plans : (opening : Opening) (steps : List Step) (installs : List Install) (made : List Plan) → core.AreInstallsWithPlans opening steps installs made → ArePlansOf opening.topology installs made
replayed_plans opening steps installs made is =
    let run = is.installs_are in
    subst (λ (n : Topology). ArePlansOf n installs made) run.opened.topology
    (subst (ArePlansOf run.setting.topology installs) (sym is.plans_are) (plans_built run.setting installs (plans run.setting run.log) run.built))
