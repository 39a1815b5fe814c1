use Rattle.std.proofs.Common.{◌≡◌, ℕ, ◌+◌, ◌-◌, ◌<◌, List, [], ◌∷◌, ◌++◌, length, slice_index_or, Option, Some, None, refl, sym, ap, ◌∙◌, subst, arith, Bool, inl, inr}
use Rattle.std.specs.Prelude.{Ok, Err}
use Rattle.ir_model.specs.declared.Kind.{Kind}
use Rattle.ir_model.specs.Topology.{Topology, port_at, restrict}
use Rattle.ir_model.specs.Plan.{Plan, IsPlan}
use Rattle.ir_model.proofs.Restrict.{node_count-restrict, port_at-restrict}
use Rattle.ir_core.specs.declared.board.Board.{Board}
use Rattle.ir_core.specs.declared.event.Reply.TheVariants.{Installed}
use Rattle.ir_core.specs.declared.event.Refused.{Refused}
use Rattle.ir_core.specs.declared.event.Refused.TheVariants.{Disconnected, NoMemory}
use Rattle.ir_core.specs.Setting.{Setting, IsPlanFor, nodes_of, links_of, no_plan}
use Rattle.ir_core.specs.Board.{installed, links_used}
use Rattle.ir_core.specs.Refusals.{install_refused}
use Rattle.ir_core.specs.Entry.{Entry, DidInstall}
use Rattle.ir_core.specs.Meaning.{newest_of, newest, newest_plan, topology_up, IsMade, InstallsUnless, Installs, install_refusal}
use Rattle.ir_core.specs.World.{World, IsWorld, sight_in, after}
use Rattle.ir_core.specs.Handled.{IsInstallAnswer}
use Rattle.ir_core.proofs.Keeps.{first_same}
use Rattle.ir_core.specs.Codes.{refused_of}
use Rattle.ir_plan.specs.declared.error.PlanError.{PlanError}
use Rattle.ir_plan.specs.declared.error.PlanError.TheVariants as plan
use Rattle.ir_plan.specs.declared.tour.LabelOrder.{LabelOrder}
use Rattle.ir_plan.specs.Building.{Labelling, MayLabel, RefusesPlan}
use Rattle.ir_core.specs.Drafts.{kept_order, labelling_by}
use Rattle.ir_core.proofs.Labelled.{lacks_no_root, may_keep}

-- an install that is refused before any plan is made
pub refused_here : (s now : World) → s ≡ now → (labels : Labelling) (kind : Kind) (root : ℕ) (e : Refused) → install_refusal s.opening (sight_in s) root ≡ Some e → IsInstallAnswer now now labels kind root (Err e)
refused_here s now same labels kind root e is =
    let comes : Installs s.opening (sight_in s) labels kind root (Err e) = subst (λ (x : Option Refused). InstallsUnless s.opening (sight_in s) labels kind (Err e) x) (sym is) refl in
    subst (λ (x : World). IsInstallAnswer x x labels kind root (Err e)) same (inl (Err e, comes, (refl, refl)))

-- what the newest board was asked
pub asked_here : (s : World) (nodes epochs : ℕ) (b : Board) (root : ℕ) (x : Option Refused) → nodes ≡ nodes_of s.opening → epochs ≡ length s.plans → b ≡ newest_of s.boards → x ≡ install_refused nodes epochs b root →
    install_refusal s.opening (sight_in s) root ≡ x
asked_here s nodes epochs b root x n e is told = sym (told ∙ rw (n, e, is) refl)

-- the network over the links that are up and heeded in a board
abbrev pub up_in : Setting → Board → Topology
up_in o b = restrict (links_used b (links_of o)) o.topology

-- an install for which memory is wanted
pub memory_here : (s now : World) → s ≡ now → (labels : Labelling) (kind : Kind) (root : ℕ) → install_refusal s.opening (sight_in s) root ≡ None → IsInstallAnswer now now labels kind root (Err NoMemory)
memory_here s now same labels kind root none = subst (λ (x : World). IsInstallAnswer x x labels kind root (Err NoMemory)) same (inr (none, refl, refl))

-- an install over a disconnected network
pub disconnected_here : (s now : World) → s ≡ now → (labels : Labelling) (kind : Kind) (root : ℕ) (b : Board) → b ≡ newest_of s.boards → install_refusal s.opening (sight_in s) root ≡ None →
    IsMade labels kind (up_in s.opening b) None → IsInstallAnswer now now labels kind root (Err Disconnected)
disconnected_here s now same labels kind root b is none apart =
    let made : IsMade labels kind (topology_up s.opening (sight_in s)) None = subst (λ (x : Board). IsMade labels kind (up_in s.opening x) None) is apart in
    let comes : Installs s.opening (sight_in s) labels kind root (Err Disconnected) =
    subst (λ (x : Option Refused). InstallsUnless s.opening (sight_in s) labels kind (Err Disconnected) x) (sym none) (None, made, refl) in
    subst (λ (x : World). IsInstallAnswer x x labels kind root (Err Disconnected)) same (inl (Err Disconnected, comes, (refl, refl)))

-- an install for which there is no plan
pub plan_refused_here : (s now : World) → s ≡ now → (kind : Kind) (root : ℕ) (b : Board) → b ≡ newest_of s.boards → install_refusal s.opening (sight_in s) root ≡ None → root < nodes_of s.opening → (order : LabelOrder) (kept : Option (List ℕ)) (e : PlanError) →
    RefusesPlan (up_in s.opening b) (labelling_by order root kept) e → IsInstallAnswer now now (labelling_by order root kept) kind root (Err (refused_of e))
plan_refused_here s now same kind root b is none within order kept plan.Disconnected told = disconnected_here s now same (labelling_by order root kept) kind root b is none told.2
plan_refused_here s now same kind root b is none within order kept plan.NoMemory told = memory_here s now same (labelling_by order root kept) kind root none
plan_refused_here s now same kind root b is none within order kept plan.Empty told = absurd (let count = node_count-restrict (links_used b (links_of s.opening)) s.opening.topology in omega (arith, count, told, within))
plan_refused_here s now same kind root b is none within order kept plan.NoNode told =
    absurd (lacks_no_root (up_in s.opening b) order root kept (let count = node_count-restrict (links_used b (links_of s.opening)) s.opening.topology in omega (arith, count, within)) told.1)

-- a plan that was made over the links that are up is a plan for the network
pub made_plan : (o : Setting) (labels : Labelling) (kind : Kind) (up : List Bool) (t : Plan) → IsMade labels kind (restrict up o.topology) (Some t) → IsPlanFor o t
made_plan o labels kind up t is = record {
  plan = is.valid;
  nodes = ap (λ (n : Topology). length n.ports) is.over ∙ node_count-restrict up o.topology;
  links = ap (λ (n : Topology). n.links) is.over;
  ports = λ u p hop at. let was = port_at-restrict up o.topology u p hop (ap (λ (n : Topology). port_at n u p) (sym is.over) ∙ at) in (was.0, was.1);
}

-- a plan over the whole network is one
pub whole_plan : (o : Setting) (t : Plan) → IsPlan t → t.topology ≡ o.topology → IsPlanFor o t
whole_plan o t is same = record {
  plan = is;
  nodes = ap (λ (n : Topology). length n.ports) same;
  links = ap (λ (n : Topology). n.links) same;
  ports = λ u p hop at. (p, ap (λ (n : Topology). port_at n u p) (sym same) ∙ at);
}

-- an install that is accepted
pub installed_here : (s now : World) → s ≡ now → (labels : Labelling) (kind : Kind) (root epoch : ℕ) (b : Board) (t : Plan) (new : World) → b ≡ newest_of s.boards → install_refusal s.opening (sight_in s) root ≡ None →
    IsMade labels kind (up_in s.opening b) (Some t) → epoch ≡ length s.plans + 1 → new ≡ record s { boards = s.boards ++ installed b epoch ∷ []; plans = s.plans ++ t ∷ [] } → IsInstallAnswer now new labels kind root (Ok (Installed epoch))
installed_here s now same labels kind root epoch b t new is none made is_epoch to =
    let made' : IsMade labels kind (topology_up s.opening (sight_in s)) (Some t) = subst (λ (x : Board). IsMade labels kind (up_in s.opening x) (Some t)) is made in
    let entry : Entry = DidInstall (length s.plans + 1) t (installed (newest (sight_in s)) (length s.plans + 1)) in
    let comes : Installs s.opening (sight_in s) labels kind root (Ok entry) =
    subst (λ (x : Option Refused). InstallsUnless s.opening (sight_in s) labels kind (Ok entry) x) (sym none) (Some t, made', refl) in
    let there : new ≡ after s entry = to ∙ rw (is, is_epoch) refl in
    subst (λ (x : World). IsInstallAnswer x new labels kind root (Ok (Installed epoch))) same (inl (Ok entry, comes, (ap (λ (n : ℕ). Ok (Installed n)) is_epoch, there)))

-- the world after an install, from what the code read and wrote
pub installed_world : (s : World) → 0 < length s.plans → s.opening.first ≡ slice_index_or s.plans 0 no_plan → (epoch : ℕ) (newest next : Board) (t : Plan) (mid boards : List Board) (plans : List Plan) →
    next ≡ installed newest epoch → mid ≡ s.boards → boards ≡ mid ++ next ∷ [] → plans ≡ s.plans ++ t ∷ [] →
    record s { opening = record s.opening { first = slice_index_or plans 0 no_plan }; boards = boards; plans = plans } ≡ record s { boards = s.boards ++ installed newest epoch ∷ []; plans = s.plans ++ t ∷ [] }
installed_world s some first epoch newest next t mid boards plans made same more pushed =
    let one : slice_index_or (s.plans ++ t ∷ []) 0 no_plan ≡ s.opening.first = first_same s.plans t no_plan some ∙ sym first in
    rw (pushed, more, same, made) (ap (λ (f : Plan). record s { opening = record s.opening { first = f }; boards = s.boards ++ installed newest epoch ∷ []; plans = s.plans ++ t ∷ [] }) one)

-- the labels of the plan that an install asks for, from what the code read
module _ (s now : World) (same : s ≡ now) (keeps : Bool) (kind : Kind) (root : ℕ) (kept : Option (List ℕ)) (is : kept ≡ kept_order keeps kind (newest_plan now.opening (sight_in now)).order) where
  pub labels_asked : labelling_by s.opening.labels root kept ≡ labelling_by now.opening.labels root (kept_order keeps kind (newest_plan now.opening (sight_in now)).order)
  labels_asked = ap (labelling_by s.opening.labels root) is ∙ ap (λ (x : World). labelling_by x.opening.labels root (kept_order keeps kind (newest_plan now.opening (sight_in now)).order)) same

  pub answers_asked : (e : Refused) → IsInstallAnswer now now (labelling_by s.opening.labels root kept) kind root (Err e)
      → IsInstallAnswer now now (labelling_by now.opening.labels root (kept_order keeps kind (newest_plan now.opening (sight_in now)).order)) kind root (Err e)
  answers_asked e answer = subst (λ (l : Labelling). IsInstallAnswer now now l kind root (Err e)) labels_asked answer

  pub may_ask : IsWorld s → MayLabel s.opening.topology kind (labelling_by s.opening.labels root kept)
  may_ask ok =
      let t = newest_plan s.opening (sight_in s) in
      let each = ok.plans.each (length s.plans - 1) in
      let here : kept ≡ kept_order keeps kind t.order = is ∙ ap (λ (x : World). kept_order keeps kind (newest_plan x.opening (sight_in x)).order) (sym same) in
      subst (λ (o : Option (List ℕ)). MayLabel s.opening.topology kind (labelling_by s.opening.labels root o)) (sym here) (may_keep s.opening.topology t each.plan each.nodes s.opening.labels root keeps kind)
