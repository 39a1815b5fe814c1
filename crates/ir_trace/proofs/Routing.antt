-- Plans of one install, and of one list of installs, route alike.
use Rattle.std.proofs.Common.{◌≡◌, ◌≢◌, ◌⊎◌, ℕ, zero, suc, ◌<◌, ◌≤◌, ◌-◌, List, [], ◌∷◌, length, refl, sym, ap, subst, ◌∙◌, inl, inr, arith}
use Rattle.ir_model.specs.declared.Kind.{Kind}
use Rattle.ir_model.specs.declared.Kind.TheVariants.{Tree}
use Rattle.ir_model.specs.Topology.{Topology, node_count, restrict}
use Rattle.ir_model.specs.Numbering.{neighbors_of, IsDepthFirst}
use Rattle.ir_model.specs.Tree.{IsTreeTable}
use Rattle.ir_model.specs.Plan.{Plan, IsPlan, IsTableOf, table_port}
use Rattle.ir_model.proofs.Ranked.{parents_same}
use Rattle.ir_plan.specs.Building.{Labelling, IsPlanBy}
use Rattle.ir_plan.specs.Starts.{IsPlanAs}
use Rattle.ir_plan.proofs.DepthFirst.{labels_same, rows_alike, table_same}
use Rattle.ir_plan.proofs.Labelled.{tree_or_not}
use Rattle.ir_core.specs.declared.built.Install.{Install}
use Rattle.ir_core.specs.Installed.{labelled_by}
use Rattle.ir_core.proofs.Labelled.{twins}
use Rattle.ir_trace.specs.Checked.{plan_at, ArePlansOf}
use Rattle.ir_trace.specs.Judged.{RoutesAs, RouteAlike}
use Rattle.ir_trace.proofs.OneTree.{table_moved, one_table}

-- two tree plans of one order, root and network
module _ (p q : Plan) (is : IsPlan p) (like : IsPlanAs p q) (order : p.order ≡ q.order) (tree : p.kind ≡ Tree) where
  numbers : IsDepthFirst (neighbors_of p.topology) (node_count p.topology) p.root p.order is.parents
  numbers = is.numbering tree

  others : IsDepthFirst (neighbors_of p.topology) (node_count p.topology) p.root p.order like.plan.parents
  others =
      let so = like.plan in
      subst (λ (xs : List ℕ). IsDepthFirst (neighbors_of p.topology) (node_count p.topology) p.root xs so.parents) (sym order)
      (subst (λ (r : ℕ). IsDepthFirst (neighbors_of p.topology) (node_count p.topology) r q.order so.parents) like.root
      (subst (λ (net : Topology). IsDepthFirst (neighbors_of net) (node_count net) q.root q.order so.parents) like.topology (so.numbering (like.kind ∙ tree))))

  table : IsTreeTable p.topology p.order is.parents (table_port p)
  table = subst (λ (k : Kind). IsTableOf k p.topology p.order is.parents (table_port p)) tree is.table

  theirs : IsTreeTable p.topology p.order is.parents (table_port q)
  theirs =
      let so = like.plan in
      let given : IsTreeTable q.topology q.order so.parents (table_port q) = subst (λ (k : Kind). IsTableOf k q.topology q.order so.parents (table_port q)) (like.kind ∙ tree) so.table in
      let over : IsTreeTable p.topology q.order so.parents (table_port q) = subst (λ (net : Topology). IsTreeTable net q.order so.parents (table_port q)) like.topology given in
      let ordered : IsTreeTable p.topology p.order so.parents (table_port q) = subst (λ (xs : List ℕ). IsTreeTable p.topology xs so.parents (table_port q)) (sym order) over in
      let every = numbers.every in
      table_moved p.order so.parents is.parents
      (λ i from h. sym (parents_same (neighbors_of p.topology) (node_count p.topology) p.root p.order is.parents p.order so.parents numbers others i from (omega arith)))
      p.topology (table_port q) ordered

  tree_same : (u d : ℕ) → u < node_count p.topology → d < node_count p.topology → table_port p u d ≡ table_port q u d
  tree_same = one_table p.topology is.topology p.order is.parents p.labels p.root numbers is.labels (table_port p) (table_port q) table theirs

-- two plans of one kind and network that are labelled by the same
module _ (labels : Labelling) (kind : Kind) (net : Topology) (p q : Plan) (a : IsPlanBy net kind labels p) (b : IsPlanBy net kind labels q) where
  alike : IsPlanAs p q
  alike = (twins net kind labels p q a b).like

  same : p.order ≡ q.order
  same = (twins net kind labels p q a b).order

  ports : (u d : ℕ) → u < node_count p.topology → d < node_count p.topology → table_port p u d ≡ table_port q u d
  ports =
      elim (tree_or_not p.kind) [
        | inl tree ↦ tree_same p q a.valid alike same tree
        | inr other ↦ table_same p q other a.valid alike same
      ]

  pub routes_as : RoutesAs p q
  routes_as = record {
    topology = sym alike.topology;
    labels = labels_same p q a.valid alike same;
    ports = ports;
    rows = rows_alike p q a.valid b.valid (ap node_count (sym alike.topology)) same ports;
  }

-- ---- the plans of installs

length_of : (net : Topology) (installs : List Install) (plans : List Plan) → ArePlansOf net installs plans → length plans ≡ length installs
length_of net [] [] are = refl
length_of net [] (t ∷ plans) are = absurd are
length_of net (i ∷ installs) [] are = absurd are
length_of net (i ∷ installs) (t ∷ plans) are = ap suc (length_of net installs plans are.1)

alike_at : (net : Topology) (installs : List Install) (plans others : List Plan) → ArePlansOf net installs plans → ArePlansOf net installs others
    → (e : ℕ) → 0 < e → e ≤ length plans → RoutesAs (plan_at plans e) (plan_at others e)
alike_at net installs plans others are so zero above le = absurd (omega arith)
alike_at net [] [] others are so (suc e) above le = absurd (omega arith)
alike_at net [] (t ∷ plans) others are so (suc e) above le = absurd are
alike_at net (i ∷ installs) [] others are so (suc e) above le = absurd are
alike_at net (i ∷ installs) (t ∷ plans) [] are so (suc e) above le = absurd so
alike_at net (i ∷ installs) (t ∷ plans) (s ∷ others) are so (suc zero) above le = routes_as (labelled_by i) i.kind (restrict i.up.items net) t s are.0 so.0
alike_at net (i ∷ installs) (t ∷ plans) (s ∷ others) are so (suc (suc e)) above le =
    let back : suc (suc e) - 1 ≡ suc e = omega arith in
    let before : suc e - 1 ≡ e = omega arith in
    let later = alike_at net installs plans others are.1 so.1 (suc e) (omega arith) (omega arith) in
    rw back (rw before at later)

pub plans_alike : (net : Topology) (installs : List Install) (plans others : List Plan) → ArePlansOf net installs plans → ArePlansOf net installs others → RouteAlike plans others
plans_alike net installs plans others are so = record {
  every = length_of net installs plans are ∙ sym (length_of net installs others so);
  each = alike_at net installs plans others are so;
}
