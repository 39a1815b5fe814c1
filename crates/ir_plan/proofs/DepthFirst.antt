-- Plans of one kind, network and order have the same rows, and first plans of one kind, network and root the same order.
use Rattle.std.proofs.Common.{◌≡◌, ◌≢◌, ℕ, ◌<◌, List, [], ◌∷◌, length, map, get_or, Option, Some, refl, ap, sym, ◌∙◌, subst, inl, inr, arith}
use Rattle.std.specs.Prelude.{All, slice_index}
use Rattle.std.proofs.lemmas.Bool.{cases_eq}
use Rattle.std.proofs.lemmas.List.{same_lists, get_or_default}
use Rattle.std.proofs.lemmas.List.Elements.{All-head, All-tail}
use Rattle.ir_model.specs.declared.Kind.{Kind}
use Rattle.ir_model.specs.declared.Kind.TheVariants.{Tree, Shortest, Compact, Landmark}
use Rattle.ir_model.specs.Topology.{Topology, node_count, IsTopology}
use Rattle.ir_model.specs.Numbering.{neighbors_of}
use Rattle.ir_model.specs.Row.{Start}
use Rattle.ir_model.specs.Compiled.{IsCanonical}
use Rattle.ir_model.specs.Compact.{IsCompactTable}
use Rattle.ir_model.specs.Landmark.{IsLandmarkTable}
use Rattle.ir_model.specs.Table.{IsShortestTable}
use Rattle.ir_model.specs.Plan.{Plan, IsPlan, AreLabels, IsTableOf, table_port, label_in, row_in, by_label}
use Rattle.ir_model.proofs.Compact.{compact_same}
use Rattle.ir_model.proofs.Ordered.{canonical_same}
use Rattle.ir_model.proofs.Ranked.{order_same}
use Rattle.ir_model.proofs.Within.{within_same}
use Rattle.ir_model.specs.Landmark.{IsLandmarkBound}
use Rattle.ir_bounds.proofs.Determined.{block_labels_same, most_linked_same}
use Rattle.ir_plan.specs.Starts.{IsPlanAs, IsDepthFirstOrder, IsFirstOrder, IsFirstPlan}

-- a network has one shortest table
pub shortest_same : (net : Topology) (table other : ℕ → ℕ → Option ℕ) → IsShortestTable net table → IsShortestTable net other → (u d : ℕ) → u < node_count net → d < node_count net → table u d ≡ other u d
shortest_same net table other a b u d hu hd =
    elim (cases_eq u d) [
      | inl e ↦ subst (λ (x : ℕ). table x d ≡ other x d) (sym e) (a.own d hd ∙ sym (b.own d hd))
      | inr ne ↦
          let p = a.port u d hu hd ne in
          let q = b.port u d hu hd ne in
          let same : p.0 ≡ q.0 = omega (arith, p.2.least q.0 q.2.nearer, q.2.least p.0 p.2.nearer) in
          p.1 ∙ ap (λ (x : ℕ). Some x) same ∙ sym q.1
    ]

-- an order gives each node one label
label_same : (n : ℕ) (order labels others : List ℕ) → AreLabels n order labels → AreLabels n order others → (u : ℕ) → u < n → slice_index labels u ≡ slice_index others u
label_same n order labels others a b u hu = sym (b.back (slice_index labels u) (a.label u hu)) ∙ ap (slice_index others) (a.there u hu)

map_same : (f g : ℕ → Option ℕ) (xs : List ℕ) → All (λ x. f x ≡ g x) xs → map f xs ≡ map g xs
map_same f g [] all = refl
map_same f g (x ∷ xs) all =
    let here : f x ≡ g x = All-head (λ y. f y ≡ g y) x xs all in
    let rest : map f xs ≡ map g xs = map_same f g xs (All-tail (λ y. f y ≡ g y) x xs all) in
    cc (here, rest)

canonical_alike : (n m own mine : ℕ) (ports given : List (Option ℕ)) (row other : List Start) → n ≡ m → own ≡ mine → ports ≡ given → IsCanonical n own ports row → IsCanonical m mine given other → row ≡ other
canonical_alike n m own mine ports given row other en eo ep a b =
    canonical_same n own ports row other a
    (subst (λ (x : ℕ). IsCanonical x own ports other) (sym en) (subst (λ (x : ℕ). IsCanonical m x ports other) (sym eo) (subst (λ (x : List (Option ℕ)). IsCanonical m mine x other) (sym ep) b)))

-- Two plans with one order and one table over one network have the same rows.
module _ (p q : Plan) (is : IsPlan p) (so : IsPlan q) (nodes : node_count p.topology ≡ node_count q.topology) (order : p.order ≡ q.order)
    (table : (u d : ℕ) → u < node_count p.topology → d < node_count p.topology → table_port p u d ≡ table_port q u d) where
  named : AreLabels (node_count p.topology) p.order q.labels
  named = subst (λ (n : ℕ). AreLabels n p.order q.labels) (sym nodes) (subst (λ (xs : List ℕ). AreLabels (node_count q.topology) xs q.labels) (sym order) so.labels)

  ports_same : (u : ℕ) → u < node_count p.topology → by_label p u ≡ by_label q u
  ports_same u hu =
      map_same (table_port p u) (table_port q u) p.order
      (λ a v within. table u (get_or p.order a v) hu
      (subst (λ (x : ℕ). x < node_count p.topology) (get_or_default p.order a 0 v within) (is.labels.node a (omega (arith, within, is.labels.every_label)))))
      ∙ ap (map (table_port q u)) order

  row_same : (u : ℕ) → u < node_count p.topology → row_in p u ≡ row_in q u
  row_same u hu =
      canonical_alike (node_count p.topology) (node_count q.topology) (label_in p u) (label_in q u) (by_label p u) (by_label q u) (row_in p u) (row_in q u)
      nodes (label_same (node_count p.topology) p.order p.labels q.labels is.labels named u hu) (ports_same u hu) (is.rows u hu) (so.rows u (omega (arith, hu, nodes)))

  pub rows_alike : p.rows ≡ q.rows
  rows_alike =
      let every : length p.rows ≡ length q.rows = is.row_of_each ∙ nodes ∙ sym so.row_of_each in
      same_lists p.rows q.rows every
      (λ u d within.
      get_or_default p.rows u d [] within
      ∙ row_same u (omega (arith, within, is.row_of_each))
      ∙ get_or_default q.rows u [] d (omega (arith, within, every)))

-- a network has one depth-first order from a root
depth_first_same : (net : Topology) (root : ℕ) (order other : List ℕ) → IsDepthFirstOrder net root order → IsDepthFirstOrder net root other → order ≡ other
depth_first_same net root order other a b = order_same (neighbors_of net) (node_count net) root order a.0 other b.0 a.1 b.1

-- a kind, a network and a root have one first order
first_order_same : (kind : Kind) (net : Topology) → IsTopology net → (root : ℕ) (order other : List ℕ) → IsFirstOrder kind net root order → IsFirstOrder kind net root other → order ≡ other
first_order_same Tree net ok root order other a b = depth_first_same net root order other a b
first_order_same Shortest net ok root order other a b = depth_first_same net root order other a b
first_order_same Compact net ok root order other a b = depth_first_same net root order other a b
first_order_same (Landmark t) net ok root order other a b = block_labels_same net ok root t.landmarks order other a b

-- the order of a first plan is that of the kind, the network and the root
pub first_order : (p q : Plan) → IsFirstPlan p → IsPlanAs p q → IsFirstPlan q → p.order ≡ q.order
first_order p q first like other =
    let is : IsPlan q = like.plan in
    first_order_same p.kind p.topology (subst IsTopology like.topology is.topology) p.root p.order q.order first
    (subst (λ (x : ℕ). IsFirstOrder p.kind p.topology x q.order) like.root
    (subst (λ (x : Topology). IsFirstOrder p.kind x q.root q.order) like.topology
    (subst (λ (x : Kind). IsFirstOrder x q.topology q.root q.order) like.kind other)))

-- the labels are those of the order
pub labels_same : (p q : Plan) → IsPlan p → IsPlanAs p q → p.order ≡ q.order → p.labels ≡ q.labels
labels_same p q is like order =
    let n = node_count p.topology in
    let so = like.plan in
    let named : AreLabels n p.order q.labels = subst (λ (m : ℕ). AreLabels m p.order q.labels) (ap node_count like.topology) (subst (λ (xs : List ℕ). AreLabels (node_count q.topology) xs q.labels) (sym order) so.labels) in
    same_lists p.labels q.labels (is.labels.every_node ∙ sym named.every_node)
    (λ u d within.
    get_or_default p.labels u d 0 within
    ∙ label_same n p.order p.labels q.labels is.labels named u (omega (arith, within, is.labels.every_node))
    ∙ get_or_default q.labels u 0 d (omega (arith, within, is.labels.every_node, named.every_node)))

-- the same table, by the kind
by_kind : (k : Kind) (p q : Plan) → k ≢ Tree → p.kind ≡ k → IsPlan p → IsPlanAs p q → p.order ≡ q.order → (u d : ℕ) → u < node_count p.topology → d < node_count p.topology → table_port p u d ≡ table_port q u d
by_kind Tree p q other kind is like same = absurd (other refl)
by_kind Shortest p q other kind is like same =
    let so = like.plan in
    let table = subst (λ (k : Kind). IsTableOf k p.topology p.order is.parents (table_port p)) kind is.table in
    let theirs = subst (λ (k : Kind). IsTableOf k q.topology q.order so.parents (table_port q)) (like.kind ∙ kind) so.table in
    let over = subst (λ (net : Topology). IsShortestTable net (table_port q)) like.topology theirs in
    shortest_same p.topology (table_port p) (table_port q) table over
by_kind Compact p q other kind is like same =
    let so = like.plan in
    let table = subst (λ (k : Kind). IsTableOf k p.topology p.order is.parents (table_port p)) kind is.table in
    let theirs = subst (λ (k : Kind). IsTableOf k q.topology q.order so.parents (table_port q)) (like.kind ∙ kind) so.table in
    let over = subst (λ (net : Topology). IsCompactTable net q.order (table_port q)) like.topology theirs in
    let ordered = subst (λ (xs : List ℕ). IsCompactTable p.topology xs (table_port q)) (sym same) over in
    compact_same p.topology p.order p.labels is.labels (table_port p) (table_port q) table ordered
by_kind (Landmark t) p q other kind is like same =
    let net = p.topology in
    let so = like.plan in
    let K : Topology → List ℕ → (ℕ → ℕ → Option ℕ) → Type 0 = λ x xs port. IsTableOf (Landmark t) x xs so.parents port in
    let table = subst (λ (k : Kind). IsTableOf k net p.order is.parents (table_port p)) kind is.table in
    let theirs = subst (λ (k : Kind). IsTableOf k q.topology q.order so.parents (table_port q)) (like.kind ∙ kind) so.table in
    let over : K net q.order (table_port q) = subst (λ (x : Topology). K x q.order (table_port q)) like.topology theirs in
    let ordered : K net p.order (table_port q) = subst (λ (xs : List ℕ). K net xs (table_port q)) (sym same) over in
    let landmarks : ordered.0 ≡ table.0 = most_linked_same net (slice_index p.order 0) t.landmarks ordered.0 table.0 ordered.1 table.1 in
    within_same net (IsLandmarkBound net table.0 t.stretch) p.order p.labels is.labels (table_port p) (table_port q) table.2
    (subst (λ (ls : List ℕ). IsLandmarkTable net ls t.stretch p.order (table_port q)) landmarks ordered.2)

-- plans of one kind other than Tree, network and order have the same table, and the same rows
pub table_same : (p q : Plan) → p.kind ≢ Tree → IsPlan p → IsPlanAs p q → p.order ≡ q.order → (u d : ℕ) → u < node_count p.topology → d < node_count p.topology → table_port p u d ≡ table_port q u d
table_same p q other is like same = by_kind p.kind p q other refl is like same

pub rows_same : (p q : Plan) → p.kind ≢ Tree → IsPlan p → IsPlanAs p q → p.order ≡ q.order → p.rows ≡ q.rows
rows_same p q other is like same = rows_alike p q is like.plan (ap node_count (sym like.topology)) same (table_same p q other is like same)
