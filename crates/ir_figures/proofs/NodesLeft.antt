-- Networks without a node: how many nodes they have, and what their plans are labelled by.
use Rattle.std.proofs.Common.{◌≡◌, ◌≢◌, ◌∙◌, ℕ, zero, suc, ◌+◌, ◌-◌, ◌<◌, List, [], ◌∷◌, Bool, true, false, not, cond, nat_lt, ◌==◌, length, map, filter, get_or, refl, sym, ap, subst, arith, ltb}
use Rattle.std.proofs.lemmas.Bool.{ltb-true, ltb-false, eqb-false, ne_eqb, eq-eqb}
use Rattle.std.specs.List.{All, AllPairs}
use Rattle.std.specs.Prelude.{bytes_eq, Option, None, Some}
use Rattle.std.proofs.lemmas.List.{length-map, get_or-map}
use Rattle.std.proofs.lemmas.List.Elements.{All-map, All-filter, filter_passes}
use Rattle.std.proofs.lemmas.List.Kept.{AllPairs-filter}
use Rattle.std.proofs.lemmas.Map.Keys.{apart_from_distinct}
use Rattle.std.proofs.lemmas.Grind.{get_or_default_zero}
use Rattle.ir_model.specs.declared.Kind.{Kind}
use Rattle.ir_model.specs.declared.Kind.TheVariants.{Tree, Shortest, Compact, Landmark}
use Rattle.ir_model.specs.Graph.{Name, Neighbors, Adjacency, names, without_node, without, IsGraph}
use Rattle.ir_model.specs.OfGraph.{topology_of_graph, node_ports}
use Rattle.ir_model.specs.Topology.{node_count}
use Rattle.ir_model.specs.Plan.{Plan, IsPlan, AreLabels}
use Rattle.ir_model.proofs.Names.{bytes_eq-same, bytes_eq-swap}
use Rattle.ir_numbering.specs.Numbering.{IsListing}
use Rattle.ir_trace.specs.Written.{name_at}
use Rattle.ir_plan.specs.Building.{Labelling, MayLabel, HasRoot}
use Rattle.ir_plan.specs.declared.tour.LabelOrder.{LabelOrder}
use Rattle.ir_figures.specs.Failures.{network_without, number_left, root_left, list_left, labelling_less, labelling_without}

-- a list whose elements all pass stays as long
all_pass : {X : Type 0} (p : X → Bool) (xs : List X) (d : X) → ((j : ℕ) → j < length xs → p (get_or xs j d) ≡ true) → length (filter p xs) ≡ length xs
all_pass p [] d every = refl
all_pass p (x ∷ xs) d every =
    ap (λ (b : Bool). length (cond b (x ∷ filter p xs) (filter p xs))) (every 0 (omega arith))
    ∙ ap (λ (n : ℕ). suc n) (all_pass p xs d (λ j lt. every (suc j) (omega (arith, lt))))

-- one that a single element does not pass gets shorter by one
pub one_less : {X : Type 0} (p : X → Bool) (xs : List X) (d : X) (i : ℕ) → i < length xs → p (get_or xs i d) ≡ false
    → ((j : ℕ) → j < length xs → j ≢ i → p (get_or xs j d) ≡ true) → length (filter p xs) + 1 ≡ length xs
one_less p [] d i lt fails others = absurd (omega (arith, lt))
one_less p (x ∷ xs) d zero lt fails others =
    let here : length (filter p (x ∷ xs)) ≡ length (filter p xs) = ap (λ (b : Bool). length (cond b (x ∷ filter p xs) (filter p xs))) fails in
    let rest = all_pass p xs d (λ j below. others (suc j) (omega (arith, below)) (λ e. omega (arith, e))) in
    omega (arith, here, rest)
one_less p (x ∷ xs) d (suc i) lt fails others =
    let here : length (filter p (x ∷ xs)) ≡ suc (length (filter p xs)) = ap (λ (b : Bool). length (cond b (x ∷ filter p xs) (filter p xs))) (others 0 (omega arith) (λ e. omega (arith, e))) in
    let rest = one_less p xs d i (omega (arith, lt)) fails (λ j below other. others (suc j) (omega (arith, below)) (λ e. other (omega (arith, e)))) in
    omega (arith, here, rest)

-- two names of a graph differ
names_differ : (g : Adjacency) (j k : ℕ) → IsGraph g → j < length g → k < length g → j ≢ k → bytes_eq (name_at (names g) k) (name_at (names g) j) ≡ false
names_differ g j k is below lt other =
    let named : length (names g) ≡ length g = length-map g (λ (r : Name × Neighbors). r.0) in
    by (ltb j k) refl
  where
    by : (b : Bool) → ltb j k ≡ b → bytes_eq (name_at (names g) k) (name_at (names g) j) ≡ false
    by true t = bytes_eq-swap (name_at (names g) k) (name_at (names g) j) ∙ apart_from_distinct bytes_eq (names g) j k [] is.nodes_differ (ltb-true j k t) (omega (arith, lt, length-map g (λ (r : Name × Neighbors). r.0)))
    by false t = apart_from_distinct bytes_eq (names g) k j [] is.nodes_differ (omega (arith, ltb-false j k t, other)) (omega (arith, below, length-map g (λ (r : Name × Neighbors). r.0)))

-- the network without a node has one node less
pub count_left : (g : Adjacency) (k : ℕ) → IsGraph g → k < length g → node_count (network_without g k) + 1 ≡ length g
count_left g k is lt =
    let x = name_at (names g) k in
    let p : Name × Neighbors → Bool = λ r. not (bytes_eq x r.0) in
    let name : (j : ℕ) → j < length g → get_or (names g) j [] ≡ (get_or g j ([], [])).0 = λ j below. get_or-map (λ (r : Name × Neighbors). r.0) g j ([], []) [] below in
    let here : p (get_or g k ([], [])) ≡ false = ap (λ (y : Name). not (bytes_eq x y)) (sym (name k lt)) ∙ ap not (bytes_eq-same x) in
    let others : (j : ℕ) → j < length g → j ≢ k → p (get_or g j ([], [])) ≡ true =
    λ j below other. ap (λ (y : Name). not (bytes_eq x y)) (sym (name j below)) ∙ ap not (names_differ g j k is below lt other) in
    let ports = length-map (without_node g x) (λ r. node_ports (without_node g x) r.0 r.1) in
    let rows = length-map {B = Name × Neighbors} (filter p g) (λ (r : Name × Neighbors). (r.0, without r.1 x)) in
    let less = one_less p g ([], []) k lt here others in
    omega (arith, ports, rows, less)

-- ---- labels

left_below : (k u n left : ℕ) → k < n → u < n → (u ≡ k → ⊥) → left + 1 ≡ n → number_left k u < left
left_below k u n left lt below other less = by (nat_lt k u) refl
  where
    by : (b : Bool) → nat_lt k u ≡ b → cond b (u - 1) u < left
    by true t = omega (arith, ltb-true k u t, below, less)
    by false t = omega (arith, ltb-false k u t, below, less, other, lt)

left_differ : (k u v : ℕ) → (u ≡ k → ⊥) → (v ≡ k → ⊥) → (u ≡ v → ⊥) → number_left k u ≡ number_left k v → ⊥
left_differ k u v no_u no_v differ = by (nat_lt k u) (nat_lt k v) refl refl
  where
    by : (b c : Bool) → nat_lt k u ≡ b → nat_lt k v ≡ c → cond b (u - 1) u ≡ cond c (v - 1) v → ⊥
    by true true s t e = differ (omega (arith, ltb-true k u s, ltb-true k v t, e))
    by true false s t e = omega (arith, ltb-true k u s, ltb-false k v t, e, no_u, no_v)
    by false true s t e = omega (arith, ltb-false k u s, ltb-true k v t, e, no_u, no_v)
    by false false s t e = differ e

pub root_below : (k root n left : ℕ) → k < n → root < n → left + 1 ≡ n → 0 < left → root_left k root < left
root_below k root n left lt below less some = by (root == k) refl
  where
    by : (b : Bool) → (root == k) ≡ b → cond b 0 (number_left k root) < left
    by true t = some
    by false t = left_below k root n left lt below (eqb-false root k t) less

-- what is left of a listing is a listing
pub listed_left : (order labels : List ℕ) (k n left : ℕ) → AreLabels n order labels → k < n → left + 1 ≡ n → IsListing left (list_left k order)
listed_left order labels k n left are lt less =
    let p : ℕ → Bool = λ u. not (u == k) in
    let at : ℕ = get_or labels k 0 in
    let at_in : at < n = are.label k lt in
    let there : get_or order at 0 ≡ k = are.there k lt in
    let others : (j : ℕ) → j < length order → j ≢ at → p (get_or order j 0) ≡ true =
    λ j below other. ap not (ne_eqb (get_or order j 0) k (λ e. other (sym (are.back j (omega (arith, below, are.every_label))) ∙ ap (λ (u : ℕ). get_or labels u 0) e))) in
    let kept = one_less p order 0 at (omega (arith, at_in, are.every_label)) (ap not (eq-eqb (get_or order at 0) k there)) others in
    let passes = filter_passes p order in
    let no_k : (u : ℕ) → p u ≡ true → u ≡ k → ⊥ = λ u pass e. cc (pass, ap not (eq-eqb u k e)) in
    let nodes : All (λ u. u < n) order = λ a d below. omega (arith, get_or_default_zero order a d below, are.node a (omega (arith, below, are.every_label))) in
    let once : AllPairs (λ u v. u ≢ v) order = λ i j d lt within e.
    let first = get_or_default_zero order i d (omega (arith, lt, within)) in
    let last = get_or_default_zero order j d within in
    let labels_same : get_or labels (get_or order i 0) 0 ≡ get_or labels (get_or order j 0) 0 = ap (λ (u : ℕ). get_or labels u 0) (sym first ∙ e ∙ last) in
    omega (arith, sym (are.back i (omega (arith, lt, within, are.every_label))) ∙ labels_same ∙ are.back j (omega (arith, within, are.every_label)), lt) in
    record {
      every = omega (arith, length-map (filter p order) (number_left k), kept, are.every_label, less);
      nodes = All-map (λ u. u < left) (number_left k) (filter p order) (λ a d below. left_below k (get_or (filter p order) a d) n left lt (All-filter p (λ u. u < n) order nodes a d below) (no_k _ (passes a d below)) less);
      once = λ i j d lt within.
          let within' : j < length (filter p order) = omega (arith, within, length-map (filter p order) (number_left k)) in
          let below : i < length (filter p order) = omega (arith, lt, within') in
          let first = get_or-map (number_left k) (filter p order) i 0 d below in
          let last = get_or-map (number_left k) (filter p order) j 0 d within' in
          λ e. left_differ k _ _ (no_k _ (passes i 0 below)) (no_k _ (passes j 0 within')) (AllPairs-filter (λ u v. u ≢ v) p order once i j 0 lt within') (sym first ∙ e ∙ last);
    }

-- ---- what is asked of labels

may_less : (kind : Kind) (plan : Plan) (g : Adjacency) (k : ℕ) → IsPlan plan → node_count plan.topology ≡ length g → k < length g → IsGraph g
    → MayLabel (network_without g k) kind (labelling_less kind plan k)
may_less Tree plan g k is same lt graph = tt
may_less Shortest plan g k is same lt graph = (λ e. cc e, listed_left plan.order plan.labels k (node_count plan.topology) _ is.labels (omega (arith, lt, same)) (omega (arith, count_left g k graph lt, same)))
may_less Compact plan g k is same lt graph = (λ e. cc e, listed_left plan.order plan.labels k (node_count plan.topology) _ is.labels (omega (arith, lt, same)) (omega (arith, count_left g k graph lt, same)))
may_less (Landmark t) plan g k is same lt graph = (λ e. cc e, listed_left plan.order plan.labels k (node_count plan.topology) _ is.labels (omega (arith, lt, same)) (omega (arith, count_left g k graph lt, same)))

-- the labels of the plan without a node may be its labels
pub may_label_without : (kind : Kind) (plan : Plan) (order : Option LabelOrder) (g : Adjacency) (k : ℕ) → IsPlan plan → node_count plan.topology ≡ length g → k < length g → IsGraph g
    → MayLabel (network_without g k) kind (labelling_without kind plan order k)
may_label_without kind plan (Some order) g k is same lt graph = tt
may_label_without kind plan None g k is same lt graph = may_less kind plan g k is same lt graph

root_less : (kind : Kind) (plan : Plan) (g : Adjacency) (k : ℕ) → root_left k plan.root < node_count (network_without g k) → HasRoot (network_without g k) (labelling_less kind plan k)
root_less Tree plan g k below = below
root_less Shortest plan g k below = tt
root_less Compact plan g k below = tt
root_less (Landmark t) plan g k below = tt

-- and the root is a node, where one is left
pub has_root_without : (kind : Kind) (plan : Plan) (order : Option LabelOrder) (g : Adjacency) (k : ℕ) → IsPlan plan → node_count plan.topology ≡ length g → k < length g → IsGraph g
    → 0 < node_count (network_without g k) → HasRoot (network_without g k) (labelling_without kind plan order k)
has_root_without kind plan order g k is same lt graph some =
    let below = root_below k plan.root (length g) _ lt (omega (arith, is.root_in, same)) (count_left g k graph lt) some in
    by order below
  where
    by : (order : Option LabelOrder) → root_left k plan.root < node_count (network_without g k) → HasRoot (network_without g k) (labelling_without kind plan order k)
    by (Some order) below = below
    by None below = root_less kind plan g k below
