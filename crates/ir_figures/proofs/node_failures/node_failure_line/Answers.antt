use Rattle.std.proofs.Common.{◌≡◌, ◌∙◌, ◌++◌, ◌<◌, ◌∷◌, [], List, ℕ, ap, refl, length, sym, subst, string_bytes, true, arith, Some}
use Rattle.std.proofs.lemmas.List.{length-map}
use Rattle.std.proofs.lemmas.Option.{slice_get-get_or}
use Rattle.ir_graph.proofs.Places.{has_node_at}
use Rattle.ir_model.specs.declared.Kind.{Kind}
use Rattle.ir_model.specs.Graph.{Adjacency, Name, Neighbors, names, has_node, without_node}
use Rattle.ir_model.specs.OfGraph.{topology_of_graph}
use Rattle.ir_model.specs.Topology.{Topology, node_count}
use Rattle.ir_plan.specs.Building.{Labelling, MayLabel, HasRoot, labelling_of}
use Rattle.ir_trace.specs.Written.{name_at}
use Rattle.ir_show.specs.Words.{line_text}
use Rattle.ir_figures.specs.Failures.{network_without, labelling_without}
use Rattle.ir_figures.proofs.FailureLines.{one_told, words_over, other_numbers}
use Rattle.ir_figures.proofs.NodesLeft.{count_left, may_label_without, has_root_without}
use Rattle.ir_figures.proofs.node_failures.node_failure_line.Goals as goal

pub network_without-requires : goal.network_without-requires
network_without-requires c =
    let g = c.args.graph.now in
    let x : Name = name_at (names g) c.args.k in
    let k_in : c.args.k < length (names g) = omega (arith, c.requires.node, length-map g (λ (r : Name × Neighbors). r.0)) in
    let has : has_node g x ≡ true = has_node_at g c.args.k x (slice_get-get_or (names g) c.args.k [] k_in) in
    record {
      node =
          subst (λ (h : Adjacency). has_node h c.name_of-name.result.now ≡ true) (sym c.requires.copied)
          (subst (λ (y : Name). has_node g y ≡ true) (sym c.name_of-name.ensures) has);
    }

pub push_plan-requires-clause-labels : goal.push_plan-requires-clause-labels
push_plan-requires-clause-labels c =
    let g = c.args.graph.now in
    let s = c.args.plan.now in
    let over : c.in_ok-left.left ≡ network_without g c.args.k =
    c.in_ok-left.ensures ∙ ap (λ (h : Adjacency). topology_of_graph (without_node h c.name_of-name.result.now)) c.requires.copied ∙ ap (λ (y : Name). topology_of_graph (without_node g y)) c.name_of-name.ensures in
    let same : node_count s.topology ≡ length g = ap node_count c.requires.over ∙ length-map g _ in
    subst (λ (n : Topology). MayLabel n c.args.kind (labelling_of c.in_ok-labels.labels)) (sym over)
    (subst (λ (l : Labelling). MayLabel (network_without g c.args.k) c.args.kind l) (sym c.in_ok-labels.ensures)
    (may_label_without c.args.kind s c.args.order g c.args.k c.invariant.ensures.plan same c.requires.node c.invariant-2.ensures.graph))

pub push_plan-requires-clause-root : goal.push_plan-requires-clause-root
push_plan-requires-clause-root c =
    let g = c.args.graph.now in
    let s = c.args.plan.now in
    let over : c.in_ok-left.left ≡ network_without g c.args.k =
    c.in_ok-left.ensures ∙ ap (λ (h : Adjacency). topology_of_graph (without_node h c.name_of-name.result.now)) c.requires.copied ∙ ap (λ (y : Name). topology_of_graph (without_node g y)) c.name_of-name.ensures in
    let same : node_count s.topology ≡ length g = ap node_count c.requires.over ∙ length-map g _ in
    λ some.
    subst (λ (n : Topology). HasRoot n (labelling_of c.in_ok-labels.labels)) (sym over)
    (subst (λ (l : Labelling). HasRoot (network_without g c.args.k) l) (sym c.in_ok-labels.ensures)
    (has_root_without c.args.kind s c.args.order g c.args.k c.invariant.ensures.plan same c.requires.node c.invariant-2.ensures.graph (omega (arith, some, ap node_count over))))

pub push_plan-requires-clause-numbers : goal.push_plan-requires-clause-numbers
push_plan-requires-clause-numbers c =
    let g = c.args.graph.now in
    let s = c.args.plan.now in
    let over : c.in_ok-left.left ≡ network_without g c.args.k =
    c.in_ok-left.ensures ∙ ap (λ (h : Adjacency). topology_of_graph (without_node h c.name_of-name.result.now)) c.requires.copied ∙ ap (λ (y : Name). topology_of_graph (without_node g y)) c.name_of-name.ensures in
    let same : node_count s.topology ≡ length g = ap node_count c.requires.over ∙ length-map g _ in
    other_numbers c.args.other.now s.topology c.args.k (node_count c.in_ok-left.left) c.requires.other (omega (arith, ap node_count over, count_left g c.args.k c.invariant-2.ensures.graph c.requires.node, same))

pub returns : goal.returns
returns c =
    let g = c.args.graph.now in
    let s = c.args.plan.now in
    let over : c.in_ok-left.left ≡ network_without g c.args.k =
    c.in_ok-left.ensures ∙ ap (λ (h : Adjacency). topology_of_graph (without_node h c.name_of-name.result.now)) c.requires.copied ∙ ap (λ (y : Name). topology_of_graph (without_node g y)) c.name_of-name.ensures in
    let told = c.in_ok-push_plan.ensures in
    let old = string_bytes c.new-text.result in
    record {
      words = told.0;
      left = words_over c.args.other.now (Some c.args.k) (network_without g c.args.k) c.in_ok-left.left c.args.kind c.args.kind (labelling_without c.args.kind s c.args.order c.args.k) (labelling_of c.in_ok-labels.labels) told.0 over refl c.in_ok-labels.ensures told.1;
      whole =
          one_told old (string_bytes c.push_str.new.self) (string_bytes c.push_plan.new.text) (string_bytes c.push_str-2.new.self) (name_at (names g) c.args.k) told.0
          (c.in_ok-push_str.ensures.bytes ∙ ap (λ (t : List ℕ). old ++ t) c.name_of-name.ensures)
          told.2
          c.in_ok-push_str-2.ensures.bytes
          ∙ ap (λ (t : List ℕ). t ++ line_text (name_at (names g) c.args.k ∷ told.0)) c.new-text.ensures.bytes;
    }
