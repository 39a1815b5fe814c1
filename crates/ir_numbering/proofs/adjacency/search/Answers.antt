use Rattle.std.proofs.Common.{◌≡◌, ◌≤◌, ◌<◌, ◌∙◌, ℕ, List, length, map, ap, sym, subst, arith}
use Rattle.std.specs.Prelude.{Contains}
use Rattle.std.specs.Global.{Vec}
use Rattle.std.proofs.lemmas.List.{length-map}
use Rattle.std.proofs.lemmas.Result.{IfOk-weaker}
use Rattle.ir_model.specs.declared.Hop.{Hop}
use Rattle.ir_model.specs.Topology.{Topology, node_count, IsTopology}
use Rattle.ir_model.specs.Numbering.{neighbors_of, IsDepthFirst}
use Rattle.ir_numbering.specs.Search.{list_at, AreAdjacent, IsClosed, IsOneCutOff}
use Rattle.ir_numbering.specs.declared.search.Order.{Order}
use Rattle.ir_numbering.proofs.Neighbors.{node_in, neighbors_below}
use Rattle.ir_numbering.proofs.Traversal.{some_unseen, walk_is_closed}
use Rattle.ir_numbering.proofs.Adjacent.{lists_are_neighbors, depth_first_by}
use Rattle.ir_numbering.proofs.adjacency.search.Goals as goal

module _ (net : Topology) (lists : List (Vec ℕ)) (are : map (λ list. list.items) lists ≡ map (map (λ (hop : Hop). hop.node)) net.ports) where
  many : length lists ≡ node_count net
  many = sym (length-map lists (λ (list : Vec ℕ). list.items)) ∙ ap (λ (ls : List (List ℕ)). length ls) are ∙ length-map net.ports (map node_in)

  near : (u : ℕ) → list_at lists u ≡ neighbors_of net u
  near = lists_are_neighbors net lists are

  adjacent : IsTopology net → AreAdjacent lists
  adjacent ok u lt = rw (many, near u) (neighbors_below net ok u)

  found_all : (root : ℕ) (order : Order) → (length lists ≤ length order.nodes.items → IsDepthFirst (list_at lists) (length lists) root order.nodes.items order.parents.items)
      → node_count net ≤ length order.nodes.items → IsDepthFirst (neighbors_of net) (node_count net) root order.nodes.items order.parents.items
  found_all root order all enough =
      depth_first_by (list_at lists) (neighbors_of net) (node_count net) root order.nodes.items order.parents.items (λ u lt. near u)
      (subst (λ (n : ℕ). IsDepthFirst (list_at lists) n root order.nodes.items order.parents.items) many (all (omega (arith, many, enough))))

  found_some : (root : ℕ) (order : Order) → (length order.nodes.items < length lists → IsClosed (list_at lists) root order.nodes.items) → length order.nodes.items < node_count net → IsOneCutOff net root
  found_some root order some few =
      let is = some (omega (arith, many, few)) in
      let closed : IsClosed (neighbors_of net) root order.nodes.items = record { root_in = is.root_in; closed = λ u v has next. is.closed u v has (subst (λ (xs : List ℕ). Contains xs v) (sym (near u)) next) } in
      let u = some_unseen (node_count net) order.nodes.items few in
      (u.0, u.1, λ walk way. u.2 (walk_is_closed net root order.nodes.items closed u.0 walk way))

pub search_lists-requires-clause-root : goal.search_lists-requires-clause-root
search_lists-requires-clause-root c = rw c.as_slice.ensures.value (let m = many c.args.topology.now c.in_ok-lists.lists.items c.in_ok-lists.ensures in omega (arith, m, c.requires))

pub search_lists-requires-clause-nodes : goal.search_lists-requires-clause-nodes
search_lists-requires-clause-nodes c = rw c.as_slice.ensures.value (adjacent c.args.topology.now c.in_ok-lists.lists.items c.in_ok-lists.ensures c.invariant.ensures.topology)

pub returns-clause-all : goal.returns-clause-all
returns-clause-all c =
    let net = c.args.topology.now in
    let lists = c.in_ok-lists.lists.items in
    IfOk-weaker c.search_lists.result (λ (order : Order). length lists ≤ length order.nodes.items → IsDepthFirst (list_at lists) (length lists) c.args.root order.nodes.items order.parents.items)
    (λ (order : Order). node_count net ≤ length order.nodes.items → IsDepthFirst (neighbors_of net) (node_count net) c.args.root order.nodes.items order.parents.items)
    (λ order all. found_all net lists c.in_ok-lists.ensures c.args.root order all) (rw c.as_slice.ensures.value at c.search_lists.ensures.all)

pub returns-clause-some : goal.returns-clause-some
returns-clause-some c =
    let net = c.args.topology.now in
    let lists = c.in_ok-lists.lists.items in
    IfOk-weaker c.search_lists.result (λ (order : Order). length order.nodes.items < length lists → IsClosed (list_at lists) c.args.root order.nodes.items)
    (λ (order : Order). length order.nodes.items < node_count net → IsOneCutOff net c.args.root)
    (λ order some. found_some net lists c.in_ok-lists.ensures c.args.root order some) (rw c.as_slice.ensures.value at c.search_lists.ensures.some)
