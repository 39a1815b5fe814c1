use Rattle.std.proofs.Common.{◌≡◌, ◌<◌, ◌≤◌, ◌++◌, ◌∷◌, [], ℕ, List, Option, Some, length, subst, sym, ap, ◌∙◌, arith, take, slice_get}
use Rattle.std.specs.Option.{IsSome}
use Rattle.std.proofs.lemmas.Option.{slice_get_within}
use Rattle.ir_model.specs.declared.Link.{Link}
use Rattle.ir_model.specs.declared.Hop.{Hop}
use Rattle.ir_model.specs.Places.{neighbors_at}
use Rattle.ir_tables.specs.Numbered.{AreOrdered, Numbers, link_between, links_from, ports_at}
use Rattle.ir_tables.specs.ByPlace.{row_numbers, neighbor_rows}
use Rattle.ir_tables.proofs.OfGraph.{next_entry, next_there, row_whole, ports_more, ports_same, row_of_node, graph_numbered}
use Rattle.ir_tables.proofs.Numbered.{links_ordered, port_link}
use Rattle.ir_tables.proofs.adjacency.ports_of.Goals as goal
use Rattle.ir_tables.proofs.adjacency.ports_of.Goals.{then-v-u+in_ok-push, else-v-u}

pub unwrap-v-requires : goal.unwrap-v-requires
unwrap-v-requires c =
    let there = next_there c.args.graph.now c.args.u c.loop-place.place (subst (λ (n : ℕ). c.loop-place.place < n) c.neighbor_count-place-end.ensures c.loop-place-test.true) in
    subst (λ (o : Option (ℕ × ℕ)). IsSome o) (sym c.neighbor_at.ensures.at) there

pub overflow_cast-link : goal.overflow_cast-link
overflow_cast-link c =
    let g = c.args.graph.now in
    let u : ℕ = c.args.u in
    let graph = c.invariant.ensures.graph in
    let row : Numbers = row_numbers g (neighbors_at g u) in
    let entry : slice_get row c.loop-place.place ≡ Some c.unwrap-v.result = next_entry g u c.loop-place.place c.unwrap-v.result (sym c.neighbor_at.ensures.at ∙ c.unwrap-v.ensures) in
    let P : Numbers → Type 0 = λ es. slice_get es c.loop-place.place ≡ Some c.unwrap-v.result in
    let link = port_link (neighbor_rows g) (graph_numbered g graph) u c.loop-place.place c.unwrap-v.result (subst P (sym (row_of_node g u)) entry) c.if-v-u.true in
    let Q : List Link → Type 0 = λ links. link_between links u c.unwrap-v.result.0 < length links in
    let within : link_between c.args.links.now u c.unwrap-v.result.0 < length c.args.links.now =
    subst Q (sym c.requires.links) (slice_get_within (links_from 0 (neighbor_rows g)) (link_between (links_from 0 (neighbor_rows g)) u c.unwrap-v.result.0) link.0 link.1) in
    omega (arith, within, c.link_between-link.ensures, c.requires.few)

pub link_between-link-requires-clause-ordered : goal.link_between-link-requires-clause-ordered
link_between-link-requires-clause-ordered c = let g = c.args.graph.now in
    subst AreOrdered (sym c.requires.links) (links_ordered (neighbor_rows g) (graph_numbered g c.invariant.ensures.graph))

pub loop-place-preserved : goal.loop-place-preserved
loop-place-preserved c =
    let u : ℕ = c.args.u in
    let row : Numbers = row_numbers c.args.graph.now (neighbors_at c.args.graph.now u) in
    let entry : slice_get row c.loop-place.place ≡ Some c.unwrap-v.result = next_entry c.args.graph.now u c.loop-place.place c.unwrap-v.result (sym c.neighbor_at.ensures.at ∙ c.unwrap-v.ensures) in
    elim c.if-v-u.branch [
      | then-v-u+in_ok-push w ↦
          let hop : Hop = record { node = c.unwrap-v.result.0; link = w.link_between-link.result; weight = c.unwrap-v.result.1 } in
          let more = ports_more c.args.links.now u row c.loop-place.place c.unwrap-v.result entry w.if-v-u.true in
          let port = ap (λ (l : ℕ). ◌++◌ {A = Hop} (ports_at c.args.links.now u (take c.loop-place.place row)) (record { node = c.unwrap-v.result.0; link = l; weight = c.unwrap-v.result.1 } ∷ [])) w.link_between-link.ensures in
          ap (λ v. v.items) w.ports-is ∙ w.in_ok-push.ensures.items ∙ ap (λ (xs : List Hop). xs ++ hop ∷ []) c.loop-place.invariant ∙ port ∙ sym more
      | else-v-u w ↦
          let same = ports_same c.args.links.now u row c.loop-place.place c.unwrap-v.result entry w.if-v-u.false in
          ap (λ v. v.items) w.ports-is ∙ c.loop-place.invariant ∙ sym same
    ]

pub returns : goal.returns
returns c = c.loop-place.invariant ∙ ap (λ (row : Numbers). ports_at c.args.links.now c.args.u row) (row_whole c.args.graph.now c.args.u c.loop-place.place (subst (λ (n : ℕ). n ≤ c.loop-place.place) c.neighbor_count-place-end.ensures c.loop-place-test.false))
