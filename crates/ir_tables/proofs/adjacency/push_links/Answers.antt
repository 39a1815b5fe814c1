use Rattle.std.specs.Option.{IsSome}
use Rattle.std.proofs.Common.{◌≡◌, ◌<◌, ◌≤◌, ◌++◌, ◌∷◌, [], ℕ, List, Option, Some, subst, sym, ap, ◌∙◌, take, append_assoc, slice_get}
use Rattle.ir_model.specs.declared.Link.{Link}
use Rattle.ir_model.specs.Places.{neighbors_at}
use Rattle.ir_tables.specs.Numbered.{Numbers, links_at}
use Rattle.ir_tables.specs.ByPlace.{row_numbers}
use Rattle.ir_tables.proofs.OfGraph.{next_entry, next_there, row_whole, links_more, links_same}
use Rattle.ir_tables.proofs.adjacency.push_links.Goals as goal
use Rattle.ir_tables.proofs.adjacency.push_links.Goals.{then-u-v+in_ok-push, else-u-v}

pub unwrap-v-requires : goal.unwrap-v-requires
unwrap-v-requires c =
    let there = next_there c.args.graph.now c.args.u c.loop-place.place (subst (λ (n : ℕ). c.loop-place.place < n) c.neighbor_count-place-end.ensures c.loop-place-test.true) in
    subst (λ (o : Option (ℕ × ℕ)). IsSome o) (sym c.neighbor_at.ensures.at) there

pub loop-place-preserved : goal.loop-place-preserved
loop-place-preserved c =
    let u : ℕ = c.args.u in
    let row : Numbers = row_numbers c.args.graph.now (neighbors_at c.args.graph.now u) in
    let old : List Link = c.args.links.now.items in
    let entry : slice_get row c.loop-place.place ≡ Some c.unwrap-v.result = next_entry c.args.graph.now u c.loop-place.place c.unwrap-v.result (sym c.neighbor_at.ensures.at ∙ c.unwrap-v.ensures) in
    elim c.if-u-v.branch [
      | then-u-v+in_ok-push w ↦
          let link : Link = record { low = u; high = c.unwrap-v.result.0; weight = c.unwrap-v.result.1 } in
          let more = links_more u row c.loop-place.place c.unwrap-v.result entry w.if-u-v.true in
          ap (λ v. v.items) w.links-is ∙ w.in_ok-push.ensures.items ∙ ap (λ (xs : List Link). xs ++ link ∷ []) c.loop-place.invariant ∙ append_assoc old (links_at u (take c.loop-place.place row)) (link ∷ []) ∙ ap (λ xs. old ++ xs) (sym more)
      | else-u-v w ↦
          let same = links_same u row c.loop-place.place c.unwrap-v.result entry w.if-u-v.false in
          ap (λ v. v.items) w.links-is ∙ c.loop-place.invariant ∙ ap (λ xs. old ++ xs) (sym same)
    ]

pub returns : goal.returns
returns c = c.loop-place.invariant ∙ ap (λ (row : Numbers). c.args.links.now.items ++ links_at c.args.u row) (row_whole c.args.graph.now c.args.u c.loop-place.place (subst (λ (n : ℕ). n ≤ c.loop-place.place) c.neighbor_count-place-end.ensures c.loop-place-test.false))
