use Rattle.std.proofs.Common.{◌≡◌, ◌∙◌, ◌<◌, ℕ, Bool, List, length, ap, refl, subst, arith}
use Rattle.ir_model.specs.Topology.{node_count}
use Rattle.ir_figures.specs.Arcs.{marks_of}
use Rattle.ir_figures.specs.Exits.{exits_before}
use Rattle.ir_figures.specs.Parts.{AreNumbersIn, StandsAt, AreMarkedToo}
use Rattle.ir_figures.specs.Waits.{whole_number, Waits}
use Rattle.ir_figures.proofs.InParts.{links_beside, places}
use Rattle.ir_figures.proofs.Marked.{too_less}
use Rattle.ir_figures.proofs.Marks.{marks_len}
use Rattle.ir_figures.proofs.Rings.{digraph}
use Rattle.ir_figures.proofs.parts.marks_beside.Goals as goal

pub links_in-requires-clause-first : goal.links_in-requires-clause-first
links_in-requires-clause-first c = (c.args.held.now.exits.nodes.items, rw (c.as_slice-first.ensures.value, c.topology.ensures) c.requires.held.exits)

pub links_in-requires-clause-exits : goal.links_in-requires-clause-exits
links_in-requires-clause-exits c = rw c.topology-2.ensures c.requires.waiting.exits

pub links_in-requires-clause-within : goal.links_in-requires-clause-within
links_in-requires-clause-within c = rw (c.topology-2.ensures, c.topology.ensures) c.requires.within

pub mark_rows-requires : goal.mark_rows-requires
mark_rows-requires c =
    let s = c.args.plan.now in
    let t = c.args.part.now in
    let held = c.args.held.now in
    let waiting = c.args.waiting.now in
    let inner = waiting.links.begins.items in
    let others = marks_of waiting.links.marks.items in
    let told = rw (c.topology.ensures, c.topology-2.ensures) at c.in_ok-numbers.ensures in
    let numbered = subst (λ (n : ℕ). AreNumbersIn s.topology (whole_number c.args.without) t.topology n c.in_ok-numbers.numbers.items) c.requires.waiting.exits.all told in
    let fits = digraph t.topology c.invariant-2.ensures.plan.topology waiting.exits.first.items waiting.exits.nodes.items c.requires.waiting.exits (Waits t) inner others c.requires.waiting.links in
    rw (c.as_slice-begins.ensures.value, c.as_slice-inner.ensures.value, c.as_slice-2.ensures.value, c.as_slice-3.ensures.value)
    (places s.topology c.invariant.ensures.plan.topology t c.invariant-2.ensures.plan (whole_number c.args.without) inner others c.requires.waiting.links c.in_ok-numbers.numbers.items numbered
    s refl held.links.begins.items (marks_of held.links.marks.items) c.requires.held.links fits (marks_of c.in_ok-rows.rows.items) (c.in_ok-rows.ensures ∙ ap marks_of c.as_slice.ensures.value))

pub returns : goal.returns
returns c =
    let s = c.args.plan.now in
    let t = c.args.part.now in
    let held = c.args.held.now in
    let waiting = c.args.waiting.now in
    let inner = waiting.links.begins.items in
    let others = marks_of waiting.links.marks.items in
    let marks = marks_of held.links.marks.items in
    let rows = marks_of c.mark_rows.new.rows.items in
    let numbers = c.in_ok-numbers.numbers.items in
    let told = rw (c.topology.ensures, c.topology-2.ensures) at c.in_ok-numbers.ensures in
    let numbered = subst (λ (n : ℕ). AreNumbersIn s.topology (whole_number c.args.without) t.topology n numbers) c.requires.waiting.exits.all told in
    let marked = rw (c.as_slice-begins.ensures.value, c.as_slice-inner.ensures.value, c.as_slice-2.ensures.value, c.as_slice-3.ensures.value) at c.mark_rows.ensures in
    let stands = StandsAt held.links.begins.items inner others numbers in
    let moved = subst (λ (xs : List (List Bool)). AreMarkedToo stands (λ x k. x < length waiting.links.marks.items) xs rows) (c.in_ok-rows.ensures ∙ ap marks_of c.as_slice.ensures.value) marked in
    links_beside s.topology c.invariant.ensures.plan.topology t c.invariant-2.ensures.plan (whole_number c.args.without) inner others c.requires.waiting.links numbers numbered
    s refl held.links.begins.items marks c.requires.held.links rows
    (too_less stands (λ x k. x < length waiting.links.marks.items) (λ x k. x < length others) marks rows (λ a k lt. omega (arith, lt, marks_len waiting.links.marks.items)) moved)
