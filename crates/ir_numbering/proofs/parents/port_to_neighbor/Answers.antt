use Rattle.std.proofs.Common.{◌≡◌, ℕ, length, List, Some, get_or, inl, inr, arith, sym, ap, ◌∙◌, subst, slice_get}
use Rattle.std.proofs.lemmas.Option.{slice_get_within, slice_get-get_or, get_or_from_slice_get}
use Rattle.ir_model.specs.declared.Hop.{Hop}
use Rattle.ir_model.proofs.Walks.{degree_bound}
use Rattle.std.proofs.lemmas.Bool.{cases_eq}
use Rattle.ir_numbering.proofs.Neighbors.{node_in}
use Rattle.ir_numbering.proofs.parents.port_to_neighbor.Goals as goal

pub overflow_cast-result : goal.overflow_cast-result
overflow_cast-result c =
    let net = c.args.topology.now in
    let len = degree_bound net c.invariant.ensures.topology c.args.u in
    let few = c.invariant.ensures.topology.few_nodes in
    let e = ap (λ (xs : List Hop). length xs) c.ports-hop-items.ensures in
    omega arith

pub returns-then-hop-v : goal.returns-then-hop-v
returns-then-hop-v c =
    let net = c.args.topology.now in
    let none : Hop = record { node = 0; link = 0; weight = 0 } in
    let at = slice_get-get_or c.ports-hop-items.result.now c.loop-p.p none c.loop-p-test.true in
    (get_or c.ports-hop-items.result.now c.loop-p.p none, subst (λ (xs : List Hop). slice_get xs c.loop-p.p ≡ Some (get_or c.ports-hop-items.result.now c.loop-p.p none)) c.ports-hop-items.ensures at, c.if-hop-v.true)

pub loop-p-preserved : goal.loop-p-preserved
loop-p-preserved c = λ p hop at to.
    let more = c.loop-p.invariant p hop at to in
    elim (cases_eq p c.loop-p.p) [
      | inl e ↦
          let none : Hop = record { node = 0; link = 0; weight = 0 } in
          let here = subst (λ (k : ℕ). slice_get c.ports-hop-items.result.now k ≡ Some hop) e at in
          let is = get_or_from_slice_get c.ports-hop-items.result.now c.loop-p.p hop none here in
          absurd (c.if-hop-v.false (ap node_in is ∙ to))
      | inr ne ↦ omega arith
    ]

pub returns : goal.returns
returns c =
    let l = c.requires in
    let at = subst (λ (xs : List Hop). slice_get xs l.0 ≡ Some l.1) (sym c.ports-hop-items.ensures) l.2 in
    let within = slice_get_within c.ports-hop-items.result.now l.0 l.1 at in
    let le = c.loop-p.invariant l.0 l.1 at l.3 in
    omega (arith, c.loop-p-test.false)
