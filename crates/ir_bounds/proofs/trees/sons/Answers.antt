use Rattle.std.proofs.Common.{◌≡◌, ◌<◌, ℕ, length, map, get_or, ap, arith}
use Rattle.std.specs.Prelude.{slice_index, ◌==◌}
use Rattle.std.specs.Global.{Vec}
use Rattle.std.proofs.lemmas.Bool.{eq-eqb, ne_eqb}
use Rattle.std.proofs.lemmas.List.{get_or-map, length-map, take_all}
use Rattle.ir_model.specs.declared.Hop.{Hop}
use Rattle.ir_numbering.proofs.Neighbors.{node_in}
use Rattle.ir_bounds.proofs.Blocks.{passes_more, passes_no_more}
use Rattle.ir_bounds.proofs.trees.sons.Goals as goal
use Rattle.ir_bounds.proofs.trees.sons.Goals.{then-parents-hop+in_ok-push, else-parents-hop}

abbrev none : Hop
none = record { node = 0; link = 0; weight = 0 }

pub loop-hop-preserved : goal.loop-hop-preserved
loop-hop-preserved c =
    let ports = c.args.ports.now in
    let parents = c.args.parents.now in
    let u : ℕ = c.args.u in
    let i : ℕ = c.loop-hop.hop-index in
    let x : ℕ = node_in (get_or ports i none) in
    let inside : i < length (map node_in ports) = omega (arith, length-map ports node_in, c.loop-hop-test.true) in
    let is : slice_index (map node_in ports) i ≡ x = get_or-map node_in ports i none 0 c.loop-hop-test.true in
    elim c.if-parents-hop.branch [
      | then-parents-hop+in_ok-push w ↦
          passes_more (λ v. slice_index parents v == u) c.loop-hop.list.items (map node_in ports) i x inside is c.loop-hop.invariant (eq-eqb (slice_index parents x) u w.if-parents-hop.true) c.if-parents-hop.list.items
          (rw w.list-is w.in_ok-push.ensures.items)
      | else-parents-hop w ↦
          passes_no_more (λ v. slice_index parents v == u) c.loop-hop.list.items (map node_in ports) i x inside is c.loop-hop.invariant (ne_eqb (slice_index parents x) u w.if-parents-hop.false) c.if-parents-hop.list.items
          (ap (λ (v : Vec ℕ). v.items) w.list-is)
    ]

pub returns : goal.returns
returns c =
    let ports = c.args.ports.now in
    let all = take_all c.loop-hop.hop-index (map node_in ports) (omega (arith, length-map ports node_in, c.loop-hop-test.false)) in
    rw all at c.loop-hop.invariant
