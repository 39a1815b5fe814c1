use Rattle.std.proofs.Common.{◌<◌, ◌∙◌, ℕ, length, length-set, subst, arith}
use Rattle.std.specs.Prelude.{slice_index}
use Rattle.std.proofs.lemmas.List.{get_or_read}
use Rattle.ir_model.specs.Walk.{IsDistance}
use Rattle.ir_model.proofs.Ways.{symmetric}
use Rattle.ir_tables.specs.FromNode.{AreFrom}
use Rattle.ir_bounds.proofs.Numbers.{lists_length}
use Rattle.ir_bounds.proofs.Parts.{read_list, put_more}
use Rattle.ir_bounds.proofs.landmarks.Owners.distances.Goals as goal

pub index-requires-in-loop-i : goal.index-requires-in-loop-i
index-requires-in-loop-i c =
    let self = c.args.self.now in
    let i = c.loop-i.i in
    let inside : i < length self.landmarks.items = omega (arith, c.loop-i-test.true, c.len-i-end.ensures, c.loop-i.auto.i-end, self.landmarks.ok.0) in
    let held : i < length self.away.items = let e = lists_length self.away.items in omega (arith, inside, e, c.requires.around.lists) in
    let row = read_list self.away.items i c.index.result.now held c.index.ensures in
    let from = subst (AreFrom c.args.topology.now (slice_index self.landmarks.items i)) row (c.requires.around.away i inside) in
    omega (arith, from.every, c.requires.node, c.index.result.now.ok.0)

pub loop-i-preserved : goal.loop-i-preserved
loop-i-preserved c =
    let net = c.args.topology.now in
    let self = c.args.self.now in
    let landmarks = self.landmarks.items in
    let i = c.loop-i.i in
    let u : ℕ = c.args.u in
    let inside : i < length landmarks = omega (arith, c.loop-i-test.true, c.len-i-end.ensures, c.loop-i.auto.i-end, self.landmarks.ok.0) in
    let held : i < length self.away.items = let e = lists_length self.away.items in omega (arith, inside, e, c.requires.around.lists) in
    let row = read_list self.away.items i c.index.result.now held c.index.ensures in
    let from = subst (AreFrom net (slice_index landmarks i)) row (c.requires.around.away i inside) in
    let x : ℕ = c.index-in-loop-i.result.now in
    let l : ℕ = c.index-in-loop-i-2.result.now in
    let read = get_or_read c.index.result.now.items u x (omega (arith, from.every, c.requires.node)) c.index-in-loop-i.ensures 0 in
    let landmark = get_or_read landmarks i l inside c.index-in-loop-i-2.ensures 0 in
    let far : IsDistance net u l x = rw (landmark, read) (symmetric net c.nodes.ensures.topology (slice_index landmarks i) u (slice_index c.index.result.now.items u) (from.each u c.requires.node)) in
    record {
      every = length-set c.loop-i.around.items l x ∙ c.loop-i.invariant.every;
      each = put_more (λ (y z : ℕ). IsDistance net u y z) landmarks c.loop-i.around.items i l x c.loop-i.invariant.each landmark (omega (arith, landmark, from.node, c.loop-i.invariant.every)) far;
    }
