use Rattle.std.specs.Prelude.{◌≡◌, ◌+◌, ◌<◌, ℕ, List, [], length, slice_index}
use Rattle.std.proofs.Common.{arith, refl, sym, subst, ◌∙◌}
use Rattle.std.proofs.lemmas.Option.{slice_get_within}
use Rattle.ir_links.specs.Ends.{Channel, Taker}
use Rattle.ir_control.specs.Fresh.{AreInsAt}
use Rattle.ir_control.proofs.Handed.{ins_taken, ins_at_more}
use Rattle.ir_control.proofs.channels.ins_of.Goals as goal

-- no takers are those of no channels
ins_at_none : {P T : Type 0} (lines : List (Channel P)) (peers : List ℕ) (first : ℕ) (ins : List (Taker P T)) → ins ≡ [] → AreInsAt lines peers first 0 ins
ins_at_none lines peers first ins e = subst (λ (ins : List (Taker _ _)). AreInsAt lines peers first 0 ins) (sym e) (record {
  count = refl;
  each = λ p t got. absurd (let within = slice_get_within [] p t got in omega (arith, within));
})

pub loop-p-init : goal.loop-p-init
loop-p-init c = (c.requires.fresh, ins_at_none c.args.channels.now.items c.args.peers.now c.args.first c.in_ok-ins.ins.items c.in_ok-ins.ensures.items, c.in_ok-ins.ensures.exact)

pub returns-clause-ins : goal.returns-clause-ins
returns-clause-ins c =
    let test = c.loop-p-test.false in
    let end = c.loop-p.auto.p-end in
    subst (λ (n : ℕ). AreInsAt c.args.channels.now.items c.args.peers.now c.args.first n c.loop-p.ins.items) (omega (arith, test, end)) c.loop-p.invariant.1

pub loop-p-preserved : goal.loop-p-preserved
loop-p-preserved c =
    let n = c.loop-p.invariant.0.count in
    let most = c.requires.within in
    let test = c.loop-p-test.true in
    let same = c.requires.peers.0 in
    let i : ℕ = slice_index c.args.peers.now (c.args.first + c.loop-p.p) in
    let within = c.requires.peers.1 (c.args.first + c.loop-p.p) (omega (arith, most, test)) in
    let lt : slice_index c.args.peers.now (c.args.first + c.loop-p.p) < length c.loop-p.takers.items = omega (arith, n, same, within) in (
      ins_taken c.args.channels.now.items c.loop-p.takers.items (slice_index c.args.peers.now (c.args.first + c.loop-p.p)) c.take.new.self lt c.take.ensures.after c.loop-p.invariant.0,
      ins_at_more c.args.channels.now.items c.loop-p.takers.items (slice_index c.args.peers.now (c.args.first + c.loop-p.p)) c.index_mut.result.now c.in-Some.taker c.loop-p.invariant.0 lt c.index_mut.ensures.value c.in-Some.ensures.value
          c.args.peers.now c.args.first c.loop-p.p c.loop-p.ins.items c.push_reserved.new.self.items refl c.loop-p.invariant.1 c.push_reserved.ensures.items,
      c.push_reserved.ensures.capacity ∙ c.loop-p.invariant.2,
    )

pub returns-in_default-clause-fresh : goal.returns-in_default-clause-fresh
returns-in_default-clause-fresh c =
    let n = c.loop-p.invariant.0.count in
    let most = c.requires.within in
    let test = c.loop-p-test.true in
    let same = c.requires.peers.0 in
    let within = c.requires.peers.1 (c.args.first + c.loop-p.p) (omega (arith, most, test)) in
    ins_taken c.args.channels.now.items c.loop-p.takers.items (slice_index c.args.peers.now (c.args.first + c.loop-p.p)) c.take.new.self (omega (arith, n, same, within)) c.take.ensures.after c.loop-p.invariant.0

pub push_reserved-requires : goal.push_reserved-requires
push_reserved-requires c =
    let n = c.loop-p.invariant.1.count in
    let room = c.loop-p.invariant.2 in
    let ok = c.loop-p.ins.ok in
    let test = c.loop-p-test.true in
    omega (arith, n, room, ok, test)
