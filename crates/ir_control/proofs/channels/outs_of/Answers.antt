use Rattle.std.specs.Prelude.{◌≡◌, ◌+◌, ◌<◌, ℕ, List, [], length}
use Rattle.std.proofs.Common.{arith, refl, sym, subst, ◌∙◌}
use Rattle.std.proofs.lemmas.Option.{slice_get_within}
use Rattle.ir_links.specs.Ends.{Channel, Sender}
use Rattle.ir_control.specs.Fresh.{AreOutsAt}
use Rattle.ir_control.proofs.Handed.{outs_taken, outs_at_more}
use Rattle.ir_control.proofs.channels.outs_of.Goals as goal

-- no senders are those of no channels
outs_at_none : {P T : Type 0} (lines : List (Channel P)) (first : ℕ) (outs : List (Sender P T)) → outs ≡ [] → AreOutsAt lines first 0 outs
outs_at_none lines first outs e = subst (λ (outs : List (Sender _ _)). AreOutsAt lines first 0 outs) (sym e) (record {
  count = refl;
  each = λ p s got. absurd (let within = slice_get_within [] p s got in omega (arith, within));
})

pub loop-p-init : goal.loop-p-init
loop-p-init c = (c.requires.fresh, outs_at_none c.args.channels.now.items c.args.first c.in_ok-outs.outs.items c.in_ok-outs.ensures.items, c.in_ok-outs.ensures.exact)

pub overflow_add-first : goal.overflow_add-first
overflow_add-first c =
    let most = c.requires.within in
    let test = c.loop-p-test.true in
    let fits = c.args.channels.now.ok.0 in
    omega (arith, most, test, fits)

pub index_mut-requires : goal.index_mut-requires
index_mut-requires c =
    let n = c.loop-p.invariant.0.count in
    let most = c.requires.within in
    let test = c.loop-p-test.true in
    omega (arith, n, most, test)

pub returns-clause-outs : goal.returns-clause-outs
returns-clause-outs c =
    let test = c.loop-p-test.false in
    let end = c.loop-p.auto.p-end in
    subst (λ (n : ℕ). AreOutsAt c.args.channels.now.items c.args.first n c.loop-p.outs.items) (omega (arith, test, end)) c.loop-p.invariant.1

pub loop-p-preserved : goal.loop-p-preserved
loop-p-preserved c =
    let n = c.loop-p.invariant.0.count in
    let most = c.requires.within in
    let test = c.loop-p-test.true in
    let lt : c.args.first + c.loop-p.p < length c.loop-p.senders.items = omega (arith, n, most, test) in (
      outs_taken c.args.channels.now.items c.loop-p.senders.items (c.args.first + c.loop-p.p) c.take.new.self lt c.take.ensures.after c.loop-p.invariant.0,
      outs_at_more c.args.channels.now.items c.loop-p.senders.items (c.args.first + c.loop-p.p) c.index_mut.result.now c.in-Some.sender c.loop-p.invariant.0 lt c.index_mut.ensures.value c.in-Some.ensures.value
          c.args.first c.loop-p.p c.loop-p.outs.items c.push_reserved.new.self.items refl c.loop-p.invariant.1 c.push_reserved.ensures.items,
      c.push_reserved.ensures.capacity ∙ c.loop-p.invariant.2,
    )

pub returns-in_default-clause-fresh : goal.returns-in_default-clause-fresh
returns-in_default-clause-fresh c =
    let n = c.loop-p.invariant.0.count in
    let most = c.requires.within in
    let test = c.loop-p-test.true in
    outs_taken c.args.channels.now.items c.loop-p.senders.items (c.args.first + c.loop-p.p) c.take.new.self (omega (arith, n, most, test)) c.take.ensures.after c.loop-p.invariant.0

pub push_reserved-requires : goal.push_reserved-requires
push_reserved-requires c =
    let n = c.loop-p.invariant.1.count in
    let room = c.loop-p.invariant.2 in
    let ok = c.loop-p.outs.ok in
    let test = c.loop-p-test.true in
    omega (arith, n, room, ok, test)
