use Rattle.std.specs.Prelude.{◌≡◌, ℕ, List, [], All, length}
use Rattle.std.proofs.Common.{arith, sym, ap, ◌∙◌, subst, refl}
use Rattle.std.specs.Arc.{arc_value}
use Rattle.ir_model.specs.declared.Hop.{Hop}
use Rattle.ir_epochs.specs.Handles.{known, reader_board}
use Rattle.ir_control.specs.Fresh.{AreInsAt}
use Rattle.ir_epochs.specs.declared.registry.Stamp.{Stamp}
use Rattle.ir_worker.specs.Wires.{AreEndsOf}
use Rattle.ir_links.specs.Ends.{Sender, Taker}
use Rattle.ir_worker.specs.declared.parcel.Place.{Place}
use Rattle.ir_worker.specs.Seen.{Parcel}
use Rattle.ir_control.proofs.Wiring.{fits_ways, ends_of, fresh_even, ins_untaken, node_of, outs_unsent}
use Rattle.ir_control.proofs.net.Net.node.Goals as goal

pub outs_of-requires-clause-within : goal.outs_of-requires-clause-within
outs_of-requires-clause-within c =
    let n = c.args.self.now.ways_are.count in
    let most = fits_ways c.args.self.now.topology c.args.u c.first_port-first.result c.ports-degree.result.now c.requires.node c.first_port-first.ensures c.ports-degree.ensures in
    omega (arith, n, most)

pub ins_of-requires-clause-within : goal.ins_of-requires-clause-within
ins_of-requires-clause-within c =
    let n = c.args.self.now.ways_are.peer_count in
    let v = ap length c.as_slice.ensures.value in
    let most = fits_ways c.args.self.now.topology c.args.u c.first_port-first.result c.ports-degree.result.now c.requires.node c.first_port-first.ensures c.ports-degree.ensures in
    omega (arith, n, most, v)

pub new-requires-clause-ends : goal.new-requires-clause-ends
new-requires-clause-ends c =
    let outs_at = rw c.in-Some.is at c.in_ok-outs.ensures.outs in
    let ins_at = rw c.in-Some-2.is at c.in_ok-ins.ensures.ins in
    let row = c.in_ok-ports.ensures.items ∙ c.ports.ensures in
    subst (λ (o : Stamp). AreEndsOf o c.args.self.now.restamps c.args.u c.in_ok-ports.ports.items c.args.inbox c.in-Some-2.ins.items c.in-Some.outs.items) (sym c.again.ensures)
    (ends_of (arc_value c.args.self.now.registry) c.args.self.now.topology c.args.self.now.opening c.args.self.now.opened c.args.self.now.restamps c.args.self.now.capacity c.args.self.now.few_restamps c.args.self.now.inboxes.items c.args.self.now.ways.items c.args.self.now.peers.items
    c.args.self.now.inboxes_are c.args.self.now.ways_are c.args.u c.first_port-first.result (length c.ports-degree.result.now) c.requires.node c.first_port-first.ensures c.in_ok-ports.ports.items
    row (ap (λ (r : List Hop). length r) (c.ports-degree.ensures ∙ sym row)) c.args.inbox c.requires.inbox
    c.in-Some.outs.items outs_at c.in-Some-2.ins.items
    (subst (λ (ps : List ℕ). AreInsAt c.args.self.now.ways.items ps c.first_port-first.result (length c.ports-degree.result.now) c.in-Some-2.ins.items) c.as_slice.ensures.value ins_at))

pub new-requires-clause-fresh : goal.new-requires-clause-fresh
new-requires-clause-fresh c =
    let outs_at = rw c.in-Some.is at c.in_ok-outs.ensures.outs in
    let ins_at = rw c.in-Some-2.is at c.in_ok-ins.ensures.ins in
    let row = c.in_ok-ports.ensures.items ∙ c.ports.ensures in
    fresh_even (arc_value c.args.self.now.registry) c.args.self.now.topology c.args.self.now.opening c.args.self.now.opened c.args.self.now.restamps c.args.self.now.capacity c.args.self.now.few_restamps c.args.self.now.inboxes.items c.args.self.now.ways.items c.args.self.now.peers.items
    c.args.self.now.inboxes_are c.args.self.now.ways_are c.args.u c.first_port-first.result (length c.ports-degree.result.now) c.requires.node c.first_port-first.ensures c.in_ok-ports.ports.items
    row (ap (λ (r : List Hop). length r) (c.ports-degree.ensures ∙ sym row)) c.args.inbox c.requires.inbox
    c.in-Some.outs.items outs_at c.in-Some-2.ins.items
    (subst (λ (ps : List ℕ). AreInsAt c.args.self.now.ways.items ps c.first_port-first.result (length c.ports-degree.result.now) c.in-Some-2.ins.items) c.as_slice.ensures.value ins_at) c.requires.inbox_new

pub returns-clause-node : goal.returns-clause-node
returns-clause-node c =
    let outs_at = rw c.in-Some.is at c.in_ok-outs.ensures.outs in
    let ins_at = rw c.in-Some-2.is at c.in_ok-ins.ensures.ins in
    let n = c.new.ensures.node in
    let e = c.new.ensures.ends in (
      node_of c.args.self.now c.new.result c.args.u c.first_port-first.result (length c.ports-degree.result.now) c.ports-degree.result.now c.args.inbox c.in-Some-2.ins.items c.in-Some.outs.items
          c.requires.node c.first_port-first.ensures refl c.ports-degree.ensures c.requires.inbox outs_at
          (subst (λ (ps : List ℕ). AreInsAt c.args.self.now.ways.items ps c.first_port-first.result (length c.ports-degree.result.now) c.in-Some-2.ins.items) c.as_slice.ensures.value ins_at)
          n.0 (n.2 ∙ c.again.ensures) n.3 e.0 (ap (λ v. v.items) e.1) (ap (λ v. v.items) e.2),
      n.0,
      ap reader_board n.5,
    )

pub returns-clause-fresh : goal.returns-clause-fresh
returns-clause-fresh c =
    let outs_at = rw c.in-Some.is at c.in_ok-outs.ensures.outs in
    let ins_at = rw c.in-Some-2.is at c.in_ok-ins.ensures.ins in
    let start = c.new.ensures.start in
    let e = c.new.ensures.ends in
    record {
      inbox_untaken = ap (λ (t : Taker Place Parcel). t.taken) e.0 ∙ c.requires.inbox_new;
      untaken = subst (λ (ts : List (Taker Place Parcel)). All (λ t. t.taken ≡ []) ts) (sym (ap (λ v. v.items) e.1))
          (ins_untaken c.args.self.now.ways.items _ c.first_port-first.result (length c.ports-degree.result.now) c.in-Some-2.ins.items ins_at);
      unsent = subst (λ (xs : List (Sender Place Parcel)). All (λ s. s.sent ≡ []) xs) (sym (ap (λ v. v.items) e.2))
          (outs_unsent c.args.self.now.ways.items c.first_port-first.result (length c.ports-degree.result.now) c.in-Some.outs.items outs_at);
      unsettled = start.1;
      inbox_first = start.0;
      has_read = ap known c.new.ensures.node.5;
    }
