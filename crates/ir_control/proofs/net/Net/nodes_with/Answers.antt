use Rattle.std.specs.Prelude.{◌≡◌, ◌<◌, ℕ, List, Some, All, length, slice_get}
use Rattle.std.proofs.Common.{subst, sym, ap, ◌∙◌, arith, rules}
use Rattle.std.proofs.lemmas.List.Elements.{All-push}
use Rattle.std.proofs.lemmas.Option.{slice_get-get_or}
use Rattle.ir_epochs.specs.declared.handles.BoardReader.{BoardReader}
use Rattle.ir_epochs.specs.Entries.{registry_of, topology_of}
use Rattle.ir_epochs.specs.Handles.{known}
use Rattle.ir_worker.specs.declared.node.Node.{Node}
use Rattle.ir_epochs.specs.declared.entry.Entry.{Entry}
use Rattle.ir_control.specs.Parts.{opening_entries, AreFirstNodes, IsFreshNode, ReadsAsOneOf}
use Rattle.ir_control.proofs.Handed.{in_there, ins_taken}
use Rattle.ir_control.proofs.OfNet.{all_front, all_last}
use Rattle.ir_control.proofs.Wiring.{first_more}
use Rattle.ir_control.proofs.net.Net.nodes_with.Goals as goal

abbrev IsOneOf : List BoardReader → BoardReader → Type 0
IsOneOf given x = (k : ℕ) × (slice_get given k ≡ Some x)

all_in : (given : List BoardReader) → All (IsOneOf given) given
all_in given k d lt = (k, slice_get-get_or given k d lt)

pub node-requires-clause-inbox : goal.node-requires-clause-inbox
node-requires-clause-inbox c =
    let n = c.loop-u.invariant.inboxes.count in
    let e = c.len-u-end.ensures in
    let lt : c.loop-u.u < length c.loop-u.inboxes.items = omega (arith, n, e) in
    (in_there c.args.self.now.inboxes.items c.loop-u.inboxes.items c.loop-u.u c.index_mut.result.now c.in-Some.inbox c.loop-u.invariant.inboxes lt c.index_mut.ensures.value c.in-Some.ensures.value).0

pub node-requires-clause-inbox_new : goal.node-requires-clause-inbox_new
node-requires-clause-inbox_new c =
    let n = c.loop-u.invariant.inboxes.count in
    let e = c.len-u-end.ensures in
    let lt : c.loop-u.u < length c.loop-u.inboxes.items = omega (arith, n, e) in
    (in_there c.args.self.now.inboxes.items c.loop-u.inboxes.items c.loop-u.u c.index_mut.result.now c.in-Some.inbox c.loop-u.invariant.inboxes lt c.index_mut.ensures.value c.in-Some.ensures.value).1

pub node-requires-clause-reader : goal.node-requires-clause-reader
node-requires-clause-reader c =
    let last = all_last (λ (x : BoardReader). known x ≡ opening_entries c.args.self.now) c.pop.new.self.items c.loop-u.readers.items c.in-Some-pop.reader c.in-Some-pop.ensures.items c.loop-u.invariant.readers in
    (ap registry_of last, ap topology_of last)

pub loop-u-init : goal.loop-u-init
loop-u-init c = record {
  inboxes = c.requires.inboxes;
  readers = c.requires.readers;
  given = all_in c.args.readers.now.items;
  senders = c.requires.senders;
  takers = c.requires.takers;
  nodes = search rules;
  boards = search rules;
  fresh = search rules;
  room = c.in_ok-nodes.ensures.exact ∙ c.len.ensures;
}

pub loop-u-preserved : goal.loop-u-preserved
loop-u-preserved c =
    let n = c.loop-u.invariant.inboxes.count in
    let e = c.len-u-end.ensures in
    let lt : c.loop-u.u < length c.loop-u.inboxes.items = omega (arith, n, e) in
    let is = rw c.in-Some-2.is at c.in_ok-node.ensures.node in
    let fresh = rw c.in-Some-2.is at c.in_ok-node.ensures.fresh in
    let entries = opening_entries c.args.self.now in
    let given = c.args.readers.now.items in
    let last = all_last (λ (x : BoardReader). known x ≡ entries) c.pop.new.self.items c.loop-u.readers.items c.in-Some-pop.reader c.in-Some-pop.ensures.items c.loop-u.invariant.readers in
    let at = all_last (IsOneOf given) c.pop.new.self.items c.loop-u.readers.items c.in-Some-pop.reader c.in-Some-pop.ensures.items c.loop-u.invariant.given in
    record {
      inboxes = ins_taken c.args.self.now.inboxes.items c.loop-u.inboxes.items c.loop-u.u c.take.new.self lt c.take.ensures.after c.loop-u.invariant.inboxes;
      readers = all_front (λ (x : BoardReader). known x ≡ entries) c.pop.new.self.items c.loop-u.readers.items c.in-Some-pop.reader c.in-Some-pop.ensures.items c.loop-u.invariant.readers;
      given = all_front (IsOneOf given) c.pop.new.self.items c.loop-u.readers.items c.in-Some-pop.reader c.in-Some-pop.ensures.items c.loop-u.invariant.given;
      senders = c.node.ensures.senders;
      takers = c.node.ensures.takers;
      nodes = first_more c.args.self.now c.loop-u.u c.loop-u.nodes.items c.push_reserved.new.self.items c.in-Some-2.node c.loop-u.invariant.nodes is.0 is.1 c.push_reserved.ensures.items;
      boards = subst (λ (xs : List Node). All (ReadsAsOneOf given) xs) (sym c.push_reserved.ensures.items)
          (All-push (ReadsAsOneOf given) c.loop-u.nodes.items c.in-Some-2.node c.loop-u.invariant.boards (at.0, c.in-Some-pop.reader, at.1, is.2));
      fresh = subst (λ (xs : List Node). All (IsFreshNode entries) xs) (sym c.push_reserved.ensures.items)
          (All-push (IsFreshNode entries) c.loop-u.nodes.items c.in-Some-2.node c.loop-u.invariant.fresh (subst (λ (es : List Entry). IsFreshNode es c.in-Some-2.node) last fresh));
      room = c.push_reserved.ensures.capacity ∙ c.loop-u.invariant.room;
    }

pub index_mut-requires : goal.index_mut-requires
index_mut-requires c =
    let n = c.loop-u.invariant.inboxes.count in
    let e = c.len-u-end.ensures in
    let ok = c.loop-u.inboxes.ok in
    let all = c.args.self.now.inboxes.ok in
    let test = c.loop-u-test.true in
    omega (arith, n, e, ok, all, test)

pub returns-clause-nodes : goal.returns-clause-nodes
returns-clause-nodes c =
    let n = c.args.self.now.inboxes_are.count in
    let e = c.len-u-end.ensures in
    let all = c.args.self.now.inboxes.ok in
    let least = c.loop-u-test.false in
    let most = c.loop-u.auto.u-end in
    subst (λ (u : ℕ). AreFirstNodes c.args.self.now u c.loop-u.nodes.items) (omega (arith, n, e, all, least, most)) c.loop-u.invariant.nodes

pub push_reserved-requires : goal.push_reserved-requires
push_reserved-requires c =
    let n = c.loop-u.invariant.nodes.count_is in
    let room = c.loop-u.invariant.room in
    let ok = c.loop-u.nodes.ok in
    let e = c.len-u-end.ensures in
    let test = c.loop-u-test.true in
    omega (arith, n, room, ok, e, test)
