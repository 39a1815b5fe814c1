use Rattle.std.specs.Prelude.{◌≡◌, ◌≤◌, List, [], length}
use Rattle.ir_epochs.specs.declared.handles.BoardReader.{BoardReader}
use Rattle.ir_epochs.specs.Handles.{reader_board, writer_board}
use Rattle.std.proofs.lemmas.Option.{get_or_from_slice_get, slice_get_within}
use Rattle.std.proofs.Common.{arith, refl, sym, ap, ◌∙◌, subst}
use Rattle.std.specs.Arc.{arc_value}
use Rattle.ir_model.specs.Topology.{Topology, node_count}
use Rattle.ir_core.specs.declared.TheConstants.{MAX_LINKS, MAX_NODES}
use Rattle.ir_epochs.specs.declared.entry.Entry.{Entry}
use Rattle.ir_epochs.specs.declared.registry.Registry.{Registry}
use Rattle.ir_epochs.specs.declared.registry.Stamp.{Stamp}
use Rattle.ir_epochs.specs.Entries.{board_of, opening_links, registry_of, topology_of}
use Rattle.ir_epochs.specs.Stamps.{IsOf, knows, registry_name}
use Rattle.ir_epochs.proofs.Overs.{over_itself}
use Rattle.ir_worker.specs.Account.{lines_out, restamps_with}
use Rattle.ir_worker.proofs.Counts.{head_weighs}
use Rattle.ir_worker.specs.Seen.{IsOfNet}
use Rattle.ir_control.specs.declared.injector.Accepted.{Accepted}
use Rattle.ir_control.specs.Heads.{AreNumbered, times_injected}
use Rattle.ir_control.specs.Outs.{AreEntryEnds}
use Rattle.ir_control.proofs.Wiring.{all_lines, entry_ends, none_sent, outs_unsent}
use Rattle.ir_control.proofs.net.Net.parts_over.Goals as goal

pub invariant_of-injector-clause-newest_of : goal.invariant_of-injector-clause-newest_of
invariant_of-injector-clause-newest_of g c =
    let opening = c.args.self.now.opening in
    subst (λ (s : Stamp). IsOfNet s c.again-2.result) (sym c.again.ensures)
    (subst (λ (t : Stamp). IsOfNet opening t) (sym c.again-2.ensures) (refl, over_itself (knows opening) opening.sound))

pub invariant_of-injector-clause-account : goal.invariant_of-injector-clause-account
invariant_of-injector-clause-account g c = λ p.
    (let outs_at = rw c.in-Some-2.is at c.in_ok-outs.ensures.outs in
    let a = none_sent (head_weighs p) c.in-Some-2.outs.items (outs_unsent c.args.self.now.inboxes.items 0 c.nodes-nodes.result c.in-Some-2.outs.items outs_at) in
    let b : times_injected p c.new.result.items ≡ 0 = ap (times_injected p) c.new.ensures.items in
    omega (arith, a, b))

pub invariant_of-injector-clause-fresh : goal.invariant_of-injector-clause-fresh
invariant_of-injector-clause-fresh g c = λ p.
    (let outs_at = rw c.in-Some-2.is at c.in_ok-outs.ensures.outs in
    none_sent (restamps_with p) c.in-Some-2.outs.items (outs_unsent c.args.self.now.inboxes.items 0 c.nodes-nodes.result c.in-Some-2.outs.items outs_at))

pub invariant_of-injector-clause-ends : goal.invariant_of-injector-clause-ends
invariant_of-injector-clause-ends g c =
    let outs_at = rw c.in-Some-2.is at c.in_ok-outs.ensures.outs in
    subst (λ (s : Stamp). AreEntryEnds s c.args.self.now.restamps (lines_out c.in-Some-2.outs.items)) (sym c.again.ensures)
    (entry_ends (arc_value c.args.self.now.registry) c.args.self.now.topology c.args.self.now.opening c.args.self.now.opened c.args.self.now.restamps c.args.self.now.capacity c.args.self.now.inboxes.items c.args.self.now.inboxes_are c.in-Some-2.outs.items
    (all_lines c.args.self.now.inboxes.items c.nodes-nodes.result c.in-Some-2.outs.items (c.nodes-nodes.ensures.count ∙ sym c.args.self.now.inboxes_are.count) outs_at))

pub returns : goal.returns
returns g c =
    let outs_at = rw c.in-Some-2.is at c.in_ok-outs.ensures.outs in
    let nodes_are = rw c.in-Some-3.is at c.in_ok-nodes.ensures.nodes in
    let boards = rw c.in-Some-3.is at c.in_ok-nodes.ensures.boards in
    let fresh = rw c.in-Some-3.is at c.in_ok-nodes.ensures.fresh in
    record {
      nodes_are = nodes_are;
      boards = λ k d lt.
          (let b = boards k d lt in
          let read = (c.requires.readers b.0 b.1 (slice_get_within c.args.readers.items b.0 b.1 b.2)).1 in
          let at = get_or_from_slice_get c.args.readers.items b.0 b.1 b.1 b.2 in
          b.3 ∙ subst (λ (x : BoardReader). reader_board x ≡ writer_board c.args.writer) at read);
      fresh_nodes = fresh;
      injector_of = record {
        opening = c.again.ensures;
        ends = all_lines c.args.self.now.inboxes.items c.nodes-nodes.result c.in-Some-2.outs.items (c.nodes-nodes.ensures.count ∙ sym c.args.self.now.inboxes_are.count) outs_at;
        most = refl;
      };
      nothing = c.new.ensures.items;
      unsent = outs_unsent c.args.self.now.inboxes.items 0 c.nodes-nodes.result c.in-Some-2.outs.items outs_at;
      learnt = c.again-2.ensures;
      controller_opening = c.again-3.ensures;
      controller_labels = refl;
      controller_keeps = refl;
      controller_registry = c.in_ok-try_clone-2.ensures;
      used = refl;
      board = c.requires.opening;
    }

pub invariant_of-injector-clause-of_registry : goal.invariant_of-injector-clause-of_registry
invariant_of-injector-clause-of_registry g c =
    subst (λ (s : Stamp). IsOf (arc_value c.in_ok-try_clone.field-0) s) (sym c.again.ensures)
    (subst (λ (r : Registry). IsOf r c.args.self.now.opening) (sym c.in_ok-try_clone.ensures) c.args.self.now.opened.registry_is)

pub invariant_of-injector-clause-few_nodes : goal.invariant_of-injector-clause-few_nodes
invariant_of-injector-clause-few_nodes g c =
    subst (λ (s : Stamp). node_count (knows s).topology ≤ MAX_NODES) (sym c.again.ensures)
    (subst (λ (net : Topology). node_count net ≤ MAX_NODES) (sym c.args.self.now.opened.topology) c.args.self.now.opened.few_nodes)

pub invariant_of-injector-clause-few_packets : goal.invariant_of-injector-clause-few_packets
invariant_of-injector-clause-few_packets g c = c.args.self.now.few_packets

pub invariant_of-injector-clause-counted : goal.invariant_of-injector-clause-counted
invariant_of-injector-clause-counted g c =
    let none : length c.new.result.items ≡ 0 = ap (λ (xs : List Accepted). length xs) c.new.ensures.items in
    omega (arith, none)

pub invariant_of-injector-clause-numbered : goal.invariant_of-injector-clause-numbered
invariant_of-injector-clause-numbered g c =
    subst AreNumbered (sym c.new.ensures.items) (λ k a got. absurd (let within = slice_get_within [] k a got in omega (arith, within)))

pub invariant_of-controller : goal.invariant_of-controller
invariant_of-controller g c =
    let net = c.args.self.now in
    let is = c.requires.opening in
    let same = sym c.again-3.ensures in
    let current = ap (λ (es : List Entry). (board_of es).current) is in
    record {
      of_registry = subst (λ (s : Stamp). IsOf (arc_value c.in_ok-try_clone-2.field-0) s) same
          (subst (λ (r : Registry). IsOf r c.args.self.now.opening) (sym c.in_ok-try_clone-2.ensures) net.opened.registry_is);
      registry_is = ap registry_of is ∙ ap registry_name same;
      topology_is = ap topology_of is ∙ ap (λ (s : Stamp). (knows s).topology) same;
      links_are = ap opening_links is ∙ ap (λ (net : Topology). length net.links) (sym net.opened.topology) ∙ ap (λ (s : Stamp). length (knows s).topology.links) same;
      few_links = subst (λ (s : Stamp). length (knows s).topology.links ≤ MAX_LINKS) same
          (subst (λ (net : Topology). length net.links ≤ MAX_LINKS) (sym net.opened.topology) net.opened.few_links);
      used_up = (omega (arith, current), omega arith);
    }

pub outs_of-requires-clause-within : goal.outs_of-requires-clause-within
outs_of-requires-clause-within g c =
    let n = c.args.self.now.inboxes_are.count in
    let nodes = c.nodes-nodes.ensures.count in
    omega (arith, n, nodes)

pub nodes-requires-clause-readers : goal.nodes-requires-clause-readers
nodes-requires-clause-readers g c = λ k d lt. (c.requires.readers k d lt).0 ∙ c.requires.opening
