use Rattle.std.specs.Prelude.{◌≡◌, ◌<◌, ◌≤◌, ◌∷◌, [], ◌++◌, List, ℕ, Option, Some, length}
use Rattle.std.proofs.Common.{refl, subst, sym, ap, ◌∙◌, inl, inr, arith}
use Rattle.std.proofs.lemmas.Bool.Decides.{nat_tests}
use Rattle.ir_epochs.specs.declared.registry.Stamp.{Stamp}
use Rattle.std.proofs.lemmas.List.{length-map, length_push}
use Rattle.ir_model.specs.Topology.{node_count}
use Rattle.ir_epochs.specs.Stamps.{knows}
use Rattle.ir_epochs.proofs.Overs.{over_nodes}
use Rattle.ir_core.specs.Record.{hop_room}
use Rattle.ir_core.specs.Entry.{fresh}
use Rattle.ir_core.specs.declared.event.Refused.{Refused}
use Rattle.ir_core.specs.declared.event.Refused.TheVariants.{NoNode, TooManyPackets, NoMemory, InboxFull}
use Rattle.ir_core.specs.Refusals.{inject_refused}
use Rattle.ir_links.specs.Ends.{Channel}
use Rattle.ir_worker.specs.declared.parcel.Place.{Place}
use Rattle.ir_worker.specs.Seen.{Parcel}
use Rattle.ir_worker.specs.Account.{head_of, lines_out, times_sent, weigh_sent, restamps_with}
use Rattle.ir_control.specs.declared.injector.Accepted.{Accepted}
use Rattle.ir_control.specs.Heads.{head_at, times_injected, AreNumbered}
use Rattle.ir_control.specs.declared.injector.Injector.{Injector}
use Rattle.ir_control.specs.Outs.{AreEntryEnds, SentTo}
use Rattle.ir_control.specs.Refusals.{IsInjectRefusedAs}
use Rattle.ir_control.proofs.Nets.{goes_in, parcel_of_net, place_of_end}
use Rattle.ir_control.proofs.Injecting.{numbered_more, account_more, fresh_more, not_refused}
use Rattle.ir_control.proofs.injector.Injector.inject.Goals as goal
use Rattle.ir_control.proofs.injector.Injector.inject.Goals.{then-source-nodes-via-then-source-nodes, then-source-nodes-via-else-source-nodes+then-dest-nodes}

abbrev entry : ℕ → ℕ → ℕ → ℕ → Accepted
entry id epoch source dest = record { id = id; epoch = epoch; source = source; dest = dest }

abbrev parcel_of : ℕ → ℕ → ℕ → Stamp → ℕ → ℕ → Parcel
parcel_of nodes restamps id s source dest = record { packet = fresh id s.epoch source dest (hop_room restamps nodes); first = s; later = []; next = source }

pub send_to-requires-clause-goes : goal.send_to-requires-clause-goes
send_to-requires-clause-goes g c = λ s got.
    (let n = c.args.self.now in
    let made = c.in-Ok.ensures in
    let room = ap (λ (p : Parcel). p.packet.room) made
    ∙ ap (λ (s : Stamp). hop_room n.restamps (node_count (knows s).topology)) c.again.ensures
    ∙ ap (λ (k : ℕ). hop_room n.restamps k) (over_nodes (knows n.opening).topology (knows n.newest).topology n.newest_of.1) in
    goes_in n.opening n.restamps c.args.source c.in-Ok.parcel s.channel.place (place_of_end n.opening n.restamps n.outs.items c.args.source s n.ends got)
    (ap (λ (p : Parcel). p.next) made) (ap (λ (p : Parcel). p.packet.hops) made)
    (parcel_of_net n.opening c.in-Ok.parcel n.newest (ap (λ (p : Parcel). p.first) made ∙ c.again.ensures) (ap (λ (p : Parcel). p.later) made) n.newest_of)
    (ap (λ (p : Parcel). p.packet.restamps) made) room)

pub invariant_of-self-2-clause-account : goal.invariant_of-self-2-clause-account
invariant_of-self-2-clause-account g c =
    let a : Accepted = entry c.len-count.result c.epoch-epoch.result c.args.source c.args.dest in
    account_more c.args.self.now.outs.items c.send_to.new.outs.items c.args.source c.in-Ok.parcel c.args.self.now.accepted.items c.push_reserved.new.self.items a
    c.if-not-send_to.ensures.sent (c.push_reserved.ensures.items ∙ ap (λ (xs : List Accepted). xs ++ a ∷ []) c.reserve.ensures.items)
    (ap (λ (p : Parcel). head_of p.packet) c.in-Ok.ensures
    ∙ ap (λ (e : ℕ). head_at (entry c.len-count.result e c.args.source c.args.dest)) (ap (λ (s : Stamp). s.epoch) c.again.ensures ∙ sym c.epoch-epoch.ensures.value))
    c.args.self.now.account

pub invariant_of-self-2-clause-fresh : goal.invariant_of-self-2-clause-fresh
invariant_of-self-2-clause-fresh g c =
    fresh_more c.args.self.now.outs.items c.send_to.new.outs.items c.args.source c.in-Ok.parcel c.if-not-send_to.ensures.sent (ap (λ (p : Parcel). p.packet.restamps) c.in-Ok.ensures) c.args.self.now.fresh

pub invariant_of-self-then-not-send_to-clause-fresh : goal.invariant_of-self-then-not-send_to-clause-fresh
invariant_of-self-then-not-send_to-clause-fresh g c = λ p. ap (weigh_sent (restamps_with p)) c.if-not-send_to.ensures.sent.0 ∙ c.args.self.now.fresh p

pub invariant_of-self-then-not-send_to-clause-account : goal.invariant_of-self-then-not-send_to-clause-account
invariant_of-self-then-not-send_to-clause-account g c =
    λ p. ap (times_sent p) c.if-not-send_to.ensures.sent.0 ∙ c.args.self.now.account p ∙ sym (ap (times_injected p) c.reserve.ensures.items)

pub invariant_of-self-then-not-send_to-clause-numbered : goal.invariant_of-self-then-not-send_to-clause-numbered
invariant_of-self-then-not-send_to-clause-numbered g c = subst AreNumbered (sym c.reserve.ensures.items) c.args.self.now.numbered

pub invariant_of-self-2-clause-numbered : goal.invariant_of-self-2-clause-numbered
invariant_of-self-2-clause-numbered g c =
    let a : Accepted = entry c.len-count.result c.epoch-epoch.result c.args.source c.args.dest in
    numbered_more c.args.self.now.accepted.items c.push_reserved.new.self.items a
    (c.push_reserved.ensures.items ∙ ap (λ (xs : List Accepted). xs ++ a ∷ []) c.reserve.ensures.items)
    (let n = c.len-count.ensures in omega (arith, n)) c.args.self.now.numbered

pub returns-clause-answer : goal.returns-clause-answer
returns-clause-answer g c =
    let nodes : length c.args.self.now.outs.items ≡ node_count (knows c.args.self.now.opening).topology = sym (length-map c.args.self.now.outs.items _) ∙ c.args.self.now.ends.count in
    let a : Accepted = entry c.len-count.result c.epoch-epoch.result c.args.source c.args.dest in (
      not_refused (node_count (knows c.args.self.now.opening).topology) c.args.self.now.max_packets (length c.args.self.now.accepted.items) c.args.source c.args.dest (omega (arith, nodes)) (omega (arith, nodes)) (omega arith),
      record {
        number = (let n = c.len-count.ensures in omega (arith, n));
        accepted = c.push_reserved.ensures.items ∙ ap (λ (xs : List Accepted). xs ++ a ∷ []) c.reserve.ensures.items
            ∙ ap (λ (e : ℕ). c.args.self.now.accepted.items ++ entry c.len-count.result e c.args.source c.args.dest ∷ []) c.epoch-epoch.ensures.value;
        sent = subst (λ (x : Parcel). SentTo c.args.self.now.outs.items c.send_to.new.outs.items c.args.source x)
            (c.in-Ok.ensures ∙ ap (λ (s : Stamp). parcel_of (node_count (knows s).topology) c.args.self.now.restamps c.len-count.result s c.args.source c.args.dest) c.again.ensures
            ∙ ap (λ (k : ℕ). parcel_of k c.args.self.now.restamps c.len-count.result c.args.self.now.newest c.args.source c.args.dest)
            (over_nodes (knows c.args.self.now.opening).topology (knows c.args.self.now.newest).topology c.args.self.now.newest_of.1)) c.if-not-send_to.ensures.sent;
      },
    )

-- why it refuses, as it is asked in turn
no_source : (nodes most count source dest : ℕ) → nodes ≤ source → inject_refused nodes most count source dest ≡ Some NoNode
no_source nodes most count source dest h = grind (arith, nat_tests)

no_dest : (nodes most count source dest : ℕ) → nodes ≤ dest → inject_refused nodes most count source dest ≡ Some NoNode
no_dest nodes most count source dest h = grind (arith, nat_tests)

too_many : (nodes most count source dest : ℕ) → source < nodes → dest < nodes → most ≤ count → inject_refused nodes most count source dest ≡ Some TooManyPackets
too_many nodes most count source dest a b d = grind (arith, nat_tests)

pub returns-then-source-nodes-clause-answer : goal.returns-then-source-nodes-clause-answer
returns-then-source-nodes-clause-answer g c =
    let self = c.args.self.now in
    let nodes : length c.args.self.now.outs.items ≡ node_count (knows c.args.self.now.opening).topology = sym (length-map c.args.self.now.outs.items _) ∙ c.args.self.now.ends.count in
    elim c.then-source-nodes.branch [
      | then-source-nodes-via-then-source-nodes w ↦
          (let test = w.if-source-nodes.true in (
            subst (λ (o : Option Refused). IsInjectRefusedAs g.R.Moments.was_full c.args.self.now c.args.source NoNode o)
                (sym (no_source (node_count (knows self.opening).topology) self.max_packets (length self.accepted.items) c.args.source c.args.dest (omega (arith, nodes, test)))) refl,
            record { outs = ap (λ (s : Injector). s.outs.items) w.self-is; accepted = ap (λ (s : Injector). s.accepted.items) w.self-is },
          ))
      | then-source-nodes-via-else-source-nodes+then-dest-nodes w ↦
          (let test = w.if-dest-nodes.true in (
            subst (λ (o : Option Refused). IsInjectRefusedAs g.R.Moments.was_full c.args.self.now c.args.source NoNode o)
                (sym (no_dest (node_count (knows self.opening).topology) self.max_packets (length self.accepted.items) c.args.source c.args.dest (omega (arith, nodes, test)))) refl,
            record { outs = ap (λ (s : Injector). s.outs.items) w.self-is; accepted = ap (λ (s : Injector). s.accepted.items) w.self-is },
          ))
    ]

pub returns-then-count-self-clause-answer : goal.returns-then-count-self-clause-answer
returns-then-count-self-clause-answer g c =
    let self = c.args.self.now in
    let nodes : length c.args.self.now.outs.items ≡ node_count (knows c.args.self.now.opening).topology = sym (length-map c.args.self.now.outs.items _) ∙ c.args.self.now.ends.count in (
      subst (λ (o : Option Refused). IsInjectRefusedAs g.R.Moments.was_full c.args.self.now c.args.source TooManyPackets o)
          (sym (too_many (node_count (knows self.opening).topology) self.max_packets (length self.accepted.items) c.args.source c.args.dest (omega (arith, nodes)) (omega (arith, nodes)) (omega arith))) refl,
      record { outs = refl; accepted = refl },
    )

pub returns-in_default-clause-answer : goal.returns-in_default-clause-answer
returns-in_default-clause-answer g c =
    let self = c.args.self.now in
    let nodes : length c.args.self.now.outs.items ≡ node_count (knows c.args.self.now.opening).topology = sym (length-map c.args.self.now.outs.items _) ∙ c.args.self.now.ends.count in (
      subst (λ (o : Option Refused). IsInjectRefusedAs g.R.Moments.was_full c.args.self.now c.args.source NoMemory o)
          (sym (not_refused (node_count (knows self.opening).topology) self.max_packets (length self.accepted.items) c.args.source c.args.dest (omega (arith, nodes)) (omega (arith, nodes)) (omega arith))) (inl refl),
      record { outs = refl; accepted = refl },
    )

pub returns-then-not-send_to-clause-answer : goal.returns-then-not-send_to-clause-answer
returns-then-not-send_to-clause-answer g c =
    let self = c.args.self.now in
    let nodes : length c.args.self.now.outs.items ≡ node_count (knows c.args.self.now.opening).topology = sym (length-map c.args.self.now.outs.items _) ∙ c.args.self.now.ends.count in (
      subst (λ (o : Option Refused). IsInjectRefusedAs g.R.Moments.was_full c.args.self.now c.args.source InboxFull o)
          (sym (not_refused (node_count (knows self.opening).topology) self.max_packets (length self.accepted.items) c.args.source c.args.dest (omega (arith, nodes)) (omega (arith, nodes)) (omega arith)))
          (inr (refl, c.if-not-send_to.ensures.sent.1)),
      record { outs = c.if-not-send_to.ensures.sent.0; accepted = c.reserve.ensures.items },
    )

pub invariant_of-self-2-clause-ends : goal.invariant_of-self-2-clause-ends
invariant_of-self-2-clause-ends g c =
    subst (λ (ls : List (Channel Place)). AreEntryEnds c.args.self.now.opening c.args.self.now.restamps ls) (sym c.if-not-send_to.ensures.lines) c.args.self.now.ends

pub invariant_of-self-then-not-send_to-clause-ends : goal.invariant_of-self-then-not-send_to-clause-ends
invariant_of-self-then-not-send_to-clause-ends g c =
    subst (λ (ls : List (Channel Place)). AreEntryEnds c.args.self.now.opening c.args.self.now.restamps ls) (sym c.if-not-send_to.ensures.lines) c.args.self.now.ends

pub invariant_of-self-2-clause-counted : goal.invariant_of-self-2-clause-counted
invariant_of-self-2-clause-counted g c =
    let a : Accepted = entry c.len-count.result c.epoch-epoch.result c.args.source c.args.dest in
    let more : length c.push_reserved.new.self.items ≡ length (c.args.self.now.accepted.items ++ a ∷ []) =
    ap (λ (xs : List Accepted). length xs) (c.push_reserved.ensures.items ∙ ap (λ (xs : List Accepted). xs ++ a ∷ []) c.reserve.ensures.items) in
    let n = length_push c.args.self.now.accepted.items a in
    omega (arith, more, n)

pub invariant_of-self-then-not-send_to-clause-counted : goal.invariant_of-self-then-not-send_to-clause-counted
invariant_of-self-then-not-send_to-clause-counted g c = subst (λ (xs : List Accepted). length xs ≤ c.args.self.now.max_packets) (sym c.reserve.ensures.items) c.args.self.now.counted

-- the newest stamp's network has as many nodes as the opening's
many : (self : Injector) (s : Stamp) → s ≡ self.newest → node_count (knows s).topology ≡ length self.outs.items
many self s is =
    ap (λ (s : Stamp). node_count (knows s).topology) is ∙ over_nodes (knows self.opening).topology (knows self.newest).topology self.newest_of.1
    ∙ sym (sym (length-map self.outs.items _) ∙ self.ends.count)

pub start-requires-clause-source : goal.start-requires-clause-source
start-requires-clause-source g c = let n = many c.args.self.now c.again.result c.again.ensures in omega (arith, n)

pub start-requires-clause-dest : goal.start-requires-clause-dest
start-requires-clause-dest g c = let n = many c.args.self.now c.again.result c.again.ensures in omega (arith, n)

pub start-requires-clause-few : goal.start-requires-clause-few
start-requires-clause-few g c =
    let n = many c.args.self.now c.again.result c.again.ensures in
    let nodes : length c.args.self.now.outs.items ≡ node_count (knows c.args.self.now.opening).topology = sym (length-map c.args.self.now.outs.items _) ∙ c.args.self.now.ends.count in
    let few = c.args.self.now.few_nodes in
    omega (arith, n, nodes, few)

pub returns-then-source-nodes-clause-same : goal.returns-then-source-nodes-clause-same
returns-then-source-nodes-clause-same g c = elim c.then-source-nodes.branch [
  | then-source-nodes-via-then-source-nodes w ↦ (ap (λ (s : Injector). s.opening) w.self-is, ap (λ (s : Injector). s.newest) w.self-is, ap (λ (s : Injector). s.max_packets) w.self-is)
  | then-source-nodes-via-else-source-nodes+then-dest-nodes w ↦ (ap (λ (s : Injector). s.opening) w.self-is, ap (λ (s : Injector). s.newest) w.self-is, ap (λ (s : Injector). s.max_packets) w.self-is)
]

pub returns-then-source-nodes-clause-lines : goal.returns-then-source-nodes-clause-lines
returns-then-source-nodes-clause-lines g c = elim c.then-source-nodes.branch [
  | then-source-nodes-via-then-source-nodes w ↦ ap (λ (s : Injector). lines_out s.outs.items) w.self-is
  | then-source-nodes-via-else-source-nodes+then-dest-nodes w ↦ ap (λ (s : Injector). lines_out s.outs.items) w.self-is
]
