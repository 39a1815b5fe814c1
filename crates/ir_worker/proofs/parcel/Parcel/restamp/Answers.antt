use Rattle.std.proofs.Common.{ap, ◌∙◌, ◌≡◌, ◌++◌, ◌∷◌, [], length, arith, List, ℕ}
use Rattle.std.proofs.lemmas.List.{length_push}
use Rattle.ir_model.specs.Plan.{Plan, label_in}
use Rattle.ir_core.specs.Record.{Record}
use Rattle.ir_core.specs.Entry.{restamped}
use Rattle.ir_core.specs.declared.packet.Restamp.{Restamp}
use Rattle.ir_epochs.specs.declared.registry.Stamp.{Stamp}
use Rattle.ir_epochs.specs.Stamps.{knows}
use Rattle.ir_worker.proofs.Bodies.{body_again, body_room}
use Rattle.ir_worker.proofs.Routes.{restamp_kept, IsRestampable}
use Rattle.ir_worker.proofs.parcel.Parcel.restamp.Goals as goal

one_more : (later later' : List Stamp) (s : Stamp) (marks marks' : List Restamp) (m : Restamp) → length later ≡ length marks → later' ≡ later ++ s ∷ [] → marks' ≡ marks ++ m ∷ [] → length later' ≡ length marks'
one_more later later' s marks marks' m same a b =
    let x : length later' ≡ length (later ++ s ∷ []) = ap length a in
    let y : length marks' ≡ length (marks ++ m ∷ []) = ap length b in
    omega (arith, length_push later s, length_push marks m)

pub restamp-requires-clause-hops : goal.restamp-requires-clause-hops
restamp-requires-clause-hops c =
    let i = c.deref_mut-body.result.now in
    body_room c.args.self i c.args.at c.args.way (body_again c.args.self c.self.inside.body.value i c.deref_mut-body.ensures.value (c.self.view_is, c.self.invariant)) c.requires.due

pub invariant_of-self : goal.invariant_of-self
invariant_of-self c =
    let i = c.deref_mut-body.result.now in
    let is = body_again c.args.self c.self.inside.body.value i c.deref_mut-body.ensures.value (c.self.view_is, c.self.invariant) in
    let may : IsRestampable c.args.stamp c.args.at c.args.way c.args.self = (c.requires.nodes, c.requires.due, c.requires.is_new, c.requires.above, c.requires.left, c.requires.room) in
    let made : c.restamp.new.self ≡ restamped c.args.at c.args.way c.args.stamp.epoch i.packet =
    c.restamp.ensures ∙ ap (λ (e : ℕ). restamped c.args.at c.args.way e i.packet) c.epoch.ensures.value in
    let label : c.label_of-body.result ≡ label_in (knows c.args.stamp) i.packet.dest =
    c.label_of-body.ensures ∙ ap (λ (t : Plan). label_in t c.destination.result) c.requires.plan ∙ ap (λ (d : ℕ). label_in (knows c.args.stamp) d) (c.destination.ensures ∙ ap (λ (r : Record). r.dest) made) in
    let capacity = c.push_reserved.ensures.capacity in
    let was = is.1.1 in (
      restamp_kept i.first i.later.items c.args.stamp c.args.at c.args.way i.packet i.next i.address is.1.0 c.requires.at_in c.args.self is.0 may
          c.label_of-body.result label c.push_reserved.new.self.items c.push_reserved.ensures.items c.restamp.new.self made,
      omega arith,
      one_more i.later.items c.push_reserved.new.self.items c.args.stamp i.packet.restamps c.restamp.new.self.restamps _ is.1.2 c.push_reserved.ensures.items (ap (λ (r : Record). r.restamps) made),
    )
