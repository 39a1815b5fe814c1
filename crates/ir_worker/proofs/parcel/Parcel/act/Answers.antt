use Rattle.std.proofs.Common.{subst, ap, sym, length, ◌∙◌}
use Rattle.ir_core.specs.Record.{Record}
use Rattle.ir_worker.specs.declared.parcel.Body.{Body}
use Rattle.ir_worker.specs.Seen.{IsSoundByStamps, stamps_of}
use Rattle.ir_worker.proofs.Acts.{IsJudged, on_kept, on_leads, on_here, on_sound}
use Rattle.ir_worker.proofs.Bodies.{body_again, body_room}
use Rattle.ir_worker.proofs.parcel.Parcel.act.Goals as goal

pub act-requires-clause-hops : goal.act-requires-clause-hops
act-requires-clause-hops c =
    let i = c.deref_mut-body.result.now in
    body_room c.args.self i c.args.at c.args.way (body_again c.args.self c.self.inside.body.value i c.deref_mut-body.ensures.value (c.self.view_is, c.self.invariant)) c.requires.due

pub invariant_of-self : goal.invariant_of-self
invariant_of-self c =
    let i = c.deref_mut-body.result.now in
    let is = body_again c.args.self c.self.inside.body.value i c.deref_mut-body.ensures.value (c.self.view_is, c.self.invariant) in
    let judging : IsJudged c.args.board.now c.args.way c.args.at c.args.verdict c.args.self = (c.requires.plan, c.requires.at_in, c.requires.due, c.requires.verdict) in (
      on_kept c.args.board.now c.args.way c.args.at c.args.self i.first i.later.items i.packet i.next i.address is.1.0 c.args.verdict is.0 judging c.act.new.self c.act.ensures c.in-GoesOn.hop c.in-GoesOn.is,
      is.1.1,
      is.1.2 ∙ ap (λ (r : Record). length r.restamps) (sym c.act.ensures),
    )

pub returns-in-GoesOn-clause-leads : goal.returns-in-GoesOn-clause-leads
returns-in-GoesOn-clause-leads c =
    let i = c.deref_mut-body.result.now in
    let is = body_again c.args.self c.self.inside.body.value i c.deref_mut-body.ensures.value (c.self.view_is, c.self.invariant) in
    let judging : IsJudged c.args.board.now c.args.way c.args.at c.args.verdict c.args.self = (c.requires.plan, c.requires.at_in, c.requires.due, c.requires.verdict) in
    on_leads c.args.board.now c.args.way c.args.at c.args.self i.first i.later.items i.packet i.next i.address is.1.0 c.args.verdict is.0 judging c.act.new.self c.act.ensures c.in-GoesOn.hop c.in-GoesOn.is

pub returns-in-GoesOn-clause-here : goal.returns-in-GoesOn-clause-here
returns-in-GoesOn-clause-here c =
    let i = c.deref_mut-body.result.now in
    let is = body_again c.args.self c.self.inside.body.value i c.deref_mut-body.ensures.value (c.self.view_is, c.self.invariant) in
    let judging : IsJudged c.args.board.now c.args.way c.args.at c.args.verdict c.args.self = (c.requires.plan, c.requires.at_in, c.requires.due, c.requires.verdict) in
    on_here c.args.board.now c.args.way c.args.at c.args.self i.first i.later.items i.packet i.next i.address is.1.0 c.args.verdict is.0 judging c.act.new.self c.act.ensures c.in-GoesOn.hop c.in-GoesOn.is

pub outcome_of-requires-clause-epoch : goal.outcome_of-requires-clause-epoch
outcome_of-requires-clause-epoch c =
    let i = c.deref_mut-body.result.now in
    let is = body_again c.args.self c.self.inside.body.value i c.deref_mut-body.ensures.value (c.self.view_is, c.self.invariant) in
    let out = c.into_inner.ensures in
    ap (λ (b : Body). b.packet.epoch) out ∙ (ap (λ (r : Record). r.epoch) c.act.ensures ∙ is.1.0.first_epoch) ∙ sym (ap (λ (b : Body). b.first.epoch) out)

pub outcome_of-requires-clause-sound : goal.outcome_of-requires-clause-sound
outcome_of-requires-clause-sound c =
    let i = c.deref_mut-body.result.now in
    let is = body_again c.args.self c.self.inside.body.value i c.deref_mut-body.ensures.value (c.self.view_is, c.self.invariant) in
    let judging : IsJudged c.args.board.now c.args.way c.args.at c.args.verdict c.args.self = (c.requires.plan, c.requires.at_in, c.requires.due, c.requires.verdict) in
    subst (λ (b : Body). ∥ IsSoundByStamps (stamps_of b.first b.later.items) b.packet ∥₁) (sym c.into_inner.ensures)
    (on_sound c.args.board.now c.args.way c.args.at c.args.self i.first i.later.items i.packet i.next i.address is.1.0 c.args.verdict is.0 judging c.act.new.self c.act.ensures)
