use Rattle.std.proofs.Common.{ap, ◌∙◌, ◌≡◌, subst, false}
use Rattle.ir_model.specs.Plan.{node_in}
use Rattle.ir_core.specs.Entry.{judged}
use Rattle.ir_core.specs.Record.{present, stamp_of}
use Rattle.ir_core.specs.Sound.{last_of}
use Rattle.ir_worker.specs.declared.parcel.Body.{Body}
use Rattle.ir_worker.specs.Seen.{Parcel, stamps_of}
use Rattle.ir_worker.proofs.Bodies.{body_judged}
use Rattle.ir_worker.proofs.Routes.{last_present}
use Rattle.ir_worker.proofs.parcel.Parcel.judge.Goals as goal

pub returns-clause-verdict : goal.returns-clause-verdict
returns-clause-verdict c =
    body_judged c.args.self.now c.self.inside.body.value c.args.board.now c.args.way c.args.at c.args.plan.now c.stamp.result c.judge.result (c.self.view_is, c.self.invariant) c.invariant.ensures.plan c.requires.plan
    (c.stamp.ensures ∙ ap (λ (b : Body). stamp_of b.packet) c.deref.ensures)
    (c.judge.ensures ∙ ap (λ (b : Body). judged c.args.plan.now c.args.board.now (λ _. false) c.args.way c.args.at c.stamp.result (node_in c.args.plan.now b.address)) c.deref-2.ensures)

pub returns-clause-last : goal.returns-clause-last
returns-clause-last c =
    subst (λ (p : Parcel). last_of (present p.packet).hops ≡ last_of p.packet.hops) c.self.view_is
    (last_present (stamps_of c.self.inside.body.value.first c.self.inside.body.value.later.items) c.self.inside.body.value.packet c.self.invariant.0.routed)
