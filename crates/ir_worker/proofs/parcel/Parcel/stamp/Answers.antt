use Rattle.std.proofs.Common.{subst, ◌≡◌}
use Rattle.ir_core.specs.Record.{present}
use Rattle.ir_core.specs.Sound.{last_of}
use Rattle.ir_worker.specs.Seen.{Parcel, stamps_of}
use Rattle.ir_worker.proofs.Routes.{last_present}
use Rattle.ir_worker.proofs.parcel.Parcel.stamp.Goals as goal

pub returns-in-Some-clause-last : goal.returns-in-Some-clause-last
returns-in-Some-clause-last c =
    subst (λ (p : Parcel). last_of (present p.packet).hops ≡ last_of p.packet.hops) c.self.view_is
    (last_present (stamps_of c.self.inside.body.value.first c.self.inside.body.value.later.items) c.self.inside.body.value.packet c.self.invariant.0.routed)
