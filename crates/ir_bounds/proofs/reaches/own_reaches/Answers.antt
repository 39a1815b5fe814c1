use Rattle.std.proofs.Common.{◌≡◌, ◌+◌, ◌-◌, ◌*◌, ◌/◌, ◌<◌, ℕ, false, List, refl, arith, get_or}
use Rattle.ir_model.specs.Landmark.{is_far}
use Rattle.ir_tables.specs.Relaxation.{at}
use Rattle.ir_bounds.proofs.Numbers.{number_pushed}
use Rattle.ir_bounds.proofs.Reaching.{near_below}
use Rattle.ir_bounds.proofs.reaches.own_reaches.Goals as goal

pub loop-radius-preserved : goal.loop-radius-preserved
loop-radius-preserved c =
    let i : ℕ = c.loop-radius.radius-index in
    let radii : List ℕ = c.args.radii.now in
    let stretch : ℕ = c.args.stretch in
    let radius : ℕ = get_or radii i 0 in
    let reach : ℕ = (200 * radius + (stretch - 100) - 1) / (stretch - 100) in
    let pushed = number_pushed (λ (d x : ℕ). (away : ℕ) → is_far stretch away (at radii d) ≡ false → away < x) i c.loop-radius.reaches.items c.push.new.self.items reach
    c.loop-radius.invariant.every c.loop-radius.invariant.near c.in_ok-push.ensures.items
    (λ away near. near_below stretch radius away (stretch - 100) reach (omega (arith, c.requires)) (omega (arith, c.requires)) refl near) in
    record { every = pushed.0; near = pushed.1 }
