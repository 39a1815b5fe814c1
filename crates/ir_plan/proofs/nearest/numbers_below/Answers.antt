use Rattle.std.proofs.Common.{◌≡◌, ℕ, ◌+◌, ◌<◌, ◌∙◌, length, refl, ap, arith}
use Rattle.std.specs.Prelude.{slice_index}
use Rattle.std.proofs.lemmas.List.{length_push}
use Rattle.ir_plan.proofs.Lists.{read_pushed}
use Rattle.ir_plan.proofs.Tours.{numbers_list}
use Rattle.ir_plan.proofs.nearest.numbers_below.Goals as goal

pub loop-v-preserved : goal.loop-v-preserved
loop-v-preserved c = record {
  every = ap length c.in_ok-push.ensures.items ∙ length_push c.loop-v.order.items c.loop-v.v ∙ ap (λ (k : ℕ). k + 1) c.loop-v.invariant.every;
  own = read_pushed (λ (k : ℕ). k) c.loop-v.order.items c.push.new.self.items c.loop-v.v c.loop-v.v c.loop-v.invariant.every c.loop-v.invariant.own c.in_ok-push.ensures.items refl;
}

pub returns : goal.returns
returns c =
    let len : length c.loop-v.order.items ≡ c.args.nodes = omega (arith, c.loop-v.invariant.every) in
    let own : (k : ℕ) → k < c.args.nodes → slice_index c.loop-v.order.items k ≡ k = λ k lt. c.loop-v.invariant.own k (omega (arith, lt)) in
    record { listing = numbers_list c.args.nodes c.loop-v.order.items len own; own = own }
