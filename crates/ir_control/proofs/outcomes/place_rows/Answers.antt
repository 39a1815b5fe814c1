use Rattle.std.specs.Prelude.{◌≡◌, [], All, sum_by, length}
use Rattle.std.proofs.Common.{arith, refl, ap, ◌∙◌}
use Rattle.std.proofs.lemmas.Grind.{common_steps}
use Rattle.ir_worker.specs.declared.parcel.Outcome.{Outcome}
use Rattle.ir_control.specs.Slots.{slot_weight, hit, once}
use Rattle.ir_control.specs.Told.{outcome_number, IsOutcomeIn}
use Rattle.ir_control.proofs.OfNet.{all_front, all_last}
use Rattle.ir_control.proofs.Telling.{rest_put, fits_now}
use Rattle.ir_control.proofs.outcomes.place_rows.Goals as goal

pub place_all-requires : goal.place_all-requires
place_all-requires c = record {
  at = c.loop-row.invariant.at;
  fits = λ i.
      (let now = fits_now (λ row. sum_by (hit outcome_number i) row.items) (sum_by (slot_weight (hit outcome_number i)) c.loop-row.slots.items) (sum_by (slot_weight (hit outcome_number i)) c.args.slots.now.items)
      (sum_by (λ row. sum_by (hit outcome_number i) row.items) c.args.rows.items) (once (length c.args.slots.now.items) i) c.loop-row.rows.items c.pop.new.self.items c.in-Some.row c.in-Some.ensures.items (c.loop-row.invariant.weighs (hit outcome_number i)) (c.requires.fits i) in
      let len = ap (λ n. once n i) c.loop-row.invariant.len in
      omega (arith, now, len));
}

pub loop-row-init : goal.loop-row-init
loop-row-init c = record { len = refl; at = c.requires.at; kinds = λ opening first each. (first, each); weighs = λ w. refl }

pub loop-row-preserved : goal.loop-row-preserved
loop-row-preserved c = record {
  len = c.place_all.ensures.placed.count ∙ c.loop-row.invariant.len;
  at = c.place_all.ensures.placed.at;
  kinds = λ opening first each. (let was = c.loop-row.invariant.kinds opening first each in (
    c.place_all.ensures.all opening was.0 (all_last (λ row. All (λ (o : Outcome). IsOutcomeIn opening o) row.items) c.pop.new.self.items c.loop-row.rows.items c.in-Some.row c.in-Some.ensures.items was.1),
    all_front (λ row. All (λ (o : Outcome). IsOutcomeIn opening o) row.items) c.pop.new.self.items c.loop-row.rows.items c.in-Some.row c.in-Some.ensures.items was.1,
  ));
  weighs = λ w. rest_put (λ row. sum_by w row.items) (sum_by (slot_weight w) c.loop-row.slots.items) (sum_by (slot_weight w) c.place_all.new.slots.items) (sum_by (slot_weight w) c.args.slots.now.items)
      (sum_by (λ row. sum_by w row.items) c.args.rows.items) c.loop-row.rows.items c.pop.new.self.items c.in-Some.row c.in-Some.ensures.items (c.loop-row.invariant.weighs w) (c.place_all.ensures.placed.weighs w);
}

pub returns-clause-placed : goal.returns-clause-placed
returns-clause-placed c =
    let empty : c.loop-row.rows.items ≡ [] = grind (arith, common_steps) in
    record {
      count = c.loop-row.invariant.len;
      at = c.loop-row.invariant.at;
      weighs = λ w. (let none = ap (sum_by (λ row. sum_by w row.items)) empty in let all = c.loop-row.invariant.weighs w in omega (arith, none, all));
    }

pub returns-clause-all : goal.returns-clause-all
returns-clause-all c = λ opening first each. (c.loop-row.invariant.kinds opening first each).0
