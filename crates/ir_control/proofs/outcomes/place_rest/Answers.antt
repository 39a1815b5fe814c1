use Rattle.std.specs.Prelude.{◌≡◌, [], All, sum_by, length}
use Rattle.std.proofs.Common.{arith, refl, sym, ap, ◌∙◌, subst}
use Rattle.std.proofs.lemmas.Grind.{common_steps}
use Rattle.std.proofs.lemmas.List.Elements.{All-cons, All-head, All-nil, All-tail}
use Rattle.ir_core.specs.declared.packet.Fate.TheVariants.{Left}
use Rattle.ir_epochs.specs.declared.registry.Stamp.{Stamp}
use Rattle.ir_worker.specs.declared.parcel.Outcome.{Outcome}
use Rattle.ir_worker.specs.Seen.{Parcel, IsOfNet, stamps_of}
use Rattle.ir_control.specs.Slots.{slot_weight, hit, once}
use Rattle.ir_control.specs.Told.{Told, outcome_told, told_left, outcome_number, IsOutcomeIn}
use Rattle.ir_control.specs.Whole.{IsParcelOf}
use Rattle.ir_control.proofs.Telling.{head_put, head_fits}
use Rattle.ir_control.proofs.outcomes.place_rest.Goals as goal

is_told : (x : Parcel) (o : Outcome) → o.packet ≡ x.packet → o.stamp ≡ x.first → o.later.items ≡ x.later → outcome_told o ≡ told_left x
is_told x o a b d = (cc)

left_in : (opening : Stamp) (x : Parcel) (o : Outcome) → outcome_told o ≡ told_left x → IsParcelOf opening x → IsOutcomeIn opening o
left_in opening x o e is = ∣ subst (λ (t : Told). All (λ s. IsOfNet opening s) (stamps_of t.first t.later)) (sym e) is ∣₁

abbrev IsDone : Parcel → Type 0
IsDone x = x.packet.fate ≡ Left

pub place-requires : goal.place-requires
place-requires g c = record {
  at = c.loop.invariant.at;
  fits = λ i.
      (let now = head_fits (hit (λ (x : Parcel). x.packet.id) i) (sum_by (slot_weight (hit outcome_number i)) c.loop.slots.items) (sum_by (slot_weight (hit outcome_number i)) c.args.slots.now.items)
      (sum_by (hit (λ (x : Parcel). x.packet.id) i) c.args.channel.left) (once (length c.args.slots.now.items) i) c.loop.channel.left c.take.new.self.left c.in-Some-take.parcel c.in-Some-take.ensures.left (c.loop.invariant.weighs (λ t. hit (λ (s : Told). s.packet.id) i t)) (c.requires.fits i) in
      let len = ap (λ n. once n i) c.loop.invariant.len in
      let same : hit outcome_number i c.into_left.result ≡ hit (λ (x : Parcel). x.packet.id) i c.in-Some-take.parcel = ap (λ j. hit (λ (s : Told). s.packet.id) i j) (is_told c.in-Some-take.parcel c.into_left.result c.into_left.ensures.packet c.into_left.ensures.stamp c.into_left.ensures.later) in
      omega (arith, now, len, same));
}

pub loop-init : goal.loop-init
loop-init g c = record { len = refl; at = c.requires.at; kinds = λ opening first each. (first, each); weighs = λ w. refl; fates = λ all. all }

pub loop-preserved : goal.loop-preserved
loop-preserved g c =
    let told = is_told c.in-Some-take.parcel c.into_left.result c.into_left.ensures.packet c.into_left.ensures.stamp c.into_left.ensures.later in
    record {
      len = c.place.ensures.placed.count ∙ c.loop.invariant.len;
      at = c.place.ensures.placed.at;
      kinds = λ opening first each. (let was = c.loop.invariant.kinds opening first each in
          let all = subst (All (λ (x : Parcel). IsParcelOf opening x)) c.in-Some-take.ensures.left was.1 in (
            c.place.ensures.all opening was.0 (left_in opening c.in-Some-take.parcel c.into_left.result told (All-head (λ (x : Parcel). IsParcelOf opening x) c.in-Some-take.parcel c.take.new.self.left all)),
            All-tail (λ (x : Parcel). IsParcelOf opening x) c.in-Some-take.parcel c.take.new.self.left all,
          ));
      weighs = λ w. (let put = c.place.ensures.placed.weighs (λ o. w (outcome_told o)) in
          let same = ap w told in
          head_put (λ (x : Parcel). w (told_left x)) (sum_by (slot_weight (λ o. w (outcome_told o))) c.loop.slots.items) (sum_by (slot_weight (λ o. w (outcome_told o))) c.place.new.slots.items) (sum_by (slot_weight (λ o. w (outcome_told o))) c.args.slots.now.items)
          (sum_by (λ x. w (told_left x)) c.args.channel.left) c.loop.channel.left c.take.new.self.left c.in-Some-take.parcel c.in-Some-take.ensures.left (c.loop.invariant.weighs w) (omega (arith, put, same)));
      fates = λ all. c.loop.invariant.fates (subst (All IsDone) (sym c.in-Some-take.ensures.left) (All-cons IsDone c.in-Some-take.parcel c.take.new.self.left c.into_left.ensures.left all));
    }

pub returns-clause-placed : goal.returns-clause-placed
returns-clause-placed g c =
    let empty : c.loop.channel.left ≡ [] = grind (arith, common_steps) in
    record {
      count = c.loop.invariant.len;
      at = c.loop.invariant.at;
      weighs = λ w. (let none = ap (sum_by (λ x. w (told_left x))) empty in let all = c.loop.invariant.weighs w in omega (arith, none, all));
      fates = c.loop.invariant.fates (subst (All IsDone) (sym empty) (All-nil IsDone));
    }

pub returns-clause-all : goal.returns-clause-all
returns-clause-all g c = λ opening first each. (c.loop.invariant.kinds opening first each).0
