use Rattle.std.specs.Prelude.{◌≡◌, ◌++◌, [], All, sum_by, length}
use Rattle.std.proofs.Common.{arith, refl, sym, ap, ◌∙◌, subst}
use Rattle.std.proofs.lemmas.Grind.{common_steps}
use Rattle.std.proofs.lemmas.List.Elements.{All-append, All-nil}
use Rattle.ir_core.specs.declared.packet.Fate.TheVariants.{Left}
use Rattle.ir_worker.specs.Seen.{Parcel}
use Rattle.ir_control.specs.Slots.{slot_weight, hit, once, left_in}
use Rattle.ir_control.specs.Told.{Told, outcome_told, told_left, outcome_number}
use Rattle.ir_control.specs.Whole.{IsParcelOf}
use Rattle.ir_control.proofs.Meetings.{left_push}
use Rattle.ir_control.proofs.Telling.{part_put, part_fits, all_first, all_rest}
use Rattle.ir_control.proofs.outcomes.place_left.Goals as goal

abbrev IsDone : Parcel → Type 0
IsDone x = x.packet.fate ≡ Left

pub place_rest-requires : goal.place_rest-requires
place_rest-requires g c = record {
  at = c.loop-channel.invariant.at;
  fits = λ i.
      (let popped : left_in c.loop-channel.channels.items ≡ left_in c.pop.new.self.items ++ c.in-Some.channel.left = ap left_in c.in-Some.ensures.items ∙ left_push c.pop.new.self.items c.in-Some.channel in
      let now = part_fits (hit (λ (x : Parcel). x.packet.id) i) (sum_by (slot_weight (hit outcome_number i)) c.loop-channel.slots.items) (sum_by (slot_weight (hit outcome_number i)) c.args.slots.now.items)
      (sum_by (hit (λ (x : Parcel). x.packet.id) i) (left_in c.args.channels.items)) (once (length c.args.slots.now.items) i) (left_in c.loop-channel.channels.items) (left_in c.pop.new.self.items) c.in-Some.channel.left popped
      (c.loop-channel.invariant.weighs (λ t. hit (λ (s : Told). s.packet.id) i t)) (c.requires.fits i) in
      let len = ap (λ n. once n i) c.loop-channel.invariant.len in
      omega (arith, now, len));
}

pub loop-channel-init : goal.loop-channel-init
loop-channel-init g c = record { len = refl; at = c.requires.at; kinds = λ opening first each. (first, each); weighs = λ w. refl; fates = λ all. all }

pub loop-channel-preserved : goal.loop-channel-preserved
loop-channel-preserved g c =
    let popped : left_in c.loop-channel.channels.items ≡ left_in c.pop.new.self.items ++ c.in-Some.channel.left = ap left_in c.in-Some.ensures.items ∙ left_push c.pop.new.self.items c.in-Some.channel in
    let placed = c.place_rest.ensures.placed in
    record {
      len = placed.count ∙ c.loop-channel.invariant.len;
      at = placed.at;
      kinds = λ opening first each. (let was = c.loop-channel.invariant.kinds opening first each in
          let all = subst (All (λ (x : Parcel). IsParcelOf opening x)) popped was.1 in (
            c.place_rest.ensures.all opening was.0 (all_rest (λ (x : Parcel). IsParcelOf opening x) (left_in c.pop.new.self.items) c.in-Some.channel.left all),
            all_first (λ (x : Parcel). IsParcelOf opening x) (left_in c.pop.new.self.items) c.in-Some.channel.left all,
          ));
      weighs = λ w. part_put (λ (x : Parcel). w (told_left x)) (sum_by (slot_weight (λ o. w (outcome_told o))) c.loop-channel.slots.items) (sum_by (slot_weight (λ o. w (outcome_told o))) c.place_rest.new.slots.items) (sum_by (slot_weight (λ o. w (outcome_told o))) c.args.slots.now.items)
          (sum_by (λ x. w (told_left x)) (left_in c.args.channels.items)) (left_in c.loop-channel.channels.items) (left_in c.pop.new.self.items) c.in-Some.channel.left popped (c.loop-channel.invariant.weighs w) (placed.weighs w);
      fates = λ all. c.loop-channel.invariant.fates (subst (All IsDone) (sym popped) (All-append IsDone (left_in c.pop.new.self.items) c.in-Some.channel.left all placed.fates));
    }

pub returns-clause-placed : goal.returns-clause-placed
returns-clause-placed g c =
    let empty : c.loop-channel.channels.items ≡ [] = grind (arith, common_steps) in
    record {
      count = c.loop-channel.invariant.len;
      at = c.loop-channel.invariant.at;
      weighs = λ w. (let none = ap (λ cs. sum_by (λ x. w (told_left x)) (left_in cs)) empty in let all = c.loop-channel.invariant.weighs w in omega (arith, none, all));
      fates = c.loop-channel.invariant.fates (subst (λ cs. All IsDone (left_in cs)) (sym empty) (All-nil IsDone));
    }

pub returns-clause-all : goal.returns-clause-all
returns-clause-all g c = λ opening first each. (c.loop-channel.invariant.kinds opening first each).0
