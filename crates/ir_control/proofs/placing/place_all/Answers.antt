use Rattle.std.specs.Prelude.{◌≡◌, ◌+◌, ◌≤◌, ◌∷◌, ◌++◌, [], ℕ, List, Option, length, sum_by}
use Rattle.std.proofs.Common.{arith, refl, ap, ◌∙◌}
use Rattle.std.proofs.lemmas.Grind.{common_steps}
use Rattle.std.proofs.lemmas.List.Sums.{sum_by_push}
use Rattle.ir_control.specs.Slots.{slot_weight, hit, once, AllIn, CameIntoSlots}
use Rattle.ir_control.proofs.OfNet.{all_front, all_last}
use Rattle.ir_control.proofs.placing.place_all.Invariants.{IsPlacing}
use Rattle.ir_control.proofs.placing.place_all.Goals as goal

module _ {X : Type 0} (key : X → ℕ) {Whole : Type 0} (P : X → Whole → Type 0) (slots_0 : List (Option X)) (all : List X) (slots : List (Option X)) (items rest : List X) (x : X)
    (placing : IsPlacing key P slots_0 all slots items) (popped : items ≡ rest ++ x ∷ []) where
  split : (w : X → ℕ) → sum_by (slot_weight w) slots + (sum_by w rest + w x) ≡ sum_by (slot_weight w) slots_0 + sum_by w all
  split w =
      let before = placing.weighs w in
      let items_are = ap (sum_by w) popped ∙ sum_by_push w rest x in
      omega (arith, before, items_are)

  fits_one : ((i : ℕ) → sum_by (slot_weight (hit key i)) slots_0 + sum_by (hit key i) all ≤ once (length slots_0) i) → (i : ℕ) → sum_by (slot_weight (hit key i)) slots + hit key i x ≤ once (length slots) i
  fits_one fits i =
      let sums = split (hit key i) in
      let most = fits i in
      let len = ap (λ n. once n i) placing.len in
      omega (arith, sums, most, len)

  placed_one : (after : List (Option X)) → CameIntoSlots key slots after (λ w. w x)
      → ((whole : Whole) → AllIn (λ y. P y whole) slots → P x whole → AllIn (λ y. P y whole) after) → IsPlacing key P slots_0 all after rest
  placed_one after placed kept = record {
    len = placed.count ∙ placing.len;
    at = placed.at;
    kinds = λ whole first each. (let was = placing.kinds whole first each in
        (kept whole was.0 (all_last (λ y. P y whole) rest items x popped was.1), all_front (λ y. P y whole) rest items x popped was.1));
    weighs = λ w. (let sums = split w in let more = placed.weighs w in omega (arith, sums, more));
  }

pub place-requires : goal.place-requires
place-requires g c = record {
  at = c.loop-item.invariant.at;
  fits = fits_one g.T.Member.key_of g.T.Member.belongs c.args.slots.now.items c.args.items.items c.loop-item.slots.items c.loop-item.items.items c.pop.new.self.items c.in-Some.item
      c.loop-item.invariant c.in-Some.ensures.items c.requires.fits;
}

pub loop-item-preserved : goal.loop-item-preserved
loop-item-preserved g c =
    placed_one g.T.Member.key_of g.T.Member.belongs c.args.slots.now.items c.args.items.items c.loop-item.slots.items c.loop-item.items.items c.pop.new.self.items c.in-Some.item
    c.loop-item.invariant c.in-Some.ensures.items c.place.new.slots.items c.place.ensures.placed c.place.ensures.all

pub loop-item-init : goal.loop-item-init
loop-item-init g c = record { len = refl; at = c.requires.at; kinds = λ whole first each. (first, each); weighs = λ w. refl }

pub returns-clause-placed : goal.returns-clause-placed
returns-clause-placed g c =
    let empty : c.loop-item.items.items ≡ [] = grind (arith, common_steps) in
    record {
      count = c.loop-item.invariant.len;
      at = c.loop-item.invariant.at;
      weighs = λ w. (let none = ap (sum_by w) empty in let all = c.loop-item.invariant.weighs w in omega (arith, none, all));
    }

pub returns-clause-all : goal.returns-clause-all
returns-clause-all g c = λ whole first each. (c.loop-item.invariant.kinds whole first each).0
