use Rattle.std.specs.Prelude.{◌≡◌, ◌+◌, ℕ, length, Some, sum_by, slice_set}
use Rattle.std.proofs.Common.{arith, refl, sym, subst, length-set}
use Rattle.ir_control.specs.Slots.{slot_weight, AllAt}
use Rattle.ir_control.proofs.Slotted.{below, all_at_after, weighs_more, all_in_after}
use Rattle.ir_control.proofs.placing.place.Goals as goal

pub index_mut-requires : goal.index_mut-requires
index_mut-requires g c =
    let lt = below g.T.Member.key_of (length c.args.slots.now.items) c.args.slots.now.items c.args.item c.requires.fits in
    let key = c.key-key.ensures in
    let len = c.args.slots.now.ok in
    omega (arith, lt, key, len)

pub returns-clause-placed : goal.returns-clause-placed
returns-clause-placed g c =
    let key = g.T.Member.key_of in
    let slots = c.args.slots.now.items in
    let item = c.args.item in
    let at = sym c.key-key.ensures in
    record {
      count = length-set slots c.key-key.result (Some item);
      at = subst (λ (k : ℕ). AllAt key (slice_set slots k (Some item))) at (all_at_after key (length slots) slots item refl c.requires.at c.requires.fits);
      weighs = λ w. subst (λ (k : ℕ). sum_by (slot_weight w) (slice_set slots k (Some item)) ≡ sum_by (slot_weight w) slots + w item) at
          (weighs_more key (length slots) slots item refl c.requires.at c.requires.fits w);
    }

pub returns-clause-all : goal.returns-clause-all
returns-clause-all g c = λ whole all here.
    (let lt = below g.T.Member.key_of (length c.args.slots.now.items) c.args.slots.now.items c.args.item c.requires.fits in
    let key = c.key-key.ensures in
    all_in_after (λ x. g.T.Member.belongs x whole) c.args.slots.now.items c.key-key.result c.args.item (omega (arith, lt, key)) all here)
