use Rattle.std.proofs.Common.{length, arith, ◌∙◌, ℕ, ap, sym, inl, inr, length-set, get_or-set_other}
use Rattle.std.specs.Prelude.{slice_index}
use Rattle.std.proofs.lemmas.Bool.{cases_eq}
use Rattle.std.proofs.lemmas.Grind.{get_or-set_at}
use Rattle.ir_numbering.proofs.Traversal.{are_labels}
use Rattle.ir_numbering.proofs.parents.labels_of.Goals as goal

pub returns : goal.returns
returns c =
    let f = c.loop-place-test.false in
    are_labels (length c.args.order.now) c.args.order.now c.loop-place.labels.items c.requires.listing c.loop-place.invariant.every
    (λ k h. c.loop-place.invariant.told k (omega arith))

pub bounds-order-place : goal.bounds-order-place
bounds-order-place c = c.loop-place-test.true

pub index_mut-requires : goal.index_mut-requires
index_mut-requires c =
    let ok = c.loop-place.labels.ok in
    omega (arith, c.requires.listing.nodes c.loop-place.place 0 c.loop-place-test.true, c.loop-place.invariant.every, ok)

pub loop-place-preserved : goal.loop-place-preserved
loop-place-preserved c =
    let order = c.args.order.now in
    let labels = c.loop-place.labels.items in
    let place : ℕ = c.loop-place.place in
    let here : ℕ = slice_index order place in
    let i = c.loop-place.invariant in
    let node = c.requires.listing.nodes place 0 c.loop-place-test.true in
    record {
      every = length-set labels here place ∙ i.every;
      told = λ k below.
          elim (cases_eq k place) [
            | inl e ↦ get_or-set_at labels here (slice_index order k) place 0 (ap (slice_index order) e) (omega (arith, node, i.every)) ∙ sym e
            | inr ne ↦
                let apart = c.requires.listing.once k place 0 (omega (arith, below, ne)) c.loop-place-test.true in
                get_or-set_other labels here (slice_index order k) place 0 apart ∙ i.told k (omega (arith, below, ne))
          ];
    }
