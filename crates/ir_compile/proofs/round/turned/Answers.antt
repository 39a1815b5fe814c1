use Rattle.std.proofs.Common.{◌≡◌, ◌++◌, ℕ, List, length, slice_index, ap, ◌∙◌}
use Rattle.ir_model.specs.Choices.{label_from}
use Rattle.ir_compile.proofs.Turned.{front, back, turned_long, turned_at}
use Rattle.ir_compile.proofs.round.turned.Goals as goal

items_are : (c : goal.In_ok-extend_from_slice-2) → c.extend_from_slice-2.new.self.items ≡ front c.args.n c.args.start c.args.places.now c.requires.start c.requires.room ++ back c.args.n c.args.start c.args.places.now c.requires.start c.requires.room
items_are c =
    c.in_ok-extend_from_slice-2.ensures.items
    ∙ ap (λ (xs : List ℕ). xs ++ back c.args.n c.args.start c.args.places.now c.requires.start c.requires.room)
    (c.in_ok-extend_from_slice.ensures.items ∙ ap (λ (xs : List ℕ). xs ++ front c.args.n c.args.start c.args.places.now c.requires.start c.requires.room) c.in_ok-plain.ensures.items)

pub returns-clause-every : goal.returns-clause-every
returns-clause-every c = ap (λ (xs : List ℕ). length xs) (items_are c) ∙ turned_long c.args.n c.args.start c.args.places.now c.requires.start c.requires.room

pub returns-clause-each : goal.returns-clause-each
returns-clause-each c = λ j l. ap (λ (xs : List ℕ). slice_index xs (label_from c.args.n c.args.start j)) (items_are c) ∙ turned_at c.args.n c.args.start c.args.places.now c.requires.start c.requires.room j l
