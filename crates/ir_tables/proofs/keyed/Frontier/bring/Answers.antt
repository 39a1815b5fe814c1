use Rattle.std.proofs.Common.{◌∷◌, ◌++◌, sym, subst, List}
use Rattle.std.specs.Prelude.{IsPermutation}
use Rattle.std.specs.BinaryHeap.{heap_items}
use Rattle.std.proofs.lemmas.List.Sorted.{IsPermutation-swap_remove}
use Rattle.ir_tables.specs.Keys.{KeyEntry}
use Rattle.ir_tables.proofs.Waiting.{come_near, gone, left_far}
use Rattle.ir_tables.proofs.keyed.Frontier.bring.Goals as goal

pub returns-in_ok-push-clause-fresh : goal.returns-in_ok-push-clause-fresh
returns-in_ok-push-clause-fresh c =
    let e : KeyEntry = c.swap_remove-entry.result in
    let far : List KeyEntry = c.args.self.now.far.items in
    let P : List KeyEntry → Type 0 = λ es. IsPermutation far (e ∷ es) in
    let left : IsPermutation far (e ∷ c.swap_remove-entry.new.self.items) = subst P (sym c.swap_remove-entry.ensures.items) (IsPermutation-swap_remove far c.args.at e c.requires.place c.swap_remove-entry.ensures.value) in
    come_near c.args.keys.now e (heap_items c.args.self.now.near) (heap_items c.push.new.self) far c.swap_remove-entry.new.self.items left c.in_ok-push.ensures.permutation

pub returns-else-is_fresh-clause-fresh : goal.returns-else-is_fresh-clause-fresh
returns-else-is_fresh-clause-fresh c =
    let e : KeyEntry = c.swap_remove-entry.result in
    let far : List KeyEntry = c.args.self.now.far.items in
    let P : List KeyEntry → Type 0 = λ es. IsPermutation far (e ∷ es) in
    let left : IsPermutation far (e ∷ c.swap_remove-entry.new.self.items) = subst P (sym c.swap_remove-entry.ensures.items) (IsPermutation-swap_remove far c.args.at e c.requires.place c.swap_remove-entry.ensures.value) in
    let near : List KeyEntry = heap_items c.args.self.now.near in
    let rest : List KeyEntry = c.swap_remove-entry.new.self.items in
    gone c.args.keys.now e (near ++ far) (near ++ rest) (left_far e near far rest left) (λ fresh. absurd (cc (c.is_fresh.ensures.1 fresh, c.if-is_fresh.false)))
