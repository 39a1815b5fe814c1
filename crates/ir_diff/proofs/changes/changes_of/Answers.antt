use Rattle.std.proofs.Common.{◌≡◌, ◌≤◌, ◌↔◌, ℕ, List, [], length, sym, subst}
use Rattle.ir_diff.specs.declared.changes.Lead.{Lead}
use Rattle.ir_diff.specs.Changes.{MakesNewRow, IsFewestChange, removed_starts}
use Rattle.ir_diff.proofs.Laws.{few_put, few_removed, same_row, they_are_fewest, they_change}
use Rattle.ir_diff.proofs.changes.changes_of.Goals as goal

pub returns-clause-patched : goal.returns-clause-patched
returns-clause-patched c =
    let old = c.args.old.now in
    let new = c.args.new.now in
    let law = they_change old new c.requires.old c.requires.new in
    subst (λ (r : List ℕ). MakesNewRow old new r c.in_ok-put.put.items) (sym c.in_ok-removed.ensures)
    (subst (λ (p : List Lead). MakesNewRow old new (removed_starts old new) p) (sym c.in_ok-put.ensures) law)

pub returns-clause-fewest : goal.returns-clause-fewest
returns-clause-fewest c =
    let old = c.args.old.now in
    let new = c.args.new.now in
    let law = they_are_fewest old new c.requires.old c.requires.new in
    subst (λ (r : List ℕ). IsFewestChange old new (length r) (length c.in_ok-put.put.items)) (sym c.in_ok-removed.ensures)
    (subst (λ (p : List Lead). IsFewestChange old new (length (removed_starts old new)) (length p)) (sym c.in_ok-put.ensures) law)

pub returns-clause-same : goal.returns-clause-same
returns-clause-same c =
    let old = c.args.old.now in
    let new = c.args.new.now in
    let law = same_row old new c.requires.old c.requires.new in
    subst (λ (r : List ℕ). (old ≡ new) ↔ ((r ≡ []) × (c.in_ok-put.put.items ≡ []))) (sym c.in_ok-removed.ensures)
    (subst (λ (p : List Lead). (old ≡ new) ↔ ((removed_starts old new ≡ []) × (p ≡ []))) (sym c.in_ok-put.ensures) law)

pub returns-clause-few : goal.returns-clause-few
returns-clause-few c =
    let old = c.args.old.now in
    let new = c.args.new.now in (
      subst (λ (r : List ℕ). length r ≤ length old) (sym c.in_ok-removed.ensures) (few_removed old new),
      subst (λ (p : List Lead). length p ≤ length new) (sym c.in_ok-put.ensures) (few_put old new),
    )
