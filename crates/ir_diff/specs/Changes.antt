-- What a node changes between two rows, each by its starts and the nodes that their intervals lead to.
use Rattle.std.specs.Prelude.{◌≡◌, ℕ, ◌≤◌, ◌==◌, ◌&&◌, ◌||◌, Bool, not, List, length, map}
use Rattle.std.specs.List.{filter}
use Rattle.std.specs.List.Sorted.{IsStrictlyIncreasing}
use Rattle.std.specs.Set.{is_member}
use Rattle.ir_diff.specs.declared.changes.Lead.{Lead}

-- the starts of a row, which ascend
abbrev pub lead_starts : List Lead → List ℕ
lead_starts row = map (λ (m : Lead). m.start) row

abbrev pub AscendByStart : List Lead → Type 0
AscendByStart row = IsStrictlyIncreasing (lead_starts row)

-- this start is among these
abbrev pub is_one_of : List ℕ → ℕ → Bool
is_one_of some start = is_member (λ a b. a == b) some start

-- the row has this start
abbrev pub has_start : List Lead → ℕ → Bool
has_start row start = is_one_of (lead_starts row) start

-- the row has this start, and it leads to this node
abbrev pub is_same : Lead → Lead → Bool
is_same a b = (a.start == b.start) && (a.node == b.node)

abbrev pub has_lead : List Lead → Lead → Bool
has_lead row m = is_member is_same row m

-- Removed are the starts of the old row that the new one has not.
abbrev pub removed_starts : (old new : List Lead) → List ℕ
removed_starts old new = filter (λ start. not (has_start new start)) (lead_starts old)

-- Put are those of the new row that the old one has not with that node.
abbrev pub put_leads : (old new : List Lead) → List Lead
put_leads old new = filter (λ m. not (has_lead old m)) new

-- ---- what they are

-- This row, whose starts ascend, is the old one without the starts that are removed, with those that are put, each with its
-- node: what is put replaces a start of the old row.
pub record IsPatched (old : List Lead) (removed : List ℕ) (put : List Lead) (row : List Lead) : Type 0 where
  pub ascending : AscendByStart row
  pub leads : (m : Lead) → has_lead row m ≡ (has_lead put m || (has_lead old m && (not (is_one_of removed m.start) && not (has_start put m.start))))

-- the old row with them is the new row, and no other
abbrev pub MakesNewRow : (old new : List Lead) → List ℕ → List Lead → Type 0
MakesNewRow old new removed put = IsPatched old removed put new × ((row : List Lead) → IsPatched old removed put row → row ≡ new)

-- Whatever else makes the new row of the old one removes no fewer starts, and puts no fewer.
pub record IsFewestChange (old new : List Lead) (removals puts : ℕ) : Type 0 where
  pub removed : (removed : List ℕ) (put : List Lead) → IsPatched old removed put new → removals ≤ length removed
  pub put : (removed : List ℕ) (put : List Lead) → IsPatched old removed put new → puts ≤ length put
