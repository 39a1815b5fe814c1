-- Where the starts of a row stop to be below one.
use Rattle.std.specs.Prelude.{◌≡◌, ℕ, ◌<◌, ◌≤◌, List, length, slice_index}
use Rattle.ir_diff.specs.declared.changes.Lead.{Lead}
use Rattle.ir_diff.specs.Changes.{lead_starts}

-- so many starts of a row, its first ones, are below this one
pub record AreLowerStarts (row : List Lead) (start count : ℕ) : Type 0 where
  pub within : count ≤ length row
  pub below : (k : ℕ) → k < count → slice_index (lead_starts row) k < start

-- and no more of them
pub record EndsLower (row : List Lead) (start count : ℕ) : Type 0 where
  pub front : AreLowerStarts row start count
  pub behind : count < length row → start ≤ slice_index (lead_starts row) count

-- the row has the start at this place
pub record IsStartAt (row : List Lead) (start place : ℕ) : Type 0 where
  pub within : place < length row
  pub same : slice_index (lead_starts row) place ≡ start
