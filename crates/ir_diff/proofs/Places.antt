-- Where the starts of a row are.
use Rattle.std.proofs.Common.{◌≡◌, ℕ, zero, suc, ◌+◌, ◌<◌, List, [], ◌∷◌, length, get_or, refl, arith}
use Rattle.std.proofs.lemmas.List.{length-map}
use Rattle.std.proofs.lemmas.List.Kept.{AllPairs-from_increasing}
use Rattle.ir_diff.specs.declared.changes.Lead.{Lead}
use Rattle.ir_diff.specs.Changes.{lead_starts, AscendByStart}

-- no start, to be past the end
abbrev pub none : Lead
none = record { start = 0; node = 0 }

pub start_at : (row : List Lead) (k : ℕ) (d : Lead) → k < length row → get_or (lead_starts row) k 0 ≡ (get_or row k d).start
start_at [] k d h = absurd (omega arith)
start_at (m ∷ row) zero d h = refl
start_at (m ∷ row) (suc k) d h = start_at row k d (omega arith)

pub length_starts : (row : List Lead) → length (lead_starts row) ≡ length row
length_starts row = length-map row (λ (m : Lead). m.start)

-- a later start is greater
pub rises : (row : List Lead) → AscendByStart row → (i j : ℕ) → i < j → j < length row → get_or (lead_starts row) i 0 < get_or (lead_starts row) j 0
rises row up i j h l = let len = length_starts row in AllPairs-from_increasing (lead_starts row) up i j 0 h (omega arith)

pub tail_up : (m : Lead) (row : List Lead) → AscendByStart (m ∷ row) → AscendByStart row
tail_up m row up k h = let len = length_starts row in rises (m ∷ row) up (suc k) (suc (k + 1)) (omega arith) (omega arith)
