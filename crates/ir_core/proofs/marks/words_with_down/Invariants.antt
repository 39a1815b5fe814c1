use Rattle.std.proofs.Common.{◌≡◌, ◌≢◌, ◌<◌, ◌≤◌, ◌+◌, ℕ, slice_index}
use Rattle.ir_core.specs.Marks.{word_up}
use Rattle.ir_core.proofs.marks.words_with_down.Given as goal

-- the words from the count on are up, and the one before it is not
abbrev pub invariant-loop-k : goal.invariant-loop-k
invariant-loop-k l =
    (l.count ≤ l.k)
    × ((j : ℕ) → l.count ≤ j → j < l.k → slice_index l.words j ≡ word_up)
    × ((j : ℕ) → l.count ≡ j + 1 → slice_index l.words j ≢ word_up)
