-- Slots that hold something or nothing, and what they weigh.
use Rattle.std.specs.Prelude.{◌≡◌, ◌≤◌, ℕ, ◌+◌, List, [], ◌∷◌, ◌++◌, Option, Some, None, cond, length, sum_by, slice_index_or, ltb, ◌==◌}
use Rattle.ir_links.specs.Ends.{Sender, Taker, Remains}

-- things weighed, whatever each weighs: so lists are told apart by how often each thing is in them
abbrev pub slot_weight : {X : Type 0} → (X → ℕ) → Option X → ℕ
slot_weight w None = 0
slot_weight w (Some x) = w x

module _ {P T : Type 0} where
  abbrev pub slot_sent : (T → ℕ) → Option (Sender P T) → ℕ
  slot_sent w None = 0
  slot_sent w (Some s) = sum_by w s.sent

  abbrev pub times_in_slots : (T → ℕ) → List (Option (Sender P T)) → ℕ
  times_in_slots w slots = sum_by (slot_sent w) slots

  abbrev pub weight_taken : (T → ℕ) → List (Taker P T) → ℕ
  weight_taken w takers = sum_by (λ t. sum_by w t.taken) takers

  -- all that is left in channels, one channel after another
  abbrev pub left_in : List (Remains P T) → List T
  left_in [] = []
  left_in (r ∷ rs) = r.left ++ left_in rs

-- 1 where the thing has this number
abbrev pub hit : {X : Type 0} → (X → ℕ) → ℕ → X → ℕ
hit key i x = cond (key x == i) 1 0

-- 1 for a number below this one
abbrev pub once : ℕ → ℕ → ℕ
once m i = cond (ltb i m) 1 0

-- a slot that is not empty has what has its number
abbrev pub IsAt : {X : Type 0} → (X → ℕ) → ℕ → Option X → Type 0
IsAt key i None = Unit {0}
IsAt key i (Some x) = key x ≡ i

abbrev pub AllAt : {X : Type 0} → (X → ℕ) → List (Option X) → Type 0
AllAt key slots = (k : ℕ) → IsAt key k (slice_index_or slots k None)

-- Slots into which things may come: a slot that is not empty has what has its number, and with things of which so many have
-- each number, no number is met twice.
pub record MayPlace {X : Type 0} (key : X → ℕ) (slots : List (Option X)) (count : ℕ → ℕ) : Type 0 where
  pub at : AllAt key slots
  pub fits : (i : ℕ) → sum_by (slot_weight (hit key i)) slots + count i ≤ once (length slots) i

-- things of this weight came into the slots of their numbers
pub record CameIntoSlots {X : Type 0} (key : X → ℕ) (before after : List (Option X)) (weight : (X → ℕ) → ℕ) : Type 0 where
  pub count : length after ≡ length before
  pub at : AllAt key after
  pub weighs : (w : X → ℕ) → sum_by (slot_weight w) after ≡ sum_by (slot_weight w) before + weight w

-- what is in a slot is of this kind
abbrev pub AllIn : {X : Type 0} → (X → Type 0) → List (Option X) → Type 0
AllIn {X} P slots = (k : ℕ) (x : X) → slice_index_or slots k None ≡ Some x → P x
