-- Rounds by runs of so many labels from each label: where they end, and the first with the fewest runs.
use Rattle.std.specs.Prelude.{◌≡◌, ◌≢◌, ℕ, zero, suc, ◌+◌, ◌<◌, ◌≤◌, List, Option, Some, slice_index}
use Rattle.ir_model.specs.Compiled.{port_to}
use Rattle.ir_model.specs.Choices.{label_from}
use Rattle.ir_model.proofs.Steps.{Steps, HaveStepPorts, next_place}

-- a run that begins within another one, off the own label, ends no sooner
abbrev pub RunOn : ℕ → ℕ → List ℕ → Type 0
RunOn n own counts = (a i : ℕ) → a < n → a ≢ own → i < slice_index counts a → label_from n a i ≢ own
    → slice_index counts a ≤ i + slice_index counts (label_from n a i)

-- so many steps, each from a place in the round from the label s, lead from the place i to the place e
abbrev pub Reaches : ℕ → List ℕ → ℕ → ℕ → ℕ → ℕ → Type 0
Reaches n counts s i zero e = i ≡ e
Reaches n counts s i (suc k) e = (i < n) × Reaches n counts s (next_place n counts s i) k e

-- the first label with the fewest steps, of the labels before the place `last` after the own one; from the first one there are `first`
pub record IsFirstTo (n own : ℕ) (counts : List ℕ) (first last t : ℕ) : Type 0 where
  pub off_own : 0 < t
  pub in_round : t < n
  pub steps : ℕ
  pub few : steps ≤ first
  pub from : Steps n counts (label_from n own t) 0 steps
  pub before : (i : ℕ) → 0 < i → i < t → (others : ℕ) × Steps n counts (label_from n own i) 0 others × (steps < others)
  pub near : (i : ℕ) → 0 < i → i < last → (others : ℕ) × Steps n counts (label_from n own i) 0 others × (steps ≤ others)

-- ports by label are those at the places of the round from the label s, but for the own label
abbrev pub StandsAtPlaces : ℕ → ℕ → ℕ → List ℕ → List (Option ℕ) → Type 0
StandsAtPlaces n own s places held =
    (j : ℕ) → j < n → label_from n s j ≢ own → port_to held (label_from n s j) ≡ Some (slice_index places j)

-- the ports are those that the runs give in the round from the label s
abbrev pub GivesPorts : ℕ → ℕ → List ℕ → List ℕ → ℕ → List (Option ℕ) → Type 0
GivesPorts n own counts ports s held = (k : ℕ) × Steps n counts s 0 k × HaveStepPorts n own counts ports s 0 k held
