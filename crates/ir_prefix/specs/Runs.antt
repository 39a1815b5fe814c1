-- Runs of numbers that one port serves, and blocks that lie in one.
use Rattle.std.specs.Prelude.{◌≡◌, ◌≢◌, ℕ, ◌/◌, ◌^◌, ◌<◌, ◌≤◌, ◌⊎◌, List, length, Option, Some, None, slice_index_or}
use Rattle.ir_model.specs.Compiled.{port_to}
use Rattle.ir_prefix.specs.declared.runs.LabelRun.{LabelRun}
use Rattle.ir_prefix.specs.declared.runs.PrefixBlock.{PrefixBlock}
use Rattle.ir_prefix.specs.declared.runs.PrefixBlock.TheVariants.{Beyond, Unsent, OnePort, Mixed}

-- The run from x on: no number before its first has a port, each before its end has the run's port or none, and its end,
-- where there is one, another.
pub record IsRunFrom (ports : List (Option ℕ)) (x : ℕ) (run : LabelRun) : Type 0 where
  pub from : x ≤ run.first
  pub on : x ≤ run.end
  pub within : run.end ≤ length ports
  pub few : run.first ≤ length ports
  pub none : (y : ℕ) → x ≤ y → y < run.first → port_to ports y ≡ None
  pub has : run.first < length ports → port_to ports run.first ≡ Some run.port
  pub same : (y p : ℕ) → x ≤ y → y < run.end → port_to ports y ≡ Some p → p ≡ run.port
  pub next : run.end < length ports → (run.first < run.end) × (p : ℕ) × (port_to ports run.end ≡ Some p) × (p ≢ run.port)

-- each number has its run, which ends after it
pub record AreRuns (ports : List (Option ℕ)) (runs : List LabelRun) : Type 0 where
  pub every : length runs ≡ length ports
  pub each : (x : ℕ) (none : LabelRun) → x < length ports → IsRunFrom ports x (slice_index_or runs x none) × (x < (slice_index_or runs x none).end)

-- the block so high, the index-th of its height, has a number beyond the labels, or labels with two ports
abbrev pub HasTwo : List (Option ℕ) → ℕ → ℕ → Type 0
HasTwo ports h i =
    ((x : ℕ) × (x / 2 ^ h ≡ i) × (length ports ≤ x))
    ⊎ ((x : ℕ) × (y : ℕ) × (p : ℕ) × (q : ℕ) × (x / 2 ^ h ≡ i) × (y / 2 ^ h ≡ i) × (port_to ports x ≡ Some p) × (port_to ports y ≡ Some q) × (p ≢ q))

-- what lies in such a block
abbrev pub LiesIn : List (Option ℕ) → ℕ → ℕ → PrefixBlock → Type 0
LiesIn ports h i Beyond = (x : ℕ) → x / 2 ^ h ≡ i → length ports ≤ x
LiesIn ports h i Unsent = (x : ℕ) → x / 2 ^ h ≡ i → (x < length ports) × (port_to ports x ≡ None)
LiesIn ports h i (OnePort p) =
    ((x : ℕ) → x / 2 ^ h ≡ i → x < length ports) × ((x r : ℕ) → x / 2 ^ h ≡ i → port_to ports x ≡ Some r → r ≡ p)
    × ((x : ℕ) × (x / 2 ^ h ≡ i) × (port_to ports x ≡ Some p))
LiesIn ports h i Mixed = (0 < h) × HasTwo ports h i
