-- The sizes of subtrees.
use Rattle.std.specs.Prelude.{◌≡◌, ℕ, ◌<◌, ◌≤◌, List, length, slice_index}
use Rattle.ir_model.specs.Subtree.{IsSubtree}

-- how many places there are in the subtrees of the places from the first on
pub record AreSizesFrom (first : ℕ) (parents sizes : List ℕ) : Type 0 where
  pub every : length sizes ≡ length parents
  pub each : (a : ℕ) → first ≤ a → a < length parents → IsSubtree (length parents) parents a (slice_index sizes a)
