-- The words of labels, whose bits are the ports of a node that lead within the bounds.
use Rattle.std.specs.Prelude.{◌≡◌, ◌↔◌, ◌⊎◌, ℕ, ◌+◌, ◌<◌, ◌≤◌, Some, List, length, slice_index}
use Rattle.ir_model.specs.declared.Hop.{Hop}
use Rattle.ir_model.specs.Topology.{Topology, node_count, port_at}
use Rattle.ir_compile.specs.PortBits.{HasPortBit}

-- port p of u leads to a node w with weight(u,w) + rest(w,d) ≤ whole(u,d)
abbrev pub LeadsBy : Topology → (ℕ → ℕ → ℕ → Type 0) → (ℕ → ℕ → ℕ → Type 0) → ℕ → ℕ → ℕ → Type 0
LeadsBy net rest whole u d p =
    (hop : Hop) × (r : ℕ) × (w : ℕ) × (port_at net u p ≡ Some hop) × rest hop.node d r × whole u d w × (hop.weight + r ≤ w)

-- the bits of a word are the ports of u that lead so to d
abbrev pub IsLedWord : Topology → (ℕ → ℕ → ℕ → Type 0) → (ℕ → ℕ → ℕ → Type 0) → ℕ → ℕ → ℕ → Type 0
IsLedWord net rest whole u d word = (p : ℕ) → p < 32 → HasPortBit word p ↔ LeadsBy net rest whole u d p

-- a word for each label
pub record AreLedWords (net : Topology) (rest whole : ℕ → ℕ → ℕ → Type 0) (order : List ℕ) (u : ℕ) (words : List ℕ) : Type 0 where
  pub every : length words ≡ node_count net
  pub each : (a : ℕ) → a < node_count net → IsLedWord net rest whole u (slice_index order a) (slice_index words a)

-- the bits are those of the first m ports for which the weight, the way from there and a radius are at most a number
abbrev pub IsWordBy : Topology → List ℕ → ℕ → ℕ → ℕ → ℕ → ℕ → Type 0
IsWordBy net away radius whole u m word =
    (p : ℕ) → p < 32 → HasPortBit word p ↔ ((p < m) × ((hop : Hop) × (port_at net u p ≡ Some hop) × (hop.weight + (slice_index away hop.node + radius) ≤ whole)))

-- P holds of each label and its word, but where the label's node is one of those from the i-th on, of so many
pub record AreSettled (n : ℕ) (order : List ℕ) (node : ℕ → ℕ) (count i : ℕ) (P : ℕ → ℕ → Type 0) (words : List ℕ) : Type 0 where
  pub every : length words ≡ n
  pub each : (a : ℕ) → a < n → P a (slice_index words a) ⊎ ((j : ℕ) × (i ≤ j) × (j < count) × (node j ≡ slice_index order a))

-- the words have the same bits of other ports than p
abbrev pub HaveOthers : ℕ → ℕ → List ℕ → List ℕ → Type 0
HaveOthers n p old words = (a q : ℕ) → a < n → q < 32 → (q ≡ p → ⊥) → HasPortBit (slice_index words a) q ↔ HasPortBit (slice_index old a) q

-- those of the first p ports say which lead by `bound`, and those of the others which lead to what is bounded by `rest`
pub record AreWordsUpTo (net : Topology) (rest bound : ℕ → ℕ → ℕ → Type 0) (order : List ℕ) (u p : ℕ) (words : List ℕ) : Type 0 where
  pub every : length words ≡ node_count net
  pub done : (a q : ℕ) → a < node_count net → q < 32 → q < p → HasPortBit (slice_index words a) q ↔ LeadsBy net bound bound u (slice_index order a) q
  pub left : (a q : ℕ) → a < node_count net → q < 32 → p ≤ q → HasPortBit (slice_index words a) q ↔ LeadsBy net rest bound u (slice_index order a) q
