-- Words whose bits are ports: those that a label may take.
use Rattle.std.specs.Prelude.{◌≡◌, ◌≢◌, ◌↔◌, ◌⊎◌, ℕ, ◌+◌, ◌<◌, ◌≤◌, List, length, slice_index}
use Rattle.std.specs.Int.{bit_at}

-- the bit p of a word is set
abbrev pub HasPortBit : ℕ → ℕ → Type 0
HasPortBit word p = bit_at word p ≡ 1

-- the label d is one of n, and its word has the port p, one of 32
abbrev pub MayTakeBit : ℕ → List ℕ → ℕ → ℕ → Type 0
MayTakeBit n words d p = (d < n) × (p < 32) × HasPortBit (slice_index words d) p

-- each word from the place i to the one before j has the port p
abbrev pub IsInAll : List ℕ → ℕ → ℕ → ℕ → Type 0
IsInAll words i j p = (k : ℕ) → i ≤ k → k < j → HasPortBit (slice_index words k) p

-- the ports of a word are those that each word from the place i to the one before j has
abbrev pub AreCommon : List ℕ → ℕ → ℕ → ℕ → Type 0
AreCommon words i j common = (p : ℕ) → p < 32 → HasPortBit common p ↔ IsInAll words i j p

-- some port is in each word from the place i to the one before j
abbrev pub HaveCommon : List ℕ → ℕ → ℕ → Type 0
HaveCommon words i j = (p : ℕ) × (p < 32) × IsInAll words i j p

-- the place i of two rounds of n labels is that of the label d
abbrev pub IsRoundPlace : ℕ → ℕ → ℕ → Type 0
IsRoundPlace n i d = (d < n) × ((i ≡ d) ⊎ (i ≡ n + d))

-- the first m words of two rounds of n labels, in which the own label's has all ports
pub record AreRounds (n own : ℕ) (words : List ℕ) (m : ℕ) (twice : List ℕ) : Type 0 where
  pub every : length twice ≡ m
  pub all : (i : ℕ) → i < m → IsRoundPlace n i own → slice_index twice i ≡ 4294967295
  pub others : (i d : ℕ) → i < m → IsRoundPlace n i d → d ≢ own → slice_index twice i ≡ slice_index words d

-- from each place of a block on, the ports that are common up to its end
abbrev pub AreBacks : List ℕ → ℕ → ℕ → List ℕ → Type 0
AreBacks words from to backs = (k : ℕ) → from ≤ k → k < to → AreCommon words k to (slice_index backs k)

-- so many words from the place a on, at most n, have the port in common, which is the least such port, and with the next word none is left
pub record IsWordRun (n : ℕ) (words : List ℕ) (a count port : ℕ) : Type 0 where
  pub within : count ≤ n
  pub low : port < 32
  pub common : IsInAll words a (a + count) port
  pub least : (p : ℕ) → p < 32 → IsInAll words a (a + count) p → port ≤ p
  pub longest : count < n → (p : ℕ) → p < 32 → IsInAll words a (a + count + 1) p → ⊥

-- these are the runs from the first m places
abbrev pub AreWordRuns : ℕ → List ℕ → ℕ → List ℕ → List ℕ → Type 0
AreWordRuns n words m counts ports = (a : ℕ) → a < m → a < n → IsWordRun n words a (slice_index counts a) (slice_index ports a)
