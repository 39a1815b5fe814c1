-- What loops over nodes and pairs know on the way.
use Rattle.std.specs.Prelude.{◌≡◌, ◌≢◌, ℕ, ◌+◌, ◌*◌, ◌<◌, ◌≤◌, ◌⊎◌, Bool, if◌then◌else◌, Option, None, Some, List}
use Rattle.ir_trace.specs.Rows.{spaced}
use Rattle.ir_show.specs.declared.worst.Weighed.{Weighed}
use Rattle.ir_show.specs.StatsText.{IsEarlier}

-- a word, after a space if it is not the first
abbrev pub separated : Bool → List ℕ → List ℕ
separated first word = if first then word else spaced word

-- two nodes are apart
abbrev pub ArePositive : ℕ → (ℕ → ℕ → ℕ) → Type 0
ArePositive n distance = (u d : ℕ) → u < n → d < n → u ≢ d → 0 < distance u d

-- the pair has its walk's weight and its distance
abbrev pub IsWeighed : (ℕ → ℕ → ℕ) → (ℕ → ℕ → ℕ) → Weighed → Type 0
IsWeighed walk distance p = (p.walk ≡ walk p.ends.from p.ends.to) × (p.distance ≡ distance p.ends.from p.ends.to)

-- the walk of p is a greater multiple of its distance than that of q, or as great a one of an earlier pair
abbrev pub IsWorse : Weighed → Weighed → Type 0
IsWorse p q =
    (q.walk * p.distance < p.walk * q.distance) ⊎ ((q.walk * p.distance ≡ p.walk * q.distance) × IsEarlier p.ends.from p.ends.to q.ends.from q.ends.to)

-- pairs are looked at by destination, and for one destination by the node that the walk begins with: u, d before x, y
abbrev pub IsSeen : ℕ → ℕ → ℕ → ℕ → Type 0
IsSeen u d x y = IsEarlier d u y x

-- of the pairs looked at before x, y the pair a, b is the worst
pub record IsWorstPair (n : ℕ) (walk distance : ℕ → ℕ → ℕ) (x y a b : ℕ) : Type 0 where
  pub from : a < n
  pub to : b < n
  pub two : a ≢ b
  pub greatest : (u d : ℕ) → u < n → d < n → u ≢ d → IsSeen u d x y → walk u d * distance a b ≤ walk a b * distance u d
  pub first : (u d : ℕ) → u < n → d < n → u ≢ d → IsSeen u d x y → IsEarlier u d a b → walk u d * distance a b < walk a b * distance u d

-- the worst of the pairs looked at before x, y, if there is one
abbrev pub IsWorstBefore : ℕ → (ℕ → ℕ → ℕ) → (ℕ → ℕ → ℕ) → ℕ → ℕ → Option Weighed → Type 0
IsWorstBefore n walk distance x y None = (u d : ℕ) → u < n → d < n → u ≢ d → IsSeen u d x y → ⊥
IsWorstBefore n walk distance x y (Some p) = IsWorstPair n walk distance x y p.ends.from p.ends.to × IsWeighed walk distance p

-- if the one option is the worst of the pairs looked at before p, the other is the worst of these and p
abbrev pub IsWorstWith : Weighed → Option Weighed → Option Weighed → Type 0
IsWorstWith p best worst =
    (n : ℕ) (walk distance : ℕ → ℕ → ℕ) → p.ends.from < n → p.ends.to < n → ArePositive n distance → IsWeighed walk distance p
    → IsWorstBefore n walk distance p.ends.from p.ends.to best → IsWorstBefore n walk distance (p.ends.from + 1) p.ends.to worst
