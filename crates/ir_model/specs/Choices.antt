-- Destinations that may take one of several ports, and the fewest intervals over all such choices.
use Rattle.std.specs.Prelude.{◌≡◌, ◌≢◌, ℕ, suc, zero, ◌+◌, ◌<◌, ◌≤◌, List, [], ◌∷◌, length, All, Any, Option, Some, None}
use Rattle.ir_model.specs.Interval.{PortInterval, HasLabel}
use Rattle.ir_model.specs.Compiled.{port_to, label_after}

-- Each label but the own one has a port that it may take. Here and below `may d p` says that the label d may take the port p.
pub record AreChoices (n own : ℕ) (may : ℕ → ℕ → Type 0) : Type 0 where
  pub has_own : own < n
  pub some : (d : ℕ) → d < n → d ≢ own → (p : ℕ) × may d p

-- each label but the own lies in an interval of the set, and may take the port of each one that it lies in
pub record FitsChoices (n own : ℕ) (may : ℕ → ℕ → Type 0) (set : List PortInterval) : Type 0 where
  pub within : All (λ (m : PortInterval). (m.start < n) × (m.end < n)) set
  pub covered : (d : ℕ) → d < n → d ≢ own → Any (λ (m : PortInterval). HasLabel n m d) set
  pub agrees : (d : ℕ) → d < n → d ≢ own → All (λ (m : PortInterval). HasLabel n m d → may d m.port) set

-- no set of intervals that fits the choices has fewer members
abbrev pub IsFewestOfChoices : ℕ → ℕ → (ℕ → ℕ → Type 0) → ℕ → Type 0
IsFewestOfChoices n own may count = (set : List PortInterval) → FitsChoices n own may set → count ≤ length set

-- the label so many places after a label, going round
abbrev pub label_from : ℕ → ℕ → ℕ → ℕ
label_from n a zero = a
label_from n a (suc i) = label_after n (label_from n a i)

-- the port p serves so many labels from a on: each of them but the own may take it
abbrev pub Serves : ℕ → ℕ → (ℕ → ℕ → Type 0) → ℕ → ℕ → ℕ → Type 0
Serves n own may p a count = (i : ℕ) → i < count → label_from n a i ≢ own → may (label_from n a i) p

-- a run of labels that one port serves: its port, and how many labels it has
pub record Run : Type 0 where
  pub port : ℕ
  pub count : ℕ

-- the longest run from the label a on, no longer than one round, by the least port
pub record IsLongestRun (n own : ℕ) (may : ℕ → ℕ → Type 0) (a : ℕ) (run : Run) : Type 0 where
  pub within : run.count ≤ n
  pub serves : Serves n own may run.port a run.count
  pub longest : (p count : ℕ) → count ≤ n → Serves n own may p a count → count ≤ run.count
  pub least : (p : ℕ) → Serves n own may p a run.count → run.port ≤ p

-- going on from the place i after the label s, these are the longest runs, one after the other, until the round is done
abbrev pub GoOn : ℕ → ℕ → (ℕ → ℕ → Type 0) → ℕ → ℕ → List Run → Type 0
GoOn n own may s i [] = n ≤ i
GoOn n own may s i (run ∷ rest) = (i < n) × IsLongestRun n own may (label_from n s i) run × GoOn n own may s (i + run.count) rest

-- the longest runs of the round that begins at the label t places after the own one
abbrev pub AreRunsFrom : ℕ → ℕ → (ℕ → ℕ → Type 0) → ℕ → List Run → Type 0
AreRunsFrom n own may t runs = GoOn n own may (label_from n own t) 0 runs

-- going round from the label after the own one, the first label from which the longest runs are fewest
pub record AreFirstFewest (n own : ℕ) (may : ℕ → ℕ → Type 0) (t : ℕ) (runs : List Run) : Type 0 where
  pub off_own : 0 < t
  pub in_round : t < n
  pub runs_from : AreRunsFrom n own may t runs
  pub before : (i : ℕ) → 0 < i → i < t → (others : List Run) × AreRunsFrom n own may i others × (length runs < length others)
  pub any : (i : ℕ) → 0 < i → i < n → (others : List Run) × AreRunsFrom n own may i others × (length runs ≤ length others)

-- each label but the own has the port of its run, where the first of these runs begins at the place i
abbrev pub HaveRunPorts : ℕ → ℕ → ℕ → ℕ → List Run → List (Option ℕ) → Type 0
HaveRunPorts n own s i [] ports = Unit {0}
HaveRunPorts n own s i (run ∷ rest) ports =
    ((k : ℕ) → i ≤ k → k < i + run.count → k < n → label_from n s k ≢ own → port_to ports (label_from n s k) ≡ Some run.port)
    × HaveRunPorts n own s (i + run.count) rest ports

-- The ports by label that the rule chooses: those of the first fewest runs.
pub record AreChosen (n own : ℕ) (may : ℕ → ℕ → Type 0) (ports : List (Option ℕ)) : Type 0 where
  pub every : length ports ≡ n
  pub none : port_to ports own ≡ None
  pub chosen : 1 < n → (t : ℕ) × (runs : List Run) × AreFirstFewest n own may t runs × HaveRunPorts n own (label_from n own t) 0 runs ports
