-- The runs of labels that a port serves, and which of two is kept.
use Rattle.std.specs.Prelude.{◌≡◌, ◌≢◌, ◌⊎◌, ℕ, ◌<◌, ◌≤◌, Bool, List, Contains, slice_index}
use Rattle.ir_model.specs.Compiled.{label_after}
use Rattle.ir_model.specs.Choices.{label_from}
use Rattle.ir_model.proofs.Best.{Marks, IsRowRun, IsBetter}

-- the port with these marks serves the label d: it is the own one, or has a mark
abbrev pub IsServed : ℕ → List Bool → ℕ → Type 0
IsServed own row d = d ≢ own → Marks row d

-- the list has labels, and each label with a mark
pub record HasMarked (n : ℕ) (row : List Bool) (marked : List ℕ) : Type 0 where
  pub label : (d : ℕ) → Contains marked d → d < n
  pub every : (d : ℕ) → d < n → Marks row d → Contains marked d

-- the longer of two runs: that of the port m from the label a on, by its marks, and that of c labels of the port p,
-- which is taken where both are as long
pub record IsRunKept (n own : ℕ) (row : List Bool) (m a c p count port : ℕ) : Type 0 where
  pub run : ℕ
  pub longest : IsRowRun n own row a run
  pub better : IsBetter run m c p count port

-- at the label d, of the port m and what was there before
abbrev pub IsKeptAt : ℕ → ℕ → List Bool → ℕ → List ℕ → List ℕ → List ℕ → List ℕ → ℕ → Type 0
IsKeptAt n own row m old_counts old_ports counts ports d =
    IsRunKept n own row m d (slice_index old_counts d) (slice_index old_ports d) (slice_index counts d) (slice_index ports d)

-- what was there before
abbrev pub IsSameAt : List ℕ → List ℕ → List ℕ → List ℕ → ℕ → Type 0
IsSameAt old_counts old_ports counts ports d = (slice_index counts d ≡ slice_index old_counts d) × (slice_index ports d ≡ slice_index old_ports d)

-- at each label what was there before, or the longer run
abbrev pub Keeps : ℕ → ℕ → List Bool → ℕ → List ℕ → List ℕ → List ℕ → List ℕ → Type 0
Keeps n own row m old_counts old_ports counts ports =
    (d : ℕ) → d < n → IsSameAt old_counts old_ports counts ports d ⊎ IsKeptAt n own row m old_counts old_ports counts ports d

-- the longer run at each label from which all up to e are served, where the label after e is not; labels are counted from one, z, that is not served
abbrev pub KeepsBlock : ℕ → ℕ → List Bool → ℕ → List ℕ → List ℕ → List ℕ → List ℕ → ℕ → Type 0
KeepsBlock n own row m old_counts old_ports counts ports e =
    (z i j : ℕ) → z < n → (IsServed own row z → ⊥) → i ≤ j → j < n → label_from n z j ≡ e → (IsServed own row (label_after n e) → ⊥)
    → ((k : ℕ) → i ≤ k → k ≤ j → IsServed own row (label_from n z k)) → IsKeptAt n own row m old_counts old_ports counts ports (label_from n z i)
