-- What an accepted packet is known by.
use Rattle.std.specs.Prelude.{◌≡◌, ℕ, Bool, List, Some, slice_get, sum_by}
use Rattle.ir_worker.specs.Account.{Head, one}
use Rattle.ir_control.specs.declared.injector.Accepted.{Accepted}

abbrev pub head_at : Accepted → Head
head_at a = record { id = a.id; epoch = a.epoch; source = a.source; dest = a.dest }

abbrev pub times_injected : (Head → Bool) → List Accepted → ℕ
times_injected p xs = sum_by (λ a. one p (head_at a)) xs

-- each is numbered by its place
abbrev pub AreNumbered : List Accepted → Type 0
AreNumbered xs = (k : ℕ) (a : Accepted) → slice_get xs k ≡ Some a → a.id ≡ k
