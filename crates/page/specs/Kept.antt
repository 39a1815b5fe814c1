-- A text that is kept in memory as it is written.
use Rattle.std.specs.Prelude.{◌≡◌, ℕ, false, List, ◌++◌, length, Result, Ok}
use Rattle.ir_streams.specs.declared.call.CallError.{CallError}
use Rattle.page.specs.declared.kept.Kept.{Kept}

-- A write takes all bytes: they follow the others, unless memory was wanting, then or before.
pub record TakesAll (old : Kept) (bytes : List ℕ) (taken : Result ℕ CallError) (new : Kept) : Type 0 where
  pub all : taken ≡ Ok (length bytes)
  pub before : new.is_short ≡ false → old.is_short ≡ false
  pub behind : new.is_short ≡ false → new.bytes.items ≡ old.bytes.items ++ bytes

-- a flush succeeds, and changes nothing
abbrev pub SettlesAll : Kept → Result (Unit {0}) CallError → Kept → Type 0
SettlesAll old done new = (done ≡ Ok tt) × (new ≡ old)
