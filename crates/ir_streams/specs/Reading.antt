-- What is read by calls of a reader.
use Rattle.std.specs.Prelude.{◌≡◌, ℕ, ◌<◌, ◌≤◌, ◌⊎◌, List, [], ◌∷◌, ◌++◌, length, Option, Result, Ok, Err, MatchResult}
use Rattle.std.specs.Io.KnownBytes.{Consumes, IsAtEnd, Keeps}
use Rattle.ir_streams.specs.declared.TheConstants.{MAX_INPUT_BYTES, MAX_READS}
use Rattle.ir_streams.specs.declared.call.CallError.{CallError}
use Rattle.ir_streams.specs.declared.call.CallError.TheVariants.{Interrupted, Failed}
use Rattle.ir_streams.specs.declared.reading.NoInput.{NoInput}
use Rattle.ir_streams.specs.declared.reading.NoInput.TheVariants.{Unreadable, TooLarge, NoMemory}

-- Known bytes lose at their front those that a call gave, and none are left where it gave none. Else they stay.
abbrev pub GivesFrom : Option (List ℕ) → Option (List ℕ) → Result (List ℕ) CallError → Type 0
GivesFrom old new given = MatchResult given (λ bytes. Consumes old new bytes × (bytes ≡ [] → IsAtEnd new)) (λ _. Keeps old new)

-- an input of so many bytes is not kept
abbrev pub RefusesInput : ℕ → NoInput → Type 0
RefusesInput bytes Unreadable = ⊥
RefusesInput bytes TooLarge = MAX_INPUT_BYTES < bytes
RefusesInput bytes NoMemory = Unit {0}

module _ {R : Type 0} (remaining : R → Option (List ℕ)) (gave : R → Result (List ℕ) CallError → R → Type 0) where
  -- Calls of a reader one after another, the latest first. Each gave some bytes, or was interrupted and gave none.
  -- Together they gave this text.
  abbrev pub Gives : R → List (Result (List ℕ) CallError) → List ℕ → R → Type 0
  Gives first [] text last = (last ≡ first) × (text ≡ [])
  Gives first (Ok bytes ∷ calls) text last =
      (mid : R) × (front : List ℕ) × Gives first calls front mid × (0 < length bytes) × gave mid (Ok bytes) last × (text ≡ front ++ bytes)
  Gives first (Err Interrupted ∷ calls) text last = (mid : R) × Gives first calls text mid × gave mid (Err Interrupted) last
  Gives first (Err Failed ∷ calls) text last = ⊥

  -- The reader was read to its end, and gave this text, which is not too large. Where what was left in it is known, it was
  -- this text, and nothing is left.
  pub record IsRead (first : R) (text : List ℕ) (last : R) : Type 0 where
    pub calls : List (Result (List ℕ) CallError)
    pub end : R
    pub given : Gives first calls text end
    pub ended : gave end (Ok []) last
    pub small : length text ≤ MAX_INPUT_BYTES
    pub known : Consumes (remaining first) (remaining last) text
    pub nothing_left : IsAtEnd (remaining last)

  -- Why the reader was given up: its last call failed, and none before it. Or it gave too many bytes, or was called too
  -- often. Or memory was wanting, where it may have come to its end. These bytes it gave.
  abbrev pub Stops : NoInput → R → List (Result (List ℕ) CallError) → List ℕ → R → Type 0
  Stops Unreadable first calls text last = (mid : R) × Gives first calls text mid × gave mid (Err Failed) last
  Stops TooLarge first calls text last = Gives first calls text last × ((MAX_INPUT_BYTES < length text) ⊎ (length calls ≡ MAX_READS))
  Stops NoMemory first calls text last = Gives first calls text last ⊎ ((mid : R) × Gives first calls text mid × gave mid (Ok []) last)

  -- The reader was given up. Where what was left in it is known, it began with what the reader gave.
  pub record IsStopped (why : NoInput) (first last : R) : Type 0 where
    pub calls : List (Result (List ℕ) CallError)
    pub text : List ℕ
    pub stops : Stops why first calls text last
    pub known : Consumes (remaining first) (remaining last) text
