-- What is written by calls of a writer.
use Rattle.std.specs.Prelude.{◌≡◌, ℕ, zero, suc, ◌+◌, ◌<◌, ◌≤◌, ◌⊎◌, Bool, true, false, List, [], ◌∷◌, ◌++◌, length, take, drop, Option, Result, Ok, Err}
use Rattle.std.specs.Io.KnownBytes.{Appends}
use Rattle.ir_streams.specs.declared.TheConstants.{MAX_TRIES}
use Rattle.ir_streams.specs.declared.call.CallError.{CallError}
use Rattle.ir_streams.specs.declared.call.CallError.TheVariants.{Interrupted}

-- a front of the text, as it may be all of it
abbrev pub AppendsFront : Option (List ℕ) → Option (List ℕ) → List ℕ → Type 0
AppendsFront old new text = (n : ℕ) × Appends old new (take n text)

-- all of the text, or where the writer failed a front of it
abbrev pub Writes : Bool → Option (List ℕ) → Option (List ℕ) → List ℕ → Type 0
Writes true old new text = Appends old new text
Writes false old new text = AppendsFront old new text

-- A call that is made again where it was interrupted.
module _ {W A : Type 0} (call : W → Result A CallError → W → Type 0) where
  -- So many calls one after another were all interrupted.
  abbrev pub AreInterrupted : W → ℕ → W → Type 0
  AreInterrupted first zero last = last ≡ first
  AreInterrupted first (suc again) last = (mid : W) × AreInterrupted first again mid × call mid (Err Interrupted) last

  -- What the last call came to, where those before it were interrupted. It was interrupted itself only where it was one too
  -- many.
  pub record ComesTo (first : W) (outcome : Result A CallError) (last : W) : Type 0 where
    pub again : ℕ
    pub mid : W
    pub interrupted : AreInterrupted first again mid
    pub done : call mid outcome last
    pub few : again < MAX_TRIES
    pub given_up : outcome ≡ Err Interrupted → again + 1 ≡ MAX_TRIES

module _ {W : Type 0} (wrote : W → List ℕ → Result ℕ CallError → W → Type 0) (settled : W → Result (Unit {0}) CallError → W → Type 0) where
  -- what a write of these bytes came to, and a flush
  abbrev pub PutsSome : W → List ℕ → Result ℕ CallError → W → Type 0
  PutsSome first bytes outcome last = ComesTo (λ old taken new. wrote old bytes taken new) first outcome last

  abbrev pub Flushes : W → Result (Unit {0}) CallError → W → Type 0
  Flushes first outcome last = ComesTo settled first outcome last

  -- Writes one after another, each of a front of what those before it left of the text, took so many bytes of it, the latest
  -- first, and none took nothing. The writer is then this one, and this is left.
  abbrev pub Takes : W → List ℕ → List ℕ → W → List ℕ → Type 0
  Takes first text [] last rest = (last ≡ first) × (rest ≡ text)
  Takes first text (n ∷ counts) last rest =
      (mid : W) × (left front behind : List ℕ) × Takes first text counts mid left × (left ≡ front ++ behind) × (0 < n) × (n ≤ length front) × PutsSome mid front (Ok n) last × (rest ≡ drop n left)

  -- a write of a front of what is left, as it may be all of it, gave an error or took none of the bytes
  abbrev pub FailsToPut : W → List ℕ → W → Type 0
  FailsToPut mid left last =
      (front behind : List ℕ) × (left ≡ front ++ behind) × (0 < length front) × (((e : CallError) × PutsSome mid front (Err e) last) ⊎ PutsSome mid front (Ok 0) last)

  -- such a write failed; or none was left, and the flush gave an error
  abbrev pub FailsAt : W → List ℕ → W → Type 0
  FailsAt mid rest last = FailsToPut mid rest last ⊎ ((rest ≡ []) × ((e : CallError) × Flushes mid (Err e) last))

  -- The writer took all of the text, and was flushed.
  abbrev pub IsSent : W → List ℕ → W → Type 0
  IsSent first text last = (counts : List ℕ) × (mid : W) × Takes first text counts mid [] × Flushes mid (Ok tt) last

  -- The last write, or the flush, failed, and no write before it.
  abbrev pub HasFailed : W → List ℕ → W → Type 0
  HasFailed first text last = (counts : List ℕ) × (mid : W) × (rest : List ℕ) × Takes first text counts mid rest × FailsAt mid rest last

  -- the calls that were made, where the answer is whether the writer took the text
  abbrev pub Calls : Bool → W → List ℕ → W → Type 0
  Calls true first text last = IsSent first text last
  Calls false first text last = HasFailed first text last
