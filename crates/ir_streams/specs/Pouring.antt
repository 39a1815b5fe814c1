-- A text that is written in parts as it comes.
use Rattle.std.specs.Prelude.{◌≡◌, ℕ, Bool, true, false, List, ◌++◌, Option, Some, None, Result}
use Rattle.std.specs.Io.KnownBytes.{Appends}
use Rattle.ir_streams.specs.declared.call.CallError.{CallError}
use Rattle.ir_streams.specs.Writing.{Writes, Takes, FailsToPut, Calls}

-- the text but for this end of it
abbrev pub AppendsAllBut : Option (List ℕ) → Option (List ℕ) → List ℕ → List ℕ → Type 0
AppendsAllBut old new text rest = (front : List ℕ) × (text ≡ front ++ rest) × Appends old new front

module _ {W : Type 0} (contents : W → Option (List ℕ)) (wrote : W → List ℕ → Result ℕ CallError → W → Type 0) (settled : W → Result (Unit {0}) CallError → W → Type 0) where
  -- Writes took the text but for this end of it.
  pub record TakesAllBut (first : W) (text : List ℕ) (last : W) (rest : List ℕ) : Type 0 where
    pub counts : List ℕ
    pub calls : Takes wrote settled first text counts last rest
    pub bytes : AppendsAllBut (contents first) (contents last) text rest

  -- The last write failed, and none before it. A front of the text went out.
  pub record Breaks (first : W) (text : List ℕ) (last : W) : Type 0 where
    pub counts : List ℕ
    pub mid : W
    pub left : List ℕ
    pub calls : Takes wrote settled first text counts mid left
    pub failed : FailsToPut wrote settled mid left last
    pub rest : List ℕ
    pub bytes : AppendsAllBut (contents first) (contents last) text rest

  -- the writes that were made of a text, where the answer is whether each took some
  abbrev pub Puts : Bool → W → List ℕ → W → List ℕ → Type 0
  Puts true first text last rest = TakesAllBut first text last rest
  Puts false first text last rest = Breaks first text last

  -- More of a text comes after what is kept back of it: what the writer is given, and what is kept back then. Nothing is
  -- once a write failed, and then no write is made.
  abbrev pub Pours : W → Option (List ℕ) → List ℕ → W → Option (List ℕ) → Type 0
  Pours first None more last after = (last ≡ first) × (after ≡ None)
  Pours first (Some kept) more last None = Breaks first (kept ++ more) last
  Pours first (Some kept) more last (Some after) = TakesAllBut first (kept ++ more) last after

  -- A text ends: the writer is given what is kept back of it, and flushed. No call is made where a write failed.
  abbrev pub Finishes : Bool → W → Option (List ℕ) → W → Type 0
  Finishes sent first None last = (sent ≡ false) × (last ≡ first)
  Finishes sent first (Some kept) last = Calls wrote settled sent first kept last × Writes sent (contents first) (contents last) kept
