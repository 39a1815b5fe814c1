-- What the inputs and outputs of the program hold, in the words of the files and streams that they are made of.
use Rattle.std.specs.Prelude.{◌≡◌, ◌⊎◌, ℕ, Bool, true, false, List, [], ◌++◌, Option, Some, None, Result, take, OnOk}
use Rattle.std.specs.Global.{Vec}
use Rattle.std.specs.Io.KnownBytes.{WriteAppends}
use Rattle.route.specs.declared.input.Origin.{Origin}
use Rattle.route.specs.declared.input.Origin.TheVariants as origins
use Rattle.route.specs.declared.output.Sink.{Sink}
use Rattle.route.specs.declared.output.Sink.TheVariants.{Standard, Named, Beside, Stream, Shut}

module _ {F S : Type 0} (of_file : F → Option (List ℕ)) (of_stream : S → Option (List ℕ)) where
  -- the bytes that an origin will give from here on, where they are known
  abbrev pub left_of : Origin F S → Option (List ℕ)
  left_of (origins.File file) = of_file file
  left_of (origins.Standard stream) = of_stream stream
  left_of origins.Missing = None

  -- the bytes that a sink holds, where they are known; one that is shut takes none
  abbrev pub held_by : Sink F S → Option (List ℕ)
  held_by (Standard stream) = of_stream stream
  held_by (Named name) = None
  held_by (Beside part) = of_file part.file
  held_by (Stream file) = of_file file
  held_by Shut = Some []

-- a file that can't be opened gives nothing
abbrev pub IsThere : {F S : Type 0} → Origin F S → Type 0
IsThere (origins.File file) = Unit {0}
IsThere (origins.Standard stream) = Unit {0}
IsThere origins.Missing = ⊥

-- a sink that takes bytes for a file
abbrev pub IsReady : {F S : Type 0} → Sink F S → Type 0
IsReady (Beside part) = Unit {0}
IsReady (Stream file) = Unit {0}
IsReady _ = ⊥

-- A sink is opened: for a file of which only the name is known there is one that takes its bytes, and all else stays.
abbrev pub IsOpened : {F S : Type 0} → Sink F S → Sink F S → Type 0
IsOpened (Named name) new = IsReady new
IsOpened old new = new ≡ old

-- nothing was written to a file of which only the name is known
abbrev pub IsNamed : {F S : Type 0} → Sink F S → Type 0
IsNamed (Named name) = Unit {0}
IsNamed _ = ⊥

-- the bytes of a file beside another are on the disk
abbrev pub IsOnDisk : {F S : Type 0} → (F → Type 0) → Sink F S → Type 0
IsOnDisk is_on_disk (Beside part) = is_on_disk part.file
IsOnDisk is_on_disk _ = Unit {0}

-- The bytes were written to the sink that was opened for them.
abbrev pub OpensFor : {F S E : Type 0} → (Sink F S → Option (List ℕ)) → Sink F S → Sink F S → Result ℕ E → List ℕ → Type 0
OpensFor {F} {S} held old new result bytes = (mid : Sink F S) × IsOpened old mid × WriteAppends (held mid) (held new) result bytes

-- What is kept of an input grows by these bytes, or nothing is kept from here on, as where memory for it was refused.
abbrev pub HasKept : Option (Vec ℕ) → List ℕ → Option (Vec ℕ) → Type 0
HasKept None bytes None = Unit {0}
HasKept None bytes (Some new) = ⊥
HasKept (Some old) bytes None = Unit {0}
HasKept (Some old) bytes (Some new) = new.items ≡ old.items ++ bytes
