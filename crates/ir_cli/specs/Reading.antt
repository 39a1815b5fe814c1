-- What was read of the inputs.
use Rattle.std.specs.Prelude.{◌≡◌, ℕ, ◌+◌, List, [], ◌∷◌, map, take, drop, slice_get, Option, Some, Result}
use Rattle.std.specs.Global.{Vec}
use Rattle.ir_streams.specs.declared.call.CallError.{CallError}
use Rattle.ir_streams.specs.declared.reading.NoInput.{NoInput}
use Rattle.ir_streams.specs.Reading.{IsRead, IsStopped}
use Rattle.ir_cli.specs.declared.read.Source.{Source}

-- the bytes of the texts
abbrev pub texts_of : List (Vec ℕ) → List (List ℕ)
texts_of texts = map (λ text. text.items) texts

module _ {R : Type 0} (remaining : R → Option (List ℕ)) (gave : R → Result (List ℕ) CallError → R → Type 0) where
  -- Each of the readers was read to its end, and gave its text.
  abbrev pub AreRead : List R → List (List ℕ) → List R → Type 0
  AreRead [] [] [] = Unit {0}
  AreRead (first ∷ old) (text ∷ texts) (last ∷ new) = IsRead remaining gave first text last × AreRead old texts new
  AreRead old texts new = ⊥

  -- The reader of a source was given up, and why. The readers before it were read to their ends, and those after it were
  -- not called.
  pub record IsUnread (sources : List Source) (old new : List R) (source : Source) (why : NoInput) : Type 0 where
    pub place : ℕ
    pub its_source : slice_get sources place ≡ Some source
    pub texts : List (List ℕ)
    pub before : AreRead (take place old) texts (take place new)
    pub first : R
    pub its_reader : slice_get old place ≡ Some first
    pub last : R
    pub left_as : slice_get new place ≡ Some last
    pub stopped : IsStopped remaining gave why first last
    pub behind : drop (place + 1) new ≡ drop (place + 1) old
