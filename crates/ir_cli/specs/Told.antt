-- What was done to a writer.
use Rattle.std.specs.Prelude.{ℕ, Bool, List, Option, Result}
use Rattle.ir_streams.specs.declared.call.CallError.{CallError}
use Rattle.ir_streams.specs.Writing.{Calls, Writes}

module _ {W : Type 0} (contents : W → Option (List ℕ)) (wrote : W → List ℕ → Result ℕ CallError → W → Type 0) (settled : W → Result (Unit {0}) CallError → W → Type 0) where
  -- The writer was given the text, and nothing else: it took all of it, or its last call failed and no call before that.
  abbrev pub Sends : W → W → Bool → List ℕ → Type 0
  Sends old new sent text = Calls wrote settled sent old text new × Writes sent (contents old) (contents new) text

  -- the same, whether it failed or not
  abbrev pub Tells : W → W → List ℕ → Type 0
  Tells old new text = (sent : Bool) × Sends old new sent text
