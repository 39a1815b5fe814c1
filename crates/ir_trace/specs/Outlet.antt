-- What traces go out to.
use Rattle.std.specs.Prelude.{◌≡◌, ◌↔◌, ℕ, Bool, List, Option, Result, Err, IsTrue, OnOk}
use Rattle.std.specs.Io.KnownBytes.{Appends}
use Rattle.ir_streams.specs.declared.call.CallError.{CallError}
use Rattle.ir_streams.specs.Writing.{AppendsFront, IsSent, HasFailed}
use Rattle.ir_trace.specs.declared.library.TraceError.{TraceError}
use Rattle.ir_trace.specs.declared.library.TraceError.TheVariants.{Unwritable, NoMemory}

-- a writer, and whether it has failed
pub record Outlet (W : Type 0) : Type 0 where
  pub writer : W
  pub failed : Bool

-- What a text that goes out has come to, by the bytes that the writer holds and by its calls. `Unwritable` is the one
-- failure of the writer, and after `NoMemory` nothing went out.
pub record IsWritten {W : Type 0} (contents : W → Option (List ℕ)) (wrote : W → List ℕ → Result ℕ CallError → W → Type 0) (settled : W → Result (Unit {0}) CallError → W → Type 0)
    (old : Outlet W) (text : List ℕ) (result : Result (Unit {0}) TraceError) (new : Outlet W) : Type 0 where
  pub sent : OnOk result (IsSent wrote settled old.writer text new.writer)
  pub ok : OnOk result (Appends (contents old.writer) (contents new.writer) text)
  pub broken : result ≡ Err Unwritable → HasFailed wrote settled old.writer text new.writer
  pub unwritable : result ≡ Err Unwritable → AppendsFront (contents old.writer) (contents new.writer) text
  pub no_memory : result ≡ Err NoMemory → new ≡ old
  pub failed : IsTrue new.failed ↔ (result ≡ Err Unwritable)
