-- What a script says: its steps, each with the number of its line, or its first fault. In a simulation each line names a
-- step, in a live run a command.
use Rattle.std.specs.Prelude.{◌≡◌, ℕ, ◌+◌, List, [], ◌∷◌, ◌++◌, Option, Some, None, Result, Ok, Err}
use Rattle.ir_model.specs.declared.Detour.{Detour}
use Rattle.ir_model.specs.Graph.{Name}
use Rattle.ir_model.specs.Topology.{Topology}
use Rattle.ir_core.specs.declared.event.Step.{Step}
use Rattle.ir_core.specs.declared.command.Command.{Command}
use Rattle.ir_script.specs.Command.{line_step, line_command}
use Rattle.ir_script.specs.declared.fault.ScriptFault.{ScriptFault}
use Rattle.ir_script.specs.declared.fault.ScriptFault.TheVariants.{BadByte, BadCommand, BadNumber, UnknownNode, UnknownLink, NoMemory}
use Rattle.ir_script.specs.declared.fault.ScriptError.{ScriptError}

-- the steps in order, and beside each the number of its line
pub record Listing (A : Type 0) : Type 0 where
  pub steps : List A
  pub lines : List ℕ

module _ {A : Type 0} where
  -- steps and lines in front of a listing
  abbrev pub in_front : List A → List ℕ → Result (Listing A) (ℕ × ScriptFault) → Result (Listing A) (ℕ × ScriptFault)
  in_front steps lines (Ok later) = Ok (record { steps = steps ++ later.steps; lines = lines ++ later.lines })
  in_front steps lines (Err e) = Err e

  -- a line's step in front of what the later lines say; a fault is reported with the number of its line
  abbrev pub with_line : ℕ → Result (Option A) ScriptFault → Result (Listing A) (ℕ × ScriptFault) → Result (Listing A) (ℕ × ScriptFault)
  with_line n (Err f) later = Err (n, f)
  with_line n (Ok None) later = later
  with_line n (Ok (Some s)) later = in_front (s ∷ []) (n ∷ []) later

  -- what the lines say of these nodes and links, the first of which has number n, by what a line says
  abbrev pub listing_from : (List Name → Topology → List ℕ → Result (Option A) ScriptFault) → List Name → Topology → ℕ → List (List ℕ) → Result (Listing A) (ℕ × ScriptFault)
  listing_from says nodes net n [] = Ok (record { steps = []; lines = [] })
  listing_from says nodes net n (l ∷ ls) = with_line n (says nodes net l) (listing_from says nodes net (n + 1) ls)

  -- a line and a kind of fault are the first fault of what is said; want of memory has line 0
  abbrev pub ScriptToldAt : ℕ → ScriptFault → Result (Listing A) (ℕ × ScriptFault) → Type 0
  ScriptToldAt line NoMemory said = line ≡ 0
  ScriptToldAt line kind said = said ≡ Err (line, kind)

  -- The error is the first fault of the script, with its line. Want of memory has line 0.
  abbrev pub ScriptTold : ScriptError → Result (Listing A) (ℕ × ScriptFault) → Type 0
  ScriptTold e said = ScriptToldAt e.line e.kind said

  -- the number of a line that has a step
  abbrev pub line_of : Option A → ℕ → List ℕ
  line_of None line = []
  line_of (Some s) line = line ∷ []

-- what a script of a simulation says of these nodes and the links between them; lines are counted from 1
abbrev pub listing_of : Detour → List Name → Topology → List (List ℕ) → Result (Listing Step) (ℕ × ScriptFault)
listing_of detour nodes net ls = listing_from (line_step detour) nodes net 1 ls

-- what a script of a live run says: its lines are of the commands alone
abbrev pub live_listing_of : Detour → List Name → Topology → List (List ℕ) → Result (Listing Command) (ℕ × ScriptFault)
live_listing_of detour nodes net ls = listing_from (line_command detour) nodes net 1 ls

-- the error for a fault in a line
abbrev pub told_script : ℕ → ScriptFault → ScriptError
told_script line NoMemory = record { line = 0; kind = NoMemory }
told_script line kind = record { line = line; kind = kind }

-- the number of a kind of fault
abbrev pub fault_code : ScriptFault → ℕ
fault_code BadByte = 1
fault_code BadCommand = 2
fault_code BadNumber = 3
fault_code UnknownNode = 4
fault_code UnknownLink = 5
fault_code NoMemory = 6
