-- Which links an epoch's plan was made over, and for which links packets are dropped.
use Rattle.std.specs.Prelude.{◌≡◌, ◌≢◌, ℕ, true, false, Some, Result, List, [], ◌∷◌, if◌then◌else◌, ◌==◌}
use Rattle.ir_core.specs.declared.event.Step.{Step}
use Rattle.ir_core.specs.declared.event.Reply.{Reply}
use Rattle.ir_core.specs.declared.event.Refused.{Refused}
use Rattle.ir_core.specs.declared.packet.Fate.TheVariants.{Down}
use Rattle.ir_core.specs.declared.board.Board.{Board}
use Rattle.ir_core.specs.Board.{opening_board, is_used, is_heeded}
use Rattle.ir_core.specs.Record.{Record, stamp_of}
use Rattle.ir_core.specs.Entry.{Entry, DidInstall}
use Rattle.ir_core.specs.History as history
use Rattle.ir_core.specs.Meaning.{newest_of}
use Rattle.ir_core.specs.World.{World}
use Rattle.ir_core.specs.Run.{IsPlayed}

-- the newest board when the plan of an epoch was made
abbrev pub made_by : ℕ → List Entry → Board
made_by e [] = opening_board
made_by e (DidInstall k plan board ∷ log) = if k == e then newest_of (history.boards log) else made_by e log
made_by e (_ ∷ log) = made_by e log

-- A packet is dropped for a link that is down only by a plan that was made while the link was up and heeded: that of
-- its present epoch.
abbrev pub AreDropsForUsedLinks : List Entry → Type 0
AreDropsForUsedLinks log = (id l : ℕ) (r : Record) → history.packet id log ≡ Some r → r.fate ≡ Down l → is_used (made_by (stamp_of r) log) l ≡ true

-- A packet is not dropped for a link that was avoided when the plan of its present epoch was made.
abbrev pub AreNoDropsForAvoided : List Entry → Type 0
AreNoDropsForAvoided log = (id l : ℕ) (r : Record) → history.packet id log ≡ Some r → is_heeded (made_by (stamp_of r) log) l ≡ false → r.fate ≢ Down l

-- so it is in a run
abbrev pub IsSoInRuns : (List Entry → Type 0) → Type 0
IsSoInRuns So = (steps : List Step) (replies : List (Result Reply Refused)) (world : World)
    → (played : IsPlayed world.opening steps replies world) → So played.log
