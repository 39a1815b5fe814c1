-- A network that allows no restamp: its packets have one epoch each, and what is said of restamps says nothing.
use Rattle.std.specs.Prelude.{◌≡◌, ℕ, not, nat_lt, Option, Some, None, Result, Ok, Err, List, [], ◌∷◌, if◌then◌else◌}
use Rattle.ir_core.specs.declared.event.Way.{Way}
use Rattle.ir_core.specs.declared.event.Refused.{Refused}
use Rattle.ir_core.specs.declared.event.Refused.TheVariants.{NoNode, HandEmpty}
use Rattle.ir_core.specs.declared.packet.Held.{Held}
use Rattle.ir_core.specs.Record.{Record}
use Rattle.ir_core.specs.Setting.{Setting, nodes_of}
use Rattle.ir_core.specs.Entry.{Entry, DidAct}
use Rattle.ir_core.specs.Meaning.{Sight, sight_after, record_at, verdict_on, ruling_on, acts}

-- no Act of a history restamped its packet
abbrev pub HasNoRestamp : List Entry → Type 0
HasNoRestamp [] = Unit {0}
HasNoRestamp (DidAct u id way restamp verdict ∷ log) = (restamp ≡ None) × HasNoRestamp log
HasNoRestamp (_ ∷ log) = HasNoRestamp log

-- the ruling on a packet of one epoch is the verdict by that epoch
abbrev pub IsPlainVerdict : Setting → Sight → ℕ → Way → Record → Type 0
IsPlainVerdict setting s u way r =
    setting.restamps ≡ 0 → r.restamps ≡ [] → ruling_on setting s u way r ≡ record { restamp = None; verdict = verdict_on setting s u way r.epoch r.dest }

-- what an Act comes to where the packet in hand is judged by the one epoch that it was stamped with
abbrev pub acts_once_on : Setting → Sight → ℕ → Option Held → Result Entry Refused
acts_once_on setting s u None = Err HandEmpty
acts_once_on setting s u (Some held) =
    let r = record_at s held.id in
    Ok (DidAct u held.id held.way None (verdict_on setting s u held.way r.epoch r.dest))

abbrev pub acts_once : Setting → Sight → ℕ → Result Entry Refused
acts_once setting s u = if not (nat_lt u (nodes_of setting)) then Err NoNode else acts_once_on setting s u (s.hand u)

-- an Act comes to that
abbrev pub IsPlainAct : Setting → List Entry → ℕ → Type 0
IsPlainAct setting log u = setting.restamps ≡ 0 → HasNoRestamp log → acts setting (sight_after setting log) u ≡ acts_once setting (sight_after setting log) u
