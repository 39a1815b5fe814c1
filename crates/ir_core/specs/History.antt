use Rattle.std.specs.Prelude.{◌≡◌, ℕ, ◌+◌, max, Bool, false, Option, Some, None, option_map, List, [], ◌∷◌, ◌++◌, drop, if◌then◌else◌, ◌==◌}
use Rattle.ir_model.specs.Plan.{Plan}
use Rattle.ir_core.specs.declared.packet.Fate.TheVariants.{Left}
use Rattle.ir_core.specs.declared.event.Way.TheVariants.{Inbox, Link}
use Rattle.ir_core.specs.declared.board.Board.{Board}
use Rattle.ir_core.specs.Record.{Record}
use Rattle.ir_core.specs.declared.packet.Held.{Held}
use Rattle.ir_core.specs.declared.event.Verdict.{Verdict}
use Rattle.ir_core.specs.declared.event.Verdict.TheVariants.{CameByDown, BelowFloor, Arrives, LeavesByDown, NoRoom, GoesOn}
use Rattle.ir_core.specs.Board.{opening_board}
use Rattle.ir_core.specs.Setting.{Setting, into}
use Rattle.ir_core.specs.Entry.{Entry, DidInject, DidLearn, DidTake, DidRead, DidAct, DidChange, DidInstall, ruled, fresh}

-- What holds after a history. It is a list of entries, the latest first, and each notion is read off the entries
-- that speak of it.

-- the boards, oldest first: place k has version k
abbrev pub boards : List Entry → List Board
boards [] = opening_board ∷ []
boards (DidChange b ∷ log) = boards log ++ b ∷ []
boards (DidInstall e t b ∷ log) = boards log ++ b ∷ []
boards (_ ∷ log) = boards log

-- the plans of the epochs: place k has epoch k + 1
abbrev pub plans : Setting → List Entry → List Plan
plans setting [] = setting.first ∷ []
plans setting (DidInstall e t b ∷ log) = plans setting log ++ t ∷ []
plans setting (_ ∷ log) = plans setting log

-- the greatest epoch that the injector learnt
abbrev pub learnt : List Entry → ℕ
learnt [] = 1
learnt (DidLearn e ∷ log) = max (learnt log) e
learnt (_ ∷ log) = learnt log

-- how many packets were injected
abbrev pub injected : List Entry → ℕ
injected [] = 0
injected (DidInject i e s d m ∷ log) = injected log + 1
injected (_ ∷ log) = injected log

-- the version that a node read last
abbrev pub view : ℕ → List Entry → ℕ
view u [] = 0
view u (DidRead v k ∷ log) = if v == u then k else view u log
view u (_ ∷ log) = view u log

-- the packet of a node's last Take, with no Act since
abbrev pub hand : ℕ → List Entry → Option Held
hand u [] = None
hand u (DidTake v way id ∷ log) = if v == u then Some (record { id = id; way = way }) else hand u log
hand u (DidAct v id way restamp verdict ∷ log) = if v == u then None else hand u log
hand u (_ ∷ log) = hand u log

-- the channel into which a verdict puts the packet
abbrev pub is_put_into : Setting → ℕ → Verdict → Bool
is_put_into setting c (GoesOn h) = into setting h.node (Link h.link) == c
is_put_into setting c (CameByDown l) = false
is_put_into setting c BelowFloor = false
is_put_into setting c Arrives = false
is_put_into setting c (LeavesByDown l) = false
is_put_into setting c (NoRoom h) = false

-- the packets that were put into a channel, in order
abbrev pub puts : Setting → ℕ → List Entry → List ℕ
puts setting c [] = []
puts setting c (DidInject id e s d m ∷ log) = if into setting s Inbox == c then puts setting c log ++ id ∷ [] else puts setting c log
puts setting c (DidAct u id way restamp verdict ∷ log) = if is_put_into setting c verdict then puts setting c log ++ id ∷ [] else puts setting c log
puts setting c (_ ∷ log) = puts setting c log

-- how many were taken from it
abbrev pub take_count : Setting → ℕ → List Entry → ℕ
take_count setting c [] = 0
take_count setting c (DidTake u way id ∷ log) = if into setting u way == c then take_count setting c log + 1 else take_count setting c log
take_count setting c (_ ∷ log) = take_count setting c log

-- a channel holds its puts without as many at the front as it had takes
abbrev pub waiting : Setting → ℕ → List Entry → List ℕ
waiting setting c log = drop (take_count setting c log) (puts setting c log)

-- the record of a packet: its injection, and then each Act on it
abbrev pub packet : ℕ → List Entry → Option Record
packet id [] = None
packet id (DidInject i e s d m ∷ log) = if i == id then Some (fresh i e s d m) else packet id log
packet id (DidAct u i way restamp verdict ∷ log) = if i == id then option_map (ruled u way restamp verdict) (packet id log) else packet id log
packet id (_ ∷ log) = packet id log

-- the packet was injected, and no Act has ended its way
abbrev pub IsUnderWay : ℕ → List Entry → Type 0
IsUnderWay id log = (r : Record) × (packet id log ≡ Some r) × (r.fate ≡ Left)

-- an entry that concerns a packet comes while the packet is under way
abbrev pub ConcernsOneUnderWay : Entry → List Entry → Type 0
ConcernsOneUnderWay (DidTake u way id) log = IsUnderWay id log
ConcernsOneUnderWay (DidAct u id way restamp verdict) log = IsUnderWay id log
ConcernsOneUnderWay (DidInject id e s d m) log = packet id log ≡ None
ConcernsOneUnderWay (DidLearn e) log = Unit {0}
ConcernsOneUnderWay (DidRead u k) log = Unit {0}
ConcernsOneUnderWay (DidChange b) log = Unit {0}
ConcernsOneUnderWay (DidInstall e s b) log = Unit {0}

-- Each id is injected once, and after the Act that ended its packet's way no entry concerns it: so no packet is
-- delivered twice.
abbrev pub NothingAfterTheEnd : List Entry → Type 0
NothingAfterTheEnd [] = Unit {0}
NothingAfterTheEnd (entry ∷ log) = ConcernsOneUnderWay entry log × NothingAfterTheEnd log
