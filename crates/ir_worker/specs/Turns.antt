-- What one turn of a node does.
use Rattle.std.specs.Prelude.{◌≡◌, ℕ, ◌+◌, ◌^◌, ◌≤◌, ◌⊎◌, Bool, Option, MatchOption, List, [], ◌∷◌, ◌++◌, length}
use mathlib.Core.List.{IsPrefix}
use Rattle.ir_model.specs.declared.Hop.{Hop}
use Rattle.ir_core.specs.declared.board.Board.{Board}
use Rattle.ir_core.specs.declared.event.Way.{Way}
use Rattle.ir_core.specs.declared.event.Verdict.{Verdict}
use Rattle.ir_core.specs.declared.event.Verdict.TheVariants.{Arrives}
use Rattle.ir_core.specs.Record.{Record, stamp_of}
use Rattle.ir_links.specs.Ends.{Word}
use Rattle.ir_epochs.specs.Looks.{Look}
use Rattle.ir_epochs.specs.declared.entry.Entry.{Entry}
use Rattle.ir_epochs.specs.declared.registry.Stamp.{Stamp}
use Rattle.ir_epochs.specs.Entries.{board_of, Rises, IsCurrent}
use Rattle.ir_epochs.specs.Handles.{known, reader_board}
use Rattle.ir_worker.specs.declared.parcel.Outcome.{Outcome}
use Rattle.ir_worker.specs.declared.node.Node.{Node}
use Rattle.ir_worker.specs.declared.node.Turn.{Turn}
use Rattle.ir_worker.specs.declared.node.Turn.TheVariants.{Idle, Sent, Settled}
use Rattle.ir_worker.specs.declared.serving.NoMemory.{NoMemory}
use Rattle.ir_worker.specs.Seen.{Parcel}
use Rattle.ir_worker.specs.Acts.{restamp_on, with_restamp, way_then, GoesOnAs, SettlesAs, CauseHolds}
use Rattle.ir_worker.specs.Wires.{way_after, TookAt, IsWayAt, SentOver, WasFullFor, WasFullBy, WasEmptyAt}
use Rattle.ir_worker.specs.Same.{IsSameNode}

-- the board of what the node has read or learnt
abbrev pub board_in : Node → Board
board_in n = board_of (known n.reader)

-- nothing was taken, sent or settled
pub record HoldsAll (a b : Node) : Type 0 where
  pub inbox : b.entrances.inbox ≡ a.entrances.inbox
  pub ins : b.entrances.ports.items ≡ a.entrances.ports.items
  pub outs : b.outs.items ≡ a.outs.items
  pub outcomes : b.outcomes.items ≡ a.outcomes.items

-- one parcel was taken on the way whose turn it was, and nothing on the others
pub record Takes (a b : Node) (p : Parcel) (way : Way) : Type 0 where
  pub took : TookAt a.entrances.inbox a.entrances.ports.items b.entrances.inbox b.entrances.ports.items p a.entrances.next
  pub by : IsWayAt a.ports.items way a.entrances.next

-- The epoch that a parcel is restamped with, by the board that was read; the parcel after that; and the way by which it
-- is then judged.
abbrev pub restamp_in : Node → Node → Parcel → Way → Option ℕ
restamp_in a b p way = restamp_on a.restamps p (board_in b) way a.index

abbrev pub in_hand : Node → Node → Parcel → Way → Stamp → Parcel
in_hand a b p way current = with_restamp (restamp_in a b p way) current way a.index p

abbrev pub way_in : Node → Node → Parcel → Way → Way
way_in a b p way = way_then (restamp_in a b p way) way

-- In the word for a look at a board: the node looked at its board with this parcel in hand, so
-- after it took the parcel. From then on it knew what it knows after the turn.
abbrev pub LooksWith : Look Parcel → Node → Node → Parcel → Type 0
LooksWith looked a b p = looked p (reader_board a.reader) (known a.reader) (known b.reader)

-- The node looked at its board with the parcel that it had taken in hand. The parcel was restamped,
-- where that is due, with the stamp that is current on the board that was read. It was sent on by
-- the core's verdict by that board: to this node, and over no other port. Its present segment is of
-- no epoch that the node knew to be retired before.
pub record Sends (looked : Look Parcel) (a b : Node) (id to : ℕ) : Type 0 where
  pub parcel : Parcel
  pub way : Way
  pub takes : Takes a b parcel way
  pub number : parcel.packet.id ≡ id
  pub looks : LooksWith looked a b parcel
  pub current : Stamp
  pub is_current : IsCurrent (known b.reader) current
  pub hop : Hop
  pub onward : Parcel
  pub goes : GoesOnAs (board_in b) (way_in a b parcel way) a.index (in_hand a b parcel way current) hop onward
  pub node : hop.node ≡ to
  pub sent : SentOver a.ports.items a.outs.items b.outs.items hop onward
  pub outcomes : b.outcomes.items ≡ a.outcomes.items
  pub live : (board_in a).floor ≤ stamp_of onward.packet

-- for want of memory nothing was polled, and all is as it was
pub record IsUntouched (a b : Node) : Type 0 where
  pub same : IsSameNode a b
  pub way : b.entrances.next ≡ a.entrances.next
  pub reader : known b.reader ≡ known a.reader
  pub holds : HoldsAll a b

-- In the words for a flag that was set and for a turn that a gate did not allow: the node of this
-- number may end after so many turns. The reason is that the flag was set, the gate did not let it
-- make the next turn, or that turn's number would be u64's greatest.
abbrev pub MayEnd : {F G : Type 0} → (F → Type 0) → (G → ℕ → ℕ → Type 0) → F → G → ℕ → ℕ → Type 0
MayEnd {F} {G} was_set barred stop gate node turns = was_set stop ⊎ (barred gate node turns ⊎ (turns + 1 ≡ 2 ^ 64))

-- In the words for a refused push, a refused pop and a look at a board.
module _ (was_full was_empty : Word Parcel) (looked : Look Parcel) where
  -- The node looked at its board with the parcel that it had taken in hand. The parcel was restamped, where that is
  -- due, and settled by the core's verdict by the board that was read. The outcome holds that board's version, and the
  -- cause that it names held on that board; the earlier outcomes stay. If it was delivered, its present segment is of
  -- no epoch that the node knew to be retired before.
  pub record Settles (a b : Node) (id : ℕ) : Type 0 where
    pub parcel : Parcel
    pub way : Way
    pub takes : Takes a b parcel way
    pub number : parcel.packet.id ≡ id
    pub looks : LooksWith looked a b parcel
    pub current : Stamp
    pub is_current : IsCurrent (known b.reader) current
    pub refused : Bool
    pub verdict : Verdict
    pub outcome : Outcome
    pub settled : SettlesAs (board_in b) refused (way_in a b parcel way) a.index (in_hand a b parcel way current) verdict outcome
    pub full : WasFullFor was_full a.ports.items a.outs.items verdict
    pub outs : b.outs.items ≡ a.outs.items
    pub outcomes : b.outcomes.items ≡ a.outcomes.items ++ outcome ∷ []
    pub version : outcome.version + 1 ≡ length (known b.reader)
    pub cause : CauseHolds (board_in b) outcome.packet outcome.packet.fate
    pub live : verdict ≡ Arrives → (board_in a).floor ≤ stamp_of outcome.packet

  -- Idle is reported only where the pop of the way whose turn it was is refused.
  abbrev pub Does : Node → Node → Turn → Type 0
  Does a b Idle = HoldsAll a b × WasEmptyAt was_empty a.entrances.inbox a.entrances.ports.items a.entrances.next
  Does a b (Sent id to) = Sends looked a b id to
  Does a b (Settled id) = Settles a b id

  -- The node a turned, and is b: the way whose turn it was is polled and the next one's turn comes, and what it knows of
  -- the board never gets shorter.
  pub record IsTurn (a b : Node) (turn : Turn) : Type 0 where
    pub same : IsSameNode a b
    pub way : b.entrances.next ≡ way_after (length a.entrances.ports.items) a.entrances.next
    pub later : IsPrefix (known a.reader) (known b.reader)
    pub rises : Rises (board_in a) (board_in b)
    pub does : Does a b turn

  -- The node a made these turns, the latest first, and is b.
  abbrev pub AreTurns : Node → List Turn → Node → Type 0
  AreTurns a [] b = a ≡ b
  AreTurns a (turn ∷ turns) b = (m : Node) × AreTurns a turns m × IsTurn m b turn

  -- The node a made a list of turns, is b, and might end after so many. Where a growth was refused, it made them, and b is as it then was.
  abbrev pub HasServed : (ℕ → ℕ → Type 0) → Node → Node → Option NoMemory → Type 0
  HasServed may_end a b short =
      (turns : List Turn) × MatchOption short (AreTurns a turns b × may_end a.index (length turns)) (λ _. (m : Node) × AreTurns a turns m × IsUntouched m b)

  -- From a to b the node made turns, then one that settled the packet of this record, as the record says it, and then others.
  pub record HasSettled (a b : Node) (r : Record) : Type 0 where
    pub earlier : List Turn
    pub before : Node
    pub made_earlier : AreTurns a earlier before
    pub after : Node
    pub turn : IsTurn before after (Settled r.id)
    pub told : turn.does.outcome.packet ≡ r
    pub later : List Turn
    pub made_later : AreTurns after later b

  -- From a to b the node settled the packet of this record, and the cause that its fate names held. It held on the
  -- board that the node read in that turn, which is the board of a beginning of these entries. Where the fate is Full,
  -- the push of that turn was refused.
  pub record HadCause (entries : List Entry) (a b : Node) (r : Record) : Type 0 where
    pub settled : HasSettled a b r
    pub read : IsPrefix (known settled.after.reader) entries
    pub held : CauseHolds (board_in settled.after) r r.fate
    pub full : WasFullBy was_full settled.before.ports.items settled.before.outs.items r.fate
