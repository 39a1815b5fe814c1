-- The ends that a node owns, and what one step on them changes.
use Rattle.std.specs.Prelude.{◌≡◌, ℕ, zero, suc, ◌+◌, ◌<◌, ◌≤◌, Option, MatchOption, List, [], ◌∷◌, ◌++◌, Some, map, slice_get, slice_set, nat_lt, cond}
use Rattle.ir_model.specs.declared.Hop.{Hop}
use Rattle.ir_model.specs.Topology.{node_count, ports_of}
use Rattle.ir_core.specs.declared.TheConstants.{MAX_NODES, MAX_RESTAMPS}
use Rattle.ir_core.specs.declared.event.Way.{Way}
use Rattle.ir_core.specs.declared.event.Way.TheVariants.{Inbox, Link}
use Rattle.ir_core.specs.declared.event.Verdict.{Verdict}
use Rattle.ir_core.specs.declared.event.Verdict.TheVariants.{CameByDown, BelowFloor, Arrives, LeavesByDown, NoRoom, GoesOn}
use Rattle.ir_core.specs.declared.packet.Fate.{Fate}
use Rattle.ir_core.specs.declared.packet.Fate.TheVariants.{Delivered, Retired, Down, Full, Left}
use Rattle.ir_links.specs.Ends.{Sender, Taker, Word, WasRefused, FoundNone}
use Rattle.ir_epochs.specs.declared.registry.Stamp.{Stamp}
use Rattle.ir_epochs.specs.Stamps.{knows}
use Rattle.ir_worker.specs.declared.parcel.Place.{Place}
use Rattle.ir_worker.specs.Seen.{Parcel, GoesTo, net_place}

abbrev pub In : Type 0
In = Taker Place Parcel

abbrev pub Out : Type 0
Out = Sender Place Parcel

abbrev pub after_taking : In → Parcel → In
after_taking t p = record t { taken = t.taken ++ p ∷ [] }

abbrev pub after_sending : Out → Parcel → Out
after_sending s p = record s { sent = s.sent ++ p ∷ [] }

-- the way that is polled after way k, of an inbox and so many ports
abbrev pub way_after : ℕ → ℕ → ℕ
way_after ports k = cond (nat_lt k ports) (k + 1) 0

-- One parcel was taken on way k, and nothing on the others: the inbox is way 0, and port j is way j + 1.
abbrev pub TookAt : In → List In → In → List In → Parcel → ℕ → Type 0
TookAt inbox ins inbox' ins' p zero = (inbox' ≡ after_taking inbox p) × (ins' ≡ ins) × GoesTo p inbox.channel.place
TookAt inbox ins inbox' ins' p (suc j) =
    (inbox' ≡ inbox) × ((t : In) × (slice_get ins j ≡ Some t) × (ins' ≡ slice_set ins j (after_taking t p)) × GoesTo p t.channel.place)

-- so it was with the parcel that was found; or there was none, and nothing was taken
abbrev pub TookBy : In → List In → In → List In → Option Parcel → ℕ → Type 0
TookBy inbox ins inbox' ins' found k = MatchOption found ((inbox' ≡ inbox) × (ins' ≡ ins)) (λ p. TookAt inbox ins inbox' ins' p k)

-- the way by which the core takes from way k of a node with these ports
abbrev pub IsWayAt : List Hop → Way → ℕ → Type 0
IsWayAt ports way zero = way ≡ Inbox
IsWayAt ports way (suc j) = (mine : Hop) × (slice_get ports j ≡ Some mine) × (way ≡ Link mine.link)

-- one parcel was sent over the port of this hop, and nothing over the others
abbrev pub SentOver : List Hop → List Out → List Out → Hop → Parcel → Type 0
SentOver ports outs outs' h q =
    (j : ℕ) × (s : Out) × (slice_get ports j ≡ Some h) × (slice_get outs j ≡ Some s) × (outs' ≡ slice_set outs j (after_sending s q))

-- where a verdict says that there was no room, the push to the channel of the hop's port was refused, which was full then
abbrev pub WasFullFor : Word Parcel → List Hop → List Out → Verdict → Type 0
WasFullFor was_full ports outs (NoRoom h) = (j : ℕ) × (s : Out) × (slice_get ports j ≡ Some h) × (slice_get outs j ≡ Some s) × WasRefused was_full GoesTo s
WasFullFor was_full ports outs (CameByDown l) = Unit {0}
WasFullFor was_full ports outs BelowFloor = Unit {0}
WasFullFor was_full ports outs Arrives = Unit {0}
WasFullFor was_full ports outs (LeavesByDown l) = Unit {0}
WasFullFor was_full ports outs (GoesOn h) = Unit {0}

-- where a fate says that there was no room, so it was with the channel of a port of this link to this node
abbrev pub WasFullBy : Word Parcel → List Hop → List Out → Fate → Type 0
WasFullBy was_full ports outs (Full l node) = (h : Hop) × WasFullFor was_full ports outs (NoRoom h) × (h.link ≡ l) × (h.node ≡ node)
WasFullBy was_full ports outs Delivered = Unit {0}
WasFullBy was_full ports outs Retired = Unit {0}
WasFullBy was_full ports outs (Down l) = Unit {0}
WasFullBy was_full ports outs Left = Unit {0}

-- The pop of way k was refused, whose channel was empty then: the inbox is way 0, and port j is way j + 1.
abbrev pub WasEmptyAt : Word Parcel → In → List In → ℕ → Type 0
WasEmptyAt was_empty inbox ins zero = FoundNone was_empty GoesTo inbox
WasEmptyAt was_empty inbox ins (suc j) = (t : In) × (slice_get ins j ≡ Some t) × FoundNone was_empty GoesTo t

-- The ends of the node u of the net of an opening's stamp, which allows so many restamps. For each of its ports, in
-- order, there is one that takes what comes from the neighbour and one that sends to it; one takes from its inbox.
pub record AreEndsOf (opening : Stamp) (restamps u : ℕ) (ports : List Hop) (inbox : In) (ins : List In) (outs : List Out) : Type 0 where
  pub node_in : u < node_count (knows opening).topology
  pub few : node_count (knows opening).topology ≤ MAX_NODES
  pub few_restamps : restamps ≤ MAX_RESTAMPS
  pub all_ports : ports ≡ ports_of (knows opening).topology u
  pub inbox_place : inbox.channel.place ≡ net_place opening restamps u u
  pub in_places : map (λ (t : In). t.channel.place) ins ≡ map (λ (h : Hop). net_place opening restamps h.node u) ports
  pub out_places : map (λ (s : Out). s.channel.place) outs ≡ map (λ (h : Hop). net_place opening restamps u h.node) ports
