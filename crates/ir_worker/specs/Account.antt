-- How often a head was sent, taken and settled, and what a node's account says of it.
use Rattle.std.specs.Prelude.{◌≡◌, ℕ, ◌+◌, Bool, false, List, cond, sum_by, map, take}
use Rattle.ir_links.specs.Ends.{Channel, Sender, Taker}
use Rattle.ir_core.specs.declared.packet.Restamp.{Restamp}
use Rattle.ir_core.specs.Record.{Record}
use Rattle.ir_epochs.specs.declared.entry.Entry.{Entry}
use Rattle.ir_epochs.specs.Entries.{board_of}
use Rattle.ir_worker.specs.declared.parcel.Place.{Place}
use Rattle.ir_worker.specs.declared.parcel.Outcome.{Outcome}
use Rattle.ir_worker.specs.Seen.{Parcel}

-- What a packet is known by: its number, the epoch that it was stamped with first, and its ends.
pub record Head : Type 0 where
  pub id : ℕ
  pub epoch : ℕ
  pub source : ℕ
  pub dest : ℕ

abbrev pub head_of : Record → Head
head_of r = record { id = r.id; epoch = r.epoch; source = r.source; dest = r.dest }

-- how many of the heads pass a test; a multiset of heads is known by this number at each test
abbrev pub one : (Head → Bool) → Head → ℕ
one p h = cond (p h) 1 0

abbrev pub times : (Head → Bool) → List Parcel → ℕ
times p items = sum_by (λ x. one p (head_of x.packet)) items

abbrev pub times_settled : (Head → Bool) → List Outcome → ℕ
times_settled p outcomes = sum_by (λ o. one p (head_of o.packet)) outcomes

abbrev pub times_sent : (Head → Bool) → List (Sender Place Parcel) → ℕ
times_sent p outs = sum_by (λ s. times p s.sent) outs

abbrev pub times_taken : (Head → Bool) → List (Taker Place Parcel) → ℕ
times_taken p ins = sum_by (λ t. times p t.taken) ins

-- the heads taken are those sent and settled, each as often
abbrev pub IsBalanced : Taker Place Parcel → List (Taker Place Parcel) → List (Sender Place Parcel) → List Outcome → Type 0
IsBalanced inbox ins outs outcomes =
    (p : Head → Bool) → times p inbox.taken + times_taken p ins ≡ times_sent p outs + times_settled p outcomes

-- what records weigh that were taken, sent and settled, whatever each record weighs
abbrev pub weigh : (Record → ℕ) → List Parcel → ℕ
weigh w items = sum_by (λ x. w x.packet) items

abbrev pub weigh_settled : (Record → ℕ) → List Outcome → ℕ
weigh_settled w outcomes = sum_by (λ o. w o.packet) outcomes

abbrev pub weigh_sent : (Record → ℕ) → List (Sender Place Parcel) → ℕ
weigh_sent w outs = sum_by (λ s. weigh w s.sent) outs

abbrev pub weigh_taken : (Record → ℕ) → List (Taker Place Parcel) → ℕ
weigh_taken w ins = sum_by (λ t. weigh w t.taken) ins

-- what was taken weighs as much as what was sent and settled
abbrev pub IsEven : (Record → ℕ) → Taker Place Parcel → List (Taker Place Parcel) → List (Sender Place Parcel) → List Outcome → Type 0
IsEven w inbox ins outs outcomes = weigh w inbox.taken + weigh_taken w ins ≡ weigh_sent w outs + weigh_settled w outcomes

-- how many restamps of a record are of epochs that pass a test
abbrev pub restamps_with : (ℕ → Bool) → Record → ℕ
restamps_with p r = sum_by (λ (s : Restamp). cond (p s.epoch) 1 0) r.restamps

-- no epoch that was current on the board of these entries, at whatever version, passes the test
abbrev pub NeverCurrent : (ℕ → Bool) → List Entry → Type 0
NeverCurrent p entries = (n : ℕ) → p (board_of (take n entries)).current ≡ false

-- Each restamp that was made here is of an epoch that was current on the board of these entries: as many restamps of other
-- epochs were taken as were sent and settled.
abbrev pub AreRestampsKnown : List Entry → Taker Place Parcel → List (Taker Place Parcel) → List (Sender Place Parcel) → List Outcome → Type 0
AreRestampsKnown entries inbox ins outs outcomes = (p : ℕ → Bool) → NeverCurrent p entries → IsEven (restamps_with p) inbox ins outs outcomes

-- the channels of ends
abbrev pub lines_out : List (Sender Place Parcel) → List (Channel Place)
lines_out outs = map (λ s. s.channel) outs

abbrev pub lines_in : List (Taker Place Parcel) → List (Channel Place)
lines_in ins = map (λ t. t.channel) ins
