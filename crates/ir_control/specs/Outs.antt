-- The ends by which packets come into inboxes.
use Rattle.std.specs.Prelude.{◌≡◌, ℕ, Bool, true, false, List, [], ◌∷◌, ◌++◌, Some, length, slice_get, slice_set}
use Rattle.ir_model.specs.Topology.{node_count}
use Rattle.ir_links.specs.Ends.{Channel, Sender, Word, WasRefused}
use Rattle.ir_epochs.specs.declared.registry.Stamp.{Stamp}
use Rattle.ir_epochs.specs.Stamps.{knows}
use Rattle.ir_worker.specs.declared.parcel.Place.{Place}
use Rattle.ir_worker.specs.Seen.{GoesTo, Parcel, net_place}

-- a line for each node, into its inbox
pub record AreEntryEnds (opening : Stamp) (restamps : ℕ) (lines : List (Channel Place)) : Type 0 where
  pub count : length lines ≡ node_count (knows opening).topology
  pub each : (u : ℕ) (channel : Channel Place) → slice_get lines u ≡ Some channel → channel.place ≡ net_place opening restamps u u

-- a push of the end of this number was refused, in the word of the queue's calls, and the channel was then full
abbrev pub WasRefusedAt : Word Parcel → List (Sender Place Parcel) → ℕ → Type 0
WasRefusedAt was_full outs u = (s : Sender Place Parcel) × (slice_get outs u ≡ Some s) × WasRefused was_full GoesTo s

-- the parcel was sent by the end of this number, and nothing by the others
abbrev pub SentTo : List (Sender Place Parcel) → List (Sender Place Parcel) → ℕ → Parcel → Type 0
SentTo before after u parcel = (s : Sender Place Parcel) × (slice_get before u ≡ Some s) × (after ≡ slice_set before u (record s { sent = s.sent ++ parcel ∷ [] }))

-- it was sent, or the push of it was refused, and nothing was sent
abbrev pub IsSent : Word Parcel → List (Sender Place Parcel) → List (Sender Place Parcel) → ℕ → Parcel → Bool → Type 0
IsSent was_full before after u parcel true = SentTo before after u parcel
IsSent was_full before after u parcel false = (after ≡ before) × WasRefusedAt was_full before u
