-- What a packet's record says, and its segments.
use Rattle.std.specs.Prelude.{ℕ, ◌+◌, ◌-◌, ◌*◌, List, [], ◌∷◌, ◌++◌, length, reverse, take, drop, slice_index}
use Rattle.ir_core.specs.declared.packet.Fate.{Fate}
use Rattle.ir_core.specs.declared.packet.Fate.TheVariants.{Retired}
use Rattle.ir_core.specs.declared.packet.Restamp.{Restamp}

-- The most hops of a packet that may be restamped so often, over so many nodes: a walk of each epoch, each but the first
-- from the last hop of the one before.
abbrev pub hop_room : ℕ → ℕ → ℕ
hop_room restamps nodes = (restamps + 1) * (nodes - 1) + 1

-- The packet's number, the epoch that it was stamped with first, its ends, its hops so far, its restamps in order, what
-- became of it, and the most hops that its record has room for. A restamp has an epoch, and the place in the hops of the
-- node that made it.
pub record Record : Type 0 where
  pub id : ℕ
  pub epoch : ℕ
  pub source : ℕ
  pub dest : ℕ
  pub hops : List ℕ
  pub restamps : List Restamp
  pub fate : Fate
  pub room : ℕ

-- the record of these, with room for the hops that it has
abbrev pub record_with : (id epoch source dest : ℕ) → List ℕ → Fate → List Restamp → Record
record_with id epoch source dest hops fate restamps = record {
  id = id;
  epoch = epoch;
  source = source;
  dest = dest;
  hops = hops;
  restamps = restamps;
  fate = fate;
  room = length hops;
}

-- Of restamps, the latest first: the epoch, place and node of the latest, or these where there was none.
abbrev pub stamp_in : List Restamp → ℕ → ℕ
stamp_in [] epoch = epoch
stamp_in (s ∷ older) epoch = s.epoch

abbrev pub place_in : List Restamp → ℕ
place_in [] = 0
place_in (s ∷ older) = s.from

abbrev pub origin_in : List Restamp → ℕ → List ℕ → ℕ
origin_in [] source hops = source
origin_in (s ∷ older) source hops = slice_index hops s.from

-- What followed the latest restamp: a record of one epoch to the same destination, from the node of the restamp.
abbrev pub present_in : List Restamp → Record → Record
present_in latest r = record {
  id = r.id;
  epoch = stamp_in latest r.epoch;
  source = origin_in latest r.source r.hops;
  dest = r.dest;
  hops = drop (place_in latest) r.hops;
  restamps = [];
  fate = r.fate;
  room = r.room;
}

-- what a restamp ended: the record up to the node of the restamp
abbrev pub until : Restamp → Record → Record
until s r = record r { hops = take (s.from + 1) r.hops; restamps = []; fate = Retired }

abbrev pub segments_in : List Restamp → Record → List Record
segments_in [] r = present_in [] r ∷ []
segments_in (s ∷ older) r = present_in (s ∷ older) r ∷ segments_in older (until s r)

-- The segments of a record, the latest first: each is a record of one epoch, and begins with the last hop of the one
-- before it. Without a restamp it is one segment, the record itself.
abbrev pub segments : Record → List Record
segments r = segments_in (reverse r.restamps) r

-- the hops of segments, the latest first, joined end to end
abbrev pub joined : List Record → List ℕ
joined [] = []
joined (g ∷ []) = g.hops
joined (g ∷ h ∷ rest) = joined (h ∷ rest) ++ drop 1 g.hops

-- the present segment, and its epoch
abbrev pub present : Record → Record
present r = present_in (reverse r.restamps) r

abbrev pub stamp_of : Record → ℕ
stamp_of r = stamp_in (reverse r.restamps) r.epoch
