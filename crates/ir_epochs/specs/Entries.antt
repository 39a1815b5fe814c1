-- What a list of entries makes: the board, the stamp of its current epoch, and what the opening fixes for good.
use Rattle.std.specs.Prelude.{◌≡◌, ℕ, ◌+◌, ◌<◌, ◌≤◌, Bool, true, false, List, [], ◌∷◌, length, fold, Option, Some, None, take}
use Rattle.ir_model.specs.Topology.{Topology}
use Rattle.ir_core.specs.declared.TheConstants.{MAX_LINKS, MAX_EPOCHS}
use Rattle.ir_core.specs.declared.board.Board.{Board}
use Rattle.ir_core.specs.Board.{opening_board, is_link_up, is_heeded, marked, heeding, retired_below, installed}
use Rattle.ir_epochs.specs.declared.registry.Stamp.{Stamp}
use Rattle.ir_epochs.specs.declared.entry.Change.{Change}
use Rattle.ir_epochs.specs.declared.entry.Change.TheVariants.{Install, Retire, Down, Up, Avoid, Heed}
use Rattle.ir_epochs.specs.declared.entry.Entry.{Entry}
use Rattle.ir_epochs.specs.declared.entry.Entry.TheVariants.{Opened, Changed}
use Rattle.ir_epochs.specs.Stamps.{knows, registry_name}
use Rattle.ir_epochs.specs.Over.{IsOver}

-- the board after one change
abbrev pub changed : Board → Change → Board
changed b (Install s) = installed b s.epoch
changed b (Retire f) = retired_below b f
changed b (Down l) = marked b l false
changed b (Up l) = marked b l true
changed b (Avoid l) = heeding b l false
changed b (Heed l) = heeding b l true

abbrev pub entered : Board → Entry → Board
entered b (Opened links s) = opening_board
entered b (Changed c) = changed b c

-- the board after these entries
abbrev pub board_of : List Entry → Board
board_of entries = fold entered opening_board entries

-- the stamp that is current after a change
abbrev pub stamp_after : Stamp → Change → Stamp
stamp_after s (Install t) = t
stamp_after s (Retire f) = s
stamp_after s (Down l) = s
stamp_after s (Up l) = s
stamp_after s (Avoid l) = s
stamp_after s (Heed l) = s

abbrev pub stamp_next : Option Stamp → Change → Option Stamp
stamp_next o (Install t) = Some t
stamp_next o (Retire f) = o
stamp_next o (Down l) = o
stamp_next o (Up l) = o
stamp_next o (Avoid l) = o
stamp_next o (Heed l) = o

abbrev pub stamped : Option Stamp → Entry → Option Stamp
stamped o (Opened links s) = Some s
stamped o (Changed c) = stamp_next o c

-- the stamp that was installed last, or that of the opening
abbrev pub installed_stamp : List Entry → Option Stamp
installed_stamp entries = fold stamped None entries

abbrev pub installs : Change → Bool
installs (Install s) = true
installs (Retire f) = false
installs (Down l) = false
installs (Up l) = false
installs (Avoid l) = false
installs (Heed l) = false

abbrev pub last_stamp : Option Stamp → Entry → Option Stamp
last_stamp o (Opened links s) = None
last_stamp o (Changed c) = stamp_next None c

-- the stamp that the last entry installed, if it is an install
abbrev pub installed_by : List Entry → Option Stamp
installed_by entries = fold last_stamp None entries

-- how many links the opening has
abbrev pub opening_links : List Entry → ℕ
opening_links [] = 0
opening_links (Opened links s ∷ entries) = links
opening_links (Changed c ∷ entries) = 0

-- the registry of the opening's stamp
abbrev pub registry_of : List Entry → List ℕ
registry_of [] = []
registry_of (Opened links s ∷ entries) = registry_name s
registry_of (Changed c ∷ entries) = []

-- the network of the opening's plan
abbrev pub topology_of : List Entry → Topology
topology_of [] = record { links = []; ports = [] }
topology_of (Opened links s ∷ entries) = (knows s).topology
topology_of (Changed c ∷ entries) = record { links = []; ports = [] }

-- The openings are alike: as many links, one registry and one network.
pub record IsSameOpening (a b : List Entry) : Type 0 where
  pub links : opening_links b ≡ opening_links a
  pub registry : registry_of b ≡ registry_of a
  pub topology : topology_of b ≡ topology_of a

-- the link is one that a board has room for
abbrev pub MarksALink : Change → Type 0
MarksALink (Install s) = Unit {0}
MarksALink (Retire f) = Unit {0}
MarksALink (Down l) = l < MAX_LINKS
MarksALink (Up l) = l < MAX_LINKS
MarksALink (Avoid l) = l < MAX_LINKS
MarksALink (Heed l) = l < MAX_LINKS

-- The change may come next. What is installed is a later epoch of the same registry, over links of the opening's
-- network. A floor rises, up to the current epoch. A mark changes, and it is that of a link. Only a link
-- that is up is to be avoided.
abbrev pub MayComeNext : List Entry → Change → Type 0
MayComeNext entries (Install s) = ((board_of entries).current < s.epoch) × (registry_name s ≡ registry_of entries) × IsOver (topology_of entries) (knows s).topology
MayComeNext entries (Retire f) = ((board_of entries).floor < f) × (f ≤ (board_of entries).current)
MayComeNext entries (Down l) = (l < opening_links entries) × (is_link_up (board_of entries) l ≡ true)
MayComeNext entries (Up l) = (l < opening_links entries) × (is_link_up (board_of entries) l ≡ false)
MayComeNext entries (Avoid l) = (l < opening_links entries) × (is_link_up (board_of entries) l ≡ true) × (is_heeded (board_of entries) l ≡ true)
MayComeNext entries (Heed l) = (l < opening_links entries) × (is_heeded (board_of entries) l ≡ false)

-- The stamp is that of the current epoch: the one installed last, of the opening's registry, with a plan over links
-- of the opening's network.
pub record IsCurrent (entries : List Entry) (s : Stamp) : Type 0 where
  pub last : installed_stamp entries ≡ Some s
  pub epoch : s.epoch ≡ (board_of entries).current
  pub registry : registry_name s ≡ registry_of entries
  pub over : IsOver (topology_of entries) (knows s).topology

-- the live epochs are those from the floor to the current one
abbrev pub HasLiveEpochs : Board → Type 0
HasLiveEpochs b = (1 ≤ b.floor) × (b.floor ≤ b.current) × (b.current ≤ MAX_EPOCHS)

-- neither the floor nor the current epoch goes back from a to b
abbrev pub Rises : Board → Board → Type 0
Rises a b = (a.floor ≤ b.floor) × (a.current ≤ b.current)

-- no beginning has a later floor or a later current epoch than the whole
abbrev pub IsRising : List Entry → Type 0
IsRising entries = (n : ℕ) → Rises (board_of (take n entries)) (board_of entries)

-- The entries make this board, whose version is how many changes there were, and this stamp.
pub record IsMadeOf (entries : List Entry) (b : Board) (s : Stamp) : Type 0 where
  pub board : b ≡ board_of entries
  pub version : b.version + 1 ≡ length entries
  pub stamp : IsCurrent entries s
  pub live : HasLiveEpochs b
  pub rising : IsRising entries
  pub few_links : opening_links entries ≤ MAX_LINKS
