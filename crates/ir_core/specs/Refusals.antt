-- Why an act is refused: the first line that holds.
use Rattle.std.specs.Prelude.{ℕ, Bool, not, ◌&&◌, nat_le, nat_lt, Option, Some, None, if◌then◌else◌}
use Rattle.ir_core.specs.declared.TheConstants.{MAX_EPOCHS, MAX_CHANGES}
use Rattle.ir_core.specs.declared.board.Board.{Board}
use Rattle.ir_core.specs.declared.event.Refused.{Refused}
use Rattle.ir_core.specs.declared.event.Refused.TheVariants.{NoNode, NoLink, NoEpoch, LinkDown, Same, EpochsFull, TooManyPackets, TooManyChanges}
use Rattle.ir_core.specs.Board.{is_link_up, is_heeded}

-- a packet more, of so many nodes, of at most so many packets, so many of which there are
abbrev pub inject_refused : (nodes most count source dest : ℕ) → Option Refused
inject_refused nodes most count source dest =
    if not (nat_lt source nodes && nat_lt dest nodes) then Some NoNode
    else if nat_le most count then Some TooManyPackets
    else None

-- a change of a board
abbrev pub change_refused : Board → Option Refused
change_refused b = if nat_le MAX_CHANGES b.version then Some TooManyChanges else None

-- a floor
abbrev pub retire_refused : Board → ℕ → Option Refused
retire_refused b f =
    if nat_lt b.current f then Some NoEpoch
    else if nat_le f b.floor then Some Same
    else change_refused b

-- a mark of one of so many links
abbrev pub mark_refused : (links : ℕ) → Board → (link : ℕ) → Bool → Option Refused
mark_refused links b l up =
    if nat_le links l then Some NoLink
    else if (if up then is_link_up b l else not (is_link_up b l)) then Some Same
    else change_refused b

-- whether installs heed one of so many links, or avoid it
abbrev pub heed_refused : (links : ℕ) → Board → (link : ℕ) → Bool → Option Refused
heed_refused links b l heed =
    if nat_le links l then Some NoLink
    else if not heed && not (is_link_up b l) then Some LinkDown
    else if (if heed then is_heeded b l else not (is_heeded b l)) then Some Same
    else change_refused b

-- an install over so many nodes, where so many epochs are used up, before any plan is made
abbrev pub install_refused : (nodes epochs : ℕ) → Board → (root : ℕ) → Option Refused
install_refused nodes epochs b root =
    if nat_le nodes root then Some NoNode
    else if nat_le MAX_EPOCHS epochs then Some EpochsFull
    else change_refused b
