-- Boards, and what a change makes of one.
use Rattle.std.specs.Prelude.{ℕ, ◌+◌, Bool, true, ◌&&◌, List, get_or, slice_set, replicate, take}
use Rattle.ir_core.specs.declared.TheConstants.{MAX_LINKS}
use Rattle.ir_core.specs.Marks.{both}
use Rattle.ir_core.specs.declared.board.Board.{Board}

-- the board before any change: epoch 1 is current and live, and all links are up and heeded
abbrev pub opening_board : Board
opening_board = record { version = 0; current = 1; floor = 1; up = replicate MAX_LINKS true; heeded = replicate MAX_LINKS true }

-- a number that is no link counts as up
abbrev pub is_link_up : Board → ℕ → Bool
is_link_up b l = get_or b.up l true

-- a number that is no link counts as heeded
abbrev pub is_heeded : Board → ℕ → Bool
is_heeded b l = get_or b.heeded l true

-- installs use the links that are up and heeded
abbrev pub is_used : Board → ℕ → Bool
is_used b l = is_link_up b l && is_heeded b l

-- for each of so many links, whether installs use it
abbrev pub links_used : Board → ℕ → List Bool
links_used b n = both (take n b.up) (take n b.heeded)

-- the board after one link was marked
abbrev pub marked : Board → ℕ → Bool → Board
marked b l up = record b { version = b.version + 1; up = slice_set b.up l up }

-- the board after installs were told to heed a link, or to avoid it
abbrev pub heeding : Board → ℕ → Bool → Board
heeding b l heed = record b { version = b.version + 1; heeded = slice_set b.heeded l heed }

-- the board after the epochs below a floor were retired
abbrev pub retired_below : Board → ℕ → Board
retired_below b f = record b { version = b.version + 1; floor = f }

-- the board after this epoch was made current
abbrev pub installed : Board → ℕ → Board
installed b e = record b { version = b.version + 1; current = e }
