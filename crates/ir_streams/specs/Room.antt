-- What is kept back of a text that is written in parts.
use Rattle.std.specs.Prelude.{ℕ, ◌≤◌, List, cond, Option, Some, None, length, take}
use Rattle.std.specs.Global.{Vec}
use Rattle.std.specs.Vec.{vec_capacity}
use Rattle.ir_streams.specs.declared.TheConstants.{PART_BYTES}
use Rattle.ir_streams.specs.declared.parts.TextParts.TheInside.{Inside}

-- the bytes that are kept back, if no write failed
abbrev pub kept_back : Inside → Option (List ℕ)
kept_back parts = cond parts.has_failed None (Some (take parts.count parts.kept.items))

-- a part at most, and there is room for one
pub record IsRoom (kept : Vec ℕ) : Type 0 where
  pub few : length kept.items ≤ PART_BYTES
  pub capacity : PART_BYTES ≤ vec_capacity kept

-- a part at most, of which so many bytes count
pub record IsPart (parts : Inside) : Type 0 where
  pub room : IsRoom parts.kept
  pub count : parts.count ≤ length parts.kept.items
