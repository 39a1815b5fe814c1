-- The rows of a trace as they are read.
use Rattle.std.specs.Prelude.{ℕ, List}
use Rattle.ir_trace.specs.declared.row.RowFate.{RowFate}

-- a part of a packet's way, under one epoch: its nodes are places in node order
pub record Segment : Type 0 where
  pub epoch : ℕ
  pub hops : List ℕ

-- a row: its nodes are places in node order, and its parts are in the order of the way
pub record TraceRow : Type 0 where
  pub id : ℕ
  pub source : ℕ
  pub dest : ℕ
  pub weight : ℕ
  pub fate : RowFate
  pub parts : List Segment
