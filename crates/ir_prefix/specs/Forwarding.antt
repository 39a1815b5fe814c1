-- Forwarding tables: lines of a prefix and the port by which what matches it longest goes on, or None where that is
-- unreachable.
use Rattle.std.specs.Prelude.{◌≡◌, ℕ, ◌-◌, ◌/◌, ◌%◌, ◌^◌, ◌<◌, ◌≤◌, ◌⊎◌, List, length, take, All, Contains, Option, Some}
use Rattle.std.specs.List.{AllPairs}
use Rattle.ir_model.specs.Compiled.{port_to}
use Rattle.ir_prefix.specs.declared.line.TableLine.{TableLine}

-- the prefix of the line holds the number x: of their `bits` bits the first ones, as many as the prefix is long, are the same
abbrev pub HoldsNumber : ℕ → TableLine → ℕ → Type 0
HoldsNumber bits m x = x / 2 ^ (bits - m.length) ≡ m.value / 2 ^ (bits - m.length)

-- m is a longest match of x: of the lines that hold x none is longer
pub record IsMatch (bits : ℕ) (table : List TableLine) (x : ℕ) (m : TableLine) : Type 0 where
  pub member : Contains table m
  pub holds : HoldsNumber bits m x
  pub longest : All (λ (o : TableLine). HoldsNumber bits o x → o.length ≤ m.length) table

-- x has a longest match, and each that it has sends it on by this port, or says that it is unreachable
pub record SendsBy (bits : ℕ) (table : List TableLine) (x : ℕ) (port : Option ℕ) : Type 0 where
  pub covered : (m : TableLine) × IsMatch bits table x m
  pub agrees : (m : TableLine) → IsMatch bits table x m → m.port ≡ port

-- the length and the value of a prefix are within the width
abbrev pub IsWithin : ℕ → List TableLine → Type 0
IsWithin bits table = All (λ (m : TableLine). (m.length ≤ bits) × (m.value < 2 ^ bits)) table

-- A table of a node among n forwards each other label by the node's port to it. Each number beyond the labels goes the
-- way of the last label, and is unreachable at the node of the last label, which has no port to it. So what is sent to
-- no label ends there.
pub record IsForwardingTable (n bits : ℕ) (ports : List (Option ℕ)) (table : List TableLine) : Type 0 where
  pub within : IsWithin bits table
  pub meaning : (d p : ℕ) → port_to ports d ≡ Some p → SendsBy bits table d (Some p)
  pub beyond : (x : ℕ) → n ≤ x → x < 2 ^ bits → SendsBy bits table x (port_to ports (n - 1))

-- no table that forwards so has fewer lines
abbrev pub IsFewestLines : ℕ → ℕ → List (Option ℕ) → ℕ → Type 0
IsFewestLines n bits ports count = (table : List TableLine) → IsForwardingTable n bits ports table → count ≤ length table

-- No prefix is there twice, and the bits of each value past its prefix are 0.
pub record IsWellFormed (bits : ℕ) (table : List TableLine) : Type 0 where
  pub once : AllPairs (λ (m o : TableLine). m.length ≡ o.length → m.value ≡ o.value → ⊥) table
  pub bits_past : All (λ (m : TableLine). m.value % 2 ^ (bits - m.length) ≡ 0) table

-- each port of a line is one of the row
abbrev pub NamesPorts : List (Option ℕ) → List TableLine → Type 0
NamesPorts ports table = All (λ (m : TableLine). (p : ℕ) → m.port ≡ Some p → (d : ℕ) × (port_to ports d ≡ Some p)) table

-- a longer prefix is before a shorter one, and of two as long the one with the lesser value
abbrev pub StandsBefore : TableLine → TableLine → Type 0
StandsBefore m o = (o.length < m.length) ⊎ ((m.length ≡ o.length) × (m.value < o.value))

abbrev pub AreLongestFirst : List TableLine → Type 0
AreLongestFirst table = AllPairs StandsBefore table

-- where only the first lines are there yet, or still, a number has the longest match that it has in the whole table, or none
abbrev pub KeepsMatches : ℕ → List TableLine → Type 0
KeepsMatches bits table = (count x : ℕ) (m : TableLine) → IsMatch bits (take count table) x m → IsMatch bits table x m

-- A table of a node among n in which no number has two lines: each other label has one, with the node's port to it, and no
-- number beyond the labels has any. The own label may have one or none.
pub record IsDisjointTable (n bits : ℕ) (ports : List (Option ℕ)) (table : List TableLine) : Type 0 where
  pub within : IsWithin bits table
  pub apart : (x : ℕ) → AllPairs (λ (m o : TableLine). HoldsNumber bits m x → HoldsNumber bits o x → ⊥) table
  pub meaning : (d p : ℕ) → port_to ports d ≡ Some p → (m : TableLine) × Contains table m × HoldsNumber bits m d × (m.port ≡ Some p)
  pub beyond : (x : ℕ) → n ≤ x → All (λ (m : TableLine). HoldsNumber bits m x → ⊥) table

-- no such table has fewer lines
abbrev pub IsFewestDisjoint : ℕ → ℕ → List (Option ℕ) → ℕ → Type 0
IsFewestDisjoint n bits ports count = (table : List TableLine) → IsDisjointTable n bits ports table → count ≤ length table
