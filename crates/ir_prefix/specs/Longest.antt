-- Prefixes, their longest match, and which sets of prefixes forward each label by its port.
use Rattle.std.specs.Prelude.{◌≡◌, ℕ, ◌-◌, ◌/◌, ◌^◌, ◌<◌, ◌≤◌, ◌⊎◌, List, length, All, Contains, Option, Some}
use Rattle.std.specs.List.{AllAdjacentBelow}
use Rattle.ir_model.specs.Compiled.{port_to}
use Rattle.ir_prefix.specs.declared.cover.Prefix.{Prefix}

-- the prefix holds the number x: of their `bits` bits the first ones, as many as the prefix is long, are the same
abbrev pub Holds : ℕ → Prefix → ℕ → Type 0
Holds bits m x = x / 2 ^ (bits - m.length) ≡ m.value / 2 ^ (bits - m.length)

-- m is a longest of the prefixes that hold x
pub record IsLongest (bits : ℕ) (set : List Prefix) (x : ℕ) (m : Prefix) : Type 0 where
  pub member : Contains set m
  pub holds : Holds bits m x
  pub longest : All (λ (o : Prefix). Holds bits o x → o.length ≤ m.length) set

-- each longest match of a label with a port names its port
abbrev pub NamesThePorts : ℕ → List (Option ℕ) → List Prefix → Type 0
NamesThePorts bits ports set = (d p : ℕ) (m : Prefix) → port_to ports d ≡ Some p → IsLongest bits set d m → m.port ≡ p

-- each label with a port has a longest match, and each longest match of it names its port
pub record Forwards (bits : ℕ) (ports : List (Option ℕ)) (set : List Prefix) : Type 0 where
  pub within : All (λ (m : Prefix). (m.length ≤ bits) × (m.value < 2 ^ bits)) set
  pub covered : (d p : ℕ) → port_to ports d ≡ Some p → (m : Prefix) × IsLongest bits set d m
  pub agrees : NamesThePorts bits ports set

-- no set of prefixes that forwards has fewer members
abbrev pub IsFewestPrefixes : ℕ → List (Option ℕ) → ℕ → Type 0
IsFewestPrefixes bits ports count = (set : List Prefix) → Forwards bits ports set → count ≤ length set

-- so many bits tell n numbers apart, and fewer do not
pub record IsWidth (n bits : ℕ) : Type 0 where
  pub enough : n ≤ 2 ^ bits
  pub least : (k : ℕ) → n ≤ 2 ^ k → bits ≤ k

-- a longer prefix is before a shorter one, and of two as long the one with the lesser value
abbrev pub IsBefore : Prefix → Prefix → Type 0
IsBefore m o = (o.length < m.length) ⊎ ((m.length ≡ o.length) × (m.value < o.value))

-- each prefix is before the next one
abbrev pub IsLongestFirst : List Prefix → Type 0
IsLongestFirst set = AllAdjacentBelow IsBefore set (length set)

-- the value of each prefix is the least number that it holds: its further bits are 0
abbrev pub AreLeast : ℕ → List Prefix → Type 0
AreLeast bits set = All (λ (m : Prefix). (x : ℕ) → Holds bits m x → m.value ≤ x) set

-- the port of each prefix is one of the row
abbrev pub HavePorts : List (Option ℕ) → List Prefix → Type 0
HavePorts ports set = All (λ (m : Prefix). (d : ℕ) × (port_to ports d ≡ Some m.port)) set
