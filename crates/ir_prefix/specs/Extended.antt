-- A node's ports for all numbers of a width, where one port stands for what is unreachable, and its lines as prefixes.
use Rattle.std.specs.Prelude.{◌≢◌, ◌==◌, ℕ, ◌-◌, List, Option, Some, None, unwrap_or, if◌then◌else◌, nat_lt}
use Rattle.ir_model.specs.Compiled.{port_to}
use Rattle.ir_prefix.specs.declared.cover.Prefix.{Prefix}
use Rattle.ir_prefix.specs.declared.line.TableLine.{TableLine}

-- the port of a line from that of a prefix
abbrev pub prefix_port : ℕ → ℕ → Option ℕ
prefix_port unreachable p = if p == unreachable then None else Some p

abbrev pub line_of : ℕ → Prefix → TableLine
line_of unreachable m = record { value = m.value; length = m.length; port = prefix_port unreachable m.port }

abbrev pub prefix_of : ℕ → TableLine → Prefix
prefix_of unreachable m = record { value = m.value; length = m.length; port = unwrap_or m.port unreachable }

-- no label has this port
abbrev pub IsUnused : List (Option ℕ) → ℕ → Type 0
IsUnused ports p = (d : ℕ) → port_to ports d ≢ Some p

-- the port of a number: of a label its own, of one beyond the labels that of the last label, or the one for unreachable
abbrev pub extended_port : ℕ → ℕ → List (Option ℕ) → ℕ → Option ℕ
extended_port n unreachable ports x = if nat_lt x n then port_to ports x else Some (unwrap_or (port_to ports (n - 1)) unreachable)
