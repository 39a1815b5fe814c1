use Rattle.std.proofs.Common.{◌≡◌, ◌++◌, take, string_bytes, flat_map}
use Rattle.ir_figures.specs.Made.{bytes_made}
use Rattle.ir_figures.proofs.failures.push_texts.Given as goal

abbrev pub invariant-loop-one : goal.invariant-loop-one
invariant-loop-one l = string_bytes l.text ≡ string_bytes l.fn.text ++ flat_map bytes_made (take l.one-index l.made)
