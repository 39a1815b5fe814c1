use Rattle.std.proofs.Common.{◌≡◌, ◌++◌, take, string_bytes, flat_map}
use Rattle.ir_model.specs.Graph.{names}
use Rattle.ir_trace.specs.Rows.{spaced}
use Rattle.ir_exports.specs.PrefixesText.{entry_words}
use Rattle.ir_exports.proofs.prefixes.push_entries.Given as goal

abbrev pub invariant-loop-line : goal.invariant-loop-line
invariant-loop-line l = string_bytes l.text ≡ string_bytes l.fn.text ++ flat_map spaced (flat_map (entry_words (names l.graph) l.plan.topology l.u) (take l.line-index l.table))
