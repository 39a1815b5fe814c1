use Rattle.std.proofs.Common.{◌≡◌, ◌++◌, take, flat_map, string_bytes}
use Rattle.ir_model.specs.Graph.{names}
use Rattle.ir_trace.specs.Rows.{spaced}
use Rattle.ir_patches.specs.DiffText.{put_words}
use Rattle.ir_patches.proofs.lines.push_all.Given as goal

abbrev pub invariant-loop-lead : goal.invariant-loop-lead
invariant-loop-lead l = string_bytes l.text ≡ string_bytes l.fn.text ++ flat_map spaced (flat_map (put_words (names l.graph)) (take l.lead-index l.put))
