use Rattle.std.proofs.Common.{◌≡◌, ◌≤◌, ◌++◌, drop, length, flat_map, string_bytes}
use Rattle.ir_model.specs.Graph.{names}
use Rattle.ir_trace.specs.Rows.{spaced}
use Rattle.ir_patches.specs.DiffText.{step_words}
use Rattle.ir_patches.proofs.lines.push_steps.Given as goal

-- what is written and what is left to write make the whole
abbrev pub invariant-loop-start : goal.invariant-loop-start
invariant-loop-start l = record {
  text : string_bytes l.text ++ flat_map spaced (step_words (names l.graph) (drop l.start-index l.removed) (drop l.place l.put))
      ≡ string_bytes l.fn.text ++ flat_map spaced (step_words (names l.graph) l.removed l.put);
  within : l.place ≤ length l.put;
}
