use Rattle.std.proofs.Common.{◌≡◌, ◌≤◌, ◌-◌, ◌++◌, drop, length, flat_map, string_bytes}
use Rattle.ir_model.specs.Graph.{names}
use Rattle.ir_trace.specs.Rows.{spaced}
use Rattle.ir_patches.specs.DiffText.{put_below, put_from, put_words}
use Rattle.ir_patches.proofs.lines.push_below.Given as goal

-- what is written and what is left to write make the whole
abbrev pub invariant-loop-end : goal.invariant-loop-end
invariant-loop-end l = record {
  text : string_bytes l.text ++ flat_map spaced (flat_map (put_words (names l.graph)) (put_below l.start (drop l.end l.put)))
      ≡ string_bytes l.fn.text ++ flat_map spaced (flat_map (put_words (names l.graph)) (put_below l.start (drop l.place l.put)));
  rest : put_from l.start (drop l.end l.put) ≡ put_from l.start (drop l.place l.put);
  within : l.end ≤ length l.put;
}

abbrev pub decreases-loop-end : goal.decreases-loop-end
decreases-loop-end l = length l.put - l.end
