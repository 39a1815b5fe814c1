use Rattle.std.proofs.Common.{◌≡◌, ◌≤◌, ◌++◌, length, drop, string_bytes, flat_map, map}
use Rattle.ir_model.specs.Graph.{names}
use Rattle.ir_trace.specs.Rows.{spaced, part_words}
use Rattle.ir_trace.specs.Written.{named}
use Rattle.ir_trace.specs.Stretches.{parts_from, AreAscending}
use Rattle.ir_trace.proofs.writing.push_segments.Given as goal

abbrev pub invariant-loop-restamp : goal.invariant-loop-restamp
invariant-loop-restamp l = record {
  text : string_bytes l.text ++ flat_map spaced (flat_map part_words (map (named (names l.graph)) (parts_from l.epoch l.from l.hops (drop l.restamp-index l.restamps))))
      ≡ string_bytes l.fn.text ++ flat_map spaced (flat_map part_words (map (named (names l.graph)) (parts_from l.fn.epoch 0 l.hops l.restamps)));
  within : l.from ≤ length l.hops;
  places : AreAscending l.from (length l.hops) (drop l.restamp-index l.restamps);
}
