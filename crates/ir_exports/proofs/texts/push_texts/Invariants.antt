use Rattle.std.proofs.Common.{◌≡◌, ◌≤◌, ◌++◌, take, length, string_bytes, flat_map, sum_by}
use Rattle.ir_exports.specs.NodeTexts.{bytes_of, lines_of}
use Rattle.ir_exports.proofs.texts.push_texts.Given as goal

abbrev pub invariant-loop-node : goal.invariant-loop-node
invariant-loop-node l = record {
  lines : l.lines ≡ sum_by lines_of (take l.node-index l.fn.made.items);
  bytes : string_bytes l.text ≡ string_bytes l.fn.text ++ flat_map bytes_of (take l.node-index l.fn.made.items);
  short : l.lines ≤ length (string_bytes l.text);
}
