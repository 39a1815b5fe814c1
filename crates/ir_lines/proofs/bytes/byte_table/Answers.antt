use Rattle.std.proofs.Common.{◌++◌, ℕ, List, replicate, ap, ◌∙◌}
use Rattle.ir_lines.specs.Words.{no_word}
use Rattle.ir_lines.proofs.bytes.byte_table.Goals as goal

pub returns : goal.returns
returns c = record {
  bytes = c.in_ok-bytes.bytes.items;
  every = c.in_ok-bytes.ensures.every;
  hold = c.in_ok-bytes.ensures.hold;
  all = c.in_ok-extend_from_slice-2.ensures.items
      ∙ ap (λ (ys : List ℕ). c.extend_from_slice.new.self.items ++ ys) c.as_slice.ensures.value
      ∙ ap (λ (xs : List ℕ). xs ++ c.in_ok-bytes.bytes.items)
      (c.in_ok-extend_from_slice.ensures.items ∙ ap (λ (xs : List ℕ). xs ++ replicate 16 no_word) c.in_ok-words.ensures);
}
