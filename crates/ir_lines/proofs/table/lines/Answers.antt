use Rattle.std.proofs.Common.{◌≡◌, ◌≤◌, ◌<◌, ℕ, length, ap, ◌∙◌, inl, inr, arith}
use Rattle.std.proofs.lemmas.Bool.{iff_false}
use Rattle.ir_model.specs.Row.{IsAscending}
use Rattle.ir_lines.specs.Words.{from_zero, tree, row_word}
use Rattle.ir_lines.proofs.Found.{ArePorts, few_words}
use Rattle.ir_lines.proofs.Tables.{byte_led, byte_port, tree_led, tree_port}
use Rattle.ir_lines.proofs.table.lines.Goals as goal

pub takes_bytes-requires-clause-few : goal.takes_bytes-requires-clause-few
takes_bytes-requires-clause-few c =
    let few = few_words c.args.row.now c.args.owner.labels c.words_of-count.ensures.ascending c.requires.starts in
    let same = c.words_of-count.ensures.count in
    omega (arith, few, same)

pub tree_of-requires-clause-few : goal.tree_of-requires-clause-few
tree_of-requires-clause-few c =
    let few = few_words c.args.row.now c.args.owner.labels c.words_of-count.ensures.ascending c.requires.starts in
    let same = c.words_of-count.ensures.count in
    omega (arith, few, same)

pub byte_table-requires : goal.byte_table-requires
byte_table-requires c =
    let takes = c.takes_bytes.ensures.0 c.if-takes_bytes.true in
    record { some = takes.some; labels = c.requires.few; ascending = c.words_of-count.ensures.ascending; ports = takes.ports }

pub returns-then-takes_bytes : goal.returns-then-takes_bytes
returns-then-takes_bytes c =
    let takes = c.takes_bytes.ensures.0 c.if-takes_bytes.true in
    let words = c.in_ok-words.words.items in
    let row = c.args.row.now in
    let is_table = c.in_ok-words.ensures in
    record {
      table = inl (takes, is_table);
      led = λ some label is. byte_led c.args.owner row words is_table label is;
      ports = λ label port is lead. byte_port c.args.owner row words is_table label is port lead;
    }

pub returns : goal.returns
returns c =
    let other = iff_false c.takes_bytes.ensures c.if-takes_bytes.false in
    let words = c.in_ok-words-2.words.items in
    let row = c.args.row.now in
    let up : IsAscending row = c.words_of-count.ensures.ascending in
    let ports : ArePorts row = λ k l. let le = c.greatest_port-greatest.ensures.every k l in omega arith in
    let many = few_words row c.args.owner.labels up c.requires.starts in
    let few : length (from_zero row) ≤ 16384 = omega (arith, many) in
    let e : words ≡ tree c.args.owner (row_word row) (length (from_zero row)) =
    c.in_ok-words-2.ensures ∙ ap (λ (k : ℕ). tree c.args.owner (row_word row) k) c.words_of-count.ensures.count in
    record {
      table = inr (other, e);
      led = λ some label is. tree_led c.args.owner row c.args.owner.labels label up ports few is (omega arith) words e some;
      ports = λ label port is lead. tree_port c.args.owner row c.args.owner.labels label up ports few is (omega arith) words e port lead;
    }
