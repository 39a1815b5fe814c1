use Rattle.std.proofs.Common.{◌≡◌, ◌≤◌, ◌<◌, length, ap, ◌∙◌, refl, arith}
use Rattle.std.proofs.lemmas.Bool.{false≢true}
use Rattle.ir_lines.specs.Words.{from_zero, tree_lines}
use Rattle.ir_lines.proofs.table.takes_bytes.Goals as goal

pub returns-then-starts-eq0 : goal.returns-then-starts-eq0
returns-then-starts-eq0 c = (λ f. absurd (false≢true f), λ t. let s = t.some in absurd (omega arith))

pub returns-then-greatest-gt255 : goal.returns-then-greatest-gt255
returns-then-greatest-gt255 c = (
  λ f. absurd (false≢true f),
  λ t.
      let g = c.requires.greatest.some (omega arith) in
      let e = g.2 in
      let small = t.ports g.0 g.1 in
      absurd (omega (arith, e, small)),
)

pub returns-then-of_bytes-of_tree : goal.returns-then-of_bytes-of_tree
returns-then-of_bytes-of_tree c = (
  λ f. absurd (false≢true f),
  λ t.
      let less = t.fewer in
      let same : c.tree_lines-of_tree.result ≡ tree_lines (length (from_zero c.args.row.now)) = c.tree_lines-of_tree.ensures ∙ ap tree_lines c.requires.count in
      let past = c.if-of_bytes-of_tree.true in
      absurd (omega (arith, less, same, past)),
)

pub returns : goal.returns
returns c =
    let same : c.tree_lines-of_tree.result ≡ tree_lines (length (from_zero c.args.row.now)) = c.tree_lines-of_tree.ensures ∙ ap tree_lines c.requires.count in
    let less = c.if-of_bytes-of_tree.false in (
      λ _. record {
        some = omega arith;
        fewer = omega (arith, same, less);
        ports = λ k l. let le = c.requires.greatest.every k l in omega (arith, le);
      },
      λ _. refl,
    )
