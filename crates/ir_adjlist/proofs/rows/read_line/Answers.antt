use Rattle.std.proofs.Common.{◌≡◌, true, nat_le, length, arith}
use Rattle.std.specs.List.{list_all}
use Rattle.ir_model.specs.declared.TheConstants.{MAX_NAME_BYTES}
use Rattle.ir_model.specs.Graph.{Name}
use Rattle.ir_model.specs.Text.{words_of, is_plain, content}
use Rattle.ir_adjlist.proofs.Names.{words_named}
use Rattle.ir_adjlist.proofs.rows.read_line.Goals as goal

pub add_row-requires : goal.add_row-requires
add_row-requires c =
    let plain : list_all is_plain (content c.args.line.now) ≡ true = grind arith in
    let short : list_all (λ (w : Name). nat_le (length w) MAX_NAME_BYTES) (words_of (content c.args.line.now)) ≡ true = grind arith in
    rw c.without_comment-words.ensures (words_named c.args.line.now plain short)

pub returns-then-not-all_plain-clause-ok : goal.returns-then-not-all_plain-clause-ok
returns-then-not-all_plain-clause-ok c = tt

pub returns-then-not-all_short-clause-ok : goal.returns-then-not-all_short-clause-ok
returns-then-not-all_short-clause-ok c = tt
