use Rattle.std.proofs.Common.{◌≡◌, ◌∙◌, ◌∷◌, sym, ap, true, arith}
use Rattle.std.specs.List.{list_all}
use Rattle.ir_model.specs.Graph.{is_name}
use Rattle.ir_model.specs.Text.{words_of, is_plain, content}
use Rattle.ir_adjlist.proofs.Names.{first_named, second_named}
use Rattle.ir_adjlist.proofs.edges.read_line.Goals as goal

pub name_of-requires : goal.name_of-requires
name_of-requires c =
    let plain : list_all is_plain (content c.args.line.now) ≡ true = grind arith in
    let first : words_of (content c.args.line.now) ≡ c.in-Some.u.now ∷ words_of c.in-Some.behind.now = ap words_of (sym c.without_comment-words.ensures) ∙ c.in-Some.ensures.0 in
    first_named c.args.line.now plain c.in-Some.u.now (words_of c.in-Some.behind.now) first c.if-u-gt-MAX_NAME_BYTES.false

pub name_of-requires-2 : goal.name_of-requires-2
name_of-requires-2 c =
    let plain : list_all is_plain (content c.args.line.now) ≡ true = grind arith in
    let both : words_of (content c.args.line.now) ≡ c.in-Some.u.now ∷ c.in-Some-next_word.v.now ∷ words_of c.in-Some-next_word.rest.now =
    ap words_of (sym c.without_comment-words.ensures) ∙ c.in-Some.ensures.0 ∙ ap (λ ws. c.in-Some.u.now ∷ ws) c.in-Some-next_word.ensures.0 in
    second_named c.args.line.now plain c.in-Some.u.now c.in-Some-next_word.v.now (words_of c.in-Some-next_word.rest.now) both c.if-v-gt-MAX_NAME_BYTES.false

pub add_weighted-requires-clause-u : goal.add_weighted-requires-clause-u
add_weighted-requires-clause-u c =
    let plain : list_all is_plain (content c.args.line.now) ≡ true = grind arith in
    let first : words_of (content c.args.line.now) ≡ c.in-Some.u.now ∷ words_of c.in-Some.behind.now = ap words_of (sym c.without_comment-words.ensures) ∙ c.in-Some.ensures.0 in
    ap is_name c.name_of.ensures ∙ first_named c.args.line.now plain c.in-Some.u.now (words_of c.in-Some.behind.now) first c.if-u-gt-MAX_NAME_BYTES.false

pub add_weighted-requires-clause-v : goal.add_weighted-requires-clause-v
add_weighted-requires-clause-v c =
    let plain : list_all is_plain (content c.args.line.now) ≡ true = grind arith in
    let both : words_of (content c.args.line.now) ≡ c.in-Some.u.now ∷ c.in-Some-next_word.v.now ∷ words_of c.in-Some-next_word.rest.now =
    ap words_of (sym c.without_comment-words.ensures) ∙ c.in-Some.ensures.0 ∙ ap (λ ws. c.in-Some.u.now ∷ ws) c.in-Some-next_word.ensures.0 in
    ap is_name c.name_of-2.ensures ∙ second_named c.args.line.now plain c.in-Some.u.now c.in-Some-next_word.v.now (words_of c.in-Some-next_word.rest.now) both c.if-v-gt-MAX_NAME_BYTES.false
