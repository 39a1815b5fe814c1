use Rattle.std.proofs.Common.{◌≡◌, ◌≢◌, ◌+◌, ◌∙◌, ◌++◌, ◌∷◌, ℕ, [], sym, ap, subst, arith}
use Rattle.std.specs.Prelude.{slice_index}
use Rattle.std.proofs.lemmas.List.{map_push}
use Rattle.ir_model.specs.Topology.{node_count}
use Rattle.ir_model.specs.Subtree.{IsSubtree}
use Rattle.ir_model.specs.Row.{Start}
use Rattle.ir_lookup.specs.Words.{start_of, starts_of}
use Rattle.ir_plan.specs.SonStarts.{AreTreeStarts}
use Rattle.ir_plan.proofs.SonStarts.{start_with, starts_alone, starts_front, starts_behind}
use Rattle.ir_plan.proofs.tree.add_father.Goals as goal

pub returns-in_ok-insert : goal.returns-in_ok-insert
returns-in_ok-insert c =
    let net = c.args.topology.now in
    let numbers = c.args.numbering.now in
    let is = c.requires.numbering in
    let before = starts_of c.args.words.now.items in
    let sub = subst (λ (n : ℕ). IsSubtree n numbers.parents (slice_index numbers.labels c.args.u) c.subtree.result) is.labels.every_label c.subtree.ensures in
    let last : slice_index numbers.labels c.args.u + c.subtree.result ≡ node_count net = omega (arith, c.if-end-nodes.true, c.label_of.ensures, c.nodes-nodes.ensures.count) in
    let added = ap starts_of c.in_ok-insert.ensures.items ∙ ap (λ (s : Start). s ∷ before) c.word.ensures in
    subst (AreTreeStarts net numbers c.args.u) (sym added)
    (starts_front net c.nodes-nodes.ensures.topology numbers is c.args.u c.requires.node c.subtree.result sub before c.requires.sons c.in-Some.up (sym c.parent.ensures ∙ c.in-Some.is) last)

pub returns-in_ok-push : goal.returns-in_ok-push
returns-in_ok-push c =
    let net = c.args.topology.now in
    let numbers = c.args.numbering.now in
    let is = c.requires.numbering in
    let before = starts_of c.args.words.now.items in
    let sub = subst (λ (n : ℕ). IsSubtree n numbers.parents (slice_index numbers.labels c.args.u) c.subtree.result) is.labels.every_label c.subtree.ensures in
    let end : slice_index numbers.labels c.args.u + c.subtree.result ≢ node_count net = λ e. c.if-end-nodes.false (omega (arith, e, c.label_of.ensures, c.nodes-nodes.ensures.count)) in
    let at : start_of c.word-else-end-nodes.result ≡ start_with (slice_index numbers.labels c.args.u + c.subtree.result) c.in-Some.up =
    c.word-else-end-nodes.ensures ∙ ap (λ (l : ℕ). start_with (l + c.subtree.result) c.in-Some.up) c.label_of.ensures in
    let added = ap starts_of c.in_ok-push.ensures.items ∙ map_push start_of c.args.words.now.items c.word-else-end-nodes.result ∙ ap (λ (s : Start). before ++ s ∷ []) at in
    subst (AreTreeStarts net numbers c.args.u) (sym added)
    (starts_behind net c.nodes-nodes.ensures.topology numbers is c.args.u c.requires.node c.subtree.result sub before c.requires.sons c.in-Some.up (sym c.parent.ensures ∙ c.in-Some.is) end)

pub returns-in_default : goal.returns-in_default
returns-in_default c =
    let net = c.args.topology.now in
    let numbers = c.args.numbering.now in
    let is = c.requires.numbering in
    let sub = subst (λ (n : ℕ). IsSubtree n numbers.parents (slice_index numbers.labels c.args.u) c.subtree.result) is.labels.every_label c.subtree.ensures in
    starts_alone net c.nodes-nodes.ensures.topology numbers is c.args.u c.requires.node c.subtree.result sub (starts_of c.args.words.now.items) c.requires.sons (sym c.parent.ensures ∙ c.in_default.is)
