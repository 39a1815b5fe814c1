use Rattle.std.proofs.Common.{◌≡◌, ◌<◌, ◌≤◌, ◌∙◌, ℕ, false, not, [], length, get_or, inl, inr, sym, ap, subst, arith}
use Rattle.std.proofs.lemmas.Bool.{cases_lt}
use Rattle.ir_model.specs.Graph.{Name, names}
use Rattle.ir_patches.specs.Nodes.{is_there}
use Rattle.ir_patches.proofs.Numbers.{names_long, position_is, position_none}
use Rattle.ir_patches.proofs.nodes.first_other.Goals as goal

pub returns-then-not-is_there : goal.returns-then-not-is_there
returns-then-not-is_there c =
    let others = names c.args.others.now in
    let nodes = names c.args.graph.now in
    let u = c.loop-u.u in
    let within : u < length nodes = omega (arith, c.loop-u-test.true, c.number_of_nodes-u-end.ensures.len, names_long c.args.graph.now) in
    let there : c.is_there.result ≡ is_there others (get_or nodes u []) = c.is_there.ensures ∙ ap (is_there others) c.name_of.ensures in
    sym (position_is (λ (name : Name). not (is_there others name)) nodes u [] within c.loop-u.invariant (ap not (sym there ∙ c.if-not-is_there.true)))

pub loop-u-preserved : goal.loop-u-preserved
loop-u-preserved c = λ k lt.
    let others = names c.args.others.now in
    let nodes = names c.args.graph.now in
    let u = c.loop-u.u in
    let there : c.is_there.result ≡ is_there others (get_or nodes u []) = c.is_there.ensures ∙ ap (is_there others) c.name_of.ensures in
    elim (cases_lt k u) [
      | inl below ↦ c.loop-u.invariant k below
      | inr ge ↦
          let here : u ≡ k = omega (arith, ge, lt) in
          subst (λ (i : ℕ). not (is_there others (get_or nodes i [])) ≡ false) here (ap not (sym there ∙ c.if-not-is_there.false))
    ]

pub returns : goal.returns
returns c =
    let others = names c.args.others.now in
    let nodes = names c.args.graph.now in
    let past : length nodes ≤ c.loop-u.u = omega (arith, c.loop-u-test.false, c.number_of_nodes-u-end.ensures.len, names_long c.args.graph.now) in
    sym (position_none (λ (name : Name). not (is_there others name)) nodes c.loop-u.u [] past c.loop-u.invariant)
