use Rattle.std.proofs.Common.{◌≡◌, ◌∙◌, ◌∷◌, [], Some, Ok, sym, ap, subst}
use Rattle.ir_model.specs.Edgelist.{spelled_weight}
use Rattle.ir_model.specs.Graph.{with_edge}
use Rattle.ir_model.specs.Text.{words_of}
use Rattle.ir_graph.specs.Faults.{edge_fault}
use Rattle.ir_adjlist.specs.Steps.{Fails, fault_of, ending_run, weight_run}
use Rattle.ir_adjlist.proofs.Calls.{go_on, none_follows, refused, spelled_is_weight, weighted_goes}
use Rattle.ir_adjlist.proofs.edges.add_weighted.Goals as goal

pub returns-in-Err-clause-fault : goal.returns-in-Err-clause-fault
returns-in-Err-clause-fault c =
    let g = c.args.graph.now in
    let u = c.args.u.now in
    let v = c.args.v.now in
    let word = c.in-Some.word.now in
    let w = c.in-Some-read_weight.weight in
    let none : words_of c.in-Some.rest.now ≡ [] = none_follows c.next_word-2.result _ _ (sym c.is_some.ensures ∙ c.if-is_some.false) c.next_word-2.ensures in
    let spelled : spelled_weight word ≡ Some w = sym c.read_weight.ensures ∙ c.in-Some-read_weight.is in
    let run : ending_run g u v (words_of c.args.words.now) ≡ go_on (edge_fault g u v w) (Ok (with_edge g u v w)) =
    ap (ending_run g u v) (c.in-Some.ensures.0 ∙ ap (λ ws. word ∷ ws) none) ∙ ap (weight_run g u v) spelled ∙ weighted_goes g u v w c.requires.u c.requires.v (spelled_is_weight word w spelled) in
    subst (λ e. Fails e (ending_run g u v (words_of c.args.words.now))) (sym c.as_fault.ensures)
    (subst (Fails (fault_of c.in-Err.error)) (sym run) (refused (edge_fault g u v w) c.in-Err.error (Ok (with_edge g u v w)) c.in-Err.ensures.refused))

pub returns-in-Ok-clause-ok : goal.returns-in-Ok-clause-ok
returns-in-Ok-clause-ok c =
    let g = c.args.graph.now in
    let u = c.args.u.now in
    let v = c.args.v.now in
    let word = c.in-Some.word.now in
    let w = c.in-Some-read_weight.weight in
    let none : words_of c.in-Some.rest.now ≡ [] = none_follows c.next_word-2.result _ _ (sym c.is_some.ensures ∙ c.if-is_some.false) c.next_word-2.ensures in
    let spelled : spelled_weight word ≡ Some w = sym c.read_weight.ensures ∙ c.in-Some-read_weight.is in
    ap (ending_run g u v) (c.in-Some.ensures.0 ∙ ap (λ ws. word ∷ ws) none) ∙ ap (weight_run g u v) spelled ∙ weighted_goes g u v w c.requires.u c.requires.v (spelled_is_weight word w spelled)
    ∙ ap (λ o. go_on o (Ok (with_edge g u v w))) c.in-Ok.ensures.ok ∙ ap (λ h. Ok h) (sym c.in-Ok.ensures.added)
