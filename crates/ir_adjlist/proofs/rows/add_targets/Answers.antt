use Rattle.std.proofs.Common.{◌≡◌, ◌∙◌, ◌∷◌, sym, ap, subst}
use Rattle.std.specs.List.{list_all}
use Rattle.ir_model.specs.Graph.{is_name, with_edge}
use Rattle.ir_model.specs.Text.{words_of}
use Rattle.ir_graph.specs.Faults.{edge_fault}
use Rattle.ir_adjlist.specs.Steps.{Fails, fault_of, targets_run}
use Rattle.ir_adjlist.proofs.Calls.{all_named, go_on, refused, targets_go}
use Rattle.ir_adjlist.proofs.rows.add_targets.Goals as goal

pub name_of-requires : goal.name_of-requires
name_of-requires c = (all_named c.in-Some.target.now (words_of c.in-Some.after.now) (ap (list_all is_name) (sym c.in-Some.ensures.0) ∙ c.loop-target.invariant.named)).0

pub returns-in-Err-clause-fault : goal.returns-in-Err-clause-fault
returns-in-Err-clause-fault c =
    let g = c.loop-target.graph in
    let x = c.args.source.now in
    let y = c.name_of.result.now in
    let rest = words_of c.in-Some.after.now in
    let split = c.in-Some.ensures.0 ∙ ap (λ n. n ∷ rest) (sym c.name_of.ensures) in
    let named = all_named y rest (ap (list_all is_name) (sym split) ∙ c.loop-target.invariant.named) in
    let run : targets_run c.args.graph.now x (words_of c.args.words.now) ≡ go_on (edge_fault g x y 1) (targets_run (with_edge g x y 1) x rest) =
    c.loop-target.invariant.same ∙ ap (targets_run g x) split ∙ targets_go g x y rest c.requires.source named.0 in
    subst (λ e. Fails e (targets_run c.args.graph.now x (words_of c.args.words.now))) (sym c.as_fault.ensures)
    (subst (Fails (fault_of c.in-Err.error)) (sym run) (refused (edge_fault g x y 1) c.in-Err.error (targets_run (with_edge g x y 1) x rest) c.in-Err.ensures.refused))

pub loop-target-preserved : goal.loop-target-preserved
loop-target-preserved c =
    let g = c.loop-target.graph in
    let x = c.args.source.now in
    let y = c.name_of.result.now in
    let rest = words_of c.in-Some.after.now in
    let split = c.in-Some.ensures.0 ∙ ap (λ n. n ∷ rest) (sym c.name_of.ensures) in
    let named = all_named y rest (ap (list_all is_name) (sym split) ∙ c.loop-target.invariant.named) in
    record {
      named = named.1;
      same = c.loop-target.invariant.same ∙ ap (targets_run g x) split ∙ targets_go g x y rest c.requires.source named.0
          ∙ ap (λ o. go_on o (targets_run (with_edge g x y 1) x rest)) c.in_default-add_edge.ensures.ok ∙ ap (λ h. targets_run h x rest) (sym c.in_default-add_edge.ensures.added);
    }
