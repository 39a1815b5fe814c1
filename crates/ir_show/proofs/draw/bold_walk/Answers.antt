use Rattle.std.proofs.Common.{◌≡◌, ◌≤◌, ◌∙◌, ◌∷◌, [], ◌++◌, ℕ, List, ap, sym, subst, map, length, arith}
use Rattle.std.proofs.lemmas.List.{take_all}
use Rattle.ir_model.specs.Table.{IsPrescribedWalk}
use Rattle.ir_model.specs.Plan.{table_port}
use Rattle.ir_show.specs.Stops.{stop_nodes}
use Rattle.ir_show.specs.declared.stops.WalkStop.{WalkStop}
use Rattle.ir_show.proofs.draw.bold_walk.Goals as goal

pub returns : goal.returns
returns c =
    let s = c.args.plan.now in
    let to : ℕ = c.in-Some.to in
    let stops : List WalkStop = c.in_ok-walk.walk.stops.items in
    let items : List WalkStop = c.deref-stop-items.result.now in
    let same : items ≡ stops = c.deref-stop-items.ensures.value in
    let past : length items ≤ c.loop-stop.stop-index = omega (arith, c.loop-stop-test.false) in
    let nodes : c.push-2.new.self.items ≡ stop_nodes stops to =
    c.in_ok-push-2.ensures.items ∙ ap (λ (xs : List ℕ). xs ++ to ∷ [])
    (c.loop-stop.invariant ∙ ap (λ (xs : List WalkStop). map (λ (t : WalkStop). t.node) xs) (take_all c.loop-stop.stop-index items past ∙ same)) in
    let P : List ℕ → Type 0 = λ xs. IsPrescribedWalk s.topology (table_port s) c.in-Some.from to xs in
    rw c.in-Some.is (subst P (sym nodes) c.in_ok-walk.ensures.stops.prescribed)
