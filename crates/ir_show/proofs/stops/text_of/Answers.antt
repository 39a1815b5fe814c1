use Rattle.std.proofs.Common.{◌≡◌, ◌++◌, ◌∙◌, ℕ, List, take, get_or, flat_map, ap, sym, arith}
use Rattle.std.proofs.lemmas.List.{flat_map_more, take_more}
use Rattle.ir_model.specs.Graph.{names}
use Rattle.ir_show.specs.Words.{line_text}
use Rattle.ir_show.specs.Stops.{head_line, stop_line}
use Rattle.ir_show.specs.declared.stops.WalkStop.{WalkStop}
use Rattle.ir_show.proofs.stops.text_of.Goals as goal

pub loop-stop-preserved : goal.loop-stop-preserved
loop-stop-preserved c =
    let line : WalkStop → List ℕ = λ s. line_text (stop_line (names c.args.graph.now) s) in
    let head : List ℕ = line_text (head_line (names c.args.graph.now) c.args.walk.now) in
    let stops : List WalkStop = c.as_slice-stops.result.now in
    let i : ℕ = c.loop-stop.stop-index in
    let none : WalkStop = record { node = 0; label = 0; start = 0; end = 0; hop = record { node = 0; link = 0; weight = 0 } } in
    let stop : WalkStop = get_or stops i none in
    c.in_ok-push_stop.ensures
    ∙ ap (λ (t : List ℕ). t ++ line stop) c.loop-stop.invariant
    ∙ flat_map_more line head (take i stops) stop
    ∙ ap (λ (xs : List WalkStop). head ++ flat_map line xs) (sym (take_more stops i none (omega (arith, c.loop-stop-test.true))))
