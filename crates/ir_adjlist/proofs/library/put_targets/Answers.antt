use Rattle.std.proofs.Common.{◌≡◌, ◌≤◌, ◌∙◌, ◌++◌, length, sym, ap, append-nil, arith}
use Rattle.std.proofs.lemmas.List.{length-map, take_all}
use Rattle.std.specs.Map.{keys_of}
use Rattle.ir_model.specs.Graph.{neighbors}
use Rattle.ir_adjlist.specs.Writing.{spaced_words, unwritten}
use Rattle.ir_adjlist.proofs.Writing.{spaced-one, put_more}
use Rattle.ir_adjlist.proofs.library.put_targets.Goals as goal

pub loop-place-preserved : goal.loop-place-preserved
loop-place-preserved c =
    let g = c.args.graph.now in
    let ks = keys_of (neighbors g c.args.source.now) in
    put_more c.args.text.now.items _ _ c.loop-place.text.items c.put_target_at.new.text.items c.loop-place.invariant c.in_ok-put_target_at.ensures
    ∙ ap (λ t. c.args.text.now.items ++ t) (sym (spaced-one g c.args.count ks c.loop-place.place))

pub loop-place-init : goal.loop-place-init
loop-place-init c = sym (append-nil c.args.text.now.items)

pub returns : goal.returns
returns c =
    let names = keys_of (neighbors c.args.graph.now c.args.source.now) in
    let same : length names ≡ length (neighbors c.args.graph.now c.args.source.now) = simp length-map in
    let all : length names ≤ c.loop-place.place = omega arith in
    c.loop-place.invariant ∙ ap (λ ks. c.args.text.now.items ++ spaced_words (unwritten c.args.graph.now c.args.count ks)) (take_all c.loop-place.place names all)
