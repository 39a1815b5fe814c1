use Rattle.std.proofs.Common.{◌≡◌, ◌∙◌, ◌++◌, ℕ, Ok, Err, [], ap, List, string_bytes, flat_map, sum_by}
use Rattle.std.specs.Prelude.{IfOk}
use Rattle.std.specs.declared.result.Result.{Result}
use Rattle.ir_model.specs.Graph.{names}
use Rattle.ir_model.specs.Topology.{node_count}
use Rattle.ir_exports.specs.Before.{AreWritten}
use Rattle.ir_exports.specs.NodeTexts.{bytes_of, lines_of}
use Rattle.ir_exports.proofs.NodeTexts.{texts_short, texts_written}
use Rattle.ir_exports.proofs.texts.prefixes_text_by.Goals as goal

pub push_texts-requires : goal.push_texts-requires
push_texts-requires g c =
    let s = c.args.plan.now in
    texts_short c.args.is_disjoint (names c.args.graph.now) s 0 (node_count s.topology) c.in_ok-made.made.items c.in_ok-made.ensures

-- what holds of the value in an `Ok`
of_ok : {T E : Type 0} (r : Result T E) (P R : T → Type 0) → IfOk r P → ((v : T) → P v → R v) → IfOk r R
of_ok (Ok v) P R h f = f v h
of_ok (Err e) P R h f = tt

pub returns : goal.returns
returns g c =
    let s = c.args.plan.now in
    let nodes = names c.args.graph.now in
    let n = node_count s.topology in
    let sum : c.in_ok-lines.lines ≡ sum_by lines_of c.in_ok-made.made.items = c.in_ok-lines.ensures.lines in
    let bytes : string_bytes c.push_texts.new.text ≡ [] ++ flat_map bytes_of c.in_ok-made.made.items =
    c.in_ok-lines.ensures.bytes ∙ ap (λ (t : List ℕ). t ++ flat_map bytes_of c.in_ok-made.made.items) c.new-tables.ensures.bytes in
    let written : AreWritten c.args.is_disjoint nodes s n c.in_ok-lines.lines [] c.as_str.result.now =
    texts_written c.args.is_disjoint nodes s n c.in_ok-lines.lines c.in_ok-made.made.items [] c.as_str.result.now c.in_ok-made.ensures sum (c.as_str.ensures.value ∙ bytes) in
    of_ok c.text_of_lines.result _ _ c.text_of_lines.ensures (λ text are. are c.args.is_disjoint nodes written)
