use Rattle.std.proofs.Common.{◌≡◌, ◌∙◌, ◌++◌, ℕ, List, ap, flat_map}
use Rattle.std.specs.List.{range_with_len}
use Rattle.ir_model.specs.Graph.{names}
use Rattle.ir_model.specs.Topology.{node_count}
use Rattle.ir_show.specs.Words.{line_text}
use Rattle.ir_exports.specs.RangesText.{range_count, ranges_head, ranges_line}
use Rattle.ir_exports.proofs.ranges.ranges_text.Goals as goal

pub returns : goal.returns
returns c =
    let s = c.args.plan.now in
    let nodes = flat_map (ranges_line (names c.args.graph.now) s) (range_with_len 0 (node_count s.topology)) in
    let lines : c.as_str.result.now ≡ nodes = c.as_str.ensures.value ∙ (c.in_ok-count.ensures.text ∙ ap (λ (t : List ℕ). t ++ nodes) c.new-lines.ensures.bytes) in
    let head : ℕ → List ℕ = λ n. line_text (ranges_head s n) in
    c.in_ok-push_str.ensures.bytes
    ∙ ap (λ (t : List ℕ). t ++ c.as_str.result.now) (c.in_ok-push_head.ensures ∙ ap (λ (t : List ℕ). t ++ head c.in_ok-count.count) c.new-text.ensures.bytes)
    ∙ ap (λ (n : ℕ). head n ++ c.as_str.result.now) c.in_ok-count.ensures.count
    ∙ ap (λ (t : List ℕ). head (range_count s) ++ t) lines
