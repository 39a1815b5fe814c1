use Rattle.std.proofs.Common.{◌≡◌, ◌∙◌, ◌++◌, ℕ, List, ap, flat_map}
use Rattle.std.specs.List.{range_with_len}
use Rattle.ir_model.specs.Topology.{node_count}
use Rattle.ir_show.specs.Words.{line_text}
use Rattle.ir_patches.specs.declared.counts.Counts.{Counts}
use Rattle.ir_patches.specs.DiffText.{change_line, counts_to, diff_head}
use Rattle.ir_patches.specs.Sides.{plans_of}
use Rattle.ir_patches.proofs.text.text_of.Goals as goal

pub returns : goal.returns
returns c =
    let p = plans_of c.args.sides.now in
    let n = node_count p.new.topology in
    let nodes = flat_map (change_line p) (range_with_len 0 n) in
    let lines : c.as_str.result.now ≡ nodes = c.as_str.ensures.value ∙ (c.in_ok-counts.ensures.text ∙ ap (λ (t : List ℕ). t ++ nodes) c.new-lines.ensures.bytes) in
    let head : Counts → List ℕ = λ counts. line_text (diff_head p.old p.new counts) in
    c.in_ok-push_str.ensures.bytes
    ∙ ap (λ (t : List ℕ). t ++ c.as_str.result.now) (c.in_ok-push_head.ensures ∙ ap (λ (t : List ℕ). t ++ head c.in_ok-counts.counts) c.new-text.ensures.bytes)
    ∙ ap (λ (counts : Counts). head counts ++ c.as_str.result.now) c.in_ok-counts.ensures.counts
    ∙ ap (λ (t : List ℕ). head (counts_to p n) ++ t) lines
