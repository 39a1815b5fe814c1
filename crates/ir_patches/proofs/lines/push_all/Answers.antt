use Rattle.std.proofs.Common.{◌∙◌, ◌++◌, List, ℕ, ap, append_assoc, string_bytes, flat_map, take, get_or, arith}
use Rattle.ir_model.specs.Graph.{names}
use Rattle.ir_trace.specs.Rows.{spaced}
use Rattle.ir_patches.specs.DiffText.{put_words}
use Rattle.ir_patches.proofs.Steps.{no_lead, words_more}
use Rattle.ir_patches.proofs.lines.push_all.Goals as goal

pub loop-lead-preserved : goal.loop-lead-preserved
loop-lead-preserved c =
    let put = c.args.put.now in
    let i = c.loop-lead.lead-index in
    let words = put_words (names c.args.graph.now) in
    let old = string_bytes c.args.text.now in
    c.in_ok-push_put.ensures
    ∙ ap (λ (t : List ℕ). t ++ flat_map spaced (words (get_or put i no_lead))) c.loop-lead.invariant
    ∙ append_assoc old (flat_map spaced (flat_map words (take i put))) (flat_map spaced (words (get_or put i no_lead)))
    ∙ ap (λ (t : List ℕ). old ++ t) (words_more words put i no_lead (omega (arith, c.loop-lead-test.true)))
