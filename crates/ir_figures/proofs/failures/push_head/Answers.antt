use Rattle.std.proofs.Common.{refl, ◌∙◌, ◌++◌, List, ℕ, [], ◌∷◌, decimal, length, ap, string_bytes}
use Rattle.ir_model.specs.Topology.{Topology, node_count}
use Rattle.ir_trace.specs.Rows.{spaced}
use Rattle.ir_show.specs.PlanText.{kind_text}
use Rattle.ir_figures.proofs.FailureLines.{head_told, on_written, own_numbers}
use Rattle.ir_figures.proofs.failures.push_head.Goals as goal

pub push_words-requires : goal.push_words-requires
push_words-requires c = own_numbers c.args.other.now c.args.plan.now.topology (node_count c.args.plan.now.topology) c.requires refl

pub returns : goal.returns
returns c =
    let s = c.args.plan.now in
    let told = c.in_ok-push_words.ensures in
    let old = string_bytes c.args.text.now in
    let a = string_bytes c.push_str.new.self in
    let b = string_bytes c.push_word.new.text in
    let k = string_bytes c.push_word-2.new.text in
    let d = string_bytes c.push_next_number.new.text in
    let e = string_bytes c.push_next_number-2.new.text in
    let f = string_bytes c.push_words.new.text in
    let g = string_bytes c.push_str-2.new.self in
    on_written c.push_str-2.result f g (10 ∷ []) c.push_str-2.ensures.bytes
    (λ end. (
      told.0,
      told.1,
      head_told old a b k d e f g c.args.what.now (kind_text s.kind) (decimal (node_count s.topology)) (decimal (length s.topology.links)) told.0
          c.in_ok-push_str.ensures.bytes
          c.in_ok-push_word.ensures
          (c.in_ok-push_word-2.ensures ∙ ap (λ (t : List ℕ). b ++ spaced t) (c.kind_text.ensures ∙ ap kind_text c.kind.ensures))
          (c.in_ok-push_next_number.ensures ∙ ap (λ (n : ℕ). k ++ spaced (decimal n)) c.nodes.ensures.count)
          (c.in_ok-push_next_number-2.ensures ∙ ap (λ (n : ℕ). d ++ spaced (decimal n)) (c.links.ensures.count ∙ ap (λ (net : Topology). length net.links) c.topology.ensures))
          told.2 end,
    ))
