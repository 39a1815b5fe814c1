use Rattle.std.proofs.Common.{◌≡◌, ◌∙◌, ◌++◌, ℕ, List, true, OnOk, ap, sym, subst, decimal, string_bytes, flat_map, nat_lt}
use Rattle.std.specs.List.{list_all}
use Rattle.std.proofs.lemmas.Result.{IfOk-weaker}
use Rattle.ir_model.specs.Graph.{Name, names}
use Rattle.ir_model.specs.Topology.{Topology, node_count}
use Rattle.ir_model.specs.Walk.{walk_weight}
use Rattle.ir_core.specs.Record.{Record}
use Rattle.ir_core.specs.Recorded.{record_of}
use Rattle.ir_trace.specs.Rows.{spaced, fate_words}
use Rattle.ir_trace.specs.Written.{name_at, fate_text}
use Rattle.ir_trace.proofs.WrittenRows.{walk_within, way_words, way_pieces}
use Rattle.ir_trace.proofs.writing.push_way.Goals as goal

pub walk_weight-requires-clause-within : goal.walk_weight-requires-clause-within
walk_weight-requires-clause-within c =
    let net : Topology = c.args.topology.now in
    let hops : c.as_slice-hops.result.now ≡ c.args.packet.now.hops = c.as_slice-hops.ensures.value ∙ ap (λ (r : Record). r.hops) c.packet.view_is in
    let P : List ℕ → Type 0 = λ xs. list_all (λ x. nat_lt x (node_count net)) xs ≡ true in
    subst P (sym hops) (walk_within net c.requires.packet.first c.requires.packet.last c.args.packet.now.hops c.requires.packet.hops)

pub returns : goal.returns
returns c =
    let nodes : List Name = names c.args.graph.now in
    let net : Topology = c.args.topology.now in
    let old : List ℕ = string_bytes c.args.text.now in
    let r : Record = record_of c.packet.inside in
    let fate : List (List ℕ) = fate_words (fate_text nodes net r.fate) in
    let weight : List ℕ = decimal (walk_weight net r.hops) in
    let P : Record → Type 0 = λ q. OnOk c.push_fate.result (string_bytes c.push_fate.new.text ≡ old ++ flat_map spaced (way_words nodes net q)) in
    let before : string_bytes c.push_next_number.new.text ≡ ((old ++ spaced (name_at nodes r.source)) ++ spaced (name_at nodes r.dest)) ++ spaced weight =
    c.in_ok-push_next_number.ensures ∙ ap (λ w. string_bytes c.push_name-2.new.text ++ spaced (decimal w)) (c.walk_weight.ensures.weight ∙ ap (walk_weight net) c.as_slice-hops.ensures.value)
    ∙ ap (λ t. t ++ spaced weight) (c.in_ok-push_name-2.ensures ∙ ap (λ t. t ++ spaced (name_at nodes r.dest)) c.in_ok-push_name.ensures) in
    subst P c.packet.view_is
    (IfOk-weaker c.push_fate.result (λ _. string_bytes c.push_fate.new.text ≡ string_bytes c.push_next_number.new.text ++ flat_map spaced fate)
    (λ _. string_bytes c.push_fate.new.text ≡ old ++ flat_map spaced (way_words nodes net r))
    (λ _ e. e ∙ ap (λ t. t ++ flat_map spaced fate) before ∙ way_pieces old (name_at nodes r.source) (name_at nodes r.dest) weight fate) c.push_fate.ensures)
