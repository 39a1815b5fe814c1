use Rattle.std.proofs.Common.{◌≡◌, ◌∙◌, ◌++◌, ◌∷◌, [], ℕ, List, true, OnOk, ap, sym, subst, decimal, string_bytes, flat_map, map, nat_lt}
use Rattle.std.specs.List.{list_all}
use Rattle.ir_model.specs.Graph.{Name, names}
use Rattle.ir_model.specs.Topology.{Topology, node_count}
use Rattle.ir_core.specs.Record.{Record}
use Rattle.ir_core.specs.Recorded.{record_of}
use Rattle.ir_trace.specs.declared.row.Version.TheVariants.{One}
use Rattle.ir_trace.specs.Rows.{spaced, row_line}
use Rattle.ir_trace.specs.Written.{name_at, row_of}
use Rattle.ir_trace.proofs.WrittenRows.{walk_within, way_words, row_pieces, ended}
use Rattle.ir_trace.proofs.writing.push_row.Goals as goal

pub push_names-requires : goal.push_names-requires
push_names-requires c =
    let net : Topology = c.args.topology.now in
    let hops : c.as_slice.result.now ≡ c.args.packet.now.hops = c.as_slice.ensures.value ∙ ap (λ (r : Record). r.hops) c.packet.view_is in
    let P : List ℕ → Type 0 = λ xs. list_all (λ x. nat_lt x (node_count net)) xs ≡ true in
    let Q : ℕ → Type 0 = λ n. list_all (λ x. nat_lt x n) c.as_slice.result.now ≡ true in
    subst Q c.requires.nodes (subst P (sym hops) (walk_within net c.requires.packet.first c.requires.packet.last c.args.packet.now.hops c.requires.packet.hops))

pub returns : goal.returns
returns c =
    let nodes : List Name = names c.args.graph.now in
    let net : Topology = c.args.topology.now in
    let old : List ℕ = string_bytes c.args.text.now in
    let r : Record = record_of c.packet.inside in
    let hops : List (List ℕ) = map (name_at nodes) r.hops in
    let P : Record → Type 0 = λ q. OnOk c.push_str.result (string_bytes c.push_str.new.self ≡ old ++ row_line One (row_of nodes net q)) in
    let way : string_bytes c.push_way.new.text ≡ ((old ++ decimal r.id) ++ spaced (decimal r.epoch)) ++ flat_map spaced (way_words nodes net r) =
    c.in_ok-push_way.ensures ∙ ap (λ q. string_bytes c.push_next_number.new.text ++ flat_map spaced (way_words nodes net q)) (sym c.packet.view_is)
    ∙ ap (λ t. t ++ flat_map spaced (way_words nodes net r)) (c.in_ok-push_next_number.ensures ∙ ap (λ t. t ++ spaced (decimal r.epoch)) c.in_ok-push_number.ensures) in
    let all : string_bytes c.push_names.new.text ≡ (((old ++ decimal r.id) ++ spaced (decimal r.epoch)) ++ flat_map spaced (way_words nodes net r)) ++ flat_map spaced hops =
    c.in_ok-push_names.ensures ∙ ap (λ hs. string_bytes c.push_way.new.text ++ flat_map spaced (map (name_at nodes) hs)) c.as_slice.ensures.value
    ∙ ap (λ t. t ++ flat_map spaced hops) way in
    subst P c.packet.view_is
    (ended c.push_str.result (string_bytes c.push_names.new.text) (string_bytes c.push_str.new.self) (10 ∷ []) (old ++ row_line One (row_of nodes net r)) c.push_str.ensures.bytes
    (ap (λ t. t ++ 10 ∷ []) all ∙ row_pieces old (decimal r.id) (decimal r.epoch) (way_words nodes net r) hops (10 ∷ [])))
