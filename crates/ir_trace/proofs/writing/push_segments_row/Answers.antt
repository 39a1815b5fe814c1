use Rattle.std.proofs.Common.{◌≡◌, ◌∙◌, ◌++◌, ◌∷◌, [], ℕ, List, true, OnOk, ap, sym, subst, decimal, string_bytes, flat_map, map, nat_lt, length, sum_by}
use Rattle.std.specs.List.{list_all}
use Rattle.ir_model.specs.Graph.{Name, names}
use Rattle.ir_model.specs.Topology.{Topology, node_count}
use Rattle.ir_model.specs.Walk.{walk_weight}
use Rattle.ir_core.specs.Record.{Record}
use Rattle.ir_core.specs.Recorded.{record_of}
use Rattle.ir_trace.specs.declared.row.Version.TheVariants.{Two}
use Rattle.ir_trace.specs.Row.{Segment}
use Rattle.ir_trace.specs.Rows.{spaced, fate_words, part_words, RowText, row_line}
use Rattle.ir_trace.specs.Written.{parts_of, named, segments_row}
use Rattle.ir_trace.specs.Stretches.{parts_from, AreAscending}
use Rattle.ir_trace.proofs.WrittenRows.{walk_within, way_words, segments_pieces, ended}
use Rattle.ir_trace.proofs.Stretched.{ascending, parts_are, parts_weigh}
use Rattle.ir_trace.proofs.writing.push_segments_row.Goals as goal

pub push_way-requires-clause-packet : goal.push_way-requires-clause-packet
push_way-requires-clause-packet c = c.requires.packet.writable

pub push_segments-requires-clause-hops : goal.push_segments-requires-clause-hops
push_segments-requires-clause-hops c =
    let net : Topology = c.args.topology.now in
    let has = rw (← c.packet.view_is) at c.requires.packet in
    let P : List ℕ → Type 0 = λ xs. list_all (λ x. nat_lt x (node_count net)) xs ≡ true in
    let Q : ℕ → Type 0 = λ n. list_all (λ x. nat_lt x n) c.as_slice-nodes.result.now ≡ true in
    subst Q c.requires.nodes (subst P (sym c.as_slice-nodes.ensures.value) (walk_within net has.writable.first has.writable.last c.packet.inside.hops.items has.writable.hops))

pub push_segments-requires-clause-places : goal.push_segments-requires-clause-places
push_segments-requires-clause-places c =
    let has = rw (← c.packet.view_is) at c.requires.packet in
    let r : Record = record_of c.packet.inside in
    let up : AreAscending 0 (length r.hops) r.restamps = ascending (length r.hops) r.restamps has.places in
    rw (c.as_slice-nodes.ensures.value, c.as_slice.ensures.value) up

pub returns : goal.returns
returns c =
    let nodes : List Name = names c.args.graph.now in
    let net : Topology = c.args.topology.now in
    let old : List ℕ = string_bytes c.args.text.now in
    let r : Record = record_of c.packet.inside in
    let has = rw (← c.packet.view_is) at c.requires.packet in
    let row : RowText = segments_row nodes net r in
    let parts : parts_of r ≡ parts_from r.epoch 0 r.hops r.restamps = parts_are r has.places in
    let weight : row.weight ≡ walk_weight net r.hops = ap (sum_by (λ (part : Segment). walk_weight net part.hops)) parts ∙ parts_weigh net r.epoch 0 r.hops r.restamps (ascending (length r.hops) r.restamps has.places) in
    let way : List (List ℕ) = row.source ∷ row.dest ∷ decimal row.weight ∷ fate_words row.fate in
    let words : List (List ℕ) = flat_map part_words (map (named nodes) (parts_of r)) in
    let P : Record → Type 0 = λ q. OnOk c.push_str.result (string_bytes c.push_str.new.self ≡ old ++ row_line Two (segments_row nodes net q)) in
    let head : string_bytes c.push_way.new.text ≡ (old ++ decimal r.id) ++ flat_map spaced way =
    c.in_ok-push_way.ensures ∙ ap (λ q. string_bytes c.push_number.new.text ++ flat_map spaced (way_words nodes net q)) (sym c.packet.view_is)
    ∙ ap (λ w. string_bytes c.push_number.new.text ++ flat_map spaced (row.source ∷ row.dest ∷ decimal w ∷ fate_words row.fate)) (sym weight)
    ∙ ap (λ t. t ++ flat_map spaced way) c.in_ok-push_number.ensures in
    let all : string_bytes c.push_segments.new.text ≡ ((old ++ decimal r.id) ++ flat_map spaced way) ++ flat_map spaced words =
    c.in_ok-push_segments.ensures
    ∙ rw (c.as_slice-nodes.ensures.value, c.as_slice.ensures.value) (ap (λ (ps : List Segment). string_bytes c.push_way.new.text ++ flat_map spaced (flat_map part_words (map (named nodes) ps))) (sym parts))
    ∙ ap (λ t. t ++ flat_map spaced words) head in
    subst P c.packet.view_is
    (ended c.push_str.result (string_bytes c.push_segments.new.text) (string_bytes c.push_str.new.self) (10 ∷ []) (old ++ row_line Two row) c.push_str.ensures.bytes
    (ap (λ t. t ++ 10 ∷ []) all ∙ segments_pieces old (decimal r.id) way words (10 ∷ [])))
