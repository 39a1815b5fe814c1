-- The names of a graph's nodes and links.
use Rattle.std.proofs.Common.{◌≡◌, ◌<◌, ◌+◌, ℕ, zero, suc, true, not, cond, ◌&&◌, ◌==◌, List, [], ◌∷◌, length, Some, None, is_some, slice_get, nat_lt, nat_le, bytes_eq, refl, sym, ap, ◌∙◌, arith}
use Rattle.std.specs.List.{list_all, position_or_len}
use Rattle.std.proofs.lemmas.Bool.{and_parts, and_from, lt-ltb}
use Rattle.std.proofs.lemmas.List.{length-map}
use Rattle.std.proofs.lemmas.Option.{slice_get-map, slice_get_within, get_or_from_slice_get}
use Rattle.ir_model.specs.declared.Link.{Link}
use Rattle.ir_model.specs.Graph.{Name, Adjacency, names, is_row, is_name, is_name_byte, has_edge, IsGraph}
use Rattle.ir_model.specs.Topology.{Topology, node_count, IsLink}
use Rattle.ir_model.specs.OfGraph.{topology_of_graph}
use Rattle.ir_model.specs.Places as places
use Rattle.ir_graph.proofs.Places.{name_there, place_of_at, link_facts}
use Rattle.ir_tables.specs.Numbered.{Numbers}
use Rattle.ir_tables.specs.ByPlace.{neighbor_rows}
use Rattle.ir_tables.proofs.Numbered.{row_get, each_link}
use Rattle.ir_tables.proofs.OfGraph.{graph_rows, graph_topology, row_of_node}
use Rattle.ir_trace.specs.Rows.{is_word, is_mark}
use Rattle.ir_trace.specs.Reading.{node_named, AreLinkedAs}
use Rattle.ir_trace.specs.Written.{name_at}
use Rattle.ir_trace.proofs.ReadLines.{is_word_byte}

-- ---- names

name_word : (x : Name) → is_name x ≡ true → is_word x ≡ true
name_word x h =
    let long = and_parts (nat_le 1 (length x) && nat_le (length x) 64) (list_all is_name_byte x) h in
    and_from (nat_le 1 (length x)) (list_all is_word_byte x) (and_parts (nat_le 1 (length x)) (nat_le (length x) 64) long.0).0 (bytes x long.1)
  where
    bytes : (bs : List ℕ) → list_all is_name_byte bs ≡ true → list_all is_word_byte bs ≡ true
    bytes [] h = refl
    bytes (b ∷ bs) h =
        let both = and_parts (is_name_byte b) (list_all is_name_byte bs) h in
        and_from (is_word_byte b) (list_all is_word_byte bs) (and_parts (is_word_byte b) (not (b == 35)) both.0).0 (bytes bs both.1)

-- no name begins with `#`
name_plain : (x : Name) → is_name x ≡ true → not (is_mark x) ≡ true
name_plain [] h = absurd (cc h)
name_plain (b ∷ bs) h =
    let all = (and_parts (nat_le 1 (length (b ∷ bs)) && nat_le (length (b ∷ bs)) 64) (list_all is_name_byte (b ∷ bs)) h).1 in
    (and_parts (is_word_byte b) (not (b == 35)) (and_parts (is_name_byte b) (list_all is_name_byte bs) all).0).1

row_name : (g : Adjacency) (u : ℕ) (x : Name) → list_all is_row g ≡ true → slice_get (names g) u ≡ Some x → is_name x ≡ true
row_name [] u x h at = absurd (cc at)
row_name (r ∷ g) zero x h at = let same : r.0 ≡ x = cc at in ap is_name (sym same) ∙ (and_parts (is_name r.0) _ (and_parts (is_row r) (list_all is_row g) h).0).0
row_name (r ∷ g) (suc u) x h at = row_name g u x (and_parts (is_row r) (list_all is_row g) h).1 at

module _ (g : Adjacency) (graph : IsGraph g) where
  pub count : node_count (topology_of_graph g) ≡ length g
  count = simp length-map

  pub name_is : (u : ℕ) → u < length g → slice_get (names g) u ≡ Some (name_at (names g) u)
  name_is u h = let there = name_there g u h in there.1 ∙ ap (λ x. Some x) (sym (get_or_from_slice_get (names g) u there.0 [] there.1))

  pub named : (u : ℕ) → u < length g → node_named (names g) (name_at (names g) u) ≡ Some u
  named u h =
      let x = name_at (names g) u in
      let at : slice_get (names g) u ≡ Some x = name_is u h in
      let place : position_or_len (bytes_eq x) (names g) ≡ u = place_of_at g graph.nodes_differ u x at in
      ap (λ n. cond (nat_lt n (length (names g))) (Some n) None) place ∙ ap (λ b. cond b (Some u) None) (lt-ltb u (length (names g)) (slice_get_within (names g) u x at))

  pub word_at : (u : ℕ) → u < length g → is_word (name_at (names g) u) ≡ true
  word_at u h = name_word (name_at (names g) u) (row_name g u (name_at (names g) u) graph.rows (name_is u h))

  pub plain_at : (u : ℕ) → u < length g → not (is_mark (name_at (names g) u)) ≡ true
  plain_at u h = name_plain (name_at (names g) u) (row_name g u (name_at (names g) u) graph.rows (name_is u h))

  -- the ends of a link are linked by name
  entry_linked : (v u i : ℕ) (e : ℕ × ℕ) → v ≡ 0 + u → row_get (neighbor_rows g) u i ≡ Some e → v < e.0 → has_edge g (name_at (names g) v) (name_at (names g) e.0) ≡ true
  entry_linked v u i e eq at later =
      let entry : places.neighbor_at g u i ≡ Some e =
      sym (slice_get-map {B = ℕ × ℕ} (λ (e : Name × ℕ). (places.place_of g e.0, e.1)) (places.neighbors_at g u) i) ∙ sym (ap (λ (xs : Numbers). slice_get xs i) (row_of_node g u)) ∙ at in
      let facts = link_facts g graph u i e.0 e.1 entry in
      let from : name_at (names g) u ≡ facts.from = get_or_from_slice_get (names g) u facts.from [] facts.from_at in
      let to : name_at (names g) e.0 ≡ facts.to = get_or_from_slice_get (names g) e.0 facts.to [] facts.to_at in
      let same : v ≡ u = omega arith in
      ap (λ n. has_edge g (name_at (names g) n) (name_at (names g) e.0)) same ∙ ap (λ x. has_edge g x (name_at (names g) e.0)) from ∙ ap (has_edge g facts.from) to ∙ ap is_some facts.weight

  link_edge : (l : ℕ) (link : Link) → slice_get (topology_of_graph g).links l ≡ Some link → has_edge g (name_at (names g) link.low) (name_at (names g) link.high) ≡ true
  link_edge l link at =
      each_link (λ (k : Link). has_edge g (name_at (names g) k.low) (name_at (names g) k.high) ≡ true) 0 (neighbor_rows g) entry_linked l link (ap (λ (net : Topology). slice_get net.links l) (sym (graph_rows g graph)) ∙ at)

  -- the ends of a link, by name
  pub record LinkNames (link : Link) : Type 0 where
    pub ordered : link.low < link.high
    pub within : link.high < length g
    pub forth : AreLinkedAs g (name_at (names g) link.low) (name_at (names g) link.high) link.low link.high
    pub back : AreLinkedAs g (name_at (names g) link.high) (name_at (names g) link.low) link.high link.low

  pub link_names : (l : ℕ) (link : Link) → slice_get (topology_of_graph g).links l ≡ Some link → LinkNames link
  link_names l link at =
      let is : IsLink (node_count (topology_of_graph g)) link = (graph_topology g graph).links l link at in
      let high : link.high < length g = omega (arith, is.in_range, count) in
      let ordered : link.low < link.high = is.ordered in
      let low : link.low < length g = omega arith in
      let x = name_at (names g) link.low in
      let y = name_at (names g) link.high in
      let edge : has_edge g x y ≡ true = link_edge l link at in
      record {
        ordered = ordered;
        within = high;
        forth = (named link.low low, named link.high high, λ e. omega (arith, e, ordered), edge);
        back = (named link.high high, named link.low low, λ e. omega (arith, e, ordered), ap is_some (graph.both_ways y x) ∙ edge);
      }
