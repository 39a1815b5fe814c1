-- The network of a graph is that of its neighbours by number.
use Rattle.std.proofs.Common.{◌≡◌, ◌≢◌, ℕ, zero, suc, ◌+◌, ◌<◌, ◌≤◌, ◌==◌, ◌||◌, ◌&&◌, min, max, Bool, true, false, not, cond, List, [], ◌∷◌, ◌++◌, length, map, filter, Option, Some, None, option_map, refl, ap, sym, subst, ◌∙◌, arith, get_or, slice_get, slice_index_or, take, append-nil, ltb, nat_lt, leb, ⊎_elim, bytes_eq}
use Rattle.std.specs.Option.{option_map_or, IsSome}
use Rattle.std.specs.List.{position_or_len, list_all, IsDistinct}
use Rattle.std.specs.Map.{keys_of}
use Rattle.std.proofs.lemmas.Bool.{cases_Bool, cases_lt, cases_order, eq-eqb, ne_eqb, and_parts, ltb-true, lt-ltb, le-ltb, leb-true, both_ways}
use Rattle.std.proofs.lemmas.List.{length-map, map-append, take_more, take_all}
use Rattle.std.proofs.lemmas.List.Elements.{filter-append, filter_more}
use Rattle.std.proofs.lemmas.List.Sums.{passes_at_first, length-filter, count_by-le-length}
use Rattle.std.proofs.lemmas.Option.{slice_get-map, slice_get_within, slice_get-get_or, get_or_from_slice_get}
use Rattle.std.proofs.Math.Bool.{and_comm, or_comm}
use Rattle.ir_model.specs.declared.TheConstants.{MAX_EDGES, MAX_WEIGHT}
use Rattle.ir_model.specs.declared.Link.{Link}
use Rattle.ir_model.specs.declared.Hop.{Hop}
use Rattle.ir_model.specs.Graph.{Name, Neighbors, Adjacency, names, among, has_node, edges_after, edges, is_weight, is_row, IsGraph}
use Rattle.ir_model.specs.Made.{Pair, joins}
use Rattle.ir_model.specs.Topology.{Topology, IsTopology}
use Rattle.ir_model.proofs.Names.{same_names, bytes_eq-swap}
use Rattle.ir_model.specs.Places.{place_of, neighbors_at, neighbor_at}
use Rattle.ir_graph.proofs.Places.{place_of_at, at_place_of, neighbor_is_node, link_facts, link_back, neighbors_at-named}
use Rattle.ir_graph.proofs.Joined.{one_place}
use Rattle.ir_tables.specs.Numbered.{Numbers, links_at, links_from, joins_nodes, link_between, entry_port, ports_at, ports_from, topology_of_rows}
use Rattle.ir_model.specs.OfGraph.{link_edges, link_of, link_number, port_of, node_ports, topology_of_graph}
use Rattle.ir_tables.specs.ByPlace.{row_numbers, neighbor_rows}
use Rattle.ir_tables.proofs.Numbered.{row_get, IsNumbered, rows_topology, ports_row, length-ports_from}

-- ---- on numbers

after_test : (u p : ℕ) → nat_lt u p ≡ (not (nat_lt p u) && not (p == u))
after_test u p = ⊎_elim (λ same. rw (le-ltb u p (omega arith), le-ltb p u (omega arith), eq-eqb p u (sym same)) refl)
    (λ order. ⊎_elim (λ (lt : u < p). rw (lt-ltb u p lt, le-ltb p u (omega arith), ne_eqb p u (λ e. omega (arith, e, lt))) refl)
    (λ (lt : p < u). rw (le-ltb u p (omega arith), lt-ltb p u lt) refl) order) (cases_order u p)

walked_test : (u p : ℕ) → (p == u || nat_lt p u) ≡ nat_lt p (u + 1)
walked_test u p = ⊎_elim (λ same. rw (eq-eqb p u (sym same), lt-ltb p (u + 1) (omega arith)) refl)
    (λ order. ⊎_elim (λ (lt : u < p). rw (ne_eqb p u (λ e. omega (arith, e, lt)), le-ltb p u (omega arith), le-ltb p (u + 1) (omega arith)) refl)
    (λ (lt : p < u). rw (ne_eqb p u (λ e. omega (arith, e, lt)), lt-ltb p u lt, lt-ltb p (u + 1) (omega arith)) refl) order) (cases_order u p)

-- the test on places and on the link
joins_test : (u v a b : ℕ) → (a == u && b == v || b == u && a == v) ≡ (min a b == u && max a b == v || min a b == v && max a b == u)
joins_test u v a b = ⊎_elim
    (λ (lt : a < b). let low : min a b ≡ a = omega arith in let high : max a b ≡ b = omega arith in
    rw (low, high) (ap (λ t. (a == u && b == v) || t) (and_comm (b == u) (a == v))))
    (λ (ge : b ≤ a). let low : min a b ≡ b = omega arith in let high : max a b ≡ a = omega arith in
    rw (low, high) (or_comm (a == u && b == v) (b == u && a == v) ∙ ap (λ t. (b == u && a == v) || t) (and_comm (a == u) (b == v))))
    (cases_lt a b)

-- the row of a node, by number
row_at : (g rs : Adjacency) (u : ℕ) → slice_index_or (map (λ r. row_numbers g r.1) rs) u [] ≡ row_numbers g (option_map_or (λ (r : Name × Neighbors). r.1) (slice_get rs u) [])
row_at g [] u = refl
row_at g (r ∷ rs) zero = refl
row_at g (r ∷ rs) (suc u) = row_at g rs u

-- ---- names and places

module _ (g : Adjacency) (graph : IsGraph g) where
  -- a name is that of the node at u where its place is u
  same_place : (u : ℕ) (x y : Name) → slice_get (names g) u ≡ Some x → bytes_eq y x ≡ (place_of g y == u)
  same_place u x y at = ⊎_elim
      (λ (yes : bytes_eq y x ≡ true). let P : Name → Type 0 = λ z. slice_get (names g) u ≡ Some z in
      yes ∙ sym (eq-eqb (place_of g y) u (place_of_at g graph.nodes_differ u y (subst P (sym (same_names y x yes)) at))))
      (λ (apart : bytes_eq y x ≡ false). apart ∙ sym (ne_eqb (place_of g y) u (λ e.
      let within : u < length (names g) = slice_get_within (names g) u x at in
      let passes : bytes_eq y (get_or (names g) (place_of g y) []) ≡ true = passes_at_first (bytes_eq y) (names g) [] (omega (arith, e, within)) in
      let there : get_or (names g) (place_of g y) [] ≡ x = ap (λ k. get_or (names g) k []) e ∙ get_or_from_slice_get (names g) u x [] at in
      both_ways (bytes_eq y x) apart (sym (ap (bytes_eq y) there) ∙ passes))))
      (cases_Bool (bytes_eq y x))

  -- the name at the place of a row
  name_of_row : (u : ℕ) (r : Name × Neighbors) → slice_get g u ≡ Some r → slice_get (names g) u ≡ Some r.0
  name_of_row u r at = slice_get-map (λ (r : Name × Neighbors). r.0) g u ∙ ap (option_map (λ (r : Name × Neighbors). r.0)) at

  -- ---- links

  link_here : (a u b w : ℕ) → a ≡ u → u < b → ◌≡◌ {A = Link} (record { low = min a b; high = max a b; weight = w }) (record { low = u; high = b; weight = w })
  link_here a u b w e lt = let low : min a b ≡ u = omega arith in let high : max a b ≡ b = omega arith in rw (low, high) refl

  -- the links from a row
  row_links : (walked : List Name) (u : ℕ) (x : Name) → slice_get (names g) u ≡ Some x → ((y : Name) → among walked y ≡ nat_lt (place_of g y) u) → (es : Neighbors)
      → map (link_of g) (filter (λ e. not (bytes_eq e.0 e.1)) (map {B = Pair} (λ e. (x, e.0, e.1)) (filter (λ e. not (among walked e.0)) es))) ≡ links_at u (row_numbers g es)
  row_links walked u x at before [] = refl
  row_links walked u x at before (e ∷ es) =
      let later = row_links walked u x at before es in
      let here : bytes_eq x e.0 ≡ (place_of g e.0 == u) = bytes_eq-swap x e.0 ∙ same_place u x e.0 at in
      let p : ℕ = place_of g e.0 in
      let test : nat_lt u p ≡ (not (among walked e.0) && not (bytes_eq x e.0)) = after_test u p ∙ ap (λ t. not t && not (p == u)) (sym (before e.0)) ∙ ap (λ t. not (among walked e.0) && not t) (sym here) in
      ⊎_elim (λ (yes : among walked e.0 ≡ true). let skip : nat_lt u p ≡ false = test ∙ ap (λ t. not t && not (bytes_eq x e.0)) yes in rw (yes, skip) later)
      (λ (new : among walked e.0 ≡ false). ⊎_elim
      (λ (loop : bytes_eq x e.0 ≡ true). let skip : nat_lt u p ≡ false = test ∙ ap (λ t. not t && not (bytes_eq x e.0)) new ∙ ap not loop in rw (new, loop, skip) later)
      (λ (other : bytes_eq x e.0 ≡ false). let keep : nat_lt u p ≡ true = test ∙ ap (λ t. not t && not (bytes_eq x e.0)) new ∙ ap not other in
      let link = link_here (place_of g x) u p e.1 (place_of_at g graph.nodes_differ u x at) (ltb-true u p keep) in
      rw (new, other, keep) (cc (link, later)))
      (cases_Bool (bytes_eq x e.0)))
      (cases_Bool (among walked e.0))

  links_are : (walked : List Name) (u : ℕ) (rs : Adjacency) → ((y : Name) → among walked y ≡ nat_lt (place_of g y) u)
      → ((j v : ℕ) (r : Name × Neighbors) → v ≡ u + j → slice_get rs j ≡ Some r → slice_get g v ≡ Some r)
      → map (link_of g) (filter (λ e. not (bytes_eq e.0 e.1)) (edges_after walked rs)) ≡ links_from u (map (λ r. row_numbers g r.1) rs)
  links_are walked u [] before each = refl
  links_are walked u (r ∷ rs) before each =
      let at : slice_get (names g) u ≡ Some r.0 = name_of_row u r (each 0 u r (omega arith) refl) in
      let front : List Pair = map {B = Pair} (λ e. (r.0, e.0, e.1)) (filter (λ e. not (among walked e.0)) r.1) in
      let next : (y : Name) → among (r.0 ∷ walked) y ≡ nat_lt (place_of g y) (u + 1)
      = λ y. ap (λ t. t || among walked y) (same_place u r.0 y at) ∙ ap (λ t. (place_of g y == u) || t) (before y) ∙ walked_test u (place_of g y) in
      let split = filter-append (λ (e : Pair). not (bytes_eq e.0 e.1)) front (edges_after (r.0 ∷ walked) rs) in
      let here = row_links walked u r.0 at before r.1 in
      let later = links_are (r.0 ∷ walked) (u + 1) rs next (λ j v q eq at'. each (suc j) v q (omega arith) at') in
      ap (map (link_of g)) split
      ∙ map-append (link_of g) (filter (λ e. not (bytes_eq e.0 e.1)) front) (filter (λ e. not (bytes_eq e.0 e.1)) (edges_after (r.0 ∷ walked) rs))
      ∙ cc (here, later)

  abbrev graph_links : List Link
  graph_links = map (link_of g) (link_edges g)

  links_rows : graph_links ≡ links_from 0 (neighbor_rows g)
  links_rows = links_are [] 0 g (λ y. sym (le-ltb (place_of g y) 0 (omega arith))) (λ j v r eq at. let same : j ≡ v = omega arith in let P : ℕ → Type 0 = λ k. slice_get g k ≡ Some r in subst P same at)

  -- ---- ports

  -- the number of the link between the nodes at u and v
  number_is : (u v : ℕ) (x y : Name) → slice_get (names g) u ≡ Some x → slice_get (names g) v ≡ Some y → (es : List Pair)
      → position_or_len (joins x y) es ≡ position_or_len (joins_nodes u v) (map (link_of g) es)
  number_is u v x y at at' [] = refl
  number_is u v x y at at' (e ∷ es) =
      let later = number_is u v x y at at' es in
      let a : bytes_eq x e.0 ≡ (place_of g e.0 == u) = bytes_eq-swap x e.0 ∙ same_place u x e.0 at in
      let b : bytes_eq y e.1 ≡ (place_of g e.1 == v) = bytes_eq-swap y e.1 ∙ same_place v y e.1 at' in
      let c : bytes_eq x e.1 ≡ (place_of g e.1 == u) = bytes_eq-swap x e.1 ∙ same_place u x e.1 at in
      let d : bytes_eq y e.0 ≡ (place_of g e.0 == v) = bytes_eq-swap y e.0 ∙ same_place v y e.0 at' in
      let names_test : joins x y e ≡ (place_of g e.0 == u && place_of g e.1 == v || place_of g e.1 == u && place_of g e.0 == v) = cc (a, b, c, d) in
      let here : joins x y e ≡ joins_nodes u v (link_of g e) = names_test ∙ joins_test u v (place_of g e.0) (place_of g e.1) in
      rw (here, later) refl

  -- the ports of a row
  row_ports : (u : ℕ) (x : Name) → slice_get (names g) u ≡ Some x → (es : Neighbors) → ((i : ℕ) (e : Name × ℕ) → slice_get es i ≡ Some e → has_node g e.0 ≡ true)
      → node_ports g x es ≡ ports_at graph_links u (row_numbers g es)
  row_ports u x at [] nodes = refl
  row_ports u x at (e ∷ es) nodes =
      let later = row_ports u x at es (λ i f at'. nodes (suc i) f at') in
      let here : bytes_eq x e.0 ≡ (place_of g e.0 == u) = bytes_eq-swap x e.0 ∙ same_place u x e.0 at in
      let there : slice_get (names g) (place_of g e.0) ≡ Some e.0 = at_place_of g e.0 (nodes 0 e refl) in
      let number : link_number g x e.0 ≡ link_between graph_links u (place_of g e.0) = number_is u (place_of g e.0) x e.0 at there (link_edges g) in
      let port : port_of g x e ≡ entry_port graph_links u (place_of g e.0, e.1) = cc number in
      ⊎_elim (λ (loop : bytes_eq x e.0 ≡ true). let loop' : (place_of g e.0 == u) ≡ true = sym here ∙ loop in rw (loop, loop') later)
      (λ (other : bytes_eq x e.0 ≡ false). let other' : (place_of g e.0 == u) ≡ false = sym here ∙ other in rw (other, other') (cc (port, later)))
      (cases_Bool (bytes_eq x e.0))

  -- what is in a row, by place
  in_row : (u : ℕ) (r : Name × Neighbors) → slice_get g u ≡ Some r → neighbors_at g u ≡ r.1
  in_row u r at = ap (λ (o : Option (Name × Neighbors)). option_map_or (λ (r : Name × Neighbors). r.1) o []) at

  ports_are : (u : ℕ) (rs : Adjacency) → ((j v : ℕ) (r : Name × Neighbors) → v ≡ u + j → slice_get rs j ≡ Some r → slice_get g v ≡ Some r)
      → map (λ r. node_ports g r.0 r.1) rs ≡ ports_from graph_links u (map (λ r. row_numbers g r.1) rs)
  ports_are u [] each = refl
  ports_are u (r ∷ rs) each =
      let there : slice_get g u ≡ Some r = each 0 u r (omega arith) refl in
      let P : Neighbors → Name × ℕ → ℕ → Type 0 = λ es e i. slice_get es i ≡ Some e in
      let nodes : (i : ℕ) (e : Name × ℕ) → slice_get r.1 i ≡ Some e → has_node g e.0 ≡ true
      = λ i e at. neighbor_is_node g graph.nodes_differ graph.both_ways u i e (ap (λ (es : Neighbors). slice_get es i) (in_row u r there) ∙ at) in
      let here = row_ports u r.0 (name_of_row u r there) r.1 nodes in
      let later = ports_are (u + 1) rs (λ j v q eq at. each (suc j) v q (omega arith) at) in
      cc (here, later)

  -- the network of a graph, by numbers
  pub graph_rows : topology_of_graph g ≡ topology_of_rows (neighbor_rows g)
  graph_rows =
      let ports = ports_are 0 g (λ j v r eq at. let same : j ≡ v = omega arith in let P : ℕ → Type 0 = λ k. slice_get g k ≡ Some r in subst P same at) in
      let moved : ports_from graph_links 0 (neighbor_rows g) ≡ ports_from (links_from 0 (neighbor_rows g)) 0 (neighbor_rows g) = ap (λ ls. ports_from ls 0 (neighbor_rows g)) links_rows in
      cc (links_rows, ports ∙ moved)

  -- ---- the numbers make a network

  get_link : (u i : ℕ) → row_get (neighbor_rows g) u i ≡ neighbor_at g u i
  get_link u i = ap (λ (xs : Numbers). slice_get xs i) (row_at g g u) ∙ slice_get-map {B = ℕ × ℕ} (λ (e : Name × ℕ). (place_of g e.0, e.1)) (neighbors_at g u) i

  -- an entry of a row, by name
  record IsEntryOf (u i : ℕ) (e : ℕ × ℕ) : Type 0 where
    pub row : Name × Neighbors
    pub row_is : slice_get g u ≡ Some row
    pub entry : Name × ℕ
    pub entry_is : slice_get row.1 i ≡ Some entry
    pub place : place_of g entry.0 ≡ e.0
    pub weight : entry.1 ≡ e.1

  entry_of : (u i : ℕ) (e : ℕ × ℕ) → row_get (neighbor_rows g) u i ≡ Some e → IsEntryOf u i e
  entry_of u i e at = by (slice_get g u) refl (sym (get_link u i) ∙ at)
    where
      by_entry : (r : Name × Neighbors) → slice_get g u ≡ Some r → (o : Option (Name × ℕ)) → slice_get r.1 i ≡ o → option_map {U = ℕ × ℕ} (λ (e : Name × ℕ). (place_of g e.0, e.1)) o ≡ Some e → IsEntryOf u i e
      by_entry r row None f h = absurd (cc h)
      by_entry r row (Some x) f h = record { row = r; row_is = row; entry = x; entry_is = f; place = cc h; weight = cc h }

      by : (o : Option (Name × Neighbors)) → slice_get g u ≡ o → option_map {U = ℕ × ℕ} (λ (e : Name × ℕ). (place_of g e.0, e.1)) (slice_get (option_map_or (λ (r : Name × Neighbors). r.1) o []) i) ≡ Some e → IsEntryOf u i e
      by None f h = absurd (cc h)
      by (Some r) f h = by_entry r f (slice_get r.1 i) refl h

  all_at : {A : Type 0} (t : A → Bool) (xs : List A) (i : ℕ) (x : A) → list_all t xs ≡ true → slice_get xs i ≡ Some x → t x ≡ true
  all_at t [] i x all at = absurd (cc at)
  all_at t (y ∷ xs) zero x all at = let same : y ≡ x = cc at in ap t (sym same) ∙ (and_parts (t y) (list_all t xs) all).0
  all_at t (y ∷ xs) (suc i) x all at = all_at t xs i x (and_parts (t y) (list_all t xs) all).1 at

  entry_weight : (u i : ℕ) (e : ℕ × ℕ) → row_get (neighbor_rows g) u i ≡ Some e → is_weight e.1 ≡ true
  entry_weight u i e at =
      let of : IsEntryOf u i e = entry_of u i e at in
      let row : is_row of.row ≡ true = all_at is_row g u of.row graph.rows of.row_is in
      ap is_weight (sym of.weight) ∙ all_at (λ (x : Name × ℕ). is_weight x.1) of.row.1 i of.entry (and_parts _ (list_all (λ (x : Name × ℕ). is_weight x.1) of.row.1) row).1 of.entry_is

  pub graph_numbered : IsNumbered (neighbor_rows g)
  graph_numbered = record {
    few = omega (arith, length-map g (λ (r : Name × Neighbors). row_numbers g r.1), graph.node_limit);
    reach = λ u i e at.
        let facts = link_facts g graph u i e.0 e.1 (sym (get_link u i) ∙ at) in
        omega (arith, slice_get_within (names g) e.0 facts.to facts.to_at, length-map g (λ (r : Name × Neighbors). r.0), length-map g (λ (r : Name × Neighbors). row_numbers g r.1));
    positive = λ u i e at. leb-true 1 e.1 (and_parts (leb 1 e.1) (leb e.1 MAX_WEIGHT) (entry_weight u i e at)).0;
    bounded = λ u i e at. leb-true e.1 MAX_WEIGHT (and_parts (leb 1 e.1) (leb e.1 MAX_WEIGHT) (entry_weight u i e at)).1;
    single = λ u i j e f at at' same. one_row u i j e f (entry_of u i e at) (entry_of u j f at') same;
    mirrored = λ u i e at. let back = link_back g graph u i e.0 e.1 (sym (get_link u i) ∙ at) in (back.0, get_link e.0 back.0 ∙ back.1);
  }
    where
      one_row : (u i j : ℕ) (e f : ℕ × ℕ) → IsEntryOf u i e → IsEntryOf u j f → e.0 ≡ f.0 → i ≡ j
      one_row u i j e f a b same =
          let rows : a.row ≡ b.row = cc (a.row_is, b.row_is) in
          let at_i : slice_get (neighbors_at g u) i ≡ Some a.entry = ap (λ (es : Neighbors). slice_get es i) (in_row u a.row a.row_is) ∙ a.entry_is in
          let at_j : slice_get (neighbors_at g u) j ≡ Some b.entry = ap (λ (es : Neighbors). slice_get es j) (in_row u b.row b.row_is) ∙ b.entry_is in
          let there : slice_get (names g) (place_of g a.entry.0) ≡ Some a.entry.0 = at_place_of g a.entry.0 (neighbor_is_node g graph.nodes_differ graph.both_ways u i a.entry at_i) in
          let there' : slice_get (names g) (place_of g b.entry.0) ≡ Some b.entry.0 = at_place_of g b.entry.0 (neighbor_is_node g graph.nodes_differ graph.both_ways u j b.entry at_j) in
          let places : place_of g a.entry.0 ≡ place_of g b.entry.0 = a.place ∙ same ∙ sym b.place in
          let one_name : a.entry.0 ≡ b.entry.0 = (let k = ap (λ (n : ℕ). slice_get (names g) n) places in cc (there, there', k)) in
          let key_i : slice_get (keys_of (neighbors_at g u)) i ≡ Some a.entry.0 = slice_get-map (λ (e : Name × ℕ). e.0) (neighbors_at g u) i ∙ ap (option_map (λ (e : Name × ℕ). e.0)) at_i in
          let key_j : slice_get (keys_of (neighbors_at g u)) j ≡ Some b.entry.0 = slice_get-map (λ (e : Name × ℕ). e.0) (neighbors_at g u) j ∙ ap (option_map (λ (e : Name × ℕ). e.0)) at_j in
          let P : Neighbors → Type 0 = λ es. IsDistinct bytes_eq (keys_of es) in
          let differ : IsDistinct bytes_eq (keys_of (neighbors_at g u)) = subst P (sym (neighbors_at-named g graph.nodes_differ u a.row.0 (name_of_row u a.row a.row_is))) (graph.neighbors_differ a.row.0) in
          one_place (keys_of (neighbors_at g u)) i j b.entry.0 differ (key_i ∙ ap (λ (n : Name). Some n) one_name) key_j

  pub graph_few : length (links_from 0 (neighbor_rows g)) ≤ MAX_EDGES
  graph_few =
      omega (arith, ap length links_rows, length-map (link_edges g) (link_of g), length-filter (λ (e : Pair). not (bytes_eq e.0 e.1)) (edges g), count_by-le-length (λ (e : Pair). not (bytes_eq e.0 e.1)) (edges g), graph.edge_limit)

  pub graph_topology : IsTopology (topology_of_graph g)
  graph_topology =
      let P : Topology → Type 0 = λ net. IsTopology net in
      subst P (sym graph_rows) (rows_topology (neighbor_rows g) graph_numbered graph_few)

-- ---- steps of the loops

-- the next neighbour of a row, by number
pub next_entry : (g : Adjacency) (u i : ℕ) (e : ℕ × ℕ) → neighbor_at g u i ≡ Some e → slice_get (row_numbers g (neighbors_at g u)) i ≡ Some e
next_entry g u i e at = slice_get-map {B = ℕ × ℕ} (λ (e : Name × ℕ). (place_of g e.0, e.1)) (neighbors_at g u) i ∙ at

-- each place of a row has a neighbour
pub next_there : (g : Adjacency) (u i : ℕ) → i < length (neighbors_at g u) → IsSome (neighbor_at g u i)
next_there g u i lt =
    subst (λ (o : Option (Name × ℕ)). IsSome (option_map {U = ℕ × ℕ} (λ x. (place_of g x.0, x.1)) o)) (sym (slice_get-get_or (neighbors_at g u) i ([], 0) lt)) refl

-- so many places are the whole row
pub row_whole : (g : Adjacency) (u i : ℕ) → length (neighbors_at g u) ≤ i → take i (row_numbers g (neighbors_at g u)) ≡ row_numbers g (neighbors_at g u)
row_whole g u i most =
    let long = length-map {B = ℕ × ℕ} (neighbors_at g u) (λ (e : Name × ℕ). (place_of g e.0, e.1)) in
    take_all i (row_numbers g (neighbors_at g u)) (omega (arith, long, most))

kept_more : {B : Type 0} (f : ℕ × ℕ → B) (t : ℕ × ℕ → Bool) (row : Numbers) (i : ℕ) (e : ℕ × ℕ) → slice_get row i ≡ Some e
    → map f (filter t (take (i + 1) row)) ≡ map f (filter t (take i row)) ++ map f (cond (t e) (e ∷ []) [])
kept_more f t row i e at =
    let same : get_or row i e ≡ e = get_or_from_slice_get row i e e at in
    let more = filter_more t row i e (slice_get_within row i e at) in
    ap (map f) (more ∙ ap (λ x. filter t (take i row) ++ cond (t x) (x ∷ []) []) same) ∙ map-append f (filter t (take i row)) (cond (t e) (e ∷ []) [])

pub links_more : (u : ℕ) (row : Numbers) (i : ℕ) (e : ℕ × ℕ) → slice_get row i ≡ Some e → u < e.0
    → links_at u (take (i + 1) row) ≡ links_at u (take i row) ++ record { low = u; high = e.0; weight = e.1 } ∷ []
links_more u row i e at lt = let keep : ltb u e.0 ≡ true = lt-ltb u e.0 lt in rw keep at (kept_more {B = Link} (λ e. record { low = u; high = e.0; weight = e.1 }) (λ e. ltb u e.0) row i e at)

pub links_same : (u : ℕ) (row : Numbers) (i : ℕ) (e : ℕ × ℕ) → slice_get row i ≡ Some e → e.0 ≤ u → links_at u (take (i + 1) row) ≡ links_at u (take i row)
links_same u row i e at ge = let skip : ltb u e.0 ≡ false = le-ltb u e.0 ge in (rw skip at (kept_more {B = Link} (λ e. record { low = u; high = e.0; weight = e.1 }) (λ e. ltb u e.0) row i e at)) ∙ append-nil (links_at u (take i row))

pub ports_more : (links : List Link) (u : ℕ) (row : Numbers) (i : ℕ) (e : ℕ × ℕ) → slice_get row i ≡ Some e → e.0 ≢ u
    → ports_at links u (take (i + 1) row) ≡ ports_at links u (take i row) ++ entry_port links u e ∷ []
ports_more links u row i e at other = let keep : (e.0 == u) ≡ false = ne_eqb e.0 u other in rw keep at (kept_more (entry_port links u) (λ e. not (e.0 == u)) row i e at)

pub ports_same : (links : List Link) (u : ℕ) (row : Numbers) (i : ℕ) (e : ℕ × ℕ) → slice_get row i ≡ Some e → e.0 ≡ u → ports_at links u (take (i + 1) row) ≡ ports_at links u (take i row)
ports_same links u row i e at same = let skip : (e.0 == u) ≡ true = eq-eqb e.0 u same in (rw skip at (kept_more (entry_port links u) (λ e. not (e.0 == u)) row i e at)) ∙ append-nil (ports_at links u (take i row))

-- the row of a node
pub row_of_node : (g : Adjacency) (u : ℕ) → get_or (neighbor_rows g) u [] ≡ row_numbers g (neighbors_at g u)
row_of_node g u = row_at g g u

pub length_rows : (g : Adjacency) → length (neighbor_rows g) ≡ length g
length_rows g = length-map g (λ (r : Name × Neighbors). row_numbers g r.1)

-- the ports of one more node
pub ports_step : (g : Adjacency) (links : List Link) (u : ℕ) → u < length g
    → take (u + 1) (ports_from links 0 (neighbor_rows g)) ≡ take u (ports_from links 0 (neighbor_rows g)) ++ ports_at links u (row_numbers g (neighbors_at g u)) ∷ []
ports_step g links u lt =
    let len : length (ports_from links 0 (neighbor_rows g)) ≡ length g = length-ports_from links 0 (neighbor_rows g) ∙ length-map g (λ (r : Name × Neighbors). row_numbers g r.1) in
    let row : slice_index_or (ports_from links 0 (neighbor_rows g)) u [] ≡ ports_at links u (row_numbers g (neighbors_at g u)) = ports_row links 0 u u (neighbor_rows g) (omega arith) ∙ ap (ports_at links u) (row_at g g u) in
    take_more (ports_from links 0 (neighbor_rows g)) u [] (omega arith) ∙ ap (λ (x : List Hop). take u (ports_from links 0 (neighbor_rows g)) ++ x ∷ []) row

-- all of them
pub ports_whole : (g : Adjacency) (links : List Link) (u : ℕ) → length g ≤ u → take u (ports_from links 0 (neighbor_rows g)) ≡ ports_from links 0 (neighbor_rows g)
ports_whole g links u ge =
    let len : length (ports_from links 0 (neighbor_rows g)) ≡ length g = length-ports_from links 0 (neighbor_rows g) ∙ length-map g (λ (r : Name × Neighbors). row_numbers g r.1) in
    take_all u (ports_from links 0 (neighbor_rows g)) (omega arith)

pub graph_made : (g : Adjacency) → IsGraph g → (links : List Link) (ports : List (List Hop)) → links ≡ links_from 0 (neighbor_rows g) → ports ≡ ports_from links 0 (neighbor_rows g)
    → ◌≡◌ {A = Topology} (record { links = links; ports = ports }) (topology_of_graph g)
graph_made g graph links ports same_links same_ports =
    let moved : ports ≡ ports_from (links_from 0 (neighbor_rows g)) 0 (neighbor_rows g) = same_ports ∙ ap (λ ls. ports_from ls 0 (neighbor_rows g)) same_links in
    rw (moved, same_links) (sym (graph_rows g graph))
