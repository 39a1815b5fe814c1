-- Neighbours by number make a network.
use Rattle.std.proofs.Common.{◌≡◌, ◌≢◌, ℕ, zero, suc, ◌+◌, ◌<◌, ◌≤◌, ◌==◌, ◌&&◌, Bool, true, false, not, List, [], ◌∷◌, ◌++◌, length, map, filter, Option, Some, unwrap_or, refl, ap, sym, subst, ◌∙◌, arith, slice_get, slice_index_or, ltb, inl, inr, ◌⊎◌, ⊎_elim}
use Rattle.std.proofs.lemmas.Bool.{cases_Bool, cases_order, eq-eqb, ne_eqb, eqb-true, eqb-false, or_cases, and_parts, not-true, ltb-true, lt-ltb}
use Rattle.std.proofs.lemmas.List.Folds.{find_at}
use Rattle.std.proofs.Math.Bool.{or-true, or_comm}
use Rattle.std.specs.List.{find}
use Rattle.ir_model.specs.declared.TheConstants.{MAX_NODES, MAX_EDGES, MAX_WEIGHT}
use Rattle.ir_model.specs.declared.Link.{Link}
use Rattle.ir_model.specs.declared.Hop.{Hop}
use Rattle.ir_model.specs.Topology.{Topology, node_count, port_at, Joins, IsPort, IsTopology, port_back}
use Rattle.ir_graph.proofs.Joined.{place-append}
use Rattle.ir_tables.specs.Numbered.{Numbers, AreOrdered, links_at, links_from, joins_nodes, link_between, entry_port, ports_at, ports_from, topology_of_rows}

-- what a mapped filter gives comes from an element that passes
kept_from : {A B : Type 0} (f : A → B) (t : A → Bool) (xs : List A) (p : ℕ) (y : B) → slice_get (map f (filter t xs)) p ≡ Some y
    → (i : ℕ) × (x : A) × (slice_get xs i ≡ Some x) × (t x ≡ true) × (f x ≡ y)
kept_from f t [] p y at = absurd (cc at)
kept_from {A} {B} f t (x ∷ xs) p y at =
    ⊎_elim (λ (e : t x ≡ true). kept p e (rw e at at) (λ j at'. kept_from f t xs j y at')) (λ (e : t x ≡ false). let r = kept_from f t xs p y (rw e at at) in (suc r.0, r.1, r.2, r.3, r.4)) (cases_Bool (t x))
  where
    kept : (k : ℕ) → t x ≡ true → slice_get (f x ∷ map f (filter t xs)) k ≡ Some y
        → ((j : ℕ) → slice_get (map f (filter t xs)) j ≡ Some y → (i : ℕ) × (z : A) × (slice_get xs i ≡ Some z) × (t z ≡ true) × (f z ≡ y))
        → (i : ℕ) × (z : A) × (slice_get (x ∷ xs) i ≡ Some z) × (t z ≡ true) × (f z ≡ y)
    kept zero e at later = let same : f x ≡ y = cc at in (0, x, refl, e, same)
    kept (suc j) e at later = let r = later j at in (suc r.0, r.1, r.2, r.3, r.4)

-- what passes is given
kept_to : {A B : Type 0} (f : A → B) (t : A → Bool) (xs : List A) (i : ℕ) (x : A) → slice_get xs i ≡ Some x → t x ≡ true → (p : ℕ) × (slice_get (map f (filter t xs)) p ≡ Some (f x))
kept_to f t [] i x at e = absurd (cc at)
kept_to f t (y ∷ xs) zero x at e = let same : y ≡ x = cc at in (0, rw (same, e) refl)
kept_to f t (y ∷ xs) (suc i) x at e =
    let later = kept_to f t xs i x at e in
    ⊎_elim (λ (yes : t y ≡ true). (suc later.0, rw yes later.1)) (λ (skip : t y ≡ false). (later.0, rw skip later.1)) (cases_Bool (t y))

-- ---- rows

-- the neighbour at a place of the row of u
abbrev pub row_get : List Numbers → ℕ → ℕ → Option (ℕ × ℕ)
row_get rows u i = slice_get (slice_index_or rows u []) i

pub record IsNumbered (rows : List Numbers) : Type 0 where
  pub few : length rows ≤ MAX_NODES
  pub reach : (u i : ℕ) (e : ℕ × ℕ) → row_get rows u i ≡ Some e → e.0 < length rows
  pub positive : (u i : ℕ) (e : ℕ × ℕ) → row_get rows u i ≡ Some e → 1 ≤ e.1
  pub bounded : (u i : ℕ) (e : ℕ × ℕ) → row_get rows u i ≡ Some e → e.1 ≤ MAX_WEIGHT
  pub single : (u i j : ℕ) (e f : ℕ × ℕ) → row_get rows u i ≡ Some e → row_get rows u j ≡ Some f → e.0 ≡ f.0 → i ≡ j
  pub mirrored : (u i : ℕ) (e : ℕ × ℕ) → row_get rows u i ≡ Some e → (j : ℕ) × (row_get rows e.0 j ≡ Some (u, e.1))

-- ---- links

-- the link from u to a neighbour
abbrev pub link_to : ℕ → ℕ × ℕ → Link
link_to u e = record { low = u; high = e.0; weight = e.1 }

get_append : {A : Type 0} (xs ys : List A) (k : ℕ) (x : A) → slice_get (xs ++ ys) k ≡ Some x → (slice_get xs k ≡ Some x) ⊎ ((j : ℕ) × (slice_get ys j ≡ Some x))
get_append [] ys k x at = inr (k, at)
get_append (y ∷ xs) ys zero x at = inl at
get_append (y ∷ xs) ys (suc k) x at = get_append xs ys k x at

get_right : {A : Type 0} (xs ys : List A) (k : ℕ) (x : A) → slice_get ys k ≡ Some x → (j : ℕ) × (slice_get (xs ++ ys) j ≡ Some x)
get_right [] ys k x at = (k, at)
get_right (y ∷ xs) ys k x at = let r = get_right xs ys k x at in (suc r.0, r.1)

-- what holds of the link to each later neighbour holds of each link
pub each_link : (P : Link → Type 0) (k : ℕ) (rows : List Numbers)
    → ((u j i : ℕ) (e : ℕ × ℕ) → u ≡ k + j → row_get rows j i ≡ Some e → u < e.0 → P (link_to u e))
    → (l : ℕ) (link : Link) → slice_get (links_from k rows) l ≡ Some link → P link
each_link P k [] each l link at = absurd (cc at)
each_link P k (es ∷ rows) each l link at =
    ⊎_elim (λ here. let from = kept_from (link_to k) (λ e. ltb k e.0) es l link here in
    let lt : k < from.1.0 = ltb-true k from.1.0 from.3 in
    subst P from.4 (each k 0 from.0 from.1 (omega arith) from.2 lt))
    (λ later. each_link P (k + 1) rows (λ u j i e eq at' lt. each u (suc j) i e (omega arith) at' lt) later.0 link later.1)
    (get_append (links_at k es) (links_from (k + 1) rows) l link at)

-- the link to a later neighbour is there
has_link : (k j u i : ℕ) (e : ℕ × ℕ) (rows : List Numbers) → u ≡ k + j → row_get rows j i ≡ Some e → u < e.0 → (l : ℕ) × (slice_get (links_from k rows) l ≡ Some (link_to u e))
has_link k j u i e [] eq at lt = absurd (cc at)
has_link k zero u i e (es ∷ rows) eq at lt =
    let same : u ≡ k = omega arith in
    let kept = kept_to (link_to u) (λ x. ltb u x.0) es i e at (lt-ltb u e.0 lt) in
    let P : ℕ → Type 0 = λ z. slice_get (links_at z es) kept.0 ≡ Some (link_to u e) in
    (kept.0, place-append (links_at k es) (links_from (k + 1) rows) kept.0 (link_to u e) (subst P same kept.1))
has_link k (suc j) u i e (es ∷ rows) eq at lt =
    let later = has_link (k + 1) j u i e rows (omega arith) at lt in
    get_right (links_at k es) (links_from (k + 1) rows) later.0 (link_to u e) later.1

-- where some link passes, the first that does is found
find_some : (test : Link → Bool) (links : List Link) (l : ℕ) (link : Link) → slice_get links l ≡ Some link → test link ≡ true
    → (found : Link) × (find test links ≡ Some found) × (test found ≡ true)
find_some test [] l link at e = absurd (cc at)
find_some test (x ∷ xs) zero link at e = let same : x ≡ link = cc at in (link, rw (same, e) refl, e)
find_some test (x ∷ xs) (suc l) link at e =
    let later = find_some test xs l link at e in
    ⊎_elim (λ (yes : test x ≡ true). (x, rw yes refl, yes)) (λ (skip : test x ≡ false). (later.0, rw skip later.1, later.2)) (cases_Bool (test x))

-- the test and the relation
joins_of : (u v : ℕ) (link : Link) → joins_nodes u v link ≡ true → Joins link u v
joins_of u v link e =
    ⊎_elim (λ forth. let parts = and_parts (link.low == u) (link.high == v) forth in inl (eqb-true link.low u parts.0, eqb-true link.high v parts.1))
    (λ back. let parts = and_parts (link.low == v) (link.high == u) back in inr (eqb-true link.low v parts.0, eqb-true link.high u parts.1))
    (or_cases (link.low == u && link.high == v) (link.low == v && link.high == u) e)

joins_forth : (u v w : ℕ) → joins_nodes u v (link_to u (v, w)) ≡ true
joins_forth u v w = rw (eq-eqb u u refl, eq-eqb v v refl) refl

joins_back : (u v w : ℕ) → joins_nodes u v (link_to v (u, w)) ≡ true
joins_back u v w = rw (eq-eqb v v refl, eq-eqb u u refl) (or-true (v == u && u == v))

-- the first link between two nodes is the same from both
between_swap : (links : List Link) (u v : ℕ) → link_between links u v ≡ link_between links v u
between_swap [] u v = refl
between_swap (x ∷ xs) u v =
    let later = between_swap xs u v in
    let here : joins_nodes u v x ≡ joins_nodes v u x = or_comm (x.low == u && x.high == v) (x.low == v && x.high == u) in
    rw (here, later) refl

-- ---- ports

-- the ports of a node
pub ports_row : (links : List Link) (k j u : ℕ) (rows : List Numbers) → u ≡ k + j → slice_index_or (ports_from links k rows) j [] ≡ ports_at links u (slice_index_or rows j [])
ports_row links k j u [] eq = refl
ports_row links k zero u (es ∷ rows) eq = let same : k ≡ u = omega arith in ap (λ z. ports_at links z es) same
ports_row links k (suc j) u (es ∷ rows) eq = ports_row links (k + 1) j u rows (omega arith)

pub length-ports_from : (links : List Link) (k : ℕ) (rows : List Numbers) → length (ports_from links k rows) ≡ length rows
length-ports_from links k [] = refl
length-ports_from links k (es ∷ rows) = ap suc (length-ports_from links (k + 1) rows)

module _ (rows : List Numbers) where
  abbrev links : List Link
  links = links_from 0 rows

  abbrev net : Topology
  net = topology_of_rows rows

  -- where a port comes from
  port_from : (u p : ℕ) (hop : Hop) → port_at net u p ≡ Some hop → (i : ℕ) × (e : ℕ × ℕ) × (row_get rows u i ≡ Some e) × (e.0 ≢ u) × (entry_port links u e ≡ hop)
  port_from u p hop at =
      let P : List Hop → Type 0 = λ xs. slice_get xs p ≡ Some hop in
      let from = kept_from (entry_port links u) (λ e. not (e.0 == u)) (slice_index_or rows u []) p hop (subst P (ports_row links 0 u u rows (omega arith)) at) in
      (from.0, from.1, from.2, eqb-false from.1.0 u (not-true (from.1.0 == u) from.3), from.4)

  -- the port to a neighbour
  port_for : (u i : ℕ) (e : ℕ × ℕ) → row_get rows u i ≡ Some e → e.0 ≢ u → (p : ℕ) × (port_at net u p ≡ Some (entry_port links u e))
  port_for u i e at other =
      let kept = kept_to (entry_port links u) (λ x. not (x.0 == u)) (slice_index_or rows u []) i e at (ap not (ne_eqb e.0 u other)) in
      let P : List Hop → Type 0 = λ xs. slice_get xs kept.0 ≡ Some (entry_port links u e) in
      (kept.0, subst P (sym (ports_row links 0 u u rows (omega arith))) kept.1)

  -- a link comes from the row of its lower node
  record IsEdge (link : Link) : Type 0 where
    pub ordered : link.low < link.high
    pub place : ℕ
    pub edge : row_get rows link.low place ≡ Some (link.high, link.weight)

  link_edge : (l : ℕ) (link : Link) → slice_get links l ≡ Some link → IsEdge link
  link_edge l link at = each_link IsEdge 0 rows
      (λ u j i e eq at' lt. let same : j ≡ u = omega arith in let P : ℕ → Type 0 = λ z. row_get rows z i ≡ Some e in
      record { ordered = lt; place = i; edge = subst P same at' }) l link at

  module _ (ok : IsNumbered rows) where
    -- two entries of a row for one neighbour are one
    one_entry : (u i j : ℕ) (e f : ℕ × ℕ) → row_get rows u i ≡ Some e → row_get rows u j ≡ Some f → e.0 ≡ f.0 → e.1 ≡ f.1
    one_entry u i j e f at at' same =
        let places : i ≡ j = ok.single u i j e f at at' same in
        let P : ℕ → Type 0 = λ k. row_get rows u k ≡ Some e in
        let both : Some e ≡ Some f = sym (subst P places at) ∙ at' in
        ap (λ (o : Option (ℕ × ℕ)). (unwrap_or {T = ℕ × ℕ} o (0, 0)).1) both

    -- the link of a port
    pub port_link : (u i : ℕ) (e : ℕ × ℕ) → row_get rows u i ≡ Some e → e.0 ≢ u
        → (link : Link) × (slice_get links (link_between links u e.0) ≡ Some link) × Joins link u e.0 × (e.1 ≡ link.weight)
    port_link u i e at other =
        let some = ⊎_elim (λ same. absurd (other (sym same))) (λ order. ⊎_elim forth back order) (cases_order u e.0) in
        let found = find_some (joins_nodes u e.0) links some.0 some.1 some.2 some.3 in
        let place : slice_get links (link_between links u e.0) ≡ Some found.0 = sym (find_at (joins_nodes u e.0) links) ∙ found.1 in
        let joins : Joins found.0 u e.0 = joins_of u e.0 found.0 found.2 in
        let edge : IsEdge found.0 = link_edge (link_between links u e.0) found.0 place in
        (found.0, place, joins, ⊎_elim (λ ends. upward found.0 edge ends) (λ ends. downward found.0 edge ends) joins)
      where
        forth : u < e.0 → (l : ℕ) × (link : Link) × (slice_get links l ≡ Some link) × (joins_nodes u e.0 link ≡ true)
        forth lt = let has = has_link 0 u u i e rows (omega arith) at lt in (has.0, link_to u e, has.1, joins_forth u e.0 e.1)

        back : e.0 < u → (l : ℕ) × (link : Link) × (slice_get links l ≡ Some link) × (joins_nodes u e.0 link ≡ true)
        back lt =
            let mirror = ok.mirrored u i e at in
            let has = has_link 0 e.0 e.0 mirror.0 (u, e.1) rows (omega arith) mirror.1 lt in
            (has.0, link_to e.0 (u, e.1), has.1, joins_back u e.0 e.1)

        upward : (link : Link) → IsEdge link → (link.low ≡ u) × (link.high ≡ e.0) → e.1 ≡ link.weight
        upward link edge ends =
            let P : ℕ → Type 0 = λ z. row_get rows z edge.place ≡ Some (link.high, link.weight) in
            one_entry u i edge.place e (link.high, link.weight) at (subst P ends.0 edge.edge) (sym ends.1)

        downward : (link : Link) → IsEdge link → (link.low ≡ e.0) × (link.high ≡ u) → e.1 ≡ link.weight
        downward link edge ends =
            let mirror = ok.mirrored u i e at in
            let P : ℕ → Type 0 = λ z. row_get rows z edge.place ≡ Some (link.high, link.weight) in
            one_entry e.0 mirror.0 edge.place (u, e.1) (link.high, link.weight) mirror.1 (subst P ends.0 edge.edge) (sym ends.1)

    -- two kept entries of a row are of two neighbours
    kept_single : (f : ℕ × ℕ → Hop) (t : ℕ × ℕ → Bool) (xs : Numbers) → ((e : ℕ × ℕ) → (f e).node ≡ e.0)
        → ((i j : ℕ) (x y : ℕ × ℕ) → slice_get xs i ≡ Some x → slice_get xs j ≡ Some y → x.0 ≡ y.0 → i ≡ j)
        → (p q : ℕ) (hop other : Hop) → slice_get (map f (filter t xs)) p ≡ Some hop → slice_get (map f (filter t xs)) q ≡ Some other → hop.node ≡ other.node → p ≡ q
    kept_single f t [] named differ p q hop other at at' e = absurd (cc at)
    kept_single f t (x ∷ xs) named differ p q hop other at at' e =
        let rest : (i j : ℕ) (y z : ℕ × ℕ) → slice_get xs i ≡ Some y → slice_get xs j ≡ Some z → y.0 ≡ z.0 → i ≡ j
        = λ i j y z a b c. (let s : suc i ≡ suc j = differ (suc i) (suc j) y z a b c in omega arith) in
        ⊎_elim (λ (yes : t x ≡ true). kept (λ i j a b. kept_single f t xs named rest i j hop other a b e) p q (rw yes at at) (rw yes at at'))
        (λ (skip : t x ≡ false). kept_single f t xs named rest p q hop other (rw skip at at) (rw skip at at') e) (cases_Bool (t x))
      where
        clash : (j : ℕ) (h : Hop) → slice_get (map f (filter t xs)) j ≡ Some h → (f x).node ≡ h.node → ⊥
        clash j h b c =
            let from = kept_from f t xs j h b in
            let node : (f from.1).node ≡ h.node = ap (λ (k : Hop). k.node) from.4 in
            let bad : 0 ≡ suc from.0 = differ 0 (suc from.0) x from.1 refl from.2 (sym (named x) ∙ c ∙ sym node ∙ named from.1) in
            omega (arith, bad)

        kept : ((i j : ℕ) → slice_get (map f (filter t xs)) i ≡ Some hop → slice_get (map f (filter t xs)) j ≡ Some other → i ≡ j)
            → (i j : ℕ) → slice_get (f x ∷ map f (filter t xs)) i ≡ Some hop → slice_get (f x ∷ map f (filter t xs)) j ≡ Some other → i ≡ j
        kept later zero zero a b = refl
        kept later zero (suc j) a b = absurd (let same : f x ≡ hop = cc a in clash j other b (ap (λ (k : Hop). k.node) same ∙ e))
        kept later (suc i) zero a b = absurd (let same : f x ≡ other = cc b in clash i hop a (ap (λ (k : Hop). k.node) same ∙ sym e))
        kept later (suc i) (suc j) a b = ap suc (later i j a b)

    -- the ends of each link ascend
    pub links_ordered : AreOrdered links
    links_ordered l link at = let edge : IsEdge link = link_edge l link at in
        (edge.ordered, omega (arith, ok.few, ok.reach link.low edge.place (link.high, link.weight) edge.edge))

    rows_count : node_count net ≡ length rows
    rows_count = length-ports_from links 0 rows

    pub rows_topology : length links ≤ MAX_EDGES → IsTopology net
    rows_topology few = record {
      few_nodes = omega (arith, rows_count, ok.few);
      few_links = few;
      links = λ l link at. let edge : IsEdge link = link_edge l link at in record {
        ordered = edge.ordered;
        in_range = omega (arith, rows_count, ok.reach link.low edge.place (link.high, link.weight) edge.edge);
        positive = ok.positive link.low edge.place (link.high, link.weight) edge.edge;
        bounded = ok.bounded link.low edge.place (link.high, link.weight) edge.edge;
      };
      ports = λ u p hop at.
          let from = port_from u p hop at in
          let P : Hop → Type 0 = λ h. IsPort net u h in
          subst P from.4 (port_link u from.0 from.1 from.2 from.3);
      single = λ u p q hop other at at' e.
          let P : List Hop → Type 0 = λ xs. slice_get xs p ≡ Some hop in
          let Q : List Hop → Type 0 = λ xs. slice_get xs q ≡ Some other in
          let row = ports_row links 0 u u rows (omega arith) in
          kept_single (entry_port links u) (λ x. not (x.0 == u)) (slice_index_or rows u []) (λ e. refl) (λ i j x y a b c. ok.single u i j x y a b c) p q hop other (subst P row at) (subst Q row at') e;
      paired = λ u p hop at.
          let from = port_from u p hop at in
          let P : Hop → Type 0 = λ h. (q : ℕ) × (port_at net h.node q ≡ Some (port_back u h)) in
          let mirror = ok.mirrored u from.0 from.1 from.2 in
          let back = port_for from.1.0 mirror.0 (u, from.1.1) mirror.1 (λ e. from.3 (sym e)) in
          let Q : ℕ → Type 0 = λ l. port_at net from.1.0 back.0 ≡ Some (record { node = u; link = l; weight = from.1.1 }) in
          subst P from.4 (back.0, subst Q (between_swap links from.1.0 u) back.1);
    }

-- what stands for a link past the end of a list
abbrev pub past_link : Link
past_link = record { low = 0; high = 0; weight = 0 }
