-- Walks of a plan, by steps.
use Rattle.std.proofs.Common.{◌≡◌, ◌≢◌, ℕ, ◌+◌, ◌*◌, ◌<◌, ◌≤◌, true, false, List, [], ◌∷◌, ◌++◌, length, Option, Some, None, refl, sym, ap, subst, ◌∙◌, arith, append_assoc, nat_lt, get_or, slice_index, drop, find, unwrap_or}
use Rattle.std.specs.List.{list_all}
use Rattle.std.proofs.lemmas.List.{append-nil, drop_more, drop_all, get_or-map}
use Rattle.std.proofs.lemmas.List.Folds.{list_all-append}
use Rattle.std.proofs.lemmas.Bool.Decides.{nat_tests}
use Rattle.ir_model.specs.declared.Hop.{Hop}
use Rattle.ir_model.specs.Topology.{node_count}
use Rattle.ir_model.specs.Walk.{link_weight, walk_weight, weight_from}
use Rattle.ir_model.specs.Table.{next_node, Continues, IsPrescribedWalk}
use Rattle.ir_model.specs.Plan.{Plan, IsPlan, table_port, next_hop, label_in, node_in, row_in, by_label}
use Rattle.ir_model.proofs.Walks.{link_weight_at, port_facts}
use Rattle.ir_model.specs.Interval.{PortInterval, HasLabel}
use Rattle.ir_model.specs.Compiled.{port_to}
use Rattle.ir_model.specs.Row.{Start, next_label, intervals_of}
use Rattle.ir_model.proofs.Rows.{label_at, length-intervals_of, get_or-intervals_until}
use Rattle.ir_plan.specs.Shown.{has_label}
use Rattle.ir_plan.proofs.RowPorts.{found, some_found}
use Rattle.ir_plan.proofs.Standing.{row_fits}
use Rattle.ir_show.specs.WalkText.{no_interval, interval_with, IsIntervalTo}
use Rattle.ir_tables.specs.Listed.{IsTableHop}
use Rattle.ir_tables.proofs.Ways.{next_of, next_at, is_next}

-- the plan names the next hop towards another node
pub plan_next : (s : Plan) → IsPlan s → (u d : ℕ) → u < node_count s.topology → d < node_count s.topology → u ≢ d → (hop : Hop) × IsTableHop s.topology (table_port s) u d hop
plan_next s is u d u_in d_in other =
    let walk = is.walks u d u_in d_in in
    by walk.0 walk.1
  where
    by : (walk : List ℕ) → IsPrescribedWalk s.topology (table_port s) u d walk → (hop : Hop) × IsTableHop s.topology (table_port s) u d hop
    by [] p = absurd p
    by (x ∷ []) p = absurd (other p.1)
    by (x ∷ y ∷ rest) p = let next = next_of s.topology (table_port s) u d y p.1.1 in (next.0, next.1)

-- The walk so far of a plan from one node to another, and what it goes on with.
pub record IsWalkSoFar (s : Plan) (from to at weight steps : ℕ) (walk : List ℕ) : Type 0 where
  pub rest : List ℕ
  pub continues : Continues s.topology (table_port s) to at rest
  pub left : length rest + steps < node_count s.topology
  pub in_net : at < node_count s.topology
  pub light : weight ≤ 65535 * steps
  pub nodes : list_all (λ x. nat_lt x (node_count s.topology)) walk ≡ true
  pub joins : (tail : List ℕ) → Continues s.topology (table_port s) to at tail
      → IsPrescribedWalk s.topology (table_port s) from to (walk ++ tail) × (walk_weight s.topology (walk ++ tail) ≡ weight + weight_from s.topology at tail)

pub walk_begins : (s : Plan) → IsPlan s → (from to : ℕ) → from < node_count s.topology → to < node_count s.topology → IsWalkSoFar s from to from 0 0 (from ∷ [])
walk_begins s is from to from_in to_in =
    let walk = is.walks from to from_in to_in in
    by walk.0 walk.1 walk.2
  where
    by : (walk : List ℕ) → IsPrescribedWalk s.topology (table_port s) from to walk → length walk ≤ node_count s.topology → IsWalkSoFar s from to from 0 0 (from ∷ [])
    by [] p short = absurd p
    by (x ∷ rest) p short = record {
      rest = rest;
      continues = p.1;
      left = omega (arith, short);
      in_net = from_in;
      light = omega arith;
      nodes = grind (arith, nat_tests, from_in);
      joins = λ tail c. ((refl, c), omega arith);
    }

pub walk_goes_on : (s : Plan) → IsPlan s → (from to at weight steps : ℕ) (walk : List ℕ) (hop : Hop) → IsWalkSoFar s from to at weight steps walk → at ≢ to → next_hop s at to ≡ Some hop
    → IsWalkSoFar s from to hop.node (weight + hop.weight) (steps + 1) (walk ++ hop.node ∷ [])
walk_goes_on s is from to at weight steps walk hop far other towards =
    let net = s.topology in
    let table = table_port s in
    let next : IsTableHop net table at to hop = next_at net table at to hop towards in
    let facts = port_facts net is.topology at next.port hop next.there in
    let named : next_node net table at to ≡ Some hop.node = is_next net table at to hop next in
    let link : link_weight net at hop.node ≡ hop.weight = link_weight_at net is.topology at next.port hop next.there in
    let later = by hop.node named far.rest far.continues in
    let below : list_all (λ x. nat_lt x (node_count net)) (hop.node ∷ []) ≡ true = grind (arith, nat_tests, facts.to) in
    record {
      rest = later.0;
      continues = later.2;
      left = omega (arith, later.1, far.left);
      in_net = facts.to;
      light = omega (arith, facts.bounded, far.light);
      nodes = list_all-append (λ x. nat_lt x (node_count net)) walk (hop.node ∷ []) ∙ rw (far.nodes, below) refl;
      joins = λ tail c.
          let whole = far.joins (hop.node ∷ tail) (other, named, c) in
          let same : walk ++ (hop.node ∷ tail) ≡ (walk ++ hop.node ∷ []) ++ tail = sym (append_assoc walk (hop.node ∷ []) tail) in
          let P : List ℕ → Type 0 = λ w. IsPrescribedWalk net table from to w in
          let weighs : walk_weight net ((walk ++ hop.node ∷ []) ++ tail) ≡ walk_weight net (walk ++ (hop.node ∷ tail)) = ap (walk_weight net) (sym same) in
          (subst P same whole.0, omega (arith, weighs, whole.1, link));
    }
  where
    by : (y : ℕ) → next_node s.topology (table_port s) at to ≡ Some y → (rest : List ℕ) → Continues s.topology (table_port s) to at rest
        → (later : List ℕ) × (length rest ≡ 1 + length later) × Continues s.topology (table_port s) to y later
    by y named [] c = absurd (other c)
    by y named (z ∷ rest) c =
        let node : z ≡ y = cc (c.1, named) in
        let P : ℕ → Type 0 = λ x. Continues s.topology (table_port s) to x rest in
        (rest, omega arith, subst P node c.2)

-- at the end the walk is whole
pub walk_whole : (s : Plan) (from to at weight steps : ℕ) (walk : List ℕ) → IsWalkSoFar s from to at weight steps walk → at ≡ to
    → IsPrescribedWalk s.topology (table_port s) from to walk × (walk_weight s.topology walk ≡ weight)
walk_whole s from to at weight steps walk far end =
    let whole = far.joins [] end in
    let P : List ℕ → Type 0 = λ w. IsPrescribedWalk s.topology (table_port s) from to w in
    let same : walk ++ [] ≡ walk = append-nil walk in
    let weighs : walk_weight s.topology walk ≡ walk_weight s.topology (walk ++ []) = ap (walk_weight s.topology) (sym same) in
    (subst P same whole.0, omega (arith, weighs, whole.1))

-- the port to the node with an address is the one to the node
pub port_to_node : (s : Plan) → IsPlan s → (u d address : ℕ) (port : Option ℕ) → d < node_count s.topology → address ≡ label_in s d → port ≡ table_port s u (node_in s address) → port ≡ table_port s u d
port_to_node s is u d address port d_in label at = at ∙ ap (table_port s u) (ap (node_in s) label ∙ is.labels.there d d_in)

-- ---- the interval of a row that has a label

-- the interval at a place begins with its start
pub begins_at : (row : List Start) (i start : ℕ) → i < length row → start ≡ label_at row i → start ≡ (get_or (intervals_of row) i no_interval).start
begins_at row i start i_in from = from ∙ ap (λ (x : PortInterval). x.start) (sym (get_or-intervals_until (next_label row 0) row i no_interval i_in))

abbrev pub IsFoundFrom : List Start → ℕ → ℕ → Type 0
IsFoundFrom row d i = find (has_label d) (intervals_of row) ≡ find (has_label d) (drop i (intervals_of row))

-- the interval at a place is the first that has the label
pub found_here : (row : List Start) (d i : ℕ) → i < length row → IsFoundFrom row d i → has_label d (get_or (intervals_of row) i no_interval) ≡ true → interval_with row d ≡ get_or (intervals_of row) i no_interval
found_here row d i i_in from has =
    let ms = intervals_of row in
    let x = get_or ms i no_interval in
    let within : i < length ms = omega (arith, length-intervals_of row, i_in) in
    let one : find (has_label d) (x ∷ drop (i + 1) ms) ≡ Some x = rw has refl in
    ap (λ o. unwrap_or o no_interval) (from ∙ ap (find (has_label d)) (drop_more ms i no_interval within) ∙ one)

-- or it is further on
pub found_later : (row : List Start) (d i : ℕ) → i < length row → IsFoundFrom row d i → has_label d (get_or (intervals_of row) i no_interval) ≡ false → IsFoundFrom row d (i + 1)
found_later row d i i_in from has =
    let ms = intervals_of row in
    let x = get_or ms i no_interval in
    let within : i < length ms = omega (arith, length-intervals_of row, i_in) in
    let on : find (has_label d) (x ∷ drop (i + 1) ms) ≡ find (has_label d) (drop (i + 1) ms) = rw has refl in
    from ∙ ap (find (has_label d)) (drop_more ms i no_interval within) ∙ on

-- or there is none
pub found_none : (row : List Start) (d i : ℕ) → length row ≤ i → IsFoundFrom row d i → interval_with row d ≡ no_interval
found_none row d i past from =
    let ms = intervals_of row in
    ap (λ o. unwrap_or o no_interval) (from ∙ ap (find (has_label d)) (drop_all i ms (omega (arith, length-intervals_of row, past))))

-- where it is not the node's own, the label lies in an interval
pub interval_to : (s : Plan) → IsPlan s → (u b : ℕ) → u < node_count s.topology → b < node_count s.topology → u ≢ b → IsIntervalTo s u b (interval_with (row_in s u) (label_in s b))
interval_to s is u b u_in b_in other =
    let n = node_count s.topology in
    let d = label_in s b in
    let ms = intervals_of (row_in s u) in
    let d_in : d < n = is.labels.label b b_in in
    let apart : d ≢ label_in s u = λ e. other (sym (sym (is.labels.there b b_in) ∙ ap (slice_index s.order) e ∙ is.labels.there u u_in)) in
    let fits = row_fits s is u u_in in
    let covered = fits.covered d d_in apart in
    let w = some_found n d d_in ms covered.0 covered.1 covered.2 covered.3 covered.4 in
    let f = found n d d_in ms w.0 w.1 in
    let here : interval_with (row_in s u) d ≡ w.0 = ap (λ (o : Option PortInterval). unwrap_or o no_interval) w.1 in
    let P : PortInterval → Type 0 = λ m. HasLabel n m d → port_to (by_label s u) d ≡ Some m.port in
    let agrees : P w.0 = subst P f.1.2 (fits.agrees d d_in apart f.1.0 w.0 f.1.1) in
    let at : port_to (by_label s u) d ≡ table_port s u b = get_or-map (table_port s u) s.order d 0 None (omega (arith, d_in, is.labels.every_label)) ∙ ap (table_port s u) (is.labels.there b b_in) in
    let Q : PortInterval → Type 0 = λ m. IsIntervalTo s u b m in
    subst Q (sym here) (record { member = f.1; has = f.0; port = sym at ∙ agrees f.0 })
