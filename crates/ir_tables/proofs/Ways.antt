-- The walks that a list of ports prescribes.
use Rattle.std.proofs.Common.{◌≡◌, ◌≢◌, ℕ, suc, ◌+◌, ◌-◌, ◌*◌, ◌<◌, ◌≤◌, true, false, List, [], ◌∷◌, length, Option, Some, None, refl, ap, sym, subst, ◌∙◌, arith, eqb, replicate, set, length-set, get_or-set_same, get_or-set_other, ⊎_elim}
use Rattle.std.specs.Prelude.{option_map, option_and_then}
use Rattle.std.specs.List.{AllByRecursion, IsDistinct, list_any}
use Rattle.std.proofs.lemmas.List.{length-replicate, get_or-replicate}
use Rattle.std.proofs.lemmas.Bool.{cases_eq, eqb-true, ne_eqb, or_cases}
use Rattle.std.proofs.lemmas.Map.Steps.{length-le_from_distinct_below}
use Rattle.ir_model.specs.declared.TheConstants.{MAX_NODES, MAX_WEIGHT}
use Rattle.ir_model.specs.declared.Hop.{Hop}
use Rattle.ir_model.specs.Topology.{Topology, node_count, port_at, IsTopology}
use Rattle.ir_model.specs.Walk.{link_weight, LeadsTo, weight_from}
use Rattle.ir_model.specs.Table.{next_node, Continues, IsPrescribedWalk}
use Rattle.ir_model.proofs.Walks.{link_weight_at, PortFacts, port_facts, way_light}
use Rattle.ir_tables.specs.Relaxation.{at, unreached}
use Rattle.ir_tables.specs.Listed.{listed_port, hop_in, IsPortList, IsTableHop, IsWay, IsFilled}

-- ---- ways

pub next_of : (net : Topology) (table : ℕ → ℕ → Option ℕ) (x d y : ℕ) → next_node net table x d ≡ Some y → (hop : Hop) × IsTableHop net table x d hop × (hop.node ≡ y)
next_of net table x d y e = by (table x d) refl e
  where
    by_port : (p : ℕ) → table x d ≡ Some p → (o : Option Hop) → port_at net x p ≡ o → option_map (λ (hop : Hop). hop.node) o ≡ Some y → (hop : Hop) × IsTableHop net table x d hop × (hop.node ≡ y)
    by_port p held None at h = absurd (cc h)
    by_port p held (Some hop) at h = (hop, record { port = p; held = held; there = at }, cc h)

    by : (o : Option ℕ) → table x d ≡ o → option_and_then (λ p. option_map (λ (hop : Hop). hop.node) (port_at net x p)) o ≡ Some y → (hop : Hop) × IsTableHop net table x d hop × (hop.node ≡ y)
    by None held h = absurd (cc h)
    by (Some p) held h = by_port p held (port_at net x p) refl h

pub is_next : (net : Topology) (table : ℕ → ℕ → Option ℕ) (x d : ℕ) (hop : Hop) → IsTableHop net table x d hop → next_node net table x d ≡ Some hop.node
is_next net table x d hop next = rw (next.held, next.there) refl

-- what is held is next
pub next_at : (net : Topology) (table : ℕ → ℕ → Option ℕ) (x d : ℕ) (hop : Hop) → hop_in net table x d ≡ Some hop → IsTableHop net table x d hop
next_at net table x d hop e = by (table x d) refl e
  where
    by : (o : Option ℕ) → table x d ≡ o → option_and_then (λ p. port_at net x p) o ≡ Some hop → IsTableHop net table x d hop
    by None held h = absurd (cc h)
    by (Some p) held h = record { port = p; held = held; there = h }

-- the table names one hop
one_next : (net : Topology) (table : ℕ → ℕ → Option ℕ) (x d : ℕ) (hop other : Hop) → IsTableHop net table x d hop → IsTableHop net table x d other → hop ≡ other
one_next net table x d hop other a b =
    let ports : a.port ≡ b.port = cc (a.held, b.held) in
    let P : ℕ → Type 0 = λ p. port_at net x p ≡ Some hop in
    cc (subst P ports a.there, b.there)

-- the next node is a node
pub next_in : (net : Topology) → IsTopology net → (table : ℕ → ℕ → Option ℕ) (x d y : ℕ) → next_node net table x d ≡ Some y → y < node_count net
next_in net ok table x d y e =
    let next = next_of net table x d y e in
    omega (arith, (port_facts net ok x next.1.port next.0 next.1.there).to, next.2)

-- tables that agree at the nodes go on alike
pub continues_agree : (net : Topology) → IsTopology net → (table other : ℕ → ℕ → Option ℕ) (d : ℕ) → ((x : ℕ) → x < node_count net → table x d ≡ other x d)
    → (x : ℕ) → x < node_count net → (rest : List ℕ) → Continues net table d x rest → Continues net other d x rest
continues_agree net ok table other d agree x x_in [] way = way
continues_agree net ok table other d agree x x_in (y ∷ rest) way =
    let next : next_node net other x d ≡ Some y = ap (λ o. option_and_then (λ p. option_map (λ (hop : Hop). hop.node) (port_at net x p)) o) (sym (agree x x_in)) ∙ way.1 in
    (way.0, next, continues_agree net ok table other d agree y (next_in net ok table x d y way.1) rest way.2)

-- what a way from x goes on with: nothing at d, and else the next node
way_step : (net : Topology) → IsTopology net → (table : ℕ → ℕ → Option ℕ) (d x weight : ℕ) (hop : Hop) → x ≢ d → IsTableHop net table x d hop → (rest : List ℕ) → Continues net table d x rest → weight_from net x rest ≡ weight
    → (later : List ℕ) × (length rest ≡ 1 + length later) × Continues net table d hop.node later × (weight ≡ hop.weight + weight_from net hop.node later)
way_step net ok table d x weight hop other next [] way e = absurd (other way)
way_step net ok table d x weight hop other next (y ∷ rest) way e =
    let there = next_of net table x d y way.1 in
    let same : there.0 ≡ hop = one_next net table x d there.0 hop there.1 next in
    let node : hop.node ≡ y = ap (λ (h : Hop). h.node) (sym same) ∙ there.2 in
    let P : ℕ → Type 0 = λ z. Continues net table d z rest in
    let Q : ℕ → Type 0 = λ z. link_weight net x z ≡ hop.weight in
    let link : link_weight net x y ≡ hop.weight = subst Q node (link_weight_at net ok x next.port hop next.there) in
    let later : weight_from net hop.node rest ≡ weight_from net y rest = ap (λ z. weight_from net z rest) node in
    (rest, omega arith, subst P (sym node) way.2, omega (arith, e, link, later))

-- a way from the next node makes one from x
pub way_back : (net : Topology) → IsTopology net → (table : ℕ → ℕ → Option ℕ) (d x weight : ℕ) (hop : Hop) → x ≢ d → IsTableHop net table x d hop → IsWay net table d hop.node weight → IsWay net table d x (hop.weight + weight)
way_back net ok table d x weight hop other next way =
    let link : link_weight net x hop.node ≡ hop.weight = link_weight_at net ok x next.port hop next.there in
    record { rest = hop.node ∷ way.rest; continues = (other, is_next net table x d hop next, way.continues); weighs = omega (arith, link, way.weighs) }

-- the way on from the next node
pub way_on : (net : Topology) → IsTopology net → (table : ℕ → ℕ → Option ℕ) (d x weight : ℕ) (hop : Hop) → x ≢ d → IsTableHop net table x d hop → IsWay net table d x weight → (hop.weight ≤ weight) × IsWay net table d hop.node (weight - hop.weight)
way_on net ok table d x weight hop other next way =
    let step = way_step net ok table d x weight hop other next way.rest way.continues way.weighs in
    (omega (arith, step.3), record { rest = step.0; continues = step.2; weighs = omega (arith, step.3) })

-- a way that has at most so many steps
pub record IsShortWay (net : Topology) (table : ℕ → ℕ → Option ℕ) (d x steps : ℕ) : Type 0 where
  pub rest : List ℕ
  pub continues : Continues net table d x rest
  pub short : length rest ≤ steps

pub short_on : (net : Topology) → IsTopology net → (table : ℕ → ℕ → Option ℕ) (d x steps : ℕ) (hop : Hop) → x ≢ d → IsTableHop net table x d hop → IsShortWay net table d x (steps + 1) → IsShortWay net table d hop.node steps
short_on net ok table d x steps hop other next way =
    let step = way_step net ok table d x (weight_from net x way.rest) hop other next way.rest way.continues refl in
    record { rest = step.0; continues = step.2; short = omega (arith, step.1, way.short) }

-- a way of no step is at its end
pub short_end : (net : Topology) (table : ℕ → ℕ → Option ℕ) (d x : ℕ) → IsShortWay net table d x 0 → x ≡ d
short_end net table d x way = by way.rest way.continues way.short
  where
    by : (rest : List ℕ) → Continues net table d x rest → length rest ≤ 0 → x ≡ d
    by [] c short = c
    by (y ∷ rest) c short = absurd (omega (arith, short))

-- ---- a prescribed walk meets no node twice

-- from one node the rest is the same
continues_same : (net : Topology) (table : ℕ → ℕ → Option ℕ) (d u : ℕ) (rest other : List ℕ) → Continues net table d u rest → Continues net table d u other → length rest ≡ length other
continues_same net table d u [] [] a b = refl
continues_same net table d u [] (y ∷ other) a b = absurd (b.0 a)
continues_same net table d u (v ∷ rest) [] a b = absurd (a.0 b)
continues_same net table d u (v ∷ rest) (y ∷ other) a b =
    let same : v ≡ y = cc (a.1, b.1) in
    let P : ℕ → Type 0 = λ x. Continues net table d x other in
    ap suc (continues_same net table d v rest other a.2 (subst P (sym same) b.2))

-- a node that goes on with a shorter rest is another node
not_back : (net : Topology) (table : ℕ → ℕ → Option ℕ) (d u x : ℕ) (rest all : List ℕ) → Continues net table d u all → Continues net table d x rest → length rest < length all → eqb u x ≡ false
not_back net table d u x rest all whole part less =
    ne_eqb u x (λ e. let P : ℕ → Type 0 = λ z. Continues net table d z all in omega (arith, continues_same net table d x all rest (subst P e whole) part, less))

apart : (net : Topology) (table : ℕ → ℕ → Option ℕ) (d u x : ℕ) (rest all : List ℕ) → Continues net table d u all → Continues net table d x rest → length rest < length all
    → AllByRecursion (λ y. eqb u y ≡ false) (x ∷ rest)
apart net table d u x [] all whole part less = (not_back net table d u x [] all whole part less, tt)
apart net table d u x (y ∷ rest) all whole part less = (not_back net table d u x (y ∷ rest) all whole part less, apart net table d u y rest all whole part.2 (omega arith))

continues_distinct : (net : Topology) (table : ℕ → ℕ → Option ℕ) (d u : ℕ) (rest : List ℕ) → Continues net table d u rest → IsDistinct eqb (u ∷ rest)
unfolding IsDistinct
continues_distinct net table d u [] way = (tt, tt)
continues_distinct net table d u (y ∷ rest) way = (apart net table d u y rest (y ∷ rest) way way.2 (omega arith), continues_distinct net table d y rest way.2)

-- the way is one of links
continues_leads : (net : Topology) (table : ℕ → ℕ → Option ℕ) (d u : ℕ) → d < node_count net → (rest : List ℕ) → Continues net table d u rest → LeadsTo net u d rest
continues_leads net table d u d_in [] way = (way, d_in)
continues_leads net table d u d_in (y ∷ rest) way =
    let next = next_of net table u d y way.1 in
    ((next.1.port, next.0, next.1.there, next.2), continues_leads net table d y d_in rest way.2)

-- its nodes are nodes
nodes_in : (net : Topology) → IsTopology net → (table : ℕ → ℕ → Option ℕ) (d u : ℕ) → u < node_count net → (rest : List ℕ) → Continues net table d u rest → (q : ℕ) → list_any (eqb q) (u ∷ rest) ≡ true → q < node_count net
nodes_in net ok table d u u_in [] way q any =
    ⊎_elim (λ here. let e : q ≡ u = eqb-true q u here in omega arith) (λ later. absurd (cc later)) (or_cases (eqb q u) false any)
nodes_in net ok table d u u_in (y ∷ rest) way q any =
    let y_in : y < node_count net = next_in net ok table u d y way.1 in
    ⊎_elim (λ here. let e : q ≡ u = eqb-true q u here in omega arith) (λ later. nodes_in net ok table d y y_in rest way.2 q later) (or_cases (eqb q u) (list_any (eqb q) (y ∷ rest)) any)

-- so it has at most as many nodes as the network
pub continues_short : (net : Topology) → IsTopology net → (table : ℕ → ℕ → Option ℕ) (d u : ℕ) → u < node_count net → (rest : List ℕ) → Continues net table d u rest → length (u ∷ rest) ≤ node_count net
continues_short net ok table d u u_in rest way = length-le_from_distinct_below (u ∷ rest) (node_count net) (continues_distinct net table d u rest way) (nodes_in net ok table d u u_in rest way)

pub way_bound : (net : Topology) → IsTopology net → (table : ℕ → ℕ → Option ℕ) (d u weight : ℕ) → u < node_count net → d < node_count net → IsWay net table d u weight → weight ≤ MAX_WEIGHT * MAX_NODES
way_bound net ok table d u weight u_in d_in way =
    let light : weight_from net u way.rest ≤ 65535 * length way.rest = way_light net ok u d way.rest (continues_leads net table d u d_in way.rest way.continues) in
    let short : length (u ∷ way.rest) ≤ node_count net = continues_short net ok table d u u_in way.rest way.continues in
    let few : node_count net ≤ MAX_NODES = ok.few_nodes in
    omega (arith, light, short, few, way.weighs)

-- ---- a list of ports

-- away from d the list holds a port
pub listed_next : (net : Topology) (ports : List (Option ℕ)) → IsPortList net ports → (x d : ℕ) → x < node_count net → d < node_count net → x ≢ d
    → (hop : Hop) × IsTableHop net (listed_port (node_count net) ports) x d hop
listed_next net ports list x d x_in d_in other = by (list.walks x d x_in d_in).0 (list.walks x d x_in d_in).1
  where
    by_rest : (rest : List ℕ) → Continues net (listed_port (node_count net) ports) d x rest → (hop : Hop) × IsTableHop net (listed_port (node_count net) ports) x d hop
    by_rest [] way = absurd (other way)
    by_rest (y ∷ rest) way = let next = next_of net (listed_port (node_count net) ports) x d y way.1 in (next.0, next.1)

    by : (walk : List ℕ) → IsPrescribedWalk net (listed_port (node_count net) ports) x d walk → (hop : Hop) × IsTableHop net (listed_port (node_count net) ports) x d hop
    by [] is = absurd is
    by (y ∷ rest) is = by_rest rest is.1

-- the way from u, after some steps that weigh `sum`: x is there, and few steps are left
pub record IsWalked (net : Topology) (table : ℕ → ℕ → Option ℕ) (d u x sum step : ℕ) : Type 0 where
  pub in_net : x < node_count net
  pub light : sum ≤ MAX_WEIGHT * step
  pub left : ℕ
  pub left_is : left + step + 1 ≡ node_count net
  pub short : IsShortWay net table d x left
  pub comes : (weight : ℕ) → IsWay net table d x weight → IsWay net table d u (sum + weight)

pub walked_start : (net : Topology) → IsTopology net → (ports : List (Option ℕ)) → IsPortList net ports → (u d : ℕ) → u < node_count net → d < node_count net
    → IsWalked net (listed_port (node_count net) ports) d u u 0 0
walked_start net ok ports list u d u_in d_in = by (list.walks u d u_in d_in).0 (list.walks u d u_in d_in).1
  where
    by : (walk : List ℕ) → IsPrescribedWalk net (listed_port (node_count net) ports) u d walk → IsWalked net (listed_port (node_count net) ports) d u u 0 0
    by [] is = absurd is
    by (y ∷ rest) is =
        let short : length (u ∷ rest) ≤ node_count net = continues_short net ok (listed_port (node_count net) ports) d u u_in rest is.1 in
        record {
          in_net = u_in;
          light = omega arith;
          left = node_count net - 1;
          left_is = omega (arith, u_in);
          short = record { rest = rest; continues = is.1; short = omega (arith, short) };
          comes = λ weight way. let P : ℕ → Type 0 = λ w. IsWay net (listed_port (node_count net) ports) d u w in let same : weight ≡ 0 + weight = omega arith in subst P same way;
        }

pub walked_step : (net : Topology) → IsTopology net → (table : ℕ → ℕ → Option ℕ) (d u x sum step : ℕ) (hop : Hop) → IsWalked net table d u x sum step → x ≢ d → IsTableHop net table x d hop
    → IsWalked net table d u hop.node (sum + hop.weight) (step + 1)
walked_step net ok table d u x sum step hop so_far other next =
    let facts : PortFacts net x hop = port_facts net ok x next.port hop next.there in
    let some : 0 < so_far.left = ⊎_elim (λ (none : so_far.left ≡ 0). absurd (let P : ℕ → Type 0 = λ k. IsShortWay net table d x k in other (short_end net table d x (subst P none so_far.short))))
    (λ (some : so_far.left ≢ 0). (let lt : 0 < so_far.left = omega arith in lt)) (cases_eq so_far.left 0) in
    let one_less : so_far.left ≡ (so_far.left - 1) + 1 = omega arith in
    let P : ℕ → Type 0 = λ k. IsShortWay net table d x k in
    record {
      in_net = facts.to;
      light = omega (arith, facts.bounded, so_far.light);
      left = so_far.left - 1;
      left_is = omega (arith, so_far.left_is, some);
      short = short_on net ok table d x (so_far.left - 1) hop other next (subst P one_less so_far.short);
      comes = λ weight way.
          let whole = so_far.comes (hop.weight + weight) (way_back net ok table d x weight hop other next way) in
          let same : sum + (hop.weight + weight) ≡ (sum + hop.weight) + weight = omega arith in
          let Q : ℕ → Type 0 = λ w. IsWay net table d u w in
          subst Q same whole;
    }

-- the walk from u, whose first nodes have their weights written: x is next, and `left` is the weight from there
pub record IsWritten (net : Topology) (table : ℕ → ℕ → Option ℕ) (d u x left step : ℕ) (old weights : List ℕ) : Type 0 where
  pub in_net : x < node_count net
  pub filled : IsFilled net table d weights
  pub way : IsWay net table d x left
  pub first : step ≡ 0 → x ≡ u
  pub known : 0 < step → at weights u < unreached
  pub keeps : (v : ℕ) → at old v < unreached → at weights v < unreached

pub written_step : (net : Topology) → IsTopology net → (table : ℕ → ℕ → Option ℕ) (d u x left step : ℕ) (old weights : List ℕ) (hop : Hop) → d < node_count net → IsWritten net table d u x left step old weights
    → at weights x ≡ unreached → x ≢ d → IsTableHop net table x d hop
    → IsWritten net table d u hop.node (left - hop.weight) (step + 1) old (set weights x left)
written_step net ok table d u x left step old weights hop d_in so_far new other next =
    let facts : PortFacts net x hop = port_facts net ok x next.port hop next.there in
    let within : x < length weights = omega (arith, so_far.in_net, so_far.filled.len) in
    let small : left ≤ MAX_WEIGHT * MAX_NODES = way_bound net ok table d x left so_far.in_net d_in so_far.way in
    let here : at (set weights x left) x ≡ left = get_or-set_same weights x left 0 within in
    let below : at (set weights x left) x < unreached = omega (arith, here, small) in
    let still : (v : ℕ) → at weights v < unreached → at (set weights x left) v < unreached
    = λ v lt. ⊎_elim (λ (e : v ≡ x). let P : ℕ → Type 0 = λ k. at (set weights x left) k < unreached in subst P (sym e) below)
    (λ (ne : v ≢ x). let same : at (set weights x left) v ≡ at weights v = get_or-set_other weights x v left 0 ne in omega (arith, same, lt)) (cases_eq v x) in
    record {
      in_net = facts.to;
      filled = record {
        len = length-set weights x left ∙ so_far.filled.len;
        end = get_or-set_other weights x d left 0 (λ e. other (sym e)) ∙ so_far.filled.end;
        ways = λ v v_in lt. ⊎_elim
            (λ (e : v ≡ x). let P : ℕ → Type 0 = λ k. IsWay net table d k (at (set weights x left) k) in let Q : ℕ → Type 0 = λ w. IsWay net table d x w in subst P (sym e) (subst Q (sym here) so_far.way))
            (λ (ne : v ≢ x). let same : at (set weights x left) v ≡ at weights v = get_or-set_other weights x v left 0 ne in
            let Q : ℕ → Type 0 = λ w. IsWay net table d v w in subst Q (sym same) (so_far.filled.ways v v_in (omega (arith, same, lt))))
            (cases_eq v x);
      };
      way = (way_on net ok table d x left hop other next so_far.way).1;
      first = λ e. absurd (omega arith);
      known = λ _. ⊎_elim (λ (none : step ≡ 0). let P : ℕ → Type 0 = λ k. at (set weights x left) k < unreached in subst P (so_far.first none) below)
          (λ (some : step ≢ 0). still u (so_far.known (omega arith))) (cases_eq step 0);
      keeps = λ v lt. still v (so_far.keeps v lt);
    }

-- ---- weights by node

-- where d alone has a weight
pub filled_start : (net : Topology) (table : ℕ → ℕ → Option ℕ) (d : ℕ) (none : List ℕ) → d < node_count net → none ≡ replicate (node_count net) unreached → IsFilled net table d (set none d 0)
filled_start net table d none d_in is =
    let n : ℕ = node_count net in
    let len : length none ≡ n = ap length is ∙ length-replicate n unreached in
    let here : at (set none d 0) d ≡ 0 = get_or-set_same none d 0 0 (omega (arith, len, d_in)) in
    record {
      len = length-set none d 0 ∙ len;
      end = here;
      ways = λ x x_in less.
          ⊎_elim (λ (e : x ≡ d). record { rest = []; continues = e; weighs = sym (ap (at (set none d 0)) e ∙ here) })
          (λ (ne : x ≢ d). let w : at (set none d 0) x ≡ unreached = get_or-set_other none d x 0 0 ne ∙ ap (λ (ws : List ℕ). at ws x) is ∙ get_or-replicate n x unreached 0 x_in in absurd (omega (arith, w, less)))
          (cases_eq x d);
    }
