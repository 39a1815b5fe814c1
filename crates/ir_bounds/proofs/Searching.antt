-- The steps of a search that ends at reaches, and what it finds.
use Rattle.std.proofs.Common.{◌≡◌, ◌≢◌, ℕ, suc, ◌+◌, ◌*◌, ◌/◌, ◌%◌, ◌<◌, ◌≤◌, ◌⊎◌, inl, inr, List, [], ◌∷◌, length, set, replicate, Some, refl, ap, sym, subst, ◌∙◌, arith, sum, ⊎_elim, length-set, get_or-set_same, get_or-set_other}
use Rattle.std.specs.Prelude.{All, Contains, IsPermutation}
use Rattle.std.proofs.lemmas.Bool.{cases_eq, cases_lt}
use Rattle.std.proofs.lemmas.List.{get_or-replicate, get_or_past, length-replicate}
use Rattle.std.proofs.lemmas.List.Sums.{sum_by-set}
use Rattle.std.proofs.lemmas.List.Sorted.{All-permutation, Contains-permutation, length_permutation}
use Rattle.ir_model.specs.declared.Hop.{Hop}
use Rattle.ir_model.specs.Topology.{Topology, node_count, port_at, port_back, IsTopology}
use Rattle.ir_model.specs.Walk.{link_weight, LeadsTo, weight_from, walk_weight, IsDistance, IsConnected}
use Rattle.ir_model.proofs.Walks.{link_weight_at, port_facts, PortFacts}
use Rattle.ir_model.proofs.Tables.{distance_way}
use Rattle.ir_model.proofs.Ways.{symmetric}
use Rattle.ir_model.proofs.Reach.{connected_distances}
use Rattle.ir_tables.specs.Relaxation.{at, AllReached, IsReached, IsTight}
use Rattle.ir_tables.specs.Keys.{KeyEntry, NoNode, Only, key_entry, key_of, IsEntry}
use Rattle.ir_tables.proofs.Entries.{all_cons, all_tail, contains_cons, contains_head, contains_tail, set_le}
use Rattle.ir_bounds.specs.Reaches.{AreWithin, IsWithinReach}
use Rattle.ir_bounds.specs.Searches.{IsOffered, IsSearching, IsSpent}
use Rattle.ir_bounds.proofs.Numbers.{distance_small}

-- a node gets a lesser weight by way of x
reached_lower : (net : Topology) → IsTopology net → (u x p : ℕ) (hop : Hop) → port_at net x p ≡ Some hop → (weights : List ℕ) (through : ℕ) → through ≡ at weights x + hop.weight → through < at weights hop.node
    → length weights ≡ node_count net → ((v : ℕ) → at weights v ≤ 4294967295) → AllReached net u weights → AllReached net u (set weights hop.node through)
reached_lower net ok u x p hop port weights through is less every small reached v v_in below =
    ⊎_elim
    (λ (e : v ≡ hop.node). let P : ℕ → Type 0 = λ k. IsReached net u (at (set weights hop.node through)) k in subst P (sym e) here)
    (λ (ne : v ≢ hop.node). let same : at (set weights hop.node through) v ≡ at weights v = get_or-set_other weights hop.node v through 0 ne in
    let way : IsReached net u (at weights) v = reached v v_in (omega (arith, same, below)) in
    (way.0, way.1, way.2 ∙ sym same))
    (cases_eq v hop.node)
  where
    here : IsReached net u (at (set weights hop.node through)) hop.node
    here =
        let facts : PortFacts net x hop = port_facts net ok x p hop port in
        let back = ok.paired x p hop port in
        let most : at weights hop.node ≤ 4294967295 = small hop.node in
        let way : IsReached net u (at weights) x = reached x facts.from (omega (arith, is, less, most)) in
        let link : link_weight net hop.node x ≡ hop.weight = link_weight_at net ok hop.node back.0 (port_back x hop) back.1 in
        let written : at (set weights hop.node through) hop.node ≡ through = get_or-set_same weights hop.node through 0 (omega (arith, facts.to, every)) in
        (x ∷ way.0, ((back.0, port_back x hop, back.1, refl), way.1), omega (arith, link, way.2, written, is))

-- the first i ports of x are offered
pub record IsOffering (net : Topology) (u x own : ℕ) (reaches old : List ℕ) (old_count : ℕ) (weights : List ℕ) (entries : List KeyEntry) (i : ℕ) : Type 0 where
  pub but : IsSearching net u reaches (Only x) weights entries
  pub kept : at weights x ≡ own
  pub offered : (p : ℕ) (hop : Hop) → p < i → port_at net x p ≡ Some hop → IsOffered reaches weights own hop
  pub falls : sum weights + length entries ≤ sum old + old_count

-- one more port is offered
offered_more : (net : Topology) (x own i : ℕ) (hop : Hop) (reaches old weights : List ℕ) → port_at net x i ≡ Some hop → ((v : ℕ) → at weights v ≤ at old v) → IsOffered reaches weights own hop
    → ((p : ℕ) (h : Hop) → p < i → port_at net x p ≡ Some h → IsOffered reaches old own h)
    → (p : ℕ) (h : Hop) → p < i + 1 → port_at net x p ≡ Some h → IsOffered reaches weights own h
offered_more net x own i hop reaches old weights port le here before p h lt at_p =
    ⊎_elim
    (λ (less : p < i). ⊎_elim (λ (w : at old h.node ≤ own + h.weight). let l : at weights h.node ≤ at old h.node = le h.node in inl (omega (arith, w, l))) (λ (r : at reaches h.node ≤ own + h.weight). inr r) (before p h less at_p))
    (λ (ge : i ≤ p). let same : p ≡ i = omega (arith, lt, ge) in
    let P : ℕ → Type 0 = λ k. port_at net x k ≡ Some h in
    let e : hop ≡ h = cc (port, subst P same at_p) in
    let R : Hop → Type 0 = λ k. IsOffered reaches weights own k in
    subst R e here)
    (cases_lt p i)

-- a spent node stays spent, where its own weight stays and others get less
spent_stays : (net : Topology) (reaches old weights : List ℕ) (v : ℕ) → at weights v ≡ at old v → ((y : ℕ) → at weights y ≤ at old y) → IsSpent net reaches old v → IsSpent net reaches weights v
spent_stays net reaches old weights v same le spent p hop port =
    ⊎_elim (λ (w : at old hop.node ≤ at old v + hop.weight). let l : at weights hop.node ≤ at old hop.node = le hop.node in inl (omega (arith, w, l, same)))
    (λ (r : at reaches hop.node ≤ at old v + hop.weight). inr (omega (arith, r, same))) (spent p hop port)

pub offering_lower : (net : Topology) → IsTopology net → (u x own : ℕ) (reaches old : List ℕ) (old_count : ℕ) (weights : List ℕ) (entries entries' : List KeyEntry) (i through : ℕ) (hop : Hop)
    → port_at net x i ≡ Some hop → through ≡ own + hop.weight → through < at weights hop.node → IsPermutation (key_entry through hop.node ∷ entries) entries'
    → IsOffering net u x own reaches old old_count weights entries i → IsOffering net u x own reaches old old_count (set weights hop.node through) entries' (i + 1)
offering_lower net ok u x own reaches old old_count weights entries entries' i through hop port is less moved so_far =
    let facts : PortFacts net x hop = port_facts net ok x i hop port in
    let y : ℕ = hop.node in
    let before = so_far.but in
    let y_in : y < length weights = omega (arith, facts.to, before.every) in
    let exact : through ≡ at weights x + hop.weight = omega (arith, is, so_far.kept) in
    let lower : sum (set weights y through) + at weights y ≡ sum weights + through = sum_by-set (λ k. k) weights y through 0 y_in in
    let written : at (set weights y through) y ≡ through = get_or-set_same weights y through 0 y_in in
    let falls_to : (v : ℕ) → at (set weights y through) v ≤ at weights v = λ v. set_le weights y through v y_in (omega (arith, less)) in
    let head : Contains entries' (key_entry through y) = Contains-permutation (key_entry through y ∷ entries) entries' (key_entry through y) moved (contains_head KeyEntry (key_entry through y) entries) in
    let count : length entries' ≡ length (key_entry through y ∷ entries) = length_permutation (key_entry through y ∷ entries) entries' moved in
    record {
      but = record {
        every = length-set weights y through ∙ before.every;
        small = λ v. (let fall : at (set weights y through) v ≤ at weights v = falls_to v in let most : at weights v ≤ 4294967295 = before.small v in omega (arith, fall, most));
        source = ⊎_elim (λ (e : u ≡ y). let P : ℕ → Type 0 = λ k. at weights k ≡ 0 in let none : at weights y ≡ 0 = subst P e before.source in absurd (omega (arith, none, less)))
            (λ (other : u ≢ y). get_or-set_other weights y u through 0 other ∙ before.source) (cases_eq u y);
        reached = reached_lower net ok u x i hop port weights through exact less before.every before.small before.reached;
        nodes = All-permutation (IsEntry net) (key_entry through y ∷ entries) entries' moved (all_cons KeyEntry (IsEntry net) (key_entry through y) entries (through, y, facts.to, refl) before.nodes);
        pending = λ v v_in out. ⊎_elim
            (λ (e : v ≡ y). let P : ℕ → Type 0 = λ k. Contains entries' (key_entry k y) in
            let Q : ℕ → Type 0 = λ k. Contains entries' (key_entry (at (set weights y through) k) k) in
            inr (subst Q (sym e) (subst P (sym written) head)))
            (λ (ne : v ≢ y). let same : at (set weights y through) v ≡ at weights v = get_or-set_other weights y v through 0 ne in
            ⊎_elim (λ (spent : IsSpent net reaches weights v). inl (spent_stays net reaches weights (set weights y through) v same falls_to spent))
            (λ (waits : Contains entries (key_entry (at weights v) v)). let P : ℕ → Type 0 = λ k. Contains entries' (key_entry k v) in
            inr (subst P (sym same) (Contains-permutation (key_entry through y ∷ entries) entries' (key_entry (at weights v) v) moved (contains_cons KeyEntry (key_entry through y) (key_entry (at weights v) v) entries waits))))
            (before.pending v v_in out))
            (cases_eq v y);
      };
      kept = get_or-set_other weights y x through 0 (λ e. facts.other (sym e)) ∙ so_far.kept;
      offered = offered_more net x own i hop reaches weights (set weights y through) port falls_to (inl (omega (arith, written, is))) so_far.offered;
      falls = (let f = so_far.falls in omega (arith, f, lower, count, less));
    }

pub offering_keep : (net : Topology) (u x own : ℕ) (reaches old : List ℕ) (old_count : ℕ) (weights : List ℕ) (entries : List KeyEntry) (i : ℕ) (hop : Hop)
    → port_at net x i ≡ Some hop → ((own + hop.weight < at weights hop.node) × (own + hop.weight < at reaches hop.node) → ⊥)
    → IsOffering net u x own reaches old old_count weights entries i → IsOffering net u x own reaches old old_count weights entries (i + 1)
offering_keep net u x own reaches old old_count weights entries i hop port not so_far = record {
  but = so_far.but;
  kept = so_far.kept;
  offered = offered_more net x own i hop reaches weights weights port (λ v. omega arith)
      (⊎_elim (λ (less : own + hop.weight < at weights hop.node). ⊎_elim (λ (within : own + hop.weight < at reaches hop.node). absurd (not (less, within))) (λ (le : at reaches hop.node ≤ own + hop.weight). inr le) (cases_lt (own + hop.weight) (at reaches hop.node)))
      (λ (le : at weights hop.node ≤ own + hop.weight). inl le) (cases_lt (own + hop.weight) (at weights hop.node)))
      so_far.offered;
  falls = so_far.falls;
}

-- once all ports of x are offered, x is spent
pub offering_done : (net : Topology) (u x own : ℕ) (reaches old : List ℕ) (old_count : ℕ) (weights : List ℕ) (entries : List KeyEntry) (i : ℕ)
    → IsOffering net u x own reaches old old_count weights entries i → ((p : ℕ) (hop : Hop) → port_at net x p ≡ Some hop → p < i) → IsSearching net u reaches NoNode weights entries
offering_done net u x own reaches old old_count weights entries i so_far all = record {
  every = so_far.but.every;
  small = so_far.but.small;
  source = so_far.but.source;
  reached = so_far.but.reached;
  nodes = so_far.but.nodes;
  pending = λ v v_in out. ⊎_elim
      (λ (e : v ≡ x). let P : ℕ → Type 0 = λ k. IsSpent net reaches weights k in
      let Q : ℕ → Type 0 = λ k. (p : ℕ) (hop : Hop) → port_at net x p ≡ Some hop → IsOffered reaches weights k hop in
      let all_offered : Q own = λ p hop port. so_far.offered p hop (all p hop port) port in
      inl (subst P (sym e) (subst Q (sym so_far.kept) all_offered)))
      (λ (ne : v ≢ x). so_far.but.pending v v_in ne) (cases_eq v x);
}

-- what an entry holds
pub record IsPopped (net : Topology) (entry : ℕ) : Type 0 where
  pub node_in : entry % 65536 < node_count net
  pub made : entry ≡ key_of (entry / 65536) (entry % 65536)

pub popped : (net : Topology) → IsTopology net → (u : ℕ) (reaches weights : List ℕ) (old entries : List KeyEntry) (e : KeyEntry) → IsPermutation old (e ∷ entries) → IsSearching net u reaches NoNode weights old → IsPopped net e.0
popped net ok u reaches weights old entries e moved so_far =
    let few : node_count net ≤ 32768 = ok.few_nodes in
    let is = All-permutation (IsEntry net) old (e ∷ entries) moved so_far.nodes 0 e (omega arith) in
    record { node_in = omega (arith, few, is.2, is.3); made = omega arith }

-- an entry leaves, and its node alone is left out
pub popped_fresh : (net : Topology) → IsTopology net → (u : ℕ) (reaches weights : List ℕ) (old entries : List KeyEntry) (e : KeyEntry) → IsPermutation old (e ∷ entries)
    → IsSearching net u reaches NoNode weights old → IsSearching net u reaches (Only (e.0 % 65536)) weights entries
popped_fresh net ok u reaches weights old entries e moved so_far = record {
  every = so_far.every;
  small = so_far.small;
  source = so_far.source;
  reached = so_far.reached;
  nodes = all_tail KeyEntry (IsEntry net) e entries (All-permutation (IsEntry net) old (e ∷ entries) moved so_far.nodes);
  pending = λ v v_in out. ⊎_elim (λ spent. inl spent)
      (λ waits. inr (contains_tail KeyEntry e (key_entry (at weights v) v) entries (Contains-permutation old (e ∷ entries) (key_entry (at weights v) v) moved waits)
      (λ same. out (let few : node_count net ≤ 32768 = ok.few_nodes in let is : key_of (at weights v) v ≡ e.0 = ap (λ (k : KeyEntry). k.0) same in omega (arith, few, v_in, is)))))
      (so_far.pending v v_in (λ none. none));
}

-- an entry leaves, and its node has another weight by now
pub popped_stale : (net : Topology) → IsTopology net → (u : ℕ) (reaches weights : List ℕ) (old entries : List KeyEntry) (e : KeyEntry) → IsPermutation old (e ∷ entries)
    → (e.0 / 65536 ≡ at weights (e.0 % 65536) → ⊥) → IsSearching net u reaches NoNode weights old → IsSearching net u reaches NoNode weights entries
popped_stale net ok u reaches weights old entries e moved other so_far = record {
  every = so_far.every;
  small = so_far.small;
  source = so_far.source;
  reached = so_far.reached;
  nodes = all_tail KeyEntry (IsEntry net) e entries (All-permutation (IsEntry net) old (e ∷ entries) moved so_far.nodes);
  pending = λ v v_in out. ⊎_elim (λ spent. inl spent)
      (λ waits. inr (contains_tail KeyEntry e (key_entry (at weights v) v) entries (Contains-permutation old (e ∷ entries) (key_entry (at weights v) v) moved waits)
      (λ same. fresh v v_in (ap (λ (k : KeyEntry). k.0) same))))
      (so_far.pending v v_in (λ none. none));
}
  where
    fresh : (v : ℕ) → v < node_count net → key_of (at weights v) v ≡ e.0 → ⊥
    fresh v v_in is =
        let few : node_count net ≤ 32768 = ok.few_nodes in
        let node : e.0 % 65536 ≡ v = omega (arith, few, v_in, is) in
        let weight : e.0 / 65536 ≡ at weights v = omega (arith, few, v_in, is) in
        other (weight ∙ ap (at weights) (sym node))

-- so many times the weight that stands for no way
abbrev no_ways : ℕ → List ℕ
no_ways n = replicate n 4294967295

no_ways_le : (n z : ℕ) → at (no_ways n) z ≤ 4294967295
no_ways_le n z =
    ⊎_elim (λ (z_in : z < n). let v : at (no_ways n) z ≡ 4294967295 = get_or-replicate n z 4294967295 0 z_in in omega (arith, v))
    (λ (z_out : n ≤ z). let len : length (no_ways n) ≡ n = length-replicate n 4294967295 in
    let v : at (no_ways n) z ≡ 0 = get_or_past (no_ways n) z 0 (omega (arith, len, z_out)) in omega (arith, v))
    (cases_lt z n)

-- the search starts at u
pub search_start : (net : Topology) (u : ℕ) (reaches : List ℕ) → u < node_count net → (none entries : List KeyEntry) → none ≡ []
    → IsPermutation (record { 0 = u } ∷ none) entries → IsSearching net u reaches NoNode (set (no_ways (node_count net)) u 0) entries
search_start net u reaches u_in none entries empty moved =
    let n : ℕ = node_count net in
    let first : KeyEntry = record { 0 = u } in
    let Q : List KeyEntry → Type 0 = λ es. IsPermutation (first ∷ es) entries in
    let moved' : IsPermutation (first ∷ []) entries = subst Q empty moved in
    let ws : List ℕ = set (no_ways n) u 0 in
    let long : length (no_ways n) ≡ n = length-replicate n 4294967295 in
    let u_in' : u < length (no_ways n) = omega (arith, long, u_in) in
    let here : at ws u ≡ 0 = get_or-set_same (no_ways n) u 0 0 u_in' in
    let away : (v : ℕ) → v < n → v ≢ u → at ws v ≡ 4294967295 = λ v v_in ne. get_or-set_other (no_ways n) u v 0 0 ne ∙ get_or-replicate n v 4294967295 0 v_in in
    let low : (z : ℕ) → at ws z ≤ 4294967295 = λ z. (let fall = set_le (no_ways n) u 0 z u_in' (omega arith) in let most = no_ways_le n z in omega (arith, fall, most)) in
    record {
      every = length-set (no_ways n) u 0 ∙ long;
      small = low;
      source = here;
      reached = λ v v_in less. ⊎_elim (λ (e : v ≡ u). ([], (e, u_in), sym (ap (at ws) e ∙ here)))
          (λ (ne : v ≢ u). absurd (let w : at ws v ≡ 4294967295 = away v v_in ne in omega (arith, w, less))) (cases_eq v u);
      nodes = All-permutation (IsEntry net) (first ∷ []) entries moved' (all_cons KeyEntry (IsEntry net) first [] (0, u, u_in, omega arith) (λ k e lt. absurd (omega (arith, lt))));
      pending = λ v v_in out. ⊎_elim
          (λ (e : v ≡ u). let R : ℕ → Type 0 = λ k. Contains entries (key_entry (at ws k) k) in
          let S : ℕ → Type 0 = λ k. Contains entries (record { 0 = k }) in
          let is : u ≡ key_of (at ws u) u = omega (arith, here) in
          inr (subst R (sym e) (subst S is (Contains-permutation (first ∷ []) entries first moved' (contains_head KeyEntry first [])))))
          (λ (ne : v ≢ u). inl (λ p hop port. let w : at ws v ≡ 4294967295 = away v v_in ne in let most : at ws hop.node ≤ 4294967295 = low hop.node in inl (omega (arith, w, most)))) (cases_eq v u);
    }

-- no weight is greater than that of a way that is within the reach
within_way : (net : Topology) → IsTopology net → (u : ℕ) (reaches weights : List ℕ) → IsTight net (at reaches) → at weights u ≡ 0 → ((x : ℕ) → x < node_count net → IsSpent net reaches weights x)
    → (v : ℕ) (way : List ℕ) → LeadsTo net v u way → weight_from net v way < at reaches v → at weights v ≤ weight_from net v way
within_way net ok u reaches weights slow source spent v [] leads less = let same : at weights v ≡ at weights u = ap (at weights) leads.0 in omega (arith, same, source)
within_way net ok u reaches weights slow source spent v (y ∷ rest) leads less =
    let q : ℕ = leads.0.0 in
    let hop : Hop = leads.0.1 in
    let port : port_at net v q ≡ Some hop = leads.0.2 in
    let facts : PortFacts net v hop = port_facts net ok v q hop port in
    let back = ok.paired v q hop port in
    let link : link_weight net v y ≡ hop.weight = subst (λ (z : ℕ). link_weight net v z ≡ hop.weight) leads.0.3 (link_weight_at net ok v q hop port) in
    let fall : at reaches v ≤ hop.weight + at reaches hop.node = slow v q hop port in
    let near : at reaches hop.node ≡ at reaches y = ap (at reaches) leads.0.3 in
    let same : at weights hop.node ≡ at weights y = ap (at weights) leads.0.3 in
    let later : at weights y ≤ weight_from net y rest = within_way net ok u reaches weights slow source spent y rest leads.1 (omega (arith, less, link, fall, near)) in
    let here : (at weights v ≤ at weights hop.node + hop.weight) ⊎ (at reaches v ≤ at weights hop.node + hop.weight) = spent hop.node facts.to back.0 (port_back v hop) back.1 in
    ⊎_elim (λ (le : at weights v ≤ at weights hop.node + hop.weight). omega (arith, le, same, later, link))
    (λ (out : at reaches v ≤ at weights hop.node + hop.weight). absurd (omega (arith, out, same, later, link, less))) here

-- where nothing waits, the weights are the distances within the reaches
pub search_done : (net : Topology) → IsTopology net → (u : ℕ) (reaches weights : List ℕ) (entries : List KeyEntry) → u < node_count net → IsConnected net → IsTight net (at reaches) → length entries ≡ 0
    → IsSearching net u reaches NoNode weights entries → AreWithin net u reaches weights
search_done net ok u reaches weights entries u_in connected slow none so_far = record { every = so_far.every; each = each }
  where
    spent : (x : ℕ) → x < node_count net → IsSpent net reaches weights x
    spent x x_in = ⊎_elim (λ (s : IsSpent net reaches weights x). s) (λ (waits : Contains entries (key_entry (at weights x) x)). absurd (omega (arith, waits.1, none))) (so_far.pending x x_in (λ no_node. no_node))

    each : (d : ℕ) → d < node_count net → IsWithinReach net u d (at reaches d) (at weights d)
    each d d_in =
        let far = connected_distances net ok connected u d u_in d_in in
        let n : ℕ = far.0 in
        let back : IsDistance net d u n = symmetric net ok u d n far.1 in
        let way = distance_way net d u n back in
        let small : n ≤ 2147483647 = distance_small net ok u d n far.1 in
        let least : n ≤ at weights d = ⊎_elim
        (λ (found : at weights d < 4294967295). let r = so_far.reached d d_in found in
        let le : n ≤ walk_weight net (d ∷ r.0) = back.least (d ∷ r.0) (refl, r.1) in omega (arith, le, r.2))
        (λ (lost : 4294967295 ≤ at weights d). omega (arith, lost, small))
        (cases_lt (at weights d) 4294967295) in
        record {
          away = n;
          direct = far.1;
          least = least;
          within = λ near. (let le : at weights d ≤ weight_from net d way.0 = within_way net ok u reaches weights slow so_far.source spent d way.0 way.1 (omega (arith, near, way.2)) in omega (arith, le, way.2, least));
        }
