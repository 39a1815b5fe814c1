-- The steps of the search for the least keys.
use Rattle.std.proofs.Common.{◌≡◌, ◌≢◌, ℕ, ◌+◌, ◌*◌, ◌/◌, ◌%◌, ◌<◌, ◌≤◌, inl, inr, List, [], ◌∷◌, length, set, replicate, Some, refl, ap, sym, subst, ◌∙◌, arith, sum, ⊎_elim, length-set, get_or-set_same, get_or-set_other}
use Rattle.std.specs.Prelude.{Contains, IsPermutation}
use Rattle.std.proofs.lemmas.Bool.{cases_eq, cases_lt}
use Rattle.std.proofs.lemmas.List.{get_or-replicate, get_or_past, length-replicate}
use Rattle.std.proofs.lemmas.List.Sums.{sum_by-set}
use Rattle.std.proofs.lemmas.List.Sorted.{All-permutation, Contains-permutation}
use Rattle.ir_model.specs.declared.Hop.{Hop}
use Rattle.ir_model.specs.Topology.{Topology, node_count, port_at, port_back, IsTopology}
use Rattle.ir_model.specs.Walk.{link_weight}
use Rattle.ir_model.proofs.Walks.{link_weight_at, port_facts, PortFacts}
use Rattle.ir_tables.specs.Relaxation.{at}
use Rattle.ir_tables.specs.Keys.{key_of, no_key, IsStepKey, IsKeyed, IsSpentKey, AreKeysOfWays, AreKeys, KeyEntry, key_entry, IsEntry, IsKeying, NoNode, Only}
use Rattle.ir_tables.proofs.Entries.{contains_head, contains_cons, contains_tail, all_cons, all_tail, set_le}

-- a port of u begins a way to its neighbour
keyed_first : (net : Topology) → IsTopology net → (u p : ℕ) (hop : Hop) (key : ℕ) → port_at net u p ≡ Some hop → key ≡ key_of hop.weight p → IsKeyed net u hop.node key
keyed_first net ok u p hop key port is = record {
  p = p;
  hop = hop;
  way = [];
  port_is = port;
  leads = (refl, (port_facts net ok u p hop port).to);
  key_is = omega (arith, is);
}

-- a way goes on by a step
keyed_on : (net : Topology) → IsTopology net → (u x q : ℕ) (h : Hop) (key on : ℕ) → IsKeyed net u x key → port_at net x q ≡ Some h → on ≡ key + key_of h.weight 0 → IsKeyed net u h.node on
keyed_on net ok u x q h key on keyed port is =
    let back = ok.paired x q h port in
    let link : link_weight net h.node x ≡ h.weight = link_weight_at net ok h.node back.0 (port_back x h) back.1 in
    record {
      p = keyed.p;
      hop = keyed.hop;
      way = x ∷ keyed.way;
      port_is = keyed.port_is;
      leads = ((back.0, port_back x h, back.1, refl), keyed.leads);
      key_is = omega (arith, is, keyed.key_is, link);
    }

-- a node gets a lesser key by way of x
pub reached_lower : (net : Topology) → IsTopology net → (u x p : ℕ) (hop : Hop) (added : ℕ) → port_at net x p ≡ Some hop → IsStepKey u x p hop.weight added
    → (keys : List ℕ) (key : ℕ) → key ≡ at keys x + added → key < at keys hop.node → AreKeysOfWays net u keys → AreKeysOfWays net u (set keys hop.node key)
reached_lower net ok u x p hop added port step keys key is less so_far =
    let facts : PortFacts net x hop = port_facts net ok x p hop port in
    let y : ℕ = hop.node in
    let y_in : y < length keys = omega (arith, facts.to, so_far.every) in
    let written : at (set keys y key) y ≡ key = get_or-set_same keys y key 0 y_in in
    let under : at keys y ≤ no_key = so_far.below y in
    record {
      every = length-set keys y key ∙ so_far.every;
      below = λ v. let le : at (set keys y key) v ≤ at keys v = set_le keys y key v y_in (omega (arith, less)) in omega (arith, le, so_far.below v);
      source = ⊎_elim (λ (e : u ≡ y). let P : ℕ → Type 0 = λ k. at keys k ≡ 0 in let none : at keys y ≡ 0 = subst P e so_far.source in absurd (omega (arith, none, less)))
          (λ (other : u ≢ y). get_or-set_other keys y u key 0 other ∙ so_far.source) (cases_eq u y);
      reached = λ v v_in other below. ⊎_elim
          (λ (e : v ≡ y). let P : ℕ → Type 0 = λ k. IsKeyed net u k (at (set keys y key) k) in
          let Q : ℕ → Type 0 = λ k. IsKeyed net u y k in
          subst P (sym e) (subst Q (sym written) (here facts under)))
          (λ (ne : v ≢ y). let same : at (set keys y key) v ≡ at keys v = get_or-set_other keys y v key 0 ne in
          let Q : ℕ → Type 0 = λ k. IsKeyed net u v k in
          subst Q (sym same) (so_far.reached v v_in other (omega (arith, same, below))))
          (cases_eq v y);
    }
  where
    here : PortFacts net x hop → at keys hop.node ≤ no_key → IsKeyed net u hop.node key
    here facts under =
        ⊎_elim (λ (e : x ≡ u). let P : ℕ → Type 0 = λ k. port_at net k p ≡ Some hop in
        let none : at keys x ≡ 0 = ap (at keys) e ∙ so_far.source in
        keyed_first net ok u p hop key (subst P e port) (omega (arith, is, none, step.first e)))
        (λ (ne : x ≢ u). keyed_on net ok u x p hop (at keys x) key (so_far.reached x facts.from ne (omega (arith, is, less, under))) port (omega (arith, is, step.later ne)))
        (cases_eq x u)

-- the first i ports of x are offered
pub record IsOffering (net : Topology) (u x own : ℕ) (old : List ℕ) (old_load : ℕ) (keys : List ℕ) (entries : List KeyEntry) (load i : ℕ) : Type 0 where
  pub but : IsKeying net u (Only x) keys entries
  pub kept : at keys x ≡ own
  pub spent : (p : ℕ) (hop : Hop) (added : ℕ) → p < i → port_at net x p ≡ Some hop → IsStepKey u x p hop.weight added → at keys hop.node ≤ own + added
  pub falls : 3 * sum keys + load ≤ 3 * sum old + old_load

step_unique : (u x p weight a b : ℕ) → IsStepKey u x p weight a → IsStepKey u x p weight b → a ≡ b
step_unique u x p weight a b one other =
    ⊎_elim (λ (e : x ≡ u). one.first e ∙ sym (other.first e)) (λ (ne : x ≢ u). one.later ne ∙ sym (other.later ne)) (cases_eq x u)

-- one more port is spent
spent_more : (net : Topology) (u x own i : ℕ) (hop : Hop) (added : ℕ) (old keys : List ℕ) → port_at net x i ≡ Some hop → IsStepKey u x i hop.weight added
    → ((v : ℕ) → at keys v ≤ at old v) → at keys hop.node ≤ own + added
    → ((p : ℕ) (h : Hop) (a : ℕ) → p < i → port_at net x p ≡ Some h → IsStepKey u x p h.weight a → at old h.node ≤ own + a)
    → (p : ℕ) (h : Hop) (a : ℕ) → p < i + 1 → port_at net x p ≡ Some h → IsStepKey u x p h.weight a → at keys h.node ≤ own + a
spent_more net u x own i hop added old keys port step le here before p h a lt at_p is =
    ⊎_elim (λ (less : p < i). omega (arith, le h.node, before p h a less at_p is))
    (λ (ge : i ≤ p). let same : p ≡ i = omega (arith, lt, ge) in
    let P : ℕ → Type 0 = λ k. port_at net x k ≡ Some h in
    let Q : ℕ → Type 0 = λ k. IsStepKey u x k h.weight a in
    let e : hop ≡ h = cc (port, subst P same at_p) in
    let R : Hop → Type 0 = λ k. IsStepKey u x i k.weight a in
    let one : added ≡ a = step_unique u x i hop.weight added a step (subst R (sym e) (subst Q same is)) in
    let S : Hop → Type 0 = λ k. at keys k.node ≤ own + a in
    subst S e (omega (arith, here, one)))
    (cases_lt p i)

pub offering_lower : (net : Topology) → IsTopology net → (u x own : ℕ) (old : List ℕ) (old_load : ℕ) (keys : List ℕ) (entries entries' : List KeyEntry) (load load' i key added : ℕ) (hop : Hop)
    → port_at net x i ≡ Some hop → IsStepKey u x i hop.weight added → key ≡ own + added → key < at keys hop.node
    → IsPermutation (key_entry key hop.node ∷ entries) entries' → load' ≤ load + 2
    → IsOffering net u x own old old_load keys entries load i → IsOffering net u x own old old_load (set keys hop.node key) entries' load' (i + 1)
offering_lower net ok u x own old old_load keys entries entries' load load' i key added hop port step is less moved loaded so_far =
    let facts : PortFacts net x hop = port_facts net ok x i hop port in
    let y : ℕ = hop.node in
    let ways = so_far.but.ways in
    let y_in : y < length keys = omega (arith, facts.to, ways.every) in
    let exact : key ≡ at keys x + added = omega (arith, is, so_far.kept) in
    let lower : sum (set keys y key) + at keys y ≡ sum keys + key = sum_by-set (λ k. k) keys y key 0 y_in in
    let written : at (set keys y key) y ≡ key = get_or-set_same keys y key 0 y_in in
    let falls_to : (v : ℕ) → at (set keys y key) v ≤ at keys v = λ v. set_le keys y key v y_in (omega (arith, less)) in
    let head : Contains entries' (key_entry key y) = Contains-permutation (key_entry key y ∷ entries) entries' (key_entry key y) moved (contains_head KeyEntry (key_entry key y) entries) in
    record {
      but = record {
        ways = reached_lower net ok u x i hop added port step keys key exact less ways;
        nodes = All-permutation (IsEntry net) (key_entry key y ∷ entries) entries' moved (all_cons KeyEntry (IsEntry net) (key_entry key y) entries (key, y, facts.to, refl) so_far.but.nodes);
        pending = λ v v_in out. ⊎_elim
            (λ (e : v ≡ y). let P : ℕ → Type 0 = λ k. Contains entries' (key_entry k y) in
            let Q : ℕ → Type 0 = λ k. Contains entries' (key_entry (at (set keys y key) k) k) in
            inr (subst Q (sym e) (subst P (sym written) head)))
            (λ (ne : v ≢ y). let same : at (set keys y key) v ≡ at keys v = get_or-set_other keys y v key 0 ne in
            ⊎_elim (λ (spent : IsSpentKey net u keys v). inl (λ q h a at_q s. omega (arith, spent q h a at_q s, falls_to h.node, same)))
            (λ (waits : Contains entries (key_entry (at keys v) v)). let P : ℕ → Type 0 = λ k. Contains entries' (key_entry k v) in
            inr (subst P (sym same) (Contains-permutation (key_entry key y ∷ entries) entries' (key_entry (at keys v) v) moved (contains_cons KeyEntry (key_entry key y) (key_entry (at keys v) v) entries waits))))
            (so_far.but.pending v v_in out))
            (cases_eq v y);
      };
      kept = get_or-set_other keys y x key 0 (λ e. facts.other (sym e)) ∙ so_far.kept;
      spent = spent_more net u x own i hop added keys (set keys y key) port step falls_to (omega (arith, written, is)) so_far.spent;
      falls = omega (arith, so_far.falls, lower, loaded, less);
    }

pub offering_keep : (net : Topology) (u x own : ℕ) (old : List ℕ) (old_load : ℕ) (keys : List ℕ) (entries : List KeyEntry) (load i added : ℕ) (hop : Hop)
    → port_at net x i ≡ Some hop → IsStepKey u x i hop.weight added → at keys hop.node ≤ own + added
    → IsOffering net u x own old old_load keys entries load i → IsOffering net u x own old old_load keys entries load (i + 1)
offering_keep net u x own old old_load keys entries load i added hop port step le so_far = record {
  but = so_far.but;
  kept = so_far.kept;
  spent = spent_more net u x own i hop added keys keys port step (λ v. omega arith) le so_far.spent;
  falls = so_far.falls;
}

-- once all ports of x are offered, x is spent
pub offering_done : (net : Topology) (u x own : ℕ) (old : List ℕ) (old_load : ℕ) (keys : List ℕ) (entries : List KeyEntry) (load i : ℕ)
    → IsOffering net u x own old old_load keys entries load i → ((p : ℕ) (hop : Hop) → port_at net x p ≡ Some hop → p < i) → IsKeying net u NoNode keys entries
offering_done net u x own old old_load keys entries load i so_far all = record {
  ways = so_far.but.ways;
  nodes = so_far.but.nodes;
  pending = λ v v_in out. ⊎_elim
      (λ (e : v ≡ x). let P : ℕ → Type 0 = λ k. IsSpentKey net u keys k in
      inl (subst P (sym e) (λ p hop a port step. omega (arith, so_far.spent p hop a (all p hop port) port step, so_far.kept))))
      (λ (ne : v ≢ x). so_far.but.pending v v_in ne) (cases_eq v x);
}

-- what an entry holds
pub record Popped (net : Topology) (waiting : ℕ) : Type 0 where
  pub node_in : waiting % 65536 < node_count net
  pub made : waiting ≡ key_of (waiting / 65536) (waiting % 65536)

pub popped : (net : Topology) → IsTopology net → (u : ℕ) (keys : List ℕ) (old entries : List KeyEntry) (e : KeyEntry) → IsPermutation old (e ∷ entries) → IsKeying net u NoNode keys old → Popped net e.0
popped net ok u keys old entries e moved so_far =
    let few : node_count net ≤ 32768 = ok.few_nodes in
    let is = All-permutation (IsEntry net) old (e ∷ entries) moved so_far.nodes 0 e (omega arith) in
    record { node_in = omega (arith, few, is.2, is.3); made = omega arith }

-- an entry leaves with the key of its node
pub popped_fresh : (net : Topology) → IsTopology net → (u : ℕ) (keys : List ℕ) (old entries : List KeyEntry) (e : KeyEntry) → IsPermutation old (e ∷ entries)
    → IsKeying net u NoNode keys old → IsKeying net u (Only (e.0 % 65536)) keys entries
popped_fresh net ok u keys old entries e moved so_far = record {
  ways = so_far.ways;
  nodes = all_tail KeyEntry (IsEntry net) e entries (All-permutation (IsEntry net) old (e ∷ entries) moved so_far.nodes);
  pending = λ v v_in out. ⊎_elim (λ spent. inl spent)
      (λ waits. inr (contains_tail KeyEntry e (key_entry (at keys v) v) entries (Contains-permutation old (e ∷ entries) (key_entry (at keys v) v) moved waits)
      (λ same. out (let few : node_count net ≤ 32768 = ok.few_nodes in let is : key_of (at keys v) v ≡ e.0 = ap (λ (k : KeyEntry). k.0) same in omega (arith, few, v_in, is)))))
      (so_far.pending v v_in (λ none. none));
}

-- where nothing waits, the keys are the least
pub keying_empty : (net : Topology) → IsTopology net → (u : ℕ) (keys : List ℕ) (entries : List KeyEntry) → length entries ≡ 0 → IsKeying net u NoNode keys entries → AreKeys net u keys
keying_empty net ok u keys entries none so_far = record {
  ways = so_far.ways;
  spent = λ x p hop a port step.
      let facts : PortFacts net x hop = port_facts net ok x p hop port in
      ⊎_elim (λ (spent : IsSpentKey net u keys x). spent p hop a port step) (λ waits. absurd (omega (arith, waits.1, none))) (so_far.pending x facts.from (λ no_node. no_node));
}

-- so many times the key that stands for no way
abbrev no_keys : ℕ → List ℕ
no_keys n = replicate n 281474976645120

no_keys_le : (n z : ℕ) → at (no_keys n) z ≤ no_key
no_keys_le n z =
    ⊎_elim (λ (z_in : z < n). let v : at (no_keys n) z ≡ 281474976645120 = get_or-replicate n z 281474976645120 0 z_in in omega (arith, v))
    (λ (z_out : n ≤ z). let len : length (no_keys n) ≡ n = length-replicate n 281474976645120 in
    let v : at (no_keys n) z ≡ 0 = get_or_past (no_keys n) z 0 (omega (arith, len, z_out)) in omega (arith, v))
    (cases_lt z n)

-- the search starts at u
pub keying_start : (net : Topology) (u : ℕ) → u < node_count net → (none entries : List KeyEntry) → none ≡ []
    → IsPermutation (record { 0 = u } ∷ none) entries → IsKeying net u NoNode (set (no_keys (node_count net)) u 0) entries
keying_start net u u_in none entries empty moved =
    let n : ℕ = node_count net in
    let first : KeyEntry = record { 0 = u } in
    let Q : List KeyEntry → Type 0 = λ es. IsPermutation (first ∷ es) entries in
    let moved' : IsPermutation (first ∷ []) entries = subst Q empty moved in
    let ks : List ℕ = set (no_keys n) u 0 in
    let long : length (no_keys n) ≡ n = length-replicate n 281474976645120 in
    let u_in' : u < length (no_keys n) = omega (arith, long, u_in) in
    let here : at ks u ≡ 0 = get_or-set_same (no_keys n) u 0 0 u_in' in
    let away : (v : ℕ) → v < n → v ≢ u → at ks v ≡ 281474976645120 = λ v v_in ne. get_or-set_other (no_keys n) u v 0 0 ne ∙ get_or-replicate n v 281474976645120 0 v_in in
    let low : (z : ℕ) → at ks z ≤ no_key = λ z. omega (arith, set_le (no_keys n) u 0 z u_in' (omega arith), no_keys_le n z) in
    record {
      ways = record {
        every = length-set (no_keys n) u 0 ∙ long;
        below = low;
        source = here;
        reached = λ v v_in other less. absurd (let k : at ks v ≡ 281474976645120 = away v v_in other in omega (arith, k, less));
      };
      nodes = All-permutation (IsEntry net) (first ∷ []) entries moved' (all_cons KeyEntry (IsEntry net) first [] (0, u, u_in, omega arith) (λ k e lt. absurd (omega (arith, lt))));
      pending = λ v v_in out. ⊎_elim
          (λ (e : v ≡ u). let R : ℕ → Type 0 = λ k. Contains entries (key_entry (at ks k) k) in
          let S : ℕ → Type 0 = λ k. Contains entries (record { 0 = k }) in
          let is : u ≡ key_of (at ks u) u = omega (arith, here) in
          inr (subst R (sym e) (subst S is (Contains-permutation (first ∷ []) entries first moved' (contains_head KeyEntry first [])))))
          (λ (ne : v ≢ u). inl (λ p hop a port step. let k : at ks v ≡ 281474976645120 = away v v_in ne in omega (arith, k, low hop.node))) (cases_eq v u);
    }
