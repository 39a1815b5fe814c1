-- Which links wait for which, on the walks that were followed so far.
use Rattle.std.proofs.Common.{◌≡◌, ◌⊎◌, ◌≢◌, ℕ, ◌+◌, ◌<◌, Bool, true, false, List, [], length, set, replicate, Option, Some, None, slice_index, slice_index_or, refl, ap, sym, ◌∙◌, subst, inl, inr, arith, length-set, get_or-set_same, get_or-set_other}
use Rattle.std.proofs.lemmas.Bool.{cases_eq, cases_lt}
use Rattle.std.proofs.lemmas.List.{length-replicate, get_or-replicate}
use Rattle.ir_model.specs.declared.Hop.{Hop}
use Rattle.ir_model.specs.Topology.{Topology, node_count, ports_of, port_at}
use Rattle.ir_model.specs.Plan.{Plan, IsPlan, table_port, node_in, label_in}
use Rattle.ir_figures.specs.Exits.{exits_before, AreAwaited, IsExitAt, AreLinks, WaitsSoFar}
use Rattle.ir_figures.specs.Waits.{Waits}
use Rattle.ir_figures.proofs.Links.{one_link}
use Rattle.ir_figures.proofs.Onward.{mark_within}

awaited_same : (net : Topology) (one other : ℕ → ℕ → ℕ → ℕ → Type 0) (u p v : ℕ) (row : List Bool) → ((q : ℕ) → one u p v q → other u p v q) → ((q : ℕ) → other u p v q → one u p v q)
    → AreAwaited net one u p v row → AreAwaited net other u p v row
awaited_same net one other u p v row to from are = record {
  every = are.every;
  marked = λ q w. are.marked q (from q w);
  only = λ q at. to q (are.only q at);
}

-- waits that are the same mark the same links
pub links_same : (net : Topology) (one other : ℕ → ℕ → ℕ → ℕ → Type 0) (blocks : List ℕ) (marks : List (List Bool)) (count : ℕ)
    → ((u p v q : ℕ) → one u p v q → other u p v q) → ((u p v q : ℕ) → other u p v q → one u p v q) → AreLinks net one blocks marks count → AreLinks net other blocks marks count
links_same net one other blocks marks count to from links = record {
  every_block = links.every_block;
  every_row = links.every_row;
  each = λ v r hv hr below.
      let at = links.each v r hv hr below in
      record {
        hop = at.hop;
        leads = at.leads;
        block = at.block;
        onward = awaited_same net one other v r at.hop.node (slice_index_or marks (exits_before net v + r) []) (to v r at.hop.node) (from v r at.hop.node) at.onward;
      };
}

-- before the first label no link waits
pub none_waits : (s : Plan) (u p v : ℕ) (row : List Bool) (count : ℕ) → row ≡ replicate count false → count ≡ length (ports_of s.topology v) → AreAwaited s.topology (WaitsSoFar s 0 0) u p v row
none_waits s u p v row count is all =
    let none : (q : ℕ) → slice_index_or (replicate count false) q false ≡ true → ⊥ = λ q at.
    (let lt : q < count = subst (λ (n : ℕ). q < n) (length-replicate count false) (mark_within (replicate count false) q at) in
    let no : slice_index_or (replicate count false) q false ≡ false = get_or-replicate count q false false lt in
    cc (at, no)) in
    record {
      every = ap length is ∙ length-replicate count false ∙ all;
      marked = λ q w. elim w.so_far [ inl l ↦ absurd (omega (arith, l)) | inr r ↦ absurd (omega (arith, r.1)) ];
      only = λ q at. absurd (none q (ap (λ (xs : List Bool). slice_index_or xs q false) (sym is) ∙ at));
    }

module _ (s : Plan) (is : IsPlan s) (blocks : List ℕ) (marks : List (List Bool)) (count : ℕ) where
  -- after the last node comes the next label
  pub next_label_so_far : (a : ℕ) → AreLinks s.topology (WaitsSoFar s a (node_count s.topology)) blocks marks count → AreLinks s.topology (WaitsSoFar s (a + 1) 0) blocks marks count
  next_label_so_far a =
      links_same s.topology (WaitsSoFar s a (node_count s.topology)) (WaitsSoFar s (a + 1) 0) blocks marks count
      (λ u p v q w. record {
        wait = w.wait;
        so_far = elim w.so_far [ inl l ↦ inl (omega (arith, l)) | inr r ↦ inl (omega (arith, r.0)) ];
      })
      (λ u p v q w. record {
        wait = w.wait;
        so_far = elim w.so_far [
          | inl l ↦ elim (cases_lt (label_in s w.wait.goal) a) [ inl lt ↦ inl lt | inr ge ↦ inr (omega (arith, l, ge), w.wait.from) ]
          | inr r ↦ absurd (omega (arith, r.1))
        ];
      })

  -- after the last label all links are marked that wait
  pub all_so_far : AreLinks s.topology (WaitsSoFar s (node_count s.topology) 0) blocks marks count → AreLinks s.topology (Waits s) blocks marks count
  all_so_far =
      links_same s.topology (WaitsSoFar s (node_count s.topology) 0) (Waits s) blocks marks count (λ u p v q w. w.wait)
      (λ u p v q w. record { wait = w; so_far = inl (is.labels.label w.goal w.to) })

-- a node more whose links are done
later_node : (s : Plan) (a k u p v q : ℕ) → WaitsSoFar s a k u p v q → WaitsSoFar s a (k + 1) u p v q
later_node s a k u p v q w = record {
  wait = w.wait;
  so_far = elim w.so_far [ inl l ↦ inl l | inr r ↦ inr (r.0, omega (arith, r.1)) ];
}

-- a wait on a walk to the label a is one to its node
goal_is : (s : Plan) → IsPlan s → (a u p v q : ℕ) (w : Waits s u p v q) → label_in s w.goal ≡ a → w.goal ≡ node_in s a
goal_is s is a u p v q w e = sym (is.labels.there w.goal w.to) ∙ ap (node_in s) e

module _ (s : Plan) (is : IsPlan s) (blocks : List ℕ) (a k : ℕ) where
  -- the next node sends nothing on to the label, or what it sends ends there
  pub node_passed_by : (marks : List (List Bool)) (count : ℕ) → ((p v q : ℕ) → table_port s k (node_in s a) ≡ Some p → (hop : Hop) → port_at s.topology k p ≡ Some hop → table_port s hop.node (node_in s a) ≡ Some q → ⊥)
      → AreLinks s.topology (WaitsSoFar s a k) blocks marks count → AreLinks s.topology (WaitsSoFar s a (k + 1)) blocks marks count
  node_passed_by marks count none =
      links_same s.topology (WaitsSoFar s a k) (WaitsSoFar s a (k + 1)) blocks marks count (later_node s a k)
      (λ u p v q w. record {
        wait = w.wait;
        so_far = elim w.so_far [
          | inl l ↦ inl l
          | inr r ↦ elim (cases_lt u k) [
            | inl lt ↦ inr (r.0, lt)
            | inr ge ↦
                let same : u ≡ k = omega (arith, ge, r.1) in
                let goal = goal_is s is a u p v q w.wait r.0 in
                absurd (none p v q (ap (λ (x : ℕ). table_port s x (node_in s a)) (sym same) ∙ ap (table_port s u) (sym goal) ∙ w.wait.leaves) w.wait.hop
                (ap (λ (x : ℕ). port_at s.topology x p) (sym same) ∙ w.wait.leads)
                (ap (λ (x : ℕ). table_port s x (node_in s a)) w.wait.there ∙ ap (table_port s v) (sym goal) ∙ w.wait.goes_on))
          ]
        ];
      })

  module _ (p q : ℕ) (hop : Hop) (in_net : k < node_count s.topology) (label : a < node_count s.topology) (leads : port_at s.topology k p ≡ Some hop) (leaves : table_port s k (node_in s a) ≡ Some p) (goes_on : table_port s hop.node (node_in s a) ≡ Some q) (goes_in : q < length (ports_of s.topology hop.node)) where
    -- the next node's wait
    its_wait : WaitsSoFar s a (k + 1) k p hop.node q
    its_wait = record {
      wait = record { goal = node_in s a; hop = hop; from = in_net; to = is.labels.node a label; leaves = leaves; leads = leads; there = refl; goes_on = goes_on };
      so_far = inr (is.labels.back a label, omega arith);
    }

    -- no other one of the same link
    its_only : (v r : ℕ) → WaitsSoFar s a (k + 1) k p v r → WaitsSoFar s a k k p v r ⊎ (r ≡ q)
    its_only v r w = elim w.so_far [
      | inl l ↦ inl (record { wait = w.wait; so_far = inl l })
      | inr to ↦
          let goal = goal_is s is a k p v r w.wait to.0 in
          let same : w.wait.hop ≡ hop = cc (w.wait.leads, leads) in
          let node : hop.node ≡ v = ap (λ (h : Hop). h.node) (sym same) ∙ w.wait.there in
          let on : table_port s v (node_in s a) ≡ Some q = ap (λ (x : ℕ). table_port s x (node_in s a)) (sym node) ∙ goes_on in
          let here : table_port s v (node_in s a) ≡ Some r = ap (table_port s v) (sym goal) ∙ w.wait.goes_on in
          inr (cc (on, here))
    ]

    its_row : (row : List Bool) → q < length row → AreAwaited s.topology (WaitsSoFar s a k) k p hop.node row → AreAwaited s.topology (WaitsSoFar s a (k + 1)) k p hop.node (set row q true)
    its_row row lt are = record {
      every = length-set row q true ∙ are.every;
      marked = λ r w. elim (cases_eq r q) [
        | inl e ↦ subst (λ (x : ℕ). slice_index_or (set row q true) x false ≡ true) (sym e) (get_or-set_same row q true false lt)
        | inr ne ↦ elim (its_only hop.node r w) [
          | inl old ↦ get_or-set_other row q r true false ne ∙ are.marked r old
          | inr e ↦ absurd (ne e)
        ]
      ];
      only = λ r at. elim (cases_eq r q) [
        | inl e ↦ subst (λ (x : ℕ). WaitsSoFar s a (k + 1) k p hop.node x) (sym e) its_wait
        | inr ne ↦ later_node s a k k p hop.node r (are.only r (sym (get_or-set_other row q r true false ne) ∙ at))
      ];
    }

    -- of other links none waits
    others_as_before : (v r x t : ℕ) → (v ≡ k → r ≡ p → ⊥) → WaitsSoFar s a (k + 1) v r x t → WaitsSoFar s a k v r x t
    others_as_before v r x t other w = record {
      wait = w.wait;
      so_far = elim w.so_far [
        | inl l ↦ inl l
        | inr to ↦ elim (cases_lt v k) [
          | inl lt ↦ inr (to.0, lt)
          | inr ge ↦
              let same : v ≡ k = omega (arith, ge, to.1) in
              let goal = goal_is s is a v r x t w.wait to.0 in
              let by : table_port s k (node_in s a) ≡ Some r = ap (λ (y : ℕ). table_port s y (node_in s a)) (sym same) ∙ ap (table_port s v) (sym goal) ∙ w.wait.leaves in
              absurd (other same (cc (by, leaves)))
        ]
      ];
    }

    -- one link more waits for one
    pub one_marked : (marks : List (List Bool)) (count : ℕ) (row : List Bool) → p < length (ports_of s.topology k) → exits_before s.topology k + p < count → row ≡ slice_index_or marks (exits_before s.topology k + p) []
        → AreLinks s.topology (WaitsSoFar s a k) blocks marks count → (q < length row) × AreLinks s.topology (WaitsSoFar s a (k + 1)) blocks (set marks (exits_before s.topology k + p) (set row q true)) count
    one_marked marks count row p_in below is links =
        let c = exits_before s.topology k + p in
        let before = links.each k p in_net p_in below in
        let same : before.hop ≡ hop = cc (before.leads, leads) in
        let at : AreAwaited s.topology (WaitsSoFar s a k) k p hop.node row =
        subst (AreAwaited s.topology (WaitsSoFar s a k) k p hop.node) (sym is)
        (subst (λ (h : Hop). AreAwaited s.topology (WaitsSoFar s a k) k p h.node (slice_index_or marks c [])) same before.onward) in
        let q_in : q < length row = omega (arith, at.every, goes_in) in
        let c_in : c < length marks = omega (arith, below, links.every_row) in
        let new : IsExitAt s.topology (WaitsSoFar s a (k + 1)) blocks (set marks c (set row q true)) k p c = record {
          hop = hop;
          leads = leads;
          block = before.block ∙ ap (λ (h : Hop). exits_before s.topology h.node) same;
          onward = subst (AreAwaited s.topology (WaitsSoFar s a (k + 1)) k p hop.node) (sym (get_or-set_same marks c (set row q true) [] c_in)) (its_row row q_in at);
        } in (
          q_in,
          record {
            every_block = links.every_block;
            every_row = length-set marks c (set row q true) ∙ links.every_row;
            each = λ v r hv hr inside. elim (cases_eq (exits_before s.topology v + r) c) [
              | inl e ↦
                  let one = one_link s.topology k p v r in_net hv p_in hr e in
                  subst (IsExitAt s.topology (WaitsSoFar s a (k + 1)) blocks (set marks c (set row q true)) v r) (sym e)
                  (subst (λ (x : ℕ). IsExitAt s.topology (WaitsSoFar s a (k + 1)) blocks (set marks c (set row q true)) x r c) (sym one.0)
                  (subst (λ (x : ℕ). IsExitAt s.topology (WaitsSoFar s a (k + 1)) blocks (set marks c (set row q true)) k x c) (sym one.1) new))
              | inr ne ↦
                  let old = links.each v r hv hr inside in
                  let apart : v ≡ k → r ≡ p → ⊥ = λ u_same p_same. ne (omega (arith, ap (exits_before s.topology) u_same, p_same)) in
                  record {
                    hop = old.hop;
                    leads = old.leads;
                    block = old.block;
                    onward = subst (AreAwaited s.topology (WaitsSoFar s a (k + 1)) v r old.hop.node) (sym (get_or-set_other marks c (exits_before s.topology v + r) (set row q true) [] ne))
                        (awaited_same s.topology (WaitsSoFar s a k) (WaitsSoFar s a (k + 1)) v r old.hop.node (slice_index_or marks (exits_before s.topology v + r) [])
                        (λ t. later_node s a k v r old.hop.node t) (λ t. others_as_before v r old.hop.node t apart) old.onward);
                  }
            ];
          },
        )
