-- The lines of a plan's nodes name the ports of its table.
use Rattle.std.proofs.Common.{◌≡◌, ◌≢◌, ℕ, ◌-◌, ◌<◌, ◌≤◌, ◌^◌, ◌⊎◌, inl, inr, true, false, Bool, List, [], length, take, Option, Some, None, refl, sym, ap, subst, ◌∙◌, arith, get_or}
use Rattle.std.specs.Prelude.{All, Contains, IsSome, slice_index_or}
use Rattle.std.proofs.lemmas.Bool.{cases_lt, lt-ltb, le-ltb}
use Rattle.std.proofs.lemmas.List.{get_or-map}
use Rattle.std.proofs.lemmas.List.Elements.{All-contains, Contains-get_or}
use Rattle.ir_model.specs.Topology.{node_count}
use Rattle.ir_model.specs.Compiled.{port_to}
use Rattle.ir_model.specs.Plan.{Plan, IsPlan, label_in, node_in, table_port, by_label}
use Rattle.ir_plan.proofs.Standing.{row_destinations}
use Rattle.ir_prefix.specs.Forwarding.{HoldsNumber, IsMatch, SendsBy}
use Rattle.ir_prefix.specs.declared.line.TableLine.{TableLine}
use Rattle.ir_prefix.proofs.DisjointLemmas.{same_line, line_port}
use Rattle.ir_exports.specs.Sent.{end_of, GoesAllTheWay, KeepsToWalk}
use Rattle.ir_exports.specs.Tables.{AreTablesOf}
use Rattle.ir_exports.proofs.Goings.{keeps_to_walk, goes_all_the_way}

some_of : (o : Option ℕ) → IsSome o → (p : ℕ) × (o ≡ Some p)
some_of None h = absurd (cc h)
some_of (Some p) h = (p, refl)

module _ (s : Plan) (is : IsPlan s) where
  -- the port to a label is the table's to its node
  pub port_at_label : (u a : ℕ) → a < node_count s.topology → port_to (by_label s u) a ≡ table_port s u (node_in s a)
  port_at_label u a a_in =
      let len : length s.order ≡ node_count s.topology = is.labels.every_label in
      get_or-map (table_port s u) s.order a 0 None (omega (arith, a_in, len))

  -- each other label has a port
  port_held : (u x : ℕ) → u < node_count s.topology → x < node_count s.topology → label_in s u ≢ x → (p : ℕ) × (port_to (by_label s u) x ≡ Some p)
  port_held u x u_in x_in other = some_of (port_to (by_label s u) x) ((row_destinations s is u u_in).some x x_in (λ e. other (sym e)))

  -- where a label is sent, and where a number beyond the labels is
  end_at_label : (x : ℕ) → x < node_count s.topology → end_of s x ≡ node_in s x
  end_at_label x x_in = rw (lt-ltb x (node_count s.topology) x_in) refl

  end_beyond : (x : ℕ) → node_count s.topology ≤ x → end_of s x ≡ node_in s (node_count s.topology - 1)
  end_beyond x past = rw (le-ltb x (node_count s.topology) past) refl

  -- it is a node
  end_in : (x : ℕ) → end_of s x < node_count s.topology
  end_in x =
      let n = node_count s.topology in
      let P : ℕ → Type 0 = λ v. v < n in
      let root = is.root_in in
      elim (cases_lt x n) [
        | inl lt ↦ subst P (sym (end_at_label x lt)) (is.labels.node x lt)
        | inr le ↦ subst P (sym (end_beyond x le)) (is.labels.node (n - 1) (omega (arith, root)))
      ]

  -- its label is that number, or no label is
  end_has : (x : ℕ) → (label_in s (end_of s x) ≡ x) ⊎ ((y : ℕ) → y < node_count s.topology → label_in s y ≢ x)
  end_has x =
      elim (cases_lt x (node_count s.topology)) [
        | inl lt ↦ inl (ap (label_in s) (end_at_label x lt) ∙ is.labels.back x lt)
        | inr le ↦ inr (λ y y_in e. let label = is.labels.label y y_in in absurd (omega (arith, label, e, le)))
      ]

  module _ (bits : ℕ) (tables : List (List TableLine)) where
    -- by its lines each node sends a number on by the table's port
    sends : AreTablesOf false s bits tables → (x u : ℕ) → x < 2 ^ bits → u < node_count s.topology → label_in s u ≢ x → SendsBy bits (slice_index_or tables u []) x (table_port s u (end_of s x))
    sends are x u x_in u_in other =
        let n = node_count s.topology in
        let f = (are.each u u_in).forwards in
        let P : Option ℕ → Type 0 = λ o. SendsBy bits (slice_index_or tables u []) x o in
        elim (cases_lt x n) [
          | inl lt ↦
              let p = port_held u x u_in lt other in
              subst P (sym p.1 ∙ port_at_label u x lt ∙ ap (table_port s u) (sym (end_at_label x lt))) (f.meaning x p.0 p.1)
          | inr le ↦
              subst P (port_at_label u (n - 1) (omega (arith, u_in)) ∙ ap (table_port s u) (sym (end_beyond x le))) (f.beyond x le x_in)
        ]

    pub beginnings_keep : AreTablesOf false s bits tables → (counts : ℕ → ℕ) (x : ℕ) → x < 2 ^ bits → KeepsToWalk s bits (λ u. take (counts u) (slice_index_or tables u [])) x (end_of s x)
    beginnings_keep are counts x x_in =
        keeps_to_walk s is bits x (end_of s x) (end_in x) (λ u. take (counts u) (slice_index_or tables u []))
        (λ u m u_in other match. (sends are x u x_in u_in other).agrees m ((are.each u u_in).loads (counts u) x m match))

    pub nested_go : AreTablesOf false s bits tables → (x : ℕ) → x < 2 ^ bits → GoesAllTheWay s bits (λ u. slice_index_or tables u []) x (end_of s x)
    nested_go are x x_in =
        goes_all_the_way s is bits x (end_of s x) (end_in x) (λ u. slice_index_or tables u [])
        (λ u m u_in other match. (sends are x u x_in u_in other).agrees m match)
        (λ u u_in other. (sends are x u x_in u_in other).covered) (end_has x)

    module _ (are : AreTablesOf true s bits tables) (x : ℕ) (x_in : x < node_count s.topology) where
      -- of disjoint lines one that holds a label has the table's port
      one_port : (u : ℕ) (m : TableLine) → u < node_count s.topology → label_in s u ≢ x → Contains (slice_index_or tables u []) m → HoldsNumber bits m x → m.port ≡ table_port s u (end_of s x)
      one_port u m u_in other member holds =
          let row = row_destinations s is u u_in in
          let p = port_held u x u_in x_in other in
          line_port bits (node_count s.topology) (by_label s u) row.every (slice_index_or tables u []) (are.each u u_in).disjoint m member x p.0 p.1 holds
          ∙ (sym p.1 ∙ port_at_label u x x_in ∙ ap (table_port s u) (sym (end_at_label x x_in)))

      one_match : (u : ℕ) → u < node_count s.topology → label_in s u ≢ x → (m : TableLine) × IsMatch bits (slice_index_or tables u []) x m
      one_match u u_in other =
          let table = slice_index_or tables u [] in
          let row = row_destinations s is u u_in in
          let d = (are.each u u_in).disjoint in
          let p = port_held u x u_in x_in other in
          let w = d.meaning x p.0 p.1 in (
            w.0,
            record {
              member = w.1;
              holds = w.2;
              longest = λ k e l holds.
                  let same : get_or table k e ≡ w.0 = same_line bits (node_count s.topology) (by_label s u) row.every table d x (get_or table k e) w.0 (Contains-get_or table k e l) w.1 holds w.2 in
                  let lengths : (get_or table k e).length ≡ w.0.length = ap (λ (o : TableLine). o.length) same in
                  omega (arith, lengths);
            },
          )

      pub disjoint_keep : (lines : ℕ → List TableLine) → ((u : ℕ) → All (λ (m : TableLine). Contains (slice_index_or tables u []) m) (lines u)) → KeepsToWalk s bits lines x (end_of s x)
      disjoint_keep lines part =
          keeps_to_walk s is bits x (end_of s x) (end_in x) lines
          (λ u m u_in other match. one_port u m u_in other (All-contains (λ (o : TableLine). Contains (slice_index_or tables u []) o) (lines u) m (part u) match.member) match.holds)

      pub disjoint_go : GoesAllTheWay s bits (λ u. slice_index_or tables u []) x (end_of s x)
      disjoint_go =
          goes_all_the_way s is bits x (end_of s x) (end_in x) (λ u. slice_index_or tables u [])
          (λ u m u_in other match. one_port u m u_in other match.member match.holds) one_match (end_has x)

    pub labels_go : (is_disjoint : Bool) → AreTablesOf is_disjoint s bits tables → (x : ℕ) → x < node_count s.topology → GoesAllTheWay s bits (λ u. slice_index_or tables u []) x (end_of s x)
    labels_go true are x x_in = disjoint_go are x x_in
    labels_go false are x x_in = let enough = are.width.enough in nested_go are x (omega (arith, x_in, enough))
