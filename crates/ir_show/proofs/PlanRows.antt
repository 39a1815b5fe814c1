-- The row that is made of a node alone is its row in the plan.
use Rattle.std.proofs.Common.{◌≡◌, ◌≢◌, ℕ, ◌<◌, List, length, map, Option, Some, None, refl, sym, ap, ◌∙◌, subst, inl, inr, arith}
use Rattle.std.specs.Prelude.{slice_index}
use Rattle.std.proofs.lemmas.Bool.{cases_eq}
use Rattle.std.proofs.lemmas.List.{ext_get_or, get_or-map, length-map}
use Rattle.std.proofs.lemmas.Option.{slice_get_within}
use Rattle.ir_model.specs.declared.Hop.{Hop}
use Rattle.ir_model.specs.declared.Kind.{Kind}
use Rattle.ir_model.specs.declared.Kind.TheVariants.{Tree, Shortest, Compact, Landmark}
use Rattle.ir_model.specs.Topology.{Topology, node_count, ports_of, port_at}
use Rattle.ir_model.specs.Interval.{PortInterval}
use Rattle.ir_model.specs.Row.{Start}
use Rattle.ir_model.specs.Compiled.{port_to, IsCanonical}
use Rattle.ir_model.specs.Table.{IsShortestTable, IsShortestPort}
use Rattle.ir_model.specs.Plan.{Plan, IsPlan, IsTableOf, table_port, next_hop, label_in, row_in, by_label}
use Rattle.ir_model.proofs.Ordered.{canonical_same}
use Rattle.ir_numbering.specs.Numbering.{Numbering}
use Rattle.ir_plan.specs.NodeRows.{AreShortestPorts, ArePortsOf, IsNodeRow}
use Rattle.ir_plan.specs.Starts.{IsOfShortestWays}
use Rattle.ir_model.specs.Choices.{AreChosen}
use Rattle.ir_model.specs.Compact.{IsTied}
use Rattle.ir_model.proofs.Chosen.{chosen_same}
use Rattle.ir_show.specs.WalkText.{interval_with}
use Rattle.ir_show.proofs.WalkLines.{plan_next, interval_to}
use Rattle.ir_show.specs.Plans.{IsPlanOver}

module _ (s : Plan) (is : IsPlan s) (u : ℕ) (hu : u < node_count s.topology) where
  module _ (table_is : IsShortestTable s.topology (table_port s)) (ports : List (Option ℕ)) (are : AreShortestPorts s.topology s.order (label_in s u) ports) where
    port_is : (d : ℕ) → d < node_count s.topology → port_to ports d ≡ table_port s u (slice_index s.order d)
    port_is d hd =
        elim (cases_eq d (label_in s u)) [
          | inl e ↦
              let own : slice_index s.order d ≡ u = ap (slice_index s.order) e ∙ is.labels.there u hu in
              ap (port_to ports) e ∙ are.own ∙ sym (ap (table_port s u) own ∙ table_is.own u hu)
          | inr ne ↦
              let v = slice_index s.order d in
              let other : u ≢ v = λ e. ne (sym (ap (slice_index s.labels) e ∙ is.labels.back d hd)) in
              let p = are.port d hd ne in
              let q = table_is.port u v hu (is.labels.node d hd) other in
              let mine : IsShortestPort s.topology u v p.0 = subst (λ (x : ℕ). IsShortestPort s.topology x v p.0) (is.labels.there u hu) p.2 in
              let same : p.0 ≡ q.0 = omega (arith, mine.least q.0 q.2.nearer, q.2.least p.0 mine.nearer) in
              p.1 ∙ ap (λ (x : ℕ). let o : Option ℕ = Some x in o) same ∙ sym q.1
        ]

    ports_are : ports ≡ by_label s u
    ports_are =
        let len : length (by_label s u) ≡ node_count s.topology = length-map s.order (table_port s u) ∙ is.labels.every_label in
        ext_get_or None ports (by_label s u) (are.every ∙ sym len) (λ d l.
        let hd : d < node_count s.topology = omega (arith, l, are.every) in
        port_is d hd ∙ sym (get_or-map (table_port s u) s.order d 0 None (omega (arith, hd, is.labels.every_label))))

  -- the ports of a kind are those of the plan's table
  same_ports : (kind : Kind) → IsOfShortestWays kind → IsTableOf kind s.topology s.order is.parents (table_port s) → (parents : List ℕ) (ports : List (Option ℕ))
      → ArePortsOf kind s.topology s.order parents (label_in s u) ports → ports ≡ by_label s u
  same_ports Tree other table parents ports are = absurd other
  same_ports (Landmark t) other table parents ports are = absurd other
  same_ports Shortest other table parents ports are = ports_are table ports are
  same_ports Compact other table parents ports are =
      let a = label_in s u in
      let n = node_count s.topology in
      let chosen : AreChosen n a (IsTied s.topology s.order a) (by_label s u) =
      subst (λ (x : ℕ). AreChosen n a (IsTied s.topology s.order a) (map (table_port s x) s.order)) (is.labels.there u hu) (table.chosen a (is.labels.label u hu)) in
      chosen_same n a (IsTied s.topology s.order a) are.0 ports (by_label s u) are.1 chosen

  same_row : IsOfShortestWays s.kind → (parents : List ℕ) (row : List Start) → IsNodeRow s.kind s.topology s.order parents (label_in s u) row → row ≡ row_in s u
  same_row other parents row made =
      let n = node_count s.topology in
      canonical_same n (label_in s u) (by_label s u) row (row_in s u)
      (subst (λ (ports : List (Option ℕ)). IsCanonical n (label_in s u) ports row) (same_ports s.kind other is.table parents made.ports made.ports_of_kind) made.canonical) (is.rows u hu)

module _ (net : Topology) (kind : Kind) (other_kind : IsOfShortestWays kind) (numbers : Numbering) (s : Plan) (is : IsPlanOver net kind numbers s) (u : ℕ) (hu : u < node_count net) (row : List Start)
    (made : IsNodeRow kind net numbers.order numbers.parents (slice_index numbers.labels u) row) where
  in_plan : u < node_count s.topology
  in_plan = subst (λ (over : Topology). u < node_count over) (sym is.over) hu

  pub plan_row : row ≡ row_in s u
  plan_row =
      same_row s is.valid u in_plan (subst IsOfShortestWays (sym is.of_kind) other_kind) numbers.parents row
      (subst (λ (k : Kind). IsNodeRow k s.topology s.order numbers.parents (label_in s u) row) (sym is.of_kind)
      (subst (λ (over : Topology). IsNodeRow kind over s.order numbers.parents (label_in s u) row) (sym is.over)
      (subst (λ (order : List ℕ). IsNodeRow kind net order numbers.parents (label_in s u) row) (sym is.order)
      (subst (λ (labels : List ℕ). IsNodeRow kind net numbers.order numbers.parents (slice_index labels u) row) (sym is.labels) made))))

  module _ (to : ℕ) (to_in : to < node_count net) (other : u ≢ to) where
    end_in : to < node_count s.topology
    end_in = subst (λ (over : Topology). to < node_count over) (sym is.over) to_in

    -- the interval of the row that has the label of the end
    pub plan_interval : interval_with row (slice_index numbers.labels to) ≡ interval_with (row_in s u) (label_in s to)
    plan_interval = ap (λ (r : List Start). interval_with r (slice_index numbers.labels to)) plan_row ∙ ap (λ (labels : List ℕ). interval_with (row_in s u) (slice_index labels to)) (sym is.labels)

    -- its port is that of the full table
    pub plan_port : table_port s u to ≡ Some (interval_with row (slice_index numbers.labels to)).port
    plan_port =
        (interval_to s is.valid u to in_plan end_in other).port
        ∙ ap (λ (m : PortInterval). let o : Option ℕ = Some m.port in o) (sym plan_interval)

    -- which the node has
    pub port_within : (interval_with row (slice_index numbers.labels to)).port < length (ports_of net u)
    port_within =
        let next = plan_next s is.valid u to in_plan end_in other in
        let port : next.1.port ≡ (interval_with row (slice_index numbers.labels to)).port = cc (plan_port, next.1.held) in
        let there : next.1.port < length (ports_of s.topology u) = slice_get_within (ports_of s.topology u) next.1.port next.0 next.1.there in
        subst (λ (over : Topology). (interval_with row (slice_index numbers.labels to)).port < length (ports_of over u)) is.over
        (subst (λ (p : ℕ). p < length (ports_of s.topology u)) port there)

    -- and by which the plan sends on
    pub plan_hop : (port : ℕ) (hop : Hop) → port ≡ (interval_with row (slice_index numbers.labels to)).port → port_at net u port ≡ Some hop → next_hop s u to ≡ Some hop
    plan_hop port hop e at =
        let there : port_at s.topology u (interval_with row (slice_index numbers.labels to)).port ≡ Some hop =
        subst (λ (over : Topology). port_at over u (interval_with row (slice_index numbers.labels to)).port ≡ Some hop) (sym is.over)
        (subst (λ (p : ℕ). port_at net u p ≡ Some hop) e at) in
        rw plan_port there
