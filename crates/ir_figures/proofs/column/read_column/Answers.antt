use Rattle.std.proofs.Common.{◌≡◌, ◌≢◌, ◌<◌, ◌+◌, ℕ, List, None, Some, length, slice_index, slice_index_or, set, subst, sym, ap, ◌∙◌, inl, inr, arith, length-set, get_or-set_same, get_or-set_other}
use Rattle.std.proofs.lemmas.Bool.{cases_eq, eq-eqb, ne_eqb}
use Rattle.std.proofs.lemmas.Grind.{get_or_default_zero}
use Rattle.ir_model.specs.Row.{Start, labels, start_ports, IsPlaceOf}
use Rattle.ir_model.specs.Topology.{node_count}
use Rattle.ir_model.specs.Plan.{row_in, table_port, node_in}
use Rattle.ir_figures.proofs.Columns.{own_port, other_port}
use Rattle.ir_figures.proofs.column.read_column.Goals as goal

pub loop-u-preserved : goal.loop-u-preserved
loop-u-preserved c =
    let s = c.args.plan.now in
    let is = c.nodes-u-end.ensures.plan in
    let u = c.loop-u.u in
    let a = c.args.a in
    let places = c.loop-u.places.items in
    let ports = c.loop-u.column.items in
    let next = c.next_place.result in
    let port = c.port_in.result in
    let u_in : u < node_count s.topology = omega (arith, c.loop-u-test.true, c.nodes-u-end.ensures.count) in
    let at : slice_index places u ≡ c.index-place.result.now = sym (get_or_default_zero places u c.index-place.result.now (omega (arith, u_in, c.loop-u.invariant.places))) ∙ sym c.index-place.ensures in
    let row : c.row-row.result.now ≡ row_in s u = c.row-row.ensures.row in
    let new : slice_index (set places u next) u ≡ next = get_or-set_same places u next 0 (omega (arith, u_in, c.loop-u.invariant.places)) in
    let kept : (w : ℕ) → w ≢ u → slice_index (set places u next) w ≡ slice_index places w = λ w ne. get_or-set_other places u w next 0 ne in
    record {
      places = length-set places u next ∙ c.loop-u.invariant.places;
      ports = length-set ports u port ∙ c.loop-u.invariant.ports;
      within = λ w lt. elim (cases_eq w u) [
        | inl e ↦ omega (arith, ap (slice_index (set places u next)) e, new, c.next_place.ensures.within, ap length row, ap (λ (x : ℕ). length (row_in s x)) e)
        | inr ne ↦ omega (arith, kept w ne, c.loop-u.invariant.within w lt)
      ];
      next = λ w lt two. elim (cases_eq w u) [
        | inl e ↦
            let before : IsPlaceOf (labels c.row-row.result.now) a c.index-place.result.now = subst (λ (x : ℕ). IsPlaceOf (labels c.row-row.result.now) a x) at
            (subst (λ (r : List Start). IsPlaceOf (labels r) a (slice_index places u)) (sym row) (c.loop-u.invariant.here u (omega arith) u_in two)) in
            let after : IsPlaceOf (labels (row_in s u)) (a + 1) next = subst (λ (r : List Start). IsPlaceOf (labels r) (a + 1) next) row (c.next_place.ensures.place before) in
            subst (λ (x : ℕ). IsPlaceOf (labels (row_in s x)) (a + 1) (slice_index (set places u next) x)) (sym e) (subst (λ (x : ℕ). IsPlaceOf (labels (row_in s u)) (a + 1) x) (sym new) after)
        | inr ne ↦ subst (λ (x : ℕ). IsPlaceOf (labels (row_in s w)) (a + 1) x) (sym (kept w ne)) (c.loop-u.invariant.next w (omega (arith, lt, ne)) two)
      ];
      here = λ w from lt two.
          let ne : w ≢ u = λ e. omega (arith, e, from) in
          subst (λ (x : ℕ). IsPlaceOf (labels (row_in s w)) a x) (sym (kept w ne)) (c.loop-u.invariant.here w (omega (arith, from)) lt two);
      read = λ w lt. elim (cases_eq w u) [
        | inl e ↦
            let own : c.node_of-own.result ≡ node_in s a = c.node_of-own.ensures in
            let told : port ≡ table_port s u (node_in s a) = elim (cases_eq u c.node_of-own.result) [
              | inl same ↦ c.port_in.ensures.own (eq-eqb u c.node_of-own.result same) ∙ sym (own_port s is u a u_in (same ∙ own))
              | inr other ↦
                  let two : 1 < node_count s.topology = omega (arith, u_in, own, is.labels.node a c.requires.label, other) in
                  c.port_in.ensures.other (ne_eqb u c.node_of-own.result other)
                  ∙ ap (λ (r : List Start). Some (slice_index (start_ports r) c.index-place.result.now)) row
                  ∙ other_port s is u a c.index-place.result.now u_in c.requires.label (λ e2. other (e2 ∙ sym own)) two
                  (subst (λ (x : ℕ). IsPlaceOf (labels (row_in s u)) a x) at (c.loop-u.invariant.here u (omega arith) u_in two))
            ] in
            subst (λ (x : ℕ). slice_index_or (set ports u port) x None ≡ table_port s x (node_in s a)) (sym e) (get_or-set_same ports u port None (omega (arith, u_in, c.loop-u.invariant.ports)) ∙ told)
        | inr ne ↦ get_or-set_other ports u w port None ne ∙ c.loop-u.invariant.read w (omega (arith, lt, ne))
      ];
    }
