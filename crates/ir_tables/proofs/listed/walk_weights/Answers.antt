use Rattle.std.proofs.Common.{◌≡◌, ◌≢◌, ◌+◌, ◌<◌, ℕ, List, length, drop, replicate, arith, subst, sym, ap, ◌∙◌, ⊎_elim}
use Rattle.std.proofs.lemmas.Bool.{cases_eq}
use Rattle.std.proofs.lemmas.List.{take_at}
use Rattle.ir_model.specs.Topology.{node_count}
use Rattle.ir_tables.specs.Relaxation.{at, unreached}
use Rattle.ir_tables.specs.Listed.{listed_port, IsFilled}
use Rattle.ir_tables.proofs.Ways.{filled_start}
use Rattle.ir_tables.proofs.listed.walk_weights.Goals as goal

pub loop-u-init : goal.loop-u-init
loop-u-init c =
    let n : ℕ = node_count c.args.topology.now in
    let none = c.in_ok-weights.ensures.items_if_clones_equal (λ y e. e) ∙ ap (λ m. replicate m unreached) c.nodes-nodes.ensures.count in
    record {
      filled = filled_start c.args.topology.now (listed_port n c.args.ports.now) c.args.d c.in_ok-weights.weights.items c.requires.end none;
      known = λ v lt. absurd (omega (arith, lt));
    }

pub loop-u-preserved : goal.loop-u-preserved
loop-u-preserved c =
    let now : List ℕ = c.write_walk.new.weights in
    let old : List ℕ = c.loop-u.weights.items in
    let len : length now ≡ length old = c.write_walk.auto.weights ∙ ap length c.as_mut_slice.ensures.value in
    let back = sym (take_at now (drop (length now) old) c.loop-u.weights.len (omega (arith, len, c.loop-u.weights.ok.0))) in
    let known : (v : ℕ) → v < c.loop-u.u + 1 → at now v < unreached = λ v lt.
    ⊎_elim (λ (e : v ≡ c.loop-u.u). subst (λ (k : ℕ). at now k < unreached) (sym e) c.write_walk.ensures.known)
    (λ (ne : v ≢ c.loop-u.u). c.write_walk.ensures.keeps v (subst (λ (ws : List ℕ). at ws v < unreached) (sym c.as_mut_slice.ensures.value) (c.loop-u.invariant.known v (omega (arith, lt, ne)))))
    (cases_eq v c.loop-u.u) in
    record {
      filled = subst (λ (ws : List ℕ). IsFilled c.args.topology.now (listed_port (node_count c.args.topology.now) c.args.ports.now) c.args.d ws) back c.write_walk.ensures.filled;
      known = λ v lt. subst (λ (ws : List ℕ). at ws v < unreached) back (known v lt);
    }

pub weight_of_walk-total-requires : goal.weight_of_walk-total-requires
weight_of_walk-total-requires c =
    let n : ℕ = node_count c.args.topology.now in
    record {
      list = c.requires.list;
      node = subst (λ (m : ℕ). c.loop-u.u < m) c.nodes-nodes.ensures.count c.loop-u-test.true;
      end = c.requires.end;
      filled = subst (λ (ws : List ℕ). IsFilled c.args.topology.now (listed_port n c.args.ports.now) c.args.d ws) (sym c.as_slice.ensures.value) c.loop-u.invariant.filled;
    }

pub write_walk-requires : goal.write_walk-requires
write_walk-requires c =
    let n : ℕ = node_count c.args.topology.now in
    record {
      list = c.requires.list;
      node = subst (λ (m : ℕ). c.loop-u.u < m) c.nodes-nodes.ensures.count c.loop-u-test.true;
      end = c.requires.end;
      filled = subst (λ (ws : List ℕ). IsFilled c.args.topology.now (listed_port n c.args.ports.now) c.args.d ws) (sym c.as_mut_slice.ensures.value) c.loop-u.invariant.filled;
      way = c.weight_of_walk-total.ensures;
    }

pub returns : goal.returns
returns c =
    let filled = c.loop-u.invariant.filled in
    record {
      len = filled.len;
      ways = λ x x_in. filled.ways x x_in (c.loop-u.invariant.known x (omega (arith, x_in, c.nodes-nodes.ensures.count, c.loop-u-test.false)));
    }
