-- Nodes through which a table leads are a front of the walk that it prescribes.
use Rattle.std.proofs.Common.{◌≡◌, ◌≢◌, ◌<◌, ◌≤◌, ℕ, Bool, true, false, ◌&&◌, List, [], ◌∷◌, ◌++◌, length, Option, Some, None, refl, sym, ap, subst, ◌∙◌, arith}
use Rattle.std.specs.Prelude.{option_and_then, option_map}
use Rattle.std.proofs.lemmas.Bool.{and_parts, and_from, eqb-true, eq-eqb}
use Rattle.std.proofs.lemmas.List.{length-append}
use Rattle.std.proofs.lemmas.Option.{none-some}
use Rattle.ir_model.specs.declared.Hop.{Hop}
use Rattle.ir_model.specs.Topology.{node_count, port_at}
use Rattle.ir_model.specs.Table.{Continues, IsPrescribedWalk}
use Rattle.ir_model.specs.Plan.{Plan, table_port, IsPlan}
use mathlib.Core.List.{IsPrefix}
use Rattle.ir_core.specs.Sound.{last_of}
use Rattle.ir_core.proofs.Walks.{no_port_at_home}
use Rattle.ir_trace.specs.Checked.{IsFrontOfWalk}
use Rattle.ir_trace.specs.Inspect.{is_node, next_of, leads_through}

pub node_is : (next : Option ℕ) (v : ℕ) → is_node next v ≡ true → next ≡ Some v
node_is None v h = absurd (cc h)
node_is (Some w) v h = ap (λ (x : ℕ). Some x) (eqb-true w v h)

pub is_node_at : (next : Option ℕ) (v : ℕ) → next ≡ Some v → is_node next v ≡ true
is_node_at next v e = ap (λ (o : Option ℕ). is_node o v) e ∙ eq-eqb v v refl

-- one node more
pub leads_through-push : (t : Plan) (d u : ℕ) (rest : List ℕ) (v : ℕ) → leads_through t d u (rest ++ v ∷ []) ≡ (leads_through t d u rest && is_node (next_of t (last_of (u ∷ rest)) d) v)
leads_through-push t d u [] v = by (is_node (next_of t u d) v)
  where
    by : (b : Bool) → (b && true) ≡ (true && b)
    by true = refl
    by false = refl
leads_through-push t d u (w ∷ rest) v = by (is_node (next_of t u d) w) (leads_through t d w (rest ++ v ∷ [])) (leads_through t d w rest) (is_node (next_of t (last_of (w ∷ rest)) d) v) (leads_through-push t d w rest v)
  where
    by : (a b c e : Bool) → b ≡ (c && e) → (a && b) ≡ ((a && c) && e)
    by true b c e h = h
    by false b c e h = refl

module _ (t : Plan) (is : IsPlan t) (d : ℕ) (d_in : d < node_count t.topology) where
  -- the table leads nowhere from d
  at_home : next_of t d d ≡ None
  at_home = ap (λ (q : Option ℕ). option_and_then (λ p. option_map (λ (hop : Hop). hop.node) (port_at t.topology d p)) q) (no_port_at_home t is d d_in)

  away : (u v : ℕ) → next_of t u d ≡ Some v → u ≢ d
  away u v e same = none-some v (sym at_home ∙ ap (λ (x : ℕ). next_of t x d) (sym same) ∙ e)

  through : (u : ℕ) (rest walk : List ℕ) → Continues t.topology (table_port t) d u walk → leads_through t d u rest ≡ true → IsPrefix rest walk
  through u [] walk c h = (walk, refl)
  through u (v ∷ rest) [] c h =
      let next : next_of t u d ≡ Some v = node_is (next_of t u d) v (and_parts (is_node (next_of t u d) v) (leads_through t d v rest) h).0 in
      absurd (away u v next c)
  through u (v ∷ rest) (y ∷ walk) c h =
      let both = and_parts (is_node (next_of t u d) v) (leads_through t d v rest) h in
      let next : next_of t u d ≡ Some v = node_is (next_of t u d) v both.0 in
      let there : next_of t u d ≡ Some y = c.1 in
      let same : v ≡ y = (let e : Some v ≡ Some y = sym next ∙ there in cc e) in
      let later = through v rest walk (subst (λ (x : ℕ). Continues t.topology (table_port t) d x walk) (sym same) c.2) both.1 in
      (later.0, ap (λ (x : ℕ). x ∷ (rest ++ later.0)) same ∙ ap (λ (xs : List ℕ). y ∷ xs) later.1)

  back : (u : ℕ) (rest walk : List ℕ) → Continues t.topology (table_port t) d u walk → IsPrefix rest walk → leads_through t d u rest ≡ true
  back u [] walk c h = refl
  back u (v ∷ rest) [] c h = absurd (cc h.1)
  back u (v ∷ rest) (y ∷ walk) c h =
      let same : y ≡ v = cc h.1 in
      let tail : rest ++ h.0 ≡ walk = cc h.1 in
      and_from (is_node (next_of t u d) v) (leads_through t d v rest) (is_node_at (next_of t u d) v (c.1 ∙ ap (λ (x : ℕ). Some x) same))
      (back v rest walk (subst (λ (x : ℕ). Continues t.topology (table_port t) d x walk) same c.2) (h.0, tail))

  pub record FrontFacts (u : ℕ) (rest : List ℕ) : Type 0 where
    pub front : IsFrontOfWalk t d (u ∷ rest)
    pub short : length (u ∷ rest) ≤ node_count t.topology

  pub front : (u : ℕ) (rest : List ℕ) → u < node_count t.topology → leads_through t d u rest ≡ true → FrontFacts u rest
  front u rest u_in h = let w = is.walks u d u_in d_in in of_walk w.0 w.1 w.2
    where
      of_walk : (walk : List ℕ) → IsPrescribedWalk t.topology (table_port t) u d walk → length walk ≤ node_count t.topology → FrontFacts u rest
      of_walk [] p le = absurd p
      of_walk (x ∷ walk) p le =
          let prefix = through u rest walk p.1 h in
          let e : length rest ≤ length walk = omega (arith, length-append rest prefix.0, ap length prefix.1) in
          record {
            front = (x ∷ walk, p, (prefix.0, ap (λ (y : ℕ). y ∷ (rest ++ prefix.0)) (sym p.0) ∙ ap (λ (xs : List ℕ). x ∷ xs) prefix.1));
            short = omega (arith, e, le);
          }

  pub front_back : (u : ℕ) (rest : List ℕ) → IsFrontOfWalk t d (u ∷ rest) → leads_through t d u rest ≡ true
  front_back u rest f = of_walk f.0 f.1 f.2
    where
      of_walk : (walk : List ℕ) → IsPrescribedWalk t.topology (table_port t) u d walk → IsPrefix (u ∷ rest) walk → leads_through t d u rest ≡ true
      of_walk [] p q = absurd p
      of_walk (x ∷ walk) p q = back u rest walk p.1 (q.0, cc q.1)

  pub whole : (u : ℕ) (rest : List ℕ) → leads_through t d u rest ≡ true → last_of (u ∷ rest) ≡ d → Continues t.topology (table_port t) d u rest
  whole u [] h e = e
  whole u (v ∷ rest) h e =
      let both = and_parts (is_node (next_of t u d) v) (leads_through t d v rest) h in
      let next : next_of t u d ≡ Some v = node_is (next_of t u d) v both.0 in
      (away u v next, next, whole v rest both.1 e)

pub whole_back : (t : Plan) (d u : ℕ) (rest : List ℕ) → Continues t.topology (table_port t) d u rest → last_of (u ∷ rest) ≡ d
whole_back t d u [] c = c
whole_back t d u (v ∷ rest) c = whole_back t d v rest c.2
