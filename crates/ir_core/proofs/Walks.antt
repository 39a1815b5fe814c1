use Rattle.std.proofs.Common.{◌≡◌, ◌≢◌, ℕ, ◌<◌, List, [], ◌∷◌, ◌++◌, slice_get, Option, Some, None, refl, sym, ap, ◌∙◌, subst, ◌⊎◌, inl, inr}
use Rattle.std.specs.Prelude.{option_map, option_and_then}
use Rattle.std.proofs.lemmas.Option.{same_Some, none-some}
use Rattle.std.proofs.lemmas.Bool.{cases_eq}
use Rattle.ir_model.specs.declared.Hop.{Hop}
use Rattle.ir_model.specs.declared.Kind.{Kind}
use Rattle.ir_model.specs.declared.Kind.TheVariants.{Tree, Shortest, Compact, Landmark}
use Rattle.ir_model.specs.Topology.{Topology, node_count, port_at}
use Rattle.ir_model.specs.Table.{next_node, Continues, IsPrescribedWalk}
use Rattle.ir_model.specs.Plan.{Plan, next_hop, table_port, IsPlan, IsTableOf}
use mathlib.Core.List.{IsPrefix}
use Rattle.ir_core.specs.Sound.{last_of}
use Rattle.ir_core.specs.World.{IsBeginning, StepsTo}

-- the walk that a table prescribes, step by step
abbrev pub IsWalk : Plan → ℕ → List ℕ → Type 0
IsWalk t d [] = ⊥
IsWalk t d (u ∷ []) = u ≡ d
IsWalk t d (u ∷ v ∷ rest) = (u ≢ d) × StepsTo t d u v × IsWalk t d (v ∷ rest)

abbrev pub starts_with : List ℕ → ℕ → Type 0
starts_with [] u = ⊥
starts_with (x ∷ xs) u = x ≡ u

pub record IsWalkFrom (t : Plan) (u d : ℕ) (walk : List ℕ) : Type 0 where
  pub begins : starts_with walk u
  pub steps : IsWalk t d walk

-- the next node is that of the next hop
step_from : (t : Plan) (x d y : ℕ) → next_node t.topology (table_port t) x d ≡ Some y → StepsTo t d x y
step_from t x d y e = by_port (table_port t x d) refl e
  where
    by_hop : (p : ℕ) → table_port t x d ≡ Some p → (h : Option Hop) → port_at t.topology x p ≡ h → option_map (λ (hop : Hop). hop.node) h ≡ Some y → StepsTo t d x y
    by_hop p is None at f = absurd (none-some y f)
    by_hop p is (Some hop) at f =
        let there : next_hop t x d ≡ Some hop = rw is at in
        (hop, there, same_Some hop.node y f)

    by_port : (q : Option ℕ) → table_port t x d ≡ q → option_and_then (λ p. option_map (λ (hop : Hop). hop.node) (port_at t.topology x p)) q ≡ Some y → StepsTo t d x y
    by_port None is f = absurd (none-some y f)
    by_port (Some p) is f = by_hop p is (port_at t.topology x p) refl f

walk_from : (t : Plan) (d x : ℕ) (rest : List ℕ) → Continues t.topology (table_port t) d x rest → IsWalk t d (x ∷ rest)
walk_from t d x [] c = c
walk_from t d x (y ∷ rest) c = (c.0, step_from t x d y c.1, walk_from t d y rest c.2)

pub walk_of : (t : Plan) (u d : ℕ) (walk : List ℕ) → IsPrescribedWalk t.topology (table_port t) u d walk → IsWalkFrom t u d walk
walk_of t u d [] p = elim p [ ]
walk_of t u d (x ∷ rest) p =
    record { begins = p.0; steps = walk_from t d x rest (subst (λ (k : ℕ). Continues t.topology (table_port t) d k rest) (sym p.0) p.1) }

-- there is no port at the destination
own_of : (k : Kind) (net : Topology) (order parents : List ℕ) (table : ℕ → ℕ → Option ℕ) → IsTableOf k net order parents table → (d : ℕ) → d < node_count net → table d d ≡ None
own_of Tree net order parents table is d d_in = is.own d d_in
own_of Shortest net order parents table is d d_in = is.own d d_in
own_of Compact net order parents table is d d_in = is.nearer.own d d_in
own_of (Landmark t) net order parents table is d d_in = is.2.keeps.own d d_in

pub no_port_at_home : (t : Plan) → IsPlan t → (d : ℕ) → d < node_count t.topology → table_port t d d ≡ None
no_port_at_home t is d d_in = own_of t.kind t.topology t.order is.parents (table_port t) is.table d d_in

-- there is no hop at the destination
pub next_hop-away : (t : Plan) → IsPlan t → (u d : ℕ) → d < node_count t.topology → (h : Hop) → next_hop t u d ≡ Some h → u ≢ d
next_hop-away t is u d d_in h e = λ (w : u ≡ d).
    let none : table_port t u d ≡ None = ap (λ (x : ℕ). table_port t x d) w ∙ no_port_at_home t is d d_in in
    let there : next_hop t u d ≡ None = rw none refl in
    none-some h (sym there ∙ e)

-- elsewhere there is one
pub next_hop-there : (t : Plan) → IsPlan t → (u d : ℕ) → u < node_count t.topology → d < node_count t.topology → u ≢ d → (h : Hop) × (next_hop t u d ≡ Some h)
next_hop-there t is u d u_in d_in ne =
    let w = is.walks u d u_in d_in in
    of_walk w.0 (walk_of t u d w.0 w.1)
  where
    of_walk : (walk : List ℕ) → IsWalkFrom t u d walk → (h : Hop) × (next_hop t u d ≡ Some h)
    of_walk [] k = absurd k.begins
    of_walk (x ∷ []) k = absurd (ne (sym k.begins ∙ k.steps))
    of_walk (x ∷ y ∷ rest) k =
        let s : StepsTo t d u y = subst (λ (z : ℕ). StepsTo t d z y) k.begins k.steps.1 in
        (s.0, s.1)

-- no hop means the destination
pub next_hop-none : (t : Plan) → IsPlan t → (u d : ℕ) → u < node_count t.topology → d < node_count t.topology → next_hop t u d ≡ None → u ≡ d
next_hop-none t is u d u_in d_in none = by_place (cases_eq u d)
  where
    by_place : ((u ≡ d) ⊎ (u ≡ d → ⊥)) → u ≡ d
    by_place (inl same) = same
    by_place (inr ne) = let h = next_hop-there t is u d u_in d_in ne in absurd (none-some h.0 (sym none ∙ h.1))

-- the port that a next hop leaves by
pub port_of : (t : Plan) (u d : ℕ) (h : Hop) → next_hop t u d ≡ Some h → (p : ℕ) × (port_at t.topology u p ≡ Some h)
port_of t u d h e = by_port (table_port t u d) refl e
  where
    by_port : (q : Option ℕ) → table_port t u d ≡ q → option_and_then (λ p. port_at t.topology u p) q ≡ Some h → (p : ℕ) × (port_at t.topology u p ≡ Some h)
    by_port None is f = absurd (none-some h f)
    by_port (Some p) is f = (p, f)

pub StepsTo-same : (t : Plan) (d u v w : ℕ) → StepsTo t d u v → StepsTo t d u w → v ≡ w
StepsTo-same t d u v w (h, e, p) (k, f, q) =
    let same : h ≡ k = same_Some h k (sym e ∙ f) in
    sym p ∙ ap (λ (x : Hop). x.node) same ∙ q

-- a beginning is a prefix of the walk from the same node
pub prefix : (t : Plan) (d : ℕ) (hops walk : List ℕ) (u : ℕ) → slice_get hops 0 ≡ Some u → starts_with walk u → IsBeginning t d hops → IsWalk t d walk → IsPrefix hops walk
prefix t d [] walk u e s b w = elim b [ ]
prefix t d (x ∷ hops) [] u e s b w = elim w [ ]
prefix t d (x ∷ []) (y ∷ walk) u e s b w =
    let same : x ≡ y = same_Some x u e ∙ sym s in
    (walk, ap (λ (z : ℕ). z ∷ walk) same)
prefix t d (x ∷ z ∷ hops) (y ∷ []) u e s b w =
    let same : x ≡ y = same_Some x u e ∙ sym s in
    absurd (b.0 (same ∙ w))
prefix t d (x ∷ z ∷ hops) (y ∷ y' ∷ walk) u e s b w =
    let same : x ≡ y = same_Some x u e ∙ sym s in
    let step : StepsTo t d x y' = subst (λ (k : ℕ). StepsTo t d k y') (sym same) w.1 in
    let next : z ≡ y' = StepsTo-same t d x z y' b.1 step in
    let more = prefix t d (z ∷ hops) (y' ∷ walk) y' (ap (λ (k : ℕ). Some k) next) refl b.2 w.2 in
    (more.0, ap (λ (k : ℕ). k ∷ z ∷ hops ++ more.0) same ∙ ap (λ (l : List ℕ). y ∷ l) more.1)

-- a beginning that ends with the destination is the whole walk
pub whole : (t : Plan) (d : ℕ) (hops walk : List ℕ) (u : ℕ) → slice_get hops 0 ≡ Some u → starts_with walk u → IsBeginning t d hops → IsWalk t d walk → last_of hops ≡ d → hops ≡ walk
whole t d [] walk u e s b w l = elim b [ ]
whole t d (x ∷ hops) [] u e s b w l = elim w [ ]
whole t d (x ∷ []) (y ∷ []) u e s b w l =
    let same : x ≡ y = same_Some x u e ∙ sym s in ap (λ (z : ℕ). z ∷ []) same
whole t d (x ∷ []) (y ∷ y' ∷ walk) u e s b w l =
    let same : x ≡ y = same_Some x u e ∙ sym s in absurd (w.0 (sym same ∙ l))
whole t d (x ∷ z ∷ hops) (y ∷ []) u e s b w l =
    let same : x ≡ y = same_Some x u e ∙ sym s in absurd (b.0 (same ∙ w))
whole t d (x ∷ z ∷ hops) (y ∷ y' ∷ walk) u e s b w l =
    let same : x ≡ y = same_Some x u e ∙ sym s in
    let step : StepsTo t d x y' = subst (λ (k : ℕ). StepsTo t d k y') (sym same) w.1 in
    let next : z ≡ y' = StepsTo-same t d x z y' b.1 step in
    let more = whole t d (z ∷ hops) (y' ∷ walk) y' (ap (λ (k : ℕ). Some k) next) refl b.2 w.2 l in
    ap (λ (k : ℕ). k ∷ z ∷ hops) same ∙ ap (λ (l : List ℕ). y ∷ l) more

-- one more hop
pub IsBeginning-push : (t : Plan) (d : ℕ) (hops : List ℕ) (v : ℕ) → IsBeginning t d hops → last_of hops ≢ d → StepsTo t d (last_of hops) v → IsBeginning t d (hops ++ v ∷ [])
IsBeginning-push t d [] v b ne s = elim b [ ]
IsBeginning-push t d (x ∷ []) v b ne s = (ne, s, tt)
IsBeginning-push t d (x ∷ y ∷ hops) v b ne s = (b.0, b.1, IsBeginning-push t d (y ∷ hops) v b.2 ne s)

pub last_of-push : (hops : List ℕ) (v : ℕ) → last_of (hops ++ v ∷ []) ≡ v
last_of-push [] v = refl
last_of-push (x ∷ []) v = refl
last_of-push (x ∷ y ∷ hops) v = last_of-push (y ∷ hops) v

pub first-push : (hops : List ℕ) (u v : ℕ) → slice_get hops 0 ≡ Some u → slice_get (hops ++ v ∷ []) 0 ≡ Some u
first-push [] u v e = absurd (none-some u e)
first-push (x ∷ hops) u v e = e

-- a port in the table is a port of the node
pub port_there : (t : Plan) → IsPlan t → (u d : ℕ) → u < node_count t.topology → d < node_count t.topology → (p : ℕ) → table_port t u d ≡ Some p → (h : Hop) × (port_at t.topology u p ≡ Some h)
port_there t is u d u_in d_in p e = chosen (cases_eq u d)
  where
    chosen : ((u ≡ d) ⊎ (u ≡ d → ⊥)) → (h : Hop) × (port_at t.topology u p ≡ Some h)
    chosen (inl w) =
        let none : table_port t u d ≡ None = ap (λ (x : ℕ). table_port t x d) w ∙ no_port_at_home t is d d_in in
        absurd (none-some p (sym none ∙ e))
    chosen (inr ne) =
        let h = next_hop-there t is u d u_in d_in ne in
        (h.0, rw e at h.1)
