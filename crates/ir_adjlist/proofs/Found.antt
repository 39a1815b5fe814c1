-- The weight that pairs give to two names, and what it is in the graph of the pairs.
use Rattle.std.proofs.Common.{◌≡◌, ℕ, Bool, true, false, not, cond, ◌||◌, ◌&&◌, List, [], ◌∷◌, ◌++◌, map, filter, flat_map, fold, Option, Some, None, is_some, unwrap_or, refl, sym, ap, subst, ◌∙◌, bytes_eq, true≢false}
use Rattle.std.specs.List.{list_any, AllByRecursion, IsDistinct}
use Rattle.std.specs.Map.{lookup, keys_of}
use Rattle.std.proofs.lemmas.List.Folds.{list_any-append}
use Rattle.std.proofs.Math.Bool.{or-false}
use Rattle.std.proofs.lemmas.Map.Keys.{IsDistinct-head, IsDistinct-tail}
use Rattle.ir_model.specs.Graph.{Name, Neighbors, among, has_node, weight_of}
use Rattle.ir_model.specs.Made.{Pair, distinct, far_end, joins, last_weight, neighbors_in, graph_of}
use Rattle.ir_model.proofs.Names.{same_names}
use Rattle.ir_model.proofs.Graphs.{are-swap}
use Rattle.ir_model.proofs.MadeLemmas.{Covered, among-distinct}

abbrev pub or_else : Option ℕ → Option ℕ → Option ℕ
or_else (Some w) o = Some w
or_else None o = o

pub or_else-none : (o : Option ℕ) → or_else o None ≡ o
or_else-none None = refl
or_else-none (Some w) = refl

-- the weight of the last pair that joins x and y
abbrev pub found : Name → Name → List Pair → Option ℕ
found x y [] = None
found x y (p ∷ ps) = or_else (found x y ps) (cond (joins x y p) (Some p.2) None)

pub found-append : (x y : Name) (ps qs : List Pair) → found x y (ps ++ qs) ≡ or_else (found x y qs) (found x y ps)
found-append x y [] qs = sym (or_else-none (found x y qs))
found-append x y (p ∷ ps) qs = ap (λ o. or_else o (cond (joins x y p) (Some p.2) None)) (found-append x y ps qs) ∙ by (found x y qs) (found x y ps) (cond (joins x y p) (Some p.2) None)
  where
    by : (o q r : Option ℕ) → or_else (or_else o q) r ≡ or_else o (or_else q r)
    by None q r = refl
    by (Some w) q r = refl

pub found-swap : (x y : Name) (ps : List Pair) → found x y ps ≡ found y x ps
found-swap x y [] = refl
found-swap x y (p ∷ ps) = ap (λ o. or_else o (cond (joins x y p) (Some p.2) None)) (found-swap x y ps) ∙ ap (λ b. or_else (found y x ps) (cond b (Some p.2) None)) (are-swap p.0 p.1 x y)

fold-found : (x y : Name) (ps : List Pair) (w : ℕ) → fold (λ w p. cond (joins x y p) p.2 w) w ps ≡ unwrap_or (found x y ps) w
fold-found x y [] w = refl
fold-found x y (p ∷ ps) w = fold-found x y ps (cond (joins x y p) p.2 w) ∙ by (found x y ps) (joins x y p)
  where
    by : (o : Option ℕ) (b : Bool) → unwrap_or o (cond b p.2 w) ≡ unwrap_or (or_else o (cond b (Some p.2) None)) w
    by (Some v) b = refl
    by None true = refl
    by None false = refl

any-found : (x y : Name) (ps : List Pair) → list_any (joins x y) ps ≡ is_some (found x y ps)
any-found x y [] = refl
any-found x y (p ∷ ps) = ap (λ b. joins x y p || b) (any-found x y ps) ∙ by (found x y ps) (joins x y p)
  where
    by : (o : Option ℕ) (b : Bool) → (b || is_some o) ≡ is_some (or_else o (cond b (Some p.2) None))
    by (Some v) true = refl
    by (Some v) false = refl
    by None true = refl
    by None false = refl

-- ---- look-ups in a table

pub lookup-table : {B : Type 0} (f : Name → B) (ds : List Name) (x : Name) → lookup (bytes_eq x) (map {B = Name × B} (λ n. (n, f n)) ds) ≡ cond (among ds x) (Some (f x)) None
lookup-table f [] x = refl
lookup-table {B} f (d ∷ ds) x = by (bytes_eq x d) refl (lookup-table f ds x)
  where
    by : (b : Bool) → bytes_eq x d ≡ b → lookup (bytes_eq x) (map {B = Name × B} (λ n. (n, f n)) ds) ≡ cond (among ds x) (Some (f x)) None → cond b (Some (f d)) (lookup (bytes_eq x) (map {B = Name × B} (λ n. (n, f n)) ds)) ≡ cond (b || among ds x) (Some (f x)) None
    by true e later = ap (λ n. Some (f n)) (sym (same_names x d e))
    by false e later = later

far_end-joins : (x y : Name) (p : Pair) → among (far_end x p) y ≡ joins x y p
far_end-joins x y p = by (bytes_eq x p.0) (bytes_eq x p.1) refl refl
  where
    same : (a b : Bool) → (a || false) ≡ (a || false && b)
    same true b = refl
    same false b = refl

    both : (a b : Bool) → a ≡ b → (a || false) ≡ (a || b)
    both true b e = refl
    both false b e = e

    by : (a b : Bool) → bytes_eq x p.0 ≡ a → bytes_eq x p.1 ≡ b → among (cond a (p.1 ∷ []) (cond b (p.0 ∷ []) [])) y ≡ (a && bytes_eq y p.1 || b && bytes_eq y p.0)
    by true true ea eb = both (bytes_eq y p.1) (bytes_eq y p.0) (ap (bytes_eq y) (sym (same_names x p.1 eb) ∙ same_names x p.0 ea))
    by true false ea eb = same (bytes_eq y p.1) (bytes_eq y p.0)
    by false true ea eb = or-false (bytes_eq y p.0)
    by false false ea eb = refl

far_ends-joins : (x y : Name) (ps : List Pair) → among (flat_map (far_end x) ps) y ≡ list_any (joins x y) ps
far_ends-joins x y [] = refl
far_ends-joins x y (p ∷ ps) = list_any-append (bytes_eq y) (far_end x p) (flat_map (far_end x) ps) ∙ ap (λ b. b || among (flat_map (far_end x) ps) y) (far_end-joins x y p) ∙ ap (λ b. joins x y p || b) (far_ends-joins x y ps)

lookup-neighbors_in : (ps : List Pair) (x y : Name) → lookup (bytes_eq y) (neighbors_in ps x) ≡ found x y ps
lookup-neighbors_in ps x y =
    lookup-table (λ y. last_weight x y ps) (distinct (flat_map (far_end x) ps)) y
    ∙ ap (λ b. cond b (Some (last_weight x y ps)) None) (among-distinct (flat_map (far_end x) ps) y ∙ far_ends-joins x y ps ∙ any-found x y ps)
    ∙ ap (λ w. cond (is_some (found x y ps)) (Some w) None) (fold-found x y ps 0)
    ∙ by (found x y ps)
  where
    by : (o : Option ℕ) → cond (is_some o) (Some (unwrap_or o 0)) None ≡ o
    by None = refl
    by (Some w) = refl

unjoined : (ns : List Name) (x y : Name) (ps : List Pair) → Covered ns ps → among ns x ≡ false → found x y ps ≡ None
unjoined ns x y [] c h = refl
unjoined ns x y (p ∷ ps) c h = ap (λ o. or_else o (cond (joins x y p) (Some p.2) None)) (unjoined ns x y ps c.1 h) ∙ by (bytes_eq x p.0) (bytes_eq x p.1) refl refl
  where
    by : (a b : Bool) → bytes_eq x p.0 ≡ a → bytes_eq x p.1 ≡ b → cond (a && bytes_eq y p.1 || b && bytes_eq y p.0) (Some p.2) None ≡ None
    by true b ea eb = absurd (true≢false (sym (ap (among ns) (same_names x p.0 ea) ∙ c.0.0) ∙ h))
    by false true ea eb = absurd (true≢false (sym (ap (among ns) (same_names x p.1 eb) ∙ c.0.1) ∙ h))
    by false false ea eb = refl

pub has_node-graph_of : (ns : List Name) (ps : List Pair) (x : Name) → has_node (graph_of ns ps) x ≡ among ns x
has_node-graph_of ns ps x = ap is_some (lookup-table (neighbors_in ps) (distinct ns) x) ∙ by (among (distinct ns) x) ∙ among-distinct ns x
  where
    by : (b : Bool) → is_some (cond b (Some (neighbors_in ps x)) None) ≡ b
    by true = refl
    by false = refl

-- the weight in the graph of pairs
pub weight_of-graph_of : (ns : List Name) (ps : List Pair) (x y : Name) → Covered ns ps → weight_of (graph_of ns ps) x y ≡ found x y ps
weight_of-graph_of ns ps x y c =
    ap (λ o. lookup (bytes_eq y) (unwrap_or o [])) (lookup-table (neighbors_in ps) (distinct ns) x ∙ ap (λ b. cond b (Some (neighbors_in ps x)) None) (among-distinct ns x))
    ∙ by (among ns x) refl
  where
    by : (b : Bool) → among ns x ≡ b → lookup (bytes_eq y) (unwrap_or (cond b (Some (neighbors_in ps x)) None) []) ≡ found x y ps
    by true e = lookup-neighbors_in ps x y
    by false e = sym (unjoined ns x y ps c e)

-- ---- the edges of a graph give its weights

lookup_absent : (es : Neighbors) (q : Name) → AllByRecursion (λ k. bytes_eq q k ≡ false) (keys_of es) → lookup (bytes_eq q) es ≡ None
lookup_absent [] q h = refl
lookup_absent (e ∷ es) q h = ap (λ b. cond b (Some e.1) (lookup (bytes_eq q) es)) h.0 ∙ lookup_absent es q h.1

-- the edges in a row
abbrev pub row_edges_of : List Name → Name → Neighbors → List Pair
row_edges_of walked z es = map {B = Pair} (λ e. (z, e.0, e.1)) (filter (λ e. not (among walked e.0)) es)

pub found_row : (walked : List Name) (z x y q : Name) → ((k : Name) (w : ℕ) → joins x y (z, k, w) ≡ bytes_eq q k) → (es : Neighbors) → IsDistinct bytes_eq (keys_of es)
    → found x y (row_edges_of walked z es) ≡ cond (among walked q) None (lookup (bytes_eq q) es)
found_row walked z x y q j [] d = by (among walked q)
  where
    by : (b : Bool) → ◌≡◌ {A = Option ℕ} None (cond b None None)
    by true = refl
    by false = refl
found_row walked z x y q j (e ∷ es) d = by (bytes_eq q e.0) (among walked e.0) refl refl (found_row walked z x y q j es (IsDistinct-tail bytes_eq e.0 (keys_of es) d))
  where
    absent : bytes_eq q e.0 ≡ true → lookup (bytes_eq q) es ≡ None
    absent s = lookup_absent es q (subst (λ n. AllByRecursion (λ k. bytes_eq n k ≡ false) (keys_of es)) (sym (same_names q e.0 s)) (IsDistinct-head bytes_eq e.0 (keys_of es) d))

    either_none : (b : Bool) → ◌≡◌ {A = Option ℕ} (cond b None None) None
    either_none true = refl
    either_none false = refl

    by : (s b : Bool) → bytes_eq q e.0 ≡ s → among walked e.0 ≡ b → found x y (row_edges_of walked z es) ≡ cond (among walked q) None (lookup (bytes_eq q) es)
        → found x y (map {B = Pair} (λ e. (z, e.0, e.1)) (cond (not b) (e ∷ filter (λ e. not (among walked e.0)) es) (filter (λ e. not (among walked e.0)) es))) ≡ cond (among walked q) None (cond s (Some e.1) (lookup (bytes_eq q) es))
    by true true es' eb later =
        let here : among walked q ≡ true = ap (among walked) (same_names q e.0 es') ∙ eb in
        later ∙ ap (λ b. cond b None (lookup (bytes_eq q) es)) here ∙ sym (ap (λ b. cond b None (Some e.1)) here)
    by true false es' eb later =
        let here : among walked q ≡ false = ap (among walked) (same_names q e.0 es') ∙ eb in
        let none : found x y (row_edges_of walked z es) ≡ None = later ∙ ap (cond (among walked q) None) (absent es') ∙ either_none (among walked q) in
        ap (λ o. or_else o (cond (joins x y (z, e.0, e.1)) (Some e.1) None)) none ∙ ap (λ b. cond b (Some e.1) None) (j e.0 e.1 ∙ es') ∙ sym (ap (λ b. cond b None (Some e.1)) here)
    by false true es' eb later = later
    by false false es' eb later = ap (λ b. or_else (found x y (row_edges_of walked z es)) (cond b (Some e.1) None)) (j e.0 e.1 ∙ es') ∙ or_else-none (found x y (row_edges_of walked z es)) ∙ later

pub found_none : (walked : List Name) (z x y : Name) → ((k : Name) (w : ℕ) → joins x y (z, k, w) ≡ false) → (es : Neighbors) → found x y (row_edges_of walked z es) ≡ None
found_none walked z x y j [] = refl
found_none walked z x y j (e ∷ es) = by (among walked e.0) (found_none walked z x y j es)
  where
    by : (b : Bool) → found x y (row_edges_of walked z es) ≡ None → found x y (map {B = Pair} (λ e. (z, e.0, e.1)) (cond (not b) (e ∷ filter (λ e. not (among walked e.0)) es) (filter (λ e. not (among walked e.0)) es))) ≡ None
    by true later = later
    by false later = ap (λ o. or_else o (cond (joins x y (z, e.0, e.1)) (Some e.1) None)) later ∙ ap (λ b. cond b (Some e.1) None) (j e.0 e.1)
