-- What is true of each graph stays true where a link goes.
use Rattle.std.proofs.Common.{◌≡◌, ◌≤◌, ◌+◌, ◌-◌, ℕ, Bool, true, false, not, cond, ◌||◌, ◌&&◌, List, [], ◌∷◌, ◌++◌, map, filter, length, Option, Some, None, is_some, option_map, unwrap_or, refl, sym, ap, subst, ◌∙◌, bytes_eq, true≢false, arith, length-append}
use Rattle.std.specs.Map.{lookup, keys_of}
use Rattle.std.specs.List.{AllByRecursion, IsDistinct, list_all}
use Rattle.std.proofs.lemmas.List.{length-map}
use Rattle.std.proofs.lemmas.Map.Keys.{IsDistinct-head, IsDistinct-tail, IsDistinct-cons}
use Rattle.std.proofs.lemmas.Bool.{and_parts, and_from, or_right}
use Rattle.std.proofs.Math.Bool.{or-false}
use Rattle.ir_model.specs.Graph.{Name, Neighbors, Adjacency, names, among, neighbors, weight_of, edges, edges_after, without, unlinked, without_edge, is_name, is_weight, is_row}
use Rattle.ir_model.proofs.Names.{same_names, bytes_eq-swap}
use Rattle.ir_model.proofs.Graphs.{each_row, lookup-each_row, either, are, are-swap}
use Rattle.ir_model.specs.declared.TheConstants.{MAX_NODES}
use Rattle.ir_graph.proofs.Keeping.{at_row, length-at_row, differ-each_row}
use Rattle.ir_graph.specs.Kept.{IsKept}

pub lookup-without : (es : Neighbors) (y z : Name) → lookup (bytes_eq z) (without es y) ≡ cond (bytes_eq z y) None (lookup (bytes_eq z) es)
lookup-without [] y z = elim (bytes_eq z y) as (λ b. ◌≡◌ {A = Option ℕ} None (cond b None None)) [ true ↦ refl | false ↦ refl ]
lookup-without (e ∷ es) y z = by (lookup-without es y z) (bytes_eq y e.0) (bytes_eq z e.0) (bytes_eq z y) refl refl refl
  where
    by : lookup (bytes_eq z) (without es y) ≡ cond (bytes_eq z y) None (lookup (bytes_eq z) es) → (p q r : Bool) → bytes_eq y e.0 ≡ p → bytes_eq z e.0 ≡ q → bytes_eq z y ≡ r
        → lookup (bytes_eq z) (cond (not p) (e ∷ without es y) (without es y)) ≡ cond r None (cond q (Some e.1) (lookup (bytes_eq z) es))
    by later true true true ep eq er = later ∙ ap (λ b. cond b None (lookup (bytes_eq z) es)) er
    by later true false true ep eq er = later ∙ ap (λ b. cond b None (lookup (bytes_eq z) es)) er
    by later true true false ep eq er = absurd (true≢false (sym (ap (bytes_eq z) (same_names y e.0 ep) ∙ eq) ∙ er))
    by later true false false ep eq er = later ∙ ap (λ b. cond b None (lookup (bytes_eq z) es)) er
    by later false true true ep eq er = absurd (true≢false (sym (ap (λ n. bytes_eq n e.0) (sym (same_names z y er)) ∙ eq) ∙ ep))
    by later false true false ep eq er = ap (λ b. cond b (Some e.1) (lookup (bytes_eq z) (without es y))) eq
    by later false false true ep eq er = ap (λ b. cond b (Some e.1) (lookup (bytes_eq z) (without es y))) eq ∙ later ∙ ap (λ b. cond b None (lookup (bytes_eq z) es)) er
    by later false false false ep eq er = ap (λ b. cond b (Some e.1) (lookup (bytes_eq z) (without es y))) eq ∙ later ∙ ap (λ b. cond b None (lookup (bytes_eq z) es)) er

module _ (g : Adjacency) (u v : Name) where
  pub weight_of-unlinked : (a b : Name) → weight_of (each_row (unlinked u v) g) a b ≡ cond (are u v a b) None (weight_of g a b)
  weight_of-unlinked a b =
      ap (λ o. lookup (bytes_eq b) (unwrap_or o [])) (lookup-each_row (unlinked u v) g a) ∙ by (bytes_eq a u) (bytes_eq a v) refl refl (lookup (bytes_eq a) g)
    where
      none : (c : Bool) → ◌≡◌ {A = Option ℕ} None (cond c None None)
      none true = refl
      none false = refl

      by : (p q : Bool) → bytes_eq a u ≡ p → bytes_eq a v ≡ q → (o : Option Neighbors)
          → lookup (bytes_eq b) (unwrap_or (option_map (λ es. cond p (without es v) (cond q (without es u) es)) o) []) ≡ cond (p && bytes_eq b v || q && bytes_eq b u) None (lookup (bytes_eq b) (unwrap_or o []))
      by p q s t None = none (p && bytes_eq b v || q && bytes_eq b u)
      by true true s t (Some es) = lookup-without es v b ∙ ap (λ c. cond c None (lookup (bytes_eq b) es)) (either (bytes_eq b v) (bytes_eq b u) (ap (bytes_eq b) (sym (same_names a v t) ∙ same_names a u s)))
      by true false s t (Some es) = lookup-without es v b ∙ ap (λ c. cond c None (lookup (bytes_eq b) es)) (sym (or-false (bytes_eq b v)))
      by false true s t (Some es) = lookup-without es u b
      by false false s t (Some es) = refl

  pub both_ways-unlinked : ((a b : Name) → weight_of g a b ≡ weight_of g b a) → (a b : Name) → weight_of (each_row (unlinked u v) g) a b ≡ weight_of (each_row (unlinked u v) g) b a
  both_ways-unlinked before a b =
      weight_of-unlinked a b ∙ ap (λ c. cond c None (weight_of g a b)) (are-swap u v a b) ∙ ap (cond (are u v b a) None) (before a b) ∙ sym (weight_of-unlinked b a)

-- ---- how many edges

filter-without-walked : (walked : List Name) (es : Neighbors) (y : Name) → among walked y ≡ true → filter (λ e. not (among walked e.0)) (without es y) ≡ filter (λ e. not (among walked e.0)) es
filter-without-walked walked [] y h = refl
filter-without-walked walked (e ∷ es) y h = by (filter-without-walked walked es y h) (bytes_eq y e.0) refl
  where
    by : filter (λ e. not (among walked e.0)) (without es y) ≡ filter (λ e. not (among walked e.0)) es → (b : Bool) → bytes_eq y e.0 ≡ b
        → filter (λ e. not (among walked e.0)) (cond (not b) (e ∷ without es y) (without es y)) ≡ cond (not (among walked e.0)) (e ∷ filter (λ e. not (among walked e.0)) es) (filter (λ e. not (among walked e.0)) es)
    by later true t = later ∙ sym (ap (λ b. cond (not b) (e ∷ filter (λ e. not (among walked e.0)) es) (filter (λ e. not (among walked e.0)) es)) (subst (λ n. among walked n ≡ true) (same_names y e.0 t) h))
    by later false t = ap (λ es'. cond (not (among walked e.0)) (e ∷ es') es') later

pub none_without : (es : Neighbors) (y : Name) → AllByRecursion (λ k. bytes_eq y k ≡ false) (keys_of es) → without es y ≡ es
none_without [] y h = refl
none_without (e ∷ es) y h = ap (λ b. cond (not b) (e ∷ without es y) (without es y)) h.0 ∙ ap (λ t. e ∷ t) (none_without es y h.1)

length-filter-without : (walked : List Name) (es : Neighbors) (y : Name) → among walked y ≡ false → IsDistinct bytes_eq (keys_of es) → is_some (lookup (bytes_eq y) es) ≡ true → length (filter (λ e. not (among walked e.0)) es) ≡ length (filter (λ e. not (among walked e.0)) (without es y)) + 1
length-filter-without walked [] y h differ there = cc
length-filter-without walked (e ∷ es) y h differ there = by (length-filter-without walked es y h (IsDistinct-tail bytes_eq e.0 (keys_of es) differ)) (bytes_eq y e.0) refl there
  where
    count : (b : Bool) → length (filter (λ e. not (among walked e.0)) es) ≡ length (filter (λ e. not (among walked e.0)) (without es y)) + 1 → length (cond (not b) (e ∷ filter (λ e. not (among walked e.0)) es) (filter (λ e. not (among walked e.0)) es)) ≡ length (cond (not b) (e ∷ filter (λ e. not (among walked e.0)) (without es y)) (filter (λ e. not (among walked e.0)) (without es y))) + 1
    count true p = p
    count false p = omega (arith, p)

    by : (is_some (lookup (bytes_eq y) es) ≡ true → length (filter (λ e. not (among walked e.0)) es) ≡ length (filter (λ e. not (among walked e.0)) (without es y)) + 1) → (b : Bool) → bytes_eq y e.0 ≡ b → is_some (cond b (Some e.1) (lookup (bytes_eq y) es)) ≡ true
        → length (cond (not (among walked e.0)) (e ∷ filter (λ e. not (among walked e.0)) es) (filter (λ e. not (among walked e.0)) es)) ≡ length (filter (λ e. not (among walked e.0)) (cond (not b) (e ∷ without es y) (without es y))) + 1
    by later true t s =
        let same : without es y ≡ es = none_without es y (subst (λ n. AllByRecursion (λ k. bytes_eq n k ≡ false) (keys_of es)) (sym (same_names y e.0 t)) (IsDistinct-head bytes_eq e.0 (keys_of es) differ)) in
        let unwalked : among walked e.0 ≡ false = subst (λ n. among walked n ≡ false) (same_names y e.0 t) h in
        ap (λ b. length (cond (not b) (e ∷ filter (λ e. not (among walked e.0)) es) (filter (λ e. not (among walked e.0)) es))) unwalked
        ∙ omega (arith, ap (λ fs. length (filter (λ (e : Name × ℕ). not (among walked e.0)) fs)) same)
    by later false t s = count (among walked e.0) (later s)

module _ (u v : Name) where
  walked_first : (walked : List Name) (g : Adjacency) → among walked u ≡ true → AllByRecursion (λ n. bytes_eq u n ≡ false) (names g) → edges_after walked (each_row (unlinked u v) g) ≡ edges_after walked g
  walked_first walked [] h apart = refl
  walked_first walked (r ∷ rs) h apart =
      ap (λ t. at_row walked r.0 (unlinked u v r.0 r.1) ++ t) (walked_first (r.0 ∷ walked) rs (or_right (bytes_eq u r.0) (among walked u) h) apart.1)
      ∙ ap (λ es. map (λ e. (r.0, e.0, e.1)) es ++ edges_after (r.0 ∷ walked) rs) (by (bytes_eq r.0 u) (bytes_eq r.0 v) refl)
    where
      by : (p q : Bool) → bytes_eq r.0 u ≡ p → filter (λ e. not (among walked e.0)) (cond p (without r.1 v) (cond q (without r.1 u) r.1)) ≡ filter (λ e. not (among walked e.0)) r.1
      by true q s = absurd (true≢false (sym s ∙ bytes_eq-swap r.0 u ∙ apart.0))
      by false true s = filter-without-walked walked r.1 u h
      by false false s = refl

  walked_second : (walked : List Name) (g : Adjacency) → among walked v ≡ true → AllByRecursion (λ n. bytes_eq v n ≡ false) (names g) → edges_after walked (each_row (unlinked u v) g) ≡ edges_after walked g
  walked_second walked [] h apart = refl
  walked_second walked (r ∷ rs) h apart =
      ap (λ t. at_row walked r.0 (unlinked u v r.0 r.1) ++ t) (walked_second (r.0 ∷ walked) rs (or_right (bytes_eq v r.0) (among walked v) h) apart.1)
      ∙ ap (λ es. map (λ e. (r.0, e.0, e.1)) es ++ edges_after (r.0 ∷ walked) rs) (by (bytes_eq r.0 u) (bytes_eq r.0 v) refl)
    where
      by : (p q : Bool) → bytes_eq r.0 v ≡ q → filter (λ e. not (among walked e.0)) (cond p (without r.1 v) (cond q (without r.1 u) r.1)) ≡ filter (λ e. not (among walked e.0)) r.1
      by true q s = filter-without-walked walked r.1 v h
      by false true s = absurd (true≢false (sym s ∙ bytes_eq-swap r.0 v ∙ apart.0))
      by false false s = refl

  pub one_edge_fewer : (walked : List Name) (g : Adjacency) → among walked u ≡ false → among walked v ≡ false → IsDistinct bytes_eq (names g) → IsDistinct bytes_eq (keys_of (neighbors g u)) → IsDistinct bytes_eq (keys_of (neighbors g v)) → is_some (weight_of g u v) ≡ true → is_some (weight_of g v u) ≡ true
      → length (edges_after walked g) ≡ length (edges_after walked (each_row (unlinked u v) g)) + 1
  one_edge_fewer walked [] nu nv differ du dv auv avu = cc
  one_edge_fewer walked (r ∷ rs) nu nv differ du dv auv avu =
      by (one_edge_fewer (r.0 ∷ walked) rs) (bytes_eq u r.0) (bytes_eq v r.0) refl refl du dv auv avu
    where
      by : (among (r.0 ∷ walked) u ≡ false → among (r.0 ∷ walked) v ≡ false → IsDistinct bytes_eq (names rs) → IsDistinct bytes_eq (keys_of (neighbors rs u)) → IsDistinct bytes_eq (keys_of (neighbors rs v)) → is_some (weight_of rs u v) ≡ true → is_some (weight_of rs v u) ≡ true → length (edges_after (r.0 ∷ walked) rs) ≡ length (edges_after (r.0 ∷ walked) (each_row (unlinked u v) rs)) + 1)
          → (p q : Bool) → bytes_eq u r.0 ≡ p → bytes_eq v r.0 ≡ q
          → IsDistinct bytes_eq (keys_of (unwrap_or (cond p (Some r.1) (lookup (bytes_eq u) rs)) [])) → IsDistinct bytes_eq (keys_of (unwrap_or (cond q (Some r.1) (lookup (bytes_eq v) rs)) []))
          → is_some (lookup (bytes_eq v) (unwrap_or (cond p (Some r.1) (lookup (bytes_eq u) rs)) [])) ≡ true → is_some (lookup (bytes_eq u) (unwrap_or (cond q (Some r.1) (lookup (bytes_eq v) rs)) [])) ≡ true
          → length (at_row walked r.0 r.1 ++ edges_after (r.0 ∷ walked) rs) ≡ length (at_row walked r.0 (unlinked u v r.0 r.1) ++ edges_after (r.0 ∷ walked) (each_row (unlinked u v) rs)) + 1
      by later true q s t du dv auv avu =
          let here : unlinked u v r.0 r.1 ≡ without r.1 v = ap (λ b. cond b (without r.1 v) (cond (bytes_eq r.0 v) (without r.1 u) r.1)) (bytes_eq-swap r.0 u ∙ s) in
          let behind = walked_first (r.0 ∷ walked) rs (ap (λ b. b || among walked u) s) (subst (λ n. AllByRecursion (λ m. bytes_eq n m ≡ false) (names rs)) (sym (same_names u r.0 s)) (IsDistinct-head bytes_eq r.0 (names rs) differ)) in
          length-at_row walked r.0 (without r.1 v) r.1 (edges_after (r.0 ∷ walked) rs) (length-filter-without walked r.1 v nv du auv)
          ∙ ap (λ n. n + 1) (sym (ap length (ap (λ es. at_row walked r.0 es ++ edges_after (r.0 ∷ walked) (each_row (unlinked u v) rs)) here ∙ ap (λ t. at_row walked r.0 (without r.1 v) ++ t) behind)))
      by later false true s t du dv auv avu =
          let here : unlinked u v r.0 r.1 ≡ without r.1 u = ap (λ b. cond b (without r.1 v) (cond (bytes_eq r.0 v) (without r.1 u) r.1)) (bytes_eq-swap r.0 u ∙ s) ∙ ap (λ b. cond b (without r.1 u) r.1) (bytes_eq-swap r.0 v ∙ t) in
          let behind = walked_second (r.0 ∷ walked) rs (ap (λ b. b || among walked v) t) (subst (λ n. AllByRecursion (λ m. bytes_eq n m ≡ false) (names rs)) (sym (same_names v r.0 t)) (IsDistinct-head bytes_eq r.0 (names rs) differ)) in
          length-at_row walked r.0 (without r.1 u) r.1 (edges_after (r.0 ∷ walked) rs) (length-filter-without walked r.1 u nu dv avu)
          ∙ ap (λ n. n + 1) (sym (ap length (ap (λ es. at_row walked r.0 es ++ edges_after (r.0 ∷ walked) (each_row (unlinked u v) rs)) here ∙ ap (λ t. at_row walked r.0 (without r.1 u) ++ t) behind)))
      by later false false s t du dv auv avu =
          let here : unlinked u v r.0 r.1 ≡ r.1 = ap (λ b. cond b (without r.1 v) (cond (bytes_eq r.0 v) (without r.1 u) r.1)) (bytes_eq-swap r.0 u ∙ s) ∙ ap (λ b. cond b (without r.1 u) r.1) (bytes_eq-swap r.0 v ∙ t) in
          let behind = later (ap (λ b. b || among walked u) s ∙ nu) (ap (λ b. b || among walked v) t ∙ nv) (IsDistinct-tail bytes_eq r.0 (names rs) differ) du dv auv avu in
          omega (
            arith,
            behind,
            length-append (at_row walked r.0 r.1) (edges_after (r.0 ∷ walked) (each_row (unlinked u v) rs)),
            length-append (at_row walked r.0 r.1) (edges_after (r.0 ∷ walked) rs),
            ap (λ es. length (at_row walked r.0 es ++ edges_after (r.0 ∷ walked) (each_row (unlinked u v) rs))) here,
          )

-- ---- a link goes

all_without : (x y : Name) (es : Neighbors) → AllByRecursion (λ k. bytes_eq x k ≡ false) (keys_of es) → AllByRecursion (λ k. bytes_eq x k ≡ false) (keys_of (without es y))
all_without x y [] h = tt
all_without x y (e ∷ es) h = elim (bytes_eq y e.0) as (λ b. AllByRecursion (λ k. bytes_eq x k ≡ false) (keys_of {K = Name} {X = ℕ} (cond (not b) (e ∷ without es y) (without es y)))) [ true ↦ all_without x y es h.1 | false ↦ (h.0, all_without x y es h.1) ]

pub IsDistinct-without : (es : Neighbors) (y : Name) → IsDistinct bytes_eq (keys_of es) → IsDistinct bytes_eq (keys_of (without es y))
IsDistinct-without [] y h = h
IsDistinct-without (e ∷ es) y h =
    elim (bytes_eq y e.0) as (λ b. IsDistinct bytes_eq (keys_of {K = Name} {X = ℕ} (cond (not b) (e ∷ without es y) (without es y))))
    [ true ↦ IsDistinct-without es y (IsDistinct-tail bytes_eq e.0 (keys_of es) h) | false ↦ IsDistinct-cons bytes_eq e.0 (keys_of (without es y)) (all_without e.0 y es (IsDistinct-head bytes_eq e.0 (keys_of es) h)) (IsDistinct-without es y (IsDistinct-tail bytes_eq e.0 (keys_of es) h)) ]

IsDistinct-unlinked : (u v : Name) (x : Name) (es : Neighbors) → IsDistinct bytes_eq (keys_of es) → IsDistinct bytes_eq (keys_of (unlinked u v x es))
IsDistinct-unlinked u v x es h = by (bytes_eq x u) (bytes_eq x v)
  where
    by : (p q : Bool) → IsDistinct bytes_eq (keys_of (cond p (without es v) (cond q (without es u) es)))
    by true q = IsDistinct-without es v h
    by false true = IsDistinct-without es u h
    by false false = h

weights-without : (es : Neighbors) (y : Name) → list_all (λ (e : Name × ℕ). is_weight e.1) es ≡ true → list_all (λ (e : Name × ℕ). is_weight e.1) (without es y) ≡ true
weights-without [] y h = refl
weights-without (e ∷ es) y h = let b = and_parts (is_weight e.1) (list_all (λ (e : Name × ℕ). is_weight e.1) es) h in
    elim (bytes_eq y e.0) as (λ c. list_all (λ (e : Name × ℕ). is_weight e.1) (cond (not c) (e ∷ without es y) (without es y)) ≡ true) [ true ↦ weights-without es y b.1 | false ↦ and_from _ _ b.0 (weights-without es y b.1) ]

rows-unlinked : (u v : Name) (g : Adjacency) → list_all is_row g ≡ true → list_all is_row (each_row (unlinked u v) g) ≡ true
rows-unlinked u v [] h = refl
rows-unlinked u v (r ∷ rs) h =
    let b = and_parts (is_row r) (list_all is_row rs) h in
    let n = and_parts (is_name r.0) (list_all (λ (e : Name × ℕ). is_weight e.1) r.1) b.0 in
    and_from _ _ (and_from _ _ n.0 (by (bytes_eq r.0 u) (bytes_eq r.0 v) n.1)) (rows-unlinked u v rs b.1)
  where
    by : (p q : Bool) → list_all (λ (e : Name × ℕ). is_weight e.1) r.1 ≡ true → list_all (λ (e : Name × ℕ). is_weight e.1) (cond p (without r.1 v) (cond q (without r.1 u) r.1)) ≡ true
    by true q h = weights-without r.1 v h
    by false true h = weights-without r.1 u h
    by false false h = h

pub kept-without_edge : (g : Adjacency) (n : ℕ) (u v : Name) → IsDistinct bytes_eq (names g) → is_some (weight_of g u v) ≡ true → IsKept g n → IsKept (without_edge g u v) (n - 1)
kept-without_edge g n u v differ there kept =
    let back : is_some (weight_of g v u) ≡ true = ap is_some (kept.both_ways v u) ∙ there in
    let fewer : length (edges g) ≡ length (edges (without_edge g u v)) + 1 = one_edge_fewer u v [] g refl refl differ (kept.neighbors_differ u) (kept.neighbors_differ v) there back in
    record {
      both_ways = both_ways-unlinked g u v kept.both_ways;
      neighbors_differ = differ-each_row (unlinked u v) g (IsDistinct-unlinked u v) kept.neighbors_differ;
      rows = rows-unlinked u v g kept.rows;
      node_limit = subst (λ k. k ≤ MAX_NODES) (sym (length-map g (λ (r : Name × Neighbors). (r.0, unlinked u v r.0 r.1)))) kept.node_limit;
      counted = omega (arith, kept.counted, fewer);
      edge_limit = omega (arith, kept.edge_limit);
    }

pub some_edge : (g : Adjacency) (n : ℕ) (u v : Name) → IsDistinct bytes_eq (names g) → is_some (weight_of g u v) ≡ true → IsKept g n → 1 ≤ n
some_edge g n u v differ there kept =
    let back : is_some (weight_of g v u) ≡ true = ap is_some (kept.both_ways v u) ∙ there in
    omega (arith, kept.counted, one_edge_fewer u v [] g refl refl differ (kept.neighbors_differ u) (kept.neighbors_differ v) there back)

pub kept-empty : IsKept [] 0
unfolding IsDistinct
kept-empty = record { both_ways = λ x y. refl; neighbors_differ = λ x. tt; rows = refl; node_limit = omega arith; counted = refl; edge_limit = omega arith }
