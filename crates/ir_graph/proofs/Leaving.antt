-- What is true of each graph stays true where a node leaves: its links go one by one, and then its row.
use Rattle.std.proofs.Common.{◌≡◌, ◌≤◌, ◌-◌, ℕ, zero, suc, Bool, true, false, not, cond, ◌||◌, List, [], ◌∷◌, ◌++◌, map, filter, length, Option, Some, None, is_some, option_map, unwrap_or, refl, sym, ap, subst, ◌∙◌, bytes_eq, true≢false, arith}
use Rattle.std.specs.Map.{lookup, keys_of}
use Rattle.std.specs.List.{AllByRecursion, IsDistinct, list_all}
use Rattle.std.proofs.lemmas.List.{nil_from_length}
use Rattle.std.proofs.lemmas.Map.Keys.{IsDistinct-head, IsDistinct-tail}
use Rattle.std.proofs.lemmas.Option.{none-some}
use Rattle.std.proofs.lemmas.Bool.{and_parts, and_from}
use Rattle.ir_model.specs.Graph.{Name, Neighbors, Adjacency, names, among, neighbors, weight_of, edges_after, without, unlinked, without_edge, without_node, is_row}
use Rattle.ir_model.proofs.Names.{same_names, bytes_eq-same, bytes_eq-swap}
use Rattle.ir_model.proofs.Graphs.{names-each_row, lookup-each_row}
use Rattle.ir_graph.specs.Kept.{IsKept}
use Rattle.ir_graph.proofs.Keeping.{at_row}
use Rattle.ir_graph.proofs.Removing.{kept-without_edge, some_edge, none_without}

abbrev others : Name → Adjacency → Adjacency
others x g = filter (λ r. not (bytes_eq x r.0)) g

-- ---- a link of the node more or less does not matter to what is left

without-twice : (es : Neighbors) (x : Name) → without (without es x) x ≡ without es x
without-twice [] x = refl
without-twice (e ∷ es) x = by (bytes_eq x e.0) refl (without-twice es x)
  where
    by : (b : Bool) → bytes_eq x e.0 ≡ b → without (without es x) x ≡ without es x → without (cond (not b) (e ∷ without es x) (without es x)) x ≡ cond (not b) (e ∷ without es x) (without es x)
    by true t later = later
    by false t later = ap (λ b. cond (not b) (e ∷ without (without es x) x) (without (without es x) x)) t ∙ ap (λ t. e ∷ t) later

same_left : (x y : Name) (g : Adjacency) → without_node (without_edge g x y) x ≡ without_node g x
same_left x y [] = refl
same_left x y (r ∷ rs) = by (bytes_eq x r.0) (bytes_eq r.0 y) refl (same_left x y rs)
  where
    row : (q : Bool) → without (cond q (without r.1 x) r.1) x ≡ without r.1 x
    row true = without-twice r.1 x
    row false = refl

    by : (b : Bool) (q : Bool) → bytes_eq x r.0 ≡ b → without_node (without_edge rs x y) x ≡ without_node rs x
        → map {B = Name × Neighbors} (λ r. (r.0, without r.1 x)) (cond (not b) ((r.0, unlinked x y r.0 r.1) ∷ others x (without_edge rs x y)) (others x (without_edge rs x y))) ≡ map {B = Name × Neighbors} (λ r. (r.0, without r.1 x)) (cond (not b) (r ∷ others x rs) (others x rs))
    by true q t later = later
    by false q t later =
        let here : unlinked x y r.0 r.1 ≡ cond (bytes_eq r.0 y) (without r.1 x) r.1 = ap (λ b. cond b (without r.1 y) (cond (bytes_eq r.0 y) (without r.1 x) r.1)) (bytes_eq-swap r.0 x ∙ t) in
        ap (λ es. (r.0, without es x) ∷ without_node (without_edge rs x y) x) here ∙ ap (λ es. (r.0, es) ∷ without_node (without_edge rs x y) x) (row (bytes_eq r.0 y)) ∙ ap (λ t. (r.0, without r.1 x) ∷ t) later

-- ---- a node without links

-- no row has x
abbrev NoneHas : Name → Adjacency → Type 0
NoneHas x g = AllByRecursion (λ (r : Name × Neighbors). lookup (bytes_eq x) r.1 ≡ None) g

no_node : (g : Adjacency) (a : Name) → AllByRecursion (λ n. bytes_eq a n ≡ false) (names g) → lookup (bytes_eq a) g ≡ None
no_node [] a h = refl
no_node (r ∷ rs) a h = ap (λ b. cond b (Some r.1) (lookup (bytes_eq a) rs)) h.0 ∙ no_node rs a h.1

none_has : (x : Name) (g : Adjacency) → IsDistinct bytes_eq (names g) → ((a : Name) → weight_of g a x ≡ None) → NoneHas x g
none_has x [] differ h = tt
none_has x (r ∷ rs) differ h = (
  sym (ap (λ b. lookup (bytes_eq x) (unwrap_or (cond b (Some r.1) (lookup (bytes_eq r.0) rs)) [])) (bytes_eq-same r.0)) ∙ h r.0,
  none_has x rs (IsDistinct-tail bytes_eq r.0 (names rs) differ) (λ a. by a (bytes_eq a r.0) refl (h a)),
)
  where
    by : (a : Name) (b : Bool) → bytes_eq a r.0 ≡ b → lookup (bytes_eq x) (unwrap_or (cond b (Some r.1) (lookup (bytes_eq a) rs)) []) ≡ None → weight_of rs a x ≡ None
    by a true t e = ap (λ o. lookup (bytes_eq x) (unwrap_or o [])) (no_node rs a (subst (λ n. AllByRecursion (λ m. bytes_eq n m ≡ false) (names rs)) (sym (same_names a r.0 t)) (IsDistinct-head bytes_eq r.0 (names rs) differ)))
    by a false t e = e

none_gone : (es : Neighbors) (x : Name) → lookup (bytes_eq x) es ≡ None → without es x ≡ es
none_gone [] x h = refl
none_gone (e ∷ es) x h = by (bytes_eq x e.0) (none_gone es x) h
  where
    by : (b : Bool) → (lookup (bytes_eq x) es ≡ None → without es x ≡ es) → cond b (Some e.1) (lookup (bytes_eq x) es) ≡ None → cond (not b) (e ∷ without es x) (without es x) ≡ e ∷ es
    by true later h = absurd (none-some e.1 (sym h))
    by false later h = ap (λ t. e ∷ t) (later h)

left-others : (x : Name) (g : Adjacency) → NoneHas x g → without_node g x ≡ others x g
left-others x [] h = refl
left-others x (r ∷ rs) h = by (bytes_eq x r.0) (left-others x rs h.1)
  where
    by : (b : Bool) → without_node rs x ≡ others x rs → map {B = Name × Neighbors} (λ r. (r.0, without r.1 x)) (cond (not b) (r ∷ others x rs) (others x rs)) ≡ cond (not b) (r ∷ others x rs) (others x rs)
    by true later = later
    by false later = ap (λ es. (r.0, es) ∷ without_node rs x) (none_gone r.1 x h.0) ∙ ap (λ t. r ∷ t) later

-- the row of x is empty
abbrev Bare : Name → Adjacency → Type 0
Bare x g = AllByRecursion (λ (r : Name × Neighbors). bytes_eq x r.0 ≡ true → r.1 ≡ []) g

not_there : (x : Name) (g : Adjacency) → AllByRecursion (λ n. bytes_eq x n ≡ false) (names g) → Bare x g
not_there x [] h = tt
not_there x (r ∷ rs) h = (λ e. absurd (true≢false (sym e ∙ h.0)), not_there x rs h.1)

bare : (x : Name) (g : Adjacency) → IsDistinct bytes_eq (names g) → neighbors g x ≡ [] → Bare x g
bare x [] differ h = tt
bare x (r ∷ rs) differ h = by (bytes_eq x r.0) refl h (bare x rs (IsDistinct-tail bytes_eq r.0 (names rs) differ))
  where
    by : (b : Bool) → bytes_eq x r.0 ≡ b → unwrap_or (cond b (Some r.1) (lookup (bytes_eq x) rs)) [] ≡ [] → (neighbors rs x ≡ [] → Bare x rs) → Bare x (r ∷ rs)
    by true t e later = (λ _. e, not_there x rs (subst (λ n. AllByRecursion (λ m. bytes_eq n m ≡ false) (names rs)) (sym (same_names x r.0 t)) (IsDistinct-head bytes_eq r.0 (names rs) differ)))
    by false t e later = (λ s. absurd (true≢false (sym s ∙ t)), later e)

same_filter : (x : Name) (p q : Name → Bool) → ((z : Name) → bytes_eq x z ≡ false → p z ≡ q z) → (es : Neighbors) → lookup (bytes_eq x) es ≡ None → filter (λ (e : Name × ℕ). p e.0) es ≡ filter (λ (e : Name × ℕ). q e.0) es
same_filter x p q agree [] h = refl
same_filter x p q agree (e ∷ es) h = by (bytes_eq x e.0) refl h (same_filter x p q agree es)
  where
    by : (b : Bool) → bytes_eq x e.0 ≡ b → cond b (Some e.1) (lookup (bytes_eq x) es) ≡ None → (lookup (bytes_eq x) es ≡ None → filter (λ (e : Name × ℕ). p e.0) es ≡ filter (λ (e : Name × ℕ). q e.0) es)
        → cond (p e.0) (e ∷ filter (λ (e : Name × ℕ). p e.0) es) (filter (λ (e : Name × ℕ). p e.0) es) ≡ cond (q e.0) (e ∷ filter (λ (e : Name × ℕ). q e.0) es) (filter (λ (e : Name × ℕ). q e.0) es)
    by true t h later = absurd (none-some e.1 (sym h))
    by false t h later = ap (λ b. cond b (e ∷ filter (λ (e : Name × ℕ). p e.0) es) (filter (λ (e : Name × ℕ). p e.0) es)) (agree e.0 t) ∙ ap (λ fs. cond (q e.0) (e ∷ fs) fs) (later h)

edges_after-others : (x : Name) (g : Adjacency) (walked others_walked : List Name) → ((z : Name) → bytes_eq x z ≡ false → among others_walked z ≡ among walked z) → NoneHas x g → Bare x g → edges_after others_walked (others x g) ≡ edges_after walked g
edges_after-others x [] walked ow agree none b = refl
edges_after-others x (r ∷ rs) walked ow agree none b = by (bytes_eq x r.0) refl
    (λ w o a. edges_after-others x rs w o a none.1 b.1)
  where
    by : (t : Bool) → bytes_eq x r.0 ≡ t → ((w o : List Name) → ((z : Name) → bytes_eq x z ≡ false → among o z ≡ among w z) → edges_after o (others x rs) ≡ edges_after w rs)
        → edges_after ow (cond (not t) (r ∷ others x rs) (others x rs)) ≡ at_row walked r.0 r.1 ++ edges_after (r.0 ∷ walked) rs
    by true t later =
        later (r.0 ∷ walked) ow (λ z n. agree z n ∙ ap (λ c. c || among walked z) (sym (bytes_eq-swap z r.0 ∙ ap (λ m. bytes_eq m z) (sym (same_names x r.0 t)) ∙ n)))
        ∙ sym (ap (λ es. at_row walked r.0 es ++ edges_after (r.0 ∷ walked) rs) (b.0 t))
    by false t later =
        ap (λ es. map (λ (e : Name × ℕ). record { 0 = r.0; 1 = e.0; 2 = e.1 }) es ++ edges_after (r.0 ∷ ow) (others x rs)) (same_filter x (λ z. not (among ow z)) (λ z. not (among walked z)) (λ z n. ap not (agree z n)) r.1 none.0)
        ∙ ap (λ es. at_row walked r.0 r.1 ++ es) (later (r.0 ∷ walked) (r.0 ∷ ow) (λ z n. ap (λ c. bytes_eq z r.0 || c) (agree z n)))

lookup-others : (x a : Name) (g : Adjacency) → lookup (bytes_eq a) (others x g) ≡ cond (bytes_eq a x) None (lookup (bytes_eq a) g)
lookup-others x a [] = elim (bytes_eq a x) as (λ b. ◌≡◌ {A = Option Neighbors} None (cond b None None)) [ true ↦ refl | false ↦ refl ]
lookup-others x a (r ∷ rs) = by (bytes_eq x r.0) (bytes_eq a r.0) (bytes_eq a x) refl refl refl (lookup-others x a rs)
  where
    by : (p q s : Bool) → bytes_eq x r.0 ≡ p → bytes_eq a r.0 ≡ q → bytes_eq a x ≡ s → lookup (bytes_eq a) (others x rs) ≡ cond (bytes_eq a x) None (lookup (bytes_eq a) rs)
        → lookup (bytes_eq a) (cond (not p) (r ∷ others x rs) (others x rs)) ≡ cond s None (cond q (Some r.1) (lookup (bytes_eq a) rs))
    by true true true ep eq es later = later ∙ ap (λ b. cond b None (lookup (bytes_eq a) rs)) es
    by true false true ep eq es later = later ∙ ap (λ b. cond b None (lookup (bytes_eq a) rs)) es
    by true true false ep eq es later = absurd (true≢false (sym (ap (bytes_eq a) (same_names x r.0 ep) ∙ eq) ∙ es))
    by true false false ep eq es later = later ∙ ap (λ b. cond b None (lookup (bytes_eq a) rs)) es
    by false true true ep eq es later = absurd (true≢false (sym (ap (λ n. bytes_eq n r.0) (sym (same_names a x es)) ∙ eq) ∙ ep))
    by false true false ep eq es later = ap (λ b. cond b (Some r.1) (lookup (bytes_eq a) (others x rs))) eq
    by false false true ep eq es later = ap (λ b. cond b (Some r.1) (lookup (bytes_eq a) (others x rs))) eq ∙ later ∙ ap (λ b. cond b None (lookup (bytes_eq a) rs)) es
    by false false false ep eq es later = ap (λ b. cond b (Some r.1) (lookup (bytes_eq a) (others x rs))) eq ∙ later ∙ ap (λ b. cond b None (lookup (bytes_eq a) rs)) es

neighbors-others : (x : Name) (g : Adjacency) → neighbors g x ≡ [] → (a : Name) → neighbors (others x g) a ≡ neighbors g a
neighbors-others x g h a = ap (λ o. unwrap_or o []) (lookup-others x a g) ∙ by (bytes_eq a x) refl
  where
    by : (b : Bool) → bytes_eq a x ≡ b → unwrap_or (cond b None (lookup (bytes_eq a) g)) [] ≡ neighbors g a
    by true t = sym (ap (neighbors g) (same_names a x t) ∙ h)
    by false t = refl

rows-others : (x : Name) (g : Adjacency) → list_all is_row g ≡ true → list_all is_row (others x g) ≡ true
rows-others x [] h = refl
rows-others x (r ∷ rs) h = let b = and_parts (is_row r) (list_all is_row rs) h in
    elim (bytes_eq x r.0) as (λ c. list_all is_row (cond (not c) (r ∷ others x rs) (others x rs)) ≡ true) [ true ↦ rows-others x rs b.1 | false ↦ and_from _ _ b.0 (rows-others x rs b.1) ]

length-others : (x : Name) (g : Adjacency) → length (others x g) ≤ length g
length-others x [] = omega arith
length-others x (r ∷ rs) = elim (bytes_eq x r.0) as (λ c. length (cond (not c) (r ∷ others x rs) (others x rs)) ≤ suc (length rs)) [ true ↦ omega (arith, length-others x rs) | false ↦ omega (arith, length-others x rs) ]

kept-bare : (g : Adjacency) (n : ℕ) (x : Name) → IsDistinct bytes_eq (names g) → neighbors g x ≡ [] → IsKept g n → IsKept (without_node g x) n
kept-bare g n x differ h kept =
    let none : NoneHas x g = none_has x g differ (λ a. kept.both_ways a x ∙ ap (lookup (bytes_eq a)) h) in
    let same = neighbors-others x g h in
    subst (λ m. IsKept m n) (sym (left-others x g none)) (record {
      both_ways = λ a b. ap (lookup (bytes_eq b)) (same a) ∙ kept.both_ways a b ∙ sym (ap (lookup (bytes_eq a)) (same b));
      neighbors_differ = λ a. subst (λ es. IsDistinct bytes_eq (keys_of es)) (sym (same a)) (kept.neighbors_differ a);
      rows = rows-others x g kept.rows;
      node_limit = omega (arith, length-others x g, kept.node_limit);
      counted = kept.counted ∙ sym (ap length (edges_after-others x g [] [] (λ z n. refl) none (bare x g differ h)));
      edge_limit = kept.edge_limit;
    })

pub kept-without_node : (k : ℕ) (g : Adjacency) (n : ℕ) (x : Name) → IsDistinct bytes_eq (names g) → length (neighbors g x) ≡ k → IsKept g n → (k ≤ n) × IsKept (without_node g x) (n - k)
kept-without_node zero g n x differ h kept = (omega arith, subst (IsKept (without_node g x)) (omega arith) (kept-bare g n x differ (nil_from_length (neighbors g x) h) kept))
kept-without_node (suc k) g n x differ h kept = by (λ m n d l kept. kept-without_node k m n x d l kept) (neighbors g x) refl h
  where
    at_x : (y : Name) (o : Option Neighbors) → unwrap_or (option_map (unlinked x y x) o) [] ≡ without (unwrap_or o []) y
    at_x y None = refl
    at_x y (Some es) = ap (λ b. cond b (without es y) (cond (bytes_eq x y) (without es x) es)) (bytes_eq-same x)

    by : ((m : Adjacency) (n : ℕ) → IsDistinct bytes_eq (names m) → length (neighbors m x) ≡ k → IsKept m n → (k ≤ n) × IsKept (without_node m x) (n - k))
        → (es : Neighbors) → neighbors g x ≡ es → length es ≡ suc k → (suc k ≤ n) × IsKept (without_node g x) (n - suc k)
    by later [] eq l = absurd (omega (arith, l))
    by later (e ∷ es) eq l =
        let y : Name = e.0 in
        let there : is_some (weight_of g x y) ≡ true = ap (λ fs. is_some (lookup (bytes_eq e.0) fs)) eq ∙ ap (λ b. is_some (cond b (Some e.1) (lookup (bytes_eq e.0) es))) (bytes_eq-same e.0) in
        let m : Adjacency = without_edge g x y in
        let kept_m : IsKept m (n - 1) = kept-without_edge g n x y differ there kept in
        let differ_m : IsDistinct bytes_eq (names m) = subst (IsDistinct bytes_eq) (sym (names-each_row (unlinked x y) g)) differ in
        let row_differ : IsDistinct bytes_eq (keys_of (e ∷ es)) = subst (λ fs. IsDistinct bytes_eq (keys_of fs)) eq (kept.neighbors_differ x) in
        let left : neighbors m x ≡ es =
        ap (λ o. unwrap_or o []) (lookup-each_row (unlinked x y) g x) ∙ at_x y (lookup (bytes_eq x) g) ∙ ap (λ fs. without fs y) eq
        ∙ ap (λ b. cond (not b) (e ∷ without es e.0) (without es e.0)) (bytes_eq-same e.0) ∙ none_without es e.0 (IsDistinct-head bytes_eq e.0 (keys_of es) row_differ) in
        let some : 1 ≤ n = some_edge g n x y differ there kept in
        let size : length (neighbors m x) ≡ k = omega (arith, ap length left, l) in
        let rest = later m (n - 1) differ_m size kept_m in
        let number : n - 1 - k ≡ n - suc k = omega arith in
        (omega (arith, rest.0, some), subst (λ q. IsKept q (n - suc k)) (same_left x y g) (subst (IsKept (without_node m x)) number rest.1))
