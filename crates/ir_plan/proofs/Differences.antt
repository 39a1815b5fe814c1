-- The difference of two nodes is determined by the ports of a table, and by columns that stand for them.
use Rattle.std.proofs.Common.{◌≡◌, ℕ, zero, suc, ◌+◌, ◌<◌, ◌≤◌, List, [], ◌∷◌, ◌++◌, length, cond, Bool, true, false, not, Option, Some, None, refl, ap, sym, ◌∙◌, subst, inl, inr, arith}
use Rattle.std.specs.Prelude.{count_by, slice_index, slice_index_or, unwrap_or, ◌==◌}
use Rattle.std.specs.List.{range_with_len}
use Rattle.std.proofs.lemmas.Bool.{cases_eq, ne_eqb, not_from_false}
use Rattle.std.proofs.lemmas.List.Sums.{count_by-le-length, sum_by-cons, sum_by_push}
use Rattle.std.proofs.lemmas.List.FromFn.{length-range_with_len}
use Rattle.std.proofs.lemmas.Option.{slice_get_within}
use Rattle.ir_model.specs.Topology.{Topology, IsTopology, node_count, ports_of}
use Rattle.ir_model.proofs.Walks.{degree_bound}
use Rattle.ir_model.specs.Table.{IsShortestTable}
use Rattle.ir_plan.specs.Tour.{differ, difference}
use Rattle.ir_plan.specs.Distances.{column_port, IsPortColumn, AreColumns, AreDistances, unlike}
use Rattle.ir_plan.specs.declared.distances.TheConstants.{NO_PORT}

-- ---- counts over a range

-- tests that agree pass as many
counts_alike : (p q : ℕ → Bool) (k a n : ℕ) → a + k ≤ n → ((u : ℕ) → u < n → p u ≡ q u) → count_by p (range_with_len a k) ≡ count_by q (range_with_len a k)
counts_alike p q zero a n le same = refl
counts_alike p q (suc k) a n le same =
    sum_by-cons (λ u. cond (p u) 1 0) a (range_with_len (a + 1) k)
    ∙ ap (λ (b : Bool). cond b 1 0 + count_by p (range_with_len (a + 1) k)) (same a (omega arith))
    ∙ ap (λ (m : ℕ). cond (q a) 1 0 + m) (counts_alike p q k (a + 1) n (omega arith) same)
    ∙ sym (sum_by-cons (λ u. cond (q u) 1 0) a (range_with_len (a + 1) k))

range_push : (k a j : ℕ) → a + k ≡ j → range_with_len a (suc k) ≡ range_with_len a k ++ (j ∷ [])
range_push zero a j e = let is : a ≡ j = omega (arith, e) in ap (λ (m : ℕ). m ∷ []) is
range_push (suc k) a j e = ap (λ (xs : List ℕ). a ∷ xs) (range_push k (a + 1) j (omega (arith, e)))

-- one number more
pub count_next : (p : ℕ → Bool) (i : ℕ) → count_by p (range_with_len 0 (i + 1)) ≡ count_by p (range_with_len 0 i) + cond (p i) 1 0
count_next p i =
    let more : i + 1 ≡ suc i = omega arith in
    ap (λ (k : ℕ). count_by p (range_with_len 0 k)) more
    ∙ ap (count_by p) (range_push i 0 i (omega arith))
    ∙ sum_by_push (λ u. cond (p u) 1 0) (range_with_len 0 i) i

pub count_yes : (p : ℕ → Bool) (i count next : ℕ) → count ≡ count_by p (range_with_len 0 i) → p i ≡ true → next ≡ count + 1 → next ≡ count_by p (range_with_len 0 (i + 1))
count_yes p i count next so_far here e = e ∙ ap (λ (k : ℕ). k + 1) so_far ∙ ap (λ (b : Bool). count_by p (range_with_len 0 i) + cond b 1 0) (sym here) ∙ sym (count_next p i)

pub count_no : (p : ℕ → Bool) (i count next : ℕ) → count ≡ count_by p (range_with_len 0 i) → p i ≡ false → next ≡ count → next ≡ count_by p (range_with_len 0 (i + 1))
count_no p i count next so_far here e =
    let none : count_by p (range_with_len 0 i) ≡ count_by p (range_with_len 0 i) + 0 = omega arith in
    e ∙ so_far ∙ none ∙ ap (λ (b : Bool). count_by p (range_with_len 0 i) + cond b 1 0) (sym here) ∙ sym (count_next p i)

pub count_few : (p : ℕ → Bool) (i : ℕ) → count_by p (range_with_len 0 i) ≤ i
count_few p i = omega (arith, count_by-le-length p (range_with_len 0 i), length-range_with_len 0 i)

-- ---- differences

-- tables that agree on the nodes have the same differences
pub difference_same : (n : ℕ) (table other : ℕ → ℕ → Option ℕ) → ((u d : ℕ) → u < n → d < n → table u d ≡ other u d) → (a b : ℕ) → a < n → b < n → difference n table a b ≡ difference n other a b
unfolding difference
difference_same n table other same a b ha hb =
    counts_alike (λ u. differ (table u a) (table u b)) (λ u. differ (other u a) (other u b)) n 0 n (omega arith)
    (λ u hu. ap (λ (p : Option ℕ). differ p (table u b)) (same u a hu ha) ∙ ap (λ (q : Option ℕ). differ (other u a) q) (same u b hu hb))

-- ports in columns differ where the ports do
codes_differ : (p q : Option ℕ) → ((k : ℕ) → p ≡ Some k → k < NO_PORT) → ((k : ℕ) → q ≡ Some k → k < NO_PORT) → not (column_port p == column_port q) ≡ differ p q
codes_differ None None small few = refl
codes_differ None (Some k) small few = not_from_false _ (ne_eqb NO_PORT k (λ e. omega (arith, e, few k refl)))
codes_differ (Some k) None small few = not_from_false _ (ne_eqb k NO_PORT (λ e. omega (arith, e, small k refl)))
codes_differ (Some k) (Some l) small few = refl

pub unlike_is : (n : ℕ) (table : ℕ → ℕ → Option ℕ) (a b : ℕ) (column other : List ℕ) → ((u d k : ℕ) → u < n → d < n → table u d ≡ Some k → k < NO_PORT) → a < n → b < n
    → IsPortColumn n table a column → IsPortColumn n table b other → unlike column other ≡ difference n table a b
unfolding difference unlike
unlike_is n table a b column other small ha hb one two =
    ap (λ (m : ℕ). count_by (λ u. not (slice_index column u == slice_index other u)) (range_with_len 0 m)) one.every
    ∙ counts_alike (λ u. not (slice_index column u == slice_index other u)) (λ u. differ (table u a) (table u b)) n 0 n (omega arith)
    (λ u hu.
    ap (λ (x : ℕ). not (x == slice_index other u)) (one.port u hu)
    ∙ ap (λ (y : ℕ). not (column_port (table u a) == y)) (two.port u hu)
    ∙ codes_differ (table u a) (table u b) (λ k e. small u a k hu ha e) (λ k e. small u b k hu hb e))

-- the ports of a shortest table are below what stands for none
pub ports_small : (net : Topology) → IsTopology net → (table : ℕ → ℕ → Option ℕ) → IsShortestTable net table → (u d k : ℕ) → u < node_count net → d < node_count net → table u d ≡ Some k → k < NO_PORT
ports_small net ok table is u d k hu hd e =
    elim (cases_eq u d) [
      | inl same ↦ absurd (cc (sym e, subst (λ (x : ℕ). table x d ≡ None) (sym same) (is.own d hd)))
      | inr ne ↦
          let p = is.port u d hu hd ne in
          let same : k ≡ p.0 = cc (sym e, p.1) in
          let within : p.0 < length (ports_of net u) = slice_get_within (ports_of net u) p.0 p.2.nearer.0 p.2.nearer.2 in
          omega (arith, same, within, degree_bound net ok u, ok.few_nodes)
    ]

-- what stands for a port, as it is taken from a plan
pub column_port_is : (p : Option ℕ) → unwrap_or p NO_PORT ≡ column_port p
column_port_is None = refl
column_port_is (Some k) = refl

-- the distances that are counted over the columns of a shortest table are its differences
pub distances_differ : (net : Topology) → IsTopology net → (table : ℕ → ℕ → Option ℕ) → IsShortestTable net table → (columns rows : List (List ℕ)) → AreColumns (node_count net) table columns → AreDistances columns rows
    → (a b : ℕ) → a < node_count net → b < node_count net → slice_index (slice_index_or rows a []) b ≡ difference (node_count net) table a b
distances_differ net ok table is columns rows are made a b ha hb =
    let every = are.every in
    (made.each a (omega arith)).each b (omega arith)
    ∙ unlike_is (node_count net) table a b (slice_index_or columns a []) (slice_index_or columns b []) (ports_small net ok table is) ha hb (are.each a ha) (are.each b hb)
