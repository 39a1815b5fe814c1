-- Nodes that are given places, one after the other.
use Rattle.std.proofs.Common.{◌≡◌, ◌≢◌, ℕ, zero, suc, ◌+◌, ◌<◌, ◌≤◌, Bool, true, false, List, [], ◌∷◌, length, set, replicate, eqb, refl, ap, sym, subst, ◌∙◌, arith, ⊎_elim, length-set, get_or-set_same, get_or-set_other, slice_index_or}
use Rattle.std.specs.Prelude.{slice_index}
use Rattle.std.specs.List.{list_any}
use Rattle.std.proofs.lemmas.Bool.{cases_eq, cases_lt, ne_eqb, eqb-true, or_cases}
use Rattle.std.proofs.lemmas.Map.Steps.{length-le_from_distinct_below}
use Rattle.std.proofs.lemmas.Map.Keys.{IsDistinct-from_apart}
use Rattle.std.proofs.lemmas.List.{length-replicate, get_or-replicate, get_or_past}
use Rattle.ir_numbering.specs.Numbering.{IsListing}

-- the first i places hold nodes, each once
pub record StartsWell (n i : ℕ) (order : List ℕ) : Type 0 where
  pub nodes : (a : ℕ) → a < i → slice_index order a < n
  pub once : (a b : ℕ) → a < b → b < i → slice_index order a ≢ slice_index order b

-- the first i places are well, and their nodes are marked
pub record IsPlacing (n i : ℕ) (order : List ℕ) (placed : List Bool) : Type 0 where
  pub every : length placed ≡ n
  pub well : StartsWell n i order
  pub marked : (v : ℕ) → slice_index_or placed v false ≡ true → (a : ℕ) × (a < i) × (slice_index order a ≡ v)
  pub all : (a : ℕ) → a < i → slice_index_or placed (slice_index order a) false ≡ true

pub placing_start : (n : ℕ) (order : List ℕ) → IsPlacing n 0 order (replicate n false)
placing_start n order = record {
  every = length-replicate n false;
  well = record { nodes = λ a lt. absurd (omega (arith, lt)); once = λ a b less lt. absurd (omega (arith, lt)) };
  marked = λ v is. absurd (cc (unmarked v, is));
  all = λ a lt. absurd (omega (arith, lt));
}
  where
    unmarked : (v : ℕ) → slice_index_or (replicate n false) v false ≡ false
    unmarked v = ⊎_elim (λ (lt : v < n). get_or-replicate n v false false lt)
        (λ (ge : n ≤ v). get_or_past (replicate n false) v false (let len : length (replicate n false) ≡ n = length-replicate n false in omega (arith, len, ge)))
        (cases_lt v n)

-- one more node gets its place
pub placing_more : (n i u : ℕ) (order : List ℕ) (placed : List Bool) → u ≡ slice_index order i → u < n → slice_index_or placed u false ≡ false
    → IsPlacing n i order placed → IsPlacing n (i + 1) order (set placed u true)
placing_more n i u order placed is u_in free so_far =
    let u_in' : u < length placed = omega (arith, u_in, so_far.every) in
    let here : slice_index_or (set placed u true) u false ≡ true = get_or-set_same placed u true false u_in' in
    record {
      every = length-set placed u true ∙ so_far.every;
      well = record {
        nodes = λ a lt. ⊎_elim (λ (less : a < i). so_far.well.nodes a less)
            (λ (ge : i ≤ a). let same : a ≡ i = omega (arith, lt, ge) in let e : slice_index order a ≡ u = ap (slice_index order) same ∙ sym is in omega (arith, e, u_in)) (cases_lt a i);
        once = λ a b less lt. ⊎_elim (λ (before : b < i). so_far.well.once a b less before)
            (λ (ge : i ≤ b). let same : b ≡ i = omega (arith, lt, ge) in
            λ e. let was : slice_index_or placed (slice_index order a) false ≡ true = so_far.all a (omega (arith, less, same)) in
            let to : slice_index order a ≡ u = e ∙ ap (slice_index order) same ∙ sym is in
            cc (free, was, to)) (cases_lt b i);
      };
      marked = λ v at_v. ⊎_elim (λ (e : v ≡ u). (i, omega arith, sym is ∙ sym e))
          (λ (ne : v ≢ u). let m = so_far.marked v (sym (get_or-set_other placed u v true false ne) ∙ at_v) in (m.0, omega (arith, m.1), m.2)) (cases_eq v u);
      all = λ a lt. ⊎_elim
          (λ (e : slice_index order a ≡ u). subst (λ (k : ℕ). slice_index_or (set placed u true) k false ≡ true) (sym e) here)
          (λ (ne : slice_index order a ≢ u). ⊎_elim
          (λ (less : a < i). get_or-set_other placed u (slice_index order a) true false ne ∙ so_far.all a less)
          (λ (ge : i ≤ a). let same : a ≡ i = omega (arith, lt, ge) in absurd (ne (ap (slice_index order) same ∙ sym is))) (cases_lt a i))
          (cases_eq (slice_index order a) u);
    }

in_range : (n q : ℕ) (order : List ℕ) → ((a : ℕ) → a < length order → slice_index order a < n) → list_any (eqb q) order ≡ true → q < n
in_range n q [] each any = absurd (cc any)
in_range n q (x ∷ xs) each any =
    ⊎_elim (λ here. let e : q ≡ x = eqb-true q x here in let lt : x < n = each 0 (omega arith) in omega (arith, e, lt))
    (λ later. in_range n q xs (λ a lt. each (suc a) (omega (arith, lt))) later)
    (or_cases (eqb q x) (list_any (eqb q) xs) any)

-- what is at a place, whatever would be past the end
get_or_within : (xs : List ℕ) (k c d : ℕ) → k < length xs → slice_index_or xs k c ≡ slice_index_or xs k d
get_or_within [] k c d lt = absurd (omega (arith, lt))
get_or_within (x ∷ xs) zero c d lt = refl
get_or_within (x ∷ xs) (suc k) c d lt = get_or_within xs k c d (omega (arith, lt))

-- each node has one place, where all places are well and as many as the nodes
pub placing_done : (n i : ℕ) (order : List ℕ) (placed : List Bool) → i ≡ length order → n ≤ length order → IsPlacing n i order placed → IsListing n order
placing_done n i order placed all enough so_far =
    let well : StartsWell n (length order) order = subst (λ (k : ℕ). StartsWell n k order) all so_far.well in
    let apart : (a b d : ℕ) → a < b → b < length order → slice_index_or order a d ≢ slice_index_or order b d = λ a b d less lt e.
    well.once a b less lt (get_or_within order a 0 d (omega (arith, less, lt)) ∙ e ∙ get_or_within order b d 0 lt) in
    let short : length order ≤ n = length-le_from_distinct_below order n
    (IsDistinct-from_apart eqb order (λ a b d less lt. ne_eqb (slice_index_or order a d) (slice_index_or order b d) (apart a b d less lt)))
    (λ q any. in_range n q order well.nodes any) in
    record {
      every = omega (arith, short, enough);
      nodes = λ k d lt. let e : slice_index_or order k d ≡ slice_index order k = get_or_within order k d 0 lt in omega (arith, e, well.nodes k lt);
      once = λ a b d less lt. apart a b d less lt;
    }
