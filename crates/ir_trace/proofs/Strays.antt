-- Hops that a table leads through one by one, and the first that it does not lead to.
use Rattle.std.proofs.Common.{◌≡◌, ◌<◌, ◌≤◌, ◌+◌, ◌-◌, ℕ, zero, suc, true, false, List, [], ◌∷◌, length, take, get_or, nat_lt, Option, Some, refl, sym, ap, subst, ◌∙◌, arith, inl, inr}
use Rattle.std.specs.List.{list_all}
use Rattle.std.proofs.lemmas.Bool.{and_parts, and_from, ltb-true, both_ways, cases_eq}
use Rattle.std.proofs.lemmas.List.{length-take-le, get_or-take, take_all}
use Rattle.std.proofs.lemmas.Option.{slice_get-get_or}
use Rattle.ir_model.specs.Topology.{node_count}
use Rattle.ir_model.specs.Plan.{Plan, IsPlan}
use Rattle.ir_core.specs.Sound.{last_of}
use Rattle.ir_trace.specs.Checked.{IsFrontOfWalk}
use Rattle.ir_trace.specs.Inspect.{is_node, next_of, leads_through}
use Rattle.ir_trace.proofs.Inspecting.{last_at}
use Rattle.ir_trace.proofs.Fronts.{is_node_at, front}
use Rattle.ir_trace.specs.Leaving.{IsStray}

-- each of some nodes is one
pub node_at : (n : ℕ) (hops : List ℕ) → list_all (λ u. nat_lt u n) hops ≡ true → (i : ℕ) → i < length hops → get_or hops i 0 < n
node_at n [] all i lt = absurd (omega arith)
node_at n (u ∷ rest) all zero lt = ltb-true u n (and_parts (nat_lt u n) (list_all (λ x. nat_lt x n) rest) all).0
node_at n (u ∷ rest) all (suc i) lt = node_at n rest (and_parts (nat_lt u n) (list_all (λ x. nat_lt x n) rest) all).1 i (omega arith)

-- the table leads from each of the first i hops but the last to the one after it
pub record AreSteps (t : Plan) (d : ℕ) (hops : List ℕ) (i : ℕ) : Type 0 where
  pub step : (k : ℕ) → suc k < i → next_of t (get_or hops k 0) d ≡ Some (get_or hops (suc k) 0)

-- one hop more
pub steps_more : (t : Plan) (d : ℕ) (hops : List ℕ) (i : ℕ) → 1 ≤ i → AreSteps t d hops i → next_of t (get_or hops (i - 1) 0) d ≡ Some (get_or hops i 0) → AreSteps t d hops (i + 1)
steps_more t d hops i pos are next = record {
  step = λ k lt. elim (cases_eq (suc k) i) [
    | inl e ↦ (let before : i - 1 ≡ k = omega (arith, e) in
        subst (λ (j : ℕ). next_of t (get_or hops k 0) d ≡ Some (get_or hops j 0)) (sym e)
        (subst (λ (j : ℕ). next_of t (get_or hops j 0) d ≡ Some (get_or hops i 0)) before next))
    | inr ne ↦ are.step k (omega arith)
  ];
}

led_through : (t : Plan) (d u : ℕ) (rest : List ℕ) (n : ℕ) → n ≤ length rest → ((k : ℕ) → k < n → next_of t (get_or (u ∷ rest) k 0) d ≡ Some (get_or rest k 0)) → leads_through t d u (take n rest) ≡ true
led_through t d u [] zero le h = refl
led_through t d u (v ∷ rest) zero le h = refl
led_through t d u [] (suc n) le h = absurd (omega arith)
led_through t d u (v ∷ rest) (suc n) le h =
    and_from (is_node (next_of t u d) v) (leads_through t d v (take n rest)) (is_node_at (next_of t u d) v (h 0 (omega arith))) (led_through t d v rest n (omega arith) (λ k lt. h (suc k) (omega arith)))

module _ (t : Plan) (is : IsPlan t) (d : ℕ) (d_in : d < node_count t.topology) where
  -- hops that the table leads through are a front of the walk
  pub front_of_steps : (hops : List ℕ) → list_all (λ u. nat_lt u (node_count t.topology)) hops ≡ true → (i : ℕ) → 1 ≤ i → i ≤ length hops → AreSteps t d hops i → IsFrontOfWalk t d (take i hops)
  front_of_steps hops all zero pos le are = absurd (omega arith)
  front_of_steps [] all (suc n) pos le are = absurd (omega arith)
  front_of_steps (u ∷ rest) all (suc n) pos le are =
      (front t is d d_in u (take n rest) (node_at (node_count t.topology) (u ∷ rest) all 0 (omega arith)) (led_through t d u rest n (omega arith) (λ k lt. are.step k (omega arith)))).front

  -- the first hop that it does not lead to
  pub stray_from : (hops : List ℕ) → list_all (λ u. nat_lt u (node_count t.topology)) hops ≡ true → (i : ℕ) → 1 ≤ i → i < length hops → AreSteps t d hops i
      → (next : Option ℕ) → next ≡ next_of t (get_or hops (i - 1) 0) d → is_node next (get_or hops i 0) ≡ false → IsStray t d hops i next
  stray_from hops all i pos lt are next e other =
      let len : length (take i hops) ≡ i = length-take-le i hops (omega arith) in
      let last : get_or (take i hops) (length (take i hops) - 1) 0 ≡ last_of (take i hops) = last_at (take i hops) (omega (arith, len)) in
      let back : length (take i hops) - 1 ≡ i - 1 = omega (arith, len) in
      let same : get_or hops (i - 1) 0 ≡ last_of (take i hops) = sym (get_or-take i hops (i - 1) 0 (omega arith)) ∙ ap (λ (j : ℕ). get_or (take i hops) j 0) (sym back) ∙ last in
      record {
        front = front_of_steps hops all i pos (omega arith) are;
        next_is = e ∙ ap (λ (u : ℕ). next_of t u d) same;
        hop = get_or hops i 0;
        hop_is = slice_get-get_or hops i 0 lt;
        other = λ found. both_ways (is_node next (get_or hops i 0)) other (is_node_at next (get_or hops i 0) found);
      }

  -- all hops
  pub front_of_all : (hops : List ℕ) → list_all (λ u. nat_lt u (node_count t.topology)) hops ≡ true → (i : ℕ) → 1 ≤ i → i ≡ length hops → AreSteps t d hops i → IsFrontOfWalk t d hops
  front_of_all hops all i pos e are = subst (IsFrontOfWalk t d) (take_all i hops (omega arith)) (front_of_steps hops all i pos (omega arith) are)
