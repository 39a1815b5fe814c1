-- No packet of a report has had more restamps than the net allows.
use Rattle.std.specs.Prelude.{◌≡◌, ℕ, ◌+◌, ◌≤◌, Bool, true, false, ltb, cond, List, All, length, slice_index_or, sum_by}
use Rattle.std.proofs.Common.{refl, arith, subst}
use Rattle.std.proofs.Math.Logic.{∥∥₁_elim}
use Rattle.std.proofs.Math.Nat.{ℕ_set}
use Rattle.std.proofs.lemmas.Bool.{ltb-false, ltb-true}
use Rattle.std.proofs.lemmas.Option.{get_or_from_slice_get, slice_get_within}
use Rattle.std.proofs.lemmas.List.Sums.{get_or-le-sum_by}
use Rattle.ir_worker.specs.declared.node.Node.{Node}
use Rattle.ir_worker.specs.declared.parcel.Outcome.{Outcome}
use Rattle.ir_worker.specs.Seen.{Parcel}
use Rattle.ir_control.specs.declared.net.Net.{Net}
use Rattle.ir_control.specs.Parts.{IsNodeOf}
use Rattle.ir_control.specs.Rowed.{node_settled}
use Rattle.ir_control.specs.Told.{Told, outcome_told, told_left}
use Rattle.ir_control.specs.Whole.{IsFew}
use Rattle.ir_control.proofs.Wiring.{sum_nothing}

abbrev flag : Bool → ℕ
flag b = cond b 1 0

-- 1 for what has had more restamps than so many
abbrev too_many : ℕ → Told → ℕ
too_many limit t = flag (ltb limit (length t.packet.restamps))

none_for : (limit n : ℕ) → n ≤ limit → flag (ltb limit n) ≡ 0
none_for limit n le = go (ltb limit n) refl where
  go : (b : Bool) → ltb limit n ≡ b → flag b ≡ 0
  go true e = absurd (let lt = ltb-true limit n e in omega (arith, lt, le))
  go false e = refl

few_for : (limit n : ℕ) → flag (ltb limit n) ≡ 0 → n ≤ limit
few_for limit n none = go (ltb limit n) refl none where
  go : (b : Bool) → ltb limit n ≡ b → flag b ≡ 0 → n ≤ limit
  go true e one_is = absurd (omega (arith, one_is))
  go false e none = (let le = ltb-false limit n e in omega (arith, le))

module _ (net : Net) where
  abbrev outcome_over : Outcome → ℕ
  outcome_over o = too_many net.restamps (outcome_told o)

  node_none : (n : Node) → IsNodeOf net n → node_settled outcome_over n ≡ 0
  node_none n is = sum_nothing outcome_over n.outcomes.items (λ p o got.
      (let lt = slice_get_within n.outcomes.items p o got in
      let at : slice_index_or n.outcomes.items p o ≡ o = get_or_from_slice_get n.outcomes.items p o o got in
      ∥∥₁_elim n.of_net (ℕ_set (outcome_over o) 0) (λ all.
      (let few : length o.packet.restamps ≤ n.restamps = subst (λ (x : Outcome). length x.packet.restamps ≤ n.restamps) at (all p o lt).few in
      none_for net.restamps (length o.packet.restamps) (subst (λ (k : ℕ). length o.packet.restamps ≤ k) is.restamps few)))))

  pub few_told : (nodes : List Node) → All (IsNodeOf net) nodes → (left : List Parcel) → All (λ x. IsFew net.restamps x) left → (outcomes : List Outcome)
      → ((w : Told → ℕ) → sum_by (λ o. w (outcome_told o)) outcomes ≡ sum_by (node_settled (λ o. w (outcome_told o))) nodes + sum_by (λ x. w (told_left x)) left)
      → All (λ o. length o.packet.restamps ≤ net.restamps) outcomes
  few_told nodes each left few outcomes told_are = λ k d lt.
      (let settled : sum_by (node_settled outcome_over) nodes ≡ 0 = sum_nothing (node_settled outcome_over) nodes (λ p n got.
      (let within = slice_get_within nodes p n got in
      let at : slice_index_or nodes p n ≡ n = get_or_from_slice_get nodes p n n got in
      node_none n (subst (λ (m : Node). IsNodeOf net m) at (each p n within)))) in
      let rest : sum_by (λ (x : Parcel). too_many net.restamps (told_left x)) left ≡ 0 = sum_nothing (λ (x : Parcel). too_many net.restamps (told_left x)) left (λ p x got.
      (let within = slice_get_within left p x got in
      let at : slice_index_or left p x ≡ x = get_or_from_slice_get left p x x got in
      none_for net.restamps (length x.packet.restamps) (subst (λ (y : Parcel). IsFew net.restamps y) at (few p x within)))) in
      let all = told_are (too_many net.restamps) in
      let part = get_or-le-sum_by outcome_over outcomes k d lt in
      few_for net.restamps (length (slice_index_or outcomes k d).packet.restamps) (omega (arith, settled, rest, all, part)))
