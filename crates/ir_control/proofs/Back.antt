-- The nodes of a net come back as its nodes, and none is missing.
use Rattle.std.specs.Prelude.{◌≡◌, ℕ, zero, suc, ◌<◌, ◌≤◌, List, [], ◌∷◌, All, Option, Some, None, MatchOption, length, map, sum_by, slice_get, slice_index_or}
use Rattle.std.proofs.Common.{arith, ap, ◌∙◌, subst}
use Rattle.std.proofs.lemmas.Option.{same_Some, none-some, slice_get-get_or, slice_get_within, get_or_from_slice_get}
use Rattle.std.proofs.lemmas.List.{length-map}
use Rattle.std.proofs.lemmas.List.Sums.{sum_by-cons}
use Rattle.ir_worker.specs.declared.node.Node.{Node}
use Rattle.ir_worker.specs.declared.serving.NoMemory.{NoMemory}
use Rattle.ir_worker.specs.Same.{IsSameNode}
use Rattle.ir_control.specs.declared.net.Net.{Net}
use Rattle.ir_control.specs.Parts.{AreFirstNodes, node_number}
use Rattle.ir_control.specs.Slots.{hit}
use Rattle.ir_control.proofs.Rowing.{slot_get}
use Rattle.ir_control.proofs.Returned.{node_back}
use Rattle.ir_control.proofs.Slotted.{counts_own}
use Rattle.ir_worker.specs.declared.node.Turn.{Turn}
use Rattle.ir_worker.specs.Seen.{Parcel}
use Rattle.ir_worker.specs.Turns.{AreTurns, IsUntouched}
use Rattle.ir_links.specs.Ends.{Word}
use Rattle.ir_epochs.specs.Looks.{Look}
use Rattle.ir_control.specs.Lives.{AreSameNodes, HaveTurned}
use Rattle.ir_control.specs.Runs.{CameBack}

-- what is in a list weighs no more than the list
weighs_at : {X : Type 0} (w : X → ℕ) (xs : List X) (k : ℕ) (x : X) → slice_get xs k ≡ Some x → w x ≤ sum_by w xs
weighs_at w [] k x got = absurd (none-some x got)
weighs_at {X} w (y ∷ xs) zero x got =
    let same : w y ≡ w x = ap w (same_Some y x got) in
    omega (arith, same, sum_by-cons w y xs)
weighs_at w (y ∷ xs) (suc k) x got =
    let rest = weighs_at w xs k x got in
    omega (arith, rest, sum_by-cons w y xs)

module _ (net : Net) (n : ℕ) where
  -- no number is missing
  pub all_there : (nodes : List Node) → AreFirstNodes net n nodes → (u : ℕ) → u < n → 0 < sum_by (hit node_number u) nodes
  all_there [] first u lt = absurd (let count = first.count_is in omega (arith, lt, count))
  all_there (d ∷ nodes) first u lt =
      let count = first.count_is in
      let got = slice_get-get_or (d ∷ nodes) u d (omega (arith, lt, count)) in
      let x : Node = slice_index_or (d ∷ nodes) u d in
      let own = counts_own node_number x u (first.each u x got).1 in
      let most = weighs_at (hit node_number u) (d ∷ nodes) u x got in
      omega (arith, own, most)

  -- the nodes that came back
  module _ (was_full was_empty : Word Parcel) (looked : Look Parcel) (may_end : ℕ → ℕ → Type 0) (nodes : List Node) (back : List (Node × Option NoMemory)) (first : AreFirstNodes net n nodes) (came : CameBack was_full was_empty looked may_end nodes back) where
    pub first_back : AreFirstNodes net n (map (λ b. b.0) back)
    first_back = record {
      count_is = (let a = first.count_is in let b = came.count in omega (arith, a, b, length-map back (λ (b : Node × Option NoMemory). b.0)));
      each = λ u x got.
          (let there = slot_get (λ (b : Node × Option NoMemory). b.0) back u x got in
          let within = slice_get_within back u there.0 there.1 in
          let count = came.count in
          let lt : u < length nodes = omega (arith, within, count) in
          let was : Node = slice_index_or nodes u x in
          let is = first.each u was (slice_get-get_or nodes u x lt) in
          let same : IsSameNode was x = subst (λ (m : Node). IsSameNode was m) (ap (λ (b : Node × Option NoMemory). b.0) (get_or_from_slice_get back u there.0 there.0 there.1) ∙ there.2) (came.each u x there.0 lt).1 in
          (node_back net was x is.0 same, same.index ∙ is.1));
    }

    pub same_back : AreSameNodes nodes (map (λ b. b.0) back)
    same_back = record {
      count = (let b = came.count in omega (arith, b, length-map back (λ (b : Node × Option NoMemory). b.0)));
      each = λ k d e lt.
          (let count = came.count in
          let many = length-map back (λ (b : Node × Option NoMemory). b.0) in
          let got = slice_get-get_or (map (λ (b : Node × Option NoMemory). b.0) back) k e (omega (arith, lt, count, many)) in
          let x : Node = slice_index_or (map (λ (b : Node × Option NoMemory). b.0) back) k e in
          let there = slot_get (λ (b : Node × Option NoMemory). b.0) back k x got in
          subst (λ (m : Node). IsSameNode (slice_index_or nodes k d) m) (ap (λ (b : Node × Option NoMemory). b.0) (get_or_from_slice_get back k there.0 there.0 there.1) ∙ there.2) (came.each k d there.0 lt).1);
    }

    -- where none found no memory, each made turns
    pub turned_back : All (λ (b : Node × Option NoMemory). b.1 ≡ None) back → HaveTurned was_full was_empty looked may_end nodes (map (λ b. b.0) back)
    turned_back served k d e lt =
        let count = came.count in
        let many = length-map back (λ (b : Node × Option NoMemory). b.0) in
        let got = slice_get-get_or (map (λ (b : Node × Option NoMemory). b.0) back) k e (omega (arith, lt, count, many)) in
        let x : Node = slice_index_or (map (λ (b : Node × Option NoMemory). b.0) back) k e in
        let there = slot_get (λ (b : Node × Option NoMemory). b.0) back k x got in
        let was : Node = slice_index_or nodes k d in
        let is : Node × Option NoMemory = slice_index_or back k there.0 in
        let made = (came.each k d there.0 lt).0 in
        let kept = subst (λ (short : Option NoMemory). MatchOption short (AreTurns was_full was_empty looked was made.0 is.0 × may_end was.index (length made.0)) (λ _. (m : Node) × AreTurns was_full was_empty looked was made.0 m × IsUntouched m is.0))
        (served k there.0 (omega (arith, lt, count))) made.1 in
        subst (λ (m : Node). (turns : List Turn) × AreTurns was_full was_empty looked was turns m × may_end was.index (length turns))
        (ap (λ (b : Node × Option NoMemory). b.0) (get_or_from_slice_get back k there.0 there.0 there.1) ∙ there.2) (made.0, kept.0, kept.1)
