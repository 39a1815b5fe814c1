-- A net's nodes in their order stay so when one of them turns.
use Rattle.std.proofs.Common.{◌≡◌, ◌≢◌, ℕ, ⊎_elim, List, set, Some, sym, subst, ◌∙◌}
use Rattle.std.specs.Prelude.{slice_get}
use Rattle.std.proofs.lemmas.List.{length-set}
use Rattle.ir_core.proofs.Lists.{get_set}
use Rattle.ir_worker.specs.declared.node.Node.{Node}
use Rattle.ir_worker.specs.Same.{IsSameNode}
use Rattle.ir_control.specs.declared.net.Net.{Net}
use Rattle.ir_control.specs.Parts.{IsNodeOf, AreFirstNodes}
use Rattle.ir_control.proofs.Returned.{node_back}

pub first_turned : (net : Net) (count : ℕ) (nodes : List Node) (u : ℕ) (a b : Node) → AreFirstNodes net count nodes → slice_get nodes u ≡ Some a → IsSameNode a b → AreFirstNodes net count (set nodes u b)
first_turned net count nodes u a b first at same = record {
  count_is = length-set nodes u b ∙ first.count_is;
  each = λ j n got. ⊎_elim
      (λ (x : (j ≡ u) × (b ≡ n)). (let was = first.each u a at in
      subst (λ (m : Node). IsNodeOf net m × (m.index ≡ j)) x.1 (node_back net a b was.0 same, same.index ∙ was.1 ∙ sym x.0)))
      (λ (x : (j ≢ u) × (slice_get nodes j ≡ Some n)). first.each j n x.1) (get_set nodes u j b n got);
}
