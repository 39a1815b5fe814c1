-- The chosen landmarks are nodes.
use Rattle.std.proofs.Common.{ℕ, ◌<◌, List, length, ap, sym, ◌∙◌, subst, inl, inr, arith}
use Rattle.std.specs.Prelude.{slice_index}
use Rattle.std.proofs.lemmas.Bool.{cases_eq}
use Rattle.std.proofs.lemmas.List.{get_or_default}
use Rattle.ir_model.specs.Topology.{Topology, node_count}
use Rattle.ir_model.specs.Landmark.{AreLandmarks, AreMostLinked}

-- the chosen landmarks are nodes
pub linked_are_landmarks : (net : Topology) (root count : ℕ) (landmarks : List ℕ) → root < node_count net → AreMostLinked net root count landmarks → AreLandmarks net landmarks
linked_are_landmarks net root count landmarks in_net are = record {
  some = are.some;
  nodes = λ k d lt.
      let here : slice_index landmarks k < node_count net = at k lt in
      subst (λ (x : ℕ). x < node_count net) (get_or_default landmarks k 0 d lt) here;
}
  where
    at : (k : ℕ) → k < length landmarks → slice_index landmarks k < node_count net
    at k lt =
        elim (cases_eq k 0) [
          | inl e ↦ subst (λ (x : ℕ). x < node_count net) (sym (ap (slice_index landmarks) e ∙ are.root_first)) in_net
          | inr ne ↦ (are.next k (omega (arith, ne)) lt).node
        ]
