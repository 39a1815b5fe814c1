-- Labels, and the ports to parents.
use Rattle.std.proofs.Common.{◌≡◌, ◌≢◌, ℕ, ◌<◌, List, get_or, refl, ap, sym, ◌∙◌, subst, arith, Option, Some, None}
use Rattle.std.specs.Prelude.{slice_index, IsSomeAnd}
use Rattle.ir_model.specs.Topology.{Topology, node_count, IsTopology}
use Rattle.ir_model.specs.Walk.{Linked}
use Rattle.ir_model.specs.Numbering.{neighbors_of, IsDepthFirst}
use Rattle.ir_model.specs.Subtree.{IsNested}
use Rattle.ir_model.specs.Plan.{AreLabels}
use Rattle.ir_numbering.specs.Numbering.{IsPortTo, IsParentPort, AreParentPorts, AreSoundNumbers}
use Rattle.ir_numbering.proofs.Nested.{depth_first_nests}
use Rattle.ir_numbering.proofs.Ways.{child_linked}

module _ (net : Topology) (ok : IsTopology net) (root : ℕ) (order parents labels : List ℕ)
    (is : IsDepthFirst (neighbors_of net) (node_count net) root order parents) (l : AreLabels (node_count net) order labels) where
  -- the node with the label
  node_at : (u a : ℕ) → u < node_count net → slice_index labels u ≡ a → slice_index order a ≡ u
  node_at u a h e = ap (λ (k : ℕ). get_or order k 0) (sym e) ∙ l.there u h

  pub parent_linked_to : (u : ℕ) → u < node_count net → slice_index labels u ≢ 0 → Linked net u (slice_index order (slice_index parents (slice_index labels u)))
  parent_linked_to u h ne =
      let label = l.label u h in
      let to = child_linked net ok root order parents is (slice_index labels u) (omega arith) label in
      subst (λ (x : ℕ). Linked net x (slice_index order (slice_index parents (slice_index labels u)))) (l.there u h) to

  pub first_has_none : (u : ℕ) → u < node_count net → slice_index labels u ≡ 0 → IsParentPort net order parents u None
  first_has_none u h e = record {
    first = λ f. refl;
    others = λ ne. absurd (ne (sym (node_at u 0 h e)));
  }

  pub other_has_port : (u : ℕ) → u < node_count net → slice_index labels u ≢ 0 → (port : Option ℕ)
      → IsSomeAnd port (λ p. IsPortTo net u p (slice_index order (slice_index parents (slice_index labels u)))) → IsParentPort net order parents u port
  other_has_port u h ne None s = absurd s
  other_has_port u h ne (Some p) s =
      let label = l.label u h in
      let every = l.every_label in
      record {
        first = λ e. absurd (ne (ap (λ (k : ℕ). get_or labels k 0) e ∙ l.back 0 (omega arith)));
        others = λ f. (p, slice_index order (slice_index parents (slice_index labels u)), refl, s, (slice_index labels u, omega arith, omega arith, l.there u h, refl));
      }

  pub sound_numbers : (ports : List (Option ℕ)) → AreParentPorts net order parents ports
      → AreSoundNumbers (record { order = order; parents = parents; labels = labels; ports = ports })
  sound_numbers ports p =
      let every = is.every in
      let parented = is.parented in
      let ported = p.every_node in
      record {
        labels = subst (λ (n : ℕ). AreLabels n order labels) (sym is.every) l;
        parented = omega arith;
        ported = omega arith;
        nested = subst (λ (n : ℕ). IsNested n parents) (sym is.every) (depth_first_nests (neighbors_of net) (node_count net) root order parents is);
      }
