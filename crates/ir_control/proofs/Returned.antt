-- The nodes of a net that come back from their threads are its nodes still.
use Rattle.std.specs.Prelude.{◌≡◌, ℕ, zero, suc, ◌+◌, ◌<◌, ◌≤◌, List, [], ◌∷◌, Some, length, map, sum_by, slice_get, slice_index, slice_index_or}
use Rattle.std.proofs.Common.{refl, arith, sym, ap, ◌∙◌, subst, ◌⊎◌, inl, inr}
use Rattle.std.proofs.lemmas.Option.{same_Some, none-some, slice_get-get_or}
use Rattle.std.proofs.lemmas.List.{length-map}
use Rattle.ir_model.specs.Topology.{node_count, ports_of}
use Rattle.ir_worker.specs.declared.node.Node.{Node}
use Rattle.ir_worker.specs.Account.{lines_in, lines_out}
use Rattle.ir_worker.specs.Same.{IsSameNode}
use Rattle.ir_worker.specs.Wires.{In, Out}
use Rattle.ir_control.specs.declared.net.Net.{Net}
use Rattle.ir_control.specs.Parts.{IsNodeOf, AreNodesOf, AreFirstNodes, node_number}
use Rattle.ir_control.specs.Slots.{hit}
use Rattle.ir_control.proofs.Slotted.{counts_own, counts_no_other}
use Rattle.ir_control.proofs.Wiring.{sum_nothing}
use Rattle.std.proofs.lemmas.List.Sums.{sum_by-cons}
use Rattle.std.proofs.lemmas.Bool.{cases_eq}
use Rattle.ir_control.specs.Places.{offset}
use Rattle.ir_control.proofs.Rowing.{slot_get}

get_map : {A B : Type 0} (f : A → B) (xs : List A) (p : ℕ) (x : A) → slice_get xs p ≡ Some x → slice_get (map f xs) p ≡ Some (f x)
get_map f [] p x got = absurd (none-some x got)
get_map f (y ∷ xs) zero x got = ap (λ z. Some (f z)) (same_Some y x got)
get_map f (y ∷ xs) (suc p) x got = get_map f xs p x got

-- a node that is the same but for what it did is of the same net
pub node_back : (net : Net) (a b : Node) → IsNodeOf net a → IsSameNode a b → IsNodeOf net b
node_back net a b is same =
    let degree : length (ports_of net.topology b.index) ≡ length (ports_of net.topology a.index) = ap (λ u. length (ports_of net.topology u)) same.index in
    record {
      index_in = subst (λ (u : ℕ). u < node_count net.topology) (sym same.index) is.index_in;
      opening = same.opening ∙ is.opening;
      restamps = same.restamps ∙ is.restamps;
      inbox = ap (slice_get net.inboxes.items) same.index ∙ is.inbox ∙ ap Some (sym same.inbox);
      outs_count = (let e = ap length same.outs in let p = length-map b.outs.items (λ (s : Out). s.channel) in let q = length-map a.outs.items (λ (s : Out). s.channel) in let n = is.outs_count in omega (arith, e, p, q, n, degree));
      outs = λ p s got.
          (let there : slice_get (lines_out a.outs.items) p ≡ Some s.channel = ap (λ ls. slice_get ls p) (sym same.outs) ∙ get_map (λ (s : Out). s.channel) b.outs.items p s got in
          let t = slot_get (λ (s : Out). s.channel) a.outs.items p s.channel there in
          ap (λ u. slice_get net.ways.items (offset net.topology u + p)) same.index ∙ is.outs p t.0 t.1 ∙ ap Some t.2);
      ins_count = (let e = ap length same.ins in let p = length-map b.entrances.ports.items (λ (s : In). s.channel) in let q = length-map a.entrances.ports.items (λ (s : In). s.channel) in let n = is.ins_count in omega (arith, e, p, q, n, degree));
      ins = λ p s got.
          (let there : slice_get (lines_in a.entrances.ports.items) p ≡ Some s.channel = ap (λ ls. slice_get ls p) (sym same.ins) ∙ get_map (λ (s : In). s.channel) b.entrances.ports.items p s got in
          let t = slot_get (λ (s : In). s.channel) a.entrances.ports.items p s.channel there in
          ap (λ u. slice_get net.ways.items (slice_index net.peers.items (offset net.topology u + p))) same.index ∙ is.ins p t.0 t.1 ∙ ap Some t.2);
    }

-- things numbered by their places are met once each at most
pub numbered_apart : {X : Type 0} (key : X → ℕ) (s i : ℕ) (xs : List X) → ((k : ℕ) (x : X) → slice_get xs k ≡ Some x → key x ≡ s + k) → sum_by (hit key i) xs ≤ 1
numbered_apart key s i [] at = omega arith
numbered_apart {X} key s i (x ∷ xs) at = go (cases_eq (key x) i) (numbered_apart key (s + 1) i xs (λ k y got. (let e = at (suc k) y got in omega (arith, e)))) where
  go : ((key x ≡ i) ⊎ (key x ≡ i → ⊥)) → sum_by (hit key i) xs ≤ 1 → sum_by (hit key i) (x ∷ xs) ≤ 1
  go (inl e) rest =
      let first = at 0 x refl in
      let none : sum_by (hit key i) xs ≡ 0 = sum_nothing (hit key i) xs (λ k y got. counts_no_other key y i (λ same. (let later = at (suc k) y got in omega (arith, first, later, same, e)))) in
      let one_is : hit key i x ≡ 1 = counts_own key x i e in
      omega (arith, none, one_is, sum_by-cons (hit key i) x xs)
  go (inr ne) rest =
      let none : hit key i x ≡ 0 = counts_no_other key x i ne in
      omega (arith, none, rest, sum_by-cons (hit key i) x xs)

-- the nodes of a net as they are handed out are apart
pub first_apart : (net : Net) (n : ℕ) (nodes : List Node) → AreFirstNodes net n nodes → AreNodesOf net nodes
first_apart net n nodes first = record {
  each = λ k d lt. (first.each k (slice_index_or nodes k d) (slice_get-get_or nodes k d lt)).0;
  apart = λ i. numbered_apart node_number 0 i nodes (λ k x got. (let e = (first.each k x got).1 in omega (arith, e)));
}
