-- What waits in a frontier: it is pushed, comes near, leaves, or is gone.
use Rattle.std.proofs.Common.{◌≡◌, ℕ, ◌/◌, ◌%◌, ◌<◌, ◌≤◌, inl, inr, List, [], ◌∷◌, ◌++◌, Some, ap, sym, subst, ◌∙◌, arith, slice_get, ⊎_elim}
use Rattle.std.specs.Prelude.{Contains, IsPermutation}
use Rattle.std.proofs.lemmas.List.{append_assoc}
use Rattle.std.proofs.lemmas.List.Sorted.{All-permutation, Contains-permutation, IsPermutation-append_left, IsPermutation-append_right, IsPermutation-middle, IsPermutation-sym, IsPermutation-to_front, IsPermutation-trans}
use Rattle.std.proofs.lemmas.Option.{get_or_from_slice_get, slice_get-get_or}
use Rattle.ir_model.specs.Topology.{Topology, node_count, IsTopology}
use Rattle.ir_tables.specs.Relaxation.{at}
use Rattle.ir_tables.specs.Keys.{KeyEntry, key_entry, key_of, IsEntry, IsFresh, KeepsFresh, IsSpentKey, IsKeying, NoNode}
use Rattle.ir_tables.proofs.Entries.{all_tail, contains_tail}

-- an entry is pushed to the near ones
pub pushed_near : (e : KeyEntry) (near near' far : List KeyEntry) → IsPermutation (e ∷ near) near' → IsPermutation (e ∷ (near ++ far)) (near' ++ far)
pushed_near e near near' far moved = IsPermutation-append_left far (e ∷ near) near' moved

-- an entry is pushed to the far ones
pub pushed_far : (e : KeyEntry) (near far : List KeyEntry) → IsPermutation (e ∷ (near ++ far)) (near ++ (far ++ (e ∷ [])))
pushed_far e near far =
    let P : List KeyEntry → Type 0 = λ es. IsPermutation (e ∷ (near ++ far)) es in
    subst P (append_assoc near far (e ∷ [])) (IsPermutation-sym ((near ++ far) ++ (e ∷ [])) (e ∷ (near ++ far)) (IsPermutation-to_front (near ++ far) e))

-- an entry leaves the near ones
pub left_near : (e : KeyEntry) (near near' far : List KeyEntry) → IsPermutation near (e ∷ near') → IsPermutation (near ++ far) (e ∷ (near' ++ far))
left_near e near near' far moved = IsPermutation-append_left far near (e ∷ near') moved

-- an entry leaves the far ones
pub left_far : (e : KeyEntry) (near far far' : List KeyEntry) → IsPermutation far (e ∷ far') → IsPermutation (near ++ far) (e ∷ (near ++ far'))
left_far e near far far' moved =
    IsPermutation-trans (near ++ far) (near ++ (e ∷ far')) (e ∷ (near ++ far')) (IsPermutation-append_right near far (e ∷ far') moved) (IsPermutation-middle near e far')

-- an entry comes near, or is gone where it is not fresh
pub come_near : (keys : List ℕ) (e : KeyEntry) (near near' far far' : List KeyEntry) → IsPermutation far (e ∷ far') → IsPermutation (e ∷ near) near' → KeepsFresh keys (near ++ far) (near' ++ far')
come_near keys e near near' far far' left pushed =
    let moved : IsPermutation (near ++ far) (near' ++ far') = IsPermutation-trans (near ++ far) (e ∷ (near ++ far')) (near' ++ far') (left_far e near far far' left) (pushed_near e near near' far' pushed) in
    record {
      nodes = λ net all. All-permutation (IsEntry net) (near ++ far) (near' ++ far') moved all;
      fresh = λ z fresh has. Contains-permutation (near ++ far) (near' ++ far') z moved has;
    }

pub gone : (keys : List ℕ) (e : KeyEntry) (before after : List KeyEntry) → IsPermutation before (e ∷ after) → (IsFresh keys e → ⊥) → KeepsFresh keys before after
gone keys e before after moved stale = record {
  nodes = λ net all. all_tail KeyEntry (IsEntry net) e after (All-permutation (IsEntry net) before (e ∷ after) moved all);
  fresh = λ z fresh has. contains_tail KeyEntry e z after (Contains-permutation before (e ∷ after) z moved has)
      (λ same. let P : KeyEntry → Type 0 = λ k. IsFresh keys k in stale (subst P same fresh));
}

-- an entry whose node has another key by now
pub stale_key : (keys : List ℕ) (e : KeyEntry) → (e.0 / 65536 ≡ at keys (e.0 % 65536) → ⊥) → IsFresh keys e → ⊥
stale_key keys e other fresh = other (sym (get_or_from_slice_get keys (e.0 % 65536) (e.0 / 65536) 0 fresh))

-- the search goes on over what is kept
pub keying_kept : (net : Topology) → IsTopology net → (u : ℕ) (keys : List ℕ) (before after : List KeyEntry) → KeepsFresh keys before after → IsKeying net u NoNode keys before → IsKeying net u NoNode keys after
keying_kept net ok u keys before after kept so_far = record {
  ways = so_far.ways;
  nodes = kept.nodes net so_far.nodes;
  pending = λ v v_in out. ⊎_elim (λ (spent : IsSpentKey net u keys v). inl spent)
      (λ (waits : Contains before (key_entry (at keys v) v)). inr (kept.fresh (key_entry (at keys v) v) (is_fresh v v_in) waits))
      (so_far.pending v v_in out);
}
  where
    is_fresh : (v : ℕ) → v < node_count net → IsFresh keys (key_entry (at keys v) v)
    is_fresh v v_in =
        let few : node_count net ≤ 32768 = ok.few_nodes in
        let node : key_of (at keys v) v % 65536 ≡ v = omega (arith, few, v_in) in
        let key : key_of (at keys v) v / 65536 ≡ at keys v = omega (arith, few, v_in) in
        let P : ℕ → Type 0 = λ k. slice_get keys k ≡ Some (key_of (at keys v) v / 65536) in
        subst P (sym node) (slice_get-get_or keys v 0 (omega (arith, v_in, so_far.ways.every)) ∙ ap Some (sym key))

-- what is kept twice is kept
pub kept_then : (keys : List ℕ) (before between after : List KeyEntry) → KeepsFresh keys before between → KeepsFresh keys between after → KeepsFresh keys before after
kept_then keys before between after first second = record {
  nodes = λ net all. second.nodes net (first.nodes net all);
  fresh = λ e fresh has. second.fresh e fresh (first.fresh e fresh has);
}
