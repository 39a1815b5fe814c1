-- Nodes that came back as their threads promised.
use Rattle.std.specs.Prelude.{◌≡◌, ℕ, ◌<◌, List, [], ◌∷◌, ◌++◌, Option, length, map, slice_index_or}
use Rattle.std.proofs.Common.{sym, ap, ◌∙◌, subst, arith, ◌⊎◌, inl, inr}
use Rattle.std.proofs.lemmas.List.{length_push, length-map, get_or_append_left, get_or_push, get_or-map}
use Rattle.std.proofs.lemmas.Bool.{cases_eq}
use Rattle.ir_links.specs.Ends.{Word}
use Rattle.ir_epochs.specs.Looks.{Look}
use Rattle.ir_worker.specs.declared.node.Node.{Node}
use Rattle.ir_worker.specs.declared.serving.NoMemory.{NoMemory}
use Rattle.ir_worker.specs.Seen.{Parcel}
use Rattle.ir_worker.specs.Turns.{MayEnd}
use Rattle.ir_control.specs.Runs.{ComesAs, CameBack}

-- one more handle of which this is true
pub one_more : {H : Type 0} (P : H → Type 0) (hs hs' : List H) (h : H) → ((k : ℕ) (d : H) → k < length hs → P (slice_index_or hs k d)) → hs' ≡ hs ++ h ∷ [] → P h →
    (k : ℕ) (d : H) → k < length hs' → P (slice_index_or hs' k d)
one_more {H = H} P hs hs' h each pushed is k d lt = subst (λ (xs : List H). P (slice_index_or xs k d)) (sym pushed) (chosen (cases_eq k (length hs))) where
  chosen : ((k ≡ length hs) ⊎ (k ≡ length hs → ⊥)) → P (slice_index_or (hs ++ h ∷ []) k d)
  chosen (inl s) = subst P (sym (get_or_push hs h d k (sym s))) is
  chosen (inr ne) =
      let a : length hs' ≡ length (hs ++ h ∷ []) = ap length pushed in
      let below : k < length hs = omega (arith, lt, a, length_push hs h) in
      subst P (sym (get_or_append_left hs (h ∷ []) d k below)) (each k d below)

-- what came back as was promised at some flag and gate came back so at those that are equal
pub as_promised : (was_full was_empty : Word Parcel) (looked : Look Parcel) {F G : Type 0} (seen : F → Type 0) (barred : G → ℕ → ℕ → Type 0) (s s' : F) (q q' : G) (n : Node) (back : Node × Option NoMemory) →
    s ≡ s' → q ≡ q' → ComesAs was_full was_empty looked (MayEnd seen barred s q) n back → ComesAs was_full was_empty looked (MayEnd seen barred s' q') n back
as_promised was_full was_empty looked {F = F} {G = G} seen barred s s' q q' n back flags gates kept =
    subst (λ (t : G). ComesAs was_full was_empty looked (MayEnd seen barred s' t) n back) gates (subst (λ (t : F). ComesAs was_full was_empty looked (MayEnd seen barred t q) n back) flags kept)

module _ (was_full was_empty : Word Parcel) (looked : Look Parcel) (may_end : ℕ → ℕ → Type 0) where
  -- each result keeps the promise of the handle at its place
  pub kept_back : {H : Type 0} (f : H → Node) (hs : List H) (back : List (Node × Option NoMemory)) → length back ≡ length hs →
      ((k : ℕ) (b : Node × Option NoMemory) → k < length hs → (h : H) × (h ≡ slice_index_or hs k h) × ComesAs was_full was_empty looked may_end (f h) (slice_index_or back k b)) →
      CameBack was_full was_empty looked may_end (map f hs) back
  kept_back {H} f hs back came kept =
      let many = length-map hs f in record {
        count = omega (arith, many, came);
        each = λ k d e lt.
            (let below : k < length hs = omega (arith, many, lt) in
            let it = kept k e below in
            subst (λ (n : Node). ComesAs was_full was_empty looked may_end n (slice_index_or back k e)) (ap f it.1 ∙ sym (get_or-map f hs k it.0 d below)) it.2);
      }
