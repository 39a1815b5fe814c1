-- Lists that threads made.
use Rattle.std.proofs.Common.{◌≡◌, ℕ, zero, suc, ◌+◌, ◌-◌, ◌<◌, List, [], ◌∷◌, length, map, ◌++◌, Ok, Err, Option, Some, None, refl, ap, sym, ◌∙◌, subst, inl, inr, arith}
use Rattle.std.specs.Prelude.{IfOk, IfSome, OnOk, MatchResult, slice_index, slice_index_or}
use Rattle.std.specs.Global.{Vec}
use Rattle.std.specs.List.{AllZip, range_with_len}
use Rattle.std.specs.declared.result.Result.{Result}
use Rattle.std.specs.declared.alloc.AllocError.{AllocError}
use Rattle.std.proofs.lemmas.Bool.{cases_eq}
use Rattle.std.proofs.lemmas.List.{get_or-map, length-map, length_push, get_or_push, get_or_append_left, map-append}
use Rattle.rayon.specs.Numbers.{nat_range}
use Rattle.rayon.specs.Shown.{run-append}
use Rattle.rayon.proofs.ListFacts.{AllZip-append}
use Rattle.ir_plan.specs.Distances.{lists_of}

-- lists of vectors that were made for the numbers of a range, where P holds of each and its number
zipped_lists : (P : ℕ → List ℕ → Type 0) (a k : ℕ) (made : List (Vec ℕ)) → AllZip (λ (u : ℕ) (one : Result (Vec ℕ) AllocError). IfOk one (λ (v : Vec ℕ). P u v.items)) (range_with_len a k) (map Ok made)
    → (length (lists_of made) ≡ k) × ((i : ℕ) → i < k → P (a + i) (slice_index_or (lists_of made) i []))
zipped_lists P a zero [] zipped = (refl, λ i lt. absurd (omega (arith, lt)))
zipped_lists P a zero (x ∷ xs) zipped = absurd zipped
zipped_lists P a (suc k) [] zipped = absurd zipped
zipped_lists P a (suc k) (x ∷ xs) zipped =
    let later = zipped_lists P (a + 1) k xs zipped.1 in
    (ap suc later.0, at later.1)
  where
    at : ((i : ℕ) → i < k → P (a + 1 + i) (slice_index_or (lists_of xs) i [])) → (i : ℕ) → i < suc k → P (a + i) (slice_index_or (lists_of (x ∷ xs)) i [])
    at later zero lt = let e : a ≡ a + 0 = omega arith in subst (λ (u : ℕ). P u x.items) e zipped.0
    at later (suc i) lt = let e : a + 1 + i ≡ a + suc i = omega arith in subst (λ (u : ℕ). P u (slice_index_or (lists_of xs) i [])) e (later i (omega (arith, lt)))

pub lists_for_range : (P : ℕ → List ℕ → Type 0) (k : ℕ) (made : List (Vec ℕ)) → AllZip (λ (u : ℕ) (one : Result (Vec ℕ) AllocError). IfOk one (λ (v : Vec ℕ). P u v.items)) (range_with_len 0 k) (map Ok made)
    → (length (lists_of made) ≡ k) × ((i : ℕ) → i < k → P i (slice_index_or (lists_of made) i []))
lists_for_range P k made zipped =
    let all = zipped_lists P 0 k made zipped in
    (all.0, λ i lt. let e : 0 + i ≡ i = omega arith in subst (λ (u : ℕ). P u (slice_index_or (lists_of made) i [])) e (all.1 i lt))

-- the list of the vector at a place
pub list_at : (made : List (Vec ℕ)) (i : ℕ) (v : Vec ℕ) → i < length made → slice_index_or (lists_of made) i [] ≡ (slice_index_or made i v).items
list_at made i v lt = get_or-map (λ (w : Vec ℕ). w.items) made i v [] lt

pub lists_length : (made : List (Vec ℕ)) → length (lists_of made) ≡ length made
lists_length made = length-map made (λ (w : Vec ℕ). w.items)

-- one more vector after those that were made for the first numbers
pub list_pushed : (P : ℕ → List ℕ → Type 0) (k : ℕ) (made more : List (Vec ℕ)) (v : Vec ℕ) → length (lists_of made) ≡ k → ((i : ℕ) → i < k → P i (slice_index_or (lists_of made) i [])) → more ≡ made ++ (v ∷ []) → P k v.items
    → (length (lists_of more) ≡ k + 1) × ((i : ℕ) → i < k + 1 → P i (slice_index_or (lists_of more) i []))
list_pushed P k made more v len all is own = (ap length lists ∙ length_push (lists_of made) v.items ∙ ap (λ (n : ℕ). n + 1) len, at)
  where
    lists : lists_of more ≡ lists_of made ++ (v.items ∷ [])
    lists = ap lists_of is ∙ map-append (λ (w : Vec ℕ). w.items) made (v ∷ [])

    at : (i : ℕ) → i < k + 1 → P i (slice_index_or (lists_of more) i [])
    at i lt =
        subst (λ (ls : List (List ℕ)). P i (slice_index_or ls i [])) (sym lists)
        (elim (cases_eq i k) [
          | inl same ↦ subst (P i) (sym (get_or_push (lists_of made) v.items [] i (len ∙ sym same))) (subst (λ (u : ℕ). P u v.items) (sym same) own)
          | inr ne ↦ subst (P i) (sym (get_or_append_left (lists_of made) (v.items ∷ []) [] i (omega (arith, len)))) (all i (omega arith))
        ])

-- one more number at the end of a list of the numbers of a function
pub read_pushed : (f : ℕ → ℕ) (xs ys : List ℕ) (v x : ℕ) → length xs ≡ v → ((k : ℕ) → k < v → slice_index xs k ≡ f k) → ys ≡ xs ++ (x ∷ []) → x ≡ f v → (k : ℕ) → k < v + 1 → slice_index ys k ≡ f k
read_pushed f xs ys v x len own e is k lt =
    ap (λ (zs : List ℕ). slice_index zs k) e
    ∙ elim (cases_eq k v) [
      | inl same ↦ get_or_push xs x 0 k (len ∙ sym same) ∙ is ∙ ap f (sym same)
      | inr ne ↦ get_or_append_left xs (x ∷ []) 0 k (omega (arith, len)) ∙ own k (omega arith)
    ]

-- one more that was made
pub zip_more : {T : Type 0} (R : ℕ → Result T AllocError → Type 0) (k : ℕ) (made : List T) (x : T) → AllZip R (range_with_len 0 k) (map Ok made) → R k (Ok x)
    → AllZip R (range_with_len 0 (k + 1)) (map Ok (made ++ (x ∷ [])))
zip_more {T} R k made x zipped own =
    let e : 0 + k ≡ k = omega arith in
    let one : range_with_len (0 + k) 1 ≡ (k ∷ []) = ap (λ (u : ℕ). u ∷ []) e in
    let places : range_with_len 0 k ++ (k ∷ []) ≡ range_with_len 0 (k + 1) = ap (λ (us : List ℕ). range_with_len 0 k ++ us) (sym one) ∙ run-append 0 k 1 in
    let all = AllZip-append R (range_with_len 0 k) (k ∷ []) (map Ok made) (Ok x ∷ []) zipped (own, tt) in
    subst (λ (us : List ℕ). AllZip R us (map Ok (made ++ (x ∷ [])))) places
    (subst (λ (rs : List (Result T AllocError)). AllZip R (range_with_len 0 k ++ (k ∷ [])) rs) (sym (map-append (λ (y : T). Ok y) made (x ∷ []))) all)

-- what a chain over a range gave, where each was made
pub made_of_chain : {T : Type 0} (R : ℕ → Result T AllocError → Type 0) (places : List ℕ) (a b n : ℕ) (results : List (Result T AllocError)) (made items : List T)
    → places ≡ nat_range a b → a ≡ 0 → b ≡ n → AllZip R places results → results ≡ map Ok made → items ≡ made → AllZip R (range_with_len 0 n) (map Ok items)
made_of_chain {T} R places a b n results made items whole low high zipped is same =
    let count : n - 0 ≡ n = omega arith in
    let of_n : places ≡ range_with_len 0 n = whole ∙ ap (λ (x : ℕ). nat_range x b) low ∙ ap (nat_range 0) high ∙ ap (range_with_len 0) count in
    let oks : results ≡ map Ok items = is ∙ ap (λ (xs : List T). map Ok xs) (sym same) in
    subst (λ (us : List ℕ). AllZip R us (map Ok items)) of_n (subst (λ (rs : List (Result T AllocError)). AllZip R places rs) oks zipped)

-- what holds of the value in an `Ok`
pub of_match : {T E : Type 0} (r : Result T E) (P R : T → Type 0) (Q : E → Type 0) → MatchResult r P Q → ((v : T) → P v → R v) → IfOk r R
of_match (Ok v) P R Q h f = f v h
of_match (Err e) P R Q h f = tt

pub of_some : {T : Type 0} (o : Option T) (P R : T → Type 0) → IfSome o P → ((v : T) → P v → R v) → IfSome o R
of_some (Some v) P R h f = f v h
of_some None P R h f = tt

pub of_ok : {T E : Type 0} (r : Result T E) (P R : T → Type 0) → IfOk r P → ((v : T) → P v → R v) → IfOk r R
of_ok (Ok v) P R h f = f v h
of_ok (Err e) P R h f = tt

-- the same, of what two clauses say of it
pub of_both : {T E : Type 0} (r : Result T E) (P Q R : T → Type 0) → IfOk r P → IfOk r Q → ((v : T) → P v → Q v → R v) → IfOk r R
of_both (Ok v) P Q R h k f = f v h k
of_both (Err e) P Q R h k f = tt

-- what holds anyway holds where there is an `Ok`
pub on_ok : {T E : Type 0} (r : Result T E) (P : Type 0) → P → OnOk r P
on_ok (Ok v) P h = h
on_ok (Err e) P h = tt
