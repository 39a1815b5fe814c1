-- A depth-first numbering is determined by network and root.
use Rattle.std.proofs.Common.{◌≡◌, ℕ, zero, suc, ◌+◌, ◌<◌, ◌≤◌, List, take, refl, ap, sym, subst, ◌∙◌, arith, ⊎_elim}
use Rattle.std.specs.Prelude.{Contains, slice_index}
use Rattle.std.proofs.lemmas.List.{take_more_same, take_all}
use Rattle.std.proofs.lemmas.Bool.{cases_order}
use Rattle.ir_model.specs.Numbering.{IsFirstOutside, NoneOutside, IsNext, IsDepthFirst}

-- there is one first node outside
first_same : (seen nodes : List ℕ) (x y : ℕ) → IsFirstOutside seen nodes x → IsFirstOutside seen nodes y → x ≡ y
first_same seen nodes x y a b =
    ⊎_elim (λ e. sym a.is ∙ ap (λ k. slice_index nodes k) e ∙ b.is)
    (λ other. ⊎_elim (λ less. absurd (a.outside (let P : ℕ → Type 0 = λ z. Contains seen z in subst P a.is (b.first a.port less))))
    (λ more. absurd (b.outside (let P : ℕ → Type 0 = λ z. Contains seen z in subst P b.is (a.first b.port more)))) other)
    (cases_order a.port b.port)

-- a place with a first node outside is not one with none
not_none : (seen nodes : List ℕ) (x : ℕ) → IsFirstOutside seen nodes x → NoneOutside seen nodes → ⊥
not_none seen nodes x a none = a.outside (let P : ℕ → Type 0 = λ z. Contains seen z in subst P a.is (none a.port a.below))

-- there is one next node and one parent's place
pub next_same : (adjacent : ℕ → List ℕ) (seen : List ℕ) (x y i j : ℕ) → IsNext adjacent seen x i → IsNext adjacent seen y j → (x ≡ y) × (i ≡ j)
next_same adjacent seen x y i j a b =
    ⊎_elim (λ e.
    let P : ℕ → Type 0 = λ k. IsFirstOutside seen (adjacent (slice_index seen k)) y in
    (first_same seen (adjacent (slice_index seen i)) x y a.neighbor (subst P (sym e) b.neighbor), e))
    (λ other. ⊎_elim (λ less. absurd (not_none seen (adjacent (slice_index seen j)) y b.neighbor (a.greatest j less b.below)))
    (λ more. absurd (not_none seen (adjacent (slice_index seen i)) x a.neighbor (b.greatest i more a.below))) other)
    (cases_order i j)

-- two numberings agree on each beginning
beginnings : (adjacent : ℕ → List ℕ) (n root : ℕ) (order parents other others : List ℕ) → IsDepthFirst adjacent n root order parents → IsDepthFirst adjacent n root other others
    → (i : ℕ) → i ≤ n → take i order ≡ take i other
beginnings adjacent n root order parents other others a b zero le = refl
beginnings adjacent n root order parents other others a b (suc i) le =
    let before : take i order ≡ take i other = beginnings adjacent n root order parents other others a b i (omega arith) in
    let more : i + 1 ≡ suc i = omega arith in
    let P : ℕ → Type 0 = λ k. take k order ≡ take k other in
    subst P more (take_more_same order other i 0 (omega (arith, a.every)) (omega (arith, b.every)) before (here i before le))
  where
    here : (i : ℕ) → take i order ≡ take i other → suc i ≤ n → slice_index order i ≡ slice_index other i
    here zero before le = a.root_first ∙ sym b.root_first
    here (suc i) before le =
        let P : List ℕ → Type 0 = λ seen. IsNext adjacent seen (slice_index order (suc i)) (slice_index parents (suc i)) in
        (next_same adjacent (take (suc i) other) (slice_index order (suc i)) (slice_index other (suc i)) (slice_index parents (suc i)) (slice_index others (suc i))
        (subst P before (a.next (suc i) (omega arith) (omega (arith, le)))) (b.next (suc i) (omega arith) (omega (arith, le)))).0

pub order_same : (adjacent : ℕ → List ℕ) (n root : ℕ) (order parents other others : List ℕ) → IsDepthFirst adjacent n root order parents → IsDepthFirst adjacent n root other others → order ≡ other
order_same adjacent n root order parents other others a b =
    sym (take_all n order (omega (arith, a.every))) ∙ beginnings adjacent n root order parents other others a b n (omega arith) ∙ take_all n other (omega (arith, b.every))

pub parents_same : (adjacent : ℕ → List ℕ) (n root : ℕ) (order parents other others : List ℕ) → IsDepthFirst adjacent n root order parents → IsDepthFirst adjacent n root other others
    → (i : ℕ) → 0 < i → i < n → slice_index parents i ≡ slice_index others i
parents_same adjacent n root order parents other others a b i positive within =
    let P : List ℕ → Type 0 = λ seen. IsNext adjacent seen (slice_index order i) (slice_index parents i) in
    (next_same adjacent (take i other) (slice_index order i) (slice_index other i) (slice_index parents i) (slice_index others i)
    (subst P (beginnings adjacent n root order parents other others a b i (omega arith)) (a.next i positive within)) (b.next i positive within)).1
