-- What a list of entries contains, and weights of which one is lowered.
use Rattle.std.proofs.Common.{◌≡◌, ◌≢◌, ℕ, zero, suc, ◌+◌, ◌<◌, ◌≤◌, List, ◌∷◌, length, set, refl, sym, subst, arith, slice_index_or, ⊎_elim, get_or-set_same, get_or-set_other}
use Rattle.std.specs.Prelude.{All, Contains}
use Rattle.std.proofs.lemmas.Bool.{cases_eq}
use Rattle.ir_tables.specs.Relaxation.{at}

pub contains_head : (A : Type 0) (e : A) (es : List A) → Contains (e ∷ es) e
contains_head A e es = (0, omega arith, refl)

pub contains_cons : (A : Type 0) (e z : A) (es : List A) → Contains es z → Contains (e ∷ es) z
contains_cons A e z es has = (suc has.0, omega (arith, has.1), has.2)

pub contains_tail : (A : Type 0) (e z : A) (es : List A) → Contains (e ∷ es) z → z ≢ e → Contains es z
contains_tail A e z es has ne = go has.0 has.1 has.2
  where
    go : (k : ℕ) → k < length (e ∷ es) → slice_index_or (e ∷ es) k z ≡ z → Contains es z
    go zero lt is = absurd (ne (sym is))
    go (suc k) lt is = (k, omega (arith, lt), is)

pub all_cons : (A : Type 0) (P : A → Type 0) (e : A) (es : List A) → P e → All P es → All P (e ∷ es)
all_cons A P e es here rest zero d lt = here
all_cons A P e es here rest (suc k) d lt = rest k d (omega (arith, lt))

pub all_tail : (A : Type 0) (P : A → Type 0) (e : A) (es : List A) → All P (e ∷ es) → All P es
all_tail A P e es all k d lt = all (suc k) d (omega (arith, lt))

-- a lower weight raises none
pub set_le : (weights : List ℕ) (x weight z : ℕ) → x < length weights → weight ≤ at weights x → at (set weights x weight) z ≤ at weights z
set_le weights x weight z lt le =
    ⊎_elim (λ (e : z ≡ x). let P : ℕ → Type 0 = λ y. at (set weights x weight) y ≤ at weights y in
    subst P (sym e) (let w : at (set weights x weight) x ≡ weight = get_or-set_same weights x weight 0 lt in omega (arith, w, le)))
    (λ (ne : z ≢ x). let w : at (set weights x weight) z ≡ at weights z = get_or-set_other weights x z weight 0 ne in omega (arith, w)) (cases_eq z x)
