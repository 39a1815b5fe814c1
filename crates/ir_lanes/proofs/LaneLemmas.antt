-- What the operations on sixteen lanes hold at each lane.
use Rattle.std.proofs.Common.{◌≡◌, ℕ, zero, suc, ◌-◌, ◌/◌, ◌%◌, ◌^◌, [], ◌∷◌, not, eqb, ◌+◌, ◌*◌, ◌<◌, ◌≤◌, min, List, Bool, true, false, Some, cond, ltb, length, get_or, slice_get, slice_index, map, replicate, refl, sym, ap, subst, ◌∙◌, arith, w32, Fits, ⊎_elim}
use Rattle.std.specs.Simd.Lanes.{zip2, sel_l, mask_l, top, put_chunk, Each2}
use Rattle.std.proofs.lemmas.Simd.{length-zip2, get_or-zip2, get_or-replicate, length-sel_l, get_or-sel_l, tops_compared, Each2-splat, Each1-from_get_or, mask_l-mod, bit_mask_l, get_or-put_chunk_below, get_or-put_chunk_at, get_or-put_chunk_above}
use Rattle.std.proofs.lemmas.Bool.{ltb-true, ltb-false, cases_lt, eqb-true}
use Rattle.ir_model.specs.declared.Hop.{Hop}
use Rattle.ir_lanes.specs.Lanes.{HasLanes, in_lane, AreLeastOffers, far, most_added}

-- the lesser one, as the comparison chooses it
lesser_is : (x y : ℕ) (b : Bool) → ltb x y ≡ b → cond b x y ≡ min x y
lesser_is x y true e = omega (arith, ltb-true x y e)
lesser_is x y false e = omega (arith, ltb-false x y e)

pub HasLanes-min : (a b : List ℕ) → length a ≡ 16 → length b ≡ 16 → HasLanes (sel_l (zip2 ltb a b) a b) (λ k. min (get_or a k 0) (get_or b k 0))
HasLanes-min a b p q =
    let long : length (zip2 ltb a b) ≡ 16 = length-zip2 ltb a b (p ∙ sym q) ∙ p in
    record {
      long = length-sel_l _ a b (long ∙ sym p) (long ∙ sym q) ∙ long;
      each = λ k l.
          get_or-sel_l _ a b k 0 (omega arith) (omega arith) (omega arith)
          ∙ ap (λ t. cond t (get_or a k 0) (get_or b k 0)) (get_or-zip2 ltb a b k 0 0 false (omega arith) (omega arith))
          ∙ lesser_is (get_or a k 0) (get_or b k 0) _ refl;
    }

pub HasLanes-plus : (a : List ℕ) (w : ℕ) → length a ≡ 16 → HasLanes (zip2 (λ x y. x + y) a (replicate 16 w)) (λ k. w + get_or a k 0)
HasLanes-plus a w p = record {
  long = length-zip2 (λ x y. x + y) a (replicate 16 w) p ∙ p;
  each = λ k l.
      let here : get_or (replicate 16 w) k 0 ≡ w = get_or-replicate 16 k w 0 l in
      omega (arith, get_or-zip2 (λ x y. x + y) a (replicate 16 w) k 0 0 0 (omega arith) l, here);
}

pub plus_fits : (a : List ℕ) (w : ℕ) → length a ≡ 16 → w ≤ most_added → ((k : ℕ) → k < 16 → get_or a k 0 ≤ far) → Each2 (λ x y. Fits w32 (x + y)) a (replicate 16 w)
plus_fits a w p light near =
    Each2-splat (λ x y. Fits w32 (x + y)) a 16 w (Each1-from_get_or (λ x. Fits w32 (x + w)) a 0 (λ k l. record { fits = omega (arith, light, near k (omega arith)) }))

pub least_none : (ports : List Hop) (unit : ℕ) (lanes : List ℕ) → AreLeastOffers ports unit 0 lanes (replicate 16 4294967295)
least_none ports unit lanes = record {
  long = refl;
  below = λ k p hop k_in p_in at_p. absurd (omega (arith, p_in));
  met = λ k k_in less. absurd (omega (arith, less, get_or-replicate {A = ℕ} 16 k 4294967295 0 k_in));
}

-- the lanes of the next port, less or not
module _ (ports : List Hop) (unit i : ℕ) (lanes v there through next : List ℕ) (hop : Hop) (here : slice_get ports i ≡ Some hop)
    (loaded : HasLanes there (λ k. slice_index lanes (hop.node * 16 + k)))
    (added : HasLanes through (λ k. hop.weight * unit + slice_index there k))
    (chosen : HasLanes next (λ k. min (slice_index v k) (slice_index through k)))
    (before : AreLeastOffers ports unit i lanes v) where
  offer : (k : ℕ) → k < 16 → slice_index next k ≡ min (slice_index v k) (hop.weight * unit + in_lane lanes k hop.node)
  offer k l = chosen.each k l ∙ ap (λ x. min (slice_index v k) x) (added.each k l ∙ ap (λ x. hop.weight * unit + x) (loaded.each k l))

  pub least_next : AreLeastOffers ports unit (i + 1) lanes next
  least_next = record {
    long = chosen.long;
    below = λ k p other k_in p_in at_p.
        ⊎_elim (λ (less : p < i). omega (arith, offer k k_in, before.below k p other k_in less at_p))
        (λ (ge : i ≤ p). let same : p ≡ i = omega (arith, p_in, ge) in
        let P : ℕ → Type 0 = λ q. slice_get ports q ≡ Some other in
        let there' : slice_get ports i ≡ Some other = subst P same at_p in
        let is : hop ≡ other = cc (here, there') in
        let Q : Hop → Type 0 = λ h. slice_index next k ≤ h.weight * unit + in_lane lanes k h.node in
        subst Q is (omega (arith, offer k k_in))) (cases_lt p i);
    met = λ k k_in less.
        ⊎_elim (λ (own : slice_index v k < hop.weight * unit + in_lane lanes k hop.node).
        let old = before.met k k_in (omega (arith, offer k k_in, own, less)) in
        (old.0, old.1, old.2, omega (arith, offer k k_in, own, old.3)))
        (λ (ge : hop.weight * unit + in_lane lanes k hop.node ≤ slice_index v k). (i, hop, here, omega (arith, offer k k_in, ge)))
        (cases_lt (slice_index v k) (hop.weight * unit + in_lane lanes k hop.node));
  }

-- ---- a mask with no bit

-- where no bit of the mask is set, no lane passes the test
pub none_pass : (t : ℕ → ℕ → Bool) (a b : List ℕ) → length a ≡ length b → mask_l (zip2 t a b) ≡ 0 → (k : ℕ) → k < length a → t (get_or a k 0) (get_or b k 0) ≡ false
none_pass t [] b p e k l = absurd (omega (arith, l))
none_pass t (x ∷ xs) [] p e k l = absurd (omega (arith, p))
none_pass t (x ∷ xs) (y ∷ ys) p e zero l = first_false (t x y) (mask_l (zip2 t xs ys)) e
  where
    first_false : (h : Bool) (m : ℕ) → cond h 1 0 + 2 * m ≡ 0 → h ≡ false
    first_false true m f = absurd (omega (arith, f))
    first_false false m f = refl
none_pass t (x ∷ xs) (y ∷ ys) p e (suc k) l = none_pass t xs ys (omega (arith, p)) (rest_none (t x y) (mask_l (zip2 t xs ys)) e) k (omega (arith, l))
  where
    rest_none : (h : Bool) (m : ℕ) → cond h 1 0 + 2 * m ≡ 0 → m ≡ 0
    rest_none true m f = absurd (omega (arith, f))
    rest_none false m f = omega (arith, f)

-- the mask of the comparison t is empty where `to_bitmask` gives 0
pub mask_none : (t : ℕ → ℕ → Bool) (a b : List ℕ) → length a ≡ 16 → length b ≡ 16
    → mask_l (map (top 31) (zip2 (λ x y. cond (t x y) (2 ^ 32 - 1) 0) a b)) % 2 ^ 64 ≡ 0 → mask_l (zip2 t a b) ≡ 0
mask_none t a b p q e =
    sym (mask_l-mod (zip2 t a b) 64 (omega (arith, length-zip2 t a b (p ∙ sym q), p)))
    ∙ sym (ap (λ ms. mask_l ms % 2 ^ 64) (tops_compared w32 t a b)) ∙ e

pub same_when_not_ne : (x y : ℕ) (h : Bool) → eqb x y ≡ h → not (eqb x y) ≡ false → x ≡ y
same_when_not_ne x y true e f = eqb-true x y e
same_when_not_ne x y false e f = absurd (cc (e, f))

-- the bit k of the mask says whether lane k of two is the same
pub same_bit : (a b : List ℕ) → length a ≡ 16 → length b ≡ 16 → (k : ℕ) → k < 16 → mask_l (zip2 eqb a b) / 2 ^ k % 2 ≡ cond (eqb (get_or a k 0) (get_or b k 0)) 1 0
same_bit a b p q k l = bit_mask_l (zip2 eqb a b) k ∙ ap (λ t. cond t 1 0) (get_or-zip2 eqb a b k 0 0 false (omega (arith, l, p)) (omega (arith, l, q)))

-- ---- a store

-- a store of near lanes leaves all near
pub near_put : (at : ℕ) (lanes to : List ℕ) → at + 16 ≤ length lanes → length to ≡ 16 → ((i : ℕ) → get_or lanes i 0 ≤ far) → ((k : ℕ) → k < 16 → get_or to k 0 ≤ far)
    → (i : ℕ) → get_or (put_chunk at lanes to) i 0 ≤ far
near_put at lanes to room long near low i =
    ⊎_elim (λ (below : i < at). omega (arith, get_or-put_chunk_below at lanes to i 0 below, near i))
    (λ (ge : at ≤ i). ⊎_elim (λ (within : i < at + 16).
    let k : ℕ = i - at in
    let is : at + k ≡ i = omega (arith, ge) in
    let k_in : k < 16 = omega (arith, within, ge) in
    let P : ℕ → Type 0 = λ j. get_or (put_chunk at lanes to) j 0 ≤ far in
    subst P is (omega (arith, get_or-put_chunk_at at lanes to k 0 (omega (arith, k_in, long)) (omega (arith, room, long)), low k k_in)))
    (λ (above : at + 16 ≤ i). omega (arith, get_or-put_chunk_above at lanes to i 0 (omega (arith, above, long)), near i)) (cases_lt i (at + 16))) (cases_lt i at)

-- ---- the bit of each lane

pub place_bits : (k : ℕ) → k < 16 → slice_index (1 ∷ 2 ∷ 4 ∷ 8 ∷ 16 ∷ 32 ∷ 64 ∷ 128 ∷ 256 ∷ 512 ∷ 1024 ∷ 2048 ∷ 4096 ∷ 8192 ∷ 16384 ∷ 32768 ∷ []) k ≡ 2 ^ k
place_bits zero l = refl
place_bits (suc zero) l = refl
place_bits (suc (suc zero)) l = refl
place_bits (suc (suc (suc zero))) l = refl
place_bits (suc (suc (suc (suc zero)))) l = refl
place_bits (suc (suc (suc (suc (suc zero))))) l = refl
place_bits (suc (suc (suc (suc (suc (suc zero)))))) l = refl
place_bits (suc (suc (suc (suc (suc (suc (suc zero))))))) l = refl
place_bits (suc (suc (suc (suc (suc (suc (suc (suc zero)))))))) l = refl
place_bits (suc (suc (suc (suc (suc (suc (suc (suc (suc zero))))))))) l = refl
place_bits (suc (suc (suc (suc (suc (suc (suc (suc (suc (suc zero)))))))))) l = refl
place_bits (suc (suc (suc (suc (suc (suc (suc (suc (suc (suc (suc zero))))))))))) l = refl
place_bits (suc (suc (suc (suc (suc (suc (suc (suc (suc (suc (suc (suc zero)))))))))))) l = refl
place_bits (suc (suc (suc (suc (suc (suc (suc (suc (suc (suc (suc (suc (suc zero))))))))))))) l = refl
place_bits (suc (suc (suc (suc (suc (suc (suc (suc (suc (suc (suc (suc (suc (suc zero)))))))))))))) l = refl
place_bits (suc (suc (suc (suc (suc (suc (suc (suc (suc (suc (suc (suc (suc (suc (suc zero))))))))))))))) l = refl
place_bits (suc (suc (suc (suc (suc (suc (suc (suc (suc (suc (suc (suc (suc (suc (suc (suc k)))))))))))))))) l = absurd (omega (arith, l))
