-- The order by nearest and the sweeps keep a listing, and are determined by the distances of its nodes.
use Rattle.std.proofs.Common.{◌≡◌, ℕ, zero, suc, ◌+◌, ◌-◌, ◌<◌, ◌≤◌, List, [], ◌∷◌, ◌++◌, length, get_or, take, drop, cond, eqb, true, false, Bool, refl, ap, sym, ◌∙◌, subst, inl, inr, arith}
use Rattle.std.specs.Prelude.{All, fold, slice_index, swap, nat_lt, reverse, if◌then◌else◌}
use Rattle.std.specs.List.{range_with_len}
use Rattle.std.specs.List.Sorted.{IsPermutation}
use Rattle.std.proofs.lemmas.Bool.{cases_eq, cases_lt, cond_both, cond-true, cond-false, eq-eqb, ne_eqb}
use Rattle.std.proofs.lemmas.Bool.Decides.{Decides-eqb}
use Rattle.std.proofs.lemmas.List.{get_or_default, get_or_past, drop-drop, ext_get_or}
use Rattle.std.proofs.lemmas.List.Edits.{Swapped, swapped_from_swap}
use borrow.Rule.Slice.PartMut.{put_mid, mid_of}
use Rattle.std.proofs.lemmas.List.Sorted.{All-permutation, IsPermutation-refl, IsPermutation-trans, IsPermutation-reverse, IsPermutation-put_mid, IsPermutation-swap, length_permutation}
use Rattle.std.proofs.lemmas.Map.Keys.{IsDistinct-IsPermutation}
use Rattle.std.proofs.lemmas.Map.Made.{AllPairs-from_IsDistinct, IsDistinct-from_AllPairs}
use Rattle.ir_numbering.specs.Numbering.{IsListing}
use Rattle.ir_numbering.proofs.Traversal.{listing_has}
use Rattle.ir_plan.specs.Tour.{IsNoFarther, IsNearestOrder, next_in_tour, is_shorter, turned, tried, tried_from, swept, shortened}

-- ---- steps along a range of numbers

-- one step more
pub fold_next : {B : Type 0} (f : B → ℕ → B) (k a j : ℕ) (z : B) → a + k ≡ j → fold f z (range_with_len a (suc k)) ≡ f (fold f z (range_with_len a k)) j
fold_next f zero a j z e = let is : a ≡ j = omega (arith, e) in ap (f z) is
fold_next f (suc k) a j z e = fold_next f k (a + 1) j (f z a) (omega (arith, e))

pub fold_to_next : {B : Type 0} (f : B → ℕ → B) (a j : ℕ) (z : B) → a ≤ j → fold f z (range_with_len a (j + 1 - a)) ≡ f (fold f z (range_with_len a (j - a))) j
fold_to_next f a j z le =
    let more : j + 1 - a ≡ suc (j - a) = omega arith in
    ap (λ (k : ℕ). fold f z (range_with_len a k)) more ∙ fold_next f (j - a) a j z (omega arith)

-- no step yet
pub fold_none : {B : Type 0} (f : B → ℕ → B) (a j : ℕ) (z : B) → j ≤ a → z ≡ fold f z (range_with_len a (j - a))
fold_none f a j z le = let none : 0 ≡ j - a = omega arith in ap (λ (k : ℕ). fold f z (range_with_len a k)) none

-- what each step keeps
fold_keeps : {B : Type 0} (f : B → ℕ → B) (P : B → Type 0) (low : ℕ) → ((y : B) (j : ℕ) → low ≤ j → P y → P (f y j)) → (k a : ℕ) (z : B) → low ≤ a → P z → P (fold f z (range_with_len a k))
fold_keeps f P low keeps zero a z le start = start
fold_keeps f P low keeps (suc k) a z le start = fold_keeps f P low keeps k (a + 1) (f z a) (omega arith) (keeps z a le start)

-- two folds whose steps agree
fold_agrees : {B : Type 0} (f g : B → ℕ → B) (P : B → Type 0) (low : ℕ) → ((y : B) (j : ℕ) → low ≤ j → P y → P (f y j)) → ((y : B) (j : ℕ) → low ≤ j → P y → f y j ≡ g y j) → (k a : ℕ) (z : B) → low ≤ a → P z
    → fold f z (range_with_len a k) ≡ fold g z (range_with_len a k)
fold_agrees f g P low keeps same zero a z le start = refl
fold_agrees f g P low keeps same (suc k) a z le start =
    fold_agrees f g P low keeps same k (a + 1) (f z a) (omega arith) (keeps z a le start) ∙ ap (λ y. fold g y (range_with_len (a + 1) k)) (same z a le start)

-- ---- listings

-- a listing in another order is one
pub listing_permuted : (n : ℕ) (xs ys : List ℕ) → IsListing n xs → IsPermutation xs ys → IsListing n ys
listing_permuted n xs ys is moved = record {
  every = length_permutation xs ys moved ∙ is.every;
  nodes = All-permutation (λ (v : ℕ). v < n) xs ys moved is.nodes;
  once = AllPairs-from_IsDistinct Decides-eqb ys (IsDistinct-IsPermutation eqb flips xs ys moved (IsDistinct-from_AllPairs Decides-eqb xs is.once));
}
  where
    flips : (x y : ℕ) → eqb x y ≡ eqb y x
    flips x y =
        elim (cases_eq x y) [
          | inl e ↦ eq-eqb x y e ∙ sym (eq-eqb y x (sym e))
          | inr ne ↦ ne_eqb x y ne ∙ sym (ne_eqb y x (λ e. ne (sym e)))
        ]

pub listing_swapped : (n : ℕ) (xs ys : List ℕ) (i j : ℕ) → IsListing n xs → i < n → j < n → ys ≡ swap xs i j → IsListing n ys
listing_swapped n xs ys i j is hi hj e = let every = is.every in listing_permuted n xs ys is (IsPermutation-swap xs ys i j (omega arith) (omega arith) e)

-- a number at a place of a list of numbers below n, or after its end, is below n
index_below : (n : ℕ) (xs : List ℕ) → 0 < n → All (λ v. v < n) xs → (i : ℕ) → slice_index xs i < n
index_below n xs some all i =
    elim (cases_lt i (length xs)) [
      | inl lt ↦ all i 0 lt
      | inr ge ↦ rw (get_or_past xs i 0 ge) some
    ]

-- ---- a stretch that is turned

none_taken : (k : ℕ) (xs : List ℕ) → xs ≡ [] → take k xs ≡ []
none_taken zero xs e = refl
none_taken (suc k) xs e = ap (take (suc k)) e

none_left : (k : ℕ) (xs : List ℕ) → xs ≡ [] → drop k xs ≡ []
none_left zero xs e = e
none_left (suc k) xs e = ap (drop (suc k)) e

-- as a write to a part leaves it
pub turned_is : (xs : List ℕ) (i j k : ℕ) → i + k ≡ j + 1 → turned xs i j ≡ put_mid i k xs (reverse (mid_of i k xs))
unfolding turned
turned_is xs i j k e =
    let long : j + 1 - i ≡ k = omega (arith, e) in
    ap (λ (m : ℕ). take i xs ++ (reverse (take m (drop i xs)) ++ drop (j + 1) xs)) long
    ∙ ap (λ (ys : List ℕ). take i xs ++ (reverse (take k (drop i xs)) ++ ys)) (ap (λ (m : ℕ). drop m xs) (sym e) ∙ sym (drop-drop k i xs))

pub turned_permutes : (xs : List ℕ) (i j : ℕ) → i ≤ j + 1 → IsPermutation xs (turned xs i j)
turned_permutes xs i j le =
    let k = j + 1 - i in
    subst (IsPermutation xs) (sym (turned_is xs i j k (omega arith))) (IsPermutation-put_mid i k xs (reverse (mid_of i k xs)) (IsPermutation-reverse (mid_of i k xs)))

pub turned_first : (xs : List ℕ) (i j : ℕ) → 0 < i → slice_index (turned xs i j) 0 ≡ slice_index xs 0
unfolding turned
turned_first [] (suc i) j some = rw (none_taken (j + 1 - suc i) [] refl, none_left (j + 1) [] refl) refl
turned_first (x ∷ xs) (suc i) j some = refl
turned_first xs zero j some = absurd (omega arith)

-- ---- sweeps, by distances

-- the test by the four distances at the ends of a stretch
pub shorter_is : (far : ℕ → ℕ → ℕ) (xs : List ℕ) (i j next p q r s : ℕ) → next ≡ (if nat_lt (j + 1) (length xs) then j + 1 else 0) → p ≡ far (slice_index xs (i - 1)) (slice_index xs i) → q ≡ far (slice_index xs j) (slice_index xs next)
    → r ≡ far (slice_index xs (i - 1)) (slice_index xs j) → s ≡ far (slice_index xs i) (slice_index xs next) → nat_lt (r + s) (p + q) ≡ is_shorter far xs i j
unfolding is_shorter
shorter_is far xs i j next p q r s e before after new other =
    let at : slice_index xs next ≡ next_in_tour xs j = ap (slice_index xs) e in
    let far_after : q ≡ far (slice_index xs j) (next_in_tour xs j) = after ∙ ap (far (slice_index xs j)) at in
    let far_other : s ≡ far (slice_index xs i) (next_in_tour xs j) = other ∙ ap (far (slice_index xs i)) at in
    rw (before, far_after, new, far_other) refl

module _ (far : ℕ → ℕ → ℕ) where
  -- a stretch is turned where that makes the tour shorter
  pub tried_yes : (xs : List ℕ) (i j : ℕ) → is_shorter far xs i j ≡ true → turned xs i j ≡ tried far i xs j
  unfolding tried
  tried_yes xs i j e = sym (cond-true (is_shorter far xs i j) (turned xs i j) xs e)

  pub tried_no : (xs : List ℕ) (i j : ℕ) → is_shorter far xs i j ≡ false → xs ≡ tried far i xs j
  unfolding tried
  tried_no xs i j e = sym (cond-false (is_shorter far xs i j) (turned xs i j) xs e)

  pub tried_permutes : (xs : List ℕ) (i j : ℕ) → i ≤ j + 1 → IsPermutation xs (tried far i xs j)
  unfolding tried
  tried_permutes xs i j le = cond_both (is_shorter far xs i j) (turned xs i j) xs (λ (ys : List ℕ). IsPermutation xs ys) (λ e. turned_permutes xs i j le) (λ e. IsPermutation-refl xs)

  tried_first : (xs : List ℕ) (i j : ℕ) → 0 < i → slice_index (tried far i xs j) 0 ≡ slice_index xs 0
  unfolding tried
  tried_first xs i j some = cond_both (is_shorter far xs i j) (turned xs i j) xs (λ (ys : List ℕ). slice_index ys 0 ≡ slice_index xs 0) (λ e. turned_first xs i j some) (λ e. refl)

  pub tried_from_permutes : (xs : List ℕ) (i : ℕ) → IsPermutation xs (tried_from far xs i)
  unfolding tried_from
  tried_from_permutes xs i =
      fold_keeps (tried far i) (IsPermutation xs) i (λ ys j le so. IsPermutation-trans xs ys (tried far i ys j) so (tried_permutes ys i j (omega arith))) (length xs - (i + 1)) (i + 1) xs (omega arith) (IsPermutation-refl xs)

  tried_from_first : (xs : List ℕ) (i : ℕ) → 0 < i → slice_index (tried_from far xs i) 0 ≡ slice_index xs 0
  unfolding tried_from
  tried_from_first xs i some =
      fold_keeps (tried far i) (λ (ys : List ℕ). slice_index ys 0 ≡ slice_index xs 0) 0 (λ ys j le so. tried_first ys i j some ∙ so) (length xs - (i + 1)) (i + 1) xs (omega arith) refl

  pub swept_permutes : (xs : List ℕ) → IsPermutation xs (swept far xs)
  unfolding swept
  swept_permutes xs =
      fold_keeps (tried_from far) (IsPermutation xs) 0 (λ ys i le so. IsPermutation-trans xs ys (tried_from far ys i) so (tried_from_permutes ys i)) (length xs - 1) 1 xs (omega arith) (IsPermutation-refl xs)

  swept_first : (xs : List ℕ) → slice_index (swept far xs) 0 ≡ slice_index xs 0
  unfolding swept
  swept_first xs =
      fold_keeps (tried_from far) (λ (ys : List ℕ). slice_index ys 0 ≡ slice_index xs 0) 1 (λ ys i le so. tried_from_first ys i (omega arith) ∙ so) (length xs - 1) 1 xs (omega arith) refl

  pub shortened_permutes : (sweeps : ℕ) (xs : List ℕ) → IsPermutation xs (shortened far sweeps xs)
  unfolding shortened
  shortened_permutes zero xs = IsPermutation-refl xs
  shortened_permutes (suc sweeps) xs = IsPermutation-trans xs (swept far xs) (shortened far sweeps (swept far xs)) (swept_permutes xs) (shortened_permutes sweeps (swept far xs))

  pub shortened_first : (sweeps : ℕ) (xs : List ℕ) → slice_index (shortened far sweeps xs) 0 ≡ slice_index xs 0
  unfolding shortened
  shortened_first zero xs = refl
  shortened_first (suc sweeps) xs = shortened_first sweeps (swept far xs) ∙ swept_first xs

  -- sweeps after one that changes nothing change nothing
  pub shortened_stays : (sweeps : ℕ) (xs : List ℕ) → swept far xs ≡ xs → shortened far sweeps xs ≡ xs
  unfolding shortened
  shortened_stays zero xs same = refl
  shortened_stays (suc sweeps) xs same = ap (shortened far sweeps) same ∙ shortened_stays sweeps xs same

  -- one sweep, and those after it
  pub shortened_next : (sweeps more : ℕ) (xs : List ℕ) → more ≡ sweeps + 1 → shortened far more xs ≡ shortened far sweeps (swept far xs)
  unfolding shortened
  shortened_next sweeps more xs e = let is : more ≡ suc sweeps = omega (arith, e) in ap (λ (k : ℕ). shortened far k xs) is

  pub shortened_none : (xs : List ℕ) → shortened far 0 xs ≡ xs
  unfolding shortened
  shortened_none xs = refl

-- distances that agree on the numbers below n
module _ (n : ℕ) (some : 0 < n) (far dis : ℕ → ℕ → ℕ) (agree : (a b : ℕ) → a < n → b < n → far a b ≡ dis a b) where
  shorter_agrees : (xs : List ℕ) → All (λ v. v < n) xs → (i j : ℕ) → is_shorter far xs i j ≡ is_shorter dis xs i j
  unfolding is_shorter
  shorter_agrees xs all i j =
      let at = index_below n xs some all in
      let next : ℕ = if nat_lt (j + 1) (length xs) then j + 1 else 0 in
      rw (agree _ _ (at (i - 1)) (at j), agree _ _ (at i) (at next), agree _ _ (at (i - 1)) (at i), agree _ _ (at j) (at next)) refl

  tried_agrees : (i : ℕ) (xs : List ℕ) (j : ℕ) → All (λ v. v < n) xs → tried far i xs j ≡ tried dis i xs j
  unfolding tried
  tried_agrees i xs j all = ap (λ (b : Bool). cond b (turned xs i j) xs) (shorter_agrees xs all i j)

  tried_from_agrees : (xs : List ℕ) (i : ℕ) → All (λ v. v < n) xs → tried_from far xs i ≡ tried_from dis xs i
  unfolding tried_from
  tried_from_agrees xs i all =
      fold_agrees (tried far i) (tried dis i) (All (λ v. v < n)) i (λ ys j le so. All-permutation (λ (v : ℕ). v < n) ys (tried far i ys j) (tried_permutes far ys i j (omega arith)) so) (λ ys j le so. tried_agrees i ys j so)
      (length xs - (i + 1)) (i + 1) xs (omega arith) all

  swept_agrees : (xs : List ℕ) → All (λ v. v < n) xs → swept far xs ≡ swept dis xs
  unfolding swept
  swept_agrees xs all =
      fold_agrees (tried_from far) (tried_from dis) (All (λ v. v < n)) 0 (λ ys i le so. All-permutation (λ (v : ℕ). v < n) ys (tried_from far ys i) (tried_from_permutes far ys i) so) (λ ys i le so. tried_from_agrees ys i so)
      (length xs - 1) 1 xs (omega arith) all

  pub shortened_agrees : (sweeps : ℕ) (xs : List ℕ) → All (λ v. v < n) xs → shortened far sweeps xs ≡ shortened dis sweeps xs
  unfolding shortened
  shortened_agrees zero xs all = refl
  shortened_agrees (suc sweeps) xs all =
      shortened_agrees sweeps (swept far xs) (All-permutation (λ (v : ℕ). v < n) xs (swept far xs) (swept_permutes far xs) all) ∙ ap (shortened dis sweeps) (swept_agrees xs all)

  -- an order by nearest is one by the other distances too
  pub nearest_moved : (root : ℕ) (order : List ℕ) → IsNearestOrder n far root order → IsNearestOrder n dis root order
  nearest_moved root order is = record {
    listing = is.listing;
    first = is.first;
    nearest = λ i j lt within.
        let all = is.listing.nodes in
        let every = is.listing.every in
        let u = all i 0 (omega arith) in
        let v = all (i + 1) 0 (omega arith) in
        let w = all j 0 (omega arith) in
        rw (← agree _ _ u v, ← agree _ _ u w) (is.nearest i j lt within);
  }

-- ---- the order by nearest is made

-- of two nodes one is no farther
pub no_farther_other : (far : ℕ → ℕ) (v w : ℕ) → (IsNoFarther far v w → ⊥) → IsNoFarther far w v
no_farther_other far v w not_so =
    elim (cases_lt (far w) (far v)) [
      | inl less ↦ inl less
      | inr ge ↦
          elim (cases_lt (far v) (far w)) [
            | inl more ↦ absurd (not_so (inl more))
            | inr le ↦
                elim (cases_lt w v) [
                  | inl lower ↦ inr (omega arith, omega arith)
                  | inr upper ↦ absurd (not_so (inr (omega arith, upper)))
                ]
          ]
    ]

pub no_farther_by : (far : ℕ → ℕ) (u v w : ℕ) → IsNoFarther far u v → IsNoFarther far v w → IsNoFarther far u w
no_farther_by far u v w (inl less) (inl more) = inl (omega (arith, less, more))
no_farther_by far u v w (inl less) (inr same) = inl (omega (arith, less, same.0))
no_farther_by far u v w (inr same) (inl less) = inl (omega (arith, less, same.0))
no_farther_by far u v w (inr same) (inr also) = inr (same.0 ∙ also.0, omega (arith, same.1, also.1))

pub no_farther_self : (far : ℕ → ℕ) (v w : ℕ) → v ≡ w → IsNoFarther far v w
no_farther_self far v w e = inr (ap far e, omega (arith, e))

-- the numbers below n, in their order, are a listing
pub numbers_list : (n : ℕ) (xs : List ℕ) → length xs ≡ n → ((k : ℕ) → k < n → slice_index xs k ≡ k) → IsListing n xs
numbers_list n xs len own = record {
  every = len;
  nodes = λ k d lt. let e = get_or_default xs k d 0 lt ∙ own k (omega (arith, lt, len)) in omega (arith, e, lt, len);
  once = λ i j d lt within same.
      let at = get_or_default xs i d 0 (omega (arith, lt, within)) ∙ own i (omega (arith, lt, within, len)) in
      let there = get_or_default xs j d 0 within ∙ own j (omega (arith, within, len)) in
      omega (arith, sym at ∙ same ∙ there, lt);
}

-- the order is by nearest before a place
pub record IsNearestBelow (n : ℕ) (far : ℕ → ℕ → ℕ) (root place : ℕ) (order : List ℕ) : Type 0 where
  pub listing : IsListing n order
  pub first : slice_index order 0 ≡ root
  pub nearest : (i j : ℕ) → i < j → j < n → i + 1 < place → IsNoFarther (far (slice_index order i)) (slice_index order (i + 1)) (slice_index order j)

-- the first place alone
pub nearest_first : (n : ℕ) (far : ℕ → ℕ → ℕ) (root : ℕ) (xs ys : List ℕ) → IsListing n xs → ((v : ℕ) → v < n → slice_index xs v ≡ v) → root < n → ys ≡ swap xs 0 root → IsNearestBelow n far root 1 ys
nearest_first n far root xs ys is own within swapped =
    let every = is.every in
    let at = swapped_from_swap xs ys 0 root 0 (omega arith) (omega arith) swapped in
    record {
      listing = listing_swapped n xs ys 0 root is (omega arith) within swapped;
      first = at.0 ∙ own root within;
      nearest = λ i j lt inside upto. absurd (omega (arith, upto));
    }

-- the nearest of those from a place on changes places with the one there
module _ (n : ℕ) (far : ℕ → ℕ → ℕ) (root place next : ℕ) (xs ys : List ℕ) (is : IsNearestBelow n far root place xs) (some : 0 < place) (behind_it : place ≤ next) (within : next < n)
    (swapped : ys ≡ swap xs place next) (nearest : (j : ℕ) → place ≤ j → j < n → IsNoFarther (far (slice_index xs (place - 1))) (slice_index xs next) (slice_index xs j)) where
  places : Swapped (λ i. get_or xs i 0) (λ i. get_or ys i 0) place next
  places = let every = is.listing.every in swapped_from_swap xs ys place next 0 (omega arith) (omega arith) swapped

  kept : (i : ℕ) → i < place → slice_index ys i ≡ slice_index xs i
  kept i lt = places.2 i (λ e. omega arith) (λ e. omega arith)

  -- where a node that is at a place from a low one on was before
  came_from : (low j : ℕ) → low ≤ place → low ≤ j → j < n → (k : ℕ) × (low ≤ k) × (k < n) × (slice_index ys j ≡ slice_index xs k)
  came_from low j le from lt =
      elim (cases_eq j place) [
        | inl e ↦ (next, omega arith, within, ap (slice_index ys) e ∙ places.0)
        | inr ne ↦
            elim (cases_eq j next) [
              | inl e ↦ (place, le, omega arith, ap (slice_index ys) e ∙ places.1)
              | inr other ↦ (j, from, lt, places.2 j ne other)
            ]
      ]

  pub nearest_more : IsNearestBelow n far root (place + 1) ys
  nearest_more = record {
    listing = listing_swapped n xs ys place next is.listing (omega arith) within swapped;
    first = kept 0 some ∙ is.first;
    nearest = λ i j lt inside upto.
        elim (cases_lt (i + 1) place) [
          | inl before ↦
              let w = came_from (i + 1) j (omega arith) (omega arith) inside in
              let told = is.nearest i w.0 (omega (arith, w.1)) w.2 before in
              rw (kept i (omega arith), kept (i + 1) before, w.3) told
          | inr ge ↦
              let here : i + 1 ≡ place = omega arith in
              let last : place - 1 ≡ i = omega arith in
              let w = came_from place j (omega arith) (omega arith) inside in
              let told = subst (λ (k : ℕ). IsNoFarther (far (slice_index xs k)) (slice_index xs next) (slice_index xs w.0)) last (nearest w.0 w.1 w.2) in
              let now : slice_index ys (i + 1) ≡ slice_index xs next = ap (slice_index ys) here ∙ places.0 in
              rw (kept i (omega arith), now, w.3) told
        ];
  }

pub nearest_all : (n : ℕ) (far : ℕ → ℕ → ℕ) (root place : ℕ) (order : List ℕ) → n ≤ place → IsNearestBelow n far root place order → IsNearestOrder n far root order
nearest_all n far root place order le is = record { listing = is.listing; first = is.first; nearest = λ i j lt inside. is.nearest i j lt inside (omega arith) }

-- ---- the order by nearest is determined

-- of two nodes, each no farther than the other, both are one
both_ways : (far : ℕ → ℕ) (v w : ℕ) → IsNoFarther far v w → IsNoFarther far w v → v ≡ w
both_ways far v w (inl less) (inl more) = omega (arith, less, more)
both_ways far v w (inl less) (inr same) = omega (arith, less, same.0)
both_ways far v w (inr same) (inl less) = omega (arith, less, same.0)
both_ways far v w (inr same) (inr also) = omega (arith, same.1, also.1)

-- where two orders agree so far, the next of one is no farther than the next of the other
next_no_farther : (n : ℕ) (far : ℕ → ℕ → ℕ) (root : ℕ) (xs ys : List ℕ) → IsNearestOrder n far root xs → IsNearestOrder n far root ys → (k : ℕ) → k + 1 < n → ((i : ℕ) → i < k + 1 → slice_index xs i ≡ slice_index ys i)
    → IsNoFarther (far (slice_index xs k)) (slice_index xs (k + 1)) (slice_index ys (k + 1))
next_no_farther n far root xs ys a b k within before =
    let y = slice_index ys (k + 1) in
    let every = a.listing.every in
    let all = b.listing.every in
    let w = listing_has n xs a.listing y (b.listing.nodes (k + 1) 0 (omega arith)) in
    let at : slice_index xs w.0 ≡ y = get_or_default xs w.0 0 y w.1 ∙ w.2 in
    elim (cases_lt k w.0) [
      | inl behind_it ↦ subst (IsNoFarther (far (slice_index xs k)) (slice_index xs (k + 1))) at (a.nearest k w.0 behind_it (omega (arith, w.1)))
      | inr ge ↦ absurd (b.listing.once w.0 (k + 1) 0 (omega (arith, ge)) (omega arith) (sym (before w.0 (omega (arith, ge))) ∙ at))
    ]

module _ (n : ℕ) (far : ℕ → ℕ → ℕ) (root : ℕ) (xs ys : List ℕ) (a : IsNearestOrder n far root xs) (b : IsNearestOrder n far root ys) where
  nearest_to : (k : ℕ) → k < n → (i : ℕ) → i < k + 1 → slice_index xs i ≡ slice_index ys i
  nearest_to zero le i lt = let none : i ≡ 0 = omega arith in subst (λ (m : ℕ). slice_index xs m ≡ slice_index ys m) (sym none) (a.first ∙ sym b.first)
  nearest_to (suc k) le i lt =
      let before = nearest_to k (omega arith) in
      elim (cases_lt i (k + 1)) [
        | inl lower ↦ before i lower
        | inr ge ↦
            let here : i ≡ k + 1 = omega arith in
            let one = next_no_farther n far root xs ys a b k (omega arith) before in
            let other = next_no_farther n far root ys xs b a k (omega arith) (λ m h. sym (before m h)) in
            let same : slice_index xs (k + 1) ≡ slice_index ys (k + 1) =
            both_ways (far (slice_index xs k)) _ _ one (subst (λ (u : ℕ). IsNoFarther (far u) (slice_index ys (k + 1)) (slice_index xs (k + 1))) (sym (before k (omega arith))) other) in
            subst (λ (m : ℕ). slice_index xs m ≡ slice_index ys m) (sym here) same
      ]

  pub nearest_same : xs ≡ ys
  nearest_same =
      let every = a.listing.every in
      ext_get_or 0 xs ys (a.listing.every ∙ sym b.listing.every) (λ i within. nearest_to i (omega arith) i (omega arith))
