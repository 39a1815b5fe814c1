-- The first link between two nodes is found by the keys of all links.
use Rattle.std.proofs.Common.{◌≡◌, ◌≢◌, ℕ, ◌+◌, ◌*◌, ◌/◌, ◌%◌, ◌<◌, ◌≤◌, min, max, true, false, List, [], ◌∷◌, ◌++◌, Some, length, refl, ap, sym, subst, ◌∙◌, arith, get_or, slice_get, ltb, ⊎_elim, inl, inr}
use Rattle.std.specs.List.{Contains}
use Rattle.std.specs.List.Sorted.{IsPermutation, IsPartitionPoint}
use Rattle.std.proofs.lemmas.Bool.{cases_Bool, cases_lt, ltb-true, ltb-false}
use Rattle.std.proofs.lemmas.Bool.Decides.{nat_tests}
use Rattle.std.proofs.lemmas.List.{get_or_default}
use Rattle.std.proofs.lemmas.List.Elements.{All-get_or, All-push, Contains-append_left, Contains-append_right}
use Rattle.std.proofs.lemmas.List.Sorted.{All-permutation, Contains-permutation}
use Rattle.std.proofs.lemmas.List.Sums.{position_or_len_is}
use Rattle.std.proofs.lemmas.Option.{slice_get_within, slice_get-get_or, get_or_from_slice_get}
use Rattle.ir_model.specs.declared.Link.{Link}
use Rattle.ir_tables.specs.Numbered.{AreKeysOf, AreLinkKeys, AreOrdered, IsLinkKey, ends_key, joins_nodes, link_between, link_key}
use Rattle.ir_tables.proofs.Numbered.{past_link}

-- ---- the keys of all links

pub keys_moved : (links : List Link) (n : ℕ) (before after : List ℕ) → IsPermutation before after → AreKeysOf links n before → AreKeysOf links n after
keys_moved links n before after moved h = record {
  each = λ l link lt at. Contains-permutation before after (link_key link l) moved (h.each l link lt at);
  only = All-permutation (IsLinkKey links) before after moved h.only;
}

-- the key of one link more
pub keys_more : (links : List Link) (n ends : ℕ) (keys : List ℕ) → n < length links → ends ≡ ends_key (get_or links n past_link).low (get_or links n past_link).high
    → AreKeysOf links n keys → AreKeysOf links (n + 1) (keys ++ (ends * 131072 + n) ∷ [])
keys_more links n ends keys lt is h =
    let link : Link = get_or links n past_link in
    let key : ℕ = link_key link n in
    let at : slice_get links n ≡ Some link = slice_get-get_or links n past_link lt in
    subst (λ (k : ℕ). AreKeysOf links (n + 1) (keys ++ k ∷ [])) (sym (ap (λ (e : ℕ). e * 131072 + n) is)) (record {
      each = λ l other less at_l.
          ⊎_elim (λ (before : l < n). Contains-append_left keys (key ∷ []) (link_key other l) (h.each l other before at_l))
          (λ (here : n ≤ l). let same : l ≡ n = omega (arith, less, here) in
          let links_same : link ≡ other = cc (at, subst (λ (k : ℕ). slice_get links k ≡ Some other) same at_l) in
          Contains-append_right keys (key ∷ []) (link_key other l) (0, omega arith, ap (λ (z : Link). link_key z n) links_same ∙ ap (λ (k : ℕ). link_key other k) (sym same)))
          (cases_lt l n);
      only = All-push (IsLinkKey links) keys key h.only (record { l = n; link = link; at = at; is = refl });
    })

-- ---- a link by its ends

-- a link that joins two nodes has them as its ends
ends_joined : (u v : ℕ) (link : Link) → link.low < link.high → joins_nodes u v link ≡ true → (link.low ≡ min u v) × (link.high ≡ max u v)
ends_joined u v link rises joined = (grind (arith, nat_tests), grind (arith, nat_tests))

joined_by_ends : (u v : ℕ) (link : Link) → link.low ≡ min u v → link.high ≡ max u v → joins_nodes u v link ≡ true
joined_by_ends u v link low high = grind (arith, nat_tests)

-- one key has one pair of ends
same_ends : (low high a b : ℕ) → high < 65536 → b < 65536 → ends_key low high ≡ ends_key a b → (low ≡ a) × (high ≡ b)
same_ends low high a b lt lt' same = (omega (arith, lt, lt', same), omega (arith, lt, lt', same))

module _ (links : List Link) (keys : List ℕ) (few : length links ≤ 131072) (ordered : AreOrdered links) (h : AreLinkKeys links keys)
    (u v ends place : ℕ) (ends_are : ends ≡ ends_key (min u v) (max u v)) (point : IsPartitionPoint (λ y. ltb y (ends * 131072) ≡ true) (λ y. ltb y (ends * 131072) ≡ false) keys place) where
  -- where a link joins them, the key at the place is none of lesser ends, nor after that link's own
  record IsFound (k : ℕ) : Type 0 where
    pub within : place < length keys
    pub from : ends * 131072 ≤ get_or keys place 0
    pub to : get_or keys place 0 ≤ ends * 131072 + k

  found : (k : ℕ) (link : Link) → slice_get links k ≡ Some link → joins_nodes u v link ≡ true → IsFound k
  found k link at joined =
      let same = ends_joined u v link (ordered k link at).0 joined in
      let key : link_key link k ≡ ends * 131072 + k = omega (arith, same.0, same.1, ends_are) in
      let has : Contains keys (link_key link k) = h.all.each k link (slice_get_within links k link at) at in
      let here : get_or keys has.0 0 ≡ link_key link k = has_at has in
      ⊎_elim
      (λ (less : has.0 < place). absurd (let below : get_or keys has.0 0 < ends * 131072 = ltb-true (get_or keys has.0 0) (ends * 131072) (point.0 has.0 0 (omega arith) less) in omega (arith, below, here, key)))
      (λ (from : place ≤ has.0).
      let within : place < length keys = omega (arith, from, has.1) in
      record {
        within = within;
        from = ltb-false (get_or keys place 0) (ends * 131072) (point.1 place 0 (omega arith) within);
        to = omega (arith, h.rising place has.0 0 from has.1, here, key);
      })
      (cases_lt has.0 place)
    where
      has_at : (has : Contains keys (link_key link k)) → get_or keys has.0 0 ≡ link_key link k
      has_at has = get_or_default keys has.0 0 (link_key link k) has.1 ∙ has.2

  none_joins : (k : ℕ) → k < length links → (IsFound k → ⊥) → joins_nodes u v (get_or links k past_link) ≡ false
  none_joins k lt not_found = elim (cases_Bool (joins_nodes u v (get_or links k past_link))) [
    | inl joined ↦ absurd (not_found (found k (get_or links k past_link) (slice_get-get_or links k past_link lt) joined))
    | inr none ↦ none
  ]

  pub link_found : u < 65536 → v < 65536 → place < length keys → get_or keys place 0 / 131072 ≡ ends → get_or keys place 0 % 131072 ≡ link_between links u v
  link_found ltu ltv within same =
      let is : IsLinkKey links (get_or keys place 0) = All-get_or (IsLinkKey links) keys place 0 within h.all.only in
      let lt : is.l < length links = slice_get_within links is.l is.link is.at in
      let order = ordered is.l is.link is.at in
      let number : get_or keys place 0 % 131072 ≡ is.l = omega (arith, is.is, lt, few) in
      let key : ends_key is.link.low is.link.high ≡ ends = omega (arith, is.is, lt, few, same) in
      let both = same_ends is.link.low is.link.high (min u v) (max u v) order.1 (omega (arith, ltu, ltv)) (key ∙ ends_are) in
      let there : get_or links is.l past_link ≡ is.link = get_or_from_slice_get links is.l is.link past_link is.at in
      number ∙ sym (position_or_len_is (joins_nodes u v) links is.l past_link (omega (arith, lt))
      (λ k less. none_joins k (omega (arith, less, lt)) (λ f. omega (arith, f.to, is.is, key, less)))
      (λ _. ap (joins_nodes u v) there ∙ joined_by_ends u v is.link both.0 both.1))

  pub no_link : (place < length keys → get_or keys place 0 / 131072 ≢ ends) → length links ≡ link_between links u v
  no_link other = sym (position_or_len_is (joins_nodes u v) links (length links) past_link (omega arith)
      (λ k lt. none_joins k lt (λ f. other f.within (omega (arith, f.from, f.to, lt, few))))
      (λ lt. absurd (omega (arith, lt))))
