-- How many prefixes a trie is given by, and what that is at least.
use Rattle.std.proofs.Common.{◌≡◌, ℕ, ◌+◌, ◌-◌, ◌*◌, ◌<◌, ◌≤◌, ◌||◌, ◌&&◌, List, [], ◌∷◌, ◌++◌, length, length-append, get_or, Bool, true, false, refl, ap, sym, ◌∙◌, inl, inr, arith, Option}
use Rattle.ir_prefix.specs.Joined.{is_named}
use Rattle.ir_prefix.specs.Described.{names_of, IsJoin, Trie, Free, Alike, Fork}
use Rattle.ir_prefix.specs.Cover.{prefix_at, told_unless, cover_told, taken_unless, taken, cover_of, IsTrie}
use Rattle.ir_prefix.specs.declared.cover.Prefix.{Prefix}
use Rattle.ir_prefix.proofs.AmongLemmas.{head_among}

abbrev pub miss : Bool → ℕ
miss true = 0
miss false = 1

-- how many prefixes a trie is given by, below what is named above
abbrev pub cost : Trie → Option ℕ → ℕ
cost Free q = 0
cost (Alike p) q = miss (is_named (p ∷ []) q)
cost (Fork names l r) q = miss (is_named names q) + (cost l (taken names q) + cost r (taken names q))

length_told_unless : (b : Bool) (m : Prefix) → length (told_unless b m) ≡ miss b
length_told_unless true m = refl
length_told_unless false m = refl

pub length_cover : (bits : ℕ) (t : Trie) (h i : ℕ) (q : Option ℕ) → length (cover_of bits t h i q) ≡ cost t q
length_cover bits Free h i q = refl
length_cover bits (Alike p) h i q = length_told_unless (is_named (p ∷ []) q) (prefix_at bits h i p)
length_cover bits (Fork names l r) h i q =
    let below = taken names q in
    let here = cover_told bits h i names q in
    let cl = cover_of bits l (h - 1) (2 * i) below in
    let cr = cover_of bits r (h - 1) (2 * i + 1) below in
    let e = length_told_unless (is_named names q) (prefix_at bits h i (get_or names 0 0)) in
    let f = length_cover bits l (h - 1) (2 * i) below in
    let g = length_cover bits r (h - 1) (2 * i + 1) below in
    let u = length-append here (cl ++ cr) in
    let v = length-append cl cr in
    omega arith

-- what the halves find above them is one of the node's names
taken_by : (c : List ℕ) (q : Option ℕ) (b : Bool) → is_named c q ≡ b → 0 < length c → is_named c (taken_unless b q (get_or c 0 0)) ≡ true
taken_by c q true e some = e
taken_by [] q false e some = absurd (omega arith)
taken_by (x ∷ xs) q false e some = head_among x xs

pub taken_named : (c : List ℕ) (q : Option ℕ) → 0 < length c → is_named c (taken c q) ≡ true
taken_named c q some = taken_by c q (is_named c q) refl some

both_hit : (a b : Bool) → true ≡ (a && b) → (miss a ≡ 0) × (miss b ≡ 0)
both_hit true true e = (refl, refl)
both_hit true false e = absurd cc
both_hit false b e = absurd cc

both_or_more : (a b : Bool) → miss (a && b) ≤ miss a + miss b
both_or_more true true = omega arith
both_or_more true false = omega arith
both_or_more false true = omega arith
both_or_more false false = omega arith

one_hit : (a b : Bool) → (a && b) ≡ false → true ≡ (a || b) → miss a + miss b ≡ 1
one_hit true true e f = absurd cc
one_hit true false e f = refl
one_hit false true e f = refl
one_hit false false e f = absurd cc

one_more : (a b : Bool) → (a && b) ≡ false → 1 + miss (a || b) ≤ miss a + miss b
one_more true true e = absurd cc
one_more true false e = omega arith
one_more false true e = omega arith
one_more false false e = omega arith

at_most_one : (b : Bool) → miss b ≤ 1
at_most_one true = omega arith
at_most_one false = omega arith

-- a node's cost: one number where a name of it is above, and one more elsewhere; and no more than its halves' costs below any
-- one name, with one more where that name is given
pub record IsPriced (c : List ℕ) (own left right : Option ℕ → ℕ) : Type 0 where
  pub base : ℕ
  pub price : (q : Option ℕ) → own q ≡ base + miss (is_named c q)
  pub stays : (q : Option ℕ) → own q ≤ left q + right q
  pub changes : (q o : Option ℕ) → own q ≤ 1 + (left o + right o)

module _ (a b c : List ℕ) (left right : Option ℕ → ℕ) (bl br : ℕ) (pl : (q : Option ℕ) → left q ≡ bl + miss (is_named a q)) (pr : (q : Option ℕ) → right q ≡ br + miss (is_named b q)) where
  pub priced : IsJoin a b c → IsPriced c (λ q. miss (is_named c q) + (left (taken c q) + right (taken c q))) left right
  priced j =
      elim j.joins [
        | inl both ↦
            let at : (q : Option ℕ) → left (taken c q) + right (taken c q) ≡ bl + br = λ q.
            let t = taken c q in
            let h = both_hit (is_named a t) (is_named b t) (sym (taken_named c q j.some) ∙ both t) in
            omega (arith, pl t, pr t, h.0, h.1) in
            record {
              base = bl + br;
              price = λ q. omega (arith, at q);
              stays = λ q.
                  let m = both_or_more (is_named a q) (is_named b q) in
                  let e = ap miss (both q) in
                  omega (arith, at q, pl q, pr q);
              changes = λ q o.
                  let u : miss (is_named c q) ≤ 1 = at_most_one (is_named c q) in
                  omega (arith, at q, pl o, pr o);
            }
        | inr one ↦
            let at : (q : Option ℕ) → left (taken c q) + right (taken c q) ≡ bl + br + 1 = λ q.
            let t = taken c q in
            let h = one_hit (is_named a t) (is_named b t) (one t).0 (sym (taken_named c q j.some) ∙ (one t).1) in
            omega (arith, pl t, pr t) in
            record {
              base = bl + br + 1;
              price = λ q. omega (arith, at q);
              stays = λ q.
                  let m = one_more (is_named a q) (is_named b q) (one q).0 in
                  let e = ap miss (one q).1 in
                  omega (arith, at q, pl q, pr q);
              changes = λ q o.
                  let u : miss (is_named c q) ≤ 1 = at_most_one (is_named c q) in
                  let m = one_more (is_named a o) (is_named b o) (one o).0 in
                  omega (arith, at q, pl o, pr o);
            }
      ]

pub cost_base : (h : ℕ) (t : Trie) → IsTrie h t → (base : ℕ) × ((q : Option ℕ) → cost t q ≡ base + miss (is_named (names_of t) q))
cost_base h Free is = (0, λ q. omega arith)
cost_base h (Alike p) is = (0, λ q. omega arith)
cost_base h (Fork names l r) is =
    let bl = cost_base (h - 1) l is.1 in
    let br = cost_base (h - 1) r is.2 in
    let w = priced (names_of l) (names_of r) names (cost l) (cost r) bl.0 br.0 bl.1 br.1 is.3 in
    (w.base, w.price)

pub fork_priced : (h : ℕ) (l r : Trie) (c : List ℕ) → IsTrie (h - 1) l → IsTrie (h - 1) r → IsJoin (names_of l) (names_of r) c
    → IsPriced c (λ q. miss (is_named c q) + (cost l (taken c q) + cost r (taken c q))) (cost l) (cost r)
fork_priced h l r c il ir j =
    let bl = cost_base (h - 1) l il in
    let br = cost_base (h - 1) r ir in
    priced (names_of l) (names_of r) c (cost l) (cost r) bl.0 br.0 bl.1 br.1 j
