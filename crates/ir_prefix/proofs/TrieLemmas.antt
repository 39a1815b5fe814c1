-- A node from its halves.
use Rattle.std.proofs.Common.{◌≡◌, ℕ, ◌+◌, ◌-◌, ◌*◌, ◌/◌, ◌^◌, ◌<◌, List, [], ◌∷◌, length, get_or, ap, sym, ◌∙◌, subst, inl, inr, ◌⊎◌, arith, Option, Some}
use Rattle.std.specs.List.Sorted.{IsNonDecreasing}
use Rattle.ir_model.specs.Compiled.{port_to}
use Rattle.ir_prefix.specs.Described.{names_of, IsFree, IsAlike, IsNodeOfHalves, IsJoin, Describes, Trie, Free, Alike, Fork}
use Rattle.ir_prefix.specs.Cover.{IsTrie}
use Rattle.ir_prefix.proofs.AmongLemmas.{joined_is_join}
use Rattle.ir_prefix.proofs.BlockLemmas.{halves, left_inside, right_inside}

pub names_rise : (ports : List (Option ℕ)) (h i : ℕ) (t : Trie) → Describes ports h i t → IsNonDecreasing (names_of t)
names_rise ports h i Free d = λ m n e le lt. absurd (omega arith)
names_rise ports h i (Alike p) d = λ m n e le lt. let a : n ≡ 0 = omega arith in let b : m ≡ 0 = omega arith in let s : get_or (p ∷ []) m e ≡ get_or (p ∷ []) n e = ap (λ k. get_or (p ∷ []) k e) (b ∙ sym a) in omega (arith, s)
names_rise ports h i (Fork names l r) d = d.4

pub some_names : (ports : List (Option ℕ)) (h i : ℕ) (t : Trie) → Describes ports h i t → (IsFree t → ⊥) → 0 < length (names_of t)
some_names ports h i Free d n = absurd (n tt)
some_names ports h i (Alike p) d n = omega arith
some_names ports h i (Fork names l r) d n = d.3.some

one_has_names : (ports : List (Option ℕ)) (h i j : ℕ) (l r : Trie) → Describes ports h i l → Describes ports h j r → (IsFree l → IsFree r → ⊥) → (0 < length (names_of l)) ⊎ (0 < length (names_of r))
one_has_names ports h i j Free r dl dr n = inr (some_names ports h j r dr (n tt))
one_has_names ports h i j (Alike p) r dl dr n = inl (omega arith)
one_has_names ports h i j (Fork names l o) r dl dr n = inl dl.3.some

no_port : (ports : List (Option ℕ)) (h i : ℕ) (t : Trie) → IsFree t → Describes ports h i t → (x p : ℕ) → x / 2 ^ h ≡ i → port_to ports x ≡ Some p → ⊥
no_port ports h i Free f d = d
no_port ports h i (Alike p) f d = absurd f
no_port ports h i (Fork names l r) f d = absurd f

one_port : (ports : List (Option ℕ)) (h i : ℕ) (t : Trie) (p : ℕ) → IsAlike t p → Describes ports h i t → (x r : ℕ) → x / 2 ^ h ≡ i → port_to ports x ≡ Some r → r ≡ p
one_port ports h i Free p f d x r e o = absurd (d x r e o)
one_port ports h i (Alike q) p f d x r e o = d.0 x r e o ∙ f
one_port ports h i (Fork names l o) p f d x r e k = absurd f

module _ (ports : List (Option ℕ)) (h i : ℕ) (some : 0 < h) where
  pub parent_describes : (l r t : Trie) → Describes ports (h - 1) (2 * i) l → Describes ports (h - 1) (2 * i + 1) r → IsNodeOfHalves l r t → Describes ports h i t
  parent_describes l r Free dl dr is = λ x p e o.
      elim (halves x h i some e) [
        | inl a ↦ no_port ports (h - 1) (2 * i) l is.0 dl x p a o
        | inr b ↦ no_port ports (h - 1) (2 * i + 1) r is.1 dr x p b o
      ]
  parent_describes l r (Alike p) dl dr is = (
    λ x q e o.
        elim (halves x h i some e) [
          | inl a ↦ one_port ports (h - 1) (2 * i) l p is.0 dl x q a o
          | inr b ↦ one_port ports (h - 1) (2 * i + 1) r p is.1 dr x q b o
        ],
    elim is.2 [
      | inl e ↦ let w = (subst (Describes ports (h - 1) (2 * i)) e dl).1 in (w.0, left_inside w.0 h i some w.1, w.2)
      | inr e ↦ let w = (subst (Describes ports (h - 1) (2 * i + 1)) e dr).1 in (w.0, right_inside w.0 h i some w.1, w.2)
    ],
  )
  parent_describes l r (Fork names x y) dl dr is = (
    some,
    subst (Describes ports (h - 1) (2 * i)) (sym is.0) dl,
    subst (Describes ports (h - 1) (2 * i + 1)) (sym is.1) dr,
    subst (λ (u : Trie). IsJoin (names_of u) (names_of y) names) (sym is.0)
        (subst (λ (u : Trie). IsJoin (names_of l) (names_of u) names) (sym is.1)
        (joined_is_join (names_of l) (names_of r) names (one_has_names ports (h - 1) (2 * i) (2 * i + 1) l r dl dr is.2) is.3)),
    is.4,
  )

pub described_is_trie : (ports : List (Option ℕ)) (h i : ℕ) (t : Trie) → Describes ports h i t → IsTrie h t
described_is_trie ports h i Free d = tt
described_is_trie ports h i (Alike p) d = tt
described_is_trie ports h i (Fork names l r) d =
    (d.0, described_is_trie ports (h - 1) (2 * i) l d.1, described_is_trie ports (h - 1) (2 * i + 1) r d.2, d.3, d.4)
