-- The marks of a trie.
use Rattle.std.proofs.Common.{◌≡◌, ℕ, ◌+◌, ◌-◌, ◌*◌, ◌/◌, ◌^◌, ◌<◌, List, [], ◌∷◌, ◌++◌, length, take, refl, ap, sym, ◌∙◌, subst, inl, inr, arith, append_assoc, Option, Some, None, IfSome}
use Rattle.std.proofs.Math.Pow.{pow-lt}
use Rattle.std.proofs.Math.Seq.{take-append_seam}
use Rattle.std.proofs.lemmas.Bool.{cases_lt}
use Rattle.std.proofs.lemmas.List.{get_or_past, length-append}
use Rattle.std.specs.Option.{option_to_list}
use Rattle.std.specs.Int.{bit_at}
use Rattle.std.specs.Int.Bits.{bit_and}
use Rattle.ir_model.specs.Compiled.{port_to}
use Rattle.ir_prefix.specs.Cover.{cover_of, taken, cover_told}
use Rattle.ir_prefix.specs.Described.{Describes, names_of, IsFree, IsJoin, Trie, Free, Alike, Fork}
use Rattle.ir_prefix.specs.Marks.{AreLow, AreNameBits, AreMarks, IsNodeMarked, joined_bits, ports_in}
use Rattle.ir_prefix.specs.declared.cover.Prefix.{Prefix}
use Rattle.ir_prefix.specs.declared.marks.Mark.{Mark}
use Rattle.ir_prefix.specs.declared.marks.Mark.TheVariants.{NoPort, OnePort, Pair, Several}
use Rattle.ir_prefix.proofs.BitLemmas.{all_are_bits, one_is_bits, both_free, all_shared, ports_rise, joined_are_bits}
use Rattle.ir_prefix.proofs.TrieLemmas.{parent_describes}

-- a node with no port, and one with one
pub free_marked : (ports : List (Option ℕ)) (h i m : ℕ) (before after : List Mark) → Describes ports h i Free → m ≡ 2 ^ 64 - 1 → after ≡ before ++ NoPort ∷ [] → IsNodeMarked ports h i m before after
free_marked ports h i m before after d e added = record {
  trie = Free;
  marks = NoPort ∷ [];
  describes = d;
  are = refl;
  added = added;
  bits = subst (AreNameBits []) (sym e) all_are_bits;
}

pub one_marked : (ports : List (Option ℕ)) (h i m p : ℕ) (before after : List Mark) → Describes ports h i (Alike p) → p < 63 → m ≡ 2 ^ p → after ≡ before ++ OnePort p ∷ [] → IsNodeMarked ports h i m before after
one_marked ports h i m p before after d low e added = record {
  trie = Alike p;
  marks = OnePort p ∷ [];
  describes = d;
  are = refl;
  added = added;
  bits = subst (AreNameBits (p ∷ [])) (sym e) (one_is_bits p low);
}

free_from : (ports : List (Option ℕ)) (h i : ℕ) (t : Trie) → Describes ports h i t → length (names_of t) ≡ 0 → IsFree t
free_from ports h i Free d e = tt
free_from ports h i (Alike p) d e = absurd (omega arith)
free_from ports h i (Fork names l r) d e = let s = d.3.some in absurd (omega (arith, s, e))

-- the node of two halves
module _ (ports : List (Option ℕ)) (h i a b m before : ℕ) (old behind both after : List Mark) (some : 0 < h) (fits : a < 2 ^ 64) (right : IsNodeMarked ports (h - 1) (2 * i + 1) b old behind) (left : IsNodeMarked ports (h - 1) (2 * i) a behind both) where
  parts : both ≡ old ++ (right.marks ++ left.marks)
  parts = left.added ∙ ap (λ (xs : List Mark). xs ++ left.marks) right.added ∙ append_assoc old right.marks left.marks

  pub freed_marked : bit_at (bit_and a b) 63 ≡ 1 → before ≡ length old → after ≡ take before both ++ NoPort ∷ [] → m ≡ bit_and a b → IsNodeMarked ports h i m old after
  freed_marked e n added is =
      let lengths = both_free (names_of left.trie) (names_of right.trie) a b left.bits right.bits e in
      let fl = free_from ports (h - 1) (2 * i) left.trie left.describes lengths.0 in
      let fr = free_from ports (h - 1) (2 * i + 1) right.trie right.describes lengths.1 in
      let front : take before both ≡ old = ap (λ k. take k both) n ∙ ap (λ (xs : List Mark). take (length old) xs) parts ∙ take-append_seam old (right.marks ++ left.marks) in
      record {
        trie = Free;
        marks = NoPort ∷ [];
        describes = parent_describes ports h i some left.trie right.trie Free left.describes right.describes (fl, fr);
        are = refl;
        added = added ∙ ap (λ (xs : List Mark). xs ++ NoPort ∷ []) front;
        bits = subst (AreNameBits []) (sym is) (λ q. sym (all_shared (names_of left.trie) (names_of right.trie) a b left.bits right.bits lengths.0 lengths.1 q));
      }

  pub joined_marked : (bit_at (bit_and a b) 63 ≡ 1 → ⊥) → after ≡ both ++ Several (joined_bits a b) ∷ [] → m ≡ joined_bits a b → IsNodeMarked ports h i m old after
  joined_marked n added is =
      let names = ports_in (joined_bits a b) in
      let j = joined_are_bits (names_of left.trie) (names_of right.trie) a b left.bits right.bits fits n in
      let own = Several (joined_bits a b) ∷ [] in
      record {
        trie = Fork names left.trie right.trie;
        marks = (right.marks ++ left.marks) ++ own;
        describes = (some, left.describes, right.describes, j.0, ports_rise (joined_bits a b));
        are = inl (joined_bits a b, left.marks, right.marks, refl, refl, left.are, right.are);
        added = added ∙ ap (λ (xs : List Mark). xs ++ own) parts ∙ append_assoc old (right.marks ++ left.marks) own;
        bits = subst (AreNameBits names) (sym is) j.1;
      }

-- the node of two numbers with a port each
own_block : (y : ℕ) → y / 2 ^ 0 ≡ y
own_block y = omega arith

leaf_describes : (ports : List (Option ℕ)) (x p : ℕ) → port_to ports x ≡ Some p → Describes ports 0 x (Alike p)
leaf_describes ports x p e = (λ y r at o. let s : y ≡ x = sym (own_block y) ∙ at in let k = sym (subst (λ z. port_to ports z ≡ Some r) s o) ∙ e in cc, (x, own_block x, e))

pub pair_marked : (ports : List (Option ℕ)) (h i m p q : ℕ) (before after : List Mark) → h ≡ 1 → port_to ports (2 * i) ≡ Some p → port_to ports (2 * i + 1) ≡ Some q → p < 63 → q < 63 → m ≡ joined_bits (2 ^ p) (2 ^ q)
    → after ≡ before ++ Pair m p q ∷ [] → IsNodeMarked ports h i m before after
pair_marked ports h i m p q before after one e f lp lq is added =
    let z : 0 ≡ h - 1 = omega arith in
    let names = ports_in m in
    let less : p < 64 = omega arith in let fits : 2 ^ p < 2 ^ 64 = pow-lt less in
    let apart : (bit_at (bit_and (2 ^ p) (2 ^ q)) 63 ≡ 1) → ⊥ = λ set. let k = both_free (p ∷ []) (q ∷ []) (2 ^ p) (2 ^ q) (one_is_bits p lp) (one_is_bits q lq) set in absurd (omega (arith, k.0)) in
    let j = joined_are_bits (p ∷ []) (q ∷ []) (2 ^ p) (2 ^ q) (one_is_bits p lp) (one_is_bits q lq) fits apart in
    let k = subst (λ n. IsJoin (p ∷ []) (q ∷ []) (ports_in n) × AreNameBits (ports_in n) n) (sym is) j in
    record {
      trie = Fork names (Alike p) (Alike q);
      marks = Pair m p q ∷ [];
      describes = (
        omega arith,
        subst (λ g. Describes ports g (2 * i) (Alike p)) z (leaf_describes ports (2 * i) p e),
        subst (λ g. Describes ports g (2 * i + 1) (Alike q)) z (leaf_describes ports (2 * i + 1) q f),
        k.0,
        ports_rise m,
      );
      are = inr (m, p, q, refl, refl, refl, refl);
      added = added;
      bits = k.1;
    }

pub low_at : (ports : List (Option ℕ)) (x p : ℕ) → AreLow ports → port_to ports x ≡ Some p → p < 63
low_at ports x p low e =
    elim (cases_lt x (length ports)) [
      | inl inside ↦ subst (λ (o : Option ℕ). IfSome o (λ k. k < 63)) e (low x None inside)
      | inr past ↦ let n = get_or_past ports x None past in absurd (cc (e, n))
    ]

-- what is last
pub popped : (all front : List Mark) (r : Option Mark) (m : Mark) → all ≡ front ++ option_to_list r → r ≡ Some m → all ≡ front ++ m ∷ []
popped all front r m e is = e ∙ ap (λ (o : Option Mark). front ++ option_to_list o) is

same_last : (xs ys : List Mark) (a b : Mark) → xs ++ a ∷ [] ≡ ys ++ b ∷ [] → (xs ≡ ys) × (a ≡ b)
same_last [] [] a b e = (refl, cc)
same_last [] (y ∷ ys) a b e = let n = ap (λ (l : List Mark). length l) e in let m = length-append ys (b ∷ []) in absurd (omega (arith, n, m))
same_last (x ∷ xs) [] a b e = let n = ap (λ (l : List Mark). length l) e in let m = length-append xs (a ∷ []) in absurd (omega (arith, n, m))
same_last (x ∷ xs) (y ∷ ys) a b e =
    let head : x ≡ y = cc in
    let tail : xs ++ a ∷ [] ≡ ys ++ b ∷ [] = cc in
    let h = same_last xs ys a b tail in
    (ap (λ k. k ∷ xs) head ∙ ap (λ (l : List Mark). y ∷ l) h.0, h.1)

pub some_marks : (t : Trie) (more : List Mark) → AreMarks t more → 0 < length more
some_marks Free more e = let n = ap (λ (l : List Mark). length l) e in omega (arith, n)
some_marks (Alike p) more e = let n = ap (λ (l : List Mark). length l) e in omega (arith, n)
some_marks (Fork names l r) more (inl e) =
    let n = ap (λ (xs : List Mark). length xs) e.4 in
    let m = length-append (e.2 ++ e.1) (Several e.0 ∷ []) in
    omega (arith, n, m)
some_marks (Fork names l r) more (inr e) = let n = ap (λ (xs : List Mark). length xs) e.4 in omega (arith, n)

-- the trie by the last of its marks
pub free_ends : (t : Trie) (rest more all front : List Mark) → AreMarks t more → all ≡ rest ++ more → all ≡ front ++ NoPort ∷ [] → (t ≡ Free) × (front ≡ rest)
free_ends Free rest more all front are e f = (refl, (same_last front rest NoPort NoPort (sym f ∙ e ∙ ap (λ (xs : List Mark). rest ++ xs) are)).0)
free_ends (Alike p) rest more all front are e f = let h = (same_last front rest NoPort (OnePort p) (sym f ∙ e ∙ ap (λ (xs : List Mark). rest ++ xs) are)).1 in absurd cc
free_ends (Fork names l r) rest more all front (inl are) e f =
    let own = Several are.0 ∷ [] in
    let h = (same_last front (rest ++ (are.2 ++ are.1)) NoPort (Several are.0) (sym f ∙ e ∙ ap (λ (xs : List Mark). rest ++ xs) are.4 ∙ sym (append_assoc rest (are.2 ++ are.1) own))).1 in
    absurd cc
free_ends (Fork names l r) rest more all front (inr are) e f =
    let h = (same_last front rest NoPort (Pair are.0 are.1 are.2) (sym f ∙ e ∙ ap (λ (xs : List Mark). rest ++ xs) are.4)).1 in
    absurd cc

pub one_ends : (t : Trie) (p : ℕ) (rest more all front : List Mark) → AreMarks t more → all ≡ rest ++ more → all ≡ front ++ OnePort p ∷ [] → (t ≡ Alike p) × (front ≡ rest)
one_ends Free p rest more all front are e f = let h = (same_last front rest (OnePort p) NoPort (sym f ∙ e ∙ ap (λ (xs : List Mark). rest ++ xs) are)).1 in absurd cc
one_ends (Alike q) p rest more all front are e f =
    let h = same_last front rest (OnePort p) (OnePort q) (sym f ∙ e ∙ ap (λ (xs : List Mark). rest ++ xs) are) in
    let same = h.1 in
    let k : q ≡ p = cc in
    (ap (λ x. Alike x) k, h.0)
one_ends (Fork names l r) p rest more all front (inl are) e f =
    let own = Several are.0 ∷ [] in
    let h = (same_last front (rest ++ (are.2 ++ are.1)) (OnePort p) (Several are.0) (sym f ∙ e ∙ ap (λ (xs : List Mark). rest ++ xs) are.4 ∙ sym (append_assoc rest (are.2 ++ are.1) own))).1 in
    absurd cc
one_ends (Fork names l r) p rest more all front (inr are) e f =
    let h = (same_last front rest (OnePort p) (Pair are.0 are.1 are.2) (sym f ∙ e ∙ ap (λ (xs : List Mark). rest ++ xs) are.4)).1 in
    absurd cc

pub record IsParted (m : ℕ) (rest front : List Mark) (t : Trie) : Type 0 where
  pub left : Trie
  pub right : Trie
  pub left_marks : List Mark
  pub right_marks : List Mark
  pub is : t ≡ Fork (ports_in m) left right
  pub front_is : front ≡ (rest ++ right_marks) ++ left_marks
  pub left_are : AreMarks left left_marks
  pub right_are : AreMarks right right_marks

pub several_ends : (t : Trie) (m : ℕ) (rest more all front : List Mark) → AreMarks t more → all ≡ rest ++ more → all ≡ front ++ Several m ∷ [] → IsParted m rest front t
several_ends Free m rest more all front are e f = let h = (same_last front rest (Several m) NoPort (sym f ∙ e ∙ ap (λ (xs : List Mark). rest ++ xs) are)).1 in absurd cc
several_ends (Alike q) m rest more all front are e f = let h = (same_last front rest (Several m) (OnePort q) (sym f ∙ e ∙ ap (λ (xs : List Mark). rest ++ xs) are)).1 in absurd cc
several_ends (Fork names l r) m rest more all front (inl are) e f =
    let own = Several are.0 ∷ [] in
    let h = same_last front (rest ++ (are.2 ++ are.1)) (Several m) (Several are.0) (sym f ∙ e ∙ ap (λ (xs : List Mark). rest ++ xs) are.4 ∙ sym (append_assoc rest (are.2 ++ are.1) own)) in
    let same = h.1 in
    let k : are.0 ≡ m = cc in
    record {
      left = l;
      right = r;
      left_marks = are.1;
      right_marks = are.2;
      is = ap (λ (xs : List ℕ). Fork xs l r) (are.3 ∙ ap (λ n. ports_in n) k);
      front_is = h.0 ∙ sym (append_assoc rest are.2 are.1);
      left_are = are.5;
      right_are = are.6;
    }
several_ends (Fork names l r) m rest more all front (inr are) e f =
    let h = (same_last front rest (Several m) (Pair are.0 are.1 are.2) (sym f ∙ e ∙ ap (λ (xs : List Mark). rest ++ xs) are.4)).1 in
    absurd cc

pub pair_ends : (t : Trie) (m p q : ℕ) (rest more all front : List Mark) → AreMarks t more → all ≡ rest ++ more → all ≡ front ++ Pair m p q ∷ [] → (t ≡ Fork (ports_in m) (Alike p) (Alike q)) × (front ≡ rest)
pair_ends Free m p q rest more all front are e f = let h = (same_last front rest (Pair m p q) NoPort (sym f ∙ e ∙ ap (λ (xs : List Mark). rest ++ xs) are)).1 in absurd cc
pair_ends (Alike o) m p q rest more all front are e f = let h = (same_last front rest (Pair m p q) (OnePort o) (sym f ∙ e ∙ ap (λ (xs : List Mark). rest ++ xs) are)).1 in absurd cc
pair_ends (Fork names l r) m p q rest more all front (inl are) e f =
    let own = Several are.0 ∷ [] in
    let h = (same_last front (rest ++ (are.2 ++ are.1)) (Pair m p q) (Several are.0) (sym f ∙ e ∙ ap (λ (xs : List Mark). rest ++ xs) are.4 ∙ sym (append_assoc rest (are.2 ++ are.1) own))).1 in
    absurd cc
pair_ends (Fork names l r) m p q rest more all front (inr are) e f =
    let h = same_last front rest (Pair m p q) (Pair are.0 are.1 are.2) (sym f ∙ e ∙ ap (λ (xs : List Mark). rest ++ xs) are.4) in
    let same = h.1 in
    let km : are.0 ≡ m = cc in
    let kp : are.1 ≡ p = cc in
    let kq : are.2 ≡ q = cc in (
      ap (λ (xs : List ℕ). Fork xs l r) (are.3 ∙ ap (λ n. ports_in n) km) ∙ ap (λ (x : Trie). Fork (ports_in m) x r) (are.5 ∙ ap (λ n. Alike n) kp)
          ∙ ap (λ (x : Trie). Fork (ports_in m) (Alike p) x) (are.6 ∙ ap (λ n. Alike n) kq),
      h.0,
    )

-- the prefixes of a node, and then those of its halves
pub fork_covered : (bits h i : ℕ) (names : List ℕ) (above below : Option ℕ) (l r : Trie) (before own half after : List Prefix) → below ≡ taken names above → own ≡ before ++ cover_told bits h i names above → half ≡ own ++ cover_of bits l (h - 1) (2 * i) below
    → after ≡ half ++ cover_of bits r (h - 1) (2 * i + 1) below → after ≡ before ++ cover_of bits (Fork names l r) h i above
fork_covered bits h i names above below l r before own half after b e f g =
    let ts = cover_told bits h i names above in
    let cl = cover_of bits l (h - 1) (2 * i) below in
    let cr = cover_of bits r (h - 1) (2 * i + 1) below in
    let whole : after ≡ before ++ (ts ++ (cl ++ cr)) =
    g ∙ ap (λ (xs : List Prefix). xs ++ cr) (f ∙ ap (λ (xs : List Prefix). xs ++ cl) e) ∙ append_assoc (before ++ ts) cl cr ∙ append_assoc before ts (cl ++ cr) in
    whole ∙ ap (λ (q : Option ℕ). before ++ (ts ++ (cover_of bits l (h - 1) (2 * i) q ++ cover_of bits r (h - 1) (2 * i + 1) q))) b
