-- The prefixes in another order, and the width of the labels.
use Rattle.std.proofs.Common.{◌≡◌, ℕ, ◌^◌, ◌<◌, ◌≤◌, List, length, sym, subst, arith, Option, None}
use Rattle.std.proofs.Math.Nat.{pow-le-pow_right}
use Rattle.std.proofs.lemmas.List.Sorted.{All-permutation, Contains-permutation, IsPermutation-sym, length_permutation}
use Rattle.std.specs.List.Sorted.{IsPermutation}
use Rattle.ir_prefix.specs.Longest.{Holds, IsLongest, Forwards, IsFewestPrefixes, IsWidth, AreLeast}
use Rattle.ir_prefix.specs.Described.{Describes, Trie}
use Rattle.ir_prefix.specs.Cover.{cover_of}
use Rattle.ir_prefix.specs.declared.cover.Prefix.{Prefix}
use Rattle.ir_prefix.proofs.Lower.{cover_is_fewest}
use Rattle.ir_prefix.proofs.Upper.{cover_forwards}
use Rattle.ir_prefix.proofs.Values.{cover_least}

longest_permutation : (bits x : ℕ) (m : Prefix) (xs ys : List Prefix) → IsPermutation xs ys → IsLongest bits xs x m → IsLongest bits ys x m
longest_permutation bits x m xs ys perm is = record {
  member = Contains-permutation xs ys m perm is.member;
  holds = is.holds;
  longest = All-permutation (λ (o : Prefix). Holds bits o x → o.length ≤ m.length) xs ys perm is.longest;
}

forwards_permutation : (bits : ℕ) (ports : List (Option ℕ)) (xs ys : List Prefix) → IsPermutation xs ys → Forwards bits ports xs → Forwards bits ports ys
forwards_permutation bits ports xs ys perm is = record {
  within = All-permutation (λ (m : Prefix). (m.length ≤ bits) × (m.value < 2 ^ bits)) xs ys perm is.within;
  covered = λ d p o. let w = is.covered d p o in (w.0, longest_permutation bits d w.0 xs ys perm w.1);
  agrees = λ d p m o longest. is.agrees d p m o (longest_permutation bits d m ys xs (IsPermutation-sym xs ys perm) longest);
}

pub same_width : (n a b : ℕ) → IsWidth n a → IsWidth n b → a ≡ b
same_width n a b u v = let x = u.least b v.enough in let y = v.least a u.enough in omega arith

module _ (bits : ℕ) (ports : List (Option ℕ)) (t : Trie) (set : List Prefix) (d : Describes ports bits 0 t) (perm : IsPermutation (cover_of bits t bits 0 None) set) where
  pub sorted_forwards : length ports ≤ 2 ^ bits → Forwards bits ports set
  sorted_forwards every = forwards_permutation bits ports (cover_of bits t bits 0 None) set perm (cover_forwards bits ports t every d)

  pub sorted_is_fewest : IsFewestPrefixes bits ports (length set)
  sorted_is_fewest = subst (λ k. IsFewestPrefixes bits ports k) (sym (length_permutation (cover_of bits t bits 0 None) set perm)) (cover_is_fewest bits ports t d)

  pub sorted_is_least : AreLeast bits set
  sorted_is_least =
      All-permutation (λ (m : Prefix). (x : ℕ) → Holds bits m x → m.value ≤ x) (cover_of bits t bits 0 None) set perm (cover_least bits t bits 0 None (omega arith))

pub width_fits : (n bits : ℕ) → n < 65536 → IsWidth n bits → 2 ^ bits ≤ 65536
width_fits n bits l w = let le = w.least 16 (omega arith) in let two : 0 < 2 = omega arith in let p : 2 ^ bits ≤ 2 ^ 16 = pow-le-pow_right two le in omega arith
