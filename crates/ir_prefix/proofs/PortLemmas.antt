-- The ports of the prefixes are those of the row.
use Rattle.std.proofs.Common.{◌≡◌, ℕ, ◌+◌, ◌-◌, ◌*◌, ◌^◌, ◌<◌, ◌||◌, ◌&&◌, List, [], ◌∷◌, ◌++◌, length, get_or, map, Bool, true, false, refl, ap, sym, ◌∙◌, inl, inr, ◌⊎◌, arith, Option, Some, None}
use Rattle.std.proofs.lemmas.Bool.{cases_eq, cases_lt}
use Rattle.std.proofs.lemmas.List.Elements.{All-map, Contains-append_cases, Contains-get_or}
use Rattle.std.proofs.lemmas.List.Sorted.{Contains-permutation, IsPermutation-sym}
use Rattle.std.specs.List.{Contains, range_with_len}
use Rattle.std.specs.List.Sorted.{IsPermutation}
use Rattle.std.specs.Option.{unwrap_or}
use Rattle.ir_model.specs.Compiled.{port_to, IsDestinations}
use Rattle.ir_prefix.specs.Joined.{is_named}
use Rattle.ir_prefix.specs.Described.{names_of, IsJoin, Describes, Trie, Free, Alike, Fork}
use Rattle.ir_prefix.specs.Longest.{HavePorts}
use Rattle.ir_prefix.specs.Cover.{prefix_at, told_unless, cover_told, taken, cover_of}
use Rattle.ir_prefix.specs.Forwarding.{NamesPorts}
use Rattle.ir_prefix.specs.Extended.{prefix_port, line_of, extended_port}
use Rattle.ir_prefix.specs.Parts.{Divides, pieces_of, Part}
use Rattle.ir_prefix.specs.declared.cover.Prefix.{Prefix}
use Rattle.ir_prefix.specs.declared.line.TableLine.{TableLine}
use Rattle.ir_prefix.proofs.AmongLemmas.{head_among}
use Rattle.ir_prefix.proofs.PartLemmas.{piece_holds}
use Rattle.ir_prefix.proofs.TableLemmas.{extended_length, extended_at, extended_label, extended_beyond, port_of_same, port_of_some}
use Rattle.ir_prefix.proofs.Upper.{named_one, only_one, port_inside}

both_true : (a b c : Bool) → c ≡ true → c ≡ (a && b) → (a ≡ true) × (b ≡ true)
both_true true true c t e = (refl, refl)
both_true true false c t e = absurd (cc (t, e))
both_true false b c t e = absurd (cc (t, e))

one_true : (a b c : Bool) → c ≡ true → c ≡ (a || b) → (a ≡ true) ⊎ (b ≡ true)
one_true true b c t e = inl refl
one_true false true c t e = inr refl
one_true false false c t e = absurd (cc (t, e))

not_both : (a b : Bool) → (a && b) ≡ false → a ≡ true → b ≡ true → ⊥
not_both true true n e f = absurd (cc n)
not_both true false n e f = absurd (cc f)
not_both false b n e f = absurd (cc e)

-- a name of a node is one of a half that has names
some_half : (a b c : List ℕ) → IsJoin a b c → (p : ℕ) → is_named c (Some p) ≡ true → ((0 < length a) × (is_named a (Some p) ≡ true)) ⊎ ((0 < length b) × (is_named b (Some p) ≡ true))
some_half a b [] j p e = let s = j.some in absurd (omega (arith, s))
some_half [] [] (z ∷ zs) j p e =
    absurd (elim j.joins [ inl both ↦ let f : false ≡ true = both None in absurd (cc f) | inr one ↦ not_both true true (one None).0 refl refl ])
some_half [] (y ∷ ys) (z ∷ zs) j p e =
    elim j.joins [
      | inl both ↦ inr (omega arith, (both_true true (is_named (y ∷ ys) (Some p)) (is_named (z ∷ zs) (Some p)) e (both (Some p))).1)
      | inr one ↦ absurd (not_both true (is_named (y ∷ ys) (Some y)) (one (Some y)).0 refl (head_among y ys))
    ]
some_half (x ∷ xs) [] (z ∷ zs) j p e =
    elim j.joins [
      | inl both ↦ inl (omega arith, (both_true (is_named (x ∷ xs) (Some p)) true (is_named (z ∷ zs) (Some p)) e (both (Some p))).0)
      | inr one ↦ absurd (not_both (is_named (x ∷ xs) (Some x)) true (one (Some x)).0 (head_among x xs) refl)
    ]
some_half (x ∷ xs) (y ∷ ys) (z ∷ zs) j p e =
    elim j.joins [
      | inl both ↦ inl (omega arith, (both_true (is_named (x ∷ xs) (Some p)) (is_named (y ∷ ys) (Some p)) (is_named (z ∷ zs) (Some p)) e (both (Some p))).0)
      | inr one ↦
          elim (one_true (is_named (x ∷ xs) (Some p)) (is_named (y ∷ ys) (Some p)) (is_named (z ∷ zs) (Some p)) e (one (Some p)).1) [
            | inl f ↦ inl (omega arith, f)
            | inr f ↦ inr (omega arith, f)
          ]
    ]

head_named : (c : List ℕ) → 0 < length c → is_named c (Some (get_or c 0 0)) ≡ true
head_named [] some = absurd (omega arith)
head_named (x ∷ xs) some = head_among x xs

told_is : (b : Bool) (m o : Prefix) → Contains (told_unless b m) o → o ≡ m
told_is true m o c = absurd (omega (arith, c.1))
told_is false m o c = only_one m o c

module _ (ports : List (Option ℕ)) where
  -- the names of a node are ports of its labels
  named_port : (t : Trie) (h i : ℕ) → Describes ports h i t → 0 < length (names_of t) → (p : ℕ) → is_named (names_of t) (Some p) ≡ true → (x : ℕ) × (port_to ports x ≡ Some p)
  named_port Free h i d some p e = absurd (omega arith)
  named_port (Alike r) h i d some p e = let w = d.1 in (w.0, w.2 ∙ sym (named_one r (Some p) e))
  named_port (Fork names l r) h i d some p e =
      elim (some_half (names_of l) (names_of r) names d.3 p e) [
        | inl w ↦ named_port l (h - 1) (2 * i) d.1 w.0 p w.1
        | inr w ↦ named_port r (h - 1) (2 * i + 1) d.2 w.0 p w.1
      ]

  pub cover_port : (bits : ℕ) (t : Trie) (h i : ℕ) (q : Option ℕ) → Describes ports h i t → (o : Prefix) → Contains (cover_of bits t h i q) o → (x : ℕ) × (port_to ports x ≡ Some o.port)
  cover_port bits Free h i q d o c = absurd (omega (arith, c.1))
  cover_port bits (Alike p) h i q d o c =
      let e = told_is (is_named (p ∷ []) q) (prefix_at bits h i p) o c in
      let w = d.1 in
      (w.0, w.2 ∙ ap (λ (m : Prefix). Some m.port) (sym e))
  cover_port bits (Fork names l r) h i q d o c =
      let below = taken names q in
      let cl = cover_of bits l (h - 1) (2 * i) below in
      let cr = cover_of bits r (h - 1) (2 * i + 1) below in
      let first = get_or names 0 0 in
      elim (Contains-append_cases (cover_told bits h i names q) (cl ++ cr) o c) [
        | inl here ↦
            let e = told_is (is_named names q) (prefix_at bits h i first) o here in
            let w = named_port (Fork names l r) h i d d.3.some first (head_named names d.3.some) in
            (w.0, w.1 ∙ ap (λ (m : Prefix). Some m.port) (sym e))
        | inr under ↦
            elim (Contains-append_cases cl cr o under) [
              | inl e ↦ cover_port bits l (h - 1) (2 * i) below d.1 o e
              | inr e ↦ cover_port bits r (h - 1) (2 * i + 1) below d.2 o e
            ]
      ]

pub sorted_has_ports : (bits : ℕ) (ports : List (Option ℕ)) (t : Trie) (set : List Prefix) → Describes ports bits 0 t → IsPermutation (cover_of bits t bits 0 None) set → HavePorts ports set
sorted_has_ports bits ports t set d perm = λ k e l.
    cover_port ports bits t bits 0 None d (get_or set k e) (Contains-permutation set (cover_of bits t bits 0 None) (get_or set k e) (IsPermutation-sym (cover_of bits t bits 0 None) set perm) (Contains-get_or set k e l))

-- a line's port is its prefix's, unless it stands for unreachable
port_of_is : (u c p : ℕ) → prefix_port u c ≡ Some p → (c ≡ p) × (c ≡ u → ⊥)
port_of_is u c p e =
    elim (cases_eq c u) [
      | inl same ↦ let f : prefix_port u c ≡ None = ap (prefix_port u) same ∙ port_of_same u in absurd (cc (e, f))
      | inr other ↦ let f = port_of_some u c other in (cc (e, f), other)
    ]

from_last : (u c : ℕ) (o : Option ℕ) → unwrap_or o u ≡ c → (c ≡ u → ⊥) → o ≡ Some c
from_last u c None e ne = absurd (ne (sym e))
from_last u c (Some q) e ne = ap (λ (k : ℕ). Some k) e

pub lines_name_ports : (n own bits u : ℕ) (ports row : List (Option ℕ)) (set : List Prefix) → IsDestinations n own ports → row ≡ map (extended_port n u ports) (range_with_len 0 (2 ^ bits)) → HavePorts row set → NamesPorts ports (map (line_of u) set)
lines_name_ports n own bits u ports row set dest is have =
    All-map (λ (m : TableLine). (p : ℕ) → m.port ≡ Some p → (d : ℕ) × (port_to ports d ≡ Some p)) (line_of u) set
    (λ k e l p f.
    let o = get_or set k e in
    let w = have k e l in
    let s = port_of_is u o.port p f in
    let x = w.0 in
    let inside = port_inside row x o.port w.1 in
    let len = extended_length n u bits ports row is in
    let at = extended_at n u bits ports row is x (omega arith) in
    elim (cases_lt x n) [
      | inl label ↦ (x, sym (extended_label n u ports x label) ∙ sym at ∙ w.1 ∙ ap (λ (c : ℕ). Some c) s.0)
      | inr past ↦
          let g : Some (unwrap_or (port_to ports (n - 1)) u) ≡ Some o.port = sym (extended_beyond n u ports x past) ∙ sym at ∙ w.1 in
          (n - 1, from_last u o.port (port_to ports (n - 1)) (cc g) s.1 ∙ ap (λ (c : ℕ). Some c) s.0)
    ])

pub pieces_name_ports : (bits u : ℕ) (ports : List (Option ℕ)) (t : Part) (set : List Prefix) → Divides ports bits 0 t → IsPermutation (pieces_of bits t bits 0) set → NamesPorts ports (map (line_of u) set)
pieces_name_ports bits u ports t set d perm =
    All-map (λ (m : TableLine). (p : ℕ) → m.port ≡ Some p → (d : ℕ) × (port_to ports d ≡ Some p)) (line_of u) set
    (λ k e l p f.
    let o = get_or set k e in
    let c = Contains-permutation set (pieces_of bits t bits 0) o (IsPermutation-sym (pieces_of bits t bits 0) set perm) (Contains-get_or set k e l) in
    let w = (piece_holds bits ports t bits 0 d (omega arith) o c).1 in
    (w.0, w.1 ∙ ap (λ (c : ℕ). Some c) (port_of_is u o.port p f).0))
