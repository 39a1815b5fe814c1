-- The ports of a node as bits, in lanes.
use Rattle.std.proofs.Common.{◌≡◌, ◌↔◌, ◌⊎◌, ℕ, ◌+◌, ◌-◌, ◌*◌, ◌^◌, ◌<◌, ◌≤◌, max, List, Bool, true, false, cond, eqb, [], length, replicate, get_or, slice_index, slice_index_or, refl, sym, ap, subst, ◌∙◌, inl, inr, arith}
use Rattle.std.specs.Int.{bit_at}
use Rattle.std.specs.Int.Bits.{bit_and, bit_or}
use Rattle.std.specs.Simd.Lanes.{zip2, sel_l}
use Rattle.std.proofs.lemmas.Bool.{cases_eq, cases_lt, eqb-true, eqb-false}
use Rattle.std.proofs.lemmas.Nat.Bits.{bit_at-zero, bit_at-lt, bit_at_and, bit_at_or, bit_at-pow_same, bit_at-pow_other, and_pow}
use Rattle.std.proofs.lemmas.Simd.{length-zip2, get_or-zip2, get_or-replicate, length-sel_l, get_or-sel_l}
use Rattle.std.proofs.lemmas.Option.{slice_get_within}
use Rattle.ir_model.specs.Topology.{Topology, node_count, ports_of}
use Rattle.ir_model.specs.Table.{LeadsNearer}
use Rattle.ir_lanes.specs.Lanes.{HasLanes}
use Rattle.ir_lanes.specs.Inward.{IsSet, ports_before}
use Rattle.ir_lanes.specs.Marks.{WithPort, ArePortLanes, ArePushedTied, AreTiedTo, PortMarks, ArePortMarks}
use Rattle.ir_lanes.proofs.Words.{ports_within}
use Rattle.ir_lanes.proofs.Batches.{marked_here}

-- the test of a bit
tested : (word k : ℕ) → bit_and word (2 ^ k) ≡ 2 ^ k → IsSet word k
tested word k same =
    let one : bit_at (2 ^ k) k ≡ 1 = bit_at-pow_same k in
    let both : bit_at (bit_and word (2 ^ k)) k ≡ 1 = ap (λ (x : ℕ). bit_at x k) same ∙ one in
    omega (arith, both, one, bit_at_and word (2 ^ k) k, bit_at-lt word k)

untested : (word k : ℕ) → IsSet word k → bit_and word (2 ^ k) ≡ 2 ^ k
untested word k set = and_pow word k ∙ ap (λ (x : ℕ). x * 2 ^ k) set ∙ omega arith

-- the bit of the port is put in where the test passes
put_in : (before word k port : ℕ) (t : Bool) → eqb (bit_and word (2 ^ k)) (2 ^ k) ≡ t → (p : ℕ) → IsSet (bit_or before (cond t (2 ^ port) 0)) p ↔ (IsSet before p ⊎ ((p ≡ port) × IsSet word k))
put_in before word k port true e p =
    let here : IsSet word k = tested word k (eqb-true (bit_and word (2 ^ k)) (2 ^ k) e) in
    let both : bit_at (bit_or before (2 ^ port)) p ≡ max (bit_at before p) (bit_at (2 ^ port) p) = bit_at_or before (2 ^ port) p in (
      (λ set.
          elim (cases_eq p port) [
            | inl same ↦ inr (same, here)
            | inr ne ↦ inl (omega (arith, set, both, bit_at-pow_other port p ne))
          ]),
      (λ is.
          elim is [
            | inl old ↦ omega (arith, both, old, bit_at-lt (2 ^ port) p)
            | inr new ↦
                let one : bit_at (2 ^ port) p ≡ 1 = ap (λ (x : ℕ). bit_at (2 ^ port) x) new.0 ∙ bit_at-pow_same port in
                omega (arith, both, one, bit_at-lt before p)
          ]),
    )
put_in before word k port false e p =
    let both : bit_at (bit_or before 0) p ≡ max (bit_at before p) (bit_at 0 p) = bit_at_or before 0 p in
    let none : bit_at 0 p ≡ 0 = bit_at-zero p in (
      (λ set. inl (omega (arith, set, both, none))),
      (λ is.
          elim is [
            | inl old ↦ omega (arith, both, old, none)
            | inr new ↦ absurd (eqb-false (bit_and word (2 ^ k)) (2 ^ k) e (untested word k new.1))
          ]),
    )

module _ (before : List ℕ) (word port bit : ℕ) (bits : List ℕ) (long : length before ≡ 16) (places : HasLanes bits (λ k. 2 ^ k)) (is : bit ≡ 2 ^ port) where
  abbrev with_word : List ℕ
  with_word = zip2 bit_and (replicate 16 word) bits

  with_long : length with_word ≡ 16
  with_long = length-zip2 bit_and (replicate 16 word) bits (sym places.long)

  abbrev passes : List Bool
  passes = zip2 eqb with_word bits

  passes_long : length passes ≡ 16
  passes_long = length-zip2 eqb with_word bits (with_long ∙ sym places.long) ∙ with_long

  passes_at : (k : ℕ) → k < 16 → get_or passes k false ≡ eqb (bit_and word (2 ^ k)) (2 ^ k)
  passes_at k l =
      let both : get_or with_word k 0 ≡ bit_and word (2 ^ k) =
      get_or-zip2 bit_and (replicate 16 word) bits k 0 0 0 l (omega (arith, l, places.long))
      ∙ ap (λ (x : ℕ). bit_and x (get_or bits k 0)) (get_or-replicate 16 k word 0 l) ∙ ap (λ (x : ℕ). bit_and word x) (places.each k l) in
      get_or-zip2 eqb with_word bits k 0 0 false (omega (arith, l, with_long)) (omega (arith, l, places.long))
      ∙ ap (λ (x : ℕ). eqb x (get_or bits k 0)) both ∙ ap (λ (x : ℕ). eqb (bit_and word (2 ^ k)) x) (places.each k l)

  abbrev pub chosen : List ℕ
  chosen = sel_l passes (replicate 16 bit) (replicate 16 0)

  chosen_long : length chosen ≡ 16
  chosen_long = length-sel_l passes (replicate 16 bit) (replicate 16 0) passes_long passes_long ∙ passes_long

  chosen_at : (k : ℕ) → k < 16 → get_or chosen k 0 ≡ cond (eqb (bit_and word (2 ^ k)) (2 ^ k)) (2 ^ port) 0
  chosen_at k l =
      get_or-sel_l passes (replicate 16 bit) (replicate 16 0) k 0 (omega (arith, l, passes_long)) l l
      ∙ ap (λ (t : Bool). cond t (get_or (replicate 16 bit) k 0) (get_or (replicate 16 0) k 0)) (passes_at k l)
      ∙ ap (λ (x : ℕ). cond (eqb (bit_and word (2 ^ k)) (2 ^ k)) x (get_or (replicate 16 0) k 0)) (get_or-replicate 16 k bit 0 l ∙ is)
      ∙ ap (λ (x : ℕ). cond (eqb (bit_and word (2 ^ k)) (2 ^ k)) (2 ^ port) x) (get_or-replicate 16 k 0 0 l)

  pub with_port_or : WithPort before word port (zip2 bit_or before chosen)
  with_port_or = record {
    long = length-zip2 bit_or before chosen (long ∙ sym chosen_long) ∙ long;
    bit = λ k p l.
        let at : get_or (zip2 bit_or before chosen) k 0 ≡ bit_or (get_or before k 0) (cond (eqb (bit_and word (2 ^ k)) (2 ^ k)) (2 ^ port) 0) =
        get_or-zip2 bit_or before chosen k 0 0 0 (omega (arith, l, long)) (omega (arith, l, chosen_long)) ∙ ap (λ (x : ℕ). bit_or (get_or before k 0) x) (chosen_at k l) in
        subst (λ (x : ℕ). IsSet x p ↔ (IsSet (get_or before k 0) p ⊎ ((p ≡ port) × IsSet word k))) (sym at) (put_in (get_or before k 0) word k port (eqb (bit_and word (2 ^ k)) (2 ^ k)) refl p);
  }

-- ---- the ports of a node

pub ports_none : (words : List ℕ) (begin : ℕ) → ArePortLanes words begin 0 (replicate 16 0)
ports_none words begin = record {
  long = refl;
  bit = λ k p l.
      let none : get_or (replicate 16 0) k 0 ≡ 0 = get_or-replicate 16 k 0 0 l in
      let clear : bit_at (get_or (replicate 16 0) k 0) p ≡ 0 = ap (λ (x : ℕ). bit_at x p) none ∙ bit_at-zero p in (
        (λ set. absurd (omega (arith, set, clear))),
        (λ is. absurd (omega (arith, is.0))),
      );
}

pub ports_more : (words : List ℕ) (begin i word : ℕ) (before lanes : List ℕ) → word ≡ slice_index words (begin + i) → ArePortLanes words begin i before → WithPort before word i lanes → ArePortLanes words begin (i + 1) lanes
ports_more words begin i word before lanes is have one = record {
  long = one.long;
  bit = λ k p l. (
    (λ set.
        elim ((one.bit k p l).0 set) [
          | inl old ↦ let w = (have.bit k p l).0 old in (omega (arith, w.0), w.1)
          | inr new ↦ (omega (arith, new.0), subst (λ (x : ℕ). IsSet (slice_index words (begin + x)) k) (sym new.0) (subst (λ (x : ℕ). IsSet x k) is new.1))
        ]),
    (λ w.
        elim (cases_lt p i) [
          | inl less ↦ (one.bit k p l).1 (inl ((have.bit k p l).1 (less, w.1)))
          | inr last ↦
              let e : p ≡ i = omega (arith, last, w.0) in
              (one.bit k p l).1 (inr (e, subst (λ (x : ℕ). IsSet x k) (sym is) (subst (λ (x : ℕ). IsSet (slice_index words (begin + x)) k) e w.1)))
        ]),
  );
}

-- the words of a batch are those of all ports
pub ports_place : (net : Topology) (nodes : List ℕ) (marks : PortMarks) → ArePortMarks net nodes marks → (u b : ℕ) → u < node_count net → b * 16 < length nodes
    → ports_before net u + length (ports_of net u) ≤ length (slice_index_or marks.batches b [])
ports_place net nodes marks are u b u_in b_in =
    let batch = are.batch b (omega (arith, b_in, are.enough)) in
    let every = batch.told.every in
    omega (arith, every, ports_within net u u_in)

-- with the words of a batch, those of sixteen places more
pub tied_more : (net : Topology) (nodes : List ℕ) (marks : PortMarks) → ArePortMarks net nodes marks → (u b : ℕ) → u < node_count net → b * 16 < length nodes → (old tied : List ℕ)
    → AreTiedTo net nodes u (b * 16) old → ArePushedTied (slice_index_or marks.batches b []) (ports_before net u) (length (ports_of net u)) old tied → AreTiedTo net nodes u ((b + 1) * 16) tied
tied_more net nodes marks are u b u_in b_in old tied before pushed = record {
  every = omega (arith, pushed.longer, before.every);
  bit = λ d p l d_in.
      elim (cases_lt d (b * 16)) [
        | inl less ↦
            subst (λ (x : ℕ). IsSet x p ↔ LeadsNearer net u (slice_index nodes d) p) (sym (pushed.kept d (omega (arith, less, before.every)))) (before.bit d p less d_in)
        | inr behind ↦
            let k : ℕ = d - b * 16 in
            let k_in : k < 16 = omega (arith, l, behind) in
            let at : length old + k ≡ d = omega (arith, behind, before.every) in
            let place : b * 16 + k ≡ d = omega (arith, behind) in
            let bits = pushed.bit k p k_in in
            let words : List ℕ = slice_index_or marks.batches b [] in
            let P : ℕ → Type 0 = λ (x : ℕ). IsSet (slice_index tied x) p in
            let N : ℕ → Type 0 = λ (x : ℕ). LeadsNearer net u (slice_index nodes x) p in
            let room : b * 16 + k < length nodes = omega (arith, place, d_in) in (
              (λ set.
                  let w = bits.0 (subst P (sym at) set) in
                  subst N place ((marked_here net nodes marks are u p b u_in w.0 b_in k k_in room).0 w.1)),
              (λ near.
                  let p_in : p < length (ports_of net u) = slice_get_within (ports_of net u) p near.0 near.2 in
                  subst P at (bits.1 (p_in, (marked_here net nodes marks are u p b u_in p_in b_in k k_in room).1 (subst N (sym place) near)))),
            )
      ];
}
