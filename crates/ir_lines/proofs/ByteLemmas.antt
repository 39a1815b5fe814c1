-- The bytes of words, by label.
use Rattle.std.proofs.Common.{◌≡◌, ℕ, zero, suc, ◌+◌, ◌-◌, ◌*◌, ◌/◌, ◌%◌, ◌<◌, ◌≤◌, List, [], ◌∷◌, ◌++◌, length, get_or, sym, ap, ◌∙◌, subst, inl, inr, arith}
use Rattle.std.specs.Prelude.{slice_index}
use Rattle.std.proofs.lemmas.Bool.{cases_lt}
use Rattle.std.proofs.lemmas.List.{length-map, get_or_append_left, get_or_push, length_push}
use Rattle.ir_model.specs.Row.{Start, start_ports, labels, IsAscending, HasPort}
use Rattle.ir_model.proofs.Rows.{place_from_HasPort}
use Rattle.ir_lines.specs.Looks.{byte_of, byte_in}
use Rattle.ir_lines.specs.Tables.{HoldPorts}
use Rattle.ir_lines.specs.Words.{groups}

pub four : (P : ℕ → Type 0) → P 0 → P 1 → P 2 → P 3 → (i : ℕ) → i < 4 → P i
four P a b c d zero h = a
four P a b c d (suc zero) h = b
four P a b c d (suc (suc zero)) h = c
four P a b c d (suc (suc (suc zero))) h = d
four P a b c d (suc (suc (suc (suc i)))) h = absurd (omega arith)

-- the port of a label is one of the row's
pub port_small : (n : ℕ) (row : List Start) (label p : ℕ) → IsAscending row → ((k : ℕ) → k < length row → slice_index (start_ports row) k < 256)
    → label < n → HasPort n row label p → p < 256
port_small n row label p up ports is has =
    let len : length (labels row) ≡ length row = length-map row (λ (s : Start). s.label) in
    let w = place_from_HasPort n row up label p is has in
    let e = w.2 in
    let b = w.1.below in
    let small = ports w.0 (omega arith) in
    omega (arith, e, small)

byte_kept : (xs : List ℕ) (w label : ℕ) → label < 4 * length xs → byte_in (xs ++ w ∷ []) label ≡ byte_in xs label
byte_kept xs w label h = ap (λ (x : ℕ). byte_of x (label % 4)) (get_or_append_left xs (w ∷ []) 0 (label / 4) (omega arith))

byte_new : (xs : List ℕ) (w count i : ℕ) → length xs ≡ count → i < 4 → byte_in (xs ++ w ∷ []) (4 * count + i) ≡ byte_of w i
byte_new xs w count i len h =
    let q : (4 * count + i) / 4 ≡ count = omega arith in
    let r : (4 * count + i) % 4 ≡ i = omega arith in
    ap (λ (x : ℕ). byte_of (get_or (xs ++ w ∷ []) x 0) ((4 * count + i) % 4)) q
    ∙ ap (λ (x : ℕ). byte_of (get_or (xs ++ w ∷ []) count 0) x) r
    ∙ ap (λ (x : ℕ). byte_of x i) (get_or_push xs w 0 count len)

-- so many words hold the ports of the labels that they have bytes for
pub record HoldSome (n : ℕ) (row : List Start) (words : List ℕ) (count : ℕ) : Type 0 where
  pub every : length words ≡ count
  pub ports : (label : ℕ) → label < 4 * count → label < n → HasPort n row label (byte_in words label)
  pub over : (label : ℕ) → label < 4 * count → n ≤ label → byte_in words label ≡ 255

pub hold_more : (n : ℕ) (row : List Start) (words : List ℕ) (w count : ℕ) → HoldSome n row words count
    → ((i : ℕ) → i < 4 → 4 * count + i < n → HasPort n row (4 * count + i) (byte_of w i))
    → ((i : ℕ) → i < 4 → n ≤ 4 * count + i → byte_of w i ≡ 255) → HoldSome n row (words ++ w ∷ []) (count + 1)
hold_more n row words w count h ports over =
    let every = h.every in
    record {
      every = omega (arith, length_push words w);
      ports = λ label l inside. elim (cases_lt label (4 * count)) [
        | inl lt ↦ subst (λ (p : ℕ). HasPort n row label p) (sym (byte_kept words w label (omega arith))) (h.ports label lt inside)
        | inr ge ↦
            let i : ℕ = label - 4 * count in
            let e : 4 * count + i ≡ label = omega arith in
            let at : byte_in (words ++ w ∷ []) label ≡ byte_of w i = ap (byte_in (words ++ w ∷ [])) (sym e) ∙ byte_new words w count i every (omega arith) in
            subst (λ (p : ℕ). HasPort n row label p) (sym at) (subst (λ (x : ℕ). HasPort n row x (byte_of w i)) e (ports i (omega arith) (omega arith)))
      ];
      over = λ label l past. elim (cases_lt label (4 * count)) [
        | inl lt ↦ byte_kept words w label (omega arith) ∙ h.over label lt past
        | inr ge ↦
            let i : ℕ = label - 4 * count in
            let e : 4 * count + i ≡ label = omega arith in
            ap (byte_in (words ++ w ∷ [])) (sym e) ∙ byte_new words w count i every (omega arith) ∙ over i (omega arith) (omega arith)
      ];
    }

pub hold_all : (n : ℕ) (row : List Start) (words : List ℕ) (count : ℕ) → HoldSome n row words count → count ≡ 32 * groups n 128 → HoldPorts n row words
hold_all n row words count h all =
    let every = h.every in
    record {
      ports = λ label is. h.ports label (omega arith) is;
      over = λ label past l. h.over label (omega arith) past;
    }
