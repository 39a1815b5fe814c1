-- The start whose word is the last one at most the key of a label has the label's port.
use Rattle.std.proofs.Common.{◌≡◌, ℕ, zero, suc, ◌+◌, ◌-◌, ◌*◌, ◌%◌, ◌<◌, ◌≤◌, List, [], ◌∷◌, length, get_or, map, refl, ap, subst, inl, inr, arith, Bool, true, false, eqb}
use Rattle.std.specs.Prelude.{slice_index}
use Rattle.std.proofs.lemmas.Bool.{cases_lt, eqb-true, eqb-false}
use Rattle.std.proofs.lemmas.List.{length-map, get_or_past}
use Rattle.ir_model.specs.Row.{Start, labels, start_ports, IsAscending, IsPlaceOf, HasPort}
use Rattle.ir_model.proofs.Rows.{HasPort-from_place, rises}
use Rattle.ir_lines.specs.Words.{start_word, no_word, from_zero, row_word}
use Rattle.ir_lines.specs.Looks.{label_key}
use Rattle.ir_lines.proofs.Levels.{padded, word_of_place}

-- the ports of a row fit into a word
abbrev pub ArePorts : List Start → Type 0
ArePorts row = (k : ℕ) → k < length row → slice_index (start_ports row) k < 65536

-- labels rise by one at least
pub labels_rise : (row : List Start) → IsAscending row → (k : ℕ) → k < length row → k + slice_index (labels row) 0 ≤ slice_index (labels row) k
labels_rise row up zero h = omega arith
labels_rise row up (suc k) h =
    let len : length (labels row) ≡ length row = length-map row (λ (s : Start). s.label) in
    let p = labels_rise row up k (omega arith) in
    let r = rises (labels row) up k (suc k) (omega arith) (omega arith) in
    omega arith

-- of labels below n there are at most n words, one at the label 0 among them
words_by : (b : Bool) (s : Start) (rest : List Start) (n : ℕ) → eqb s.label 0 ≡ b → IsAscending (s ∷ rest)
    → ((k : ℕ) → k < length (s ∷ rest) → slice_index (labels (s ∷ rest)) k < n) → length (padded b s rest) ≤ n
words_by true s rest n e up below =
    let p = labels_rise (s ∷ rest) up (length rest) (omega arith) in
    let l = below (length rest) (omega arith) in
    omega arith
words_by false s rest n e up below =
    let p = labels_rise (s ∷ rest) up (length rest) (omega arith) in
    let l = below (length rest) (omega arith) in
    let ne = eqb-false s.label 0 e in
    omega arith

pub few_words : (row : List Start) (n : ℕ) → IsAscending row → ((k : ℕ) → k < length row → slice_index (labels row) k < n) → length (from_zero row) ≤ n
few_words [] n up below = omega arith
few_words (s ∷ rest) n up below = words_by (eqb s.label 0) s rest n refl up below

module _ (row : List Start) (n label : ℕ) (up : IsAscending row) (ports : ArePorts row) (is : label < n) where
  -- the last start that is not above the label
  pub found_in : (k : ℕ) → k < length row → get_or (map start_word row) k no_word ≤ label_key label → label_key label < get_or (map start_word row) (suc k) no_word
      → HasPort n row label (get_or (map start_word row) k no_word % 65536)
  found_in k h at_most above =
      let len : length (labels row) ≡ length row = length-map row (λ (s : Start). s.label) in
      let here = word_of_place row k h in
      let small = ports k h in
      let place : IsPlaceOf (labels row) label k =
      record {
        below = omega arith;
        from = inl (omega arith);
        to = λ more.
            let next = word_of_place row (k + 1) (omega arith) in
            let small_next = ports (k + 1) (omega arith) in
            let e : suc k ≡ k + 1 = omega arith in
            let above_next : label_key label < get_or (map start_word row) (k + 1) no_word = subst (λ (x : ℕ). label_key label < get_or (map start_word row) x no_word) e above in
            omega arith;
      } in
      let port : get_or (start_ports row) k 0 ≡ get_or (map start_word row) k no_word % 65536 = omega arith in
      subst (λ (p : ℕ). HasPort n row label p) port (HasPort-from_place n row up label k is place)

  -- where all starts are above it, the last one of the row
  pub found_round : 0 < length row → label < get_or (labels row) 0 0 → HasPort n row label (get_or (start_ports row) (length row - 1) 0)
  found_round some above =
      let len : length (labels row) ≡ length row = length-map row (λ (s : Start). s.label) in
      let place : IsPlaceOf (labels row) label (length row - 1) =
      record { below = omega arith; from = inr (above, omega arith); to = λ more. absurd (omega arith) } in
      HasPort-from_place n row up label (length row - 1) is place

past_by : (words : List ℕ) (k : ℕ) → length words ≤ k → get_or words k no_word ≡ no_word
past_by words k h = get_or_past words k no_word h

-- with a start at the label 0
found_by : (b : Bool) (s : Start) (rest : List Start) (n label : ℕ) → IsAscending (s ∷ rest) → ArePorts (s ∷ rest) → label < n → label < 16384
    → (k : ℕ) → get_or (map start_word (padded b s rest)) k no_word ≤ label_key label → label_key label < get_or (map start_word (padded b s rest)) (suc k) no_word
    → HasPort n (s ∷ rest) label (get_or (map start_word (padded b s rest)) k no_word % 65536)
found_by true s rest n label up ports is small k at_most above =
    elim (cases_lt k (length (s ∷ rest))) [
      | inl lt ↦ found_in (s ∷ rest) n label up ports is k lt at_most above
      | inr past ↦
          let len = length-map (s ∷ rest) start_word in
          let e = past_by (map start_word (s ∷ rest)) k (omega (arith, len, past)) in
          absurd (omega (arith, e, at_most, small))
    ]
found_by false s rest n label up ports is small zero at_most above =
    let last = ports (length rest) (omega arith) in
    let e : length (s ∷ rest) - 1 ≡ length rest = omega arith in
    let has = found_round (s ∷ rest) n label up ports is (omega arith) (omega (arith, above, ports 0 (omega arith))) in
    let there : get_or (start_ports (s ∷ rest)) (length (s ∷ rest) - 1) 0 ≡ get_or (start_ports (s ∷ rest)) (length rest) 0 =
    ap (λ (i : ℕ). get_or (start_ports (s ∷ rest)) i 0) e in
    let port : get_or (start_ports (s ∷ rest)) (length (s ∷ rest) - 1) 0 ≡ (0 * 65536 + get_or (start_ports (s ∷ rest)) (length rest) 0) % 65536 =
    omega arith in
    subst (λ (p : ℕ). HasPort n (s ∷ rest) label p) port has
found_by false s rest n label up ports is small (suc k) at_most above =
    elim (cases_lt k (length (s ∷ rest))) [
      | inl lt ↦ found_in (s ∷ rest) n label up ports is k lt at_most above
      | inr past ↦
          let len = length-map (s ∷ rest) start_word in
          let e = past_by (map start_word (s ∷ rest)) k (omega (arith, len, past)) in
          absurd (omega (arith, e, at_most, small))
    ]

-- the word at a place is at most the key, and the next one above it
pub word_found : (row : List Start) (n label : ℕ) → IsAscending row → ArePorts row → label < n → label < 16384 → (k m : ℕ) → m ≡ suc k
    → row_word row k ≤ label_key label → label_key label < row_word row m → HasPort n row label (row_word row k % 65536)
word_found [] n label up ports is small k m e at_most above = absurd (omega (arith, at_most, small))
word_found (s ∷ rest) n label up ports is small k m e at_most above =
    found_by (eqb s.label 0) s rest n label up ports is small k at_most (subst (λ (x : ℕ). label_key label < row_word (s ∷ rest) x) e above)

-- past the words there is one above each key
pub word_past : (row : List Start) (label k : ℕ) → label < 16384 → length (from_zero row) ≤ k → label_key label < row_word row k
word_past row label k small h =
    let len = length-map (from_zero row) start_word in
    let e : row_word row k ≡ no_word = past_by (map start_word (from_zero row)) k (omega (arith, len, h)) in
    omega (arith, e, small)

-- and the first word is at most each key
first_by : (b : Bool) (s : Start) (rest : List Start) (label : ℕ) → eqb s.label 0 ≡ b → ArePorts (s ∷ rest)
    → get_or (map start_word (padded b s rest)) 0 no_word ≤ label_key label
first_by true s rest label e ports = let z = eqb-true s.label 0 e in let p = ports 0 (omega arith) in omega (arith, z, p)
first_by false s rest label e ports = let p = ports (length rest) (omega arith) in omega (arith, p)

pub word_first : (row : List Start) (label : ℕ) → 0 < length row → ArePorts row → row_word row 0 ≤ label_key label
word_first [] label some ports = absurd (omega arith)
word_first (s ∷ rest) label some ports = first_by (eqb s.label 0) s rest label refl ports
