-- The lines of the two parts of an input.
use Rattle.std.proofs.Common.{◌≡◌, ◌<◌, ◌≤◌, ◌+◌, ℕ, zero, suc, Bool, true, false, not, cond, List, [], ◌∷◌, ◌++◌, length, take, drop, sym, ap, ◌∙◌, arith, ◌==◌, append_assoc}
use Rattle.std.proofs.lemmas.List.{append-nil, take_all, drop_all, drop-drop, length-drop}
use Rattle.std.proofs.Math.Seq.{take-add, take-nil}
use Rattle.std.specs.List.{prefix_len}
use Rattle.ir_model.specs.Text.{lines, onto_first}
use Rattle.ir_model.proofs.Pieces.{stops, goes_on, not-true-false, not-false-true, lines_at}
use Rattle.ir_cli.specs.Cut.{is_cut, topology_part, script_part}

abbrev pub is_text : ℕ → Bool
is_text b = not (b == 10)

-- a line with its line feed is one line, or what is left without one
pub one_line : (bs : List ℕ) (n : ℕ) → prefix_len is_text bs ≡ n → 0 < length bs → lines (take (suc n) bs) ≡ take n bs ∷ []
one_line [] n e h = absurd (omega arith)
one_line (b ∷ bs) zero e h = ap (λ t. cond t ([] ∷ []) ((b ∷ []) ∷ [])) (not-true-false (b == 10) (stops is_text b bs e))
one_line (b ∷ []) (suc n) e h =
    ap (λ t. lines (b ∷ t)) (take-nil (suc n))
    ∙ ap (λ t. cond t ([] ∷ []) ((b ∷ []) ∷ [])) (not-false-true (b == 10) (goes_on is_text b [] n e).0)
    ∙ ap (λ t. (b ∷ t) ∷ []) (sym (take-nil n))
one_line (b ∷ c ∷ cs) (suc n) e h =
    let on = goes_on is_text b (c ∷ cs) n e in
    ap (λ t. cond t ([] ∷ lines (take (suc n) (c ∷ cs))) (onto_first b (lines (take (suc n) (c ∷ cs))))) (not-false-true (b == 10) on.0)
    ∙ ap (onto_first b) (one_line (c ∷ cs) n on.1 (omega arith))

-- after a line feed a new line begins
pub line_before : (bs : List ℕ) (n : ℕ) → prefix_len is_text bs ≡ n → n < length bs → (tail : List ℕ) → lines (take (suc n) bs ++ tail) ≡ take n bs ∷ lines tail
line_before [] n e h tail = absurd (omega arith)
line_before (b ∷ bs) zero e h tail = ap (λ t. cond t ([] ∷ lines tail) (onto_first b (lines tail))) (not-true-false (b == 10) (stops is_text b bs e))
line_before (b ∷ bs) (suc n) e h tail =
    let on = goes_on is_text b bs n e in
    ap (λ t. cond t ([] ∷ lines (take (suc n) bs ++ tail)) (onto_first b (lines (take (suc n) bs ++ tail)))) (not-false-true (b == 10) on.0)
    ∙ ap (onto_first b) (line_before bs n on.1 (omega arith) tail)

-- The lines before this place hold no cut.
pub record IsBefore (input : List ℕ) (at : ℕ) : Type 0 where
  pub whole : at < length input → (tail : List ℕ) → lines (take at input ++ tail) ≡ lines (take at input) ++ lines tail
  pub topology : topology_part (lines input) ≡ lines (take at input) ++ topology_part (lines (drop at input))
  pub script : script_part (lines input) ≡ script_part (lines (drop at input))

module _ (input : List ℕ) (at n : ℕ) (before : IsBefore input at) (in_input : at < length input) (len : prefix_len is_text (drop at input) ≡ n) where
  some_left : 0 < length (drop at input)
  some_left = omega (arith, length-drop at input)

  split : lines (drop at input) ≡ take n (drop at input) ∷ lines (drop (suc n) (drop at input))
  split = lines_at (drop at input) n len some_left

  place : at + n + 1 ≡ at + suc n
  place = omega arith

  front : take (at + n + 1) input ≡ take at input ++ take (suc n) (drop at input)
  front = ap (λ k. take k input) place ∙ take-add at (suc n) input

  back : drop (at + n + 1) input ≡ drop (suc n) (drop at input)
  back = ap (λ k. drop k input) place ∙ sym (drop-drop (suc n) at input)

  -- a line that is no cut
  pub before_more : is_cut (take n (drop at input)) ≡ false → IsBefore input (at + n + 1)
  before_more no_cut = record { whole = whole; topology = topology; script = script }
    where
      front_lines : lines (take (at + n + 1) input) ≡ lines (take at input) ++ take n (drop at input) ∷ []
      front_lines = ap lines front ∙ before.whole in_input (take (suc n) (drop at input)) ∙ ap (λ ls. lines (take at input) ++ ls) (one_line (drop at input) n len some_left)

      whole : at + n + 1 < length input → (tail : List ℕ) → lines (take (at + n + 1) input ++ tail) ≡ lines (take (at + n + 1) input) ++ lines tail
      whole h tail =
          ap (λ bs. lines (bs ++ tail)) front ∙ ap lines (append_assoc (take at input) (take (suc n) (drop at input)) tail)
          ∙ before.whole in_input (take (suc n) (drop at input) ++ tail)
          ∙ ap (λ ls. lines (take at input) ++ ls) (line_before (drop at input) n len (omega (arith, length-drop at input)) tail)
          ∙ sym (append_assoc (lines (take at input)) (take n (drop at input) ∷ []) (lines tail))
          ∙ ap (λ ls. ls ++ lines tail) (sym front_lines)

      topology : topology_part (lines input) ≡ lines (take (at + n + 1) input) ++ topology_part (lines (drop (at + n + 1) input))
      topology =
          before.topology ∙ ap (λ ls. lines (take at input) ++ topology_part ls) split
          ∙ ap (λ t. lines (take at input) ++ cond t [] (take n (drop at input) ∷ topology_part (lines (drop (suc n) (drop at input))))) no_cut
          ∙ sym (append_assoc (lines (take at input)) (take n (drop at input) ∷ []) (topology_part (lines (drop (suc n) (drop at input)))))
          ∙ ap (λ ls. ls ++ topology_part (lines (drop (suc n) (drop at input)))) (sym front_lines)
          ∙ ap (λ bs. lines (take (at + n + 1) input) ++ topology_part (lines bs)) (sym back)

      script : script_part (lines input) ≡ script_part (lines (drop (at + n + 1) input))
      script =
          before.script ∙ ap script_part split
          ∙ ap (λ t. cond t (lines (drop (suc n) (drop at input))) (script_part (lines (drop (suc n) (drop at input))))) no_cut
          ∙ ap (λ bs. script_part (lines bs)) (sym back)

  -- the line of the cut
  pub at_cut : is_cut (take n (drop at input)) ≡ true → (lines (take at input) ≡ topology_part (lines input)) × (lines (drop (n + 1) (drop at input)) ≡ script_part (lines input))
  at_cut is =
      let one : n + 1 ≡ suc n = omega arith in (
        sym (before.topology ∙ ap (λ ls. lines (take at input) ++ topology_part ls) split
            ∙ ap (λ t. lines (take at input) ++ cond t [] (take n (drop at input) ∷ topology_part (lines (drop (suc n) (drop at input))))) is ∙ append-nil (lines (take at input))),
        ap (λ k. lines (drop k (drop at input))) one
            ∙ sym (before.script ∙ ap script_part split ∙ ap (λ t. cond t (lines (drop (suc n) (drop at input))) (script_part (lines (drop (suc n) (drop at input))))) is),
      )

-- no line is the cut
pub no_cut : (input : List ℕ) (at : ℕ) → IsBefore input at → length input ≤ at → (lines input ≡ topology_part (lines input)) × ([] ≡ script_part (lines input))
no_cut input at before h = (
  sym (before.topology ∙ ap (λ bs. lines bs ++ topology_part (lines (drop at input))) (take_all at input h) ∙ ap (λ bs. lines input ++ topology_part (lines bs)) (drop_all at input h) ∙ append-nil (lines input)),
  sym (before.script ∙ ap (λ bs. script_part (lines bs)) (drop_all at input h)),
)
