-- The numbers of a block, and what lies in it.
use Rattle.std.proofs.Common.{◌≡◌, ℕ, ◌+◌, ◌*◌, ◌/◌, ◌^◌, ◌<◌, ◌≤◌, inl, inr, List, length, get_or, set, ap, ◌∙◌, sym, subst, arith, Option}
use Rattle.std.proofs.Math.Nat.{div-eq_of_lt-le, div-mul-le_self, lt-div-mul-add}
use Rattle.std.proofs.lemmas.Nat.{pow_pos}
use Rattle.std.proofs.lemmas.Bool.{cases_eq, cases_lt}
use Rattle.std.proofs.lemmas.List.{get_or-set_same, get_or-set_other}
use Rattle.ir_prefix.specs.Runs.{IsRunFrom, LiesIn}
use Rattle.ir_prefix.specs.declared.runs.LabelRun.{LabelRun}
use Rattle.ir_prefix.specs.declared.runs.PrefixBlock.TheVariants.{Beyond, Unsent, OnePort, Mixed}

block_low : (x h i size : ℕ) → size ≡ 2 ^ h → x / 2 ^ h ≡ i → i * size ≤ x
block_low x h i size s e = subst (λ (m : ℕ). i * m ≤ x) (sym s) (subst (λ (k : ℕ). k * 2 ^ h ≤ x) e (div-mul-le_self x (2 ^ h)))

block_high : (x h i size : ℕ) → size ≡ 2 ^ h → x / 2 ^ h ≡ i → x < i * size + size
block_high x h i size s e = subst (λ (m : ℕ). x < i * m + m) (sym s) (subst (λ (k : ℕ). x < k * 2 ^ h + 2 ^ h) e (lt-div-mul-add (pow_pos h)))

in_block : (x h i size : ℕ) → size ≡ 2 ^ h → i * size ≤ x → x < i * size + size → x / 2 ^ h ≡ i
in_block x h i size s low high =
    let l : i * 2 ^ h ≤ x = subst (λ (m : ℕ). i * m ≤ x) s low in
    let t : x < i * 2 ^ h + 2 ^ h = subst (λ (m : ℕ). x < i * m + m) s high in
    let e : (i + 1) * 2 ^ h ≡ i * 2 ^ h + 2 ^ h = omega arith in
    div-eq_of_lt-le (2 ^ h) l (subst (λ (m : ℕ). x < m) (sym e) t)

-- a run ends after the number that it is from
pub run_ends_behind : (ports : List (Option ℕ)) (x : ℕ) (run : LabelRun) → IsRunFrom ports x run → x < length ports → x < run.end
run_ends_behind ports x run is inside =
    elim (cases_lt x run.end) [
      | inl l ↦ l
      | inr at ↦ let f = is.from in let n = (is.next (omega arith)).0 in absurd (omega arith)
    ]

pub past_labels : (ports : List (Option ℕ)) (h i size : ℕ) → size ≡ 2 ^ h → length ports ≤ i * size → LiesIn ports h i Beyond
past_labels ports h i size s past = λ x e. let l = block_low x h i size s e in omega arith

module _ (ports : List (Option ℕ)) (h i size : ℕ) (s : size ≡ 2 ^ h) (run : LabelRun) (is : IsRunFrom ports (i * size) run) where
  pub mixed_block : i * size < length ports → i * size < run.end → run.end < i * size + size → LiesIn ports h i Mixed
  mixed_block inside on below = (
    elim (cases_lt 0 h) [
      | inl l ↦ l
      | inr z ↦ let e : h ≡ 0 = omega arith in let one : size ≡ 1 = subst (λ (k : ℕ). size ≡ 2 ^ k) e s in absurd (omega (arith, one))
    ],
    elim (cases_lt run.end (length ports)) [
      | inl l ↦
          let w = is.next l in
          let f = is.from in
          inr (
            run.first,
            run.end,
            run.port,
            w.1,
            in_block run.first h i size s is.from (omega (arith, w.0)),
            in_block run.end h i size s is.on below,
            is.has (omega (arith, w.0)),
            w.2,
            λ e. w.3 (sym e),
          )
      | inr past ↦ inl (run.end, in_block run.end h i size s is.on below, past)
    ],
  )

  pub block_of_port : i * size + size ≤ run.end → run.first < i * size + size → LiesIn ports h i (OnePort run.port)
  block_of_port whole first =
      let w = is.within in (
        λ x e. let l = block_high x h i size s e in omega arith,
        λ x r e o. let l = block_high x h i size s e in is.same x r (block_low x h i size s e) (omega arith) o,
        (run.first, in_block run.first h i size s is.from first, is.has (omega arith)),
      )

  pub unsent_block : i * size + size ≤ run.end → i * size + size ≤ run.first → LiesIn ports h i Unsent
  unsent_block whole first = λ x e.
      let w = is.within in
      let l = block_high x h i size s e in
      (omega arith, is.none x (block_low x h i size s e) (omega arith))

-- the runs from a number on, with that of the number before it
pub runs_before : (ports : List (Option ℕ)) (runs : List LabelRun) (x : ℕ) (run : LabelRun) → length runs ≡ length ports → x < length ports → IsRunFrom ports x run
    → ((d : ℕ) (none : LabelRun) → x < d → d < length ports → IsRunFrom ports d (get_or runs d none) × (d < (get_or runs d none).end))
    → (d : ℕ) (none : LabelRun) → x ≤ d → d < length ports → IsRunFrom ports d (get_or (set runs x run) d none) × (d < (get_or (set runs x run) d none).end)
runs_before ports runs x run every inside is later = λ d none from d_in.
    elim (cases_eq d x) [
      | inl same ↦
          let at : get_or (set runs x run) d none ≡ run = ap (λ (k : ℕ). get_or (set runs x run) k none) same ∙ get_or-set_same runs x run none (omega (arith, every)) in
          let P : LabelRun → Type 0 = λ r. IsRunFrom ports d r × (d < r.end) in
          let here : IsRunFrom ports d run = subst (λ (k : ℕ). IsRunFrom ports k run) (sym same) is in
          subst P (sym at) (here, run_ends_behind ports d run here d_in)
      | inr other ↦
          let at : get_or (set runs x run) d none ≡ get_or runs d none = get_or-set_other runs x d run none other in
          let P : LabelRun → Type 0 = λ r. IsRunFrom ports d r × (d < r.end) in
          subst P (sym at) (later d none (omega (arith, other)) d_in)
    ]
