-- What is at the places of a round, by label.
use Rattle.std.proofs.Common.{◌≡◌, ℕ, ◌+◌, ◌-◌, ◌<◌, ◌≤◌, List, ◌++◌, drop, take, length, slice_index, ap, ◌∙◌, inl, inr, arith}
use Rattle.std.proofs.lemmas.List.{get_or_append_left, get_or-append-add, get_or-take, get_or-drop, length-append, length-take-le, length-drop}
use Rattle.ir_model.specs.Choices.{label_from}
use Rattle.ir_model.proofs.Going.{from_where}

module _ (n start : ℕ) (places : List ℕ) (label : start < n) (room : n ≤ length places) where
  abbrev pub front : List ℕ
  front = take (n - (n - start)) (drop (n - start) places)

  abbrev pub back : List ℕ
  back = take (n - start) places

  front_long : length front ≡ start
  front_long = omega (arith, length-take-le (n - (n - start)) (drop (n - start) places) (omega (arith, length-drop (n - start) places, room, label)), label)

  back_long : length back ≡ n - start
  back_long = length-take-le (n - start) places (omega (arith, room))

  pub turned_long : length (front ++ back) ≡ n
  turned_long = omega (arith, length-append front back, front_long, back_long, label)

  pub turned_at : (j : ℕ) → j < n → slice_index (front ++ back) (label_from n start j) ≡ slice_index places j
  turned_at j l =
      elim (from_where n start j label (omega (arith, l))) [
        | inl w ↦
            let at : label_from n start j ≡ length front + j = omega (arith, w.1, front_long) in
            ap (slice_index (front ++ back)) at ∙ get_or-append-add front back j 0 ∙ get_or-take (n - start) places j 0 (omega (arith, w.0))
        | inr w ↦
            let d : ℕ = label_from n start j in
            let at : n - start + d ≡ j = omega (arith, w.0, w.1, label) in
            get_or_append_left front back 0 d (omega (arith, w.0, w.1, l, front_long))
            ∙ get_or-take (n - (n - start)) (drop (n - start) places) d 0 (omega (arith, w.0, w.1, l, label)) ∙ get_or-drop (n - start) places d 0 ∙ ap (slice_index places) at
      ]
