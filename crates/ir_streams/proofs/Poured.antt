-- A text that is poured piece by piece.
use Rattle.std.proofs.Common.{◌≡◌, ℕ, Bool, true, false, cond, List, [], ◌++◌, take, drop, Option, None, Some, is_none, Result, refl, sym, ap, subst, ◌∙◌, append_assoc}
use Rattle.std.proofs.lemmas.List.{append-nil, take-append-drop}
use Rattle.ir_streams.specs.declared.call.CallError.{CallError}
use Rattle.ir_streams.specs.Writing.{Writes, Calls}
use Rattle.ir_streams.specs.Pouring.{TakesAllBut, Breaks, Pours, Finishes}
use Rattle.ir_streams.proofs.Sent.{takes_on, but_for_all, but_for_front, taken_none, taken_longer, taken_on, breaks_on, breaks_longer, broken}

module _ {W : Type 0} (contents : W → Option (List ℕ)) (wrote : W → List ℕ → Result ℕ CallError → W → Type 0) (settled : W → Result (Unit {0}) CallError → W → Type 0) where
  -- ---- a part

  module _ (first : W) (text : List ℕ) (mid : W) (kept rest : List ℕ) (taken : TakesAllBut contents wrote settled first text mid (kept ++ rest)) (n : ℕ) (part : List ℕ) (is : part ≡ kept ++ take n rest) (last : W) where
    and_rest : part ++ drop n rest ≡ kept ++ rest
    and_rest = ap (λ t. t ++ drop n rest) is ∙ append_assoc kept (take n rest) (drop n rest) ∙ ap (λ t. kept ++ t) (take-append-drop n rest)

    pub part_taken : TakesAllBut contents wrote settled mid part last [] → (after left : List ℕ) → after ≡ [] → left ≡ drop n rest → TakesAllBut contents wrote settled first text last (after ++ left)
    part_taken took after left none e =
        let behind : after ++ left ≡ drop n rest = ap (λ t. t ++ left) none ∙ e in
        let longer : TakesAllBut contents wrote settled mid (kept ++ rest) last (drop n rest) =
        subst (λ (t : List ℕ). TakesAllBut contents wrote settled mid t last (drop n rest)) and_rest (taken_longer contents wrote settled mid part last [] took (drop n rest)) in
        subst (λ (t : List ℕ). TakesAllBut contents wrote settled first text last t) (sym behind) (taken_on contents wrote settled first text mid (kept ++ rest) taken last (drop n rest) longer)

    pub part_breaks : Breaks contents wrote settled mid part last → Breaks contents wrote settled first text last
    part_breaks broke =
        let longer : Breaks contents wrote settled mid (kept ++ rest) last =
        subst (λ (t : List ℕ). Breaks contents wrote settled mid t last) and_rest (breaks_longer contents wrote settled mid part last broke (drop n rest)) in
        breaks_on contents wrote settled first text mid (kept ++ rest) taken last longer

  -- ---- pieces

  -- nothing
  pub pours_none : (first : W) (kept : Option (List ℕ)) → Pours contents wrote settled first kept [] first kept
  pours_none first None = (refl, refl)
  pours_none first (Some kept) =
      subst (λ (t : List ℕ). TakesAllBut contents wrote settled first t first kept) (sym (append-nil kept)) (taken_none contents wrote settled first kept)

  -- some, which makes no part yet and is kept back
  pub pours_kept : (at : W) (failed : Bool) (before after more text : List ℕ) (kept : Option (List ℕ)) → failed ≡ false → cond failed None (Some before) ≡ kept → after ≡ before ++ more → more ≡ text
      → Pours contents wrote settled at kept text at (cond failed None (Some after))
  pours_kept at true before after more text kept went is e same = absurd (cc went)
  pours_kept at false before after more text kept went is e same =
      let all : before ++ text ≡ after = ap (λ t. before ++ t) (sym same) ∙ sym e in
      subst (λ (o : Option (List ℕ)). Pours contents wrote settled at o text at (Some after)) is
      (subst (λ (t : List ℕ). TakesAllBut contents wrote settled at (before ++ text) at t) all (taken_none contents wrote settled at (before ++ text)))

  -- nothing more once a write failed
  pub pours_in_vain : (last : W) (after : Option (List ℕ)) → is_none after ≡ true → (more : List ℕ) → Pours contents wrote settled last after more last after
  pours_in_vain last None failed more = (refl, refl)
  pours_in_vain last (Some kept) failed more = absurd (cc failed)

  -- one piece, and another
  pub pours_more : (first : W) (kept : Option (List ℕ)) (xs : List ℕ) (mid : W) (left : Option (List ℕ)) (ys : List ℕ) (last : W) (after : Option (List ℕ))
      → Pours contents wrote settled first kept xs mid left → Pours contents wrote settled mid left ys last after → Pours contents wrote settled first kept (xs ++ ys) last after
  pours_more first None xs mid left ys last after h k =
      let on : Pours contents wrote settled mid None ys last after = subst (λ (o : Option (List ℕ)). Pours contents wrote settled mid o ys last after) h.1 k in
      (on.0 ∙ h.0, on.1)
  pours_more first (Some kept) xs mid None ys last None h k =
      let at_last : Breaks contents wrote settled first (kept ++ xs) last = subst (λ (w : W). Breaks contents wrote settled first (kept ++ xs) w) (sym k.0) h in
      subst (λ (t : List ℕ). Breaks contents wrote settled first t last) (append_assoc kept xs ys) (breaks_longer contents wrote settled first (kept ++ xs) last at_last ys)
  pours_more first (Some kept) xs mid None ys last (Some after) h k = absurd (cc k.1)
  pours_more first (Some kept) xs mid (Some left) ys last None h k =
      subst (λ (t : List ℕ). Breaks contents wrote settled first t last) (append_assoc kept xs ys)
      (breaks_on contents wrote settled first ((kept ++ xs) ++ ys) mid (left ++ ys) (taken_longer contents wrote settled first (kept ++ xs) mid left h ys) last k)
  pours_more first (Some kept) xs mid (Some left) ys last (Some after) h k =
      subst (λ (t : List ℕ). TakesAllBut contents wrote settled first t last after) (append_assoc kept xs ys)
      (taken_on contents wrote settled first ((kept ++ xs) ++ ys) mid (left ++ ys) (taken_longer contents wrote settled first (kept ++ xs) mid left h ys) last after k)

  -- the same as the text that they make
  pub pours_on : (first : W) (kept : Option (List ℕ)) (xs : List ℕ) (mid : W) (left : Option (List ℕ)) (ys : List ℕ) (last : W) (after : Option (List ℕ))
      → Pours contents wrote settled first kept xs mid left → Pours contents wrote settled mid left ys last after → (text : List ℕ) → xs ++ ys ≡ text → Pours contents wrote settled first kept text last after
  pours_on first kept xs mid left ys last after h k text e =
      subst (λ (t : List ℕ). Pours contents wrote settled first kept t last after) e (pours_more first kept xs mid left ys last after h k)

  -- ---- a whole text

  whole_sent : (first : W) (text : List ℕ) (mid : W) (kept : List ℕ) (sent : Bool) (last : W) → TakesAllBut contents wrote settled first text mid kept → Calls wrote settled sent mid kept last → Calls wrote settled sent first text last
  whole_sent first text mid kept true last taken (counts, end, takes, flushed) =
      (counts ++ taken.counts, end, takes_on contents wrote settled first text taken.counts mid kept counts end [] taken.calls takes, flushed)
  whole_sent first text mid kept false last taken (counts, end, rest, takes, failed) =
      (counts ++ taken.counts, end, rest, takes_on contents wrote settled first text taken.counts mid kept counts end rest taken.calls takes, failed)

  whole_written : (first : W) (text : List ℕ) (mid : W) (kept : List ℕ) (sent : Bool) (last : W) → TakesAllBut contents wrote settled first text mid kept → Writes sent (contents mid) (contents last) kept → Writes sent (contents first) (contents last) text
  whole_written first text mid kept true last taken wrote_it = but_for_all (contents first) (contents mid) (contents last) text kept taken.bytes wrote_it
  whole_written first text mid kept false last taken wrote_it = but_for_front (contents first) (contents mid) (contents last) text kept taken.bytes wrote_it

  -- from nothing kept back to the end
  pub poured : (first : W) (text : List ℕ) (mid : W) (after : Option (List ℕ)) (sent : Bool) (last : W) → Pours contents wrote settled first (Some []) text mid after → Finishes contents wrote settled sent mid after last
      → Calls wrote settled sent first text last × Writes sent (contents first) (contents last) text
  poured first text mid None sent last broke end =
      let at_last : Breaks contents wrote settled first text last = subst (λ (w : W). Breaks contents wrote settled first text w) (sym end.1) broke in
      subst (λ (b : Bool). Calls wrote settled b first text last × Writes b (contents first) (contents last) text) (sym end.0) (broken contents wrote settled first text last at_last)
  poured first text mid (Some kept) sent last taken end =
      (whole_sent first text mid kept sent last taken end.0, whole_written first text mid kept sent last taken end.1)
