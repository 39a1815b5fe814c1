-- What a drawing shows, piece by piece.
use Rattle.std.proofs.Common.{◌≡◌, ℕ, zero, suc, ◌+◌, ◌-◌, ◌<◌, ◌≤◌, Bool, true, false, ◌==◌, List, [], ◌∷◌, ◌++◌, length, map, filter, take, drop, get_or, flat_map, refl, sym, ap, ◌∙◌, arith, append_assoc}
use Rattle.std.specs.Prelude.{if◌then◌else◌}
use Rattle.std.specs.List.{join_with_byte}
use Rattle.std.proofs.lemmas.List.{append-nil, drop_more, length-append}
use Rattle.std.proofs.lemmas.List.Elements.{filter_more}
use Rattle.std.proofs.lemmas.Grind.{flat_map-append}
use Rattle.std.proofs.lemmas.Bool.{ne_eqb}
use Rattle.ir_model.specs.declared.Hop.{Hop}
use Rattle.ir_model.specs.Interval.{PortInterval}
use Rattle.ir_show.specs.WalkText.{no_interval}
use Rattle.ir_show.specs.Before.{separated}
use Rattle.ir_show.specs.Drawing.{interval_text, are_ends, passes, passes_from}

-- ---- intervals

-- the intervals of a list that pass a test, with one space between
abbrev pub shown_intervals : (PortInterval → Bool) → List PortInterval → List ℕ
shown_intervals test ms = join_with_byte 32 (map interval_text (filter test ms))

not_none : (k : ℕ) → (suc k == 0) ≡ false
not_none k = ne_eqb (suc k) 0 (λ e. omega (arith, e))

-- one more interval
joined_more : (fs : List PortInterval) (m : PortInterval) → join_with_byte 32 (map interval_text fs) ++ separated (length fs == 0) (interval_text m) ≡ join_with_byte 32 (map interval_text (fs ++ m ∷ []))
joined_more [] m = refl
joined_more (f ∷ []) m = refl
joined_more (f ∷ g ∷ fs) m =
    let shown : List ℕ = join_with_byte 32 (map interval_text (g ∷ fs)) in
    let behind : Bool → List ℕ = λ b. separated b (interval_text m) in
    append_assoc (interval_text f) (32 ∷ shown) (behind (length (f ∷ g ∷ fs) == 0))
    ∙ ap (λ (t : List ℕ). interval_text f ++ 32 ∷ t)
    (ap (λ (b : Bool). shown ++ behind b) (not_none (length (g ∷ fs)) ∙ sym (not_none (length fs))) ∙ joined_more (g ∷ fs) m)

module _ (test : PortInterval → Bool) (ms : List PortInterval) (i : ℕ) (i_in : i < length ms) where
  -- one that passes is shown, after a space if another was
  pub shown_more : (old : List ℕ) (first : Bool) → first ≡ (length (filter test (take i ms)) == 0) → test (get_or ms i no_interval) ≡ true
      → (old ++ shown_intervals test (take i ms)) ++ separated first (interval_text (get_or ms i no_interval)) ≡ old ++ shown_intervals test (take (i + 1) ms)
  shown_more old first e passes_test =
      let m = get_or ms i no_interval in
      let fs = filter test (take i ms) in
      let more : filter test (take (i + 1) ms) ≡ fs ++ m ∷ [] = filter_more test ms i no_interval i_in ∙ rw passes_test refl in
      append_assoc old (shown_intervals test (take i ms)) (separated first (interval_text m))
      ∙ ap (λ (t : List ℕ). old ++ t)
      (ap (λ (b : Bool). join_with_byte 32 (map interval_text fs) ++ separated b (interval_text m)) e ∙ joined_more fs m ∙ ap (λ (xs : List PortInterval). join_with_byte 32 (map interval_text xs)) (sym more))

  pub no_longer_first : test (get_or ms i no_interval) ≡ true → false ≡ (length (filter test (take (i + 1) ms)) == 0)
  no_longer_first passes_test =
      let m = get_or ms i no_interval in
      let fs = filter test (take i ms) in
      let more : filter test (take (i + 1) ms) ≡ fs ++ m ∷ [] = filter_more test ms i no_interval i_in ∙ rw passes_test refl in
      let long : length (filter test (take (i + 1) ms)) ≡ suc (length fs) = ap length more ∙ length-append fs (m ∷ []) ∙ omega arith in
      sym (ap (λ (k : ℕ). k == 0) long ∙ not_none (length fs))

  -- one that does not pass is not
  pub shown_same : test (get_or ms i no_interval) ≡ false → filter test (take (i + 1) ms) ≡ filter test (take i ms)
  shown_same fails_test = filter_more test ms i no_interval i_in ∙ rw fails_test (append-nil (filter test (take i ms)))

-- ---- walks

-- whether a walk passes, from the place before i on
module _ (u v : ℕ) (walk : List ℕ) (i : ℕ) (some : 1 ≤ i) where
  pub passes_here : i < length walk → are_ends u v (get_or walk (i - 1) 0) (get_or walk i 0) ≡ true → passes u v (drop (i - 1) walk) ≡ true
  passes_here h ends =
      let next : (i - 1) + 1 ≡ i = omega (arith, some) in
      let first = drop_more walk (i - 1) 0 (omega (arith, h)) in
      let second = ap (λ (k : ℕ). drop k walk) next ∙ drop_more walk i 0 h in
      ap (passes u v) first ∙ ap (passes_from u v (get_or walk (i - 1) 0)) second ∙ rw ends refl

  pub passes_on : i < length walk → are_ends u v (get_or walk (i - 1) 0) (get_or walk i 0) ≡ false → passes u v (drop (i - 1) walk) ≡ passes u v (drop ((i + 1) - 1) walk)
  passes_on h ends =
      let next : (i - 1) + 1 ≡ i = omega (arith, some) in
      let same : i ≡ (i + 1) - 1 = omega arith in
      let first = drop_more walk (i - 1) 0 (omega (arith, h)) in
      let second = ap (λ (k : ℕ). drop k walk) next ∙ drop_more walk i 0 h in
      ap (passes u v) first ∙ ap (passes_from u v (get_or walk (i - 1) 0)) second ∙ rw ends refl
      ∙ sym (ap (passes u v) (drop_more walk i 0 h)) ∙ ap (λ (k : ℕ). passes u v (drop k walk)) same

passes_past : (u v : ℕ) (walk : List ℕ) (k : ℕ) → length walk ≤ k + 1 → passes u v (drop k walk) ≡ false
passes_past u v [] zero h = refl
passes_past u v [] (suc k) h = refl
passes_past u v (x ∷ []) zero h = refl
passes_past u v (x ∷ y ∷ rest) zero h = absurd (omega (arith, h))
passes_past u v (x ∷ rest) (suc k) h = passes_past u v rest k (omega (arith, h))

pub passes_end : (u v : ℕ) (walk : List ℕ) (i : ℕ) → 1 ≤ i → length walk ≤ i → passes u v (drop (i - 1) walk) ≡ false
passes_end u v walk i some h = passes_past u v walk (i - 1) (omega (arith, some, h))

-- ---- links

-- one more port of a node
pub edges_more : (line : Hop → List ℕ) (test : Hop → Bool) (ports : List Hop) (i : ℕ) (none : Hop) → i < length ports
    → (old : List ℕ) → (old ++ flat_map line (filter test (take i ports))) ++ (if test (get_or ports i none) then line (get_or ports i none) else []) ≡ old ++ flat_map line (filter test (take (i + 1) ports))
edges_more line test ports i none h old =
    let hop = get_or ports i none in
    let fs = filter test (take i ports) in
    append_assoc old (flat_map line fs) (if test hop then line hop else [])
    ∙ ap (λ (t : List ℕ). old ++ t)
    (ap (λ (t : List ℕ). flat_map line fs ++ t) (one (test hop)) ∙ sym (flat_map-append line fs (if test hop then hop ∷ [] else [])) ∙ ap (flat_map line) (sym (filter_more test ports i none h)))
  where
    one : (b : Bool) → (if b then line (get_or ports i none) else []) ≡ flat_map line (if b then get_or ports i none ∷ [] else [])
    one true = sym (append-nil (line (get_or ports i none)))
    one false = refl
