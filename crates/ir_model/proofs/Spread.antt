-- No set of cyclic intervals that fits the choices has fewer members than the longest runs from one of its starts.
use Rattle.std.proofs.Common.{◌≡◌, ℕ, zero, suc, ◌+◌, ◌-◌, ◌<◌, ◌≤◌, ◌≢◌, List, [], ◌∷◌, length, refl, ap, sym, ◌∙◌, subst, inl, inr, ◌⊎◌, arith}
use Rattle.std.proofs.lemmas.Bool.{cases_eq}
use Rattle.std.proofs.lemmas.List.{length-map, get_or-map}
use Rattle.std.specs.Prelude.{map}
use Rattle.ir_model.specs.Interval.{InInterval, PortInterval, HasLabel}
use Rattle.ir_model.specs.Compiled.{label_after, label_before}
use Rattle.ir_model.specs.Choices.{AreChoices, FitsChoices, label_from, Serves, Run, IsLongestRun, GoOn}
use Rattle.ir_model.proofs.Round.{after_is_label, after_differs}
use Rattle.ir_model.proofs.Fewest.{reaches_back, moved, moved_own, moved_other}
use Rattle.ir_model.proofs.Pigeonhole.{Mem, mem_at, without, shorter, keeps}
use Rattle.ir_model.proofs.Going.{from_is_label, from_from, from_before, from_differs}

-- places that rise from lo on, below n, whose labels are in a list
abbrev pub Rise : ℕ → ℕ → ℕ → List ℕ → List ℕ → Type 0
Rise n s lo ys [] = Unit {0}
Rise n s lo ys (t ∷ ts) = (lo ≤ t) × (t < n) × Mem ys (label_from n s t) × Rise n s (suc t) ys ts

rise_later : (n s lo lower : ℕ) (ys ts : List ℕ) → lower ≤ lo → Rise n s lo ys ts → Rise n s lower ys ts
rise_later n s lo lower ys [] le r = tt
rise_later n s lo lower ys (t ∷ ts) le r = (omega (arith, r.0), r.1, r.2, r.3)

rise_without : (n s lo x : ℕ) (ys ts : List ℕ) → s < n → x < lo → Rise n s lo ys ts → Rise n s lo (without (label_from n s x) ys) ts
rise_without n s lo x ys [] h lt r = tt
rise_without n s lo x ys (t ∷ ts) h lt r = (
  r.0,
  r.1,
  keeps (label_from n s x) (label_from n s t) ys (λ e. from_differs n s x t h (omega (arith, r.0)) r.1 (sym e)) r.2,
  rise_without n s (suc t) x ys ts h (omega (arith, r.0)) r.3,
)

pub rise_count : (n s lo : ℕ) (ys ts : List ℕ) → s < n → Rise n s lo ys ts → length ts ≤ length ys
rise_count n s lo ys [] h r = omega arith
rise_count n s lo ys (t ∷ ts) h r =
    let less = shorter (label_from n s t) ys r.2 in
    let rest = rise_count n s (suc t) (without (label_from n s t) ys) ts h (rise_without n s (suc t) t ys ts h (omega arith) r.3) in
    omega arith

module _ (n own : ℕ) (may : ℕ → ℕ → Type 0) (two : 1 < n) (valid : AreChoices n own may) where
  -- a longest run from a label but the own has a label
  pub longest_some : (a : ℕ) → a < n → a ≢ own → (run : Run) → IsLongestRun n own may a run → 0 < run.count
  longest_some a label ne run is =
      let w = valid.some a label ne in
      is.longest w.0 1 (omega arith) (λ i l _. let z : i ≡ 0 = omega arith in subst (λ (k : ℕ). may (label_from n a k) w.0) (sym z) w.1)

  -- after a longest run that doesn't end the round the own label does not come
  pub behind_differs : (s c : ℕ) (run : Run) → c + run.count < n → IsLongestRun n own may (label_from n s c) run → label_from n s (c + run.count) ≢ own
  behind_differs s c run inside is = λ e.
      let more : Serves n own may run.port (label_from n s c) (suc run.count) = λ i l ne.
      elim (cases_eq i run.count) [
        | inl f ↦
            let at : label_from n (label_from n s c) i ≡ label_from n s (c + run.count) = from_from n s c i ∙ ap (label_from n s) (omega arith) in
            absurd (ne (at ∙ e))
        | inr differ ↦ is.serves i (omega arith) ne
      ] in
      let le = is.longest run.port (suc run.count) (omega arith) more in
      omega arith

  module _ (set : List PortInterval) (fits : FitsChoices n own may set) where
    -- the starts of the set, moved off the own label
    abbrev pub moved_starts : List ℕ
    moved_starts = map (λ (m : PortInterval). moved n own m.start) set

    -- going back from a label of an interval, either its start comes, or all labels on the way are in it
    walks_back : (s a b i : ℕ) → s < n → a < n → b < n → InInterval n a b (label_from n s i) → (d : ℕ) → d ≤ i
        → ((t : ℕ) × (i - d < t) × (t ≤ i) × (label_from n s t ≡ a)) ⊎ ((j : ℕ) → i - d ≤ j → j ≤ i → InInterval n a b (label_from n s j))
    walks_back s a b i h an bn has zero le = inr (λ j l u. let e : i ≡ j = omega arith in subst (λ (x : ℕ). InInterval n a b (label_from n s x)) e has)
    walks_back s a b i h an bn has (suc d) le =
        elim (walks_back s a b i h an bn has d (omega arith)) [
          | inl w ↦ inl (w.0, omega (arith, w.1), w.2, w.3)
          | inr all ↦
              elim (cases_eq a (label_from n s (i - d))) [
                | inl e ↦ inl (i - d, omega arith, omega arith, sym e)
                | inr ne ↦
                    let here = all (i - d) (omega arith) (omega arith) in
                    let back = reaches_back n a b (label_from n s (i - d)) an bn (from_is_label n s (i - d) h) here ne in
                    let f : i - d ≡ suc (i - suc d) = omega arith in
                    let is : label_before n (label_from n s (i - d)) ≡ label_from n s (i - suc d) = ap (λ (x : ℕ). label_before n (label_from n s x)) f ∙ from_before n s (i - suc d) h in
                    let more = subst (λ (x : ℕ). InInterval n a b x) is back in
                    inr (λ j l u. elim (cases_eq j (i - suc d)) [
                      | inl g ↦ subst (λ (x : ℕ). InInterval n a b (label_from n s x)) (sym g) more
                      | inr differ ↦ all j (omega arith) u
                    ])
              ]
        ]

    -- after each longest run that doesn't end the round, a member of the set begins in the run or just after it
    pub begins_in : (s c : ℕ) (run : Run) → s < n → c + run.count < n → IsLongestRun n own may (label_from n s c) run
        → (t : ℕ) × (c < t) × (t ≤ c + run.count) × Mem moved_starts (label_from n s t)
    begins_in s c run h inside is =
        let i = c + run.count in
        let x = label_from n s i in
        let label = from_is_label n s i h in
        let ne = behind_differs s c run inside is in
        let w = fits.covered x label ne in
        let k = w.0 in
        let m = w.1 in
        let in_set : k < length set = omega (arith, w.2) in
        let ends = subst (λ (m : PortInterval). (m.start < n) × (m.end < n)) w.3 (fits.within k m in_set) in
        let len = length-map set (λ (m : PortInterval). moved n own m.start) in
        let start_in : Mem moved_starts (moved n own m.start) =
        subst (λ (y : ℕ). Mem moved_starts y) (get_or-map (λ (m : PortInterval). moved n own m.start) set k m 0 in_set ∙ ap (λ (m : PortInterval). moved n own m.start) w.3)
        (mem_at moved_starts k (omega arith)) in
        elim (walks_back s m.start m.end i h ends.0 ends.1 w.4 run.count (omega arith)) [
          | inl found ↦
              elim (cases_eq m.start own) [
                | inl e ↦
                    let differ : found.0 ≢ i = λ f. ne (ap (label_from n s) (sym f) ∙ found.3 ∙ e) in
                    let is_next : label_from n s (suc found.0) ≡ moved n own m.start =
                    ap (label_after n) (found.3 ∙ e) ∙ sym (moved_own n own) ∙ ap (moved n own) (sym e) in
                    (suc found.0, omega (arith, found.1), omega (arith, found.2), subst (λ (y : ℕ). Mem moved_starts y) (sym is_next) start_in)
                | inr off ↦
                    (found.0, omega (arith, found.1), found.2, subst (λ (y : ℕ). Mem moved_starts y) (moved_other n own m.start off ∙ sym found.3) start_in)
              ]
          | inr all ↦
              let more : Serves n own may m.port (label_from n s c) (suc run.count) = λ j l off.
              let at : label_from n (label_from n s c) j ≡ label_from n s (j + c) = from_from n s c j in
              let off' : label_from n s (j + c) ≢ own = λ e. off (at ∙ e) in
              let agree = subst (λ (q : PortInterval). HasLabel n q (label_from n s (j + c)) → may (label_from n s (j + c)) q.port) w.3
              (fits.agrees (label_from n s (j + c)) (from_is_label n s (j + c) h) off' k m in_set) in
              subst (λ (y : ℕ). may y m.port) (sym at) (agree (all (j + c) (omega arith) (omega arith))) in
              let le = is.longest m.port (suc run.count) (omega arith) more in
              absurd (let bad : suc run.count ≤ run.count = le in omega arith)
        ]

    -- so for each run after a longest run there is a member of its own
    spread : (s c : ℕ) (run : Run) (runs : List Run) → s < n → IsLongestRun n own may (label_from n s c) run → GoOn n own may s (c + run.count) runs
        → (ts : List ℕ) × (length ts ≡ length runs) × Rise n s (suc c) moved_starts ts
    spread s c run [] h is go = ([], refl, tt)
    spread s c run (next ∷ rest) h is go =
        let w = begins_in s c run h go.0 is in
        let r = spread s (c + run.count) next rest h go.1 go.2 in
        (w.0 ∷ r.0, ap suc r.1, (w.1, omega (arith, w.2, go.0), w.3, rise_later n s (suc (c + run.count)) (suc w.0) moved_starts r.0 (omega (arith, w.2)) r.2))

    -- from a start of the set the longest runs are no more than its members
    pub runs_from_start : (s : ℕ) (runs : List Run) → s < n → Mem moved_starts s → GoOn n own may s 0 runs → length runs ≤ length set
    runs_from_start s [] h start go = omega arith
    runs_from_start s (run ∷ rest) h start go =
        let len = length-map set (λ (m : PortInterval). moved n own m.start) in
        let r = spread s 0 run rest h go.1 go.2 in
        let count = rise_count n s 0 moved_starts (0 ∷ r.0) h (omega arith, go.0, start, r.2) in
        omega (arith, r.1)

    -- some label but the own is such a start
    pub some_start : (s : ℕ) × (s < n) × (s ≢ own) × Mem moved_starts s
    some_start =
        let o = valid.has_own in
        let w = fits.covered (label_after n own) (after_is_label n own o) (after_differs n own o two) in
        let in_set : w.0 < length set = omega (arith, w.2) in
        let ends = subst (λ (m : PortInterval). (m.start < n) × (m.end < n)) w.3 (fits.within w.0 w.1 in_set) in
        let a = w.1.start in
        let len = length-map set (λ (m : PortInterval). moved n own m.start) in
        let start_in : Mem moved_starts (moved n own a) =
        subst (λ (y : ℕ). Mem moved_starts y) (get_or-map (λ (m : PortInterval). moved n own m.start) set w.0 w.1 0 in_set ∙ ap (λ (m : PortInterval). moved n own m.start) w.3)
        (mem_at moved_starts w.0 (omega arith)) in
        elim (cases_eq a own) [
          | inl e ↦
              let is : moved n own a ≡ label_after n own = ap (moved n own) e ∙ moved_own n own in
              (label_after n own, after_is_label n own o, after_differs n own o two, subst (λ (y : ℕ). Mem moved_starts y) is start_in)
          | inr ne ↦ (a, ends.0, ne, subst (λ (y : ℕ). Mem moved_starts y) (moved_other n own a ne) start_in)
        ]
