-- Choices that are decided have chosen ports.
use Rattle.std.proofs.Common.{◌≡◌, ◌≢◌, ℕ, zero, suc, ◌-◌, ◌<◌, ◌≤◌, ◌⊎◌, List, length, Option, Some, None, refl, sym, ap, ◌∙◌, subst, inl, inr, arith}
use Rattle.std.specs.Prelude.{slice_index}
use Rattle.std.proofs.lemmas.Bool.{cases_eq, cases_lt}
use Rattle.ir_model.specs.Compiled.{port_to}
use Rattle.ir_model.specs.Choices.{AreChoices, label_from, AreChosen}
use Rattle.ir_model.proofs.Going.{from_is_label, from_differs, place_from}
use Rattle.ir_model.proofs.Steps.{AreSteps, Steps, next_place, HaveStepPorts, IsFirstNear, some_steps, longest_are_steps, steps_are_chosen}
use Rattle.ir_show.proofs.Searching.{chosen_list}
use Rattle.ir_show.proofs.LongestRuns.{AreDecided, longest_tables}

-- ---- the first label with the fewest steps

-- of the first m labels after the own one the first with the fewest steps
pub record IsFirstOf (n own : ℕ) (counts : List ℕ) (m t : ℕ) : Type 0 where
  pub off_own : 0 < t
  pub among : t ≤ m
  pub steps : ℕ
  pub from : Steps n counts (label_from n own t) 0 steps
  pub before : (i : ℕ) → 0 < i → i < t → (others : ℕ) × Steps n counts (label_from n own i) 0 others × (steps < others)
  pub any : (i : ℕ) → 0 < i → i ≤ m → (others : ℕ) × Steps n counts (label_from n own i) 0 others × (steps ≤ others)

module _ (n own : ℕ) (counts : List ℕ) (own_in : own < n) (are : AreSteps n own counts) where
  steps_at : (t : ℕ) → 0 < t → t < n → (k : ℕ) × Steps n counts (label_from n own t) 0 k
  steps_at t some inside =
      some_steps n own counts are (label_from n own t) (from_is_label n own t own_in) n 0 (omega arith) (λ _ e. from_differs n own 0 t own_in some inside (sym e))

  first_of : (m : ℕ) → suc m < n → (t : ℕ) × IsFirstOf n own counts (suc m) t
  first_of zero inside =
      let one = steps_at 1 (omega arith) inside in (
        1,
        record {
          off_own = omega arith;
          among = omega arith;
          steps = one.0;
          from = one.1;
          before = λ i some lt. absurd (omega (arith, some, lt));
          any = λ i some le.
              let e : 1 ≡ i = omega (arith, some, le) in
              (one.0, subst (λ (j : ℕ). Steps n counts (label_from n own j) 0 one.0) e one.1, omega arith);
        },
      )
  first_of (suc m) inside =
      let best = first_of m (omega (arith, inside)) in
      let last = suc (suc m) in
      let new = steps_at last (omega arith) inside in
      elim (cases_lt new.0 best.1.steps) [
        | inl fewer ↦ (
          last,
          record {
            off_own = omega arith;
            among = omega arith;
            steps = new.0;
            from = new.1;
            before = λ i some lt. let w = best.1.any i some (omega (arith, lt)) in (w.0, w.1, omega (arith, fewer, w.2));
            any = λ i some le.
                elim (cases_eq last i) [
                  | inl e ↦ (new.0, subst (λ (j : ℕ). Steps n counts (label_from n own j) 0 new.0) e new.1, omega arith)
                  | inr other ↦ let w = best.1.any i some (omega (arith, le, other)) in (w.0, w.1, omega (arith, fewer, w.2))
                ];
          },
        )
        | inr more ↦ (
          best.0,
          record {
            off_own = best.1.off_own;
            among = let among = best.1.among in omega (arith, among);
            steps = best.1.steps;
            from = best.1.from;
            before = best.1.before;
            any = λ i some le.
                elim (cases_eq last i) [
                  | inl e ↦ (new.0, subst (λ (j : ℕ). Steps n counts (label_from n own j) 0 new.0) e new.1, more)
                  | inr other ↦ best.1.any i some (omega (arith, le, other))
                ];
          },
        )
      ]

  first_near : 1 < n → (t : ℕ) × IsFirstNear n own counts t
  first_near two =
      let all : suc (n - 2) ≡ n - 1 = omega (arith, two) in
      let best = first_of (n - 2) (omega (arith, two)) in
      let among = best.1.among in (
        best.0,
        record {
          off_own = best.1.off_own;
          in_round = omega (arith, among, two);
          steps = best.1.steps;
          from = best.1.from;
          before = best.1.before;
          near = λ i some inside _. best.1.any i some (omega (arith, inside, two));
        },
      )

-- ---- the ports of the steps from a label on
module _ (n own : ℕ) (counts ports : List ℕ) (s : ℕ) (label : s < n) where
  -- the port of the step that goes over the place j
  abbrev IsStepPort : ℕ → ℕ → ℕ → ℕ → Type 0
  IsStepPort zero i j p = ⊥
  IsStepPort (suc k) i j p = ((j < next_place n counts s i) × (p ≡ slice_index ports (label_from n s i))) ⊎ ((next_place n counts s i ≤ j) × IsStepPort k (next_place n counts s i) j p)

  step_port : (k i : ℕ) → Steps n counts s i k → (j : ℕ) → i ≤ j → j < n → (p : ℕ) × IsStepPort k i j p
  step_port zero i go j le inside = absurd (omega (arith, go, le, inside))
  step_port (suc k) i go j le inside =
      elim (cases_lt j (next_place n counts s i)) [
        | inl here ↦ (slice_index ports (label_from n s i), inl (here, refl))
        | inr later ↦ let w = step_port k (next_place n counts s i) go.1 j later inside in (w.0, inr (later, w.1))
      ]

  -- each label but the own has the port of its step
  abbrev HasPorts : List (Option ℕ) → ℕ → ℕ → Type 0
  HasPorts held k i = (j : ℕ) → i ≤ j → j < n → label_from n s j ≢ own → (p : ℕ) × IsStepPort k i j p × (port_to held (label_from n s j) ≡ Some p)

  have_ports : (held : List (Option ℕ)) (k i : ℕ) → HasPorts held k i → HaveStepPorts n own counts ports s i k held
  have_ports held zero i has = tt
  have_ports held (suc k) i has = (
    λ j le here inside other.
        let w = has j le inside other in
        elim w.1 [
          | inl now ↦ w.2 ∙ ap (λ (p : ℕ). let o : Option ℕ = Some p in o) now.1
          | inr later ↦ absurd (omega (arith, here, later.0))
        ],
    have_ports held k (next_place n counts s i) (λ j le inside other.
        let w = has j (omega (arith, le)) inside other in
        elim w.1 [
          | inl now ↦ absurd (omega (arith, le, now.0))
          | inr later ↦ (w.0, later.1, w.2)
        ]),
  )

  -- what is held for the label d
  abbrev IsHeld : ℕ → ℕ → Option ℕ → Type 0
  IsHeld k d port = (d ≡ own → port ≡ None) × (d ≢ own → (j : ℕ) × (j < n) × (label_from n s j ≡ d) × ((p : ℕ) × IsStepPort k 0 j p × (port ≡ Some p)))

  held_at : (k : ℕ) → Steps n counts s 0 k → (d : ℕ) → d < n → (port : Option ℕ) × IsHeld k d port
  held_at k go d d_in =
      elim (cases_eq d own) [
        | inl e ↦ (None, ((λ _. refl), λ other. absurd (other e)))
        | inr other ↦
            let place = place_from n s d label d_in in
            let port = step_port k 0 go place.0 (omega arith) place.1 in
            (Some port.0, ((λ e. absurd (other e)), λ _. (place.0, place.1, place.2, (port.0, port.1, refl))))
      ]

  one_place : (i j : ℕ) → i < n → j < n → label_from n s i ≡ label_from n s j → i ≡ j
  one_place i j i_in j_in e =
      elim (cases_eq i j) [
        | inl same ↦ same
        | inr other ↦
            elim (cases_lt i j) [
              | inl lt ↦ absurd (from_differs n s i j label lt j_in e)
              | inr ge ↦ absurd (from_differs n s j i label (omega (arith, other, ge)) i_in (sym e))
            ]
      ]

  pub held_some : (k : ℕ) → own < n → Steps n counts s 0 k
      → (held : List (Option ℕ)) × (length held ≡ n) × (port_to held own ≡ None) × HaveStepPorts n own counts ports s 0 k held
  held_some k own_in go =
      let all = chosen_list None (IsHeld k) n (held_at k go) in (
        all.0,
        all.1,
        (all.2 own own_in).0 refl,
        have_ports all.0 k 0 (λ j le inside other.
            let w = (all.2 (label_from n s j) (from_is_label n s j label)).1 other in
            (w.3.0, subst (λ (x : ℕ). IsStepPort k 0 x w.3.0) (one_place w.0 j w.1 inside w.2) w.3.1, w.3.2)),
      )

-- ---- the chosen ports
module _ (n own : ℕ) (may : ℕ → ℕ → Type 0) (valid : AreChoices n own may) (bound : ℕ) (decided : AreDecided n may bound) where
  chosen_of_two : 1 < n → (held : List (Option ℕ)) × AreChosen n own may held
  chosen_of_two two =
      let tables = longest_tables n own may valid bound decided in
      let counts = tables.0 in
      let ports = tables.1 in
      let are = longest_are_steps n own may two valid counts ports tables.3 tables.2 in
      let first = first_near n own counts valid.has_own are two in
      let s = label_from n own first.0 in
      let held = held_some n own counts ports s (from_is_label n own first.0 valid.has_own) first.1.steps valid.has_own first.1.from in
      (held.0, steps_are_chosen n own may two valid counts ports tables.3 tables.2 held.0 first.0 first.1.steps held.1 held.2 first.1 first.1.from held.3)

  pub chosen_some : (held : List (Option ℕ)) × AreChosen n own may held
  chosen_some =
      elim (cases_lt 1 n) [
        | inl two ↦ chosen_of_two two
        | inr one ↦
            let own_in = valid.has_own in
            let all = chosen_list None (λ _ port. port ≡ None) n (λ _ _. (None, refl)) in
            (all.0, record { every = all.1; none = all.2 own own_in; chosen = λ two. absurd (omega (arith, one, two)) })
      ]
