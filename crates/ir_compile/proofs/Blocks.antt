-- Labels that are served one after the other, and their runs.
use Rattle.std.proofs.Common.{◌≡◌, ◌≢◌, ◌⊎◌, ℕ, zero, suc, ◌+◌, ◌-◌, ◌<◌, ◌≤◌, Bool, true, false, List, length, refl, ap, sym, subst, ◌∙◌, inl, inr, arith}
use Rattle.std.specs.Prelude.{Contains, slice_index, slice_index_or}
use Rattle.std.proofs.lemmas.Bool.{cases_eq, cases_lt}
use Rattle.std.proofs.lemmas.Bool.Decides.{nat_tests}
use Rattle.std.proofs.lemmas.Grind.{get_or_default_zero}
use Rattle.ir_model.specs.Compiled.{label_after, label_before}
use Rattle.ir_model.specs.Choices.{label_from}
use Rattle.ir_model.proofs.Best.{Marks, IsRowRun, IsBetter, row_more, row_stop}
use Rattle.ir_model.proofs.Going.{from_before, from_is_label, from_round, place_from}
use Rattle.ir_compile.specs.Runs.{HasMarked, IsKeptAt, IsRunKept, IsSameAt, IsServed, Keeps, KeepsBlock}

pub after_before : (n d : ℕ) → d < n → label_after n (label_before n d) ≡ d
after_before n d h = elim (cases_eq d 0) [ inl e ↦ grind (arith, nat_tests) | inr ne ↦ grind (arith, nat_tests) ]

-- a port serves a label or not
served_or : (own : ℕ) (row : List Bool) (d : ℕ) → IsServed own row d ⊎ (IsServed own row d → ⊥)
served_or own row d = elim (cases_eq d own) [ inl e ↦ inl (λ off. absurd (off e)) | inr ne ↦ by (slice_index_or row d false) refl ne ]
  where
    by : (b : Bool) → slice_index_or row d false ≡ b → d ≢ own → IsServed own row d ⊎ (IsServed own row d → ⊥)
    by true is ne = inl (λ _. is)
    by false is ne = inr (λ served. let f : false ≡ true = sym is ∙ served ne in cc f)

module _ (n own : ℕ) (row : List Bool) (m : ℕ) where
  run_unique : (a r t : ℕ) → IsRowRun n own row a r → IsRowRun n own row a t → r ≤ t
  run_unique a r t x y =
      elim (cases_lt t r) [
        | inl l ↦ absurd (let stop = y.stops (let le = x.within in omega arith) in stop.1 (x.serves t l stop.0))
        | inr le ↦ le
      ]

  -- the longer run, once more
  kept_twice : (a c p c' p' count port : ℕ) → IsRunKept n own row m a c p c' p' → IsRunKept n own row m a c' p' count port → IsRunKept n own row m a c p count port
  kept_twice a c p c' p' count port x y =
      let le = run_unique a y.run x.run y.longest x.longest in
      elim y.better [
        | inl w ↦ absurd (elim x.better [ inl v ↦ omega (arith, le, w.0, v.1) | inr v ↦ omega (arith, le, w.0, v.0, v.1) ])
        | inr w ↦ record { run = x.run; longest = x.longest; better = rw (w.1, w.2) x.better }
      ]

  module _ (a_counts a_ports b_counts b_ports c_counts c_ports : List ℕ) where
    -- what was kept stays
    pub kept_then : (d : ℕ) → IsKeptAt n own row m a_counts a_ports b_counts b_ports d
        → IsSameAt b_counts b_ports c_counts c_ports d ⊎ IsKeptAt n own row m b_counts b_ports c_counts c_ports d → IsKeptAt n own row m a_counts a_ports c_counts c_ports d
    kept_then d x y =
        elim y [
          | inl same ↦ rw (same.0, same.1) x
          | inr kept ↦ kept_twice d (slice_index a_counts d) (slice_index a_ports d) (slice_index b_counts d) (slice_index b_ports d) (slice_index c_counts d) (slice_index c_ports d) x kept
        ]

    pub then_kept : (d : ℕ) → IsSameAt a_counts a_ports b_counts b_ports d ⊎ IsKeptAt n own row m a_counts a_ports b_counts b_ports d
        → IsKeptAt n own row m b_counts b_ports c_counts c_ports d → IsKeptAt n own row m a_counts a_ports c_counts c_ports d
    then_kept d x y =
        elim x [
          | inl same ↦ rw (sym same.0, sym same.1) y
          | inr kept ↦ kept_then d kept (inr y)
        ]

    pub keeps_then : Keeps n own row m a_counts a_ports b_counts b_ports → Keeps n own row m b_counts b_ports c_counts c_ports → Keeps n own row m a_counts a_ports c_counts c_ports
    keeps_then x y d l =
        elim (x d l) [
          | inl same ↦
              elim (y d l) [
                | inl also ↦ inl (also.0 ∙ same.0, also.1 ∙ same.1)
                | inr kept ↦ inr (then_kept d (inl same) kept)
              ]
          | inr kept ↦ inr (kept_then d kept (y d l))
        ]

    pub block_then : (e : ℕ) → KeepsBlock n own row m a_counts a_ports b_counts b_ports e → Keeps n own row m b_counts b_ports c_counts c_ports → KeepsBlock n own row m a_counts a_ports c_counts c_ports e
    block_then e x y z i j hz bare le lt at stop all = kept_then (label_from n z i) (x z i j hz bare le lt at stop all) (y (label_from n z i) (from_is_label n z i hz))

    pub then_block : (e : ℕ) → Keeps n own row m a_counts a_ports b_counts b_ports → KeepsBlock n own row m b_counts b_ports c_counts c_ports e → KeepsBlock n own row m a_counts a_ports c_counts c_ports e
    then_block e x y z i j hz bare le lt at stop all = then_kept (label_from n z i) (x (label_from n z i) (from_is_label n z i hz)) (y z i j hz bare le lt at stop all)

  pub same_keeps : (counts ports : List ℕ) → Keeps n own row m counts ports counts ports
  same_keeps counts ports d l = inl (refl, refl)

  -- ---- back from a label

  -- so many labels back from the label e, at a
  pub record IsWalkBack (e run a : ℕ) (old_counts old_ports counts ports : List ℕ) : Type 0 where
    pub label : a < n
    pub longest : IsRowRun n own row (label_after n a) run
    pub each : Keeps n own row m old_counts old_ports counts ports
    pub far : (z j : ℕ) → z < n → (IsServed own row z → ⊥) → j < n → label_from n z j ≡ e → (run ≤ j) × (a ≡ label_from n z (j - run))
    pub done : (z i j : ℕ) → z < n → (IsServed own row z → ⊥) → j < n → label_from n z j ≡ e → j < i + run → i ≤ j → IsKeptAt n own row m old_counts old_ports counts ports (label_from n z i)

  pub back_start : (e : ℕ) (counts ports : List ℕ) → e < n → (IsServed own row (label_after n e) → ⊥) → IsWalkBack e 0 e counts ports counts ports
  back_start e counts ports l stop = record {
    label = l;
    longest = row_stop n own row (label_after n e) stop;
    each = same_keeps counts ports;
    far = λ z j hz bare lt at. (omega arith, let e' : j ≡ j - 0 = omega arith in sym at ∙ ap (label_from n z) e');
    done = λ z i j hz bare lt at more le. absurd (omega (arith, more, le));
  }

  -- the runs of the label a, which is served
  pub back_next : (e run a : ℕ) (old_counts old_ports counts ports counts' ports' : List ℕ) → run < n → IsServed own row a → IsWalkBack e run a old_counts old_ports counts ports
      → ((d : ℕ) → d < n → d ≢ a → IsSameAt counts ports counts' ports' d) → IsBetter (run + 1) m (slice_index counts a) (slice_index ports a) (slice_index counts' a) (slice_index ports' a)
      → IsWalkBack e (run + 1) (label_before n a) old_counts old_ports counts' ports'
  back_next e run a old_counts old_ports counts ports counts' ports' lt served so_far others better =
      let here : IsKeptAt n own row m counts ports counts' ports' a = record { run = run + 1; longest = row_more n own row a run lt so_far.longest served; better = better } in
      let step : Keeps n own row m counts ports counts' ports' = λ d l.
      elim (cases_eq d a) [
        | inl is ↦ inr (subst (IsKeptAt n own row m counts ports counts' ports') (sym is) here)
        | inr ne ↦ inl (others d l ne)
      ] in
      let more : (z j : ℕ) → z < n → (IsServed own row z → ⊥) → j < n → label_from n z j ≡ e → run + 1 ≤ j = λ z j hz bare l at.
      let f = so_far.far z j hz bare l at in
      elim (cases_lt run j) [
        | inl below ↦ omega (arith, below)
        | inr past ↦
            let none : j - run ≡ 0 = omega (arith, past) in
            absurd (bare (subst (IsServed own row) (f.1 ∙ ap (label_from n z) none) served))
      ] in
      record {
        label = before_label;
        longest = subst (λ (x : ℕ). IsRowRun n own row x (run + 1)) (sym (after_before n a so_far.label)) (row_more n own row a run lt so_far.longest served);
        each = keeps_then old_counts old_ports counts ports counts' ports' so_far.each step;
        far = λ z j hz bare l at.
            let f = so_far.far z j hz bare l at in
            let le = more z j hz bare l at in
            let e' : j - run ≡ suc (j - (run + 1)) = omega (arith, le) in
            (le, ap (label_before n) (f.1 ∙ ap (label_from n z) e') ∙ from_before n z (j - (run + 1)) hz);
        done = λ z i j hz bare l at past le.
            elim (cases_lt j (i + run)) [
              | inl before ↦ kept_then old_counts old_ports counts ports counts' ports' (label_from n z i) (so_far.done z i j hz bare l at before le) (step (label_from n z i) (from_is_label n z i hz))
              | inr last ↦
                  let f = so_far.far z j hz bare l at in
                  let i_is : j - run ≡ i = omega (arith, f.0, past, last) in
                  let a_is : a ≡ label_from n z i = f.1 ∙ ap (label_from n z) i_is in
                  subst (IsKeptAt n own row m old_counts old_ports counts' ports') a_is (then_kept old_counts old_ports counts ports counts' ports' a (so_far.each a so_far.label) here)
            ];
      }
    where
      before_label : label_before n a < n
      before_label = elim (cases_eq a 0) [ inl e ↦ grind (arith, nat_tests, so_far.label) | inr ne ↦ grind (arith, nat_tests, so_far.label) ]

  -- where a isn't served, all labels from which e is reached have been
  pub back_done : (e run a : ℕ) (old_counts old_ports counts ports : List ℕ) → (IsServed own row a → ⊥) → IsWalkBack e run a old_counts old_ports counts ports → KeepsBlock n own row m old_counts old_ports counts ports e
  back_done e run a old_counts old_ports counts ports bare_a so_far z i j hz bare le lt at stop all =
      let f = so_far.far z j hz bare lt at in
      elim (cases_lt j (i + run)) [
        | inl past ↦ so_far.done z i j hz bare lt at past le
        | inr short ↦ absurd (bare_a (subst (IsServed own row) (sym f.1) (all (j - run) (omega (arith, short)) (omega (arith, f.0)))))
      ]

  -- nobody goes a whole round
  pub back_round : (e run a : ℕ) (old_counts old_ports counts ports : List ℕ) → n ≤ run → IsWalkBack e run a old_counts old_ports counts ports → KeepsBlock n own row m old_counts old_ports counts ports e
  back_round e run a old_counts old_ports counts ports round so_far z i j hz bare le lt at stop all =
      let f = so_far.far z j hz bare lt at in
      absurd (omega (arith, f.0, lt, round))

  pub not_last : (e : ℕ) (counts ports : List ℕ) → IsServed own row (label_after n e) → KeepsBlock n own row m counts ports counts ports e
  not_last e counts ports served z i j hz bare le lt at stop all = absurd (stop served)

  -- ---- a port that serves all labels

  pub all_served : (run : ℕ) → n ≤ run → IsRowRun n own row 0 run → (d : ℕ) → d < n → IsServed own row d
  all_served run round front d hd off =
      let place = place_from n 0 d (omega (arith, hd)) hd in
      subst (Marks row) place.2 (front.serves place.0 (omega (arith, place.1, round)) (λ e. off (sym place.2 ∙ e)))

  pub round_kept : ((d : ℕ) → d < n → IsServed own row d) → (a c p count port : ℕ) → a < n → IsBetter n m c p count port → IsRunKept n own row m a c p count port
  round_kept all a c p count port ha better = record {
    run = n;
    longest = record {
      within = omega arith;
      serves = λ i l off. all (label_from n a i) (from_is_label n a i ha) off;
      stops = λ l. absurd (omega (arith, l));
    };
    better = better;
  }

  -- ---- all blocks

  -- the last label of those that are served one after the other
  last_of : (z : ℕ) → z < n → (IsServed own row z → ⊥) → (left i : ℕ) → i + left + 1 ≡ n → IsServed own row (label_from n z i)
      → (j : ℕ) × (i ≤ j) × (j < n) × (IsServed own row (label_after n (label_from n z j)) → ⊥) × ((k : ℕ) → i ≤ k → k ≤ j → IsServed own row (label_from n z k))
  last_of z hz bare zero i is served =
      let e : suc i ≡ n = omega (arith, is) in
      (i, omega arith, omega (arith, is), (λ s. bare (subst (IsServed own row) (ap (label_from n z) e ∙ from_round n z hz) s)), λ k l u. let same : k ≡ i = omega (arith, l, u) in subst (λ (x : ℕ). IsServed own row (label_from n z x)) (sym same) served)
  last_of z hz bare (suc left) i is served =
      elim (served_or own row (label_from n z (suc i))) [
        | inl next ↦
            let w = last_of z hz bare left (suc i) (omega (arith, is)) next in (
              w.0,
              omega (arith, w.1),
              w.2,
              w.3,
              λ k l u.
                  elim (cases_eq k i) [
                    | inl same ↦ subst (λ (x : ℕ). IsServed own row (label_from n z x)) (sym same) served
                    | inr ne ↦ w.4 k (omega (arith, l, ne)) u
                  ],
            )
        | inr stop ↦ (i, omega arith, omega (arith, is), stop, λ k l u. let same : k ≡ i = omega (arith, l, u) in subst (λ (x : ℕ). IsServed own row (label_from n z x)) (sym same) served)
      ]

  -- from the own label, and the first i labels of the list
  abbrev pub IsTried : List ℕ → ℕ → ℕ → Type 0
  IsTried marked i e = (e ≡ own) ⊎ ((k : ℕ) × (k < i) × (slice_index_or marked k 0 ≡ e))

  -- with all labels that have marks, each label has the longer run
  pub all_kept : (marked : List ℕ) (i : ℕ) (old_counts old_ports counts ports : List ℕ) → HasMarked n row marked → length marked ≤ i → (z : ℕ) → z < n → (IsServed own row z → ⊥)
      → Keeps n own row m old_counts old_ports counts ports → ((e : ℕ) → IsTried marked i e → KeepsBlock n own row m old_counts old_ports counts ports e)
      → (d : ℕ) → d < n → IsKeptAt n own row m old_counts old_ports counts ports d
  all_kept marked i old_counts old_ports counts ports has past z hz bare each blocks d hd =
      elim (served_or own row d) [
        | inr out ↦
            elim (each d hd) [
              | inl same ↦ record { run = 0; longest = row_stop n own row d out; better = inr (omega arith, same.0, same.1) }
              | inr kept ↦ kept
            ]
        | inl served ↦
            let place = place_from n z d hz hd in
            let at : label_from n z place.0 ≡ d = place.2 in
            let w = last_of z hz bare (n - (place.0 + 1)) place.0 (omega (arith, place.1)) (subst (IsServed own row) (sym at) served) in
            let e : ℕ = label_from n z w.0 in
            let e_in : e < n = from_is_label n z w.0 hz in
            let e_served : IsServed own row e = w.4 w.0 w.1 (omega arith) in
            let tried : IsTried marked i e =
            elim (cases_eq e own) [
              | inl own_e ↦ inl own_e
              | inr off ↦ tried_mark e (has.every e e_in (e_served off))
            ] in
            subst (IsKeptAt n own row m old_counts old_ports counts ports) at (blocks e tried z place.0 w.0 hz bare w.1 w.2 refl w.3 w.4)
      ]
    where
      tried_mark : (e : ℕ) → Contains marked e → IsTried marked i e
      tried_mark e c = inr (c.0, omega (arith, c.1, past), sym (get_or_default_zero marked c.0 e c.1) ∙ c.2)

  -- the next label of the list
  pub tried_next : (marked : List ℕ) (i e : ℕ) → IsTried marked (i + 1) e → IsTried marked i e ⊎ (e ≡ slice_index_or marked i 0)
  tried_next marked i e tried =
      elim tried [
        | inl own_e ↦ inl (inl own_e)
        | inr w ↦
            elim (cases_lt w.0 i) [
              | inl below ↦ inl (inr (w.0, below, w.2))
              | inr last ↦ let k_is : w.0 ≡ i = omega (arith, last, w.1) in inr (sym w.2 ∙ ap (λ (k : ℕ). slice_index_or marked k 0) k_is)
            ]
      ]
