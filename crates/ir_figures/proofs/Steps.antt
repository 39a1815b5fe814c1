-- Each step of a search keeps what holds on the way.
use Rattle.std.proofs.Common.{◌≡◌, ◌≢◌, ◌⊎◌, ℕ, ◌+◌, ◌-◌, ◌<◌, ◌≤◌, Bool, List, [], ◌∷◌, ◌++◌, length, slice_index, set, take, refl, ap, sym, ◌∙◌, subst, inl, inr, arith, length-set, length-append, length-take-le, get_or-set_same, get_or-set_other, get_or-take}
use Rattle.std.proofs.lemmas.Bool.{cases_eq}
use Rattle.std.proofs.lemmas.List.{get_or_push, get_or_append_left}
use Rattle.std.proofs.lemmas.List.Sums.{sum_by-set}
use Rattle.ir_figures.specs.Arcs.{width_of, IsArcMarked, IsArc, IsDigraph}
use Rattle.ir_figures.specs.Search.{IsOpen, AreDue, IsOpenPath, LeadToDone, AreRisingNumbers, IsSearch}

-- a place of a list in which the place c was set: that place, or another one
at_set : (xs : List ℕ) (c v x : ℕ) → c < length xs → ((x ≡ c) × (slice_index (set xs c v) x ≡ v)) ⊎ ((x ≢ c) × (slice_index (set xs c v) x ≡ slice_index xs x))
at_set xs c v x lt =
    elim (cases_eq x c) [
      | inl e ↦ inl (e, ap (slice_index (set xs c v)) e ∙ get_or-set_same xs c v 0 lt)
      | inr ne ↦ inr (ne, get_or-set_other xs c x v 0 ne)
    ]

-- one step less is due of c
due_less : (marks : List (List Bool)) (due : List ℕ) (total c v : ℕ) → AreDue marks due total → c < length marks → v + 1 ≡ slice_index due c → AreDue marks (set due c v) (total - 1)
due_less marks due total c v a lt e = record {
  every = length-set due c v ∙ a.every;
  sum_is = omega (arith, sum_by-set (λ (x : ℕ). x) due c v 0 (omega (arith, a.every)), a.sum_is, e);
  most = λ x hx. elim (at_set due c v x (omega (arith, a.every))) [
    | inl h ↦ omega (arith, h.1, ap (slice_index due) h.0, a.most x hx, e)
    | inr h ↦ omega (arith, h.1, a.most x hx)
  ];
}

-- a node of which as many steps are due is open as before
open_same : (marks : List (List Bool)) (due other : List ℕ) (x : ℕ) → slice_index other x ≡ slice_index due x → IsOpen marks due x → IsOpen marks other x
open_same marks due other x e o = record {
  node = o.node;
  begun = omega (arith, e, o.begun);
  not_done = omega (arith, e, o.not_done);
}

-- The last node of the path is left.
module _ (first : List ℕ) (marks : List (List Bool)) (due numbers path shorter : List ℕ) (total c : ℕ) (digraph : IsDigraph first marks) (s : IsSearch first marks due numbers path total)
    (some : 0 < length path) (last : slice_index path (length path - 1) ≡ c) (one : slice_index due c ≡ 1) (rest : shorter ≡ take (length path - 1) path) where
  node : c < length marks
  node = subst (λ (x : ℕ). x < length marks) last (s.path_is.opened (length path - 1) (omega arith)).node

  inside : c < length due
  inside = omega (arith, node, s.due_are.every)

  numbered : c < length numbers
  numbered = omega (arith, node, s.numbered.every)

  short : length shorter ≡ length path - 1
  short = ap length rest ∙ length-take-le (length path - 1) path (omega arith)

  kept : (i : ℕ) → i < length path - 1 → slice_index shorter i ≡ slice_index path i
  kept i lt = ap (λ (xs : List ℕ). slice_index xs i) rest ∙ get_or-take (length path - 1) path i 0 lt

  other : (i : ℕ) → i < length path - 1 → slice_index path i ≢ c
  other i lt e = s.path_is.once i (length path - 1) lt (omega arith) (e ∙ sym last)

  held : (x : ℕ) → IsOpen marks (set due c 0) x → (i : ℕ) × (i < length shorter) × (slice_index shorter i ≡ x)
  held x o = elim (at_set due c 0 x inside) [
    | inl h ↦ absurd (omega (arith, h.1, o.not_done))
    | inr h ↦
        let at = s.path_is.held x (open_same marks (set due c 0) due x (sym h.1) o) in
        elim (cases_eq at.0 (length path - 1)) [
          | inl e ↦ absurd (h.0 (sym at.2 ∙ ap (slice_index path) e ∙ last))
          | inr ne ↦
              let lt : at.0 < length path - 1 = omega (arith, at.1, ne) in
              (at.0, omega (arith, short, lt), kept at.0 lt ∙ at.2)
        ]
  ]

  opened : (i : ℕ) → i < length shorter → IsOpen marks (set due c 0) (slice_index shorter i)
  opened i lt =
      let below : i < length path - 1 = omega (arith, short, lt) in
      let same = get_or-set_other due c (slice_index path i) 0 0 (other i below) in
      subst (IsOpen marks (set due c 0)) (sym (kept i below)) (open_same marks due (set due c 0) (slice_index path i) same (s.path_is.opened i (omega arith)))

  path_left : IsOpenPath first marks (set due c 0) shorter
  path_left = record {
    opened = opened;
    once = λ i j less lt e. s.path_is.once i j less (omega (arith, short, lt)) (sym (kept i (omega (arith, short, lt, less))) ∙ e ∙ kept j (omega (arith, short, lt)));
    held = held;
    arcs = λ i lt.
        let here : i < length path - 1 = omega (arith, short, lt) in
        let next : i + 1 < length path - 1 = omega (arith, short, lt) in
        subst (λ (x : ℕ). IsArc first marks x (slice_index shorter (i + 1))) (sym (kept i here)) (subst (λ (x : ℕ). IsArc first marks (slice_index path i) x) (sym (kept (i + 1) next)) (s.path_is.arcs i (omega arith)));
  }

  passed : LeadToDone first marks (set due c 0)
  passed x q hx hq less marked =
      let before : slice_index due (slice_index first x + q) ≡ 0 =
      elim (at_set due c 0 x inside) [
        | inl h ↦ s.passed x q hx hq (omega (arith, ap (slice_index due) h.0, one, hq)) marked
        | inr h ↦ s.passed x q hx hq (omega (arith, h.1, less)) marked
      ] in
      elim (at_set due c 0 (slice_index first x + q) inside) [
        | inl h ↦ h.1
        | inr h ↦ h.1 ∙ before
      ]

  -- the nodes that arcs lead to from a node that is done, or is left now, were done before
  done_before : (x d : ℕ) → x < length marks → slice_index (set due c 0) x ≡ 0 → IsArc first marks x d → slice_index due d ≡ 0
  done_before x d hx zero arc =
      subst (λ (y : ℕ). slice_index due y ≡ 0) arc.leads
      (elim (at_set due c 0 x inside) [
        | inl h ↦ s.passed x arc.place hx arc.within (omega (arith, ap (slice_index due) h.0, one, arc.within)) arc.marked
        | inr h ↦ s.passed x arc.place hx arc.within (omega (arith, h.1, zero, arc.within)) arc.marked
      ])

  some_due : 0 < total
  some_due = omega (arith, sum_by-set (λ (x : ℕ). x) due c 0 0 inside, s.due_are.sum_is, one)

  numbers_left : AreRisingNumbers first marks (set due c 0) (set numbers c (total - 1)) (total - 1)
  numbers_left = record {
    every = length-set numbers c (total - 1) ∙ s.numbered.every;
    rises = λ x d hx zero arc.
        let done : slice_index due d ≡ 0 = done_before x d hx zero arc in
        let in_net : d < length marks = omega (arith, arc.leads, arc.within, digraph.within x hx) in
        let apart : d ≢ c = λ e. (let same : slice_index due d ≡ slice_index due c = ap (slice_index due) e in omega (arith, same, one, done)) in
        let stays : slice_index (set numbers c (total - 1)) d ≡ slice_index numbers d = get_or-set_other numbers c d (total - 1) 0 apart in
        elim (at_set numbers c (total - 1) x numbered) [
          | inl h ↦ omega (arith, h.1, stays, s.numbered.late d in_net done, some_due)
          | inr h ↦
              let was : slice_index (set due c 0) x ≡ slice_index due x = get_or-set_other due c x 0 0 h.0 in
              omega (arith, h.1, stays, s.numbered.rises x d hx (sym was ∙ zero) arc)
        ];
    late = λ x hx zero. elim (at_set numbers c (total - 1) x numbered) [
      | inl h ↦ omega (arith, h.1)
      | inr h ↦
          let was : slice_index (set due c 0) x ≡ slice_index due x = get_or-set_other due c x 0 0 h.0 in
          omega (arith, h.1, s.numbered.late x hx (sym was ∙ zero))
    ];
  }

  pub left_search : IsSearch first marks (set due c 0) (set numbers c (total - 1)) shorter (total - 1)
  left_search = record {
    due_are = due_less marks due total c 0 s.due_are node (sym one);
    path_is = path_left;
    passed = passed;
    numbered = numbers_left;
  }

-- A place of the block of the last node is passed: it is not marked, or its node is done.
module _ (first : List ℕ) (marks : List (List Bool)) (due numbers path : List ℕ) (total c v : ℕ) (s : IsSearch first marks due numbers path total)
    (some : 0 < length path) (last : slice_index path (length path - 1) ≡ c) (one : v + 1 ≡ slice_index due c) (more : 0 < v)
    (here : (q : ℕ) → q + v ≡ width_of marks c → IsArcMarked marks c q → slice_index due (slice_index first c + q) ≡ 0) where
  last_open : IsOpen marks due c
  last_open = subst (IsOpen marks due) last (s.path_is.opened (length path - 1) (omega arith))

  within : c < length due
  within = omega (arith, last_open.node, s.due_are.every)

  open_after : (x : ℕ) → IsOpen marks due x → IsOpen marks (set due c v) x
  open_after x o = elim (at_set due c v x within) [
    | inl h ↦ record { node = o.node; begun = omega (arith, h.1, ap (slice_index due) h.0, one, o.begun); not_done = omega (arith, h.1, more) }
    | inr h ↦ open_same marks due (set due c v) x h.1 o
  ]

  open_before : (x : ℕ) → IsOpen marks (set due c v) x → IsOpen marks due x
  open_before x o = elim (at_set due c v x within) [
    | inl h ↦ subst (IsOpen marks due) (sym h.0) last_open
    | inr h ↦ open_same marks (set due c v) due x (sym h.1) o
  ]

  zero_after : (x : ℕ) → slice_index due x ≡ 0 → slice_index (set due c v) x ≡ 0
  zero_after x zero = elim (at_set due c v x within) [
    | inl h ↦ absurd (omega (arith, ap (slice_index due) h.0, one, zero))
    | inr h ↦ h.1 ∙ zero
  ]

  zero_before : (x : ℕ) → slice_index (set due c v) x ≡ 0 → slice_index due x ≡ 0
  zero_before x zero = elim (at_set due c v x within) [
    | inl h ↦ absurd (omega (arith, h.1, more, zero))
    | inr h ↦ sym h.1 ∙ zero
  ]

  passed_before : (x q : ℕ) → x < length marks → q < width_of marks x → q + slice_index (set due c v) x ≤ width_of marks x → IsArcMarked marks x q
      → slice_index due (slice_index first x + q) ≡ 0
  passed_before x q hx hq less marked = elim (at_set due c v x within) [
    | inl h ↦ (elim (cases_eq (q + v) (width_of marks c)) [
      | inl e ↦
          subst (λ (y : ℕ). slice_index due (slice_index first y + q) ≡ 0) (sym h.0) (here q e (subst (λ (y : ℕ). IsArcMarked marks y q) h.0 marked))
      | inr ne ↦ s.passed x q hx hq (omega (arith, h.1, ap (slice_index due) h.0, ap (width_of marks) h.0, one, less, ne)) marked
    ])
    | inr h ↦ s.passed x q hx hq (omega (arith, h.1, less)) marked
  ]

  pub passed_search : IsSearch first marks (set due c v) numbers path (total - 1)
  passed_search = record {
    due_are = due_less marks due total c v s.due_are last_open.node one;
    path_is = record {
      opened = λ i lt. open_after (slice_index path i) (s.path_is.opened i lt);
      once = s.path_is.once;
      held = λ x o. s.path_is.held x (open_before x o);
      arcs = s.path_is.arcs;
    };
    passed = λ x q hx hq less marked. zero_after (slice_index first x + q) (passed_before x q hx hq less marked);
    numbered = record {
      every = s.numbered.every;
      rises = λ x d hx zero arc. s.numbered.rises x d hx (zero_before x zero) arc;
      late = λ x hx zero. omega (arith, s.numbered.late x hx (zero_before x zero));
    };
  }

-- A fresh node is entered, from the last node of the path or with no path.
module _ (first : List ℕ) (marks : List (List Bool)) (due numbers path : List ℕ) (total d : ℕ) (s : IsSearch first marks due numbers path total)
    (node : d < length marks) (fresh : slice_index due d ≡ width_of marks d + 2) (from : (i : ℕ) → i + 1 ≡ length path → IsArc first marks (slice_index path i) d) where
  there : d < length due
  there = omega (arith, node, s.due_are.every)

  zero_kept : (x : ℕ) → slice_index due x ≡ 0 → slice_index (set due d (width_of marks d + 1)) x ≡ 0
  zero_kept x zero = elim (at_set due d (width_of marks d + 1) x there) [
    | inl h ↦ absurd (omega (arith, ap (slice_index due) h.0, fresh, zero))
    | inr h ↦ h.1 ∙ zero
  ]

  zero_was : (x : ℕ) → slice_index (set due d (width_of marks d + 1)) x ≡ 0 → slice_index due x ≡ 0
  zero_was x zero = elim (at_set due d (width_of marks d + 1) x there) [
    | inl h ↦ absurd (omega (arith, h.1, zero))
    | inr h ↦ sym h.1 ∙ zero
  ]

  apart : (x : ℕ) → IsOpen marks due x → x ≢ d
  apart x o e = omega (arith, ap (slice_index due) e, ap (width_of marks) e, fresh, o.begun)

  open_kept : (x : ℕ) → IsOpen marks due x → IsOpen marks (set due d (width_of marks d + 1)) x
  open_kept x o = open_same marks due (set due d (width_of marks d + 1)) x (get_or-set_other due d x (width_of marks d + 1) 0 (apart x o)) o

  opens : IsOpen marks (set due d (width_of marks d + 1)) d
  opens =
      let same : slice_index (set due d (width_of marks d + 1)) d ≡ width_of marks d + 1 = get_or-set_same due d (width_of marks d + 1) 0 there in
      record { node = node; begun = omega (arith, same); not_done = omega (arith, same) }

  longer : length (path ++ d ∷ []) ≡ length path + 1
  longer = length-append path (d ∷ [])

  old : (i : ℕ) → i < length path → slice_index (path ++ d ∷ []) i ≡ slice_index path i
  old i lt = get_or_append_left path (d ∷ []) 0 i lt

  new : (i : ℕ) → i ≡ length path → slice_index (path ++ d ∷ []) i ≡ d
  new i e = get_or_push path d 0 i (sym e)

  opened_with : (i : ℕ) → i < length (path ++ d ∷ []) → IsOpen marks (set due d (width_of marks d + 1)) (slice_index (path ++ d ∷ []) i)
  opened_with i lt = elim (cases_eq i (length path)) [
    | inl e ↦ subst (IsOpen marks (set due d (width_of marks d + 1))) (sym (new i e)) opens
    | inr ne ↦
        let below : i < length path = omega (arith, longer, lt, ne) in
        subst (IsOpen marks (set due d (width_of marks d + 1))) (sym (old i below)) (open_kept (slice_index path i) (s.path_is.opened i below))
  ]

  once_with : (i j : ℕ) → i < j → j < length (path ++ d ∷ []) → slice_index (path ++ d ∷ []) i ≢ slice_index (path ++ d ∷ []) j
  once_with i j less lt e =
      let below : i < length path = omega (arith, longer, lt, less) in
      elim (cases_eq j (length path)) [
        | inl last ↦ apart (slice_index path i) (s.path_is.opened i below) (sym (old i below) ∙ e ∙ new j last)
        | inr ne ↦
            let under : j < length path = omega (arith, longer, lt, ne) in
            s.path_is.once i j less under (sym (old i below) ∙ e ∙ old j under)
      ]

  held_with : (x : ℕ) → IsOpen marks (set due d (width_of marks d + 1)) x → (i : ℕ) × (i < length (path ++ d ∷ [])) × (slice_index (path ++ d ∷ []) i ≡ x)
  held_with x o = elim (at_set due d (width_of marks d + 1) x there) [
    | inl h ↦ (length path, omega (arith, longer), new (length path) refl ∙ sym h.0)
    | inr h ↦
        let at = s.path_is.held x (open_same marks (set due d (width_of marks d + 1)) due x (sym h.1) o) in
        (at.0, omega (arith, longer, at.1), old at.0 at.1 ∙ at.2)
  ]

  arcs_with : (i : ℕ) → i + 1 < length (path ++ d ∷ []) → IsArc first marks (slice_index (path ++ d ∷ []) i) (slice_index (path ++ d ∷ []) (i + 1))
  arcs_with i lt =
      let below : i < length path = omega (arith, longer, lt) in
      elim (cases_eq (i + 1) (length path)) [
        | inl last ↦
            subst (λ (x : ℕ). IsArc first marks x (slice_index (path ++ d ∷ []) (i + 1))) (sym (old i below))
            (subst (λ (x : ℕ). IsArc first marks (slice_index path i) x) (sym (new (i + 1) last)) (from i last))
        | inr ne ↦
            let next : i + 1 < length path = omega (arith, below, ne) in
            subst (λ (x : ℕ). IsArc first marks x (slice_index (path ++ d ∷ []) (i + 1))) (sym (old i below))
            (subst (λ (x : ℕ). IsArc first marks (slice_index path i) x) (sym (old (i + 1) next)) (s.path_is.arcs i next))
      ]

  still_due : (x q : ℕ) → q < width_of marks x → q + slice_index (set due d (width_of marks d + 1)) x ≤ width_of marks x → q + slice_index due x ≤ width_of marks x
  still_due x q hq less = elim (at_set due d (width_of marks d + 1) x there) [
    | inl h ↦ absurd (omega (arith, h.1, ap (width_of marks) h.0, less))
    | inr h ↦ omega (arith, h.1, less)
  ]

  pub entered_search : IsSearch first marks (set due d (width_of marks d + 1)) numbers (path ++ d ∷ []) (total - 1)
  entered_search = record {
    due_are = due_less marks due total d (width_of marks d + 1) s.due_are node (omega (arith, fresh));
    path_is = record { opened = opened_with; once = once_with; held = held_with; arcs = arcs_with };
    passed = λ x q hx hq less marked. zero_kept (slice_index first x + q) (s.passed x q hx hq (still_due x q hq less) marked);
    numbered = record {
      every = s.numbered.every;
      rises = λ x e hx zero arc. s.numbered.rises x e hx (zero_was x zero) arc;
      late = λ x hx zero. omega (arith, s.numbered.late x hx (zero_was x zero));
    };
  }
