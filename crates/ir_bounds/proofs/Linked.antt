-- The most linked nodes, one after the other.
use Rattle.std.proofs.Common.{◌≡◌, ◌↔◌, ℕ, ◌+◌, ◌<◌, ◌≤◌, Bool, true, false, List, [], ◌∷◌, ◌++◌, length, take, set, replicate, Option, Some, None, refl, ap, sym, ◌∙◌, subst, inl, inr, ◌⊎◌, ⊎_elim, arith, get_or-set_same, get_or-set_other, length-set}
use Rattle.std.specs.Prelude.{Contains, IfSome, slice_index, slice_index_or}
use Rattle.std.proofs.lemmas.Bool.{cases_eq, cases_lt, cases_Bool}
use Rattle.std.proofs.lemmas.List.{length_push, get_or_push, get_or_append_left, get_or-replicate, length-replicate, take-append-le, take_all}
use Rattle.std.proofs.lemmas.List.Elements.{Contains-get_or, Contains-append_left, Contains-push, Contains-push_cases}
use Rattle.ir_model.specs.Topology.{Topology, node_count, ports_of}
use Rattle.ir_model.specs.Landmark.{AreLandmarks, IsMostLinked, AreMostLinked}

-- of two nodes the second one is taken before the first
abbrev pub IsBehind : (ℕ → ℕ) → ℕ → ℕ → Type 0
IsBehind degree w x = (degree w < degree x) ⊎ ((degree w ≡ degree x) × (x ≤ w))

-- of the nodes below v without a mark, the best one
pub record IsBestLinked (degree : ℕ → ℕ) (marks : List Bool) (n v : ℕ) (best : Option ℕ) : Type 0 where
  pub none : best ≡ None → (w : ℕ) → w < v → slice_index_or marks w false ≡ true
  pub node : IfSome best (λ x. x < n)
  pub below : IfSome best (λ x. x < v)
  pub free : IfSome best (λ x. slice_index_or marks x false ≡ false)
  pub most : IfSome best (λ x. (w : ℕ) → w < v → slice_index_or marks w false ≡ false → IsBehind degree w x)

module _ (degree : ℕ → ℕ) (marks : List Bool) (n v : ℕ) (within : v < n) where
  pub best_taken : (best : Option ℕ) → IsBestLinked degree marks n v best → slice_index_or marks v false ≡ false → IfSome best (λ x. degree x < degree v) → IsBestLinked degree marks n (v + 1) (Some v)
  best_taken best is free_v more = record {
    none = λ e. absurd (cc e);
    node = within;
    below = omega arith;
    free = free_v;
    most = λ w lt free_w. elim (cases_eq w v) [ inl e ↦ inr (ap degree e, omega (arith, e)) | inr ne ↦ at best is more w (omega (arith, lt, ne)) free_w ];
  }
    where
      at : (best : Option ℕ) → IsBestLinked degree marks n v best → IfSome best (λ x. degree x < degree v) → (w : ℕ) → w < v → slice_index_or marks w false ≡ false → IsBehind degree w v
      at None is more w lt free_w = absurd (let m : slice_index_or marks w false ≡ true = is.none refl w lt in let bad : false ≡ true = sym free_w ∙ m in cc bad)
      at (Some x) is more w lt free_w = ⊎_elim (λ less. inl (omega (arith, less, more))) (λ same. inl (omega (arith, same.0, more))) (is.most w lt free_w)

  pub best_marked : (best : Option ℕ) → IsBestLinked degree marks n v best → slice_index_or marks v false ≡ true → IsBestLinked degree marks n (v + 1) best
  best_marked None is m = record { none = λ e w lt. elim (cases_eq w v) [ inl same ↦ subst (λ (x : ℕ). slice_index_or marks x false ≡ true) (sym same) m | inr ne ↦ is.none refl w (omega (arith, lt, ne)) ]; node = tt; below = tt; free = tt; most = tt }
  best_marked (Some x) is m = record {
    none = λ e. absurd (cc e);
    node = is.node;
    below = omega (arith, is.below);
    free = is.free;
    most = λ w lt free_w.
        elim (cases_eq w v) [
          | inl same ↦ absurd (let bad : false ≡ true = sym free_w ∙ ap (λ (y : ℕ). slice_index_or marks y false) same ∙ m in cc bad)
          | inr ne ↦ is.most w (omega (arith, lt, ne)) free_w
        ];
  }

  pub best_kept : (best : Option ℕ) → IsBestLinked degree marks n v best → (best ≡ None → ⊥) → IfSome best (λ x. degree x < degree v → ⊥) → IsBestLinked degree marks n (v + 1) best
  best_kept None is some not_more = absurd (some refl)
  best_kept (Some x) is some not_more = record {
    none = λ e. absurd (cc e);
    node = is.node;
    below = omega (arith, is.below);
    free = is.free;
    most = λ w lt free_w.
        elim (cases_eq w v) [
          | inl same ↦
              let deg : degree w ≡ degree v = ap degree same in
              elim (cases_lt (degree v) (degree x)) [
                | inl less ↦ inl (omega (arith, deg, less))
                | inr no_less ↦ elim (cases_lt (degree x) (degree v)) [ inl more ↦ absurd (not_more more) | inr no_more ↦ inr (omega (arith, deg, no_less, no_more), omega (arith, is.below, same)) ]
              ]
          | inr ne ↦ is.most w (omega (arith, lt, ne)) free_w
        ];
  }

-- of all nodes
pub best_most : (degree : ℕ → ℕ) (marks : List Bool) (n v : ℕ) (best : Option ℕ) → IsBestLinked degree marks n v best → n ≤ v → IfSome best (λ x. (w : ℕ) → w < n → slice_index_or marks w false ≡ false → IsBehind degree w x)
best_most degree marks n v None is le = tt
best_most degree marks n v (Some x) is le = λ w lt free_w. is.most w (omega (arith, lt, le)) free_w

-- what a test says of the best one
pub some_yes : (best : Option ℕ) (r : Bool) (Q : ℕ → Type 0) → IfSome best (λ x. (r ≡ true) ↔ Q x) → r ≡ true → IfSome best Q
some_yes None r Q tells e = tt
some_yes (Some x) r Q tells e = tells.0 e

pub some_no : (best : Option ℕ) (r : Bool) (Q : ℕ → Type 0) → IfSome best (λ x. (r ≡ true) ↔ Q x) → r ≡ false → IfSome best (λ x. Q x → ⊥)
some_no None r Q tells e = tt
some_no (Some x) r Q tells e = λ q. (let bad : false ≡ true = sym e ∙ tells.1 q in cc bad)

-- the first i landmarks, and the marks that give them
pub record AreLinkedBelow (net : Topology) (root i : ℕ) (landmarks : List ℕ) (marks : List Bool) : Type 0 where
  pub some : 0 < i
  pub every : length landmarks ≡ i
  pub marks_len : length marks ≡ node_count net
  pub root_first : slice_index landmarks 0 ≡ root
  pub nodes : (x : ℕ) → Contains landmarks x → x < node_count net
  pub marked : (x : ℕ) → x < node_count net → (slice_index_or marks x false ≡ true) ↔ Contains landmarks x
  pub next : (k : ℕ) → 0 < k → k < i → IsMostLinked net (take k landmarks) (slice_index landmarks k)

module _ (net : Topology) (root : ℕ) where
  pub linked_first : (landmarks : List ℕ) (bare marks : List Bool) (k : ℕ) → root < node_count net → k ≡ node_count net → bare ≡ replicate k false → landmarks ≡ root ∷ [] → marks ≡ set bare root true → AreLinkedBelow net root 1 landmarks marks
  linked_first landmarks bare marks k in_net every none is set_is =
      let clean : bare ≡ replicate (node_count net) false = none ∙ ap (λ (i : ℕ). replicate i false) every in
      let len : length bare ≡ node_count net = ap (λ (xs : List Bool). length xs) clean ∙ length-replicate (node_count net) false in
      record {
        some = omega arith;
        every = ap (λ (xs : List ℕ). length xs) is;
        marks_len = ap (λ (xs : List Bool). length xs) set_is ∙ length-set bare root true ∙ len;
        root_first = ap (λ (xs : List ℕ). slice_index xs 0) is;
        nodes = λ x has. (let e = only x (subst (λ (xs : List ℕ). Contains xs x) is has) in omega (arith, e, in_net));
        marked = λ x hx. (
          (λ m.
              elim (cases_eq x root) [
                | inl e ↦ subst (λ (xs : List ℕ). Contains xs x) (sym is) (0, omega arith, sym e)
                | inr ne ↦
                    let bare_x : slice_index_or marks x false ≡ false = ap (λ (xs : List Bool). slice_index_or xs x false) set_is ∙ get_or-set_other bare root x true false ne ∙ ap (λ (xs : List Bool). slice_index_or xs x false) clean ∙ get_or-replicate (node_count net) x false false hx in
                    absurd (let bad : false ≡ true = sym bare_x ∙ m in cc bad)
              ]),
          (λ has.
              let e = only x (subst (λ (xs : List ℕ). Contains xs x) is has) in
              ap (λ (y : ℕ). slice_index_or marks y false) (sym e) ∙ ap (λ (xs : List Bool). slice_index_or xs root false) set_is ∙ get_or-set_same bare root true false (omega (arith, len, in_net))),
        );
        next = λ k some lt. absurd (omega (arith, some, lt));
      }
    where
      only : (x : ℕ) → Contains (root ∷ []) x → root ≡ x
      only x has = elim (Contains-push_cases [] root x has) [ inl none ↦ absurd (omega (arith, none.1)) | inr e ↦ e ]

  pub linked_more : (i x : ℕ) (landmarks grown : List ℕ) (marks more : List Bool) → AreLinkedBelow net root i landmarks marks → grown ≡ landmarks ++ (x ∷ []) → more ≡ set marks x true
      → x < node_count net → slice_index_or marks x false ≡ false
      → ((v : ℕ) → v < node_count net → slice_index_or marks v false ≡ false → (length (ports_of net v) < length (ports_of net x)) ⊎ ((length (ports_of net v) ≡ length (ports_of net x)) × (x ≤ v)))
      → AreLinkedBelow net root (i + 1) grown more
  linked_more i x landmarks grown marks more before is set_is hx free most =
      let not_yet : Contains landmarks x → ⊥ = λ has. (let bad : false ≡ true = sym free ∙ (before.marked x hx).1 has in cc bad) in
      let unmarked : (v : ℕ) → v < node_count net → (Contains landmarks v → ⊥) → slice_index_or marks v false ≡ false = λ v hv out.
      elim (cases_Bool (slice_index_or marks v false)) [ inl m ↦ absurd (out ((before.marked v hv).0 m)) | inr f ↦ f ] in
      let beginning : (k : ℕ) → k ≤ i → take k grown ≡ take k landmarks = λ k le. ap (take k) is ∙ take-append-le k landmarks (x ∷ []) (omega (arith, le, before.every)) in
      record {
        some = omega arith;
        every = ap (λ (xs : List ℕ). length xs) is ∙ length_push landmarks x ∙ ap (λ (k : ℕ). k + 1) before.every;
        marks_len = ap (λ (xs : List Bool). length xs) set_is ∙ length-set marks x true ∙ before.marks_len;
        root_first = ap (λ (xs : List ℕ). slice_index xs 0) is ∙ get_or_append_left landmarks (x ∷ []) 0 0 (omega (arith, before.every, before.some)) ∙ before.root_first;
        nodes = λ y has. elim (Contains-push_cases landmarks x y (subst (λ (xs : List ℕ). Contains xs y) is has)) [ inl old ↦ before.nodes y old | inr e ↦ omega (arith, e, hx) ];
        marked = λ y hy. (
          (λ m. subst (λ (xs : List ℕ). Contains xs y) (sym is)
              (elim (cases_eq y x) [
                | inl e ↦ subst (λ (z : ℕ). Contains (landmarks ++ (x ∷ [])) z) (sym e) (Contains-push landmarks x)
                | inr ne ↦ Contains-append_left landmarks (x ∷ []) y ((before.marked y hy).0 (sym (get_or-set_other marks x y true false ne) ∙ ap (λ (xs : List Bool). slice_index_or xs y false) (sym set_is) ∙ m))
              ])),
          (λ has. ap (λ (xs : List Bool). slice_index_or xs y false) set_is
              ∙ elim (cases_eq y x) [
                | inl e ↦ ap (λ (z : ℕ). slice_index_or (set marks x true) z false) e ∙ get_or-set_same marks x true false (omega (arith, hx, before.marks_len))
                | inr ne ↦ get_or-set_other marks x y true false ne ∙ elim (Contains-push_cases landmarks x y (subst (λ (xs : List ℕ). Contains xs y) is has)) [ inl old ↦ (before.marked y hy).1 old | inr e ↦ absurd (ne (sym e)) ]
              ]),
        );
        next = λ k some lt.
            rw (beginning k (omega (arith, lt)))
            (elim (cases_eq k i) [
              | inl e ↦
                  let here : slice_index grown k ≡ x = ap (λ (xs : List ℕ). slice_index xs k) is ∙ get_or_push landmarks x 0 k (before.every ∙ sym e) in
                  let whole : take k landmarks ≡ landmarks = take_all k landmarks (omega (arith, e, before.every)) in
                  rw (here, whole) (record { node = hx; outside = not_yet; most = λ v hv out. most v hv (unmarked v hv out) })
              | inr ne ↦
                  let same : slice_index grown k ≡ slice_index landmarks k = ap (λ (xs : List ℕ). slice_index xs k) is ∙ get_or_append_left landmarks (x ∷ []) 0 k (omega (arith, lt, ne, before.every)) in
                  rw same (before.next k some (omega (arith, lt, ne)))
            ]);
      }

  pub linked_all : (i count : ℕ) (landmarks : List ℕ) (marks : List Bool) → AreLinkedBelow net root i landmarks marks → i ≤ count → (i < count → (v : ℕ) → v < node_count net → slice_index_or marks v false ≡ true)
      → AreMostLinked net root count landmarks
  linked_all i count landmarks marks are le none = record {
    root_first = are.root_first;
    some = omega (arith, are.some, are.every);
    enough = omega (arith, are.every, le);
    fewer = λ lt v hv. (are.marked v hv).0 (none (omega (arith, lt, are.every)) v hv);
    next = λ k some lt. are.next k some (omega (arith, lt, are.every));
  }

  pub linked_are : (i : ℕ) (landmarks : List ℕ) (marks : List Bool) → AreLinkedBelow net root i landmarks marks → AreLandmarks net landmarks
  linked_are i landmarks marks are = record {
    some = omega (arith, are.some, are.every);
    nodes = λ k d lt. are.nodes (slice_index_or landmarks k d) (Contains-get_or landmarks k d lt);
  }
