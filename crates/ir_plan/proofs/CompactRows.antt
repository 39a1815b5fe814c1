-- The tied ports of a node, and the marks that give them.
use Rattle.std.proofs.Common.{◌≡◌, ◌≢◌, ◌↔◌, ℕ, ◌+◌, ◌<◌, ◌≤◌, None, Bool, true, false, List, [], ◌∷◌, length, replicate, set, Option, refl, ap, sym, ◌∙◌, subst, inl, inr, arith, get_or-set_same, get_or-set_other, length-set}
use Rattle.std.specs.Prelude.{Contains, slice_index, slice_index_or}
use Rattle.std.proofs.lemmas.Bool.{cases_eq, cases_lt}
use Rattle.std.proofs.lemmas.List.{get_or_past, get_or-replicate, length-replicate}
use Rattle.std.proofs.lemmas.Grind.{get_or_default_zero}
use Rattle.std.proofs.lemmas.List.Elements.{Contains-get_or}
use Rattle.ir_model.specs.Topology.{Topology, IsTopology, node_count, ports_of}
use Rattle.ir_model.specs.Table.{LeadsNearer}
use Rattle.ir_model.specs.Choices.{AreChoices, AreChosen, label_from}
use Rattle.ir_model.specs.Compact.{IsTied}
use Rattle.ir_model.specs.Plan.{AreLabels}
use Rattle.ir_model.proofs.Chosen.{choices_same}
use Rattle.std.proofs.lemmas.Option.{slice_get_within}
use Rattle.ir_model.proofs.Best.{Marks, IsBestBelow}
use Rattle.ir_model.proofs.Steps.{AreLongest}
use Rattle.ir_lanes.specs.Marks.{PortMarks, ArePortMarks, AreTied}
use Rattle.ir_compile.specs.PortBits.{MayTakeBit}
use Rattle.ir_compile.proofs.PortBits.{has_some}
use Rattle.ir_plan.specs.CompactRows.{AreMarksOf, AreTiedMarks, MayTake}
use Rattle.ir_tables.specs.FromNode.{AreFrom, AreLedBy}
use Rattle.ir_compile.specs.Runs.{HasMarked}
use Rattle.ir_tables.proofs.Leading.{some_nearer}

-- each label but that of u has a tied port
pub tied_choices : (net : Topology) → IsTopology net → (order labels : List ℕ) → AreLabels (node_count net) order labels → (u : ℕ) (weights : List ℕ) → AreFrom net u weights
    → AreChoices (node_count net) (slice_index labels u) (IsTied net order (slice_index labels u))
tied_choices net ok order labels named u weights are = record {
  has_own = named.label u are.node;
  some = λ d hd ne.
      let there = named.there u are.node in
      let other : u ≢ slice_index order d = λ e. ne (sym (ap (slice_index labels) e ∙ named.back d hd)) in
      let w = some_nearer net ok u weights are (slice_index order d) (named.node d hd) other in
      (w.0, subst (λ (x : ℕ). LeadsNearer net x (slice_index order d) w.0) (sym there) w.1);
}

-- the same by the marks of all ports
pub tied_marked : (net : Topology) (order labels : List ℕ) → AreLabels (node_count net) order labels → (u : ℕ) → u < node_count net → (marks : PortMarks) → ArePortMarks net order marks
    → AreChoices (node_count net) (slice_index labels u) (IsTied net order (slice_index labels u))
tied_marked net order labels named u hu marks are = record {
  has_own = named.label u hu;
  some = λ d hd ne.
      let there = named.there u hu in
      let other : u ≢ slice_index order d = λ e. ne (sym (ap (slice_index labels) e ∙ named.back d hd)) in
      let w = are.nearer u d hu (omega (arith, hd, named.every_label)) other in
      (w.0, subst (λ (x : ℕ). LeadsNearer net x (slice_index order d) w.0) (sym there) w.1);
}

module _ (net : Topology) (ok : IsTopology net) (order labels : List ℕ) (named : AreLabels (node_count net) order labels) (u : ℕ) (hu : u < node_count net) where
  -- the marks of a port say which labels may take it
  pub marks_may : (p : ℕ) (row : List Bool) → AreTiedMarks net order u p row → (d : ℕ) → MayTake net order (slice_index labels u) d p ↔ Marks row d
  marks_may p row are d =
      let there = named.there u hu in (
        (λ may. (are.marks d may.0).1 (subst (λ (x : ℕ). LeadsNearer net x (slice_index order d) p) there may.1)),
        (λ m.
            elim (cases_lt d (node_count net)) [
              | inl l ↦ (l, subst (λ (x : ℕ). LeadsNearer net x (slice_index order d) p) (sym there) ((are.marks d l).0 m))
              | inr past ↦
                  let none : slice_index_or row d false ≡ false = get_or_past row d false (let e = are.every in omega arith) in
                  absurd (let bad : false ≡ true = sym none ∙ m in cc bad)
            ]),
      )

  -- a port that leads nearer to no node can be taken by no label
  pub none_may : (p : ℕ) (nodes : List ℕ) → AreLedBy net u p nodes → length nodes ≡ 0 → (d : ℕ) → MayTake net order (slice_index labels u) d p → ⊥
  none_may p nodes led none d may =
      let has = (led.each (slice_index order d)).1 (subst (λ (x : ℕ). LeadsNearer net x (slice_index order d) p) (named.there u hu) may.1) in
      omega (arith, has.1, none)

  -- a port of which no label is marked can be taken by no label
  pub unmarked_may : (p : ℕ) (row : List Bool) (marked : List ℕ) → AreTiedMarks net order u p row → HasMarked (node_count net) row marked → length marked ≡ 0 → (d : ℕ) → MayTake net order (slice_index labels u) d p → ⊥
  unmarked_may p row marked are has none d may =
      let at = has.every d may.0 ((marks_may p row are d).0 may) in
      omega (arith, at.1, none)

  -- the words of the labels say which ports they may take
  pub words_may : (words : List ℕ) → AreTied net order u words → length (ports_of net u) ≤ 32 → (d p : ℕ) → MayTakeBit (node_count net) words d p ↔ MayTake net order (slice_index labels u) d p
  words_may words are few d p =
      let there = named.there u hu in
      let place : d < node_count net → d < length order = λ hd. omega (arith, hd, named.every_label) in (
        (λ may. (may.0, subst (λ (x : ℕ). LeadsNearer net x (slice_index order d) p) (sym there) ((are.bit d p (place may.0)).0 may.2))),
        (λ may.
            let near : LeadsNearer net u (slice_index order d) p = subst (λ (x : ℕ). LeadsNearer net x (slice_index order d) p) there may.1 in
            let within = slice_get_within (ports_of net u) p near.0 near.2 in
            (may.0, omega (arith, within, few), (are.bit d p (place may.0)).1 near)),
      )

  -- and that of each other label has one
  pub words_some : (words : List ℕ) → AreTied net order u words → (marks : PortMarks) → ArePortMarks net order marks → (d : ℕ) → d < node_count net → d ≢ slice_index labels u → 0 < slice_index words d
  words_some words tied marks are d hd ne =
      let other : u ≢ slice_index order d = λ e. ne (sym (ap (slice_index labels) e ∙ named.back d hd)) in
      let place : d < length order = omega (arith, hd, named.every_label) in
      let w = are.nearer u d hu place other in
      has_some (slice_index words d) w.0 ((tied.bit d w.0 place).1 w.1)

  -- so the longest runs by the words are those of the ports that lead nearer
  pub words_longest : (words : List ℕ) → AreTied net order u words → length (ports_of net u) ≤ 32 → (counts ports : List ℕ) → AreLongest (node_count net) (slice_index labels u) (MayTakeBit (node_count net) words) counts ports
      → AreLongest (node_count net) (slice_index labels u) (MayTake net order (slice_index labels u)) counts ports
  words_longest words are few counts ports longest a l off =
      let run = longest a l off in
      record {
        within = run.within;
        serves = λ i b ne. (words_may words are few (label_from (node_count net) a i) (slice_index ports a)).0 (run.serves i b ne);
        longest = λ p t b serves. run.longest p t b (λ i j ne. (words_may words are few (label_from (node_count net) a i) p).1 (serves i j ne));
        least = λ p serves. run.least p (λ i j ne. (words_may words are few (label_from (node_count net) a i) p).1 (serves i j ne));
      }

  -- what a label may take is a port of u
  pub no_port_past : (d q : ℕ) → length (ports_of net u) ≤ q → MayTake net order (slice_index labels u) d q → ⊥
  no_port_past d q past may =
      let near = subst (λ (x : ℕ). LeadsNearer net x (slice_index order d) q) (named.there u hu) may.1 in
      let within = slice_get_within (ports_of net u) q near.0 near.2 in
      omega (arith, within, past)

  pub may_choices : AreChoices (node_count net) (slice_index labels u) (IsTied net order (slice_index labels u)) → AreChoices (node_count net) (slice_index labels u) (MayTake net order (slice_index labels u))
  may_choices tied = record {
    has_own = tied.has_own;
    some = λ d hd ne. let w = tied.some d hd ne in (w.0, (hd, w.1));
  }

  pub chosen_of_may : (ports : List (Option ℕ)) → AreChosen (node_count net) (slice_index labels u) (MayTake net order (slice_index labels u)) ports
      → AreChosen (node_count net) (slice_index labels u) (IsTied net order (slice_index labels u)) ports
  chosen_of_may ports chosen =
      choices_same (node_count net) (slice_index labels u) (MayTake net order (slice_index labels u)) (IsTied net order (slice_index labels u)) (named.label u hu)
      (λ d p hd ne. ((λ may. may.1), (λ tied. (hd, tied)))) ports chosen

-- the marks of the nodes to which a port leads nearer
pub marks_led : (net : Topology) (order : List ℕ) (u p : ℕ) (nodes : List ℕ) (row : List Bool) → AreLedBy net u p nodes → AreMarksOf (node_count net) order nodes row → AreTiedMarks net order u p row
marks_led net order u p nodes row led are = record {
  every = are.every;
  marks = λ d hd.
      let m = are.marks d hd in
      let e = led.each (slice_index order d) in
      ((λ is. e.0 (m.0 is)), (λ near. m.1 (e.1 near)));
}

-- the first i of some nodes have marks, by label
pub record AreMarkedBelow (n : ℕ) (order nodes : List ℕ) (i : ℕ) (row : List Bool) : Type 0 where
  pub every : length row ≡ n
  pub has : (d : ℕ) → d < n → slice_index_or row d false ≡ true → (k : ℕ) × (k < i) × (slice_index_or nodes k 0 ≡ slice_index order d)
  pub marks : (d k : ℕ) → d < n → k < i → slice_index_or nodes k 0 ≡ slice_index order d → slice_index_or row d false ≡ true

-- the first i of some nodes are there as their labels
pub record AreRelabelled (labels nodes : List ℕ) (i : ℕ) (now : List ℕ) : Type 0 where
  pub every : length now ≡ length nodes
  pub done : (k : ℕ) → k < i → slice_index_or now k 0 ≡ slice_index labels (slice_index_or nodes k 0)
  pub left : (k : ℕ) → i ≤ k → slice_index_or now k 0 ≡ slice_index_or nodes k 0

module _ (n : ℕ) (order labels : List ℕ) (named : AreLabels n order labels) (nodes : List ℕ) where
  pub marked_none : AreMarkedBelow n order nodes 0 (replicate n false)
  marked_none = record {
    every = length-replicate n false;
    has = λ d hd m. absurd (let bare : slice_index_or (replicate n false) d false ≡ false = get_or-replicate n d false false hd in let f : false ≡ true = sym bare ∙ m in cc f);
    marks = λ d k hd lk e. absurd (omega (arith, lk));
  }

  pub marked_next : (i v : ℕ) (row : List Bool) → i < length nodes → v ≡ slice_index_or nodes i 0 → v < n → AreMarkedBelow n order nodes i row
      → AreMarkedBelow n order nodes (i + 1) (set row (slice_index labels v) true)
  marked_next i v row l is v_in so_far =
      let at : ℕ = slice_index labels v in
      let inside : at < length row = let place = named.label v v_in in let every = so_far.every in omega (arith, place, every) in
      let here : slice_index_or (set row at true) at false ≡ true = get_or-set_same row at true false inside in
      let away : (d : ℕ) → d ≢ at → slice_index_or (set row at true) d false ≡ slice_index_or row d false = λ d ne. get_or-set_other row at d true false ne in
      record {
        every = length-set row at true ∙ so_far.every;
        has = λ d hd m.
            elim (cases_eq d at) [
              | inl e ↦ (i, omega arith, sym is ∙ sym (named.there v v_in) ∙ ap (slice_index order) (sym e))
              | inr ne ↦ let w = so_far.has d hd (sym (away d ne) ∙ m) in (w.0, omega (arith, w.1), w.2)
            ];
        marks = λ d k hd lk e.
            elim (cases_eq d at) [
              | inl same ↦ ap (λ (x : ℕ). slice_index_or (set row at true) x false) same ∙ here
              | inr ne ↦
                  elim (cases_lt k i) [
                    | inl below ↦ away d ne ∙ so_far.marks d k hd below e
                    | inr last ↦
                        let k_is : k ≡ i = omega (arith, lk, last) in
                        let v_is : v ≡ slice_index order d = is ∙ ap (λ (x : ℕ). slice_index_or nodes x 0) (sym k_is) ∙ e in
                        absurd (ne (sym (ap (slice_index labels) v_is ∙ named.back d hd)))
                  ]
            ];
      }

  pub marked_all : (i : ℕ) (row : List Bool) → i ≡ length nodes → AreMarkedBelow n order nodes i row → AreMarksOf n order nodes row
  marked_all i row all so_far = record {
    every = so_far.every;
    marks = λ d hd. (
      (λ m.
          let w = so_far.has d hd m in
          let inside : w.0 < length nodes = omega (arith, w.1, all) in
          (w.0, inside, get_or_default_zero nodes w.0 (slice_index order d) inside ∙ w.2)),
      (λ has. so_far.marks d has.0 hd (omega (arith, has.1, all)) (sym (get_or_default_zero nodes has.0 (slice_index order d) has.1) ∙ has.2)),
    );
  }

  pub relabelled_next : (i : ℕ) (now : List ℕ) → i < length nodes → AreRelabelled labels nodes i now → AreRelabelled labels nodes (i + 1) (set now i (slice_index labels (slice_index_or now i 0)))
  relabelled_next i now l so_far =
      let here : slice_index_or now i 0 ≡ slice_index_or nodes i 0 = so_far.left i (omega arith) in
      let label : ℕ = slice_index labels (slice_index_or now i 0) in
      record {
        every = length-set now i label ∙ so_far.every;
        done = λ k lk.
            elim (cases_eq k i) [
              | inl e ↦
                  let set_here : slice_index_or (set now i label) i 0 ≡ label = get_or-set_same now i label 0 (omega (arith, l, so_far.every)) in
                  ap (λ (x : ℕ). slice_index_or (set now i label) x 0) e ∙ set_here ∙ ap (slice_index labels) (here ∙ ap (λ (x : ℕ). slice_index_or nodes x 0) (sym e))
              | inr ne ↦ get_or-set_other now i k label 0 ne ∙ so_far.done k (omega (arith, lk, ne))
            ];
        left = λ k lk. get_or-set_other now i k label 0 (λ e. omega (arith, lk, e)) ∙ so_far.left k (omega (arith, lk));
      }

  -- what is at the next place is a node still
  pub next_node : (i x : ℕ) (now : List ℕ) → i < length nodes → ((d : ℕ) → Contains nodes d → d < n) → AreRelabelled labels nodes i now → x ≡ slice_index_or now i x → x < n
  next_node i x now l inside are is =
      let now_in : i < length now = omega (arith, l, are.every) in
      let x_is : x ≡ slice_index_or nodes i 0 = is ∙ get_or_default_zero now i x now_in ∙ are.left i (omega arith) in
      let node = inside (slice_index_or nodes i 0) (Contains-get_or nodes i 0 l) in
      omega (arith, x_is, node)

  pub relabelled_all : (i : ℕ) (row : List Bool) (now : List ℕ) → i ≡ length nodes → ((d : ℕ) → Contains nodes d → d < n) → AreMarkedBelow n order nodes i row → AreRelabelled labels nodes i now → HasMarked n row now
  relabelled_all i row now all inside marked are = record {
    label = λ d has.
        let k_in : has.0 < length nodes = omega (arith, has.1, are.every) in
        let d_is : d ≡ slice_index labels (slice_index_or nodes has.0 0) = sym (sym (get_or_default_zero now has.0 d has.1) ∙ has.2) ∙ are.done has.0 (omega (arith, k_in, all)) in
        let l = named.label (slice_index_or nodes has.0 0) (inside (slice_index_or nodes has.0 0) (Contains-get_or nodes has.0 0 k_in)) in
        omega (arith, d_is, l);
    every = λ d hd m.
        let w = marked.has d hd m in
        let k_in : w.0 < length now = omega (arith, w.1, all, are.every) in
        (w.0, k_in, get_or_default_zero now w.0 d k_in ∙ are.done w.0 w.1 ∙ ap (slice_index labels) w.2 ∙ named.back d hd);
  }

-- a port that no label may take is no better than those before it
pub best_same : (n own : ℕ) (may : ℕ → ℕ → Type 0) (m a c p : ℕ) → a ≢ own → ((d : ℕ) → may d m → ⊥) → IsBestBelow n own may m a c p → IsBestBelow n own may (m + 1) a c p
best_same n own may m a c p off none best =
    let low = best.low in
    record {
      within = best.within;
      serves = best.serves;
      longest = λ q t l h s.
          elim (cases_lt q m) [
            | inl below ↦ best.longest q t below h s
            | inr last ↦
                let e : q ≡ m = omega (arith, l, last) in
                elim (cases_lt 0 t) [ inl some ↦ absurd (none a (subst (λ (x : ℕ). may a x) e (s 0 some off))) | inr zero ↦ omega arith ]
          ];
      least = λ q l s. elim (cases_lt q m) [ inl below ↦ best.least q below s | inr last ↦ omega (arith, low, last) ];
      low = omega (arith, low);
    }

-- before the first port nothing is best
pub best_none : (n own : ℕ) (may : ℕ → ℕ → Type 0) (a : ℕ) (counts ports : List ℕ) → counts ≡ replicate n 0 → ports ≡ replicate n 0 → a < n → IsBestBelow n own may 0 a (slice_index counts a) (slice_index ports a)
best_none n own may a counts ports none first l =
    let count : slice_index counts a ≡ 0 = ap (λ (xs : List ℕ). slice_index xs a) none ∙ get_or-replicate n a 0 0 l in
    let port : slice_index ports a ≡ 0 = ap (λ (xs : List ℕ). slice_index xs a) first ∙ get_or-replicate n a 0 0 l in
    rw (count, port)
    (record {
      within = omega arith;
      serves = λ i lt off. absurd (omega (arith, lt));
      longest = λ q t lt h s. absurd (omega (arith, lt));
      least = λ q lt s. absurd (omega (arith, lt));
      low = omega arith;
    })

-- one label alone chooses nothing
pub one_label : (n own : ℕ) (may : ℕ → ℕ → Type 0) (ports : List (Option ℕ)) → n ≡ 1 → own < n → ports ≡ None ∷ [] → AreChosen n own may ports
one_label n own may ports one l is = record {
  every = ap (λ (xs : List (Option ℕ)). length xs) is ∙ sym one;
  none = let first : own ≡ 0 = omega arith in rw (is, first) refl;
  chosen = λ two. absurd (omega arith);
}
