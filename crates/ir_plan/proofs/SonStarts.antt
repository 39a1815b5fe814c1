-- The row of a node in a tree, made of the starts for its sons and its father, is the canonical one.
use Rattle.std.proofs.Common.{◌≡◌, ◌≢◌, ◌⊎◌, ℕ, zero, suc, ◌+◌, ◌-◌, ◌<◌, List, [], ◌∷◌, ◌++◌, length, get_or, Some, None, refl, ap, sym, ◌∙◌, subst, inl, inr, arith}
use Rattle.std.specs.Prelude.{slice_index, slice_index_or, Contains, All}
use Rattle.std.specs.List.Sorted.{IsStrictlyIncreasing}
use Rattle.std.proofs.lemmas.Bool.{cases_lt, cases_eq}
use Rattle.std.proofs.lemmas.List.{map_push, get_or_append_left, get_or_push, length_push}
use Rattle.std.proofs.lemmas.List.Elements.{All-nil, All-cons, All-push, All-weaker, All-contains, Contains-get_or, Contains-append_left, Contains-push}
use Rattle.std.proofs.lemmas.Option.{slice_get_within}
use Rattle.ir_model.specs.declared.Hop.{Hop}
use Rattle.ir_model.specs.declared.Kind.TheVariants.{Tree}
use Rattle.ir_model.specs.Topology.{Topology, IsTopology, node_count, ports_of, port_at}
use Rattle.ir_model.specs.Walk.{Linked}
use Rattle.ir_model.specs.Numbering.{neighbors_of}
use Rattle.ir_model.specs.Subtree.{IsUnder, itself, child, IsSubtree, IsNested}
use Rattle.ir_model.specs.Tree.{IsParent}
use Rattle.ir_model.specs.Row.{Start, labels as start_labels}
use Rattle.ir_model.specs.Compiled.{port_to}
use Rattle.ir_numbering.specs.Numbering.{Numbering, IsPortTo, IsParentPort, IsNumberingOf}
use Rattle.ir_numbering.proofs.Nested.{depth_first_nests}
use Rattle.ir_numbering.proofs.Ways.{parent_linked}
use Rattle.ir_numbering.proofs.Cells.{parent_port_to, cells_of}
use Rattle.ir_numbering.proofs.CellPorts.{one_port, one_node, cell_ports}
use Rattle.ir_numbering.proofs.TreeRow.{after_cases, tree_starts, end_is_out}
use Rattle.ir_numbering.proofs.Sons.{sons_rise}
use Rattle.ir_plan.specs.NodeRows.{IsNodeRow}
use Rattle.ir_plan.specs.TreeRows.{subtree_end}
use Rattle.ir_plan.specs.SonStarts.{IsSonStart, IsFatherStart, AreSonStarts, AreTreeStarts}
use Rattle.ir_plan.proofs.NodeRows.{tree_destinations}
use Rattle.ir_plan.proofs.TreePlans.{start_at}

-- a number above all follows ascending ones
rising_push : (xs : List ℕ) (y : ℕ) → IsStrictlyIncreasing xs → ((c : ℕ) → Contains xs c → c < y) → IsStrictlyIncreasing (xs ++ y ∷ [])
rising_push xs y up below k h =
    let len = length_push xs y in
    elim (cases_lt (k + 1) (length xs)) [
      | inl l ↦ rw (get_or_append_left xs (y ∷ []) 0 k (omega arith), get_or_append_left xs (y ∷ []) 0 (k + 1) l) (up k l)
      | inr g ↦
          let b = below (get_or xs k 0) (Contains-get_or xs k 0 (omega arith)) in
          rw (get_or_append_left xs (y ∷ []) 0 k (omega arith), get_or_push xs y 0 (k + 1) (omega arith)) b
    ]

-- and one below all in front of them
rising_cons : (xs : List ℕ) (y : ℕ) → IsStrictlyIncreasing xs → ((c : ℕ) → Contains xs c → y < c) → IsStrictlyIncreasing (y ∷ xs)
rising_cons xs y up above zero h = above (get_or xs 0 0) (Contains-get_or xs 0 0 (omega arith))
rising_cons xs y up above (suc k) h =
    let e : suc (k + 1) ≡ suc k + 1 = omega arith in
    subst (λ (m : ℕ). get_or (y ∷ xs) (suc k) 0 < get_or (y ∷ xs) m 0) e (up k (omega arith))

abbrev pub start_with : ℕ → ℕ → Start
start_with l p = record { label = l; port = p }

module _ (net : Topology) (ok : IsTopology net) (numbers : Numbering) (is : IsNumberingOf net numbers) (u : ℕ) (hu : u < node_count net) where
  own : slice_index numbers.labels u < node_count net
  own = is.labels.label u hu

  nest : IsNested (node_count net) numbers.parents
  nest = depth_first_nests (neighbors_of net) (node_count net) (slice_index numbers.order 0) numbers.order numbers.parents is.order

  -- u is the node at its own label
  at_place : (p v : ℕ) → IsPortTo net u p v → IsPortTo net (slice_index numbers.order (slice_index numbers.labels u)) p v
  at_place p v to = subst (λ (x : ℕ). IsPortTo net x p v) (sym (is.labels.there u hu)) to

  -- a port to a son makes a start for it, and a start for a son gives one
  son_start : (p v : ℕ) → IsPortTo net u p v → IsParent numbers.order numbers.parents v u → IsSonStart net numbers u (start_with (slice_index numbers.labels v) p)
  son_start p v to h =
      let i = h.0 in
      let h2 = h.2 in
      let every = is.labels.every_label in
      let within : i < node_count net = omega arith in
      let low = nest.lower i h.1 within in
      let place : i ≡ slice_index numbers.labels v = sym (is.labels.back i within) ∙ ap (slice_index numbers.labels) h.3 in
      let father : slice_index numbers.parents i ≡ slice_index numbers.labels u = sym (is.labels.back (slice_index numbers.parents i) (omega arith)) ∙ ap (slice_index numbers.labels) h.4 in
      let from = h.1 in
      record {
        from = omega arith;
        label = omega arith;
        son = ap (slice_index numbers.parents) (sym place) ∙ father;
        port = subst (λ (x : ℕ). IsPortTo net u p x) (sym (ap (slice_index numbers.order) (sym place) ∙ h.3)) to;
      }

  son_of_start : (s : Start) → IsSonStart net numbers u s → IsParent numbers.order numbers.parents (slice_index numbers.order s.label) u
  son_of_start s son =
      let every = is.labels.every_label in
      let h = son.label in
      (s.label, son.from, omega arith, refl, ap (slice_index numbers.order) son.son ∙ is.labels.there u hu)

  -- no port yet
  pub starts_none : AreSonStarts net numbers u 0 []
  starts_none = record {
    ascending = λ k h. absurd (omega arith);
    each = All-nil (λ (s : Start). IsSonStart net numbers u s × (s.port < 0));
    every = λ s son h. absurd (omega arith);
  }

  module _ (k : ℕ) (row : List Start) (are : AreSonStarts net numbers u k row) (hop : Hop) (at : port_at net u k ≡ Some hop) where
    more : All (λ (s : Start). IsSonStart net numbers u s × (s.port < k + 1)) row
    more = All-weaker (λ (s : Start). IsSonStart net numbers u s × (s.port < k)) (λ (s : Start). IsSonStart net numbers u s × (s.port < k + 1)) (λ s p. (p.0, let h = p.1 in omega arith)) row are.each

    -- a start with this port is for the node that the port leads to
    start_here : (s : Start) → IsSonStart net numbers u s → s.port ≡ k → slice_index numbers.order s.label ≡ hop.node
    start_here s son e = one_node net u s.port k (slice_index numbers.order s.label) hop.node e son.port (hop, at, refl)

    -- the next port leads to a son
    pub starts_pushed : IsParent numbers.order numbers.parents hop.node u → AreSonStarts net numbers u (k + 1) (row ++ start_with (slice_index numbers.labels hop.node) k ∷ [])
    starts_pushed h =
        let s : Start = start_with (slice_index numbers.labels hop.node) k in
        let son : IsSonStart net numbers u s = son_start k hop.node (hop, at, refl) h in
        let e : start_labels (row ++ s ∷ []) ≡ start_labels row ++ s.label ∷ [] = map_push (λ (t : Start). t.label) row s in
        let below : (c : ℕ) → Contains (start_labels row) c → c < s.label = λ c w.
        let t = start_at row c w in
        let q = All-contains (λ (x : Start). IsSonStart net numbers u x × (x.port < k)) row t.0 are.each t.1 in
        let rise = sons_rise net ok numbers.order numbers.parents (slice_index numbers.order 0) is.order (slice_index numbers.labels u) t.0.label s.label t.0.port k
        q.0.label son.from son.label son.son (at_place t.0.port _ q.0.port) (at_place k _ son.port) q.1 in
        subst (λ (x : ℕ). x < s.label) t.2 rise in
        record {
          ascending = subst IsStrictlyIncreasing (sym e) (rising_push (start_labels row) s.label are.ascending below);
          each = All-push (λ (x : Start). IsSonStart net numbers u x × (x.port < k + 1)) row s more (son, omega arith);
          every = λ t is_t less.
              subst (λ (xs : List ℕ). Contains xs t.label) (sym e)
              (elim (cases_eq t.port k) [
                | inl f ↦
                    let here : s.label ≡ t.label = ap (slice_index numbers.labels) (sym (start_here t is_t f)) ∙ is.labels.back t.label is_t.label in
                    subst (λ (x : ℕ). Contains (start_labels row ++ s.label ∷ []) x) here (Contains-push (start_labels row) s.label)
                | inr ne ↦ Contains-append_left (start_labels row) (s.label ∷ []) t.label (are.every t is_t (omega arith))
              ]);
        }

    -- the next port leads to no son
    pub starts_skipped : (IsParent numbers.order numbers.parents hop.node u → ⊥) → AreSonStarts net numbers u (k + 1) row
    starts_skipped off = record {
      ascending = are.ascending;
      each = more;
      every = λ t is_t less.
          elim (cases_eq t.port k) [
            | inl f ↦ absurd (off (subst (λ (x : ℕ). IsParent numbers.order numbers.parents x u) (start_here t is_t f) (son_of_start t is_t)))
            | inr ne ↦ are.every t is_t (omega arith)
          ];
    }

  -- what a node holds for its parent
  up_is : IsParentPort net numbers.order numbers.parents (slice_index numbers.order (slice_index numbers.labels u)) (slice_index_or numbers.ports u None)
  up_is = subst (λ (x : ℕ). IsParentPort net numbers.order numbers.parents x (slice_index_or numbers.ports u None)) (sym (is.labels.there u hu)) (is.ports.each u hu)

  module _ (size : ℕ) (sub : IsSubtree (node_count net) numbers.parents (slice_index numbers.labels u) size) (row : List Start)
      (are : AreSonStarts net numbers u (length (ports_of net u)) row) where
    -- each son has a port, and so a start
    all_sons : (c : ℕ) → 0 < c → c < node_count net → slice_index numbers.parents c ≡ slice_index numbers.labels u → Contains (start_labels row) c
    all_sons c from h e =
        let l : Linked net u (slice_index numbers.order c) =
        subst (λ (x : ℕ). Linked net x (slice_index numbers.order c)) (ap (slice_index numbers.order) e ∙ is.labels.there u hu)
        (parent_linked net ok (slice_index numbers.order 0) numbers.order numbers.parents is.order c from h) in
        are.every (start_with c l.0) (record { from = from; label = h; son = e; port = (l.1, l.2, l.3) }) (slice_get_within (ports_of net u) l.0 l.1 l.2)

    sons_either : All (λ (s : Start). IsSonStart net numbers u s ⊎ IsFatherStart net numbers u size s) row
    sons_either = All-weaker (λ (s : Start). IsSonStart net numbers u s × (s.port < length (ports_of net u))) (λ (s : Start). IsSonStart net numbers u s ⊎ IsFatherStart net numbers u size s) (λ s p. inl p.0) row are.each

    -- the labels of the sons are inside the subtree
    son_between : (c : ℕ) → Contains (start_labels row) c → (0 < c) × (c < slice_index numbers.labels u + size)
    son_between c w =
        let t = start_at row c w in
        let q = (All-contains (λ (x : Start). IsSonStart net numbers u x × (x.port < length (ports_of net u))) row t.0 are.each t.1).0 in
        let under : IsUnder numbers.parents (slice_index numbers.labels u) t.0.label = child t.0.label q.from (subst (IsUnder numbers.parents (slice_index numbers.labels u)) (sym q.son) itself) in
        let r = ((sub.places t.0.label q.label).0 under).1 in
        let from = q.from in
        let e = t.2 in
        (omega arith, omega arith)

    -- the root has no other start
    pub starts_alone : slice_index_or numbers.ports u None ≡ None → AreTreeStarts net numbers u row
    starts_alone none = record {
      size = size;
      subtree = sub;
      ascending = are.ascending;
      each = sons_either;
      sons = all_sons;
      father = λ from. let port = parent_port_to net ok numbers.order numbers.parents is.order (slice_index numbers.labels u) own (slice_index_or numbers.ports u None) up_is from in absurd (cc (none, port.1));
    }

    module _ (up : ℕ) (held : slice_index_or numbers.ports u None ≡ Some up) where
      -- who holds a port for its parent is not the root, and the start with that port is the father's
      father_start : (d : ℕ) → d ≡ subtree_end (node_count net) (slice_index numbers.labels u) size → IsFatherStart net numbers u size (start_with d up)
      father_start d e =
          let from : 0 < slice_index numbers.labels u =
          elim (cases_eq (slice_index numbers.labels u) 0) [
            | inl z ↦
                let first : u ≡ slice_index numbers.order 0 = sym (is.labels.there u hu) ∙ ap (slice_index numbers.order) z in
                let none = (is.ports.each u hu).first first in
                absurd (cc (none, held))
            | inr nz ↦ omega arith
          ] in
          let port = parent_port_to net ok numbers.order numbers.parents is.order (slice_index numbers.labels u) own (slice_index_or numbers.ports u None) up_is from in
          let same : port.0 ≡ up = cc (port.1, held) in
          record {
            from = from;
            label = e;
            port = subst (λ (x : ℕ). IsPortTo net x up (slice_index numbers.order (slice_index numbers.parents (slice_index numbers.labels u)))) (is.labels.there u hu)
                (subst (λ (x : ℕ). IsPortTo net (slice_index numbers.order (slice_index numbers.labels u)) x (slice_index numbers.order (slice_index numbers.parents (slice_index numbers.labels u)))) same port.2);
          }

      some_under : 0 < size
      some_under = let r = ((sub.places (slice_index numbers.labels u) own).0 itself).1 in omega arith

      -- where the subtree has the last label, the father's start is in front
      pub starts_front : slice_index numbers.labels u + size ≡ node_count net → AreTreeStarts net numbers u (start_with 0 up ∷ row)
      starts_front last =
          let a = slice_index numbers.labels u in
          let some = some_under in
          let z : 0 ≡ subtree_end (node_count net) a size = grind (arith, after_cases (node_count net) (a + size - 1) (omega arith)) in
          let s : Start = start_with 0 up in
          let father = father_start 0 z in
          record {
            size = size;
            subtree = sub;
            ascending = rising_cons (start_labels row) 0 are.ascending (λ c w. (son_between c w).0);
            each = All-cons (λ (x : Start). IsSonStart net numbers u x ⊎ IsFatherStart net numbers u size x) s row (inr father) sons_either;
            sons = λ c from h e. let w = all_sons c from h e in (suc w.0, let b = w.1 in omega arith, w.2);
            father = λ from. (0, omega arith, z);
          }

      -- and else after the others
      pub starts_behind : slice_index numbers.labels u + size ≢ node_count net → AreTreeStarts net numbers u (row ++ start_with (slice_index numbers.labels u + size) up ∷ [])
      starts_behind ne =
          let a = slice_index numbers.labels u in
          let some = some_under in
          let within = sub.within in
          let d : a + size ≡ subtree_end (node_count net) a size = grind (arith, after_cases (node_count net) (a + size - 1) (omega arith)) in
          let s : Start = start_with (a + size) up in
          let father = father_start (a + size) d in
          let e : start_labels (row ++ s ∷ []) ≡ start_labels row ++ s.label ∷ [] = map_push (λ (t : Start). t.label) row s in
          record {
            size = size;
            subtree = sub;
            ascending = subst IsStrictlyIncreasing (sym e) (rising_push (start_labels row) s.label are.ascending (λ c w. (son_between c w).1));
            each = All-push (λ (x : Start). IsSonStart net numbers u x ⊎ IsFatherStart net numbers u size x) row s sons_either (inr father);
            sons = λ c from h f. subst (λ (xs : List ℕ). Contains xs c) (sym e) (Contains-append_left (start_labels row) (s.label ∷ []) c (all_sons c from h f));
            father = λ from. subst (λ (xs : List ℕ). Contains xs (subtree_end (node_count net) a size)) (sym e)
                (subst (λ (x : ℕ). Contains (start_labels row ++ s.label ∷ []) x) d (Contains-push (start_labels row) s.label));
          }

  -- the starts are those of the canonical row of the node's ports
  pub tree_row_is : (row : List Start) → AreTreeStarts net numbers u row → IsNodeRow Tree net numbers.order numbers.parents (slice_index numbers.labels u) row
  tree_row_is row are =
      let n = node_count net in
      let a = slice_index numbers.labels u in
      let cells = cells_of net ok numbers.order numbers.parents is.order a own (slice_index_or numbers.ports u None) up_is n (omega arith) in
      let tree = cell_ports net ok numbers.order numbers.parents (slice_index numbers.order 0) is.order a own cells.0 cells.1 in
      let starts = tree_starts n a are.size numbers.parents nest own are.subtree cells.0 tree.0 tree.1 tree.2 in
      let out = end_is_out n a are.size numbers.parents nest own are.subtree cells.0 tree.0 tree.1 tree.2 in
      let Either : Start → Type 0 = λ s. IsSonStart net numbers u s ⊎ IsFatherStart net numbers u are.size s in
      record {
        ports = cells.0;
        ports_of_kind = cells.1;
        destinations = tree_destinations net numbers is a own cells.0 cells.1;
        canonical = record {
          ascending = are.ascending;
          starts = λ d. (
            (λ w.
                let t = start_at row d w in
                (starts d).1 (elim (All-contains Either row t.0 are.each t.1) [
                  | inl son ↦ let e = t.2 in let from = son.from in let h = son.label in inl (omega arith, omega arith, ap (slice_index numbers.parents) (sym e) ∙ son.son)
                  | inr father ↦ inr (father.from, sym t.2 ∙ father.label)
                ])),
            (λ s.
                elim ((starts d).0 s) [
                  | inl son ↦ are.sons d son.0 son.1 son.2
                  | inr end ↦ subst (λ (x : ℕ). Contains (start_labels row) x) (sym end.1) (are.father end.0)
                ]),
          );
          their_ports = All-weaker Either (λ (s : Start). port_to cells.0 s.label ≡ Some s.port) (λ s either.
              elim either [
                | inl son ↦
                    tree.2.sons s.label s.label son.from son.son son.label itself
                    ∙ ap Some (one_port net ok _ (tree.0 s.label) s.port _ _ refl (tree.3 s.label son.from son.label son.son) (at_place s.port _ son.port))
                | inr father ↦
                    let off = out father.from in
                    ap (port_to cells.0) father.label ∙ tree.2.father (subtree_end n a are.size) off.0 off.1
                    ∙ ap Some (one_port net ok _ tree.1 s.port _ _ refl (tree.4 father.from) (at_place s.port _ father.port))
              ]) row are.each;
        };
      }
