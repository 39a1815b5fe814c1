-- The plan of numbers and rows stands for the full table that the rows were compiled from.
use Rattle.std.proofs.Common.{◌≡◌, ◌≢◌, ℕ, suc, ◌*◌, ◌<◌, ◌≤◌, zero-add, List, [], ◌∷◌, length, map, Option, Some, None, get_or, refl, ap, sym, ◌∙◌, subst, inl, inr, arith}
use Rattle.std.specs.Prelude.{slice_index, slice_index_or, IsSome, sum_by, All}
use Rattle.std.specs.List.{range_with_len}
use Rattle.std.proofs.lemmas.Bool.{cases_eq, eq-eqb, ne_eqb}
use Rattle.std.proofs.lemmas.List.{get_or-map, length-map, get_or_default}
use Rattle.std.proofs.lemmas.List.Elements.{Contains-get_or}
use Rattle.std.proofs.lemmas.List.Sums.{sum_by-le}
use Rattle.std.proofs.lemmas.List.FromFn.{get_or-map-range_with_len, get_or-range_with_len, length-range_with_len}
use Rattle.ir_model.specs.declared.Kind.{Kind}
use Rattle.ir_model.specs.declared.Kind.TheVariants.{Tree, Shortest, Compact, Landmark}
use Rattle.ir_model.specs.Topology.{Topology, IsTopology, node_count}
use Rattle.ir_model.specs.Walk.{IsConnected}
use Rattle.ir_model.specs.Table.{IsPrescribedWalk}
use Rattle.ir_model.specs.Numbering.{IsDepthFirst, neighbors_of}
use Rattle.ir_model.specs.Row.{Start, labels as start_labels, intervals_of}
use Rattle.ir_model.specs.Choices.{AreChosen}
use Rattle.ir_model.specs.Compact.{IsTied}
use Rattle.ir_model.specs.Within.{MayLead}
use Rattle.ir_model.specs.Landmark.{IsLandmarkBound}
use Rattle.ir_model.specs.Compiled.{IsDestinations, IsCanonical, port_to, Fits, IsFewest}
use Rattle.ir_model.specs.Plan.{Plan, IsPlan, IsTableOf, AreLabels, table_port, label_in, by_label, row_in}
use Rattle.ir_model.proofs.Canonical.{canonical_fits}
use Rattle.ir_model.proofs.Fewest.{canonical_is_fewest}
use Rattle.ir_model.proofs.Pigeonhole.{length-le_from_places}
use Rattle.ir_model.proofs.Rows.{rises}
use Rattle.ir_model.proofs.Round.{start_is_label}
use Rattle.ir_tables.proofs.Ways.{continues_agree}
use Rattle.ir_plan.specs.Shown.{row_port, shown_port, shown_table, plan_with, AreRows, IsFullTable}
use Rattle.ir_plan.proofs.RowPorts.{shown_fits, shown_some}

-- the port at a place of the shown table
pub shown_at : (n : ℕ) (labels : List ℕ) (rows : List (List Start)) (u d : ℕ) → u < n → d < n
    → slice_index_or (slice_index_or (shown_table n labels rows) u []) d None ≡ shown_port labels rows u d
unfolding shown_table
shown_at n labels rows u d hu hd =
    let row : get_or (map (λ (v : ℕ). map (shown_port labels rows v) (range_with_len 0 n)) (range_with_len 0 n)) u [] ≡ map (shown_port labels rows u) (range_with_len 0 n) =
    get_or-map-range_with_len (λ (v : ℕ). map (shown_port labels rows v) (range_with_len 0 n)) 0 n u u [] hu (omega arith) in
    ap (λ (xs : List (Option ℕ)). get_or xs d None) row ∙ get_or-map-range_with_len (shown_port labels rows u) 0 n d d None hd (omega arith)

-- the port to a label, in a list of ports by label
port_at_label : (order : List ℕ) (table : ℕ → ℕ → Option ℕ) (u a : ℕ) → a < length order → port_to (map (table u) order) a ≡ table u (slice_index order a)
port_at_label order table u a h = get_or-map (table u) order a 0 None h

-- ports of a full table, by label, are a list of destinations
pub destinations : (n : ℕ) (order labels : List ℕ) (table : ℕ → ℕ → Option ℕ) → AreLabels n order labels → IsFullTable n table
    → (u : ℕ) → u < n → IsDestinations n (slice_index labels u) (map (table u) order)
destinations n order labels table named full u hu =
    let len : length (map (table u) order) ≡ n = length-map order (table u) ∙ named.every_label in
    record {
      every = len;
      has_own = named.label u hu;
      none = port_at_label order table u (slice_index labels u) (rw named.every_label (named.label u hu)) ∙ ap (table u) (named.there u hu) ∙ full.own u hu;
      some = λ d hd ne.
          let other : u ≢ slice_index order d = λ e. ne (sym (ap (slice_index labels) e ∙ named.back d hd)) in
          rw (port_at_label order table u d (rw named.every_label hd)) (full.some u (slice_index order d) hu (named.node d hd) other);
    }

module _ (n : ℕ) (order labels : List ℕ) (table : ℕ → ℕ → Option ℕ) (rows : List (List Start)) (named : AreLabels n order labels) (full : IsFullTable n table) (stand : AreRows n order labels table rows) where
  -- the rows show the table's port
  pub shown_same : (u d : ℕ) → u < n → d < n → shown_port labels rows u d ≡ table u d
  shown_same u d hu hd =
      elim (cases_eq u d) [
        | inl e ↦ rw (eq-eqb u d e) (sym (subst (λ (x : ℕ). table u x ≡ None) e (full.own u hu)))
        | inr ne ↦
            let ports = map (table u) order in
            let dest = destinations n order labels table named full u hu in
            let fits = canonical_fits n (slice_index labels u) ports dest (slice_index_or rows u []) (stand.canonical u hu) in
            let other : slice_index labels d ≢ slice_index labels u = λ e. ne (sym (sym (named.there d hd) ∙ ap (slice_index order) e ∙ named.there u hu)) in
            rw (ne_eqb u d ne)
            (shown_fits n (slice_index labels d) (named.label d hd) (slice_index labels u) ports (slice_index_or rows u []) fits other
            ∙ port_at_label order table u (slice_index labels d) (rw named.every_label (named.label d hd))
            ∙ ap (table u) (named.there d hd))
      ]

-- tables that agree on the nodes prescribe the same walks
pub same_walk : (net : Topology) → IsTopology net → (t s : ℕ → ℕ → Option ℕ) (d : ℕ) → ((x : ℕ) → x < node_count net → s x d ≡ t x d)
    → (u : ℕ) → u < node_count net → (walk : List ℕ) → IsPrescribedWalk net t u d walk → IsPrescribedWalk net s u d walk
same_walk net ok t s d same u hu [] is = is
same_walk net ok t s d same u hu (x ∷ rest) is = (is.0, continues_agree net ok t s d (λ x hx. sym (same x hx)) u hu rest is.1)

-- maps by functions that agree on the list's numbers
map_same : (n : ℕ) (f g : ℕ → Option ℕ) → ((x : ℕ) → x < n → f x ≡ g x) → (xs : List ℕ) → ((k : ℕ) → k < length xs → get_or xs k 0 < n) → map f xs ≡ map g xs
map_same n f g same [] small = refl
map_same n f g same (x ∷ xs) small =
    let here : f x ≡ g x = same x (small 0 (omega arith)) in
    let rest : map f xs ≡ map g xs = map_same n f g same xs (λ k h. small (suc k) (omega arith)) in
    rw (here, rest) refl

-- tables that agree on the nodes are both of a kind
same_table : (kind : Kind) (net : Topology) (order parents labels : List ℕ) (t s : ℕ → ℕ → Option ℕ) → AreLabels (node_count net) order labels
    → ((u d : ℕ) → u < node_count net → d < node_count net → s u d ≡ t u d) → IsTableOf kind net order parents t → IsTableOf kind net order parents s
same_table Tree net order parents labels t s named same is = record {
  own = λ d hd. same d d hd hd ∙ is.own d hd;
  port = λ u d hu hd ne. let w = is.port u d hu hd ne in (w.0, w.1, w.2, same u d hu hd ∙ w.3, w.4, w.5);
}
same_table Shortest net order parents labels t s named same is = record {
  own = λ d hd. same d d hd hd ∙ is.own d hd;
  port = λ u d hu hd ne. let w = is.port u d hu hd ne in (w.0, same u d hu hd ∙ w.1, w.2);
}
same_table Compact net order parents labels t s named same is = record {
  nearer = record {
    own = λ d hd. same d d hd hd ∙ is.nearer.own d hd;
    port = λ u d hu hd ne. let w = is.nearer.port u d hu hd ne in (w.0, same u d hu hd ∙ w.1, w.2);
  };
  chosen = λ a ha.
      let u = slice_index order a in
      let maps : map (s u) order ≡ map (t u) order = map_same (node_count net) (s u) (t u) (λ d hd. same u d (named.node a ha) hd) order (λ k h. named.node k (rw (sym named.every_label) h)) in
      subst (λ (ports : List (Option ℕ)). AreChosen (node_count net) a (IsTied net order a) ports) (sym maps) (is.chosen a ha);
}
same_table (Landmark far) net order parents labels t s named same is = (
  is.0,
  is.1,
  record {
    keeps = record {
      own = λ d hd. same d d hd hd ∙ is.2.keeps.own d hd;
      port = λ u d hu hd ne. let w = is.2.keeps.port u d hu hd ne in (w.0, same u d hu hd ∙ w.1, w.2);
    };
    chosen = λ a ha.
        let u = slice_index order a in
        let maps : map (s u) order ≡ map (t u) order = map_same (node_count net) (s u) (t u) (λ d hd. same u d (named.node a ha) hd) order (λ k h. named.node k (rw (sym named.every_label) h)) in
        subst (λ (ports : List (Option ℕ)). AreChosen (node_count net) a (MayLead net (IsLandmarkBound net is.0 far.stretch) order a) ports) (sym maps) (is.2.chosen a ha);
  },
)

-- a table of any kind is full
pub full_table : (kind : Kind) (net : Topology) (order parents : List ℕ) (t : ℕ → ℕ → Option ℕ) → IsTableOf kind net order parents t → IsFullTable (node_count net) t
full_table Tree net order parents t is = record { own = is.own; some = λ u d hu hd ne. rw (is.port u d hu hd ne).3 refl }
full_table Compact net order parents t is = record { own = is.nearer.own; some = λ u d hu hd ne. rw (is.nearer.port u d hu hd ne).1 refl }
full_table Shortest net order parents t is = record { own = is.own; some = λ u d hu hd ne. rw (is.port u d hu hd ne).1 refl }
full_table (Landmark far) net order parents t is = record { own = is.2.keeps.own; some = λ u d hu hd ne. rw (is.2.keeps.port u d hu hd ne).1 refl }

-- the numbers and rows of a full table make a plan
pub plan_stands : (kind : Kind) (root : ℕ) (net : Topology) (order parents labels : List ℕ) (table : ℕ → ℕ → Option ℕ) (rows : List (List Start))
    → IsTopology net → IsConnected net → root < node_count net → (kind ≡ Tree → IsDepthFirst (neighbors_of net) (node_count net) root order parents) → slice_index order 0 ≡ root
    → AreLabels (node_count net) order labels → IsTableOf kind net order parents table
    → ((u d : ℕ) → u < node_count net → d < node_count net → (walk : List ℕ) × IsPrescribedWalk net table u d walk × (length walk ≤ node_count net))
    → AreRows (node_count net) order labels table rows → IsPlan (plan_with kind root net order labels rows)
plan_stands kind root net order parents labels table rows ok connected in_range depth first named is walks stand =
    let n = node_count net in
    let s = plan_with kind root net order labels rows in
    let full = full_table kind net order parents table is in
    let same : (u d : ℕ) → u < n → d < n → table_port s u d ≡ table u d =
    λ u d hu hd. shown_at n labels rows u d hu hd ∙ shown_same n order labels table rows named full stand u d hu hd in
    record {
      topology = ok;
      connected = connected;
      root_in = in_range;
      parents = parents;
      numbering = depth;
      first = first;
      labels = named;
      table = same_table kind net order parents labels table (table_port s) named same is;
      walks = λ u d hu hd.
          let w = walks u d hu hd in
          (w.0, same_walk net ok table (table_port s) d (λ x hx. same x d hx hd) u hu w.0 w.1, w.2);
      row_of_each = stand.every;
      rows = λ u hu.
          let ports : map (table u) order ≡ by_label s u = map_same n (table u) (table_port s u) (λ d hd. sym (same u d hu hd)) order (λ k h. named.node k (rw (sym named.every_label) h)) in
          subst (λ (xs : List (Option ℕ)). IsCanonical n (slice_index labels u) xs (slice_index_or rows u [])) ports (stand.canonical u hu);
    }

module _ (kind : Kind) (root : ℕ) (net : Topology) (order labels : List ℕ) (rows : List (List Start)) (is : IsPlan (plan_with kind root net order labels rows)) (u a : ℕ) (hu : u < node_count net) (ha : a < node_count net) (other : a ≢ slice_index labels u) where
  -- the plan's port to the node with a label is the one that the row shows at the label
  pub port_shown : table_port (plan_with kind root net order labels rows) u (slice_index order a) ≡ row_port (slice_index_or rows u []) a
  port_shown =
      let named = is.labels in
      let apart : u ≢ slice_index order a = λ e. other (sym (ap (slice_index labels) e ∙ named.back a ha)) in
      shown_at (node_count net) labels rows u (slice_index order a) hu (named.node a ha)
      ∙ rw (ne_eqb u (slice_index order a) apart) (ap (row_port (slice_index_or rows u [])) (named.back a ha))

  -- the row has a start
  pub row_filled : 0 < length (slice_index_or rows u [])
  row_filled =
      let named = is.labels in
      let s = plan_with kind root net order labels rows in
      let apart : u ≢ slice_index order a = λ e. other (sym (ap (slice_index labels) e ∙ named.back a ha)) in
      let some = (full_table kind net order is.parents (table_port s) is.table).some u (slice_index order a) hu (named.node a ha) apart in
      shows (row_port (slice_index_or rows u []) a) refl (rw (sym port_shown) some)
    where
      shows : (o : Option ℕ) → row_port (slice_index_or rows u []) a ≡ o → IsSome o → 0 < length (slice_index_or rows u [])
      shows None e h = absurd (cc h)
      shows (Some p) e h = shown_some (slice_index_or rows u []) a p e

-- the ports of a node, by label, are a list of destinations, which its row fits with the fewest intervals
module _ (s : Plan) (is : IsPlan s) (u : ℕ) (hu : u < node_count s.topology) where
  pub row_destinations : IsDestinations (node_count s.topology) (label_in s u) (by_label s u)
  row_destinations =
      destinations (node_count s.topology) s.order s.labels (table_port s) is.labels (full_table s.kind s.topology s.order is.parents (table_port s) is.table) u hu

  pub row_fits : Fits (node_count s.topology) (label_in s u) (by_label s u) (intervals_of (row_in s u))
  row_fits = canonical_fits (node_count s.topology) (label_in s u) (by_label s u) row_destinations (row_in s u) (is.rows u hu)

  pub row_fewest : IsFewest (node_count s.topology) (label_in s u) (by_label s u) (length (row_in s u))
  row_fewest = canonical_is_fewest (node_count s.topology) (label_in s u) (by_label s u) row_destinations (row_in s u) (is.rows u hu)

-- a canonical row has at most as many starts as there are labels
pub short_row : (n own : ℕ) (ports : List (Option ℕ)) (row : List Start) → IsCanonical n own ports row → length row ≤ n
short_row n own ports row is =
    let len : length (start_labels row) ≡ length row = length-map row (λ (s : Start). s.label) in
    let all = length-range_with_len 0 n in
    let le = length-le_from_places (start_labels row) (range_with_len 0 n)
    (λ i j l h e. let r = rises (start_labels row) is.ascending i j l h in omega arith)
    (λ k h.
    let below : get_or (start_labels row) k 0 < n = start_is_label n own ports (get_or (start_labels row) k 0) ((is.starts (get_or (start_labels row) k 0)).0 (Contains-get_or (start_labels row) k 0 h)) in
    (get_or (start_labels row) k 0, omega arith, get_or-range_with_len 0 n (get_or (start_labels row) k 0) 0 below ∙ zero-add (get_or (start_labels row) k 0))) in
    omega arith

-- all rows together have at most n times n starts
pub few_starts : (s : Plan) → IsPlan s → sum_by length s.rows ≤ node_count s.topology * node_count s.topology
few_starts s is =
    let n = node_count s.topology in
    let short : All (λ (row : List Start). length row ≤ n) s.rows = λ u d h.
    let hu : u < n = omega (arith, is.row_of_each) in
    subst (λ (row : List Start). length row ≤ n) (get_or_default s.rows u [] d h) (short_row n (label_in s u) (by_label s u) (row_in s u) (is.rows u hu)) in
    let le = sum_by-le (λ (row : List Start). length row) n s.rows short in
    subst (λ (m : ℕ). sum_by length s.rows ≤ m * n) is.row_of_each le
