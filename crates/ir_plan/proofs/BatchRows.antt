-- The rows of batches of nodes, one batch after the other.
use Rattle.std.proofs.Common.{◌≡◌, ℕ, zero, suc, Ok, Option, Some, None, ◌+◌, ◌-◌, ◌*◌, ◌<◌, ◌≤◌, List, [], ◌∷◌, ◌++◌, length, map, min, flat_map, refl, ap, ◌∙◌, sym, subst, inl, inr, arith}
use Rattle.std.specs.Prelude.{IfOk, IfSome, slice_index, slice_index_or}
use Rattle.std.specs.Global.{Vec}
use Rattle.std.specs.List.{AllZip, range_with_len}
use Rattle.std.specs.declared.result.Result.{Result}
use Rattle.std.specs.declared.alloc.AllocError.{AllocError}
use Rattle.std.proofs.lemmas.Bool.{cases_lt}
use Rattle.std.proofs.lemmas.List.{get_or_append_left, get_or-append_right, get_or_push, length-append, length_push}
use Rattle.std.proofs.lemmas.List.Concat.{flat_map-cons}
use Rattle.ir_model.specs.declared.Kind.{Kind}
use Rattle.ir_model.specs.declared.Kind.TheVariants.{Tree, Shortest}
use Rattle.ir_model.specs.Topology.{Topology, node_count}
use Rattle.ir_model.specs.Row.{Start}
use Rattle.ir_lanes.specs.Outward.{OutwardLanes, source_at}
use Rattle.ir_plan.specs.NodeRows.{IsNodeRow, AreNodeRows, AreRowsFrom}

module _ (kind : Kind) (net : Topology) (order parents labels : List ℕ) where
  -- rows of some nodes, and after them those of the next ones
  pub rows_behind : (first most more : ℕ) (rows others : List (List Start)) → AreRowsFrom kind net order parents labels first most rows → AreRowsFrom kind net order parents labels (first + most) more others
      → AreRowsFrom kind net order parents labels first (most + more) (rows ++ others)
  rows_behind first most more rows others front back =
      let long : length (rows ++ others) ≡ length rows + length others = length-append rows others in
      let one = front.every in
      let two = back.every in
      record {
        every = omega (arith, long, one, two);
        each = λ k l.
            let P : ℕ → List Start → Type 0 = λ u row. IsNodeRow kind net order parents (slice_index labels u) row in
            elim (cases_lt k (length rows)) [
              | inl below ↦ subst (P (first + k)) (sym (get_or_append_left rows others [] k below)) (front.each k below)
              | inr past ↦
                  let place : first + most + (k - length rows) ≡ first + k = omega (arith, l, long, one, two, past) in
                  subst (λ (u : ℕ). P u (slice_index_or (rows ++ others) k [])) place
                  (subst (P (first + most + (k - length rows))) (sym (get_or-append_right rows others (length rows) k [] refl past)) (back.each (k - length rows) (omega (arith, l, long, past))))
            ];
      }

  -- no rows yet
  pub rows_none : (first : ℕ) → AreRowsFrom kind net order parents labels first 0 []
  rows_none first = record { every = omega arith; each = λ k l. absurd (omega (arith, l)) }

  -- the rows of enough nodes from the first one on are those of all nodes
  pub rows_of_all : (most : ℕ) (rows : List (List Start)) → node_count net ≤ most → AreRowsFrom kind net order parents labels 0 most rows → AreNodeRows kind net order parents labels (node_count net) rows
  rows_of_all most rows enough are =
      let every : length rows ≡ node_count net = omega (arith, are.every, enough) in
      record {
        every = every;
        each = λ u l. let e : 0 + u ≡ u = omega arith in subst (λ (v : ℕ). IsNodeRow kind net order parents (slice_index labels v) (slice_index_or rows u [])) e (are.each u (omega (arith, l, every)));
      }

  -- the rows of the batches of a range, one after the other
  pub rows_in_batches : (b k : ℕ) (made : List (Vec (List Start)))
      → AllZip (λ (i : ℕ) (one : Result (Vec (List Start)) AllocError). IfOk one (λ (v : Vec (List Start)). AreRowsFrom kind net order parents labels (i * 16) 16 v.items)) (range_with_len b k) (map Ok made)
      → AreRowsFrom kind net order parents labels (b * 16) (k * 16) (flat_map (λ (v : Vec (List Start)). v.items) made)
  rows_in_batches b zero [] zipped = rows_none (b * 16)
  rows_in_batches b zero (x ∷ xs) zipped = absurd zipped
  rows_in_batches b (suc k) [] zipped = absurd zipped
  rows_in_batches b (suc k) (x ∷ xs) zipped =
      let items : Vec (List Start) → List (List Start) = λ v. v.items in
      let next : (b + 1) * 16 ≡ b * 16 + 16 = omega arith in
      let later = subst (λ (i : ℕ). AreRowsFrom kind net order parents labels i (k * 16) (flat_map items xs)) next (rows_in_batches (b + 1) k xs zipped.1) in
      let most : 16 + k * 16 ≡ suc k * 16 = omega arith in
      subst (λ (rows : List (List Start)). AreRowsFrom kind net order parents labels (b * 16) (suc k * 16) rows) (sym (flat_map-cons items x xs))
      (subst (λ (m : ℕ). AreRowsFrom kind net order parents labels (b * 16) m (x.items ++ flat_map items xs)) most
      (rows_behind (b * 16) 16 (k * 16) x.items (flat_map items xs) zipped.0 later))

  -- the rows of enough batches, one after the other, are those of all nodes
  pub made_in_batches : (count : ℕ) (made : List (Vec (List Start))) → node_count net ≤ count * 16
      → AllZip (λ (i : ℕ) (one : Result (Vec (List Start)) AllocError). IfOk one (λ (v : Vec (List Start)). AreRowsFrom kind net order parents labels (i * 16) 16 v.items)) (range_with_len 0 count) (map Ok made)
      → AreNodeRows kind net order parents labels (node_count net) (flat_map (λ (v : Vec (List Start)). v.items) made)
  made_in_batches count made enough zipped =
      rows_of_all (count * 16) (flat_map (λ (v : Vec (List Start)). v.items) made) enough
      (rows_in_batches 0 count made zipped)

-- one more row after those of the first nodes
pub read_more : (P : ℕ → List Start → Type 0) (k : ℕ) (rows more : List (List Start)) (row : List Start) → length rows ≡ k → ((i : ℕ) → i < k → P i (slice_index_or rows i [])) → more ≡ rows ++ row ∷ [] → P k row
    → (length more ≡ k + 1) × ((i : ℕ) → i < k + 1 → P i (slice_index_or more i []))
read_more P k rows more row every each is own =
    let Q : List (List Start) → Type 0 = λ held. (length held ≡ k + 1) × ((i : ℕ) → i < k + 1 → P i (slice_index_or held i [])) in
    subst Q (sym is) (
      omega (arith, length_push rows row, every),
      (λ i l.
          elim (cases_lt i k) [
            | inl below ↦ subst (P i) (sym (get_or_append_left rows (row ∷ []) [] i (omega (arith, below, every)))) (each i below)
            | inr past ↦
                let last : k ≡ i = omega (arith, l, past) in
                subst (P i) (sym (get_or_push rows row [] i (omega (arith, last, every)))) (subst (λ (j : ℕ). P j row) last own)
          ]),
    )

-- the shortest table is no tree's
pub no_tree : {P : Type 0} → Shortest ≡ Tree → P
no_tree e = absurd (let bad : Shortest ≡ Tree = e in cc bad)

-- where the sources of the ways are a list of sixteen numbers, each is that of its place
pub each_source : (found : Option OutwardLanes) (held sources : List ℕ) (first nodes count : ℕ) → IfSome found (λ ways. ways.sources ≡ held) → held ≡ sources → nodes ≡ count
    → ((k : ℕ) → k < 16 → slice_index sources k ≡ min (first + k) (nodes - 1)) → IfSome found (λ ways. (k : ℕ) → k < 16 → source_at ways k ≡ min (first + k) (count - 1))
each_source (Some ways) held sources first nodes count same is every each =
    λ k low. ap (λ (xs : List ℕ). slice_index xs k) (same ∙ is) ∙ each k low ∙ ap (λ (n : ℕ). min (first + k) (n - 1)) every
each_source None held sources first nodes count same is every each = tt

-- the source of a lane that has a node is that node
pub source_here : (found : Option OutwardLanes) (n first lane : ℕ) → lane < 16 → first + lane < n → IfSome found (λ ways. (k : ℕ) → k < 16 → source_at ways k ≡ min (first + k) (n - 1)) → IfSome found (λ ways. source_at ways lane ≡ first + lane)
source_here (Some ways) n first lane low inside sources = let here = sources lane low in omega (arith, here, inside)
source_here None n first lane low inside sources = tt
