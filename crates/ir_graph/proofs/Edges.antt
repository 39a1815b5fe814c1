-- The edges of a graph, row after row.
use Rattle.std.proofs.Common.{◌≡◌, ◌<◌, ◌≤◌, ◌+◌, ◌-◌, ℕ, zero, suc, Bool, true, false, not, cond, ◌||◌, List, [], ◌∷◌, ◌++◌, map, filter, length, take, drop, Some, IfSome, option_map, slice_get, get_or, refl, sym, ap, ◌∙◌, bytes_eq, arith, add-one}
use Rattle.std.specs.Option.{option_map_or}
use Rattle.std.proofs.Math.Seq.{take-suc, drop-cons}
use Rattle.std.proofs.Math.Bool.{or_comm, or-false}
use Rattle.std.proofs.lemmas.List.Folds.{list_any-append}
use Rattle.std.proofs.lemmas.List.Filters.{length-filter_more}
use Rattle.std.proofs.lemmas.List.Elements.{filter_agree}
use Rattle.std.proofs.lemmas.List.{length-map}
use Rattle.std.proofs.lemmas.Option.{same_Some, none-some, slice_get_within, slice_get-map, get_or_from_slice_get}
use Rattle.ir_model.specs.Graph.{Name, Neighbors, Adjacency, names, among, edges_after}
use Rattle.ir_model.specs.Places.{neighbors_at, later_neighbors}
use Rattle.ir_graph.proofs.Joined.{place-append}
use Rattle.ir_graph.proofs.Keeping.{at_row}

-- ---- a filter by places

-- what passes follows those before it that pass
pub filtered_at : {X : Type 0} (p : X → Bool) (xs : List X) (i : ℕ) (x : X) → slice_get xs i ≡ Some x → p x ≡ true → slice_get (filter p xs) (length (filter p (take i xs))) ≡ Some x
filtered_at p [] i x at pass = absurd (none-some x at)
filtered_at p (y ∷ ys) zero x at pass =
    let same : y ≡ x = same_Some y x at in
    ap (λ b. slice_get (cond b (y ∷ filter p ys) (filter p ys)) 0) (ap p same ∙ pass) ∙ at
filtered_at p (y ∷ ys) (suc i) x at pass = by (p y) (filtered_at p ys i x at pass)
  where
    by : (b : Bool) → slice_get (filter p ys) (length (filter p (take i ys))) ≡ Some x → slice_get (cond b (y ∷ filter p ys) (filter p ys)) (length (cond b (y ∷ filter p (take i ys)) (filter p (take i ys)))) ≡ Some x
    by true later = later
    by false later = later

pub filter_step : {X : Type 0} (p : X → Bool) (xs : List X) (i : ℕ) (x : X) → slice_get xs i ≡ Some x → length (filter p (take (i + 1) xs)) ≡ length (filter p (take i xs)) + cond (p x) 1 0
filter_step p xs i x at =
    length-filter_more p xs i x (slice_get_within xs i x at) ∙ ap (λ y. length (filter p (take i xs)) + cond (p y) 1 0) (get_or_from_slice_get xs i x x at)

-- ---- two lists after each other

pub slice_get-behind : {X : Type 0} (xs ys : List X) (i n : ℕ) → i + length xs ≡ n → slice_get (xs ++ ys) n ≡ slice_get ys i
slice_get-behind [] ys i n h = ap (slice_get ys) (omega (arith, h))
slice_get-behind (x ∷ xs) ys i zero h = absurd (omega (arith, h))
slice_get-behind (x ∷ xs) ys i (suc n) h = slice_get-behind xs ys i n (omega (arith, h))

-- ---- edges after some rows

-- only which names were walked matters, and not in what order
pub edges_after-agree : (a b : List Name) (g : Adjacency) → ((z : Name) → among a z ≡ among b z) → edges_after a g ≡ edges_after b g
edges_after-agree a b [] agree = refl
edges_after-agree a b (r ∷ rs) agree =
    ap (λ es. map {B = Name × Name × ℕ} (λ (e : Name × ℕ). (r.0, e.0, e.1)) es ++ edges_after (r.0 ∷ a) rs) (filter_agree (λ (e : Name × ℕ). not (among a e.0)) (λ (e : Name × ℕ). not (among b e.0)) (λ (e : Name × ℕ). ap not (agree e.0)) r.1)
    ∙ ap (λ t. at_row b r.0 r.1 ++ t) (edges_after-agree (r.0 ∷ a) (r.0 ∷ b) rs (λ z. ap (λ c. bytes_eq z r.0 || c) (agree z)))

module _ (g : Adjacency) (i : ℕ) (r : Name × Neighbors) (at : slice_get g i ≡ Some r) where
  within : i < length g
  within = slice_get_within g i r at

  named : slice_get (names g) i ≡ Some r.0
  named = slice_get-map (λ (r : Name × Neighbors). r.0) g i ∙ ap (option_map (λ (r : Name × Neighbors). r.0)) at

  -- the names up to a place are those before it and the one there, in either order
  pub walked_more : (z : Name) → among (r.0 ∷ take i (names g)) z ≡ among (take (i + 1) (names g)) z
  walked_more z =
      or_comm (bytes_eq z r.0) (among (take i (names g)) z)
      ∙ ap (λ b. among (take i (names g)) z || b) (sym (or-false (bytes_eq z r.0)))
      ∙ ap (λ n. among (take i (names g)) z || among (n ∷ []) z) (sym (get_or_from_slice_get (names g) i r.0 r.0 named))
      ∙ sym (list_any-append (bytes_eq z) (take i (names g)) (get_or (names g) i r.0 ∷ []))
      ∙ ap (λ ks. among ks z) (sym (ap (λ n. take n (names g)) (add-one i) ∙ take-suc (names g) i r.0 (slice_get_within (names g) i r.0 named)))

  -- the edges from the node at a place on: its own with itself and later nodes, and those of the later ones
  pub edges_step : edges_after (take i (names g)) (drop i g) ≡ map {B = Name × Name × ℕ} (λ (e : Name × ℕ). (r.0, e.0, e.1)) (later_neighbors g i) ++ edges_after (take (i + 1) (names g)) (drop (i + 1) g)
  edges_step =
      ap (edges_after (take i (names g))) (drop-cons g i r within ∙ ap (λ t. t ∷ drop (suc i) g) (get_or_from_slice_get g i r r at) ∙ ap (λ n. r ∷ drop n g) (sym (add-one i)))
      ∙ ap (λ es. at_row (take i (names g)) r.0 es ++ edges_after (r.0 ∷ take i (names g)) (drop (i + 1) g)) (sym (ap (λ o. option_map_or (λ (r : Name × Neighbors). r.1) o []) at))
      ∙ ap (λ t. at_row (take i (names g)) r.0 (neighbors_at g i) ++ t) (edges_after-agree (r.0 ∷ take i (names g)) (take (i + 1) (names g)) (drop (i + 1) g) walked_more)

-- a row for a name at a place
pub row_there : (g : Adjacency) (i : ℕ) (x : Name) → slice_get (names g) i ≡ Some x → (es : Neighbors) × (slice_get g i ≡ Some (x, es))
row_there [] i x h = absurd (none-some x h)
row_there (r ∷ rs) zero x h = (r.1, ap (λ (n : Name). Some (n, r.1)) (same_Some r.0 x h))
row_there (r ∷ rs) (suc i) x h = row_there rs i x h

module _ (g : Adjacency) (i : ℕ) (x : Name) (named : slice_get (names g) i ≡ Some x) where
  -- an edge of the node at this place
  pub edge_here : (left : ℕ) (e : Name × ℕ) → slice_get (later_neighbors g i) left ≡ Some e → slice_get {X = Name × Name × ℕ} (edges_after (take i (names g)) (drop i g)) left ≡ Some (x, e.0, e.1)
  edge_here left e found =
      let row = row_there g i x named in
      let own : List (Name × Name × ℕ) = map {B = Name × Name × ℕ} (λ (e : Name × ℕ). (x, e.0, e.1)) (later_neighbors g i) in
      let here : slice_get {X = Name × Name × ℕ} own left ≡ Some (x, e.0, e.1) = slice_get-map {B = Name × Name × ℕ} (λ (e : Name × ℕ). (x, e.0, e.1)) (later_neighbors g i) left ∙ ap (option_map {U = Name × Name × ℕ} (λ (e : Name × ℕ). (x, e.0, e.1))) found in
      ap (λ es. slice_get {X = Name × Name × ℕ} es left) (edges_step g i (x, row.0) row.1) ∙ place-append own (edges_after (take (i + 1) (names g)) (drop (i + 1) g)) left (x, e.0, e.1) here

  -- or one of a later node
  pub edge_later : (left rest : ℕ) → rest + length (later_neighbors g i) ≡ left → slice_get {X = Name × Name × ℕ} (edges_after (take i (names g)) (drop i g)) left ≡ slice_get (edges_after (take (i + 1) (names g)) (drop (i + 1) g)) rest
  edge_later left rest h =
      let row = row_there g i x named in
      let own : List (Name × Name × ℕ) = map {B = Name × Name × ℕ} (λ (e : Name × ℕ). (x, e.0, e.1)) (later_neighbors g i) in
      ap (λ es. slice_get {X = Name × Name × ℕ} es left) (edges_step g i (x, row.0) row.1)
      ∙ slice_get-behind own (edges_after (take (i + 1) (names g)) (drop (i + 1) g)) rest left (ap (λ n. rest + n) (length-map {B = Name × Name × ℕ} (later_neighbors g i) (λ (e : Name × ℕ). (x, e.0, e.1))) ∙ h)

-- ---- what is left after some elements that pass

pub left_passed : {X : Type 0} (p : X → Bool) (xs : List X) (i left place : ℕ) (x : X) → slice_get xs i ≡ Some x → p x ≡ true → 1 ≤ left → left + length (filter p (take i xs)) ≡ place → left - 1 + length (filter p (take (i + 1) xs)) ≡ place
left_passed p xs i left place x at pass some h = omega (arith, filter_step p xs i x at ∙ ap (λ b. length (filter p (take i xs)) + cond b 1 0) pass)

pub left_skipped : {X : Type 0} (p : X → Bool) (xs : List X) (i left place : ℕ) (x : X) → slice_get xs i ≡ Some x → p x ≡ false → left + length (filter p (take i xs)) ≡ place → left + length (filter p (take (i + 1) xs)) ≡ place
left_skipped p xs i left place x at pass h = omega (arith, filter_step p xs i x at ∙ ap (λ b. length (filter p (take i xs)) + cond b 1 0) pass)

pub place_passed : {X : Type 0} (p : X → Bool) (xs : List X) (i left place : ℕ) (x : X) → slice_get xs i ≡ Some x → p x ≡ true → left ≡ 0 → left + length (filter p (take i xs)) ≡ place → slice_get (filter p xs) place ≡ Some x
place_passed p xs i left place x at pass none h = let e : length (filter p (take i xs)) ≡ place = omega arith in ap (slice_get (filter p xs)) (sym e) ∙ filtered_at p xs i x at pass

-- what is at a place within, and what is true of it
pub there_then : {X : Type 0} (xs : List X) (i : ℕ) → i < length xs → (P : X → Type 0) → IfSome (slice_get xs i) P → (x : X) × (slice_get xs i ≡ Some x) × P x
there_then [] i h P p = absurd (omega (arith, h))
there_then (x ∷ xs) zero h P p = (x, refl, p)
there_then (x ∷ xs) (suc i) h P p = there_then xs i (omega (arith, h)) P p
