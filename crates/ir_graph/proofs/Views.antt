-- How the maps' words look through the view.
use Rattle.std.proofs.Common.{filter, take, zero, suc, ◌+◌, ◌<◌, not, arith, subst, ◌≡◌, ℕ, Bool, true, false, cond, List, [], ◌∷◌, ◌++◌, map, Option, None, Some, refl, sym, ap, ◌∙◌, is_some, length, String, string_bytes, string_eq, bytes_eq, slice_get, option_map, IfSome, unwrap_or, position}
use Rattle.std.specs.List.{position_or_len, AllByRecursion, IsDistinct}
use Rattle.std.proofs.lemmas.Slice.Eq.{bytes_eq-Decides}
use Rattle.std.proofs.lemmas.Option.{cond_some, same_Some, none-some, slice_get-map}
use Rattle.std.proofs.lemmas.Bool.{ltb-true}
use Rattle.std.specs.Map.{values_of, lookup, keys_of, set_value, remove_entry}
use Rattle.std.proofs.lemmas.List.{map-append, take-map, length-map}
use Rattle.indexmap.specs.IndexMap.{IndexMap, insert_entry, get, set_value_at}
use Rattle.indexmap.proofs.CallerLemmas.{insert_entry-new}
use Rattle.ir_model.proofs.Names.{bytes_eq-same}
use Rattle.ir_model.proofs.Graphs.{none_from_is_some}
use Rattle.ir_model.specs.Graph.{Name, Neighbors, Adjacency, names, has_node, neighbors, weight_of, with_node, put, without}
use Rattle.std.specs.Option.{option_map_or}
use Rattle.ir_graph.specs.View.{rows_view, row_view, change_row}
use Rattle.ir_model.specs.Places.{neighbors_at}
use Rattle.ir_graph.proofs.Places.{place-map}

module _ {K X L Y : Type 0} (key : K → L) (value : X → Y) where
  pub lookup-view : (test : L → Bool) (es : List (K × X)) → lookup test (map (λ e. (key e.0, value e.1)) es) ≡ option_map value (lookup (λ k. test (key k)) es)
  lookup-view test [] = refl
  lookup-view test (e ∷ es) =
      elim (test (key e.0)) as (λ b. cond b (Some (value e.1)) (lookup test (map (λ e. (key e.0, value e.1)) es)) ≡ option_map value (cond b (Some e.1) (lookup (λ k. test (key k)) es)))
      [ true ↦ refl | false ↦ lookup-view test es ]

  pub filter-view : (test : L → Bool) (es : List (K × X)) → filter (λ (e : L × Y). not (test e.0)) (map (λ e. (key e.0, value e.1)) es) ≡ map (λ e. (key e.0, value e.1)) (filter (λ (e : K × X). not (test (key e.0))) es)
  filter-view test [] = refl
  filter-view test (e ∷ es) =
      elim (test (key e.0)) as (λ b. cond (not b) ((key e.0, value e.1) ∷ filter (λ (e : L × Y). not (test e.0)) (map (λ e. (key e.0, value e.1)) es)) (filter (λ (e : L × Y). not (test e.0)) (map (λ e. (key e.0, value e.1)) es)) ≡ map (λ e. (key e.0, value e.1)) (cond (not b) (e ∷ filter (λ (e : K × X). not (test (key e.0))) es) (filter (λ (e : K × X). not (test (key e.0))) es)))
      [ true ↦ filter-view test es | false ↦ ap (λ t. (key e.0, value e.1) ∷ t) (filter-view test es) ]

  pub keys-view : (es : List (K × X)) → keys_of (map (λ e. (key e.0, value e.1)) es) ≡ map key (keys_of es)
  keys-view [] = refl
  keys-view (e ∷ es) = ap (λ t. key e.0 ∷ t) (keys-view es)

none_filtered : {K X : Type 0} (test : K → Bool) (es : List (K × X)) → lookup test es ≡ None → es ≡ filter (λ (e : K × X). not (test e.0)) es
none_filtered test [] h = refl
none_filtered test (e ∷ es) h = by (none_filtered test es) (test e.0) h
  where
    by : (lookup test es ≡ None → es ≡ filter (λ e. not (test e.0)) es) → (b : Bool) → cond b (Some e.1) (lookup test es) ≡ None → e ∷ es ≡ cond (not b) (e ∷ filter (λ e. not (test e.0)) es) (filter (λ e. not (test e.0)) es)
    by later true h = absurd (none-some e.1 (sym h))
    by later false h = ap (λ t. e ∷ t) (later h)

-- the first key that passes was the only one, where none is left
pub removed-filter : {K X : Type 0} (test : K → Bool) (es : List (K × X)) → lookup test (remove_entry test es) ≡ None → remove_entry test es ≡ filter (λ (e : K × X). not (test e.0)) es
removed-filter test [] h = refl
removed-filter test (e ∷ es) h = by (removed-filter test es) (test e.0) refl h
  where
    by : (lookup test (remove_entry test es) ≡ None → remove_entry test es ≡ filter (λ e. not (test e.0)) es) → (b : Bool) → test e.0 ≡ b → lookup test (cond b es (e ∷ remove_entry test es)) ≡ None → cond b es (e ∷ remove_entry test es) ≡ cond (not b) (e ∷ filter (λ e. not (test e.0)) es) (filter (λ e. not (test e.0)) es)
    by later true t h = none_filtered test es h
    by later false t h = ap (λ t. e ∷ t) (later (sym (ap (λ b. cond b (Some e.1) (lookup test (remove_entry test es))) t) ∙ h))

is_some-option_map : {X Y : Type 0} (f : X → Y) (o : Option X) → is_some (option_map f o) ≡ is_some o
is_some-option_map f None = refl
is_some-option_map f (Some x) = refl

option_map-id : {X : Type 0} (o : Option X) → option_map (λ x. x) o ≡ o
option_map-id None = refl
option_map-id (Some x) = refl

module _ {Z S : Type 0} where
  pub has_node-view : (rows : IndexMap (String Z) (IndexMap (String Z) ℕ S) S) (x : Name) → has_node (rows_view rows) x ≡ is_some (lookup (λ k. bytes_eq x (string_bytes k)) rows.entries)
  has_node-view rows x = ap is_some (lookup-view string_bytes row_view (bytes_eq x) rows.entries) ∙ is_some-option_map row_view _

  -- the neighbours of x, where the look-up gives this row
  pub neighbors-view : (rows : IndexMap (String Z) (IndexMap (String Z) ℕ S) S) (x : Name) (row : IndexMap (String Z) ℕ S) → Some row ≡ lookup (λ k. bytes_eq x (string_bytes k)) rows.entries → neighbors (rows_view rows) x ≡ row_view row
  neighbors-view rows x row e = ap (λ o. unwrap_or o []) (lookup-view string_bytes row_view (bytes_eq x) rows.entries ∙ ap (option_map row_view) (sym e))

  pub no_neighbors-view : (rows : IndexMap (String Z) (IndexMap (String Z) ℕ S) S) (x : Name) → None ≡ lookup (λ k. bytes_eq x (string_bytes k)) rows.entries → neighbors (rows_view rows) x ≡ []
  no_neighbors-view rows x e = ap (λ o. unwrap_or o []) (lookup-view string_bytes row_view (bytes_eq x) rows.entries ∙ ap (option_map row_view) (sym e))

  pub lookup-row_view : (row : IndexMap (String Z) ℕ S) (y : Name) → lookup (bytes_eq y) (row_view row) ≡ lookup (λ k. bytes_eq y (string_bytes k)) row.entries
  lookup-row_view row y = lookup-view string_bytes (λ w. w) (bytes_eq y) row.entries ∙ option_map-id _

  pub weight-view : (rows : IndexMap (String Z) (IndexMap (String Z) ℕ S) S) (x y : Name) (row : IndexMap (String Z) ℕ S) → Some row ≡ lookup (λ k. bytes_eq x (string_bytes k)) rows.entries → weight_of (rows_view rows) x y ≡ lookup (λ k. bytes_eq y (string_bytes k)) row.entries
  weight-view rows x y row e = ap (lookup (bytes_eq y)) (neighbors-view rows x row e) ∙ lookup-row_view row y

  pub no_weight-view : (rows : IndexMap (String Z) (IndexMap (String Z) ℕ S) S) (x y : Name) → None ≡ lookup (λ k. bytes_eq x (string_bytes k)) rows.entries → weight_of (rows_view rows) x y ≡ None
  no_weight-view rows x y e = ap (lookup (bytes_eq y)) (no_neighbors-view rows x e)

  -- a new row goes last
  pub with_node-view : (rows new : IndexMap (String Z) (IndexMap (String Z) ℕ S) S) (k : String Z) (row : IndexMap (String Z) ℕ S) → has_node (rows_view rows) (string_bytes k) ≡ false → row.entries ≡ [] → new.entries ≡ insert_entry string_eq rows.entries k row
      → rows_view new ≡ with_node (rows_view rows) (string_bytes k)
  with_node-view rows new k row absent empty added =
      let none : get string_eq rows k ≡ None = none_from_is_some _ (sym (has_node-view rows (string_bytes k)) ∙ absent) in
      ap (map (λ e. (string_bytes e.0, row_view e.1))) (added ∙ insert_entry-new string_eq rows k row none)
      ∙ map-append (λ (e : String Z × IndexMap (String Z) ℕ S). (string_bytes e.0, row_view e.1)) rows.entries ((k, row) ∷ [])
      ∙ ap (λ es. rows_view rows ++ (string_bytes k, es) ∷ []) (ap (map (λ e. (string_bytes e.0, e.1))) empty)
      ∙ sym (ap (λ b. cond b (rows_view rows) (rows_view rows ++ (string_bytes k, []) ∷ [])) absent)

module _ {Z : Type 0} where
  pub put-view : (es : List (String Z × ℕ)) (k : String Z) (w : ℕ) → map (λ e. (string_bytes e.0, e.1)) (insert_entry string_eq es k w) ≡ put (map (λ e. (string_bytes e.0, e.1)) es) (string_bytes k) w
  put-view [] k w = refl
  put-view (e ∷ es) k w =
      elim (bytes_eq (string_bytes k) (string_bytes e.0)) as (λ b. map (λ e. (string_bytes e.0, e.1)) (cond b ((e.0, w) ∷ es) (e ∷ insert_entry string_eq es k w)) ≡ cond b ((string_bytes e.0, w) ∷ map (λ e. (string_bytes e.0, e.1)) es) ((string_bytes e.0, e.1) ∷ put (map (λ e. (string_bytes e.0, e.1)) es) (string_bytes k) w))
      [ true ↦ refl | false ↦ ap (λ t. (string_bytes e.0, e.1) ∷ t) (put-view es k w) ]

  -- the first key that spells x, by its place
  place_spells : (x : Name) (ks : List (String Z)) (n : ℕ) → position_or_len (λ k. bytes_eq x (string_bytes k)) ks ≡ n → n < length ks → slice_get (map string_bytes ks) n ≡ Some x
  place_spells x [] n e h = absurd (omega arith)
  place_spells x (k ∷ ks) zero e h = by (bytes_eq x (string_bytes k)) refl
    where
      by : (b : Bool) → bytes_eq x (string_bytes k) ≡ b → Some (string_bytes k) ≡ Some x
      by true t = ap (λ n. Some n) (sym ((bytes_eq-Decides x (string_bytes k)).0 t))
      by false t = absurd (let f : 1 + position_or_len (λ k. bytes_eq x (string_bytes k)) ks ≡ 0 = sym (ap (λ b. cond (not b) (1 + position_or_len (λ k. bytes_eq x (string_bytes k)) ks) 0) t) ∙ e in omega (arith, f))
  place_spells x (k ∷ ks) (suc n) e h = by (place_spells x ks n) (bytes_eq x (string_bytes k)) refl
    where
      by : (position_or_len (λ k. bytes_eq x (string_bytes k)) ks ≡ n → n < length ks → slice_get (map string_bytes ks) n ≡ Some x) → (b : Bool) → bytes_eq x (string_bytes k) ≡ b → slice_get (map string_bytes ks) n ≡ Some x
      by later true t = absurd (let f : 0 ≡ suc n = sym (ap (λ b. cond (not b) (1 + position_or_len (λ k. bytes_eq x (string_bytes k)) ks) 0) t) ∙ e in omega (arith, f))
      by later false t = let f : 1 + position_or_len (λ k. bytes_eq x (string_bytes k)) ks ≡ suc n = sym (ap (λ b. cond (not b) (1 + position_or_len (λ k. bytes_eq x (string_bytes k)) ks) 0) t) ∙ e in
          later (omega (arith, f)) (omega arith)

module _ {Z S : Type 0} where
  pub place-names : (rows : IndexMap (String Z) (IndexMap (String Z) ℕ S) S) (x : Name) (o : Option ℕ) → o ≡ position (λ k. bytes_eq x (string_bytes k)) (keys_of rows.entries) → IfSome o (λ i. slice_get (names (rows_view rows)) i ≡ Some x)
  place-names rows x None e = tt
  place-names rows x (Some i) e =
      let c = cond_some _ _ _ (sym e) in
      rw (keys-view string_bytes row_view rows.entries) (place_spells x (keys_of rows.entries) i c.1 (subst (λ n. n < length (keys_of rows.entries)) c.1 (ltb-true _ _ c.0)))

  pub change_row-view : (es : List (String Z × IndexMap (String Z) ℕ S)) (i : ℕ) (old new : IndexMap (String Z) ℕ S) (f : Neighbors → Neighbors) → slice_get (values_of es) i ≡ Some old → row_view new ≡ f (row_view old)
      → map (λ e. (string_bytes e.0, row_view e.1)) (set_value_at es i new) ≡ change_row (map (λ e. (string_bytes e.0, row_view e.1)) es) i f
  change_row-view [] i old new f at e = refl
  change_row-view (r ∷ rs) zero old new f at e =
      let same : r.1 ≡ old = same_Some _ _ at in
      ap (λ t. (string_bytes r.0, t) ∷ map (λ e. (string_bytes e.0, row_view e.1)) rs) (e ∙ ap (λ o. f (row_view o)) (sym same))
  change_row-view (r ∷ rs) (suc i) old new f at e = ap (λ t. (string_bytes r.0, row_view r.1) ∷ t) (change_row-view rs i old new f at e)

-- ---- a change of one row

pub change_row-id : (g : Adjacency) (i : ℕ) → change_row g i (λ es. es) ≡ g
change_row-id [] i = refl
change_row-id (r ∷ rs) zero = refl
change_row-id (r ∷ rs) (suc i) = ap (λ t. r ∷ t) (change_row-id rs i)

pub change_row-twice : (g : Adjacency) (i : ℕ) (f h : Neighbors → Neighbors) → change_row (change_row g i f) i h ≡ change_row g i (λ es. h (f es))
change_row-twice [] i f h = refl
change_row-twice (r ∷ rs) zero f h = refl
change_row-twice (r ∷ rs) (suc i) f h = ap (λ t. r ∷ t) (change_row-twice rs i f h)

pub length-change_row : (g : Adjacency) (i : ℕ) (f : Neighbors → Neighbors) → length (change_row g i f) ≡ length g
length-change_row [] i f = refl
length-change_row (r ∷ rs) zero f = refl
length-change_row (r ∷ rs) (suc i) f = ap suc (length-change_row rs i f)

-- a change that does nothing to the row
pub change_row-same : (g : Adjacency) (i : ℕ) (f : Neighbors → Neighbors) → IfSome (slice_get g i) (λ r. f r.1 ≡ r.1) → change_row g i f ≡ g
change_row-same [] i f h = refl
change_row-same (r ∷ rs) zero f h = ap (λ es. (r.0, es) ∷ rs) h
change_row-same (r ∷ rs) (suc i) f h = ap (λ t. r ∷ t) (change_row-same rs i f h)

pub without-put : (es : Neighbors) (y : Name) (w : ℕ) → lookup (bytes_eq y) es ≡ None → without (put es y w) y ≡ es
without-put [] y w h = ap (λ b. cond {A = Neighbors} (not b) ((y, w) ∷ []) []) (bytes_eq-same y)
without-put (e ∷ es) y w h = by (without-put es y w) (bytes_eq y e.0) refl h
  where
    by : (lookup (bytes_eq y) es ≡ None → without (put es y w) y ≡ es) → (b : Bool) → bytes_eq y e.0 ≡ b → cond b (Some e.1) (lookup (bytes_eq y) es) ≡ None → without (cond b ((e.0, w) ∷ es) (e ∷ put es y w)) y ≡ e ∷ es
    by later true t h = absurd (none-some e.1 (sym h))
    by later false t h = ap (λ b. cond (not b) (e ∷ without (put es y w) y) (without (put es y w) y)) t ∙ ap (λ t. e ∷ t) (later h)

-- ---- distinct names

module _ {Z S : Type 0} where
  all-keys : (x : Name) (es : List (String Z × IndexMap (String Z) ℕ S)) → AllByRecursion (λ k. bytes_eq x (string_bytes k) ≡ false) (keys_of es) → AllByRecursion (λ n. bytes_eq x n ≡ false) (names (map (λ e. (string_bytes e.0, row_view e.1)) es))
  all-keys x [] h = tt
  all-keys x (e ∷ es) h = (h.0, all-keys x es h.1)

  pub IsDistinct-view : (es : List (String Z × IndexMap (String Z) ℕ S)) → IsDistinct string_eq (keys_of es) → IsDistinct bytes_eq (names (map (λ e. (string_bytes e.0, row_view e.1)) es))
  unfolding IsDistinct
  IsDistinct-view [] h = tt
  IsDistinct-view (e ∷ es) h = (all-keys (string_bytes e.0) es h.0, IsDistinct-view es h.1)

  pub length-row_view : (row : IndexMap (String Z) ℕ S) → length (row_view row) ≡ length row.entries
  length-row_view row = length-map row.entries (λ (e : String Z × ℕ). (string_bytes e.0, e.1))

  pub length-rows_view : (rows : IndexMap (String Z) (IndexMap (String Z) ℕ S) S) → length (rows_view rows) ≡ length rows.entries
  length-rows_view rows = length-map rows.entries (λ (e : String Z × IndexMap (String Z) ℕ S). (string_bytes e.0, row_view e.1))

  -- cut to as many rows as there were
  pub truncated : (old long new : IndexMap (String Z) (IndexMap (String Z) ℕ S) S) (n : ℕ) → n ≡ length old.entries → new.entries ≡ take n long.entries → rows_view new ≡ take (length (rows_view old)) (rows_view long)
  truncated old long new n e cut =
      let f : String Z × IndexMap (String Z) ℕ S → Name × Neighbors = λ e. (string_bytes e.0, row_view e.1) in
      ap (map f) cut ∙ sym (take-map f n long.entries) ∙ ap (λ k. take k (rows_view long)) (e ∙ sym (length-map old.entries f))

  -- the row at a place has the key, where its view does
  pub present_at : (es : List (String Z × IndexMap (String Z) ℕ S)) (i : ℕ) (row : IndexMap (String Z) ℕ S) (x : Name) → slice_get (values_of es) i ≡ Some row → IfSome {T = Name × Neighbors} (slice_get (map (λ e. (string_bytes e.0, row_view e.1)) es) i) (λ r. is_some (lookup (bytes_eq x) r.1) ≡ true)
      → is_some (lookup (λ k. bytes_eq x (string_bytes k)) row.entries) ≡ true
  present_at [] i row x at h = absurd (none-some row at)
  present_at (e ∷ es) zero row x at h = ap is_some (sym (lookup-row_view row x)) ∙ subst (λ r. is_some (lookup (bytes_eq x) (row_view r)) ≡ true) (same_Some e.1 row at) h
  present_at (e ∷ es) (suc i) row x at h = present_at es i row x at h

module _ {Z : Type 0} where
  pub set_value-put : (es : List (String Z × ℕ)) (x : Name) (w : ℕ) → is_some (lookup (λ k. bytes_eq x (string_bytes k)) es) ≡ true → map (λ e. (string_bytes e.0, e.1)) (set_value (λ k. bytes_eq x (string_bytes k)) es w) ≡ put (map (λ e. (string_bytes e.0, e.1)) es) x w
  set_value-put [] x w h = cc
  set_value-put (e ∷ es) x w h = by (set_value-put es x w) (bytes_eq x (string_bytes e.0)) h
    where
      by : (is_some (lookup (λ k. bytes_eq x (string_bytes k)) es) ≡ true → map (λ e. (string_bytes e.0, e.1)) (set_value (λ k. bytes_eq x (string_bytes k)) es w) ≡ put (map (λ e. (string_bytes e.0, e.1)) es) x w)
          → (b : Bool) → is_some (cond b (Some e.1) (lookup (λ k. bytes_eq x (string_bytes k)) es)) ≡ true
          → map (λ e. (string_bytes e.0, e.1)) (cond b ((e.0, w) ∷ es) (e ∷ set_value (λ k. bytes_eq x (string_bytes k)) es w)) ≡ cond b ((string_bytes e.0, w) ∷ map (λ e. (string_bytes e.0, e.1)) es) ((string_bytes e.0, e.1) ∷ put (map (λ e. (string_bytes e.0, e.1)) es) x w)
      by later true h = refl
      by later false h = ap (λ t. (string_bytes e.0, e.1) ∷ t) (later h)

-- ---- by places

module _ {K X Y : Type 0} (key : K → Name) (value : X → Y) where
  pub key_at-view : (es : List (K × X)) (i : ℕ) (o : Option (K × X)) → o ≡ slice_get es i → option_map (λ (e : K × X). key e.0) o ≡ slice_get (keys_of {K = Name} {X = Y} (map (λ e. (key e.0, value e.1)) es)) i
  key_at-view [] i o e = ap (option_map (λ (e : K × X). key e.0)) e
  key_at-view (x ∷ es) zero o e = ap (option_map (λ (e : K × X). key e.0)) e
  key_at-view (x ∷ es) (suc i) o e = key_at-view es i o e

module _ {Z S : Type 0} where
  -- the place of a name among the keys
  pub place-view : (rows : IndexMap (String Z) (IndexMap (String Z) ℕ S) S) (x : Name) → position (bytes_eq x) (names (rows_view rows)) ≡ position (λ k. bytes_eq x (string_bytes k)) (keys_of rows.entries)
  place-view rows x = ap (position (bytes_eq x)) (keys-view string_bytes row_view rows.entries) ∙ place-map string_bytes (bytes_eq x) (keys_of rows.entries)

  -- the row at a place
  pub row_at-view : (rows : IndexMap (String Z) (IndexMap (String Z) ℕ S) S) (i : ℕ) (e : String Z × IndexMap (String Z) ℕ S) → Some e ≡ slice_get rows.entries i → neighbors_at (rows_view rows) i ≡ row_view e.1
  row_at-view rows i e at =
      ap (λ o. option_map_or (λ (r : Name × Neighbors). r.1) o []) (slice_get-map {B = Name × Neighbors} (λ (e : String Z × IndexMap (String Z) ℕ S). (string_bytes e.0, row_view e.1)) rows.entries i ∙ ap (option_map {U = Name × Neighbors} (λ (e : String Z × IndexMap (String Z) ℕ S). (string_bytes e.0, row_view e.1))) (sym at))

  pub no_row_at-view : (rows : IndexMap (String Z) (IndexMap (String Z) ℕ S) S) (i : ℕ) → None ≡ slice_get rows.entries i → neighbors_at (rows_view rows) i ≡ []
  no_row_at-view rows i at =
      ap (λ o. option_map_or (λ (r : Name × Neighbors). r.1) o []) (slice_get-map {B = Name × Neighbors} (λ (e : String Z × IndexMap (String Z) ℕ S). (string_bytes e.0, row_view e.1)) rows.entries i ∙ ap (option_map {U = Name × Neighbors} (λ (e : String Z × IndexMap (String Z) ℕ S). (string_bytes e.0, row_view e.1))) (sym at))

  -- a neighbour in a row at a place
  pub entry_at-view : (row : IndexMap (String Z) ℕ S) (p : ℕ) (o : Option (String Z × ℕ)) → o ≡ slice_get row.entries p → option_map {U = Name × ℕ} (λ (e : String Z × ℕ). (string_bytes e.0, e.1)) o ≡ slice_get (row_view row) p
  entry_at-view row p o at = ap (option_map {U = Name × ℕ} (λ (e : String Z × ℕ). (string_bytes e.0, e.1))) at ∙ sym (slice_get-map {B = Name × ℕ} (λ (e : String Z × ℕ). (string_bytes e.0, e.1)) row.entries p)
