-- Two rows that were changed by place are two rows that were changed by name.
use Rattle.std.proofs.Common.{add-one, drop, ◌+◌, ◌≡◌, ◌<◌, ℕ, zero, suc, Bool, true, false, cond, List, [], ◌∷◌, ◌++◌, length, take, Option, Some, None, is_some, option_map, unwrap_or, IfSome, slice_get, refl, sym, ap, subst, ◌∙◌, bytes_eq, arith, nat_eq}
use Rattle.std.specs.Map.{lookup}
use Rattle.std.specs.List.{AllByRecursion, IsDistinct}
use Rattle.std.specs.Cmp.Lexicographic.{nat_list_eq_equiv}
use Rattle.std.proofs.lemmas.Map.Keys.{IsDistinct-head, IsDistinct-tail}
use Rattle.std.proofs.lemmas.Map.Entries.{lookup_from_place}
use Rattle.std.proofs.lemmas.Option.{same_Some, none-some, slice_get_within, slice_get-map}
use Rattle.std.proofs.lemmas.List.{length-map, map-append}
use Rattle.std.proofs.lemmas.Bool.{both_ways, eqb-false, eqb-true, ne_eqb}
use Rattle.ir_model.specs.Graph.{Name, Neighbors, Adjacency, names, neighbors, weight_of, has_node, put, linked, with_node, with_edge, without, unlinked, without_edge}
use Rattle.ir_model.proofs.Names.{same_names, bytes_eq-same, bytes_eq-swap}
use Rattle.ir_model.proofs.Graphs.{each_row, names-each_row}
use Rattle.ir_graph.specs.View.{change_row, linked_rows}

-- what holds of each holds at a place
pub at_place : {X : Type 0} (P : X → Type 0) (xs : List X) (i : ℕ) (x : X) → AllByRecursion P xs → slice_get xs i ≡ Some x → P x
at_place P [] i x all at = absurd (none-some x at)
at_place P (y ∷ ys) zero x all at = subst P (same_Some y x at) all.0
at_place P (y ∷ ys) (suc i) x all at = at_place P ys i x all.1 at

-- only the rows with this name
abbrev pub named : Name → (Neighbors → Neighbors) → Name → Neighbors → Neighbors
named x f n es = cond (bytes_eq n x) (f es) es

none_named : (x : Name) (f : Neighbors → Neighbors) (g : Adjacency) → AllByRecursion (λ n. bytes_eq x n ≡ false) (names g) → each_row (named x f) g ≡ g
none_named x f [] all = refl
none_named x f (r ∷ rs) all =
    ap (λ b. (r.0, cond b (f r.1) r.1) ∷ each_row (named x f) rs) (bytes_eq-swap r.0 x ∙ all.0) ∙ ap (λ t. r ∷ t) (none_named x f rs all.1)

pub change_named : (x : Name) (f : Neighbors → Neighbors) (g : Adjacency) (i : ℕ) → IsDistinct bytes_eq (names g) → slice_get (names g) i ≡ Some x → change_row g i f ≡ each_row (named x f) g
change_named x f [] i differ at = refl
change_named x f (r ∷ rs) zero differ at =
    let same : r.0 ≡ x = same_Some r.0 x at in
    sym (ap (λ b. (r.0, cond b (f r.1) r.1) ∷ each_row (named x f) rs) (ap (bytes_eq r.0) (sym same) ∙ bytes_eq-same r.0)
    ∙ ap (λ t. (r.0, f r.1) ∷ t) (none_named x f rs (subst (λ n. AllByRecursion (λ m. bytes_eq n m ≡ false) (names rs)) same (IsDistinct-head bytes_eq r.0 (names rs) differ))))
change_named x f (r ∷ rs) (suc i) differ at =
    let apart : bytes_eq r.0 x ≡ false = at_place (λ n. bytes_eq r.0 n ≡ false) (names rs) i x (IsDistinct-head bytes_eq r.0 (names rs) differ) at in
    ap (λ t. r ∷ t) (change_named x f rs i (IsDistinct-tail bytes_eq r.0 (names rs) differ) at)
    ∙ sym (ap (λ b. (r.0, cond b (f r.1) r.1) ∷ each_row (named x f) rs) apart)

-- the same name at one place alone
pub one_place : (ks : List Name) (i j : ℕ) (x : Name) → IsDistinct bytes_eq ks → slice_get ks i ≡ Some x → slice_get ks j ≡ Some x → i ≡ j
one_place [] i j x differ a b = absurd (none-some x a)
one_place (k ∷ ks) zero zero x differ a b = refl
one_place (k ∷ ks) zero (suc j) x differ a b =
    absurd (both_ways _ (at_place (λ n. bytes_eq k n ≡ false) ks j x (IsDistinct-head bytes_eq k ks differ) b) (ap (bytes_eq k) (sym (same_Some k x a)) ∙ bytes_eq-same k))
one_place (k ∷ ks) (suc i) zero x differ a b =
    absurd (both_ways _ (at_place (λ n. bytes_eq k n ≡ false) ks i x (IsDistinct-head bytes_eq k ks differ) a) (ap (bytes_eq k) (sym (same_Some k x b)) ∙ bytes_eq-same k))
one_place (k ∷ ks) (suc i) (suc j) x differ a b = ap suc (one_place ks i j x (IsDistinct-tail bytes_eq k ks differ) a b)

module _ (u v : Name) (w : ℕ) where
  both_named : bytes_eq u v ≡ false → (g : Adjacency) → each_row (named v (λ es. put es u w)) (each_row (named u (λ es. put es v w)) g) ≡ each_row (linked u v w) g
  both_named apart [] = refl
  both_named apart (r ∷ rs) = ap (λ es. (r.0, es) ∷ each_row (named v (λ es. put es u w)) (each_row (named u (λ es. put es v w)) rs)) (by (bytes_eq r.0 u) (bytes_eq r.0 v) refl refl) ∙ ap (λ t. (r.0, linked u v w r.0 r.1) ∷ t) (both_named apart rs)
    where
      by : (p q : Bool) → bytes_eq r.0 u ≡ p → bytes_eq r.0 v ≡ q → cond q (put (cond p (put r.1 v w) r.1) u w) (cond p (put r.1 v w) r.1) ≡ cond p (put r.1 v w) (cond q (put r.1 u w) r.1)
      by true true s t = absurd (both_ways _ apart (ap (bytes_eq u) (sym (same_names r.0 v t) ∙ same_names r.0 u s) ∙ bytes_eq-same u))
      by true false s t = refl
      by false true s t = refl
      by false false s t = refl

  once_named : (g : Adjacency) → u ≡ v → each_row (named u (λ es. put es v w)) g ≡ each_row (linked u v w) g
  once_named [] e = refl
  once_named (r ∷ rs) e = ap (λ es. (r.0, es) ∷ each_row (named u (λ es. put es v w)) rs) (by (bytes_eq r.0 u) (bytes_eq r.0 v) refl refl) ∙ ap (λ t. (r.0, linked u v w r.0 r.1) ∷ t) (once_named rs e)
    where
      by : (p q : Bool) → bytes_eq r.0 u ≡ p → bytes_eq r.0 v ≡ q → cond p (put r.1 v w) r.1 ≡ cond p (put r.1 v w) (cond q (put r.1 u w) r.1)
      by true q s t = refl
      by false true s t = absurd (both_ways _ s (ap (bytes_eq r.0) e ∙ t))
      by false false s t = refl

  pub joined-linked : (g : Adjacency) (i j : ℕ) → IsDistinct bytes_eq (names g) → slice_get (names g) i ≡ Some u → slice_get (names g) j ≡ Some v → linked_rows g i j u v w ≡ each_row (linked u v w) g
  joined-linked g i j differ at_i at_j = by (nat_eq i j) refl
    where
      half : change_row g i (λ es. put es v w) ≡ each_row (named u (λ es. put es v w)) g
      half = change_named u (λ es. put es v w) g i differ at_i

      differs : i ≡ j → u ≡ v
      differs e = same_Some u v (sym at_i ∙ ap (slice_get (names g)) e ∙ at_j)

      by : (b : Bool) → nat_eq i j ≡ b → cond b (change_row g i (λ es. put es v w)) (change_row (change_row g i (λ es. put es v w)) j (λ es. put es u w)) ≡ each_row (linked u v w) g
      by true t = half ∙ once_named g (differs (eqb-true i j t))
      by false t = ap (λ h. change_row h j (λ es. put es u w)) half ∙ change_named v (λ es. put es u w) (each_row (named u (λ es. put es v w)) g) j (subst (IsDistinct bytes_eq) (sym (names-each_row (named u (λ es. put es v w)) g)) differ) (ap (λ ks. slice_get ks j) (names-each_row (named u (λ es. put es v w)) g) ∙ at_j)
          ∙ both_named (no (bytes_eq u v) refl) g
        where
          no : (b : Bool) → bytes_eq u v ≡ b → b ≡ false
          no true s = absurd (eqb-false i j t (one_place (names g) i j u differ at_i (at_j ∙ ap (λ n. Some n) (sym (same_names u v s)))))
          no false s = refl

-- what is in a list is at the same place where more comes after it
pub place-append : {X : Type 0} (xs ys : List X) (i : ℕ) (x : X) → slice_get xs i ≡ Some x → slice_get (xs ++ ys) i ≡ Some x
place-append [] ys i x h = absurd (none-some x h)
place-append (y ∷ xs) ys zero x h = h
place-append (y ∷ xs) ys (suc i) x h = place-append xs ys i x h

pub place-with_node : (g : Adjacency) (x y : Name) (i : ℕ) → slice_get (names g) i ≡ Some y → slice_get (names (with_node g x)) i ≡ Some y
place-with_node g x y i h =
    elim (has_node g x) as (λ b. slice_get (names (cond b g (g ++ (x, []) ∷ []))) i ≡ Some y)
    [ true ↦ h | false ↦ rw (map-append (λ (r : Name × Neighbors). r.0) g ((x, []) ∷ [])) (place-append (names g) (x ∷ []) i y h) ]

-- the row at the place of u has no v, where the two are not linked
pub apart_at : (g : Adjacency) (i : ℕ) (u v : Name) → IsDistinct bytes_eq (names g) → slice_get (names g) i ≡ Some u → weight_of g u v ≡ None → IfSome (slice_get g i) (λ r. lookup (bytes_eq v) r.1 ≡ None)
apart_at g i u v differ at apart = by (slice_get g i) refl
  where
    by : (o : Option (Name × Neighbors)) → slice_get g i ≡ o → IfSome o (λ r. lookup (bytes_eq v) r.1 ≡ None)
    by None e = tt
    by (Some r) e =
        let named : r.0 ≡ u = same_Some r.0 u (sym (slice_get-map (λ (r : Name × Neighbors). r.0) g i ∙ ap (option_map (λ (r : Name × Neighbors). r.0)) e) ∙ at) in
        let found : lookup (bytes_eq r.0) g ≡ Some r.1 = lookup_from_place nat_list_eq_equiv g i r.0 r.1 differ e in
        sym (ap (λ o. lookup (bytes_eq v) (unwrap_or o [])) found) ∙ ap (λ n. weight_of g n v) named ∙ apart

-- what holds of the neighbours of u holds of the row at its place
pub row_at : (g : Adjacency) (i : ℕ) (u : Name) → IsDistinct bytes_eq (names g) → slice_get (names g) i ≡ Some u → (P : Neighbors → Type 0) → P (neighbors g u) → IfSome (slice_get g i) (λ r. P r.1)
row_at g i u differ at P p = by (slice_get g i) refl
  where
    by : (o : Option (Name × Neighbors)) → slice_get g i ≡ o → IfSome o (λ r. P r.1)
    by None e = tt
    by (Some r) e =
        let named : r.0 ≡ u = same_Some r.0 u (sym (slice_get-map (λ (r : Name × Neighbors). r.0) g i ∙ ap (option_map (λ (r : Name × Neighbors). r.0)) e) ∙ at) in
        let found : lookup (bytes_eq r.0) g ≡ Some r.1 = lookup_from_place nat_list_eq_equiv g i r.0 r.1 differ e in
        subst P (sym (ap (λ n. neighbors g n) named) ∙ ap (λ o. unwrap_or o []) found) p

pub place_within : (g : Adjacency) (i : ℕ) (u : Name) → slice_get (names g) i ≡ Some u → i < length g
place_within g i u at = subst (λ n. i < n) (length-map g (λ (r : Name × Neighbors). r.0)) (slice_get_within (names g) i u at)

pub slice_get-change_row : (g : Adjacency) (i j : ℕ) (f : Neighbors → Neighbors) → nat_eq i j ≡ false → slice_get (change_row g i f) j ≡ slice_get g j
slice_get-change_row [] i j f h = refl
slice_get-change_row (r ∷ rs) zero zero f h = absurd (eqb-false 0 0 h refl)
slice_get-change_row (r ∷ rs) zero (suc j) f h = refl
slice_get-change_row (r ∷ rs) (suc i) zero f h = refl
slice_get-change_row (r ∷ rs) (suc i) (suc j) f h = slice_get-change_row rs i j f (ne_eqb i j (λ e. eqb-false (suc i) (suc j) h (ap suc e)))

-- nodes that are there are not added
pub with_edge-there : (g : Adjacency) (u v : Name) (w : ℕ) → has_node g u ≡ true → has_node g v ≡ true → with_edge g u v w ≡ each_row (linked u v w) g
with_edge-there g u v w has_u has_v = ap (each_row (linked u v w)) (ap (λ h. with_node h v) (ap (λ b. cond b g (g ++ (u, []) ∷ [])) has_u) ∙ ap (λ b. cond b g (g ++ (v, []) ∷ [])) has_v)

-- a weight that is there shows its first end
pub has_node-weight_of : (g : Adjacency) (u v : Name) → is_some (weight_of g u v) ≡ true → has_node g u ≡ true
has_node-weight_of g u v h = by (lookup (bytes_eq u) g) h
  where
    by : (o : Option Neighbors) → is_some (lookup (bytes_eq v) (unwrap_or o [])) ≡ true → is_some o ≡ true
    by None h = h
    by (Some r) h = refl

-- ---- a link that goes

module _ (u v : Name) where
  both_cut : bytes_eq u v ≡ false → (g : Adjacency) → each_row (named v (λ es. without es u)) (each_row (named u (λ es. without es v)) g) ≡ each_row (unlinked u v) g
  both_cut apart [] = refl
  both_cut apart (r ∷ rs) = ap (λ es. (r.0, es) ∷ each_row (named v (λ es. without es u)) (each_row (named u (λ es. without es v)) rs)) (by (bytes_eq r.0 u) (bytes_eq r.0 v) refl refl) ∙ ap (λ t. (r.0, unlinked u v r.0 r.1) ∷ t) (both_cut apart rs)
    where
      by : (p q : Bool) → bytes_eq r.0 u ≡ p → bytes_eq r.0 v ≡ q → cond q (without (cond p (without r.1 v) r.1) u) (cond p (without r.1 v) r.1) ≡ cond p (without r.1 v) (cond q (without r.1 u) r.1)
      by true true s t = absurd (both_ways _ apart (ap (bytes_eq u) (sym (same_names r.0 v t) ∙ same_names r.0 u s) ∙ bytes_eq-same u))
      by true false s t = refl
      by false true s t = refl
      by false false s t = refl

  once_cut : (g : Adjacency) → u ≡ v → each_row (named u (λ es. without es v)) g ≡ each_row (unlinked u v) g
  once_cut [] e = refl
  once_cut (r ∷ rs) e = ap (λ es. (r.0, es) ∷ each_row (named u (λ es. without es v)) rs) (by (bytes_eq r.0 u) (bytes_eq r.0 v) refl refl) ∙ ap (λ t. (r.0, unlinked u v r.0 r.1) ∷ t) (once_cut rs e)
    where
      by : (p q : Bool) → bytes_eq r.0 u ≡ p → bytes_eq r.0 v ≡ q → cond p (without r.1 v) r.1 ≡ cond p (without r.1 v) (cond q (without r.1 u) r.1)
      by true q s t = refl
      by false true s t = absurd (both_ways _ s (ap (bytes_eq r.0) e ∙ t))
      by false false s t = refl

  pub cut-once : (g : Adjacency) (i j : ℕ) → IsDistinct bytes_eq (names g) → slice_get (names g) i ≡ Some u → slice_get (names g) j ≡ Some v → i ≡ j → change_row g i (λ es. without es v) ≡ without_edge g u v
  cut-once g i j differ at_i at_j e = change_named u (λ es. without es v) g i differ at_i ∙ once_cut g (same_Some u v (sym at_i ∙ ap (slice_get (names g)) e ∙ at_j))

  pub cut-both : (g : Adjacency) (i j : ℕ) → IsDistinct bytes_eq (names g) → slice_get (names g) i ≡ Some u → slice_get (names g) j ≡ Some v → (i ≡ j → ⊥) → change_row (change_row g i (λ es. without es v)) j (λ es. without es u) ≡ without_edge g u v
  cut-both g i j differ at_i at_j ne =
      ap (λ h. change_row h j (λ es. without es u)) (change_named u (λ es. without es v) g i differ at_i)
      ∙ change_named v (λ es. without es u) (each_row (named u (λ es. without es v)) g) j (subst (IsDistinct bytes_eq) (sym (names-each_row (named u (λ es. without es v)) g)) differ) (ap (λ ks. slice_get ks j) (names-each_row (named u (λ es. without es v)) g) ∙ at_j)
      ∙ both_cut (no (bytes_eq u v) refl) g
    where
      no : (b : Bool) → bytes_eq u v ≡ b → b ≡ false
      no true s = absurd (ne (one_place (names g) i j u differ at_i (at_j ∙ ap (λ n. Some n) (sym (same_names u v s)))))
      no false s = refl

-- ---- a node that goes: its name goes from row after row

pub next_row_cut : (f : Neighbors → Neighbors) (g : Adjacency) (i : ℕ) → i < length g → change_row (each_row (λ _ es. f es) (take i g) ++ drop i g) i f ≡ each_row (λ _ es. f es) (take (i + 1) g) ++ drop (i + 1) g
next_row_cut f [] i h = absurd (omega arith)
next_row_cut f (r ∷ rs) zero h = refl
next_row_cut f (r ∷ rs) (suc i) h = rw (add-one (suc i)) (ap (λ t. (r.0, f r.1) ∷ t) (next_row_cut f rs i (omega arith) ∙ ap (λ k. each_row (λ _ es. f es) (take k rs) ++ drop k rs) (add-one i)))
