-- What is no text is no node's name.
use Rattle.std.proofs.Common.{◌≡◌, Bool, true, false, not, cond, List, [], ◌∷◌, length, None, Some, position, nat_lt, IsUtf8, bytes_eq, refl, subst, sym, arith}
use Rattle.std.specs.List.{prefix_len, list_all}
use Rattle.std.proofs.lemmas.Bool.{ltb-true, and_parts, and_from}
use Rattle.ir_model.specs.Graph.{Name, Adjacency, names, is_name, is_weight, is_row}
use Rattle.ir_model.proofs.Names.{same_names}
use Rattle.ir_adjlist.proofs.Names.{utf8_from_named}
use Rattle.ir_adjlist.proofs.Spelling.{prefix_all}

position_none : (p : Name → Bool) (xs : List Name) → list_all (λ y. not (p y)) xs ≡ true → position p xs ≡ None
position_none p xs h = by (nat_lt (prefix_len (λ y. not (p y)) xs) (length xs)) refl
  where
    by : (t : Bool) → nat_lt (prefix_len (λ y. not (p y)) xs) (length xs) ≡ t → cond t (Some (prefix_len (λ y. not (p y)) xs)) None ≡ None
    by true e = absurd (omega (arith, prefix_all (λ y. not (p y)) xs h, ltb-true _ _ e))
    by false e = refl

module _ (word : Name) (no_text : IsUtf8 word → ⊥) where
  differs : (x : Name) → is_name x ≡ true → not (bytes_eq word x) ≡ true
  differs x h = by (bytes_eq word x) refl
    where
      by : (t : Bool) → bytes_eq word x ≡ t → not t ≡ true
      by true e = absurd (no_text (subst IsUtf8 (sym (same_names word x e)) (utf8_from_named x h)))
      by false e = refl

  all_differ : (g : Adjacency) → list_all is_row g ≡ true → list_all (λ y. not (bytes_eq word y)) (names g) ≡ true
  all_differ [] h = refl
  all_differ (r ∷ rs) h =
      let row = and_parts (is_row r) (list_all is_row rs) h in
      let name = and_parts (is_name r.0) (list_all (λ e. is_weight e.1) r.1) row.0 in
      and_from _ _ (differs r.0 name.0) (all_differ rs row.1)

  pub no_node : (g : Adjacency) → list_all is_row g ≡ true → position (bytes_eq word) (names g) ≡ None
  no_node g h = position_none (bytes_eq word) (names g) (all_differ g h)
