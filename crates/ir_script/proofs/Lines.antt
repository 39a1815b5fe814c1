-- What the node of a line says of the line's fault.
use Rattle.std.proofs.Common.{◌≡◌, ℕ, ◌<◌, Bool, true, false, not, cond, ◌||◌, List, [], ◌∷◌, map, length, Option, Some, None, Ok, Err, position, bytes_eq, refl, sym, ap, ◌∙◌, arith, slice_get, suc, zero}
use Rattle.std.specs.Prelude.{slice_index}
use Rattle.std.specs.List.{position_or_len, list_all}
use Rattle.std.proofs.lemmas.List.{take_all}
use Rattle.std.proofs.lemmas.Option.{same_Some}
use Rattle.ir_model.specs.Graph.{Name, among}
use Rattle.ir_model.specs.Text.{content, words, is_plain}
use Rattle.ir_model.proofs.Names.{same_names, bytes_eq-same}
use Rattle.ir_graph.proofs.Places.{named_place, among-take}
use Rattle.ir_script.specs.declared.order_fault.OrderFaultKind.{OrderFaultKind}
use Rattle.ir_script.specs.declared.order_fault.OrderFaultKind.TheVariants.{BadByte, BadRow, UnknownNode, Twice}
use Rattle.ir_script.specs.Order.{words_fault, order_line_fault}
use Rattle.ir_script.specs.Steps.{listed_node, words_node, line_node}

-- a name is found exactly where it is among the nodes
place-among : (nodes : List Name) (name : Name) → position (bytes_eq name) nodes ≡ cond (among nodes name) (Some (position_or_len (bytes_eq name) nodes)) None
place-among nodes name =
    ap (λ t. cond t (Some (position_or_len (bytes_eq name) nodes)) None)
    (sym (ap (λ ns. among ns name) (sym (take_all (length nodes) nodes (omega arith))) ∙ among-take nodes name (length nodes) (omega arith)))

-- the node at the place of a name has this name
pub named_at : (nodes : List Name) (name : Name) (u : ℕ) → position (bytes_eq name) nodes ≡ Some u → slice_get nodes u ≡ Some name
named_at nodes name u e = by (among nodes name) refl (sym (place-among nodes name) ∙ e)
  where
    by : (t : Bool) → among nodes name ≡ t → cond t (Some (position_or_len (bytes_eq name) nodes)) None ≡ Some u → slice_get nodes u ≡ Some name
    by true h k = let same : position_or_len (bytes_eq name) nodes ≡ u = same_Some _ _ k in ap (slice_get nodes) (sym same) ∙ named_place nodes name h
    by false h k = absurd (cc k)

-- the words of a line that names a node, and of one that names none
abbrev pub NamesOne : List Name → List Name → Option ℕ → Type 0
NamesOne nodes ws None = ws ≡ []
NamesOne nodes ws (Some u) = (name : Name) × (ws ≡ name ∷ []) × (position (bytes_eq name) nodes ≡ Some u)

module _ (nodes : List Name) where
  words_named : (ws : List Name) (node : Option ℕ) → Ok node ≡ words_node nodes ws → NamesOne nodes ws node
  words_named [] None e = refl
  words_named [] (Some u) e = absurd (cc e)
  words_named (w ∷ []) u e = by (position (bytes_eq w) nodes) refl u e
    where
      by : (o : Option ℕ) → position (bytes_eq w) nodes ≡ o → (node : Option ℕ) → Ok node ≡ listed_node o → NamesOne nodes (w ∷ []) node
      by None h u k = absurd (cc k)
      by (Some v) h None k = absurd (cc k)
      by (Some v) h (Some u) k = let same : v ≡ u = cc k in (w, refl, h ∙ ap Some same)
  words_named (w ∷ x ∷ ws) u e = absurd (cc e)

  words_wrong : (named ws : List Name) (kind : OrderFaultKind) → Err kind ≡ words_node nodes ws → words_fault nodes named ws ≡ Some kind
  words_wrong named [] kind e = absurd (cc e)
  words_wrong named (w ∷ []) kind e = by (among nodes w) refl (e ∙ ap listed_node (place-among nodes w))
    where
      by : (t : Bool) → among nodes w ≡ t → Err kind ≡ listed_node (cond t (Some (position_or_len (bytes_eq w) nodes)) None) → cond (not t) (Some UnknownNode) (cond (among named w) (Some Twice) None) ≡ Some kind
      by true h k = absurd (cc k)
      by false h k = let same : kind ≡ UnknownNode = cc k in ap Some (sym same)
  words_wrong named (w ∷ x ∷ ws) kind e = let same : kind ≡ BadRow = cc e in ap Some (sym same)

  -- a line that names a node, or none
  pub line_named : (line : List ℕ) (node : Option ℕ) → Ok node ≡ line_node nodes line → (list_all is_plain (content line) ≡ true) × NamesOne nodes (words line) node
  line_named line node e = by (list_all is_plain (content line)) refl e
    where
      by : (t : Bool) → list_all is_plain (content line) ≡ t → Ok node ≡ cond (not t) (Err BadByte) (words_node nodes (words line)) → (list_all is_plain (content line) ≡ true) × NamesOne nodes (words line) node
      by true h k = (h, words_named (words line) node k)
      by false h k = absurd (cc k)

  -- a line that is wrong whatever is before it
  pub line_wrong : (named : List Name) (line : List ℕ) (kind : OrderFaultKind) → Err kind ≡ line_node nodes line → order_line_fault nodes named line ≡ Some kind
  line_wrong named line kind e = by (list_all is_plain (content line)) e
    where
      by : (t : Bool) → Err kind ≡ cond (not t) (Err BadByte) (words_node nodes (words line)) → cond (not t) (Some BadByte) (words_fault nodes named (words line)) ≡ Some kind
      by true k = words_wrong named (words line) kind k
      by false k = let same : kind ≡ BadByte = cc k in ap Some (sym same)

  words_known : (named : List Name) (w : Name) (u : ℕ) → position (bytes_eq w) nodes ≡ Some u → words_fault nodes named (w ∷ []) ≡ cond (among named w) (Some Twice) None
  words_known named w u e = by (among nodes w) refl (sym (place-among nodes w) ∙ e)
    where
      by : (t : Bool) → among nodes w ≡ t → cond t (Some (position_or_len (bytes_eq w) nodes)) None ≡ Some u → cond (not t) (Some UnknownNode) (cond (among named w) (Some Twice) None) ≡ cond (among named w) (Some Twice) None
      by true h k = refl
      by false h k = absurd (cc k)

  -- the fault of a plain line by its words
  plain_fault : (named : List Name) (line : List ℕ) → list_all is_plain (content line) ≡ true → order_line_fault nodes named line ≡ words_fault nodes named (words line)
  plain_fault named line h = ap (λ t. cond (not t) (Some BadByte) (words_fault nodes named (words line))) h

  -- a line with no word has no fault
  pub line_empty : (named : List Name) (line : List ℕ) → list_all is_plain (content line) ≡ true → words line ≡ [] → order_line_fault nodes named line ≡ None
  line_empty named line plain none = plain_fault named line plain ∙ ap (words_fault nodes named) none

  -- a line with the name of a node has a fault where the name came before
  pub line_known : (named : List Name) (line : List ℕ) (w : Name) (u : ℕ) → list_all is_plain (content line) ≡ true → words line ≡ w ∷ [] → position (bytes_eq w) nodes ≡ Some u
      → order_line_fault nodes named line ≡ cond (among named w) (Some Twice) None
  line_known named line w u plain one found = plain_fault named line plain ∙ ap (words_fault nodes named) one ∙ words_known named w u found

  -- ---- places and names

  -- the names' places are the order
  abbrev pub ArePlaces : List Name → List ℕ → Type 0
  ArePlaces named order = map (λ name. position (bytes_eq name) nodes) named ≡ map (λ u. Some u) order

  -- a name that came before has its place in the order
  pub place_of_named : (named : List Name) (order : List ℕ) (w : Name) (u : ℕ) → ArePlaces named order → position (bytes_eq w) nodes ≡ Some u → among named w ≡ true
      → (a : ℕ) × (a < length order) × (slice_index order a ≡ u)
  place_of_named [] order w u are found is = absurd (cc is)
  place_of_named (x ∷ named) [] w u are found is = absurd (cc are)
  place_of_named (x ∷ named) (v ∷ order) w u are found is = by (bytes_eq w x) refl is (λ k. place_of_named named order w u tail found k)
    where
      head : position (bytes_eq x) nodes ≡ Some v
      head = cc are

      tail : ArePlaces named order
      tail = cc are

      by : (t : Bool) → bytes_eq w x ≡ t → (t || among named w) ≡ true → (among named w ≡ true → (a : ℕ) × (a < length order) × (slice_index order a ≡ u))
          → (a : ℕ) × (a < length (v ∷ order)) × (slice_index (v ∷ order) a ≡ u)
      by true h k later =
          let same : Some v ≡ Some u = sym head ∙ ap (λ n. position (bytes_eq n) nodes) (sym (same_names w x h)) ∙ found in
          (0, omega arith, same_Some _ _ same)
      by false h k later = let p = later k in (suc p.0, omega (arith, p.1), p.2)

  -- a node in the order was named
  pub named_of_place : (named : List Name) (order : List ℕ) (w : Name) (u a : ℕ) → ArePlaces named order → position (bytes_eq w) nodes ≡ Some u → a < length order → slice_index order a ≡ u → among named w ≡ true
  named_of_place named [] w u a are found lt is = absurd (omega (arith, lt))
  named_of_place [] (v ∷ order) w u a are found lt is = absurd (cc are)
  named_of_place (x ∷ named) (v ∷ order) w u zero are found lt is =
      let head : position (bytes_eq x) nodes ≡ Some v = cc are in
      let at_x : slice_get nodes v ≡ Some x = named_at nodes x v head in
      let at_w : slice_get nodes u ≡ Some w = named_at nodes w u found in
      let same : w ≡ x = same_Some _ _ (sym at_w ∙ ap (slice_get nodes) (sym is) ∙ at_x) in
      ap (λ n. bytes_eq w n || among named w) (sym same) ∙ ap (λ t. t || among named w) (bytes_eq-same w)
  named_of_place (x ∷ named) (v ∷ order) w u (suc a) are found lt is =
      let tail : ArePlaces named order = cc are in
      let later = named_of_place named order w u a tail found (omega (arith, lt)) is in
      or_later_true (bytes_eq w x) later
    where
      or_later_true : (t : Bool) → among named w ≡ true → (t || among named w) ≡ true
      or_later_true true h = refl
      or_later_true false h = h
