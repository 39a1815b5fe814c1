-- An order that is read up to a line.
use Rattle.std.proofs.Common.{◌≡◌, ◌≢◌, ℕ, ◌+◌, ◌<◌, ◌≤◌, Bool, true, false, cond, List, [], ◌∷◌, ◌++◌, map, length, set, replicate, Option, Some, None, option_to_list, Ok, Err, position, bytes_eq, refl, sym, ap, subst, ◌∙◌, arith, slice_index_or, append_assoc, suc, zero}
use Rattle.std.specs.Prelude.{slice_index, IfSome}
use Rattle.std.proofs.lemmas.Bool.{lt-ltb, le-ltb}
use Rattle.std.proofs.lemmas.List.{append-nil, length_push, length-map, map-append}
use Rattle.std.proofs.lemmas.Grind.{flat_map-append}
use Rattle.ir_model.specs.Graph.{Name, among}
use Rattle.ir_model.specs.Text.{lines, words, names_in}
use Rattle.ir_numbering.specs.Numbering.{IsListing}
use Rattle.ir_numbering.proofs.Placing.{IsPlacing, placing_start, placing_more, placing_done}
use Rattle.ir_script.specs.declared.order_fault.OrderFaultKind.{OrderFaultKind}
use Rattle.ir_script.specs.declared.order_fault.OrderFaultKind.TheVariants.{BadByte, BadRow, UnknownNode, Twice, Missing, NoMemory}
use Rattle.ir_script.specs.Order.{order_line_fault, end_fault, or_later_order, first_order_fault, order_fault, IsOrder, OrderTold, told_order}
use Rattle.ir_script.specs.Steps.{line_node, has_place, with_place}
use Rattle.ir_script.proofs.Lines.{ArePlaces, line_named, line_wrong, line_empty, line_known, place_of_named, named_of_place}

told : (line : ℕ) (kind : OrderFaultKind) (first : Option (ℕ × OrderFaultKind)) → first ≡ Some (line, kind) → OrderTold (told_order line kind) first
told line BadByte first e = e
told line BadRow first e = e
told line UnknownNode first e = e
told line Twice first e = e
told line Missing first e = e
told line NoMemory first e = refl

-- The lines before are read without a fault: their names' nodes are the order, and are marked.
pub record IsReading (nodes : List Name) (text order : List ℕ) (placed : List Bool) (line : ℕ) (rest : List ℕ) : Type 0 where
  pub before : List (List ℕ)
  pub same : order_fault nodes (lines text) ≡ first_order_fault nodes before (lines rest)
  pub split : lines text ≡ before ++ lines rest
  pub counted : length before ≡ line
  pub few : line + length rest ≤ length text
  pub named : ArePlaces nodes (names_in before) order
  pub placing : IsPlacing (length nodes) (length order) order placed

-- nothing is read yet
pub read_none : (nodes : List Name) (text : List ℕ) (n : ℕ) → n ≡ length nodes → IsReading nodes text [] (replicate n false) 0 text
read_none nodes text n is = record {
  before = [];
  same = refl;
  split = refl;
  counted = refl;
  few = omega arith;
  named = refl;
  placing = subst (λ (k : ℕ). IsPlacing (length nodes) 0 [] (replicate k false)) (sym is) (placing_start (length nodes) []);
}

-- what is at the end of an order
at_end : (order : List ℕ) (u : ℕ) → slice_index (order ++ u ∷ []) (length order) ≡ u
at_end [] u = refl
at_end (v ∷ order) u = at_end order u

at_before : (order more : List ℕ) (a : ℕ) → a < length order → slice_index (order ++ more) a ≡ slice_index order a
at_before [] more a lt = absurd (omega (arith, lt))
at_before (v ∷ order) more zero lt = refl
at_before (v ∷ order) more (suc a) lt = at_before order more a (omega (arith, lt))

-- marks of a list's first places are those of a longer one's
placing_longer : (n : ℕ) (order more : List ℕ) (placed : List Bool) → IsPlacing n (length order) order placed → IsPlacing n (length order) (order ++ more) placed
placing_longer n order more placed is = record {
  every = is.every;
  well = record {
    nodes = λ a lt. let e : slice_index (order ++ more) a ≡ slice_index order a = at_before order more a lt in omega (arith, e, is.well.nodes a lt);
    once = λ a b less lt e. is.well.once a b less lt (sym (at_before order more a (omega (arith, less, lt))) ∙ e ∙ at_before order more b lt);
  };
  marked = λ v m. let p = is.marked v m in (p.0, p.1, at_before order more p.0 p.1 ∙ p.2);
  all = λ a lt. ap (λ k. slice_index_or placed k false) (at_before order more a lt) ∙ is.all a lt;
}

module _ (nodes : List Name) (text order : List ℕ) (placed : List Bool) (line : ℕ) (rest current after : List ℕ) (is : IsReading nodes text order placed line rest)
    (split : lines rest ≡ current ∷ lines after) (shorter : length after < length rest) where
  names_more : names_in (is.before ++ current ∷ []) ≡ names_in is.before ++ words current
  names_more = flat_map-append words is.before (current ∷ []) ∙ ap (λ ns. names_in is.before ++ ns) (append-nil (words current))

  -- the fault of the line is the first, if it has one
  next_fault : order_fault nodes (lines text) ≡ or_later_order (length is.before + 1) (order_line_fault nodes (names_in is.before) current) (first_order_fault nodes (is.before ++ current ∷ []) (lines after))
  next_fault = is.same ∙ ap (first_order_fault nodes is.before) split

  line_told : (kind : OrderFaultKind) → order_line_fault nodes (names_in is.before) current ≡ Some kind → OrderTold (told_order (line + 1) kind) (order_fault nodes (lines text))
  line_told kind e =
      told (line + 1) kind _ (next_fault ∙ ap (λ o. or_later_order (length is.before + 1) o (first_order_fault nodes (is.before ++ current ∷ []) (lines after))) e ∙ ap (λ (n : ℕ). Some (n + 1, kind)) is.counted)

  -- the line is wrong by itself
  pub read_wrong : (kind : OrderFaultKind) → Err kind ≡ line_node nodes current → OrderTold (told_order (line + 1) kind) (order_fault nodes (lines text))
  read_wrong kind e = line_told kind (line_wrong nodes (names_in is.before) current kind e)

  known_twice : (w : Name) (u : ℕ) → position (bytes_eq w) nodes ≡ Some u → slice_index_or placed u false ≡ true → among (names_in is.before) w ≡ true
  known_twice w u found taken = let m = is.placing.marked u taken in named_of_place nodes (names_in is.before) order w u m.0 is.named found m.1 m.2

  known_once : (w : Name) (u : ℕ) → position (bytes_eq w) nodes ≡ Some u → slice_index_or placed u false ≡ false → among (names_in is.before) w ≡ false
  known_once w u found free = by (among (names_in is.before) w) refl
    where
      by : (t : Bool) → among (names_in is.before) w ≡ t → t ≡ false
      by false h = refl
      by true h =
          let p = place_of_named nodes (names_in is.before) order w u is.named found h in
          let marked : slice_index_or placed u false ≡ true = ap (λ k. slice_index_or placed k false) (sym p.2) ∙ is.placing.all p.0 p.1 in
          absurd (cc (marked, free))

  -- the line names a node that was named before, or memory was refused
  pub read_twice : (node : Option ℕ) → Ok node ≡ line_node nodes current → (kind : OrderFaultKind) → (kind ≢ NoMemory → (kind ≡ Twice) × (has_place placed node ≡ true)) → OrderTold (told_order (line + 1) kind) (order_fault nodes (lines text))
  read_twice u e NoMemory h = refl
  read_twice u e BadByte h = absurd (cc (h (λ k. cc k)).0)
  read_twice u e BadRow h = absurd (cc (h (λ k. cc k)).0)
  read_twice u e UnknownNode h = absurd (cc (h (λ k. cc k)).0)
  read_twice u e Missing h = absurd (cc (h (λ k. cc k)).0)
  read_twice None e Twice h = absurd (cc (h (λ k. cc k)).1)
  read_twice (Some u) e Twice h =
      let one = line_named nodes current (Some u) e in
      let twice = known_twice one.1.0 u one.1.2 (h (λ k. cc k)).1 in
      line_told Twice (line_known nodes (names_in is.before) current one.1.0 u one.0 one.1.1 one.1.2 ∙ ap (λ t. cond t (Some Twice) None) twice)

  -- the line has no fault
  read_next : (more : List ℕ) (marks : List Bool) → order_line_fault nodes (names_in is.before) current ≡ None → ArePlaces nodes (names_in is.before ++ words current) more → IsPlacing (length nodes) (length more) more marks
      → IsReading nodes text more marks (line + 1) after
  read_next more marks none named placing = record {
    before = is.before ++ current ∷ [];
    same = next_fault ∙ ap (λ o. or_later_order (length is.before + 1) o (first_order_fault nodes (is.before ++ current ∷ []) (lines after))) none;
    split = is.split ∙ ap (λ ls. is.before ++ ls) split ∙ sym (append_assoc is.before (current ∷ []) (lines after));
    counted = length_push is.before current ∙ ap (λ (n : ℕ). n + 1) is.counted;
    few = omega (arith, is.few, shorter);
    named = ap (map (λ name. position (bytes_eq name) nodes)) names_more ∙ named;
    placing = placing;
  }

  -- one more line is read
  pub read_on : (node : Option ℕ) → Ok node ≡ line_node nodes current → IfSome node (λ u. u < length nodes) → has_place placed node ≡ false → (more : List ℕ) (marks : List Bool) → more ≡ order ++ option_to_list node → marks ≡ with_place placed node
      → IsReading nodes text more marks (line + 1) after
  read_on node e within free more marks em ek =
      let P : List ℕ → Type 0 = λ xs. IsReading nodes text xs marks (line + 1) after in
      let Q : List Bool → Type 0 = λ ms. IsReading nodes text (order ++ option_to_list node) ms (line + 1) after in
      subst P (sym em) (subst Q (sym ek) (on node e within free))
    where
      on : (node : Option ℕ) → Ok node ≡ line_node nodes current → IfSome node (λ u. u < length nodes) → has_place placed node ≡ false → IsReading nodes text (order ++ option_to_list node) (with_place placed node) (line + 1) after
      on None e within free =
          let no = line_named nodes current None e in
          let same : order ++ [] ≡ order = append-nil order in
          subst (λ (xs : List ℕ). IsReading nodes text xs placed (line + 1) after) (sym same)
          (read_next order placed (line_empty nodes (names_in is.before) current no.0 no.1)
          (ap (λ ws. map (λ name. position (bytes_eq name) nodes) (names_in is.before ++ ws)) no.1 ∙ ap (map (λ name. position (bytes_eq name) nodes)) (append-nil (names_in is.before)) ∙ is.named)
          is.placing)
      on (Some u) e within free =
          let one = line_named nodes current (Some u) e in
          let w = one.1.0 in
          let once = known_once w u one.1.2 free in
          let places : ArePlaces nodes (names_in is.before ++ words current) (order ++ u ∷ []) =
          ap (λ ws. map (λ name. position (bytes_eq name) nodes) (names_in is.before ++ ws)) one.1.1
          ∙ map-append (λ name. position (bytes_eq name) nodes) (names_in is.before) (w ∷ [])
          ∙ ap (λ xs. xs ++ position (bytes_eq w) nodes ∷ []) is.named
          ∙ ap (λ o. map (λ v. Some v) order ++ o ∷ []) one.1.2
          ∙ sym (map-append (λ v. Some v) order (u ∷ [])) in
          let marks : IsPlacing (length nodes) (length order + 1) (order ++ u ∷ []) (set placed u true) =
          placing_more (length nodes) (length order) u (order ++ u ∷ []) placed (sym (at_end order u)) within free (placing_longer (length nodes) order (u ∷ []) placed is.placing) in
          read_next (order ++ u ∷ []) (set placed u true)
          (line_known nodes (names_in is.before) current w u one.0 one.1.1 one.1.2 ∙ ap (λ t. cond t (Some Twice) None) once)
          places
          (subst (λ (k : ℕ). IsPlacing (length nodes) k (order ++ u ∷ []) (set placed u true)) (sym (length_push order u)) marks)

-- ---- all is read

module _ (nodes : List Name) (text order : List ℕ) (placed : List Bool) (line : ℕ) (rest : List ℕ) (is : IsReading nodes text order placed line rest) (empty : rest ≡ []) where
  whole : lines text ≡ is.before
  whole = is.split ∙ ap (λ bs. is.before ++ lines bs) empty ∙ append-nil is.before

  last_fault : order_fault nodes (lines text) ≡ end_fault nodes is.before
  last_fault = is.same ∙ ap (λ bs. first_order_fault nodes is.before (lines bs)) empty

  counts : length (names_in is.before) ≡ length order
  counts = sym (length-map (names_in is.before) (λ name. position (bytes_eq name) nodes)) ∙ ap length is.named ∙ length-map order (λ u. Some u)

  -- a node is missing
  pub read_short : length order < length nodes → OrderTold (told_order line Missing) (order_fault nodes (lines text))
  read_short short =
      last_fault
      ∙ ap (λ t. cond t (Some (length is.before, Missing)) None) (lt-ltb (length (names_in is.before)) (length nodes) (omega (arith, counts, short)))
      ∙ ap (λ (n : ℕ). Some (n, Missing)) is.counted

  -- no node is
  pub read_all : length nodes ≤ length order → IsOrder nodes (lines text) order
  read_all enough = record {
    no_fault = last_fault ∙ ap (λ t. cond t (Some (length is.before, Missing)) None) (le-ltb (length (names_in is.before)) (length nodes) (omega (arith, counts, enough)));
    named = ap (λ ls. map (λ name. position (bytes_eq name) nodes) (names_in ls)) whole ∙ is.named;
  }

  pub read_listing : length nodes ≤ length order → IsListing (length nodes) order
  read_listing enough = placing_done (length nodes) (length order) order placed refl enough is.placing
