-- The lines that are read so far.
use Rattle.std.proofs.Common.{◌≡◌, ◌<◌, ◌≤◌, ◌+◌, ℕ, Bool, true, not, ◌==◌, List, [], ◌∷◌, ◌++◌, length, flat_map, refl, sym, ap, subst, ◌∙◌, arith, append_assoc}
use Rattle.std.specs.List.{list_all, join_with_byte}
use Rattle.std.proofs.lemmas.Bool.{and_parts, both_ways, leb-true, ne_eqb, not_from_false}
use Rattle.std.proofs.lemmas.List.{append-nil, length-append}
use Rattle.std.proofs.lemmas.List.Concat.{flat_map-append}
use Rattle.ir_model.specs.Graph.{Adjacency}
use Rattle.ir_trace.specs.declared.finding.FindingKind.{FindingKind}
use Rattle.ir_trace.specs.declared.finding.FindingKind.TheVariants.{NotTrace, BadRow, UnknownNode, UnknownEpoch, NotAPrefix, NotAtDestination, BadWeight, Repeated, NoMemory}
use Rattle.ir_trace.specs.declared.row.Version.{Version}
use Rattle.ir_trace.specs.declared.row.Version.TheVariants.{One, Two}
use Rattle.ir_trace.specs.Rows.{RowText, IsRowText, row_words, row_line, header, trace_text}
use Rattle.ir_trace.specs.Row.{TraceRow}
use Rattle.ir_trace.specs.Reading.{IsReadAs, AreReadAs, IsTraceIn, IsFaultOf, IsFirstFault, TellsFinding}
use Rattle.ir_trace.specs.Line.{HasNoFeed, CutsLine, LineSays, IsLineOf, LineTold}
use Rattle.ir_trace.proofs.ReadLines.{is_word_byte, joined_all}
use Rattle.ir_trace.proofs.ReadRows.{row_words_all}

-- ---- the first line feed

abbrev is_text : ℕ → Bool
is_text b = not (b == 10)

no_feed_first : (x : ℕ) (xs : List ℕ) → HasNoFeed (x ∷ xs) → 10 ≡ x → ⊥
no_feed_first x xs h e = both_ways (is_text x) (ap is_text (sym e)) (and_parts (is_text x) (list_all is_text xs) h).0

no_feed_behind : (x : ℕ) (xs : List ℕ) → HasNoFeed (x ∷ xs) → HasNoFeed xs
no_feed_behind x xs h = (and_parts (is_text x) (list_all is_text xs) h).1

no_feed_in : (xs ys : List ℕ) → HasNoFeed (xs ++ 10 ∷ ys) → ⊥
no_feed_in [] ys h = no_feed_first 10 ys h refl
no_feed_in (x ∷ xs) ys h = no_feed_in xs ys (no_feed_behind x (xs ++ 10 ∷ ys) h)

pub first_cut : (xs ys a b : List ℕ) → HasNoFeed xs → HasNoFeed ys → xs ++ 10 ∷ a ≡ ys ++ 10 ∷ b → (xs ≡ ys) × (a ≡ b)
first_cut [] [] a b h k e = (refl, cc e)
first_cut [] (y ∷ ys) a b h k e = absurd (no_feed_first y ys k (cc e))
first_cut (x ∷ xs) [] a b h k e = absurd (no_feed_first x xs h (cc e))
first_cut (x ∷ xs) (y ∷ ys) a b h k e =
    let later = first_cut xs ys a b (no_feed_behind x xs h) (no_feed_behind y ys k) (cc e) in
    let same : x ≡ y = cc e in
    (ap (λ c. c ∷ xs) same ∙ ap (λ t. y ∷ t) later.0, later.1)

text_byte : (b : ℕ) → is_word_byte b ≡ true → is_text b ≡ true
text_byte b h = not_from_false (b == 10) (ne_eqb b 10 (λ e. omega (arith, e, leb-true 33 b (and_parts _ _ h).0)))

pub row_no_feed : (v : Version) (text : RowText) → IsRowText v text → HasNoFeed (join_with_byte 32 (row_words v text))
row_no_feed v text is = joined_all is_text text_byte refl (row_words v text) (row_words_all v text is)

-- a row's line at the front is the line at the front
pub line_front : (v : Version) (rest line after : List ℕ) → CutsLine rest line after → (text : RowText) → IsRowText v text → (more : List ℕ) → rest ≡ row_line v text ++ more → LineSays v line text × (more ≡ after)
line_front v rest line after cut text is more e =
    let same = first_cut (join_with_byte 32 (row_words v text)) line more after (row_no_feed v text is) cut.inside (sym (append_assoc (join_with_byte 32 (row_words v text)) (10 ∷ []) more) ∙ sym e ∙ cut.whole) in
    (record { text_is = is; words_are = sym same.0 }, same.1)

pub line_is_front : (v : Version) (rest line after : List ℕ) → CutsLine rest line after → (text : RowText) → LineSays v line text → rest ≡ row_line v text ++ after
line_is_front v rest line after cut text says = cut.whole ∙ ap (λ t. t ++ 10 ∷ after) says.words_are ∙ sym (append_assoc (join_with_byte 32 (row_words v text)) (10 ∷ []) after)

-- ---- the lines before this place are those of a trace, and so many

pub record IsReadTo (v : Version) (g : Adjacency) (text : List ℕ) (rows : List TraceRow) (line : ℕ) (rest : List ℕ) : Type 0 where
  pub front : List ℕ
  pub whole : text ≡ front ++ rest
  pub before : IsTraceIn v g front rows
  pub number : line ≡ length rows + 1
  pub counted : line + length rest ≤ length text

pub read_header : (v : Version) (g : Adjacency) (text rest : List ℕ) → text ≡ header v ++ rest → IsReadTo v g text [] 1 rest
read_header v g text rest e = record {
  front = header v;
  whole = e;
  before = ([], sym (append-nil (header v)), tt);
  number = refl;
  counted = long v e;
}
  where
    long : (v : Version) → text ≡ header v ++ rest → 1 + length rest ≤ length text
    long One e = omega (arith, ap length e, length-append (header One) rest)
    long Two e = omega (arith, ap length e, length-append (header Two) rest)

pub trace_text-push : (v : Version) (texts : List RowText) (text : RowText) → trace_text v (texts ++ text ∷ []) ≡ trace_text v texts ++ row_line v text
trace_text-push v texts text =
    ap (λ t. header v ++ t) (flat_map-append (row_line v) texts (text ∷ []) ∙ ap (λ t. flat_map (row_line v) texts ++ t) (append-nil (row_line v text)))
    ∙ sym (append_assoc (header v) (flat_map (row_line v) texts) (row_line v text))

read_push : (v : Version) (g : Adjacency) (texts : List RowText) (rows : List TraceRow) (text : RowText) (row : TraceRow) → AreReadAs v g texts rows → IsRowText v text → IsReadAs g text row → AreReadAs v g (texts ++ text ∷ []) (rows ++ row ∷ [])
read_push v g [] [] text row are is read = (is, read, tt)
read_push v g [] (r ∷ rows) text row are is read = absurd are
read_push v g (t ∷ texts) [] text row are is read = absurd are
read_push v g (t ∷ texts) (r ∷ rows) text row are is read = (are.0, are.1, read_push v g texts rows text row are.2 is read)

module _ (v : Version) (g : Adjacency) (text : List ℕ) (rows : List TraceRow) (line : ℕ) (rest : List ℕ) (read : IsReadTo v g text rows line rest) where
  pub read_line : (current after : List ℕ) (row : TraceRow) → CutsLine rest current after → IsLineOf v g current row → IsReadTo v g text (rows ++ row ∷ []) (line + 1) after
  read_line current after row cut of_line =
      let shown : rest ≡ row_line v of_line.0 ++ after = line_is_front v rest current after cut of_line.0 of_line.1 in
      record {
        front = read.front ++ row_line v of_line.0;
        whole = read.whole ∙ ap (λ t. read.front ++ t) shown ∙ sym (append_assoc read.front (row_line v of_line.0) after);
        before = (
          read.before.0 ++ of_line.0 ∷ [],
          ap (λ t. t ++ row_line v of_line.0) read.before.1 ∙ sym (trace_text-push v read.before.0 of_line.0),
          read_push v g read.before.0 rows of_line.0 row read.before.2 of_line.1.text_is of_line.2,
        );
        number = omega (arith, read.number, length-append rows (row ∷ []));
        counted = omega (arith, read.counted, ap length cut.whole, length-append current (10 ∷ after));
      }

  module _ (some : 0 < length rest) where
    first_fault : (kind : FindingKind) → IsFaultOf v g rest kind → IsFirstFault g text (line + 1) kind
    first_fault kind fault = record { version = v; good = rows; front = read.front; rest = rest; whole = read.whole; before = read.before; more = some; number = omega (arith, read.number); fault = fault }

    -- no line feed is left
    pub no_line : HasNoFeed rest → IsFirstFault g text (line + 1) BadRow
    no_line none = first_fault BadRow (λ t is more e. no_feed_in (join_with_byte 32 (row_words v t)) more (subst HasNoFeed (e ∙ append_assoc (join_with_byte 32 (row_words v t)) (10 ∷ []) more) none))

    pub line_told : (current after : List ℕ) → CutsLine rest current after → (told : ℕ) (kind : FindingKind) → LineTold v g current (line + 1) told kind → TellsFinding g text told kind
    line_told current after cut told NotTrace h = absurd h.1
    line_told current after cut told BadRow h =
        subst (λ n. IsFirstFault g text n BadRow) (sym h.0) (first_fault BadRow (λ t is more e. h.1 t (line_front v rest current after cut t is more e).0))
    line_told current after cut told UnknownNode h =
        subst (λ n. IsFirstFault g text n UnknownNode) (sym h.0) (first_fault UnknownNode (h.1.0, after, h.1.1.text_is, line_is_front v rest current after cut h.1.0 h.1.1, h.1.2))
    line_told current after cut told UnknownEpoch h = absurd h.1
    line_told current after cut told NotAPrefix h = absurd h.1
    line_told current after cut told NotAtDestination h = absurd h.1
    line_told current after cut told BadWeight h = absurd h.1
    line_told current after cut told Repeated h = absurd h.1
    line_told current after cut told NoMemory h = h
