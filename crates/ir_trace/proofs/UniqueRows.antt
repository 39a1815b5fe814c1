-- A text is one trace at most, and a trace has no fault.
use Rattle.std.proofs.Common.{◌≡◌, ◌<◌, ℕ, List, [], ◌∷◌, ◌++◌, length, flat_map, map, get_or, Some, refl, sym, ap, subst, ◌∙◌, arith, append_assoc}
use Rattle.std.specs.List.{join_with_byte}
use Rattle.std.proofs.lemmas.Fmt.{decimal_injective}
use Rattle.std.proofs.lemmas.List.{append-nil, length-append}
use Rattle.ir_model.specs.Graph.{Adjacency}
use Rattle.ir_trace.specs.declared.row.RowFate.{RowFate}
use Rattle.ir_trace.specs.declared.finding.FindingKind.{FindingKind}
use Rattle.ir_trace.specs.declared.finding.FindingKind.TheVariants.{NotTrace, BadRow, UnknownNode, UnknownEpoch, NotAPrefix, NotAtDestination, BadWeight, Repeated, NoMemory}
use Rattle.ir_trace.specs.declared.row.Version.{Version}
use Rattle.ir_trace.specs.declared.row.Version.TheVariants.{One, Two}
use Rattle.ir_trace.specs.Rows.{FateText, Delivered, Retired, Down, Full, Left, PartText, RowText, IsRowText, row_words, part_words, first_part, row_line, header}
use Rattle.ir_trace.specs.Row.{Segment, TraceRow}
use Rattle.ir_trace.specs.Reading.{FateIsReadAs, PartsAreReadAs, IsReadAs, AreReadAs, IsTraceIn, IsTrace, IsFirstFault, TellsFinding}
use Rattle.ir_trace.specs.Spelled.{AreParts}
use Rattle.ir_trace.specs.Line.{LineSays}
use Rattle.ir_trace.proofs.ReadSpellings.{fate_words-same, one_part, first_is}
use Rattle.ir_trace.proofs.ReadParts.{all_same}
use Rattle.ir_trace.proofs.ReadRows.{says_words, words_same}
use Rattle.ir_trace.proofs.ReadTexts.{first_cut, row_no_feed}

-- ---- a line is that of one row

part_words-same : (parts others : List PartText) → AreParts (flat_map part_words parts) parts → AreParts (flat_map part_words others) others → flat_map part_words parts ≡ flat_map part_words others → parts ≡ others
part_words-same parts others are are' e =
    all_same (flat_map part_words parts) parts others are (record { words_are = are'.words_are ∙ sym e; each = are'.each; version = are'.version })

own_parts : (text : RowText) → IsRowText Two text → AreParts (flat_map part_words text.parts) text.parts
own_parts text is = record { words_are = refl; each = is.parts; version = is.version }

row_words-same : (v : Version) (a b : RowText) → IsRowText v a → IsRowText v b → row_words v a ≡ row_words v b → a ≡ b
row_words-same One a b is is' e =
    let id : a.id ≡ b.id = decimal_injective a.id b.id (omega (arith, is.id)) (omega (arith, is'.id)) (cc e) in
    let first = first_is a is in
    let first' = first_is b is' in
    let epoch : (first_part a.parts).epoch ≡ (first_part b.parts).epoch = decimal_injective (first_part a.parts).epoch (first_part b.parts).epoch (omega (arith, first.epoch)) (omega (arith, first'.epoch)) (cc e) in
    let source : a.source ≡ b.source = cc e in
    let dest : a.dest ≡ b.dest = cc e in
    let weight : a.weight ≡ b.weight = decimal_injective a.weight b.weight (omega (arith, is.weight)) (omega (arith, is'.weight)) (cc e) in
    let tail = fate_words-same a.fate b.fate (first_part a.parts).hops (first_part b.parts).hops (cc e) in
    let fate : a.fate ≡ b.fate = tail.0 in
    let hops : (first_part a.parts).hops ≡ (first_part b.parts).hops = tail.1 in
    let part : first_part a.parts ≡ first_part b.parts = λ i. record { epoch = epoch i; hops = hops i } in
    let parts : a.parts ≡ b.parts = one_part a.parts is.version ∙ ap (λ (p : PartText). p ∷ []) part ∙ sym (one_part b.parts is'.version) in
    λ i. record { id = id i; source = source i; dest = dest i; weight = weight i; fate = fate i; parts = parts i }
row_words-same Two a b is is' e =
    let id : a.id ≡ b.id = decimal_injective a.id b.id (omega (arith, is.id)) (omega (arith, is'.id)) (cc e) in
    let source : a.source ≡ b.source = cc e in
    let dest : a.dest ≡ b.dest = cc e in
    let weight : a.weight ≡ b.weight = decimal_injective a.weight b.weight (omega (arith, is.weight)) (omega (arith, is'.weight)) (cc e) in
    let tail = fate_words-same a.fate b.fate (flat_map part_words a.parts) (flat_map part_words b.parts) (cc e) in
    let fate : a.fate ≡ b.fate = tail.0 in
    let parts : a.parts ≡ b.parts = part_words-same a.parts b.parts (own_parts a is) (own_parts b is') tail.1 in
    λ i. record { id = id i; source = source i; dest = dest i; weight = weight i; fate = fate i; parts = parts i }

pub row_line-same : (v : Version) (a b : RowText) → IsRowText v a → IsRowText v b → (more others : List ℕ) → row_line v a ++ more ≡ row_line v b ++ others → (a ≡ b) × (more ≡ others)
row_line-same v a b is is' more others e =
    let line = join_with_byte 32 (row_words v a) in
    let same = first_cut line (join_with_byte 32 (row_words v b)) more others (row_no_feed v a is) (row_no_feed v b is')
    (sym (append_assoc line (10 ∷ []) more) ∙ e ∙ append_assoc (join_with_byte 32 (row_words v b)) (10 ∷ []) others) in
    let says : LineSays v line a = record { text_is = is; words_are = refl } in
    let says' : LineSays v line b = record { text_is = is'; words_are = same.0 } in
    (row_words-same v a b is is' (words_same line (row_words v a) (row_words v b) (says_words v line a says) (says_words v line b says')), same.1)

abbrev AreTexts : Version → List RowText → Type 0
AreTexts v [] = Unit {0}
AreTexts v (t ∷ ts) = IsRowText v t × AreTexts v ts

are_texts : (v : Version) (g : Adjacency) (texts : List RowText) (rows : List TraceRow) → AreReadAs v g texts rows → AreTexts v texts
are_texts v g [] [] are = tt
are_texts v g [] (r ∷ rows) are = absurd are
are_texts v g (t ∷ texts) [] are = absurd are
are_texts v g (t ∷ texts) (r ∷ rows) are = (are.0, are_texts v g texts rows are.2)

row_line-some : (v : Version) (t : RowText) (more : List ℕ) → 0 < length (row_line v t ++ more)
row_line-some v t more = omega (arith, length-append (row_line v t) more, length-append (join_with_byte 32 (row_words v t)) (10 ∷ []))

-- the rows in front of a text that is rows are those that it begins with, and the rest is the other rows
front_rows : (v : Version) (front all : List RowText) → AreTexts v front → AreTexts v all → (rest : List ℕ) → flat_map (row_line v) front ++ rest ≡ flat_map (row_line v) all
    → (more : List RowText) × (all ≡ front ++ more) × (rest ≡ flat_map (row_line v) more)
front_rows v [] all are are' rest e = (all, refl, e)
front_rows v (t ∷ front) [] are are' rest e =
    let none : row_line v t ++ (flat_map (row_line v) front ++ rest) ≡ [] = sym (append_assoc (row_line v t) (flat_map (row_line v) front) rest) ∙ e in
    absurd (omega (arith, row_line-some v t (flat_map (row_line v) front ++ rest), ap length none))
front_rows v (t ∷ front) (s ∷ all) are are' rest e =
    let same = row_line-same v t s are.0 are'.0 (flat_map (row_line v) front ++ rest) (flat_map (row_line v) all) (sym (append_assoc (row_line v t) (flat_map (row_line v) front) rest) ∙ e) in
    let later = front_rows v front all are.1 are'.1 rest same.1 in
    (later.0, ap (λ x. x ∷ all) (sym same.0) ∙ ap (λ xs. t ∷ xs) later.1, later.2)

no_rows : (v : Version) (texts : List RowText) → flat_map (row_line v) texts ≡ [] → texts ≡ []
no_rows v [] e = refl
no_rows v (t ∷ texts) e = absurd (omega (arith, row_line-some v t (flat_map (row_line v) texts), ap length e))

-- a text begins with the line of one version
one_version : (v w : Version) (a b : List ℕ) → header v ++ a ≡ header w ++ b → v ≡ w
one_version One One a b e = refl
one_version One Two a b e = absurd (let x : 49 ≡ 50 = ap (λ (t : List ℕ). get_or t 6 0) e in omega (arith, x))
one_version Two One a b e = absurd (let x : 50 ≡ 49 = ap (λ (t : List ℕ). get_or t 6 0) e in omega (arith, x))
one_version Two Two a b e = refl

behind_header : (v : Version) (a b : List ℕ) → header v ++ a ≡ header v ++ b → a ≡ b
behind_header One a b e = cc e
behind_header Two a b e = cc e

-- ---- a row is read as one

hops_same : (a b : List ℕ) → map (λ u. Some u) a ≡ map (λ u. Some u) b → a ≡ b
hops_same [] [] e = refl
hops_same [] (y ∷ ys) e = cc e
hops_same (x ∷ xs) [] e = cc e
hops_same (x ∷ xs) (y ∷ ys) e = let head : x ≡ y = cc e in let tail = hops_same xs ys (cc e) in cc (head, tail)

fate_same : (g : Adjacency) (text : FateText) (a b : RowFate) → FateIsReadAs g text a → FateIsReadAs g text b → a ≡ b
fate_same g Delivered a b h k = h ∙ sym k
fate_same g Retired a b h k = h ∙ sym k
fate_same g (Down x y) a b h k =
    let low : h.0 ≡ k.0 = cc (h.2.0, k.2.0) in
    let high : h.1 ≡ k.1 = cc (h.2.1, k.2.1) in
    cc (low, high, h.4, k.4)
fate_same g (Full x y) a b h k =
    let from : h.0 ≡ k.0 = cc (h.2.0, k.2.0) in
    let to : h.1 ≡ k.1 = cc (h.2.1, k.2.1) in
    cc (from, to, h.3, k.3)
fate_same g Left a b h k = h ∙ sym k

parts_same : (g : Adjacency) (texts : List PartText) (a b : List Segment) → PartsAreReadAs g texts a → PartsAreReadAs g texts b → a ≡ b
parts_same g [] [] [] h k = refl
parts_same g [] [] (y ∷ ys) h k = absurd k
parts_same g [] (x ∷ xs) b h k = absurd h
parts_same g (t ∷ texts) [] b h k = absurd h
parts_same g (t ∷ texts) (x ∷ xs) [] h k = absurd k
parts_same g (t ∷ texts) (x ∷ xs) (y ∷ ys) h k =
    let epoch : x.epoch ≡ y.epoch = h.0 ∙ sym k.0 in
    let hops : x.hops ≡ y.hops = hops_same x.hops y.hops (sym h.1 ∙ k.1) in
    let part : x ≡ y = λ i. record { epoch = epoch i; hops = hops i } in
    let tail = parts_same g texts xs ys h.2 k.2 in
    cc (part, tail)

row_same : (g : Adjacency) (text : RowText) (a b : TraceRow) → IsReadAs g text a → IsReadAs g text b → a ≡ b
row_same g text a b h k =
    let id : a.id ≡ b.id = h.id ∙ sym k.id in
    let source : a.source ≡ b.source = cc (h.source, k.source) in
    let dest : a.dest ≡ b.dest = cc (h.dest, k.dest) in
    let weight : a.weight ≡ b.weight = h.weight ∙ sym k.weight in
    let fate : a.fate ≡ b.fate = fate_same g text.fate a.fate b.fate h.fate k.fate in
    let parts : a.parts ≡ b.parts = parts_same g text.parts a.parts b.parts h.parts k.parts in
    λ i. record { id = id i; source = source i; dest = dest i; weight = weight i; fate = fate i; parts = parts i }

rows_same : (v : Version) (g : Adjacency) (texts : List RowText) (a b : List TraceRow) → AreReadAs v g texts a → AreReadAs v g texts b → a ≡ b
rows_same v g [] [] [] h k = refl
rows_same v g [] [] (y ∷ ys) h k = absurd k
rows_same v g [] (x ∷ xs) b h k = absurd h
rows_same v g (t ∷ texts) [] b h k = absurd h
rows_same v g (t ∷ texts) (x ∷ xs) [] h k = absurd k
rows_same v g (t ∷ texts) (x ∷ xs) (y ∷ ys) h k = let head = row_same g t x y h.1 k.1 in let tail = rows_same v g texts xs ys h.2 k.2 in cc (head, tail)

-- ---- the laws

-- the versions of two readings of a text are one
same_version : (v w : Version) (text a b : List ℕ) → text ≡ header v ++ a → text ≡ header w ++ b → v ≡ w
same_version v w text a b h k = one_version v w a b (sym h ∙ k)

in_same : (v : Version) (g : Adjacency) (text : List ℕ) (a b : List TraceRow) → IsTraceIn v g text a → IsTraceIn v g text b → a ≡ b
in_same v g text a b h k =
    let lines : flat_map (row_line v) h.0 ≡ flat_map (row_line v) k.0 = behind_header v _ _ (sym h.1 ∙ k.1) in
    let found = front_rows v h.0 k.0 (are_texts v g h.0 a h.2) (are_texts v g k.0 b k.2) [] (append-nil (flat_map (row_line v) h.0) ∙ lines) in
    let one : k.0 ≡ h.0 = found.1 ∙ ap (λ m. h.0 ++ m) (no_rows v found.0 (sym found.2)) ∙ append-nil h.0 in
    rows_same v g h.0 a b h.2 (subst (λ ts. AreReadAs v g ts b) one k.2)

pub trace_same : (g : Adjacency) (text : List ℕ) (a b : List TraceRow) → IsTrace g text a → IsTrace g text b → a ≡ b
trace_same g text a b h k =
    let same : k.0 ≡ h.0 = same_version k.0 h.0 text (flat_map (row_line k.0) k.1.0) (flat_map (row_line h.0) h.1.0) k.1.1 h.1.1 in
    in_same h.0 g text a b h.1 (subst (λ (v : Version). IsTraceIn v g text b) same k.1)

-- a row that can be read is at the front
record IsFront (v : Version) (g : Adjacency) (rest : List ℕ) : Type 0 where
  text : RowText
  row : TraceRow
  more : List ℕ
  text_is : IsRowText v text
  read : IsReadAs g text row
  shown : rest ≡ row_line v text ++ more

front_of : (v : Version) (g : Adjacency) (front : List RowText) (rows : List TraceRow) (t : RowText) (more : List RowText) → AreReadAs v g (front ++ t ∷ more) rows → (rest : List ℕ) → rest ≡ flat_map (row_line v) (t ∷ more) → IsFront v g rest
front_of v g [] [] t more are rest e = absurd are
front_of v g [] (row ∷ rows) t more are rest e = record { text = t; row = row; more = flat_map (row_line v) more; text_is = are.0; read = are.1; shown = e }
front_of v g (s ∷ front) [] t more are rest e = absurd are
front_of v g (s ∷ front) (row ∷ rows) t more are rest e = front_of v g front rows t more are.2 rest e

-- what a fault is at begins with a row that can be read
fault_front : (g : Adjacency) (text : List ℕ) (rows : List TraceRow) → IsTrace g text rows → (line : ℕ) (kind : FindingKind) (fault : IsFirstFault g text line kind) → IsFront fault.version g fault.rest
fault_front g text rows all line kind fault = by found.0 found.1 found.2
  where
    v : Version
    v = fault.version

    shown : text ≡ header fault.version ++ (flat_map (row_line fault.version) fault.before.0 ++ fault.rest)
    shown = fault.whole ∙ ap (λ t. t ++ fault.rest) fault.before.1 ∙ append_assoc (header fault.version) (flat_map (row_line fault.version) fault.before.0) fault.rest

    same : all.0 ≡ fault.version
    same = same_version all.0 fault.version text (flat_map (row_line all.0) all.1.0) (flat_map (row_line fault.version) fault.before.0 ++ fault.rest) all.1.1 shown

    is : IsTraceIn fault.version g text rows
    is = subst (λ (w : Version). IsTraceIn w g text rows) same all.1

    lines : flat_map (row_line fault.version) fault.before.0 ++ fault.rest ≡ flat_map (row_line fault.version) is.0
    lines = behind_header fault.version _ _ (sym shown ∙ is.1)

    found : (more : List RowText) × (is.0 ≡ fault.before.0 ++ more) × (fault.rest ≡ flat_map (row_line fault.version) more)
    found = front_rows fault.version fault.before.0 is.0 (are_texts fault.version g fault.before.0 fault.good fault.before.2) (are_texts fault.version g is.0 rows is.2) fault.rest lines

    by : (more : List RowText) → is.0 ≡ fault.before.0 ++ more → fault.rest ≡ flat_map (row_line fault.version) more → IsFront fault.version g fault.rest
    by [] split e = absurd (omega (arith, fault.more, ap length e))
    by (t ∷ more) split e = front_of fault.version g fault.before.0 rows t more (subst (λ ts. AreReadAs fault.version g ts rows) split is.2) fault.rest e

pub trace_told : (g : Adjacency) (text : List ℕ) (rows : List TraceRow) → IsTrace g text rows → (line : ℕ) (kind : FindingKind) → TellsFinding g text line kind → kind ≡ NoMemory
trace_told g text rows is line NotTrace h = absurd (h.1 is.0 (flat_map (row_line is.0) is.1.0) is.1.1)
trace_told g text rows is line BadRow h = let front = fault_front g text rows is line BadRow h in absurd (h.fault front.text front.text_is front.more front.shown)
trace_told g text rows is line UnknownNode h =
    let front = fault_front g text rows is line UnknownNode h in
    let same = row_line-same h.version h.fault.0 front.text h.fault.2 front.text_is h.fault.1 front.more (sym h.fault.3 ∙ front.shown) in
    absurd (h.fault.4 front.row (subst (λ t. IsReadAs g t front.row) (sym same.0) front.read))
trace_told g text rows is line UnknownEpoch h = absurd h.fault
trace_told g text rows is line NotAPrefix h = absurd h.fault
trace_told g text rows is line NotAtDestination h = absurd h.fault
trace_told g text rows is line BadWeight h = absurd h.fault
trace_told g text rows is line Repeated h = absurd h.fault
trace_told g text rows is line NoMemory h = refl
