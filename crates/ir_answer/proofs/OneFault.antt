-- A text has one fault at most, want of memory aside.
use Rattle.std.proofs.Common.{◌≡◌, ◌≢◌, ◌⊎◌, ◌+◌, ℕ, suc, List, [], ◌∷◌, ◌++◌, length, flat_map, get_or, refl, sym, ap, subst, ◌∙◌, arith, inl, inr, append_assoc}
use Rattle.ir_model.specs.Graph.{Adjacency}
use Rattle.ir_trace.specs.declared.finding.FindingKind.{FindingKind}
use Rattle.ir_trace.specs.declared.finding.FindingKind.TheVariants.{NotTrace, BadRow, UnknownNode, UnknownEpoch, NotAPrefix, NotAtDestination, BadWeight, Repeated, NoMemory}
use Rattle.ir_trace.specs.declared.row.Version.{Version}
use Rattle.ir_trace.specs.declared.row.Version.TheVariants.{One, Two}
use Rattle.ir_trace.specs.Row.{TraceRow}
use Rattle.ir_trace.specs.Rows.{RowText, IsRowText, row_line, header}
use Rattle.ir_trace.specs.Reading.{IsReadAs, AreReadAs, IsBadRow, IsUnknown, IsFaultOf, IsFirstFault, IsNoTrace, TellsFinding}
use Rattle.ir_trace.proofs.UniqueRows.{row_line-same}

-- a text begins with the line of one version
one_version : (v w : Version) (a b : List ℕ) → header v ++ a ≡ header w ++ b → v ≡ w
one_version One One a b e = refl
one_version One Two a b e = absurd (let x : 49 ≡ 50 = ap (λ (t : List ℕ). get_or t 6 0) e in omega (arith, x))
one_version Two One a b e = absurd (let x : 50 ≡ 49 = ap (λ (t : List ℕ). get_or t 6 0) e in omega (arith, x))
one_version Two Two a b e = refl

behind_header : (v : Version) (a b : List ℕ) → header v ++ a ≡ header v ++ b → a ≡ b
behind_header One a b e = cc e
behind_header Two a b e = cc e

-- ---- what is faulty at a rest of a text

abbrev IsBad : Version → Adjacency → List ℕ → FindingKind → Type 0
IsBad v g rest kind = ((kind ≡ BadRow) × IsBadRow v rest) ⊎ ((kind ≡ UnknownNode) × IsUnknown v g rest)

fault_is : (v : Version) (g : Adjacency) (rest : List ℕ) (kind : FindingKind) → IsFaultOf v g rest kind → IsBad v g rest kind
fault_is v g rest NotTrace h = absurd h
fault_is v g rest BadRow h = inl (refl, h)
fault_is v g rest UnknownNode h = inr (refl, h)
fault_is v g rest UnknownEpoch h = absurd h
fault_is v g rest NotAPrefix h = absurd h
fault_is v g rest NotAtDestination h = absurd h
fault_is v g rest BadWeight h = absurd h
fault_is v g rest Repeated h = absurd h
fault_is v g rest NoMemory h = absurd h

-- one fault is at a rest
one_fault : (v : Version) (g : Adjacency) (rest : List ℕ) (kind found : FindingKind) → IsBad v g rest kind → IsBad v g rest found → kind ≡ found
one_fault v g rest kind found (inl a) (inl b) = a.0 ∙ sym b.0
one_fault v g rest kind found (inl a) (inr b) = absurd (a.1 b.1.0 b.1.2 b.1.1 b.1.3)
one_fault v g rest kind found (inr a) (inl b) = absurd (b.1 a.1.0 a.1.2 a.1.1 a.1.3)
one_fault v g rest kind found (inr a) (inr b) = a.0 ∙ sym b.0

-- none is at the line of a row that can be read
no_fault : (v : Version) (g : Adjacency) (text : RowText) (row : TraceRow) (more rest : List ℕ) (kind : FindingKind) → IsRowText v text → IsReadAs g text row → rest ≡ row_line v text ++ more → IsBad v g rest kind → ⊥
no_fault v g text row more rest kind is read e (inl a) = a.1 text is more e
no_fault v g text row more rest kind is read e (inr a) =
    let same = row_line-same v a.1.0 text a.1.2 is a.1.1 more (sym a.1.3 ∙ e) in
    a.1.4 row (subst (λ (t : RowText). IsReadAs g t row) (sym same.0) read)

-- the rows before two faults of one text are as many, and the faults are the same
fronts : (v : Version) (g : Adjacency) (front other : List RowText) (good fine : List TraceRow) (rest behind : List ℕ) (kind found : FindingKind) → AreReadAs v g front good → AreReadAs v g other fine
    → flat_map (row_line v) front ++ rest ≡ flat_map (row_line v) other ++ behind → IsBad v g rest kind → IsBad v g behind found → (length good ≡ length fine) × (kind ≡ found)
fronts v g [] [] [] [] rest behind kind found are so e a b = (refl, one_fault v g rest kind found a (subst (λ (t : List ℕ). IsBad v g t found) (sym e) b))
fronts v g [] [] [] (s ∷ fine) rest behind kind found are so e a b = absurd so
fronts v g [] [] (r ∷ good) fine rest behind kind found are so e a b = absurd are
fronts v g [] (u ∷ other) good [] rest behind kind found are so e a b = absurd so
fronts v g [] (u ∷ other) good (s ∷ fine) rest behind kind found are so e a b =
    absurd (no_fault v g u s (flat_map (row_line v) other ++ behind) rest kind so.0 so.1 (e ∙ append_assoc (row_line v u) (flat_map (row_line v) other) behind) a)
fronts v g (t ∷ front) [] [] fine rest behind kind found are so e a b = absurd are
fronts v g (t ∷ front) [] (r ∷ good) fine rest behind kind found are so e a b =
    absurd (no_fault v g t r (flat_map (row_line v) front ++ rest) behind found are.0 are.1 (sym e ∙ append_assoc (row_line v t) (flat_map (row_line v) front) rest) b)
fronts v g (t ∷ front) (u ∷ other) [] fine rest behind kind found are so e a b = absurd are
fronts v g (t ∷ front) (u ∷ other) (r ∷ good) [] rest behind kind found are so e a b = absurd so
fronts v g (t ∷ front) (u ∷ other) (r ∷ good) (s ∷ fine) rest behind kind found are so e a b =
    let same = row_line-same v t u are.0 so.0 (flat_map (row_line v) front ++ rest) (flat_map (row_line v) other ++ behind)
    (sym (append_assoc (row_line v t) (flat_map (row_line v) front) rest) ∙ e ∙ append_assoc (row_line v u) (flat_map (row_line v) other) behind) in
    let later = fronts v g front other good fine rest behind kind found are.2 so.2 same.1 a b in
    (ap suc later.0, later.1)

-- ---- the first fault of a text

-- after the line of the version
shown : (g : Adjacency) (text : List ℕ) (line : ℕ) (kind : FindingKind) (fault : IsFirstFault g text line kind) → text ≡ header fault.version ++ (flat_map (row_line fault.version) fault.before.0 ++ fault.rest)
shown g text line kind fault =
    fault.whole ∙ ap (λ (t : List ℕ). t ++ fault.rest) fault.before.1 ∙ append_assoc (header fault.version) (flat_map (row_line fault.version) fault.before.0) fault.rest

-- what is faulty in a text after a header of this version
record IsFaultBehind (v : Version) (g : Adjacency) (text : List ℕ) (line : ℕ) (kind : FindingKind) : Type 0 where
  texts : List RowText
  good : List TraceRow
  rest : List ℕ
  whole : text ≡ header v ++ (flat_map (row_line v) texts ++ rest)
  read : AreReadAs v g texts good
  number : line ≡ length good + 2
  bad : IsBad v g rest kind

behind : (g : Adjacency) (text : List ℕ) (line : ℕ) (kind : FindingKind) (fault : IsFirstFault g text line kind) → IsFaultBehind fault.version g text line kind
behind g text line kind fault = record {
  texts = fault.before.0;
  good = fault.good;
  rest = fault.rest;
  whole = shown g text line kind fault;
  read = fault.before.2;
  number = fault.number;
  bad = fault_is fault.version g fault.rest kind fault.fault;
}

one_behind : (v : Version) (g : Adjacency) (text : List ℕ) (line at : ℕ) (kind found : FindingKind) → IsFaultBehind v g text line kind → IsFaultBehind v g text at found → (line ≡ at) × (kind ≡ found)
one_behind v g text line at kind found a b =
    let rows = behind_header v (flat_map (row_line v) a.texts ++ a.rest) (flat_map (row_line v) b.texts ++ b.rest) (sym a.whole ∙ b.whole) in
    let same = fronts v g a.texts b.texts a.good b.good a.rest b.rest kind found a.read b.read rows a.bad b.bad in
    (a.number ∙ ap (λ (n : ℕ). n + 2) same.0 ∙ sym b.number, same.1)

first_same : (g : Adjacency) (text : List ℕ) (line at : ℕ) (kind found : FindingKind) → IsFirstFault g text line kind → IsFirstFault g text at found → (line ≡ at) × (kind ≡ found)
first_same g text line at kind found a b =
    let mine = behind g text line kind a in
    let theirs = behind g text at found b in
    let same = one_version b.version a.version (flat_map (row_line b.version) theirs.texts ++ theirs.rest) (flat_map (row_line a.version) mine.texts ++ mine.rest) (sym theirs.whole ∙ mine.whole) in
    one_behind a.version g text line at kind found mine (subst (λ (v : Version). IsFaultBehind v g text at found) same theirs)

-- what is reported of a text is that it is no trace, or its first fault
abbrev IsTold : Adjacency → List ℕ → ℕ → FindingKind → Type 0
IsTold g text line kind = ((kind ≡ NotTrace) × (line ≡ 1) × IsNoTrace text) ⊎ IsFirstFault g text line kind

told : (g : Adjacency) (text : List ℕ) (line : ℕ) (kind : FindingKind) → kind ≢ NoMemory → TellsFinding g text line kind → IsTold g text line kind
told g text line NotTrace memory h = inl (refl, h.0, h.1)
told g text line BadRow memory h = inr h
told g text line UnknownNode memory h = inr h
told g text line UnknownEpoch memory h = inr h
told g text line NotAPrefix memory h = inr h
told g text line NotAtDestination memory h = inr h
told g text line BadWeight memory h = inr h
told g text line Repeated memory h = inr h
told g text line NoMemory memory h = absurd (memory refl)

both_told : (g : Adjacency) (text : List ℕ) (line at : ℕ) (kind found : FindingKind) → IsTold g text line kind → IsTold g text at found → (line ≡ at) × (kind ≡ found)
both_told g text line at kind found (inl a) (inl b) = (a.1 ∙ sym b.1, a.0 ∙ sym b.0)
both_told g text line at kind found (inl a) (inr b) = absurd (a.2 b.version (flat_map (row_line b.version) b.before.0 ++ b.rest) (shown g text at found b))
both_told g text line at kind found (inr a) (inl b) = absurd (b.2 a.version (flat_map (row_line a.version) a.before.0 ++ a.rest) (shown g text line kind a))
both_told g text line at kind found (inr a) (inr b) = first_same g text line at kind found a b

pub told_same : (g : Adjacency) (text : List ℕ) (line at : ℕ) (kind found : FindingKind) → kind ≢ NoMemory → found ≢ NoMemory → TellsFinding g text line kind → TellsFinding g text at found → (line ≡ at) × (kind ≡ found)
told_same g text line at kind found memory other h k = both_told g text line at kind found (told g text line kind memory h) (told g text at found other k)
