-- What a trace is read as over a graph, and its first fault.
use Rattle.std.specs.Prelude.{◌≡◌, ◌≢◌, ℕ, ◌+◌, ◌<◌, true, List, [], ◌∷◌, ◌++◌, length, map, position, bytes_eq, Option, Some}
use Rattle.ir_model.specs.Graph.{Name, Adjacency, names, has_edge}
use Rattle.ir_trace.specs.declared.row.Version.{Version}
use Rattle.ir_trace.specs.declared.row.RowFate.{RowFate}
use Rattle.ir_trace.specs.declared.row.RowFate.TheVariants as read
use Rattle.ir_trace.specs.declared.finding.FindingKind.{FindingKind}
use Rattle.ir_trace.specs.declared.finding.FindingKind.TheVariants.{NotTrace, BadRow, UnknownNode, NoMemory}
use Rattle.ir_trace.specs.Row.{Segment, TraceRow}
use Rattle.ir_trace.specs.Rows.{FateText, Delivered, Retired, Down, Full, Left, PartText, RowText, IsRowText, row_line, header, trace_text}

-- the number of the node with a name
abbrev pub node_named : List Name → Name → Option ℕ
node_named nodes w = position (bytes_eq w) nodes

-- x and y are the names of two linked nodes u and v
abbrev pub AreLinkedAs : Adjacency → Name → Name → ℕ → ℕ → Type 0
AreLinkedAs g x y u v =
    (node_named (names g) x ≡ Some u) × (node_named (names g) y ≡ Some v) × (u ≢ v) × (has_edge g x y ≡ true)

-- the ends of a link that is down come with the smaller node number first
abbrev pub FateIsReadAs : Adjacency → FateText → RowFate → Type 0
FateIsReadAs g Delivered fate = fate ≡ read.Delivered
FateIsReadAs g Retired fate = fate ≡ read.Retired
FateIsReadAs g (Down x y) fate = (u : ℕ) × (v : ℕ) × AreLinkedAs g x y u v × (u < v) × (fate ≡ read.Down u v)
FateIsReadAs g (Full x y) fate = (u : ℕ) × (v : ℕ) × AreLinkedAs g x y u v × (fate ≡ read.Full u v)
FateIsReadAs g Left fate = fate ≡ read.Left

-- what parts are read as
abbrev pub PartsAreReadAs : Adjacency → List PartText → List Segment → Type 0
PartsAreReadAs g [] [] = Unit {0}
PartsAreReadAs g [] (part ∷ parts) = ⊥
PartsAreReadAs g (text ∷ texts) [] = ⊥
PartsAreReadAs g (text ∷ texts) (part ∷ parts) =
    (part.epoch ≡ text.epoch) × (map (node_named (names g)) text.hops ≡ map (λ u. Some u) part.hops) × PartsAreReadAs g texts parts

-- What a row is read as: each name is that of a node.
pub record IsReadAs (g : Adjacency) (text : RowText) (row : TraceRow) : Type 0 where
  pub id : row.id ≡ text.id
  pub weight : row.weight ≡ text.weight
  pub source : node_named (names g) text.source ≡ Some row.source
  pub dest : node_named (names g) text.dest ≡ Some row.dest
  pub fate : FateIsReadAs g text.fate row.fate
  pub parts : PartsAreReadAs g text.parts row.parts

-- rows that may be in a trace of a version, and what each is read as
abbrev pub AreReadAs : Version → Adjacency → List RowText → List TraceRow → Type 0
AreReadAs v g [] [] = Unit {0}
AreReadAs v g [] (row ∷ rows) = ⊥
AreReadAs v g (text ∷ texts) [] = ⊥
AreReadAs v g (text ∷ texts) (row ∷ rows) = IsRowText v text × IsReadAs g text row × AreReadAs v g texts rows

-- The text is that of a trace of a version, and this is what its rows are read as.
abbrev pub IsTraceIn : Version → Adjacency → List ℕ → List TraceRow → Type 0
IsTraceIn v g text rows = (texts : List RowText) × (text ≡ trace_text v texts) × AreReadAs v g texts rows

-- The text is that of a trace, of either version.
abbrev pub IsTrace : Adjacency → List ℕ → List TraceRow → Type 0
IsTrace g text rows = (v : Version) × IsTraceIn v g text rows

-- no row's line is at the front
abbrev pub IsBadRow : Version → List ℕ → Type 0
IsBadRow v rest = (text : RowText) → IsRowText v text → (more : List ℕ) → rest ≡ row_line v text ++ more → ⊥

-- a row's line is at the front, and some name in it is not that of a node, or two are not those of a link
abbrev pub IsUnknown : Version → Adjacency → List ℕ → Type 0
IsUnknown v g rest =
    (text : RowText) × (more : List ℕ) × IsRowText v text × (rest ≡ row_line v text ++ more) × ((row : TraceRow) → IsReadAs g text row → ⊥)

abbrev pub IsFaultOf : Version → Adjacency → List ℕ → FindingKind → Type 0
IsFaultOf v g rest BadRow = IsBadRow v rest
IsFaultOf v g rest UnknownNode = IsUnknown v g rest
IsFaultOf v g rest kind = ⊥

-- The fault of the first faulty line: the lines before it are those of a trace.
pub record IsFirstFault (g : Adjacency) (text : List ℕ) (line : ℕ) (kind : FindingKind) : Type 0 where
  pub version : Version
  pub good : List TraceRow
  pub front : List ℕ
  pub rest : List ℕ
  pub whole : text ≡ front ++ rest
  pub before : IsTraceIn version g front good
  pub more : 0 < length rest
  pub number : line ≡ length good + 2
  pub fault : IsFaultOf version g rest kind

-- the text begins neither with the line `trace 1` nor with the line `trace 2`
abbrev pub IsNoTrace : List ℕ → Type 0
IsNoTrace text = (v : Version) (rest : List ℕ) → text ≡ header v ++ rest → ⊥

-- What a text is refused for. Want of memory has line 0.
abbrev pub TellsFinding : Adjacency → List ℕ → ℕ → FindingKind → Type 0
TellsFinding g text line NotTrace = (line ≡ 1) × IsNoTrace text
TellsFinding g text line NoMemory = line ≡ 0
TellsFinding g text line kind = IsFirstFault g text line kind
