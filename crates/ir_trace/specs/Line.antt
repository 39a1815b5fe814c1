-- The lines of a trace one by one.
use Rattle.std.specs.Prelude.{◌≡◌, ℕ, ◌==◌, true, not, List, ◌∷◌, ◌++◌}
use Rattle.std.specs.List.{list_all, join_with_byte}
use Rattle.ir_model.specs.Graph.{Adjacency}
use Rattle.ir_trace.specs.declared.row.Version.{Version}
use Rattle.ir_trace.specs.declared.finding.FindingKind.{FindingKind}
use Rattle.ir_trace.specs.declared.finding.FindingKind.TheVariants.{BadRow, UnknownNode, NoMemory}
use Rattle.ir_trace.specs.Rows.{RowText, IsRowText, row_words}
use Rattle.ir_trace.specs.Row.{TraceRow}
use Rattle.ir_trace.specs.Reading.{IsReadAs}
use Rattle.ir_trace.specs.Spelled.{IsNoRowOf}

-- no line feed is in the bytes
abbrev pub HasNoFeed : List ℕ → Type 0
HasNoFeed bytes = list_all (λ b. not (b == 10)) bytes ≡ true

-- the text is a line, its line feed, and what follows
pub record CutsLine (text line after : List ℕ) : Type 0 where
  pub whole : text ≡ line ++ 10 ∷ after
  pub inside : HasNoFeed line

-- the line says what the row says
pub record LineSays (v : Version) (line : List ℕ) (text : RowText) : Type 0 where
  pub text_is : IsRowText v text
  pub words_are : line ≡ join_with_byte 32 (row_words v text)

-- the line is read as the row
abbrev pub IsLineOf : Version → Adjacency → List ℕ → TraceRow → Type 0
IsLineOf v g line row = (text : RowText) × LineSays v line text × IsReadAs g text row

abbrev pub IsLineFault : Version → Adjacency → List ℕ → FindingKind → Type 0
IsLineFault v g line BadRow = (text : RowText) → LineSays v line text → ⊥
IsLineFault v g line UnknownNode = (text : RowText) × LineSays v line text × IsNoRowOf g text
IsLineFault v g line kind = ⊥

-- What a line is refused for. Want of memory has line 0.
abbrev pub LineTold : Version → Adjacency → List ℕ → ℕ → ℕ → FindingKind → Type 0
LineTold v g line number told NoMemory = told ≡ 0
LineTold v g line number told kind = (told ≡ number) × IsLineFault v g line kind
