-- What a call over texts in memory comes to.
use Rattle.std.specs.Prelude.{◌≡◌, ◌⊎◌, ℕ, true, false, List, [], ◌∷◌, ◌++◌, Some, length, map, take, drop, slice_get, codes, IsUtf8}
use Rattle.ir_model.specs.Text.{lines}
use Rattle.ir_cli.specs.declared.read.Source.{Source}
use Rattle.ir_cli.specs.declared.read.Source.TheVariants.{Input, Topology, New, Script, Trace, Numbering}
use Rattle.ir_cli.specs.declared.words.Words.{Words}
use Rattle.ir_cli.specs.Words.{FitsItsKind}
use Rattle.ir_cli.specs.Meaning.{Asks}
use Rattle.ir_cli.specs.Refusals.{AsksForHelp, RefusesWords}
use Rattle.ir_cli.specs.Ending.{Ends}
use Rattle.ir_cli.specs.Lines.{out_of_memory_line}
use Rattle.ir_answer.specs.Asked.{sources_of, Answers, NoThreads}
use Rattle.page.specs.declared.Lengths.{Lengths}

-- no words are the words `sim -`
abbrev pub or_sim : List (List ℕ) → List (List ℕ)
or_sim [] = codes "sim" ∷ codes "-" ∷ []
or_sim (word ∷ words) = word ∷ words

-- the words that a text is: its lines, each a word
abbrev pub typed_words : List ℕ → List (List ℕ)
typed_words text = or_sim (lines text)

-- the text of a source: one of three
abbrev pub text_for : List ℕ → List ℕ → List ℕ → Source → List ℕ
text_for topology script trace Input = topology
text_for topology script trace Topology = topology
text_for topology script trace New = script
text_for topology script trace Script = script
text_for topology script trace Numbering = script
text_for topology script trace Trace = trace

-- The faults are these lines, and sentences after them where the words ask for sentences.
abbrev pub AreFaults : Words → List ℕ → List ℕ → Type 0
AreFaults words lines faults = (sentences : List ℕ) × (faults ≡ lines ++ sentences) × (words.explain ≡ false → sentences ≡ [])

-- Words are followed over the texts of their sources: the run ends by the answers of the program, and its output is whole.
abbrev pub IsFollowed : Words → (Source → List ℕ) → ℕ → List ℕ → List ℕ → Type 0
IsFollowed words text status output faults =
    Ends (Answers NoThreads words) status (λ read. read ≡ map text (sources_of words))
    (λ source why. (place : ℕ) × (slice_get (sources_of words) place ≡ Some source))
    (λ sent written. (sent ≡ true) × (output ≡ written)) (output ≡ []) (λ lines. AreFaults words lines faults)

-- No words of this text are followed: it is no UTF-8, or its words are refused, or they ask for help or the version.
abbrev pub IsRefusedText : List ℕ → Type 0
IsRefusedText words = (IsUtf8 words → ⊥) ⊎ (RefusesWords (typed_words words) ⊎ AsksForHelp (typed_words words))

-- What the words ask for was followed, and fits its kind; or the words were refused, or asked for help, and a text says so.
abbrev pub IsCallAnswer : List ℕ → (Source → List ℕ) → ℕ → List ℕ → List ℕ → Type 0
IsCallAnswer typed text status output faults =
    ((words : Words) × Asks (typed_words typed) words × FitsItsKind words × IsFollowed words text status output faults)
    ⊎ ((status ≡ 2) × (output ≡ []) × IsRefusedText typed)

-- memory was refused, and nothing is reported but that
abbrev pub IsOutOfMemory : ℕ → List ℕ → List ℕ → Type 0
IsOutOfMemory status output faults = (status ≡ 3) × (output ≡ []) × (faults ≡ out_of_memory_line)

-- The room has what there is room for of the text, and after that what it had; the length is that of the text.
abbrev pub IsPut : List ℕ → ℕ → List ℕ → List ℕ → Type 0
IsPut text told old new = (told ≡ length text) × (new ≡ take (length old) text ++ drop (length text) old)

-- A call with the words of a text, over these texts, answers this status, and puts its output and its faults into their rooms.
pub record IsCall (words topology script trace : List ℕ) (status : ℕ) (lengths : Lengths) (output_old output_new faults_old faults_new : List ℕ) : Type 0 where
  pub output : List ℕ
  pub faults : List ℕ
  pub answer : IsCallAnswer words (text_for topology script trace) status output faults ⊎ IsOutOfMemory status output faults
  pub output_put : IsPut output lengths.output output_old output_new
  pub faults_put : IsPut faults lengths.faults faults_old faults_new
