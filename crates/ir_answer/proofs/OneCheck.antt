-- A check has one answer, want of memory aside.
use Rattle.std.proofs.Common.{◌≡◌, ◌≢◌, ℕ, Bool, true, false, refl, List, length, Option, Some, None, Result, Ok, Err, MatchOption, MatchResult, sym, ap, subst, ◌∙◌, inl, inr}
use Rattle.ir_model.specs.Graph.{Adjacency, names}
use Rattle.ir_model.specs.Text.{lines}
use Rattle.ir_model.specs.Topology.{Topology}
use Rattle.ir_model.specs.OfGraph.{topology_of_graph}
use Rattle.ir_core.specs.declared.built.Install.{Install}
use Rattle.ir_plan.specs.Building.{FromRoot}
use Rattle.ir_core.specs.declared.event.OpenError.{OpenError}
use Rattle.ir_core.specs.declared.event.OpenError.TheVariants as openings
use Rattle.ir_core.specs.declared.event.Step.{Step}
use Rattle.ir_core.specs.declared.opening.Opening.{Opening}
use Rattle.ir_core.specs.Setting.{Setting}
use Rattle.ir_core.specs.Opened.{IsOpenedWith, IsRefusedAs, IsOpenRefusal, open_refused}
use Rattle.ir_script.specs.Command.{line_step}
use Rattle.ir_script.specs.Script.{Listing}
use Rattle.ir_trace.specs.declared.finding.Finding.{Finding}
use Rattle.ir_trace.specs.declared.finding.FindingKind.TheVariants.{NoMemory}
use Rattle.ir_trace.specs.Row.{TraceRow}
use Rattle.ir_trace.specs.Checked.{Finds}
use Rattle.ir_trace.proofs.UniqueRows.{trace_same, trace_told}
use Rattle.ir_trace.proofs.OneAnswer.{one_sound, one_finding}
use Rattle.ir_whole.specs.declared.finding.WholeFinding.{WholeFinding}
use Rattle.ir_whole.specs.declared.finding.WholeKind.TheVariants as whole
use Rattle.ir_whole.specs.Whole.{GivenRun, AreWhole, FindsWhole}
use Rattle.ir_cli.specs.declared.words.Words.{Words}
use Rattle.ir_cli.specs.Answer.{Answer, Ran, Found, Refused, NoThread}
use Rattle.ir_cli.specs.Lines.{topology_line, opening_line, script_line, finding_line, whole_line, ok_line}
use Rattle.ir_cli.specs.Openings.{topology_fault, topology_graph, opening_by, root_name, root_in, no_root, AnswersTopology}
use Rattle.ir_answer.specs.Agreed.{HaveSamePlans}
use Rattle.ir_answer.specs.Stops.{script_said}
use Rattle.ir_answer.specs.Asked.{CheckAnswers}
use Rattle.ir_answer.specs.Checks.{IsClean, IsCleanTrace, IsFound, IsFoundWhole, AnswersTrace, AnswersWhole, AnswersTraceAsked, AreReplayed, run_with, AnswersCheck, AnswersChecked}
use Rattle.ir_answer.proofs.SameInstalls.{not_both, have_same_plans, finds_moved}
use Rattle.ir_answer.proofs.OneFault.{told_same}
use Rattle.ir_trace.proofs.ReadWithin.{rows_over}
use Rattle.ir_answer.proofs.OneText.{three_same}
use Rattle.ir_answer.proofs.OneWhole.{whole_found, first_same}

-- ---- what is found of a trace by two lists of installs that have the same plans

module _ (g : Adjacency) (trace : List ℕ) where
  counts_same : (installs others : List Install) (count number : ℕ) → IsClean g installs trace count → IsClean g others trace number → count ≡ number
  counts_same installs others count number a b = a.3 ∙ ap length (trace_same g trace a.0 b.0 a.1 b.1) ∙ sym b.3

  -- what has no finding by the one list has none by the other
  clean_found : (installs others : List Install) → HaveSamePlans (topology_of_graph g) installs others → (count : ℕ) (f : Finding) → f.kind ≢ NoMemory → IsClean g installs trace count → IsFound g others trace f → ⊥
  clean_found installs others same count f memory a (inl told) = memory (trace_told g trace a.0 a.1 f.line f.kind told)
  clean_found installs others same count f memory a (inr b) =
      let rows = trace_same g trace b.0 a.0 b.1 a.1 in
      let finds = subst (λ (rows : List TraceRow). Finds (topology_of_graph g) others rows f.line f.kind) rows b.2 in
      memory (one_sound (topology_of_graph g) installs a.0 (rows_over g trace a.0 a.1) a.2 f.line f.kind (finds_moved (topology_of_graph g) installs others same a.0 f.line f.kind finds))

  module _ (installs others : List Install) (same : HaveSamePlans (topology_of_graph g) installs others) where
    turned : HaveSamePlans (topology_of_graph g) others installs
    turned = record { there = same.back; back = same.there }

    found_parts : (e f : Finding) → e.kind ≢ NoMemory → f.kind ≢ NoMemory → IsFound g installs trace e → IsFound g others trace f → (e.line ≡ f.line) × (e.kind ≡ f.kind)
    found_parts e f memory other (inl a) (inl b) = told_same g trace e.line f.line e.kind f.kind memory other a b
    found_parts e f memory other (inl a) (inr b) = absurd (memory (trace_told g trace b.0 b.1 e.line e.kind a))
    found_parts e f memory other (inr a) (inl b) = absurd (other (trace_told g trace a.0 a.1 f.line f.kind b))
    found_parts e f memory other (inr a) (inr b) =
        let rows = trace_same g trace b.0 a.0 b.1 a.1 in
        let finds = subst (λ (rows : List TraceRow). Finds (topology_of_graph g) others rows f.line f.kind) rows b.2 in
        let only = one_finding (topology_of_graph g) installs a.0 (rows_over g trace a.0 a.1) e.line e.kind a.2 memory in
        let one = only.only f.line f.kind (finds_moved (topology_of_graph g) installs others same a.0 f.line f.kind finds) other in
        (sym one.0, sym one.1)

    findings_same : (e f : Finding) → e.kind ≢ NoMemory → f.kind ≢ NoMemory → IsFound g installs trace e → IsFound g others trace f → e ≡ f
    findings_same e f memory other a b =
        let parts = found_parts e f memory other a b in
        let line : e.line ≡ f.line = parts.0 in
        let kind : e.kind ≡ f.kind = parts.1 in
        λ i. record { line = line i; kind = kind i }

    answers_same : (one other : Answer) → AnswersTrace g trace installs one → AnswersTrace g trace others other → one ≡ other
    answers_same (Ran text refused) (Ran said told) a b =
        let texts : text ≡ said = a.2 ∙ ap ok_line (counts_same installs others a.0 b.0 a.1 b.1) ∙ sym b.2 in
        let lines : refused ≡ told = a.3 ∙ sym b.3 in
        λ i. Ran (texts i) (lines i)
    answers_same (Ran text refused) (Found said) a b = absurd (clean_found installs others same a.0 b.0 b.1 a.1 b.2)
    answers_same (Ran text refused) (Refused line) a b = absurd b
    answers_same (Ran text refused) NoThread a b = absurd b
    answers_same (Found text) (Found said) a b = ap (λ (t : List ℕ). Found t) (a.3 ∙ ap finding_line (findings_same a.0 b.0 a.1 b.1 a.2 b.2) ∙ sym b.3)
    answers_same (Found text) (Ran said told) a b = absurd (clean_found others installs turned b.0 a.0 a.1 b.1 a.2)
    answers_same (Found text) (Refused line) a b = absurd b
    answers_same (Found text) NoThread a b = absurd b
    answers_same (Refused line) other a b = absurd a
    answers_same NoThread other a b = absurd a

    -- ---- and beside the script too

    whole_findings : (e f : WholeFinding) → (e.line ≡ f.line) × (e.kind ≡ f.kind) → e ≡ f
    whole_findings e f parts =
        let line : e.line ≡ f.line = parts.0 in
        let kind : e.kind ≡ f.kind = parts.1 in
        λ i. record { line = line i; kind = kind i }

    module _ (run : GivenRun) where
      -- rows that a run can have had, and a finding beside the script
      clean_whole : (rows : List TraceRow) → IsCleanTrace g installs trace rows → AreWhole run rows → (f : WholeFinding) → f.kind ≢ whole.NoMemory → IsFoundWhole g others trace run f → ⊥
      clean_whole rows clean are f memory found =
          let alike = trace_same g trace found.0 rows found.1.0 clean.0 in
          whole_found run rows f.line f.kind memory are (subst (λ (rows : List TraceRow). FindsWhole run rows f.line f.kind) alike found.2)

      found_twice : (e f : WholeFinding) → e.kind ≢ whole.NoMemory → f.kind ≢ whole.NoMemory → IsFoundWhole g installs trace run e → IsFoundWhole g others trace run f → e ≡ f
      found_twice e f memory other a b =
          let alike = trace_same g trace b.0 a.0 b.1.0 a.1.0 in
          let there = subst (λ (rows : List TraceRow). FindsWhole run rows f.line f.kind) alike b.2 in
          whole_findings e f (first_same run a.0 e.line f.line e.kind f.kind memory other a.2 there)

-- the answers beside the script by two lists of installs that have the same plans
module _ (g : Adjacency) (trace : List ℕ) (run : GivenRun) where
  -- a row's own finding, and a trace without one
  own_found : (installs others : List Install) → HaveSamePlans (topology_of_graph g) installs others → (text : List ℕ) (rows : List TraceRow) → AnswersTrace g trace installs (Found text) → IsCleanTrace g others trace rows → ⊥
  own_found installs others same text rows a clean =
      clean_found g trace others installs (turned g trace installs others same) (length rows) a.0 a.1 (rows, clean.0, clean.1, refl) a.2

  module _ (installs others : List Install) (same : HaveSamePlans (topology_of_graph g) installs others) where
    back : HaveSamePlans (topology_of_graph g) others installs
    back = turned g trace installs others same

    whole_same : (one other : Answer) → AnswersWhole g trace installs run one → AnswersWhole g trace others run other → one ≡ other
    whole_same (Ran text refused) (Ran said told) a b =
        let texts : text ≡ said = a.3 ∙ ap (λ (rows : List TraceRow). ok_line (length rows)) (trace_same g trace a.0 b.0 a.1.0 b.1.0) ∙ sym b.3 in
        let lines : refused ≡ told = a.4 ∙ sym b.4 in
        λ i. Ran (texts i) (lines i)
    whole_same (Ran text refused) (Found said) a (inl b) = absurd (own_found others installs back said a.0 b a.1)
    whole_same (Ran text refused) (Found said) a (inr b) = absurd (clean_whole g trace installs others same run a.0 a.1 a.2 b.0 b.1 b.2)
    whole_same (Ran text refused) (Refused line) a b = absurd b
    whole_same (Ran text refused) NoThread a b = absurd b
    whole_same (Found text) (Found said) (inl a) (inl b) = answers_same g trace installs others same (Found text) (Found said) a b
    whole_same (Found text) (Found said) (inl a) (inr b) = absurd (own_found installs others same text b.2.0 a b.2.1)
    whole_same (Found text) (Found said) (inr a) (inl b) = absurd (own_found others installs back said a.2.0 b a.2.1)
    whole_same (Found text) (Found said) (inr a) (inr b) =
        ap (λ (t : List ℕ). Found t) (a.3 ∙ ap whole_line (found_twice g trace installs others same run a.0 b.0 a.1 b.1 a.2 b.2) ∙ sym b.3)
    whole_same (Found text) (Ran said told) (inl a) b = absurd (own_found installs others same text b.0 a b.1)
    whole_same (Found text) (Ran said told) (inr a) b = absurd (clean_whole g trace others installs back run b.0 b.1 b.2 a.0 a.1 a.2)
    whole_same (Found text) (Refused line) a b = absurd b
    whole_same (Found text) NoThread a b = absurd b
    whole_same (Refused line) other a b = absurd a
    whole_same NoThread other a b = absurd a

    asked_same : (is_whole : Bool) (one other : Answer) → AnswersTraceAsked is_whole g trace installs run one → AnswersTraceAsked is_whole g trace others run other → one ≡ other
    asked_same false one other a b = answers_same g trace installs others same one other a b
    asked_same true one other a b = whole_same one other a b

  -- a check wants no thread
  no_thread : (installs : List Install) (is_whole : Bool) → AnswersTraceAsked is_whole g trace installs run NoThread → ⊥
  no_thread installs false a = a
  no_thread installs true a = a

-- ---- the refusal of an opening

refusal_as : (net : Topology) (e f : OpenError) (x : Option OpenError) → e ≢ openings.NoMemory → f ≢ openings.NoMemory → IsRefusedAs net e x → IsRefusedAs net f x → e ≡ f
refusal_as net e f (Some x) memory other a b = a ∙ sym b
refusal_as net e f None memory other (inl a) (inl b) = a.0 ∙ sym b.0
refusal_as net e f None memory other (inl a) (inr b) = absurd (other b)
refusal_as net e f None memory other (inr a) b = absurd (memory a)

-- no world is opened by what is refused
not_opened : (opening : Opening) (setting : Setting) (e : OpenError) → e ≢ openings.NoMemory → IsOpenRefusal opening e → open_refused opening ≡ None → IsOpenedWith opening setting → ⊥
not_opened opening setting e memory refused accepted opened = by (subst (λ (x : Option OpenError). IsRefusedAs opening.topology e x) accepted refused)
  where
    by : IsRefusedAs opening.topology e None → ⊥
    by (inl a) = not_both (FromRoot opening.labels opening.root) opening.kind opening.topology setting.first opened.first a.1
    by (inr a) = memory a

-- ---- answers

module _ (g : Adjacency) (words : Words) (trace : List ℕ) where
  module _ (script : Listing Step) (root : ℕ) where
    -- the installs of a run by which a trace has an answer
    abbrev ByInstalls : Answer → Type 0
    ByInstalls answer =
        (installs : List Install) × AreReplayed g words script root installs
        × AnswersTraceAsked words.whole g trace installs (run_with words (topology_of_graph g) script.steps) answer

    both_run : (one other : Answer) → ByInstalls one → ByInstalls other → one ≡ other
    both_run one other a b =
        asked_same g trace (run_with words (topology_of_graph g) script.steps) a.0 b.0
        (have_same_plans (opening_by words (topology_of_graph g) root) script.steps a.0 b.0 a.1.1 b.1.1) words.whole one other a.2 b.2

    run_refused : (one : Answer) (line : List ℕ) → ByInstalls one → AnswersCheck g words script trace root (Refused line) → ⊥
    run_refused one line a b = not_opened (opening_by words (topology_of_graph g) root) a.1.1.setting b.0 b.1 b.2 a.1.0 a.1.1.opened

    not_no_thread : ByInstalls NoThread → ⊥
    not_no_thread a = no_thread g trace (run_with words (topology_of_graph g) script.steps) a.0 words.whole a.2

    pub check_same : (one other : Answer) → AnswersCheck g words script trace root one → AnswersCheck g words script trace root other → one ≡ other
    check_same (Refused line) (Refused told) a b =
        let opening = opening_by words (topology_of_graph g) root in
        ap (λ (l : List ℕ). Refused l) (a.3 ∙ ap opening_line (refusal_as opening.topology a.0 b.0 (open_refused opening) a.1 b.1 a.2 b.2) ∙ sym b.3)
    check_same (Refused line) (Ran text refused) a b = absurd (run_refused (Ran text refused) line b a)
    check_same (Refused line) (Found text) a b = absurd (run_refused (Found text) line b a)
    check_same (Refused line) NoThread a b = absurd (not_no_thread b)
    check_same (Ran text refused) (Refused line) a b = absurd (run_refused (Ran text refused) line a b)
    check_same (Ran text refused) (Ran said told) a b = both_run (Ran text refused) (Ran said told) a b
    check_same (Ran text refused) (Found said) a b = both_run (Ran text refused) (Found said) a b
    check_same (Ran text refused) NoThread a b = absurd (not_no_thread b)
    check_same (Found text) (Refused line) a b = absurd (run_refused (Found text) line a b)
    check_same (Found text) (Ran said told) a b = both_run (Found text) (Ran said told) a b
    check_same (Found text) (Found said) a b = both_run (Found text) (Found said) a b
    check_same (Found text) NoThread a b = absurd (not_no_thread b)
    check_same NoThread other a b = absurd (not_no_thread a)

-- an answer to a value, or the one answer to an error
result_same : {A E : Type 0} (r : Result A E) (answers : A → Answer → Type 0) (refused : E → Answer) → ((a : A) (one other : Answer) → answers a one → answers a other → one ≡ other)
    → (one other : Answer) → MatchResult r (λ a. answers a one) (λ f. one ≡ refused f) → MatchResult r (λ a. answers a other) (λ f. other ≡ refused f) → one ≡ other
result_same (Ok a) answers refused each one other h k = each a one other h k
result_same (Err f) answers refused each one other h k = h ∙ sym k

option_same : {A : Type 0} (o : Option A) (answers : A → Answer → Type 0) (refused : Answer) → ((a : A) (one other : Answer) → answers a one → answers a other → one ≡ other)
    → (one other : Answer) → MatchOption o (one ≡ refused) (λ a. answers a one) → MatchOption o (other ≡ refused) (λ a. answers a other) → one ≡ other
option_same None answers refused each one other h k = h ∙ sym k
option_same (Some a) answers refused each one other h k = each a one other h k

pub checked_same : (words : Words) (script : List (List ℕ)) (trace : List ℕ) (g : Adjacency) (one other : Answer) → AnswersChecked words script trace g one → AnswersChecked words script trace g other → one ≡ other
checked_same words script trace g =
    result_same (script_said line_step words script g)
    (λ listing answer. MatchOption (root_in (names g) (root_name words)) (answer ≡ Refused (opening_line (no_root g))) (λ root. AnswersCheck g words listing trace root answer))
    (λ f. Refused (script_line f))
    (λ listing. option_same (root_in (names g) (root_name words)) (λ root answer. AnswersCheck g words listing trace root answer) (Refused (opening_line (no_root g)))
    (λ root. check_same g words trace listing root))

-- ---- texts

-- an answer to nothing, or the one answer to something
none_same : {A : Type 0} (o : Option A) (answers : Answer → Type 0) (refused : A → Answer) → ((one other : Answer) → answers one → answers other → one ≡ other)
    → (one other : Answer) → MatchOption o (answers one) (λ f. one ≡ refused f) → MatchOption o (answers other) (λ f. other ≡ refused f) → one ≡ other
none_same None answers refused each one other h k = each one other h k
none_same (Some f) answers refused each one other h k = h ∙ sym k

topology_same : (words : Words) (topology script : List (List ℕ)) (trace : List ℕ) (one other : Answer) → AnswersTopology words.format topology (AnswersChecked words script trace) one
    → AnswersTopology words.format topology (AnswersChecked words script trace) other → one ≡ other
topology_same words topology script trace =
    none_same (topology_fault words.format topology) (λ answer. AnswersChecked words script trace (topology_graph words.format topology) answer) (λ f. Refused (topology_line f))
    (λ one other. checked_same words script trace (topology_graph words.format topology) one other)

pub texts_same : (words : Words) (texts : List (List ℕ)) (one other : Answer) → CheckAnswers words texts one → CheckAnswers words texts other → one ≡ other
texts_same words texts one other a b =
    let same = three_same texts a.0 a.1 a.2 b.0 b.1 b.2 a.3 b.3 in
    topology_same words (lines a.0) (lines a.1) a.2 one other a.4
    (subst (λ (t : List ℕ). AnswersTopology words.format (lines a.0) (AnswersChecked words (lines a.1) t) other) (sym same.traces)
    (subst (λ (ls : List (List ℕ)). AnswersTopology words.format (lines a.0) (AnswersChecked words ls b.2) other) (sym same.scripts)
    (subst (λ (ls : List (List ℕ)). AnswersTopology words.format ls (AnswersChecked words (lines b.1) b.2) other) (sym same.topologies) b.4)))
