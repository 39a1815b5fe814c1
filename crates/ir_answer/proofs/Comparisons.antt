-- The answers that compare plans, by what was read before these are built.
use Rattle.std.proofs.Common.{◌≡◌, ◌∷◌, [], ℕ, List, Some, None, subst}
use Rattle.ir_model.specs.declared.Fault.{Fault}
use Rattle.ir_model.specs.Graph.{Adjacency}
use Rattle.ir_model.specs.Text.{lines}
use Rattle.ir_cli.specs.declared.words.Words.{Words}
use Rattle.ir_cli.specs.Answer.{Answer, Refused}
use Rattle.ir_cli.specs.Lines.{topology_line}
use Rattle.ir_cli.specs.Openings.{topology_fault, topology_graph, root_name, AnswersRoot}
use Rattle.ir_answer.specs.Compares.{AnswersComparison, CompareAnswers}
use Rattle.ir_answer.proofs.Answering.{of_fault, of_graph}

-- answers to the one text, which is a topology's
module _ (words : Words) (texts : List (List ℕ)) (topology : List ℕ) (one : texts ≡ topology ∷ []) where
  -- its first fault
  pub faulty : (line : List ℕ) → (f : ℕ × Fault) × (topology_fault words.format (lines topology) ≡ Some f) × (line ≡ topology_line f) → CompareAnswers words texts (Refused line)
  faulty line told = (topology, one, of_fault words.format (lines topology) (λ g. AnswersRoot g (root_name words) (AnswersComparison g)) line told)

  module _ (g : Adjacency) (sound : topology_fault words.format (lines topology) ≡ None) (graph : g ≡ topology_graph words.format (lines topology)) where
    -- an answer to its graph
    pub by_graph : (answer : Answer) → AnswersRoot g (root_name words) (AnswersComparison g) answer → CompareAnswers words texts answer
    by_graph answer holds = (
      topology,
      one,
      of_graph words.format (lines topology) (λ h. AnswersRoot h (root_name words) (AnswersComparison h)) answer sound
          (subst (λ (h : Adjacency). AnswersRoot h (root_name words) (AnswersComparison h) answer) graph holds),
    )
