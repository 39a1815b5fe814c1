-- The lines of what the nodes do in a drain.
use Rattle.std.specs.Prelude.{◌≡◌, ℕ, ◌==◌, if◌then◌else◌, List, [], ◌∷◌, ◌++◌, Ok}
use Rattle.ir_model.specs.Graph.{Name}
use Rattle.ir_model.specs.Topology.{Topology}
use Rattle.ir_core.specs.declared.event.Event.TheVariants.{Take, Read, Act}
use Rattle.ir_core.specs.Entry.{Entry, DidInject, DidLearn, DidTake, DidRead, DidAct, DidChange, DidInstall, reply_of}
use Rattle.ir_core.specs.History as history
use Rattle.ir_steps.specs.Words.{event_line}

-- The line of what a node did after a history. To read the version that it read last is no line. Of the other entries a
-- drain makes none.
abbrev pub entry_line : List Name → Topology → ℕ → List Entry → Entry → List ℕ
entry_line nodes net line log (DidTake u way id) =
    event_line nodes net line (λ p. history.packet p (DidTake u way id ∷ log)) (Take u way) (Ok (reply_of (DidTake u way id)))
entry_line nodes net line log (DidRead u k) =
    if history.view u log == k then [] else event_line nodes net line (λ p. history.packet p (DidRead u k ∷ log)) (Read u k) (Ok (reply_of (DidRead u k)))
entry_line nodes net line log (DidAct u id way restamp verdict) =
    event_line nodes net line (λ p. history.packet p (DidAct u id way restamp verdict ∷ log)) (Act u) (Ok (reply_of (DidAct u id way restamp verdict)))
entry_line nodes net line log (DidInject id e s d room) = []
entry_line nodes net line log (DidLearn e) = []
entry_line nodes net line log (DidChange b) = []
entry_line nodes net line log (DidInstall e plan b) = []

-- the lines of what the nodes did in a history
abbrev pub history_lines : List Name → Topology → ℕ → List Entry → List ℕ
history_lines nodes net line [] = []
history_lines nodes net line (entry ∷ log) = history_lines nodes net line log ++ entry_line nodes net line log entry

-- what they did between two histories, of which the later goes on from the other
abbrev pub AreLinesBetween : List Name → Topology → ℕ → List Entry → List Entry → List ℕ → Type 0
AreLinesBetween nodes net line log later text = history_lines nodes net line later ≡ history_lines nodes net line log ++ text
