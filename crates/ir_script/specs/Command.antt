-- What one line of a script says.
use Rattle.std.specs.Prelude.{ℕ, not, ◌&&◌, ◌||◌, ◌==◌, Bool, if◌then◌else◌, List, [], ◌∷◌, length, nat_le, Option, Some, None, Result, Ok, Err, bytes_eq, codes, find, position}
use Rattle.std.specs.List.{list_all}
use Rattle.ir_model.specs.declared.Detour.{Detour}
use Rattle.ir_model.specs.declared.Hop.{Hop}
use Rattle.ir_model.specs.declared.Kind.{Kind}
use Rattle.ir_model.specs.declared.Kind.TheVariants.{Tree, Shortest, Compact, Landmark}
use Rattle.ir_model.specs.Graph.{Name}
use Rattle.ir_model.specs.Text.{content, words, is_plain, is_empty}
use Rattle.ir_model.specs.Edgelist.{is_digit, value_of}
use Rattle.ir_model.specs.Topology.{Topology, ports_of}
use Rattle.ir_core.specs.declared.event.Way.TheVariants.{Inbox, Link}
use Rattle.ir_core.specs.declared.event.Event.{Event}
use Rattle.ir_core.specs.declared.event.Event.TheVariants.{Inject, Learn, Take, Read, Act, Install, Renumber, Retire, Down, Up, Avoid, Heed}
use Rattle.ir_core.specs.declared.event.Step.{Step}
use Rattle.ir_core.specs.declared.event.Step.TheVariants as step
use Rattle.ir_core.specs.declared.command.Command.{Command}
use Rattle.ir_core.specs.declared.command.Command.TheVariants as command
use Rattle.ir_script.specs.declared.TheConstants.{MAX_DIGITS, MAX_NUMBER}
use Rattle.ir_script.specs.declared.fault.ScriptFault.{ScriptFault}
use Rattle.ir_script.specs.declared.fault.ScriptFault.TheVariants.{BadByte, BadCommand, BadNumber, UnknownNode, UnknownLink}

-- ---- what a word stands for

-- one to five decimal digits, of a value up to the greatest
abbrev pub is_number : Name → Bool
is_number word = not (is_empty word) && nat_le (length word) MAX_DIGITS && list_all is_digit word && nat_le (value_of word) MAX_NUMBER

-- the number that a word spells
abbrev pub number_of : Name → Result ℕ ScriptFault
number_of word = if is_number word then Ok (value_of word) else Err BadNumber

-- the place of a node, where it was found
abbrev pub node_at : Option ℕ → Result ℕ ScriptFault
node_at None = Err UnknownNode
node_at (Some u) = Ok u

-- the number of the node that a word names
abbrev pub node_of : List Name → Name → Result ℕ ScriptFault
node_of nodes word = node_at (position (bytes_eq word) nodes)

-- the link of a port, where it was found
abbrev pub link_of_port : Option Hop → Result ℕ ScriptFault
link_of_port None = Err UnknownLink
link_of_port (Some hop) = Ok hop.link

-- the link by which a port of u leads to v
abbrev pub link_towards : Topology → ℕ → ℕ → Result ℕ ScriptFault
link_towards net u v = link_of_port (find (λ hop. hop.node == v) (ports_of net u))

-- the link between two ends, where both are nodes
abbrev pub link_of_ends : Topology → Result ℕ ScriptFault → Result ℕ ScriptFault → Result ℕ ScriptFault
link_of_ends net (Err e) v = Err e
link_of_ends net (Ok u) (Err e) = Err e
link_of_ends net (Ok u) (Ok v) = link_towards net u v

-- the link between the nodes that two words name
abbrev pub named_link : List Name → Topology → Name → Name → Result ℕ ScriptFault
named_link nodes net first second = link_of_ends net (node_of nodes first) (node_of nodes second)

-- ---- the event of what words stand for

-- of one word
abbrev pub of_one : (ℕ → Event) → Result ℕ ScriptFault → Result Event ScriptFault
of_one event (Err e) = Err e
of_one event (Ok x) = Ok (event x)

-- of two words: the fault of the first comes first
abbrev pub of_two : (ℕ → ℕ → Event) → Result ℕ ScriptFault → Result ℕ ScriptFault → Result Event ScriptFault
of_two event (Err e) y = Err e
of_two event (Ok x) (Err e) = Err e
of_two event (Ok x) (Ok y) = Ok (event x y)

-- ---- the commands, by how many words follow the first

-- `act N`, `learn E`, `retire F`
abbrev pub event_of_one : List Name → Name → Name → Result Event ScriptFault
event_of_one nodes command first =
    if bytes_eq command (codes "act") then of_one (λ u. Act u) (node_of nodes first)
    else if bytes_eq command (codes "learn") then of_one (λ e. Learn e) (number_of first)
    else if bytes_eq command (codes "retire") then of_one (λ f. Retire f) (number_of first)
    else Err BadCommand

-- the kind that a word names; landmark plans go round so far
abbrev pub kind_named : Detour → Name → Result Kind ScriptFault
kind_named detour word =
    if bytes_eq word (codes "tree") then Ok Tree
    else if bytes_eq word (codes "shortest") then Ok Shortest
    else if bytes_eq word (codes "compact") then Ok Compact
    else if bytes_eq word (codes "landmark") then Ok (Landmark detour)
    else Err BadCommand

-- an event of a kind and a root
abbrev pub of_kind : (Kind → ℕ → Event) → Result Kind ScriptFault → Result ℕ ScriptFault → Result Event ScriptFault
of_kind event (Err e) root = Err e
of_kind event (Ok kind) root = of_one (λ r. event kind r) root

-- `inject A B`, `down A B`, `up A B`, `avoid A B`, `heed A B`, `read N K`, `take N inbox`, `install KIND R`, `renumber KIND R`
abbrev pub event_of_two : Detour → List Name → Topology → Name → Name → Name → Result Event ScriptFault
event_of_two detour nodes net command first second =
    if bytes_eq command (codes "inject") then of_two (λ u v. Inject u v) (node_of nodes first) (node_of nodes second)
    else if bytes_eq command (codes "down") then of_one (λ l. Down l) (named_link nodes net first second)
    else if bytes_eq command (codes "up") then of_one (λ l. Up l) (named_link nodes net first second)
    else if bytes_eq command (codes "avoid") then of_one (λ l. Avoid l) (named_link nodes net first second)
    else if bytes_eq command (codes "heed") then of_one (λ l. Heed l) (named_link nodes net first second)
    else if bytes_eq command (codes "read") then of_two (λ u k. Read u k) (node_of nodes first) (number_of second)
    else if bytes_eq command (codes "take") && bytes_eq second (codes "inbox") then of_one (λ u. Take u Inbox) (node_of nodes first)
    else if bytes_eq command (codes "install") then of_kind (λ kind r. Install kind r) (kind_named detour first) (node_of nodes second)
    else if bytes_eq command (codes "renumber") then of_kind (λ kind r. Renumber kind r) (kind_named detour first) (node_of nodes second)
    else Err BadCommand

-- `take N from M`
abbrev pub event_of_three : List Name → Topology → Name → Name → Name → Name → Result Event ScriptFault
event_of_three nodes net command first second third =
    if bytes_eq command (codes "take") && bytes_eq second (codes "from") then of_two (λ u l. Take u (Link l)) (node_of nodes first) (named_link nodes net first third)
    else Err BadCommand

-- an event as the step of a line
abbrev pub as_step : Result Event ScriptFault → Result (Option Step) ScriptFault
as_step (Err e) = Err e
as_step (Ok event) = Ok (Some (step.Event event))

-- the step that the words of a line name: none where there is no word, and `drain` where there is that one
abbrev pub step_of : Detour → List Name → Topology → List Name → Result (Option Step) ScriptFault
step_of detour nodes net [] = Ok None
step_of detour nodes net (command ∷ []) = if bytes_eq command (codes "drain") then Ok (Some step.Drain) else Err BadCommand
step_of detour nodes net (command ∷ first ∷ []) = as_step (event_of_one nodes command first)
step_of detour nodes net (command ∷ first ∷ second ∷ []) = as_step (event_of_two detour nodes net command first second)
step_of detour nodes net (command ∷ first ∷ second ∷ third ∷ []) = as_step (event_of_three nodes net command first second third)
step_of detour nodes net (command ∷ first ∷ second ∷ third ∷ fourth ∷ more) = Err BadCommand

-- what a line says: its bytes are looked at first
abbrev pub line_step : Detour → List Name → Topology → List ℕ → Result (Option Step) ScriptFault
line_step detour nodes net line = if not (list_all is_plain (content line)) then Err BadByte else step_of detour nodes net (words line)

-- ---- the commands of a live run

-- the first words of the lines that are of a simulation alone
abbrev pub is_of_simulation : Name → Bool
is_of_simulation word = bytes_eq word (codes "learn") || bytes_eq word (codes "take") || bytes_eq word (codes "read") || bytes_eq word (codes "act")

-- the command that a step is
abbrev pub command_of : Step → Result Command ScriptFault
command_of (step.Event (Inject u v)) = Ok (command.Inject u v)
command_of (step.Event (Install kind r)) = Ok (command.Install kind r)
command_of (step.Event (Renumber kind r)) = Ok (command.Renumber kind r)
command_of (step.Event (Retire f)) = Ok (command.Retire f)
command_of (step.Event (Down l)) = Ok (command.Down l)
command_of (step.Event (Up l)) = Ok (command.Up l)
command_of (step.Event (Avoid l)) = Ok (command.Avoid l)
command_of (step.Event (Heed l)) = Ok (command.Heed l)
command_of step.Drain = Ok command.Drain
command_of (step.Event (Learn e)) = Err BadCommand
command_of (step.Event (Take u way)) = Err BadCommand
command_of (step.Event (Read u k)) = Err BadCommand
command_of (step.Event (Act u)) = Err BadCommand

-- a command of a line
abbrev pub some_command : Result Command ScriptFault → Result (Option Command) ScriptFault
some_command (Err e) = Err e
some_command (Ok c) = Ok (Some c)

-- a step as the command of a line
abbrev pub as_command : Result (Option Step) ScriptFault → Result (Option Command) ScriptFault
as_command (Err e) = Err e
as_command (Ok None) = Ok None
as_command (Ok (Some s)) = some_command (command_of s)

-- the command that the words of a line name: none where there is no word. A line of a simulation alone is no command,
-- whatever follows its first word; each other line names what it names in a simulation.
abbrev pub command_named : Detour → List Name → Topology → List Name → Result (Option Command) ScriptFault
command_named detour nodes net [] = Ok None
command_named detour nodes net (word ∷ more) = if is_of_simulation word then Err BadCommand else as_command (step_of detour nodes net (word ∷ more))

-- what a line of a live run's script says
abbrev pub line_command : Detour → List Name → Topology → List ℕ → Result (Option Command) ScriptFault
line_command detour nodes net line = if not (list_all is_plain (content line)) then Err BadByte else command_named detour nodes net (words line)
