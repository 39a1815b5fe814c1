-- What a topology text and the name of a root come to, before anything is opened over them.
use Rattle.std.specs.Prelude.{◌≡◌, ℕ, ◌==◌, Bool, true, false, if◌then◌else◌, List, [], length, Option, None, Some, MatchOption, bytes_eq, position, string_bytes}
use Rattle.std.specs.Option.{option_map}
use Rattle.ir_model.specs.declared.Fault.{Fault}
use Rattle.ir_model.specs.Graph.{Name, Adjacency, names}
use Rattle.ir_model.specs.Made.{graph_of}
use Rattle.ir_model.specs.Text.{names_in, pairs_in, first_fault}
use Rattle.ir_model.specs.declared.Kind.{Kind}
use Rattle.ir_model.specs.Topology.{Topology, node_count}
use Rattle.ir_model.specs.Edgelist.{edges_in, graph_of_edges, first_edge_fault}
use Rattle.ir_plan.specs.declared.tour.LabelOrder.{LabelOrder}
use Rattle.ir_plan.specs.declared.tour.LabelOrder.TheVariants as orders
use Rattle.ir_core.specs.declared.opening.Opening.{Opening}
use Rattle.ir_core.specs.declared.event.OpenError.{OpenError}
use Rattle.ir_core.specs.declared.event.OpenError.TheVariants.{Empty, NoNode}
use Rattle.ir_cli.specs.declared.words.Format.{Format}
use Rattle.ir_cli.specs.declared.words.Format.TheVariants.{AdjList, EdgeList}
use Rattle.ir_cli.specs.declared.words.NumberingChoice.{NumberingChoice}
use Rattle.ir_cli.specs.declared.words.NumberingChoice.TheVariants.{DepthFirst, Tour, Keep, KeepDepthFirst, File}
use Rattle.ir_cli.specs.declared.words.Words.{Words}
use Rattle.ir_cli.specs.Kinds.{detour_of, kind_of}
use Rattle.ir_cli.specs.Answer.{Answer, Refused}
use Rattle.ir_script.specs.Order.{order_fault, IsOrder}
use Rattle.ir_cli.specs.Lines.{topology_line, new_line, numbering_line, opening_line}

-- the first fault of the lines of a topology text, and their graph
abbrev pub topology_fault : Format → List (List ℕ) → Option (ℕ × Fault)
topology_fault AdjList ls = first_fault [] ls
topology_fault EdgeList ls = first_edge_fault ls

abbrev pub topology_graph : Format → List (List ℕ) → Adjacency
topology_graph AdjList ls = graph_of (names_in ls) (pairs_in ls)
topology_graph EdgeList ls = graph_of_edges (edges_in ls)

-- the name of the root, if the words have one
abbrev pub root_name : Words → Option Name
root_name words = option_map string_bytes words.root

-- the root's number: that of its name, or else that of the first node
abbrev pub root_in : List Name → Option Name → Option ℕ
root_in nodes None = Some 0
root_in nodes (Some name) = position (bytes_eq name) nodes

-- the order in which the plans of a run are labelled; that of a file is no run's, and one that is kept is at first a tour's
abbrev pub label_order : NumberingChoice → LabelOrder
label_order DepthFirst = orders.DepthFirst
label_order Tour = orders.Tour
label_order Keep = orders.Tour
label_order KeepDepthFirst = orders.DepthFirst
label_order (File name) = orders.DepthFirst

-- the installs of a run keep the order of the epoch before
abbrev pub keeps_order : NumberingChoice → Bool
keeps_order Keep = true
keeps_order KeepDepthFirst = true
keeps_order _ = false

-- the kind that the words ask for, of plans of so many nodes
abbrev pub kind_asked : Words → ℕ → Kind
kind_asked words n = kind_of words.kind (detour_of words.detour n)

-- the opening of a run over a network, as the words ask for it
abbrev pub opening_by : Words → Topology → ℕ → Opening
opening_by words net root = record {
  topology = net;
  labels = label_order words.numbering;
  keeps = keeps_order words.numbering;
  kind = kind_asked words (node_count net);
  root = root;
  capacity = words.capacity;
  max_packets = words.packets;
  restamps = words.restamps;
}

-- the refusal of a root that is no node
abbrev pub no_root : Adjacency → OpenError
no_root g = if length g == 0 then Empty else NoNode

-- The answer to the lines of a topology text: its first fault, or else an answer to its graph.
abbrev pub AnswersTopology : Format → List (List ℕ) → (Adjacency → Answer → Type 0) → Answer → Type 0
AnswersTopology format ls answers answer =
    MatchOption (topology_fault format ls) (answers (topology_graph format ls) answer) (λ f. answer ≡ Refused (topology_line f))

-- the same of the new topology
abbrev pub AnswersNew : Format → List (List ℕ) → (Adjacency → Answer → Type 0) → Answer → Type 0
AnswersNew format ls answers answer =
    MatchOption (topology_fault format ls) (answers (topology_graph format ls) answer) (λ f. answer ≡ Refused (new_line f))

-- The answer to a graph and the name of a root: the refusal of a root that is no node, or else an answer to its number.
abbrev pub AnswersRoot : Adjacency → Option Name → (ℕ → Answer → Type 0) → Answer → Type 0
AnswersRoot g root answers answer =
    MatchOption (root_in (names g) root) (answer ≡ Refused (opening_line (no_root g))) (λ u. answers u answer)

-- The answer to a graph and the lines of an order of its nodes: the order's first fault, or else an answer to the order.
abbrev pub AnswersOrder : Adjacency → List (List ℕ) → (List ℕ → Answer → Type 0) → Answer → Type 0
AnswersOrder g ls answers answer =
    MatchOption (order_fault (names g) ls) ((order : List ℕ) × IsOrder (names g) ls order × answers order answer)
    (λ f. answer ≡ Refused (numbering_line f))
