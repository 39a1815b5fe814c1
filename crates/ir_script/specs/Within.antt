-- The steps that name nodes and links of a network.
use Rattle.std.specs.Prelude.{ℕ, ◌&&◌, Bool, true, length, nat_lt}
use Rattle.ir_model.specs.Topology.{Topology, node_count}
use Rattle.ir_core.specs.declared.event.Way.{Way}
use Rattle.ir_core.specs.declared.event.Way.TheVariants.{Inbox, Link}
use Rattle.ir_core.specs.declared.event.Event.{Event}
use Rattle.ir_core.specs.declared.event.Event.TheVariants.{Inject, Learn, Take, Read, Act, Install, Renumber, Retire, Down, Up, Avoid, Heed}
use Rattle.ir_core.specs.declared.event.Step.{Step}
use Rattle.ir_core.specs.declared.event.Step.TheVariants as step

-- the number is a node's
abbrev pub is_node_of : Topology → ℕ → Bool
is_node_of net u = nat_lt u (node_count net)

-- the number is a link's
abbrev pub is_link : Topology → ℕ → Bool
is_link net l = nat_lt l (length net.links)

-- the inbox, or a link of the network
abbrev pub is_way_within : Topology → Way → Bool
is_way_within net Inbox = true
is_way_within net (Link l) = is_link net l

-- the nodes and the link of an event are those of the network
abbrev pub is_event_within : Topology → Event → Bool
is_event_within net (Inject u v) = is_node_of net u && is_node_of net v
is_event_within net (Learn e) = true
is_event_within net (Take u way) = is_node_of net u && is_way_within net way
is_event_within net (Read u k) = is_node_of net u
is_event_within net (Act u) = is_node_of net u
is_event_within net (Install kind r) = is_node_of net r
is_event_within net (Renumber kind r) = is_node_of net r
is_event_within net (Retire f) = true
is_event_within net (Down l) = is_link net l
is_event_within net (Up l) = is_link net l
is_event_within net (Avoid l) = is_link net l
is_event_within net (Heed l) = is_link net l

-- the nodes and links of a step are those of the network
abbrev pub is_step_within : Topology → Step → Bool
is_step_within net (step.Event event) = is_event_within net event
is_step_within net step.Drain = true
