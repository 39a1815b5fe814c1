-- The events of a drain, and the history after it.
use Rattle.std.specs.Prelude.{◌≡◌, ℕ, zero, suc, ◌-◌, ◌+◌, ◌<◌, ◌≤◌, List, [], ◌∷◌, length, if◌then◌else◌, ◌==◌}
use Rattle.ir_model.specs.declared.Hop.{Hop}
use Rattle.ir_model.specs.Topology.{ports_of}
use Rattle.ir_core.specs.declared.event.Way.{Way}
use Rattle.ir_core.specs.declared.event.Way.TheVariants.{Inbox, Link}
use Rattle.ir_core.specs.Setting.{Setting, nodes_of}
use Rattle.ir_core.specs.Entry.{Entry, DidAct}
use Rattle.ir_core.specs.History as history
use Rattle.ir_core.specs.Meaning.{sight_after, with_entry, reads, takes, acts}

-- The history after a node read the newest version; after it acted on what it holds, if it holds a packet; and after
-- it took the first packet of a channel, if there is one. What is refused changes nothing.
abbrev pub after_read : Setting → ℕ → List Entry → List Entry
after_read setting u log = with_entry log (reads setting (sight_after setting log) u (length (history.boards log) - 1))

abbrev pub after_act : Setting → ℕ → List Entry → List Entry
after_act setting u log = with_entry log (acts setting (sight_after setting log) u)

abbrev pub after_take : Setting → ℕ → Way → List Entry → List Entry
after_take setting u way log = with_entry log (takes setting (sight_after setting log) u way)

-- a node takes the first packet of a channel and acts on it
abbrev pub after_way : Setting → ℕ → Way → List Entry → List Entry
after_way setting u way log = after_act setting u (after_take setting u way log)

-- the same for each of these ports' links, in order
abbrev pub after_ports : Setting → ℕ → List Hop → List Entry → List Entry
after_ports setting u [] log = log
after_ports setting u (hop ∷ hops) log = after_ports setting u hops (after_way setting u (Link hop.link) log)

-- A visit of a node: it reads the newest version and acts on what it holds. Then it takes from its inbox and acts, then
-- from each port's channel, in port order of the opening's topology, and acts.
abbrev pub after_visit : Setting → ℕ → List Entry → List Entry
after_visit setting u log = after_ports setting u (ports_of setting.topology u) (after_way setting u Inbox (after_act setting u (after_read setting u log)))

-- the visits of the first nodes, in order
abbrev pub after_visits : Setting → ℕ → List Entry → List Entry
after_visits setting zero log = log
after_visits setting (suc k) log = after_visit setting k (after_visits setting k log)

-- a round visits all nodes
abbrev pub after_round : Setting → List Entry → List Entry
after_round setting log = after_visits setting (nodes_of setting) log

abbrev pub after_rounds : Setting → ℕ → List Entry → List Entry
after_rounds setting zero log = log
after_rounds setting (suc k) log = after_round setting (after_rounds setting k log)

-- how many Acts a history has
abbrev pub acts_in : List Entry → ℕ
acts_in [] = 0
acts_in (DidAct u id way restamp verdict ∷ log) = acts_in log + 1
acts_in (_ ∷ log) = acts_in log

-- how many Acts on a packet a history has
abbrev pub acts_of : ℕ → List Entry → ℕ
acts_of id [] = 0
acts_of id (DidAct u i way restamp verdict ∷ log) = if i == id then acts_of id log + 1 else acts_of id log
acts_of id (_ ∷ log) = acts_of id log

-- A drain makes rounds until one has no Act. It has at most as many Acts on a packet as there are nodes.
pub record IsDrained (setting : Setting) (log later : List Entry) : Type 0 where
  pub rounds : ℕ
  pub ends : later ≡ after_rounds setting (suc rounds) log
  pub last_is_quiet : acts_in (after_rounds setting (suc rounds) log) ≡ acts_in (after_rounds setting rounds log)
  pub others_act : (k : ℕ) → k < rounds → acts_in (after_rounds setting k log) < acts_in (after_rounds setting (suc k) log)
  pub few_acts : (id : ℕ) → acts_of id later ≤ acts_of id log + nodes_of setting
