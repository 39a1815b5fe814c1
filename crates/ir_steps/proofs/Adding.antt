use Rattle.std.proofs.Common.{◌≡◌, ◌≢◌, ℕ, suc, ◌+◌, ◌-◌, ◌<◌, ◌≤◌, List, [], ◌∷◌, ◌++◌, append_assoc, length, take, get_or, slice_get, Option, Some, None, refl, sym, ap, ◌∙◌, subst, arith, add-one, true, false, Bool, ◌⊎◌, inl, inr}
use Rattle.std.specs.Prelude.{Result, Ok, Err, slice_index, is_some, not, ◌==◌, if◌then◌else◌}
use Rattle.std.proofs.lemmas.Grind.{common_steps}
use Rattle.std.proofs.lemmas.Bool.{cases_lt}
use Rattle.std.proofs.lemmas.List.{append-nil, take_more}
use Rattle.std.proofs.lemmas.Option.{get_or_from_slice_get, slice_get_within}
use Rattle.ir_model.specs.declared.Hop.{Hop}
use Rattle.ir_model.specs.Graph.{Name}
use Rattle.ir_model.specs.Topology.{Topology, ports_of, port_at}
use Rattle.ir_core.specs.declared.event.Event.{Event}
use Rattle.ir_core.specs.declared.event.Event.TheVariants as event
use Rattle.ir_core.specs.declared.event.Way.{Way}
use Rattle.ir_core.specs.declared.event.Way.TheVariants.{Inbox, Link}
use Rattle.ir_core.specs.declared.event.Reply.{Reply}
use Rattle.ir_core.specs.declared.event.Refused.{Refused}
use Rattle.ir_core.specs.declared.event.Refused.TheVariants.{NoNode, HandFull, BadView}
use Rattle.ir_core.specs.declared.packet.Held.{Held}
use Rattle.ir_core.specs.declared.board.Board.{Board}
use Rattle.ir_core.specs.Setting.{Setting, nodes_of, channel_of}
use Rattle.ir_core.specs.Entry.{Entry, DidRead, reply_of}
use Rattle.ir_core.specs.History as history
use Rattle.ir_core.specs.Meaning.{Sight, sight_after, with_entry, reads, takes, takes_from, takes_first, acts, acts_on}
use Rattle.ir_core.specs.World.{World, IsWorld, IsAnswer, Place, Waits, InHand, Ended, sight_in, after}
use Rattle.ir_core.specs.Shows.{Shows}
use Rattle.ir_core.specs.Drain.{acts_in, after_read, after_act, after_take, after_way, after_ports, after_visit, after_visits, after_round, after_rounds}
use Rattle.ir_core.specs.Quiet.{Moves, TakesFromBefore, IsHandEmpty, IsUpToDate, acts_ahead, hops_made, floor_of}
use Rattle.ir_core.proofs.Shown.{same_sight}
use Rattle.ir_core.proofs.Quiets.{act_done_by, take_done_by, TakeDone, read_moves}
use Rattle.ir_steps.specs.Words.{event_line}
use Rattle.ir_steps.specs.Drained.{entry_line, history_lines, AreLinesBetween}
use Rattle.ir_steps.specs.Parts.{HasHistory, IsApplied, Plays, AddsText, AddsDrain, added_line}
use Rattle.ir_steps.proofs.Answered.{answer_of}

-- ---- one part after another

pub has_then : (f : List Entry → List Entry) (a : Bool) (s mid : World) → HasHistory s → Moves f a s mid → HasHistory mid
has_then f a s mid has m = (f has.0, m.shows has.0 has.1)

pub adds_none : (nodes : List Name) (net : Topology) (line : ℕ) (s : World) (text : List ℕ) → AddsText nodes net line (λ log. log) s text text
adds_none nodes net line s text = record { text = []; text_is = sym (append-nil text); lines = λ log k. sym (append-nil (history_lines nodes net line log)) }

pub adds_as : (nodes : List Name) (net : Topology) (line : ℕ) (f g : List Entry → List Entry) (s : World) (old now : List ℕ) → ((log : List Entry) → f log ≡ g log) → AddsText nodes net line f s old now → AddsText nodes net line g s old now
adds_as nodes net line f g s old now same a = record {
  text = a.text;
  text_is = a.text_is;
  lines = λ log k. subst (λ (l : List Entry). AreLinesBetween nodes net line log l a.text) (same log) (a.lines log k);
}

pub adds_then : (nodes : List Name) (net : Topology) (line : ℕ) (f g : List Entry → List Entry) (s mid : World) (old text now : List ℕ) → AddsText nodes net line f s old text →
    ((log : List Entry) → Shows log s → Shows (f log) mid) → AddsText nodes net line g mid text now → AddsText nodes net line (λ log. g (f log)) s old now
adds_then nodes net line f g s mid old text now a shows b = record {
  text = a.text ++ b.text;
  text_is = b.text_is ∙ ap (λ (t : List ℕ). t ++ b.text) a.text_is ∙ append_assoc old a.text b.text;
  lines = λ log k. b.lines (f log) (shows log k) ∙ ap (λ (t : List ℕ). t ++ b.text) (a.lines log k) ∙ append_assoc (history_lines nodes net line log) a.text b.text;
}

-- ---- one event

module _ (nodes : List Name) (net : Topology) (line : ℕ) where
  -- the packets of a world are those of its history
  packets_of : (e : Event) (reply : Result Reply Refused) (log : List Entry) (s : World) → Shows log s →
      event_line nodes net line (λ id. history.packet id log) e reply ≡ event_line nodes net line (λ id. slice_get s.records id) e reply
  packets_of e reply log s k = λ i. event_line nodes net line (λ id. sym (k.packet id) i) e reply

  pub told_by : (e : Event) (reply : Result Reply Refused) (log : List Entry) (s : World) → Shows log s →
      event_line nodes net line (λ id. slice_get s.records id) e reply ≡ event_line nodes net line (λ id. history.packet id log) e reply
  told_by e reply log s k = sym (packets_of e reply log s k)

  pub adds_of : (s new : World) (e : Event) (reply : Result Reply Refused) (w : Result Entry Refused) (f : List Entry → List Entry) (old now : List ℕ) → IsAnswer s new w reply →
      ((log : List Entry) → Shows log s → Shows (f log) new) → ((log : List Entry) → Shows log s → f log ≡ with_entry log w) →
      ((entry : Entry) → w ≡ Ok entry → (log : List Entry) → Shows log s → entry_line nodes net line log entry ≡ event_line nodes net line (λ p. history.packet p (entry ∷ log)) e (Ok (reply_of entry))) →
      now ≡ old ++ added_line nodes net line new e reply → AddsText nodes net line f s old now
  adds_of s new e reply w f old now answer shows makes told is = record { text = added_line nodes net line new e reply; text_is = is; lines = λ log k. by_wanted w refl answer log k }
    where
      by_wanted : (v : Result Entry Refused) → w ≡ v → IsAnswer s new v reply → (log : List Entry) → Shows log s → history_lines nodes net line (f log) ≡ history_lines nodes net line log ++ added_line nodes net line new e reply
      by_wanted (Err x) same a log k =
          let here : f log ≡ log = makes log k ∙ ap (λ (v : Result Entry Refused). with_entry log v) same in
          ap (λ (l : List Entry). history_lines nodes net line l) here ∙ sym (append-nil (history_lines nodes net line log))
          ∙ ap (λ (r : Result Reply Refused). history_lines nodes net line log ++ added_line nodes net line new e r) (sym a.0)
      by_wanted (Ok entry) same a log k =
          let here : f log ≡ entry ∷ log = makes log k ∙ ap (λ (v : Result Entry Refused). with_entry log v) same in
          let there : Shows (entry ∷ log) new = subst (λ (l : List Entry). Shows l new) here (shows log k) in
          ap (λ (l : List Entry). history_lines nodes net line l) here
          ∙ ap (λ (t : List ℕ). history_lines nodes net line log ++ t) (told entry same log k ∙ packets_of e (Ok (reply_of entry)) (entry ∷ log) new there)
          ∙ ap (λ (r : Result Reply Refused). history_lines nodes net line log ++ added_line nodes net line new e r) (sym a.0)

  -- ---- the entries of an Act, a take and a read

  abbrev accepted : Entry → Result Entry Refused
  accepted x = Ok x

  entry_is : (x y : Entry) → accepted x ≡ accepted y → x ≡ y
  entry_is x y e = cc

  abbrev read_to : Bool → Bool → ℕ → ℕ → Result Entry Refused
  read_to b t u k = if b then Err NoNode else if t then Err BadView else Ok (DidRead u k)

  abbrev IsLineOf : Event → List Entry → Entry → Type 0
  IsLineOf e log entry = entry_line nodes net line log entry ≡ event_line nodes net line (λ p. history.packet p (entry ∷ log)) e (Ok (reply_of entry))

  act_line : (b : Bool) (o : Setting) (x : Sight) (u : ℕ) (hand : Option Held) (entry : Entry) → (if b then Err NoNode else acts_on o x u hand) ≡ accepted entry → (log : List Entry) → IsLineOf (event.Act u) log entry
  act_line true o x u hand entry e log = cc
  act_line false o x u None entry e log = cc
  act_line false o x u (Some held) entry e log = subst (λ (y : Entry). IsLineOf (event.Act u) log y) (entry_is _ entry e) refl

  first_line : (u : ℕ) (way : Way) (first : Option ℕ) (entry : Entry) → takes_first u way first ≡ accepted entry → (log : List Entry) → IsLineOf (event.Take u way) log entry
  first_line u way None entry e log = cc
  first_line u way (Some id) entry e log = subst (λ (y : Entry). IsLineOf (event.Take u way) log y) (entry_is _ entry e) refl

  full_line : (full : Bool) (u : ℕ) (way : Way) (first : Option ℕ) (entry : Entry) → (if full then Err HandFull else takes_first u way first) ≡ accepted entry → (log : List Entry) → IsLineOf (event.Take u way) log entry
  full_line true u way first entry e log = cc
  full_line false u way first entry e log = first_line u way first entry e log

  take_line : (b : Bool) (x : Sight) (u : ℕ) (way : Way) (channel : Option ℕ) (entry : Entry) → (if b then Err NoNode else takes_from x u way channel) ≡ accepted entry → (log : List Entry) → IsLineOf (event.Take u way) log entry
  take_line true x u way channel entry e log = cc
  take_line false x u way None entry e log = cc
  take_line false x u way (Some c) entry e log = full_line (is_some (x.hand u)) u way (slice_get (x.waiting c) 0) entry e log

  read_line : (b t : Bool) (u k : ℕ) (entry : Entry) → read_to b t u k ≡ accepted entry → (log : List Entry) → (history.view u log == k) ≡ false → IsLineOf (event.Read u k) log entry
  read_line true t u k entry e log new = cc
  read_line false true u k entry e log new = cc
  read_line false false u k entry e log new =
      let text = event_line nodes net line (λ p. history.packet p (DidRead u k ∷ log)) (event.Read u k) (Ok (reply_of (DidRead u k))) in
      subst (λ (y : Entry). IsLineOf (event.Read u k) log y) (entry_is _ entry e) (ap (λ (b : Bool). if b then [] else text) new)

  -- the version that was read is no line
  read_nothing : (b t : Bool) (u k : ℕ) (log : List Entry) → (history.view u log == k) ≡ true →
      history_lines nodes net line (with_entry log (read_to b t u k)) ≡ history_lines nodes net line log ++ []
  read_nothing true t u k log same = sym (append-nil (history_lines nodes net line log))
  read_nothing false true u k log same = sym (append-nil (history_lines nodes net line log))
  read_nothing false false u k log same =
      let text = event_line nodes net line (λ p. history.packet p (DidRead u k ∷ log)) (event.Read u k) (Ok (reply_of (DidRead u k))) in
      ap (λ (b : Bool). history_lines nodes net line log ++ (if b then [] else text)) same

equals : (v k : ℕ) → v ≡ k → (v == k) ≡ true
equals v k e = grind (arith, common_steps)

differs : (v k : ℕ) → v ≢ k → (v == k) ≡ false
differs v k ne = grind (arith, common_steps)

-- ---- what a node does

module _ (s new : World) (ok : IsWorld s) (has : HasHistory s) (u : ℕ) (u_in : u < nodes_of s.opening) where
  -- a read of the newest version
  module _ (k : ℕ) (newest : k ≡ length s.boards - 1) where
    pub read_answer : (reply : Result Reply Refused) → IsApplied (event.Read u k) reply s new → IsAnswer s new (reads s.opening (sight_in s) u k) reply
    read_answer reply applied =
        answer_of s new ok has (event.Read u k) reply applied (λ (x : Sight). reads s.opening x u k) (λ x w h. h) (λ x. refl) (λ x h. h)
        (λ entry is. ((read_moves s (after s entry) ok u k u_in (Ok (reply_of entry)) newest (subst (λ (w : Result Entry Refused). IsAnswer s (after s entry) w (Ok (reply_of entry))) (sym is) (refl, refl))).few ok).0)

    read_makes : (log : List Entry) → Shows log s → after_read s.opening u log ≡ with_entry log (reads s.opening (sight_in s) u k)
    read_makes log shows =
        let place : length (history.boards log) - 1 ≡ k = ap (λ (b : List Board). length b - 1) (sym shows.boards) ∙ sym newest in
        ap (λ (j : ℕ). with_entry log (reads s.opening (sight_after s.opening log) u j)) place ∙ ap (λ (x : Sight). with_entry log (reads s.opening x u k)) (sym (same_sight log s shows))

    -- of one that the node has not read
    pub read_adds : (nodes : List Name) (net : Topology) (line : ℕ) (accepted : Bool) (old now : List ℕ) → slice_index s.views u ≢ k → Plays nodes net line (event.Read u k) accepted s new old now →
        AddsText nodes net line (after_read s.opening u) s old now
    read_adds nodes net line accepted old now other p =
        let answer = read_answer p.reply p.applied in
        adds_of nodes net line s new (event.Read u k) p.reply (reads s.opening (sight_in s) u k) (after_read s.opening u) old now answer
        (read_moves s new ok u k u_in p.reply newest answer).shows read_makes
        (λ entry e log shows. read_line nodes net line _ _ u k entry e log (differs (history.view u log) k (λ e. other (shows.view u ∙ e)))) p.text_is

    -- of the one that it has read
    pub read_adds_nothing : (nodes : List Name) (net : Topology) (line : ℕ) (text : List ℕ) → slice_index s.views u ≡ k → AddsText nodes net line (after_read s.opening u) s text text
    read_adds_nothing nodes net line text same = record {
      text = [];
      text_is = sym (append-nil text);
      lines = λ log shows. ap (λ (l : List Entry). history_lines nodes net line l) (read_makes log shows) ∙ read_nothing nodes net line _ _ u k log (equals (history.view u log) k (sym (shows.view u) ∙ same));
    }

  -- an Act, by the newest board
  module _ (up : IsUpToDate s u) where
    pub act_answer : (reply : Result Reply Refused) → IsApplied (event.Act u) reply s new → IsAnswer s new (acts s.opening (sight_in s) u) reply
    act_answer reply applied =
        answer_of s new ok has (event.Act u) reply applied (λ (x : Sight). acts s.opening x u) (λ x w h. h) (λ x. refl) (λ x h. h)
        (λ entry is. ((act_done_by s (after s entry) ok u u_in up (Ok (reply_of entry)) (subst (λ (w : Result Entry Refused). IsAnswer s (after s entry) w (Ok (reply_of entry))) (sym is) (refl, refl))).moves.few ok).0)

    pub act_adds : (nodes : List Name) (net : Topology) (line : ℕ) (accepted : Bool) (old now : List ℕ) → Plays nodes net line (event.Act u) accepted s new old now → AddsText nodes net line (after_act s.opening u) s old now
    act_adds nodes net line accepted old now p =
        let answer = act_answer p.reply p.applied in
        adds_of nodes net line s new (event.Act u) p.reply (acts s.opening (sight_in s) u) (after_act s.opening u) old now answer
        (act_done_by s new ok u u_in up p.reply answer).moves.shows (λ log shows. ap (λ (x : Sight). with_entry log (acts s.opening x u)) (sym (same_sight log s shows)))
        (λ entry e log shows. act_line nodes net line _ s.opening (sight_in s) u _ entry e log) p.text_is

  -- a take
  module _ (way : Way) (c : ℕ) (there : channel_of s.opening u way ≡ Some c) (empty : IsHandEmpty s u) where
    pub take_answer : (reply : Result Reply Refused) → IsApplied (event.Take u way) reply s new → IsAnswer s new (takes s.opening (sight_in s) u way) reply
    take_answer reply applied =
        answer_of s new ok has (event.Take u way) reply applied (λ (x : Sight). takes s.opening x u way) (λ x w h. h) (λ x. refl) (λ x h. h)
        (λ entry is. ((take_done_by s (after s entry) ok u way c u_in there empty (Ok (reply_of entry)) (subst (λ (w : Result Entry Refused). IsAnswer s (after s entry) w (Ok (reply_of entry))) (sym is) (refl, refl))).few ok).0)

    pub take_done : (reply : Result Reply Refused) → IsApplied (event.Take u way) reply s new → TakeDone s u way new
    take_done reply applied = take_done_by s new ok u way c u_in there empty reply (take_answer reply applied)

    pub take_adds : (nodes : List Name) (net : Topology) (line : ℕ) (accepted : Bool) (old now : List ℕ) → Plays nodes net line (event.Take u way) accepted s new old now → AddsText nodes net line (after_take s.opening u way) s old now
    take_adds nodes net line accepted old now p =
        adds_of nodes net line s new (event.Take u way) p.reply (takes s.opening (sight_in s) u way) (after_take s.opening u way) old now (take_answer p.reply p.applied)
        (take_done p.reply p.applied).shows (λ log shows. ap (λ (x : Sight). with_entry log (takes s.opening x u way)) (sym (same_sight log s shows)))
        (λ entry e log shows. take_line nodes net line _ (sight_in s) u way (channel_of s.opening u way) entry e log) p.text_is

-- a take and then an Act
pub way_adds : (nodes : List Name) (net : Topology) (line : ℕ) (s mid : World) (u : ℕ) (way : Way) (old text now : List ℕ) → TakeDone s u way mid → AddsText nodes net line (after_take s.opening u way) s old text →
    AddsText nodes net line (after_act mid.opening u) mid text now → AddsText nodes net line (after_way s.opening u way) s old now
way_adds nodes net line s mid u way old text now t a b =
    adds_then nodes net line (after_take s.opening u way) (after_act s.opening u) s mid old text now a t.shows
    (subst (λ (o : Setting). AddsText nodes net line (after_act o u) mid text now) t.opening b)

-- ---- over the ports of a node, over nodes, and over rounds

ports_push : (o : Setting) (u : ℕ) (hops : List Hop) (h : Hop) (log : List Entry) → after_ports o u (hops ++ h ∷ []) log ≡ after_way o u (Link h.link) (after_ports o u hops log)
ports_push o u [] h log = refl
ports_push o u (x ∷ hops) h log = ports_push o u hops h (after_way o u (Link x.link) log)

pub ports_add : (nodes : List Name) (net : Topology) (line : ℕ) (s mid : World) (u k : ℕ) (acted : Bool) (hop : Hop) (old text now : List ℕ) → Moves (after_ports s.opening u (take k (ports_of s.opening.topology u))) acted s mid →
    port_at s.opening.topology u k ≡ Some hop → AddsText nodes net line (after_ports s.opening u (take k (ports_of s.opening.topology u))) s old text → AddsText nodes net line (after_way mid.opening u (Link hop.link)) mid text now →
    AddsText nodes net line (after_ports s.opening u (take (k + 1) (ports_of s.opening.topology u))) s old now
ports_add nodes net line s mid u k acted hop old text now m at a b =
    adds_as nodes net line (λ log. after_way s.opening u (Link hop.link) (after_ports s.opening u (take k ports) log)) (after_ports s.opening u (take (k + 1) ports)) s old now one_more
    (adds_then nodes net line (after_ports s.opening u (take k ports)) (after_way s.opening u (Link hop.link)) s mid old text now a m.shows (subst (λ (o : Setting). AddsText nodes net line (after_way o u (Link hop.link)) mid text now) m.opening b))
  where
    ports : List Hop
    ports = ports_of s.opening.topology u

    one_more : (log : List Entry) → after_way s.opening u (Link hop.link) (after_ports s.opening u (take k (ports_of s.opening.topology u)) log) ≡ after_ports s.opening u (take (k + 1) (ports_of s.opening.topology u)) log
    one_more log =
        let here : get_or (ports_of s.opening.topology u) k hop ≡ hop = get_or_from_slice_get (ports_of s.opening.topology u) k hop hop at in
        let more = take_more (ports_of s.opening.topology u) k hop (slice_get_within (ports_of s.opening.topology u) k hop at) in
        sym (ports_push s.opening u (take k (ports_of s.opening.topology u)) hop log)
        ∙ ap (λ (h : Hop). after_ports s.opening u (take k (ports_of s.opening.topology u) ++ h ∷ []) log) (sym here)
        ∙ ap (λ (hops : List Hop). after_ports s.opening u hops log) (sym more)

pub visit_adds : (nodes : List Name) (net : Topology) (line : ℕ) (s read held taken : World) (u : ℕ) (a b : Bool) (t0 t1 t2 t3 t4 : List ℕ) → Moves (after_read s.opening u) false s read → Moves (after_act read.opening u) a read held → Moves (after_way held.opening u Inbox) b held taken →
    AddsText nodes net line (after_read s.opening u) s t0 t1 → AddsText nodes net line (after_act read.opening u) read t1 t2 → AddsText nodes net line (after_way held.opening u Inbox) held t2 t3 → AddsText nodes net line (after_ports taken.opening u (ports_of taken.opening.topology u)) taken t3 t4 →
    AddsText nodes net line (after_visit s.opening u) s t0 t4
visit_adds nodes net line s read held taken u a b t0 t1 t2 t3 t4 m1 m2 m3 a1 a2 a3 a4 =
    let o = s.opening in
    let to_held = m2.opening ∙ m1.opening in
    let to_taken = m3.opening ∙ to_held in
    let n2 = subst (λ (x : Setting). Moves (after_act x u) a read held) m1.opening m2 in
    let n3 = subst (λ (x : Setting). Moves (after_way x u Inbox) b held taken) to_held m3 in
    let b2 = subst (λ (x : Setting). AddsText nodes net line (after_act x u) read t1 t2) m1.opening a2 in
    let b3 = subst (λ (x : Setting). AddsText nodes net line (after_way x u Inbox) held t2 t3) to_held a3 in
    let b4 = subst (λ (x : Setting). AddsText nodes net line (after_ports x u (ports_of x.topology u)) taken t3 t4) to_taken a4 in
    let p2 = adds_then nodes net line (after_read o u) (after_act o u) s read t0 t1 t2 a1 m1.shows b2 in
    let p3 = adds_then nodes net line (λ log. after_act o u (after_read o u log)) (after_way o u Inbox) s held t0 t2 t3 p2 (λ log k. n2.shows (after_read o u log) (m1.shows log k)) b3 in
    adds_then nodes net line (λ log. after_way o u Inbox (after_act o u (after_read o u log))) (after_ports o u (ports_of o.topology u)) s taken t0 t3 t4 p3
    (λ log k. n3.shows (after_act o u (after_read o u log)) (n2.shows (after_read o u log) (m1.shows log k))) b4

pub round_adds : (nodes : List Name) (net : Topology) (line : ℕ) (s mid : World) (k : ℕ) (acted : Bool) (old text now : List ℕ) → Moves (after_visits s.opening k) acted s mid → AddsText nodes net line (after_visits s.opening k) s old text →
    AddsText nodes net line (after_visit mid.opening k) mid text now → AddsText nodes net line (after_visits s.opening (k + 1)) s old now
round_adds nodes net line s mid k acted old text now m a b =
    subst (λ (j : ℕ). AddsText nodes net line (after_visits s.opening j) s old now) (sym (add-one k))
    (adds_then nodes net line (after_visits s.opening k) (after_visit s.opening k) s mid old text now a m.shows (subst (λ (o : Setting). AddsText nodes net line (after_visit o k) mid text now) m.opening b))

-- ---- rounds until one has no Act

-- rounds so far, with their lines
pub record RoundsSo (nodes : List Name) (net : Topology) (line : ℕ) (s new : World) (old now : List ℕ) : Type 0 where
  pub opening : new.opening ≡ s.opening
  pub rounds : ℕ
  pub shows : (log : List Entry) → Shows log s → Shows (after_rounds s.opening rounds log) new
  pub few : (ok : IsWorld s) → TakesFromBefore (after_rounds s.opening rounds) s ok new
  pub acts : (log : List Entry) → Shows log s → (k : ℕ) → k < rounds → acts_in (after_rounds s.opening k log) < acts_in (after_rounds s.opening (suc k) log)
  pub adds : AddsText nodes net line (after_rounds s.opening rounds) s old now

pub rounds_none : (nodes : List Name) (net : Topology) (line : ℕ) (s : World) (text : List ℕ) → RoundsSo nodes net line s s text text
rounds_none nodes net line s text = record {
  opening = refl;
  rounds = 0;
  shows = λ log k. k;
  few = λ ok. (ok, λ id log k. omega arith);
  acts = λ log k j lt. absurd (omega arith);
  adds = adds_none nodes net line s text;
}

few_more : (s mid new : World) (rounds : ℕ) (b : Bool) → ((ok : IsWorld s) → TakesFromBefore (after_rounds s.opening rounds) s ok mid) → ((log : List Entry) → Shows log s → Shows (after_rounds s.opening rounds log) mid) →
    Moves (after_round s.opening) b mid new → (ok : IsWorld s) → TakesFromBefore (after_rounds s.opening (suc rounds)) s ok new
few_more s mid new rounds b few shows m ok =
    let first = few ok in
    let second = m.few first.0 in
    (second.0, λ id log k. (let x = first.1 id log k in let y = second.1 id (after_rounds s.opening rounds log) (shows log k) in omega arith))

-- no packet has more Acts before it than there are nodes
before_few : (n made : ℕ) (place : Place) → acts_ahead n place made ≤ n
before_few n made (Waits u Inbox) = omega arith
before_few n made (Waits u (Link l)) = omega arith
before_few n made (InHand u Inbox) = omega arith
before_few n made (InHand u (Link l)) = omega arith
before_few n made Ended = omega arith

module _ (nodes : List Name) (net : Topology) (line : ℕ) (s mid new : World) (old text now : List ℕ) (so : RoundsSo nodes net line s mid old text) (acted : Bool) (m : Moves (after_round mid.opening) acted mid new)
    (a : AddsText nodes net line (after_round mid.opening) mid text now) where
  moves_here : Moves (after_round s.opening) acted mid new
  moves_here = subst (λ (o : Setting). Moves (after_round o) acted mid new) so.opening m

  adds_here : AddsText nodes net line (after_rounds s.opening (suc so.rounds)) s old now
  adds_here = adds_then nodes net line (after_rounds s.opening so.rounds) (after_round s.opening) s mid old text now so.adds so.shows (subst (λ (o : Setting). AddsText nodes net line (after_round o) mid text now) so.opening a)

  pub rounds_more : acted ≡ true → RoundsSo nodes net line s new old now
  rounds_more did =
      let t = subst (λ (b : Bool). Moves (after_round s.opening) b mid new) did moves_here in
      record {
        opening = t.opening ∙ so.opening;
        rounds = suc so.rounds;
        shows = λ log k. t.shows (after_rounds s.opening so.rounds log) (so.shows log k);
        few = few_more s mid new so.rounds true so.few so.shows t;
        acts = λ log k j lt. by_round log k j (cases_lt j so.rounds) lt t;
        adds = adds_here;
      }
    where
      by_round : (log : List Entry) → Shows log s → (j : ℕ) → ((j < so.rounds) ⊎ (so.rounds ≤ j)) → j < suc so.rounds → Moves (after_round s.opening) true mid new →
          acts_in (after_rounds s.opening j log) < acts_in (after_rounds s.opening (suc j) log)
      by_round log k j (inl below) lt t = so.acts log k j below
      by_round log k j (inr above) lt t =
          let same : so.rounds ≡ j = omega arith in
          subst (λ (i : ℕ). acts_in (after_rounds s.opening i log) < acts_in (after_rounds s.opening (suc i) log)) same (t.counts (after_rounds s.opening so.rounds log) (so.shows log k))

  pub rounds_done : acted ≡ false → IsWorld s → AddsDrain nodes net line s new old now
  rounds_done not ok =
      let t = subst (λ (b : Bool). Moves (after_round s.opening) b mid new) not moves_here in
      record {
        text = adds_here.text;
        text_is = adds_here.text_is;
        opening = t.opening ∙ so.opening;
        drained = λ log k. (
          after_rounds s.opening (suc so.rounds) log,
          record {
            rounds = so.rounds;
            ends = refl;
            last_is_quiet = t.counts (after_rounds s.opening so.rounds log) (so.shows log k);
            others_act = so.acts log k;
            few_acts = λ id. (let f = few_more s mid new so.rounds false so.few so.shows t ok in let x = f.1 id log k in let y = before_few (nodes_of s.opening) (hops_made (floor_of s) s.records id) (ok.place id) in omega arith);
          },
          t.shows (after_rounds s.opening so.rounds log) (so.shows log k),
          adds_here.lines log k,
        );
      }
