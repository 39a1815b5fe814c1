use Rattle.std.proofs.Common.{◌≡◌, ◌≢◌, ℕ, zero, suc, ◌+◌, ◌-◌, ◌*◌, ◌<◌, ◌≤◌, List, [], ◌∷◌, ◌++◌, length, take, get_or, slice_get, slice_index_or, Option, Some, None, refl, sym, ap, ◌∙◌, subst, arith, add-one, true, false, Bool, ◌⊎◌, inl, inr}
use Rattle.std.specs.Prelude.{◌||◌}
use Rattle.std.proofs.lemmas.Bool.{cases_lt, or_parts}
use Rattle.std.proofs.lemmas.Option.{same_Some, none-some, slice_get_within, slice_get-get_or, get_or_from_slice_get}
use Rattle.std.proofs.lemmas.List.{take_more}
use Rattle.ir_model.specs.declared.Link.{Link as Edge}
use Rattle.ir_model.specs.declared.Hop.{Hop}
use Rattle.ir_model.specs.Topology.{ports_of, port_at, port_back, IsTopology, Joins}
use Rattle.ir_model.specs.Plan.{Plan}
use Rattle.ir_core.specs.declared.event.Way.{Way}
use Rattle.ir_core.specs.declared.event.Way.TheVariants.{Inbox, Link}
use Rattle.ir_core.specs.declared.packet.Held.{Held}
use Rattle.ir_core.specs.declared.packet.Fate.TheVariants.{Left}
use Rattle.ir_core.specs.Record.{Record, present, stamp_of}
use Rattle.ir_core.specs.Setting.{Setting, IsPlanFor, nodes_of, channel_of}
use Rattle.ir_core.specs.Entry.{Entry}
use Rattle.ir_core.specs.Meaning.{plan_of}
use Rattle.ir_core.specs.Sound.{LeadsOn, last_of}
use Rattle.ir_core.specs.World.{World, IsWorld, IsPacket, Place, Waits, InHand, Ended}
use Rattle.ir_core.specs.Shows.{Shows}
use Rattle.ir_core.specs.Drain.{acts_in, after_read, after_act, after_way, after_ports, after_visit, after_visits, after_round, after_rounds}
use Rattle.ir_core.specs.Quiet.{acts_ahead, hops_made, TakesFromBefore, SamePackets, Moves, floor_of, IsHandEmpty, IsUpToDate, IsEmptyAt, ArePortsEmpty, IsQuietAt, IsQuiet, IsNoneLeft, ShowsDrained}
use Rattle.ir_core.proofs.Walks.{port_of}
use Rattle.ir_core.proofs.Channels.{channel_there}
use Rattle.ir_core.proofs.Quiets.{moves_none, moves_then}

-- a port's link has a channel into the node
pub port_channel : (o : Setting) → IsTopology o.topology → (u p : ℕ) (hop : Hop) → port_at o.topology u p ≡ Some hop → (c : ℕ) × (channel_of o u (Link hop.link) ≡ Some c)
port_channel o net u p hop at =
    let port = net.ports u p hop at in
    let to = channel_there (nodes_of o + 2 * hop.link) u port.0 (an_end port.0 port.2) in
    (to.0, rw port.1 to.1)
  where
    an_end : (link : Edge) → Joins link u hop.node → (link.low ≡ u) ⊎ (link.high ≡ u)
    an_end link (inl p) = inl p.0
    an_end link (inr p) = inr p.1

pub hand_same : (s new : World) (u : ℕ) → SamePackets s new → IsHandEmpty s u → IsHandEmpty new u
hand_same s new u k e = ap (λ (hands : List (Option Held)). slice_index_or hands u None) k.hands ∙ e

pub empty_same : (s new : World) (u : ℕ) (way : Way) → SamePackets s new → IsEmptyAt s u way → IsEmptyAt new u way
empty_same s new u way k e c there =
    ap (λ (channels : List (List ℕ)). slice_index_or channels c []) k.channels ∙ e c (ap (λ (o : Setting). channel_of o u way) (sym k.opening) ∙ there)

pub ports_same : (s new : World) (u : ℕ) → SamePackets s new → ArePortsEmpty s u → ArePortsEmpty new u
ports_same s new u k e p hop at = empty_same s new u (Link hop.link) k (e p hop (ap (λ (o : Setting). port_at o.topology u p) (sym k.opening) ∙ at))

quiet_same : (s new : World) (u : ℕ) → SamePackets s new → IsQuietAt s u → IsQuietAt new u
quiet_same s new u k q = record { hand = hand_same s new u k q.hand; inbox = empty_same s new u Inbox k q.inbox; ports = ports_same s new u k q.ports }

-- the ports up to one more
ports_push : (o : Setting) (u : ℕ) (hops : List Hop) (h : Hop) (log : List Entry) → after_ports o u (hops ++ h ∷ []) log ≡ after_way o u (Link h.link) (after_ports o u hops log)
ports_push o u [] h log = refl
ports_push o u (x ∷ hops) h log = ports_push o u hops h (after_way o u (Link x.link) log)

-- the ports so far
pub record PortsSo (s : World) (u k : ℕ) (acted : Bool) (new : World) : Type 0 where
  pub moves : Moves (after_ports s.opening u (take k (ports_of s.opening.topology u))) acted s new
  pub hand : IsHandEmpty new u
  pub view : IsUpToDate new u
  pub idle : acted ≡ false → (p : ℕ) (hop : Hop) → p < k → port_at s.opening.topology u p ≡ Some hop → IsEmptyAt new u (Link hop.link)

pub ports_none : (s : World) (u : ℕ) → IsHandEmpty s u → IsUpToDate s u → PortsSo s u 0 false s
ports_none s u hand view = record { moves = moves_none s; hand = hand; view = view; idle = λ e p hop lt. absurd (omega arith) }

-- the port that the code read
pub port_read : (s mid : World) → mid.opening ≡ s.opening → (u k : ℕ) (ports : List Hop) (d : Hop) → ports ≡ ports_of mid.opening.topology u → k < length ports →
    (port_at s.opening.topology u k ≡ Some (get_or ports k d)) × (port_at mid.opening.topology u k ≡ Some (get_or ports k d))
port_read s mid same u k ports d is lt =
    let at : slice_get ports k ≡ Some (get_or ports k d) = slice_get-get_or ports k d lt in
    let here : port_at mid.opening.topology u k ≡ Some (get_or ports k d) = ap (λ (xs : List Hop). slice_get xs k) (sym is) ∙ at in
    (ap (λ (o : Setting). port_at o.topology u k) (sym same) ∙ here, here)

pub ports_more : (s mid new : World) (u k : ℕ) (acted sent : Bool) (hop : Hop) → PortsSo s u k acted mid → port_at s.opening.topology u k ≡ Some hop →
    Moves (after_way mid.opening u (Link hop.link)) sent mid new → (sent ≡ false → IsEmptyAt new u (Link hop.link)) → IsHandEmpty new u → IsUpToDate new u → PortsSo s u (k + 1) (acted || sent) new
ports_more s mid new u k acted sent hop so at m idle hand view = record {
  moves = subst (λ (f : List Entry → List Entry). Moves f (acted || sent) s new) (λ i log. one_more log i)
      (moves_then (after_ports s.opening u (take k (ports_of s.opening.topology u))) (after_way s.opening u (Link hop.link)) acted sent s mid new so.moves
      (subst (λ (o : Setting). Moves (after_way o u (Link hop.link)) sent mid new) so.moves.opening m));
  hand = hand;
  view = view;
  idle = λ e p other lt at_p. (let both = or_parts acted sent e in by_place both.0 both.1 p other at_p (cases_lt p k) lt);
}
  where
    ports : List Hop
    ports = ports_of s.opening.topology u

    lt_k : k < length (ports_of s.opening.topology u)
    lt_k = slice_get_within (ports_of s.opening.topology u) k hop at

    one_more : (log : List Entry) → after_way s.opening u (Link hop.link) (after_ports s.opening u (take k (ports_of s.opening.topology u)) log) ≡ after_ports s.opening u (take (k + 1) (ports_of s.opening.topology u)) log
    one_more log =
        let here : get_or (ports_of s.opening.topology u) k hop ≡ hop = get_or_from_slice_get (ports_of s.opening.topology u) k hop hop at in
        let more = take_more (ports_of s.opening.topology u) k hop lt_k in
        sym (ports_push s.opening u (take k (ports_of s.opening.topology u)) hop log)
        ∙ ap (λ (h : Hop). after_ports s.opening u (take k (ports_of s.opening.topology u) ++ h ∷ []) log) (sym here)
        ∙ ap (λ (hops : List Hop). after_ports s.opening u hops log) (sym more)

    by_place : acted ≡ false → sent ≡ false → (p : ℕ) (other : Hop) → port_at s.opening.topology u p ≡ Some other → ((p < k) ⊎ (k ≤ p)) → p < k + 1 → IsEmptyAt new u (Link other.link)
    by_place a b p other at_p (inl below) lt = empty_same mid new u (Link other.link) (m.stays b) (so.idle a p other below at_p)
    by_place a b p other at_p (inr above) lt =
        let same : p ≡ k = omega arith in
        let equal : hop ≡ other = same_Some hop other (sym at ∙ ap (λ (x : ℕ). port_at s.opening.topology u x) (sym same) ∙ at_p) in
        subst (λ (h : Hop). IsEmptyAt new u (Link h.link)) equal (idle b)

pub ports_all : (s new : World) (u k : ℕ) (acted : Bool) → PortsSo s u k acted new → length (ports_of s.opening.topology u) ≤ k → take k (ports_of s.opening.topology u) ≡ ports_of s.opening.topology u →
    Moves (after_ports s.opening u (ports_of s.opening.topology u)) acted s new × (acted ≡ false → ArePortsEmpty new u)
ports_all s new u k acted so le all = (
  subst (λ (hops : List Hop). Moves (after_ports s.opening u hops) acted s new) all so.moves,
  λ e p hop at. (let there : port_at s.opening.topology u p ≡ Some hop = ap (λ (o : Setting). port_at o.topology u p) (sym so.moves.opening) ∙ at in
      let lt = slice_get_within (ports_of s.opening.topology u) p hop there in so.idle e p hop (omega arith) there),
)

-- a visit from its parts
pub visit_done : (s read held taken new : World) (u : ℕ) (a b c : Bool) → Moves (after_read s.opening u) false s read → Moves (after_act read.opening u) a read held → Moves (after_way held.opening u Inbox) b held taken →
    (b ≡ false → IsEmptyAt taken u Inbox) → IsHandEmpty taken u → Moves (after_ports taken.opening u (ports_of taken.opening.topology u)) c taken new → (c ≡ false → ArePortsEmpty new u) →
    Moves (after_visit s.opening u) ((a || b) || c) s new × (((a || b) || c) ≡ false → SamePackets s new × IsQuietAt new u)
visit_done s read held taken new u a b c m1 m2 m3 inbox hand m4 ports =
    let o = s.opening in
    let s2 = subst (λ (x : Setting). Moves (after_act x u) a read held) m1.opening m2 in
    let p2 = moves_then (after_read o u) (after_act o u) false a s read held m1 s2 in
    let s3 = subst (λ (x : Setting). Moves (after_way x u Inbox) b held taken) p2.opening m3 in
    let p3 = moves_then (λ log. after_act o u (after_read o u log)) (after_way o u Inbox) a b s held taken p2 s3 in
    let s4 = subst (λ (x : Setting). Moves (after_ports x u (ports_of x.topology u)) c taken new) p3.opening m4 in
    let p4 = moves_then (λ log. after_way o u Inbox (after_act o u (after_read o u log))) (after_ports o u (ports_of o.topology u)) (a || b) c s taken new p3 s4 in (
      p4,
      λ e. (let both = or_parts (a || b) c e in let first = or_parts a b both.0 in let stays = m4.stays both.1 in
          (p4.stays e, record { hand = hand_same taken new u stays hand; inbox = empty_same taken new u Inbox stays (inbox first.1); ports = ports both.1 })),
    )

-- the visits so far
pub record RoundSo (s : World) (k : ℕ) (acted : Bool) (new : World) : Type 0 where
  pub moves : Moves (after_visits s.opening k) acted s new
  pub quiet : acted ≡ false → (u : ℕ) → u < k → IsQuietAt new u

pub round_none : (s : World) → RoundSo s 0 false s
round_none s = record { moves = moves_none s; quiet = λ e u lt. absurd (omega arith) }

pub round_more : (s mid new : World) (k : ℕ) (acted sent : Bool) → RoundSo s k acted mid → Moves (after_visit mid.opening k) sent mid new → (sent ≡ false → IsQuietAt new k) → RoundSo s (k + 1) (acted || sent) new
round_more s mid new k acted sent so m quiet = subst (λ (j : ℕ). RoundSo s j (acted || sent) new) (sym (add-one k)) made
  where
    by_node : (acted || sent) ≡ false → (u : ℕ) → u < suc k → ((u < k) ⊎ (k ≤ u)) → IsQuietAt new u
    by_node e u lt (inl below) =
        let both = or_parts acted sent e in
        quiet_same mid new u (m.stays both.1) (so.quiet both.0 u below)
    by_node e u lt (inr above) =
        let both = or_parts acted sent e in
        let same : k ≡ u = omega arith in
        subst (λ (x : ℕ). IsQuietAt new x) same (quiet both.1)

    made : RoundSo s (suc k) (acted || sent) new
    made = record {
      moves = moves_then (after_visits s.opening k) (after_visit s.opening k) acted sent s mid new so.moves (subst (λ (o : Setting). Moves (after_visit o k) sent mid new) so.moves.opening m);
      quiet = λ e u lt. by_node e u lt (cases_lt u k);
    }

pub round_all : (s new : World) (k n : ℕ) (acted : Bool) → RoundSo s k acted new → n ≡ nodes_of s.opening → n ≤ k → k ≤ n → Moves (after_round s.opening) acted s new × (acted ≡ false → IsQuiet new)
round_all s new k n acted so is le ge =
    let same : k ≡ nodes_of s.opening = omega arith in (
      subst (λ (j : ℕ). Moves (after_visits s.opening j) acted s new) same so.moves,
      λ e u lt. (let n_new = ap (λ (o : Setting). nodes_of o) so.moves.opening in so.quiet e u (omega arith)),
    )

-- the rounds so far
pub record DrainSo (s new : World) : Type 0 where
  pub opening : new.opening ≡ s.opening
  pub rounds : ℕ
  pub shows : (log : List Entry) → Shows log s → Shows (after_rounds s.opening rounds log) new
  pub few : (ok : IsWorld s) → TakesFromBefore (after_rounds s.opening rounds) s ok new
  pub acts : (log : List Entry) → Shows log s → (k : ℕ) → k < rounds → acts_in (after_rounds s.opening k log) < acts_in (after_rounds s.opening (suc k) log)

pub drain_none : (s : World) → DrainSo s s
drain_none s = record { opening = refl; rounds = 0; shows = λ log k. k; few = λ ok. (ok, λ id log k. omega arith); acts = λ log k j lt. absurd (omega arith) }

few_more : (s mid new : World) (rounds : ℕ) (b : Bool) → ((ok : IsWorld s) → TakesFromBefore (after_rounds s.opening rounds) s ok mid) → ((log : List Entry) → Shows log s → Shows (after_rounds s.opening rounds log) mid) →
    Moves (after_round s.opening) b mid new → (ok : IsWorld s) → TakesFromBefore (after_rounds s.opening (suc rounds)) s ok new
few_more s mid new rounds b few shows m ok =
    let first = few ok in
    let second = m.few first.0 in
    (second.0, λ id log k. (let x = first.1 id log k in let y = second.1 id (after_rounds s.opening rounds log) (shows log k) in omega arith))

-- no packet has more Acts before it than there are nodes
before_few : (n made : ℕ) (place : Place) → acts_ahead n place made ≤ n
before_few n made (Waits u Inbox) = omega arith
before_few n made (Waits u (Link l)) = omega arith
before_few n made (InHand u Inbox) = omega arith
before_few n made (InHand u (Link l)) = omega arith
before_few n made Ended = omega arith

pub drain_more : (s mid new : World) (acted : Bool) → acted ≡ true → DrainSo s mid → Moves (after_round mid.opening) acted mid new → DrainSo s new
drain_more s mid new acted did so m =
    let n = subst (λ (o : Setting). Moves (after_round o) acted mid new) so.opening m in
    let t = subst (λ (b : Bool). Moves (after_round s.opening) b mid new) did n in
    record {
      opening = t.opening ∙ so.opening;
      rounds = suc so.rounds;
      shows = λ log k. t.shows (after_rounds s.opening so.rounds log) (so.shows log k);
      few = few_more s mid new so.rounds true so.few so.shows t;
      acts = λ log k j lt. by_round log k j (cases_lt j so.rounds) lt t;
    }
  where
    by_round : (log : List Entry) → Shows log s → (j : ℕ) → ((j < so.rounds) ⊎ (so.rounds ≤ j)) → j < suc so.rounds → Moves (after_round s.opening) true mid new →
        acts_in (after_rounds s.opening j log) < acts_in (after_rounds s.opening (suc j) log)
    by_round log k j (inl below) lt t = so.acts log k j below
    by_round log k j (inr above) lt t =
        let same : so.rounds ≡ j = omega arith in
        subst (λ (i : ℕ). acts_in (after_rounds s.opening i log) < acts_in (after_rounds s.opening (suc i) log)) same (t.counts (after_rounds s.opening so.rounds log) (so.shows log k))

pub drained : (s mid new : World) → IsWorld s → (acted : Bool) → acted ≡ false → DrainSo s mid → Moves (after_round mid.opening) acted mid new → (log : List Entry) → Shows log s → ShowsDrained log s.opening new
drained s mid new ok acted not so m log k =
    let n = subst (λ (o : Setting). Moves (after_round o) acted mid new) so.opening m in
    let t = subst (λ (b : Bool). Moves (after_round s.opening) b mid new) not n in (
      after_rounds s.opening (suc so.rounds) log,
      record {
        rounds = so.rounds;
        ends = refl;
        last_is_quiet = t.counts (after_rounds s.opening so.rounds log) (so.shows log k);
        others_act = so.acts log k;
        few_acts = λ id. (let f = few_more s mid new so.rounds false so.few so.shows t ok in let x = f.1 id log k in let y = before_few (nodes_of s.opening) (hops_made (floor_of s) s.records id) (ok.place id) in omega arith);
      },
      t.shows (after_rounds s.opening so.rounds log) (so.shows log k),
    )

-- a hand that holds something is a node's
hand_within : (hands : List (Option Held)) (u : ℕ) (h : Held) → slice_index_or hands u None ≡ Some h → u < length hands
hand_within [] u h e = absurd (none-some h e)
hand_within (x ∷ hands) zero h e = omega arith
hand_within (x ∷ hands) (suc u) h e = let below = hand_within hands u h e in omega arith

nothing_there : (k id : ℕ) (xs : List ℕ) → xs ≡ [] → slice_get xs k ≡ Some id → ⊥
nothing_there k id xs e at = none-some id (ap (λ (l : List ℕ). slice_get l k) (sym e) ∙ at)

-- where the table led a packet to, the network has a port back by that link
due_port : (o : Setting) (t : Plan) → IsPlanFor o t → (r : Record) (u l : ℕ) → LeadsOn t r l u → (p : ℕ) × (hop : Hop) × (port_at o.topology u p ≡ Some hop) × (hop.link ≡ l)
due_port o t plan r u l on =
    let h : Hop = on.0 in
    let at = port_of t (last_of r.hops) r.dest h on.1 in
    let back = plan.plan.topology.paired (last_of r.hops) at.0 h at.1 in
    let was = plan.ports h.node back.0 (port_back (last_of r.hops) h) back.1 in
    (was.0, port_back (last_of r.hops) h, ap (λ (x : ℕ). port_at o.topology x was.0) (sym on.3) ∙ was.1, on.2)

-- where all is quiet, no packet is under way
pub quiet_none_left : (s : World) → IsWorld s → IsQuiet s → IsNoneLeft s
quiet_none_left s ok quiet id r at = by_place (ok.place id) refl (ok.placed.each id r at)
  where
    by_way : (u : ℕ) (way : Way) → ok.place id ≡ Waits u way → u < nodes_of s.opening → IsPacket s.opening s.plans r (Waits u way) → ⊥
    by_way u Inbox is u_in p =
        let at = ok.placed.stands id u Inbox is in
        nothing_there at.1 id (slice_index_or s.channels at.0 []) ((quiet u u_in).inbox at.0 at.2) at.3
    by_way u (Link l) is u_in p =
        let at = ok.placed.stands id u (Link l) is in
        let port = due_port s.opening (plan_of s.opening s.plans (stamp_of r)) (ok.plans.each (stamp_of r - 1)) (present r) u l p.fits.1 in
        let none = subst (λ (x : ℕ). IsEmptyAt s u (Link x)) port.3 ((quiet u u_in).ports port.0 port.1 port.2) in
        nothing_there at.1 id (slice_index_or s.channels at.0 []) (none at.0 at.2) at.3

    node_of : (u : ℕ) (way : Way) → ok.place id ≡ Waits u way → u < nodes_of s.opening
    node_of u way is =
        let at = ok.placed.stands id u way is in
        let w = ok.placed.waiting at.0 at.1 id at.3 in
        let same : w.1.0 ≡ u = same_node w.1.0 u w.1.1 way (sym w.1.3 ∙ is) in
        let lt = w.1.2 in omega arith
      where
        same_node : (v u : ℕ) (by way : Way) → Waits v by ≡ Waits u way → v ≡ u
        same_node v u by way e = cc

    by_place : (place : Place) → ok.place id ≡ place → IsPacket s.opening s.plans r (ok.place id) → r.fate ≢ Left
    by_place (Waits u way) is p = absurd (by_way u way is (node_of u way is) (subst (λ (x : Place). IsPacket s.opening s.plans r x) is p))
    by_place (InHand u way) is p =
        let holds = ok.placed.rests id u way is in
        let lt = hand_within s.hands u (record { id = id; way = way }) holds in
        absurd (none-some (record { id = id; way = way }) (sym (quiet u (omega (arith, ok.hands))).hand ∙ holds))
    by_place Ended is p = (let q : IsPacket s.opening s.plans r Ended = subst (λ (x : Place). IsPacket s.opening s.plans r x) is p in q.fits.0)
