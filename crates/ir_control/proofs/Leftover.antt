-- The rows of a whole net.
use Rattle.std.specs.Prelude.{◌≡◌, ℕ, zero, suc, ◌+◌, ◌<◌, ◌≤◌, Bool, true, false, ltb, cond, List, [], ◌∷◌, All, Option, Some, None, length, sum_by, slice_get, slice_index, slice_index_or}
use Rattle.std.proofs.Common.{refl, arith, sym, ap, ◌∙◌, subst, map-id}
use Rattle.std.proofs.lemmas.Bool.{ltb-false}
use Rattle.std.proofs.lemmas.Option.{none-some, same_Some, slice_get-get_or, get_or_from_slice_get, slice_get_within}
use Rattle.ir_model.specs.Topology.{node_count}
use Rattle.ir_links.specs.Ends.{Channel, Sender, Taker}
use Rattle.ir_worker.specs.declared.node.Node.{Node}
use Rattle.ir_worker.specs.declared.parcel.Place.{Place}
use Rattle.ir_worker.specs.Account.{lines_in}
use Rattle.ir_worker.specs.Wires.{In}
use Rattle.ir_control.specs.declared.leaving.EndRows.{EndRows}
use Rattle.ir_control.specs.declared.net.Net.{Net}
use Rattle.ir_control.specs.Pairs.{ArePeers, ArePaired, slot_line, line_at}
use Rattle.ir_control.specs.Parts.{IsNodeOf, AreNodesOf, node_number}
use Rattle.ir_control.specs.Places.{offset, way_count}
use Rattle.ir_control.specs.Reported.{AreAllThere}
use Rattle.ir_control.specs.Rowed.{AllGet, AreEndRows, AreSlotsFrom}
use Rattle.ir_control.specs.Slots.{slot_weight, hit, once, IsAt, AllAt, AllIn}
use Rattle.ir_control.specs.Whole.{AreTakersOf}
use Rattle.ir_control.proofs.Rows.{offset_all, place_of}
use Rattle.ir_control.proofs.Slotted.{counts_no_other, full_at}
use Rattle.ir_control.proofs.Sums.{sum_of_none}
use Rattle.ir_control.proofs.Wiring.{map_eq, sum_nothing}

module _ {X : Type 0} (slots : List (Option X)) (none : (k : ℕ) → slice_index_or slots k None ≡ None) where
  pub none_weigh : (f : X → ℕ) → sum_by (slot_weight f) slots ≡ 0
  none_weigh f = sum_of_none (slot_weight f) slots None (λ k lt. ap (slot_weight f) (none k))

-- empty slots have nothing that is out of its place, or of another kind
pub empty_at : {X : Type 0} (key : X → ℕ) (slots : List (Option X)) → ((k : ℕ) → slice_index_or slots k None ≡ None) → AllAt key slots
empty_at {X} key slots none k = subst (λ (slot : Option X). IsAt key k slot) (sym (none k)) tt

pub empty_in : {X : Type 0} (P : X → Type 0) (slots : List (Option X)) → ((k : ℕ) → slice_index_or slots k None ≡ None) → AllIn P slots
empty_in P slots none k x got = absurd (none-some x (sym (none k) ∙ got))

pub all_of_get : {X : Type 0} (P : X → Type 0) (xs : List X) → AllGet (λ k x. P x) xs → All P xs
all_of_get P xs each = λ k d lt. each k (slice_index_or xs k d) (slice_get-get_or xs k d lt)

-- nodes of a net fit into a slot each
pub nodes_fit : (net : Net) (nodes : List Node) → AreNodesOf net nodes → (n i : ℕ) → n ≡ node_count net.topology → sum_by (hit node_number i) nodes ≤ once n i
nodes_fit net nodes are n i is = go (ltb i n) refl where
  go : (b : Bool) → ltb i n ≡ b → sum_by (hit node_number i) nodes ≤ once n i
  go true e = (let one_is : once n i ≡ 1 = ap (λ b. cond b 1 0) e in let most = are.apart i in omega (arith, one_is, most))
  go false e =
      let most = ltb-false i n e in
      let none : sum_by (hit node_number i) nodes ≡ 0 = sum_nothing (hit node_number i) nodes (λ p x got. counts_no_other node_number x i (λ same.
      (let within : p < length nodes = slice_get_within nodes p x got in
      let at : slice_index_or nodes p x ≡ x = get_or_from_slice_get nodes p x x got in
      let lt : x.index < node_count net.topology = subst (λ (m : Node). m.index < node_count net.topology) at (are.each p x within).index_in in
      omega (arith, same, most, lt, is)))) in
      omega (arith, none)

-- once all nodes are there, each slot is full
pub all_slots : (net : Net) (nodes : List Node) (slots : List (Option Node)) → AreAllThere net nodes → length slots ≡ node_count net.topology → AllAt node_number slots → AllIn (IsNodeOf net) slots
    → ((w : Node → ℕ) → sum_by (slot_weight w) slots ≡ sum_by w nodes) → AreSlotsFrom net 0 slots
all_slots net nodes slots all len at kind weighs = record {
  count = len;
  emptied = λ k lt. absurd (omega (arith, lt));
  full = λ k le lt.
      (let some = all k lt in
      let same = weighs (hit node_number k) in
      let f = full_at node_number slots at k (omega (arith, some, same)) in
      (f.0, f.1, f.2, kind k f.0 f.1));
}

module _ {P T : Type 0} where
  line_of : (takers : List (Taker P T)) (k : ℕ) → k < length takers → (t : Taker P T) × (slice_get takers k ≡ Some t) × (line_at takers k ≡ Some t.channel)
  line_of [] k lt = absurd (omega (arith, lt))
  line_of (t ∷ ts) zero lt = (t, refl, refl)
  line_of (t ∷ ts) (suc k) lt = line_of ts k (omega (arith, lt))

  -- rows whose ends are of the channels of their places are paired
  pub paired_at : (peers : List ℕ) (ways : List (Channel P)) (slots : List (Option (Sender P T))) (takers : List (Taker P T)) → ArePeers peers → length slots ≡ length peers → length takers ≡ length peers
      → AllGet (λ k slot. slice_get ways k ≡ slot_line slot) slots → AllGet (λ k t. slice_get ways (slice_index peers k) ≡ Some t.channel) takers → ArePaired peers slots takers
  paired_at peers ways slots takers are outs ins out_lines in_lines = record {
    peers_are = are;
    slots_len = outs;
    takers_len = omega (arith, ins);
    here = λ k lt less.
        (let t = line_of takers (slice_index peers k) less in
        sym (out_lines k (slice_index_or slots k None) (slice_get-get_or slots k None (omega (arith, lt, outs)))) ∙ ap (slice_get ways) (sym (are.back k lt)) ∙ in_lines (slice_index peers k) t.0 t.1 ∙ sym t.2);
    gone = λ k lt more. absurd (let within = are.within k lt in omega (arith, more, within, ins));
  }

-- the inboxes of all nodes stand in the order of the nodes
pub inboxes_in_order : (net : Net) (rows : EndRows) → AreEndRows net (node_count net.topology) rows → lines_in rows.inboxes.items ≡ net.inboxes.items
inboxes_in_order net rows are =
    map_eq (λ (t : In). t.channel) (λ (l : Channel Place). l) rows.inboxes.items net.inboxes.items (are.inbox_count ∙ sym net.inboxes_are.count)
    (λ p t l got there. same_Some t.channel l (sym (are.inbox_lines p t got) ∙ there)) ∙ map-id net.inboxes.items

pub ways_paired : (net : Net) (rows : EndRows) → AreEndRows net (node_count net.topology) rows → ArePaired net.peers.items rows.senders.items rows.takers.items
ways_paired net rows are =
    let all = offset_all net.topology in
    let n = net.ways_are.peer_count in
    let a = are.out_count in
    let b = are.in_count in
    paired_at net.peers.items net.ways.items rows.senders.items rows.takers.items net.ways_are.peers_are (omega (arith, all, n, a)) (omega (arith, all, n, b)) are.out_lines are.in_lines

-- a way of a net is of the net
way_is : (net : Net) (k : ℕ) (channel : Channel Place) → slice_get net.ways.items k ≡ Some channel → (channel.place.opening ≡ net.opening) × (channel.place.restamps ≡ net.restamps)
way_is net k channel got =
    let lt = slice_get_within net.ways.items k channel got in
    let n = net.ways_are.count in
    let at = place_of net.topology k (omega (arith, lt, n)) in
    let is = net.ways_are.out at.0 at.1 at.2 channel at.3 (ap (slice_get net.ways.items) (sym at.4) ∙ got) in
    (ap (λ (p : Place). p.opening) is.place, ap (λ (p : Place). p.restamps) is.place)

module _ (net : Net) (n : ℕ) (rows : EndRows) (are : AreEndRows net n rows) where
  pub inboxes_of_net : AreTakersOf net.opening net.restamps rows.inboxes.items
  inboxes_of_net = record {
    places = all_of_get (λ (t : In). t.channel.place.opening ≡ net.opening) rows.inboxes.items (λ k t got. ap (λ (p : Place). p.opening) (net.inboxes_are.each k t.channel (are.inbox_lines k t got)).place);
    limits = all_of_get (λ (t : In). t.channel.place.restamps ≡ net.restamps) rows.inboxes.items (λ k t got. ap (λ (p : Place). p.restamps) (net.inboxes_are.each k t.channel (are.inbox_lines k t got)).place);
  }

  pub takers_of_net : AreTakersOf net.opening net.restamps rows.takers.items
  takers_of_net = record {
    places = all_of_get (λ (t : In). t.channel.place.opening ≡ net.opening) rows.takers.items (λ k t got. (way_is net (slice_index net.peers.items k) t.channel (are.in_lines k t got)).0);
    limits = all_of_get (λ (t : In). t.channel.place.restamps ≡ net.restamps) rows.takers.items (λ k t got. (way_is net (slice_index net.peers.items k) t.channel (are.in_lines k t got)).1);
  }

  pub rows_count : n ≡ node_count net.topology → length rows.inboxes.items + length rows.takers.items ≡ node_count net.topology + way_count net.topology
  rows_count is =
      let p : length rows.inboxes.items ≡ node_count net.topology = are.inbox_count ∙ is in
      let q : length rows.takers.items ≡ way_count net.topology = are.in_count ∙ ap (offset net.topology) is ∙ offset_all net.topology in
      omega (arith, p, q)
