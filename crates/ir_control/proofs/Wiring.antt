-- A node's ends are those of its net.
use Rattle.std.specs.Prelude.{◌≡◌, ℕ, suc, ◌+◌, ◌<◌, ◌≤◌, List, [], ◌∷◌, ◌++◌, All, Some, length, map, slice_get, slice_index, sum_by}
use Rattle.std.proofs.Common.{refl, arith, sym, ap, ◌∙◌, subst, inl, inr, get_or}
use Rattle.std.proofs.lemmas.Option.{same_Some, slice_get-get_or, get_or_from_slice_get, slice_get_within}
use Rattle.std.proofs.lemmas.List.{length_push}
use Rattle.ir_core.proofs.Lists.{get_push}
use Rattle.ir_control.specs.Outs.{AreEntryEnds}
use Rattle.std.proofs.lemmas.List.Sums.{sum_by-cons}
use Rattle.ir_model.specs.declared.Hop.{Hop}
use Rattle.ir_model.specs.Topology.{Topology, node_count, ports_of, port_at}
use Rattle.ir_core.specs.declared.TheConstants.{MAX_RESTAMPS}
use Rattle.ir_epochs.specs.declared.registry.Stamp.{Stamp}
use Rattle.ir_epochs.specs.declared.registry.Registry.{Registry}
use Rattle.ir_links.specs.Ends.{Channel, Sender, Taker}
use Rattle.ir_worker.specs.declared.node.Node.{Node}
use Rattle.ir_worker.specs.declared.parcel.Place.{Place}
use Rattle.ir_worker.specs.Seen.{Parcel, net_place}
use Rattle.ir_core.specs.Record.{Record}
use Rattle.ir_worker.specs.Account.{weigh, weigh_taken, weigh_sent, IsEven, lines_out}
use Rattle.ir_worker.specs.Wires.{AreEndsOf}
use Rattle.ir_control.specs.declared.net.Net.{Net}
use Rattle.ir_control.specs.Places.{offset, way_count}
use Rattle.ir_control.specs.Wired.{AreInboxes, AreWiredWays, IsOpening}
use Rattle.ir_control.specs.Fresh.{AreOutsAt, AreInsAt}
use Rattle.ir_control.specs.Parts.{IsNodeOf, AreFirstNodes}
use Rattle.ir_control.proofs.Rows.{offset_next, offset_le}

pub map_eq : {X Y Z : Type 0} (f : X → Z) (g : Y → Z) (xs : List X) (ys : List Y) → length xs ≡ length ys
    → ((p : ℕ) (x : X) (y : Y) → slice_get xs p ≡ Some x → slice_get ys p ≡ Some y → f x ≡ g y) → map f xs ≡ map g ys
map_eq f g [] [] n same = refl
map_eq f g [] (y ∷ ys) n same = absurd (omega (arith, n))
map_eq f g (x ∷ xs) [] n same = absurd (omega (arith, n))
map_eq f g (x ∷ xs) (y ∷ ys) n same =
    ap (λ z. z ∷ map f xs) (same 0 x y refl refl) ∙ ap (λ zs. g y ∷ zs) (map_eq f g xs ys (omega (arith, n)) (λ p a b at bt. same (suc p) a b at bt))

pub sum_nothing : {X : Type 0} (f : X → ℕ) (xs : List X) → ((p : ℕ) (x : X) → slice_get xs p ≡ Some x → f x ≡ 0) → sum_by f xs ≡ 0
sum_nothing f [] none = refl
sum_nothing f (x ∷ xs) none =
    let here = none 0 x refl in
    let rest = sum_nothing f xs (λ p y at. none (suc p) y at) in
    omega (arith, here, rest, sum_by-cons f x xs)

pub fits_ways : (net : Topology) (u first : ℕ) (row : List Hop) → u < node_count net → first ≡ offset net u → row ≡ ports_of net u → first + length row ≤ way_count net
fits_ways net u first row lt at is =
    let next = offset_next net u lt in
    let most = offset_le net (u + 1) in
    let n = ap (λ (r : List Hop). length r) is in
    omega (arith, next, most, n, at)

module _ (registry : Registry) (net : Topology) (o : Stamp) (opening : IsOpening registry net o) (restamps capacity : ℕ) (few_restamps : restamps ≤ MAX_RESTAMPS) (inboxes ways : List (Channel Place)) (peers : List ℕ)
    (inboxes_are : AreInboxes net o restamps capacity inboxes) (ways_are : AreWiredWays net o restamps capacity ways peers)
    (u first degree : ℕ) (lt : u < node_count net) (at : first ≡ offset net u) (ports : List Hop) (ports_are : ports ≡ ports_of net u) (degree_is : degree ≡ length ports)
    (inbox : Taker Place Parcel) (inbox_is : slice_get inboxes u ≡ Some inbox.channel)
    (outs : List (Sender Place Parcel)) (outs_at : AreOutsAt ways first degree outs) (ins : List (Taker Place Parcel)) (ins_at : AreInsAt ways peers first degree ins) where
  port_here : (p : ℕ) (h : Hop) → slice_get ports p ≡ Some h → port_at net u p ≡ Some h
  port_here p h got = ap (λ (row : List Hop). slice_get row p) (sym ports_are) ∙ got

  pub ends_of : AreEndsOf o restamps u ports inbox ins outs
  ends_of = record {
    node_in = subst (λ (n : Topology). u < node_count n) (sym opening.topology) lt;
    few = (let few = opening.few_nodes in let n = ap (λ (n : Topology). node_count n) opening.topology in omega (arith, few, n));
    few_restamps = few_restamps;
    all_ports = ports_are ∙ ap (λ (n : Topology). ports_of n u) (sym opening.topology);
    inbox_place = (inboxes_are.each u inbox.channel inbox_is).place;
    in_places = map_eq (λ (t : Taker Place Parcel). t.channel.place) (λ (h : Hop). net_place o restamps h.node u) ins ports (ins_at.count ∙ degree_is)
        (λ p t h got there. (ways_are.in_by u p h t.channel (port_here p h there) (ap (λ k. slice_get ways (slice_index peers (k + p))) (sym at) ∙ (ins_at.each p t got).0)).place);
    out_places = map_eq (λ (s : Sender Place Parcel). s.channel.place) (λ (h : Hop). net_place o restamps u h.node) outs ports (outs_at.count ∙ degree_is)
        (λ p s h got there. (ways_are.out u p h s.channel (port_here p h there) (ap (λ k. slice_get ways (k + p)) (sym at) ∙ (outs_at.each p s got).0)).place);
  }

  pub fresh_even : inbox.taken ≡ [] → (w : Record → ℕ) → IsEven w inbox ins outs []
  fresh_even none w =
      let a : weigh w inbox.taken ≡ 0 = ap (weigh w) none in
      let b : weigh_taken w ins ≡ 0 = sum_nothing (λ (t : Taker Place Parcel). weigh w t.taken) ins (λ q t got. ap (weigh w) (ins_at.each q t got).1) in
      let d : weigh_sent w outs ≡ 0 = sum_nothing (λ (s : Sender Place Parcel). weigh w s.sent) outs (λ q s got. ap (weigh w) (outs_at.each q s got).1) in
      omega (arith, a, b, d)

pub node_of : (net : Net) (n : Node) (u first degree : ℕ) (row : List Hop) (inbox : Taker Place Parcel) (ins : List (Taker Place Parcel)) (outs : List (Sender Place Parcel))
    → u < node_count net.topology → first ≡ offset net.topology u → degree ≡ length row → row ≡ ports_of net.topology u
    → slice_get net.inboxes.items u ≡ Some inbox.channel → AreOutsAt net.ways.items first degree outs → AreInsAt net.ways.items net.peers.items first degree ins
    → n.index ≡ u → n.opening ≡ net.opening → n.restamps ≡ net.restamps → n.entrances.inbox ≡ inbox → n.entrances.ports.items ≡ ins → n.outs.items ≡ outs → IsNodeOf net n
node_of net n u first degree row inbox ins outs lt at degree_is row_is inbox_is outs_at ins_at index opening restamps inbox_same ins_same outs_same = record {
  index_in = subst (λ k. k < node_count net.topology) (sym index) lt;
  opening = opening;
  restamps = restamps;
  inbox = ap (slice_get net.inboxes.items) index ∙ inbox_is ∙ ap (λ (t : Taker Place Parcel). Some t.channel) (sym inbox_same);
  outs_count = ap (λ (xs : List (Sender Place Parcel)). length xs) outs_same ∙ outs_at.count ∙ degree_is ∙ ap (λ (r : List Hop). length r) row_is ∙ ap (λ k. length (ports_of net.topology k)) (sym index);
  outs = λ p s got. ap (λ k. slice_get net.ways.items (offset net.topology k + p)) index ∙ ap (λ k. slice_get net.ways.items (k + p)) (sym at)
      ∙ (outs_at.each p s (ap (λ (xs : List (Sender Place Parcel)). slice_get xs p) (sym outs_same) ∙ got)).0;
  ins_count = ap (λ (xs : List (Taker Place Parcel)). length xs) ins_same ∙ ins_at.count ∙ degree_is ∙ ap (λ (r : List Hop). length r) row_is ∙ ap (λ k. length (ports_of net.topology k)) (sym index);
  ins = λ p t got. ap (λ k. slice_get net.ways.items (slice_index net.peers.items (offset net.topology k + p))) index ∙ ap (λ k. slice_get net.ways.items (slice_index net.peers.items (k + p))) (sym at)
      ∙ (ins_at.each p t (ap (λ (xs : List (Taker Place Parcel)). slice_get xs p) (sym ins_same) ∙ got)).0;
}

map_self : {X : Type 0} (xs : List X) → map (λ x. x) xs ≡ xs
map_self [] = refl
map_self (x ∷ xs) = ap (λ ys. x ∷ ys) (map_self xs)

-- the senders of all channels have the lines of all channels
pub all_lines : (lines : List (Channel Place)) (n : ℕ) (outs : List (Sender Place Parcel)) → n ≡ length lines → AreOutsAt lines 0 n outs → lines_out outs ≡ lines
all_lines lines n outs is at =
    map_eq (λ (s : Sender Place Parcel). s.channel) (λ (l : Channel Place). l) outs lines (at.count ∙ is)
    (λ p s l got there. same_Some s.channel l (sym (at.each p s got).0 ∙ ap (slice_get lines) (let z : 0 + p ≡ p = omega arith in z) ∙ there)) ∙ map_self lines

pub entry_ends : (registry : Registry) (net : Topology) (o : Stamp) (opening : IsOpening registry net o) (restamps capacity : ℕ) (inboxes : List (Channel Place)) → AreInboxes net o restamps capacity inboxes
    → (outs : List (Sender Place Parcel)) → lines_out outs ≡ inboxes → AreEntryEnds o restamps (lines_out outs)
entry_ends registry net o opening restamps capacity inboxes are outs same = record {
  count = ap (λ (ls : List (Channel Place)). length ls) same ∙ are.count ∙ ap (λ (n : Topology). node_count n) (sym opening.topology);
  each = λ u channel got. (are.each u channel (ap (λ (ls : List (Channel Place)). slice_get ls u) (sym same) ∙ got)).place;
}

pub outs_unsent : (lines : List (Channel Place)) (first n : ℕ) (outs : List (Sender Place Parcel)) → AreOutsAt lines first n outs → All (λ s. s.sent ≡ []) outs
outs_unsent lines first n outs at = λ k d lt. (at.each k (get_or outs k d) (slice_get-get_or outs k d lt)).1

pub ins_untaken : (lines : List (Channel Place)) (peers : List ℕ) (first n : ℕ) (ins : List (Taker Place Parcel)) → AreInsAt lines peers first n ins → All (λ t. t.taken ≡ []) ins
ins_untaken lines peers first n ins at = λ k d lt. (at.each k (get_or ins k d) (slice_get-get_or ins k d lt)).1

pub none_sent : (w : Record → ℕ) (outs : List (Sender Place Parcel)) → All (λ s. s.sent ≡ []) outs → weigh_sent w outs ≡ 0
none_sent w outs all = sum_nothing (λ (s : Sender Place Parcel). weigh w s.sent) outs
    (λ q s got. subst (λ (y : Sender Place Parcel). weigh w y.sent ≡ 0) (get_or_from_slice_get outs q s s got) (ap (weigh w) (all q s (slice_get_within outs q s got))))

pub first_more : (net : Net) (u : ℕ) (nodes after : List Node) (n : Node) → AreFirstNodes net u nodes → IsNodeOf net n → n.index ≡ u → after ≡ nodes ++ n ∷ [] → AreFirstNodes net (u + 1) after
first_more net u nodes after n first is index e = subst (λ (after : List Node). AreFirstNodes net (u + 1) after) (sym e) (record {
  count_is = (let a = length_push nodes n in let b = first.count_is in omega (arith, a, b));
  each = λ k m got. elim (get_push nodes k n m got) [
    | inl h ↦ subst (λ (m : Node). IsNodeOf net m × (m.index ≡ k)) h.1 (is, index ∙ sym first.count_is ∙ sym h.0)
    | inr h ↦ first.each k m h.1
  ];
})
