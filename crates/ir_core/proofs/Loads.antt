use Rattle.std.proofs.Common.{◌≡◌, ◌≢◌, ℕ, zero, suc, ◌+◌, ◌-◌, ◌*◌, ◌<◌, ◌≤◌, List, [], ◌∷◌, ◌++◌, length, drop, slice_get, slice_index_or, slice_set, Option, Some, None, refl, sym, ap, ◌∙◌, subst, arith, true, false, Bool, cond, nat_lt, ◌⊎◌, inl, inr}
use Rattle.std.specs.Prelude.{reverse}
use Rattle.std.proofs.lemmas.Grind.{common_steps}
use Rattle.std.specs.List.{sum_by}
use Rattle.std.proofs.lemmas.Bool.{cases_eq}
use Rattle.std.proofs.lemmas.Option.{same_Some, slice_get_within}
use Rattle.std.proofs.lemmas.List.{length-append, length-drop, get_or-set_same, get_or-set_other}
use Rattle.std.proofs.lemmas.List.Sums.{sum_by-set}
use Rattle.ir_model.specs.declared.Link.{Link as Edge}
use Rattle.ir_model.specs.declared.Hop.{Hop}
use Rattle.ir_core.specs.declared.event.Way.{Way}
use Rattle.ir_core.specs.declared.event.Way.TheVariants.{Inbox, Link}
use Rattle.ir_core.specs.declared.event.Verdict.{Verdict}
use Rattle.ir_core.specs.declared.event.Verdict.TheVariants.{CameByDown, BelowFloor, Arrives, LeavesByDown, NoRoom, GoesOn}
use Rattle.ir_core.specs.declared.packet.Held.{Held}
use Rattle.ir_core.specs.declared.packet.Fate.{Fate}
use Rattle.ir_core.specs.declared.packet.Fate.TheVariants.{Left}
use Rattle.ir_core.specs.declared.board.Board.{Board}
use Rattle.ir_core.specs.Record.{Record, present, stamp_of}
use Rattle.ir_core.specs.Setting.{nodes_of, channel_of, into}
use Rattle.ir_core.specs.Entry.{DidTake, DidAct, acted, ruled, fresh, fate_of, is_hop, hops_after}
use Rattle.ir_core.specs.Meaning.{plan_of}
use Rattle.ir_core.specs.World.{World, IsWorld, IsDue, after, sent_on, taken_from, LeadsIn}
use Rattle.ir_core.specs.Quiet.{weight, travel, made_of, hops_left, floor_of, way_load, held_load, inbox_load}
use Rattle.ir_core.proofs.Channels.{IsEndOf, link_channel, channel_within, into_is}
use Rattle.ir_core.proofs.Segments.{present_gone}
use Rattle.ir_core.proofs.Routed.{present_stretch, ruled_begun}
use Rattle.ir_core.proofs.Keeps.{Acting, InHandOf, hops_below, leads_in}

abbrev node_load : List (List ℕ) → List (Option Held) → ℕ → ℕ
node_load channels hands u = length (slice_index_or channels u []) + held_load (slice_index_or hands u None)

-- loads that are the same at each node
loads_same : (cs ds : List (List ℕ)) (hs gs : List (Option Held)) (n : ℕ) → ((k : ℕ) → k < n → node_load ds gs k ≡ node_load cs hs k) → inbox_load ds gs n ≡ inbox_load cs hs n
loads_same cs ds hs gs zero same = refl
loads_same cs ds hs gs (suc n) same =
    let below = loads_same cs ds hs gs n (λ k lt. same k (omega arith)) in
    let here = same n (omega arith) in
    omega arith

-- loads that are the same at each node but one
loads_change : (cs ds : List (List ℕ)) (hs gs : List (Option Held)) (u n : ℕ) → u < n → ((k : ℕ) → k < n → k ≢ u → node_load ds gs k ≡ node_load cs hs k) →
    inbox_load ds gs n + node_load cs hs u ≡ inbox_load cs hs n + node_load ds gs u
loads_change cs ds hs gs u zero lt same = absurd (omega arith)
loads_change cs ds hs gs u (suc n) lt same = chosen (cases_eq u n) (λ lt2 same2. loads_change cs ds hs gs u n lt2 same2)
  where
    chosen : ((u ≡ n) ⊎ (u ≡ n → ⊥)) → (u < n → ((k : ℕ) → k < n → k ≢ u → node_load ds gs k ≡ node_load cs hs k) → inbox_load ds gs n + node_load cs hs u ≡ inbox_load cs hs n + node_load ds gs u) →
        inbox_load ds gs (suc n) + node_load cs hs u ≡ inbox_load cs hs (suc n) + node_load ds gs u
    chosen (inl e) go =
        let below = loads_same cs ds hs gs n (λ k k_in. let ne : k ≢ u = omega arith in same k (omega arith) ne) in
        let a = ap (λ (k : ℕ). node_load cs hs k) e in
        let b = ap (λ (k : ℕ). node_load ds gs k) e in
        omega arith
    chosen (inr ne) go =
        let below = go (omega arith) (λ k k_in other. same k (omega arith) other) in
        let differs : n ≢ u = λ e. ne (sym e) in
        let here = same n (omega arith) differs in
        omega arith

-- a link's channel has a number past the nodes
beyond : (n u l c : ℕ) (link : Edge) → IsEndOf (n + 2 * l) u c link → n ≤ c
beyond n u l c link (inl p) = let e = p.0 in omega arith
beyond n u l c link (inr p) = let e = p.0 in omega arith

-- what is sent goes into no inbox
sent_elsewhere : (s : World) (v : Verdict) (id k : ℕ) → LeadsIn s v → k < nodes_of s.opening → slice_index_or (sent_on s.opening s.channels v id) k [] ≡ slice_index_or s.channels k []
sent_elsewhere s (GoesOn h) id k to k_in =
    let number = into_is s.opening h.node (Link h.link) to.0 to.1 in
    let at = link_channel s.opening h.node h.link to.0 to.1 in
    let past : nodes_of s.opening ≤ to.0 = beyond (nodes_of s.opening) h.node h.link to.0 at.0 at.3 in
    let ne : k ≢ into s.opening h.node (Link h.link) = omega arith in
    get_or-set_other s.channels (into s.opening h.node (Link h.link)) k (slice_index_or s.channels (into s.opening h.node (Link h.link)) [] ++ id ∷ []) [] ne
sent_elsewhere s (CameByDown l) id k to k_in = refl
sent_elsewhere s BelowFloor id k to k_in = refl
sent_elsewhere s Arrives id k to k_in = refl
sent_elsewhere s (LeavesByDown l) id k to k_in = refl
sent_elsewhere s (NoRoom h) id k to k_in = refl

travel_left : (n floor : ℕ) (r : Record) → r.fate ≡ Left → travel n floor r ≡ n - made_of floor r
travel_left n floor r e = rw e refl

-- a segment of a live epoch has made its hops, one of a retired epoch none
pub made_live : (floor : ℕ) (r : Record) → floor ≤ stamp_of r → made_of floor r ≡ length (present r).hops
made_live floor r le = let t : nat_lt (stamp_of r) floor ≡ false = grind (arith, common_steps) in rw t refl

pub made_retired : (floor : ℕ) (r : Record) → stamp_of r < floor → made_of floor r ≡ 0
made_retired floor r lt = let t : nat_lt (stamp_of r) floor ≡ true = grind (arith, common_steps) in rw t refl

made_below : (floor n : ℕ) (r : Record) → length (present r).hops < n → made_of floor r < n
made_below floor n r lt = by_test (nat_lt (stamp_of r) floor)
  where
    by_test : (t : Bool) → cond t 0 (length (present r).hops) < n
    by_test true = omega arith
    by_test false = lt

pub ruled_fate : (u : ℕ) (way : Way) (restamp : Option ℕ) (v : Verdict) (r : Record) → (ruled u way restamp v r).fate ≡ fate_of v
ruled_fate u way None v r = refl
ruled_fate u way (Some e) v r = refl

-- how an Act that sends counts on: it makes a hop, or more where it restamps
pub record Grows (way : Way) (made after : ℕ) : Type 0 where
  pub no_less : made ≤ after
  pub some : 0 < after
  pub by_link : (l : ℕ) → way ≡ Link l → made < after

after_goes : (way : Way) (u : ℕ) (h : Hop) (hops : List ℕ) → 0 < length hops → Grows way (length hops) (length (hops_after way (GoesOn h) u hops))
after_goes Inbox u h hops some = record { no_less = omega arith; some = some; by_link = λ l e. cc }
after_goes (Link k) u h hops some = let more = length-append hops (u ∷ []) in record { no_less = omega arith; some = omega arith; by_link = λ l e. omega arith }

grows_from : (way : Way) (a b c d : ℕ) → a ≡ c → b ≡ d → Grows way c d → Grows way a b
grows_from way a b c d e f g = record { no_less = let x = g.no_less in omega arith; some = let x = g.some in omega arith; by_link = λ l w. (let x = g.by_link l w in omega arith) }

pub act_grows : (s : World) → IsWorld s → (u : ℕ) (held : Held) (r : Record) (full : Hop → Bool) (b : Board) (restamp : Option ℕ) (h : Hop) → Acting s u held r full b restamp (GoesOn h) →
    Grows held.way (made_of b.floor r) (made_of b.floor (ruled u held.way restamp (GoesOn h) r))
act_grows s ok u held r full b None h a =
    let k = a.hand.packet.routed in
    let st = present_stretch s.opening s.plans ok.plans.each r k in
    let was = made_live b.floor r a.live in
    let now = made_live b.floor (acted u held.way (GoesOn h) r) a.live in
    let g = ap (λ (x : Record). length x.hops) (present_gone (reverse r.restamps) (is_hop held.way (GoesOn h)) u Left r k.places) in
    grows_from held.way _ _ _ _ was (now ∙ g) (after_goes held.way u h (present r).hops (slice_get_within (present r).hops 0 (present r).source st.begins))
act_grows s ok u held r full b (Some e) h a =
    let was = made_retired b.floor r a.live.0 in
    let k = ruled_begun s.opening s.plans ok.plans.each u held.way e (GoesOn h) r a.hand.packet in
    let le = a.live.1 in
    let at = k.0 in
    let now = made_live b.floor (ruled u held.way (Some e) (GoesOn h) r) (omega arith) in
    let one = ap (λ (x : List ℕ). length x) k.1 in
    record { no_less = omega arith; some = omega arith; by_link = λ l w. omega arith }

pub grows_on : (s : World) → IsWorld s → (u : ℕ) (held : Held) (r : Record) (full : Hop → Bool) (b : Board) (restamp : Option ℕ) (v : Verdict) (h : Hop) → b.floor ≡ floor_of s → v ≡ GoesOn h → Acting s u held r full b restamp v →
    Grows held.way (made_of (floor_of s) r) (made_of (floor_of s) (ruled u held.way restamp v r))
grows_on s ok u held r full b restamp v h is_floor goes a =
    let g = act_grows s ok u held r full b restamp h (subst (λ (w : Verdict). Acting s u held r full b restamp w) goes a) in
    let back : Grows held.way (made_of b.floor r) (made_of b.floor (ruled u held.way restamp v r)) = subst (λ (w : Verdict). Grows held.way (made_of b.floor r) (made_of b.floor (ruled u held.way restamp w r))) (sym goes) g in
    subst (λ (floor : ℕ). Grows held.way (made_of floor r) (made_of floor (ruled u held.way restamp v r))) is_floor back

-- an Act takes from what a packet has before it
act_lighter : (n : ℕ) (way : Way) (v : Verdict) (made after : ℕ) → ((l : ℕ) → way ≡ Link l → made < n) → ((h : Hop) → v ≡ GoesOn h → Grows way made after) → hops_left n after (fate_of v) < n - made + way_load way
act_lighter n Inbox (GoesOn h) made after short grows = let g = (grows h refl).no_less in omega arith
act_lighter n Inbox (CameByDown l) made after short grows = omega arith
act_lighter n Inbox BelowFloor made after short grows = omega arith
act_lighter n Inbox Arrives made after short grows = omega arith
act_lighter n Inbox (LeavesByDown l) made after short grows = omega arith
act_lighter n Inbox (NoRoom h) made after short grows = omega arith
act_lighter n (Link l) (GoesOn h) made after short grows = let lt = short l refl in let g = (grows h refl).by_link l refl in omega arith
act_lighter n (Link l) (CameByDown k) made after short grows = let lt = short l refl in omega arith
act_lighter n (Link l) BelowFloor made after short grows = let lt = short l refl in omega arith
act_lighter n (Link l) Arrives made after short grows = let lt = short l refl in omega arith
act_lighter n (Link l) (LeavesByDown k) made after short grows = let lt = short l refl in omega arith
act_lighter n (Link l) (NoRoom h) made after short grows = let lt = short l refl in omega arith

-- a packet that came by a link has made fewer hops of its walk than there are nodes
pub hops_short : (s : World) → IsWorld s → (u : ℕ) (held : Held) (r : Record) (floor : ℕ) → InHandOf s u held r → (l : ℕ) → held.way ≡ Link l → made_of floor r < nodes_of s.opening
hops_short s ok u held r floor p l e =
    let t = plan_of s.opening s.plans (stamp_of r) in
    let due : IsDue t (present r) u (Link l) = subst (λ (w : Way). IsDue t (present r) u w) e p.packet.fits.1 in
    let st = present_stretch s.opening s.plans ok.plans.each r p.packet.routed in
    made_below floor (nodes_of s.opening) r (hops_below s.opening t (present r) u l (ok.plans.each (stamp_of r - 1)) st.source_in st.dest_in st.begins st.follows due)

-- an Act on a newest board makes the weight less
pub act_falls : (s : World) → IsWorld s → (u : ℕ) (held : Held) (restamp : Option ℕ) (v : Verdict) (full : Hop → Bool) (b : Board) → b.floor ≡ floor_of s → slice_index_or s.hands u None ≡ Some held →
    Acting s u held (slice_index_or s.records held.id (fresh held.id 0 0 0 0)) full b restamp v → weight (after s (DidAct u held.id held.way restamp v)) < weight s
act_falls s ok u held restamp v full b is_floor holds a =
    let r = slice_index_or s.records held.id (fresh held.id 0 0 0 0) in
    let n = nodes_of s.opening in
    let u_in = a.node_in in
    let channels = sent_on s.opening s.channels v held.id in
    let hands = slice_set s.hands u None in
    let to = leads_in s ok u held r full b restamp v a in
    let h_in : u < length s.hands = omega (arith, ok.hands) in
    let sums = sum_by-set (travel n (floor_of s)) s.records held.id (ruled u held.way restamp v r) (fresh held.id 0 0 0 0) a.hand.id_in in
    let loads = loads_change s.channels channels s.hands hands u n u_in (λ k k_in ne. same_at k k_in ne to) in
    let chan = ap length (sent_elsewhere s v held.id u to u_in) in
    let none = ap held_load (get_or-set_same s.hands u None None h_in) in
    let was = ap held_load holds in
    let light = lighter in
    omega arith
  where
    lighter : travel (nodes_of s.opening) (floor_of s) (ruled u held.way restamp v (slice_index_or s.records held.id (fresh held.id 0 0 0 0))) <
        travel (nodes_of s.opening) (floor_of s) (slice_index_or s.records held.id (fresh held.id 0 0 0 0)) + way_load held.way
    lighter =
        let r = slice_index_or s.records held.id (fresh held.id 0 0 0 0) in
        let n = nodes_of s.opening in
        let left = travel_left n (floor_of s) r a.hand.packet.fits.0 in
        let fate = ap (λ (f : Fate). hops_left n (made_of (floor_of s) (ruled u held.way restamp v r)) f) (ruled_fate u held.way restamp v r) in
        let less = act_lighter n held.way v (made_of (floor_of s) r) (made_of (floor_of s) (ruled u held.way restamp v r)) (λ l e. hops_short s ok u held r (floor_of s) a.hand l e) (λ h goes. grows_at h goes) in
        omega arith
      where
        grows_at : (h : Hop) → v ≡ GoesOn h → Grows held.way (made_of (floor_of s) (slice_index_or s.records held.id (fresh held.id 0 0 0 0))) (made_of (floor_of s) (ruled u held.way restamp v (slice_index_or s.records held.id (fresh held.id 0 0 0 0))))
        grows_at h goes = grows_on s ok u held (slice_index_or s.records held.id (fresh held.id 0 0 0 0)) full b restamp v h is_floor goes a

    same_at : (k : ℕ) → k < nodes_of s.opening → k ≢ u → LeadsIn s v → node_load (sent_on s.opening s.channels v held.id) (slice_set s.hands u None) k ≡ node_load s.channels s.hands k
    same_at k k_in ne to =
        let c = ap length (sent_elsewhere s v held.id k to k_in) in
        let h = ap held_load (get_or-set_other s.hands u k None None ne) in
        omega arith

-- a channel of a way, and the loads after a take by it
take_node : (s : World) → IsWorld s → (u : ℕ) (way : Way) (c id : ℕ) → u < nodes_of s.opening → channel_of s.opening u way ≡ Some c → slice_index_or s.hands u None ≡ None →
    slice_get (slice_index_or s.channels c []) 0 ≡ Some id → c < length s.channels → u < length s.hands →
    node_load (slice_set s.channels c (drop 1 (slice_index_or s.channels c []))) (slice_set s.hands u (Some (record { id = id; way = way }))) u ≡ node_load s.channels s.hands u
take_node s ok u Inbox c id u_in there empty first c_in h_in =
    let same : u ≡ c = same_Some u c there in
    let now = ap length (get_or-set_same s.channels c (drop 1 (slice_index_or s.channels c [])) [] c_in) in
    let at_u = ap (λ (k : ℕ). length (slice_index_or (slice_set s.channels c (drop 1 (slice_index_or s.channels c []))) k [])) same in
    let old_u = ap (λ (k : ℕ). length (slice_index_or s.channels k [])) same in
    let some = slice_get_within (slice_index_or s.channels c []) 0 id first in
    let less = length-drop 1 (slice_index_or s.channels c []) in
    let hand = ap held_load (get_or-set_same s.hands u (Some (record { id = id; way = Inbox })) None h_in) in
    let was = ap held_load empty in
    omega arith
take_node s ok u (Link l) c id u_in there empty first c_in h_in =
    let at = link_channel s.opening u l c there in
    let past : nodes_of s.opening ≤ c = beyond (nodes_of s.opening) u l c at.0 at.3 in
    let ne : u ≢ c = omega arith in
    let now = ap length (get_or-set_other s.channels c u (drop 1 (slice_index_or s.channels c [])) [] ne) in
    let hand = ap held_load (get_or-set_same s.hands u (Some (record { id = id; way = Link l })) None h_in) in
    let was = ap held_load empty in
    omega arith

-- no other node's load changes
take_other : (s : World) (u : ℕ) (way : Way) (c id : ℕ) → channel_of s.opening u way ≡ Some c →
    (k : ℕ) → k < nodes_of s.opening → k ≢ u →
    node_load (slice_set s.channels c (drop 1 (slice_index_or s.channels c []))) (slice_set s.hands u (Some (record { id = id; way = way }))) k ≡ node_load s.channels s.hands k
take_other s u way c id there k k_in ne =
    let differs : k ≢ c = apart way there in
    let now = ap length (get_or-set_other s.channels c k (drop 1 (slice_index_or s.channels c [])) [] differs) in
    let hand = ap held_load (get_or-set_other s.hands u k (Some (record { id = id; way = way })) None ne) in
    omega arith
  where
    apart : (w : Way) → channel_of s.opening u w ≡ Some c → k ≢ c
    apart Inbox e = let same : u ≡ c = same_Some u c e in λ q. ne (q ∙ sym same)
    apart (Link l) e = let past : nodes_of s.opening ≤ c = (let at = link_channel s.opening u l c e in beyond (nodes_of s.opening) u l c at.0 at.3) in omega arith

-- a take leaves the weight
pub take_weighs : (s : World) → IsWorld s → (u : ℕ) (way : Way) (c id : ℕ) → u < nodes_of s.opening → channel_of s.opening u way ≡ Some c → slice_index_or s.hands u None ≡ None →
    slice_get (slice_index_or s.channels c []) 0 ≡ Some id → weight (after s (DidTake u way id)) ≡ weight s
take_weighs s ok u way c id u_in there empty first =
    let c_in = channel_within s.opening u way c u_in there in
    let in_list : c < length s.channels = omega (arith, ok.channels) in
    let h_in : u < length s.hands = omega (arith, ok.hands) in
    let number = into_is s.opening u way c there in
    let channels = slice_set s.channels c (drop 1 (slice_index_or s.channels c [])) in
    let hands = slice_set s.hands u (Some (record { id = id; way = way })) in
    let here = take_node s ok u way c id u_in there empty first in_list h_in in
    let loads = loads_change s.channels channels s.hands hands u (nodes_of s.opening) u_in (take_other s u way c id there) in
    let same : inbox_load channels hands (nodes_of s.opening) ≡ inbox_load s.channels s.hands (nodes_of s.opening) = omega arith in
    let P : ℕ → Type 0 = λ x. sum_by (travel (nodes_of s.opening) (floor_of s)) s.records + inbox_load (taken_from s.channels x) hands (nodes_of s.opening) ≡ weight s in
    subst P (sym number) (omega arith)
