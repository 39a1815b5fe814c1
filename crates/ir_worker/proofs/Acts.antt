-- What an Act of a node leaves of a parcel.
use Rattle.std.proofs.Common.{◌≡◌, ◌≢◌, ℕ, ◌<◌, ◌≤◌, List, [], ◌∷◌, slice_get, Option, Some, None, refl, sym, ap, ◌∙◌, subst, arith, ◌⊎◌, inl, inr}
use Rattle.std.specs.Prelude.{Bool, false, true, not, cond, nat_lt, reverse, ◌==◌}
use Rattle.std.proofs.lemmas.Grind.{common_steps}
use Rattle.std.proofs.lemmas.Option.{slice_get_within}
use Rattle.std.proofs.Math.Logic.{∥∥₁_elim, ∥∥₁_prop}
use Rattle.ir_model.specs.declared.Hop.{Hop}
use Rattle.ir_model.specs.Topology.{node_count}
use Rattle.ir_model.specs.Plan.{Plan, next_hop, table_port, IsPlan}
use Rattle.ir_model.specs.Table.{IsPrescribedWalk}
use Rattle.ir_core.specs.declared.board.Board.{Board}
use Rattle.ir_core.specs.declared.event.Way.{Way}
use Rattle.ir_core.specs.declared.event.Way.TheVariants.{Inbox, Link}
use Rattle.ir_core.specs.declared.event.Verdict.{Verdict}
use Rattle.ir_core.specs.declared.event.Verdict.TheVariants.{CameByDown, BelowFloor, Arrives, LeavesByDown, NoRoom, GoesOn}
use Rattle.ir_core.specs.declared.packet.Fate.{Fate}
use Rattle.ir_core.specs.declared.packet.Fate.TheVariants.{Left, Full, Retired}
use Rattle.ir_core.specs.declared.packet.Restamp.{Restamp}
use Rattle.ir_core.specs.Board.{is_link_up}
use Rattle.ir_core.specs.Record.{Record, present, present_in, segments, segments_in, stamp_of, until}
use Rattle.ir_core.specs.Setting.{Setting, IsPlanFor}
use Rattle.ir_core.specs.Entry.{judged, judged_here, onward, acted, is_hop, fate_of}
use Rattle.ir_core.specs.Sound.{IsSound, FateFits, LeadsOn, last_of}
use Rattle.ir_core.specs.World.{IsBeginning, IsDue, FitsPlace, Ended}
use Rattle.ir_core.proofs.Walks.{walk_of, prefix, next_hop-away, next_hop-none, last_of-push}
use Rattle.ir_core.proofs.Verdicts.{Means, judged_means, if_full, judged-if_full}
use Rattle.ir_core.proofs.Placed.{acted_fits, place_after}
use Rattle.ir_core.proofs.Segments.{gone, past_in, segments_split, joined_in, linked_in}
use Rattle.ir_core.proofs.Theorem.{place_fits}
use Rattle.ir_plan.specs.declared.tour.LabelOrder.TheVariants.{DepthFirst}
use Rattle.ir_epochs.specs.declared.registry.Stamp.{Stamp}
use Rattle.ir_epochs.specs.Stamps.{knows}
use Rattle.ir_worker.specs.declared.parcel.Outcome.{Outcome}
use Rattle.ir_worker.specs.Seen.{Parcel, stamp_now, stamps_of, present_stamp, EachBy, IsStretchBy, IsRoutedBy, IsSoundByStamp, IsSoundByStamps, IsParcelKept}
use Rattle.ir_worker.specs.Acts.{parcel_verdict, GoesOnAs, SettlesAs, CauseHolds}
use Rattle.ir_worker.proofs.Routes.{earlier_in, split_of, split_routed, each_join, routed_gone, gone_present, last_present}

-- a setting that the plan is for
abbrev setting_of : Plan → Setting
setting_of t = record { topology = t.topology; labels = DepthFirst; keeps = false; first = t; capacity = 1; max_packets = 1; restamps = 0 }

plan_for : (t : Plan) → IsPlan t → IsPlanFor (setting_of t) t
plan_for t is = record { plan = is; nodes = refl; links = refl; ports = λ u p hop at. (p, at) }

-- a segment whose hops begin its walk is sound, if its fate fits
sound_at : (t : Plan) → IsPlan t → (r : Record) → r.source < node_count t.topology → r.dest < node_count t.topology →
    slice_get r.hops 0 ≡ Some r.source → IsBeginning t r.dest r.hops →
    ((walk : List ℕ) → IsPrescribedWalk t.topology (table_port t) r.source r.dest walk → FateFits t r walk r.fate) → IsSound t r
sound_at t is r s_in d_in begins follows fits =
    let w = is.walks r.source r.dest s_in d_in in
    let walk = walk_of t r.source r.dest w.0 w.1 in
    record {
      plan = is;
      walk = w.0;
      prescribed = w.1;
      not_empty = slice_get_within r.hops 0 r.source begins;
      follows = prefix t r.dest r.hops w.0 r.source begins walk.begins follows walk.steps;
      fate = fits w.0 w.1;
    }

-- a segment that a restamp ended
ended_sound : (s : Stamp) (g : Record) → IsStretchBy s g → g.fate ≡ Retired → IsPlan (knows s) → IsSoundByStamp s g
ended_sound s g k e is =
    (k.epoch, sound_at (knows s) is g k.source_in k.dest_in k.begins k.follows (λ walk w. subst (λ (x : Fate). FateFits (knows s) g walk x) (sym e) tt))

none_more : (ss : List Stamp) → EachBy IsStretchBy ss [] → EachBy IsSoundByStamp ss []
none_more [] k = tt
none_more (s ∷ ss) k = absurd k

retired_sound : (latest : List Restamp) (r : Record) → r.fate ≡ Retired → (ss : List Stamp) → EachBy IsStretchBy ss (segments_in latest r) → ∥ EachBy IsSoundByStamp ss (segments_in latest r) ∥₁
retired_sound [] r e [] k = absurd k
retired_sound [] r e (s ∷ ss) k = ∥∥₁_elim s.sound ∥∥₁_prop (λ is. ∣ (ended_sound s (present_in [] r) k.0 e is, none_more ss k.1) ∣₁)
retired_sound (x ∷ older) r e [] k = absurd k
retired_sound (x ∷ older) r e (s ∷ ss) k =
    ∥∥₁_elim s.sound ∥∥₁_prop (λ is. ∥∥₁_elim (retired_sound older (until x r) refl ss k.1) ∥∥₁_prop (λ rest. ∣ (ended_sound s (present_in (x ∷ older) r) k.0 e is, rest) ∣₁))

past_sound : (latest : List Restamp) (r : Record) (ss : List Stamp) → EachBy IsStretchBy ss (past_in latest r) → ∥ EachBy IsSoundByStamp ss (past_in latest r) ∥₁
past_sound [] r ss k = ∣ none_more ss k ∣₁
past_sound (x ∷ older) r ss k = retired_sound older (until x r) refl ss k

-- a record is sound if its present segment is
record_sound : (first : Stamp) (later : List Stamp) (r : Record) → IsRoutedBy (stamps_of first later) r → (IsPlan (knows (present_stamp first later)) → IsSound (knows (present_stamp first later)) (present r)) →
    ∥ IsSoundByStamps (stamps_of first later) r ∥₁
record_sound first later r k fits =
    let each = split_routed first later r k in
    ∥∥₁_elim (present_stamp first later).sound ∥∥₁_prop (λ is. ∥∥₁_elim (past_sound (reverse r.restamps) r (earlier_in (reverse later) first) each.1) ∥∥₁_prop (λ past. ∣ record {
      few = k.few;
      places = k.places;
      joined = joined_in (reverse r.restamps) r k.places;
      linked = linked_in (reverse r.restamps) r k.places;
      rising = k.rising;
      each = each_join IsSoundByStamp (stamps_of first later) (earlier_in (reverse later) first) (present_stamp first later) (split_of first later)
          (segments r) (past_in (reverse r.restamps) r) (present r) (segments_split (reverse r.restamps) r) (each.0.epoch, fits is) past;
    } ∣₁))

-- what is left is sound
pub left_sound : (first : Stamp) (later : List Stamp) (r : Record) (next address : ℕ) → IsParcelKept first later r next address → ∥ IsSoundByStamps (stamps_of first later) r ∥₁
left_sound first later r next address k =
    let st = (split_routed first later r k.routed).0 in
    let t = knows (present_stamp first later) in
    record_sound first later r k.routed (λ is. sound_at t is (present r) st.source_in st.dest_in st.begins st.follows (λ walk w. subst (λ (x : Fate). FateFits t (present r) walk x) (sym k.left) tt))

-- the node is the last hop of what it sends on
acted_here : (t : Plan) (way : Way) (u : ℕ) (g : Record) (h : Hop) → IsDue t g u way → last_of (acted u way (GoesOn h) g).hops ≡ u
acted_here t Inbox u g h due = ap last_of due.0
acted_here t (Link l) u g h due = last_of-push g.hops u

-- what an Act leaves of a parcel that was due
module _ (first : Stamp) (later : List Stamp) (is : IsPlan (knows (present_stamp first later))) (b : Board) (way : Way) (u : ℕ) (u_in : u < node_count (knows (present_stamp first later)).topology)
    (r : Record) (next address : ℕ) (k : IsParcelKept first later r next address) (due : IsDue (knows (present_stamp first later)) (present r) u way) (v : Verdict)
    (e : v ≡ judged (knows (present_stamp first later)) b (λ _. false) way u (stamp_of r) r.dest) where
  t : Plan
  t = knows (present_stamp first later)

  st : IsStretchBy (present_stamp first later) (present r)
  st = (split_routed first later r k.routed).0

  means : Means (knows (present_stamp first later)) (λ _. false) u way r.dest v
  means =
      subst (λ (w : Verdict). Means (knows (present_stamp first later)) (λ _. false) u way r.dest w) (sym e)
      (judged_means (knows (present_stamp first later)) b (λ _. false) way u (stamp_of r) r.dest (next_hop-none (knows (present_stamp first later)) is u r.dest u_in st.dest_in))

  fits : (slice_get (acted u way v (present r)).hops 0 ≡ Some (present r).source) × IsBeginning (knows (present_stamp first later)) r.dest (acted u way v (present r)).hops × FitsPlace (knows (present_stamp first later)) (acted u way v (present r)) (place_after v)
  fits =
      acted_fits (knows (present_stamp first later)) (λ _. false) u way v (present r) (λ x h at. next_hop-away (knows (present_stamp first later)) is x r.dest st.dest_in h at) means due st.begins st.follows

  routed : IsRoutedBy (stamps_of first later) (acted u way v r)
  routed = routed_gone first later r (is_hop way v) u (fate_of v) k.routed fits.0 fits.1

  now : present (acted u way v r) ≡ acted u way v (present r)
  now = gone_present (stamps_of first later) r (is_hop way v) u (fate_of v) k.routed

  pub acted_sound : ∥ IsSoundByStamps (stamps_of first later) (acted u way v r) ∥₁
  acted_sound =
      record_sound first later (acted u way v r) routed (λ is. subst (λ (g : Record). IsSound (knows (present_stamp first later)) g) (sym now)
      (sound_at (knows (present_stamp first later)) is (acted u way v (present r)) st.source_in st.dest_in fits.0 fits.1
      (λ walk w. place_fits (setting_of (knows (present_stamp first later))) (knows (present_stamp first later)) (plan_for (knows (present_stamp first later)) is) (acted u way v (present r)) st.source_in st.dest_in fits.0 fits.1 walk w (place_after v) fits.2)))

  pub acted_leads : (h : Hop) → v ≡ GoesOn h → LeadsOn (knows (present_stamp first later)) (present (acted u way v r)) h.link h.node
  acted_leads h g =
      let there = subst (λ (w : Verdict). FitsPlace (knows (present_stamp first later)) (acted u way w (present r)) (place_after w)) g fits.2 in
      subst (λ (x : Record). LeadsOn (knows (present_stamp first later)) x h.link h.node) (sym (now ∙ ap (λ (w : Verdict). acted u way w (present r)) g)) there.1

  pub acted_kept : (h : Hop) → v ≡ GoesOn h → IsParcelKept first later (acted u way v r) h.node address
  acted_kept h g =
      let on = acted_leads h g in
      record {
        routed = routed;
        first_epoch = k.first_epoch;
        labelled = k.labelled;
        goes = inr (on.0, on.1, on.3);
        left = ap fate_of g;
        nodes = k.nodes;
        room = k.room;
      }

  pub acted_last : (h : Hop) → v ≡ GoesOn h → last_of (acted u way v r).hops ≡ u
  acted_last h g =
      sym (last_present (stamps_of first later) (acted u way v r) routed) ∙ ap (λ (x : Record). last_of x.hops) (now ∙ ap (λ (w : Verdict). acted u way w (present r)) g) ∙ acted_here (knows (present_stamp first later)) way u (present r) h due

-- what is known of a parcel when a node has judged it
abbrev pub IsJudged : Board → Way → ℕ → Verdict → Parcel → Type 0
IsJudged b way u v p =
    IsPlan (knows (stamp_now p)) × (u < node_count (knows (stamp_now p)).topology) × IsDue (knows (stamp_now p)) (present p.packet) u way × (v ≡ parcel_verdict p b false way u)

module _ (b : Board) (way : Way) (u : ℕ) (p : Parcel) (first : Stamp) (later : List Stamp) (r : Record) (next address : ℕ) (k : IsParcelKept first later r next address) (v : Verdict)
    (view : (let seen : Parcel = record { packet = r; first = first; later = later; next = next } in seen) ≡ p) (judging : IsJudged b way u v p) (r' : Record) (w : r' ≡ acted u way v r) where
  inside : IsJudged b way u v (record { packet = r; first = first; later = later; next = next })
  inside = subst (λ (x : Parcel). IsJudged b way u v x) (sym view) judging

  pub on_kept : (h : Hop) → v ≡ GoesOn h → IsParcelKept first later r' h.node address
  on_kept h g = subst (λ (x : Record). IsParcelKept first later x h.node address) (sym w) (acted_kept first later inside.0 b way u inside.1 r next address k inside.2 v inside.3 h g)

  pub on_leads : (h : Hop) → v ≡ GoesOn h → LeadsOn (knows (stamp_now p)) (present r') h.link h.node
  on_leads h g =
      let there : LeadsOn (knows (present_stamp first later)) (present r') h.link h.node =
      subst (λ (x : Record). LeadsOn (knows (present_stamp first later)) (present x) h.link h.node) (sym w) (acted_leads first later inside.0 b way u inside.1 r next address k inside.2 v inside.3 h g) in
      subst (λ (x : Parcel). LeadsOn (knows (stamp_now x)) (present r') h.link h.node) view there

  pub on_here : (h : Hop) → v ≡ GoesOn h → last_of r'.hops ≡ u
  on_here h g = ap (λ (x : Record). last_of x.hops) w ∙ acted_last first later inside.0 b way u inside.1 r next address k inside.2 v inside.3 h g

  pub on_sound : ∥ IsSoundByStamps (stamps_of first later) r' ∥₁
  on_sound = subst (λ (x : Record). ∥ IsSoundByStamps (stamps_of first later) x ∥₁) (sym w) (acted_sound first later inside.0 b way u inside.1 r next address k inside.2 v inside.3)

-- and so is what was refused
pub refused_sound : (first : Stamp) (later : List Stamp) (r : Record) (next address : ℕ) → IsParcelKept first later r next address → (h : Hop) → LeadsOn (knows (present_stamp first later)) (present r) h.link h.node →
    (r' : Record) → r' ≡ acted next Inbox (NoRoom h) r → ∥ IsSoundByStamps (stamps_of first later) r' ∥₁
refused_sound first later r next address k h on r' w =
    let t = knows (present_stamp first later) in
    let st = (split_routed first later r k.routed).0 in
    let fate : Fate = Full h.link h.node in
    let not_left : Full h.link h.node ≢ Left = λ e. cc in
    let routed = routed_gone first later r false next (Full h.link h.node) k.routed st.begins st.follows in
    let now = gone_present (stamps_of first later) r false next (Full h.link h.node) k.routed in
    let sound = record_sound first later (gone false next (Full h.link h.node) r) routed (λ is. subst (λ (g : Record). IsSound (knows (present_stamp first later)) g) (sym now)
    (sound_at (knows (present_stamp first later)) is (gone false next (Full h.link h.node) (present r)) st.source_in st.dest_in st.begins st.follows
    (λ walk there. place_fits (setting_of (knows (present_stamp first later))) (knows (present_stamp first later)) (plan_for (knows (present_stamp first later)) is) (gone false next (Full h.link h.node) (present r)) st.source_in st.dest_in st.begins st.follows walk there Ended (not_left, on)))) in
    subst (λ (x : Record). ∥ IsSoundByStamps (stamps_of first later) x ∥₁) (sym w) sound

-- what was refused was settled for want of room
same_full : (u : ℕ) (way : Way) (h : Hop) (r : Record) → (let full : Record = record (acted u way (GoesOn h) r) { fate = Full h.link h.node } in full) ≡ acted u way (NoRoom h) r
same_full u Inbox h r = refl
same_full u (Link l) h r = refl

pub settles_full : (b : Board) (way : Way) (u : ℕ) (p : Parcel) (h : Hop) (q q' : Parcel) → GoesOnAs b way u p h q → q' ≡ q → (o : Outcome) → o.packet ≡ record q'.packet { fate = Full h.link h.node } → o.stamp ≡ q'.first → o.later.items ≡ q'.later → o.version ≡ b.version →
    SettlesAs b true way u p (NoRoom h) o
settles_full b way u p h q q' on same o packet stamp later version = record {
  verdict = judged-if_full (knows (stamp_now p)) b (λ _. true) way u (stamp_of p.packet) p.packet.dest ∙ ap (if_full (λ _. true)) on.verdict;
  ends = tt;
  packet = packet ∙ ap (λ (x : Parcel). let full : Record = record x.packet { fate = Full h.link h.node } in full) same
      ∙ ap (λ (x : Record). let full : Record = record x { fate = Full h.link h.node } in full) on.packet ∙ same_full u way h p.packet;
  first = stamp ∙ ap (λ (x : Parcel). x.first) same ∙ on.first;
  later = later ∙ ap (λ (x : Parcel). x.later) same ∙ on.later;
  version = version;
}

-- a packet of a retired epoch is neither sent on nor delivered
below : (t : Plan) (b : Board) (full : Hop → Bool) (way : Way) (u stamp d : ℕ) → nat_lt stamp b.floor ≡ true →
    (judged t b full way u stamp d ≡ BelowFloor) ⊎ ((l : ℕ) × (judged t b full way u stamp d ≡ CameByDown l))
below t b full Inbox u stamp d e = inl (rw e refl)
below t b full (Link l) u stamp d e = chosen (is_link_up b l) refl
  where
    chosen : (r : Bool) → is_link_up b l ≡ r → (judged t b full (Link l) u stamp d ≡ BelowFloor) ⊎ ((k : ℕ) × (judged t b full (Link l) u stamp d ≡ CameByDown k))
    chosen true p = inl (rw (p, e) refl)
    chosen false p = inr (l, rw p refl)

pub live : (t : Plan) (b : Board) (full : Hop → Bool) (way : Way) (u stamp d : ℕ) (v : Verdict) → judged t b full way u stamp d ≡ v → v ≢ BelowFloor → ((l : ℕ) → v ≢ CameByDown l) → b.floor ≤ stamp
live t b full way u stamp d v e here came = chosen (nat_lt stamp b.floor) refl
  where
    by_cause : (judged t b full way u stamp d ≡ BelowFloor) ⊎ ((l : ℕ) × (judged t b full way u stamp d ≡ CameByDown l)) → ⊥
    by_cause (inl p) = here (sym e ∙ p)
    by_cause (inr p) = came p.0 (sym e ∙ p.1)

    chosen : (r : Bool) → nat_lt stamp b.floor ≡ r → b.floor ≤ stamp
    chosen true p = absurd (by_cause (below t b full way u stamp d p))
    chosen false p = grind (arith, common_steps)

pub live_on : (b b' : Board) (way : Way) (u : ℕ) (p : Parcel) (h : Hop) (q : Parcel) → GoesOnAs b way u p h q → b'.floor ≤ b.floor → b'.floor ≤ stamp_of q.packet
live_on b b' way u p h q on rises =
    let lt : b.floor ≤ stamp_of p.packet = live (knows (stamp_now p)) b (λ _. false) way u (stamp_of p.packet) p.packet.dest (GoesOn h) on.verdict (λ e. cc) (λ l e. cc) in
    let same : stamp_of q.packet ≡ stamp_of p.packet = ap stamp_of on.packet in
    omega arith

pub live_here : (b b' : Board) (refused : Bool) (way : Way) (u : ℕ) (p : Parcel) (v : Verdict) (o : Outcome) → SettlesAs b refused way u p v o → b'.floor ≤ b.floor → v ≡ Arrives → b'.floor ≤ stamp_of o.packet
live_here b b' refused way u p v o on rises is =
    let lt : b.floor ≤ stamp_of p.packet = live (knows (stamp_now p)) b (λ _. refused) way u (stamp_of p.packet) p.packet.dest Arrives (on.verdict ∙ is) (λ e. cc) (λ l e. cc) in
    let same : stamp_of o.packet ≡ stamp_of p.packet = ap stamp_of on.packet in
    omega arith

-- a packet that is below the floor is of an epoch below it
onward_above : (b : Board) (full : Hop → Bool) (x : Option Hop) → onward b full x ≢ BelowFloor
onward_above b full None e = cc
onward_above b full (Some h) e = by_mark (is_link_up b h.link) (full h) e
  where
    by_mark : (r q : Bool) → cond (not r) (LeavesByDown h.link) (cond q (NoRoom h) (GoesOn h)) ≡ BelowFloor → ⊥
    by_mark true true x = cc
    by_mark true false x = cc
    by_mark false q x = cc

here_below : (t : Plan) (b : Board) (full : Hop → Bool) (u stamp d : ℕ) → judged_here t b full u stamp d ≡ BelowFloor → stamp < b.floor
here_below t b full u stamp d e = chosen (nat_lt stamp b.floor) refl
  where
    at_node : (r : Bool) → cond r Arrives (onward b full (next_hop t u d)) ≡ BelowFloor → ⊥
    at_node true x = cc
    at_node false x = onward_above b full (next_hop t u d) x

    chosen : (r : Bool) → nat_lt stamp b.floor ≡ r → stamp < b.floor
    chosen true p = grind (arith, common_steps)
    chosen false p = absurd (at_node (u == d) (rw p at e))

pub retired_below : (t : Plan) (b : Board) (full : Hop → Bool) (way : Way) (u stamp d : ℕ) → judged t b full way u stamp d ≡ BelowFloor → stamp < b.floor
retired_below t b full Inbox u stamp d e = here_below t b full u stamp d e
retired_below t b full (Link l) u stamp d e = chosen (is_link_up b l) refl
  where
    chosen : (r : Bool) → is_link_up b l ≡ r → stamp < b.floor
    chosen true p = here_below t b full u stamp d (rw p at e)
    chosen false p = (let bad : CameByDown l ≡ BelowFloor = rw p at e in absurd (cc bad))

-- the cause that a fate names held on the board
onward_down : (b : Board) (full : Hop → Bool) (x : Option Hop) (l : ℕ) → onward b full x ≡ LeavesByDown l → is_link_up b l ≡ false
onward_down b full None l e = absurd (cc e)
onward_down b full (Some h) l e = by_mark (is_link_up b h.link) refl (full h) e
  where
    by_mark : (r : Bool) → is_link_up b h.link ≡ r → (q : Bool) → cond (not r) (LeavesByDown h.link) (cond q (NoRoom h) (GoesOn h)) ≡ LeavesByDown l → is_link_up b l ≡ false
    by_mark true p true x = absurd (cc x)
    by_mark true p false x = absurd (cc x)
    by_mark false p q x = let same : h.link ≡ l = cc in ap (λ (k : ℕ). is_link_up b k) (sym same) ∙ p

here_down : (t : Plan) (b : Board) (full : Hop → Bool) (u stamp d l : ℕ) → judged_here t b full u stamp d ≡ LeavesByDown l → is_link_up b l ≡ false
here_down t b full u stamp d l e = chosen (nat_lt stamp b.floor) (u == d) e
  where
    chosen : (r q : Bool) → cond r BelowFloor (cond q Arrives (onward b full (next_hop t u d))) ≡ LeavesByDown l → is_link_up b l ≡ false
    chosen true q x = absurd (cc x)
    chosen false true x = absurd (cc x)
    chosen false false x = onward_down b full (next_hop t u d) l x

onward_not_came : (b : Board) (full : Hop → Bool) (x : Option Hop) (l : ℕ) → onward b full x ≢ CameByDown l
onward_not_came b full None l e = cc
onward_not_came b full (Some h) l e = by_mark (is_link_up b h.link) (full h) e
  where
    by_mark : (r q : Bool) → cond (not r) (LeavesByDown h.link) (cond q (NoRoom h) (GoesOn h)) ≡ CameByDown l → ⊥
    by_mark true true x = cc
    by_mark true false x = cc
    by_mark false q x = cc

here_not_came : (t : Plan) (b : Board) (full : Hop → Bool) (u stamp d l : ℕ) → judged_here t b full u stamp d ≢ CameByDown l
here_not_came t b full u stamp d l e = chosen (nat_lt stamp b.floor) (u == d) e
  where
    chosen : (r q : Bool) → cond r BelowFloor (cond q Arrives (onward b full (next_hop t u d))) ≡ CameByDown l → ⊥
    chosen true q x = cc
    chosen false true x = cc
    chosen false false x = onward_not_came b full (next_hop t u d) l x

came_down : (t : Plan) (b : Board) (full : Hop → Bool) (way : Way) (u stamp d l : ℕ) → judged t b full way u stamp d ≡ CameByDown l → is_link_up b l ≡ false
came_down t b full Inbox u stamp d l e = absurd (here_not_came t b full u stamp d l e)
came_down t b full (Link k) u stamp d l e = chosen (is_link_up b k) refl e
  where
    chosen : (r : Bool) → is_link_up b k ≡ r → cond (not r) (CameByDown k) (judged_here t b full u stamp d) ≡ CameByDown l → is_link_up b l ≡ false
    chosen true p x = absurd (here_not_came t b full u stamp d l x)
    chosen false p x = let same : k ≡ l = cc in ap (λ (j : ℕ). is_link_up b j) (sym same) ∙ p

leaves_down : (t : Plan) (b : Board) (full : Hop → Bool) (way : Way) (u stamp d l : ℕ) → judged t b full way u stamp d ≡ LeavesByDown l → is_link_up b l ≡ false
leaves_down t b full Inbox u stamp d l e = here_down t b full u stamp d l e
leaves_down t b full (Link k) u stamp d l e = chosen (is_link_up b k) e
  where
    chosen : (r : Bool) → cond (not r) (CameByDown k) (judged_here t b full u stamp d) ≡ LeavesByDown l → is_link_up b l ≡ false
    chosen true x = here_down t b full u stamp d l x
    chosen false x = absurd (cc x)

cause_of : (t : Plan) (b : Board) (full : Hop → Bool) (way : Way) (u d : ℕ) (r : Record) (v : Verdict) → judged t b full way u (stamp_of r) d ≡ v → CauseHolds b (acted u way v r) (fate_of v)
cause_of t b full way u d r (CameByDown l) e = came_down t b full way u (stamp_of r) d l e
cause_of t b full way u d r BelowFloor e = retired_below t b full way u (stamp_of r) d e
cause_of t b full way u d r Arrives e = tt
cause_of t b full way u d r (LeavesByDown l) e = leaves_down t b full way u (stamp_of r) d l e
cause_of t b full way u d r (NoRoom h) e = tt
cause_of t b full way u d r (GoesOn h) e = tt

pub cause_here : (b : Board) (refused : Bool) (way : Way) (u : ℕ) (p : Parcel) (v : Verdict) (o : Outcome) → SettlesAs b refused way u p v o → CauseHolds b o.packet o.packet.fate
cause_here b refused way u p v o on =
    subst (λ (r : Record). CauseHolds b r r.fate) (sym on.packet) (cause_of (knows (stamp_now p)) b (λ _. refused) way u p.packet.dest p.packet v on.verdict)
