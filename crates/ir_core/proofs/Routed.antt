-- A packet's record stays right when a node acts on it, with a restamp or without.
use Rattle.std.proofs.Common.{◌≡◌, ◌≢◌, ℕ, ◌+◌, ◌-◌, ◌*◌, ◌<◌, ◌≤◌, List, [], ◌∷◌, ◌++◌, length, slice_get, slice_index_or, Option, Some, None, refl, sym, ap, ◌∙◌, subst, arith, true, false, Bool}
use Rattle.std.specs.Prelude.{reverse}
use Rattle.std.specs.List.{AllByRecursion}
use Rattle.std.proofs.lemmas.List.{length-append, length_push, length-drop, length-take-le, length-reverse}
use Rattle.std.proofs.lemmas.Nat.{mul-le}
use Rattle.ir_model.specs.declared.Hop.{Hop}
use Rattle.ir_model.specs.Plan.{Plan, next_hop}
use Rattle.ir_core.specs.declared.TheConstants.{MAX_NODES, MAX_RESTAMPS}
use Rattle.ir_core.specs.declared.event.Way.{Way}
use Rattle.ir_core.specs.declared.event.Way.TheVariants.{Inbox, Link}
use Rattle.ir_core.specs.declared.event.Verdict.{Verdict}
use Rattle.ir_core.specs.declared.event.Verdict.TheVariants.{CameByDown, BelowFloor, Arrives, LeavesByDown, NoRoom, GoesOn}
use Rattle.ir_core.specs.declared.packet.Fate.{Fate}
use Rattle.ir_core.specs.declared.packet.Fate.TheVariants.{Retired}
use Rattle.ir_core.specs.declared.packet.Restamp.{Restamp}
use Rattle.ir_core.specs.Record.{Record, hop_room, segments_in, present, present_in, stamp_of, until}
use Rattle.ir_core.specs.Setting.{Setting, IsPlanFor, nodes_of}
use Rattle.ir_core.specs.Entry.{acted, restamped, ruled, hops_here, is_hop, fate_of}
use Rattle.ir_core.specs.Meaning.{plan_of}
use Rattle.ir_core.specs.Sound.{AreRising, ArePlaces, last_of}
use Rattle.ir_core.specs.World.{IsBeginning, IsPacket, IsRoutedRecord, IsStretch, IsNew, IsDue, FitsPlace, InHand}
use Rattle.ir_core.proofs.Walks.{IsBeginning-push, first-push, next_hop-away, walk_of, prefix}
use Rattle.ir_core.proofs.Verdicts.{Means}
use Rattle.ir_core.proofs.Placed.{place_after, acted_fits}
use Rattle.ir_core.proofs.Segments.{gone, past_in, present_gone, segments_gone, segments_split, places_more, longer, rising_same, rising_begun, of_present, reverse_push, stamped, begun, present_stamped, segments_stamped, stamp_stamped}

-- what a ruling says of the tables: by the present epoch, or by the one that the packet is restamped with
abbrev pub RuledBy : Setting → List Plan → (Hop → Bool) → Record → ℕ → Way → Option ℕ → Verdict → Type 0
RuledBy o plans full r u way None v = Means (plan_of o plans (stamp_of r)) full u way r.dest v
RuledBy o plans full r u way (Some e) v =
    (stamp_of r < e) × (e ≤ length plans) × (length r.restamps < o.restamps) × Means (plan_of o plans e) full u Inbox r.dest v

-- the hops before this node
abbrev pub front_of : Way → List ℕ → List ℕ
front_of Inbox hops = []
front_of (Link l) hops = hops

-- what a new packet has as its hops
pub new_hops : (r : Record) (u : ℕ) → r.restamps ≡ [] → (present r).hops ≡ u ∷ [] → r.hops ≡ u ∷ []
new_hops r u none e = ap (λ (l : List Restamp). (present_in (reverse l) r).hops) (sym none) ∙ e

pub here_is : (t : Plan) (u : ℕ) (way : Way) (r : Record) → IsDue t (present r) u way → IsNew r (InHand u way) → hops_here way u r.hops ≡ front_of way r.hops ++ u ∷ []
here_is t u Inbox r due new = new_hops r u new due.0
here_is t u (Link l) r due new = refl

pub places_front : (way : Way) (u : ℕ) (r : Record) → IsNew r (InHand u way) → ArePlaces (length r.hops) (reverse r.restamps) → ArePlaces (length (front_of way r.hops)) (reverse r.restamps)
places_front Inbox u r new k = subst (λ (l : List Restamp). ArePlaces 0 (reverse l)) (sym new) tt
places_front (Link l) u r new k = k

pub restamped_is : (u e : ℕ) (way : Way) (r : Record) → hops_here way u r.hops ≡ front_of way r.hops ++ u ∷ [] →
    restamped u way e r ≡ stamped u (front_of way r.hops) (record { epoch = e; from = length (front_of way r.hops) }) r
restamped_is u e way r here =
    let from : length (front_of way r.hops ++ u ∷ []) - 1 ≡ length (front_of way r.hops) = rw length_push (omega arith) in
    ap (λ (hops : List ℕ). record r { hops = hops; restamps = r.restamps ++ record { epoch = e; from = length hops - 1 } ∷ [] }) here
    ∙ ap (λ (n : ℕ). stamped u (front_of way r.hops) (record { epoch = e; from = n }) r) from

no_new_link : (r : Record) (v : Verdict) → IsNew r (place_after v)
no_new_link r (GoesOn h) = tt
no_new_link r (CameByDown l) = tt
no_new_link r BelowFloor = tt
no_new_link r Arrives = tt
no_new_link r (LeavesByDown l) = tt
no_new_link r (NoRoom h) = tt

-- the most hops of so many segments, but one
abbrev pub most : List Restamp → ℕ → ℕ
most [] m = m
most (s ∷ older) m = m + most older m

pub most_is : (latest : List Restamp) (m : ℕ) → most latest m ≡ (length latest + 1) * m
most_is [] m = omega arith
most_is (s ∷ older) m = let below = most_is older m in omega (arith, below)

pub most_within : (latest : List Restamp) (restamps m : ℕ) → length latest ≤ restamps → most latest m ≤ (restamps + 1) * m
most_within latest restamps m le = rw (most_is latest m) (mul-le (length latest + 1) m (restamps + 1) m (omega arith) (omega arith))

-- the room of a packet at the limits
pub hop_room_most : (restamps nodes : ℕ) → restamps ≤ MAX_RESTAMPS → nodes ≤ MAX_NODES → hop_room restamps nodes ≤ hop_room MAX_RESTAMPS MAX_NODES
hop_room_most restamps nodes few_restamps few_nodes =
    let le = mul-le (restamps + 1) (nodes - 1) (MAX_RESTAMPS + 1) (MAX_NODES - 1) (omega arith) (omega arith) in omega (arith, le)

module _ (o : Setting) (plans : List Plan) (is_plan : (k : ℕ) → IsPlanFor o (slice_index_or plans k o.first)) where
  pub stretch_away : (g : Record) → IsStretch o plans g → (x : ℕ) (h : Hop) → next_hop (plan_of o plans g.epoch) x g.dest ≡ Some h → x ≢ g.dest
  stretch_away g k x h e =
      let plan = is_plan (g.epoch - 1) in
      let d = k.dest_in in
      let n = plan.nodes in
      next_hop-away (plan_of o plans g.epoch) plan.plan x g.dest (omega arith) h e

  -- a segment has no more hops than there are nodes
  pub stretch_short : (g : Record) → IsStretch o plans g → length g.hops ≤ nodes_of o
  stretch_short g k =
      let t = plan_of o plans g.epoch in
      let plan = is_plan (g.epoch - 1) in
      let n = plan.nodes in
      let s_in = k.source_in in
      let d_in = k.dest_in in
      let w = plan.plan.walks g.source g.dest (omega arith) (omega arith) in
      let walk = walk_of t g.source g.dest w.0 w.1 in
      let p = prefix t g.dest g.hops w.0 g.source k.begins walk.begins k.follows walk.steps in
      let lengths = ap length p.1 in
      omega (arith, w.2, length-append g.hops p.0, lengths)

  stretch_gone : (b : Bool) (u : ℕ) (fate : Fate) (g : Record) → IsStretch o plans g → slice_get (gone b u fate g).hops 0 ≡ Some g.source → IsBeginning (plan_of o plans g.epoch) g.dest (gone b u fate g).hops →
      IsStretch o plans (gone b u fate g)
  stretch_gone b u fate g k begins follows =
      record { source_in = k.source_in; dest_in = k.dest_in; epoch_above = k.epoch_above; epoch_in = k.epoch_in; begins = begins; follows = follows }

  pub present_stretch : (r : Record) → IsRoutedRecord o plans r → IsStretch o plans (present r)
  present_stretch r k = of_present (IsStretch o plans) (reverse r.restamps) r k.each

  -- one more hop or none, which the table allows
  pub routed_gone : (r : Record) (b : Bool) (u : ℕ) (fate : Fate) → IsRoutedRecord o plans r → slice_get (gone b u fate (present r)).hops 0 ≡ Some (present r).source →
      IsBeginning (plan_of o plans (stamp_of r)) r.dest (gone b u fate (present r)).hops → IsRoutedRecord o plans (gone b u fate r)
  routed_gone r b u fate k begins follows =
      let latest = reverse r.restamps in
      let now = segments_gone latest b u fate r k.places in
      let was = segments_split latest r in
      record {
        few = k.few;
        places = places_more latest (length r.hops) _ (longer b u r.hops) k.places;
        rising = subst AreRising (sym now) (rising_same (present r) (gone b u fate (present r)) (past_in latest r) refl (subst AreRising was k.rising));
        each = subst (AllByRecursion (IsStretch o plans)) (sym now) (stretch_gone b u fate (present r) (present_stretch r k) begins follows, (subst (AllByRecursion (IsStretch o plans)) was k.each).1);
        room = k.room;
      }

  -- an Act without a restamp
  pub acted_packet : (full : Hop → Bool) (u : ℕ) (way : Way) (v : Verdict) (r : Record) → IsRoutedRecord o plans r → IsDue (plan_of o plans (stamp_of r)) (present r) u way →
      Means (plan_of o plans (stamp_of r)) full u way r.dest v → IsPacket o plans (acted u way v r) (place_after v)
  acted_packet full u way v r k due means =
      let t = plan_of o plans (stamp_of r) in
      let st = present_stretch r k in
      let f = acted_fits t full u way v (present r) (stretch_away (present r) st) means due st.begins st.follows in
      record {
        routed = routed_gone r (is_hop way v) u (fate_of v) k f.0 f.1;
        fits = subst (λ (g : Record). FitsPlace t g (place_after v)) (sym (present_gone (reverse r.restamps) (is_hop way v) u (fate_of v) r k.places)) f.2;
        is_new = no_new_link (acted u way v r) v;
      }

  -- the segment that a restamp ends
  pub retired_here : (u : ℕ) (way : Way) (r : Record) → IsRoutedRecord o plans r → IsDue (plan_of o plans (stamp_of r)) (present r) u way → IsNew r (InHand u way) →
      IsRoutedRecord o plans (record r { hops = front_of way r.hops ++ u ∷ []; fate = Retired })
  retired_here u Inbox r k due new =
      let st = present_stretch r k in
      subst (λ (hops : List ℕ). IsRoutedRecord o plans (record r { hops = hops; fate = Retired })) (new_hops r u new due.0) (routed_gone r false u Retired k st.begins st.follows)
  retired_here u (Link l) r k due new =
      let t = plan_of o plans (stamp_of r) in
      let st = present_stretch r k in
      let more = IsBeginning-push t r.dest (present r).hops u st.follows (stretch_away (present r) st (last_of (present r).hops) due.0 due.1) (due.0, due.1, due.3) in
      routed_gone r true u Retired k (first-push (present r).hops (present r).source u st.begins) more

  -- a restamp
  pub stamped_routed : (u e : ℕ) (way : Way) (r : Record) → u < nodes_of o → IsRoutedRecord o plans r → IsDue (plan_of o plans (stamp_of r)) (present r) u way → IsNew r (InHand u way) →
      stamp_of r < e → e ≤ length plans → length r.restamps < o.restamps → IsRoutedRecord o plans (stamped u (front_of way r.hops) (record { epoch = e; from = length (front_of way r.hops) }) r)
  stamped_routed u e way r u_in k due new above e_in left =
      let front = front_of way r.hops in
      let s : Restamp = record { epoch = e; from = length (front_of way r.hops) } in
      let ended = retired_here u way r k due new in
      let all = segments_stamped u e (front_of way r.hops) r in
      let st = present_stretch r k in
      let here : IsStretch o plans (begun u e r) = record { source_in = u_in; dest_in = st.dest_in; epoch_above = omega arith; epoch_in = e_in; begins = refl; follows = tt } in
      record {
        few = rw length_push (omega arith);
        places = subst (λ (l : List Restamp). ArePlaces (length (front_of way r.hops ++ u ∷ [])) l) (sym (reverse_push r.restamps s)) (rw length_push (omega arith), places_front way u r new k.places);
        rising = subst AreRising (sym all) (rising_begun u e r (reverse r.restamps) (record r { hops = front_of way r.hops ++ u ∷ []; fate = Retired }) above ended.rising);
        each = subst (AllByRecursion (IsStretch o plans)) (sym all) (here, ended.each);
        room = k.room;
      }

  -- an Act
  pub ruled_packet : (full : Hop → Bool) (u : ℕ) (way : Way) (restamp : Option ℕ) (v : Verdict) (r : Record) → u < nodes_of o → IsPacket o plans r (InHand u way) → RuledBy o plans full r u way restamp v →
      IsPacket o plans (ruled u way restamp v r) (place_after v)
  ruled_packet full u way None v r u_in p by = acted_packet full u way v r p.routed p.fits.1 by
  ruled_packet full u way (Some e) v r u_in p by =
      let front = front_of way r.hops in
      let x = stamped u (front_of way r.hops) (record { epoch = e; from = length (front_of way r.hops) }) r in
      let k = stamped_routed u e way r u_in p.routed p.fits.1 p.is_new by.0 by.1 by.2 in
      let g = present_stamped u e (front_of way r.hops) r in
      let same = restamped_is u e way r (here_is (plan_of o plans (stamp_of r)) u way r p.fits.1 p.is_new) in
      subst (λ (y : Record). IsPacket o plans (acted u Inbox v y) (place_after v)) (sym same)
      (acted_packet full u Inbox v x k (ap (λ (y : Record). y.hops) g, ap (λ (y : Record). y.source) g)
      (subst (λ (n : ℕ). Means (plan_of o plans n) full u Inbox r.dest v) (sym (stamp_stamped u e (front_of way r.hops) r)) by.3))

  -- after a restamp the present segment is of the new epoch, and one hop
  pub ruled_begun : (u : ℕ) (way : Way) (e : ℕ) (v : Verdict) (r : Record) → IsPacket o plans r (InHand u way) →
      (stamp_of (ruled u way (Some e) v r) ≡ e) × ((present (ruled u way (Some e) v r)).hops ≡ u ∷ [])
  ruled_begun u way e v r p =
      let same = restamped_is u e way r (here_is (plan_of o plans (stamp_of r)) u way r p.fits.1 p.is_new) in (
        ap (λ (y : Record). stamp_of (acted u Inbox v y)) same ∙ stamp_stamped u e (front_of way r.hops) r,
        ap (λ (y : Record). (present (acted u Inbox v y)).hops) same ∙ ap (λ (y : Record). y.hops) (present_stamped u e (front_of way r.hops) r),
      )

  few_hops : (latest : List Restamp) (r : Record) (m : ℕ) → nodes_of o ≡ m + 1 → ArePlaces (length r.hops) latest → AllByRecursion (IsStretch o plans) (segments_in latest r) → length r.hops ≤ most latest m + 1
  few_hops [] r m n places each = let s = stretch_short (present_in [] r) each.0 in omega arith
  few_hops (s ∷ older) r m n places each =
      let lt = places.0 in
      let short = stretch_short (present_in (s ∷ older) r) each.0 in
      let here = length-drop s.from r.hops in
      let there = length-take-le (s.from + 1) r.hops (omega arith) in
      let below = few_hops older (until s r) m n (rw there (places_more older s.from (s.from + 1) (omega arith) places.1)) each.1 in
      omega arith

  -- all hops of a packet have room
  pub hops_fit : (r : Record) → 0 < nodes_of o → IsRoutedRecord o plans r → length r.hops ≤ hop_room o.restamps (nodes_of o)
  hops_fit r some k =
      let n : nodes_of o ≡ (nodes_of o - 1) + 1 = omega arith in
      let reversed = length-reverse r.restamps in
      let all = few_hops (reverse r.restamps) r (nodes_of o - 1) n k.places k.each in
      let bound = most_within (reverse r.restamps) o.restamps (nodes_of o - 1) (omega (arith, k.few)) in
      omega (arith, all, bound)
