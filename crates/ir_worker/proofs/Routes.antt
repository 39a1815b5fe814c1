-- The segments of a parcel, each with its stamp, when it goes on or is restamped.
use Rattle.std.proofs.Common.{◌≡◌, ◌≢◌, ℕ, ◌+◌, ◌-◌, ◌<◌, ◌≤◌, List, [], ◌∷◌, ◌++◌, length, slice_get, Some, refl, sym, ap, ◌∙◌, subst, arith, true, false, Bool, inl}
use Rattle.std.specs.Prelude.{reverse}
use Rattle.std.proofs.lemmas.List.{length-append, length_push, length-drop, length-take-le, length-reverse, reverse-append}
use Rattle.std.proofs.Math.Logic.{∥∥₁_elim}
use Rattle.std.proofs.Math.Bridge.{le_prop}
use Rattle.ir_model.specs.Topology.{node_count}
use Rattle.ir_model.specs.Plan.{label_in, IsPlan}
use Rattle.ir_core.specs.declared.TheConstants.{MAX_RESTAMPS}
use Rattle.ir_core.specs.declared.event.Way.{Way}
use Rattle.ir_core.specs.declared.event.Way.TheVariants.{Inbox, Link}
use Rattle.ir_core.specs.declared.packet.Fate.{Fate}
use Rattle.ir_core.specs.declared.packet.Fate.TheVariants.{Retired}
use Rattle.ir_core.specs.declared.packet.Restamp.{Restamp}
use Rattle.ir_core.specs.Record.{Record, hop_room, segments, segments_in, present, present_in, stamp_of, until}
use Rattle.ir_core.specs.Recorded.{HasRoomHere}
use Rattle.ir_core.specs.Entry.{restamped}
use Rattle.ir_core.specs.Sound.{AreRising, ArePlaces, last_of}
use Rattle.ir_core.specs.World.{IsBeginning, IsDue, IsNew, InHand}
use Rattle.ir_core.proofs.Walks.{IsBeginning-push, first-push, next_hop-away, walk_of, prefix}
use Rattle.ir_core.proofs.Segments.{gone, past_in, present_gone, segments_gone, segments_split, places_more, longer, rising_same, rising_begun, last_drop, reverse_push, stamped, begun, present_stamped, segments_stamped}
use Rattle.ir_core.proofs.Routed.{front_of, new_hops, here_is, places_front, restamped_is, most, most_within}
use Rattle.ir_epochs.specs.declared.registry.Stamp.{Stamp}
use Rattle.ir_epochs.specs.Stamps.{knows}
use Rattle.ir_worker.specs.Seen.{Parcel, latest_stamp, stamps_of, present_stamp, EachBy, IsStretchBy, IsRoutedBy, AreOverNodes, IsParcelKept}

-- the stamps before the present one
abbrev pub earlier_in : List Stamp → Stamp → List Stamp
earlier_in [] first = []
earlier_in (s ∷ older) first = older ++ first ∷ []

stamps_split : (latest : List Stamp) (first : Stamp) → latest ++ first ∷ [] ≡ latest_stamp latest first ∷ earlier_in latest first
stamps_split [] first = refl
stamps_split (s ∷ older) first = refl

pub split_of : (first : Stamp) (later : List Stamp) → stamps_of first later ≡ present_stamp first later ∷ earlier_in (reverse later) first
split_of first later = stamps_split (reverse later) first

pub stamps_push : (first : Stamp) (later : List Stamp) (s : Stamp) → stamps_of first (later ++ s ∷ []) ≡ s ∷ stamps_of first later
stamps_push first later s = ap (λ (l : List Stamp). l ++ first ∷ []) (reverse-append later (s ∷ []))

pub present_push : (first : Stamp) (later : List Stamp) (s : Stamp) → present_stamp first (later ++ s ∷ []) ≡ s
present_push first later s = ap (λ (l : List Stamp). latest_stamp l first) (reverse-append later (s ∷ []))

-- the present segment with its stamp, and the earlier ones with theirs
pub each_split : (P : Stamp → Record → Type 0) (stamps ss : List Stamp) (s : Stamp) → stamps ≡ s ∷ ss → (gs rest : List Record) (g : Record) → gs ≡ g ∷ rest → EachBy P stamps gs → P s g × EachBy P ss rest
each_split P stamps ss s e gs rest g f k = subst (λ (x : List Record). EachBy P (s ∷ ss) x) f (subst (λ (x : List Stamp). EachBy P x gs) e k)

pub each_join : (P : Stamp → Record → Type 0) (stamps ss : List Stamp) (s : Stamp) → stamps ≡ s ∷ ss → (gs rest : List Record) (g : Record) → gs ≡ g ∷ rest → P s g → EachBy P ss rest → EachBy P stamps gs
each_join P stamps ss s e gs rest g f here k =
    let both : EachBy P (s ∷ ss) (g ∷ rest) = (here, k) in
    subst (λ (x : List Stamp). EachBy P x gs) (sym e) (subst (λ (x : List Record). EachBy P (s ∷ ss) x) (sym f) both)

pub split_routed : (first : Stamp) (later : List Stamp) (r : Record) → IsRoutedBy (stamps_of first later) r →
    IsStretchBy (present_stamp first later) (present r) × EachBy IsStretchBy (earlier_in (reverse later) first) (past_in (reverse r.restamps) r)
split_routed first later r k =
    each_split IsStretchBy (stamps_of first later) (earlier_in (reverse later) first) (present_stamp first later) (split_of first later)
    (segments r) (past_in (reverse r.restamps) r) (present r) (segments_split (reverse r.restamps) r) k.each

-- the last hop is that of the present segment
last_in : (latest : List Restamp) (r : Record) → ArePlaces (length r.hops) latest → last_of (present_in latest r).hops ≡ last_of r.hops
last_in [] r k = refl
last_in (s ∷ older) r k = last_drop s.from r.hops k.0

pub last_present : (stamps : List Stamp) (r : Record) → IsRoutedBy stamps r → last_of (present r).hops ≡ last_of r.hops
last_present stamps r k = last_in (reverse r.restamps) r k.places

-- one more hop or none, which the table of the present stamp allows, and another fate
pub routed_gone : (first : Stamp) (later : List Stamp) (r : Record) (b : Bool) (u : ℕ) (fate : Fate) → IsRoutedBy (stamps_of first later) r → slice_get (gone b u fate (present r)).hops 0 ≡ Some (present r).source →
    IsBeginning (knows (present_stamp first later)) r.dest (gone b u fate (present r)).hops → IsRoutedBy (stamps_of first later) (gone b u fate r)
routed_gone first later r b u fate k begins follows =
    let latest = reverse r.restamps in
    let now = segments_gone latest b u fate r k.places in
    let was = segments_split latest r in
    let each = split_routed first later r k in
    let st = each.0 in
    let here : IsStretchBy (present_stamp first later) (gone b u fate (present r)) =
    record { epoch = st.epoch; source_in = st.source_in; dest_in = st.dest_in; few = st.few; begins = begins; follows = follows } in
    record {
      few = k.few;
      places = places_more latest (length r.hops) _ (longer b u r.hops) k.places;
      rising = subst AreRising (sym now) (rising_same (present r) (gone b u fate (present r)) (past_in latest r) refl (subst AreRising was k.rising));
      each = each_join IsStretchBy (stamps_of first later) (earlier_in (reverse later) first) (present_stamp first later) (split_of first later)
          (segments (gone b u fate r)) (past_in latest r) (gone b u fate (present r)) now here each.1;
    }

pub gone_present : (stamps : List Stamp) (r : Record) (b : Bool) (u : ℕ) (fate : Fate) → IsRoutedBy stamps r → present (gone b u fate r) ≡ gone b u fate (present r)
gone_present stamps r b u fate k = present_gone (reverse r.restamps) b u fate r k.places

-- the segment that a restamp ends
retired_here : (first : Stamp) (later : List Stamp) (u : ℕ) (way : Way) (r : Record) → ∥ IsPlan (knows (present_stamp first later)) ∥₁ → IsRoutedBy (stamps_of first later) r → IsDue (knows (present_stamp first later)) (present r) u way → IsNew r (InHand u way) →
    IsRoutedBy (stamps_of first later) (record r { hops = front_of way r.hops ++ u ∷ []; fate = Retired })
retired_here first later u Inbox r is k due new =
    let st = (split_routed first later r k).0 in
    subst (λ (hops : List ℕ). IsRoutedBy (stamps_of first later) (record r { hops = hops; fate = Retired })) (new_hops r u new due.0) (routed_gone first later r false u Retired k st.begins st.follows)
retired_here first later u (Link l) r is k due new =
    let t = knows (present_stamp first later) in
    let st = (split_routed first later r k).0 in
    let away : last_of (present r).hops ≢ r.dest = λ e. ∥∥₁_elim is (λ x y. absurd x) (λ w. next_hop-away t w (last_of (present r).hops) r.dest st.dest_in due.0 due.1 e) in
    let more = IsBeginning-push t r.dest (present r).hops u st.follows away (due.0, due.1, due.3) in
    routed_gone first later r true u Retired k (first-push (present r).hops (present r).source u st.begins) more

-- a restamp
module _ (first : Stamp) (later : List Stamp) (s : Stamp) (u : ℕ) (way : Way) (r : Record) (is : ∥ IsPlan (knows (present_stamp first later)) ∥₁) (k : IsRoutedBy (stamps_of first later) r)
    (u_in : u < node_count (knows s).topology) (nodes : node_count (knows s).topology ≡ node_count (knows (present_stamp first later)).topology)
    (due : IsDue (knows (present_stamp first later)) (present r) u way) (new : IsNew r (InHand u way)) (above : stamp_of r < s.epoch) (left : length r.restamps < MAX_RESTAMPS) where
  same : restamped u way s.epoch r ≡ stamped u (front_of way r.hops) (record { epoch = s.epoch; from = length (front_of way r.hops) }) r
  same = restamped_is u s.epoch way r (here_is (knows (present_stamp first later)) u way r due new)

  stamped_routed : IsRoutedBy (stamps_of first (later ++ s ∷ [])) (stamped u (front_of way r.hops) (record { epoch = s.epoch; from = length (front_of way r.hops) }) r)
  stamped_routed =
      let ended = retired_here first later u way r is k due new in
      let all = segments_stamped u s.epoch (front_of way r.hops) r in
      let st = (split_routed first later r k).0 in
      let d_in = st.dest_in in
      let few_nodes = st.few in
      let here : IsStretchBy s (begun u s.epoch r) = record { epoch = refl; source_in = u_in; dest_in = omega arith; few = omega arith; begins = refl; follows = tt } in
      record {
        few = rw length_push (omega arith);
        places = subst (λ (l : List Restamp). ArePlaces (length (front_of way r.hops ++ u ∷ [])) l) (sym (reverse_push r.restamps (record { epoch = s.epoch; from = length (front_of way r.hops) }))) (rw length_push (omega arith), places_front way u r new k.places);
        rising = subst AreRising (sym all) (rising_begun u s.epoch r (reverse r.restamps) (record r { hops = front_of way r.hops ++ u ∷ []; fate = Retired }) above ended.rising);
        each = each_join IsStretchBy (stamps_of first (later ++ s ∷ [])) (stamps_of first later) s (stamps_push first later s)
            (segments (stamped u (front_of way r.hops) (record { epoch = s.epoch; from = length (front_of way r.hops) }) r)) (segments (record r { hops = front_of way r.hops ++ u ∷ []; fate = Retired })) (begun u s.epoch r) all here ended.each;
      }

  pub restamp_routed : IsRoutedBy (stamps_of first (later ++ s ∷ [])) (restamped u way s.epoch r)
  restamp_routed = subst (λ (x : Record). IsRoutedBy (stamps_of first (later ++ s ∷ [])) x) (sym same) stamped_routed

  -- the new segment is this node alone
  pub restamp_present : present (restamped u way s.epoch r) ≡ begun u s.epoch r
  restamp_present = ap present same ∙ present_stamped u s.epoch (front_of way r.hops) r

-- a segment has no more hops than there are nodes
stretch_short : (s : Stamp) (g : Record) → IsStretchBy s g → length g.hops ≤ node_count (knows s).topology
stretch_short s g k = ∥∥₁_elim s.sound le_prop (λ is.
    let w = is.walks g.source g.dest k.source_in k.dest_in in
    let walk = walk_of (knows s) g.source g.dest w.0 w.1 in
    let p = prefix (knows s) g.dest g.hops w.0 g.source k.begins walk.begins k.follows walk.steps in
    let lengths = ap length p.1 in
    omega (arith, w.2, length-append g.hops p.0, lengths))

few_hops : (nodes : ℕ) (latest : List Restamp) (r : Record) (stamps : List Stamp) → ArePlaces (length r.hops) latest → EachBy IsStretchBy stamps (segments_in latest r) → AreOverNodes nodes stamps → length r.hops ≤ most latest (nodes - 1) + 1
few_hops nodes [] r [] places each over = absurd each
few_hops nodes [] r (s ∷ ss) places each over = let short = stretch_short s (present_in [] r) each.0 in omega (arith, over.0, short)
few_hops nodes (x ∷ older) r [] places each over = absurd each
few_hops nodes (x ∷ older) r (s ∷ ss) places each over =
    let lt = places.0 in
    let short = stretch_short s (present_in (x ∷ older) r) each.0 in
    let here = length-drop x.from r.hops in
    let there = length-take-le (x.from + 1) r.hops (omega arith) in
    let below = few_hops nodes older (until x r) ss (rw there (places_more older x.from (x.from + 1) (omega arith) places.1)) each.1 over.1 in
    omega (arith, over.0, lt, short, here, there, below)

-- a parcel that came by a link has room for one more hop
pub room : (first : Stamp) (later : List Stamp) (r : Record) (next address u : ℕ) (way : Way) → IsParcelKept first later r next address → IsDue (knows (present_stamp first later)) (present r) u way → HasRoomHere way r
room first later r next address u Inbox k due = tt
room first later r next address u (Link l) k due =
    let nodes = node_count (knows first).topology in
    let more = retired_here first later u (Link l) r (present_stamp first later).sound k.routed due tt in
    let all = few_hops nodes (reverse r.restamps) (record r { hops = r.hops ++ u ∷ []; fate = Retired }) (stamps_of first later) more.places more.each k.nodes in
    let bound = most_within (reverse r.restamps) (length r.restamps) (nodes - 1) (omega (arith, length-reverse r.restamps)) in
    omega (arith, all, bound, length_push r.hops u, k.room)

-- a restamped parcel is kept
abbrev pub IsRestampable : Stamp → ℕ → Way → Parcel → Type 0
IsRestampable s u way p =
    (node_count (knows s).topology ≡ node_count (knows (present_stamp p.first p.later)).topology) × IsDue (knows (present_stamp p.first p.later)) (present p.packet) u way
    × IsNew p.packet (InHand u way) × (stamp_of p.packet < s.epoch) × (length p.packet.restamps < MAX_RESTAMPS)
    × (hop_room (length p.packet.restamps + 1) (node_count (knows s).topology) ≤ p.packet.room)

pub restamp_kept : (first : Stamp) (later : List Stamp) (s : Stamp) (u : ℕ) (way : Way) (r : Record) (next address : ℕ) → IsParcelKept first later r next address → u < node_count (knows s).topology →
    (p : Parcel) → (let seen : Parcel = record { packet = r; first = first; later = later; next = next } in seen) ≡ p → IsRestampable s u way p →
    (address' : ℕ) → address' ≡ label_in (knows s) r.dest → (later' : List Stamp) → later' ≡ later ++ s ∷ [] → (r' : Record) → r' ≡ restamped u way s.epoch r → IsParcelKept first later' r' u address'
restamp_kept first later s u way r next address k u_in p view may address' label later' grown r' made =
    let ok : IsRestampable s u way (record { packet = r; first = first; later = later; next = next }) = subst (λ (x : Parcel). IsRestampable s u way x) (sym view) may in
    let is = (present_stamp first later).sound in
    let routed = restamp_routed first later s u way r is k.routed u_in ok.0 ok.1 ok.2 ok.3 ok.4 in
    let before = subst (AreOverNodes (node_count (knows first).topology)) (split_of first later) k.nodes in
    let over : node_count (knows s).topology ≡ node_count (knows first).topology = ok.0 ∙ before.0 in
    let now = restamp_present first later s u way r is k.routed u_in ok.0 ok.1 ok.2 ok.3 ok.4 in
    let same = present_push first later s in
    let whole : IsParcelKept first (later ++ s ∷ []) (restamped u way s.epoch r) u address' = record {
      routed = routed;
      first_epoch = k.first_epoch;
      labelled = label ∙ ap (λ (x : Stamp). label_in (knows x) r.dest) (sym same);
      goes = inl (ap (λ (g : Record). g.hops) now ∙ ap (λ (x : ℕ). x ∷ []) (sym (ap (λ (g : Record). g.source) now)), sym (ap (λ (g : Record). g.source) now));
      left = k.left;
      nodes = subst (AreOverNodes (node_count (knows first).topology)) (sym (stamps_push first later s)) (over, k.nodes);
      room = rw length_push (subst (λ (n : ℕ). hop_room (length r.restamps + 1) n ≤ r.room) over ok.5);
    } in
    subst (λ (l : List Stamp). IsParcelKept first l r' u address') (sym grown) (subst (λ (x : Record). IsParcelKept first (later ++ s ∷ []) x u address') (sym made) whole)
