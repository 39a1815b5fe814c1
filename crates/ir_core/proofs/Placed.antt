use Rattle.std.proofs.Common.{◌≡◌, ◌≢◌, ℕ, suc, ◌<◌, ◌≤◌, zero, List, [], ◌∷◌, ◌++◌, length, drop, slice_get, slice_index_or, slice_set, Option, Some, None, refl, sym, ap, ◌∙◌, subst, arith, Bool, ◌==◌, cond, ◌⊎◌, inl, inr}
use Rattle.std.proofs.lemmas.Grind.{common_steps}
use Rattle.std.proofs.lemmas.Option.{same_Some, none-some, slice_get_within}
use Rattle.std.proofs.lemmas.Bool.{cases_eq}
use Rattle.std.proofs.lemmas.List.{length-set, get_or-set_same}
use Rattle.ir_model.specs.declared.Hop.{Hop}
use Rattle.ir_model.specs.Plan.{Plan, next_hop}
use Rattle.ir_core.specs.declared.event.Way.{Way}
use Rattle.ir_core.specs.declared.event.Way.TheVariants.{Inbox, Link}
use Rattle.ir_core.specs.declared.event.Verdict.{Verdict}
use Rattle.ir_core.specs.declared.event.Verdict.TheVariants.{CameByDown, BelowFloor, Arrives, LeavesByDown, NoRoom, GoesOn}
use Rattle.ir_core.specs.Record.{Record, hop_room}
use Rattle.ir_core.specs.declared.packet.Held.{Held}
use Rattle.ir_core.specs.Setting.{Setting, channel_of, nodes_of}
use Rattle.ir_core.specs.Entry.{acted, fresh}
use Rattle.ir_core.specs.Sound.{LeadsOn, last_of}
use Rattle.ir_core.specs.World.{IsBeginning, IsPacket, IsNew, IsDue, FitsPlace, Place, Waits, InHand, Ended, ArePlaced}
use Rattle.ir_core.proofs.Walks.{IsBeginning-push, last_of-push, first-push}
use Rattle.ir_core.proofs.Verdicts.{Means}
use Rattle.ir_core.proofs.Channels.{same_way}
use Rattle.ir_core.proofs.Lists.{get_set, get_push, get_push_here, get_push_before, get_drop_one, or_set}

-- where a packet is after an Act
abbrev pub place_after : Verdict → Place
place_after (GoesOn h) = Waits h.node (Link h.link)
place_after (CameByDown l) = Ended
place_after BelowFloor = Ended
place_after Arrives = Ended
place_after (LeavesByDown l) = Ended
place_after (NoRoom h) = Ended

abbrev leads : (t : Plan) (r : Record) (u : ℕ) (h : Hop) → last_of r.hops ≡ u → next_hop t u r.dest ≡ Some h → LeadsOn t r h.link h.node
leads t r u h e n = (h, ap (λ (k : ℕ). next_hop t k r.dest) e ∙ n, refl, refl)

-- what an Act leaves in a record fits the packet's new place
pub acted_fits : (t : Plan) (full : Hop → Bool) (u : ℕ) (way : Way) (v : Verdict) (r : Record) → ((x : ℕ) (h : Hop) → next_hop t x r.dest ≡ Some h → x ≢ r.dest) →
    Means t full u way r.dest v → IsDue t r u way →
    slice_get r.hops 0 ≡ Some r.source → IsBeginning t r.dest r.hops →
    (slice_get (acted u way v r).hops 0 ≡ Some r.source) × IsBeginning t r.dest (acted u way v r).hops × FitsPlace t (acted u way v r) (place_after v)
acted_fits t full u Inbox (CameByDown l) r away m due first from = absurd (not_a_link m)
  where
    not_a_link : {l : ℕ} → Inbox ≡ Link l → ⊥
    not_a_link e = cc
acted_fits t full u Inbox BelowFloor r away m due first from = (first, from, ((λ e. cc), tt))
acted_fits t full u Inbox Arrives r away m due first from = (first, from, ((λ e. cc), ap last_of due.0 ∙ m))
acted_fits t full u Inbox (LeavesByDown l) r away m due first from =
    let on = leads t r u m.0 (ap last_of due.0) m.1 in
    (first, from, ((λ e. cc), (m.0.node, (m.0, on.1, m.2, refl))))
acted_fits t full u Inbox (NoRoom h) r away m due first from = (first, from, ((λ e. cc), leads t r u h (ap last_of due.0) m))
acted_fits t full u Inbox (GoesOn h) r away m due first from = (first, from, (refl, leads t r u h (ap last_of due.0) m.0))
acted_fits t full u (Link k) (CameByDown l) r away m due first from =
    let same : k ≡ l = cc in
    (first, from, ((λ e. cc), (u, (due.0, due.1, due.2 ∙ same, due.3))))
acted_fits t full u (Link k) BelowFloor r away m due first from = (first, from, ((λ e. cc), tt))
acted_fits t full u (Link k) Arrives r away m due first from =
    (first-push r.hops r.source u first, IsBeginning-push t r.dest r.hops u from (away _ due.0 due.1) (due.0, due.1, due.3), ((λ e. cc), last_of-push r.hops u ∙ m))
acted_fits t full u (Link k) (LeavesByDown l) r away m due first from =
    let on = leads t (acted u (Link k) (LeavesByDown l) r) u m.0 (last_of-push r.hops u) m.1 in
    (first-push r.hops r.source u first, IsBeginning-push t r.dest r.hops u from (away _ due.0 due.1) (due.0, due.1, due.3), ((λ e. cc), (m.0.node, (m.0, on.1, m.2, refl))))
acted_fits t full u (Link k) (NoRoom h) r away m due first from =
    (first-push r.hops r.source u first, IsBeginning-push t r.dest r.hops u from (away _ due.0 due.1) (due.0, due.1, due.3), ((λ e. cc), leads t (acted u (Link k) (NoRoom h) r) u h (last_of-push r.hops u) m))
acted_fits t full u (Link k) (GoesOn h) r away m due first from =
    (first-push r.hops r.source u first, IsBeginning-push t r.dest r.hops u from (away _ due.0 due.1) (due.0, due.1, due.3), (refl, leads t (acted u (Link k) (GoesOn h) r) u h (last_of-push r.hops u) m.0))

-- the places after one packet moved
abbrev pub moved : (ℕ → Place) → ℕ → Place → ℕ → Place
moved place id p i = cond (i == id) p (place i)

pub moved_same : (place : ℕ → Place) (id : ℕ) (p : Place) (i : ℕ) → i ≡ id → moved place id p i ≡ p
moved_same place id p i e = grind (arith, common_steps)

pub moved_other : (place : ℕ → Place) (id : ℕ) (p : Place) (i : ℕ) → i ≢ id → moved place id p i ≡ place i
moved_other place id p i e = grind (arith, common_steps)

-- the facts on one packet in a channel, of which these lemmas speak
abbrev pub IsWaiting : Setting → List Record → (ℕ → Place) → ℕ → ℕ → Type 0
IsWaiting o records place c id =
    (id < length records) × ((u : ℕ) × (way : Way) × (u < (nodes_of o)) × (place id ≡ Waits u way) × (channel_of o u way ≡ Some c))

still_waiting : (o : Setting) (records more : List Record) (place : ℕ → Place) (c id j : ℕ) (p : Place) → length records ≤ length more → j ≢ id → IsWaiting o records place c j → IsWaiting o more (moved place id p) c j
still_waiting o records more place c id j p le ne w =
    let lt = w.0 in
    (omega arith, (w.1.0, w.1.1, w.1.2, moved_other place id p j ne ∙ w.1.3, w.1.4))

placed_still : (o : Setting) (plans : List Plan) (r : Record) (place : ℕ → Place) (id j : ℕ) (p : Place) → j ≢ id → IsPacket o plans r (place j) → IsPacket o plans r (moved place id p j)
placed_still o plans r place id j p ne k = subst (λ (q : Place). IsPacket o plans r q) (sym (moved_other place id p j ne)) k

-- what a channel holds after a put
put_cases : (channels : List (List ℕ)) (c0 id c k j : ℕ) → c0 < length channels →
    slice_get (slice_index_or (slice_set channels c0 (slice_index_or channels c0 [] ++ id ∷ [])) c []) k ≡ Some j →
    ((c ≡ c0) × (k ≡ length (slice_index_or channels c0 [])) × (id ≡ j)) ⊎ (((c ≢ c0) ⊎ (k < length (slice_index_or channels c0 []))) × (slice_get (slice_index_or channels c []) k ≡ Some j))
put_cases channels c0 id c k j h e = chosen (or_set channels c0 c (old ++ id ∷ []) [] h)
  where
    old : List ℕ
    old = slice_index_or channels c0 []

    inner : (c ≡ c0) → ((k ≡ length old) × (id ≡ j)) ⊎ ((k < length old) × (slice_get old k ≡ Some j)) →
        ((c ≡ c0) × (k ≡ length old) × (id ≡ j)) ⊎ (((c ≢ c0) ⊎ (k < length old)) × (slice_get (slice_index_or channels c []) k ≡ Some j))
    inner s (inl q) = inl (s, q.0, q.1)
    inner s (inr q) = inr (inr q.0, ap (λ (x : ℕ). slice_get (slice_index_or channels x []) k) s ∙ q.1)

    chosen : ((c ≡ c0) × (slice_index_or (slice_set channels c0 (old ++ id ∷ [])) c [] ≡ old ++ id ∷ [])) ⊎ ((c ≢ c0) × (slice_index_or (slice_set channels c0 (old ++ id ∷ [])) c [] ≡ slice_index_or channels c [])) →
        ((c ≡ c0) × (k ≡ length old) × (id ≡ j)) ⊎ (((c ≢ c0) ⊎ (k < length old)) × (slice_get (slice_index_or channels c []) k ≡ Some j))
    chosen (inl p) = inner p.0 (get_push old k id j (ap (λ (l : List ℕ). slice_get l k) (sym p.1) ∙ e))
    chosen (inr p) = inr (inl p.0, ap (λ (l : List ℕ). slice_get l k) (sym p.1) ∙ e)

-- a packet that is in no channel is put into one
module _ (o : Setting) (channels : List (List ℕ)) (records : List Record) (place : ℕ → Place)
    (waits : (c k id : ℕ) → slice_get (slice_index_or channels c []) k ≡ Some id → IsWaiting o records place c id)
    (once : (c j k id : ℕ) → slice_get (slice_index_or channels c []) j ≡ Some id → slice_get (slice_index_or channels c []) k ≡ Some id → j ≡ k)
    (more : List Record) (longer : length records ≤ length more)
    (id c0 u0 : ℕ) (way0 : Way) (c0_in : c0 < length channels) (id_in : id < length more) (u0_in : u0 < (nodes_of o)) (there : channel_of o u0 way0 ≡ Some c0)
    (new : (c k : ℕ) → slice_get (slice_index_or channels c []) k ≡ Some id → ⊥) where
  pub put_waiting : (c k j : ℕ) → slice_get (slice_index_or (slice_set channels c0 (slice_index_or channels c0 [] ++ id ∷ [])) c []) k ≡ Some j → IsWaiting o more (moved place id (Waits u0 way0)) c j
  put_waiting c k j e = chosen (put_cases channels c0 id c k j c0_in e)
    where
      chosen : ((c ≡ c0) × (k ≡ length (slice_index_or channels c0 [])) × (id ≡ j)) ⊎ (((c ≢ c0) ⊎ (k < length (slice_index_or channels c0 []))) × (slice_get (slice_index_or channels c []) k ≡ Some j)) → IsWaiting o more (moved place id (Waits u0 way0)) c j
      chosen (inl p) =
          let same = p.2 in
          (omega arith, (u0, way0, u0_in, moved_same place id (Waits u0 way0) j (sym p.2), there ∙ ap (λ (x : ℕ). Some x) (sym p.0)))
      chosen (inr p) = still_waiting o records more place c id j (Waits u0 way0) longer (λ s. new c k (p.1 ∙ ap (λ (x : ℕ). Some x) s)) (waits c k j p.1)

  pub put_once : (c j k i : ℕ) →
      slice_get (slice_index_or (slice_set channels c0 (slice_index_or channels c0 [] ++ id ∷ [])) c []) j ≡ Some i →
      slice_get (slice_index_or (slice_set channels c0 (slice_index_or channels c0 [] ++ id ∷ [])) c []) k ≡ Some i → j ≡ k
  put_once c j k i e f = chosen (put_cases channels c0 id c j i c0_in e) (put_cases channels c0 id c k i c0_in f)
    where
      chosen :
          ((c ≡ c0) × (j ≡ length (slice_index_or channels c0 [])) × (id ≡ i)) ⊎ (((c ≢ c0) ⊎ (j < length (slice_index_or channels c0 []))) × (slice_get (slice_index_or channels c []) j ≡ Some i)) →
          ((c ≡ c0) × (k ≡ length (slice_index_or channels c0 [])) × (id ≡ i)) ⊎ (((c ≢ c0) ⊎ (k < length (slice_index_or channels c0 []))) × (slice_get (slice_index_or channels c []) k ≡ Some i)) → j ≡ k
      chosen (inl p) (inl q) = p.1 ∙ sym q.1
      chosen (inl p) (inr q) = absurd (new c k (q.1 ∙ ap (λ (x : ℕ). Some x) (sym p.2)))
      chosen (inr p) (inl q) = absurd (new c j (p.1 ∙ ap (λ (x : ℕ). Some x) (sym q.2)))
      chosen (inr p) (inr q) = once c j k i p.1 q.1

same_place : (u v : ℕ) (way other : Way) → Waits u way ≡ Waits v other → (u ≡ v) × (way ≡ other)
same_place u v way other e = (cc, cc)

-- a packet is in the channel of this way
abbrev pub Stands : Setting → List (List ℕ) → ℕ → ℕ → Way → Type 0
Stands o channels id u way = (c : ℕ) × (k : ℕ) × (channel_of o u way ≡ Some c) × (slice_get (slice_index_or channels c []) k ≡ Some id)

-- what was in a channel is there after a put
put_keeps : (channels : List (List ℕ)) (c0 id c k j : ℕ) → c0 < length channels → slice_get (slice_index_or channels c []) k ≡ Some j →
    slice_get (slice_index_or (slice_set channels c0 (slice_index_or channels c0 [] ++ id ∷ [])) c []) k ≡ Some j
put_keeps channels c0 id c k j c_in e = chosen (or_set channels c0 c (slice_index_or channels c0 [] ++ id ∷ []) [] c_in)
  where
    chosen : ((c ≡ c0) × (slice_index_or (slice_set channels c0 (slice_index_or channels c0 [] ++ id ∷ [])) c [] ≡ slice_index_or channels c0 [] ++ id ∷ [])) ⊎ ((c ≢ c0) × (slice_index_or (slice_set channels c0 (slice_index_or channels c0 [] ++ id ∷ [])) c [] ≡ slice_index_or channels c [])) →
        slice_get (slice_index_or (slice_set channels c0 (slice_index_or channels c0 [] ++ id ∷ [])) c []) k ≡ Some j
    chosen (inl p) =
        let was : slice_get (slice_index_or channels c0 []) k ≡ Some j = ap (λ (x : ℕ). slice_get (slice_index_or channels x []) k) (sym p.0) ∙ e in
        rw p.1 (get_push_before (slice_index_or channels c0 []) k id (slice_get_within (slice_index_or channels c0 []) k j was) ∙ was)
    chosen (inr p) = rw p.1 e

-- and so does what was put
put_here : (channels : List (List ℕ)) (c0 id : ℕ) → c0 < length channels →
    slice_get (slice_index_or (slice_set channels c0 (slice_index_or channels c0 [] ++ id ∷ [])) c0 []) (length (slice_index_or channels c0 [])) ≡ Some id
put_here channels c0 id c_in = rw (get_or-set_same channels c0 (slice_index_or channels c0 [] ++ id ∷ []) [] c_in) (get_push_here (slice_index_or channels c0 []) id)

put_stands : (o : Setting) (channels : List (List ℕ)) (place : ℕ → Place) → ((id u : ℕ) (way : Way) → place id ≡ Waits u way → Stands o channels id u way) →
    (id c0 u0 : ℕ) (way0 : Way) → c0 < length channels → channel_of o u0 way0 ≡ Some c0 →
    (j u : ℕ) (way : Way) → moved place id (Waits u0 way0) j ≡ Waits u way → Stands o (slice_set channels c0 (slice_index_or channels c0 [] ++ id ∷ [])) j u way
put_stands o channels place stands id c0 u0 way0 c_in there j u way e = chosen (cases_eq j id)
  where
    chosen : ((j ≡ id) ⊎ (j ≡ id → ⊥)) → Stands o (slice_set channels c0 (slice_index_or channels c0 [] ++ id ∷ [])) j u way
    chosen (inl s) =
        let same = same_place u0 u way0 way (sym (moved_same place id (Waits u0 way0) j s) ∙ e) in
        let number : channel_of o u way ≡ Some c0 = ap (λ (x : ℕ). channel_of o x way) (sym same.0) ∙ ap (λ (x : Way). channel_of o u0 x) (sym same.1) ∙ there in
        (c0, length (slice_index_or channels c0 []), number, put_here channels c0 id c_in ∙ ap (λ (x : ℕ). Some x) (sym s))
    chosen (inr ne) =
        let was = stands j u way (sym (moved_other place id (Waits u0 way0) j ne) ∙ e) in
        (was.0, was.1, was.2, put_keeps channels c0 id was.0 was.1 j c_in was.3)

waits_in_hand : (u v : ℕ) (way other : Way) → Waits u way ≡ InHand v other → ⊥
waits_in_hand u v way other e = cc

-- a new packet in its source's inbox
pub placed_inject : (o : Setting) (plans : List Plan) (hands : List (Option Held)) (channels : List (List ℕ)) (records : List Record) (place : ℕ → Place) (e source dest : ℕ) →
    ArePlaced o plans hands channels records place → source < (nodes_of o) → dest < (nodes_of o) → 0 < e → e ≤ length plans → source < length channels →
    ArePlaced o plans hands (slice_set channels source (slice_index_or channels source [] ++ length records ∷ [])) (records ++ fresh (length records) e source dest (hop_room o.restamps (nodes_of o)) ∷ []) (moved place (length records) (Waits source Inbox))
placed_inject o plans hands channels records place e source dest p s_in d_in e_above e_in c_in = record {
  each = λ i r eq. each_of i r (get_push records i new r eq);
  waiting = put_waiting o channels records place p.waiting p.once more longer id source source Inbox c_in id_in s_in refl not_there;
  once = put_once o channels records place p.waiting p.once more longer id source source Inbox c_in id_in s_in refl not_there;
  stands = put_stands o channels place p.stands id source source Inbox c_in refl;
  rests = λ j u way eq. p.rests j u way (sym (moved_other place id (Waits source Inbox) j (λ s. waits_in_hand source u Inbox way (sym (moved_same place id (Waits source Inbox) j s) ∙ eq))) ∙ eq);
  held = λ u h eq. let q = p.held u h eq in let lt = q.0 in let ne : h.id ≢ id = omega arith in (omega (arith, longer), moved_other place id (Waits source Inbox) h.id ne ∙ q.1);
}
  where
    id : ℕ
    id = length records

    new : Record
    new = fresh (length records) e source dest (hop_room o.restamps (nodes_of o))

    more : List Record
    more = records ++ fresh (length records) e source dest (hop_room o.restamps (nodes_of o)) ∷ []

    longer : length records ≤ length (records ++ fresh (length records) e source dest (hop_room o.restamps (nodes_of o)) ∷ [])
    longer = grind (arith, common_steps)

    id_in : length records < length (records ++ fresh (length records) e source dest (hop_room o.restamps (nodes_of o)) ∷ [])
    id_in = grind (arith, common_steps)

    not_there : (c k : ℕ) → slice_get (slice_index_or channels c []) k ≡ Some (length records) → ⊥
    not_there c k q = let lt = (p.waiting c k (length records) q).0 in omega arith

    each_of : (i : ℕ) (r : Record) → ((i ≡ length records) × (fresh (length records) e source dest (hop_room o.restamps (nodes_of o)) ≡ r)) ⊎ ((i < length records) × (slice_get records i ≡ Some r)) → IsPacket o plans r (moved place (length records) (Waits source Inbox) i)
    each_of i r (inl q) =
        let made : IsPacket o plans (fresh (length records) e source dest (hop_room o.restamps (nodes_of o))) (Waits source Inbox) = record {
          routed = record {
            few = omega arith;
            places = tt;
            rising = tt;
            each = (record { source_in = s_in; dest_in = d_in; epoch_above = e_above; epoch_in = e_in; begins = refl; follows = tt }, tt);
            room = refl;
          };
          fits = (refl, (refl, refl));
          is_new = refl;
        } in
        let here = subst (λ (x : Place). IsPacket o plans (fresh (length records) e source dest (hop_room o.restamps (nodes_of o))) x) (sym (moved_same place (length records) (Waits source Inbox) i q.0)) made in
        subst (λ (x : Record). IsPacket o plans x (moved place (length records) (Waits source Inbox) i)) q.1 here
    each_of i r (inr q) =
        let lt = q.0 in let ne : i ≢ length records = omega arith in
        placed_still o plans r place (length records) i (Waits source Inbox) ne (p.each i r q.1)

new_in_hand : (r : Record) (u : ℕ) (way : Way) → IsNew r (Waits u way) → IsNew r (InHand u way)
new_in_hand r u Inbox k = k
new_in_hand r u (Link l) k = tt

-- what a channel holds after its first packet was taken
abbrev WasBehind : List (List ℕ) → ℕ → ℕ → ℕ → ℕ → ℕ → Type 0
WasBehind channels c0 c k j was =
    (slice_get (slice_index_or channels c []) was ≡ Some j) × (((c ≡ c0) × (was ≡ suc k)) ⊎ ((c ≢ c0) × (was ≡ k)))

take_cases : (channels : List (List ℕ)) (c0 c k j : ℕ) → c0 < length channels →
    slice_get (slice_index_or (slice_set channels c0 (drop 1 (slice_index_or channels c0 []))) c []) k ≡ Some j → (was : ℕ) × WasBehind channels c0 c k j was
take_cases channels c0 c k j h e = chosen (or_set channels c0 c (drop 1 (slice_index_or channels c0 [])) [] h)
  where
    chosen : ((c ≡ c0) × (slice_index_or (slice_set channels c0 (drop 1 (slice_index_or channels c0 []))) c [] ≡ drop 1 (slice_index_or channels c0 []))) ⊎ ((c ≢ c0) × (slice_index_or (slice_set channels c0 (drop 1 (slice_index_or channels c0 []))) c [] ≡ slice_index_or channels c [])) →
        (was : ℕ) × WasBehind channels c0 c k j was
    chosen (inl p) =
        (suc k, (ap (λ (x : ℕ). slice_get (slice_index_or channels x []) (suc k)) p.0 ∙ sym (get_drop_one (slice_index_or channels c0 []) k) ∙ ap (λ (l : List ℕ). slice_get l k) (sym p.1) ∙ e, inl (p.0, refl)))
    chosen (inr p) = (k, (ap (λ (l : List ℕ). slice_get l k) (sym p.1) ∙ e, inr (p.0, refl)))

same_hand : (u v : ℕ) (way other : Way) → InHand u way ≡ InHand v other → (u ≡ v) × (way ≡ other)
same_hand u v way other e = (cc, cc)

-- the first packet of a channel is taken into a node's empty hand
pub placed_take : (o : Setting) (plans : List Plan) (hands : List (Option Held)) (channels : List (List ℕ)) (records : List Record) (place : ℕ → Place) (u : ℕ) (way : Way) (c0 id : ℕ) →
    ArePlaced o plans hands channels records place → u < (nodes_of o) → u < length hands → c0 < length channels → channel_of o u way ≡ Some c0 → slice_get (slice_index_or channels c0 []) 0 ≡ Some id → slice_index_or hands u None ≡ None →
    ArePlaced o plans (slice_set hands u (Some (record { id = id; way = way }))) (slice_set channels c0 (drop 1 (slice_index_or channels c0 []))) records (moved place id (InHand u way))
placed_take o plans hands channels records place u way c0 id p u_in h_in c_in there first empty = record {
  each = λ i r eq. each_of i r eq (cases_eq i id);
  waiting = λ c k j e. let q = take_cases channels c0 c k j c_in e in
      still_waiting o records records place c id j (InHand u way) (omega arith) (other c k j q.0 q.1) (p.waiting c q.0 j q.1.0);
  once = λ c j k i e f. let q = take_cases channels c0 c j i c_in e in let r = take_cases channels c0 c k i c_in f in
      let s = p.once c q.0 r.0 i q.1.0 r.1.0 in apart c j k q.0 r.0 s q.1.1 r.1.1;
  stands = λ j v other e. still_stands j v other e (cases_eq j id);
  rests = λ j v other e. rests_of j v other e (cases_eq j id);
  held = λ v h e. held_of v h (or_set hands u v (Some (record { id = id; way = way })) None h_in) e;
}
  where
    -- where the packet was
    here : place id ≡ Waits u way
    here =
        let w = p.waiting c0 0 id first in
        let s = same_way o w.1.0 u w.1.1 way c0 w.1.2 u_in w.1.4 there in
        w.1.3 ∙ ap (λ (x : ℕ). Waits x w.1.1) s.0 ∙ ap (λ (x : Way). Waits u x) s.1

    id_in : id < length records
    id_in = (p.waiting c0 0 id first).0

    behind : (j c k : ℕ) → j ≢ id → channel_of o u way ≡ Some c → slice_get (slice_index_or channels c0 []) k ≡ Some j → (m : ℕ) × (slice_get (drop 1 (slice_index_or channels c0 [])) m ≡ Some j)
    behind j c zero ne number e = absurd (ne (same_Some j id (sym e ∙ first)))
    behind j c (suc k) ne number e = (k, get_drop_one (slice_index_or channels c0 []) k ∙ e)

    still_stands : (j v : ℕ) (other : Way) → moved place id (InHand u way) j ≡ Waits v other → ((j ≡ id) ⊎ (j ≡ id → ⊥)) → Stands o (slice_set channels c0 (drop 1 (slice_index_or channels c0 []))) j v other
    still_stands j v other e (inl s) = absurd (waits_in_hand v u other way (sym e ∙ moved_same place id (InHand u way) j s))
    still_stands j v other e (inr ne) =
        let was = p.stands j v other (sym (moved_other place id (InHand u way) j ne) ∙ e) in
        by_channel was.0 was.1 was.2 was.3 (or_set channels c0 was.0 (drop 1 (slice_index_or channels c0 [])) [] c_in)
      where
        by_channel : (c k : ℕ) → channel_of o v other ≡ Some c → slice_get (slice_index_or channels c []) k ≡ Some j →
            ((c ≡ c0) × (slice_index_or (slice_set channels c0 (drop 1 (slice_index_or channels c0 []))) c [] ≡ drop 1 (slice_index_or channels c0 []))) ⊎ ((c ≢ c0) × (slice_index_or (slice_set channels c0 (drop 1 (slice_index_or channels c0 []))) c [] ≡ slice_index_or channels c [])) →
            Stands o (slice_set channels c0 (drop 1 (slice_index_or channels c0 []))) j v other
        by_channel c k number at (inl q) =
            let m = behind j c0 k ne there (ap (λ (x : ℕ). slice_get (slice_index_or channels x []) k) (sym q.0) ∙ at) in
            (c, m.0, number, rw q.1 m.1)
        by_channel c k number at (inr q) = (c, k, number, rw q.1 at)

    rests_of : (j v : ℕ) (other : Way) → moved place id (InHand u way) j ≡ InHand v other → ((j ≡ id) ⊎ (j ≡ id → ⊥)) →
        slice_index_or (slice_set hands u (Some (record { id = id; way = way }))) v None ≡ Some (record { id = j; way = other })
    rests_of j v other e (inl s) =
        let same = same_hand u v way other (sym (moved_same place id (InHand u way) j s) ∙ e) in
        let here : slice_index_or (slice_set hands u (Some (record { id = id; way = way }))) u None ≡ Some (record { id = id; way = way }) = get_or-set_same hands u (Some (record { id = id; way = way })) None h_in in
        ap (λ (x : ℕ). slice_index_or (slice_set hands u (Some (record { id = id; way = way }))) x None) (sym same.0) ∙ here ∙ ap (λ (x : ℕ). Some (record { id = x; way = way })) (sym s) ∙ ap (λ (x : Way). Some (record { id = j; way = x })) same.1
    rests_of j v other e (inr ne) =
        let was = p.rests j v other (sym (moved_other place id (InHand u way) j ne) ∙ e) in
        by_node was (or_set hands u v (Some (record { id = id; way = way })) None h_in)
      where
        by_node : slice_index_or hands v None ≡ Some (record { id = j; way = other }) →
            ((v ≡ u) × (slice_index_or (slice_set hands u (Some (record { id = id; way = way }))) v None ≡ Some (record { id = id; way = way }))) ⊎ ((v ≢ u) × (slice_index_or (slice_set hands u (Some (record { id = id; way = way }))) v None ≡ slice_index_or hands v None)) →
            slice_index_or (slice_set hands u (Some (record { id = id; way = way }))) v None ≡ Some (record { id = j; way = other })
        by_node was (inl q) = absurd (none-some (record { id = j; way = other }) (sym empty ∙ ap (λ (x : ℕ). slice_index_or hands x None) (sym q.0) ∙ was))
        by_node was (inr q) = q.1 ∙ was

    each_of : (i : ℕ) (r : Record) → slice_get records i ≡ Some r → ((i ≡ id) ⊎ (i ≡ id → ⊥)) → IsPacket o plans r (moved place id (InHand u way) i)
    each_of i r eq (inl s) =
        let was = p.each i r eq in
        let waited : IsPacket o plans r (Waits u way) = subst (λ (x : Place). IsPacket o plans r x) (ap place s ∙ here) was in
        let now : IsPacket o plans r (InHand u way) = record { routed = waited.routed; fits = waited.fits; is_new = new_in_hand r u way waited.is_new } in
        subst (λ (x : Place). IsPacket o plans r x) (sym (moved_same place id (InHand u way) i s)) now
    each_of i r eq (inr ne) = placed_still o plans r place id i (InHand u way) ne (p.each i r eq)

    other : (c k j was : ℕ) → WasBehind channels c0 c k j was → j ≢ id
    other c k j was (e, inl q) = λ s.
        let at_c0 : slice_get (slice_index_or channels c0 []) was ≡ Some id = ap (λ (x : ℕ). slice_get (slice_index_or channels x []) was) (sym q.0) ∙ e ∙ ap (λ (x : ℕ). Some x) s in
        let z = p.once c0 0 was id first at_c0 in let n = q.1 in absurd (omega arith)
    other c k j was (e, inr q) = λ s.
        let w = p.waiting c was j e in
        let same = same_place w.1.0 u w.1.1 way (sym w.1.3 ∙ ap place s ∙ here) in
        let number : Some c ≡ Some c0 = sym w.1.4 ∙ ap (λ (x : ℕ). channel_of o x w.1.1) same.0 ∙ ap (λ (x : Way). channel_of o u x) same.1 ∙ there in
        q.0 (same_Some c c0 number)

    apart : (c j k x y : ℕ) → x ≡ y → (((c ≡ c0) × (x ≡ suc j)) ⊎ ((c ≢ c0) × (x ≡ j))) → (((c ≡ c0) × (y ≡ suc k)) ⊎ ((c ≢ c0) × (y ≡ k))) → j ≡ k
    apart c j k x y s (inl a) (inl b) = let m = a.1 in let n = b.1 in omega arith
    apart c j k x y s (inl a) (inr b) = absurd (b.0 a.0)
    apart c j k x y s (inr a) (inl b) = absurd (a.0 b.0)
    apart c j k x y s (inr a) (inr b) = sym a.1 ∙ s ∙ b.1

    held_of : (v : ℕ) (h : Held) →
        ((v ≡ u) × (slice_index_or (slice_set hands u (Some (record { id = id; way = way }))) v None ≡ Some (record { id = id; way = way }))) ⊎ ((v ≢ u) × (slice_index_or (slice_set hands u (Some (record { id = id; way = way }))) v None ≡ slice_index_or hands v None)) →
        slice_index_or (slice_set hands u (Some (record { id = id; way = way }))) v None ≡ Some h → (h.id < length records) × (moved place id (InHand u way) h.id ≡ InHand v h.way)
    held_of v h (inl q) e =
        let same : record { id = id; way = way } ≡ h = same_Some _ h (sym q.1 ∙ e) in
        let ids : id ≡ h.id = ap (λ (x : Held). x.id) same in
        let ways : way ≡ h.way = ap (λ (x : Held). x.way) same in
        let lt = id_in in
        (omega arith, moved_same place id (InHand u way) h.id (sym ids) ∙ ap (λ (x : ℕ). InHand x way) (sym q.0) ∙ ap (λ (x : Way). InHand v x) ways)
    held_of v h (inr q) e =
        let was = p.held v h (sym q.1 ∙ e) in
        (was.0, moved_other place id (InHand u way) h.id (λ s. waits_in_hand u v way h.way (sym here ∙ ap place (sym s) ∙ was.1)) ∙ was.1)

-- a packet that ended is nowhere
pub ended_waits : (u : ℕ) (way : Way) → Ended ≡ Waits u way → ⊥
ended_waits u way e = cc

pub ended_in_hand : (u : ℕ) (way : Way) → Ended ≡ InHand u way → ⊥
ended_in_hand u way e = cc

-- an Act on the packet in a node's hand
module _ (o : Setting) (plans : List Plan) (hands : List (Option Held)) (channels : List (List ℕ)) (records : List Record) (place : ℕ → Place)
    (u : ℕ) (held : Held) (v : Verdict) (made : Record)
    (p : ArePlaced o plans hands channels records place) (h_in : u < length hands)
    (holds : slice_index_or hands u None ≡ Some held) (now : IsPacket o plans made (place_after v)) where
  in_hand : place held.id ≡ InHand u held.way
  in_hand = (p.held u held holds).1

  pub not_waiting : (c k : ℕ) → slice_get (slice_index_or channels c []) k ≡ Some held.id → ⊥
  not_waiting c k e = let w = p.waiting c k held.id e in waits_in_hand w.1.0 u w.1.1 held.way (sym w.1.3 ∙ in_hand)

  pub act_each : (i : ℕ) (x : Record) → slice_get (slice_set records held.id made) i ≡ Some x → IsPacket o plans x (moved place held.id (place_after v) i)
  act_each i x e = chosen (get_set records held.id i made x e)
    where
      chosen : ((i ≡ held.id) × (made ≡ x)) ⊎ ((i ≢ held.id) × (slice_get records i ≡ Some x)) → IsPacket o plans x (moved place held.id (place_after v) i)
      chosen (inl q) =
          let here = subst (λ (y : Place). IsPacket o plans made y) (sym (moved_same place held.id (place_after v) i q.0)) now in
          subst (λ (y : Record). IsPacket o plans y (moved place held.id (place_after v) i)) q.1 here
      chosen (inr q) = placed_still o plans x place held.id i (place_after v) q.0 (p.each i x q.1)

  pub act_held : (w : ℕ) (h : Held) → slice_index_or (slice_set hands u None) w None ≡ Some h → (h.id < length (slice_set records held.id made)) × (moved place held.id (place_after v) h.id ≡ InHand w h.way)
  act_held w h e = chosen (or_set hands u w None None h_in)
    where
      chosen : ((w ≡ u) × (slice_index_or (slice_set hands u None) w None ≡ None)) ⊎ ((w ≢ u) × (slice_index_or (slice_set hands u None) w None ≡ slice_index_or hands w None)) →
          (h.id < length (slice_set records held.id made)) × (moved place held.id (place_after v) h.id ≡ InHand w h.way)
      chosen (inl q) = absurd (none-some h (sym q.1 ∙ e))
      chosen (inr q) =
          let was = p.held w h (sym q.1 ∙ e) in
          let lt = was.0 in
          (rw length-set lt, moved_other place held.id (place_after v) h.id (λ s. q.0 (same_hand w u h.way held.way (sym was.1 ∙ ap place s ∙ in_hand)).0) ∙ was.1)

  -- no hand holds the packet any more, and the others hold what they held
  pub act_rests : (not_in_hand : (w : ℕ) (way : Way) → place_after v ≡ InHand w way → ⊥) (j w : ℕ) (way : Way) → moved place held.id (place_after v) j ≡ InHand w way →
      slice_index_or (slice_set hands u None) w None ≡ Some (record { id = j; way = way })
  act_rests not_in_hand j w way e = by_id (cases_eq j held.id)
    where
      by_node : (j ≡ held.id → ⊥) → slice_index_or hands w None ≡ Some (record { id = j; way = way }) →
          ((w ≡ u) × (slice_index_or (slice_set hands u None) w None ≡ None)) ⊎ ((w ≢ u) × (slice_index_or (slice_set hands u None) w None ≡ slice_index_or hands w None)) →
          slice_index_or (slice_set hands u None) w None ≡ Some (record { id = j; way = way })
      by_node ne was (inl q) =
          let same : record { id = j; way = way } ≡ held = same_Some (record { id = j; way = way }) held (sym was ∙ ap (λ (x : ℕ). slice_index_or hands x None) q.0 ∙ holds) in
          absurd (ne (ap (λ (x : Held). x.id) same))
      by_node ne was (inr q) = q.1 ∙ was

      by_id : ((j ≡ held.id) ⊎ (j ≡ held.id → ⊥)) → slice_index_or (slice_set hands u None) w None ≡ Some (record { id = j; way = way })
      by_id (inl s) = absurd (not_in_hand w way (sym (moved_same place held.id (place_after v) j s) ∙ e))
      by_id (inr ne) = by_node ne (p.rests j w way (sym (moved_other place held.id (place_after v) j ne) ∙ e)) (or_set hands u w None None h_in)

  longer_now : length records ≤ length (slice_set records held.id made)
  longer_now = rw length-set (omega arith)

  pub ended : place_after v ≡ Ended → ArePlaced o plans (slice_set hands u None) channels (slice_set records held.id made) (moved place held.id (place_after v))
  ended e = record {
    each = act_each;
    waiting = λ c k j q. still_waiting o records (slice_set records held.id made) place c held.id j (place_after v) longer_now (λ s. not_waiting c k (q ∙ ap (λ (x : ℕ). Some x) s)) (p.waiting c k j q);
    once = p.once;
    stands = λ j w way q. p.stands j w way (sym (moved_other place held.id (place_after v) j (λ s. ended_waits w way (sym e ∙ sym (moved_same place held.id (place_after v) j s) ∙ q))) ∙ q);
    rests = act_rests (λ w way q. ended_in_hand w way (sym e ∙ q));
    held = act_held;
  }

  pub sent : (h : Hop) (c0 : ℕ) → place_after v ≡ Waits h.node (Link h.link) → h.node < (nodes_of o) → channel_of o h.node (Link h.link) ≡ Some c0 → c0 < length channels →
      ArePlaced o plans (slice_set hands u None) (slice_set channels c0 (slice_index_or channels c0 [] ++ held.id ∷ [])) (slice_set records held.id made) (moved place held.id (place_after v))
  sent h c0 e node_in there c_in = record {
    each = act_each;
    waiting = λ c k j q. subst (λ (x : Place). IsWaiting o (slice_set records held.id made) (moved place held.id x) c j) (sym e)
        (put_waiting o channels records place p.waiting p.once (slice_set records held.id made) longer_now held.id c0 h.node (Link h.link) c_in (rw length-set (p.held u held holds).0) node_in there not_waiting c k j q);
    once = put_once o channels records place p.waiting p.once (slice_set records held.id made) longer_now held.id c0 h.node (Link h.link) c_in (rw length-set (p.held u held holds).0) node_in there not_waiting;
    stands = λ j w way q. put_stands o channels place p.stands held.id c0 h.node (Link h.link) c_in there j w way (ap (λ (x : Place). moved place held.id x j) (sym e) ∙ q);
    rests = act_rests (λ w way q. waits_in_hand h.node w (Link h.link) way (sym e ∙ q));
    held = act_held;
  }
