use Rattle.std.proofs.Common.{◌≡◌, ℕ, ◌-◌, ◌*◌, ◌<◌, List, [], ◌∷◌, ◌++◌, slice_get, Some, refl, sym, ap, ◌∙◌, subst, arith, inl, inr}
use Rattle.std.specs.Prelude.{Result, Ok, Err, IfErr, reverse, length, slice_index_or, ◌≤◌}
use Rattle.std.proofs.lemmas.Option.{slice_get_within, slice_get-get_or}
use Rattle.ir_model.specs.declared.Kind.{Kind}
use Rattle.ir_model.specs.declared.Kind.TheVariants.{Tree, Shortest, Compact, Landmark}
use Rattle.ir_model.specs.Topology.{node_count}
use Rattle.ir_model.specs.Walk.{walk_weight, IsDistance}
use Rattle.ir_model.specs.Table.{IsPrescribedWalk, IsNearerTable, IsShortestTable}
use Rattle.ir_model.specs.Compact.{IsCompactTable}
use Rattle.ir_model.specs.Plan.{Plan, table_port, IsPlan, IsTableOf}
use Rattle.ir_model.proofs.Reach.{connected_distances}
use Rattle.ir_model.proofs.Tables.{prescribed_nearer, shortest_is_nearer}
use Rattle.ir_plan.proofs.LandmarkPlans.{landmark_weight}
use Rattle.ir_core.specs.declared.event.Event.{Event}
use Rattle.ir_core.specs.declared.event.Reply.{Reply}
use Rattle.ir_core.specs.declared.event.Refused.{Refused}
use Rattle.std.specs.List.{AllByRecursion}
use Rattle.ir_core.specs.declared.packet.Restamp.{Restamp}
use Rattle.ir_core.specs.Record.{Record, segments_in, present, present_in, until, stamp_of}
use Rattle.ir_core.specs.declared.packet.Fate.{Fate}
use Rattle.ir_core.specs.declared.packet.Fate.TheVariants.{Delivered, Retired, Down, Full, Left}
use Rattle.ir_core.specs.Setting.{Setting, IsPlanFor, nodes_of}
use Rattle.ir_core.specs.Entry.{Entry, DidInject, DidLearn, DidTake, DidRead, DidAct, DidChange, DidInstall, reply_of}
use Rattle.ir_core.specs.Meaning.{Sight, ComesTo, sight_after, plan_of, with_entry}
use Rattle.ir_core.specs.History as history
use Rattle.ir_core.specs.Sound.{IsSoundBy, IsPlanAmong, IsSoundRecord, AllSound, AllOfOneEpoch, FateFits, WeighsTheDistance, GoesOnAlong, LeadsOn, last_of}
use Rattle.ir_core.specs.World.{World, IsWorld, IsStretch, sight_in, after, IsAnswer, IsBeginning, Place, Waits, InHand, Ended, FitsPlace, EndFits}
use Rattle.ir_core.specs.Shows.{Shows, AnswersAfter, MayWantMemory, reply_to}
use Rattle.ir_core.specs.Handled.{IsAnswerTo, IsAnswerOr}
use Rattle.ir_core.proofs.Walks.{walk_of, prefix, whole, next_hop-away, IsBeginning-push, first-push}
use Rattle.ir_core.proofs.Segments.{joined_in, linked_in}
use Rattle.ir_core.proofs.Shown.{same_sight, show_after, concerns_left, concerns_under_way}
use Rattle.ir_core.proofs.Accepted.{accepted_fits}

-- an answer by the world is one by its history
module _ (log : List Entry) (s new : World) (ok : IsWorld s) (k : Shows log s) (e : Event) (result : Result Reply Refused) where
  pub shows_after : (wanted : Result Entry Refused) → ComesTo s.opening (sight_in s) e wanted → IsAnswer s new wanted result → Shows (with_entry log wanted) new
  shows_after (Ok entry) comes a =
      let fits = accepted_fits s ok e entry comes in
      let live = concerns_under_way log s k entry (concerns_left s ok entry fits) in
      subst (λ (x : World). Shows (entry ∷ log) x) (sym a.1) (show_after log s k entry fits live)
  shows_after (Err x) comes a = subst (λ (y : World). Shows log y) (sym a.1) k

  replied : (wanted : Result Entry Refused) → IsAnswer s new wanted result → result ≡ reply_to wanted
  replied (Ok entry) a = a.0
  replied (Err x) a = a.0

  pub by_history : IsAnswerTo e s new result → AnswersAfter log e result s.opening new
  by_history (inl a) =
      let there : ComesTo s.opening (sight_after s.opening log) e a.0 = subst (λ (x : Sight). ComesTo s.opening x e a.0) (same_sight log s k) a.1 in
      (with_entry log a.0, inl (a.0, there, replied a.0 a.2, refl), shows_after a.0 a.1 a.2)
  by_history (inr a) =
      let there : MayWantMemory s.opening (sight_after s.opening log) e = subst (λ (y : Sight). MayWantMemory s.opening y e) (same_sight log s k) a.0 in
      (log, inr (there, a.1, refl), subst (λ (y : World). Shows log y) (sym a.2) k)

-- what a refused event leaves
pub unchanged : (s new : World) (wanted : Result Entry Refused) (x : Refused) → IsAnswer s new wanted (Err x) → new ≡ s
unchanged s new (Ok entry) x a = absurd (not_ok (sym a.0))
  where
    not_ok : ◌≡◌ {A = Result Reply Refused} (Ok (reply_of entry)) (Err x) → ⊥
    not_ok q = cc
unchanged s new (Err y) x a = a.1

pub refused_unchanged : (e : Event) (s new : World) (x : Refused) → IsAnswerTo e s new (Err x) → new ≡ s
refused_unchanged e s new x (inl a) = unchanged s new a.0 x a.2
refused_unchanged e s new x (inr a) = a.2

pub refused_at : (e : Event) (s new : World) (r : Result Reply Refused) → IsAnswerTo e s new r → IfErr r (λ _. new ≡ s)
refused_at e s new (Ok y) a = tt
refused_at e s new (Err x) a = refused_unchanged e s new x a

-- a table of shortest ways leads the whole walk over the distance
nearer_weighs : (t : Plan) → IsPlan t → IsNearerTable t.topology (table_port t) → (r : Record) → r.source < node_count t.topology → r.dest < node_count t.topology →
    (walk : List ℕ) → IsPrescribedWalk t.topology (table_port t) r.source r.dest walk → r.hops ≡ walk → IsDistance t.topology r.source r.dest (walk_weight t.topology r.hops)
nearer_weighs t is table r s_in d_in walk w h =
    let d = (prescribed_nearer t.topology is.topology (table_port t) table r.source r.dest s_in d_in walk w).1 in
    subst (λ (x : List ℕ). IsDistance t.topology r.source r.dest (walk_weight t.topology x)) (sym h) d

-- with a kind of shortest ways the whole walk weighs the distance, and with one of landmarks no more than the stretch
-- allows
weighs : (k : Kind) (t : Plan) → k ≡ t.kind → IsPlan t → (r : Record) → r.source < node_count t.topology → r.dest < node_count t.topology →
    (walk : List ℕ) → IsPrescribedWalk t.topology (table_port t) r.source r.dest walk → r.hops ≡ walk → WeighsTheDistance k t r
weighs Tree t e is r s_in d_in walk w h = tt
weighs Shortest t e is r s_in d_in walk w h =
    let table : IsShortestTable t.topology (table_port t) = subst (λ (k : Kind). IsTableOf k t.topology t.order is.parents (table_port t)) (sym e) is.table in
    nearer_weighs t is (shortest_is_nearer t.topology (table_port t) table) r s_in d_in walk w h
weighs Compact t e is r s_in d_in walk w h =
    let table : IsCompactTable t.topology t.order (table_port t) = subst (λ (k : Kind). IsTableOf k t.topology t.order is.parents (table_port t)) (sym e) is.table in
    nearer_weighs t is table.nearer r s_in d_in walk w h
weighs (Landmark detour) t e is r s_in d_in walk w h =
    let far = connected_distances t.topology is.topology is.connected r.source r.dest s_in d_in in
    let weight = landmark_weight t is detour (sym e) r.source r.dest far.0 far.1 walk w in
    (far.0, far.1, subst (λ (x : List ℕ). 100 * walk_weight t.topology x ≤ detour.stretch * far.0) (sym h) weight)

-- a record that is right, and the walk that its plan prescribes
module _ (o : Setting) (t : Plan) (plan : IsPlanFor o t) (r : Record) (s_in : r.source < nodes_of o) (d_in : r.dest < nodes_of o) (begins : slice_get r.hops 0 ≡ Some r.source) (follows : IsBeginning t r.dest r.hops)
    (walk : List ℕ) (prescribed : IsPrescribedWalk t.topology (table_port t) r.source r.dest walk) where
  dest_there : r.dest < node_count t.topology
  dest_there = let n = plan.nodes in omega arith

  -- where the table leads on, the walk goes on
  goes_on : (l v : ℕ) → LeadsOn t r l v → GoesOnAlong t r walk l v
  goes_on l v on =
      let w = walk_of t r.source r.dest walk prescribed in
      let more = IsBeginning-push t r.dest r.hops v follows (next_hop-away t plan.plan (last_of r.hops) r.dest dest_there on.0 on.1) (on.0, on.1, on.3) in
      (prefix t r.dest (r.hops ++ v ∷ []) walk r.source (first-push r.hops r.source v begins) w.begins more w.steps, on)

  arrives : last_of r.hops ≡ r.dest → (r.hops ≡ walk) × WeighsTheDistance t.kind t r
  arrives l =
      let w = walk_of t r.source r.dest walk prescribed in
      let all = whole t r.dest r.hops walk r.source begins w.begins follows w.steps l in
      (all, weighs t.kind t refl plan.plan r (let n = plan.nodes in omega arith) dest_there walk prescribed all)

  fate_fits : (fate : Fate) → EndFits t r fate → FateFits t r walk fate
  fate_fits Delivered e = arrives e
  fate_fits Retired e = tt
  fate_fits (Down l) e = (e.0, goes_on l e.0 e.1)
  fate_fits (Full l node) e = goes_on l node e
  fate_fits Left e = tt

  pub place_fits : (place : Place) → FitsPlace t r place → FateFits t r walk r.fate
  place_fits (Waits u way) f = subst (λ (x : Fate). FateFits t r walk x) (sym f.0) tt
  place_fits (InHand u way) f = subst (λ (x : Fate). FateFits t r walk x) (sym f.0) tt
  place_fits Ended f = fate_fits r.fate f.1

-- a segment is sound, where its fate fits the prescribed walk
segment_sound : (o : Setting) (plans : List Plan) → ((k : ℕ) → IsPlanFor o (slice_index_or plans k o.first)) → (g : Record) → IsStretch o plans g →
    ((walk : List ℕ) → IsPrescribedWalk (plan_of o plans g.epoch).topology (table_port (plan_of o plans g.epoch)) g.source g.dest walk → FateFits (plan_of o plans g.epoch) g walk g.fate) → IsSoundBy (IsPlanAmong plans) g
segment_sound o plans each g p fits =
    let t = plan_of o plans g.epoch in
    let k = each (g.epoch - 1) in
    let n = k.nodes in
    let w = k.plan.walks g.source g.dest (let i = p.source_in in omega arith) (let i = p.dest_in in omega arith) in
    let walk = walk_of t g.source g.dest w.0 w.1 in
    record {
      plan = t;
      of_epoch = (p.epoch_above, slice_get-get_or plans (g.epoch - 1) o.first (let above = p.epoch_above in let within = p.epoch_in in omega arith));
      sound = record {
        plan = k.plan;
        walk = w.0;
        prescribed = w.1;
        not_empty = slice_get_within g.hops 0 g.source p.begins;
        follows = prefix t g.dest g.hops w.0 g.source p.begins walk.begins p.follows walk.steps;
        fate = fits w.0 w.1;
      };
    }

-- the segments that restamps ended
past_sound : (o : Setting) (plans : List Plan) → ((k : ℕ) → IsPlanFor o (slice_index_or plans k o.first)) → (latest : List Restamp) (r : Record) → r.fate ≡ Retired → AllByRecursion (IsStretch o plans) (segments_in latest r) →
    AllByRecursion (IsSoundBy (IsPlanAmong plans)) (segments_in latest r)
past_sound o plans each [] r e k =
    (segment_sound o plans each (present_in [] r) k.0 (λ walk w. subst (λ (f : Fate). FateFits (plan_of o plans r.epoch) (present_in [] r) walk f) (sym e) tt), tt)
past_sound o plans each (s ∷ older) r e k = (
  segment_sound o plans each (present_in (s ∷ older) r) k.0 (λ walk w. subst (λ (f : Fate). FateFits (plan_of o plans s.epoch) (present_in (s ∷ older) r) walk f) (sym e) tt),
  past_sound o plans each older (until s r) refl k.1,
)

all_segments_sound : (o : Setting) (plans : List Plan) → ((k : ℕ) → IsPlanFor o (slice_index_or plans k o.first)) → (latest : List Restamp) (r : Record) → AllByRecursion (IsStretch o plans) (segments_in latest r) →
    (IsStretch o plans (present_in latest r) → IsSoundBy (IsPlanAmong plans) (present_in latest r)) → AllByRecursion (IsSoundBy (IsPlanAmong plans)) (segments_in latest r)
all_segments_sound o plans each [] r k now = (now k.0, tt)
all_segments_sound o plans each (s ∷ older) r k now = (now k.0, past_sound o plans each older (until s r) refl k.1)

-- each record is sound
pub sound : (s : World) → IsWorld s → (id : ℕ) (r : Record) → slice_get s.records id ≡ Some r → IsSoundRecord s.opening.restamps (IsPlanAmong s.plans) r
sound s ok id r e =
    let p = ok.placed.each id r e in
    let g = present r in
    let t = plan_of s.opening s.plans (stamp_of r) in
    let k = ok.plans.each (stamp_of r - 1) in
    record {
      few = p.routed.few;
      places = p.routed.places;
      joined = joined_in (reverse r.restamps) r p.routed.places;
      linked = linked_in (reverse r.restamps) r p.routed.places;
      rising = p.routed.rising;
      each = all_segments_sound s.opening s.plans ok.plans.each (reverse r.restamps) r p.routed.each
          (λ st. segment_sound s.opening s.plans ok.plans.each (present r) st (λ walk w. place_fits s.opening t k (present r) st.source_in st.dest_in st.begins st.follows walk w (ok.place id) p.fits));
    }

-- and so are the records of its history
pub all_sound : (s : World) → IsWorld s → (log : List Entry) → Shows log s → AllSound s.opening log
all_sound s ok log k id r e =
    subst (λ (plans : List Plan). IsSoundRecord s.opening.restamps (IsPlanAmong plans) r) k.plans (sound s ok id r (k.packet id ∙ e))

-- where no restamp is allowed, a record is of one epoch
one_epoch : (o : Setting) (plans : List Plan) (r : Record) (restamps : List Restamp) → r.restamps ≡ restamps → length restamps ≤ 0 → AllByRecursion (IsSoundBy (IsPlanAmong plans)) (segments_in (reverse restamps) r) →
    (r.restamps ≡ []) × IsSoundBy (IsPlanAmong plans) r
one_epoch o plans r [] e le k = (e, subst (λ (l : List Restamp). IsSoundBy (IsPlanAmong plans) (record r { restamps = l })) (sym e) k.0)
one_epoch o plans r (s ∷ restamps) e le k = absurd (omega arith)

pub all_of_one_epoch : (o : Setting) (log : List Entry) → AllSound o log → o.restamps ≡ 0 → AllOfOneEpoch o log
all_of_one_epoch o log all none id r e =
    let k = all id r e in
    let few = k.few in
    one_epoch o (history.plans o log) r r.restamps refl (omega arith) k.each

after_setting : (s : World) (entry : Entry) → (after s entry).opening ≡ s.opening
after_setting s (DidInject id e source dest room) = refl
after_setting s (DidLearn e) = refl
after_setting s (DidTake u way id) = refl
after_setting s (DidRead u k) = refl
after_setting s (DidAct u id way restamp v) = refl
after_setting s (DidChange b) = refl
after_setting s (DidInstall e t b) = refl

-- an event leaves the setting as it is
pub same_setting : (s new : World) (wanted : Result Entry Refused) (r : Result Reply Refused) → IsAnswer s new wanted r → new.opening ≡ s.opening
same_setting s new (Ok entry) r a = ap (λ (x : World). x.opening) a.1 ∙ after_setting s entry
same_setting s new (Err e) r a = ap (λ (x : World). x.opening) a.1

pub same_setting_or : (s new : World) (wanted : Result Entry Refused) (r : Result Reply Refused) → IsAnswerOr wanted s new r → new.opening ≡ s.opening
same_setting_or s new wanted r (inl a) = same_setting s new wanted r a
same_setting_or s new wanted r (inr a) = ap (λ (x : World). x.opening) a.2
