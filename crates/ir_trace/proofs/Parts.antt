-- Parts of a row that are joined so far, and what a row leaves.
use Rattle.std.proofs.Common.{◌≡◌, ◌<◌, ◌≤◌, ◌+◌, ◌==◌, ℕ, Bool, true, false, ◌&&◌, List, [], ◌∷◌, ◌++◌, length, take, get_or, slice_get, Option, Some, None, if◌then◌else◌, refl, sym, ap, subst, ◌∙◌}
use Rattle.std.proofs.lemmas.Bool.{and_from}
use Rattle.std.proofs.lemmas.List.{take_more}
use Rattle.std.proofs.lemmas.Option.{slice_get-get_or}
use Rattle.ir_model.specs.Topology.{Topology, node_count}
use Rattle.ir_model.specs.Plan.{Plan}
use Rattle.ir_core.specs.Sound.{last_of}
use Rattle.ir_trace.specs.Row.{Segment, TraceRow}
use Rattle.ir_trace.specs.Checked.{plan_at, last_part, KnowsEpochs, IsFrontOfWalk, AreJoined, FollowsWalks}
use Rattle.ir_trace.specs.Inspect.{next_of, are_known, are_joined, fits_fate, goes_on, has_arrived, segments_weight, first_of_four, AreOverPlans}
use Rattle.ir_trace.proofs.CheckedRows.{IsFound, found, over_plans, joined_tells}
use Rattle.ir_trace.specs.declared.departing.Departure.{Departure}
use Rattle.ir_trace.specs.declared.departing.Departure.TheVariants.{Epoch, Start, Hop, Fate}
use Rattle.ir_trace.specs.Leaving.{stands_after, last_epoch, IsReachedByParts, LeavesAmong, IsDeparture, LeavesIn, AreOverRow}

-- ---- one part more

joined_push : (plans : List Plan) (d u above : ℕ) (parts : List Segment) (part : Segment) → AreJoined plans d u above parts
    → last_epoch above parts < part.epoch → slice_get part.hops 0 ≡ Some (stands_after u parts) → IsFrontOfWalk (plan_at plans part.epoch) d part.hops → AreJoined plans d u above (parts ++ part ∷ [])
joined_push plans d u above [] part are rises at front = (rises, at, front, tt)
joined_push plans d u above (p ∷ parts) part are rises at front = (are.0, are.1, are.2, joined_push plans d (last_of p.hops) p.epoch parts part are.3 rises at front)

stands_push : (u : ℕ) (parts : List Segment) (part : Segment) → stands_after u (parts ++ part ∷ []) ≡ last_of part.hops
stands_push u [] part = refl
stands_push u (p ∷ parts) part = stands_push (last_of p.hops) parts part

epoch_push : (epoch : ℕ) (parts : List Segment) (part : Segment) → last_epoch epoch (parts ++ part ∷ []) ≡ part.epoch
epoch_push epoch [] part = refl
epoch_push epoch (p ∷ parts) part = epoch_push p.epoch parts part

-- the parts before part k are joined; the packet is at `at`, and its epoch so far is `above`
pub record AreFollowed (plans : List Plan) (d u : ℕ) (parts : List Segment) (k at above : ℕ) : Type 0 where
  pub joined : AreJoined plans d u 0 (take k parts)
  pub at_is : at ≡ stands_after u (take k parts)
  pub above_is : above ≡ last_epoch 0 (take k parts)

pub followed_none : (plans : List Plan) (d u : ℕ) (parts : List Segment) → AreFollowed plans d u parts 0 u 0
followed_none plans d u [] = record { joined = tt; at_is = refl; above_is = refl }
followed_none plans d u (p ∷ parts) = record { joined = tt; at_is = refl; above_is = refl }

module _ (plans : List Plan) (d u : ℕ) (parts : List Segment) (k at above : ℕ) (part : Segment) (lt : k < length parts) (part_is : part ≡ get_or parts k part) (are : AreFollowed plans d u parts k at above) where
  more : take (k + 1) parts ≡ take k parts ++ part ∷ []
  more = take_more parts k part lt ∙ ap (λ (p : Segment). take k parts ++ p ∷ []) (sym part_is)

  here : slice_get parts k ≡ Some part
  here = slice_get-get_or parts k part lt ∙ ap (λ (p : Segment). Some p) (sym part_is)

  reached : IsReachedByParts plans d u parts k part
  reached = record { before = are.joined; part_is = here }

  pub followed_more : LeavesIn plans d k part at above None → AreFollowed plans d u parts (k + 1) (last_of part.hops) part.epoch
  followed_more h = record {
    joined = subst (AreJoined plans d u 0) (sym more)
        (joined_push plans d u 0 (take k parts) part are.joined (subst (λ (e : ℕ). e < part.epoch) are.above_is h.0) (h.1 ∙ ap (λ (v : ℕ). Some v) are.at_is) h.2);
    at_is = sym (ap (λ (ps : List Segment). stands_after u ps) more ∙ stands_push u (take k parts) part);
    above_is = sym (ap (λ (ps : List Segment). last_epoch 0 ps) more ∙ epoch_push 0 (take k parts) part);
  }

  pub left_told : (left : Departure) → LeavesIn plans d k part at above (Some left) → LeavesAmong plans d u parts left
  left_told (Epoch s) h = subst (λ (j : ℕ). LeavesAmong plans d u parts (Epoch j)) (sym h.0) (part, reached, subst (λ (e : ℕ). part.epoch ≤ e) are.above_is h.1)
  left_told (Start s v) h = subst (λ (j : ℕ). LeavesAmong plans d u parts (Start j v)) (sym h.0)
      (part, reached, subst (λ (e : ℕ). e < part.epoch) are.above_is h.1, h.2 ∙ are.at_is, λ e. h.3 (e ∙ ap (λ (x : ℕ). Some x) h.2))
  left_told (Hop s i next) h = subst (λ (j : ℕ). LeavesAmong plans d u parts (Hop j i next)) (sym h.0)
      (part, reached, subst (λ (e : ℕ). e < part.epoch) are.above_is h.1, h.2 ∙ ap (λ (x : ℕ). Some x) are.at_is, h.3)
  left_told (Fate next) h = absurd h

-- ---- rows

module _ (net : Topology) (plans : List Plan) (row : TraceRow) where
  known_from : (a b c e : Bool) → IsFound net plans row (first_of_four a b c e) → a ≡ true → KnowsEpochs plans row.parts
  known_from false b c e h eq = absurd (cc eq)
  known_from true false c e h eq = h.0
  known_from true true false e h eq = h.0
  known_from true true true false h eq = h.0
  known_from true true true true h eq = h.0

  unknown_from : (a b c e : Bool) → IsFound net plans row (first_of_four a b c e) → a ≡ false → KnowsEpochs plans row.parts → ⊥
  unknown_from false b c e h eq = h
  unknown_from true b c e h eq = absurd (cc eq)

  follows_from : (a b c e : Bool) → IsFound net plans row (first_of_four a b c e) → a ≡ true → b ≡ true → FollowsWalks plans row
  follows_from false b c e h eq same = absurd (cc eq)
  follows_from true false c e h eq same = absurd (cc same)
  follows_from true true false e h eq same = h.1
  follows_from true true true false h eq same = h.1
  follows_from true true true true h eq same = h.1

  strays_from : (a b c e : Bool) → IsFound net plans row (first_of_four a b c e) → a ≡ true → b ≡ false → FollowsWalks plans row → ⊥
  strays_from false b c e h eq same = absurd (cc eq)
  strays_from true false c e h eq same = h.1
  strays_from true true c e h eq same = absurd (cc same)

and_false : (a b : Bool) → b ≡ false → (a && b) ≡ false
and_false true b e = e
and_false false b e = refl

module _ (plans : List Plan) (row : TraceRow) (over : AreOverRow plans row) where
  is_found : IsFound over.topology plans row (first_of_four (are_known (length plans) row.parts) (are_joined plans row.dest row.source 0 row.parts && goes_on plans row.dest row.fate row.parts) (has_arrived row.dest row.fate row.parts) (segments_weight over.topology row.parts == row.weight))
  is_found = found over.topology plans row over.plans_are over.row_is

  -- an epoch of the row is not known
  pub unknown_told : are_known (length plans) row.parts ≡ false → IsDeparture plans row None
  unknown_told e = λ known. absurd (unknown_from over.topology plans row _ _ _ _ is_found e known)

  module _ (known : are_known (length plans) row.parts ≡ true) where
    pub parts_over : AreOverPlans plans row.dest row.parts
    parts_over = over_plans (node_count over.topology) plans row.dest row.parts over.plans_are known over.row_is.parts over.row_is.dest

    knows : KnowsEpochs plans row.parts
    knows = known_from over.topology plans row _ _ _ _ is_found known

    -- a part leaves
    pub part_told : (left : Departure) → LeavesAmong plans row.dest row.source row.parts left → IsDeparture plans row (Some left)
    part_told (Epoch k) h = (knows, h)
    part_told (Start k at) h = (knows, h)
    part_told (Hop k i next) h = (knows, h)
    part_told (Fate next) h = absurd h

    -- all parts are joined
    pub fate_told : AreJoined plans row.dest row.source 0 row.parts → (next : Option ℕ) → next ≡ next_of (plan_at plans (last_part row.parts).epoch) (last_of (last_part row.parts).hops) row.dest
        → IsDeparture plans row (if fits_fate row.fate (last_of (last_part row.parts).hops) next then None else Some (Fate next))
    fate_told joined next next_is = by (fits_fate row.fate (last_of (last_part row.parts).hops) next) (ap (λ (o : Option ℕ). fits_fate row.fate (last_of (last_part row.parts).hops) o) (sym next_is))
      where
        led : are_joined plans row.dest row.source 0 row.parts ≡ true
        led = (joined_tells (node_count over.topology) plans over.plans_are row.dest row.source 0 row.parts parts_over).back joined

        by : (b : Bool) → goes_on plans row.dest row.fate row.parts ≡ b → IsDeparture plans row (if b then None else Some (Fate next))
        by true e = λ k. follows_from over.topology plans row _ _ _ _ is_found known (and_from (are_joined plans row.dest row.source 0 row.parts) (goes_on plans row.dest row.fate row.parts) led e)
        by false e =
            let strays = strays_from over.topology plans row _ _ _ _ is_found known (and_false (are_joined plans row.dest row.source 0 row.parts) (goes_on plans row.dest row.fate row.parts) e) in
            (knows, record { joined = joined; next_is = next_is; other = λ on. strays (record { joined = joined; goes_on = on }) })
