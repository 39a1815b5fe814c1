use Rattle.std.proofs.Common.{◌≡◌, subst, sym, ◌<◌, ◌-◌, ◌∙◌, ◌∷◌, ◌++◌, [], ap, ℕ, ◌+◌, length, Option, Some, None, arith}
use Rattle.std.specs.Prelude.{Bool, true, false, cond, nat_lt}
use Rattle.std.proofs.lemmas.Option.{same_Some, none-some}
use Rattle.std.proofs.lemmas.List.{length_push}
use Rattle.ir_core.specs.declared.board.Board.{Board}
use Rattle.ir_core.specs.declared.event.Way.{Way}
use Rattle.ir_core.specs.declared.event.Verdict.{Verdict}
use Rattle.ir_core.specs.declared.event.Verdict.TheVariants.{CameByDown, BelowFloor, Arrives, LeavesByDown, NoRoom, GoesOn}
use Rattle.ir_core.specs.declared.packet.Restamp.{Restamp}
use Rattle.ir_core.specs.Record.{Record, stamp_of}
use Rattle.ir_core.specs.Entry.{restamp_by, restamped, hops_here}
use Rattle.ir_core.specs.Sound.{last_of}
use Rattle.ir_epochs.specs.Stamps.{knows, registry_name}
use Rattle.ir_worker.specs.Seen.{Parcel, present_stamp}
use Rattle.ir_epochs.proofs.Overs.{over_nodes}
use Rattle.ir_model.specs.Plan.{IsPlan}
use Rattle.ir_model.specs.Topology.{node_count}
use Rattle.ir_epochs.specs.declared.registry.Stamp.{Stamp}
use Rattle.ir_worker.specs.Seen.{stamp_now}
use Rattle.ir_worker.specs.Acts.{parcel_verdict, restamp_on, with_restamp, way_then}
use Rattle.ir_worker.proofs.Routes.{present_push}
use Rattle.ir_worker.proofs.Dues.{due_at, now_of_net, same_nodes, some_left, room_more, restamped_of_net, restamped_last}
use Rattle.ir_worker.proofs.Verdicts.{was_retired}
use Rattle.ir_worker.proofs.passing.ready.Goals as goal

-- the present stamp of a parcel that was restamped
stamped : (p q : Parcel) (s : Stamp) → q.first ≡ p.first → q.later ≡ p.later ++ s ∷ [] → stamp_now q ≡ s
stamped p q s first later = ap (λ (x : Stamp). present_stamp x q.later) first ∙ ap (present_stamp p.first) later ∙ present_push p.first p.later s

-- what the code made of its numbers is the restamp that is due
read_restamp : (allowed given used current : ℕ) (v : Verdict) (x : Option ℕ) (p : Parcel) (b : Board) (way : Way) (u : ℕ) → given ≡ allowed → used ≡ length p.packet.restamps → current ≡ b.current →
    v ≡ parcel_verdict p b false way u → x ≡ restamp_by (given - used) current v → x ≡ restamp_on allowed p b way u
read_restamp allowed given used current v x p b way u all had now judged made =
    made ∙ ap (λ (n : ℕ). restamp_by (n - used) current v) all ∙ ap (λ (n : ℕ). restamp_by (allowed - n) current v) had
    ∙ ap (λ (n : ℕ). restamp_by (allowed - length p.packet.restamps) n v) now ∙ ap (λ (w : Verdict). restamp_by (allowed - length p.packet.restamps) b.current w) judged

-- where there is a restamp, it is of the current epoch
of_current : (left current e : ℕ) (v : Verdict) → restamp_by left current v ≡ Some e → current ≡ e
of_current left current e BelowFloor is = by_test (nat_lt 0 left) is
  where
    by_test : (b : Bool) → cond b (Some current) None ≡ Some e → current ≡ e
    by_test true is = same_Some current e is
    by_test false is = absurd (none-some e is)
of_current left current e (CameByDown l) is = absurd (none-some e is)
of_current left current e Arrives is = absurd (none-some e is)
of_current left current e (LeavesByDown l) is = absurd (none-some e is)
of_current left current e (NoRoom h) is = absurd (none-some e is)
of_current left current e (GoesOn h) is = absurd (none-some e is)

-- a restamp is one more
one_more : (p q : Parcel) (u e : ℕ) (way : Way) → q.packet ≡ restamped u way e p.packet → length q.packet.restamps ≡ length p.packet.restamps + 1
one_more p q u e way made =
    let mark : Restamp = record { epoch = e; from = length (hops_here way u p.packet.hops) - 1 } in
    let same : length q.packet.restamps ≡ length (p.packet.restamps ++ mark ∷ []) = ap (λ (r : Record). length r.restamps) made in
    omega (arith, length_push p.packet.restamps mark)

pub plan-plan-requires : goal.plan-plan-requires
plan-plan-requires c =
    let p = c.args.parcel in
    ap registry_name c.stamp.ensures.stamp ∙ (now_of_net c.args.turning.now.opening.now p.first p.later c.requires.held.of_net).0 ∙ c.requires.registry

pub judge-verdict-requires-clause-plan : goal.judge-verdict-requires-clause-plan
judge-verdict-requires-clause-plan c = c.plan-plan.ensures ∙ ap knows c.stamp.ensures.stamp

pub judge-verdict-requires-clause-at_in : goal.judge-verdict-requires-clause-at_in
judge-verdict-requires-clause-at_in c =
    let p = c.args.parcel in
    subst (λ (n : ℕ). c.args.turning.now.at < n) (sym (over_nodes (knows c.args.turning.now.opening.now).topology (knows (present_stamp p.first p.later)).topology (now_of_net c.args.turning.now.opening.now p.first p.later c.requires.held.of_net).1)) c.requires.node_in

pub restamp-parcel-requires-clause-at_in : goal.restamp-parcel-requires-clause-at_in
restamp-parcel-requires-clause-at_in c =
    subst (λ (n : ℕ). c.args.turning.now.at < n) (sym (over_nodes (knows c.args.turning.now.opening.now).topology (knows c.args.current).topology c.requires.current.1)) c.requires.node_in

pub restamp-parcel-requires-clause-nodes : goal.restamp-parcel-requires-clause-nodes
restamp-parcel-requires-clause-nodes c =
    let p = c.args.parcel in
    same_nodes c.args.turning.now.opening.now c.args.current (present_stamp p.first p.later) c.requires.current (now_of_net c.args.turning.now.opening.now p.first p.later c.requires.held.of_net)

pub restamp-parcel-requires-clause-due : goal.restamp-parcel-requires-clause-due
restamp-parcel-requires-clause-due c =
    let p = c.args.parcel in
    due_at c.args.turning.now.opening.now (present_stamp p.first p.later) c.plan-plan.result.now (c.plan-plan.ensures ∙ ap knows c.stamp.ensures.stamp) c.invariant.ensures.plan (now_of_net c.args.turning.now.opening.now p.first p.later c.requires.held.of_net).1
    p.packet p.next c.args.turning.now.at c.args.way c.args.turning.now.ports.now c.requires.ports c.stamp.ensures.under_way c.stamp.ensures.last c.requires.held.came

pub returns-in-Some-clause-of_net : goal.returns-in-Some-clause-of_net
returns-in-Some-clause-of_net c =
    let p = c.args.parcel in
    let made = c.restamp-parcel.ensures in
    restamped_of_net c.args.turning.now.opening.now p.first p.later c.args.current c.restamp-parcel.result (ap (λ (x : Parcel). x.first) made) (ap (λ (x : Parcel). x.later) made) c.requires.current c.requires.held.of_net

pub returns-in-Some-clause-came : goal.returns-in-Some-clause-came
returns-in-Some-clause-came c =
    let p = c.args.parcel in
    let made = c.restamp-parcel.ensures in
    (ap (λ (x : Parcel). last_of x.packet.hops) made ∙ restamped_last c.args.turning.now.ports.now c.args.turning.now.at c.args.way c.args.current.epoch p.next p.packet c.requires.held.came, ap (λ (x : Parcel). x.next) made)

pub restamp-parcel-requires-clause-room : goal.restamp-parcel-requires-clause-room
restamp-parcel-requires-clause-room c =
    room_more c.args.turning.now.opening.now c.args.current c.args.turning.now.restamps c.from.result c.restamped.result c.current.result c.in-Some.field-0 c.judge-verdict.result c.args.parcel c.requires.current c.requires.held.room
    c.from.ensures c.restamped.ensures (sym c.restamp.ensures ∙ c.in-Some.is)

pub judge-again-requires-clause-plan : goal.judge-again-requires-clause-plan
judge-again-requires-clause-plan c =
    let made = c.restamp-parcel.ensures in
    c.plan-newest.ensures ∙ sym (ap knows (stamped c.args.parcel c.restamp-parcel.result c.args.current (ap (λ (x : Parcel). x.first) made) (ap (λ (x : Parcel). x.later) made)))

pub judge-again-requires-clause-at_in : goal.judge-again-requires-clause-at_in
judge-again-requires-clause-at_in c =
    let made = c.restamp-parcel.ensures in
    subst (λ (s : Stamp). c.args.turning.now.at < node_count (knows s).topology) (sym (stamped c.args.parcel c.restamp-parcel.result c.args.current (ap (λ (x : Parcel). x.first) made) (ap (λ (x : Parcel). x.later) made)))
    (subst (λ (n : ℕ). c.args.turning.now.at < n) (sym (over_nodes (knows c.args.turning.now.opening.now).topology (knows c.args.current).topology c.requires.current.1)) c.requires.node_in)

pub returns-in-Some-clause-plan : goal.returns-in-Some-clause-plan
returns-in-Some-clause-plan c =
    let made = c.restamp-parcel.ensures in
    subst IsPlan (c.plan-newest.ensures ∙ sym (ap knows (stamped c.args.parcel c.restamp-parcel.result c.args.current (ap (λ (x : Parcel). x.first) made) (ap (λ (x : Parcel). x.later) made)))) c.invariant-in-Some.ensures.plan

pub returns-in-None-clause-plan : goal.returns-in-None-clause-plan
returns-in-None-clause-plan c = subst IsPlan (c.plan-plan.ensures ∙ ap knows c.stamp.ensures.stamp) c.invariant.ensures.plan

pub returns-in-Some-clause-under_way : goal.returns-in-Some-clause-under_way
returns-in-Some-clause-under_way c = (c.judge-again.ensures.under_way, c.judge-again.ensures.last)

pub returns-in-None-clause-under_way : goal.returns-in-None-clause-under_way
returns-in-None-clause-under_way c = (c.judge-verdict.ensures.under_way, c.judge-verdict.ensures.last)

pub returns-in-None-clause-parcel : goal.returns-in-None-clause-parcel
returns-in-None-clause-parcel c =
    let on = read_restamp c.args.turning.now.restamps c.from.result c.restamped.result c.current.result c.judge-verdict.result c.restamp.result c.args.parcel c.args.turning.now.board.now c.args.way c.args.turning.now.at
    c.from.ensures c.restamped.ensures c.current.ensures c.judge-verdict.ensures.verdict c.restamp.ensures in
    ap (λ (x : Option ℕ). with_restamp x c.args.current c.args.way c.args.turning.now.at c.args.parcel) (sym c.in-None.is ∙ on)

pub returns-in-None-clause-verdict : goal.returns-in-None-clause-verdict
returns-in-None-clause-verdict c = c.judge-verdict.ensures.verdict

pub returns-in-Some-clause-parcel : goal.returns-in-Some-clause-parcel
returns-in-Some-clause-parcel c =
    let on = read_restamp c.args.turning.now.restamps c.from.result c.restamped.result c.current.result c.judge-verdict.result c.restamp.result c.args.parcel c.args.turning.now.board.now c.args.way c.args.turning.now.at
    c.from.ensures c.restamped.ensures c.current.ensures c.judge-verdict.ensures.verdict c.restamp.ensures in
    let made = sym c.restamp.ensures ∙ c.in-Some.is in
    let epoch : c.args.current.epoch ≡ c.in-Some.field-0 =
    c.requires.epoch ∙ sym c.current.ensures ∙ of_current (c.from.result - c.restamped.result) c.current.result c.in-Some.field-0 c.judge-verdict.result made in
    c.restamp-parcel.ensures ∙ ap (λ (e : ℕ). with_restamp (Some e) c.args.current c.args.way c.args.turning.now.at c.args.parcel) epoch
    ∙ ap (λ (x : Option ℕ). with_restamp x c.args.current c.args.way c.args.turning.now.at c.args.parcel) (sym c.in-Some.is ∙ on)

pub returns-in-Some-clause-way : goal.returns-in-Some-clause-way
returns-in-Some-clause-way c =
    let on = read_restamp c.args.turning.now.restamps c.from.result c.restamped.result c.current.result c.judge-verdict.result c.restamp.result c.args.parcel c.args.turning.now.board.now c.args.way c.args.turning.now.at
    c.from.ensures c.restamped.ensures c.current.ensures c.judge-verdict.ensures.verdict c.restamp.ensures in
    ap (λ (x : Option ℕ). way_then x c.args.way) (sym c.in-Some.is ∙ on)

pub returns-in-Some-clause-verdict : goal.returns-in-Some-clause-verdict
returns-in-Some-clause-verdict c = c.judge-again.ensures.verdict

pub returns-in-None-clause-way : goal.returns-in-None-clause-way
returns-in-None-clause-way c =
    let on = read_restamp c.args.turning.now.restamps c.from.result c.restamped.result c.current.result c.judge-verdict.result c.restamp.result c.args.parcel c.args.turning.now.board.now c.args.way c.args.turning.now.at
    c.from.ensures c.restamped.ensures c.current.ensures c.judge-verdict.ensures.verdict c.restamp.ensures in
    ap (λ (x : Option ℕ). way_then x c.args.way) (sym c.in-None.is ∙ on)

pub restamp-parcel-requires-clause-above : goal.restamp-parcel-requires-clause-above
restamp-parcel-requires-clause-above c =
    let low : stamp_of c.args.parcel.packet < c.args.turning.now.board.now.floor =
    was_retired (c.from.result - c.restamped.result) c.current.result c.in-Some.field-0 c.judge-verdict.result c.args.parcel c.args.turning.now.board.now c.args.way c.args.turning.now.at c.judge-verdict.ensures.verdict
    (sym c.restamp.ensures ∙ c.in-Some.is) in
    omega (arith, low, c.requires.live, c.requires.epoch)

pub restamp-parcel-requires-clause-left : goal.restamp-parcel-requires-clause-left
restamp-parcel-requires-clause-left c =
    let some = some_left (c.from.result - c.restamped.result) c.current.result c.in-Some.field-0 c.judge-verdict.result (sym c.restamp.ensures ∙ c.in-Some.is) in
    omega (arith, some, c.from.ensures, c.restamped.ensures, c.requires.allowed)

pub returns-in-Some-clause-few : goal.returns-in-Some-clause-few
returns-in-Some-clause-few c =
    let some = some_left (c.from.result - c.restamped.result) c.current.result c.in-Some.field-0 c.judge-verdict.result (sym c.restamp.ensures ∙ c.in-Some.is) in
    let grown = one_more c.args.parcel c.restamp-parcel.result c.args.turning.now.at c.args.current.epoch c.args.way (ap (λ (x : Parcel). x.packet) c.restamp-parcel.ensures) in
    omega (arith, some, grown, c.from.ensures, c.restamped.ensures)
