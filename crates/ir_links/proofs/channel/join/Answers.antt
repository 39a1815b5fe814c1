use Rattle.std.proofs.Common.{◌≡◌, ◌∙◌, ◌++◌, ◌≤◌, ℕ, List, Option, ap, subst, sym, All, length, drop}
use Rattle.std.specs.Arc.{arc_value}
use Rattle.crossbeam_queue.specs.Passes.{view as pass_view, ruled_capacity}
use Rattle.ir_links.specs.declared.rule.EndView.{EndView}
use Rattle.ir_links.specs.declared.rule.Terms.{Terms}
use Rattle.ir_links.specs.Ends.{channel_named}
use Rattle.ir_links.specs.Rule.{terms_of, FitsIn, FitsBy}
use Rattle.ir_links.proofs.Keeps.{joins, learns_account, all_go, left_is}
use Rattle.ir_links.proofs.channel.join.Goals as goal

-- what the one pass knows adds up, in the words of the two ends
left_adds : {T P : Type 0} (u w : EndView T P) (sent taken items : List T) → u ≡ w → w.sent ≡ sent → w.taken ≡ taken → w.sent ≡ w.taken ++ items → sent ≡ taken ++ drop (length u.taken) u.sent
left_adds u w sent taken items same s t adds = sym s ∙ adds ∙ ap (λ (l : List _). l ++ items) t
    ∙ ap (λ (l : List _). taken ++ l) (sym (ap (λ (y : EndView _ _). drop (length y.taken) y.sent) same ∙ left_is w.sent w.taken items adds))

room_left : {T P : Type 0} (u w : EndView T P) (place : P) (cap limit : ℕ) (items : List T) → u ≡ w → w.terms ≡ terms_of place cap → cap ≡ limit → w.sent ≡ w.taken ++ items → FitsIn w items
    → length (drop (length u.taken) u.sent) ≤ limit
room_left u w place cap limit items same terms is adds fits =
    subst (λ (y : EndView _ _). length (drop (length y.taken) y.sent) ≤ limit) (sym same)
    (subst (λ (l : List _). length l ≤ limit) (sym (left_is w.sent w.taken items adds)) (subst (λ (n : ℕ). length items ≤ n) is (subst (λ (t : Option (Terms _)). FitsBy t items) terms fits)))

pub absorb-requires-clause-rule : goal.absorb-requires-clause-rule
absorb-requires-clause-rule g c =
    joins g.T.Bound.goes_to _ (pass_view c.sender.inside.pass) _ (pass_view c.taker.inside.pass) (ap (λ v. v.sends) c.sender.invariant.1) (ap (λ v. v.takes) c.taker.invariant.1)

pub learn_as-requires-clause-rule : goal.learn_as-requires-clause-rule
learn_as-requires-clause-rule g c =
    let shared = arc_value c.taker.inside.shared in
    let both = c.absorb.ensures.rule in
    learns_account g.T.Bound.goes_to _ shared.place (ruled_capacity shared.queue) (pass_view c.absorb.new.pass) (ap (λ v. v.sends) both) (ap (λ v. v.takes) both)
    (ap (λ v. v.terms) both ∙ ap (λ v. v.terms) c.taker.invariant.1)

pub returns-clause-goes : goal.returns-clause-goes
returns-clause-goes g c =
    let shared = arc_value c.taker.inside.shared in
    let seen = c.learn_as.ensures.rule in
    let view = c.learn_as.ensures.queue.1 in
    let place = ap (λ t. t.channel.place) c.taker.view_is in
    let all = all_go g.T.Bound.goes_to shared.place (ruled_capacity shared.queue) (pass_view c.absorb.new.pass) seen.0
    (ap (λ v. v.terms) c.absorb.ensures.rule ∙ ap (λ v. v.terms) c.taker.invariant.1) seen.1.0 seen.1.2 in
    subst (λ v. All (λ x. g.T.Bound.goes_to x c.args.taker.channel.place) (drop (length v.taken) v.sent)) (sym view)
    (subst (λ p. All (λ x. g.T.Bound.goes_to x p) (drop (length (pass_view c.absorb.new.pass).taken) (pass_view c.absorb.new.pass).sent)) place all)

pub returns-clause-channel : goal.returns-clause-channel
returns-clause-channel g c =
    let shared = arc_value c.taker.inside.shared in
    let name = c.learn_as.ensures.queue.0.0 ∙ c.absorb.ensures.queue.0 ∙ ap (λ s. s.channel.name) c.sender.view_is ∙ ap (λ h. h.name) c.requires.one in
    ap (λ n. channel_named n shared.place (ruled_capacity shared.queue)) (name ∙ sym (ap (λ t. t.channel.name) c.taker.view_is)) ∙ ap (λ t. t.channel) c.taker.view_is

pub returns-clause-left : goal.returns-clause-left
returns-clause-left g c =
    let seen = c.learn_as.ensures in
    let both = c.absorb.ensures.rule in
    left_adds (pass_view c.learn_as.new.pass) (pass_view c.absorb.new.pass) c.args.sender.sent c.args.taker.taken seen.rule.0 seen.queue.1
    (ap (λ v. v.sent) both ∙ ap (λ s. s.sent) c.sender.view_is) (ap (λ v. v.taken) both ∙ ap (λ t. t.taken) c.taker.view_is) seen.rule.1.0

pub returns-clause-room : goal.returns-clause-room
returns-clause-room g c =
    let seen = c.learn_as.ensures in
    let shared = arc_value c.taker.inside.shared in
    room_left (pass_view c.learn_as.new.pass) (pass_view c.absorb.new.pass) shared.place (ruled_capacity shared.queue) c.args.taker.channel.capacity seen.rule.0 seen.queue.1
    (ap (λ v. v.terms) c.absorb.ensures.rule ∙ ap (λ v. v.terms) c.taker.invariant.1) (ap (λ t. t.channel.capacity) c.taker.view_is) seen.rule.1.0 seen.rule.1.1
