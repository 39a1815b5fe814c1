use Rattle.std.proofs.Common.{◌≡◌, ◌∙◌, ℕ, ap, sym, List, [], ◌∷◌, length, drop, Option, Some, None, MatchOption}
use Rattle.atomic_table.specs.Seated.{TableId}
use Rattle.ir_links.specs.Ends.{Remains}
use Rattle.std.specs.Arc.{arc_value}
use Rattle.crossbeam_queue.specs.Passes.{view as pass_view, ruled_capacity}
use Rattle.ir_links.proofs.Keeps.{empties, learns_account, kept_both, left_after}
use Rattle.ir_links.proofs.channel.Remains.take.Goals as goal

pub pop_as-requires-clause-rule : goal.pop_as-requires-clause-rule
pop_as-requires-clause-rule g c =
    let goes = g.T.Bound.goes_to in
    let shared = arc_value c.self.inside.shared in
    let knows = c.self.invariant.1 in
    let a = ap (λ v. v.sends) knows in
    let b = ap (λ v. v.takes) knows in
    let t = ap (λ v. v.terms) knows in (
      empties goes _ shared.place (ruled_capacity shared.queue) (pass_view c.self.inside.pass) a b t,
      learns_account goes _ shared.place (ruled_capacity shared.queue) (pass_view c.self.inside.pass) a b t,
    )

pub invariant_of-self : goal.invariant_of-self
invariant_of-self g c =
    let same = c.pop_as.ensures.queue in
    let is = c.self.invariant.0 in
    let both = kept_both g.T.Bound.goes_to _ _ (pass_view c.self.inside.pass) (pass_view c.pop_as.new.pass) c.pop_as.result c.pop_as.ensures.rule c.self.invariant.1 c.self.invariant.2 in
    ((same.0 ∙ is.0, same.2 ∙ is.1), both.0, both.1)

same_remaining : {P T : Type 0} (place : P) (cap : ℕ) (name_0 name_1 : TableId) (left_0 left_1 : List T) → name_1 ≡ name_0 → left_1 ≡ left_0
    → ◌≡◌ {A = Remains P T} (record { channel = record { name = name_1; place = place; capacity = cap }; left = left_1 }) (record { channel = record { name = name_0; place = place; capacity = cap }; left = left_0 })
same_remaining place cap name_0 name_1 left_0 left_1 names lefts = (cc)

module _ {P T : Type 0} (now : Remains P T) (old : List T) (new : Remains P T) where
  taken : (r : Option T) (V : Type 0) → old ≡ now.left → (V → new ≡ now) → MatchOption r ((old ≡ []) × V) (λ x. old ≡ x ∷ new.left) → MatchOption r ((now.left ≡ []) × (new ≡ now)) (λ x. now.left ≡ x ∷ new.left)
  taken None V is same h = (sym is ∙ h.0, same h.1)
  taken (Some x) V is same h = sym is ∙ h

pub returns-clause-left : goal.returns-clause-left
returns-clause-left g c =
    let v = pass_view c.self.inside.pass in
    let w = pass_view c.pop_as.new.pass in
    let shared = arc_value c.self.inside.shared in
    taken c.args.self.now (drop (length v.taken) v.sent) _ c.pop_as.result (w ≡ v) (ap (λ r. r.left) c.self.view_is)
    (λ e. same_remaining shared.place (ruled_capacity shared.queue) c.self.inside.pass.table_id c.pop_as.new.pass.table_id (drop (length v.taken) v.sent) (drop (length w.taken) w.sent) c.pop_as.ensures.queue.0
    (ap (λ u. drop (length u.taken) u.sent) e) ∙ c.self.view_is)
    (left_after g.T.Bound.goes_to v w c.pop_as.result c.pop_as.ensures.rule)
