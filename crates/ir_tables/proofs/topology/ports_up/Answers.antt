use Rattle.std.proofs.Common.{◌∷◌, ◌++◌, ◌<◌, ◌+◌, ◌≡◌, ℕ, [], List, length, Bool, true, false, ap, sym, ◌∙◌, get_or, filter, take, cond}
use Rattle.std.proofs.lemmas.List.{append-nil, take_all}
use Rattle.std.proofs.lemmas.List.Elements.{filter_more}
use Rattle.std.proofs.lemmas.Option.{slice_get-get_or}
use Rattle.ir_model.specs.declared.Hop.{Hop}
use Rattle.ir_model.specs.Topology.{is_up}
use Rattle.ir_tables.proofs.Rounds.{past}
use Rattle.ir_tables.proofs.topology.ports_up.Goals as goal
use Rattle.ir_tables.proofs.topology.ports_up.Goals.{then-up-hop+in_ok-push, else-up-hop}

pub bounds-up-hop : goal.bounds-up-hop
bounds-up-hop c =
    c.requires c.loop-hop.hop-index (get_or c.args.ports.now c.loop-hop.hop-index past) (slice_get-get_or c.args.ports.now c.loop-hop.hop-index past c.loop-hop-test.true)

-- what one port more leaves of the ports so far
one_more : (p : Hop → Bool) (ports kept : List Hop) (i : ℕ) (b : Bool) → i < length ports → kept ≡ filter p (take i ports) → p (get_or ports i past) ≡ b
    → kept ++ cond b (get_or ports i past ∷ []) [] ≡ filter p (take (i + 1) ports)
one_more p ports kept i b lt so_far is = rw (so_far, ← is) (sym (filter_more p ports i past lt))

pub loop-hop-preserved : goal.loop-hop-preserved
loop-hop-preserved c =
    let up = is_up c.args.up.now in
    let ports : List Hop = c.args.ports.now in
    let kept : List Hop = c.loop-hop.kept.items in
    elim c.if-up-hop.branch [
      | then-up-hop+in_ok-push w ↦ ap (λ v. v.items) w.kept-is ∙ w.in_ok-push.ensures.items ∙ one_more up ports kept c.loop-hop.hop-index true c.loop-hop-test.true c.loop-hop.invariant w.if-up-hop.true
      | else-up-hop w ↦ ap (λ v. v.items) w.kept-is ∙ sym (append-nil kept) ∙ one_more up ports kept c.loop-hop.hop-index false c.loop-hop-test.true c.loop-hop.invariant w.if-up-hop.false
    ]

pub returns : goal.returns
returns c = c.loop-hop.invariant ∙ ap (filter (is_up c.args.up.now)) (take_all c.loop-hop.hop-index c.args.ports.now c.loop-hop-test.false)
