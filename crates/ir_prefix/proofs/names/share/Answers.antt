use Rattle.std.proofs.Common.{◌≡◌, ◌∙◌, ◌++◌, ◌∷◌, [], List, ℕ, ap, sym, get_or, rules, ◌&&◌}
use Rattle.std.proofs.lemmas.List.{take_all}
use Rattle.ir_prefix.specs.Joined.{is_among}
use Rattle.ir_prefix.proofs.AmongLemmas.{shared_yes, shared_no}
use Rattle.ir_prefix.proofs.names.share.Goals as goal
use Rattle.ir_prefix.proofs.names.share.Goals.{then-has_port+in-Ok, else-has_port}

pub loop-port-preserved : goal.loop-port-preserved
loop-port-preserved c =
    let i = c.loop-port.port-index in
    let xs = c.args.right.now in
    let x = get_or xs i 0 in
    elim c.if-has_port.branch [
      | then-has_port+in-Ok w ↦
          let e : c.if-has_port.room.items ≡ c.loop-port.room.items ++ x ∷ [] = ap (λ v. v.items) w.room-is ∙ w.in-Ok.ensures.items in
          λ p. ap (λ (l : List ℕ). is_among l p) e ∙ shared_yes c.args.left.now c.loop-port.room.items xs i x c.loop-port-test.true (search rules) c.loop-port.invariant (sym c.has_port.ensures ∙ w.if-has_port.true) p
      | else-has_port w ↦
          let e : c.if-has_port.room.items ≡ c.loop-port.room.items = ap (λ v. v.items) w.room-is in
          λ p. ap (λ (l : List ℕ). is_among l p) e ∙ shared_no c.args.left.now c.loop-port.room.items xs i x c.loop-port-test.true (search rules) c.loop-port.invariant (sym c.has_port.ensures ∙ w.if-has_port.false) p
    ]

pub returns : goal.returns
returns c = λ p. c.loop-port.invariant p ∙ ap (λ (l : List ℕ). is_among c.args.left.now p && is_among l p) (take_all c.loop-port.port-index c.args.right.now c.loop-port-test.false)
