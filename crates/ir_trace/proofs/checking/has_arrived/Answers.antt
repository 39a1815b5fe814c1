use Rattle.std.proofs.Common.{◌≡◌, ◌∙◌, ◌==◌, ◌||◌, ℕ, Bool, true, not, ap, sym}
use Rattle.ir_core.specs.Sound.{last_of}
use Rattle.ir_trace.specs.Inspect.{is_delivered}
use Rattle.ir_trace.proofs.checking.has_arrived.Goals.{in-Delivered, in_default}
use Rattle.ir_trace.proofs.checking.has_arrived.Goals as goal

pub returns-else-not-matches : goal.returns-else-not-matches
returns-else-not-matches c =
    let delivered : is_delivered c.args.fate ≡ true =
    elim c.match-matches.branch [
      | in-Delivered w ↦ ap is_delivered w.in-Delivered.is
      | in_default w ↦ absurd (cc (sym w.matches-is ∙ c.if-not-matches.false))
    ] in
    ap (λ (u : ℕ). u == c.args.dest) c.last_hop.ensures ∙ ap (λ (b : Bool). not b || (last_of c.args.last.now.hops == c.args.dest)) (sym delivered)
