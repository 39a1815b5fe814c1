use Rattle.std.proofs.Common.{◌≡◌, ◌++◌, ◌+◌, ◌/◌, ◌<◌, ◌≤◌, ◌∙◌, ◌∷◌, [], ℕ, List, length, ap, arith, ⊎_elim}
use Rattle.std.proofs.lemmas.Bool.{cases_lt}
use Rattle.std.proofs.lemmas.List.{get_or_append_left, get_or_push, length_push}
use Rattle.ir_tables.specs.Relaxation.{at}
use Rattle.std.proofs.lemmas.Result.{err_from_is_err_and}
use Rattle.ir_tables.proofs.outward.weights_in.Goals as goal

pub loop-key-preserved : goal.loop-key-preserved
loop-key-preserved c =
    let keys : List ℕ = c.args.keys.now in
    let v : ℕ = c.loop-key.key-index in
    let old : List ℕ = c.loop-key.weights.items in
    let new : List ℕ = c.push.new.self.items in
    let weight : ℕ = at keys v / 65536 in
    let is : new ≡ old ++ weight ∷ [] = c.in_ok-push.ensures.items in
    let every = c.loop-key.invariant.every in
    record {
      every = ap (λ (ws : List ℕ). length ws) is ∙ length_push old weight ∙ ap (λ (n : ℕ). n + 1) every;
      each = λ k l.
          ap (λ (ws : List ℕ). at ws k) is
          ∙ ⊎_elim (λ (less : k < v). get_or_append_left old (weight ∷ []) 0 k (omega (arith, every, less)) ∙ c.loop-key.invariant.each k less)
          (λ (ge : v ≤ k).
          let e : v ≡ k = omega (arith, l, ge) in
          get_or_push old weight 0 k (every ∙ e) ∙ ap (λ (j : ℕ). at keys j / 65536) e) (cases_lt k v);
    }

pub returns-in_err-push : goal.returns-in_err-push
returns-in_err-push c = rw (err_from_is_err_and c.from_residual-in_err-push.result c.from_residual-in_err-push.ensures.1).1 tt
