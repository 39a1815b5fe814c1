use Rattle.std.proofs.Common.{◌≡◌, ◌∙◌, ◌<◌, ◌≤◌, ◌+◌, ◌-◌, ◌==◌, ◌&&◌, ◌||◌, ℕ, zero, suc, Bool, true, false, List, [], ◌∷◌, length, drop, get_or, refl, sym, subst, arith}
use Rattle.ir_whole.specs.Causes.{has_step}
use Rattle.ir_whole.proofs.passing.has_step.Goals as goal

-- a step that is another
goes_by : (b rest : Bool) → b ≡ false → (b || rest) ≡ rest
goes_by true rest e = absurd (cc e)
goes_by false rest e = refl

step_on : (from to : ℕ) (hops : List ℕ) (j i : ℕ) → i ≡ suc j → i < length hops → ((get_or hops j 0 == from) && (get_or hops i 0 == to)) ≡ false → has_step from to (drop j hops) ≡ has_step from to (drop i hops)
step_on from to [] j i e lt other = absurd (omega arith)
step_on from to (u ∷ []) j i e lt other = absurd (omega arith)
step_on from to (u ∷ v ∷ hops) zero i e lt other =
    subst (λ (n : ℕ). has_step from to (u ∷ v ∷ hops) ≡ has_step from to (drop n (u ∷ v ∷ hops))) (sym e)
    (goes_by ((u == from) && (v == to)) (has_step from to (v ∷ hops)) (subst (λ (n : ℕ). ((u == from) && (get_or (u ∷ v ∷ hops) n 0 == to)) ≡ false) e other))
step_on from to (u ∷ v ∷ hops) (suc j) zero e lt other = absurd (omega arith)
step_on from to (u ∷ v ∷ hops) (suc j) (suc i) e lt other = step_on from to (v ∷ hops) j i (omega arith) (omega arith) other

-- the last hop leads nowhere
at_end : (from to : ℕ) (hops : List ℕ) (j : ℕ) → length hops ≤ suc j → has_step from to (drop j hops) ≡ false
at_end from to [] zero le = refl
at_end from to [] (suc j) le = refl
at_end from to (u ∷ []) zero le = refl
at_end from to (u ∷ []) (suc zero) le = refl
at_end from to (u ∷ []) (suc (suc j)) le = refl
at_end from to (u ∷ v ∷ hops) zero le = absurd (omega arith)
at_end from to (u ∷ v ∷ hops) (suc j) le = at_end from to (v ∷ hops) j (omega arith)

pub loop-i-preserved : goal.loop-i-preserved
loop-i-preserved c =
    let i = c.loop-i.i in
    let hops = c.args.hops.now in
    let back : (i + 1) - 1 ≡ i = omega arith in
    let on = step_on c.args.from c.args.to hops (i - 1) i (omega arith) (omega arith) (sym c.is_step.ensures ∙ c.if-is_step.false) in
    subst (λ (n : ℕ). has_step c.args.from c.args.to (drop n hops) ≡ has_step c.args.from c.args.to hops) (sym back) (sym on ∙ c.loop-i.invariant)

pub returns : goal.returns
returns c =
    sym (at_end c.args.from c.args.to c.args.hops.now (c.loop-i.i - 1) (omega arith)) ∙ c.loop-i.invariant
