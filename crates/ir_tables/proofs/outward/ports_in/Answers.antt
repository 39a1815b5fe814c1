use Rattle.std.proofs.Common.{◌≡◌, ◌≢◌, ◌++◌, ◌+◌, ◌%◌, ◌<◌, ◌≤◌, ◌∙◌, ◌∷◌, [], ℕ, List, Option, Some, None, length, slice_index_or, ap, sym, subst, arith, ⊎_elim}
use Rattle.std.proofs.lemmas.Bool.{cases_lt}
use Rattle.std.proofs.lemmas.List.{get_or_append_left, get_or_push, length_push}
use Rattle.ir_tables.specs.Relaxation.{at}
use Rattle.ir_tables.specs.Keys.{ArePortsIn}
use Rattle.std.proofs.lemmas.Result.{err_from_is_err_and}
use Rattle.ir_tables.proofs.outward.ports_in.Goals as goal
use Rattle.ir_tables.proofs.outward.ports_in.Goals.{then-v-u, else-v-u}

-- one port more
one_more : (u : ℕ) (keys : List ℕ) (old new : List (Option ℕ)) (v : ℕ) (port : Option ℕ) → new ≡ old ++ port ∷ [] → (v ≡ u → port ≡ None) → (v ≢ u → port ≡ Some (at keys v % 65536))
    → ArePortsIn u keys old v → ArePortsIn u keys new (v + 1)
one_more u keys old new v port is own other so_far =
    let every = so_far.every in
    let here : slice_index_or new v None ≡ port = ap (λ (ps : List (Option ℕ)). slice_index_or ps v None) is ∙ get_or_push old port None v every in
    let before : (k : ℕ) → k < v → slice_index_or new k None ≡ slice_index_or old k None = λ k l.
    ap (λ (ps : List (Option ℕ)). slice_index_or ps k None) is ∙ get_or_append_left old (port ∷ []) None k (omega (arith, every, l)) in
    record {
      every = ap (λ (ps : List (Option ℕ)). length ps) is ∙ length_push old port ∙ ap (λ (n : ℕ). n + 1) every;
      own = λ l.
          ⊎_elim (λ (less : u < v). before u less ∙ so_far.own less)
          (λ (ge : v ≤ u). let e : v ≡ u = omega (arith, l, ge) in subst (λ (k : ℕ). slice_index_or new k None ≡ None) e (here ∙ own e)) (cases_lt u v);
      each = λ k l ne.
          ⊎_elim (λ (less : k < v). before k less ∙ so_far.each k less ne)
          (λ (ge : v ≤ k).
          let e : v ≡ k = omega (arith, l, ge) in
          subst (λ (j : ℕ). slice_index_or new j None ≡ Some (at keys j % 65536)) e (here ∙ other (λ same. ne (sym e ∙ same)))) (cases_lt k v);
    }

pub loop-v-preserved : goal.loop-v-preserved
loop-v-preserved c =
    let keys : List ℕ = c.args.keys.now in
    let v : ℕ = c.loop-v.v in
    let old : List (Option ℕ) = c.loop-v.ports.items in
    let new : List (Option ℕ) = c.push.new.self.items in
    elim c.if-v-u.branch [
      | then-v-u w ↦ one_more c.args.u keys old new v c.if-v-u.port c.in_ok-push.ensures.items (λ _. w.port-is) (λ ne. absurd (ne w.if-v-u.true)) c.loop-v.invariant
      | else-v-u w ↦ one_more c.args.u keys old new v c.if-v-u.port c.in_ok-push.ensures.items (λ e. absurd (w.if-v-u.false e)) (λ _. w.port-is) c.loop-v.invariant
    ]

pub returns-in_err-push : goal.returns-in_err-push
returns-in_err-push c = rw (err_from_is_err_and c.from_residual-in_err-push.result c.from_residual-in_err-push.ensures.1).1 tt

pub returns : goal.returns
returns c =
    let all : c.loop-v.v ≡ length c.args.keys.now = omega (arith, c.loop-v-test.false, c.loop-v.auto.v-end) in
    subst (λ (n : ℕ). ArePortsIn c.args.u c.args.keys.now c.loop-v.ports.items n) all c.loop-v.invariant
