use Rattle.std.proofs.Common.{◌≡◌, ◌≢◌, ◌↔◌, ◌<◌, ◌≤◌, ◌∙◌, ℕ, Ok, Err, refl, inl, inr, arith}
use Rattle.std.proofs.lemmas.Bool.{cases_lt}
use Rattle.std.proofs.lemmas.Result.{err_from_is_err_and}
use Rattle.std.specs.declared.result.Result.{Result}
use Rattle.ir_model.specs.Topology.{node_count}
use Rattle.ir_numbering.specs.declared.error.NumberError.{NumberError}
use Rattle.ir_numbering.specs.declared.error.NumberError.TheVariants as number
use Rattle.ir_plan.specs.declared.error.PlanError.TheVariants.{NoNode, Disconnected}
use Rattle.ir_plan.specs.Refusals.{from_number}
use Rattle.ir_plan.proofs.building.numbering_of.Goals as goal

-- numbers are refused for the root exactly where that is no node
module _ {A : Type 0} (n root : ℕ) where
  no_node_told : (x : NumberError) → n ≢ 0 → (◌≡◌ {A = Result A NumberError} (Err x) (Err number.NoNode)) ↔ (n ≤ root) → (from_number x ≡ NoNode) ↔ ((0 < n) × (n ≤ root))
  no_node_told number.NoNode some is = ((λ _. (omega (arith, some), is.0 refl)), (λ _. refl))
  no_node_told number.Disconnected some is = ((λ e. absurd (cc e)), (λ past. absurd (cc (is.1 past.1))))
  no_node_told number.NoMemory some is = ((λ e. absurd (cc e)), (λ past. absurd (cc (is.1 past.1))))

  disconnected_told : (x : NumberError) (cut : Type 0) → n ≢ 0 → (◌≡◌ {A = Result A NumberError} (Err x) (Err number.NoNode)) ↔ (n ≤ root) → ((◌≡◌ {A = Result A NumberError} (Err x) (Err number.Disconnected)) → cut)
      → from_number x ≡ Disconnected → (0 < n) × (root < n) × cut
  disconnected_told number.NoNode cut some is gone e = absurd (cc e)
  disconnected_told number.NoMemory cut some is gone e = absurd (cc e)
  disconnected_told number.Disconnected cut some is gone e =
      elim (cases_lt root n) [
        | inl in_net ↦ (omega (arith, some), in_net, gone refl)
        | inr past ↦ absurd (cc (is.1 past))
      ]

  root_told : (v : A) → (◌≡◌ {A = Result A NumberError} (Ok v) (Err number.NoNode)) ↔ (n ≤ root) → root < n
  root_told v is =
      elim (cases_lt root n) [
        | inl in_net ↦ in_net
        | inr past ↦ absurd (cc (is.1 past))
      ]

pub returns-in_err-depth_first-clause-no_node : goal.returns-in_err-depth_first-clause-no_node
returns-in_err-depth_first-clause-no_node c =
    let p = err_from_is_err_and c.from_residual.result c.from_residual.ensures.1 in
    rw (p.1, p.2) (no_node_told (node_count c.args.topology.now) c.args.root c.in_err-depth_first.field-0.0 (λ e. c.if-nodes-eq0.false (c.nodes.ensures.count ∙ e)) c.in_err-depth_first.ensures.no_node)

pub returns-in_err-depth_first-clause-disconnected : goal.returns-in_err-depth_first-clause-disconnected
returns-in_err-depth_first-clause-disconnected c =
    let p = err_from_is_err_and c.from_residual.result c.from_residual.ensures.1 in
    rw (p.1, p.2)
    (disconnected_told (node_count c.args.topology.now) c.args.root c.in_err-depth_first.field-0.0 _ (λ e. c.if-nodes-eq0.false (c.nodes.ensures.count ∙ e)) c.in_err-depth_first.ensures.no_node
    c.in_err-depth_first.ensures.disconnected)

pub returns-clause-root : goal.returns-clause-root
returns-clause-root c = root_told (node_count c.args.topology.now) c.args.root c.in_ok-depth_first.field-0 c.in_ok-depth_first.ensures.no_node

pub returns-clause-depth_first : goal.returns-clause-depth_first
returns-clause-depth_first c = c.in_ok-depth_first.ensures.depth_first

pub returns-clause-first : goal.returns-clause-first
returns-clause-first c = c.in_ok-depth_first.ensures.depth_first.root_first
