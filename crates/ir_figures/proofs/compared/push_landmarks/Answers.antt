use Rattle.std.proofs.Common.{◌≡◌, ◌≢◌, ◌∙◌, ◌++◌, ℕ, List, IfErr, subst, string_bytes, refl, append_assoc, rules}
use Rattle.ir_model.specs.declared.Kind.TheVariants.{Landmark}
use Rattle.ir_model.specs.Topology.{Topology}
use Rattle.ir_plan.specs.declared.tour.LabelOrder.TheVariants.{DepthFirst}
use Rattle.ir_plan.specs.declared.error.PlanError.TheVariants.{NoMemory}
use Rattle.ir_plan.specs.Building.{FromRoot, RefusesPlan}
use Rattle.ir_figures.specs.Compared.{IsRowBy}
use Rattle.ir_figures.proofs.compared.push_landmarks.Goals as goal

three_words : (old first second third a b c : List ℕ) → a ≡ old ++ first → b ≡ a ++ second → c ≡ b ++ third → c ≡ old ++ ((first ++ second) ++ third)
three_words old first second third a b c one two three = rw (three, two, one) (simp append_assoc)

pub returns-clause-rows : goal.returns-clause-rows
returns-clause-rows g c =
    let net = c.args.topology in
    let root = c.args.root in
    let one = c.in_ok-network.ensures.row in
    let two = c.in_ok-network-2.ensures.row in
    let three = c.in_ok-push_landmark.ensures.row in
    let over = c.in_ok-network.ensures.back in
    let under = c.in_ok-network-2.ensures.back ∙ over in (
      (one.0 ++ two.0) ++ three.0,
      (
        one.0,
        two.0,
        three.0,
        one.1,
        subst (λ (t : Topology). IsRowBy t root (Landmark c.args.detours.1) DepthFirst two.0) over two.1,
        subst (λ (t : Topology). IsRowBy t root (Landmark c.args.detours.2) DepthFirst three.0) under three.1,
        refl,
      ),
      three_words (string_bytes c.args.text.now) one.0 two.0 three.0 (string_bytes c.push_landmark.new.text) (string_bytes c.push_landmark-2.new.text) (string_bytes c.push_landmark-3.new.text) one.2 two.2 three.2,
    )

pub returns-in_err-network-2-clause-refused : goal.returns-in_err-network-2-clause-refused
returns-in_err-network-2-clause-refused g c =
    subst (λ (t : Topology). IfErr c.from_residual-in_err-network-2.result (λ e. e ≢ NoMemory → RefusesPlan t (FromRoot DepthFirst c.args.root) e))
    c.in_ok-network.ensures.back (search rules)

pub returns-in_err-push_landmark-clause-refused : goal.returns-in_err-push_landmark-clause-refused
returns-in_err-push_landmark-clause-refused g c =
    subst (λ (t : Topology). IfErr c.from_residual-in_err-push_landmark.result (λ e. e ≢ NoMemory → RefusesPlan t (FromRoot DepthFirst c.args.root) e))
    (c.in_ok-network-2.ensures.back ∙ c.in_ok-network.ensures.back) (search rules)
