use Rattle.std.proofs.Common.{◌∙◌, ◌++◌, List, ℕ, [], ◌∷◌, Option, option_map, ap, refl, subst, sym, string_bytes}
use Rattle.ir_model.specs.Plan.{Plan}
use Rattle.ir_trace.specs.Rows.{spaced}
use Rattle.ir_figures.specs.Compared.{ring_word}
use Rattle.ir_figures.specs.Failures.{IsRingWord}
use Rattle.ir_figures.specs.Waits.{whole_number, WaitsBeside}
use Rattle.ir_figures.proofs.Results.{on_ok_then, ring_told}
use Rattle.ir_figures.proofs.FailureLines.{one_word}
use Rattle.ir_figures.proofs.failures.push_beside.Goals as goal

pub returns : goal.returns
returns c =
    let plan = c.args.plan.now in
    let old = string_bytes c.args.text.now in
    let ring = option_map (λ r. r.items) c.in_ok-ring.ring in
    let is = ring_told (WaitsBeside c.in-Some.other (whole_number c.args.without) plan) c.in_ok-ring.ring c.in_ok-ring.ensures.acyclic c.in_ok-ring.ensures.ring in
    on_ok_then c.push_word.result
    (λ told. (
      ring_word ring ∷ [],
      subst (λ (other : Option Plan). IsRingWord other c.args.without plan (ring_word ring ∷ [])) (sym c.in-Some.is) (ring, is, refl),
      one_word old (string_bytes c.push_word.new.text) (ring_word ring) (told ∙ ap (λ (t : List ℕ). old ++ spaced t) c.ring_word.ensures),
    ))
    c.push_word.ensures
