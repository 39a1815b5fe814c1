use Rattle.std.proofs.Common.{ℕ, List, inl, subst}
use Rattle.page.specs.Calls.{IsPut}
use Rattle.page.proofs.bentzolu_run.Goals as goal

pub returns-in-Ok : goal.returns-in-Ok
returns-in-Ok c =
    record {
      output = c.in-Ok.it.output.items;
      faults = c.in-Ok.it.faults.items;
      answer = inl c.in-Ok.ensures;
      output_put = subst (λ (text : List ℕ). IsPut text c.put-lengths.result c.args.output.now c.put-lengths.new.room) c.as_slice.ensures.value c.put-lengths.ensures;
      faults_put = subst (λ (text : List ℕ). IsPut text c.put-lengths-in-Ok.result c.args.faults.now c.put-lengths-in-Ok.new.room) c.as_slice-in-Ok.ensures.value c.put-lengths-in-Ok.ensures;
    }
