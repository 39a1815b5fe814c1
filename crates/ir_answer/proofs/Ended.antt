-- What a run comes to after its output, by what that was given.
use Rattle.std.proofs.Common.{◌≡◌, ◌≢◌, ◌∙◌, ℕ, Bool, true, false, List, [], Option, Some, None, Result, Ok, Err, refl, sym, ap, subst, true≢false}
use Rattle.std.specs.declared.alloc.AllocError.{AllocError}
use Rattle.ir_cli.specs.declared.ending.Ending.{Ending}
use Rattle.ir_cli.specs.declared.ending.Ending.TheVariants as endings
use Rattle.ir_cli.specs.declared.notice.Notice.{Notice}
use Rattle.ir_cli.specs.declared.outcome.RunOutcome.{RunOutcome}
use Rattle.ir_cli.specs.Answer.{Answer, Ran, Found, printed}
use Rattle.ir_cli.specs.Notices.{notice_line, told_text, ShowsFound}
use Rattle.ir_cli.specs.Replied.{RepliesAs}
use Rattle.ir_answer.specs.Formed.{IsTextPut, EndsPut}

abbrev is_found : Ending → Bool
is_found endings.Found = true
is_found _ = false

other : (ending is : Ending) → is_found is ≡ false → ending ≡ is → ending ≢ endings.Found
other ending is differs e = λ found. true≢false (ap is_found (sym found ∙ e) ∙ differs)

module _ (whole outcome : RunOutcome) (lines : List ℕ) (told : List ℕ → Type 0) where
  -- what is reported is what the outcome says
  pub told_behind : (put : Result Bool AllocError) → told_text whole.told ≡ lines → EndsPut put whole lines outcome told → told (told_text outcome.told)
  told_behind (Ok true) is ends = subst (λ (o : RunOutcome). told (told_text o.told)) (sym ends.0) (subst told (sym is) ends.1)
  told_behind (Ok false) is ends = ends.3
  told_behind (Err error) is ends = ends.3

  -- a notice was written, or nothing was found
  pub found_behind : (put : Result Bool AllocError) (form : Answer → Answer) (text : List ℕ) (out : Bool → List ℕ → Type 0) (unused : Type 0) (notice : Notice) → whole.found ≡ Some notice
      → printed (form (Found (notice_line notice))) ≡ Some text → IsTextPut text put out unused → EndsPut put whole lines outcome told → ShowsFound form outcome.found outcome.ending out
  found_behind (Ok true) form text out unused notice is says sent ends =
      subst (λ (f : Option Notice). ShowsFound form f outcome.ending out) (sym (ap (λ (o : RunOutcome). o.found) ends.0 ∙ is)) (text, says, sent)
  found_behind (Ok false) form text out unused notice is says sent ends =
      subst (λ (f : Option Notice). ShowsFound form f outcome.ending out) (sym ends.1) (other outcome.ending endings.Unwritable refl ends.0)
  found_behind (Err error) form text out unused notice is says sent ends =
      subst (λ (f : Option Notice). ShowsFound form f outcome.ending out) (sym ends.1) (other outcome.ending endings.NoMemory refl ends.0)

  -- an answer to all of the inputs was written and reported
  pub ran_behind : (put : Result Bool AllocError) (answer : Answer) (text : List ℕ) (refusals : List ℕ) (out : Bool → List ℕ → Type 0) (unused : Type 0) → answer ≡ Ran text refusals
      → whole.ending ≡ endings.Done → refusals ≡ lines → IsTextPut text put out unused → EndsPut put whole lines outcome told → RepliesAs outcome.ending answer out unused told
  ran_behind (Ok true) answer text refusals out unused is done same sent ends =
      subst (λ (a : Answer). RepliesAs outcome.ending a out unused told) (sym is)
      (subst (λ (e : Ending). RepliesAs e (Ran text refusals) out unused told) (sym (ap (λ (o : RunOutcome). o.ending) ends.0 ∙ done)) (sent, subst told (sym same) ends.1))
  ran_behind (Ok false) answer text refusals out unused is done same sent ends =
      subst (λ (a : Answer). RepliesAs outcome.ending a out unused told) (sym is)
      (subst (λ (e : Ending). RepliesAs e (Ran text refusals) out unused told) (sym ends.0) (sent, ends.2))
  ran_behind (Err error) answer text refusals out unused is done same sent ends =
      subst (λ (e : Ending). RepliesAs e answer out unused told) (sym ends.0) (sent, ends.2)

  -- nothing was found
  pub none_behind : (put : Result Bool AllocError) (form : Answer → Answer) (out : Bool → List ℕ → Type 0) → whole.ending ≡ endings.Done → whole.found ≡ None
      → EndsPut put whole lines outcome told → ShowsFound form outcome.found outcome.ending out
  none_behind (Ok true) form out done is ends =
      subst (λ (f : Option Notice). ShowsFound form f outcome.ending out) (sym (ap (λ (o : RunOutcome). o.found) ends.0 ∙ is))
      (other outcome.ending endings.Done refl (ap (λ (o : RunOutcome). o.ending) ends.0 ∙ done))
  none_behind (Ok false) form out done is ends =
      subst (λ (f : Option Notice). ShowsFound form f outcome.ending out) (sym ends.1) (other outcome.ending endings.Unwritable refl ends.0)
  none_behind (Err error) form out done is ends =
      subst (λ (f : Option Notice). ShowsFound form f outcome.ending out) (sym ends.1) (other outcome.ending endings.NoMemory refl ends.0)

-- a finding was written
pub finding_behind : (whole outcome : RunOutcome) (told : List ℕ → Type 0) (put : Result Bool AllocError) (answer : Answer) (text : List ℕ) (out : Bool → List ℕ → Type 0) (unused : Type 0)
    → answer ≡ Found text → whole.ending ≡ endings.Found → IsTextPut text put out unused → EndsPut put whole [] outcome told → RepliesAs outcome.ending answer out unused told
finding_behind whole outcome told (Ok true) answer text out unused is found sent ends =
    subst (λ (a : Answer). RepliesAs outcome.ending a out unused told) (sym is)
    (subst (λ (e : Ending). RepliesAs e (Found text) out unused told) (sym (ap (λ (o : RunOutcome). o.ending) ends.0 ∙ found)) (sent, ends.1))
finding_behind whole outcome told (Ok false) answer text out unused is found sent ends =
    subst (λ (a : Answer). RepliesAs outcome.ending a out unused told) (sym is)
    (subst (λ (e : Ending). RepliesAs e (Found text) out unused told) (sym ends.0) (sent, ends.2))
finding_behind whole outcome told (Err error) answer text out unused is found sent ends =
    subst (λ (e : Ending). RepliesAs e answer out unused told) (sym ends.0) (sent, ends.2)
