-- Answers of commands, and one more of them.
use Rattle.std.specs.Prelude.{◌≡◌, ℕ, suc, ◌+◌, ◌<◌, List, [], ◌∷◌, ◌++◌, Option, Result, Ok, Err, length, take}
use Rattle.std.specs.Result.{result_err}
use Rattle.std.proofs.lemmas.List.{take_more, length-take-le}
use Rattle.std.proofs.Common.{get_or, refl, arith, sym, ap, ◌∙◌, subst, append-nil, append_assoc}
use Rattle.ir_core.specs.declared.event.Refused.{Refused}
use Rattle.ir_core.specs.declared.command.Command.{Command}
use Rattle.ir_epochs.specs.declared.registry.Stamp.{Stamp}
use Rattle.ir_epochs.specs.declared.handles.Receipt.{Receipt}
use Rattle.ir_epochs.specs.declared.entry.Change.{Change}
use Rattle.ir_links.specs.Ends.{Word}
use Rattle.ir_worker.specs.Seen.{Parcel}
use Rattle.ir_control.specs.declared.injector.Injector.{Injector}
use Rattle.ir_control.specs.Refusals.{IsInjectAnswer}
use Rattle.ir_control.specs.Changes.{IsChangeAnswer}
use Rattle.ir_control.specs.Desks.{Desk}
use Rattle.ir_control.specs.Answers.{CommandAnswer, command_answer, refusal_in, refusal_at, refusals_from}
use Rattle.ir_control.specs.Planned.{stamp_by, stamps_in}
use Rattle.ir_control.specs.Carried.{IsInjectedAs, IsCarriedOut, IsChangedAs, AreCarriedOut}

pub injected_as : (was_full : Word Parcel) (source dest : ℕ) (before after : Injector) (result : Result ℕ Refused) (r : Option Refused) → r ≡ result_err result →
    IsInjectAnswer was_full source dest before result after → IsInjectedAs was_full source dest before (command_answer r) after
injected_as was_full source dest before after (Ok id) r told is = subst (λ (o : Option Refused). IsInjectedAs was_full source dest before (command_answer o) after) (sym told) (id, is)
injected_as was_full source dest before after (Err e) r told is =
    subst (λ (o : Option Refused). IsInjectedAs was_full source dest before (command_answer o) after) (sym told) is

module _ {B : Type 0} where
  pub changed_as : (refused : Option Refused) (c : Change) (before after : Desk B) (result : Result Receipt Refused) (r : Option Refused) → r ≡ result_err result →
      after.injector ≡ before.injector → IsChangeAnswer refused c before.controller after.controller result → IsChangedAs refused c before (command_answer r) after
  changed_as refused c before after result r told same is = subst (λ (o : Option Refused). IsChangedAs refused c before (command_answer o) after) (sym told) (by_case result is) where
    by_case : (result : Result Receipt Refused) → IsChangeAnswer refused c before.controller after.controller result → IsChangedAs refused c before (command_answer (result_err result)) after
    by_case (Ok t) is = (same, (t, is))
    by_case (Err e) is = (same, is)

module _ (was_full : Word Parcel) {B : Type 0} where
  -- one more command, with its answer
  pub carried_more : (commands : List Command) (a b d : Desk B) (answers : List CommandAnswer) (c : Command) (answer : CommandAnswer) →
      AreCarriedOut was_full commands a answers b → IsCarriedOut was_full c b answer d → AreCarriedOut was_full (commands ++ c ∷ []) a (answers ++ answer ∷ []) d
  carried_more [] a b d [] c answer done one = (d, subst (λ (z : Desk B). IsCarriedOut was_full c z answer d) done one, refl)
  carried_more [] a b d (x ∷ answers) c answer done one = absurd done
  carried_more (k ∷ commands) a b d [] c answer done one = absurd done
  carried_more (k ∷ commands) a b d (x ∷ answers) c answer done one = (done.0, done.1, carried_more commands done.0 b d answers c answer done.2 one)

  -- as many answers as commands
  pub as_many : (commands : List Command) (a b : Desk B) (answers : List CommandAnswer) → AreCarriedOut was_full commands a answers b → length answers ≡ length commands
  as_many [] a b [] done = refl
  as_many [] a b (x ∷ answers) done = absurd done
  as_many (k ∷ commands) a b [] done = absurd done
  as_many (k ∷ commands) a b (x ∷ answers) done = ap suc (as_many commands done.0 b answers done.2)

-- one more answer
pub refusals_more : (k : ℕ) (answers : List CommandAnswer) (answer : CommandAnswer) → refusals_from k (answers ++ answer ∷ []) ≡ refusals_from k answers ++ refusal_at (k + length answers) (refusal_in answer)
refusals_more k [] answer = append-nil (refusal_at k (refusal_in answer)) ∙ ap (λ (n : ℕ). refusal_at n (refusal_in answer)) (let e : k ≡ k + 0 = omega arith in e)
refusals_more k (x ∷ answers) answer =
    ap (λ (rest : List (ℕ × Refused)). refusal_at k (refusal_in x) ++ rest) (refusals_more (k + 1) answers answer)
    ∙ sym (append_assoc (refusal_at k (refusal_in x)) (refusals_from (k + 1) answers) (refusal_at (k + 1 + length answers) (refusal_in answer)))
    ∙ ap (λ (n : ℕ). refusal_at k (refusal_in x) ++ refusals_from (k + 1) answers ++ refusal_at n (refusal_in answer)) (let e : k + 1 + length answers ≡ k + suc (length answers) = omega arith in e)

stamps_more : (answers : List CommandAnswer) (answer : CommandAnswer) → stamps_in (answers ++ answer ∷ []) ≡ stamps_in answers ++ stamp_by answer
stamps_more [] answer = append-nil (stamp_by answer)
stamps_more (x ∷ answers) answer = ap (λ (rest : List Stamp). stamp_by x ++ rest) (stamps_more answers answer) ∙ sym (append_assoc (stamp_by x) (stamps_in answers) (stamp_by answer))

module _ (was_full : Word Parcel) {B : Type 0} where
  -- the first commands with their answers, one more of them, the refusals and the stamps
  pub carried_to : (commands : List Command) (place : ℕ) (c default : Command) (a b d : Desk B) (before after : List (ℕ × Refused)) (opening : Stamp) (stamps stamps' : List Stamp) (x : CommandAnswer) →
      place < length commands → c ≡ get_or commands place default →
      (answers : List CommandAnswer) × AreCarriedOut was_full (take place commands) a answers b × (before ≡ refusals_from 0 answers) × (stamps ≡ opening ∷ stamps_in answers) →
      IsCarriedOut was_full c b x d →
      after ≡ before ++ refusal_at place (refusal_in x) → stamps' ≡ stamps ++ stamp_by x →
      (answers : List CommandAnswer) × AreCarriedOut was_full (take (place + 1) commands) a answers d × (after ≡ refusals_from 0 answers) × (stamps' ≡ opening ∷ stamps_in answers)
  carried_to commands place c default a b d before after opening stamps stamps' x lt is done one told more = (
    done.0 ++ x ∷ [],
    subst (λ (ks : List Command). AreCarriedOut was_full ks a (done.0 ++ x ∷ []) d) (ap (λ (k : Command). take place commands ++ k ∷ []) is ∙ sym (take_more commands place default lt))
        (carried_more was_full (take place commands) a b d done.0 c x done.1 one),
    told ∙ ap (λ (xs : List (ℕ × Refused)). xs ++ refusal_at place (refusal_in x)) done.2
        ∙ ap (λ (n : ℕ). refusals_from 0 done.0 ++ refusal_at n (refusal_in x)) many
        ∙ sym (refusals_more 0 done.0 x),
    more ∙ ap (λ (xs : List Stamp). xs ++ stamp_by x) done.3 ∙ ap (λ (xs : List Stamp). opening ∷ xs) (sym (stamps_more done.0 x)),
  ) where
    many : place ≡ 0 + length done.0
    many = (let n : length done.0 ≡ length (take place commands) = as_many was_full (take place commands) a b done.0 done.1 in let t : length (take place commands) ≡ place = length-take-le place commands (omega arith) in omega (arith, n, t))
