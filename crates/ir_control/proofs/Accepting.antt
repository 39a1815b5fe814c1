-- What commands keep of an injector, and the packets that they put in.
use Rattle.std.specs.Prelude.{◌≡◌, ℕ, ◌+◌, List, [], ◌∷◌, ◌++◌, Bool, true, false, Option, Some, None, Ok, Err, length, nat_lt, cond}
use Rattle.std.proofs.Common.{refl, sym, ap, ◌∙◌, subst, append-nil, append_assoc, length-append}
use Rattle.ir_core.specs.declared.event.Refused.{Refused}
use Rattle.ir_core.specs.declared.command.Command.{Command}
use Rattle.ir_core.specs.declared.command.Command.TheVariants.{Inject, Install, Renumber, Retire, Down, Up, Avoid, Heed, Drain}
use Rattle.ir_epochs.specs.declared.registry.Stamp.{Stamp}
use Rattle.ir_epochs.specs.declared.entry.Change.{Change}
use Rattle.ir_links.specs.Ends.{Word}
use Rattle.ir_worker.specs.Account.{lines_out}
use Rattle.ir_worker.specs.Seen.{Parcel}
use Rattle.ir_control.specs.declared.net.Net.{Net}
use Rattle.ir_control.specs.declared.injector.Injector.{Injector}
use Rattle.ir_control.specs.declared.injector.Accepted.{Accepted}
use Rattle.ir_control.specs.Accepted.{stamp_after_learning}
use Rattle.ir_control.specs.Parts.{IsInjectorOf}
use Rattle.ir_control.specs.declared.controller.Controller.{Controller}
use Rattle.ir_control.specs.Desks.{Desk}
use Rattle.ir_control.specs.Answers.{CommandAnswer, epoch_after, accepted_by, accepted_from}
use Rattle.ir_control.specs.Carried.{IsSameInjector, IsInjectedAs, HasLearnt, IsChangedAs, IsCarriedOut, AreCarriedOut}

-- What an answer did to an injector: it is the same one, these packets were put in, and this is the greatest epoch then.
record Kept (before after : Injector) (more : List Accepted) (epoch : ℕ) : Type 0 where
  same : IsSameInjector before after
  accepted : after.accepted.items ≡ before.accepted.items ++ more
  newest : after.newest.epoch ≡ epoch

unchanged : (before after : Injector) → after ≡ before → Kept before after [] before.newest.epoch
unchanged before after is = record {
  same = record { opening = ap (λ (i : Injector). i.opening) is; lines = ap (λ (i : Injector). lines_out i.outs.items) is; most = ap (λ (i : Injector). i.max_packets) is };
  accepted = ap (λ (i : Injector). i.accepted.items) is ∙ sym (append-nil before.accepted.items);
  newest = ap (λ (i : Injector). i.newest.epoch) is;
}

later_epoch : (s t : Stamp) → (stamp_after_learning s (Some t)).epoch ≡ epoch_after s.epoch (Ok (Some t))
later_epoch s t = by_case (nat_lt s.epoch t.epoch) where
  by_case : (b : Bool) → (cond b t s).epoch ≡ cond b t.epoch s.epoch
  by_case true = refl
  by_case false = refl

learnt : (before after : Injector) (s : Stamp) → HasLearnt before after s → Kept before after [] (epoch_after before.newest.epoch (Ok (Some s)))
learnt before after s is = record {
  same = record { opening = is.opening; lines = ap (λ outs. lines_out outs.items) is.outs; most = is.most };
  accepted = ap (λ xs. xs.items) is.accepted ∙ sym (append-nil before.accepted.items);
  newest = ap (λ (t : Stamp). t.epoch) is.newest ∙ later_epoch before.newest s;
}

injected : (was_full : Word Parcel) (source dest : ℕ) (before after : Injector) (answer : CommandAnswer) → IsInjectedAs was_full source dest before answer after → IsSameInjector before after → after.newest ≡ before.newest →
    Kept before after (accepted_by (length before.accepted.items) before.newest.epoch (Inject source dest) answer) (epoch_after before.newest.epoch answer)
injected was_full source dest before after (Ok (Some s)) is same newest = absurd is
injected was_full source dest before after (Ok None) is same newest = record {
  same = same;
  accepted = is.1.1.accepted ∙ ap (λ (id : ℕ). before.accepted.items ++ record { id = id; epoch = before.newest.epoch; source = source; dest = dest } ∷ []) is.1.1.number;
  newest = ap (λ (s : Stamp). s.epoch) newest;
}
injected was_full source dest before after (Err why) is same newest = record {
  same = same;
  accepted = is.1.accepted ∙ sym (append-nil before.accepted.items);
  newest = ap (λ (s : Stamp). s.epoch) newest;
}

pub injector_kept : (net : Net) (a b : Injector) → IsInjectorOf net a → IsSameInjector a b → IsInjectorOf net b
injector_kept net a b is same = record { opening = same.opening ∙ is.opening; ends = same.lines ∙ is.ends; most = same.most ∙ is.most }

module _ {B : Type 0} where
  changed : (refused : Option Refused) (c : Change) (before after : Desk B) (answer : CommandAnswer) → IsChangedAs refused c before answer after → Kept before.injector after.injector [] (epoch_after before.injector.newest.epoch answer)
  changed refused c before after (Ok (Some s)) is = absurd is
  changed refused c before after (Ok None) is = unchanged before.injector after.injector is.0
  changed refused c before after (Err why) is = unchanged before.injector after.injector is.0

module _ (was_full : Word Parcel) {B : Type 0} where
  carried : (c : Command) (before after : Desk B) (answer : CommandAnswer) → IsCarriedOut was_full c before answer after →
      Kept before.injector after.injector (accepted_by (length before.injector.accepted.items) before.injector.newest.epoch c answer) (epoch_after before.injector.newest.epoch answer)
  carried (Inject source dest) before after answer is = injected was_full source dest before.injector after.injector answer is.0 is.1 is.2
  carried (Install kind root) before after (Ok None) is = absurd is
  carried (Install kind root) before after (Ok (Some s)) is = learnt before.injector after.injector s is.learnt
  carried (Install kind root) before after (Err why) is = unchanged before.injector after.injector is.0
  carried (Renumber kind root) before after (Ok None) is = absurd is
  carried (Renumber kind root) before after (Ok (Some s)) is = learnt before.injector after.injector s is.learnt
  carried (Renumber kind root) before after (Err why) is = unchanged before.injector after.injector is.0
  carried (Retire floor) before after answer is = changed _ _ before after answer is
  carried (Down link) before after answer is = changed _ _ before after answer is
  carried (Up link) before after answer is = changed _ _ before after answer is
  carried (Avoid link) before after answer is = changed _ _ before after answer is
  carried (Heed link) before after answer is = changed _ _ before after answer is
  carried Drain before after answer is = subst (λ (a : CommandAnswer). Kept before.injector after.injector [] (epoch_after before.injector.newest.epoch a)) (sym is.0) (unchanged before.injector after.injector is.1)

  -- of one net before, the injector and the controller are of one net after
  pub one_net : (c : Command) (a b : Desk B) (x : CommandAnswer) → IsCarriedOut was_full c a x b → a.controller.opening ≡ a.injector.opening → b.controller.opening ≡ b.injector.opening
  one_net c a b x is one = moved c a b x is ∙ one ∙ sym (carried c a b x is).same.opening where
    changed_opening : (refused : Option Refused) (k : Change) (a b : Desk B) (x : CommandAnswer) → IsChangedAs refused k a x b → b.controller.opening ≡ a.controller.opening
    changed_opening refused k a b (Ok (Some s)) is = absurd is
    changed_opening refused k a b (Ok None) is = is.1.1.1.1.opening
    changed_opening refused k a b (Err why) is = is.1.1.1.opening

    moved : (c : Command) (a b : Desk B) (x : CommandAnswer) → IsCarriedOut was_full c a x b → b.controller.opening ≡ a.controller.opening
    moved (Inject source dest) a b x is = ap (λ (k : Controller B). k.opening) is.3
    moved (Install kind root) a b (Ok None) is = absurd is
    moved (Install kind root) a b (Ok (Some s)) is = is.installs.publishes.opening
    moved (Install kind root) a b (Err why) is = is.1.nothing.opening
    moved (Renumber kind root) a b (Ok None) is = absurd is
    moved (Renumber kind root) a b (Ok (Some s)) is = is.installs.publishes.opening
    moved (Renumber kind root) a b (Err why) is = is.1.nothing.opening
    moved (Retire floor) a b x is = changed_opening _ _ a b x is
    moved (Down link) a b x is = changed_opening _ _ a b x is
    moved (Up link) a b x is = changed_opening _ _ a b x is
    moved (Avoid link) a b x is = changed_opening _ _ a b x is
    moved (Heed link) a b x is = changed_opening _ _ a b x is
    moved Drain a b x is = ap (λ (k : Controller B). k.opening) is.2

  pub same_injector : (commands : List Command) (a b : Desk B) (answers : List CommandAnswer) → AreCarriedOut was_full commands a answers b → IsSameInjector a.injector b.injector
  same_injector [] a b [] done = (unchanged a.injector b.injector (ap (λ (d : Desk B). d.injector) done)).same
  same_injector [] a b (x ∷ answers) done = absurd done
  same_injector (c ∷ commands) a b [] done = absurd done
  same_injector (c ∷ commands) a b (x ∷ answers) done =
      let p = (carried c a done.0 x done.1).same in
      let q = same_injector commands done.0 b answers done.2 in
      record { opening = q.opening ∙ p.opening; lines = q.lines ∙ p.lines; most = q.most ∙ p.most }

  pub accepted_are : (commands : List Command) (a b : Desk B) (answers : List CommandAnswer) → AreCarriedOut was_full commands a answers b →
      b.injector.accepted.items ≡ a.injector.accepted.items ++ accepted_from (length a.injector.accepted.items) a.injector.newest.epoch commands answers
  accepted_are [] a b [] done = ap (λ (d : Desk B). d.injector.accepted.items) done ∙ sym (append-nil a.injector.accepted.items)
  accepted_are [] a b (x ∷ answers) done = absurd done
  accepted_are (c ∷ commands) a b [] done = absurd done
  accepted_are (c ∷ commands) a b (x ∷ answers) done =
      let p = carried c a done.0 x done.1 in
      let had : List Accepted = a.injector.accepted.items in
      let more : List Accepted = accepted_by (length had) a.injector.newest.epoch c x in
      accepted_are commands done.0 b answers done.2
      ∙ ap (λ (e : ℕ). done.0.injector.accepted.items ++ accepted_from (length done.0.injector.accepted.items) e commands answers) p.newest
      ∙ ap (λ (xs : List Accepted). xs ++ accepted_from (length xs) (epoch_after a.injector.newest.epoch x) commands answers) p.accepted
      ∙ ap (λ (n : ℕ). had ++ more ++ accepted_from n (epoch_after a.injector.newest.epoch x) commands answers) (length-append had more)
      ∙ append_assoc had more (accepted_from (length had + length more) (epoch_after a.injector.newest.epoch x) commands answers)
