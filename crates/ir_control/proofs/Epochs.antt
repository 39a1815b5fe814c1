-- Records whose stamps know the plans of the epochs that were installed.
use Rattle.std.specs.Prelude.{◌≡◌, ℕ, zero, suc, ◌+◌, ◌≤◌, ◌==◌, Bool, true, false, not, cond, nat_lt, List, [], ◌∷◌, ◌++◌, All, Some, None, Ok, Err, length, map, reverse, slice_get}
use Rattle.std.proofs.Common.{refl, sym, ap, ◌∙◌, arith, eq-eqb}
use Rattle.std.specs.List.{AllByRecursion}
use Rattle.std.proofs.lemmas.Bool.{eqb-true}
use Rattle.std.proofs.lemmas.Option.{same_Some, none-some}
use Rattle.std.proofs.Math.Logic.{∥∥₁_elim, ∥∥₁_prop}
use Rattle.ir_core.specs.declared.packet.Restamp.{Restamp}
use Rattle.ir_core.specs.declared.command.Command.{Command}
use Rattle.ir_core.specs.declared.command.Command.TheVariants.{Inject, Install, Renumber, Retire, Down, Up, Avoid, Heed, Drain}
use Rattle.ir_core.specs.Record.{Record, segments, segments_in, until}
use Rattle.ir_core.specs.Sound.{IsSoundBy, IsSoundRecord}
use Rattle.ir_epochs.specs.declared.registry.Stamp.{Stamp}
use Rattle.ir_epochs.specs.Stamps.{knows}
use Rattle.ir_worker.specs.declared.parcel.Outcome.{Outcome}
use Rattle.ir_worker.specs.Account.{Head, head_of}
use Rattle.ir_worker.specs.Seen.{EachBy, IsSoundByStamp, IsSoundByStamps}
use Rattle.ir_control.specs.declared.injector.Accepted.{Accepted}
use Rattle.ir_control.specs.Heads.{head_at}
use Rattle.ir_control.specs.Agreed.{Agrees}
use Rattle.ir_control.specs.Answers.{CommandAnswer, epoch_after, accepted_by, accepted_from}
use Rattle.ir_control.specs.Planned.{planned, stamps_in, IsPlanIn}
use Rattle.ir_control.proofs.Agreement.{all_reverse}

by_recursion : {X : Type 0} (P : X → Type 0) (xs : List X) → All P xs → AllByRecursion P xs
by_recursion P [] all = tt
by_recursion P (x ∷ xs) all = (all 0 x (omega arith), by_recursion P xs (λ k d lt. all (suc k) d (omega arith)))

-- whether an epoch is that of one of these stamps
abbrev pub among : List Stamp → ℕ → Bool
among [] e = false
among (s ∷ stamps) e = cond (s.epoch == e) true (among stamps e)

among_first : (s : Stamp) (stamps : List Stamp) → among (s ∷ stamps) s.epoch ≡ true
among_first s stamps = ap (λ (b : Bool). cond b true (among stamps s.epoch)) (eq-eqb s.epoch s.epoch refl)

among_more : (s : Stamp) (stamps : List Stamp) (e : ℕ) → among stamps e ≡ true → among (s ∷ stamps) e ≡ true
among_more s stamps e there = by (s.epoch == e)
  where
    by : (b : Bool) → cond b true (among stamps e) ≡ true
    by true = refl
    by false = there

-- all of them are among them
among_whole : (whole stamps : List Stamp) → ((e : ℕ) → among stamps e ≡ true → among whole e ≡ true) → AllByRecursion (λ s. among whole s.epoch ≡ true) stamps
among_whole whole [] up = tt
among_whole whole (s ∷ stamps) up = (up s.epoch (among_first s stamps), among_whole whole stamps (λ e there. up e (among_more s stamps e there)))

pub all_among : (stamps : List Stamp) → AllByRecursion (λ s. among stamps s.epoch ≡ true) stamps
all_among stamps = among_whole stamps stamps (λ e there. there)

pub none_beside : (whole stamps : List Stamp) → AllByRecursion (λ s. among whole s.epoch ≡ true) stamps → AllByRecursion (λ s. not (among whole s.epoch) ≡ false) stamps
none_beside whole [] all = tt
none_beside whole (s ∷ stamps) all = (ap not all.0, none_beside whole stamps all.1)

pub not_beside : (b : Bool) → not b ≡ false → b ≡ true
not_beside true e = refl
not_beside false e = absurd (cc e)

-- a stamp that knows the plan of each of them of its epoch, where one is of its epoch, knows that epoch's plan
in_plans : (stamps : List Stamp) (s : Stamp) (e : ℕ) → among stamps e ≡ true → s.epoch ≡ e → AllByRecursion (λ t. s.epoch ≡ t.epoch → knows s ≡ knows t) stamps → IsPlanIn (planned stamps) e (knows s)
in_plans [] s e there same all = absurd (cc there)
in_plans (t ∷ stamps) s e there same all = by (t.epoch == e) refl (λ k. in_plans stamps s e k same all.1)
  where
    by : (b : Bool) → (t.epoch == e) ≡ b → (among stamps e ≡ true → IsPlanIn (planned stamps) e (knows s)) → IsPlanIn (planned (t ∷ stamps)) e (knows s)
    by true is later =
        let epoch : t.epoch ≡ e = eqb-true t.epoch e is in
        let plan : knows t ≡ knows s = sym (all.0 (same ∙ sym epoch)) in
        (0, omega arith, λ i. record { epoch = epoch i; plan = plan i })
    by false is later =
        let rest = later (sym (ap (λ (b : Bool). cond b true (among stamps e)) is) ∙ there) in
        (suc rest.0, (let lt = rest.1 in omega (arith, lt)), rest.2)

-- the epochs of the packets that were put in
appended : {X : Type 0} (P : X → Type 0) (xs ys : List X) → AllByRecursion P xs → AllByRecursion P ys → AllByRecursion P (xs ++ ys)
appended P [] ys a b = b
appended P (x ∷ xs) ys a b = (a.0, appended P xs ys a.1 b)

module _ (whole : List Stamp) where
  entered : (id epoch : ℕ) (c : Command) (x : CommandAnswer) → among whole epoch ≡ true → AllByRecursion (λ (a : Accepted). among whole a.epoch ≡ true) (accepted_by id epoch c x)
  entered id epoch (Inject source dest) (Ok installed) there = (there, tt)
  entered id epoch (Inject source dest) (Err why) there = tt
  entered id epoch (Install kind root) x there = tt
  entered id epoch (Renumber kind root) x there = tt
  entered id epoch (Retire floor) x there = tt
  entered id epoch (Down link) x there = tt
  entered id epoch (Up link) x there = tt
  entered id epoch (Avoid link) x there = tt
  entered id epoch (Heed link) x there = tt
  entered id epoch Drain x there = tt

  after : (epoch : ℕ) (x : CommandAnswer) (answers : List CommandAnswer) → among whole epoch ≡ true → AllByRecursion (λ s. among whole s.epoch ≡ true) (stamps_in (x ∷ answers)) →
      (among whole (epoch_after epoch x) ≡ true) × AllByRecursion (λ s. among whole s.epoch ≡ true) (stamps_in answers)
  after epoch (Ok None) answers there all = (there, all)
  after epoch (Ok (Some s)) answers there all = (by (nat_lt epoch s.epoch), all.1)
    where
      by : (b : Bool) → among whole (cond b s.epoch epoch) ≡ true
      by true = all.0
      by false = there
  after epoch (Err why) answers there all = (there, all)

  pub entered_among : (commands : List Command) (answers : List CommandAnswer) (id epoch : ℕ) → among whole epoch ≡ true → AllByRecursion (λ s. among whole s.epoch ≡ true) (stamps_in answers) →
      AllByRecursion (λ (a : Accepted). among whole a.epoch ≡ true) (accepted_from id epoch commands answers)
  entered_among [] answers id epoch there all = tt
  entered_among (c ∷ commands) [] id epoch there all = tt
  entered_among (c ∷ commands) (x ∷ answers) id epoch there all =
      let next = after epoch x answers there all in
      appended (λ (a : Accepted). among whole a.epoch ≡ true) (accepted_by id epoch c x) _ (entered id epoch c x there) (entered_among commands answers (id + length (accepted_by id epoch c x)) (epoch_after epoch x) next.0 next.1)

  -- so are the first epochs of the records
  pub first_among : (outcomes : List Outcome) (accepted : List Accepted) → map (λ o. head_of o.packet) outcomes ≡ map head_at accepted → AllByRecursion (λ (a : Accepted). among whole a.epoch ≡ true) accepted →
      (i : ℕ) (o : Outcome) → slice_get outcomes i ≡ Some o → among whole o.packet.epoch ≡ true
  first_among [] accepted e all i o at = absurd (none-some o at)
  first_among (x ∷ outcomes) [] e all i o at = absurd (cc e)
  first_among (x ∷ outcomes) (a ∷ accepted) e all zero o at =
      let head : head_of x.packet ≡ head_at a = cc e in
      let here : x ≡ o = same_Some x o at in
      ap (λ (y : Outcome). among whole y.packet.epoch) (sym here) ∙ ap (λ (h : Head). among whole h.epoch) head ∙ all.0
  first_among (x ∷ outcomes) (a ∷ accepted) e all (suc i) o at = first_among outcomes accepted (cc e) all.1 i o at

  -- and those of the segments
  segments_among : (latest : List Restamp) (r : Record) → among whole r.epoch ≡ true → AllByRecursion (λ (s : Restamp). among whole s.epoch ≡ true) latest → AllByRecursion (λ g. among whole g.epoch ≡ true) (segments_in latest r)
  segments_among [] r there all = (there, tt)
  segments_among (s ∷ older) r there all = (all.0, segments_among older (until s r) there all.1)

  each_by : (ss : List Stamp) (gs : List Record) → EachBy IsSoundByStamp ss gs → AllByRecursion (λ s. Agrees whole s) ss → AllByRecursion (λ g. among whole g.epoch ≡ true) gs → AllByRecursion (IsSoundBy (IsPlanIn (planned whole))) gs
  each_by [] [] sound agree there = tt
  each_by [] (g ∷ gs) sound agree there = absurd sound
  each_by (s ∷ ss) [] sound agree there = absurd sound
  each_by (s ∷ ss) (g ∷ gs) sound agree there = (
    record {
      plan = knows s;
      of_epoch = in_plans whole s g.epoch there.0 (sym sound.0.0) (by_recursion (λ t. s.epoch ≡ t.epoch → knows s ≡ knows t) whole agree.0);
      sound = sound.0.1;
    },
    each_by ss gs sound.1 agree.1 there.1,
  )

  -- a record that is sound by its stamps is sound by the plans of its epochs
  pub sound_by_plans : (most : ℕ) (ss : List Stamp) (r : Record) → ∥ IsSoundByStamps ss r ∥₁ → length r.restamps ≤ most → All (λ s. Agrees whole s) ss → among whole r.epoch ≡ true
      → All (λ (s : Restamp). among whole s.epoch ≡ true) r.restamps → ∥ IsSoundRecord most (IsPlanIn (planned whole)) r ∥₁
  sound_by_plans most ss r sound few agree first restamps = ∥∥₁_elim sound ∥∥₁_prop (λ k. ∣ record {
    few = few;
    places = k.places;
    joined = k.joined;
    linked = k.linked;
    rising = k.rising;
    each = each_by ss (segments r) k.each (by_recursion (λ s. Agrees whole s) ss agree)
        (segments_among (reverse r.restamps) r first
        (by_recursion (λ (s : Restamp). among whole s.epoch ≡ true) (reverse r.restamps) (all_reverse (λ (s : Restamp). among whole s.epoch ≡ true) r.restamps restamps)));
  } ∣₁)
