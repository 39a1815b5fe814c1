-- The stamps that a report has are of one registry, and what some of them agree to all do.
use Rattle.std.specs.Prelude.{◌≡◌, ℕ, zero, suc, ◌-◌, List, [], ◌∷◌, ◌++◌, All, Some, length, map, reverse, slice_get, slice_index_or}
use Rattle.std.proofs.Common.{refl, arith, sym, ap, ◌∙◌, subst, get_or}
use Rattle.std.proofs.Math.Logic.{∥∥₁_elim, ∥∥₁_prop}
use Rattle.std.proofs.Math.Nat.{ℕ_set}
use Rattle.std.proofs.lemmas.List.{get_or-reverse, get_or_append_left, get_or_push, length-reverse, length-append}
use Rattle.std.proofs.lemmas.List.Elements.{All-push}
use Rattle.std.proofs.lemmas.Option.{same_Some, none-some, slice_get-get_or, slice_get_within, get_or_from_slice_get}
use Rattle.ir_epochs.specs.declared.registry.Stamp.{Stamp}
use Rattle.ir_epochs.specs.Stamps.{registry_name}
use Rattle.ir_worker.specs.declared.parcel.Outcome.{Outcome}
use Rattle.ir_worker.specs.Seen.{stamps_of}
use Rattle.ir_control.specs.Told.{IsOutcomeIn}
use Rattle.ir_control.proofs.Rowing.{slot_get}
use Rattle.ir_control.specs.Agreed.{AreOfOne, Agrees}

same_list : (xs ys : List ℕ) → ∥ xs ≡ ys ∥₁ → xs ≡ ys
same_list [] [] h = refl
same_list [] (y ∷ ys) h = absurd (∥∥₁_elim h (λ x y. absurd x) (λ e. cc e))
same_list (x ∷ xs) [] h = absurd (∥∥₁_elim h (λ x y. absurd x) (λ e. cc e))
same_list (x ∷ xs) (y ∷ ys) h =
    let first : x ≡ y = ∥∥₁_elim h (ℕ_set _ _) (λ e. cc e) in
    let rest : xs ≡ ys = same_list xs ys (∥∥₁_elim h ∥∥₁_prop (λ e. ∣ cc e ∣₁)) in
    cc (first, rest)

module _ {X : Type 0} (P : X → Type 0) where
  pub all_reverse : (xs : List X) → All P xs → All P (reverse xs)
  all_reverse xs all k d lt =
      let n = length-reverse xs in
      subst P (sym (get_or-reverse xs k d (omega (arith, lt, n)))) (all (length xs - 1 - k) d (omega (arith, lt, n)))

  all_reversed : (xs : List X) → All P (reverse xs) → All P xs
  all_reversed xs all k d lt =
      let n = length-reverse xs in
      let back = get_or-reverse xs (length xs - 1 - k) d (omega (arith, lt)) in
      let at : length xs - 1 - (length xs - 1 - k) ≡ k = omega (arith, lt) in
      subst P (back ∙ ap (λ (j : ℕ). get_or xs j d) at) (all (length xs - 1 - k) d (omega (arith, lt, n)))

  pub all_mapped : {Y : Type 0} (f : Y → X) (ys : List Y) → ((k : ℕ) (y : Y) → slice_get ys k ≡ Some y → P (f y)) → All P (map f ys)
  all_mapped f ys each k d lt =
      let found = slot_get f ys k (slice_index_or (map f ys) k d) (slice_get-get_or (map f ys) k d lt) in
      subst P found.2 (each k found.0 found.1)

  -- of all stamps, and of the first and the later ones
  last_of_all : (xs : List X) (x : X) → All P (xs ++ x ∷ []) → P x
  last_of_all xs x all = subst P (get_or_push xs x x (length xs) refl) (all (length xs) x (let n = length-append xs (x ∷ []) in omega (arith, n)))

  others_of_all : (xs : List X) (x : X) → All P (xs ++ x ∷ []) → All P xs
  others_of_all xs x all k d lt = subst P (get_or_append_left xs (x ∷ []) d k lt) (all k d (let n = length-append xs (x ∷ []) in omega (arith, n, lt)))

module _ (P : Stamp → Type 0) (first : Stamp) (later : List Stamp) where
  pub told_all : P first → All P later → All P (stamps_of first later)
  told_all one rest = All-push P (reverse later) first (all_reverse P later rest) one

  told_first : All P (stamps_of first later) → P first
  told_first all = last_of_all P (reverse later) first all

  told_later : All P (stamps_of first later) → All P later
  told_later all = all_reversed P later (others_of_all P (reverse later) first all)

-- the stamps of an outcome are of the registry of the opening's
names : (opening : Stamp) (o : Outcome) → IsOutcomeIn opening o → All (λ s. registry_name s ≡ registry_name opening) (stamps_of o.stamp o.later.items)
names opening o of k d lt = same_list _ _ (∥∥₁_elim of ∥∥₁_prop (λ all. ∣ (all k d lt).0 ∣₁))

of_one : (opening s : Stamp) (plans : List Stamp) → AreOfOne opening plans → registry_name s ≡ registry_name opening → AreOfOne s plans
of_one opening s plans all is k d lt = all k d lt ∙ sym is

pub at_all : {X : Type 0} (P : X → Type 0) (xs : List X) → All P xs → (k : ℕ) (x : X) → slice_get xs k ≡ Some x → P x
at_all P xs all k x got = subst P (get_or_from_slice_get xs k x x got) (all k x (slice_get_within xs k x got))

pub get_map : {A B : Type 0} (f : A → B) (xs : List A) (p : ℕ) (x : A) → slice_get xs p ≡ Some x → slice_get (map f xs) p ≡ Some (f x)
get_map f [] p x got = absurd (none-some x got)
get_map f (y ∷ xs) zero x got = ap (λ z. Some (f z)) (same_Some y x got)
get_map f (y ∷ xs) (suc p) x got = get_map f xs p x got

-- the stamps that a report has are of the registry of these
module _ (opening : Stamp) (plans : List Stamp) (registry : AreOfOne opening plans) (outcomes : List Outcome) (of_net : All (IsOutcomeIn opening) outcomes) where
  named : (k : ℕ) (o : Outcome) → slice_get outcomes k ≡ Some o → All (λ s. registry_name s ≡ registry_name opening) (stamps_of o.stamp o.later.items)
  named k o got = names opening o (at_all (IsOutcomeIn opening) outcomes of_net k o got)

  pub first_of_one : (stamps : List Stamp) → stamps ≡ map (λ (o : Outcome). o.stamp) outcomes → All (λ s. AreOfOne s plans) stamps
  first_of_one stamps are = subst (All (λ s. AreOfOne s plans)) (sym are) (all_mapped (λ s. AreOfOne s plans) (λ (o : Outcome). o.stamp) outcomes
      (λ k o got. of_one opening o.stamp plans registry (told_first (λ s. registry_name s ≡ registry_name opening) o.stamp o.later.items (named k o got))))

  pub later_of_one : {V : Type 0} (items : V → List Stamp) (later : Outcome → V) → ((o : Outcome) → items (later o) ≡ o.later.items) → (rows : List V) → rows ≡ map later outcomes → All (λ row. All (λ s. AreOfOne s plans) (items row)) rows
  later_of_one items later same rows are = subst (All (λ row. All (λ s. AreOfOne s plans) (items row))) (sym are) (all_mapped (λ row. All (λ s. AreOfOne s plans) (items row)) later outcomes
      (λ k o got. subst (All (λ s. AreOfOne s plans)) (sym (same o))
      (λ j d lt. of_one opening (slice_index_or o.later.items j d) plans registry (told_later (λ s. registry_name s ≡ registry_name opening) o.stamp o.later.items (named k o got) j d lt))))

-- what the first stamps and the later ones of a report agree to, all stamps of an outcome do
pub all_agree : (plans : List Stamp) (outcomes : List Outcome) (stamps : List Stamp) → stamps ≡ map (λ (o : Outcome). o.stamp) outcomes → All (λ s. Agrees plans s) stamps
    → {V : Type 0} (items : V → List Stamp) (later : Outcome → V) → ((o : Outcome) → items (later o) ≡ o.later.items) → (rows : List V) → rows ≡ map later outcomes → All (λ row. All (λ s. Agrees plans s) (items row)) rows
    → (k : ℕ) (o : Outcome) → slice_get outcomes k ≡ Some o → All (λ s. Agrees plans s) (stamps_of o.stamp o.later.items)
all_agree plans outcomes stamps are first items later same rows rows_are rest k o got =
    let one = at_all (λ s. Agrees plans s) stamps first k o.stamp (ap (λ (xs : List Stamp). slice_get xs k) are ∙ get_map (λ (o : Outcome). o.stamp) outcomes k o got) in
    let row = at_all (λ row. All (λ s. Agrees plans s) (items row)) rows rest k (later o) (ap (λ xs. slice_get xs k) rows_are ∙ get_map later outcomes k o got) in
    told_all (λ s. Agrees plans s) o.stamp o.later.items one (subst (All (λ s. Agrees plans s)) (same o) row)
