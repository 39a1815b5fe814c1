-- What is left in the channels of a net is of the net, and has no more restamps than it allows.
use Rattle.std.specs.Prelude.{◌≡◌, ℕ, List, [], ◌∷◌, ◌++◌, All, length, slice_index_or}
use Rattle.std.proofs.Common.{arith, subst, sym}
use Rattle.std.proofs.lemmas.List.{length_push}
use Rattle.std.proofs.lemmas.List.Elements.{All-append}
use Rattle.std.proofs.Math.Seq.{get_or-append_seam}
use Rattle.std.proofs.Math.ListN.{get_or-append}
use Rattle.ir_epochs.specs.declared.registry.Stamp.{Stamp}
use Rattle.ir_links.specs.Ends.{Taker}
use Rattle.ir_worker.specs.declared.parcel.Place.{Place}
use Rattle.ir_worker.specs.Seen.{Parcel, GoesTo}
use Rattle.ir_control.specs.Whole.{AreOfNet, AreTakersOf, IsParcelOf, IsFew}

pub all_front : {X : Type 0} (P : X → Type 0) (xs ys : List X) (x : X) → ys ≡ xs ++ x ∷ [] → All P ys → All P xs
all_front P xs ys x e all = λ k d lt.
    (let n = length_push xs x in
    let more : All P (xs ++ x ∷ []) = subst (All P) e all in
    subst P (get_or-append xs (x ∷ []) d k lt) (more k d (omega (arith, lt, n))))

pub all_last : {X : Type 0} (P : X → Type 0) (xs ys : List X) (x : X) → ys ≡ xs ++ x ∷ [] → All P ys → P x
all_last P xs ys x e all =
    let n = length_push xs x in
    let more : All P (xs ++ x ∷ []) = subst (All P) e all in
    subst P (get_or-append_seam xs x [] x) (more (length xs) x (omega (arith, n)))

abbrev IsPlaced : Stamp → Taker Place Parcel → Type 0
IsPlaced o t = t.channel.place.opening ≡ o

places_rest : (o : Stamp) (takers rest : List (Taker Place Parcel)) (t : Taker Place Parcel) → takers ≡ rest ++ t ∷ [] → All (IsPlaced o) takers → All (IsPlaced o) rest
places_rest o takers rest t e all = all_front (IsPlaced o) rest takers t e all

place_last : (o : Stamp) (takers rest : List (Taker Place Parcel)) (t : Taker Place Parcel) → takers ≡ rest ++ t ∷ [] → All (IsPlaced o) takers → t.channel.place.opening ≡ o
place_last o takers rest t e all = all_last (IsPlaced o) rest takers t e all

abbrev IsIn : Stamp → Parcel → Type 0
IsIn o x = IsParcelOf o x

all_left : (o : Stamp) (left more after : List Parcel) (t : Taker Place Parcel) → after ≡ left ++ more → All (IsIn o) left → t.channel.place.opening ≡ o
    → All (λ x. GoesTo x t.channel.place) more → All (IsIn o) after
all_left o left more after t e all at goes =
    subst (All (IsIn o)) (sym e)
    (All-append (IsIn o) left more all (λ k d lt. subst (λ (s : Stamp). IsParcelOf s (slice_index_or more k d)) at (goes k d lt).of_net))

abbrev IsLimited : ℕ → Taker Place Parcel → Type 0
IsLimited limit t = t.channel.place.restamps ≡ limit

limits_rest : (limit : ℕ) (takers rest : List (Taker Place Parcel)) (t : Taker Place Parcel) → takers ≡ rest ++ t ∷ [] → All (IsLimited limit) takers → All (IsLimited limit) rest
limits_rest limit takers rest t e all = all_front (IsLimited limit) rest takers t e all

limit_last : (limit : ℕ) (takers rest : List (Taker Place Parcel)) (t : Taker Place Parcel) → takers ≡ rest ++ t ∷ [] → All (IsLimited limit) takers → t.channel.place.restamps ≡ limit
limit_last limit takers rest t e all = all_last (IsLimited limit) rest takers t e all

few_left : (limit : ℕ) (left more after : List Parcel) (t : Taker Place Parcel) → after ≡ left ++ more → All (IsFew limit) left → t.channel.place.restamps ≡ limit
    → All (λ x. GoesTo x t.channel.place) more → All (IsFew limit) after
few_left limit left more after t e all at goes =
    subst (All (IsFew limit)) (sym e)
    (All-append (IsFew limit) left more all (λ k d lt. subst (λ (n : ℕ). IsFew n (slice_index_or more k d)) at (goes k d lt).few))

-- the takers before the last one are of the net
pub takers_rest : (o : Stamp) (limit : ℕ) (takers rest : List (Taker Place Parcel)) (t : Taker Place Parcel) → takers ≡ rest ++ t ∷ [] → AreTakersOf o limit takers → AreTakersOf o limit rest
takers_rest o limit takers rest t e are = record { places = places_rest o takers rest t e are.places; limits = limits_rest limit takers rest t e are.limits }

-- what is left in the channel of the last one is of the net
pub left_of_net : (o : Stamp) (limit : ℕ) (left more after : List Parcel) (takers rest : List (Taker Place Parcel)) (t : Taker Place Parcel) → after ≡ left ++ more → takers ≡ rest ++ t ∷ []
    → AreOfNet o limit left → AreTakersOf o limit takers → All (λ x. GoesTo x t.channel.place) more → AreOfNet o limit after
left_of_net o limit left more after takers rest t e popped of are goes = record {
  each = all_left o left more after t e of.each (place_last o takers rest t popped are.places) goes;
  few = few_left limit left more after t e of.few (limit_last limit takers rest t popped are.limits) goes;
}
