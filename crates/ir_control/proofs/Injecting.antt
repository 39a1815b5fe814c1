-- What an accepted packet adds.
use Rattle.std.specs.Prelude.{◌≡◌, ℕ, ◌+◌, ◌<◌, Bool, cond, List, [], ◌∷◌, ◌++◌, length, slice_get, sum_by}
use Rattle.std.proofs.Common.{arith, sym, ap, ◌∙◌, inl, inr}
use Rattle.std.proofs.lemmas.List.Sums.{sum_by_push, sum_by-set}
use Rattle.std.proofs.lemmas.Option.{get_or_from_slice_get, slice_get_within}
use Rattle.ir_core.proofs.Lists.{get_push}
use Rattle.ir_links.specs.Ends.{Sender}
use Rattle.ir_worker.specs.declared.parcel.Place.{Place}
use Rattle.ir_worker.specs.Seen.{Parcel}
use Rattle.ir_core.specs.declared.packet.Restamp.{Restamp}
use Rattle.ir_core.specs.Record.{Record}
use Rattle.ir_worker.specs.Account.{Head, one, weigh, weigh_sent, times_sent, restamps_with, head_of}
use Rattle.ir_worker.proofs.Counts.{head_weighs}
use Rattle.ir_control.specs.declared.injector.Accepted.{Accepted}
use Rattle.ir_control.specs.Heads.{head_at, times_injected, AreNumbered}
use Rattle.ir_control.specs.Outs.{SentTo}
use Rattle.std.specs.Prelude.{None}
use Rattle.std.proofs.lemmas.Bool.Decides.{nat_tests}
use Rattle.ir_core.specs.Refusals.{inject_refused}

pub numbered_more : (xs ys : List Accepted) (a : Accepted) → ys ≡ xs ++ a ∷ [] → a.id ≡ length xs → AreNumbered xs → AreNumbered ys
numbered_more xs ys a e id_is numbered = λ k b got.
    elim (get_push xs k a b (ap (λ (l : List Accepted). slice_get l k) (sym e) ∙ got)) [
      | inl h ↦ ap (λ (x : Accepted). x.id) (sym h.1) ∙ id_is ∙ sym h.0
      | inr h ↦ numbered k b h.1
    ]

-- a parcel that was sent weighs with those that were
sent_more : (before after : List (Sender Place Parcel)) (u : ℕ) (x : Parcel) → SentTo before after u x → (w : Record → ℕ) → weigh_sent w after ≡ weigh_sent w before + w x.packet
sent_more before after u x sent w =
    let s = sent.0 in
    let new : Sender Place Parcel = record s { sent = s.sent ++ x ∷ [] } in
    let within = slice_get_within before u s sent.1 in
    let set = sum_by-set (λ (s : Sender Place Parcel). weigh w s.sent) before u new s within in
    let read = ap (λ (s : Sender Place Parcel). weigh w s.sent) (get_or_from_slice_get before u s s sent.1) in
    let after_is = ap (weigh_sent w) sent.2 in
    let more = sum_by_push (λ (x : Parcel). w x.packet) s.sent x in
    omega (arith, set, read, after_is, more)

pub account_more : (before after : List (Sender Place Parcel)) (u : ℕ) (x : Parcel) (xs ys : List Accepted) (a : Accepted)
    → SentTo before after u x → ys ≡ xs ++ a ∷ [] → head_of x.packet ≡ head_at a → ((p : Head → Bool) → times_sent p before ≡ times_injected p xs)
    → (p : Head → Bool) → times_sent p after ≡ times_injected p ys
account_more before after u x xs ys a sent e same account p =
    let more = sent_more before after u x sent (head_weighs p) in
    let injected = ap (times_injected p) e ∙ sum_by_push (λ (a : Accepted). one p (head_at a)) xs a in
    let heads = ap (one p) same in
    let was = account p in
    omega (arith, more, injected, heads, was)

-- a parcel that had no restamp adds none
pub fresh_more : (before after : List (Sender Place Parcel)) (u : ℕ) (x : Parcel) → SentTo before after u x → x.packet.restamps ≡ []
    → ((p : ℕ → Bool) → weigh_sent (restamps_with p) before ≡ 0) → (p : ℕ → Bool) → weigh_sent (restamps_with p) after ≡ 0
fresh_more before after u x sent none fresh p =
    let more = sent_more before after u x sent (restamps_with p) in
    let nothing : restamps_with p x.packet ≡ 0 = ap (sum_by (λ (s : Restamp). cond {A = ℕ} (p s.epoch) 1 0)) none in
    let was = fresh p in
    omega (arith, more, nothing, was)

pub not_refused : (nodes most count source dest : ℕ) → source < nodes → dest < nodes → count < most → inject_refused nodes most count source dest ≡ None
not_refused nodes most count source dest a b d = grind (arith, nat_tests)
