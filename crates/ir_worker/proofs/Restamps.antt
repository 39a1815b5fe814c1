-- Restamps of a node are of epochs that were current on the board that it reads.
use Rattle.std.specs.Prelude.{◌≡◌, ℕ, ◌+◌, ◌-◌, ◌≤◌, Bool, true, false, nat_le, nat_lt, cond, Some, None, List, [], ◌∷◌, ◌++◌, length, take}
use Rattle.std.proofs.Common.{refl, sym, ap, ◌∙◌, arith}
use Rattle.std.proofs.lemmas.Grind.{common_steps}
use mathlib.Core.List.{IsPrefix}
use Rattle.std.proofs.lemmas.Bool.{leb-true}
use Rattle.std.proofs.lemmas.List.{take-append-le, take_all}
use Rattle.std.proofs.lemmas.List.Sums.{sum_by_push}
use Rattle.ir_model.specs.declared.Hop.{Hop}
use Rattle.ir_core.specs.declared.board.Board.{Board}
use Rattle.ir_core.specs.declared.event.Way.{Way}
use Rattle.ir_core.specs.declared.event.Verdict.{Verdict}
use Rattle.ir_core.specs.declared.event.Verdict.TheVariants.{CameByDown, BelowFloor, Arrives, LeavesByDown, NoRoom, GoesOn}
use Rattle.ir_core.specs.declared.packet.Restamp.{Restamp}
use Rattle.ir_core.specs.Entry.{restamp_by, hops_here}
use Rattle.ir_epochs.specs.declared.entry.Entry.{Entry}
use Rattle.ir_epochs.specs.declared.registry.Stamp.{Stamp}
use Rattle.ir_epochs.specs.Entries.{board_of}
use Rattle.ir_worker.specs.declared.parcel.Outcome.{Outcome}
use Rattle.ir_worker.specs.Seen.{Parcel}
use Rattle.ir_worker.specs.Account.{restamps_with, NeverCurrent, AreRestampsKnown}
use Rattle.ir_worker.specs.Acts.{restamp_on, with_restamp, parcel_verdict, GoesOnAs, SettlesAs}
use Rattle.ir_worker.specs.Wires.{In, Out, TookAt, SentOver}
use Rattle.ir_worker.proofs.Counts.{even_sent, even_settled, same_even}

-- what was never current on a board was not before
pub never_earlier : (p : ℕ → Bool) (old new : List Entry) → IsPrefix old new → NeverCurrent p new → NeverCurrent p old
never_earlier p old new is never n = by_length (nat_le n (length old)) refl
  where
    within : (k : ℕ) → k ≤ length old → p (board_of (take k old)).current ≡ false
    within k le = ap (λ (xs : List Entry). p (board_of xs).current) (sym (ap (take k) (sym is.1) ∙ take-append-le k old is.0 le)) ∙ never k

    by_length : (b : Bool) → nat_le n (length old) ≡ b → p (board_of (take n old)).current ≡ false
    by_length true e = within n (leb-true n (length old) e)
    by_length false e =
        let beyond : length old ≤ n = grind (arith, common_steps) in
        ap (λ (xs : List Entry). p (board_of xs).current) (take_all n old beyond ∙ sym (take_all (length old) old (omega arith))) ∙ within (length old) (omega arith)

pub never_now : (p : ℕ → Bool) (entries : List Entry) → NeverCurrent p entries → p (board_of entries).current ≡ false
never_now p entries never = ap (λ (xs : List Entry). p (board_of xs).current) (sym (take_all (length entries) entries (omega arith))) ∙ never (length entries)

-- a restamp is of the current epoch
module _ (p : ℕ → Bool) (b : Board) (none : p b.current ≡ false) (x : Parcel) (current : Stamp) (way : Way) (u : ℕ) where
  by_left : (r : Bool) → restamps_with p (with_restamp (cond r (Some b.current) None) current way u x).packet ≡ restamps_with p x.packet
  by_left true =
      let s : Restamp = record { epoch = b.current; from = length (hops_here way u x.packet.hops) - 1 } in
      let here : cond {A = ℕ} (p b.current) 1 0 ≡ 0 = ap (λ (r : Bool). cond {A = ℕ} r 1 0) none in
      sum_by_push (λ (s : Restamp). cond (p s.epoch) 1 0) x.packet.restamps s ∙ ap (λ (k : ℕ). restamps_with p x.packet + k) here
      ∙ (let z : restamps_with p x.packet + 0 ≡ restamps_with p x.packet = omega arith in z)
  by_left false = refl

  by_verdict : (k : ℕ) (v : Verdict) → restamps_with p (with_restamp (restamp_by k b.current v) current way u x).packet ≡ restamps_with p x.packet
  by_verdict k (CameByDown l) = refl
  by_verdict k BelowFloor = by_left (nat_lt 0 k)
  by_verdict k Arrives = refl
  by_verdict k (LeavesByDown l) = refl
  by_verdict k (NoRoom h) = refl
  by_verdict k (GoesOn h) = refl

  pub ready_weighs : (allowed : ℕ) → restamps_with p (with_restamp (restamp_on allowed x b way u) current way u x).packet ≡ restamps_with p x.packet
  ready_weighs allowed = by_verdict (allowed - length x.packet.restamps) (parcel_verdict x b false way u)

-- what a node keeps where it reads on
pub known_later : (old new : List Entry) (inbox : In) (ins : List In) (outs : List Out) (outcomes outcomes' : List Outcome) → AreRestampsKnown old inbox ins outs outcomes → IsPrefix old new → outcomes' ≡ outcomes → AreRestampsKnown new inbox ins outs outcomes'
known_later old new inbox ins outs outcomes outcomes' known is same p never =
    same_even (restamps_with p) inbox inbox ins ins outs outcomes outcomes' (known p (never_earlier p old new is never)) refl refl same

pub known_same : (entries : List Entry) (inbox : In) (ins : List In) (outs : List Out) (outcomes outcomes' : List Outcome) → AreRestampsKnown entries inbox ins outs outcomes → outcomes' ≡ outcomes → AreRestampsKnown entries inbox ins outs outcomes'
known_same entries inbox ins outs outcomes outcomes' known same p never = same_even (restamps_with p) inbox inbox ins ins outs outcomes outcomes' (known p never) refl refl same

module _ (old new : List Entry) (is : IsPrefix old new) (b : Board) (board : b ≡ board_of new) (allowed : ℕ) (x x' : Parcel) (current : Stamp) (way : Way) (u : ℕ)
    (ready : x' ≡ with_restamp (restamp_on allowed x b way u) current way u x) where
  weighs : (p : ℕ → Bool) → NeverCurrent p new → restamps_with p x'.packet ≡ restamps_with p x.packet
  weighs p never = ap (λ (y : Parcel). restamps_with p y.packet) ready ∙ ready_weighs p b (ap (λ (z : Board). p z.current) board ∙ never_now p new never) x current way u allowed

  -- a parcel that was taken and sent on
  pub known_sent : (inbox : In) (ins : List In) (inbox' : In) (ins' : List In) (outs outs' : List Out) (outcomes outcomes' : List Outcome) → AreRestampsKnown old inbox ins outs outcomes →
      (k : ℕ) → TookAt inbox ins inbox' ins' x k → (way' : Way) (h : Hop) (q : Parcel) → GoesOnAs b way' u x' h q → (ports : List Hop) → SentOver ports outs outs' h q → outcomes' ≡ outcomes →
      AreRestampsKnown new inbox' ins' outs' outcomes'
  known_sent inbox ins inbox' ins' outs outs' outcomes outcomes' known k took way' h q on ports sent kept p never =
      even_sent (restamps_with p) inbox ins inbox' ins' outs outs' outcomes outcomes' (known p (never_earlier p old new is never)) x q k took ports h sent
      (ap (restamps_with p) on.packet ∙ weighs p never) kept

  -- a parcel that was taken and settled
  pub known_settled : (inbox : In) (ins : List In) (inbox' : In) (ins' : List In) (outs outs' : List Out) (outcomes outcomes' : List Outcome) → AreRestampsKnown old inbox ins outs outcomes →
      (k : ℕ) → TookAt inbox ins inbox' ins' x k → outs' ≡ outs → (way' : Way) (refused : Bool) (v : Verdict) (o : Outcome) → SettlesAs b refused way' u x' v o → outcomes' ≡ outcomes ++ o ∷ [] →
      AreRestampsKnown new inbox' ins' outs' outcomes'
  known_settled inbox ins inbox' ins' outs outs' outcomes outcomes' known k took sent way' refused v o on settled p never =
      even_settled (restamps_with p) inbox ins inbox' ins' outs outs' outcomes outcomes' (known p (never_earlier p old new is never)) x k took sent o settled
      (ap (restamps_with p) on.packet ∙ weighs p never)
