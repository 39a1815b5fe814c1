use Rattle.ir_control.proofs.channels.inboxes_of.Goals as goal
use Rattle.std.specs.Prelude.{ℕ, ◌≡◌, ◌+◌, ◌∷◌, [], ◌++◌, List, Some, slice_get, length}
use Rattle.std.proofs.Common.{◌∙◌, subst, sym, arith, inl, inr}
use Rattle.std.proofs.lemmas.List.{length_push}
use Rattle.ir_core.proofs.Lists.{get_push}
use Rattle.ir_links.specs.Ends.{Channel}
use Rattle.ir_epochs.specs.declared.registry.Stamp.{Stamp}
use Rattle.ir_worker.specs.declared.parcel.Place.{Place}
use Rattle.ir_control.specs.Wired.{IsNetChannel}

abbrev AreSoFar : Stamp → ℕ → ℕ → ℕ → List (Channel Place) → Type 0
AreSoFar opening restamps capacity u lines = (length lines ≡ u) × ((v : ℕ) (channel : Channel Place) → slice_get lines v ≡ Some channel → IsNetChannel opening restamps capacity v v channel)

more : (opening : Stamp) (restamps capacity u : ℕ) (lines : List (Channel Place)) (channel : Channel Place) → AreSoFar opening restamps capacity u lines → IsNetChannel opening restamps capacity u u channel
    → AreSoFar opening restamps capacity (u + 1) (lines ++ channel ∷ [])
more opening restamps capacity u lines channel far here = (
  (let n = length_push lines channel in let m = far.0 in omega (arith, n, m)),
  λ v x got. elim (get_push lines v channel x got) [
    | inl e ↦ subst (λ (x : Channel Place). IsNetChannel opening restamps capacity v v x) e.1 (subst (λ (w : ℕ). IsNetChannel opening restamps capacity w w channel) (sym (e.0 ∙ far.0)) here)
    | inr e ↦ far.1 v x e.1
  ],
)

pub loop-u-preserved : goal.loop-u-preserved
loop-u-preserved c =
    subst (λ (lines : List (Channel Place)). AreSoFar c.args.terms.now.opening.now c.args.terms.now.restamps c.args.terms.now.capacity (c.loop-u.u + 1) lines) (sym c.in_ok-push.ensures.items)
    (more c.args.terms.now.opening.now c.args.terms.now.restamps c.args.terms.now.capacity c.loop-u.u c.loop-u.inboxes.items c.in_ok-channel.field-0 c.loop-u.invariant c.in_ok-channel.ensures)
