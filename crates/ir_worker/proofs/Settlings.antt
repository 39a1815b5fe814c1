-- What a node has settled, it settled in one of its turns.
use Rattle.std.specs.Prelude.{◌≡◌, ℕ, List, [], ◌∷◌, Some, slice_get}
use Rattle.std.proofs.Common.{refl, sym, ap, ◌∙◌, subst, inl, inr}
use Rattle.std.proofs.lemmas.Option.{none-some}
use mathlib.Core.List.{IsPrefix}
use Rattle.ir_model.specs.declared.Hop.{Hop}
use Rattle.ir_core.specs.declared.event.Verdict.{Verdict}
use Rattle.ir_core.specs.declared.event.Verdict.TheVariants.{CameByDown, BelowFloor, Arrives, LeavesByDown, NoRoom, GoesOn}
use Rattle.ir_core.specs.declared.packet.Fate.{Fate}
use Rattle.ir_core.specs.Entry.{fate_of}
use Rattle.ir_core.specs.Record.{Record}
use Rattle.ir_core.proofs.Lists.{get_push}
use Rattle.ir_epochs.specs.declared.entry.Entry.{Entry}
use Rattle.ir_epochs.specs.Handles.{known}
use Rattle.ir_epochs.proofs.Fronts.{prefix_self, prefix_trans}
use Rattle.ir_links.specs.Ends.{Word}
use Rattle.ir_epochs.specs.Looks.{Look}
use Rattle.ir_worker.specs.declared.node.Node.{Node}
use Rattle.ir_worker.specs.declared.node.Turn.{Turn}
use Rattle.ir_worker.specs.declared.node.Turn.TheVariants.{Idle, Sent, Settled}
use Rattle.ir_worker.specs.declared.parcel.Outcome.{Outcome}
use Rattle.ir_worker.specs.Account.{Head, head_of}
use Rattle.ir_worker.specs.Acts.{CauseHolds}
use Rattle.ir_worker.specs.Seen.{Parcel}
use Rattle.ir_worker.specs.Turns.{board_in, restamp_in, IsTurn, AreTurns, HasSettled, HadCause}
use Rattle.ir_worker.specs.Wires.{Out, WasFullFor, WasFullBy}
use Rattle.ir_worker.proofs.Nodes.{head_with}

module _ (was_full was_empty : Word Parcel) (looked : Look Parcel) where
  -- with one turn more
  more : (a m b : Node) (r : Record) (turn : Turn) → HasSettled was_full was_empty looked a m r → IsTurn was_full was_empty looked m b turn → HasSettled was_full was_empty looked a b r
  more a m b r turn h step = record {
    earlier = h.earlier;
    before = h.before;
    made_earlier = h.made_earlier;
    after = h.after;
    turn = h.turn;
    told = h.told;
    later = turn ∷ h.later;
    made_later = (m, h.made_later, step);
  }

  -- the packet of the outcome has the number that the turn says
  number : (m b : Node) (id : ℕ) (step : IsTurn was_full was_empty looked m b (Settled id)) → id ≡ step.does.outcome.packet.id
  number m b id step =
      let s = step.does in
      sym (ap (λ (h : Head). h.id) (ap head_of s.settled.packet ∙ head_with (restamp_in m b s.parcel s.way) s.current s.way m.index s.parcel) ∙ s.number)

  -- in the last turn
  now : (a m b : Node) (turns : List Turn) (id : ℕ) → AreTurns was_full was_empty looked a turns m → (step : IsTurn was_full was_empty looked m b (Settled id)) → (r : Record) → step.does.outcome.packet ≡ r → HasSettled was_full was_empty looked a b r
  now a m b turns id made step r told =
      let s = subst (λ (i : ℕ). (step : IsTurn was_full was_empty looked m b (Settled i)) × (step.does.outcome.packet ≡ r)) (number m b id step ∙ ap (λ (r : Record). r.id) told) (step, told) in
      record { earlier = turns; before = m; made_earlier = made; after = b; turn = s.0; told = s.1; later = []; made_later = refl }

  pub settled_in : (a : Node) (turns : List Turn) (b : Node) → AreTurns was_full was_empty looked a turns b → a.outcomes.items ≡ [] → (q : ℕ) (o : Outcome) → slice_get b.outcomes.items q ≡ Some o → HasSettled was_full was_empty looked a b o.packet
  settled_in a [] b made none q o got =
      absurd (none-some o (ap (λ (xs : List Outcome). slice_get xs q) (sym none) ∙ ap (λ (n : Node). slice_get n.outcomes.items q) made ∙ got))
  settled_in a (Idle ∷ turns) b made none q o got =
      more a made.0 b o.packet Idle (settled_in a turns made.0 made.1 none q o (ap (λ (xs : List Outcome). slice_get xs q) (sym made.2.does.0.outcomes) ∙ got)) made.2
  settled_in a (Sent id to ∷ turns) b made none q o got =
      more a made.0 b o.packet (Sent id to) (settled_in a turns made.0 made.1 none q o (ap (λ (xs : List Outcome). slice_get xs q) (sym made.2.does.outcomes) ∙ got)) made.2
  settled_in a (Settled id ∷ turns) b made none q o got =
      let s = made.2.does in
      elim (get_push made.0.outcomes.items q s.outcome o (ap (λ (xs : List Outcome). slice_get xs q) (sym s.outcomes) ∙ got)) [
        | inl h ↦ now a made.0 b turns id made.1 made.2 o.packet (ap (λ (x : Outcome). x.packet) h.1)
        | inr h ↦ more a made.0 b o.packet (Settled id) (settled_in a turns made.0 made.1 none q o h.1) made.2
      ]

  -- a node never knows less of the board
  known_more : (a : Node) (turns : List Turn) (b : Node) → AreTurns was_full was_empty looked a turns b → IsPrefix (known a.reader) (known b.reader)
  known_more a [] b made = subst (λ (n : Node). IsPrefix (known a.reader) (known n.reader)) made (prefix_self (known a.reader))
  known_more a (turn ∷ turns) b made = prefix_trans (known a.reader) (known made.0.reader) (known b.reader) (known_more a turns made.0 made.1) made.2.later

  -- the fate is that of the verdict
  full_by : (ports : List Hop) (outs : List Out) (v : Verdict) (f : Fate) → fate_of v ≡ f → WasFullFor was_full ports outs v → WasFullBy was_full ports outs f
  full_by ports outs v f same full = subst (λ (f : Fate). WasFullBy was_full ports outs f) same (by_case v full)
    where
      by_case : (v : Verdict) → WasFullFor was_full ports outs v → WasFullBy was_full ports outs (fate_of v)
      by_case (CameByDown l) full = tt
      by_case BelowFloor full = tt
      by_case Arrives full = tt
      by_case (LeavesByDown l) full = tt
      by_case (NoRoom h) full = (h, full, refl, refl)
      by_case (GoesOn h) full = tt

  pub had_cause : (entries : List Entry) (a b : Node) (r : Record) → HasSettled was_full was_empty looked a b r → IsPrefix (known b.reader) entries → HadCause was_full was_empty looked entries a b r
  had_cause entries a b r settled read =
      let s = settled.turn.does in
      record {
        settled = settled;
        read = prefix_trans (known settled.after.reader) (known b.reader) entries (known_more settled.after settled.later b settled.made_later) read;
        held = subst (λ (r : Record). CauseHolds (board_in settled.after) r r.fate) settled.told s.cause;
        full = full_by settled.before.ports.items settled.before.outs.items s.verdict r.fate (ap (λ (r : Record). r.fate) (sym s.settled.packet ∙ settled.told)) s.full;
      }
