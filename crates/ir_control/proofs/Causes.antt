-- What a report says of a packet that is not left, a node settled in one of its turns, for a cause that held.
use Rattle.std.specs.Prelude.{◌≡◌, ◌≢◌, ℕ, ◌<◌, List, All, Some, length, slice_get, slice_index_or}
use Rattle.std.proofs.Common.{arith, sym, subst}
use Rattle.std.proofs.lemmas.Option.{slice_get-get_or, slice_get_within, get_or_from_slice_get}
use mathlib.Core.List.{IsPrefix}
use Rattle.ir_core.specs.declared.packet.Fate.TheVariants.{Left}
use Rattle.ir_core.specs.Record.{Record}
use Rattle.ir_epochs.specs.declared.entry.Entry.{Entry}
use Rattle.ir_epochs.specs.Handles.{known}
use Rattle.ir_links.specs.Ends.{Word}
use Rattle.ir_epochs.specs.Looks.{Look}
use Rattle.ir_worker.specs.declared.node.Node.{Node}
use Rattle.ir_worker.specs.declared.parcel.Outcome.{Outcome}
use Rattle.ir_worker.specs.Seen.{Parcel}
use Rattle.ir_worker.specs.Turns.{AreTurns, HasSettled}
use Rattle.ir_worker.proofs.Settlings.{settled_in, had_cause}
use Rattle.ir_control.specs.declared.injector.Injector.{Injector}
use Rattle.ir_control.specs.declared.net.Net.{Net}
use Rattle.ir_control.specs.declared.report.Report.{Report}
use Rattle.ir_control.specs.Parts.{IsFreshNode}
use Rattle.ir_control.specs.Reports.{IsReport}
use Rattle.ir_control.proofs.Determined.{settled_here}
use Rattle.ir_control.specs.Lives.{HaveTurned, WasSettled}
use Rattle.ir_control.proofs.Agreement.{at_all, all_mapped}

module _ (was_full was_empty : Word Parcel) (looked : Look Parcel) (may_end : ℕ → ℕ → Type 0) (net : Net) (first last : List Node) (injector : Injector) (report : Report) (opening entries : List Entry)
    (count : length last ≡ length first) (fresh : All (IsFreshNode opening) first) (turned : HaveTurned was_full was_empty looked may_end first last)
    (read : All (λ n. IsPrefix (known n.reader) entries) last) (is : IsReport net last injector report) where
  -- the node of a place settled what it has settled
  settled_at : (u : ℕ) (b : Node) → slice_get last u ≡ Some b → (q : ℕ) (o : Outcome) → slice_get b.outcomes.items q ≡ Some o → (r : Record) → o.packet ≡ r → WasSettled was_full was_empty looked entries first last r
  settled_at u b got q o there r same =
      let within = slice_get_within last u b got in
      let lt : u < length first = omega (arith, within, count) in
      let a : Node = slice_index_or first u b in
      let made = turned u b b lt in
      let turns = subst (λ (n : Node). AreTurns was_full was_empty looked a made.0 n) (get_or_from_slice_get last u b b got) made.1 in
      let settled = subst (λ (r : Record). HasSettled was_full was_empty looked a b r) same (settled_in was_full was_empty looked a made.0 b turns (fresh u b lt).unsettled q o there) in
      (u, a, b, slice_get-get_or first u b lt, got, had_cause was_full was_empty looked entries a b r settled (at_all (λ (n : Node). IsPrefix (known n.reader) entries) last read u b got))

  pub causes_are : All (λ r. r.fate ≢ Left → WasSettled was_full was_empty looked entries first last r) report.records.items
  causes_are = subst (All (λ r. r.fate ≢ Left → WasSettled was_full was_empty looked entries first last r)) (sym is.records)
      (all_mapped (λ r. r.fate ≢ Left → WasSettled was_full was_empty looked entries first last r) (λ (o : Outcome). o.packet) is.outcomes
      (λ k o got ended. (let here = settled_here net last injector report is k o got ended in settled_at here.0 here.1 here.2 here.3 here.4 here.5 o.packet here.6)))
