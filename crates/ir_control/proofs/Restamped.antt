-- The restamps that a report has are of epochs that were current on the board that the nodes read.
use Rattle.std.specs.Prelude.{◌≡◌, ℕ, suc, ◌+◌, Bool, true, false, cond, List, [], ◌∷◌, Some, sum_by, slice_get}
use Rattle.std.proofs.Common.{refl, arith, ap, get_or}
use Rattle.std.proofs.lemmas.Option.{get_or_from_slice_get, slice_get_within}
use Rattle.std.proofs.lemmas.List.Sums.{sum_by-cons, get_or-le-sum_by}
use Rattle.ir_core.specs.declared.packet.Restamp.{Restamp}
use Rattle.ir_epochs.specs.Handles.{known}
use Rattle.ir_worker.specs.declared.node.Node.{Node}
use Rattle.ir_worker.specs.declared.parcel.Outcome.{Outcome}
use Rattle.ir_worker.specs.Account.{restamps_with, NeverCurrent}
use Rattle.ir_worker.specs.Seen.{Parcel}
use Rattle.ir_worker.specs.Wires.{Out}
use Rattle.ir_control.specs.declared.injector.Injector.{Injector}
use Rattle.ir_control.specs.declared.net.Net.{Net}
use Rattle.ir_control.specs.declared.report.Report.{Report}
use Rattle.ir_control.specs.Reports.{IsReport}
use Rattle.ir_control.specs.Rowed.{node_settled, node_taken, node_sent}
use Rattle.ir_control.specs.Told.{Told}

none_in : {X : Type 0} (f : X → ℕ) (xs : List X) → sum_by f xs ≡ 0 → (k : ℕ) (x : X) → slice_get xs k ≡ Some x → f x ≡ 0
none_in f xs none k x got =
    let part = get_or-le-sum_by f xs k x (slice_get_within xs k x got) in
    let here : f (get_or xs k x) ≡ f x = ap f (get_or_from_slice_get xs k x x got) in
    omega (arith, part, here, none)

not_passed : (b : Bool) → cond {A = ℕ} b 1 0 ≡ 0 → b ≡ false
not_passed true e = absurd (cc e)
not_passed false e = refl

module _ (p : ℕ → Bool) where
  abbrev of_parcel : Parcel → ℕ
  of_parcel x = restamps_with p x.packet

  abbrev of_outcome : Outcome → ℕ
  of_outcome o = restamps_with p o.packet

  nodes_even : (nodes : List Node) → ((k : ℕ) (n : Node) → slice_get nodes k ≡ Some n → NeverCurrent p (known n.reader))
      → sum_by (node_taken of_parcel) nodes ≡ sum_by (node_sent of_parcel) nodes + sum_by (node_settled of_outcome) nodes
  nodes_even [] never = refl
  nodes_even (n ∷ ns) never =
      let here : node_taken of_parcel n ≡ node_sent of_parcel n + node_settled of_outcome n = n.restamped p (never 0 n refl) in
      let rest = nodes_even ns (λ k m got. never (suc k) m got) in
      omega (arith, here, rest, sum_by-cons (node_taken of_parcel) n ns, sum_by-cons (node_sent of_parcel) n ns, sum_by-cons (node_settled of_outcome) n ns)

  -- a test that no epoch passes which was current on the board of a node is passed by no restamp
  pub not_told : (net : Net) (nodes : List Node) (injector : Injector) (report : Report) (is : IsReport net nodes injector report)
      → ((k : ℕ) (n : Node) → slice_get nodes k ≡ Some n → NeverCurrent p (known n.reader))
      → (k : ℕ) (o : Outcome) → slice_get is.outcomes k ≡ Some o → (j : ℕ) (s : Restamp) → slice_get o.packet.restamps j ≡ Some s → p s.epoch ≡ false
  not_told net nodes injector report is never k o at j s there =
      let gone = is.left_is of_parcel in
      let all = is.told_are (λ (t : Told). restamps_with p t.packet) in
      let even = nodes_even nodes never in
      let injected : sum_by (λ (s : Out). sum_by of_parcel s.sent) injector.outs.items ≡ 0 = injector.fresh p in
      let none : sum_by of_outcome is.outcomes ≡ 0 = omega (arith, gone, all, even, injected) in
      not_passed (p s.epoch) (none_in (λ (s : Restamp). cond {A = ℕ} (p s.epoch) 1 0) o.packet.restamps (none_in of_outcome is.outcomes none k o at) j s there)
