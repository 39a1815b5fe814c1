use Rattle.std.specs.Prelude.{◌≡◌, ◌<◌, List, ◌++◌, ◌∷◌, [], Result, MatchResult, IfOk, IfErr, IsOk, Ok, Err}
use Rattle.std.proofs.Common.{arith, refl, ap, subst, sym, ◌∙◌}
use Rattle.std.proofs.lemmas.Bool.{false≢true}
use Rattle.ir_core.specs.Codes.{change_number}
use Rattle.ir_core.specs.declared.board.Board.{Board}
use Rattle.ir_core.specs.declared.event.Refused.{Refused}
use Rattle.ir_epochs.proofs.Rising.{board_last}
use Rattle.ir_epochs.specs.declared.handles.Receipt.{Receipt}
use Rattle.ir_epochs.specs.declared.entry.Entry.{Entry}
use Rattle.ir_epochs.specs.Entries.{board_of}
use Rattle.ir_epochs.specs.declared.entry.Entry.TheVariants.{Changed}
use Rattle.ir_epochs.specs.Handles.{published, writer_board, told, receipt_board}
use Rattle.ir_control.proofs.controller.Controller.change.Goals as goal

-- what holds of each value holds of the answer that passes it on, where there is a value
passed_on : {A E F : Type 0} (from : Result A E) (to : Result A F) (C D P : A → Type 0) (G : E → Type 0) (Q : F → Type 0) → IsOk from → MatchResult from (λ x. to ≡ Ok x) G
    → IfOk from C → IfOk from D → ((x : A) → C x → D x → P x) → MatchResult to P Q
passed_on (Ok x) to C D P G Q ok is c d give = subst (λ (r : Result _ _). MatchResult r P Q) (sym is) (give x c d)
passed_on (Err e) to C D P G Q ok is c d give = absurd (false≢true ok)

given_on : {A E F : Type 0} (from : Result A E) (to : Result A F) (G : E → Type 0) → IsOk from → MatchResult from (λ x. to ≡ Ok x) G → IfOk from (λ x. to ≡ Ok x)
given_on (Ok x) to G ok is = is
given_on (Err e) to G ok is = tt

-- what a call's value says, where there is a value
told_by : {A E X : Type 0} (from : Result A E) (C : A → Type 0) → IsOk from → IfOk from C → ((x : A) → C x → X) → X
told_by (Ok x) C ok c give = give x c
told_by (Err e) C ok c give = absurd (false≢true ok)

pub invariant_of-self : goal.invariant_of-self
invariant_of-self g c =
    let n = c.args.self.now in
    let same = c.change.ensures.opening in
    let is : published c.change.new.self ≡ published c.args.self.now.writer ++ Changed c.args.change ∷ [] =
    told_by c.change.result
    (λ (t : Receipt). (published c.change.new.self ≡ published c.args.self.now.writer ++ Changed c.args.change ∷ []) × (told t ≡ published c.change.new.self))
    c.change.ensures.succeeds c.change.ensures.change (λ t made. made.0) in
    let now = ap (λ (es : List Entry). (board_of es).current) is in
    let last = ap (λ (b : Board). b.current) (board_last (published c.args.self.now.writer) c.args.change) in
    let epochs = c.requires.epochs in
    record {
      of_registry = n.of_registry;
      registry_is = same.registry ∙ n.registry_is;
      topology_is = same.topology ∙ n.topology_is;
      links_are = same.links ∙ n.links_are;
      few_links = n.few_links;
      used_up = (omega (arith, now, last, epochs), n.used_up.1);
    }

pub returns-clause-number : goal.returns-clause-number
returns-clause-number g c = told_by c.change.result (λ x. c.map_err.result ≡ Ok x) c.change.ensures.succeeds
    (given_on c.change.result c.map_err.result _ c.change.ensures.succeeds c.map_err.ensures.cases)
    (λ x is. subst (λ (r : Result Receipt Refused). IfErr r (λ e. 0 < change_number e)) (sym is) tt)

pub returns-clause-answer : goal.returns-clause-answer
returns-clause-answer g c = (
  refl,
  passed_on c.change.result c.map_err.result
      (λ (t : Receipt). (published c.change.new.self ≡ published c.args.self.now.writer ++ Changed c.args.change ∷ []) × (told t ≡ published c.change.new.self))
      (λ (t : Receipt). receipt_board t ≡ writer_board c.args.self.now.writer) _ _ _
      c.change.ensures.succeeds c.map_err.ensures.cases c.change.ensures.change c.change.ensures.receipt
      (λ t made at. (
        refl,
        record {
          published_is = made.0;
          told_is = made.1;
          receipt = at;
          board = c.change.ensures.board;
          opening = refl;
          registry = refl;
          labels = refl;
          keeps = refl;
        },
      )),
)
