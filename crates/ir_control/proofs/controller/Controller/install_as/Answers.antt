use Rattle.std.specs.Prelude.{◌≡◌, Option, Some, None}
use Rattle.std.proofs.Common.{subst, sym, ap, ◌∙◌, inl, inr}
use Rattle.std.proofs.lemmas.Bool.{false≢true}
use denote.Enum.Bare.{sameb}
use Rattle.std.specs.Arc.{arc_value}
use Rattle.ir_model.specs.Plan.{Plan}
use Rattle.ir_core.specs.Meaning.{IsMade}
use Rattle.ir_epochs.specs.declared.registry.Registry.{Registry}
use Rattle.ir_core.specs.contracts.event.Refused.{the_type}
use Rattle.ir_core.specs.declared.event.Refused.{Refused}
use Rattle.ir_core.specs.declared.event.Refused.TheVariants.{Used}
use Rattle.ir_epochs.specs.Handles.{published, writer_board}
use Rattle.ir_epochs.specs.Stamps.{IsOf}
use Rattle.ir_control.specs.declared.controller.Controller.{Controller}
use Rattle.ir_control.specs.Changes.{topology_up, labelling_next, install_refusal, IsInstallRefusedBy}
use Rattle.ir_control.proofs.Nets.{fits_install}
use Rattle.ir_control.proofs.controller.Controller.install_as.Goals as goal
use Rattle.ir_control.proofs.controller.Controller.install_as.Goals.{then-eq, else-eq}

pub change-requires-clause-fits : goal.change-requires-clause-fits
change-requires-clause-fits g c =
    let s = c.in-Ok-register.stamp in
    let of : IsOf (arc_value c.args.self.now.registry) s = subst (λ (r : Registry). IsOf r s) c.deref.ensures c.in-Ok-register.ensures.answer.0 in
    fits_install c.args.self.now.opening s (published c.args.self.now.writer) c.args.self.now.used c.args.self.now.used_up.0 c.in-Ok-register.ensures.answer.1
    (of ∙ sym c.args.self.now.of_registry) c.args.self.now.registry_is c.args.self.now.topology_is c.args.self.now.few_links
    (ap (λ (t : Plan). t.topology) c.in-Ok-register.ensures.answer.2 ∙ c.in-Ok.ensures.answer.over)

pub returns-in-Ok-change-clause-answer : goal.returns-in-Ok-change-clause-answer
returns-in-Ok-change-clause-answer g c =
    let s = c.in-Ok-register.stamp in
    record {
      allowed = sym c.install_refusal.ensures.refusal ∙ c.in_default.is;
      stamp = s;
      epoch = c.in-Ok-register.ensures.answer.1;
      registered = subst (λ (r : Registry). IsOf r s) c.deref.ensures c.in-Ok-register.ensures.answer.0;
      plan = subst (λ (t : Plan). IsMade (labelling_next c.args.self.now c.args.keeps c.args.kind c.args.root) c.args.kind (topology_up c.args.self.now) (Some t)) (sym c.in-Ok-register.ensures.answer.2) c.in-Ok.ensures.answer;
      publishes = (let done = c.in-Ok-change.ensures.answer.1.1 in record {
        published_is = done.published_is;
        told_is = done.told_is;
        receipt = done.receipt;
        board = done.board;
        opening = done.opening;
        registry = done.registry;
        labels = done.labels;
        keeps = done.keeps;
      });
      used = c.in-Ok-change.ensures.answer.0;
    }

pub returns-in-Err-register-clause-answer : goal.returns-in-Err-register-clause-answer
returns-in-Err-register-clause-answer g c =
    let own = c.args.self.now in
    let why = c.in-Err-register.ensures.answer in
    let allowed : install_refusal own c.args.root ≡ None = sym c.install_refusal.ensures.refusal ∙ c.in_default.is in
    let refused : IsInstallRefusedBy own c.in-Err-register.error (install_refusal own c.args.root) =
    subst (λ (o : Option Refused). IsInstallRefusedBy own c.in-Err-register.error o) (sym allowed) (inr why) in
    elim c.if-eq.branch [
      | then-eq w ↦ record {
        refused = refused;
        nothing = record {
          published_is = ap (λ (own : Controller _). published own.writer) w.self-is;
          board = ap (λ (own : Controller _). writer_board own.writer) w.self-is;
          opening = ap (λ (own : Controller _). own.opening) w.self-is;
          registry = ap (λ (own : Controller _). own.registry) w.self-is;
          labels = ap (λ (own : Controller _). own.labels) w.self-is;
          keeps = ap (λ (own : Controller _). own.keeps) w.self-is;
        };
        used = inr (ap (λ (own : Controller _). own.used) w.self-is, why);
        cell = λ e. ap (λ (own : Controller _). own.used) w.self-is;
      }
      | else-eq w ↦ record {
        refused = refused;
        nothing = record {
          published_is = ap (λ (own : Controller _). published own.writer) w.self-is;
          board = ap (λ (own : Controller _). writer_board own.writer) w.self-is;
          opening = ap (λ (own : Controller _). own.opening) w.self-is;
          registry = ap (λ (own : Controller _). own.registry) w.self-is;
          labels = ap (λ (own : Controller _). own.labels) w.self-is;
          keeps = ap (λ (own : Controller _). own.keeps) w.self-is;
        };
        used = inl (ap (λ (own : Controller _). own.used) w.self-is);
        cell = λ e. absurd (false≢true (sym w.if-eq.false ∙ c.eq.ensures ∙ ap (λ (x : Refused). sameb the_type x Used) e));
      }
    ]
