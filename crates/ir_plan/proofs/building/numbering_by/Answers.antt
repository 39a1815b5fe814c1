use Rattle.std.proofs.Common.{◌≢◌, ◌<◌, ◌∙◌, ℕ, length, ap, sym, subst, arith}
use Rattle.std.proofs.lemmas.List.Elements.{All-get_or}
use Rattle.std.proofs.lemmas.Result.{err_from_is_err_and}
use Rattle.ir_model.specs.Plan.{AreLabels}
use Rattle.ir_model.specs.Topology.{node_count}
use Rattle.ir_numbering.specs.Numbering.{IsListing}
use Rattle.ir_plan.specs.declared.error.PlanError.TheVariants.{Disconnected, Empty, NoMemory, NoNode}
use Rattle.ir_plan.proofs.building.numbering_by.Goals as goal

pub index-requires : goal.index-requires
index-requires c =
    let every = c.requires.order.every in
    let some = c.requires.some in
    let len = c.args.order.ok in
    omega (arith, every, some, len)

pub listed-requires : goal.listed-requires
listed-requires c =
    let every = c.requires.order.every in
    let few = c.invariant.ensures.topology.few_nodes in
    record {
      listing = subst (λ (n : ℕ). IsListing n c.args.order.items) (sym every) c.requires.order;
      few = omega (arith, every, few);
    }

pub returns : goal.returns
returns c =
    let made = c.in_ok-listed.ensures in
    let numbers = c.in_ok-listed.field-0 in
    record {
      order = made.order;
      labels = subst (λ (n : ℕ). AreLabels n numbers.order numbers.labels) (ap length made.order ∙ c.requires.order.every) made.labels;
      connected = c.in_ok-numbering_of.ensures.connected;
      disconnected = tt;
      others = tt;
    }

-- want of memory is none of the other errors
not_disconnected : NoMemory ≢ Disconnected
not_disconnected e = cc e

not_empty : NoMemory ≢ Empty
not_empty e = cc e

not_no_node : NoMemory ≢ NoNode
not_no_node e = cc e

pub returns-in_err-listed : goal.returns-in_err-listed
returns-in_err-listed c =
    let is = err_from_is_err_and c.from_residual-in_err-listed.result c.from_residual-in_err-listed.ensures.1 in
    rw (is.1, is.2) (record { order = tt; labels = tt; connected = tt; disconnected = λ e. absurd (not_disconnected e); others = (not_empty, not_no_node) })

pub returns-in_err-numbering_of : goal.returns-in_err-numbering_of
returns-in_err-numbering_of c =
    let is = err_from_is_err_and c.from_residual.result c.from_residual.ensures.1 in
    let no = c.in_err-numbering_of.ensures in
    let n = node_count c.args.topology.now in
    let some = c.requires.some in
    let every = c.requires.order.every in
    let root : c.index.result.now < n = subst (λ (v : ℕ). v < n) (sym c.index.ensures) (All-get_or (λ v. v < n) c.args.order.items 0 c.index.result.now (omega (arith, every, some)) c.requires.order.nodes) in
    rw (is.1, is.2) (record {
      order = tt;
      labels = tt;
      connected = tt;
      disconnected = λ e. (no.disconnected e).2;
      others = ((λ e. let none = no.empty.0 e in omega (arith, none, some)), λ e. let past = (no.no_node.0 e).1 in omega (arith, past, root));
    })
