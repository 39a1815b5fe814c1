use Rattle.std.proofs.Common.{◌≡◌, ◌<◌, ℕ, List, IfSome, true, sym, subst, take}
use Rattle.ir_model.specs.Graph.{Name, names, among}
use Rattle.ir_graph.specs.View.{rows_view}
use Rattle.ir_graph.proofs.by_place.later_at.Goals as goal

pub stands_before-requires : goal.stands_before-requires
stands_before-requires c = c.requires

pub returns-in_err-name : goal.returns-in_err-name
returns-in_err-name c =
    let walked = take c.args.node (names (rows_view c.args.rows.now)) in
    let none = c.from_residual.ensures in
    record {
      before = rw none (subst (λ o. IfSome {T = Name × ℕ} o (λ e. among walked e.0 ≡ true)) c.in_err-name.ensures tt);
      there = rw none tt;
      later = rw none tt;
    }

pub returns-then-stands_before : goal.returns-then-stands_before
returns-then-stands_before c =
    let walked = take c.args.node (names (rows_view c.args.rows.now)) in
    record {
      before = subst (λ o. IfSome {T = Name × ℕ} o (λ e. among walked e.0 ≡ true)) c.in_ok-name.ensures (sym c.if-stands_before.ensures);
      there = tt;
      later = tt;
    }

pub returns : goal.returns
returns c = record { before = tt; there = sym c.in_ok-name.ensures; later = sym c.if-stands_before.ensures }
