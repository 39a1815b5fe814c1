use Rattle.std.proofs.Common.{sym, subst, MatchOption}
use Rattle.ir_trace.specs.Line.{HasNoFeed, CutsLine}
use Rattle.ir_trace.proofs.ReadCuts.{no_feed_found, feed_found}
use Rattle.ir_trace.proofs.reading.cut_line.Goals as goal

pub returns-in_err-end : goal.returns-in_err-end
returns-in_err-end c = let text = c.args.text.now in
    subst (λ o. MatchOption o (HasNoFeed text) (λ p. CutsLine text p.0.now p.1.now)) (sym c.from_residual.ensures) (no_feed_found text c.in_err-end.ensures)

pub returns : goal.returns
returns c = feed_found c.args.text.now c.in_ok-end.end c.in_ok-end.ensures
