use Rattle.rayon.proofs.ToStd.{nat_range-All}
use Rattle.ir_plan.proofs.Lists.{of_match, made_of_chain}
use Rattle.ir_plan.proofs.making.made_in_threads.Goals as goal

pub collect-requires-clause-ready : goal.collect-requires-clause-ready
collect-requires-clause-ready g c κs within =
    let ends = c.into_par_iter.ensures in
    let inside = nat_range-All _ 0 c.args.count (λ i low high. c.requires.each i high) in
    rw (c.map.ensures.base, c.map.ensures.f, c.with_min_len.ensures.base, ends.0, ends.1) (λ k d lt. (inside k d lt, λ y p. tt))

pub returns : goal.returns
returns g c =
    let ends = c.into_par_iter.ensures in
    let h = rw (c.map.ensures.base, c.map.ensures.f, c.with_min_len.ensures.base) at c.in_ok-collect.ensures in
    of_match c.in_ok-collect.field-0 _ _ _ h.2 (λ v m. made_of_chain _ h.1.0 _ _ c.args.count h.0 m.0 v.items h.1.1 ends.0 ends.1 h.1.2 m.1 m.2)
