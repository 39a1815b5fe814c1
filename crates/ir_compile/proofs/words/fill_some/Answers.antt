use Rattle.std.proofs.Common.{◌≡◌, ◌∙◌, arith}
use Rattle.ir_compile.proofs.words.fill_some.Goals as goal
use Rattle.ir_compile.proofs.words.fill_some.Goals.{else-n-from-ge-LANES-via-then-n-from-ge-LANES+else-fill_sixteen, else-n-from-ge-LANES-via-else-n-from-ge-LANES}

pub fill_sixteen-requires : goal.fill_sixteen-requires
fill_sixteen-requires c = record {
  few = c.requires.few;
  twice = c.requires.twice;
  some = c.requires.some;
  inside = omega (arith, c.if-n-from-ge-LANES.true, c.requires.inside);
  counts = c.requires.counts;
  ports = c.requires.ports;
  runs = c.requires.runs;
}

pub fill_to-requires : goal.fill_to-requires
fill_to-requires c =
    let j = c.else-n-from-ge-LANES in
    let same : (j.counts ≡ c.args.counts.now) × (j.ports ≡ c.args.ports.now) =
    elim j.branch [
      | else-n-from-ge-LANES-via-then-n-from-ge-LANES+else-fill_sixteen w ↦
          let kept = w.fill_sixteen.ensures.kept (λ t. cc (t, w.if-fill_sixteen.false)) in
          (w.counts-is ∙ kept.0, w.ports-is ∙ kept.1)
      | else-n-from-ge-LANES-via-else-n-from-ge-LANES w ↦ (w.counts-is, w.ports-is)
    ] in
    rw (same.0, same.1) (record {
      few = c.requires.few;
      twice = c.requires.twice;
      some = c.requires.some;
      inside = c.requires.inside;
      backs = c.requires.backs;
      counts = c.requires.counts;
      ports = c.requires.ports;
      runs = c.requires.runs;
    })

pub returns : goal.returns
returns c = c.fill_to.ensures
