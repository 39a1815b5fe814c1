use Rattle.std.proofs.Common.{refl, arith}
use Rattle.ir_compile.proofs.sixteen.fill_sixteen.Goals as goal

pub sixteen_runs-requires : goal.sixteen_runs-requires
sixteen_runs-requires c =
    let twice = c.requires.twice in
    record { room = omega (arith, c.requires.inside, twice); some = λ i l. c.requires.some i (omega (arith, l, twice)) }

pub put_runs-requires : goal.put_runs-requires
put_runs-requires c = record {
  few = c.requires.few;
  inside = c.requires.inside;
  short = c.in-Some.ensures;
  counts = c.requires.counts;
  ports = c.requires.ports;
  runs = c.requires.runs;
}

pub returns : goal.returns
returns c = record {
  counts = c.put_runs.ensures.counts;
  ports = c.put_runs.ensures.ports;
  found = λ _. c.put_runs.ensures.runs;
  kept = λ none. absurd (none refl);
}

pub returns-in_default : goal.returns-in_default
returns-in_default c = record { counts = c.requires.counts; ports = c.requires.ports; found = λ found. absurd (cc found); kept = λ _. (refl, refl) }
