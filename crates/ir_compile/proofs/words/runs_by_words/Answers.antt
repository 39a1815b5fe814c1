use Rattle.std.proofs.Common.{◌∙◌, ℕ, List, length, drop, ap, arith}
use Rattle.std.proofs.lemmas.List.{take_at}
use Rattle.ir_compile.proofs.PortBits.{rounds_some, word_runs_longest}
use Rattle.ir_compile.proofs.words.runs_by_words.Goals as goal

pub fill-requires-clause-some : goal.fill-requires-clause-some
fill-requires-clause-some c =
    rw c.as_slice.ensures.value (rounds_some c.args.n c.args.own c.args.words.now c.in_ok-twice.twice.items c.in_ok-twice.ensures c.requires.own c.requires.some)

pub returns-clause-counts : goal.returns-clause-counts
returns-clause-counts c =
    let counts : List ℕ = c.fill.new.counts in
    let len = c.fill.ensures.counts in
    rw (take_at counts (drop (length counts) c.in_ok-counts.counts.items) c.in_ok-counts.counts.len (omega (arith, len, c.in_ok-counts.ensures.len))) len

pub returns-clause-ports : goal.returns-clause-ports
returns-clause-ports c =
    let ports : List ℕ = c.fill.new.ports in
    let len = c.fill.ensures.ports in
    rw (take_at ports (drop (length ports) c.in_ok-ports.ports.items) c.in_ok-ports.ports.len (omega (arith, len, c.in_ok-ports.ensures.len))) len

pub returns-clause-longest : goal.returns-clause-longest
returns-clause-longest c =
    let counts : List ℕ = c.fill.new.counts in
    let ports : List ℕ = c.fill.new.ports in
    let counts_len = c.fill.ensures.counts in
    let ports_len = c.fill.ensures.ports in
    let runs = rw c.as_slice.ensures.value at c.fill.ensures.runs in
    rw (
      take_at counts (drop (length counts) c.in_ok-counts.counts.items) c.in_ok-counts.counts.len (omega (arith, counts_len, c.in_ok-counts.ensures.len)),
      take_at ports (drop (length ports) c.in_ok-ports.ports.items) c.in_ok-ports.ports.len (omega (arith, ports_len, c.in_ok-ports.ensures.len)),
    )
    (word_runs_longest c.args.n c.args.own c.args.words.now c.in_ok-twice.twice.items c.in_ok-twice.ensures counts ports runs)

pub overflow_mul-nodes : goal.overflow_mul-nodes
overflow_mul-nodes c = record { fits = omega (arith, c.ranges.n.fits) }

pub fill-requires-clause-few : goal.fill-requires-clause-few
fill-requires-clause-few c = omega (arith, c.ranges.n.fits)

pub fill-requires-clause-twice : goal.fill-requires-clause-twice
fill-requires-clause-twice c = ap (λ (xs : List ℕ). length xs) c.as_slice.ensures.value ∙ c.in_ok-twice.ensures.every

pub fill-requires-clause-backs : goal.fill-requires-clause-backs
fill-requires-clause-backs c = c.as_mut_slice.ensures.len ∙ c.in_ok-backs.ensures.len

pub fill-requires-clause-counts : goal.fill-requires-clause-counts
fill-requires-clause-counts c = c.as_mut_slice-2.ensures.len ∙ c.in_ok-counts.ensures.len

pub fill-requires-clause-ports : goal.fill-requires-clause-ports
fill-requires-clause-ports c = c.as_mut_slice-3.ensures.len ∙ c.in_ok-ports.ensures.len
