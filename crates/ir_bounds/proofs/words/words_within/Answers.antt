use Rattle.std.proofs.Common.{◌≤◌, ℕ, List, length, drop, arith}
use Rattle.std.proofs.lemmas.List.{take_at}
use Rattle.ir_model.specs.Topology.{ports_of}
use Rattle.ir_bounds.proofs.LedWords.{ports_begun, ports_all}
use Rattle.ir_bounds.proofs.words.words_within.Goals as goal

pub put_own-requires-clause-words : goal.put_own-requires-clause-words
put_own-requires-clause-words c = rw c.as_mut_slice.ensures.value c.in_ok-words.ensures

pub loop-p-init : goal.loop-p-init
loop-p-init c =
    let numbers = c.args.numbering.now in
    let held = c.args.held.now in
    let words : List ℕ = c.put_own.new.words in
    let led = c.put_own.ensures in
    let back = take_at words (drop (length words) c.in_ok-words.words.items) c.in_ok-words.words.len (omega (arith, led.every, c.in_ok-words.ensures.every, c.in_ok-words.words.ok.0)) in
    rw back (ports_begun c.args.topology.now c.invariant.ensures.topology held.owners.landmarks.items held.stretch numbers.order numbers.labels c.requires.labels c.args.u words led)

pub put_port-requires-clause-whole : goal.put_port-requires-clause-whole
put_port-requires-clause-whole c = rw c.as_slice.ensures.value c.in_ok-whole.ensures

pub put_port-requires-clause-words : goal.put_port-requires-clause-words
put_port-requires-clause-words c = rw c.as_mut_slice-in-loop-p.ensures.value c.loop-p.invariant

pub loop-p-preserved : goal.loop-p-preserved
loop-p-preserved c =
    let words : List ℕ = c.put_port.new.words in
    let led = c.put_port.ensures in
    let back = take_at words (drop (length words) c.loop-p.words.items) c.loop-p.words.len (omega (arith, led.every, c.loop-p.invariant.every, c.loop-p.words.ok.0)) in
    rw back led

pub returns : goal.returns
returns c =
    let net = c.args.topology.now in
    let numbers = c.args.numbering.now in
    let held = c.args.held.now in
    let last : length (ports_of net c.args.u) ≤ c.loop-p.p = omega (arith, c.loop-p-test.false, c.loop-p.auto.p-end, c.degree-p-end.ensures) in
    ports_all net c.invariant.ensures.topology held.owners.landmarks.items held.stretch numbers.order numbers.labels c.requires.labels c.args.u c.loop-p.p c.loop-p.words.items last c.loop-p.invariant
