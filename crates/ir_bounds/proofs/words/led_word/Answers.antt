use Rattle.std.proofs.Common.{◌≡◌, ◌<◌, ◌∙◌, ℕ, true, false, sym, arith}
use Rattle.ir_bounds.proofs.LedWords.{word_set, word_kept}
use Rattle.ir_bounds.proofs.words.led_word.Goals as goal
use Rattle.ir_bounds.proofs.words.led_word.Goals.{then-are_within, else-are_within}

pub loop-p-preserved : goal.loop-p-preserved
loop-p-preserved c =
    let net = c.args.topology.now in
    let away = c.args.away.now in
    let p : ℕ = c.loop-p.p in
    let low : p < 32 = omega (arith, c.loop-p-test.true, c.loop-p.auto.p-end, c.degree-p-end.ensures, c.requires.ports) in
    elim c.if-are_within.branch [
      | then-are_within w ↦ rw w.word-is (word_set net away c.args.radius c.args.whole c.args.u p c.loop-p.word c.port-hop.result c.loop-p.invariant c.port-hop.ensures (c.are_within.ensures.0 w.if-are_within.true) low)
      | else-are_within w ↦
          rw w.word-is
          (word_kept net away c.args.radius c.args.whole c.args.u p c.loop-p.word c.port-hop.result c.loop-p.invariant c.port-hop.ensures
          (λ le. (let bad : false ≡ true = sym w.if-are_within.false ∙ c.are_within.ensures.1 le in cc bad)))
    ]
