use Rattle.std.proofs.Common.{◌++◌, ◌-◌, ◌*◌, ◌+◌, ◌∙◌, List, ap, sym, subst, inl, inr, arith}
use Rattle.std.proofs.lemmas.List.{append_assoc, append-nil}
use Rattle.std.proofs.lemmas.Result.{IfOk-weaker}
use Rattle.ir_prefix.specs.Parts.{Beyond, Unsent, OnePort, Halves, pieces_of}
use Rattle.ir_prefix.specs.Runs.{LiesIn}
use Rattle.ir_prefix.specs.declared.cover.Prefix.{Prefix}
use Rattle.ir_prefix.proofs.BlockLemmas.{left_within, right_within}
use Rattle.ir_prefix.proofs.parts.+push_pieces.Goals as goal

pub returns-in-Beyond : goal.returns-in-Beyond
returns-in-Beyond t c =
    let none = sym (append-nil c.args.prefixes.now.items) in
    elim c.in-Beyond.is [
      | inl e ↦ (Beyond, subst (LiesIn c.args.ports.now c.args.height c.args.index) e c.block_of.ensures, none)
      | inr e ↦ (Unsent, subst (LiesIn c.args.ports.now c.args.height c.args.index) e c.block_of.ensures, none)
    ]

pub push_pieces-requires : goal.push_pieces-requires
push_pieces-requires t c = (omega arith, (c.requires.runs, (omega arith, left_within c.args.index c.args.height 65536 c.in-Mixed.ensures.0 c.requires.inside)))

pub push_pieces-requires-in-Mixed : goal.push_pieces-requires-in-Mixed
push_pieces-requires-in-Mixed t c = (omega arith, (c.requires.runs, (omega arith, right_within c.args.index c.args.height 65536 c.in-Mixed.ensures.0 c.requires.inside)))

pub returns-in-OnePort : goal.returns-in-OnePort
returns-in-OnePort t c =
    IfOk-weaker c.push_prefix.result _ _ (λ x e. (OnePort c.in-OnePort.port, c.in-OnePort.ensures, e)) c.push_prefix.ensures

pub returns-in_ok-push_pieces-in-Mixed : goal.returns-in_ok-push_pieces-in-Mixed
returns-in_ok-push_pieces-in-Mixed t c =
    let l = c.in_ok-push_pieces-in-Mixed.ensures in
    let front = c.args.prefixes.now.items in
    let pl = pieces_of c.args.bits l.0 (c.args.height - 1) (2 * c.args.index) in
    IfOk-weaker c.push_pieces-in-Mixed.result _ _
    (λ x w.
    let pr = pieces_of c.args.bits w.0 (c.args.height - 1) (2 * c.args.index + 1) in
    (Halves l.0 w.0, (c.in-Mixed.ensures.0, l.1, w.1, c.in-Mixed.ensures.1), w.2 ∙ ap (λ (xs : List Prefix). xs ++ pr) l.2 ∙ append_assoc front pl pr))
    c.push_pieces-in-Mixed.ensures
