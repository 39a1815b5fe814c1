use Rattle.std.proofs.Common.{◌++◌, ◌∷◌, [], ℕ, List, take, Option, None, ap, sym, ◌∙◌, map}
use Rattle.std.specs.Option.{unwrap_or}
use Rattle.std.proofs.lemmas.List.{map_more, take_all}
use Rattle.ir_compile.proofs.plain_ports.Goals as goal

abbrev plain : Option ℕ → ℕ
plain port = unwrap_or port 0

pub loop-port-preserved : goal.loop-port-preserved
loop-port-preserved c =
    c.in_ok-push.ensures.items ∙ ap (λ (xs : List ℕ). xs ++ c.unwrap_or.result ∷ []) c.loop-port.invariant
    ∙ ap (λ (x : ℕ). map plain (take c.loop-port.port-index c.args.ports.now) ++ x ∷ []) c.unwrap_or.ensures ∙ sym (map_more plain c.args.ports.now c.loop-port.port-index None c.loop-port-test.true)

pub returns : goal.returns
returns c = c.loop-port.invariant ∙ ap (map plain) (take_all c.loop-port.port-index c.args.ports.now c.loop-port-test.false)
