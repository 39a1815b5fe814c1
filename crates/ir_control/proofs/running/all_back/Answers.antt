use Rattle.std.specs.Prelude.{◌≡◌, ◌∷◌, [], ◌++◌, List, All, Option, None, map}
use Rattle.std.proofs.Common.{sym, ap, ◌∙◌, subst, rules}
use Rattle.std.proofs.lemmas.List.Elements.{All-push}
use Rattle.std.proofs.lemmas.List.{map-append}
use Rattle.ir_worker.specs.declared.node.Node.{Node}
use Rattle.ir_worker.specs.declared.serving.NoMemory.{NoMemory}
use Rattle.ir_control.proofs.running.all_back.Goals as goal

-- one more node in hand
one_more : (back : List (Node × Option NoMemory)) (node : Node) (short : Option NoMemory) (before after : List Node) →
    before ≡ map (λ b. b.0) back → after ≡ before ++ node ∷ [] → after ≡ map (λ b. b.0) (back ++ (node, short) ∷ [])
one_more back node short before after same more =
    more ∙ ap (λ (ns : List Node). ns ++ node ∷ []) same ∙ sym (map-append (λ (b : Node × Option NoMemory). b.0) back ((node, short) ∷ []))

pub loop-node-preserved : goal.loop-node-preserved
loop-node-preserved g c = (
  one_more c.loop-node.yielded c.in-Some.node c.in-Some.short c.loop-node.nodes.items c.push.new.self.items c.loop-node.invariant.0 c.in_ok-push.ensures.items,
  All-push (λ (b : Node × Option NoMemory). b.1 ≡ None) c.loop-node.yielded (c.in-Some.node, c.in-Some.short) c.loop-node.invariant.1 (search rules),
  subst (All (g.S.Starter.came_back c.args.starter.now)) (sym c.in_ok-push.ensures.items)
      (All-push (g.S.Starter.came_back c.args.starter.now) c.loop-node.nodes.items c.in-Some.node c.loop-node.invariant.2 c.takes_back.ensures),
)
