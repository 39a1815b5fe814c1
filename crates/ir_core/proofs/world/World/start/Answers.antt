use Rattle.std.proofs.Common.{◌≡◌, ◌+◌, ◌*◌, ◌∙◌, ap, ℕ, [], map, replicate, arith, length, None}
use Rattle.ir_model.specs.Topology.{node_count}
use Rattle.ir_core.specs.Queue.{ids_of}
use Rattle.ir_core.specs.Opened.{setting_of}
use Rattle.ir_core.proofs.Opens.{made_is, made_kept, made_shows}
use Rattle.ir_core.proofs.world.World.start.Goals as goal

pub invariant_of-result : goal.invariant_of-result
invariant_of-result c =
    let o = setting_of c.args.opening c.args.plan in
    let views = c.in_ok-views.ensures.views ∙ ap (λ (n : ℕ). replicate n 0) c.nodes-nodes.ensures.count in
    let hands = c.in_ok-views.ensures.hands ∙ ap (λ (n : ℕ). replicate n None) c.nodes-nodes.ensures.count in
    let count : c.nodes-nodes.result + 2 * c.links.result ≡ node_count c.args.opening.topology + 2 * length c.args.opening.topology.links = omega (arith, c.nodes-nodes.ensures.count, c.links.ensures) in
    let channels = c.in_ok-views.ensures.empty ∙ ap (λ (n : ℕ). replicate n []) count in
    record {
      world = made_kept o c.requires _ (made_is o c.in_ok-boards.boards.items c.in_ok-boards.plans.items c.in_ok-views.views.items c.in_ok-views.hands.items (map ids_of c.in_ok-views.channels.items) c.new.result.items
          c.in_ok-boards.ensures.boards c.in_ok-boards.ensures.plans views hands channels c.new.ensures.items);
      room = c.in_ok-views.ensures.room;
    }

pub returns-clause-history : goal.returns-clause-history
returns-clause-history c =
    let o = setting_of c.args.opening c.args.plan in
    let views = c.in_ok-views.ensures.views ∙ ap (λ (n : ℕ). replicate n 0) c.nodes-nodes.ensures.count in
    let hands = c.in_ok-views.ensures.hands ∙ ap (λ (n : ℕ). replicate n None) c.nodes-nodes.ensures.count in
    let count : c.nodes-nodes.result + 2 * c.links.result ≡ node_count c.args.opening.topology + 2 * length c.args.opening.topology.links = omega (arith, c.nodes-nodes.ensures.count, c.links.ensures) in
    let channels = c.in_ok-views.ensures.empty ∙ ap (λ (n : ℕ). replicate n []) count in
    made_shows o _ (made_is o c.in_ok-boards.boards.items c.in_ok-boards.plans.items c.in_ok-views.views.items c.in_ok-views.hands.items (map ids_of c.in_ok-views.channels.items) c.new.result.items
    c.in_ok-boards.ensures.boards c.in_ok-boards.ensures.plans views hands channels c.new.ensures.items)
