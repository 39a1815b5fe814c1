use Rattle.std.proofs.Common.{◌≡◌, ◌<◌, ◌∙◌, ◌++◌, ◌∷◌, ℕ, [], List, Option, map, take, sym, ap, subst, arith}
use Rattle.std.specs.Prelude.{slice_index}
use Rattle.std.proofs.lemmas.List.{map_more, take_all}
use Rattle.ir_tables.specs.FromNode.{held_at}
use Rattle.ir_plan.proofs.rows.ports_by_label.Goals as goal

pub node_of-requires : goal.node_of-requires
node_of-requires c = subst (λ (n : ℕ). c.loop-label.label < n) (sym c.requires.labels.every_label) c.loop-label-test.true

pub loop-label-init : goal.loop-label-init
loop-label-init c = c.in_ok-ports.ensures.items

pub loop-label-preserved : goal.loop-label-preserved
loop-label-preserved c =
    let held = held_at c.args.by_node.now in
    let order = c.args.numbering.now.order in
    let label = c.loop-label.label in
    let within = subst (λ (n : ℕ). label < n) (sym c.requires.labels.every_label) c.loop-label-test.true in
    let read : held c.node_of.result ≡ held (slice_index order label) = ap held c.node_of.ensures in
    c.in_ok-push.ensures.items ∙ ap (λ (port : Option ℕ). c.loop-label.ports.items ++ port ∷ []) read
    ∙ ap (λ (ports : List (Option ℕ)). ports ++ held (slice_index order label) ∷ []) c.loop-label.invariant
    ∙ sym (map_more held order label 0 within)

pub returns : goal.returns
returns c =
    let order = c.args.numbering.now.order in
    let past = c.loop-label-test.false in
    let every = c.requires.labels.every_label in
    let whole : take c.loop-label.label order ≡ order = take_all c.loop-label.label order (omega (arith, past, every)) in
    c.loop-label.invariant ∙ ap (map (held_at c.args.by_node.now)) whole
