use Rattle.std.proofs.Common.{◌≡◌, ◌<◌, ◌∙◌, ◌++◌, ◌+◌, ℕ, List, [], ◌∷◌, length, map, take, ap, sym, arith}
use Rattle.std.specs.Prelude.{slice_index_or}
use Rattle.std.specs.Global.{Vec}
use Rattle.std.proofs.lemmas.List.{map-append, take_more}
use Rattle.ir_model.specs.declared.Hop.{Hop}
use Rattle.ir_numbering.proofs.Neighbors.{node_in}
use Rattle.ir_numbering.proofs.adjacency.neighbor_lists.Goals as goal

pub loop-u-preserved : goal.loop-u-preserved
loop-u-preserved c =
    let ports : List (List Hop) = c.args.topology.now.ports in
    let u : ℕ = c.loop-u.u in
    let made : List (Vec ℕ) = c.loop-u.lists.items in
    let new : Vec ℕ = c.in_ok-nodes_at.field-0 in
    let within : u < length ports = omega (arith, c.loop-u-test.true, c.nodes-nodes.ensures.count) in
    let row : new.items ≡ map node_in (slice_index_or ports u []) = c.in_ok-nodes_at.ensures ∙ ap (map node_in) c.ports.ensures in
    let more : map (map node_in) (take (u + 1) ports) ≡ map (map node_in) (take u ports) ++ (map node_in (slice_index_or ports u []) ∷ []) =
    ap (map (map node_in)) (take_more ports u [] within) ∙ map-append (map node_in) (take u ports) (slice_index_or ports u [] ∷ []) in
    ap (map (λ (list : Vec ℕ). list.items)) c.in_ok-push.ensures.items ∙ map-append (λ (list : Vec ℕ). list.items) made (new ∷ []) ∙ ap (λ (xs : List (List ℕ)). xs ++ (new.items ∷ [])) c.loop-u.invariant
    ∙ ap (λ (x : List ℕ). map (map node_in) (take u ports) ++ (x ∷ [])) row ∙ sym more
