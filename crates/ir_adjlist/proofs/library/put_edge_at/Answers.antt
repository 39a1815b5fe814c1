use Rattle.std.proofs.Common.{rules, ◌≡◌, ◌∙◌, ◌++◌, ℕ, Option, OnOk, option_map, sym, ap, subst, append-nil}
use Rattle.std.specs.Option.{option_to_list}
use Rattle.ir_model.specs.Graph.{Name, neighbors, weight_of}
use Rattle.ir_adjlist.specs.Writing.{node_edges}
use Rattle.ir_adjlist.proofs.Writing.{link_found, no_link_found}
use Rattle.ir_adjlist.proofs.library.put_edge_at.Goals as goal

pub returns-in-Some-weight : goal.returns-in-Some-weight
returns-in-Some-weight c =
    let P : Option (Name × ℕ) → Type 0 = λ o. OnOk c.put_edge.result (c.put_edge.new.text.items ≡ c.args.text.now.items ++ node_edges c.args.graph.now c.args.count c.args.source.now (option_to_list o)) in
    let put : P (option_map {U = Name × ℕ} (λ w. (c.in-Some.target.now, w)) (weight_of c.args.graph.now c.args.source.now c.in-Some.target.now)) = search rules in
    subst P (sym (link_found c.args.graph.now c.args.source.now c.in-Some.target.now c.args.place c.requires c.in-Some.ensures)) put

pub returns-in-None : goal.returns-in-None
returns-in-None c =
    let P : Option (Name × ℕ) → Type 0 = λ o. c.args.text.now.items ≡ c.args.text.now.items ++ node_edges c.args.graph.now c.args.count c.args.source.now (option_to_list o) in
    let put : P (option_map {U = Name × ℕ} (λ w. (c.in-Some.target.now, w)) (weight_of c.args.graph.now c.args.source.now c.in-Some.target.now)) = search rules in
    subst P (sym (link_found c.args.graph.now c.args.source.now c.in-Some.target.now c.args.place c.requires c.in-Some.ensures)) put

pub returns-then-is_written : goal.returns-then-is_written
returns-then-is_written c =
    let P : Option (Name × ℕ) → Type 0 = λ o. c.args.text.now.items ≡ c.args.text.now.items ++ node_edges c.args.graph.now c.args.count c.args.source.now (option_to_list o) in
    let put : P (option_map {U = Name × ℕ} (λ w. (c.in-Some.target.now, w)) (weight_of c.args.graph.now c.args.source.now c.in-Some.target.now)) = search rules in
    subst P (sym (link_found c.args.graph.now c.args.source.now c.in-Some.target.now c.args.place c.requires c.in-Some.ensures)) put

pub returns-in_default : goal.returns-in_default
returns-in_default c =
    sym (ap (λ (o : Option (Name × ℕ)). c.args.text.now.items ++ node_edges c.args.graph.now c.args.count c.args.source.now (option_to_list o)) (no_link_found (neighbors c.args.graph.now c.args.source.now) c.args.place c.in_default.ensures)
    ∙ append-nil c.args.text.now.items)
