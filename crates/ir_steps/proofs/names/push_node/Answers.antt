use Rattle.std.proofs.Common.{◌≡◌, ◌∙◌, ◌++◌, [], Option, None, OnOk, ap, sym, subst, slice_get, string_bytes}
use Rattle.std.specs.Prelude.{option_map, unwrap_or}
use Rattle.std.proofs.lemmas.Option.{unwrap_or-slice_get}
use Rattle.ir_model.specs.Graph.{Name, names}
use Rattle.ir_trace.specs.Rows.{spaced}
use Rattle.ir_trace.specs.Written.{name_at}
use Rattle.ir_steps.proofs.names.push_node.Goals as goal

pub returns-in-None : goal.returns-in-None
returns-in-None c =
    let nodes = names c.args.net.now.graph.now in
    let none : slice_get nodes c.args.node ≡ None = sym c.node.ensures ∙ ap (option_map (λ name. name.now)) c.in-None.is in
    let empty : [] ≡ name_at nodes c.args.node = ap (λ (o : Option Name). unwrap_or o []) (sym none) ∙ unwrap_or-slice_get nodes c.args.node [] in
    subst (λ (w : Name). OnOk c.push_word-in-None.result (string_bytes c.push_word-in-None.new.text ≡ string_bytes c.args.text.now ++ spaced w)) empty c.push_word-in-None.ensures
