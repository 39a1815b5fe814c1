use Rattle.std.proofs.Common.{◌∙◌, ℕ, List, [], ap, sym}
use Rattle.std.specs.Global.{Vec}
use Rattle.std.proofs.lemmas.List.{get_or-map}
use Rattle.ir_numbering.proofs.search.list_of.Goals as goal

abbrev items : Vec ℕ → List ℕ
items list = list.items

pub returns : goal.returns
returns c = c.as_slice.ensures.value ∙ ap items c.index-lists-u.is ∙ sym (get_or-map items c.args.lists.now c.args.u c.index-lists-u.result [] c.requires)
