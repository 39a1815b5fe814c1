use Rattle.std.proofs.Common.{◌<◌, ◌++◌, ◌∙◌, ℕ, List, length, sym, subst, ap, arith}
use Rattle.std.proofs.lemmas.List.{append-nil, get_or_default}
use Rattle.std.proofs.lemmas.Result.{IfOk-weaker}
use Rattle.ir_prefix.specs.declared.trie.TrieNode.TheVariants.{NoPort}
use Rattle.ir_prefix.specs.Cover.{IsTrie, cover_of}
use Rattle.ir_prefix.specs.Described.{Trie, Fork, names_of}
use Rattle.ir_prefix.proofs.BlockLemmas.{left_within, right_within}
use Rattle.ir_prefix.proofs.MarkLemmas.{fork_covered}
use Rattle.ir_prefix.proofs.NodeLemmas.{stands_inside, stands_free, stands_alike, stands_fork}
use Rattle.ir_prefix.proofs.cover.+cover.Goals as goal

pub index-requires : goal.index-requires
index-requires t c =
    let n = stands_inside c.args.nodes.now.list.items c.args.nodes.now.names.items c.args.place c.requires.trie.0 c.requires.trie.2 in
    let k = c.args.nodes.now.list.ok in
    omega arith

pub tell-requires-in-Several-clause-some : goal.tell-requires-in-Several-clause-some
tell-requires-in-Several-clause-some t c =
    let f = stands_fork c.args.nodes.now.list.items c.args.nodes.now.names.items c.args.place c.in-Several.places c.requires.trie.0 (get_or_default c.args.nodes.now.list.items c.args.place NoPort c.index.result.now (stands_inside c.args.nodes.now.list.items c.args.nodes.now.names.items c.args.place c.requires.trie.0 c.requires.trie.2) ∙ sym c.index.ensures ∙ c.in-Several.is) c.requires.trie.2 in
    let is = subst (IsTrie c.args.spot.height) f.is c.requires.trie.1 in
    subst (λ (names : List ℕ). 0 < length names) (sym (c.names_at-names.ensures c.requires.trie.0 c.requires.trie.2 ∙ ap names_of f.is)) is.3.some

pub overflow_sub-left : goal.overflow_sub-left
overflow_sub-left t c =
    let f = stands_fork c.args.nodes.now.list.items c.args.nodes.now.names.items c.args.place c.in-Several.places c.requires.trie.0 (get_or_default c.args.nodes.now.list.items c.args.place NoPort c.index.result.now (stands_inside c.args.nodes.now.list.items c.args.nodes.now.names.items c.args.place c.requires.trie.0 c.requires.trie.2) ∙ sym c.index.ensures ∙ c.in-Several.is) c.requires.trie.2 in
    let is = subst (IsTrie c.args.spot.height) f.is c.requires.trie.1 in
    is.0

pub cover-requires : goal.cover-requires
cover-requires t c =
    let f = stands_fork c.args.nodes.now.list.items c.args.nodes.now.names.items c.args.place c.in-Several.places c.requires.trie.0 (get_or_default c.args.nodes.now.list.items c.args.place NoPort c.index.result.now (stands_inside c.args.nodes.now.list.items c.args.nodes.now.names.items c.args.place c.requires.trie.0 c.requires.trie.2) ∙ sym c.index.ensures ∙ c.in-Several.is) c.requires.trie.2 in
    let is = subst (IsTrie c.args.spot.height) f.is c.requires.trie.1 in
    let h = left_within c.args.spot.index c.args.spot.height 65536 is.0 c.requires.inside in
    (omega arith, ((f.left, is.1, f.stands_left), (omega arith, h)))

pub cover-requires-in-Several : goal.cover-requires-in-Several
cover-requires-in-Several t c =
    let f = stands_fork c.args.nodes.now.list.items c.args.nodes.now.names.items c.args.place c.in-Several.places c.requires.trie.0 (get_or_default c.args.nodes.now.list.items c.args.place NoPort c.index.result.now (stands_inside c.args.nodes.now.list.items c.args.nodes.now.names.items c.args.place c.requires.trie.0 c.requires.trie.2) ∙ sym c.index.ensures ∙ c.in-Several.is) c.requires.trie.2 in
    let is = subst (IsTrie c.args.spot.height) f.is c.requires.trie.1 in
    let h = right_within c.args.spot.index c.args.spot.height 65536 is.0 c.requires.inside in
    (omega arith, ((f.right, is.2, f.stands_right), (omega arith, h)))

pub returns-in-NoPort : goal.returns-in-NoPort
returns-in-NoPort t c = λ u s.
    let e = stands_free c.args.nodes.now.list.items c.args.nodes.now.names.items c.args.place u (get_or_default c.args.nodes.now.list.items c.args.place NoPort c.index.result.now (stands_inside c.args.nodes.now.list.items c.args.nodes.now.names.items c.args.place u s) ∙ sym c.index.ensures ∙ c.in-NoPort.is) s in
    sym (append-nil c.args.prefixes.now.items) ∙ ap (λ (x : Trie). c.args.prefixes.now.items ++ cover_of c.args.bits x c.args.spot.height c.args.spot.index c.args.above) (sym e)

pub returns-in_ok-tell-in-OnePort : goal.returns-in_ok-tell-in-OnePort
returns-in_ok-tell-in-OnePort t c = λ u s.
    let e = stands_alike c.args.nodes.now.list.items c.args.nodes.now.names.items c.args.place c.in-OnePort.port u (get_or_default c.args.nodes.now.list.items c.args.place NoPort c.index.result.now (stands_inside c.args.nodes.now.list.items c.args.nodes.now.names.items c.args.place u s) ∙ sym c.index.ensures ∙ c.in-OnePort.is) s in
    c.in_ok-tell-in-OnePort.ensures.told ∙ ap (λ (x : Trie). c.args.prefixes.now.items ++ cover_of c.args.bits x c.args.spot.height c.args.spot.index c.args.above) (sym e)

pub returns-in_ok-cover-in-Several : goal.returns-in_ok-cover-in-Several
returns-in_ok-cover-in-Several t c =
    IfOk-weaker c.cover-in-Several.result _ _ (λ x right. λ u s.
    let f = stands_fork c.args.nodes.now.list.items c.args.nodes.now.names.items c.args.place c.in-Several.places u (get_or_default c.args.nodes.now.list.items c.args.place NoPort c.index.result.now (stands_inside c.args.nodes.now.list.items c.args.nodes.now.names.items c.args.place u s) ∙ sym c.index.ensures ∙ c.in-Several.is) s in
    let told = c.in_ok-below-in-Several.ensures in
    let names = c.names_at-names.result.now in
    fork_covered c.args.bits c.args.spot.height c.args.spot.index names c.args.above c.in_ok-below-in-Several.below f.left f.right _ _ _ _ told.below told.told (c.in_ok-cover-in-Several.ensures f.left f.stands_left) (right f.right f.stands_right)
    ∙ ap (λ (own : List ℕ). c.args.prefixes.now.items ++ cover_of c.args.bits (Fork own f.left f.right) c.args.spot.height c.args.spot.index c.args.above) (c.names_at-names.ensures u s ∙ ap names_of f.is)
    ∙ ap (λ (y : Trie). c.args.prefixes.now.items ++ cover_of c.args.bits y c.args.spot.height c.args.spot.index c.args.above) (sym f.is))
    c.cover-in-Several.ensures
