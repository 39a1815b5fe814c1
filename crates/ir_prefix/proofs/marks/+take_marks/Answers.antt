use Rattle.std.proofs.Common.{◌++◌, ◌∙◌, length, sym, subst, ap, arith, List}
use Rattle.std.proofs.lemmas.List.{append-nil, length-append}
use Rattle.std.proofs.lemmas.Result.{IfOk-weaker}
use Rattle.ir_prefix.specs.Cover.{IsTrie, cover_of}
use Rattle.ir_prefix.specs.Described.{Trie, Alike}
use Rattle.ir_prefix.specs.Marks.{ports_in}
use Rattle.ir_prefix.specs.declared.marks.Mark.{Mark}
use Rattle.ir_prefix.proofs.BlockLemmas.{left_within, right_within}
use Rattle.ir_prefix.proofs.MarkLemmas.{popped, some_marks, free_ends, one_ends, pair_ends, several_ends, fork_covered}
use Rattle.ir_prefix.proofs.marks.+take_marks.Goals as goal

pub unwrap-requires : goal.unwrap-requires
unwrap-requires t c =
    let w = c.requires.trie in
    let s = some_marks w.0 w.3.0 w.3.1 in
    let n = ap (λ (xs : List Mark). length xs) w.3.2 in
    let m = length-append w.1 w.3.0 in
    let k = c.args.marks.now.ok in
    c.pop.ensures.variant.1 (omega (arith, s, n, m, k))

pub tell_bits-requires-clause-some : goal.tell_bits-requires-clause-some
tell_bits-requires-clause-some t c =
    let w = c.requires.trie in
    let f = pair_ends w.0 c.in-Pair.names c.in-Pair.left c.in-Pair.right w.1 w.3.0 c.args.marks.now.items c.pop.new.self.items w.3.1 w.3.2 (popped _ _ _ _ c.pop.ensures.items c.in-Pair.ensures) in
    let is = subst (IsTrie c.args.height) f.0 w.2 in
    is.3.some

pub overflow_sub-height : goal.overflow_sub-height
overflow_sub-height t c =
    let w = c.requires.trie in
    let f = pair_ends w.0 c.in-Pair.names c.in-Pair.left c.in-Pair.right w.1 w.3.0 c.args.marks.now.items c.pop.new.self.items w.3.1 w.3.2 (popped _ _ _ _ c.pop.ensures.items c.in-Pair.ensures) in
    let is = subst (IsTrie c.args.height) f.0 w.2 in
    is.0

pub tell_port-requires-in-Pair-clause-inside : goal.tell_port-requires-in-Pair-clause-inside
tell_port-requires-in-Pair-clause-inside t c =
    let w = c.requires.trie in
    let f = pair_ends w.0 c.in-Pair.names c.in-Pair.left c.in-Pair.right w.1 w.3.0 c.args.marks.now.items c.pop.new.self.items w.3.1 w.3.2 (popped _ _ _ _ c.pop.ensures.items c.in-Pair.ensures) in
    let is = subst (IsTrie c.args.height) f.0 w.2 in
    let h = left_within c.args.index c.args.height 65536 is.0 c.requires.inside in
    omega (arith, h)

pub overflow_sub-height-in-Pair : goal.overflow_sub-height-in-Pair
overflow_sub-height-in-Pair t c =
    let w = c.requires.trie in
    let f = pair_ends w.0 c.in-Pair.names c.in-Pair.left c.in-Pair.right w.1 w.3.0 c.args.marks.now.items c.pop.new.self.items w.3.1 w.3.2 (popped _ _ _ _ c.pop.ensures.items c.in-Pair.ensures) in
    let is = subst (IsTrie c.args.height) f.0 w.2 in
    is.0

pub tell_port-requires-in-Pair-2-clause-inside : goal.tell_port-requires-in-Pair-2-clause-inside
tell_port-requires-in-Pair-2-clause-inside t c =
    let w = c.requires.trie in
    let f = pair_ends w.0 c.in-Pair.names c.in-Pair.left c.in-Pair.right w.1 w.3.0 c.args.marks.now.items c.pop.new.self.items w.3.1 w.3.2 (popped _ _ _ _ c.pop.ensures.items c.in-Pair.ensures) in
    let is = subst (IsTrie c.args.height) f.0 w.2 in
    let h = right_within c.args.index c.args.height 65536 is.0 c.requires.inside in
    omega (arith, h)

pub returns-in_ok-tell_port-in-Pair-clause-rest : goal.returns-in_ok-tell_port-in-Pair-clause-rest
returns-in_ok-tell_port-in-Pair-clause-rest t c =
    IfOk-weaker c.tell_port-in-Pair-2.result _ _ (λ x right. λ u rest is ends.
    (pair_ends u c.in-Pair.names c.in-Pair.left c.in-Pair.right rest ends.0 c.args.marks.now.items c.pop.new.self.items ends.1 ends.2 (popped _ _ _ _ c.pop.ensures.items c.in-Pair.ensures)).1)
    c.tell_port-in-Pair-2.ensures

pub returns-in_ok-tell_port-in-Pair-clause-prefixes : goal.returns-in_ok-tell_port-in-Pair-clause-prefixes
returns-in_ok-tell_port-in-Pair-clause-prefixes t c =
    IfOk-weaker c.tell_port-in-Pair-2.result _ _ (λ x right. λ u rest is ends.
    let f = pair_ends u c.in-Pair.names c.in-Pair.left c.in-Pair.right rest ends.0 c.args.marks.now.items c.pop.new.self.items ends.1 ends.2 (popped _ _ _ _ c.pop.ensures.items c.in-Pair.ensures) in
    let told = c.in_ok-below-in-Pair.ensures in
    fork_covered c.args.bits c.args.height c.args.index (ports_in c.in-Pair.names) c.args.above c.in_ok-below-in-Pair.below (Alike c.in-Pair.left) (Alike c.in-Pair.right) _ _ _ _ told.below told.told c.in_ok-tell_port-in-Pair.ensures right
    ∙ ap (λ (x : Trie). c.args.prefixes.now.items ++ cover_of c.args.bits x c.args.height c.args.index c.args.above) (sym f.0))
    c.tell_port-in-Pair-2.ensures

pub tell_bits-requires-in-Several-clause-some : goal.tell_bits-requires-in-Several-clause-some
tell_bits-requires-in-Several-clause-some t c =
    let w = c.requires.trie in
    let f = several_ends w.0 c.in-Several.names w.1 w.3.0 c.args.marks.now.items c.pop.new.self.items w.3.1 w.3.2 (popped _ _ _ _ c.pop.ensures.items c.in-Several.ensures) in
    let is = subst (IsTrie c.args.height) f.is w.2 in
    is.3.some

pub overflow_sub-height-in-Several : goal.overflow_sub-height-in-Several
overflow_sub-height-in-Several t c =
    let w = c.requires.trie in
    let f = several_ends w.0 c.in-Several.names w.1 w.3.0 c.args.marks.now.items c.pop.new.self.items w.3.1 w.3.2 (popped _ _ _ _ c.pop.ensures.items c.in-Several.ensures) in
    let is = subst (IsTrie c.args.height) f.is w.2 in
    is.0

pub take_marks-requires : goal.take_marks-requires
take_marks-requires t c =
    let w = c.requires.trie in
    let f = several_ends w.0 c.in-Several.names w.1 w.3.0 c.args.marks.now.items c.pop.new.self.items w.3.1 w.3.2 (popped _ _ _ _ c.pop.ensures.items c.in-Several.ensures) in
    let is = subst (IsTrie c.args.height) f.is w.2 in
    let h = left_within c.args.index c.args.height 65536 is.0 c.requires.inside in
    (omega arith, ((f.left, w.1 ++ f.right_marks, is.1, (f.left_marks, f.left_are, f.front_is)), (omega arith, h)))

pub overflow_sub-height-in-Several-2 : goal.overflow_sub-height-in-Several-2
overflow_sub-height-in-Several-2 t c =
    let w = c.requires.trie in
    let f = several_ends w.0 c.in-Several.names w.1 w.3.0 c.args.marks.now.items c.pop.new.self.items w.3.1 w.3.2 (popped _ _ _ _ c.pop.ensures.items c.in-Several.ensures) in
    let is = subst (IsTrie c.args.height) f.is w.2 in
    is.0

pub take_marks-requires-in-Several : goal.take_marks-requires-in-Several
take_marks-requires-in-Several t c =
    let w = c.requires.trie in
    let f = several_ends w.0 c.in-Several.names w.1 w.3.0 c.args.marks.now.items c.pop.new.self.items w.3.1 w.3.2 (popped _ _ _ _ c.pop.ensures.items c.in-Several.ensures) in
    let is = subst (IsTrie c.args.height) f.is w.2 in
    let h = right_within c.args.index c.args.height 65536 is.0 c.requires.inside in
    let e = c.in_ok-take_marks-in-Several.ensures.rest f.left (w.1 ++ f.right_marks) is.1 (f.left_marks, f.left_are, f.front_is) in
    (omega arith, ((f.right, w.1, is.2, (f.right_marks, f.right_are, e)), (omega arith, h)))

pub returns-in-NoPort-clause-rest : goal.returns-in-NoPort-clause-rest
returns-in-NoPort-clause-rest t c = λ u rest is ends.
    (free_ends u rest ends.0 c.args.marks.now.items c.pop.new.self.items ends.1 ends.2 (popped _ _ _ _ c.pop.ensures.items c.in-NoPort.ensures)).1

pub returns-in-NoPort-clause-prefixes : goal.returns-in-NoPort-clause-prefixes
returns-in-NoPort-clause-prefixes t c = λ u rest is ends.
    let f = free_ends u rest ends.0 c.args.marks.now.items c.pop.new.self.items ends.1 ends.2 (popped _ _ _ _ c.pop.ensures.items c.in-NoPort.ensures) in
    sym (append-nil c.args.prefixes.now.items) ∙ ap (λ (x : Trie). c.args.prefixes.now.items ++ cover_of c.args.bits x c.args.height c.args.index c.args.above) (sym f.0)

pub returns-in-OnePort-clause-rest : goal.returns-in-OnePort-clause-rest
returns-in-OnePort-clause-rest t c =
    IfOk-weaker c.tell_port.result _ _ (λ x told. λ u rest is ends.
    (one_ends u c.in-OnePort.port rest ends.0 c.args.marks.now.items c.pop.new.self.items ends.1 ends.2 (popped _ _ _ _ c.pop.ensures.items c.in-OnePort.ensures)).1)
    c.tell_port.ensures

pub returns-in-OnePort-clause-prefixes : goal.returns-in-OnePort-clause-prefixes
returns-in-OnePort-clause-prefixes t c =
    IfOk-weaker c.tell_port.result _ _ (λ x told. λ u rest is ends.
    let f = one_ends u c.in-OnePort.port rest ends.0 c.args.marks.now.items c.pop.new.self.items ends.1 ends.2 (popped _ _ _ _ c.pop.ensures.items c.in-OnePort.ensures) in
    told ∙ ap (λ (x : Trie). c.args.prefixes.now.items ++ cover_of c.args.bits x c.args.height c.args.index c.args.above) (sym f.0))
    c.tell_port.ensures

pub returns-in_ok-take_marks-in-Several-clause-rest : goal.returns-in_ok-take_marks-in-Several-clause-rest
returns-in_ok-take_marks-in-Several-clause-rest t c =
    IfOk-weaker c.take_marks-in-Several.result _ _ (λ x right. λ u rest is ends.
    let f = several_ends u c.in-Several.names rest ends.0 c.args.marks.now.items c.pop.new.self.items ends.1 ends.2 (popped _ _ _ _ c.pop.ensures.items c.in-Several.ensures) in
    let trie = subst (IsTrie c.args.height) f.is is in
    let l = c.in_ok-take_marks-in-Several.ensures.rest f.left (rest ++ f.right_marks) trie.1 (f.left_marks, f.left_are, f.front_is) in
    right f.right rest trie.2 (f.right_marks, f.right_are, l))
    c.take_marks-in-Several.ensures.rest

pub returns-in_ok-take_marks-in-Several-clause-prefixes : goal.returns-in_ok-take_marks-in-Several-clause-prefixes
returns-in_ok-take_marks-in-Several-clause-prefixes t c =
    IfOk-weaker c.take_marks-in-Several.result _ _ (λ x right. λ u rest is ends.
    let f = several_ends u c.in-Several.names rest ends.0 c.args.marks.now.items c.pop.new.self.items ends.1 ends.2 (popped _ _ _ _ c.pop.ensures.items c.in-Several.ensures) in
    let trie = subst (IsTrie c.args.height) f.is is in
    let l = c.in_ok-take_marks-in-Several.ensures.rest f.left (rest ++ f.right_marks) trie.1 (f.left_marks, f.left_are, f.front_is) in
    let half = c.in_ok-take_marks-in-Several.ensures.prefixes f.left (rest ++ f.right_marks) trie.1 (f.left_marks, f.left_are, f.front_is) in
    let whole = right f.right rest trie.2 (f.right_marks, f.right_are, l) in
    let told = c.in_ok-below-in-Several.ensures in
    fork_covered c.args.bits c.args.height c.args.index (ports_in c.in-Several.names) c.args.above c.in_ok-below-in-Several.below f.left f.right _ _ _ _ told.below told.told half whole
    ∙ ap (λ (x : Trie). c.args.prefixes.now.items ++ cover_of c.args.bits x c.args.height c.args.index c.args.above) (sym f.is))
    c.take_marks-in-Several.ensures.prefixes
