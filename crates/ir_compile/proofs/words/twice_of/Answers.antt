use Rattle.std.proofs.Common.{◌++◌, ℕ, List, take, ap, ◌∙◌, arith}
use Rattle.std.proofs.lemmas.List.{get_or-take, length-take-le}
use Rattle.ir_compile.proofs.PortBits.{rounds_of}
use Rattle.ir_compile.proofs.words.twice_of.Goals as goal

pub returns : goal.returns
returns c =
    let n : ℕ = c.args.n in
    let words : List ℕ = c.args.words.now in
    let part : List ℕ = take n words in
    rounds_of n c.args.own words part c.extend_from_slice-2.new.self.items c.requires.own (length-take-le n words c.requires.every) (λ i l. get_or-take n words i 0 l)
    (c.in_ok-extend_from_slice-2.ensures.items ∙ ap (λ (xs : List ℕ). xs ++ part) (c.in_ok-extend_from_slice.ensures.items ∙ ap (λ (xs : List ℕ). xs ++ part) c.in_ok-twice.ensures.items))

pub overflow_mul-n : goal.overflow_mul-n
overflow_mul-n c = record { fits = omega (arith, c.requires.few) }

pub overflow_add-n : goal.overflow_add-n
overflow_add-n c = record { fits = omega (arith, c.requires.few, c.requires.own) }

pub index_mut-requires : goal.index_mut-requires
index_mut-requires c =
    let part = length-take-le c.args.n c.args.words.now c.requires.every in
    omega (arith, part, c.requires.own, c.in_ok-extend_from_slice-2.ensures.len, c.in_ok-extend_from_slice.ensures.len)

pub index_mut-requires-2 : goal.index_mut-requires-2
index_mut-requires-2 c =
    let part = length-take-le c.args.n c.args.words.now c.requires.every in
    omega (arith, part, c.requires.own, c.in_ok-extend_from_slice-2.ensures.len, c.in_ok-extend_from_slice.ensures.len)
