use Rattle.std.proofs.Common.{◌≡◌, ◌+◌, ◌++◌, [], ◌∷◌, length, map, List, ℕ, ap, ◌∙◌, arith}
use Rattle.std.proofs.lemmas.List.{length-append}
use Rattle.ir_streams.specs.Texts.{text_of}
use Rattle.ir_streams.proofs.TextLemmas.{texts_more}
use Rattle.ir_streams.proofs.texts.Texts.push.Goals as goal

pub returns : goal.returns
returns c =
    let xs : List ℕ = c.self.inside.bytes.items in
    let ys : List ℕ = c.args.text.now in
    let spans : List (ℕ × ℕ) = c.self.inside.spans.items in
    let longer : c.extend_from_slice.new.self.items ≡ xs ++ ys = c.in_ok-extend_from_slice.ensures.items in
    let begin : c.len-begin.result ≡ length xs = omega (arith, c.len-begin.ensures, c.self.inside.bytes.ok) in
    let end : c.len.result ≡ length xs + length ys = omega (arith, c.len.ensures, c.extend_from_slice.new.self.ok, ap length longer, length-append xs ys) in
    let span : (c.len-begin.result, c.len.result) ≡ (length xs, length xs + length ys) =
    ap (λ (a : ℕ). (a, c.len.result)) begin ∙ ap (λ (b : ℕ). (length xs, b)) end in
    record {
      more =
          ap (λ (bs : List ℕ). map (text_of bs) c.push.new.self.items) longer
          ∙ ap (map (text_of (xs ++ ys))) (c.in_ok-push.ensures.items ∙ ap (λ (s : ℕ × ℕ). spans ++ s ∷ []) span)
          ∙ texts_more xs ys spans c.self.invariant
          ∙ ap (λ (ts : List (List ℕ)). ts ++ ys ∷ []) c.self.view_is;
    }
