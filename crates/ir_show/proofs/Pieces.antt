-- The pieces that a plan's text is made of.
use Rattle.std.proofs.Common.{◌≡◌, ℕ, zero, suc, Ok, ◌+◌, ◌<◌, List, [], ◌∷◌, ◌++◌, length, map, take, get_or, slice_index, flat_map, refl, sym, ap, ◌∙◌, arith, subst}
use Rattle.std.specs.Global.{Vec}
use Rattle.std.specs.Prelude.{IfOk}
use Rattle.std.specs.List.{AllZip, range_with_len}
use Rattle.std.specs.declared.result.Result.{Result}
use Rattle.std.specs.declared.alloc.AllocError.{AllocError}
use Rattle.std.proofs.lemmas.List.{get_or-map, flat_map_more, take_more}
use Rattle.std.proofs.lemmas.List.FromFn.{get_or-map-range_with_len, length-map-range_with_len, map-range_with_len_more}
use Rattle.ir_model.specs.Row.{Start}
use Rattle.ir_model.proofs.Rows.{no_start}
use Rattle.ir_trace.specs.Rows.{spaced}
use Rattle.ir_show.specs.Blocks.{AreSpaced}

module _ (word : ℕ → List ℕ) (count : ℕ) (texts : List (List ℕ)) (are : AreSpaced word count texts) where
  -- one more
  pub spaced_more : (text : List ℕ) → text ≡ spaced (word count) → AreSpaced word (count + 1) (texts ++ text ∷ [])
  spaced_more text is =
      let f : ℕ → List ℕ = λ k. spaced (word k) in
      ap (λ (ts : List (List ℕ)). ts ++ text ∷ []) are
      ∙ ap (λ (t : List ℕ). map f (range_with_len 0 count) ++ t ∷ []) is
      ∙ sym (map-range_with_len_more f 0 count count (omega arith))

  pub spaced_count : length texts ≡ count
  spaced_count = ap length are ∙ length-map-range_with_len (λ k. spaced (word k)) 0 count

  -- that of a number
  pub spaced_at : (k : ℕ) → k < count → get_or texts k [] ≡ spaced (word k)
  spaced_at k within =
      ap (λ (ts : List (List ℕ)). get_or ts k []) are
      ∙ get_or-map-range_with_len (λ i. spaced (word i)) 0 count k k [] within (omega arith)

-- what was read of a start of a row, its label or its port
pub start_read : (of : Start → ℕ) (row found : List Start) (i x : ℕ) → x ≡ slice_index (map of found) i → found ≡ row → i < length row → x ≡ of (get_or row i no_start)
start_read of row found i x read is within =
    read ∙ ap (λ (r : List Start). slice_index (map of r) i) is ∙ get_or-map of row i no_start 0 within

-- one text more
pub texts_more : (texts : List (Vec ℕ)) (i : ℕ) (d : Vec ℕ) (more : List ℕ) → i < length texts → more ≡ (get_or texts i d).items
    → flat_map (λ (t : Vec ℕ). t.items) (take i texts) ++ more ≡ flat_map (λ (t : Vec ℕ). t.items) (take (i + 1) texts)
texts_more texts i d more within is =
    let items : Vec ℕ → List ℕ = λ t. t.items in
    ap (λ (t : List ℕ). flat_map items (take i texts) ++ t) is ∙ flat_map_more items [] (take i texts) (get_or texts i d)
    ∙ ap (flat_map items) (sym (take_more texts i d within))

-- where no memory was refused, texts of nodes from one on are their lines
pub texts_made : (line : ℕ → List ℕ) (first a k : ℕ) (made : List (Vec ℕ))
    → AllZip (λ (v : ℕ) (one : Result (Vec ℕ) AllocError). IfOk one (λ (text : Vec ℕ). text.items ≡ line (first + v))) (range_with_len a k) (map Ok made)
    → flat_map (λ (t : Vec ℕ). t.items) made ≡ flat_map line (range_with_len (first + a) k)
texts_made line first a zero [] zipped = refl
texts_made line first a zero (one ∷ made) zipped = absurd zipped
texts_made line first a (suc k) [] zipped = absurd zipped
texts_made line first a (suc k) (one ∷ made) zipped =
    let next : first + (a + 1) ≡ first + a + 1 = omega arith in
    let later = subst (λ (u : ℕ). flat_map (λ (v : Vec ℕ). v.items) made ≡ flat_map line (range_with_len u k)) next (texts_made line first (a + 1) k made zipped.1) in
    ap (λ (t : List ℕ). t ++ flat_map (λ (v : Vec ℕ). v.items) made) zipped.0 ∙ ap (λ (t : List ℕ). line (first + a) ++ t) later
