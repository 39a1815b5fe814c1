-- Names that are looked up one by one.
use Rattle.std.proofs.Common.{◌≡◌, ◌<◌, ◌+◌, ℕ, zero, suc, List, [], ◌∷◌, ◌++◌, length, get_or, take, map, Option, Some, None, sym, ap, subst, ◌∙◌, arith}
use Rattle.std.specs.Borrow.{Bor}
use Rattle.std.proofs.lemmas.List.{take_more, map-append}
use Rattle.ir_model.specs.Graph.{Name}
use Rattle.ir_model.specs.Graph.{Adjacency, names}
use Rattle.ir_trace.specs.declared.words.SegmentSpelling.{SegmentSpelling}
use Rattle.ir_trace.specs.Row.{Segment}
use Rattle.ir_trace.specs.Rows.{PartText}
use Rattle.ir_trace.specs.Reading.{node_named, PartsAreReadAs}
use Rattle.ir_trace.specs.Spelled.{texts, part_held, AreNoHops, AreNoPartsOf}

module _ (f : Name → Option ℕ) where
  pub hops_more : (words : List (Bor (List ℕ))) (i : ℕ) (d : Bor (List ℕ)) (hops : List ℕ) (u : ℕ) → i < length words → f (get_or words i d).now ≡ Some u → map f (texts (take i words)) ≡ map (λ v. Some v) hops
      → map f (texts (take (i + 1) words)) ≡ map (λ v. Some v) (hops ++ u ∷ [])
  hops_more words i d hops u h found is =
      ap (λ ws. map f (texts ws)) (take_more words i d h) ∙ ap (map f) (map-append (λ (w : Bor (List ℕ)). w.now) (take i words) (get_or words i d ∷ []))
      ∙ map-append f (texts (take i words)) ((get_or words i d).now ∷ [])
      ∙ ap (λ t. map f (texts (take i words)) ++ t ∷ []) found ∙ ap (λ t. t ++ Some u ∷ []) is ∙ sym (map-append (λ v. Some v) hops (u ∷ []))

  pub no_hops_at : (words : List (Bor (List ℕ))) (i : ℕ) (d : Bor (List ℕ)) → i < length words → f (get_or words i d).now ≡ None → (hops : List ℕ) → map f (texts words) ≡ map (λ v. Some v) hops → ⊥
  no_hops_at [] i d h missing hops e = absurd (omega arith)
  no_hops_at (w ∷ ws) i d h missing [] e = cc e
  no_hops_at (w ∷ ws) zero d h missing (u ∷ us) e = let same : f w.now ≡ Some u = cc e in let bad : None ≡ Some u = sym missing ∙ same in cc bad
  no_hops_at (w ∷ ws) (suc i) d h missing (u ∷ us) e = no_hops_at ws i d (omega arith) missing us (cc e)

-- ---- parts

read_push : (g : Adjacency) (texts : List PartText) (parts : List Segment) (text : PartText) (part : Segment) → PartsAreReadAs g texts parts → part.epoch ≡ text.epoch → map (node_named (names g)) text.hops ≡ map (λ u. Some u) part.hops
    → PartsAreReadAs g (texts ++ text ∷ []) (parts ++ part ∷ [])
read_push g [] [] text part are epoch hops = (epoch, hops, tt)
read_push g [] (p ∷ parts) text part are epoch hops = absurd are
read_push g (t ∷ texts) [] text part are epoch hops = absurd are
read_push g (t ∷ texts) (p ∷ parts) text part are epoch hops = (are.0, are.1, read_push g texts parts text part are.2 epoch hops)

-- one part more
pub parts_more : (g : Adjacency) (spellings : List SegmentSpelling) (i : ℕ) (d : SegmentSpelling) (parts items : List Segment) (part : Segment) → i < length spellings → items ≡ parts ++ part ∷ []
    → part.epoch ≡ (get_or spellings i d).epoch → map (node_named (names g)) (texts (get_or spellings i d).hops.now) ≡ map (λ u. Some u) part.hops
    → PartsAreReadAs g (map part_held (take i spellings)) parts → PartsAreReadAs g (map part_held (take (i + 1) spellings)) items
parts_more g spellings i d parts items part lt pushed epoch hops are =
    let more : map part_held (take (i + 1) spellings) ≡ map part_held (take i spellings) ++ part_held (get_or spellings i d) ∷ [] =
    ap (map part_held) (take_more spellings i d lt) ∙ map-append part_held (take i spellings) (get_or spellings i d ∷ []) in
    let P : List Segment → Type 0 = λ ps. PartsAreReadAs g (map part_held (take (i + 1) spellings)) ps in
    let Q : List PartText → Type 0 = λ ts. PartsAreReadAs g ts (parts ++ part ∷ []) in
    subst P (sym pushed) (subst Q (sym more) (read_push g (map part_held (take i spellings)) parts (part_held (get_or spellings i d)) part are epoch hops))

pub no_parts_at : (g : Adjacency) (spellings : List SegmentSpelling) (i : ℕ) (d : SegmentSpelling) → i < length spellings → AreNoHops g (texts (get_or spellings i d).hops.now) → AreNoPartsOf g (map part_held spellings)
no_parts_at g [] i d lt none parts are = absurd (omega arith)
no_parts_at g (s ∷ spellings) i d lt none [] are = absurd are
no_parts_at g (s ∷ spellings) zero d lt none (p ∷ parts) are = none p.hops are.1
no_parts_at g (s ∷ spellings) (suc i) d lt none (p ∷ parts) are = no_parts_at g spellings i d (omega arith) none parts are.2
