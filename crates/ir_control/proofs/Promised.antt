-- One more promise, of one more node.
use Rattle.std.proofs.Common.{◌≡◌, List, [], ◌∷◌, ◌++◌, map, ap, ◌∙◌}
use Rattle.std.proofs.lemmas.List.{map-append}

pub promised_push : {H N : Type 0} (f : H → N) (hs hs' : List H) (ns : List N) (h : H) (n : N) → map f hs ≡ ns → hs' ≡ hs ++ h ∷ [] → f h ≡ n → map f hs' ≡ ns ++ n ∷ []
promised_push f hs hs' ns h n same pushed is =
    ap (map f) pushed ∙ map-append f hs (h ∷ []) ∙ ap (λ ms. ms ++ f h ∷ []) same ∙ ap (λ m. ns ++ m ∷ []) is
