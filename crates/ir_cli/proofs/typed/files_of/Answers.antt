use Rattle.std.proofs.Common.{◌≡◌, ◌∙◌, ◌++◌, [], List, ap, map, string_bytes}
use Rattle.clap.specs.Words.{Text}
use Rattle.ir_cli.proofs.typed.files_of.Goals as goal

-- four lists after none are those lists, one after the other
four : {X : Type 0} (f : X → Text) (none : List X) (a b c d xs ys zs ws : List Text) → none ≡ [] → xs ≡ map f none ++ a → ys ≡ xs ++ b → zs ≡ ys ++ c → ws ≡ zs ++ d
    → ws ≡ a ++ b ++ c ++ d
four {X} f none a b c d xs ys zs ws empty first second third fourth =
    fourth ∙ ap (λ (all : List Text). all ++ d) (third ∙ ap (λ (all : List Text). all ++ c) (second ∙ ap (λ (all : List Text). all ++ b) (first ∙ ap (λ (all : List X). map f all ++ a) empty)))

pub returns : goal.returns
returns c =
    four string_bytes _ _ _ _ _ _ _ _ _ c.new-files.ensures.items c.in_ok-push_file.ensures c.in_ok-push_file-2.ensures c.in_ok-push_file-3.ensures
    c.in_ok-push_file-4.ensures
