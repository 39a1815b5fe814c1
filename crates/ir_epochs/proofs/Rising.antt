-- Floors and current epochs only rise.
use Rattle.std.proofs.Common.{◌≡◌, ℕ, zero, suc, ◌<◌, List, [], ◌∷◌, ◌++◌, take, length, fold, refl, sym, ap, subst, inl, inr, ◌⊎◌, ⊎_elim, le_refl, le_trans, ◌∙◌, arith}
use mathlib.Core.List.{IsPrefix}
use Rattle.ir_core.specs.declared.board.Board.{Board}
use Rattle.ir_core.specs.Board.{opening_board}
use Rattle.ir_epochs.specs.declared.registry.Stamp.{Stamp}
use Rattle.ir_epochs.specs.declared.entry.Change.{Change}
use Rattle.ir_epochs.specs.declared.entry.Change.TheVariants.{Install, Retire, Down, Up, Avoid, Heed}
use Rattle.ir_epochs.specs.declared.entry.Entry.{Entry}
use Rattle.ir_epochs.specs.declared.entry.Entry.TheVariants.{Opened, Changed}
use Rattle.ir_epochs.specs.Entries.{board_of, entered, changed, MayComeNext, Rises, IsRising}

take_none : (n : ℕ) → take {A = Entry} n [] ≡ []
take_none zero = refl
take_none (suc n) = refl

take_last : (xs : List Entry) (e : Entry) (n : ℕ) → (take n (xs ++ e ∷ []) ≡ take n xs) ⊎ (take n (xs ++ e ∷ []) ≡ xs ++ e ∷ [])
take_last [] e zero = inl refl
take_last [] e (suc n) = inr (ap (λ ys. e ∷ ys) (take_none n))
take_last (x ∷ xs) e zero = inl refl
take_last (x ∷ xs) e (suc n) = ⊎_elim (λ (t : take n (xs ++ e ∷ []) ≡ take n xs). inl (ap (λ ys. x ∷ ys) t)) (λ (t : take n (xs ++ e ∷ []) ≡ xs ++ e ∷ []). inr (ap (λ ys. x ∷ ys) t)) (take_last xs e n)

board_from : (b : Board) (xs : List Entry) (e : Entry) → fold entered b (xs ++ e ∷ []) ≡ entered (fold entered b xs) e
board_from b [] e = refl
board_from b (x ∷ xs) e = board_from (entered b x) xs e

-- the board after one more change
pub board_last : (xs : List Entry) (c : Change) → board_of (xs ++ Changed c ∷ []) ≡ changed (board_of xs) c
board_last xs c = board_from opening_board xs (Changed c)

later_step : (xs : List Entry) (c : Change) → MayComeNext xs c → Rises (board_of xs) (changed (board_of xs) c)
later_step xs (Install s) f = let lt : (board_of xs).current < s.epoch = f.0 in (le_refl (board_of xs).floor, omega arith)
later_step xs (Retire g) f = let lt : (board_of xs).floor < g = f.0 in (omega arith, le_refl (board_of xs).current)
later_step xs (Down l) f = (le_refl (board_of xs).floor, le_refl (board_of xs).current)
later_step xs (Up l) f = (le_refl (board_of xs).floor, le_refl (board_of xs).current)
later_step xs (Avoid l) f = (le_refl (board_of xs).floor, le_refl (board_of xs).current)
later_step xs (Heed l) f = (le_refl (board_of xs).floor, le_refl (board_of xs).current)

pub rising_opened : (links : ℕ) (s : Stamp) → IsRising (Opened links s ∷ [])
rising_opened links s zero = (le_refl 1, le_refl 1)
rising_opened links s (suc n) = subst (λ (ys : List Entry). Rises (board_of (Opened links s ∷ ys)) (board_of (Opened links s ∷ []))) (sym (take_none n)) (le_refl 1, le_refl 1)

pub rising_more : (xs : List Entry) (c : Change) → IsRising xs → MayComeNext xs c → IsRising (xs ++ Changed c ∷ [])
rising_more xs c up fits n = let all = xs ++ Changed c ∷ [] in
    let step : Rises (board_of xs) (board_of all) = subst (λ (b : Board). Rises (board_of xs) b) (sym (board_last xs c)) (later_step xs c fits) in
    ⊎_elim (λ (t : take n all ≡ take n xs). subst (λ (ys : List Entry). Rises (board_of ys) (board_of all)) (sym t) (le_trans (up n).0 step.0, le_trans (up n).1 step.1))
    (λ (t : take n all ≡ all). subst (λ (ys : List Entry). Rises (board_of ys) (board_of all)) (sym t) (le_refl (board_of all).floor, le_refl (board_of all).current)) (take_last xs (Changed c) n)

take_prefix : (xs rest : List Entry) → take (length xs) (xs ++ rest) ≡ xs
take_prefix [] rest = refl
take_prefix (x ∷ xs) rest = ap (λ ys. x ∷ ys) (take_prefix xs rest)

pub later_of : (xs ys : List Entry) → IsPrefix xs ys → IsRising ys → Rises (board_of xs) (board_of ys)
later_of xs ys p up = subst (λ (zs : List Entry). Rises (board_of zs) (board_of ys)) (ap (λ (zs : List Entry). take (length xs) zs) (sym p.1) ∙ take_prefix xs p.0) (up (length xs))
