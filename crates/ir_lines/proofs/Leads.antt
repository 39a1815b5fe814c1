-- What the lines of a tree lead a key to.
use Rattle.std.proofs.Common.{◌≡◌, ℕ, ◌+◌, ◌-◌, ◌*◌, ◌/◌, ◌%◌, ◌<◌, ◌≤◌, List, [], ◌∷◌, ◌++◌, length, get_or, refl, sym, ap, ◌∙◌, subst, inl, inr, arith}
use Rattle.std.specs.Prelude.{slice_index}
use Rattle.std.proofs.lemmas.Bool.{cases_lt}
use Rattle.std.proofs.lemmas.List.{append-nil, append_assoc, length-append, get_or_append_left, get_or-append-add}
use Rattle.std.proofs.lemmas.List.Edits.{length-between, get_or-between}
use Rattle.ir_lines.specs.declared.Owner.{Owner}
use Rattle.ir_lines.specs.Words.{groups, table_head, level, root_alone, two_levels, three_levels}
use Rattle.ir_lines.specs.Looks.{IsPlaceIn, table_line, root, depth_of, base_of}
use Rattle.ir_lines.proofs.Levels.{length-level, get_or-level}

-- the place p, of so many, of the last value that is at most the key
pub record IsStep (g : ℕ → ℕ) (key count p : ℕ) : Type 0 where
  pub inside : p < count
  pub at_most : g p ≤ key
  pub next : key < g (p + 1)

pub step_in : (xs : List ℕ) (g : ℕ → ℕ) (key count p : ℕ) → length xs ≡ count → ((j : ℕ) → j < count → get_or xs j 0 ≡ g j)
    → key < g count → IsPlaceIn xs key p → IsStep g key count p
step_in xs g key count p len each above is =
    let i = is.inside in
    let here = each p (omega arith) in
    let most = is.at_most in
    record {
      inside = omega arith;
      at_most = omega arith;
      next = elim (cases_lt (p + 1) count) [
        | inl more ↦ let n = is.next (omega arith) in let e = each (p + 1) more in omega arith
        | inr last ↦ let e : count ≡ p + 1 = omega arith in subst (λ (x : ℕ). key < g x) e above
      ];
    }

-- the same in the root, and in a line
pub step_in_root : (words : List ℕ) (g : ℕ → ℕ) (key p : ℕ) → 32 ≤ length words → ((j : ℕ) → j < 16 → get_or words (16 + j) 0 ≡ g j)
    → key < g 16 → IsPlaceIn (root words) key p → IsStep g key 16 p
step_in_root words g key p there each above is =
    step_in (root words) g key 16 p (length-between words 16 32 there) (λ j l. get_or-between words 16 32 j 0 (omega arith) ∙ each j l) above is

pub step_in_line : (words : List ℕ) (i : ℕ) (g : ℕ → ℕ) (key p : ℕ) → 32 * i + 32 ≤ length words → ((j : ℕ) → j < 32 → get_or words (32 * i + j) 0 ≡ g j)
    → key < g 32 → IsPlaceIn (table_line words i) key p → IsStep g key 32 p
step_in_line words i g key p there each above is =
    let len : length (table_line words i) ≡ 32 = length-between words (32 * i) (32 * i + 32) there ∙ (omega arith) in
    step_in (table_line words i) g key 32 p len (λ j l. get_or-between words (32 * i) (32 * i + 32) j 0 (omega arith) ∙ each j l) above is

-- what is in the lines
pub root_word : (words : List ℕ) (p : ℕ) → p < 16 → get_or (root words) p 0 ≡ get_or words (16 + p) 0
root_word words p l = get_or-between words 16 32 p 0 (omega arith)

pub line_word : (words : List ℕ) (i p : ℕ) → p < 32 → get_or (table_line words i) p 0 ≡ get_or words (32 * i + p) 0
line_word words i p l = get_or-between words (32 * i) (32 * i + 32) p 0 (omega arith)

-- a level between others
level_at : (words xs ys : List ℕ) (f : ℕ → ℕ) (stride count from x : ℕ) → words ≡ xs ++ level f stride count ++ ys → length xs ≡ from → x < count
    → get_or words (from + x) 0 ≡ f (stride * x)
level_at words xs ys f stride count from x e len h =
    let all = length-append xs (level f stride count) in
    let many = length-level f stride count in
    ap (λ (ws : List ℕ). get_or ws (from + x) 0) e
    ∙ get_or_append_left (xs ++ level f stride count) ys 0 (from + x) (omega arith)
    ∙ ap (λ (k : ℕ). get_or (xs ++ level f stride count) (k + x) 0) (sym len)
    ∙ get_or-append-add xs (level f stride count) x 0
    ∙ get_or-level f stride count x h

pub length-head : (owner : Owner) (depth base : ℕ) → length (table_head owner depth base) ≡ 16
unfolding table_head
length-head owner depth base = refl

pub depth_in : (owner : Owner) (depth base : ℕ) (ys : List ℕ) → get_or (table_head owner depth base ++ ys) 3 0 ≡ depth
unfolding table_head
depth_in owner depth base ys = refl

base_in : (owner : Owner) (depth base : ℕ) (ys : List ℕ) → get_or (table_head owner depth base ++ ys) 4 0 ≡ base
unfolding table_head
base_in owner depth base ys = refl

-- a tree of the root alone
pub record OfRoot (f : ℕ → ℕ) (words : List ℕ) : Type 0 where
  pub every : length words ≡ 32
  pub depth : depth_of words ≡ 0
  pub first : (p : ℕ) → p < 16 → get_or words (16 + p) 0 ≡ f p

-- of two levels
pub record OfTwo (f : ℕ → ℕ) (count : ℕ) (words : List ℕ) : Type 0 where
  pub every : length words ≡ 32 + 32 * groups count 32
  pub depth : depth_of words ≡ 1
  pub first : (p : ℕ) → p < 16 → get_or words (16 + p) 0 ≡ f (32 * p)
  pub last : (x : ℕ) → x < 32 * groups count 32 → get_or words (32 + x) 0 ≡ f x

-- and of three
pub record OfThree (f : ℕ → ℕ) (count : ℕ) (words : List ℕ) : Type 0 where
  pub every : length words ≡ 32 + 32 * groups count 1024 + 32 * groups count 32
  pub depth : depth_of words ≡ 2
  pub base : base_of words ≡ 1 + groups count 1024
  pub first : (p : ℕ) → p < 16 → get_or words (16 + p) 0 ≡ f (1024 * p)
  pub middle : (x : ℕ) → x < 32 * groups count 1024 → get_or words (32 + x) 0 ≡ f (32 * x)
  pub last : (x : ℕ) → x < 32 * groups count 32 → get_or words (32 * (1 + groups count 1024) + x) 0 ≡ f x

once : (f : ℕ → ℕ) (x : ℕ) → f (1 * x) ≡ f x
once f x = let e : 1 * x ≡ x = omega arith in ap f e

pub of_root : (owner : Owner) (f : ℕ → ℕ) (words : List ℕ) → words ≡ root_alone owner f → OfRoot f words
of_root owner f words e =
    let h = length-head owner 0 0 in
    let l = length-level f 1 16 in
    let all = length-append (table_head owner 0 0) (level f 1 16) in
    let same : length words ≡ length (table_head owner 0 0 ++ level f 1 16) = ap length e in
    record {
      every = omega arith;
      depth = ap depth_of e ∙ depth_in owner 0 0 (level f 1 16);
      first = λ p lt. level_at words (table_head owner 0 0) [] f 1 16 16 p (e ∙ sym (append-nil (table_head owner 0 0 ++ level f 1 16))) h lt ∙ once f p;
    }

pub of_two : (owner : Owner) (f : ℕ → ℕ) (count : ℕ) (words : List ℕ) → words ≡ two_levels owner f count → OfTwo f count words
of_two owner f count words e =
    let h = length-head owner 1 1 in
    let top = level f 32 16 in
    let low = level f 1 (32 * groups count 32) in
    let l = length-level f 32 16 in
    let m = length-level f 1 (32 * groups count 32) in
    let front = length-append (table_head owner 1 1) (level f 32 16) in
    let all = length-append (table_head owner 1 1 ++ level f 32 16) (level f 1 (32 * groups count 32)) in
    let same : length words ≡ length (two_levels owner f count) = ap length e in
    record {
      every = omega arith;
      depth = ap depth_of (e ∙ append_assoc (table_head owner 1 1) top low) ∙ depth_in owner 1 1 (top ++ low);
      first = λ p lt. level_at words (table_head owner 1 1) low f 32 16 16 p e h lt;
      last = λ x lt. level_at words (table_head owner 1 1 ++ top) [] f 1 (32 * groups count 32) 32 x (e ∙ sym (append-nil (two_levels owner f count))) (omega arith) lt ∙ once f x;
    }

pub of_three : (owner : Owner) (f : ℕ → ℕ) (count : ℕ) (words : List ℕ) → words ≡ three_levels owner f count → OfThree f count words
of_three owner f count words e =
    let b = 1 + groups count 1024 in
    let h = length-head owner 2 b in
    let top = level f 1024 16 in
    let mid = level f 32 (32 * groups count 1024) in
    let low = level f 1 (32 * groups count 32) in
    let l = length-level f 1024 16 in
    let k = length-level f 32 (32 * groups count 1024) in
    let m = length-level f 1 (32 * groups count 32) in
    let front = length-append (table_head owner 2 b) top in
    let more = length-append (table_head owner 2 b ++ top) mid in
    let all = length-append (table_head owner 2 b ++ top ++ mid) low in
    let same : length words ≡ length (three_levels owner f count) = ap length e in
    let split : words ≡ table_head owner 2 b ++ top ++ (mid ++ low) = e ∙ append_assoc (table_head owner 2 b ++ top) mid low in
    let split_more : words ≡ table_head owner 2 b ++ (top ++ (mid ++ low)) = split ∙ append_assoc (table_head owner 2 b) top (mid ++ low) in
    record {
      every = omega arith;
      depth = ap depth_of split_more ∙ depth_in owner 2 b (top ++ (mid ++ low));
      base = ap base_of split_more ∙ base_in owner 2 b (top ++ (mid ++ low));
      first = λ p lt. level_at words (table_head owner 2 b) (mid ++ low) f 1024 16 16 p split h lt;
      middle = λ x lt. level_at words (table_head owner 2 b ++ top) low f 32 (32 * groups count 1024) 32 x e (omega arith) lt;
      last = λ x lt. level_at words (table_head owner 2 b ++ top ++ mid) [] f 1 (32 * groups count 32) (32 * (1 + groups count 1024)) x
          (e ∙ sym (append-nil (three_levels owner f count))) (omega arith) lt ∙ once f x;
    }
