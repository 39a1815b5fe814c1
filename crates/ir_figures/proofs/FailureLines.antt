-- The lines of links that fail.
use Rattle.std.proofs.Common.{◌≡◌, ◌≢◌, ◌∙◌, ℕ, zero, suc, ◌+◌, ◌≤◌, cond, nat_lt, true, false, List, [], ◌∷◌, ◌++◌, Bool, Option, None, Some, Ok, Err, length, map, flat_map, codes, refl, sym, ap, subst, arith, append_assoc}
use Rattle.std.specs.Prelude.{if◌then◌else◌, is_ok, slice_index, IfOk, IsSomeAnd, OnOk}
use Rattle.std.specs.List.{AllZip, range_with_len}
use Rattle.std.specs.declared.result.Result.{Result}
use Rattle.std.specs.declared.alloc.AllocError.{AllocError}
use Rattle.std.proofs.lemmas.Grind.{flat_map-append}
use Rattle.std.proofs.lemmas.List.{append-nil, get_or_default}
use Rattle.ir_model.specs.declared.Kind.{Kind}
use Rattle.ir_model.specs.declared.Kind.TheVariants.{Tree, Shortest, Compact, Landmark}
use Rattle.ir_model.specs.declared.Link.{Link}
use Rattle.ir_model.specs.Topology.{Topology, node_count, restrict}
use Rattle.ir_model.specs.Plan.{Plan, IsPlan}
use Rattle.ir_model.proofs.Restrict.{node_count-restrict}
use Rattle.ir_plan.specs.Building.{Labelling, FromRoot, ByList, MayLabel, HasRoot, HasNoRoot}
use Rattle.ir_plan.specs.declared.crew.NodeText.{NodeText}
use Rattle.ir_plan.specs.declared.tour.LabelOrder.{LabelOrder}
use Rattle.ir_trace.specs.Rows.{spaced}
use Rattle.ir_trace.proofs.WrittenRows.{join_spaced}
use Rattle.ir_show.specs.Words.{line_text}
use Rattle.ir_figures.specs.Failures.{all_but, labelling_kept, labelling_left, without_link, AreWordsOf}
use Rattle.ir_figures.specs.Made.{bytes_made, IsOtherOver, HaveNumbers}

-- ---- words

three_pieces : (old a b c : List ℕ) → ((old ++ a) ++ b) ++ c ≡ old ++ ((a ++ b) ++ c)
three_pieces old a b c = simp append_assoc

-- the words of figures, written one behind the other
pub figures_told : (old a b c : List ℕ) (counts stretches : List (List ℕ)) (ring : List ℕ)
    → a ≡ old ++ flat_map spaced counts → b ≡ a ++ flat_map spaced stretches → c ≡ b ++ spaced ring
    → c ≡ old ++ flat_map spaced (counts ++ stretches ++ ring ∷ [])
figures_told old a b c counts stretches ring one two three =
    rw (three, two, one)
    (three_pieces old (flat_map spaced counts) (flat_map spaced stretches) (spaced ring)
    ∙ ap (λ t. old ++ ((flat_map spaced counts ++ flat_map spaced stretches) ++ t)) (sym (append-nil (spaced ring)))
    ∙ ap (λ t. old ++ (t ++ flat_map spaced (ring ∷ []))) (sym (flat_map-append spaced counts stretches))
    ∙ ap (λ t. old ++ t) (sym (flat_map-append spaced (counts ++ stretches) (ring ∷ []))))

four_pieces : (old a b c d : List ℕ) → (((old ++ a) ++ b) ++ c) ++ d ≡ old ++ ((a ++ (b ++ c)) ++ d)
four_pieces old a b c d = simp append_assoc

-- a line of two words and further ones
pub line_told : (old a b c d first second : List ℕ) (words : List (List ℕ))
    → a ≡ old ++ first → b ≡ a ++ spaced second → c ≡ b ++ flat_map spaced words → d ≡ c ++ 10 ∷ []
    → d ≡ old ++ line_text (first ∷ second ∷ words)
line_told old a b c d first second words one two three four =
    rw (four, three, two, one)
    (four_pieces old first (spaced second) (flat_map spaced words) (10 ∷ [])
    ∙ ap (λ t. old ++ (t ++ 10 ∷ [])) (sym (join_spaced first (second ∷ words))))

-- the same of one word and further ones
pub one_told : (old a b c first : List ℕ) (words : List (List ℕ)) → a ≡ old ++ first → b ≡ a ++ flat_map spaced words → c ≡ b ++ 10 ∷ []
    → c ≡ old ++ line_text (first ∷ words)
one_told old a b c first words one two three =
    rw (three, two, one)
    (three_pieces old first (flat_map spaced words) (10 ∷ [])
    ∙ ap (λ t. old ++ (t ++ 10 ∷ [])) (sym (join_spaced first words)))

seven_pieces : (old a b c d e f g : List ℕ) → ((((((old ++ a) ++ b) ++ c) ++ d) ++ e) ++ f) ++ g ≡ old ++ ((a ++ (b ++ (c ++ (d ++ (e ++ f))))) ++ g)
seven_pieces old a b c d e f g = simp append_assoc

-- the first line
pub head_told : (old a b c d e f g what kind nodes links : List ℕ) (words : List (List ℕ))
    → a ≡ old ++ codes "each" → b ≡ a ++ spaced what → c ≡ b ++ spaced kind → d ≡ c ++ spaced nodes → e ≡ d ++ spaced links → f ≡ e ++ flat_map spaced words → g ≡ f ++ 10 ∷ []
    → g ≡ old ++ line_text (codes "each" ∷ what ∷ kind ∷ nodes ∷ links ∷ words)
head_told old a b c d e f g what kind nodes links words one two three four five six seven =
    rw (seven, six, five, four, three, two, one)
    (seven_pieces old (codes "each") (spaced what) (spaced kind) (spaced nodes) (spaced links) (flat_map spaced words) (10 ∷ [])
    ∙ ap (λ t. old ++ (t ++ 10 ∷ [])) (sym (join_spaced (codes "each") (what ∷ kind ∷ nodes ∷ links ∷ words))))

-- ---- texts of a crew

-- where nothing was refused, the texts are those that were made
pub texts_made : (P : ℕ → NodeText → Type 0) (u k : ℕ) (made : List NodeText) → AllZip (λ (v : ℕ) (one : Result NodeText AllocError). IfOk one (P v)) (range_with_len u k) (map Ok made)
    → AllZip P (range_with_len u k) made
texts_made P u zero [] zipped = zipped
texts_made P u zero (one ∷ made) zipped = zipped
texts_made P u (suc k) [] zipped = zipped
texts_made P u (suc k) (one ∷ made) zipped = (zipped.0, texts_made P (u + 1) k made zipped.1)

-- what holds of texts holds of their bytes
pub bytes_zipped : (P : ℕ → List ℕ → Type 0) (us : List ℕ) (made : List NodeText) → AllZip (λ l one. P l (bytes_made one)) us made → AllZip P us (map bytes_made made)
bytes_zipped P [] [] zipped = zipped
bytes_zipped P [] (one ∷ made) zipped = zipped
bytes_zipped P (u ∷ us) [] zipped = zipped
bytes_zipped P (u ∷ us) (one ∷ made) zipped = (zipped.0, bytes_zipped P us made zipped.1)

pub bytes_joined : (made : List NodeText) → flat_map bytes_made made ≡ flat_map (λ (line : List ℕ). line) (map bytes_made made)
bytes_joined [] = refl
bytes_joined (one ∷ made) = ap (λ (t : List ℕ). bytes_made one ++ t) (bytes_joined made)

-- ---- what is left of a network

pub over_left : (net seen left : Topology) (l count : ℕ) (up marks : List Bool)
    → left ≡ restrict marks seen → marks ≡ up → up ≡ all_but count l → count ≡ length seen.links → seen ≡ net → left ≡ without_link net l
over_left net seen left l count up marks is slice made links same =
    is ∙ ap (λ (m : List Bool). restrict m seen) (slice ∙ made ∙ ap (λ (n : ℕ). all_but n l) links) ∙ ap (λ (n : Topology). without_link n l) same

-- the labels of a plan are a list for the network without some links
listed : (kind : Kind) (plan : Plan) (up : List Bool) → IsPlan plan → kind ≢ Tree → MayLabel (restrict up plan.topology) kind (ByList plan.order)
listed kind plan up is other =
    let are = is.labels in
    let same = node_count-restrict up plan.topology in (
      other,
      record {
        every = are.every_label ∙ sym same;
        nodes = λ k d lt.
            let at = get_or_default plan.order k d 0 lt in
            let below = are.node k (omega (arith, lt, are.every_label)) in
            omega (arith, at, below, same);
        once = λ i j d lt within e.
            let at = get_or_default plan.order i d 0 (omega (arith, lt, within)) in
            let there = get_or_default plan.order j d 0 within in
            let labels_same : slice_index plan.labels (slice_index plan.order i) ≡ slice_index plan.labels (slice_index plan.order j) = ap (slice_index plan.labels) (sym at ∙ e ∙ there) in
            let first = are.back i (omega (arith, lt, within, are.every_label)) in
            let last = are.back j (omega (arith, within, are.every_label)) in
            omega (arith, sym first ∙ labels_same ∙ last, lt);
      },
    )

may_keep : (kind : Kind) (plan : Plan) (up : List Bool) → IsPlan plan → MayLabel (restrict up plan.topology) kind (labelling_kept kind plan)
may_keep Tree plan up is = tt
may_keep Shortest plan up is = listed Shortest plan up is (λ e. cc e)
may_keep Compact plan up is = listed Compact plan up is (λ e. cc e)
may_keep (Landmark t) plan up is = listed (Landmark t) plan up is (λ e. cc e)

-- a plan without some links may be labelled as it is asked
may_label : (plan : Plan) (order : Option LabelOrder) (up : List Bool) → IsPlan plan → MayLabel (restrict up plan.topology) plan.kind (labelling_left plan order)
may_label plan (Some order) up is = tt
may_label plan None up is = may_keep plan.kind plan up is

pub may_label_left : (plan : Plan) (order : Option LabelOrder) (l : ℕ) (left : Topology) (kind : Kind) (labels : Labelling) → IsPlan plan
    → left ≡ without_link plan.topology l → kind ≡ plan.kind → labels ≡ labelling_left plan order → MayLabel left kind labels
may_label_left plan order l left kind labels is over same named = rw (over, same, named) (may_label plan order (all_but (length plan.topology.links) l) is)

may_start : (kind : Kind) (plan : Plan) (up : List Bool) → IsPlan plan → HasRoot (restrict up plan.topology) (labelling_kept kind plan)
may_start Tree plan up is = omega (arith, node_count-restrict up plan.topology, is.root_in)
may_start Shortest plan up is = tt
may_start Compact plan up is = tt
may_start (Landmark t) plan up is = tt

-- its root is a node
has_root : (plan : Plan) (order : Option LabelOrder) (up : List Bool) → IsPlan plan → HasRoot (restrict up plan.topology) (labelling_left plan order)
has_root plan (Some order) up is = omega (arith, node_count-restrict up plan.topology, is.root_in)
has_root plan None up is = may_start plan.kind plan up is

pub has_root_left : (plan : Plan) (order : Option LabelOrder) (l : ℕ) (left : Topology) (labels : Labelling) → IsPlan plan
    → left ≡ without_link plan.topology l → labels ≡ labelling_left plan order → HasRoot left labels
has_root_left plan order l left labels is over named = rw (over, named) (has_root plan order (all_but (length plan.topology.links) l) is)

pub no_root_twice : (net : Topology) (labels : Labelling) → HasRoot net labels → HasNoRoot net labels → ⊥
no_root_twice net (FromRoot order root) has none = omega (arith, has, none)
no_root_twice net (ByList list) has none = none

-- what the words say of a network, where it, the kind and the labels have other names
pub words_over : (beside : Option Plan) (without : Option ℕ) (net left : Topology) (kind other : Kind) (labels same : Labelling) (words : List (List ℕ)) → left ≡ net → other ≡ kind → same ≡ labels
    → AreWordsOf left other same beside without words → AreWordsOf net kind labels beside without words
words_over beside without net left kind other labels same words over alike named are =
    subst (λ (n : Topology). AreWordsOf n kind labels beside without words) over
    (subst (λ (k : Kind). AreWordsOf left k labels beside without words) alike (subst (λ (x : Labelling). AreWordsOf left other x beside without words) named are))

-- ---- beside another plan

two_pieces : (old a b : List ℕ) → (old ++ a) ++ b ≡ old ++ (a ++ b)
two_pieces old a b = simp append_assoc

-- words after words
pub words_told : (old a b : List ℕ) (words more : List (List ℕ)) → a ≡ old ++ flat_map spaced words → b ≡ a ++ flat_map spaced more → b ≡ old ++ flat_map spaced (words ++ more)
words_told old a b words more one two =
    rw (two, one) (two_pieces old (flat_map spaced words) (flat_map spaced more) ∙ ap (λ t. old ++ t) (sym (flat_map-append spaced words more)))

pub one_word : (old a word : List ℕ) → a ≡ old ++ spaced word → a ≡ old ++ flat_map spaced (word ∷ [])
one_word old a word one = one ∙ ap (λ t. old ++ t) (sym (append-nil (spaced word)))

-- each node has its own number
pub own_numbers : (other : Option Plan) (net : Topology) (count : ℕ) → IsOtherOver other net → count ≡ node_count net → HaveNumbers other None count
own_numbers None net count over same = tt
own_numbers (Some o) net count over same = λ x lt. omega (arith, lt, same, ap node_count over)

next_at_most : (b : Bool) (x : ℕ) → cond b x (x + 1) ≤ x + 1
next_at_most true x = omega arith
next_at_most false x = omega arith

-- without a node the others have numbers
pub other_numbers : (other : Option Plan) (net : Topology) (k count : ℕ) → IsOtherOver other net → count + 1 ≡ node_count net → HaveNumbers other (Some k) count
other_numbers None net k count over less = tt
other_numbers (Some o) net k count over less = λ x lt. omega (arith, next_at_most (nat_lt x k) x, lt, less, ap node_count over)

-- ---- what is written last

-- what follows of a text where the last piece was written
pub on_written : {T E P : Type 0} (r : Result T E) (t0 t1 piece : List ℕ) → t1 ≡ (if is_ok r then t0 ++ piece else t0) → (t1 ≡ t0 ++ piece → P) → OnOk r P
on_written (Ok v) t0 t1 piece e so = so e
on_written (Err x) t0 t1 piece e so = tt

-- what follows of a value that was made
pub on_text : {T E : Type 0} {P Q : T → Type 0} (r : Result T E) → ((v : T) → P v → Q v) → IfOk r P → IfOk r Q
on_text (Ok v) so holds = so v holds
on_text (Err x) so holds = tt

-- the link that is there
pub link_there : (o : Option Link) (P : Link → Type 0) → IsSomeAnd o P → (link : Link) × (o ≡ Some link) × P link
link_there (Some link) P holds = (link, refl, holds)
link_there None P holds = absurd holds
