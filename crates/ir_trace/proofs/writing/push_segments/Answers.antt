use Rattle.std.proofs.Common.{◌≡◌, ◌∙◌, ◌+◌, ◌-◌, ◌++◌, ◌∷◌, [], ℕ, List, arith, refl, ap, sym, subst, append_assoc, take, drop, get_or, length, nat_lt, string_bytes, flat_map, map}
use Rattle.std.proofs.lemmas.Grind.{flat_map-append}
use Rattle.std.proofs.lemmas.List.{append-nil, drop_all, drop_more, take_rest}
use Rattle.std.proofs.lemmas.Result.{IfOk-weaker}
use Rattle.ir_model.specs.Graph.{Name, names}
use Rattle.ir_core.specs.declared.packet.Restamp.{Restamp}
use Rattle.ir_trace.specs.Rows.{spaced, part_words}
use Rattle.ir_trace.specs.Written.{named}
use Rattle.ir_trace.specs.Stretches.{parts_from, AreAscending}
use Rattle.ir_trace.proofs.Stretched.{all_drop, all_take}
use Rattle.ir_trace.proofs.writing.push_segments.Goals as goal

-- the words of the segments of an epoch from a place on
abbrev words_from : List Name → ℕ → ℕ → List ℕ → List Restamp → List ℕ
words_from nodes epoch from hops restamps = flat_map spaced (flat_map part_words (map (named nodes) (parts_from epoch from hops restamps)))

-- the segment before a restamp is put before those after it
one_more : (nodes : List Name) (old : List ℕ) (epoch from : ℕ) (hops : List ℕ) (s : Restamp) (later : List Restamp)
    → (old ++ flat_map spaced (part_words (named nodes (record { epoch = epoch; hops = take ((s.from + 1) - from) (drop from hops) })))) ++ words_from nodes s.epoch s.from hops later
    ≡ old ++ words_from nodes epoch from hops (s ∷ later)
one_more nodes old epoch from hops s later =
    let words : List Name = part_words (named nodes (record { epoch = epoch; hops = take ((s.from + 1) - from) (drop from hops) })) in
    append_assoc old (flat_map spaced words) (words_from nodes s.epoch s.from hops later)
    ∙ ap (λ t. old ++ t) (sym (flat_map-append spaced words (flat_map part_words (map (named nodes) (parts_from s.epoch s.from hops later)))))

-- the last segment
last_one : (nodes : List Name) (epoch from : ℕ) (hops : List ℕ) (restamps : List Restamp) → restamps ≡ []
    → flat_map spaced (part_words (named nodes (record { epoch = epoch; hops = drop from hops }))) ≡ words_from nodes epoch from hops restamps
last_one nodes epoch from hops restamps none =
    ap (flat_map spaced) (sym (append-nil (part_words (named nodes (record { epoch = epoch; hops = drop from hops })))))
    ∙ ap (words_from nodes epoch from hops) (sym none)

pub push_segment-requires : goal.push_segment-requires
push_segment-requires c = all_take (λ x. nat_lt x (length c.args.graph.now)) _ _ (all_drop (λ x. nat_lt x (length c.args.graph.now)) c.loop-restamp.from c.args.hops.now c.requires.hops)

pub push_segment-requires-2 : goal.push_segment-requires-2
push_segment-requires-2 c = all_take (λ x. nat_lt x (length c.args.graph.now)) _ _ (all_drop (λ x. nat_lt x (length c.args.graph.now)) c.loop-restamp.from c.args.hops.now c.requires.hops)

pub loop-restamp-init : goal.loop-restamp-init
loop-restamp-init c = record { text = refl; within = omega arith; places = c.requires.places }

pub loop-restamp-preserved : goal.loop-restamp-preserved
loop-restamp-preserved c =
    let nodes : List Name = names c.args.graph.now in
    let hops : List ℕ = c.args.hops.now in
    let i : ℕ = c.loop-restamp.restamp-index in
    let s : Restamp = get_or c.args.restamps.now i (record { epoch = 0; from = 0 }) in
    let later : List Restamp = drop (i + 1) c.args.restamps.now in
    let at : drop i c.args.restamps.now ≡ s ∷ later = drop_more c.args.restamps.now i (record { epoch = 0; from = 0 }) c.loop-restamp-test.true in
    let places : AreAscending c.loop-restamp.from (length hops) (s ∷ later) = subst (AreAscending c.loop-restamp.from (length hops)) at c.loop-restamp.invariant.places in
    record {
      text = ap (λ t. t ++ words_from nodes s.epoch s.from hops later) c.in_ok-push_segment.ensures
          ∙ one_more nodes (string_bytes c.loop-restamp.text) c.loop-restamp.epoch c.loop-restamp.from hops s later
          ∙ ap (λ rs. string_bytes c.loop-restamp.text ++ words_from nodes c.loop-restamp.epoch c.loop-restamp.from hops rs) (sym at)
          ∙ c.loop-restamp.invariant.text;
      within = omega (arith, places.1);
      places = places.2;
    }

pub returns : goal.returns
returns c =
    let nodes : List Name = names c.args.graph.now in
    let hops : List ℕ = c.args.hops.now in
    let old : List ℕ = string_bytes c.loop-restamp.text in
    let part : List ℕ → List ℕ = λ (hs : List ℕ). flat_map spaced (part_words (named nodes (record { epoch = c.loop-restamp.epoch; hops = hs }))) in
    let none : drop c.loop-restamp.restamp-index c.args.restamps.now ≡ [] = drop_all c.loop-restamp.restamp-index c.args.restamps.now c.loop-restamp-test.false in
    IfOk-weaker c.push_segment-2.result (λ _. string_bytes c.push_segment-2.new.text ≡ old ++ part (take (length hops - c.loop-restamp.from) (drop c.loop-restamp.from hops)))
    (λ _. string_bytes c.push_segment-2.new.text ≡ string_bytes c.args.text.now ++ words_from nodes c.args.epoch 0 hops c.args.restamps.now)
    (λ _ e. e ∙ ap (λ hs. old ++ part hs) (take_rest hops c.loop-restamp.from)
    ∙ ap (λ t. old ++ t) (last_one nodes c.loop-restamp.epoch c.loop-restamp.from hops (drop c.loop-restamp.restamp-index c.args.restamps.now) none)
    ∙ c.loop-restamp.invariant.text) c.push_segment-2.ensures
