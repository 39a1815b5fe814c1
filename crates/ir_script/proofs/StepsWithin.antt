-- The steps that a script names are between nodes of the network and over its links.
use Rattle.std.proofs.Common.{◌≡◌, ℕ, ◌+◌, Bool, true, false, not, cond, List, [], ◌∷◌, length, Option, None, Some, Result, Ok, Err, refl, sym, ap, subst, ◌∙◌, nat_lt, ◌&&◌, ◌==◌, bytes_eq, codes, position, find}
use Rattle.std.proofs.lemmas.Bool.{and_from, lt-ltb}
use Rattle.std.proofs.lemmas.List.Folds.{find_at}
use Rattle.std.proofs.lemmas.Option.{slice_get_within}
use Rattle.std.specs.List.{list_all, prefix_len, position_or_len}
use Rattle.ir_model.specs.declared.Detour.{Detour}
use Rattle.ir_model.specs.declared.Hop.{Hop}
use Rattle.ir_model.specs.declared.Kind.{Kind}
use Rattle.ir_model.specs.Graph.{Name}
use Rattle.ir_model.specs.Text.{content, words, is_plain}
use Rattle.ir_model.specs.Topology.{Topology, IsTopology, node_count, ports_of}
use Rattle.ir_core.specs.declared.event.Way.TheVariants.{Inbox, Link}
use Rattle.ir_core.specs.declared.event.Event.{Event}
use Rattle.ir_core.specs.declared.event.Event.TheVariants.{Inject, Learn, Take, Read, Act, Install, Renumber, Retire, Down, Up, Avoid, Heed}
use Rattle.ir_core.specs.declared.event.Step.{Step}
use Rattle.ir_core.specs.declared.event.Step.TheVariants as step
use Rattle.ir_script.specs.declared.fault.ScriptFault.{ScriptFault}
use Rattle.ir_script.specs.declared.fault.ScriptFault.TheVariants.{BadByte, BadCommand}
use Rattle.ir_script.specs.Command.{number_of, node_at, node_of, link_of_port, link_towards, link_of_ends, named_link, of_one, of_two, kind_named, of_kind, event_of_one, event_of_two, event_of_three, as_step, step_of, line_step}
use Rattle.ir_script.specs.Script.{Listing, with_line, listing_from, listing_of}
use Rattle.ir_script.specs.Within.{is_node_of, is_link, is_event_within, is_step_within}

-- the place of the first that passes is within the list
pub place_within : (p : Name → Bool) (nodes : List Name) (u : ℕ) → position p nodes ≡ Some u → nat_lt u (length nodes) ≡ true
place_within p nodes u e = by (nat_lt (prefix_len (λ y. not (p y)) nodes) (length nodes)) refl e
  where
    by : (t : Bool) → nat_lt (prefix_len (λ y. not (p y)) nodes) (length nodes) ≡ t → cond t (Some (prefix_len (λ y. not (p y)) nodes)) None ≡ Some u → nat_lt u (length nodes) ≡ true
    by true h k = let same : prefix_len (λ y. not (p y)) nodes ≡ u = cc k in ap (λ n. nat_lt n (length nodes)) (sym same) ∙ h
    by false h k = absurd (cc k)

module _ (detour : Detour) (nodes : List Name) (net : Topology) (is_net : IsTopology net) (count : length nodes ≡ node_count net) where
  node_within : (word : Name) (u : ℕ) → node_of nodes word ≡ Ok u → is_node_of net u ≡ true
  node_within word u e = by (position (bytes_eq word) nodes) refl e
    where
      by : (o : Option ℕ) → position (bytes_eq word) nodes ≡ o → node_at o ≡ Ok u → is_node_of net u ≡ true
      by None h k = absurd (cc k)
      by (Some v) h k =
          let same : v ≡ u = cc k in
          ap (nat_lt u) (sym count) ∙ place_within (bytes_eq word) nodes u (h ∙ ap Some same)

  between_within : (u v l : ℕ) → link_towards net u v ≡ Ok l → is_link net l ≡ true
  between_within u v l e = by (find (λ hop. hop.node == v) (ports_of net u)) refl e
    where
      by : (o : Option Hop) → find (λ hop. hop.node == v) (ports_of net u) ≡ o → link_of_port o ≡ Ok l → is_link net l ≡ true
      by None h k = absurd (cc k)
      by (Some hop) h k =
          let same : hop.link ≡ l = cc k in
          let port = is_net.ports u (position_or_len (λ hop. hop.node == v) (ports_of net u)) hop (sym (find_at (λ hop. hop.node == v) (ports_of net u)) ∙ h) in
          ap (is_link net) (sym same) ∙ lt-ltb hop.link (length net.links) (slice_get_within net.links hop.link port.0 port.1)

  link_within : (a b : Name) (l : ℕ) → named_link nodes net a b ≡ Ok l → is_link net l ≡ true
  link_within a b l e = by (node_of nodes a) (node_of nodes b) e
    where
      by : (u v : Result ℕ ScriptFault) → link_of_ends net u v ≡ Ok l → is_link net l ≡ true
      by (Err f) v k = absurd (cc k)
      by (Ok u) (Err f) k = absurd (cc k)
      by (Ok u) (Ok v) k = between_within u v l k

  -- an event of the network, or a fault
  abbrev EventWithin : Result Event ScriptFault → Type 0
  EventWithin (Ok event) = is_event_within net event ≡ true
  EventWithin (Err e) = Unit {0}

  of_one_within : (event : ℕ → Event) (x : Result ℕ ScriptFault) → ((n : ℕ) → x ≡ Ok n → is_event_within net (event n) ≡ true) → EventWithin (of_one event x)
  of_one_within event (Err e) h = tt
  of_one_within event (Ok n) h = h n refl

  of_two_within : (event : ℕ → ℕ → Event) (x y : Result ℕ ScriptFault) → ((m n : ℕ) → x ≡ Ok m → y ≡ Ok n → is_event_within net (event m n) ≡ true) → EventWithin (of_two event x y)
  of_two_within event (Err e) y h = tt
  of_two_within event (Ok m) (Err e) h = tt
  of_two_within event (Ok m) (Ok n) h = h m n refl refl

  kind_within : (event : Kind → ℕ → Event) (kind : Result Kind ScriptFault) (x : Result ℕ ScriptFault) → ((k : Kind) (n : ℕ) → x ≡ Ok n → is_event_within net (event k n) ≡ true) → EventWithin (of_kind event kind x)
  kind_within event (Err e) x h = tt
  kind_within event (Ok kind) x h = of_one_within (λ r. event kind r) x (h kind)

  either_within : (t : Bool) (a b : Result Event ScriptFault) → EventWithin a → EventWithin b → EventWithin (cond t a b)
  either_within true a b ha hb = ha
  either_within false a b ha hb = hb

  one_within : (word a : Name) → EventWithin (event_of_one nodes word a)
  one_within word a =
      either_within (bytes_eq word (codes "act")) _ _ (of_one_within (λ u. Act u) (node_of nodes a) (node_within a))
      (either_within (bytes_eq word (codes "learn")) _ _ (of_one_within (λ e. Learn e) (number_of a) (λ n h. refl))
      (either_within (bytes_eq word (codes "retire")) _ _ (of_one_within (λ f. Retire f) (number_of a) (λ n h. refl)) tt))

  two_within : (word a b : Name) → EventWithin (event_of_two detour nodes net word a b)
  two_within word a b =
      either_within (bytes_eq word (codes "inject")) _ _ (of_two_within (λ u v. Inject u v) (node_of nodes a) (node_of nodes b) (λ u v hu hv. and_from _ _ (node_within a u hu) (node_within b v hv)))
      (either_within (bytes_eq word (codes "down")) _ _ (of_one_within (λ l. Down l) (named_link nodes net a b) (link_within a b))
      (either_within (bytes_eq word (codes "up")) _ _ (of_one_within (λ l. Up l) (named_link nodes net a b) (link_within a b))
      (either_within (bytes_eq word (codes "avoid")) _ _ (of_one_within (λ l. Avoid l) (named_link nodes net a b) (link_within a b))
      (either_within (bytes_eq word (codes "heed")) _ _ (of_one_within (λ l. Heed l) (named_link nodes net a b) (link_within a b))
      (either_within (bytes_eq word (codes "read")) _ _ (of_two_within (λ u k. Read u k) (node_of nodes a) (number_of b) (λ u k hu hk. node_within a u hu))
      (either_within (bytes_eq word (codes "take") && bytes_eq b (codes "inbox")) _ _ (of_one_within (λ u. Take u Inbox) (node_of nodes a) (λ u hu. and_from _ _ (node_within a u hu) refl))
      (either_within (bytes_eq word (codes "install")) _ _ (kind_within (λ kind r. Install kind r) (kind_named detour a) (node_of nodes b) (λ kind r at. node_within b r at))
      (either_within (bytes_eq word (codes "renumber")) _ _ (kind_within (λ kind r. Renumber kind r) (kind_named detour a) (node_of nodes b) (λ kind r at. node_within b r at)) tt))))))))

  three_within : (word a b c : Name) → EventWithin (event_of_three nodes net word a b c)
  three_within word a b c =
      either_within (bytes_eq word (codes "take") && bytes_eq b (codes "from")) _ _
      (of_two_within (λ u l. Take u (Link l)) (node_of nodes a) (named_link nodes net a c) (λ u l hu hl. and_from _ _ (node_within a u hu) (link_within a c l hl))) tt

  -- a step of the network, none, or a fault
  abbrev StepWithin : Result (Option Step) ScriptFault → Type 0
  StepWithin (Ok (Some s)) = is_step_within net s ≡ true
  StepWithin (Ok None) = Unit {0}
  StepWithin (Err e) = Unit {0}

  as_step_within : (event : Result Event ScriptFault) → EventWithin event → StepWithin (as_step event)
  as_step_within (Err e) h = tt
  as_step_within (Ok event) h = h

  choice_within : (t : Bool) (a b : Result (Option Step) ScriptFault) → StepWithin a → StepWithin b → StepWithin (cond t a b)
  choice_within true a b ha hb = ha
  choice_within false a b ha hb = hb

  words_within : (ws : List Name) → StepWithin (step_of detour nodes net ws)
  words_within [] = tt
  words_within (w ∷ []) = choice_within (bytes_eq w (codes "drain")) (Ok (Some step.Drain)) (Err BadCommand) refl tt
  words_within (w ∷ a ∷ []) = as_step_within (event_of_one nodes w a) (one_within w a)
  words_within (w ∷ a ∷ b ∷ []) = as_step_within (event_of_two detour nodes net w a b) (two_within w a b)
  words_within (w ∷ a ∷ b ∷ c ∷ []) = as_step_within (event_of_three nodes net w a b c) (three_within w a b c)
  words_within (w ∷ a ∷ b ∷ c ∷ d ∷ more) = tt

  line_within : (line : List ℕ) → StepWithin (line_step detour nodes net line)
  line_within line = choice_within (not (list_all is_plain (content line))) (Err BadByte) (step_of detour nodes net (words line)) tt (words_within (words line))

  abbrev ListingWithin : Result (Listing Step) (ℕ × ScriptFault) → Type 0
  ListingWithin (Ok listing) = list_all (is_step_within net) listing.steps ≡ true
  ListingWithin (Err e) = Unit {0}

  front_within : (number : ℕ) (said : Result (Option Step) ScriptFault) (later : Result (Listing Step) (ℕ × ScriptFault)) → StepWithin said → ListingWithin later → ListingWithin (with_line number said later)
  front_within number (Err f) later hs hl = tt
  front_within number (Ok None) later hs hl = hl
  front_within number (Ok (Some s)) (Err e) hs hl = tt
  front_within number (Ok (Some s)) (Ok later) hs hl = and_from _ _ hs hl

  from_within : (number : ℕ) (ls : List (List ℕ)) → ListingWithin (listing_from (line_step detour) nodes net number ls)
  from_within number [] = refl
  from_within number (l ∷ ls) = front_within number (line_step detour nodes net l) (listing_from (line_step detour) nodes net (number + 1) ls) (line_within l) (from_within (number + 1) ls)

  -- the steps of a script name nodes and links of the network
  pub steps_within : (ls : List (List ℕ)) (listing : Listing Step) → listing_of detour nodes net ls ≡ Ok listing → list_all (is_step_within net) listing.steps ≡ true
  steps_within ls listing e = let P : Result (Listing Step) (ℕ × ScriptFault) → Type 0 = λ r. ListingWithin r in subst P e (from_within 1 ls)
