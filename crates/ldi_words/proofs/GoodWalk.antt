-- The rows at the end of a walk without a fault hold values which pass.
use Rattle.ldi_words.proofs.Common.{Bool, Kinds, List, None, Option, Shape, Some, Text, TooManyValues, [], bytes_eq}
use Rattle.ldi_words.proofs.Common.{cond, drop, encode_utf8, false, find, fold, if◌then◌else◌, is_some, length}
use Rattle.ldi_words.proofs.Common.{option_map_or, or_else, slice_get, suc, true, zero, ℕ, ◌&&◌, ◌∷◌, ◌≡◌}
use Rattle.std.specs.Str.{chars}
use Rattle.clap.specs.Lexer.{long_of, short_of}
use Rattle.clap.specs.Faults.{bundle_fault, bundle_step_fault, check_fault, default_fault, defaults_fault}
use Rattle.clap.specs.Faults.{flag_word_fault, flags_fault, level_fault, long_fault, option_fault, other_fault}
use Rattle.clap.specs.Faults.{positional_fault, react_fault, settle_fault, short_fault, step_fault, stray_fault}
use Rattle.clap.specs.Faults.{turn_fault, use_fault, walk_fault, word_fault}
use Rattle.clap.specs.Walk.{Held, Names, Outcome, Row, Rule, Step, Waiting, Walk, after_flag, after_step, arg_by_id}
use Rattle.clap.specs.Walk.{arg_by_index, arg_by_long, arg_by_short, attached_value, bundle, bundle_met, bundle_step}
use Rattle.clap.specs.Walk.{done, waits, plain, refused, idle, option, positional, next, trailing, subcommand, value}
use Rattle.clap.specs.Walk.{flag_met, is_pending, long_met, long_or_other, nothing_held, option_met, option_word}
use Rattle.clap.specs.Walk.{plain_word, reacted, rows_after, settled, settled_rows, short_met, short_or_plain}
use Rattle.clap.specs.Walk.{subcommand_met, subcommand_or_other, takes_several, takes_values, to_positional, used_by_id}
use Rattle.clap.specs.Walk.{walk, walk_from, walked, walked_from, with_default, word_met}
use Rattle.ldi_words.proofs.Good.{AllGood, IsFine, default_good, either_way, none_of, used_good}

-- ---- the rules that are found

abbrev pub AllFine : List Rule → List Rule → Type 0
AllFine c [] = Unit {0}
AllFine c (a ∷ rest) = IsFine c a × AllFine c rest

abbrev IsFineIfAny : List Rule → Option Rule → Type 0
IsFineIfAny c None = Unit {0}
IsFineIfAny c (Some a) = IsFine c a

found_fine : (c : List Rule) (test : Rule → Bool) (xs : List Rule) → AllFine c xs → IsFineIfAny c (find test xs)
found_fine c test [] fine = tt
found_fine c test (x ∷ xs) fine = go (test x) (found_fine c test xs fine.1)
  where
    go : (t : Bool) → IsFineIfAny c (find test xs) → IsFineIfAny c (cond t (Some x) (find test xs))
    go true rest = fine.0
    go false rest = rest

abbrev Holds : List Rule → Held × Outcome → Type 0
Holds c p = AllGood c p.0.rows

module _ (c : List Rule) (fine : AllFine c c) (again : Bool) where
  -- ---- what one word does

  settle_good : (p : Option (Text × List Text)) (rows : List Row) → AllGood c rows
      → option_map_or (λ q. option_map_or (λ a. use_fault again a q.1 rows) (arg_by_id c q.0) []) p [] ≡ []
      → AllGood c (settled_rows c p rows)
  settle_good None rows good e = good
  settle_good (Some p) rows good e = go (arg_by_id c p.0) (found_fine c _ c fine) e
    where
      go : (o : Option Rule) → IsFineIfAny c o → option_map_or (λ a. use_fault again a p.1 rows) o [] ≡ []
          → AllGood c (used_by_id o p.1 rows)
      go None own e = good
      go (Some a) own e = used_good c again a p.1 rows own e good

  react_good : (a : Rule) (vs : List Text) (h : Held) → IsFine c a → AllGood c h.rows → react_fault c again a vs h ≡ []
      → AllGood c (reacted c a vs h).rows
  react_good a vs h own good e =
      let parts = none_of (settle_fault c again h) _ e in
      used_good c again a vs _ own parts.1 (settle_good h.pending h.rows good parts.0)

  option_good : (a : Rule) (v : Option Text) (h : Held) → IsFine c a → AllGood c h.rows
      → option_fault c again a v h ≡ [] → Holds c (option_met c a v h)
  option_good a (Some v) h own good e = react_good a (v ∷ []) h own good e
  option_good a None h own good e = settle_good h.pending h.rows good e

  flag_good : (a : Rule) (v : Option Text) (h : Held) → IsFine c a → AllGood c h.rows
      → (if is_some v then (TooManyValues ∷ []) else react_fault c again a [] h) ≡ []
      → Holds c (flag_met c a v h)
  flag_good a (Some v) h own good e = good
  flag_good a None h own good e = react_good a [] h own good e

  long_good : (found : Option Rule) (v : Option Text) (h : Held) → IsFineIfAny c found → AllGood c h.rows
      → long_fault c again found v h ≡ []
      → Holds c (long_met c found v h)
  long_good None v h own good e = good
  long_good (Some a) v h own good e =
      either_way (Holds c) (takes_values a) _ _ (option_fault c again a v h) _ (option_good a v h own good)
      (flag_good a v h own good) e

  short_good : (found : Option Rule) (rest : Text) (h : Held) (go : Held → Held × Outcome) (go_fault : Held → Kinds)
      → IsFineIfAny c found → AllGood c h.rows
      → ((k : Held) → AllGood c k.rows → go_fault k ≡ [] → Holds c (go k))
      → short_fault c again found rest h go_fault ≡ []
      → Holds c (short_met c found rest h go)
  short_good None rest h go go_fault own good more e = good
  short_good (Some a) rest h go go_fault own good more e =
      either_way (Holds c) (takes_values a) _ _ (option_fault c again a (attached_value rest) h) _
      (option_good a (attached_value rest) h own good)
      (λ f. let parts = none_of (react_fault c again a [] h) _ f in
      more (reacted c a [] h) (react_good a [] h own good parts.0) parts.1) e

  step_good : (x : Option ℕ) (flags : Text) (skip : ℕ) (so_far : Outcome) (h : Held) (go : Text → ℕ → Outcome → Held
      → Held × Outcome) (go_fault : Text → ℕ → Held → Kinds)
      → ((rest : Text) (less : ℕ) (o : Outcome) (k : Held) → AllGood c k.rows → go_fault rest less k ≡ []
      → Holds c (go rest less o k))
      → AllGood c h.rows → bundle_step_fault c again x flags skip h go_fault ≡ []
      → Holds c (bundle_step c x flags skip so_far h go)
  step_good None flags skip so_far h go go_fault more good e = good
  step_good (Some x) flags zero so_far h go go_fault more good e =
      let rest = drop (length (encode_utf8 x)) flags in
      short_good (arg_by_short c x) rest h (go rest 0 done) (go_fault rest 0) (found_fine c _ c fine) good
      (more rest 0 done) e
  step_good (Some x) flags (suc skip) so_far h go go_fault more good e = more _ skip so_far h good e

  bundle_good : (k : ℕ) (flags : Text) (skip : ℕ) (so_far : Outcome) (h : Held) → AllGood c h.rows
      → flags_fault c again k flags skip h ≡ []
      → Holds c (bundle_met c k flags skip so_far h)
  unfolding flags_fault bundle_met
  bundle_good zero flags skip so_far h good e = good
  bundle_good (suc k) flags skip so_far h good e =
      step_good (slice_get (chars flags) 0) flags skip so_far h (bundle_met c k) (flags_fault c again k)
      (bundle_good k) good e

  plain_good : (waiting : Waiting) (word : Text) (h : Held) → AllGood c h.rows
      → AllGood c (plain_word c waiting word h).0.rows
  plain_good idle word h good = good
  plain_good positional word h good = good
  plain_good (option id) word h good = go (arg_by_id c id)
    where
      go : (o : Option Rule) → AllGood c (option_word o id word h).0.rows
      go None = good
      go (Some a) = good

  after_good : (waiting : Waiting) (word : Text) (h : Held) (o : Outcome) → AllGood c h.rows
      → AllGood c (after_flag c waiting word h o).0.rows
  after_good waiting word h done good = good
  after_good waiting word h (waits id) good = good
  after_good waiting word h plain good = plain_good waiting word h good
  after_good waiting word h refused good = plain_good waiting word h good

  dash_good : (found : Option Text) (waiting : Waiting) (word : Text) (h : Held) → AllGood c h.rows
      → option_map_or (λ flags. bundle_fault c again flags h) found [] ≡ []
      → AllGood c (short_or_plain c waiting word found h).0.rows
  dash_good None waiting word h good e = plain_good waiting word h good
  dash_good (Some flags) waiting word h good e =
      after_good waiting word (bundle c flags h).0 (bundle c flags h).1
      (bundle_good (length flags) flags h.skip plain (record h { skip = 0 }) good e)

  flag_word_good : (found : Option (Text × Option Text)) (waiting : Waiting) (word : Text) (h : Held) → AllGood c h.rows
      → flag_word_fault c again found word h ≡ []
      → AllGood c (long_or_other c waiting word found h).0.rows
  flag_word_good None waiting word h good e = dash_good (short_of word) waiting word h good e
  flag_word_good (Some p) waiting word h good e =
      let met = long_met c (arg_by_long c p.0) p.1 h in
      after_good waiting word met.0 met.1 (long_good (arg_by_long c p.0) p.1 h (found_fine c _ c fine) good e)

-- ---- the walk

module _ (s : Shape) (fine : AllFine s.rules s.rules) where
  other_good : (name : Option Text) (waiting : Waiting) (position : ℕ) (word : Text) (h : Held) → AllGood s.rules h.rows
      → other_fault s name word h ≡ []
      → AllGood s.rules (subcommand_or_other s.rules name waiting position word h).0.rows
  other_good (Some name) waiting position word h good e = good
  other_good None waiting position word h good e =
      either_way (λ p. AllGood s.rules p.0.rows) (bytes_eq word (45 ∷ 45 ∷ [])) (h, trailing position)
      (long_or_other s.rules waiting word (long_of word) h)
      [] (flag_word_fault s.rules s.args_override_self (long_of word) word h)
      (λ _. good) (flag_word_good s.rules fine s.args_override_self (long_of word) waiting word h good) e

  word_good : (names : Names) (is_trailing : Bool) (waiting : Waiting) (position : ℕ) (word : Text) (h : Held)
      → AllGood s.rules h.rows
      → word_fault s names is_trailing waiting word h ≡ []
      → AllGood s.rules (word_met s.rules names is_trailing waiting position word h).0.rows
  word_good names true waiting position word h good e = good
  word_good names false waiting position word h good e =
      other_good (subcommand_met names waiting word) waiting position word h good e

  placed_good : (found : Option Rule) (word : Text) (w : Walk) (h : Held) → AllGood s.rules h.rows
      → option_map_or (λ a. positional_fault s.rules s.args_override_self a h) found (stray_fault s) ≡ []
      → AllGood s.rules (to_positional s.rules found word w h).held.rows
  placed_good None word w h good e = good
  placed_good (Some a) word w h good e =
      either_way (λ (k : Held). AllGood s.rules k.rows) (is_pending a h.pending && takes_several a) h
      (settled s.rules h) [] (settle_fault s.rules s.args_override_self h)
      (λ _. good) (settle_good s.rules fine s.args_override_self h.pending h.rows good) e

  after_step_good : (step : Step) (word : Text) (w : Walk) (h : Held) → AllGood s.rules h.rows
      → step_fault s w.position h step ≡ []
      → AllGood s.rules (after_step s.rules word w h step).held.rows
  after_step_good (next waiting) word w h good e = good
  after_step_good (trailing position) word w h good e = good
  after_step_good (subcommand name) word w h good e = good
  after_step_good value word w h good e = placed_good (arg_by_index s.rules w.position) word w h good e

  turn_good : (names : Names) (w : Walk) (word : Text) → AllGood s.rules w.held.rows → turn_fault s names w word ≡ []
      → AllGood s.rules (walked s.rules names w word).held.rows
  unfolding walked
  turn_good names w word good e = go w.stopped e
    where
      go : (o : Option (Text × List Text))
          → (if is_some o then [] else or_else (word_fault s names w.is_trailing w.waiting word w.held)
          (step_fault s w.position (word_met s.rules names w.is_trailing w.waiting w.position word w.held).0
          (word_met s.rules names w.is_trailing w.waiting w.position word w.held).1)) ≡ []
          → AllGood s.rules (walked_from s.rules names o w word).held.rows
      go (Some p) f = good
      go None f =
          let parts = none_of (word_fault s names w.is_trailing w.waiting word w.held) _ f in
          after_step_good _ word w _ (word_good names w.is_trailing w.waiting w.position word w.held good parts.0)
          parts.1

  walk_good : (names : Names) (w : Walk) (words : List Text) → AllGood s.rules w.held.rows
      → walk_fault s names w words ≡ []
      → AllGood s.rules (fold (walked s.rules names) w words).held.rows
  unfolding walk_fault
  walk_good names w [] good e = good
  walk_good names w (word ∷ rest) good e =
      let parts = none_of (turn_fault s names w word) _ e in
      walk_good names (walked s.rules names w word) rest (turn_good names w word good parts.0) parts.1

  -- ---- the end

  defaults_good : (rules : List Rule) (rows : List Row) → AllFine s.rules rules → AllGood s.rules rows
      → defaults_fault rows rules ≡ []
      → AllGood s.rules (fold with_default rows rules)
  unfolding defaults_fault
  defaults_good [] rows own good e = good
  defaults_good (a ∷ rest) rows own good e =
      let parts = none_of (default_fault rows a) _ e in
      defaults_good rest (with_default rows a) own.1 (default_good s.rules a rows own.0 good parts.0) parts.1

  pub level_good : (names : Names) (words : List Text) (has : Bool) (below : Kinds)
      → level_fault s names nothing_held words has below ≡ []
      → AllGood s.rules (rows_after s.rules names words) × (below ≡ [])
      × (check_fault s (rows_after s.rules names words) has ≡ [])
  level_good names words has below e =
      let walked_over = none_of (walk_fault s names (walk_from nothing_held) words) _ e in
      let under = none_of below _ walked_over.1 in
      let end = (walk s.rules names nothing_held words).held in
      let settling = none_of (settle_fault s.rules s.args_override_self end) _ under.1 in
      let defaulting = none_of (defaults_fault (settled s.rules end).rows s.rules) _ settling.1 in
      let walked_good = walk_good names (walk_from nothing_held) words tt walked_over.0 in
      let settled_good = settle_good s.rules fine s.args_override_self end.pending end.rows walked_good settling.0 in
      (defaults_good s.rules (settled s.rules end).rows fine settled_good defaulting.0, under.0, defaulting.1)
