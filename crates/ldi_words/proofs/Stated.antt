-- What `clap` states for words in which it finds no fault: a subcommand, with all that it must be given.
use Rattle.ldi_words.proofs.Common.{Bool, Choices, DefaultValue, IsFlag, IsSome, Kinds, List, ListsOrphans}
use Rattle.ldi_words.proofs.Common.{NamesOrphans, None, Option, Reading, Shape, Some, StatesCall, StatesFiles}
use Rattle.ldi_words.proofs.Common.{StatesOptions, Text, ValueSource, [], ap, arith, both, built, bytes_eq, codes, cond}
use Rattle.ldi_words.proofs.Common.{drop, entered, false, find, fold, if◌then◌else◌, inl, inr, is_given, is_some}
use Rattle.ldi_words.proofs.Common.{label_of, ldi, length, list_all, list_any, list_any-map, names_of, new_shape, not}
use Rattle.ldi_words.proofs.Common.{option_and_then, option_map, option_map_or, refl, rows_at, slice_get, subcommand_of}
use Rattle.ldi_words.proofs.Common.{subst, sym, true, true≢false, unwrap_or, ℕ, ◌&&◌, ◌++◌, ◌<◌, ◌||◌, ◌∙◌, ◌∷◌, ◌≡◌}
use Rattle.std.proofs.lemmas.Slice.Eq.{bytes_eq-Decides}
use Rattle.clap.specs.Facts.{explicit_source}
use Rattle.clap.specs.Faults.{check_fault, entered_fault, fault_of, level_fault}
use Rattle.clap.specs.ValueTests.{accepts}
use Rattle.clap.specs.Values.{read_as}
use Rattle.clap.specs.Walk.{Row, Rule, answers_to, arg_by_id, default_rows, first_of, has_row, is_empty, more_values}
use Rattle.clap.specs.Walk.{nothing_held, one_of, reading_by, row_text, rows_after, settled, walk, with_default}
use Rattle.clap.specs.Walk.{with_values}
use Rattle.clap.specs.declared.builder.value_parser.ValueParser.TheVariants as vp
use Rattle.clap.specs.declared.error.kind.ErrorKind.{ErrorKind}
use Rattle.ldi_words.proofs.Good.{AllGood, IsGood, passes}
use Rattle.ldi_words.proofs.GoodWalk.{AllFine, level_good}

-- ---- the value of a row

abbrev has_id : Text → Row → Bool
has_id id r = bytes_eq r.id id

row_of_id : (c : List Rule) (id : Text) (rows : List Row) → AllGood c rows → is_some (find (has_id id) rows) ≡ true
    → (r : Row) × (find (has_id id) rows ≡ Some r) × (bytes_eq r.id id ≡ true) × IsGood c r
row_of_id c id [] good there = absurd (true≢false (sym there))
row_of_id c id (r ∷ rs) good there = go (bytes_eq r.id id) refl (row_of_id c id rs good.1) there
  where
    go : (t : Bool) → bytes_eq r.id id ≡ t
        → (is_some (find (has_id id) rs) ≡ true
        → (x : Row) × (find (has_id id) rs ≡ Some x) × (bytes_eq x.id id ≡ true) × IsGood c x)
        → is_some (cond t (Some r) (find (has_id id) rs)) ≡ true
        → (x : Row) × (cond t (Some r) (find (has_id id) rs) ≡ Some x) × (bytes_eq x.id id ≡ true) × IsGood c x
    go true is rest h = (r, refl, is, good.0)
    go false is rest h = rest h

first_value_of : (p : Text → Bool) (vs : List Text) → 0 < length vs → list_all p vs ≡ true
    → (v : Text) × (slice_get vs 0 ≡ Some v) × (p v ≡ true)
first_value_of p [] some pass = absurd (omega arith)
first_value_of p (v ∷ vs) some pass = (v, refl, (both _ _ pass).0)

record HasValue (c : List Rule) (id : Text) (rows : List Row) : Type 0 where
  value : Text
  first : first_of id rows ≡ Some value
  one : one_of id rows ≡ Some value
  passing : passes (arg_by_id c id) value ≡ true

value_of_id : (c : List Rule) (id : Text) (rows : List Row) → AllGood c rows → is_some (find (has_id id) rows) ≡ true
    → HasValue c id rows
value_of_id c id rows good there =
    let f = row_of_id c id rows good there in
    let r = f.0 in
    let is_good : IsGood c r = f.3 in
    let v = first_value_of (passes (arg_by_id c r.id)) r.values is_good.filled is_good.passing in
    let same : r.id ≡ id = (bytes_eq-Decides r.id id).0 f.2 in
    record {
      value = v.0;
      first = ap (option_and_then (λ (x : Row). slice_get x.values 0)) f.1 ∙ v.1;
      one = ap (option_and_then row_text) f.1 ∙ ap (option_map (read_as r.reading)) v.1
          ∙ ap (λ how. Some (read_as how v.0)) is_good.reading;
      passing = subst (λ t. passes (arg_by_id c t) v.0 ≡ true) same v.2;
    }

has_found : (id : Text) (rows : List Row) → has_row id rows ≡ true → is_some (find (has_id id) rows) ≡ true
has_found id [] e = e
has_found id (r ∷ rs) e = go (bytes_eq r.id id) (has_found id rs) e
  where
    go : (t : Bool) → (has_row id rs ≡ true → is_some (find (has_id id) rs) ≡ true) → (t || has_row id rs) ≡ true
        → is_some (cond t (Some r) (find (has_id id) rs)) ≡ true
    go true rest h = refl
    go false rest h = rest h

given_found : (o : Option Row) → option_map_or (λ r. explicit_source r.source) o false ≡ true → is_some o ≡ true
given_found None e = e
given_found (Some r) e = refl

-- ---- a default leaves a row

self_eq : (id : Text) → bytes_eq id id ≡ true
self_eq id = (bytes_eq-Decides id id).1 refl

or_true : (a b : Bool) → b ≡ true → (a || b) ≡ true
or_true true b e = refl
or_true false b e = e

with_values_keeps : (id other : Text) (how : Reading) (s : ValueSource) (vs : List Text) (rows : List Row)
    → has_row id rows ≡ true
    → has_row id (with_values other how s vs rows) ≡ true
with_values_keeps id other how s vs [] e = absurd (true≢false (sym e))
with_values_keeps id other how s vs (r ∷ rs) e =
    go (bytes_eq r.id other) (bytes_eq r.id id) refl (with_values_keeps id other how s vs rs) e
  where
    go : (t u : Bool) → bytes_eq r.id id ≡ u
        → (has_row id rs ≡ true → has_row id (with_values other how s vs rs) ≡ true) → (u || has_row id rs) ≡ true
        → has_row id (if t then more_values s vs r ++ rs else (r ∷ with_values other how s vs rs)) ≡ true
    go true u is rest h = rw is h
    go false true is rest h = rw is refl
    go false false is rest h = rw is (rest h)

with_values_gains : (id : Text) (how : Reading) (s : ValueSource) (vs : List Text) (rows : List Row)
    → has_row id (with_values id how s vs rows) ≡ true
with_values_gains id how s vs [] = rw (self_eq id) refl
with_values_gains id how s vs (r ∷ rs) = go (bytes_eq r.id id) refl (with_values_gains id how s vs rs)
  where
    go : (t : Bool) → bytes_eq r.id id ≡ t → has_row id (with_values id how s vs rs) ≡ true
        → has_row id (if t then more_values s vs r ++ rs else (r ∷ with_values id how s vs rs)) ≡ true
    go true is rest = rw is refl
    go false is rest = or_true (bytes_eq r.id id) _ rest

default_keeps : (id : Text) (rows : List Row) (a : Rule) → has_row id rows ≡ true
    → has_row id (with_default rows a) ≡ true
default_keeps id rows a e = go (has_row a.id rows) a.defaults
  where
    go : (t : Bool) (ds : List Text) → has_row id (if t then rows else default_rows a.id (reading_by a) ds rows) ≡ true
    go true ds = e
    go false [] = e
    go false (d ∷ ds) = with_values_keeps id a.id (reading_by a) DefaultValue (d ∷ ds) rows e

default_gains : (rows : List Row) (a : Rule) → is_empty a.defaults ≡ false → has_row a.id (with_default rows a) ≡ true
default_gains rows a some = go (has_row a.id rows) refl a.defaults some
  where
    go : (t : Bool) → has_row a.id rows ≡ t → (ds : List Text) → is_empty ds ≡ false
        → has_row a.id (if t then rows else default_rows a.id (reading_by a) ds rows) ≡ true
    go true is ds full = is
    go false is [] full = absurd (true≢false full)
    go false is (d ∷ ds) full = with_values_gains a.id (reading_by a) DefaultValue (d ∷ ds) rows

defaults_keep : (id : Text) (rules : List Rule) (rows : List Row) → has_row id rows ≡ true
    → has_row id (fold with_default rows rules) ≡ true
defaults_keep id [] rows e = e
defaults_keep id (a ∷ rest) rows e = defaults_keep id rest (with_default rows a) (default_keeps id rows a e)

-- an argument of this id has a default
abbrev has_default : Text → List Rule → Bool
has_default id = list_any (λ a. bytes_eq a.id id && not (is_empty a.defaults))

defaults_gain : (id : Text) (rules : List Rule) (rows : List Row) → has_default id rules ≡ true
    → has_row id (fold with_default rows rules) ≡ true
defaults_gain id [] rows e = absurd (true≢false (sym e))
defaults_gain id (a ∷ rest) rows e =
    go (bytes_eq a.id id) (is_empty a.defaults) refl refl (defaults_gain id rest (with_default rows a)) e
  where
    go : (t u : Bool) → bytes_eq a.id id ≡ t → is_empty a.defaults ≡ u
        → (has_default id rest ≡ true → has_row id (fold with_default (with_default rows a) rest) ≡ true)
        → ((t && not u) || has_default id rest) ≡ true
        → has_row id (fold with_default (with_default rows a) rest) ≡ true
    go true false is some more h =
        let same : a.id ≡ id = (bytes_eq-Decides a.id id).0 is in
        defaults_keep id rest (with_default rows a)
        (subst (λ t. has_row t (with_default rows a) ≡ true) same (default_gains rows a some))
    go true true is some more h = more h
    go false u is some more h = more h

-- ---- the two subcommands, as they are built

abbrev leaf : Choices → ℕ → Shape
leaf choices i = unwrap_or (slice_get (built (ldi choices)).subs i) (new_shape [])

abbrev session_leaf : Choices → Shape
session_leaf choices = leaf choices 0

abbrev link_leaf : Choices → Shape
link_leaf choices = leaf choices 1

top_fine : (choices : Choices) → AllFine (built (ldi choices)).top.rules (built (ldi choices)).top.rules
top_fine choices = (
  record { own = refl; setting = refl; filling = refl; reading = refl },
  (record { own = refl; setting = refl; filling = refl; reading = refl }, tt),
)

session_fine : (choices : Choices) → AllFine (session_leaf choices).rules (session_leaf choices).rules
session_fine choices = (
  record { own = refl; setting = refl; filling = refl; reading = refl },
  (
    record { own = refl; setting = refl; filling = refl; reading = refl },
    (
      record { own = refl; setting = refl; filling = refl; reading = refl },
      (
        record { own = refl; setting = refl; filling = refl; reading = refl },
        (record { own = refl; setting = refl; filling = refl; reading = refl }, tt),
      ),
    ),
  ),
)

link_fine : (choices : Choices) → AllFine (link_leaf choices).rules (link_leaf choices).rules
link_fine choices = (
  record { own = refl; setting = refl; filling = refl; reading = refl },
  (
    record { own = refl; setting = refl; filling = refl; reading = refl },
    (
      record { own = refl; setting = refl; filling = refl; reading = refl },
      (
        record { own = refl; setting = refl; filling = refl; reading = refl },
        (
          record { own = refl; setting = refl; filling = refl; reading = refl },
          (
            record { own = refl; setting = refl; filling = refl; reading = refl },
            (
              record { own = refl; setting = refl; filling = refl; reading = refl },
              (record { own = refl; setting = refl; filling = refl; reading = refl }, tt),
            ),
          ),
        ),
      ),
    ),
  ),
)

-- ---- what their rows hold

bool_says : (v : Text) → accepts false vp.Bool v ≡ true → IsFlag (Some v)
bool_says v e = go (bytes_eq v (codes "true")) (bytes_eq v (codes "false")) refl refl e
  where
    go : (t u : Bool) → bytes_eq v (codes "true") ≡ t → bytes_eq v (codes "false") ≡ u → (t || u) ≡ true
        → IsFlag (Some v)
    go true u same other h = inl (ap (λ x. Some x) ((bytes_eq-Decides v (codes "true")).0 same))
    go false true first same h = inr (ap (λ x. Some x) ((bytes_eq-Decides v (codes "false")).0 same))
    go false false first other h = cc

names_say : (choices : Choices) → ListsOrphans choices → (v : Text) → accepts false (vp.Names choices) v ≡ true
    → NamesOrphans (Some v)
names_say choices lists v e = go (bytes_eq (codes "error") v) (bytes_eq (codes "discard") v) refl refl
    (sym (list_any-map (λ t. bytes_eq t v) (λ x. x.now) choices.now ∙ ap (list_any (λ t. bytes_eq t v)) lists) ∙ e)
  where
    go : (t u : Bool) → bytes_eq (codes "error") v ≡ t → bytes_eq (codes "discard") v ≡ u
        → (bytes_eq (codes "error") v || (bytes_eq (codes "discard") v || false)) ≡ true
        → NamesOrphans (Some v)
    go true u same other h = inl (ap (λ x. Some x) (sym ((bytes_eq-Decides (codes "error") v).0 same)))
    go false true first same h = inr (ap (λ x. Some x) (sym ((bytes_eq-Decides (codes "discard") v).0 same)))
    go false false first other h = let bad = rw (first, other) at h in cc

-- the rules of the two options that always have a value
record HasOptionRules (choices : Choices) (c : List Rule) : Type 0 where
  gc_default : has_default (codes "gc-sections") c ≡ true
  orphans_default : has_default (codes "orphan-handling") c ≡ true
  gc_passes : (v : Text) → passes (arg_by_id c (codes "gc-sections")) v ≡ accepts false vp.Bool v
  orphans_pass : (v : Text) → passes (arg_by_id c (codes "orphan-handling")) v ≡ accepts false (vp.Names choices) v

options_stated : (choices : Choices) → ListsOrphans choices → (s : Shape) (words : List Text)
    → HasOptionRules choices s.rules → AllGood s.rules (rows_after s.rules [] words)
    → StatesOptions (rows_after s.rules [] words)
options_stated choices lists s words has good =
    let rows = rows_after s.rules [] words in
    let before = (settled s.rules (walk s.rules [] nothing_held words).held).rows in
    let gc = value_of_id s.rules (codes "gc-sections") rows good
    (has_found _ rows (defaults_gain (codes "gc-sections") s.rules before has.gc_default)) in
    let orphans = value_of_id s.rules (codes "orphan-handling") rows good
    (has_found _ rows (defaults_gain (codes "orphan-handling") s.rules before has.orphans_default)) in
    record {
      gc = subst IsFlag (sym gc.one) (bool_says gc.value (sym (has.gc_passes gc.value) ∙ gc.passing));
      orphans = subst NamesOrphans (sym orphans.first)
          (names_say choices lists orphans.value (sym (has.orphans_pass orphans.value) ∙ orphans.passing));
    }

session_rules : (choices : Choices) → HasOptionRules choices (session_leaf choices).rules
session_rules choices = record {
  gc_default = refl;
  orphans_default = refl;
  gc_passes = λ v. refl;
  orphans_pass = λ v. refl;
}

link_rules : (choices : Choices) → HasOptionRules choices (link_leaf choices).rules
link_rules choices = record {
  gc_default = refl;
  orphans_default = refl;
  gc_passes = λ v. refl;
  orphans_pass = λ v. refl;
}

-- whether a session is deferred
deferred_stated : (choices : Choices) (words : List Text)
    → AllGood (session_leaf choices).rules (rows_after (session_leaf choices).rules [] words)
    → IsFlag (one_of (codes "deferred") (rows_after (session_leaf choices).rules [] words))
deferred_stated choices words good =
    let rules = (session_leaf choices).rules in
    let rows = rows_after rules [] words in
    let before = (settled rules (walk rules [] nothing_held words).held).rows in
    let found = value_of_id rules (codes "deferred") rows good
    (has_found _ rows (defaults_gain (codes "deferred") rules before refl)) in
    subst IsFlag (sym found.one) (bool_says found.value found.passing)

both_given : (k : ErrorKind) (g h : Bool) → (if not g || (not h || false) then (k ∷ []) else []) ≡ []
    → (g ≡ true) × (h ≡ true)
both_given k true true e = (refl, refl)
both_given k true false e = cc
both_given k false h e = cc

-- a value that was given
given_value : (c : List Rule) (id : Text) (rows : List Row) → AllGood c rows → is_given id rows ≡ true
    → IsSome (first_of id rows)
given_value c id rows good given =
    let v = value_of_id c id rows good (given_found (find (has_id id) rows) given) in
    subst IsSome (sym v.first) refl

files_stated : (choices : Choices) (words : List Text)
    → AllGood (link_leaf choices).rules (rows_after (link_leaf choices).rules [] words)
    → check_fault (link_leaf choices) (rows_after (link_leaf choices).rules [] words) false ≡ []
    → StatesFiles (rows_after (link_leaf choices).rules [] words)
files_stated choices words good e =
    let given = both_given _ _ _ e in
    record { script = given_value _ _ _ good given.0; image = given_value _ _ _ good given.1 }

-- ---- the subcommand

-- the level of a subcommand, where the walk above stopped
abbrev stopped_fault : Option Shape → List Text → Kinds
stopped_fault o words = option_map_or (λ s. level_fault s [] nothing_held words false []) o []

abbrev stopped_rows : Option Shape → List Text → Option (Text × List Row)
stopped_rows o words = option_map (λ s. rows_at s words) o

entered_states : (choices : Choices) → ListsOrphans choices → (stop : Option (Text × List Text))
    → is_some (entered (built (ldi choices)) stop) ≡ true
    → entered_fault (built (ldi choices)) stop ≡ [] → StatesCall (entered (built (ldi choices)) stop)
entered_states choices lists None there e = absurd (true≢false (sym there))
entered_states choices lists (Some p) there e =
    go (answers_to p.0 (label_of (session_leaf choices))) (answers_to p.0 (label_of (link_leaf choices))) there e
  where
    go : (t u : Bool)
        → is_some
        (stopped_rows (cond t (Some (session_leaf choices)) (cond u (Some (link_leaf choices)) None)) p.1) ≡ true
        → stopped_fault (cond t (Some (session_leaf choices)) (cond u (Some (link_leaf choices)) None)) p.1 ≡ []
        → StatesCall (stopped_rows (cond t (Some (session_leaf choices)) (cond u (Some (link_leaf choices)) None)) p.1)
    go true u there e =
        let level = level_good (session_leaf choices) (session_fine choices) [] p.1 false [] e in (
          options_stated choices lists (session_leaf choices) p.1 (session_rules choices) level.0,
          inl (refl, deferred_stated choices p.1 level.0),
        )
    go false true there e =
        let level = level_good (link_leaf choices) (link_fine choices) [] p.1 false [] e in (
          options_stated choices lists (link_leaf choices) p.1 (link_rules choices) level.0,
          inr (refl, files_stated choices p.1 level.0 level.2),
        )
    go false false there e = absurd (true≢false (sym there))

-- a command that wants a subcommand has one
has_subcommand : (k wants : ErrorKind) (has given : Bool) (last : Kinds)
    → (if not has && given then (k ∷ []) else (if not has && true then (wants ∷ []) else last)) ≡ [] → has ≡ true
has_subcommand k wants true given last e = refl
has_subcommand k wants false true last e = cc
has_subcommand k wants false false last e = cc

pub stated : (choices : Choices) → ListsOrphans choices → (words : List Text) → fault_of (ldi choices) words ≡ []
    → StatesCall (subcommand_of (ldi choices) words)
stated choices lists words e =
    let a = built (ldi choices) in
    let stop = (walk a.top.rules (names_of a) nothing_held (drop 1 words)).stopped in
    let level = level_good a.top (top_fine choices) (names_of a) (drop 1 words) (is_some (entered a stop))
    (entered_fault a stop) e in
    entered_states choices lists stop (has_subcommand _ _ _ _ _ level.2) level.1
