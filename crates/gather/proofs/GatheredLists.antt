-- What holds of gathered sections, as of the input sections that they stand for.
use Rattle.gather.proofs.Common.{All, All-head, All-tail, AreBuckets, AreGathered, Bool, Err, Facts, GatheredSection}
use Rattle.gather.proofs.Common.{Global, InputIndex, InputSection, InputStatementAt, IsFound, List, None, Ok, OnOk}
use Rattle.gather.proofs.Common.{Option, Project, Result, SectionRef, Some, Statement, Vec, [], ap, append-nil}
use Rattle.gather.proofs.Common.{append_assoc, arith, cases_lt, cond, cons_option, drop, drop_all, drop_more, facts}
use Rattle.gather.proofs.Common.{false, filter, filter_map, filter_map-append, first_match, get_or, get_or_default}
use Rattle.gather.proofs.Common.{get_or_past, input_sections, input_statements, is_discarded, is_none, is_out_by}
use Rattle.gather.proofs.Common.{is_out_of, length, live, ltb, ltb-true, map, marked, name_of_part, object_name}
use Rattle.gather.proofs.Common.{option_and_then, option_map, orphans, own_piece, piece_in, position, position_or_len}
use Rattle.gather.proofs.Common.{refl, section_id, shown_facts, slice_get, subst, suc, sym, taken_by, taken_in}
use Rattle.gather.proofs.Common.{taken_piece, takes, true, untaken, zero, ℕ, ⊎_elim, ◌++◌, ◌+◌, ◌<◌, ◌∙◌, ◌∷◌, ◌≡◌, ◌≤◌}
use Rattle.ldmodel.specs.Gathering.{is_out_under}
use Rattle.ldmodel.specs.Rows.{Piece, piece_of}
use Rattle.ldmodel.specs.declared.rows.Piece as code
use Rattle.gather.specs.GatheredSections.{as_piece, untaken_by_none}
use Rattle.gather.specs.Matches.{number_of}
use Rattle.gather.proofs.Named.{all_found}

map_again : {X Y Z : Type 0} (g : Y → Z) (f : X → Y) (xs : List X) → map (λ x. g (f x)) xs ≡ map g (map f xs)
map_again g f [] = refl
map_again g f (x ∷ xs) = ap (λ l. g (f x) ∷ l) (map_again g f xs)

-- left out, by the facts
out_under : (p : Project) (s : InputSection) (o : Option InputStatementAt) → is_out_by p.options.orphans s.size o
    ≡ is_out_under p s o
out_under p s None = refl
out_under p s (Some i) = refl

out_by_facts : Project → Facts → Bool
out_by_facts p f = is_out_of (input_statements p.script) p.options.orphans f.size f.statement

out_is : (p : Project) (ss : List InputSection)
    → map (λ s. is_out_of (input_statements p.script) p.options.orphans s.size (first_match p.script s.object s.name))
    ss ≡ map (is_discarded p) ss
unfolding is_discarded
out_is p [] = refl
out_is p (s ∷ ss) =
    ap (λ b. b ∷ map (λ s.
    is_out_of (input_statements p.script) p.options.orphans s.size (first_match p.script s.object s.name)) ss)
    (out_under p s (taken_by p s))
    ∙ ap (λ l. is_discarded p s ∷ l) (out_is p ss)

pub out_are : (p : Project) (xs : List GatheredSection) → AreGathered p xs
    → map (λ (x : GatheredSection). is_out_of (input_statements p.script) p.options.orphans x.size
    (number_of x.statement)) xs
    ≡ map (is_discarded p) (input_sections p)
out_are p xs a =
    map_again (λ (f : Facts). is_out_of (input_statements p.script) p.options.orphans f.size f.statement)
    shown_facts xs
    ∙ ap (map (λ (f : Facts). is_out_of (input_statements p.script) p.options.orphans f.size f.statement)) a.facts
    ∙ sym (map_again (λ (f : Facts). is_out_of (input_statements p.script) p.options.orphans f.size f.statement)
    (facts p) (input_sections p))
    ∙ out_is p (input_sections p)

marked_nil : {X : Type 0} (marks : List Bool) → marked {X = X} marks [] ≡ []
marked_nil [] = refl
marked_nil (b ∷ bs) = refl

-- the marked members from a place on
pub marked_more : {X : Type 0} (marks : List Bool) (xs : List X) (i : ℕ) (x : X) → i < length xs → x ≡ get_or xs i x
    → marked (drop i marks) (drop i xs)
    ≡ cond (get_or marks i false) (x ∷ marked (drop (i + 1) marks) (drop (i + 1) xs))
    (marked (drop (i + 1) marks) (drop (i + 1) xs))
marked_more marks xs i x h is = ⊎_elim inside past (cases_lt i (length marks))
  where
    inside : i < length marks → marked (drop i marks) (drop i xs)
        ≡ cond (get_or marks i false) (x ∷ marked (drop (i + 1) marks) (drop (i + 1) xs))
        (marked (drop (i + 1) marks) (drop (i + 1) xs))
    inside within =
        ap (λ l. marked l (drop i xs)) (drop_more marks i false within)
        ∙ ap (marked (get_or marks i false ∷ drop (i + 1) marks)) (drop_more xs i x h
        ∙ ap (λ y. y ∷ drop (i + 1) xs) (sym is))

    past : length marks ≤ i → marked (drop i marks) (drop i xs)
        ≡ cond (get_or marks i false) (x ∷ marked (drop (i + 1) marks) (drop (i + 1) xs))
        (marked (drop (i + 1) marks) (drop (i + 1) xs))
    past l =
        ap (λ bs. marked bs (drop i xs)) (drop_all i marks l)
        ∙ ap (λ bs. marked bs (drop (i + 1) xs)) (sym (drop_all (i + 1) marks (omega (arith, l))))
        ∙ ap (λ b. cond b (x ∷ marked (drop (i + 1) marks) (drop (i + 1) xs))
        (marked (drop (i + 1) marks) (drop (i + 1) xs))) (sym (get_or_past marks i false l))

-- a piece, by the facts
piece_by : Project → ℕ → Facts → Piece
piece_by p n f = record {
  statement = n;
  object = object_name p f.id.object;
  part = f.id.part;
  name = name_of_part p f.id.object f.id.part;
  kind = f.kind;
  flags = f.flags;
  size = f.size;
  alignment = f.alignment;
}

same_piece : (p : Project) (x : GatheredSection) (n : InputIndex) → piece_in p (as_piece x n)
    ≡ piece_by p n.0 (shown_facts x)
unfolding piece_by
same_piece p x n = refl

of_section : (p : Project) (s : InputSection) (n : ℕ) → IsFound p s → piece_by p n (facts p s) ≡ piece_of n s
unfolding piece_by
of_section p s n found =
    let with_names : List ℕ → List ℕ → Piece = λ object name. record {
      statement = n;
      object = object;
      part = s.id.part;
      name = name;
      kind = s.kind;
      flags = s.flags;
      size = s.size;
      alignment = s.alignment;
    } in
    ap (λ object. with_names object (name_of_part p s.id.object s.id.part)) found.object
    ∙ ap (with_names s.object) found.name

-- the pieces of the marked sections
pieces_are : (p : Project) (marks : List Bool) (xs : List GatheredSection) (ss : List InputSection) → map shown_facts xs
    ≡ map (facts p) ss → All (IsFound p) ss → map (piece_in p) (taken_in marks xs)
    ≡ filter_map (taken_piece p) (marked marks ss)
pieces_are p [] xs ss e a = refl
pieces_are p (b ∷ bs) [] [] e a = refl
pieces_are p (b ∷ bs) [] (s ∷ ss) e a = absurd (cc)
pieces_are p (b ∷ bs) (x ∷ xs) [] e a = absurd (cc)
pieces_are p (b ∷ bs) (x ∷ xs) (s ∷ ss) e a =
    let head : shown_facts x ≡ facts p s = cc in
    let tail : map shown_facts xs ≡ map (facts p) ss = cc in
    go b (marked bs xs) (marked bs ss) head (All-head (IsFound p) s ss a)
    (pieces_are p bs xs ss tail (All-tail (IsFound p) s ss a))
  where
    one : (o : Option InputIndex) (m : Option ℕ) (l : List GatheredSection) (r : List InputSection) → number_of o ≡ m
        → shown_facts x ≡ facts p s → IsFound p s
        → map (piece_in p) (filter_map own_piece l) ≡ filter_map (taken_piece p) r
        → map (piece_in p) (cons_option (option_map (as_piece x) o) (filter_map own_piece l))
        ≡ cons_option (option_map (λ n. piece_of n s) m) (filter_map (taken_piece p) r)
    one None None l r e h f rest = rest
    one None (Some m) l r e h f rest = absurd (cc)
    one (Some k) None l r e h f rest = absurd (cc)
    one (Some k) (Some m) l r e h f rest =
        let same : k.0 ≡ m = cc in
        ap (λ y. y ∷ map (piece_in p) (filter_map own_piece l)) (same_piece p x k
        ∙ ap (piece_by p k.0) h ∙ of_section p s k.0 f ∙ ap (λ j. piece_of j s) same)
        ∙ ap (λ t. piece_of m s ∷ t) rest

    go : (b : Bool) (l : List GatheredSection) (r : List InputSection) → shown_facts x ≡ facts p s → IsFound p s
        → map (piece_in p) (filter_map own_piece l) ≡ filter_map (taken_piece p) r
        → map (piece_in p) (filter_map own_piece (cond b (x ∷ l) l))
        ≡ filter_map (taken_piece p) (cond b (s ∷ r) r)
    go false l r h f rest = rest
    go true l r h f rest =
        one x.statement (first_match p.script s.object s.name) l r (ap (λ (f : Facts). f.statement) h) h f rest

-- so those of the live sections are those that statements take
pub taken_are : (p : Project) (marks : List Bool) (xs : List GatheredSection) → AreGathered p xs
    → marked marks (input_sections p) ≡ live p
    → map (piece_in p) (taken_in marks xs) ≡ filter_map (taken_piece p) (live p)
taken_are p marks xs a l =
    pieces_are p marks xs (input_sections p) a.facts (all_found p a.ascending) ∙ ap (filter_map (taken_piece p)) l

-- a section that no statement takes, by the number of the statement
is_there : {X : Type 0} (xs : List X) (i : ℕ) → i < length xs → is_none (slice_get xs i) ≡ false
is_there [] i h = absurd (omega (arith, h))
is_there (x ∷ xs) zero h = refl
is_there (x ∷ xs) (suc i) h = is_there xs i (omega (arith, h))

at_position : {X : Type 0} (test : X → Bool) (xs : List X)
    → is_none (option_and_then (slice_get xs) (position test xs)) ≡ is_none (position test xs)
at_position test xs = go (ltb (position_or_len test xs) (length xs)) refl
  where
    go : (b : Bool) → ltb (position_or_len test xs) (length xs) ≡ b
        → is_none (option_and_then (slice_get xs) (cond b (Some (position_or_len test xs)) None))
        ≡ is_none (cond b (Some (position_or_len test xs)) None)
    go true e = is_there xs (position_or_len test xs) (ltb-true (position_or_len test xs) (length xs) e)
    go false e = refl

within_or_none : (script : List Statement) (file section : List ℕ)
    → is_none (option_and_then (slice_get (input_statements script)) (first_match script file section))
    ≡ is_none (first_match script file section)
unfolding first_match
within_or_none script file section =
    at_position (λ (i : InputStatementAt). takes file section i.input) (input_statements script)

-- the keys of the marked sections that no statement takes
orphans_in : (p : Project) (marks : List Bool) (xs : List GatheredSection) (ss : List InputSection)
    → map shown_facts xs ≡ map (facts p) ss
    → map (section_id (λ key. key)) (filter_map untaken (marked marks xs))
    ≡ map (λ (s : InputSection). s.id) (filter (λ s. is_none (taken_by p s)) (marked marks ss))
orphans_in p [] xs ss e = refl
orphans_in p (b ∷ bs) [] [] e = refl
orphans_in p (b ∷ bs) [] (s ∷ ss) e = absurd (cc)
orphans_in p (b ∷ bs) (x ∷ xs) [] e = absurd (cc)
orphans_in p (b ∷ bs) (x ∷ xs) (s ∷ ss) e =
    let head : shown_facts x ≡ facts p s = cc in
    let tail : map shown_facts xs ≡ map (facts p) ss = cc in
    go b (marked bs xs) (filter (λ s. is_none (taken_by p s)) (marked bs ss)) (marked bs ss) refl head
    (orphans_in p bs xs ss tail)
  where
    one : (o : Option InputIndex) (none : Bool) (l : List GatheredSection) (r : List InputSection)
        → is_none (number_of o)
        ≡ none → section_id (λ key. key) x.section ≡ s.id
        → map (section_id (λ key. key)) (filter_map untaken l) ≡ map (λ (s : InputSection). s.id) r
        → map (section_id (λ key. key)) (cons_option (untaken_by_none x.section o) (filter_map untaken l))
        ≡ map (λ (s : InputSection). s.id) (cond none (s ∷ r) r)
    one None true l r e h rest = ap (λ i. i ∷ map (section_id (λ key. key)) (filter_map untaken l)) h
        ∙ ap (λ t. s.id ∷ t) rest
    one None false l r e h rest = absurd (cc)
    one (Some k) true l r e h rest = absurd (cc)
    one (Some k) false l r e h rest = rest

    go : (b : Bool) (l : List GatheredSection) (r : List InputSection) (all : List InputSection) → r
        ≡ filter (λ s. is_none (taken_by p s)) all → shown_facts x ≡ facts p s
        → map (section_id (λ key. key)) (filter_map untaken l) ≡ map (λ (s : InputSection). s.id) r
        → map (section_id (λ key. key)) (filter_map untaken (cond b (x ∷ l) l))
        ≡ map (λ (s : InputSection). s.id) (filter (λ s. is_none (taken_by p s)) (cond b (s ∷ all) all))
    go false l r all is h rest = rest ∙ ap (map (λ (s : InputSection). s.id)) is
    go true l r all is h rest =
        one x.statement (is_none (taken_by p s)) l r (ap (λ (f : Facts). is_none f.statement) h
        ∙ sym (within_or_none p.script s.object s.name)) (ap (λ (f : Facts). f.id) h) rest
        ∙ ap (λ q. map (λ (s : InputSection). s.id) (cond (is_none (taken_by p s)) (s ∷ q) q)) is

pub orphans_are : (p : Project) (marks : List Bool) (xs : List GatheredSection) (found : List SectionRef)
    → found ≡ filter_map untaken (marked marks xs) → AreGathered p xs → marked marks (input_sections p) ≡ live p
    → map (section_id (λ key. key)) found ≡ map (λ (s : InputSection). s.id) (orphans p)
unfolding orphans
orphans_are p marks xs found is a l =
    ap (map (section_id (λ key. key))) is ∙ orphans_in p marks xs (input_sections p) a.facts
    ∙ ap (λ ss. map (λ (s : InputSection). s.id) (filter (λ s. is_none (taken_by p s)) ss)) l

-- what is found, one section later
pub found_step : {Y : Type 0} (h : GatheredSection → Option Y) (old new all : List Y) (marks : List Bool)
    (xs : List GatheredSection)
    (i : ℕ) (d : GatheredSection) (b : Bool)
    → i < length xs → b ≡ get_or marks i false → new ≡ old ++ filter_map h (cond b (get_or xs i d ∷ []) [])
    → old ++ filter_map h (marked (drop i marks) (drop i xs)) ≡ all → new
    ++ filter_map h (marked (drop (i + 1) marks) (drop (i + 1) xs)) ≡ all
found_step h old new all marks xs i d b within is added before =
    ap (λ l. l ++ filter_map h (marked (drop (i + 1) marks) (drop (i + 1) xs))) (added
    ∙ ap (λ m. old ++ filter_map h (cond m (get_or xs i d ∷ []) [])) is)
    ∙ append_assoc old (filter_map h (cond (get_or marks i false) (get_or xs i d ∷ []) []))
    (filter_map h (marked (drop (i + 1) marks) (drop (i + 1) xs)))
    ∙ ap (λ l. old ++ l) (go (get_or marks i false) (get_or xs i d) (marked (drop (i + 1) marks) (drop (i + 1) xs))
    ∙ ap (filter_map h) (sym
    (marked_more marks xs i (get_or xs i d) within (get_or_default xs i d (get_or xs i d) within))))
    ∙ before
  where
    go : (b : Bool) (x : GatheredSection) (rest : List GatheredSection) → filter_map h (cond b (x ∷ []) [])
        ++ filter_map h rest
        ≡ filter_map h (cond b (x ∷ rest) rest)
    go true x rest = sym (filter_map-append h (x ∷ []) rest)
    go false x rest = refl

-- nothing is left to be found
pub found_all : {Y : Type 0} (h : GatheredSection → Option Y) (found all : List Y) (marks : List Bool)
    (xs : List GatheredSection)
    (i : ℕ)
    → length xs ≤ i → found ++ filter_map h (marked (drop i marks) (drop i xs)) ≡ all → found ≡ all
found_all h found all marks xs i past e =
    sym (append-nil found) ∙ ap (λ l. found ++ filter_map h l) (sym (marked_nil (drop i marks)))
    ∙ ap (λ l. found ++ filter_map h (marked (drop i marks) l)) (sym (drop_all i xs past)) ∙ e

-- the sections before a place are in the lists of the statements that take them
pub record Taken (xs : List GatheredSection) (marks : List Bool) (i count : ℕ) (buckets : List (Vec code.Piece Global))
    : Type 0 where
  pub done : List code.Piece
  pub are : AreBuckets done count buckets
  pub rest : done ++ taken_in (drop i marks) (drop i xs) ≡ taken_in marks xs

-- a live section that a statement takes is put as its piece
pub taken_one : {T E : Type 0} (r : Result T E) (x : GatheredSection) (b : Bool) (n : InputIndex)
    (old new : List (Vec code.Piece Global)) → b ≡ true → x.statement ≡ Some n
    → OnOk r ((xs : List code.Piece) (count : ℕ) → AreBuckets xs count old
    → AreBuckets (xs ++ as_piece x n ∷ []) count new)
    → OnOk r ((xs : List code.Piece) (count : ℕ) → AreBuckets xs count old
    → AreBuckets (xs ++ filter_map own_piece (cond b (x ∷ []) [])) count new)
taken_one (Err e) x b n old new live at h = tt
taken_one (Ok u) x b n old new live at h = λ xs count are.
    let same : as_piece x n ∷ [] ≡ filter_map own_piece (cond b (x ∷ []) []) =
    sym (ap (λ c. filter_map own_piece (cond c (x ∷ []) [])) live
    ∙ ap (λ o. cons_option (option_map (as_piece x) o) []) at) in
    subst (λ l. AreBuckets (xs ++ l) count new) same (h xs count are)
