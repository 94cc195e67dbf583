-- How much an edit counts.
use Rattle.relink.proofs.Common.{Bool, Change, ChangesOneObject, Counts, CountsNames, IsAmong, KeysAreStable, List}
use Rattle.relink.proofs.Common.{Listed, NamedObject, None, Ok, Option, Project, ProjectState, ReadsNothing, ReadsOne}
use Rattle.relink.proofs.Common.{Rises, Some, Staged, StandsAsNamed, Table, [], ap, append-nil, arith, bytes_eq-Decides}
use Rattle.relink.proofs.Common.{capped, cond, count_by, declared_in, declared_names, distinct, edited_key, eq-eqb}
use Rattle.relink.proofs.Common.{false, find, get_or, get_or-insert_at, held, insert, is_some, key_count, leb-false}
use Rattle.relink.proofs.Common.{length, length-insert, length-map, length-remove, length-set, ltb-false, map}
use Rattle.relink.proofs.Common.{named_under, names_at, names_in_objects, names_of_edit, names_of_step, nat_eq, nat_le}
use Rattle.relink.proofs.Common.{nat_lt, next_entries, next_listing, not, objects_of, objects_read, option_map_or}
use Rattle.relink.proofs.Common.{project_of, refl, remove, slice_get, subst, sym, symbol_tables, tables_under, true}
use Rattle.relink.proofs.Common.{unedited, unnamed, ℕ, ◌++◌, ◌+◌, ◌<◌, ◌^◌, ◌∙◌, ◌∷◌, ◌≡◌, ◌≤◌}
use Rattle.std.proofs.lemmas.List.Quantifiers.{position-Some}
use Rattle.elfobj.specs.Raised.{raised}
use Rattle.elfobj.specs.declared.meter.Count.TheVariants as counts
use Rattle.ldmodel.specs.Edits.{Add, After, InUse, Move, PastEnd, Refusal, Remove, Replace, SetScript, Unknown}
use Rattle.ldmodel.specs.Edits.{early_refusal, has_name, is_in_use, moved, new_object, place_of, removed, replaced}
use Rattle.ldmodel.specs.SessionWork.{named_by, names_by_script, names_of, touched_names}
use Rattle.ldmodel_project.specs.Next.{Fits}
use Rattle.ldmodel_project.specs.Staging.{EditsNamed}
use Rattle.relink.specs.Work.{AreSmall, Decides, IsReadingWork, decided_by}
use Rattle.relink.proofs.Finding.{any_none, find_none, find_only, find_some, get_insert, inserted_counts}
use Rattle.relink.proofs.Finding.{same_inserted}
use Rattle.relink.proofs.Following.{tables_of_objects}
use Rattle.relink.proofs.Lists.{map_insert}

-- ---- the names of one object

abbrev pub names_found : Option NamedObject → List (List ℕ)
names_found o = option_map_or (λ (x : NamedObject). names_in_objects (x ∷ [])) o []

abbrev pub One : Type 0
One = (o : NamedObject) → declared_in o.object.symbols ≡ names_in_objects (o ∷ [])

-- the object at its place among the entries
here_at : (key p : ℕ) (es : List Listed) → IsAmong (Some key) (Some p) es
    → objects_of es ≡ insert (objects_of (unedited (Some key) es)) p (named_under es key)
here_at key p es h =
    ap objects_of h.1
    ∙ map_insert (λ (e : Listed). e.named) (unedited (Some key) es) p
    (let e : Listed = record { key = key; named = named_under es key } in e)

below : (p : ℕ) (es : List Listed) → p ≤ length es → p ≤ length (objects_of es)
below p es l = omega (arith, l, length-map es (λ (e : Listed). e.named))

-- the entries are one more than the others
one_longer : (key p : ℕ) (es : List Listed) → IsAmong (Some key) (Some p) es
    → length es ≡ length (unedited (Some key) es) + 1
one_longer key p es h =
    let e : Listed = record { key = key; named = named_under es key } in
    ap (λ (l : List Listed). length l) h.1 ∙ length-insert (unedited (Some key) es) p e h.0

-- before the edit the names are those of the object of the name
names_before : One → (es : List Listed) (key : ℕ) (name : List ℕ) (place : Option ℕ) → place
    ≡ place_of (objects_of es) name → IsAmong (Some key) place es
    → names_at place es key ≡ names_found (find (has_name name) (objects_of es))
names_before one es key name None e h = ap names_found (sym (find_none (has_name name) (objects_of es) (sym e)))
names_before one es key name (Some p) e h =
    one (named_under es key)
    ∙ ap names_found
    (sym (find_some (has_name name) (objects_of es) p (sym e)
    ∙ (ap (λ (l : List NamedObject). slice_get l p) (here_at key p es h)
    ∙ get_insert (objects_of (unedited (Some key) es)) p (named_under es key)
    (below p (unedited (Some key) es) h.0))))

-- and the object has that name
named_before : (es : List Listed) (key : ℕ) (name : List ℕ) (p : ℕ) → place_of (objects_of es) name ≡ Some p
    → IsAmong (Some key) (Some p) es → (named_under es key).name ≡ name
named_before es key name p e h =
    let passes = position-Some (has_name name) (objects_of es) p (named_under es key) e in
    let here : get_or (objects_of es) p (named_under es key) ≡ named_under es key =
    ap (λ (l : List NamedObject). get_or l p (named_under es key)) (here_at key p es h)
    ∙ get_or-insert_at (objects_of (unedited (Some key) es)) p (named_under es key) (named_under es key)
    (below p (unedited (Some key) es) h.0) in
    (bytes_eq-Decides (named_under es key).name name).0
    (ap (has_name name) (sym here) ∙ passes.1)

-- after it they are those of the object of the name, or none
names_after : One → (es : List Listed) (key : ℕ) (name : List ℕ) (p : ℕ) → count_by (has_name name) (objects_of es) ≤ 1
    → (named_under es key).name ≡ name → IsAmong (Some key) (Some p) es
    → names_at (Some p) es key ≡ names_found (find (has_name name) (objects_of es))
names_after one es key name p once is h =
    let here = here_at key p es h in
    let rest : List NamedObject = objects_of (unedited (Some key) es) in
    one (named_under es key)
    ∙ ap names_found
    (sym (ap (find (has_name name)) here
    ∙ find_only (has_name name) rest p (named_under es key)
    ((bytes_eq-Decides (named_under es key).name name).1 is)
    (subst (λ (l : List NamedObject). count_by (has_name name) l ≤ 1) here once)))

-- the key of an object at a place is listed
listed : (key p : ℕ) (es : List Listed) → IsAmong (Some key) (Some p) es → 0 < key_count es key
listed key p es h =
    subst (λ (l : List Listed). 0 < key_count l key) (sym h.1)
    (inserted_counts (λ (e : Listed). nat_eq key e.key) (unedited (Some key) es) p
    (let e : Listed = record { key = key; named = named_under es key } in e) (eq-eqb key key refl))

-- the names after an edit of an object that stood before
stood : One → (old new : List Listed) (key : ℕ) (name : List ℕ) (p q : ℕ) → place_of (objects_of old) name ≡ Some p
    → IsAmong (Some key) (Some p) old → IsAmong (Some key) (Some q) new
    → count_by (has_name name) (objects_of new) ≤ 1 → KeysAreStable old new
    → names_at (Some q) new key ≡ names_found (find (has_name name) (objects_of new))
stood one old new key name p q e b a once stable =
    names_after one new key name q once
    (stable key (listed key p old b) (listed key q new a) ∙ named_before old key name p e b) a

-- what a test that comes first says, where nothing is refused, and what comes after it
not_refused : (b : Bool) (r : Refusal) (rest : Option Refusal) → cond b (Some r) rest ≡ None → b ≡ false
not_refused true r rest h = absurd (cc)
not_refused false r rest h = refl

past_refusal : (b : Bool) (r : Refusal) (rest : Option Refusal) → b ≡ false → cond b (Some r) rest ≡ None → rest ≡ None
past_refusal true r rest e h = absurd (cc)
past_refusal false r rest e h = h

-- ---- the names that an edit touches

-- what is known of a staged edit of an object
pub record IsEdit (h : ProjectState) (s : Staged) (key : ℕ) : Type 0 where
  pub arranged : ChangesOneObject h.contents.entries s.objects
  pub edited : edited_key s.objects.step ≡ Some key
  pub once : (name : List ℕ) → count_by (has_name name) (objects_of (next_entries h.contents.entries s.objects)) ≤ 1
  pub stable : KeysAreStable h.contents.entries (next_entries h.contents.entries s.objects)

among_before : (h : ProjectState) (s : Staged) (key : ℕ) (p : Option ℕ) → IsEdit h s key → s.objects.places.before ≡ p
    → IsAmong (Some key) p h.contents.entries
among_before h s key p d e =
    subst (λ (q : Option ℕ). IsAmong (Some key) q h.contents.entries) e
    (subst (λ (t : Option ℕ). IsAmong t s.objects.places.before h.contents.entries) d.edited d.arranged.before)

among_after : (h : ProjectState) (s : Staged) (key : ℕ) → IsEdit h s key
    → IsAmong (Some key) s.objects.places.after (next_entries h.contents.entries s.objects)
among_after h s key d =
    subst (λ (t : Option ℕ). IsAmong t s.objects.places.after (next_entries h.contents.entries s.objects)) d.edited
    d.arranged.after

-- an object that stood among these stands among as many, and among fewer no more
stays_there : (key p : ℕ) (after : Option ℕ) (old new : List Listed) → IsAmong (Some key) (Some p) old
    → IsAmong (Some key) after new → unedited (Some key) new ≡ unedited (Some key) old
    → length (objects_of new) ≡ length (objects_of old) → (q : ℕ) × (after ≡ Some q)
stays_there key p (Some q) old new b a others same = (q, refl)
stays_there key p None old new b a others same =
    absurd (omega (
      arith,
      same,
      length-map new (λ (e : Listed). e.named),
      length-map old (λ (e : Listed). e.named),
      ap (λ (l : List Listed). length l) a,
      ap (λ (l : List Listed). length l) others,
      one_longer key p old b,
    ))

goes_away : (key p : ℕ) (after : Option ℕ) (old new : List Listed) → IsAmong (Some key) (Some p) old
    → IsAmong (Some key) after new → unedited (Some key) new ≡ unedited (Some key) old
    → length (objects_of new) + 1 ≡ length (objects_of old) → after ≡ None
goes_away key p None old new b a others fewer = refl
goes_away key p (Some q) old new b a others fewer =
    absurd (omega (
      arith,
      fewer,
      length-map new (λ (e : Listed). e.named),
      length-map old (λ (e : Listed). e.named),
      one_longer key q new a,
      ap (λ (l : List Listed). length l) others,
      one_longer key p old b,
    ))

-- of an object that stood before
names_before_named : One → (h : ProjectState) (s : Staged) (key : ℕ) (name : List ℕ) → IsEdit h s key
    → EditsNamed (objects_of h.contents.entries) name s.objects
    → names_at s.objects.places.before h.contents.entries key
    ≡ names_found (find (has_name name) (objects_of h.contents.entries))
names_before_named one h s key name d t =
    names_before one h.contents.entries key name s.objects.places.before (t.touching.before ∙ sym t.is)
    (among_before h s key s.objects.places.before d refl)

others_stay : (h : ProjectState) (s : Staged) (key : ℕ) → IsEdit h s key
    → unedited (Some key) (next_entries h.contents.entries s.objects) ≡ unedited (Some key) h.contents.entries
others_stay h s key d =
    subst (λ (t : Option ℕ). unedited t (next_entries h.contents.entries s.objects)
    ≡ unedited t h.contents.entries) d.edited d.arranged.others

-- and of one that stays
same_named : One → (h : ProjectState) (s : Staged) (key : ℕ) (name : List ℕ) → IsEdit h s key
    → EditsNamed (objects_of h.contents.entries) name s.objects
    → length (objects_of (next_entries h.contents.entries s.objects)) ≡ length (objects_of h.contents.entries)
    → names_of_step h.contents.entries s.objects (Some key)
    ≡ names_found (find (has_name name) (objects_of h.contents.entries))
    ++ names_found (find (has_name name) (objects_of (next_entries h.contents.entries s.objects)))
same_named one h s key name d t many =
    let old : List Listed = h.contents.entries in
    let new : List Listed = next_entries old s.objects in
    let before : IsAmong (Some key) (Some t.place) old = among_before h s key (Some t.place) d t.touching.before in
    let after = stays_there key t.place s.objects.places.after old new before (among_after h s key d)
    (others_stay h s key d) many in
    let previous : names_at s.objects.places.after new key ≡ names_found (find (has_name name) (objects_of new)) =
    ap (λ (p : Option ℕ). names_at p new key) after.1
    ∙ stood one old new key name t.place after.0 t.is before
    (subst (λ (p : Option ℕ). IsAmong (Some key) p new) after.1 (among_after h s key d)) (d.once name) d.stable in
    ap (λ (l : List (List ℕ)). l ++ names_at s.objects.places.after new key) (names_before_named one h s key name d t)
    ∙ ap (λ (l : List (List ℕ)). names_found (find (has_name name) (objects_of old)) ++ l) previous

-- of one that goes
same_removed : One → (h : ProjectState) (s : Staged) (key : ℕ) (name : List ℕ) → IsEdit h s key
    → EditsNamed (objects_of h.contents.entries) name s.objects
    → length (objects_of (next_entries h.contents.entries s.objects)) + 1 ≡ length (objects_of h.contents.entries)
    → names_of_step h.contents.entries s.objects (Some key)
    ≡ names_found (find (has_name name) (objects_of h.contents.entries))
same_removed one h s key name d t fewer =
    let old : List Listed = h.contents.entries in
    let new : List Listed = next_entries old s.objects in
    let gone : s.objects.places.after ≡ None =
    goes_away key t.place s.objects.places.after old new (among_before h s key (Some t.place) d t.touching.before)
    (among_after h s key d) (others_stay h s key d) fewer in
    ap (λ (p : Option ℕ). names_at s.objects.places.before old key ++ names_at p new key) gone
    ∙ append-nil (names_at s.objects.places.before old key) ∙ names_before_named one h s key name d t

-- of a new one
same_added : One → (h : ProjectState) (s : Staged) (key at : ℕ) (name bytes : List ℕ) → IsEdit h s key
    → s.objects.places.before ≡ None → s.objects.places.after ≡ Some at
    → is_in_use (objects_of h.contents.entries) name ≡ false → at ≤ length (objects_of h.contents.entries)
    → objects_of (next_entries h.contents.entries s.objects)
    ≡ insert (objects_of h.contents.entries) at (new_object name bytes)
    → names_of_step h.contents.entries s.objects (Some key)
    ≡ names_found (find (has_name name) (objects_of h.contents.entries))
    ++ names_found (find (has_name name) (objects_of (next_entries h.contents.entries s.objects)))
same_added one h s key at name bytes d before after unused within made =
    let old : List Listed = h.contents.entries in
    let new : List Listed = next_entries old s.objects in
    let among : IsAmong (Some key) (Some at) new =
    subst (λ (q : Option ℕ). IsAmong (Some key) q new) after (among_after h s key d) in
    let rest : List NamedObject = objects_of (unedited (Some key) new) in
    let here : named_under new key ≡ new_object name bytes =
    same_inserted rest (objects_of old) at (named_under new key) (new_object name bytes)
    (below at (unedited (Some key) new) among.0) within (sym (here_at key at new among) ∙ made) in
    let none : names_found (find (has_name name) (objects_of old)) ≡ [] =
    ap names_found (any_none (has_name name) (objects_of old) unused) in
    let first : names_at s.objects.places.before old key ≡ [] =
    ap (λ (p : Option ℕ). names_at p old key) before in
    let previous : names_at s.objects.places.after new key ≡ names_found (find (has_name name) (objects_of new)) =
    ap (λ (p : Option ℕ). names_at p new key) after
    ∙ names_after one new key name at (d.once name) (ap (λ (o : NamedObject). o.name) here) among in
    ap (λ (l : List (List ℕ)). l ++ names_at s.objects.places.after new key) (first ∙ sym none)
    ∙ ap (λ (l : List (List ℕ)). names_found (find (has_name name) (objects_of old)) ++ l) previous

-- how many objects there are after an edit
many_replaced : (objects : List NamedObject) (o : NamedObject) (place : Option ℕ)
    → length (replaced objects o place) ≡ length objects
many_replaced objects o None = refl
many_replaced objects o (Some i) = length-set objects i o

many_moved : (objects : List NamedObject) (name : List ℕ) (to : ℕ) (place : Option ℕ)
    → place_of objects name ≡ place → nat_le (length objects) to ≡ false
    → length (moved objects to place) ≡ length objects
many_moved objects name to None e within = refl
many_moved objects name to (Some i) e within =
    let here : i < length objects = (position-Some (has_name name) objects i unnamed e).0 in
    let less : length (remove objects i) + 1 ≡ length objects = length-remove objects i here in
    let below_end : to < length objects = leb-false (length objects) to within in
    omega (
      arith,
      less,
      length-insert (remove objects i) to (get_or objects i unnamed) (omega (arith, less, below_end)),
    )

many_removed : (objects : List NamedObject) (name : List ℕ) (i : ℕ) → place_of objects name ≡ Some i
    → length (removed objects (place_of objects name)) + 1 ≡ length objects
many_removed objects name i e =
    ap (λ (p : Option ℕ). length (removed objects p) + 1) e
    ∙ length-remove objects i (position-Some (has_name name) objects i unnamed e).0

-- those of the definition
same_of : One → (h : ProjectState) (change : Change) (s : Staged) (key : ℕ) → IsEdit h s key
    → After (held h) change (Ok (project_of (next_listing h s))) → StandsAsNamed change h.contents s
    → names_of_step h.contents.entries s.objects (Some key)
    ≡ decided_by (held h) change (project_of (next_listing h s))
unfolding early_refusal
same_of one h (Add name at bytes) s key d after stands =
    let objects : List NamedObject = objects_of h.contents.entries in
    let unused : is_in_use objects name ≡ false = not_refused (is_in_use objects name) InUse _ after.0 in
    let rest = past_refusal (is_in_use objects name) InUse _ unused after.0 in
    let within : nat_lt (length objects) at ≡ false = not_refused (nat_lt (length objects) at) PastEnd _ rest in
    same_added one h s key at name bytes d stands.0.before stands.1 unused (ltb-false (length objects) at within)
    (ap (λ (p : Project). p.objects) after.1.1)
same_of one h (Replace name bytes) s key d after stands =
    let objects : List NamedObject = objects_of h.contents.entries in
    same_named one h s key name d stands
    (ap (λ (p : Project). length p.objects) after.1.1
    ∙ many_replaced objects (new_object name bytes) (place_of objects name))
same_of one h (Move name to) s key d after stands =
    let objects : List NamedObject = objects_of h.contents.entries in
    let known = not_refused (not (is_in_use objects name)) Unknown _ after.0 in
    let rest = past_refusal (not (is_in_use objects name)) Unknown _ known after.0 in
    let within : nat_le (length objects) to ≡ false = not_refused (nat_le (length objects) to) PastEnd _ rest in
    same_named one h s key name d stands
    (ap (λ (p : Project). length p.objects) after.1
    ∙ many_moved objects name to (place_of objects name) refl within)
same_of one h (Remove name) s key d after stands =
    let objects : List NamedObject = objects_of h.contents.entries in
    same_removed one h s key name d stands
    (ap (λ (p : Project). length p.objects + 1) after.1 ∙ many_removed objects name stands.place stands.is)
same_of one h (SetScript text) s key d after stands = absurd (cc)

-- of a script
abbrev pub AllNames : Type 0
AllNames = (objects : List NamedObject) (tables : List Table)
    → map (λ (t : Table). t.1) tables ≡ symbol_tables objects → declared_names tables ≡ names_in_objects objects

same_of_script : AllNames → (h : ProjectState) (s : Staged) → edited_key s.objects.step ≡ None
    → names_of_edit h.contents.entries s.objects ≡ names_in_objects (objects_of h.contents.entries)
same_of_script all h s none =
    ap (names_of_step h.contents.entries s.objects) none
    ∙ all (objects_of h.contents.entries) (tables_under h.contents.entries)
    (sym (tables_of_objects h.contents.entries))

-- what is decided is no more than what is touched
abbrev pub Few : Type 0
Few = (names more : List (List ℕ)) → length (distinct names) ≤ length (distinct (names ++ more))

as_many : (n : ℕ) → n ≤ n
as_many n = omega arith

few_decided : Few → (p : Project) (change : Change) (q : Project)
    → length (distinct (decided_by p change q)) ≤ length (touched_names p change q)
unfolding touched_names
few_decided few p (Add name at bytes) q = as_many (length (distinct (named_by p (Add name at bytes) q)))
few_decided few p (Replace name bytes) q = as_many (length (distinct (named_by p (Replace name bytes) q)))
few_decided few p (Move name to) q = as_many (length (distinct (named_by p (Move name to) q)))
few_decided few p (Remove name) q = few (names_of p name) (names_of q name)
few_decided few p (SetScript text) q =
    let once = few (names_in_objects p.objects) (names_by_script p) in
    let more = few (names_in_objects p.objects ++ names_by_script p) (names_by_script q) in
    omega (arith, once, more)

-- ---- the counts

capped_le : (n a : ℕ) → capped n a ≤ n + a
capped_le n a = omega arith

-- a count that rose by as much
pub rises_by : (n m by most : ℕ) → n < 2 ^ 64 → m ≡ capped n by → by ≤ most → Rises n m most
rises_by n m by most small e few = record { onward = omega (arith, small, e); within = omega (arith, e, few) }

pub decides : (m0 m1 m2 : Counts) (names : List (List ℕ)) → CountsNames m0 m1 names → ReadsNothing m1 m2
    → Decides m0 m2 names
decides m0 m1 m2 names h r = record {
  objects = r.objects ∙ ap (λ (m : Counts). m.objects) h;
  names = r.names ∙ ap (λ (m : Counts). m.names) h;
  pieces = (let same = ap (λ (m : Counts). m.pieces) h in omega (arith, same, r.pieces));
  fields = (let same = ap (λ (m : Counts). m.fields) h in omega (arith, same, r.fields));
  bytes = (let same = ap (λ (m : Counts). m.bytes) h in omega (arith, same, r.bytes));
}

-- objects are read, and nothing else is counted
pub record ReadsObjects (most : ℕ) (m0 m1 : Counts) : Type 0 where
  pub objects : m1.objects ≡ capped m0.objects most
  pub names : m1.names ≡ m0.names
  pub pieces : m1.pieces ≡ m0.pieces
  pub fields : m1.fields ≡ m0.fields
  pub bytes : m1.bytes ≡ m0.bytes

one_read : (m0 m1 : Counts) → m1 ≡ raised m0 counts.Objects 1 → ReadsObjects 1 m0 m1
one_read m0 m1 e = record {
  objects = ap (λ (m : Counts). m.objects) e;
  names = ap (λ (m : Counts). m.names) e;
  pieces = ap (λ (m : Counts). m.pieces) e;
  fields = ap (λ (m : Counts). m.fields) e;
  bytes = ap (λ (m : Counts). m.bytes) e;
}

none_read : (m0 m1 : Counts) → m0.objects < 2 ^ 64 → m1 ≡ m0 → ReadsObjects 0 m0 m1
none_read m0 m1 small e = record {
  objects = (let same = ap (λ (m : Counts). m.objects) e in omega (arith, small, same));
  names = ap (λ (m : Counts). m.names) e;
  pieces = ap (λ (m : Counts). m.pieces) e;
  fields = ap (λ (m : Counts). m.fields) e;
  bytes = ap (λ (m : Counts). m.bytes) e;
}

pub objects_of_edit : (change : Change) (m0 m1 : Counts) → m0.objects < 2 ^ 64 → ReadsOne change m0 m1
    → ReadsObjects (objects_read change) m0 m1
objects_of_edit (Add name at bytes) m0 m1 small h = one_read m0 m1 h
objects_of_edit (Replace name bytes) m0 m1 small h = one_read m0 m1 h
objects_of_edit (Move name to) m0 m1 small h = none_read m0 m1 small h
objects_of_edit (Remove name) m0 m1 small h = none_read m0 m1 small h
objects_of_edit (SetScript text) m0 m1 small h = none_read m0 m1 small h

-- where nothing follows
pub read_alone : (p : Project) (change : Change) (q : Project) (m0 m1 : Counts) → AreSmall m0
    → ReadsObjects (objects_read change) m0 m1 → IsReadingWork p change q m0 m1
read_alone p change q m0 m1 small r = record {
  objects = rises_by m0.objects m1.objects (objects_read change) (objects_read change) small.objects r.objects
      (omega arith);
  names = record { onward = omega (arith, r.names); within = omega (arith, r.names) };
  pieces = omega (arith, r.pieces);
  fields = omega (arith, r.fields);
  bytes = omega (arith, r.bytes);
}

-- the names that an edit has decided, each once, over what was read before them
pub decided_from : (p : Project) (change : Change) (q : Project) (m0 m1 m2 : Counts) (names : List (List ℕ))
    → ReadsObjects (objects_read change) m0 m1 → Decides m1 m2 names → names ≡ decided_by p change q
    → m2.names ≡ capped m0.names (length (distinct (decided_by p change q)))
decided_from p change q m0 m1 m2 names r decided same =
    decided.names
    ∙ ap (λ (n : ℕ). capped n (length (distinct names))) r.names
    ∙ ap (λ (l : List (List ℕ)). capped m0.names (length (distinct l))) same

pub is_work : (p : Project) (change : Change) (q : Project) (m0 m1 m2 : Counts) (names : List (List ℕ)) → AreSmall m0
    → ReadsObjects (objects_read change) m0 m1 → Decides m1 m2 names
    → m2.names ≡ capped m0.names (length (distinct (decided_by p change q))) → Few → IsReadingWork p change q m0 m2
is_work p change q m0 m1 m2 names small r decided exact few = record {
  objects = rises_by m0.objects m2.objects (objects_read change) (objects_read change) small.objects
      (decided.objects ∙ r.objects) (omega arith);
  names = rises_by m0.names m2.names (length (distinct (decided_by p change q)))
      (length (touched_names p change q)) small.names exact (few_decided few p change q);
  pieces = omega (arith, r.pieces, decided.pieces);
  fields = omega (arith, r.fields, decided.fields);
  bytes = omega (arith, r.bytes, decided.bytes);
}

-- what is known of a staged edit, whichever it is
some_key : (o : Option ℕ) → is_some o ≡ true → (key : ℕ) × (o ≡ Some key)
some_key None h = absurd (cc)
some_key (Some key) h = (key, refl)

pub same_touched : One → AllNames → (h : ProjectState) (change : Change) (s : Staged) → Fits h.contents s.objects
    → After (held h) change (Ok (project_of (next_listing h s))) → ChangesOneObject h.contents.entries s.objects
    → StandsAsNamed change h.contents s
    → KeysAreStable h.contents.entries (next_entries h.contents.entries s.objects)
    → names_of_edit h.contents.entries s.objects ≡ decided_by (held h) change (project_of (next_listing h s))
same_touched one all h (Add name at bytes) s fits after arranged stands stable =
    let key = some_key (edited_key s.objects.step) stands.0.touches in
    ap (names_of_step h.contents.entries s.objects) key.1
    ∙ same_of one h (Add name at bytes) s key.0
    (record { arranged = arranged; edited = key.1; once = fits.names; stable = stable }) after stands
same_touched one all h (Replace name bytes) s fits after arranged stands stable =
    let key = some_key (edited_key s.objects.step) stands.touching.touches in
    ap (names_of_step h.contents.entries s.objects) key.1
    ∙ same_of one h (Replace name bytes) s key.0
    (record { arranged = arranged; edited = key.1; once = fits.names; stable = stable }) after stands
same_touched one all h (Move name to) s fits after arranged stands stable =
    let key = some_key (edited_key s.objects.step) stands.touching.touches in
    ap (names_of_step h.contents.entries s.objects) key.1
    ∙ same_of one h (Move name to) s key.0
    (record { arranged = arranged; edited = key.1; once = fits.names; stable = stable }) after stands
same_touched one all h (Remove name) s fits after arranged stands stable =
    let key = some_key (edited_key s.objects.step) stands.touching.touches in
    ap (names_of_step h.contents.entries s.objects) key.1
    ∙ same_of one h (Remove name) s key.0
    (record { arranged = arranged; edited = key.1; once = fits.names; stable = stable }) after stands
same_touched one all h (SetScript text) s fits after arranged stands stable = same_of_script all h s stands
