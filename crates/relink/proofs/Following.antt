-- What is kept follows an edit, and goes back.
use Rattle.relink.proofs.Common.{AllZip, AreDecisionsOf, AreTablesOf, CanGo, ChangesOneObject, Contents, EditsOne}
use Rattle.relink.proofs.Common.{Global, IfSome, IsAmong, IsChange, IsMatched, List, Listed, Listing, Matches}
use Rattle.relink.proofs.Common.{NamedObject, NamedSymbol, None, ObjectAt, ObjectChange, Option, Project, ProjectState}
use Rattle.relink.proofs.Common.{SameHolding, Some, Staged, StagedObjects, Statement, SymbolTableState, Table, Vec, []}
use Rattle.relink.proofs.Common.{ap, arith, changed_tables, edited_key, found_under, held, is_some, keys_of, length}
use Rattle.relink.proofs.Common.{length-map, listing_of, map, next_entries, next_listing, objects_of, option_map_or}
use Rattle.relink.proofs.Common.{place_at, refl, reversed, subst, suc, sym, symbol_tables, tables_under, unedited}
use Rattle.relink.proofs.Common.{unwrap_or, ℕ, ◌∙◌, ◌∷◌, ◌≡◌, ◌≤◌}
use Rattle.relink.specs.Matches.{IsMatchedOr, Renews, exchanged, gone_at, taken_at}
use Rattle.relink.proofs.Exchanged.{MayStand, Stands, comes_some, exchanged_back, zip_put, zip_taken}
use Rattle.relink.proofs.Lists.{zip_length}

-- the tables under keys are those of the objects
pub tables_of_objects : (es : List Listed) → symbol_tables (objects_of es) ≡ map (λ (t : Table). t.1) (tables_under es)
tables_of_objects [] = refl
tables_of_objects (e ∷ es) = ap (λ (l : List (List NamedSymbol)). e.named.object.symbols ∷ l) (tables_of_objects es)

pub keys_of_tables : (es : List Listed) → map (λ (t : Table). t.0) (tables_under es) ≡ keys_of es
keys_of_tables [] = refl
keys_of_tables (e ∷ es) = ap (λ (l : List ℕ). e.key ∷ l) (keys_of_tables es)

-- an edit that touches an object leaves the script
same_script_of : (new : Option (List Statement)) (edited : Option ℕ) (key : ℕ) (old : List Statement)
    → IfSome new (λ _. edited ≡ None) → edited ≡ Some key → unwrap_or new old ≡ old
same_script_of None edited key old one e = refl
same_script_of (Some x) edited key old one e = absurd (cc)

pub same_script : (h : ProjectState) (s : Staged) (key : ℕ) → EditsOne s → edited_key s.objects.step ≡ Some key
    → (next_listing h s).script ≡ h.script
same_script h s key one e = same_script_of s.script (edited_key s.objects.step) key h.script one e

-- where the object stands among the matches, and where it may
stands_out : (ts : List Table) (key : ℕ) (x : Option ObjectAt) (ms : List Matches) → length ts ≡ length ms
    → CanGo ts key x
    → Stands ms (place_at x)
stands_out ts key None ms l g = tt
stands_out ts key (Some y) ms l g = omega (arith, l, g.within)

many_tables : (es : List Listed) → length (tables_under es) ≡ length (objects_of es)
many_tables [] = refl
many_tables (e ∷ es) = ap suc (many_tables es)

pub stands : (h : ProjectState) (s : Staged) (key : ℕ) (c : ObjectChange) (a : SymbolTableState) (ms : List Matches)
    → IsChange h.contents.entries s.objects key c → AreTablesOf (listing_of h) a ms → Stands ms (place_at c.out)
stands h s key c a ms is kept =
    stands_out (tables_under h.contents.entries) c.key.0 c.out ms
    (many_tables h.contents.entries
    ∙ zip_length (IsMatched h.script) (objects_of h.contents.entries) ms kept.matches)
    is.fits.out

-- the others, as many as the matches without what goes
among_long : (key : ℕ) (place : Option ℕ) (es : List Listed) (q : ℕ) → IsAmong (Some key) (Some q) es
    → q ≤ length (unedited (Some key) es)
among_long key place es q h = h.0

pub may_stand : (h : ProjectState) (s : Staged) (key : ℕ) (c : ObjectChange) (a : SymbolTableState) (ms : List Matches)
    → ChangesOneObject h.contents.entries s.objects → edited_key s.objects.step ≡ Some key
    → IsChange h.contents.entries s.objects key c → AreTablesOf (listing_of h) a ms
    → MayStand ms (place_at c.out) (place_at c.into)
may_stand h s key c a ms arranged edited is kept =
    subst (λ (q : Option ℕ). MayStand ms (place_at c.out) q) (sym is.after)
    (stand_at s.objects.places.after
    (subst (λ (t : Option ℕ). IsAmong t s.objects.places.after next) edited arranged.after))
  where
    next : List Listed
    next = next_entries h.contents.entries s.objects

    entries : List Listed
    entries = h.contents.entries

    others : unedited (Some key) next ≡ unedited (Some key) entries
    others = subst (λ (t : Option ℕ). unedited t next ≡ unedited t entries) edited arranged.others

    taken : AllZip (IsMatched h.script) (objects_of (unedited (Some key) entries)) (taken_at ms (place_at c.out))
    taken =
        subst (λ (p : Option ℕ). AllZip (IsMatched h.script) (objects_of (unedited (Some key) entries))
        (taken_at ms p))
        (sym is.before)
        (zip_taken h.script key s.objects.places.before entries ms
        (subst (λ (t : Option ℕ). IsAmong t s.objects.places.before entries) edited arranged.before) kept.matches)

    stand_at : (q : Option ℕ) → IsAmong (Some key) q next → MayStand ms (place_at c.out) q
    stand_at None i = tt
    stand_at (Some q) i =
        omega (
          arith,
          i.0,
          ap (λ (l : List Listed). length l) others,
          length-map (unedited (Some key) entries) (λ (e : Listed). e.named),
          zip_length (IsMatched h.script) (objects_of (unedited (Some key) entries)) (taken_at ms (place_at c.out))
              taken,
        )

-- what is kept after an edit of an object
pub kept_after : (h : ProjectState) (s : Staged) (key : ℕ) (c : ObjectChange) (a b : SymbolTableState)
    (ms : List Matches)
    (coming : Option Matches) → ChangesOneObject h.contents.entries s.objects → EditsOne s
    → edited_key s.objects.step ≡ Some key → IsChange h.contents.entries s.objects key c
    → AreTablesOf (listing_of h) a ms
    → b.kept.names.objects ≡ changed_tables a.kept.names.objects c → AreDecisionsOf (next_listing h s).script b.kept
    → IsMatchedOr (next_listing h s).script (found_under (next_entries h.contents.entries s.objects) key) coming
    → AreTablesOf (next_listing h s) b (exchanged ms (place_at c.out) (place_at c.into) coming)
kept_after h s key c a b ms coming arranged one edited is kept objects names comes =
    let entries : List Listed = h.contents.entries in
    let next : List Listed = next_entries entries s.objects in
    let script : List Statement = (next_listing h s).script in
    let old : AllZip (IsMatched script) (objects_of entries) ms =
    subst (λ (t : List Statement). AllZip (IsMatched t) (objects_of entries) ms) (sym (same_script h s key one edited))
    kept.matches in
    let taken = zip_taken script key s.objects.places.before entries ms
    (subst (λ (t : Option ℕ). IsAmong t s.objects.places.before entries) edited arranged.before) old in
    let others : unedited (Some key) next ≡ unedited (Some key) entries =
    subst (λ (t : Option ℕ). unedited t next ≡ unedited t entries) edited arranged.others in
    let put = zip_put script key s.objects.places.after next (taken_at ms s.objects.places.before) coming
    (subst (λ (t : Option ℕ). IsAmong t s.objects.places.after next) edited arranged.after) is.there comes
    (subst (λ (l : List Listed). AllZip (IsMatched script) (objects_of l) (taken_at ms s.objects.places.before))
    (sym others) taken) in
    record {
      tables = objects ∙ (ap (λ (ts : List Table). changed_tables ts c) kept.tables ∙ is.tables);
      names = names;
      matches = subst (λ (p : Option ℕ). AllZip (IsMatched script) (objects_of next) (exchanged ms p (place_at c.into)
          coming)) (sym is.before)
          (subst (λ (q : Option ℕ). AllZip (IsMatched script) (objects_of next)
          (exchanged ms s.objects.places.before q coming)) (sym is.after) put);
    }

-- a place for what comes, and what comes
pub both_come : (h : ProjectState) (s : Staged) (key : ℕ) (c : ObjectChange) (coming : Option Matches)
    → IsChange h.contents.entries s.objects key c
    → IsMatchedOr (next_listing h s).script (found_under (next_entries h.contents.entries s.objects) key) coming
    → is_some (place_at c.into) ≡ is_some coming
both_come h s key c coming is comes =
    ap is_some is.after
    ∙ (is.there
    ∙ comes_some (next_listing h s).script (found_under (next_entries h.contents.entries s.objects) key) coming comes)

-- what comes, said of the next listing
pub coming_of : (h : ProjectState) (s : Staged) (key : ℕ) (l : Listing) (c : ObjectChange) (coming : Option Matches)
    → l ≡ next_listing h s → c.key.0 ≡ key → IsMatchedOr l.script (found_under l.entries c.key.0) coming
    → IsMatchedOr (next_listing h s).script (found_under (next_entries h.contents.entries s.objects) key) coming
coming_of h s key l c coming same is m =
    subst (λ (k : ℕ). IsMatchedOr (next_listing h s).script (found_under (next_listing h s).entries k) coming) is
    (subst (λ (x : Listing). IsMatchedOr x.script (found_under x.entries c.key.0) coming) same m)

-- what is kept after the change back
pub kept_back : (h : ProjectState) (s : Staged) (key : ℕ) (c : ObjectChange) (a b d : SymbolTableState)
    (ms previous : List
    Matches)
    (coming : Option Matches) → ChangesOneObject h.contents.entries s.objects → edited_key s.objects.step ≡ Some key
    → IsChange h.contents.entries s.objects key c → AreTablesOf (listing_of h) a ms
    → b.kept.names.objects ≡ changed_tables a.kept.names.objects c
    → d.kept.names.objects ≡ changed_tables b.kept.names.objects (reversed c) → AreDecisionsOf h.script d.kept
    → IsMatchedOr (next_listing h s).script (found_under (next_entries h.contents.entries s.objects) key) coming
    → previous ≡ exchanged (exchanged ms (place_at c.out) (place_at c.into) coming) (place_at c.into) (place_at c.out)
    (gone_at ms (place_at c.out)) → AreTablesOf (listing_of h) d previous
kept_back h s key c a b d ms previous coming arranged edited is kept forth back names comes put =
    let entries : List Listed = h.contents.entries in
    let next : List Listed = next_entries entries s.objects in
    let both = both_come h s key c coming is comes in
    record {
      tables = back
          ∙ (ap (λ (ts : List Table). changed_tables ts (reversed c))
          (forth ∙ (ap (λ (ts : List Table). changed_tables ts c) kept.tables ∙ is.tables))
          ∙ is.back);
      names = names;
      matches = subst (λ (l : List Matches). AllZip (IsMatched h.script) (objects_of entries) l)
          (sym (put ∙ exchanged_back ms (place_at c.out) (place_at c.into) coming (stands h s key c a ms is kept)
          (may_stand h s key c a ms arranged edited is kept) both))
          kept.matches;
    }

-- an edit that touches no object leaves the entries
filter_all : (es : List Listed) → unedited None es ≡ es
filter_all [] = refl
filter_all (e ∷ es) = ap (λ (l : List Listed). e ∷ l) (filter_all es)

pub entries_stay : (entries : List Listed) (s : StagedObjects) → ChangesOneObject entries s → edited_key s.step ≡ None
    → next_entries entries s ≡ entries
entries_stay entries s arranged edited =
    let next : List Listed = next_entries entries s in
    sym (filter_all next)
    ∙ (subst (λ (t : Option ℕ). unedited t next ≡ unedited t entries) edited arranged.others ∙ filter_all entries)

-- matches under one script are matches under another, where each is
zip_under : (one other : List Statement)
    → ((object : NamedObject) (x : Matches) → IsMatched one object x → IsMatched other object x)
    → (objects : List NamedObject) (ms : List Matches)
    → AllZip (IsMatched one) objects ms → AllZip (IsMatched other) objects ms
zip_under one other under [] [] zip = zip
zip_under one other under [] (m ∷ ms) zip = zip
zip_under one other under (o ∷ os) [] zip = zip
zip_under one other under (o ∷ os) (m ∷ ms) zip = (under o m zip.0, zip_under one other under os ms zip.1)

-- the matches for the next script: new ones, or those that were there
pub matches_renewed : (h : ProjectState) (s : Staged) (ms : List Matches) (found : Option (Vec Matches Global))
    → ChangesOneObject h.contents.entries s.objects → edited_key s.objects.step ≡ None
    → AllZip (IsMatched h.script) (objects_of h.contents.entries) ms → Renews h.script (next_listing h s) found
    → AllZip (IsMatched (next_listing h s).script) (objects_of (next_listing h s).entries)
    (option_map_or (λ all. all.items) found ms)
matches_renewed h s ms None arranged edited kept under =
    subst (λ (es : List Listed). AllZip (IsMatched (next_listing h s).script) (objects_of es) ms)
    (sym (entries_stay h.contents.entries s.objects arranged edited))
    (zip_under h.script (next_listing h s).script under (objects_of h.contents.entries) ms kept)
matches_renewed h s ms (Some all) arranged edited kept matched = matched

-- what is kept after an edit of the script
pub kept_scripted : (h : ProjectState) (s : Staged) (a b : SymbolTableState) (ms all : List Matches)
    → ChangesOneObject h.contents.entries s.objects → edited_key s.objects.step ≡ None → AreTablesOf (listing_of h) a ms
    → b.kept.names ≡ a.kept.names → AreDecisionsOf (next_listing h s).script b.kept
    → AllZip (IsMatched (next_listing h s).script) (objects_of (next_listing h s).entries) all
    → AreTablesOf (next_listing h s) b all
kept_scripted h s a b ms all arranged edited kept same names matched = record {
  tables = ap (λ n. n.objects) same
      ∙ (kept.tables ∙ ap tables_under (sym (entries_stay h.contents.entries s.objects arranged edited)));
  names = names;
  matches = matched;
}

-- what is kept after an edit of the script, with the matches for the next one
pub kept_renewed : (h : ProjectState) (s : Staged) (l : Listing) (script : List Statement) (a b : SymbolTableState)
    (ms now : List Matches) (found : Option (Vec Matches Global))
    → ChangesOneObject h.contents.entries s.objects → edited_key s.objects.step ≡ None → AreTablesOf (listing_of h) a ms
    → l ≡ next_listing h s → script ≡ h.script → Renews script l found → b.kept.names ≡ a.kept.names
    → AreDecisionsOf (next_listing h s).script b.kept → now ≡ option_map_or (λ all. all.items) found ms
    → AreTablesOf (next_listing h s) b now
kept_renewed h s l script a b ms now found arranged edited kept next before renews same names is =
    let renewed : Renews h.script (next_listing h s) found =
    subst (λ (x : Listing). Renews h.script x found) next
    (subst (λ (t : List Statement). Renews t l found) before renews) in
    subst (λ (x : List Matches). AreTablesOf (next_listing h s) b x) (sym is)
    (kept_scripted h s a b ms (option_map_or (λ all. all.items) found ms) arranged edited kept same names
    (matches_renewed h s ms found arranged edited kept.matches renewed))

-- what is kept of no objects
no_entries : (es : List Listed) → objects_of es ≡ [] → es ≡ []
no_entries [] h = refl
no_entries (e ∷ es) h = absurd (cc)

pub tables_of_empty : (l : Listing) (a : SymbolTableState) → objects_of l.entries ≡ [] → a.kept.names.objects ≡ []
    → AreDecisionsOf l.script a.kept → AreTablesOf l a []
tables_of_empty l a none objects names = record {
  tables = objects ∙ ap tables_under (sym (no_entries l.entries none));
  names = names;
  matches = subst (λ (os : List NamedObject). AllZip (IsMatched l.script) os []) (sym none) tt;
}

-- what more room leaves
pub same_held : (old new : ProjectState) → SameHolding old new → held new ≡ held old
same_held old new same =
    let project : List Listed → ProjectState → Project =
    λ es h. record { objects = objects_of es; script = h.script; options = h.options } in
    ap (λ (es : List Listed). project es new) (ap (λ (c : Contents). c.entries) same.contents.same)
    ∙ ap (project old.contents.entries) same.rest

-- names that no object declares may be forgotten
pub kept_forgetting : (l : Listing) (a b : SymbolTableState) (ms : List Matches)
    → b.kept.names.objects ≡ a.kept.names.objects
    → ((script : List Statement) → AreDecisionsOf script a.kept → AreDecisionsOf script b.kept) → AreTablesOf l a ms
    → AreTablesOf l b ms
kept_forgetting l a b ms same names kept = record {
  tables = same ∙ kept.tables;
  names = names l.script kept.names;
  matches = kept.matches;
}
