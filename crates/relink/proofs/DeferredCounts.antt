-- How much an edit of a deferred session counts, and then the link of it.
use Rattle.relink.proofs.Common.{Bool, Change, Counts, CountsNames, Deferred, Link, LinkOutcome, LinkTables, List, None}
use Rattle.relink.proofs.Common.{Option, Project, ProjectState, ReadsNothing, Rises, Some, Staged, Statement, ap, arith}
use Rattle.relink.proofs.Common.{false, held, inl, inr, is_none, is_some, length, link, names_of_edit, next_listing}
use Rattle.relink.proofs.Common.{objects_read, project_of, refl, shown, subst, sym, true, ℕ, ◌∙◌, ◌≡◌}
use Rattle.ldmodel.specs.Edits.{Add, Move, Remove, Replace, SetScript}
use Rattle.ldmodel.specs.SessionWork.{touched_names}
use Rattle.relink.specs.Deferred.{IsOnlyEdit, IsSeenAs, edit_since, is_linked_since, keeps_script, staged_listing}
use Rattle.relink.specs.DeferredWork.{IsLinkingWork, IsStagingWork}
use Rattle.relink.specs.Work.{AreSmall, Decides, HasPlacedWork, IsReadingWork, IsWholeWork, LinksNothing, decided_by}
use Rattle.relink.proofs.Bounding.{LeavesScript, names_link_nothing, objects_link_nothing, stays_put, whole_from}
use Rattle.relink.proofs.Working.{Few, ReadsObjects, decided_from, decides, is_work, read_alone}

-- ---- what is known since the last link

pub linked_parts : (is_linked : Bool) (tables : Option LinkTables) (staged : Option Staged)
    → is_linked_since is_linked tables staged ≡ true
    → (is_linked ≡ true) × (is_some tables ≡ true) × (staged ≡ None)
linked_parts true (Some t) None h = (refl, refl, refl)
linked_parts true (Some t) (Some s) h = absurd (cc)
linked_parts true None staged h = absurd (cc)
linked_parts false tables staged h = absurd (cc)

pub still_linked : (is_linked : Bool) (tables : Option LinkTables) (staged : Option Staged) → is_linked ≡ true
    → is_some tables ≡ true → staged ≡ None → is_linked_since is_linked tables staged ≡ true
still_linked true (Some t) None b t_is s_is = refl
still_linked true (Some t) (Some s) b t_is s_is = absurd (cc)
still_linked true None staged b t_is s_is = absurd (cc)
still_linked false tables staged b t_is s_is = absurd (cc)

pub never_linked : (is_linked : Bool) (tables : Option LinkTables) (now : Option Staged) (s : Staged) → now ≡ Some s
    → is_linked_since is_linked tables now ≡ true → ⊥
never_linked is_linked tables now s is h =
    let parts = linked_parts is_linked tables now h in
    let both : None ≡ Some s = sym parts.2 ∙ is in
    cc

-- what an edit sees, where the last link is of the project
seen_link : (is_linked : Bool) (bytes : List ℕ) (o seen : LinkOutcome) (l : Link) → is_linked ≡ true
    → IsSeenAs is_linked o seen → shown bytes o ≡ l → shown bytes seen ≡ l
seen_link true bytes o seen l b like is = ap (shown bytes) like ∙ is
seen_link false bytes o seen l b like is = absurd (cc)

none_is : (o : Option (List Statement)) → is_none o ≡ true → o ≡ None
none_is None h = refl
none_is (Some x) h = absurd (cc)

-- an edit of the objects leaves the script
script_stays : (change : Change) (s : Staged) → LeavesScript change s → keeps_script change ≡ true
    → is_none s.script ≡ true
script_stays (Add name at bytes) s leaves keeps = ap is_none leaves
script_stays (Replace name bytes) s leaves keeps = ap is_none leaves
script_stays (Move name to) s leaves keeps = ap is_none leaves
script_stays (Remove name) s leaves keeps = ap is_none leaves
script_stays (SetScript text) s leaves keeps = absurd (cc)

pub leaves_if : (change : Change) (s : Staged) → (keeps_script change ≡ true → s.script ≡ None)
    → LeavesScript change s
leaves_if (Add name at bytes) s stays = stays refl
leaves_if (Replace name bytes) s stays = stays refl
leaves_if (Move name to) s stays = stays refl
leaves_if (Remove name) s stays = stays refl
leaves_if (SetScript text) s stays = tt

pub only_parts : (is_linked : Bool) (h : ProjectState) (tables : Option LinkTables) (s : Staged) (p : Project)
    (change : Change) → IsOnlyEdit p change (edit_since is_linked h tables (Some s))
    → (is_linked ≡ true) × (is_some tables ≡ true) × (held h ≡ p) × (keeps_script change ≡ true → s.script ≡ None)
only_parts true h (Some t) s p change only = (refl, refl, only.0, λ keeps. none_is s.script (only.1 keeps))
only_parts true h None s p change only = absurd only
only_parts false h tables s p change only = absurd only

-- ---- an edit right after a link

-- nothing is counted
pub nothing_counted : (m : Counts) → ReadsNothing m m
nothing_counted m = record {
  objects = refl;
  names = refl;
  pieces = omega arith;
  fields = omega arith;
  bytes = omega arith;
}

pub then_none : (m0 m1 m2 : Counts) → LinksNothing m0 m1 → LinksNothing m1 m2 → LinksNothing m0 m2
then_none m0 m1 m2 a b = record {
  pieces = b.pieces ∙ a.pieces;
  fields = b.fields ∙ a.fields;
  bytes = b.bytes ∙ a.bytes;
}

-- whose names are resolved
resolved_here : (h : ProjectState) (s : Staged) (change : Change) (is_linked : Bool) (tables : Option LinkTables)
    (last : Link) (m0 m1 m2 : Counts) → is_linked ≡ true → is_some tables ≡ true → AreSmall m0
    → ReadsObjects (objects_read change) m0 m1 → CountsNames m1 m2 (names_of_edit h.contents.entries s.objects)
    → names_of_edit h.contents.entries s.objects ≡ decided_by (held h) change (project_of (next_listing h s)) → Few
    → LeavesScript change s
    → IsStagingWork (held h) change (record {
      project = project_of (next_listing h s);
      last = last;
      is_linked = is_linked_since is_linked tables (Some s);
      is_resolved = is_some tables;
      edited = edit_since is_linked h tables (Some s);
    }) m0 m2
resolved_here h s change true (Some t) last m0 m1 m2 b some small read counted same few leaves =
    let p : Project = held h in
    let q : Project = project_of (next_listing h s) in
    let names : List (List ℕ) = names_of_edit h.contents.entries s.objects in
    let decided : Decides m1 m2 names = decides m1 m2 m2 names counted (nothing_counted m2) in
    let exact : _ = decided_from p change q m0 m1 m2 names read decided same in
    record {
      reading = is_work p change q m0 m1 m2 names small read decided exact few;
      none = then_none m0 m1 m2 (objects_link_nothing (objects_read change) m0 m1 read)
          (names_link_nothing m1 m2 names counted);
      made = inr (record {
        edited = (refl, script_stays change s leaves);
        resolved = refl;
        objects = decided.objects ∙ read.objects;
        names = exact;
      });
    }
resolved_here h s change true None last m0 m1 m2 b some small read counted same few leaves = absurd (cc)
resolved_here h s change false tables last m0 m1 m2 b some small read counted same few leaves = absurd (cc)

pub resolved_work : (h : ProjectState) (s : Staged) (change : Change) (is_linked : Bool) (tables : Option LinkTables)
    (last : Link) (p : Project) (m0 m1 m2 : Counts) → held h ≡ p → is_linked ≡ true → is_some tables ≡ true
    → AreSmall m0 → ReadsObjects (objects_read change) m0 m1
    → CountsNames m1 m2 (names_of_edit h.contents.entries s.objects)
    → names_of_edit h.contents.entries s.objects ≡ decided_by (held h) change (project_of (next_listing h s)) → Few
    → LeavesScript change s
    → IsStagingWork p change (record {
      project = project_of (next_listing h s);
      last = last;
      is_linked = is_linked_since is_linked tables (Some s);
      is_resolved = is_some tables;
      edited = edit_since is_linked h tables (Some s);
    }) m0 m2
resolved_work h s change is_linked tables last p m0 m1 m2 is b some small read counted same few leaves =
    subst (λ (q : Project). IsStagingWork q change (record {
      project = project_of (next_listing h s);
      last = last;
      is_linked = is_linked_since is_linked tables (Some s);
      is_resolved = is_some tables;
      edited = edit_since is_linked h tables (Some s);
    }) m0 m2) is
    (resolved_here h s change is_linked tables last m0 m1 m2 b some small read counted same few leaves)

-- that leads to the project that is there
pub unchanged_staging : (p : Project) (change : Change) (next : Deferred) (m0 m1 : Counts) → AreSmall m0
    → ReadsObjects (objects_read change) m0 m1 → next.project ≡ p → next.is_linked ≡ true
    → IsStagingWork p change next m0 m1
unchanged_staging p change next m0 m1 small read same linked = record {
  reading = read_alone p change next.project m0 m1 small read;
  none = objects_link_nothing (objects_read change) m0 m1 read;
  made = inl (same, linked);
}

-- ---- with the link of it

alone : (p : Project) (change : Change) (q : Project) (m0 m1 : Counts) → IsReadingWork p change q m0 m1
    → LinksNothing m0 m1 → q ≡ p → IsWholeWork p change q m0 m1
alone p change q m0 m1 reading none same = (
  reading,
  (λ s t zero zero_too laid laid_too. record {
    objects = reading.objects;
    names = reading.names;
    pieces = stays_put m0.pieces m1.pieces _ none.pieces;
    relocations = stays_put m0.fields m1.fields _ none.fields;
    bytes = stays_put m0.bytes m1.bytes _ none.bytes;
  }),
  (λ s t zero zero_too laid laid_too. inl same),
)

reading_on : (p : Project) (change : Change) (q : Project) (m0 m1 m2 : Counts) → IsReadingWork p change q m0 m1
    → ReadsNothing m1 m2 → IsReadingWork p change q m0 m2
reading_on p change q m0 m1 m2 r more = record {
  objects = subst (λ (n : ℕ). Rises m0.objects n (objects_read change)) (sym more.objects) r.objects;
  names = subst (λ (n : ℕ). Rises m0.names n (length (touched_names p change q))) (sym more.names) r.names;
  pieces = omega (arith, r.pieces, more.pieces);
  fields = omega (arith, r.fields, more.fields);
  bytes = omega (arith, r.bytes, more.bytes);
}

pub staged_and_linked : (p : Project) (change : Change) (next : Deferred) (m0 m1 m2 : Counts)
    → IsStagingWork p change next m0 m1 → IsLinkingWork next m1 m2 → IsWholeWork p change next.project m0 m2
staged_and_linked p change next m0 m1 m2 staged linked =
    elim staged.made [
      | inl same ↦
          subst (λ (m : Counts). IsWholeWork p change next.project m0 m) (sym (linked.unchanged same.1))
          (alone p change next.project m0 m1 staged.reading staged.none same.0)
      | inr resolved ↦
          let reads : ReadsNothing m1 m2 = linked.reads resolved.resolved in
          whole_from p change next.project m0 m1 m2 staged.none (linked.placed p change resolved.edited)
          (reads.objects ∙ resolved.objects) (reads.names ∙ resolved.names)
          (reading_on p change next.project m0 m1 m2 staged.reading reads)
    ]

-- ---- a link

-- of the staged edit
pub linking_work : (h : ProjectState) (is_linked : Bool) (tables : Option LinkTables) (now : Option Staged) (s : Staged)
    (bytes : List ℕ) (o seen : LinkOutcome) (d : Deferred) (m0 m1 : Counts) → now ≡ Some s
    → d.is_linked ≡ is_linked_since is_linked tables now → d.is_resolved ≡ is_some tables
    → d.edited ≡ edit_since is_linked h tables now
    → project_of (staged_listing h now) ≡ d.project → IsSeenAs is_linked o seen
    → (is_linked ≡ true → shown bytes o ≡ link (held h))
    → (is_some tables ≡ true → ReadsNothing m0 m1)
    → (is_some tables ≡ true → (change : Change) → (keeps_script change ≡ true → s.script ≡ None)
    → shown bytes seen ≡ link (held h)
    → HasPlacedWork (held h) change (project_of (next_listing h s)) m0 m1)
    → IsLinkingWork d m0 m1
linking_work h is_linked tables now s bytes o seen d m0 m1 is linked resolved edited shows like answers reads counted =
    record {
      unchanged = λ yes. absurd (never_linked is_linked tables now s is (sym linked ∙ yes));
      reads = λ yes. reads (sym resolved ∙ yes);
      placed = λ p change only.
          subst (λ (q : Project). HasPlacedWork p change q m0 m1)
          (sym (ap (λ (n : Option Staged). project_of (staged_listing h n)) is) ∙ shows) (placed p change only);
    }
  where
    placed : (p : Project) (change : Change) → IsOnlyEdit p change d.edited
        → HasPlacedWork p change (project_of (next_listing h s)) m0 m1
    placed p change only =
        let parts = only_parts is_linked h tables s p change
        (subst (IsOnlyEdit p change) (edited ∙ ap (edit_since is_linked h tables) is) only) in
        subst (λ (q : Project). HasPlacedWork q change (project_of (next_listing h s)) m0 m1)
        parts.2
        (counted parts.1 change parts.3
        (seen_link is_linked bytes o seen (link (held h)) parts.0 like (answers parts.0)))
