-- How much an edit between two links without faults counts.
use Rattle.relink.proofs.Common.{Bool, Change, Counts, CountsNames, EditEffect, EditsOne, Err, Faulty, Good, GoodLink}
use Rattle.relink.proofs.Common.{HasUpdateOutcome, IfSome, IsAnswered, IsEffect, IsPreviousLink, IsPreviousOf, Link}
use Rattle.relink.proofs.Common.{LinkOutcome, List, Listing, None, Ok, Option, PreviousLink, PreviousState, Project}
use Rattle.relink.proofs.Common.{ProjectState, RewrittenInPlace, Rises, Some, Staged, StandsAsNamed, Statement}
use Rattle.relink.proofs.Common.{UpdateOutcome, [], ap, arith, capped, distinct, edited_key, false, held, if◌then◌else◌}
use Rattle.relink.proofs.Common.{inl, inr, is_good, is_some, layout, length, lent, link, listing_of, max_image_length}
use Rattle.relink.proofs.Common.{nat_lt, next_listing, next_view, objects_read, of_length, origin_of, project_of, refl}
use Rattle.relink.proofs.Common.{shown, subst, sym, take, true, ℕ, ◌&&◌, ◌<◌, ◌^◌, ◌∙◌, ◌∷◌, ◌≡◌, ◌≤◌}
use Rattle.relink_driver.specs.Resume.{AreSameBefore, IsFirstChanged, IsNext}
use Rattle.ldmodel.specs.Edits.{Add, Move, Remove, Replace, SetScript}
use Rattle.ldmodel.specs.Fault.{Fault, ImageTooLong}
use Rattle.ldmodel.specs.Layout.{Layout}
use Rattle.ldmodel.specs.Rows.{rows}
use Rattle.ldmodel.specs.SectionHeaders.{image_length}
use Rattle.ldmodel.specs.SessionWork.{bytes_to_write, entries_from, entries_to_place, first_changed, sites_to_evaluate}
use Rattle.relink_driver.specs.Counted.{IsImageCount}
use Rattle.relink_driver.specs.Worked.{IsLinkWork, IsWorkBeside}
use Rattle.relink.specs.Work.{AreSmall, HasPlacedWork, HasWorked, IsPlacedWork, IsReadingWork, IsWholeWork}
use Rattle.relink.specs.Work.{LinksNothing, decided_by}
use Rattle.relink.specs.declared.outcome.LinkOutcome.TheVariants as outcome
use Rattle.relink.proofs.Lending.{IsFollowing, from_edit, is_last_of, none_of_last}
use Rattle.relink.proofs.Succession.{is_next}
use Rattle.relink.proofs.FirstChanged.{fewer, same_before}
use Rattle.relink.proofs.Working.{ReadsObjects, read_alone, rises_by}

-- ---- the counts of a link

pub names_link_nothing : (m0 m1 : Counts) (names : List (List ℕ)) → CountsNames m0 m1 names → LinksNothing m0 m1
names_link_nothing m0 m1 names h = record {
  pieces = ap (λ (m : Counts). m.pieces) h;
  fields = ap (λ (m : Counts). m.fields) h;
  bytes = ap (λ (m : Counts). m.bytes) h;
}

pub objects_link_nothing : (n : ℕ) (m0 m1 : Counts) → ReadsObjects n m0 m1 → LinksNothing m0 m1
objects_link_nothing n m0 m1 r = record { pieces = r.pieces; fields = r.fields; bytes = r.bytes }

-- what is counted before it is no part of it
image_from : (old new : GoodLink) (m0 m1 m2 : Counts) → LinksNothing m0 m1 → IsImageCount old new m1 m2
    → IsImageCount old new m0 m2
image_from old new m0 m1 m2 none i = record {
  relocations = i.relocations ∙ ap (λ (n : ℕ). capped n (sites_to_evaluate old new)) none.fields;
  written = i.written;
  bytes = i.bytes ∙ ap (λ (n : ℕ). capped n i.written) none.bytes;
  few = i.few;
  exactly = i.exactly;
}

pub link_work_from : (old new : GoodLink) (x : PreviousState) (m0 m1 m2 : Counts) → LinksNothing m0 m1
    → IsLinkWork old new x m1 m2 → IsLinkWork old new x m0 m2
link_work_from old new x m0 m1 m2 none w = record {
  first = w.first;
  pieces = w.pieces ∙ ap (λ (n : ℕ). capped n (entries_from w.first (rows new.project))) none.pieces;
  same = w.same;
  changed = w.changed;
  anew = w.anew;
  image = image_from old new m0 m1 m2 none w.image;
}

pub worked_from : (p : Project) (previous : Option PreviousState) (m0 m1 m2 : Counts) (f : UpdateOutcome)
    → LinksNothing m0 m1
    → HasWorked p previous m1 m2 f → HasWorked p previous m0 m2 f
worked_from p previous m0 m1 m2 (Faulty t) none w = tt
worked_from p previous m0 m1 m2 (Good x m) none w = (
  λ old y s is of_new laid.
      link_work_from old (record { project = p; layout = s }) y m0 m1 m2 none (w.0 old y s is of_new laid),
  w.1,
)
worked_from p previous m0 m1 m2 (RewrittenInPlace v) none w = λ old y s is of_new laid.
    link_work_from old (record { project = p; layout = s }) y m0 m1 m2 none (w old y s is of_new laid)

-- ---- the link that is kept

ok_of : (b : Bool) (e : List Fault) (s t : Layout) → (if b then Err e else Ok s) ≡ Ok t → s ≡ t
ok_of true e s t h = absurd (cc)
ok_of false e s t h = cc

-- its layout is that of its project
known_layout : (p : Project) (s t : Layout) → layout p ≡ of_length (image_length p s) s → layout p ≡ Ok t → s ≡ t
known_layout p s t is laid =
    ok_of (nat_lt max_image_length (image_length p s)) (ImageTooLong (image_length p s) ∷ []) s t (sym is ∙ laid)

pub current_is : (l : Listing) (bytes : List ℕ) (x : PreviousLink) (p : Project) (s : Layout) (c : IsAnswered l bytes x)
    → project_of l ≡ p → layout p ≡ Ok s → c.kept.old ≡ (let g : GoodLink = record { project = p; layout = s } in g)
current_is l bytes x p s c is laid =
    let link_of : Project → Layout → GoodLink = λ q t. record { project = q; layout = t } in
    let same : c.kept.old.project ≡ p = c.project ∙ is in
    let layout_is : c.kept.old.layout ≡ s =
    known_layout c.kept.old.project c.kept.old.layout s c.kept.table.indexed_layout.link_layout.layout (ap layout same
    ∙ laid) in
    ap (λ (q : Project). link_of q c.kept.old.layout) same ∙ ap (link_of p) layout_is

-- ---- an edit that leads to the same project

-- a count that stayed
pub stays_put : (n m most : ℕ) → m ≡ n → Rises n m most
stays_put n m most e = record { onward = omega (arith, e); within = omega (arith, e) }

not_zero : (bytes : List ℕ) (t : LinkOutcome) (k : Link) → is_good t ≡ false → shown bytes t ≡ k → k.status ≡ 0 → ⊥
not_zero bytes (outcome.Good m) k bad is zero = absurd (cc)
not_zero bytes (outcome.Faulty t) k bad is zero =
    let one : 1 ≡ 0 = ap (λ (l : Link). l.status) is ∙ zero in
    absurd (omega (arith, one))

pub unchanged_work : (l : Listing) (bytes : List ℕ) (a : LinkOutcome) (previous : Option PreviousLink) (p q : Project)
    (change : Change) (m0 m1 : Counts) → project_of l ≡ p → q ≡ p → AreSmall m0
    → ReadsObjects (objects_read change) m0 m1 → shown bytes a ≡ link p → IsPreviousLink l bytes a previous
    → IsWholeWork p change q m0 m1
unchanged_work l bytes a previous p q change m0 m1 is same small read answers kept = (
  reading,
  (λ s t zero zero_too laid laid_too. record {
    objects = reading.objects;
    names = reading.names;
    pieces = stays_put m0.pieces m1.pieces _ read.pieces;
    relocations = stays_put m0.fields m1.fields _ read.fields;
    bytes = stays_put m0.bytes m1.bytes _ read.bytes;
  }),
  (λ s t zero zero_too laid laid_too. inl same),
)
  where
    reading : IsReadingWork p change q m0 m1
    reading = read_alone p change q m0 m1 small read

-- ---- an edit that is linked over the previous link

no_script : (o : Option (List Statement)) (t : Option ℕ) → IfSome o (λ _. t ≡ None) → is_some t ≡ true → o ≡ None
no_script None t one some = refl
no_script (Some x) t one some =
    let none : false ≡ true = sym (ap is_some one) ∙ some in
    absurd (cc)

-- an edit of the objects leaves the script
abbrev pub LeavesScript : Change → Staged → Type 0
LeavesScript (Add name at bytes) s = s.script ≡ None
LeavesScript (Replace name bytes) s = s.script ≡ None
LeavesScript (Move name to) s = s.script ≡ None
LeavesScript (Remove name) s = s.script ≡ None
LeavesScript (SetScript text) s = Unit {0}

pub leaves_script : (h : ProjectState) (change : Change) (s : Staged) → EditsOne s → StandsAsNamed change h.contents s
    → LeavesScript change s
leaves_script h (Add name at bytes) s one stands =
    no_script s.script (edited_key s.objects.step) one stands.0.touches
leaves_script h (Replace name bytes) s one stands =
    no_script s.script (edited_key s.objects.step) one stands.touching.touches
leaves_script h (Move name to) s one stands =
    no_script s.script (edited_key s.objects.step) one stands.touching.touches
leaves_script h (Remove name) s one stands =
    no_script s.script (edited_key s.objects.step) one stands.touching.touches
leaves_script h (SetScript text) s one stands = tt

-- the input sections that are placed are no more than the bound says
few_placed : (old new : GoodLink) (p : Project) (first : ℕ) → old.project ≡ p
    → IsFirstChanged old.project new.project first
    → entries_from first (rows new.project)
    ≤ entries_from (first_changed (rows p) (rows new.project)) (rows new.project)
few_placed old new p first is least =
    least (first_changed (rows p) (rows new.project))
    (ap (λ (r : Project). take (first_changed (rows p) (rows new.project)) (rows r)) is
    ∙ same_before (rows p) (rows new.project))

placed : (old new : GoodLink) (x : PreviousState) (p : Project) (change : Change) (s : Staged) (m0 m2 : Counts)
    → old.project ≡ p → m0.pieces < 2 ^ 64 → (s.script ≡ None → IsNext old.project new.project x)
    → LeavesScript change s → IsLinkWork old new x m0 m2
    → Rises m0.pieces m2.pieces (entries_to_place change (rows p) (rows new.project))
placed old new x p (Add name at bytes) s m0 m2 is small next leaves w =
    rises_by m0.pieces m2.pieces _ _ small w.pieces
    (few_placed old new p w.first is (w.changed (next leaves)))
placed old new x p (Replace name bytes) s m0 m2 is small next leaves w =
    rises_by m0.pieces m2.pieces _ _ small w.pieces
    (few_placed old new p w.first is (w.changed (next leaves)))
placed old new x p (Move name to) s m0 m2 is small next leaves w =
    rises_by m0.pieces m2.pieces _ _ small w.pieces
    (few_placed old new p w.first is (w.changed (next leaves)))
placed old new x p (Remove name) s m0 m2 is small next leaves w =
    rises_by m0.pieces m2.pieces _ _ small w.pieces
    (few_placed old new p w.first is (w.changed (next leaves)))
placed old new x p (SetScript text) s m0 m2 is small next leaves w =
    rises_by m0.pieces m2.pieces _ _ small w.pieces (fewer (rows new.project) w.first)

both_are : (a b : Bool) → a ≡ true → b ≡ true → (a && b) ≡ true
both_are true b h k = k
both_are false b h k = absurd (cc)

-- what it places, evaluates and writes
pub linked_work : (h : ProjectState) (s : Staged) (same : Bool) (bytes new : List ℕ) (a : LinkOutcome) (e : EditEffect)
    (previous : Option PreviousLink) (f : UpdateOutcome) (change : Change) (m1 m2 : Counts)
    → IsFollowing h s same bytes a previous e → shown bytes a ≡ link (held h)
    → HasUpdateOutcome (next_listing h s) (lent previous e.keeps_previous e h s) bytes new f
    → HasWorked (project_of (next_listing h s)) (lent previous e.keeps_previous e h s) m1 m2 f
    → m1.pieces < 2 ^ 64 → m1.fields < 2 ^ 64 → m1.bytes < 2 ^ 64 → LeavesScript change s
    → HasPlacedWork (held h) change (project_of (next_listing h s)) m1 m2
linked_work h s same bytes new a e previous f change m1 m2 given answers updated worked few_pieces few_fields few_bytes
    leaves =
    between a previous f e.keeps_previous refl given.effect given.kept answers updated worked
  where
    p : Project
    p = held h

    q : Project
    q = project_of (next_listing h s)

    next_of : (m : _) (x : PreviousLink) (c : IsAnswered (listing_of h) bytes x)
        → IsEffect h s same (outcome.Good m) (Some x) e → s.script ≡ None
        → IsNext c.kept.old.project q (next_view x e h s)
    next_of m x c effect stays =
        is_next c.kept.old.project q h.contents.entries (next_listing h s).entries s.objects.step
        s.objects.places.after same (origin_of x.origins.items)
        (next_view x e h s) (ap (λ (r : Project). r.objects) c.project)
        refl given.edit.found given.edit.keys given.edit.placed given.edit.arranged.place_after given.edit.named
        given.edit.puts c.kept.since
        (both_are x.same_script e.same_script c.script (effect.stays stays))
        (from_edit h s same x e effect.stale_key) refl

    -- over the previous link, whatever is kept of this one
    over_last : (m : _) (x : PreviousLink) (kept : IsAnswered (listing_of h) bytes x)
        → e.keeps_previous ≡ true → IsEffect h s same (outcome.Good m) (Some x) e
        → IsWorkBeside q (Some (next_view x e h s)) m1 m2 → (t u : Layout)
        → layout p ≡ Ok t → layout q ≡ Ok u
        → IsPlacedWork (record { project = p; layout = t }) change (record { project = q; layout = u }) m1 m2
    over_last m x kept are effect worked t u laid laid_too =
        let state : PreviousState = next_view x e h s in
        let old : GoodLink = record { project = p; layout = t } in
        let now : GoodLink = record { project = q; layout = u } in
        let of_last : IsPreviousOf kept.kept.old q state =
        is_last_of h s same bytes x e kept.kept given.edit
        (none_of_last h s same bytes (outcome.Good m) x e kept given.edit effect are) effect.changed
        effect.stale_key in
        let work : IsLinkWork kept.kept.old now state m1 m2 = worked kept.kept.old state u refl of_last laid_too in
        let is : kept.kept.old ≡ old = current_is (listing_of h) bytes x p t kept refl laid in
        let image : IsImageCount old now m1 m2 =
        subst (λ (g : GoodLink). IsImageCount g now m1 m2) is work.image in
        record {
          pieces = placed kept.kept.old now state p change s m1 m2 kept.project few_pieces (next_of m x kept effect)
              leaves work;
          relocations = rises_by m1.fields m2.fields _ (sites_to_evaluate old now) few_fields image.relocations
              (omega arith);
          bytes = rises_by m1.bytes m2.bytes _ (bytes_to_write old now) few_bytes image.bytes image.few;
          first = work.first;
          same = subst (λ (g : GoodLink). AreSameBefore g.project q work.first) is work.same;
          exactly = work.pieces;
          image = image;
        }

    between : (b : LinkOutcome) (previous : Option PreviousLink) (f : UpdateOutcome) (known : Bool)
        → e.keeps_previous ≡ known → IsEffect h s same b previous e
        → IsPreviousLink (listing_of h) bytes b previous
        → shown bytes b ≡ link p
        → HasUpdateOutcome (next_listing h s) (lent previous known e h s) bytes new f
        → HasWorked q (lent previous known e h s) m1 m2 f → (t u : Layout)
        → (link p).status ≡ 0 → (link q).status ≡ 0 → layout p ≡ Ok t → layout q ≡ Ok u
        → IsPlacedWork (record { project = p; layout = t }) change (record { project = q; layout = u }) m1 m2
    between (outcome.Faulty text) previous f known are effect kept answers updated worked =
        λ t u zero zero_too
        laid laid_too. absurd (not_zero bytes (outcome.Faulty text) (link p) refl answers zero)
    between (outcome.Good m) None f known are effect kept answers updated worked = λ t u zero zero_too
        laid laid_too. absurd kept
    between (outcome.Good m) (Some x) (Faulty text) known are effect kept answers updated worked =
        λ t u zero zero_too laid laid_too. (
        let one : 0 ≡ 1 = sym zero_too ∙ ap (λ (k : Link). k.status) updated.0 in
        absurd (omega (arith, one)))
    between (outcome.Good m) (Some x) (Good y n) false are effect kept answers updated worked =
        λ t u zero zero_too laid laid_too. (
        let no : true ≡ false = sym (effect.current refl) ∙ are in
        absurd (cc))
    between (outcome.Good m) (Some x) (Good y n) true are effect kept answers updated worked =
        λ t u zero zero_too laid laid_too. over_last m x kept are effect worked.0 t u laid laid_too
    between (outcome.Good m) (Some x) (RewrittenInPlace w) false are effect kept answers updated worked =
        λ t u zero zero_too laid laid_too. (
        let no : true ≡ false = sym (effect.current refl) ∙ are in
        absurd (cc))
    between (outcome.Good m) (Some x) (RewrittenInPlace w) true are effect kept answers updated worked =
        λ t u zero zero_too laid laid_too. over_last m x kept are effect worked t u laid laid_too

rises_from : (n m after most : ℕ) → m ≡ n → Rises m after most → Rises n after most
rises_from n m after most is r = subst (λ (k : ℕ). Rises k after most) is r

-- with what an edit counted before it
pub whole_from : (p : Project) (change : Change) (q : Project) (m0 m1 m2 : Counts) → LinksNothing m0 m1
    → HasPlacedWork p change q m1 m2 → m2.objects ≡ capped m0.objects (objects_read change)
    → m2.names ≡ capped m0.names (length (distinct (decided_by p change q)))
    → IsReadingWork p change q m0 m2 → IsWholeWork p change q m0 m2
whole_from p change q m0 m1 m2 none placed objects names reading = (
  reading,
  (λ t u zero zero_too laid laid_too.
      let w = placed t u zero zero_too laid laid_too in
      record {
        objects = reading.objects;
        names = reading.names;
        pieces = rises_from m0.pieces m1.pieces m2.pieces _ none.pieces w.pieces;
        relocations = rises_from m0.fields m1.fields m2.fields _ none.fields w.relocations;
        bytes = rises_from m0.bytes m1.bytes m2.bytes _ none.bytes w.bytes;
      }),
  (λ t u zero zero_too laid laid_too.
      let w = placed t u zero zero_too laid laid_too in
      inr (record {
        objects = objects;
        names = names;
        first = w.first;
        same = w.same;
        pieces = w.exactly ∙ ap (λ (n : ℕ). capped n (entries_from w.first (rows q))) none.pieces;
        image = image_from (record { project = p; layout = t }) (record { project = q; layout = u }) m0 m1 m2 none
            w.image;
      })),
)

pub whole_work : (h : ProjectState) (s : Staged) (same : Bool) (bytes new : List ℕ) (a : LinkOutcome) (e : EditEffect)
    (previous : Option PreviousLink) (f : UpdateOutcome) (change : Change)
    (m0 m1 m2 : Counts) → IsFollowing h s same bytes a previous e → shown bytes a ≡ link (held h)
    → HasUpdateOutcome (next_listing h s) (lent previous e.keeps_previous e h s) bytes new f
    → HasWorked (project_of (next_listing h s)) (lent previous e.keeps_previous e h s) m1 m2 f
    → AreSmall m0 → ReadsObjects (objects_read change) m0 m1 → m2.objects ≡ m1.objects
    → m2.names ≡ capped m0.names (length (distinct (decided_by (held h) change (project_of (next_listing h s)))))
    → LeavesScript change s → IsReadingWork (held h) change (project_of (next_listing h s)) m0 m2
    → IsWholeWork (held h) change (project_of (next_listing h s)) m0 m2
whole_work h s same bytes new a e previous f change m0 m1 m2 given answers updated worked small read none
    exact leaves reading =
    whole_from (held h) change (project_of (next_listing h s)) m0 m1 m2
    (objects_link_nothing (objects_read change) m0 m1 read)
    (linked_work h s same bytes new a e previous f change m1 m2 given answers updated worked
    (omega (arith, small.pieces, read.pieces)) (omega (arith, small.fields, read.fields))
    (omega (arith, small.bytes, read.bytes)) leaves)
    (none ∙ read.objects) exact reading
