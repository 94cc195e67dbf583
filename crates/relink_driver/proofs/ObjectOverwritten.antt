-- The sections of an object are written over those of the one in whose place it came.
use Rattle.relink_driver.proofs.Common.{All, AreInFileOrder, AreNamesDistinct, AreSymbolValues, Bool, Bytes, Contains}
use Rattle.relink_driver.proofs.Common.{Counts, DiffersInContents, EachLater, Err, Fault, Fields, GoodLink, HasField}
use Rattle.relink_driver.proofs.Common.{HasLocatedSections, HasSameOutlines, HasTouched, IfOk, ImageTooLong, IsGood}
use Rattle.relink_driver.proofs.Common.{IsIndexedLayout, IsNextLink, IsPreviousOf, IsRow, IsTouchedCount, KnownLink}
use Rattle.relink_driver.proofs.Common.{Layout, Link, LinkedSection, List, NamedObject, NamedSymbol, None, ObjectData}
use Rattle.relink_driver.proofs.Common.{Ok, Option, PreviousState, Project, ReadsNothing, ReplacedObjectState, Result}
use Rattle.relink_driver.proofs.Common.{SectionInFile, Some, SymbolValues, [], ap, arith, assertion_faults, at_place}
use Rattle.relink_driver.proofs.Common.{bytes_of, bytes_of_object, bytes_to_write, capped, cond, cons_option, drop}
use Rattle.relink_driver.proofs.Common.{entries_from, false, file_offset, filter, filter_map, first_or_later, flat_map}
use Rattle.relink_driver.proofs.Common.{flat_map_in, get_or-drop, get_or-take, get_or_past, has_part_stayed, here}
use Rattle.relink_driver.proofs.Common.{image, image_length, in_file, inl, inr, later, length, length-take}
use Rattle.relink_driver.proofs.Common.{lies_in_stayed, ltb-false, map, map_text, max_image_length, member_of, nat_lt}
use Rattle.relink_driver.proofs.Common.{new_link, none_in_nil, nonempty, not, of_length, option_map_or, own_bytes}
use Rattle.relink_driver.proofs.Common.{placed, raised, referenced_value, refl, relocation_faults, row_at, rows}
use Rattle.relink_driver.proofs.Common.{same_Some, section_of, segments, sites_of, slice_get, slice_get_within}
use Rattle.relink_driver.proofs.Common.{slice_index_or, spots_below, subst, suc, sum_by, sum_by-cons, sym, take, true}
use Rattle.relink_driver.proofs.Common.{unless, value_of, zero, ℕ, ◌++◌, ◌<◌, ◌==◌, ◌^◌, ◌∙◌, ◌∷◌, ◌≡◌, ◌≤◌, ◌⊎◌}
use Rattle.std.specs.List.Sorted.{IsPermutation}
use Rattle.std.specs.Result.{result_err}
use Rattle.ldmodel.specs.Link as model
use Rattle.ldmodel.specs.Relocations.{Site, entry_fault, site_field, site_field_with, site_value, sites}
use Rattle.ldmodel.specs.Relocations.{sites_of_section}
use Rattle.ldmodel.specs.Rows as rows_of
use Rattle.ldmodel.specs.Stayed.{LinkedPiece, has_stayed, link_pieces}
use Rattle.ldmodel.specs.SymbolValues.{SymbolValue, Number, NotDefined, NotInOutput, entry_point}
use Rattle.ldmodel.specs.SymbolValues as symbol
use Rattle.ldmodel.specs.WorkBound.{bytes_stayed, sites_outside}
use Rattle.ldmodel_laws.specs.PlacedOnce.{AreNumbered, IsPlacedOnce}
use Rattle.emit.specs.relocate.Fields.{evaluations, work_of}
use Rattle.emit.specs.relocate.declared.value.SymbolValue as code
use Rattle.emit.specs.relocate.declared.value.SymbolValue.TheVariants as value
use Rattle.emit.specs.InPlaceRewrites.{IsBare, IsInPlaceRewrite}
use Rattle.emit.specs.declared.rewrite.Rewrite.{Rewrite}
use Rattle.emit.specs.declared.rewrite.Rewrite.TheVariants.{Done, Faulty}
use Rattle.relink_driver.specs.InPlace.{IsInPlaceOutcome}
use Rattle.relink_driver.specs.Touched.{HasFault, IsTouchedWork}
use Rattle.relink_driver.specs.RelinkOutcome.{HasShownOutcome}
use Rattle.relink_driver.specs.Worked.{HasWorked, IsLinkWork, IsWorkBeside}
use Rattle.relink_driver.specs.declared.driver.RelinkOutcome.{RelinkOutcome}
use Rattle.relink_driver.specs.declared.driver.RelinkOutcome.TheVariants as ended
use Rattle.relink_driver.proofs.Outlined.{names_of}
use Rattle.relink_driver.proofs.Rewriting.{beside_own, came_before, came_is, is_rewritten, same_arranged}
use Rattle.relink_driver.proofs.Rewriting.{same_name_there}
use Rattle.relink_driver.proofs.Rewriting.{same_symbols, table_of, was}
use Rattle.relink_driver.proofs.TablesShowObject.{has_spots, spots_bytes}
use Rattle.relink_driver.proofs.SitesOfOverwritten.{touched_bytes, touched_sites}

-- ---- answers that may fail

pub if_both : {A E : Type 0} (P Q R : A → Type 0) (m : Result A E) → ((a : A) → P a → Q a → R a) → IfOk m P → IfOk m Q
    → IfOk m R
if_both P Q R (Ok a) h x y = h a x y
if_both P Q R (Err e) h x y = tt

pub if_one : {A E : Type 0} (P R : A → Type 0) (m : Result A E) → ((a : A) → P a → R a) → IfOk m P → IfOk m R
if_one P R (Ok a) h x = h a x
if_one P R (Err e) h x = tt

pub by_answer : {X : Type 0} (made : Rewrite) → (made ≡ Done → X) → (made ≡ Faulty → X) → X
by_answer Done f g = f refl
by_answer Faulty f g = g refl

-- ---- links without faults

none_before : (fs : List Fault) (next : Link) → (unless fs next).status ≡ 0 → (fs ≡ []) × (next.status ≡ 0)
none_before [] next e = (refl, e)
none_before (f ∷ fs) next e = absurd (let none : ⊥ = cc in none)

-- a link without faults has none of relocation
faultless : (p : Project) (s : Layout) → model.layout p ≡ Ok s → model.link p ≡ model.good p s
    → relocation_faults p s ≡ []
unfolding model.link
faultless p s laid is =
    let names = none_before (model.name_faults p)
    (unless (model.gathering_faults p) (placed p (model.layout p))) (ap (λ (l : Link). l.status) is) in
    let gathered = none_before (model.gathering_faults p) (placed p (model.layout p)) names.1 in
    (none_before (relocation_faults p s) (unless (assertion_faults p s) (model.good p s))
    (ap (λ r. (placed p r).status) (sym laid) ∙ gathered.1)).0

-- a link without faults has a layout, at which no relocation has one
pub no_fault : (p : Project) → (model.link p).status ≡ 0 → HasFault p → ⊥
unfolding model.link
no_fault p is faulty =
    let names = none_before (model.name_faults p)
    (unless (model.gathering_faults p) (placed p (model.layout p))) is in
    go (model.layout p) refl (none_before (model.gathering_faults p) (placed p (model.layout p)) names.1).1
  where
    go : (m : Result Layout (List Fault)) → model.layout p ≡ m → (placed p m).status ≡ 0 → ⊥
    go (Err fs) e f = let none : ⊥ = cc in none
    go (Ok s) e f = faulty s e
        (none_before (relocation_faults p s) (unless (assertion_faults p s) (model.good p s)) f).0

none_in : {X Y : Type 0} (f : X → Option Y) (xs : List X) (x : X) → filter_map f xs ≡ [] → Contains xs x → f x ≡ None
none_in f [] x e c = absurd (none_in_nil x c)
none_in {X} {Y} f (y ∷ ys) x e c = go (f y) refl e (first_or_later y ys x c) (λ l. none_in f ys x l)
  where
    go : (m : Option Y) → f y ≡ m → cons_option m (filter_map f ys) ≡ [] → (y ≡ x) ⊎ Contains ys x
        → (filter_map f ys ≡ [] → Contains ys x → f x ≡ None) → f x ≡ None
    go (Some u) a b d rest = absurd (let none : ⊥ = cc in none)
    go None a b (inl is) rest = ap f (sym is) ∙ a
    go None a b (inr in_rest) rest = rest b in_rest

no_error : (r : Result (List ℕ) Fault) → result_err r ≡ None → (f : List ℕ) × (r ≡ Ok f)
no_error (Ok f) e = (f, refl)
no_error (Err x) e = absurd (let none : ⊥ = cc in none)

last_empty : {X : Type 0} (xs ys : List X) → xs ++ ys ≡ [] → ys ≡ []
last_empty [] ys e = e
last_empty (x ∷ xs) ys e = absurd (let none : ⊥ = cc in none)

all_fields : (p : Project) (s : Layout) → relocation_faults p s ≡ [] → (t : Site) → Contains (sites p s) t
    → HasField (new_link p s) t
unfolding relocation_faults
all_fields p s none t c =
    no_error (site_field p s t)
    (none_in (λ u. result_err (site_field p s u)) (sites p s) t
    (last_empty (entry_fault (entry_point p s)) (filter_map (λ u. result_err (site_field p s u)) (sites p s)) none) c)

-- each site of it has a symbol with a value
has_value : (l : KnownLink) (t : Site) → HasField (new_link l.project l.layout) t
    → work_of (site_value l.project l.layout t) ≡ 1
unfolding site_field
has_value l t h = go (site_value l.project l.layout t) h.1
  where
    go : (v : SymbolValue) → site_field_with t v ≡ Ok h.0 → work_of v ≡ 1
    go (Number x) e = refl
    go NotDefined e = absurd (let no : ⊥ = cc in no)
    go NotInOutput e = absurd (let no : ⊥ = cc in no)

all_evaluated : (l : KnownLink) (ts : List Site)
    → ((t : Site) → Contains ts t → HasField (new_link l.project l.layout) t) → evaluations l ts ≡ length ts
all_evaluated l [] h = refl
all_evaluated l (t ∷ ts) h =
    let one = has_value l t (h t (here t ts)) in
    let more = sum_by-cons (λ (u : Site). work_of (site_value l.project l.layout u)) t ts in
    let rest = all_evaluated l ts (λ u c. h u (later t ts u c)) in
    omega (arith, one, more, rest)

-- the sites of an object are among those of the project
own_sites : (p : Project) (s : Layout) (o : NamedObject) → Contains p.objects o → (t : Site) → Contains (sites_of s o) t
    → Contains (sites p s) t
unfolding sites
own_sites p s o among t c =
    flat_map_in (λ (x : NamedObject). flat_map (sites_of_section s x) x.object.sections) p.objects o t among c

-- the image of a layout is not too long
short_layout : (p : Project) (s : Layout) → model.layout p ≡ of_length (image_length p s) s → model.layout p ≡ Ok s
    → image_length p s ≤ max_image_length
short_layout p s is laid = go (nat_lt max_image_length (image_length p s)) refl (sym is ∙ laid)
  where
    go : (b : Bool) → nat_lt max_image_length (image_length p s) ≡ b
        → cond b (Err (ImageTooLong (image_length p s) ∷ [])) (Ok s) ≡ Ok s → image_length p s ≤ max_image_length
    go true e f = absurd (let none : ⊥ = cc in none)
    go false e f = ltb-false max_image_length (image_length p s) e

-- ---- the values of an object

past : {X : Type 0} (xs : List X) (j : ℕ) → slice_get xs j ≡ None → length xs ≤ j
past [] j e = omega arith
past (x ∷ xs) zero e = absurd (let none : ⊥ = cc in none)
past (x ∷ xs) (suc j) e = omega (arith, past xs j e)

row_values : (l : KnownLink) (t : SymbolValues) (place : ℕ) (o : NamedObject) (count : ℕ) (row : List code.SymbolValue)
    → AreSymbolValues l.project l.layout t → slice_get l.project.objects place ≡ Some o
    → count ≡ length o.object.symbols → row ≡ row_at t place count → IsRow l o row
row_values l t place o count row worth at many is j =
    subst (λ r. value_of (slice_index_or r j value.NotDefined)
    ≡ option_map_or (referenced_value l.project l.layout o) (slice_get o.object.symbols j) symbol.NotDefined) (sym is)
    (go (slice_get o.object.symbols j) refl)
  where
    tail : List code.SymbolValue
    tail = drop (slice_index_or t.starts.items place 0) t.values.items

    go : (a : Option NamedSymbol) → slice_get o.object.symbols j ≡ a
        → value_of (slice_index_or (row_at t place count) j value.NotDefined)
        ≡ option_map_or (referenced_value l.project l.layout o) a symbol.NotDefined
    go None e =
        let least = length-take count tail in
        let end = past o.object.symbols j e in
        ap value_of (get_or_past (take count tail) j value.NotDefined (omega (arith, least, end, many)))
    go (Some x) e =
        let within = slice_get_within o.object.symbols j x e in
        ap value_of (get_or-take count tail j value.NotDefined (omega (arith, within, many))
        ∙ get_or-drop (slice_index_or t.starts.items place 0) t.values.items j value.NotDefined)
        ∙ worth place j o x at e

-- ---- the new link

module _ (p : Project) (x : PreviousState) (r : ReplacedObjectState) (f : IsNextLink x p r)
    (names : AreNamesDistinct p.objects)
    (keeps : (old : GoodLink) → DiffersInContents old.project p r.new_place.0
    → HasSameOutlines old.project p old.layout) where
  abbrev place : ℕ
  place = r.new_place.0

  abbrev pub link_at : Layout → KnownLink
  link_at s = record { project = p; layout = s; number = λ key. key; name = λ k. None }

  module _ (old : GoodLink) (is : IsPreviousOf old p x) where
    abbrev s : Layout
    s = old.layout

    rewritten : DiffersInContents old.project p place
    rewritten = is_rewritten old p x r is f

    kept : HasSameOutlines old.project p s
    kept = keeps old rewritten

    pub laid : model.layout p ≡ Ok s
    laid = sym kept.layout ∙ is.table.layout

    pub indexed_layout : IsIndexedLayout p s x.snapshot.indexed_layout
    indexed_layout = same_arranged old.project p place rewritten s kept x.snapshot.indexed_layout
        is.table.indexed_layout

    pub short : image_length p s ≤ max_image_length
    short = short_layout p s indexed_layout.link_layout.layout laid

    pub before_faultless : relocation_faults old.project s ≡ []
    before_faultless = faultless old.project s is.table.layout is.table.link

    pub values : (count : ℕ) (row : List code.SymbolValue) → count ≡ length f.after.object.symbols
        → row ≡ row_at x.snapshot.symbols place count → IsRow (link_at s) f.after row
    values count row many row_is =
        row_values (link_at s) x.snapshot.symbols place f.after count row
        (same_symbols old.project p place rewritten s kept x.snapshot.symbols is.table.symbols) f.at many row_is

    pub rewriting_of : All IsBare r.old_object.sections → IsInPlaceRewrite old.project (link_at s) r.new_place f.after
    rewriting_of bare = record {
      rewritten = rewritten;
      frame = kept.frame;
      object_is = f.at;
      names = names;
      spread = is.table.good.spread;
      named = is.table.good.named;
      bare = λ a at.
          let same : came_before old p x r is f ≡ a = same_Some _ _ (sym (was old p x r is f) ∙ at) in
          subst (λ (o : NamedObject). All IsBare o.object.sections) same
          (subst (λ (d : ObjectData). All IsBare d.sections) (sym (came_is old p x r is f)) bare);
    }

    pub locate_sections : (order : AreInFileOrder (segments s.sections))
        → (all : map (λ (v : SectionInFile). v.section) (in_file (segments s.sections)) ≡ nonempty s.sections)
        → (offset_is : (v : SectionInFile) → Contains (in_file (segments s.sections)) v
        → file_offset (segments s.sections) v.section ≡ v.offset)
        → HasLocatedSections p s f.after (spots_below x.snapshot.indexed_layout r.new_place
        (map section_of f.after.object.sections)
        (length f.after.object.sections))
    locate_sections order all offset_is =
        has_spots p s x.snapshot.indexed_layout indexed_layout r.new_place f.after f.at short order all offset_is

    pub same_layout_as : (t : Layout) → model.layout p ≡ Ok t → t ≡ s
    same_layout_as t e =
        let both = sym e ∙ laid in
        let same : t ≡ s = cc both in
        same

  -- the previous link is right, with another image
  pub rewritten_end : (old : GoodLink) (is : IsPreviousOf old p x) (bytes : List ℕ) → relocation_faults p old.layout
      ≡ []
      → IsGood (new_link p old.layout) → bytes ≡ image p old.layout → IsInPlaceOutcome p (Some x) bytes
  rewritten_end old is bytes none good drawn =
      let k = kept old is in
      let link = k.link is.table.layout (ap (λ (l : Link). l.status) is.table.link) none in
      record {
        before = x;
        was = refl;
        current = f.current;
        place = place;
        rewritten = λ o h. rewritten o h;
        layout = old.layout;
        link = link;
        table = table_of old.project p place (rewritten old is) old.layout k x.snapshot is.table names good link;
        names = λ o h. sym (names_of o.project p place (rewritten o h));
        map = λ o h. (
            let same = same_layout_as old is o.layout (laid o h) in
            ap (map_text p) (sym same) ∙ sym (kept o h).map);
        image = drawn;
      }

  -- what is counted
  pub touched_count : (old : GoodLink) (is : IsPreviousOf old p x) → AreNumbered p → relocation_faults p old.layout ≡ []
      → bytes_stayed (new_link p old.layout) (new_link p old.layout) ≤ image_length p old.layout
      → (IsPlacedOnce p old.layout → (v : LinkedPiece) → Contains (link_pieces (new_link p old.layout)) v
      → has_part_stayed old (new_link p old.layout) v.object v.part ≡ has_stayed old v)
      → (IsPlacedOnce p old.layout → IsPermutation
      (filter (λ t. not (lies_in_stayed old (new_link p old.layout) t)) (sites p old.layout))
      (sites_outside old (new_link p old.layout)))
      → (order : AreInFileOrder (segments old.layout.sections))
      → (all : map (λ (v : SectionInFile). v.section) (in_file (segments old.layout.sections))
      ≡ nonempty old.layout.sections)
      → (offset_is : (v : SectionInFile) → Contains (in_file (segments old.layout.sections)) v
      → file_offset (segments old.layout.sections) v.section ≡ v.offset)
      → (before after : Counts)
      → after ≡ raised (raised before Fields (evaluations (link_at old.layout) (sites_of old.layout f.after))) Bytes
      (sum_by (bytes_of f.after.object) (spots_below x.snapshot.indexed_layout r.new_place
      (map section_of f.after.object.sections)
      (length f.after.object.sections)))
      → IsTouchedCount old (new_link p old.layout) place before after
  touched_count old is numbers none most piece permuted order all offset_is before after counted =
      let s : Layout = old.layout in
      let k = kept old is in
      let ret = rewritten old is in
      let b : NamedObject = f.after in
      let once : IsPlacedOnce p s = record {
        placed = (indexed_layout old is).link_layout.placed;
        names = names;
        numbers = numbers;
      } in
      let fresh : (y : NamedObject) → Contains old.project.objects y → y.name ≡ b.name
      → y.object.text ≡ b.object.text → ⊥ =
      λ y c n t. is.origins.fresh place b y (f.origins place (slice_get_within p.objects place b f.at)
      ∙ beside_own place place refl) f.at c n t in
      let name = same_name_there old p x r is f in
      let a : NamedObject = came_before old p x r is f in
      let fields : evaluations (link_at s) (sites_of s b) ≡ length (sites_of s b) =
      all_evaluated (link_at s) (sites_of s b)
      (λ t c. all_fields p s none t (own_sites p s b (at_place p.objects place b f.at) t c)) in
      let sites = touched_sites old.project p s place ret k.frame names a b (was old p x r is f) f.at name fresh k.worth
      (piece once) (permuted once) in
      let bytes = spots_bytes p s x.snapshot.indexed_layout (indexed_layout old is) r.new_place b f.at
      (short old is) order all offset_is in
      record {
        counted = counted
            ∙ ap (λ n. raised (raised before Fields n) Bytes (sum_by (bytes_of b.object)
            (spots_below x.snapshot.indexed_layout r.new_place (map section_of b.object.sections)
            (length b.object.sections)))) (fields ∙ sym sites)
            ∙ ap (raised (raised before Fields _) Bytes) bytes;
        few = subst (λ n. n ≤ bytes_to_write old (new_link p s)) (sym (ap (λ m. option_map_or (λ (o : NamedObject).
            sum_by (own_bytes (new_link p s) o.name) o.object.sections) m 0) f.at))
            (touched_bytes old.project p s place ret k.frame names a b (was old p x r is f) f.at name fresh
            (member_of (λ (o : NamedObject). EachLater (λ (y z : LinkedSection). (y.number.0 == z.number.0) ≡ false)
            o.object.sections) p.objects b numbers (at_place p.objects place b f.at)) most);
      }

  none_past : (xs : List (List rows_of.Piece)) → entries_from (length xs) xs ≡ 0
  none_past [] = refl
  none_past (y ∷ ys) = none_past ys

  -- the work of such a link
  pub touched_work : (m0 m1 : Counts) → m0.pieces < 2 ^ 64 → IsTouchedWork p x place m0 m1
      → IsWorkBeside p (Some x) m0 m1
  touched_work m0 m1 small counted = λ old y t e is laid_at.
      let same : x ≡ y = same_Some _ _ e in
      work old y t (subst (IsPreviousOf old p) (sym same) is) laid_at same
    where
      work : (old : GoodLink) (y : PreviousState) (t : Layout) → IsPreviousOf old p x → model.layout p ≡ Ok t → x ≡ y
          → IsLinkWork old (new_link p t) y m0 m1
      work old y t is laid_at same =
          let w = counted old t is laid_at in
          let previous = none_past (rows p) in
          let rows_are = (kept old is).rows in
          record {
            first = length (rows p);
            pieces = ap (λ (m : Counts). m.pieces) w.counted
                ∙ (let stay : m0.pieces ≡ capped m0.pieces (entries_from (length (rows p)) (rows p)) =
                omega (arith, small, previous) in stay);
            same = λ k less. ap (λ rs. slice_index_or rs k []) rows_are;
            changed = λ next n taken. omega (arith, previous);
            anew = λ other.
                let never : true ≡ false = sym f.script ∙ ap (λ (z : PreviousState). z.same_script) same ∙ other in
                absurd (let none : ⊥ = cc in none);
            image = record {
              relocations = ap (λ (m : Counts). m.fields) w.counted;
              written = bytes_of_object (new_link p t) place;
              bytes = ap (λ (m : Counts). m.bytes) w.counted;
              few = w.few;
              exactly = inr (record { place = place; rewritten = rewritten old is; is = refl });
            };
          }

-- nothing but fields and bytes is counted
pub touched_reads : (m0 m1 : Counts) (a b : ℕ) → m0.fields < 2 ^ 64 → m0.bytes < 2 ^ 64
    → m1 ≡ raised (raised m0 Fields a) Bytes b → ReadsNothing m0 m1
touched_reads m0 m1 a b small few e = record {
  objects = ap (λ (m : Counts). m.objects) e;
  names = ap (λ (m : Counts). m.names) e;
  pieces = (let same = ap (λ (m : Counts). m.pieces) e in omega (arith, same));
  fields = (let same = ap (λ (m : Counts). m.fields) e in omega (arith, same, small));
  bytes = (let same = ap (λ (m : Counts). m.bytes) e in omega (arith, same, few));
}

-- the passes that follow where a relocation has a fault end with fault lines
pub worked_after : (with_map : Bool) (q : Project) (previous : Option PreviousState) (a b d : List ℕ)
    (m0 m1 m2 : Counts) (e : RelinkOutcome)
    → HasTouched q previous a b m0 m1 false → HasShownOutcome with_map q previous b d e → HasWorked q previous m1 m2 e
    → HasWorked q previous m0 m2 e
worked_after with_map q previous a b d m0 m1 m2 (ended.Faulty t) h k w = w
worked_after with_map q previous a b d m0 m1 m2 (ended.Good g m) h k w = go h.1
  where
    go : (m1 ≡ m0) ⊎ (HasFault q × ReadsNothing m0 m1) → IsWorkBeside q previous m0 m2
    go (inl same) = subst (λ (z : Counts). IsWorkBeside q previous z m2) same w
    go (inr faulty) = absurd (faulty.0 k.layout k.table.layout (faultless q k.layout k.table.layout k.table.link))
worked_after with_map q previous a b d m0 m1 m2 ended.RewrittenInPlace h k w = go h.1
  where
    go : (m1 ≡ m0) ⊎ (HasFault q × ReadsNothing m0 m1) → IsWorkBeside q previous m0 m2
    go (inl same) = subst (λ (z : Counts). IsWorkBeside q previous z m2) same w
    go (inr faulty) = absurd (faulty.0 k.layout k.table.layout (faultless q k.layout k.table.layout k.link))
