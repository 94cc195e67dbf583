-- A link whose project differs from that of a previous one in what the input sections of one object hold: what is kept
-- of the previous link is right for it.
use Rattle.relink_driver.proofs.Common.{AreNamesDistinct, AreOf, AreSymbolValues, Bool, DiffersInContents, Each}
use Rattle.relink_driver.proofs.Common.{GoodLink, HasSameOutlines, IfSome, IndexedLayout, IsGood, IsIndexedLayout}
use Rattle.relink_driver.proofs.Common.{IsLinkLayout, IsNextLink, IsOwned, IsPlacement, IsPreviousOf, IsReplaced}
use Rattle.relink_driver.proofs.Common.{IsSectionAddress, IsSome, Layout, LinkLayout, LinkOptions, List, NamedObject}
use Rattle.relink_driver.proofs.Common.{NamedSymbol, None, ObjectData, ObjectOutline, Option, PlacedOutput, PlacedPiece}
use Rattle.relink_driver.proofs.Common.{PreviousState, Project, ReplacedObjectState, SectionAddress, SectionOutline}
use Rattle.relink_driver.proofs.Common.{SectionRef, Some, Statement, SymbolValues, [], ap, arith, cases_lt, cond}
use Rattle.relink_driver.proofs.Common.{entries_of, eq-eqb, eqb-false, eqb-true, false, inl, inr, is_part, length}
use Rattle.relink_driver.proofs.Common.{length-map, list_any, map, ne_eqb, new_link, object_outline, object_targets}
use Rattle.relink_driver.proofs.Common.{option_map, origin_beside, placed_part, placement, position, provided, refl}
use Rattle.relink_driver.proofs.Common.{rows, same_Some, section_outline, section_targets, slice_get, slice_get-map}
use Rattle.relink_driver.proofs.Common.{slice_get_past, subst, sym, true, ℕ, ◌<◌, ◌==◌, ◌∙◌, ◌∷◌, ◌≡◌, ◌≤◌, ◌⊎◌}
use Rattle.ldmodel.specs.Link as model
use Rattle.ldmodel.specs.Rows as rows_of
use Rattle.gather.specs.SectionTable.{IsTableOf, number_of}
use Rattle.gather.specs.declared.input_section_table.InputSectionTable.{InputSectionTable}
use Rattle.relink_driver.specs.LinkSnapshot.{IsLinkSnapshot}
use Rattle.relink_driver.specs.declared.link_snapshot.LinkSnapshot.{LinkSnapshot}
use Rattle.relink_driver.proofs.Outlines.{same_at}
use Rattle.relink_driver.proofs.Outlined.{input_before, outline_at, outlines_at, same_linked, same_names, same_owned}
use Rattle.relink_driver.proofs.Outlined.{same_rows_in}

-- ---- the project follows the previous one

beside_other : (place i : ℕ) → (i ≡ place → ⊥) → origin_beside place i ≡ Some i
beside_other place i other = ap (λ b. cond b None (Some i)) (ne_eqb i place other)

pub beside_own : (place i : ℕ) → i ≡ place → origin_beside place i ≡ None
beside_own place i same = ap (λ b. cond b None (Some i)) (eq-eqb i place same)

module _ (old : GoodLink) (p : Project) (x : PreviousState) (r : ReplacedObjectState) (is : IsPreviousOf old p x)
    (f : IsNextLink x p r) where
  many : length old.project.objects ≡ length p.objects
  many = sym is.objects ∙ f.objects

  pub came : IsReplaced old.project p r
  came = subst (λ (m : Option ReplacedObjectState). IfSome m (IsReplaced old.project p)) f.replaced is.replaced

  pub was : slice_get old.project.objects r.new_place.0 ≡ Some came.before
  was = ap (slice_get old.project.objects) (sym f.place) ∙ came.old

  abbrev pub came_before : NamedObject
  came_before = came.before

  pub came_is : came.before.object ≡ r.old_object
  came_is = came.object

  after_is : came.after ≡ f.after
  after_is = same_Some _ _ (sym came.new ∙ f.at)

  pub same_name_there : f.after.name ≡ came.before.name
  same_name_there = sym (ap (λ (o : NamedObject). o.name) after_is) ∙ came.name

  outline_there : object_outline came.before ≡ object_outline f.after
  outline_there =
      let made : List ℕ → List NamedSymbol → List SectionOutline → ObjectOutline =
      λ name symbols sections. record { name = name; symbols = symbols; sections = sections } in
      ap (λ n. made n came.before.object.symbols (map section_outline came.before.object.sections))
      (sym came.name ∙ ap (λ (o : NamedObject). o.name) after_is)
      ∙ ap (λ (d : ObjectData). made f.after.name d.symbols (map section_outline d.sections)) came.object
      ∙ ap (λ l. made f.after.name l (map section_outline r.old_object.sections)) f.symbols
      ∙ ap (made f.after.name f.after.object.symbols) f.sections

  others : (j : ℕ) → (j ≡ r.new_place.0 → ⊥) → slice_get old.project.objects j ≡ slice_get p.objects j
  others j other = go (cases_lt j (length p.objects))
    where
      go : (j < length p.objects) ⊎ (length p.objects ≤ j)
          → slice_get old.project.objects j ≡ slice_get p.objects j
      go (inl within) =
          sym (is.origins.same j j (f.origins j within ∙ beside_other r.new_place.0 j other))
      go (inr past) =
          slice_get_past old.project.objects j (omega (arith, past, many)) ∙ sym (slice_get_past p.objects j past)

  same_outline : (j : ℕ) → outline_at old.project j ≡ outline_at p j
  same_outline j = go (j == r.new_place.0) refl
    where
      go : (b : Bool) → (j == r.new_place.0) ≡ b → outline_at old.project j ≡ outline_at p j
      go true e =
          let here : j ≡ r.new_place.0 = eqb-true j r.new_place.0 e in
          ap (λ k. outline_at old.project k) here ∙ ap (option_map object_outline) was ∙ ap Some outline_there
          ∙ sym (ap (option_map object_outline) f.at) ∙ ap (λ k. outline_at p k) (sym here)
      go false e = ap (option_map object_outline) (others j (eqb-false j r.new_place.0 e))

  same_targets : p.options.gc ≡ true → (j : ℕ)
      → option_map object_targets (slice_get old.project.objects j)
      ≡ option_map object_targets (slice_get p.objects j)
  same_targets on j = go (j == r.new_place.0) refl
    where
      there : object_targets came.before ≡ object_targets f.after
      there = ap (λ (d : ObjectData). map section_targets d.sections) came.object ∙ f.references on

      go : (b : Bool) → (j == r.new_place.0) ≡ b
          → option_map object_targets (slice_get old.project.objects j)
          ≡ option_map object_targets (slice_get p.objects j)
      go true e =
          let here : j ≡ r.new_place.0 = eqb-true j r.new_place.0 e in
          let targets_in = λ (os : List NamedObject) (k : ℕ). option_map object_targets (slice_get os k) in
          ap (targets_in old.project.objects) here ∙ ap (option_map object_targets) was ∙ ap Some there
          ∙ sym (ap (option_map object_targets) f.at) ∙ ap (targets_in p.objects) (sym here)
      go false e = ap (option_map object_targets) (others j (eqb-false j r.new_place.0 e))

  pub is_rewritten : DiffersInContents old.project p r.new_place.0
  is_rewritten = record {
    script = is.script f.script;
    options = is.options;
    references = λ on.
        same_at (map object_targets old.project.objects) (map object_targets p.objects)
        (length-map old.project.objects object_targets ∙ many ∙ sym (length-map p.objects object_targets))
        (λ k within. slice_get-map object_targets old.project.objects k
        ∙ same_targets (sym (ap (λ (o : LinkOptions). o.gc) is.options) ∙ on) k
        ∙ sym (slice_get-map object_targets p.objects k));
    outlines = same_at (map object_outline old.project.objects) (map object_outline p.objects)
        (length-map old.project.objects object_outline ∙ many ∙ sym (length-map p.objects object_outline))
        (λ k within. slice_get-map object_outline old.project.objects k ∙ same_outline k
        ∙ sym (slice_get-map object_outline p.objects k));
    others = others;
  }

-- ---- what is kept of the previous link is right

module _ (p q : Project) (i : ℕ) (h : DiffersInContents p q i) (s : Layout) (k : HasSameOutlines p q s) where
  same_table : (t : InputSectionTable) → IsTableOf p t → IsTableOf q t
  same_table t is = record {
    all = input_before p q i h k.decided (λ id. IsSome (number_of t id.object id.part)) is.all;
    below = is.below;
    apart = is.apart;
    linked = λ n before e. is.linked n before e ∙ same_linked p q i h n;
  }

  same_laying : (l : LinkLayout) → IsLinkLayout p s l → IsLinkLayout q s l
  same_laying l is = record {
    placed = sym (ap (λ t. placement t (rows p) (provided p)) h.script
        ∙ ap (λ r. placement q.script r (provided p)) k.rows ∙ ap (placement q.script (rows q)) k.provided)
        ∙ is.placed;
    apart = is.apart;
    layout = sym k.layout ∙ is.layout ∙ ap (λ n. model.of_length n s) k.frame.length;
    places = subst (λ (t : List Statement). AreOf t s l.placement) h.script is.places;
    kept = subst (λ (ns : List (List ℕ)). IsPlacement q.script (rows q) ns l.placement) k.provided
        (subst (λ (r : List (List rows_of.Piece)). IsPlacement q.script r (provided p) l.placement) k.rows
        (subst (λ (t : List Statement). IsPlacement t (rows p) (provided p) l.placement) h.script is.kept));
    segments = is.segments;
    offsets = is.offsets;
    named = is.named;
  }

  same_place : (key : SectionRef) (m : Option SectionAddress) → IsSectionAddress p s key m → IsSectionAddress q s key m
  same_place key None is =
      subst (λ n. placed_part s n key.part ≡ None) (same_names p q i h key.object.0) is
  same_place key (Some x) is =
      subst (λ n. (option_map (λ (y : PlacedPiece). y.start) (placed_part s n key.part) ≡ Some x.start)
      × (position (λ (v : PlacedOutput). list_any (is_part n key.part) v.pieces) s.sections ≡ Some x.section.0)
      × (option_map (λ (y : PlacedPiece). y.piece.size) (placed_part s n key.part) ≡ Some x.size))
      (same_names p q i h key.object.0) is

  same_each : {X : Type 0} (P Q : X → Type 0) → ((x : X) → P x → Q x) → (xs : List X) → Each P xs → Each Q xs
  same_each P Q f [] is = tt
  same_each P Q f (x ∷ xs) is = (f x is.0, same_each P Q f xs is.1)

  pub same_arranged : (t : IndexedLayout) → IsIndexedLayout p s t → IsIndexedLayout q s t
  same_arranged t is = record {
    table = same_table t.table is.table;
    rows = sym (same_rows_in p q i h t.rows.items) ∙ is.rows ∙ k.rows;
    link_layout = same_laying t.link_layout is.link_layout;
    places = λ key. same_place key _ (is.places key);
    apart = record {
      once = is.apart.once;
      owned = same_each (IsOwned p) (IsOwned q) (same_owned p q i h) (entries_of s) is.apart.owned;
      spread = is.apart.spread;
    };
  }

  -- an object of the second project, and that of the first in its place
  pub record Before (j : ℕ) (o : NamedObject) : Type 0 where
    pub object : NamedObject
    pub at : slice_get p.objects j ≡ Some object
    pub outline : object_outline object ≡ object_outline o

  pub before : (j : ℕ) (o : NamedObject) → slice_get q.objects j ≡ Some o → Before j o
  before j o at = go (slice_get p.objects j) refl
    where
      outlines : outline_at p j ≡ Some (object_outline o)
      outlines = outlines_at p q i h j ∙ ap (option_map object_outline) at

      go : (m : Option NamedObject) → slice_get p.objects j ≡ m → Before j o
      go None e =
          let none : None ≡ Some (object_outline o) = sym (ap (option_map object_outline) e) ∙ outlines in
          absurd (let never : ⊥ = cc in never)
      go (Some a) e = record {
        object = a;
        at = e;
        outline = same_Some _ _ (sym (ap (option_map object_outline) e) ∙ outlines);
      }

  pub same_symbols : (t : SymbolValues) → AreSymbolValues p s t → AreSymbolValues q s t
  same_symbols t is j n o x at symbol =
      let b = before j o at in
      is j n b.object x b.at (ap (λ (v : ObjectOutline). slice_get v.symbols n) b.outline ∙ symbol)
      ∙ k.frame.references j b.object o x b.at at

  pub table_of : (g : LinkSnapshot) → IsLinkSnapshot (new_link p s) g → AreNamesDistinct q.objects
      → IsGood (new_link q s)
      → model.link q ≡ model.good q s → IsLinkSnapshot (new_link q s) g
  table_of g is names good link = record {
    good = good;
    names = names;
    indexed_layout = same_arranged g.indexed_layout is.indexed_layout;
    symbols = same_symbols g.symbols is.symbols;
    layout = sym k.layout ∙ is.layout;
    link = link;
  }
