-- A link beside a previous one, if there is one.
use Rattle.relink_driver.proofs.Common.{All, AreEvaluated, AreNamesDistinct, ArePatchesOf, AreSymbolValues, AreValues}
use Rattle.relink_driver.proofs.Common.{Counts, EndsBy, GoodLink, IfSome, IsComplete, IsGood, IsLinkLayout, IsLinkView}
use Rattle.relink_driver.proofs.Common.{IsPreviousOf, IsRelocatedBeside, IsSome, KnownLink, Layout, LinkLayout}
use Rattle.relink_driver.proofs.Common.{LinkView, List, None, Ok, Option, Patch, PreviousState, PreviousView, Project}
use Rattle.relink_driver.proofs.Common.{ReadsNothing, Relocated, SectionRef, Some, StayedSections, SymbolTableState}
use Rattle.relink_driver.proofs.Common.{SymbolValues, faults_in, image, image_length, inl, inr, is_some, known_link}
use Rattle.relink_driver.proofs.Common.{new_link, placement, previous_of, provided, refl, relocation_faults, rows}
use Rattle.relink_driver.proofs.Common.{subst, sym, ℕ, ◌<◌, ◌^◌, ◌∙◌, ◌≡◌, ◌⊎◌}
use Rattle.relink_driver.specs.StayedSections.{AreStayedSections, range_of}
use Rattle.emit.specs.Drawable.{IsDrawableAt}
use Rattle.emit.specs.StayedPieces.{IsSound}
use Rattle.emit.specs.Runs.{AreRunsUnless}
use Rattle.emit.specs.relocate.declared.values.Values.{Values}
use Rattle.relink_driver.specs.Counted.{HasEvaluated}
use Rattle.relink_driver.specs.RelinkOutcome.{HasPreviousImage}
use Rattle.relink_driver.specs.Phases.{AreBeside, ArePatches, HasPreviousLink, IsFilled, IsShort}
use Rattle.relink_driver.proofs.Reading.{fields_read_nothing}

-- the previous link, whatever its image is
pub has_old : (p : Project) (bytes : List ℕ) (previous : Option PreviousState)
    → IfSome previous (HasPreviousImage p bytes)
    → IfSome previous (HasPreviousLink p)
has_old p bytes None h = tt
has_old p bytes (Some x) h = record { old = h.old; is = h.is }

-- some link that the previous one may be: a good one, if there is one
record Candidate (p : Project) (previous : Option PreviousView) : Type 0 where
  old : GoodLink
  is : IfSome (previous_of previous) (IsPreviousOf old p)
  good : IsGood old ⊎ (previous ≡ None)

candidate : (p : Project) (any : GoodLink) (previous : Option PreviousView)
    → IfSome (previous_of previous) (HasPreviousLink p) → Candidate p previous
candidate p any None h = record { old = any; is = tt; good = inr refl }
candidate p any (Some x) h = record { old = h.old; is = h.is; good = inl h.is.table.good }

-- what is evaluated beside a previous link, if there is one
pub record IsKnownBeside (p : Project) (s : Layout) (a : SymbolTableState) (y : StayedSections) (r : Relocated)
    (before after : Counts) : Type 0 where
  pub fields : AreRunsUnless (known_link p s a) (λ k. is_some (range_of y k)) r.patches.items r.ends.items
  pub faults : faults_in p r.faults.items ≡ relocation_faults p s
  pub patches : IsGood (new_link p s) → ArePatches p s y r
  pub counted : AreEvaluated p s y r before after
  pub reads : ReadsNothing before after

-- the new link, and the previous one
are_stays : (p : Project) (l : LinkLayout) (y : StayedSections) (w : LinkView) (v : Values) (is : IsShort p l w v)
    → AreBeside p is.placed.known.layout y → AreNamesDistinct p.objects → (old : GoodLink)
    → IfSome (previous_of y.previous) (IsPreviousOf old p)
    → AreStayedSections y old (known_link p is.placed.known.layout is.placed.symbol_table)
are_stays p l y w v is beside names old previous = record {
  symbol_table = is.placed.symbol_table;
  link = refl;
  names = names;
  indexed_layout = beside.indexed_layout;
  short = is.length;
  previous = previous;
  dirty = beside.dirty old previous;
}

abbrev pub AreComplete : StayedSections → Type 0
AreComplete y =
    (old : GoodLink) (l : KnownLink) → AreStayedSections y old l → IsSome y.previous → IsComplete (range_of y) old l

abbrev pub NoneStays : StayedSections → Type 0
NoneStays y = y.previous ≡ None → (k : SectionRef) → range_of y k ≡ None

pub known_beside : (p : Project) (l : LinkLayout) (y : StayedSections) (w : LinkView) (v : Values) (t : SymbolValues)
    (r : Relocated) (before after : Counts) (is : IsShort p l w v) → before.fields < 2 ^ 64 → AreBeside p
    is.placed.known.layout y
    → AreSymbolValues p is.placed.known.layout t → AreNamesDistinct p.objects
    → ((s : Layout) (a : SymbolTableState) (old : GoodLink) → placement p.script (rows p) (provided p) ≡ Ok s
    → IsLinkView (known_link p s a) w → AreValues p s a v → AreSymbolValues p s t
    → AreStayedSections y old (known_link p s a)
    → IsRelocatedBeside old (range_of y) p s a r before after)
    → AreComplete y → NoneStays y
    → IsKnownBeside p is.placed.known.layout is.placed.symbol_table y r before after
known_beside p l y w v t r before after is small tables worth names relocated complete none =
    let k = is.placed.known in
    let s = k.layout in
    let a = is.placed.symbol_table in
    let beside : (old : GoodLink) → IfSome (previous_of y.previous) (IsPreviousOf old p)
    → IsRelocatedBeside old (range_of y) p s a r before after =
    λ old previous.
    relocated s a old k.link_layout.placed k.view is.placed.values worth
    (are_stays p l y w v is tables names old previous)
    in
    let one = candidate p (new_link p s) y.previous tables.previous in
    let b = beside one.old one.is in
    record {
      fields = b.fields;
      faults = faults b one.good;
      patches = λ good. record {
        ends = b.ends good;
        patches = λ old previous some.
            (beside old previous).patches
            (complete old (known_link p s a) (are_stays p l y w v is tables names old previous) some);
      };
      counted = record {
        fields = b.counts;
        beside = λ old previous some good new_good.
            let all = complete old (known_link p s a) (are_stays p l y w v is tables names old previous) some in
            record {
              counted = (beside old previous).counted all good new_good;
              patched = (beside old previous).patched all good new_good;
            };
      };
      reads = fields_read_nothing _ _ _ small b.counts.1;
    }
  where
    faults : {old : GoodLink} {s : Layout} {a : SymbolTableState}
        → IsRelocatedBeside old (range_of y) p s a r before after → IsGood old ⊎ (y.previous ≡ None)
        → faults_in p r.faults.items ≡ relocation_faults p s
    faults b (inl good) = b.faults good
    faults b (inr nothing) = (b.anew (none nothing)).faults

-- the image that was drawn over that of the previous link, if there is one
pub drawn_image : (p : Project) (s : Layout) (a : SymbolTableState) (y : StayedSections) (r : Relocated)
    (old_bytes bytes : List
    ℕ)
    → IfSome (previous_of y.previous) (HasPreviousImage p old_bytes) → NoneStays y
    → ((old : GoodLink) → IfSome (previous_of y.previous) (IsPreviousOf old p)
    → IsSound (range_of y) old (known_link p s a))
    → ArePatches p s y r
    → (((k : SectionRef) → range_of y k ≡ None) → bytes ≡ image p s)
    → ((old : GoodLink) → IsGood old → IsSound (range_of y) old (known_link p s a)
    → ArePatchesOf old (new_link p s) r.retargeted.items → old_bytes ≡ image old.project old.layout
    → bytes ≡ image p s)
    → bytes ≡ image p s
drawn_image p s a y r old_bytes bytes has none sound patches anew over = go y.previous refl has
  where
    go : (previous : Option PreviousView) → y.previous ≡ previous
        → IfSome (previous_of previous) (HasPreviousImage p old_bytes) → bytes ≡ image p s
    go None e h = anew (none e)
    go (Some x) e h =
        let is : IfSome (previous_of y.previous) (IsPreviousOf h.old p) =
        subst (λ (z : Option PreviousView). IfSome (previous_of z) (IsPreviousOf h.old p)) (sym e) h.is in
        over h.old h.is.table.good (sound h.old is)
        (patches.patches h.old is (subst (λ (z : Option PreviousView). IsSome z) (sym e) refl)) h.image

-- a project has one placement
pub one_placement : (p : Project) (s t : Layout) → placement p.script (rows p) (provided p) ≡ Ok s
    → placement p.script (rows p) (provided p) ≡ Ok t → s ≡ t
one_placement p s t e f =
    let both = sym e ∙ f in
    let same : s ≡ t = cc both in
    same

-- patches that end within the image at one end within it at each
pub end_within : (p : Project) (s t : Layout) (qs : List Patch) → placement p.script (rows p) (provided p) ≡ Ok s
    → placement p.script (rows p) (provided p) ≡ Ok t → All (EndsBy (image_length p s)) qs
    → All (EndsBy (image_length p t)) qs
end_within p s t qs e f h =
    subst (λ (z : Layout). All (EndsBy (image_length p z)) qs) (one_placement p s t e f) h

-- what is counted at one is counted at each
pub evaluated_at : (p : Project) (y : StayedSections) (r : Relocated) (before after : Counts) (s : Layout)
    → IsLinkLayout p s y.indexed_layout.now.link_layout → AreEvaluated p s y r before after
    → HasEvaluated p y r before after
evaluated_at p y r before after s is h =
    λ t link_layout.
    subst (λ (z : Layout). AreEvaluated p z y r before after) (one_placement p s t is.placed link_layout.placed) h

-- a link that is filled can be drawn
pub drawable_at : (p : Project) (y : StayedSections) (v : Values) (r : Relocated) (f : IsFilled p y v r)
    → IsDrawableAt p f.short.placed.known.layout f.short.placed.symbol_table y.indexed_layout.now v r
    (λ k. is_some (range_of y k))
drawable_at p y v r f = record {
  indexed_layout = f.beside.indexed_layout;
  values = f.short.placed.values;
  fields = f.fields;
  short = f.short.length;
}

-- and its tables are those of the new link beside each that the previous one may be
pub stays_of : (p : Project) (y : StayedSections) (v : Values) (r : Relocated) (f : IsFilled p y v r) (old : GoodLink)
    → IfSome (previous_of y.previous) (IsPreviousOf old p)
    → AreStayedSections y old (known_link p f.short.placed.known.layout f.short.placed.symbol_table)
stays_of p y v r f old previous = are_stays p _ y _ v f.short f.beside f.names old previous
