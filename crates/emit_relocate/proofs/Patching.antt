-- Patches of input sections that stayed.
use Rattle.emit_relocate.proofs.Common.{All, All-contains, All-contains_itself, All-weaker, AllZip, AreChanged, Bool}
use Rattle.emit_relocate.proofs.Common.{Contains, Contains-permutation, Err, Evaluated, Fault, FileRange, GoodLink}
use Rattle.emit_relocate.proofs.Common.{HasField, HasRelocationsOfProfile, IsComplete, IsEvaluatedAt, IsEvaluatedOf}
use Rattle.emit_relocate.proofs.Common.{IsPermutation, IsPermutation-sym, IsRelocationOfProfile, KnownLink, Layout}
use Rattle.emit_relocate.proofs.Common.{LinkedSection, List, NamedObject, ObjectSection, Ok, Option, Patch}
use Rattle.emit_relocate.proofs.Common.{PlacedOutput, PlacedPiece, Project, Result, Results, SectionRef, Site, Some, []}
use Rattle.emit_relocate.proofs.Common.{ap, arith, cond, eq-eqb, false, field_end, file_patch_at, filter, filter-append}
use Rattle.emit_relocate.proofs.Common.{filter_in, flat_map, good_link, has_new_value, has_part_stayed, here, in_file}
use Rattle.emit_relocate.proofs.Common.{in_filter, later, length, map, none_in_nil, not, number_or_0, option_and_then}
use Rattle.emit_relocate.proofs.Common.{own_sites, patch_of, range_of, refl, section_ref, sections_in, site_field}
use Rattle.emit_relocate.proofs.Common.{sites, subst, sym, true, ℕ, ◌&&◌, ◌++◌, ◌+◌, ◌-◌, ◌<◌, ◌==◌, ◌∙◌, ◌∷◌, ◌≡◌, ◌≤◌}
use Rattle.std.proofs.Common.{None, nat_le}
use Rattle.std.proofs.lemmas.Bool.Decides.{nat_tests}
use Rattle.elfobj.specs.RelocationKinds.{width}
use Rattle.ldmodel.specs.Segments.{file_offset, segments}
use Rattle.ldmodel.specs.Stayed.{LinkedPiece, has_stayed, has_other_value, linked_piece, linked_pieces, link_pieces}
use Rattle.ldmodel.specs.Stayed.{retargeted, sites_in, stayed, site_value_in}
use Rattle.ldmodel.specs.Stayed.{FileRange as FileBytes}
use Rattle.emit_relocate.specs.Patched.{AreAllPatched, AreInFile, AreOfProfile, AreOneEach, AreSized, IsPatchOfSite}
use Rattle.emit_relocate.specs.Patched.{file_patch}
use Rattle.emit_relocate.proofs.Changing.{patches_of}
use Rattle.emit_relocate.proofs.Paired.{all_given, zip_append}
use Rattle.ldmodel_laws.proofs.Finding.{filter_map_in, flat_map_in, in_filter_map, in_flat_map, in_map}
use Rattle.emit_relocate.proofs.Lists.{filter_nothing, filter_where, partner_in, partner_of}
use Rattle.emit_relocate.proofs.Settling.{Home, all_sites, belongs, home, keyed, lies, lies_as, own, same_where}

-- a field that stands in its place in the file
record Stands (r : FileRange) (t : Site) (f : List ℕ) (q : Patch) : Type 0 where
  is : q ≡ record { offset = r.offset + t.relocation.offset; field = f }
  fits : t.relocation.offset + length f ≤ r.length

stands : (r : FileRange) (t : Site) (f : List ℕ) (q : Patch)
    → in_file r (record { offset = t.relocation.offset; field = f }) ≡ Some q → Stands r t f q
stands r t f q e = go (nat_le (t.relocation.offset + length f) r.length) refl e
  where
    go : (b : Bool) → nat_le (t.relocation.offset + length f) r.length ≡ b
        → cond b (Some (record { offset = r.offset + t.relocation.offset; field = f })) None ≡ Some q → Stands r t f q
    go true k h = record { is = cc; fits = grind (arith, nat_tests) }
    go false k h = cc

-- a site with a patch has a field
record Patched (l : KnownLink) (r : FileRange) (t : Site) (q : Patch) : Type 0 where
  field : List ℕ
  is_field : site_field l.project l.layout t ≡ Ok field
  stands_at : Stands r t field q

patched : (l : KnownLink) (r : FileRange) (t : Site) (q : Patch) → file_patch_at l r t ≡ Some q → Patched l r t q
patched l r t q e = go (site_field l.project l.layout t) refl e
  where
    go : (a : Result (List ℕ) Fault) → site_field l.project l.layout t ≡ a
        → option_and_then (in_file r) (patch_of t a) ≡ Some q → Patched l r t q
    go (Ok f) k h = record { field = f; is_field = k; stands_at = stands r t f q h }
    go (Err f) k h = cc

-- a site with a field that fits has the patch
gives : (l : KnownLink) (x : LinkedPiece) (t : Site) (f : List ℕ) (r : FileRange)
    → site_field l.project l.layout t ≡ Ok f → x.range ≡ range_of r → t.relocation.offset + length f ≤ r.length
    → file_patch_at l r t ≡ Some (file_patch x t f)
gives l x t f r is e fits =
    let passes : nat_le (t.relocation.offset + length f) r.length ≡ true = grind (arith, nat_tests) in
    ap (λ a. option_and_then (in_file r) (patch_of t a)) is
    ∙ ap (λ b. cond b (Some (record { offset = r.offset + t.relocation.offset; field = f })) None) passes
    ∙ ap (λ a. Some (record { offset = a.offset + t.relocation.offset; field = f })) (sym e)

module _ (l : KnownLink) where
  -- of an object and a section of the project
  record Member (s : ObjectSection) : Type 0 where
    object : Contains l.project.objects s.object
    section : Contains s.object.object.sections s.section

  member : (s : ObjectSection) → Contains (sections_in l.project.objects) s → Member s
  member s c =
      let found = in_flat_map (λ (o : NamedObject). map (λ x. record { object = o; section = x }) o.object.sections)
      l.project.objects s c in
      let mapped = in_map (λ (x : LinkedSection). record { object = found.origin; section = x })
      found.origin.object.sections s found.gives in
      let object : found.origin ≡ s.object = ap (λ (z : ObjectSection). z.object) mapped.gives in
      let section : mapped.origin ≡ s.section = ap (λ (z : ObjectSection). z.section) mapped.gives in
      record {
        object = subst (λ o. Contains l.project.objects o) object found.among;
        section = subst (λ x. Contains s.object.object.sections x) section
            (subst (λ (o : NamedObject). Contains o.object.sections mapped.origin) object mapped.among);
      }

  module _ (old : GoodLink) (profile : AreOfProfile l.project) where
    own_profile : (s : ObjectSection) → Contains (sections_in l.project.objects) s → (t : Site)
        → Contains (own_sites l s) t → HasRelocationsOfProfile (length s.object.object.symbols) t.section
    own_profile s c t d =
        let m = member s c in
        subst (λ x. HasRelocationsOfProfile (length s.object.object.symbols) x) (sym (own old l s t d).section)
        (profile s.object s.section m.object m.section)

    -- the field of a site ends in its section
    own_end : (s : ObjectSection) → Contains (sections_in l.project.objects) s → (t : Site)
        → Contains (own_sites l s) t → field_end t.relocation ≤ t.section.size
    own_end s c t d =
        let of_own = own old l s t d in
        let rows = own_profile s c t d in
        let one = All-contains (IsRelocationOfProfile (length s.object.object.symbols) t.section.size)
        t.section.relocations t.relocation rows.each
        (subst (λ (z : LinkedSection). Contains z.relocations t.relocation) (sym of_own.section) of_own.relocation) in
        one.field

module _ (old : GoodLink) (l : KnownLink) (range : SectionRef → Option FileRange)
    (by_piece : IsPermutation (sites l.project l.layout)
    (flat_map (sites_in l.project) (linked_pieces l.project l.layout)))
    (both : (x : LinkedPiece) → Contains (link_pieces (good_link l)) x → has_stayed old x ≡ true
    → Contains (stayed old (good_link l)) x) (profile : AreOfProfile l.project) where
  inside : (s : ObjectSection) (t : Site) → Contains (sections_in l.project.objects) s → Contains (own_sites l s) t
      → Contains (sites l.project l.layout) t
  inside s t c d =
      subst (λ ts. Contains ts t) (all_sites l) (flat_map_in (own_sites l) (sections_in l.project.objects) s t c d)

  patch_at : (s : ObjectSection) (c : Evaluated) (r : Option FileRange) (h : IsEvaluatedOf old l range s c)
      → IsEvaluatedAt old l (section_ref h.key s) r s c → Contains (sections_in l.project.objects) s → (q : Patch)
      → Contains c.patches q → IsPatchOfSite old (good_link l) q
  patch_at s c None h k among q d = absurd (none_in_nil q (subst (λ qs. Contains qs q) k.patches d))
  patch_at s c (Some r) h k among q d =
      let given = in_filter_map (file_patch_at l r) c.sites q (subst (λ qs. Contains qs q) k.patches d) in
      let t : Site = given.origin in
      let kept = in_filter (has_new_value old l) (own_sites l s) t (subst (λ ts. Contains ts t) k.sites given.among) in
      let at : Home old l t = home old l by_piece t (inside s t among kept.0) in
      let stays = k.stayed t kept.0 at.piece (keyed old l s h.key h.named t kept.0 at) in
      let p = patched l r t q given.gives in
      let offset : at.piece.range.offset ≡ r.offset = ap (λ a. a.offset) stays.1 in
      let long : at.piece.range.length ≡ r.length = ap (λ a. a.length) stays.1 in
      let field : q.field ≡ p.field = ap (λ (x : Patch). x.field) p.stands_at.is in
      let place : q.offset ≡ r.offset + t.relocation.offset = ap (λ (x : Patch). x.offset) p.stands_at.is in
      let fits = p.stands_at.fits in
      record {
        piece = at.piece;
        site = t;
        among_stayed = both at.piece at.among stays.0;
        among = at.within;
        apart = (own_profile l old profile s among t kept.0).apart;
        is_field = p.is_field ∙ ap Ok (sym field);
        place = p.stands_at.is
            ∙ ap (λ n. record { offset = n + t.relocation.offset; field = p.field }) (sym offset)
            ∙ ap (λ f. file_patch at.piece t f) (sym field);
        inside = omega (arith, place, fits, offset, long, ap length field);
      }

  pub each_patch : (a b : Results) → a.patches ≡ [] → AreChanged old l range (sections_in l.project.objects) a b
      → All (IsPatchOfSite old (good_link l)) b.patches
  each_patch a b none h =
      All-weaker (Contains b.patches) (IsPatchOfSite old (good_link l)) (λ q d.
      let found = in_flat_map patches_of h.sections q
      (subst (λ qs. Contains qs q) (h.patches ∙ ap (λ qs. qs ++ flat_map patches_of h.sections) none) d) in
      let s = partner_of (IsEvaluatedOf old l range) (sections_in l.project.objects) h.sections found.origin h.each
      found.among in
      patch_at s.partner found.origin (range (section_ref s.related.key s.partner)) s.related s.related.outcome s.among
      q found.gives) b.patches (All-contains_itself b.patches)

-- ---- where all that stayed is known to have stayed

-- an input section with bytes in the file has as many as its size
range_whole : (p : Project) (s : Layout) (x : LinkedPiece) → Contains (linked_pieces p s) x → 0 < x.range.length
    → x.range.length ≡ x.size
unfolding linked_pieces
range_whole p s x c some =
    let found = in_flat_map (λ (q : PlacedOutput). map (linked_piece p (segments s.sections) q) q.pieces) s.sections x c
    in
    let mapped = in_map (linked_piece p (segments s.sections) found.origin) found.origin.pieces x found.gives in
    whole found.origin mapped.origin
    (found.origin.has_file_bytes && not (mapped.origin.piece.size == 0))
    (ap (λ (y : LinkedPiece). y.range.length) mapped.gives) (ap (λ (y : LinkedPiece). y.size) mapped.gives)
  where
    whole : (q : PlacedOutput) (z : PlacedPiece) (b : Bool)
        → (cond {A = FileBytes} b
        (record { offset = file_offset (segments s.sections) q + (z.start - q.start); length = z.piece.size })
        (record { offset = 0; length = 0 })).length ≡ x.range.length
        → z.piece.size ≡ x.size → x.range.length ≡ x.size
    whole q z true e f = sym e ∙ f
    whole q z false e f = absurd (omega (arith, some, e))

-- a site whose symbol has another number has another value
moved_of : (old : GoodLink) (l : KnownLink) (t : Site) → has_other_value old (good_link l) t ≡ true
    → has_new_value old l t ≡ true
moved_of old l t e = go (has_new_value old l t) refl
  where
    go : (b : Bool) → has_new_value old l t ≡ b → b ≡ true
    go true k = refl
    go false k =
        let same : site_value_in old t ≡ site_value_in (good_link l) t = ap number_or_0 ((same_where old l t).0 k) in
        let none : has_other_value old (good_link l) t ≡ false =
        ap not (eq-eqb (site_value_in old t) (site_value_in (good_link l) t) same) in
        cc

among_moved : (old new : GoodLink) (t : Site) → Contains (retargeted old new) t → has_other_value old new t ≡ true
unfolding retargeted
among_moved old new t c = (in_filter (has_other_value old new) (flat_map (sites_in new.project) (stayed old new)) t c).1

abbrev pub HasWidth : Site → Patch → Type 0
HasWidth t q = length q.field ≡ width t.relocation.kind

module _ (old : GoodLink) (l : KnownLink) (range : SectionRef → Option FileRange) (complete : IsComplete range old l)
    (by_piece : IsPermutation (sites l.project l.layout)
    (flat_map (sites_in l.project) (linked_pieces l.project l.layout)))
    (wide : (x : LinkedPiece) (t : Site) (field : List ℕ) → Contains (sites_in l.project x) t
    → site_field l.project l.layout t ≡ Ok field → length field ≡ width t.relocation.kind) where
  module _ (of_stayed : (x : LinkedPiece) → Contains (stayed old (good_link l)) x
      → Contains (link_pieces (good_link l)) x × (has_stayed old x ≡ true)) (profile : AreOfProfile l.project)
      (sized : AreSized (good_link l)) where
    module _ (x : LinkedPiece) (t : Site) (f : List ℕ) (stays : Contains (stayed old (good_link l)) x)
        (some : 0 < x.range.length) (within : Contains (sites_in l.project x) t) (moved : has_new_value old l t ≡ true)
        (is : site_field l.project l.layout t ≡ Ok f) where
      abbrev home_is : Home old l t
      home_is = record {
        piece = x;
        among = (of_stayed x stays).0;
        within = within;
        belongs_to = belongs l.project x t within;
      }

      all_at : (s : ObjectSection) (c : Evaluated) (r : Option FileRange) (h : IsEvaluatedOf old l range s c)
          → range (section_ref h.key s) ≡ r → IsEvaluatedAt old l (section_ref h.key s) r s c
          → Contains (sections_in l.project.objects) s → Contains (own_sites l s) t
          → Contains c.patches (file_patch x t f)
      all_at s c None h e k among d =
          let out : has_stayed old x ≡ false =
          complete (section_ref h.key s) x e (keyed old l s h.key h.named t d home_is) in
          absurd (let no : ⊥ = (let y : true ≡ false = sym ((of_stayed x stays).1) ∙ out in cc) in no)
      all_at s c (Some r) h e k among d =
          let at = k.stayed t d x (keyed old l s h.key h.named t d home_is) in
          let end = own_end l old profile s among t d in
          let long : x.range.length ≡ r.length = ap (λ a. a.length) at.1 in
          let whole : x.range.length ≡ x.size = range_whole l.project l.layout x (of_stayed x stays).0 some in
          let size : x.size ≡ t.section.size = sized x t (of_stayed x stays).0 within in
          let fits : t.relocation.offset + length f ≤ r.length =
          omega (arith, end, wide x t f within is, long, whole, size) in
          subst (λ qs. Contains qs (file_patch x t f)) (sym k.patches)
          (filter_map_in (file_patch_at l r) c.sites t (file_patch x t f)
          (subst (λ ts. Contains ts t) (sym k.sites) (filter_in (has_new_value old l) (own_sites l s) t d moved))
          (gives l x t f r is at.1 fits))

    pub all_patches : (a b : Results) → a.patches ≡ [] → AreChanged old l range (sections_in l.project.objects) a b
        → AreAllPatched old (good_link l) b.patches
    all_patches a b none h = λ x t f stays some within again is.
        let among : Contains (sites l.project l.layout) t =
        Contains-permutation (flat_map (sites_in l.project) (linked_pieces l.project l.layout))
        (sites l.project l.layout) t (IsPermutation-sym _ _ by_piece)
        (flat_map_in (sites_in l.project) (linked_pieces l.project l.layout) x t (of_stayed x stays).0 within) in
        let found = in_flat_map (own_sites l) (sections_in l.project.objects) t
        (subst (λ ts. Contains ts t) (sym (all_sites l)) among) in
        let c = partner_in (IsEvaluatedOf old l range) (sections_in l.project.objects) h.sections found.origin h.each
        found.among in
        let patches : b.patches ≡ flat_map patches_of h.sections =
        h.patches ∙ ap (λ qs. qs ++ flat_map patches_of h.sections) none in
        subst (λ qs. Contains qs (file_patch x t f)) (sym patches)
        (flat_map_in patches_of h.sections c.partner (file_patch x t f) c.among
        (all_at x t f stays some within (moved_of old l t (among_moved old (good_link l) t again)) is found.origin
        c.partner (range (section_ref c.related.key found.origin)) c.related refl c.related.outcome found.among
        found.gives))

  -- ---- one patch for each site that is retargeted

  module _ (by_part : (x : LinkedPiece) → Contains (link_pieces (good_link l)) x
      → has_part_stayed old (good_link l) x.object x.part ≡ has_stayed old x) where
    abbrev both : Site → Bool
    both t = lies old l t && has_new_value old l t

    -- where each section with sites has its bytes in the file
    module _ (profile : AreOfProfile l.project) (filed : AreInFile (good_link l))
        (found : (x : LinkedPiece) → Contains (link_pieces (good_link l)) x → (t : Site)
        → Contains (sites_in l.project x) t → HasField (good_link l) t) where
      one_at : (s : ObjectSection) (c : Evaluated) (r : Option FileRange) (h : IsEvaluatedOf old l range s c)
          → range (section_ref h.key s) ≡ r → IsEvaluatedAt old l (section_ref h.key s) r s c
          → Contains (sections_in l.project.objects) s
          → ((t : Site) → Contains (own_sites l s) t → Contains (sites l.project l.layout) t)
          → AllZip HasWidth (filter both (own_sites l s)) c.patches
      one_at s c None h e k among inside =
          let none : filter both (own_sites l s) ≡ filter (λ t. false) (own_sites l s) =
          filter_where both (λ t. false) (own_sites l s) (λ t d.
          let at : Home old l t = home old l by_piece t (inside t d) in
          let out : lies old l t ≡ false = lies_as old l range complete by_piece by_part t at
          ∙ complete (section_ref h.key s) at.piece e (keyed old l s h.key h.named t d at) in
          ap (λ b. b && has_new_value old l t) out) in
          subst (λ ts. AllZip HasWidth ts c.patches) (sym (none ∙ filter_nothing (own_sites l s)))
          (subst (AllZip HasWidth []) (sym k.patches) tt)
      one_at s c (Some r) h e k among inside =
          let same : c.sites ≡ filter both (own_sites l s) =
          k.sites
          ∙ filter_where (has_new_value old l) both (own_sites l s) (λ t d.
          let at : Home old l t = home old l by_piece t (inside t d) in
          let here : lies old l t ≡ true = lies_as old l range complete by_piece by_part t at
          ∙ (k.stayed t d at.piece (keyed old l s h.key h.named t d at)).0 in
          sym (ap (λ b. b && has_new_value old l t) here)) in
          subst (λ ts. AllZip HasWidth ts c.patches) same
          (subst (AllZip HasWidth c.sites) (sym k.patches)
          (all_given HasWidth (file_patch_at l r) c.sites (λ t d.
          let kept = in_filter (has_new_value old l) (own_sites l s) t (subst (λ ts. Contains ts t) k.sites d) in
          let at : Home old l t = home old l by_piece t (inside t kept.0) in
          let stays = k.stayed t kept.0 at.piece (keyed old l s h.key h.named t kept.0 at) in
          let field = found at.piece at.among t at.within in
          let width = wide at.piece t field.0 at.within field.1 in
          let end = own_end l old profile s among t kept.0 in
          let long : at.piece.range.length ≡ r.length = ap (λ a. a.length) stays.1 in
          let size : at.piece.range.length ≡ t.section.size = filed at.piece t at.among at.within in
          let fits : t.relocation.offset + length field.0 ≤ r.length = omega (arith, end, width, long, size) in
          record {
            given = file_patch at.piece t field.0;
            is = gives l at.piece t field.0 r field.1 stays.1 fits;
            related = width;
          })))

      one_of_each : (ss : List ObjectSection) (cs : List Evaluated) → AllZip (IsEvaluatedOf old l range) ss cs
          → ((s : ObjectSection) → Contains ss s → Contains (sections_in l.project.objects) s)
          → ((s : ObjectSection) (t : Site) → Contains ss s → Contains (own_sites l s) t
          → Contains (sites l.project l.layout) t)
          → AllZip HasWidth (filter both (flat_map (own_sites l) ss)) (flat_map patches_of cs)
      one_of_each [] [] h among inside = tt
      one_of_each [] (c ∷ cs) h among inside = absurd h
      one_of_each (s ∷ ss) [] h among inside = absurd h
      one_of_each (s ∷ ss) (c ∷ cs) h among inside =
          subst (λ ts. AllZip HasWidth ts (c.patches ++ flat_map patches_of cs))
          (sym (filter-append both (own_sites l s) (flat_map (own_sites l) ss)))
          (zip_append HasWidth (filter both (own_sites l s)) (filter both (flat_map (own_sites l) ss)) c.patches
          (flat_map patches_of cs)
          (one_at s c (range (section_ref h.0.key s)) h.0 refl h.0.outcome (among s (here s ss))
          (λ t d. inside s t (here s ss) d))
          (one_of_each ss cs h.1 (λ z d. among z (later s ss z d)) (λ z t d e. inside z t (later s ss z d) e)))

      pub one_each : (a b : Results) → a.patches ≡ [] → AreChanged old l range (sections_in l.project.objects) a b
          → IsPermutation (filter both (sites l.project l.layout)) (retargeted old (good_link l))
          → AreOneEach old (good_link l) b.patches
      one_each a b none h permuted =
          let each = one_of_each (sections_in l.project.objects) h.sections h.each (λ s d. d) (λ s t d e.
          subst (λ ts. Contains ts t) (all_sites l) (flat_map_in (own_sites l) (sections_in l.project.objects) s t d e))
          in
          let patches : b.patches ≡ flat_map patches_of h.sections =
          h.patches ∙ ap (λ qs. qs ++ flat_map patches_of h.sections) none in
          record {
            sites = filter both (sites l.project l.layout);
            parts = permuted;
            widths = subst (AllZip HasWidth (filter both (sites l.project l.layout))) (sym patches)
                (subst (λ ts. AllZip HasWidth (filter both ts) (flat_map patches_of h.sections)) (all_sites l) each);
          }
