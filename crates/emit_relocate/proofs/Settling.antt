-- What was evaluated of all input sections, beside a link of which some stayed: no fault is missed, and each site that
-- lies outside of what stayed or whose symbol has another value counts once.
use Rattle.emit_relocate.proofs.Common.{AllZip, Bool, Contains, Contains-permutation, Evaluated, FileRange, GoodLink}
use Rattle.emit_relocate.proofs.Common.{HasField, HasSameValue, InCommon, InTable, IsComplete, IsEvaluatedAt}
use Rattle.emit_relocate.proofs.Common.{IsEvaluatedOf, IsPermutation, IsPieceOf, KnownLink, LinkedSection, List}
use Rattle.emit_relocate.proofs.Common.{NamedObject, NotInOutput, Number, ObjectPlace, ObjectSection, Option, Part}
use Rattle.emit_relocate.proofs.Common.{PlacedPiece, Project, Relocation, SectionIndex, SectionRef, Site, Some, [], ap}
use Rattle.emit_relocate.proofs.Common.{bytes_eq, bytes_eq-Decides, cond, eqb-true, false, fault_at, filter}
use Rattle.emit_relocate.proofs.Common.{filter-append, filter_map, filter_map-append, find, flat_map, flat_map-append}
use Rattle.emit_relocate.proofs.Common.{good_link, has_new_value, has_part_stayed, here, in_filter, is_evaluated}
use Rattle.emit_relocate.proofs.Common.{is_same_value, later, length, lies_in_stayed, named_object, none_in_nil, not}
use Rattle.emit_relocate.proofs.Common.{object_named, option_map_or, own_sites, placed_part, refl, section_numbered}
use Rattle.emit_relocate.proofs.Common.{section_ref, sections_in, sections_of, sites, sites_of_section, subst, sym}
use Rattle.emit_relocate.proofs.Common.{true, ◌&&◌, ◌++◌, ◌+◌, ◌==◌, ◌||◌, ◌∙◌, ◌∷◌, ◌≡◌}
use Rattle.std.proofs.Common.{◌↔◌, None}
use Rattle.std.specs.Result.{result_err}
use Rattle.ldmodel.specs.Relocations.{sites_at}
use Rattle.ldmodel.specs.Stayed.{LinkedPiece, has_stayed, linked_pieces, link_pieces, sites_in, sites_in_part}
use Rattle.ldmodel.specs.Stayed.{sites_in_section}
use Rattle.ldmodel.specs.SymbolValues.{SymbolValue, NotDefined}
use Rattle.emit_relocate.proofs.Changing.{sites_of}
use Rattle.ldmodel_laws.proofs.Finding.{flat_map_in, in_flat_map, in_map}
use Rattle.emit_relocate.proofs.Lists.{count_either, filter_map_kept, filter_where, filter_whole}
use Rattle.emit_relocate.proofs.Moving.{unmoved}

-- ---- the sites of all input sections are those of the link

module _ (l : KnownLink) where
  of_sections : (o : NamedObject) (xs : List LinkedSection) → flat_map (own_sites l) (sections_of o xs)
      ≡ flat_map (sites_of_section l.layout o) xs
  of_sections o [] = refl
  of_sections o (x ∷ xs) = ap (λ r. sites_of_section l.layout o x ++ r) (of_sections o xs)

  of_objects : (os : List NamedObject) → flat_map (own_sites l) (sections_in os)
      ≡ flat_map (λ (o : NamedObject). flat_map (sites_of_section l.layout o) o.object.sections) os
  of_objects [] = refl
  of_objects (o ∷ os) =
      flat_map-append (own_sites l) (sections_of o o.object.sections) (sections_in os)
      ∙ ap (λ r. r ++ flat_map (own_sites l) (sections_in os)) (of_sections o o.object.sections)
      ∙ ap (λ r. flat_map (sites_of_section l.layout o) o.object.sections ++ r) (of_objects os)

  pub all_sites : flat_map (own_sites l) (sections_in l.project.objects) ≡ sites l.project l.layout
  unfolding sites
  all_sites = of_objects l.project.objects

-- ---- the input section of a site

-- an input section has the object and the number of its sites
pub record Belongs (x : LinkedPiece) (t : Site) : Type 0 where
  pub object : x.object ≡ t.object.name
  pub part : x.part ≡ InTable t.section.number

found_passes : {X : Type 0} (test : X → Bool) (xs : List X) (y : X) → find test xs ≡ Some y → test y ≡ true
found_passes test [] y e = absurd (let no : ⊥ = cc in no)
found_passes test (x ∷ xs) y e = go (test x) refl e (found_passes test xs y)
  where
    go : (b : Bool) → test x ≡ b → cond b (Some x) (find test xs) ≡ Some y → (find test xs ≡ Some y → test y ≡ true)
        → test y ≡ true
    go true t k rest = let is : x ≡ y = cc in subst (λ z. test z ≡ true) is t
    go false t k rest = rest k

same_index : (a b : SectionIndex) → (a.0 == b.0) ≡ true → a ≡ b
same_index a b e = ap (λ n. record { 0 = n }) (eqb-true a.0 b.0 e)

module _ (p : Project) (x : LinkedPiece) (t : Site) where
  in_section : (k : SectionIndex) (o : NamedObject) (y : Option LinkedSection) → x.part ≡ InTable k
      → object_named p x.object ≡ Some o → section_numbered o k ≡ y → Contains (sites_in_section o x y) t → Belongs x t
  in_section k o None part named is c = absurd (none_in_nil t c)
  in_section k o (Some y) part named is c =
      let mapped = in_map (λ (r : Relocation). record { object = o; section = y; start = x.start; relocation = r })
      (filter (λ (r : Relocation). is_evaluated r.kind) y.relocations) t c in
      let object : o ≡ t.object = ap (λ (u : Site). u.object) mapped.gives in
      let section : y ≡ t.section = ap (λ (u : Site). u.section) mapped.gives in
      record {
        object = sym ((bytes_eq-Decides o.name x.object).0 (found_passes (λ (z : NamedObject). bytes_eq z.name x.object)
            p.objects o named))
            ∙ ap (λ (z : NamedObject). z.name) object;
        part = part
            ∙ ap InTable (sym (same_index y.number k (found_passes (λ (z : LinkedSection). z.number.0 == k.0)
            o.object.sections y is))
            ∙ ap (λ (z : LinkedSection). z.number) section);
      }

  in_object : (k : SectionIndex) (o : Option NamedObject) → x.part ≡ InTable k → object_named p x.object ≡ o
      → Contains (option_map_or (λ (z : NamedObject). sites_in_section z x (section_numbered z k)) o []) t
      → Belongs x t
  in_object k None part named c = absurd (none_in_nil t c)
  in_object k (Some o) part named c = in_section k o (section_numbered o k) part named refl c

  in_part : (part : Part) → x.part ≡ part → Contains (sites_in_part p x part) t → Belongs x t
  in_part (InTable k) is c = in_object k (object_named p x.object) is refl c
  in_part (InCommon k) is c = absurd (none_in_nil t c)

  pub belongs : Contains (sites_in p x) t → Belongs x t
  belongs c = in_part x.part refl c

-- ---- values that are compared

same_value : (a b : SymbolValue) → is_same_value a b ≡ true → a ≡ b
same_value (Number a) (Number b) e = ap Number (eqb-true a b e)
same_value (Number a) NotDefined e = cc
same_value (Number a) NotInOutput e = cc
same_value NotDefined (Number b) e = cc
same_value NotDefined NotDefined e = refl
same_value NotDefined NotInOutput e = cc
same_value NotInOutput (Number b) e = cc
same_value NotInOutput NotDefined e = cc
same_value NotInOutput NotInOutput e = refl

not_false : (b : Bool) → not b ≡ false → b ≡ true
not_false true e = refl
not_false false e = cc

-- the field of a site without a fault
no_fault : (l : KnownLink) (t : Site) → HasField (good_link l) t → fault_at l t ≡ None
no_fault l t h = ap result_err h.1

module _ (old : GoodLink) (l : KnownLink) where
  pub same_where : (t : Site) → (has_new_value old l t ≡ false) ↔ HasSameValue old (good_link l) t
  same_where t = (λ e. same_value _ _ (not_false _ e), λ e. unmoved old l t e)

  -- the input section of a site, of an object and a section
  pub record Home (t : Site) : Type 0 where
    pub piece : LinkedPiece
    pub among : Contains (link_pieces (good_link l)) piece
    pub within : Contains (sites_in l.project piece) t
    pub belongs_to : Belongs piece t

  module _ (by_piece : IsPermutation (sites l.project l.layout)
      (flat_map (sites_in l.project) (linked_pieces l.project l.layout))) where
    pub home : (t : Site) → Contains (sites l.project l.layout) t → Home t
    home t c =
        let found = in_flat_map (sites_in l.project) (linked_pieces l.project l.layout) t
        (Contains-permutation (sites l.project l.layout)
        (flat_map (sites_in l.project) (linked_pieces l.project l.layout)) t by_piece c) in
        record {
          piece = found.origin;
          among = found.among;
          within = found.gives;
          belongs_to = belongs l.project found.origin t found.gives;
        }

  -- a site of a section of an object
  module _ (s : ObjectSection) where
    pub record Own (t : Site) : Type 0 where
      pub object : t.object ≡ s.object
      pub section : t.section ≡ s.section
      pub relocation : Contains s.section.relocations t.relocation

    own_at : (a : Option PlacedPiece) (t : Site)
        → Contains (option_map_or (λ (y : PlacedPiece). sites_at s.object s.section y.start) a []) t → Own t
    own_at None t c = absurd (none_in_nil t c)
    own_at (Some y) t c =
        let mapped = in_map
        (λ (r : Relocation). record { object = s.object; section = s.section; start = y.start; relocation = r })
        (filter (λ (r : Relocation). is_evaluated r.kind) s.section.relocations) t c in
        record {
          object = ap (λ (u : Site). u.object) (sym mapped.gives);
          section = ap (λ (u : Site). u.section) (sym mapped.gives);
          relocation = subst (λ r. Contains s.section.relocations r) (ap (λ (u : Site). u.relocation) mapped.gives)
              ((in_filter (λ (r : Relocation). is_evaluated r.kind) s.section.relocations mapped.origin
              mapped.among).0);
        }

    pub own : (t : Site) → Contains (own_sites l s) t → Own t
    own t c = own_at (placed_part l.layout s.object.name (InTable s.section.number)) t c

    -- its input section is that of the key
    pub keyed : (key : ObjectPlace) → named_object l key ≡ Some s.object → (t : Site) → Contains (own_sites l s) t
        → (h : Home t) → IsPieceOf l (section_ref key s) h.piece
    keyed key named t c h =
        let of_own = own t c in
        record {
          among = h.among;
          object_is = h.belongs_to.object ∙ ap (λ (o : NamedObject). o.name) of_own.object
              ∙ sym (ap (λ (a : Option NamedObject). option_map_or (λ (o : NamedObject). o.name) a []) named);
          part_is = h.belongs_to.part ∙ ap (λ (x : LinkedSection). InTable x.number) of_own.section;
        }

  -- ---- no fault is missed

  module _ (range : SectionRef → Option FileRange)
      (by_piece : IsPermutation (sites l.project l.layout)
      (flat_map (sites_in l.project) (linked_pieces l.project l.layout)))
      (settled : (x : LinkedPiece) (t : Site) → Contains (link_pieces (good_link l)) x → has_stayed old x ≡ true
      → Contains (sites_in l.project x) t → HasSameValue old (good_link l) t → HasField (good_link l) t) where
    faults_at : (key : ObjectPlace) (s : ObjectSection) (c : Evaluated) (r : Option FileRange)
        → named_object l key ≡ Some s.object → IsEvaluatedAt old l (section_ref key s) r s c
        → ((t : Site) → Contains (own_sites l s) t → Contains (sites l.project l.layout) t)
        → filter_map (fault_at l) c.sites ≡ filter_map (fault_at l) (own_sites l s)
    faults_at key s c None named h inside = ap (filter_map (fault_at l)) h.sites
    faults_at key s c (Some r) named h inside =
        ap (filter_map (fault_at l)) h.sites
        ∙ filter_map_kept (has_new_value old l) (fault_at l) (own_sites l s) (λ t d e.
        let at : Home t = home by_piece t (inside t d) in
        no_fault l t (settled at.piece t at.among ((h.stayed t d at.piece (keyed s key named t d at)).0) at.within
        ((same_where t).0 e)))

    faults_of_some : (ss : List ObjectSection) (cs : List Evaluated) → AllZip (IsEvaluatedOf old l range) ss cs
        → ((s : ObjectSection) (t : Site) → Contains ss s → Contains (own_sites l s) t
        → Contains (sites l.project l.layout) t)
        → filter_map (fault_at l) (flat_map sites_of cs) ≡ filter_map (fault_at l) (flat_map (own_sites l) ss)
    faults_of_some [] [] h inside = refl
    faults_of_some [] (c ∷ cs) h inside = absurd h
    faults_of_some (s ∷ ss) [] h inside = absurd h
    faults_of_some (s ∷ ss) (c ∷ cs) h inside =
        filter_map-append (fault_at l) c.sites (flat_map sites_of cs)
        ∙ ap (λ fs. fs ++ filter_map (fault_at l) (flat_map sites_of cs))
        (faults_at h.0.key s c (range (section_ref h.0.key s)) h.0.named h.0.outcome (λ t d. inside s t (here s ss) d))
        ∙ ap (λ fs. filter_map (fault_at l) (own_sites l s) ++ fs)
        (faults_of_some ss cs h.1 (λ z t d e. inside z t (later s ss z d) e))
        ∙ sym (filter_map-append (fault_at l) (own_sites l s) (flat_map (own_sites l) ss))

    pub faults_of_all : (cs : List Evaluated) → AllZip (IsEvaluatedOf old l range) (sections_in l.project.objects) cs
        → filter_map (fault_at l) (flat_map sites_of cs) ≡ filter_map (fault_at l) (sites l.project l.layout)
    faults_of_all cs h =
        faults_of_some (sections_in l.project.objects) cs h (λ s t d e.
        subst (λ ts. Contains ts t) (all_sites l) (flat_map_in (own_sites l) (sections_in l.project.objects) s t d e))
        ∙ ap (filter_map (fault_at l)) (all_sites l)

  -- ---- which sites are evaluated

  abbrev pub lies : Site → Bool
  lies t = lies_in_stayed old (good_link l) t

  abbrev pub is_due : Site → Bool
  is_due t = not (lies t) || has_new_value old l t

  module _ (range : SectionRef → Option FileRange) (complete : IsComplete range old l)
      (by_piece : IsPermutation (sites l.project l.layout)
      (flat_map (sites_in l.project) (linked_pieces l.project l.layout)))
      (by_part : (x : LinkedPiece) → Contains (link_pieces (good_link l)) x
      → has_part_stayed old (good_link l) x.object x.part ≡ has_stayed old x) where
    pub lies_as : (t : Site) → (h : Home t) → lies t ≡ has_stayed old h.piece
    lies_as t h =
        ap (λ n. has_part_stayed old (good_link l) n (InTable t.section.number)) (sym h.belongs_to.object)
        ∙ ap (has_part_stayed old (good_link l) h.piece.object) (sym h.belongs_to.part)
        ∙ by_part h.piece h.among

    due_at : (key : ObjectPlace) (s : ObjectSection) (c : Evaluated) (r : Option FileRange)
        → named_object l key ≡ Some s.object → range (section_ref key s) ≡ r
        → IsEvaluatedAt old l (section_ref key s) r s c
        → ((t : Site) → Contains (own_sites l s) t → Contains (sites l.project l.layout) t)
        → c.sites ≡ filter is_due (own_sites l s)
    due_at key s c None named is h inside =
        h.sites
        ∙ filter_whole is_due (own_sites l s) (λ t d.
        let at : Home t = home by_piece t (inside t d) in
        let out : lies t ≡ false = lies_as t at ∙ complete (section_ref key s) at.piece is (keyed s key named t d at) in
        ap (λ b. not b || has_new_value old l t) out)
    due_at key s c (Some r) named is h inside =
        h.sites
        ∙ filter_where (has_new_value old l) is_due (own_sites l s) (λ t d.
        let at : Home t = home by_piece t (inside t d) in
        let here : lies t ≡ true = lies_as t at ∙ (h.stayed t d at.piece (keyed s key named t d at)).0 in
        sym (ap (λ b. not b || has_new_value old l t) here))

    due_of_some : (ss : List ObjectSection) (cs : List Evaluated) → AllZip (IsEvaluatedOf old l range) ss cs
        → ((s : ObjectSection) (t : Site) → Contains ss s → Contains (own_sites l s) t
        → Contains (sites l.project l.layout) t)
        → flat_map sites_of cs ≡ filter is_due (flat_map (own_sites l) ss)
    due_of_some [] [] h inside = refl
    due_of_some [] (c ∷ cs) h inside = absurd h
    due_of_some (s ∷ ss) [] h inside = absurd h
    due_of_some (s ∷ ss) (c ∷ cs) h inside =
        ap (λ ts. ts ++ flat_map sites_of cs)
        (due_at h.0.key s c (range (section_ref h.0.key s)) h.0.named refl h.0.outcome
        (λ t d. inside s t (here s ss) d))
        ∙ ap (λ ts. filter is_due (own_sites l s) ++ ts)
        (due_of_some ss cs h.1 (λ z t d e. inside z t (later s ss z d) e))
        ∙ sym (filter-append is_due (own_sites l s) (flat_map (own_sites l) ss))

    pub due_of_all : (cs : List Evaluated) → AllZip (IsEvaluatedOf old l range) (sections_in l.project.objects) cs
        → flat_map sites_of cs ≡ filter is_due (sites l.project l.layout)
    due_of_all cs h =
        due_of_some (sections_in l.project.objects) cs h (λ s t d e.
        subst (λ ts. Contains ts t) (all_sites l) (flat_map_in (own_sites l) (sections_in l.project.objects) s t d e))
        ∙ ap (filter is_due) (all_sites l)

    pub how_many : (cs : List Evaluated) → AllZip (IsEvaluatedOf old l range) (sections_in l.project.objects) cs
        → length (flat_map sites_of cs)
        ≡ length (filter (λ t. not (lies t)) (sites l.project l.layout))
        + length (filter (λ t. lies t && has_new_value old l t) (sites l.project l.layout))
    how_many cs h = ap length (due_of_all cs h) ∙ count_either lies (has_new_value old l) (sites l.project l.layout)
