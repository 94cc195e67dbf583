-- One pass over the headers reads the linked sections and their places, in order.
use Rattle.elfobj.proofs.Common.{All-push, AreRead, Bool, FiniArray, InitArray, IsFileWithin, IsLinkable, IsPlaced}
use Rattle.elfobj.proofs.Common.{LinkedSection, List, Nobits, None, Note, Option, PartSpans, PassesTests, PreinitArray}
use Rattle.elfobj.proofs.Common.{Progbits, SectionHeader, SectionKind, Some, Unwind, [], add-one, ap, append-nil}
use Rattle.elfobj.proofs.Common.{cases_Bool, cond, e_shnum, eqb, eqb-true, false, false_from_ne_true, header, holds}
use Rattle.elfobj.proofs.Common.{is_alloc, is_looked_at, is_name, is_out_of_bounds, is_outside_profile, length}
use Rattle.elfobj.proofs.Common.{linked_as, linked_kind, ltb-false, map, map_push, name_of, nat_lt, none-some, not}
use Rattle.elfobj.proofs.Common.{not-false, option_map_or, or_parts, refl, same_Some, section_of, sections_below, subst}
use Rattle.elfobj.proofs.Common.{sym, true, true≢false, ℕ, ⊎_elim, ◌&&◌, ◌++◌, ◌+◌, ◌<◌, ◌||◌, ◌∙◌, ◌∷◌, ◌≡◌, ◌≤◌}
use Rattle.elfobj.specs.PartSpans.{IsWithin, name_in, bytes_in}
use Rattle.elfobj_file.specs.SectionKinds.{kind_of}
use Rattle.elfobj_file.specs.declared.section.Section.{Section}
use Rattle.elfobj.proofs.Passing.{none_at}

-- one more section and its place
pub read_push : (file : List ℕ) (ls : List LinkedSection) (ss : List Section) (ps : List PartSpans) (l : LinkedSection)
    (s : Section) (p : PartSpans)
    → AreRead file ls ss ps → IsPlaced file l s p → AreRead file (ls ++ l ∷ []) (ss ++ s ∷ []) (ps ++ p ∷ [])
read_push file ls ss ps l s p r h = record {
  sections = rw (map_push section_of ls l, r.sections, h.section) refl;
  names = map_push (name_in file) ps p ∙ ap (λ x. map (name_in file) ps ++ x ∷ []) h.name
      ∙ ap (λ xs. xs ++ l.name ∷ []) r.names ∙ sym (map_push (λ (x : LinkedSection). x.name) ls l);
  bytes = map_push (bytes_in file) ps p ∙ ap (λ x. map (bytes_in file) ps ++ x ∷ []) h.bytes
      ∙ ap (λ xs. xs ++ l.bytes ∷ []) r.bytes ∙ sym (map_push (λ (x : LinkedSection). x.bytes) ls l);
  within = All-push (IsWithin (length file)) ps p r.within h.within;
}

sections_some : (bytes : List ℕ) (k : ℕ) (h : SectionHeader) (kind : SectionKind) → h ≡ header bytes k
    → linked_kind h ≡ Some kind
    → sections_below bytes (k + 1) ≡ sections_below bytes k ++ linked_as bytes k h kind ∷ []
sections_some bytes k h kind e f = rw (add-one, ← e, f) refl

sections_none : (bytes : List ℕ) (k : ℕ) (h : SectionHeader) → h ≡ header bytes k → linked_kind h ≡ None
    → sections_below bytes (k + 1) ≡ sections_below bytes k
sections_none bytes k h e f = rw (add-one, ← e, f) (append-nil _)

-- a header whose section is linked
pub read_more : (bytes : List ℕ) (k : ℕ) (h : SectionHeader) (kind : SectionKind) (ss ss' : List Section)
    (ps ps' : List PartSpans) (s : Section) (p : PartSpans)
    → h ≡ header bytes k → linked_kind h ≡ Some kind → AreRead bytes (sections_below bytes k) ss ps
    → IsPlaced bytes (linked_as bytes k h kind) s p
    → ss' ≡ ss ++ s ∷ [] → ps' ≡ ps ++ p ∷ [] → AreRead bytes (sections_below bytes (k + 1)) ss' ps'
read_more bytes k h kind ss ss' ps ps' s p e f r q a b =
    rw (sections_some bytes k h kind e f, a, b)
    (read_push bytes (sections_below bytes k) ss ps (linked_as bytes k h kind) s p r q)

-- one whose section is not
pub read_same : (bytes : List ℕ) (k : ℕ) (h : SectionHeader) (ss : List Section) (ps : List PartSpans)
    → h ≡ header bytes k → linked_kind h ≡ None → AreRead bytes (sections_below bytes k) ss ps
    → AreRead bytes (sections_below bytes (k + 1)) ss ps
read_same bytes k h ss ps e f r = subst (λ ls. AreRead bytes ls ss ps) (sym (sections_none bytes k h e f)) r

pub kind_not_null : (t : ℕ) (kind : SectionKind) → kind_of t ≡ Some kind → eqb t 0 ≡ false
unfolding kind_of
kind_not_null t kind h = false_from_ne_true _ (λ e. none-some kind (ap kind_of (sym (eqb-true t 0 e)) ∙ h))

kind_nobits : (t : ℕ) (kind : SectionKind) → kind_of t ≡ Some kind → eqb t 8 ≡ true → kind ≡ Nobits
unfolding kind_of
kind_nobits t kind h e = sym (same_Some Nobits kind (ap kind_of (sym (eqb-true t 8 e)) ∙ h))

within_at_kind : (n : ℕ) (h : SectionHeader) (kind : SectionKind) → h.sh_offset + h.sh_size ≤ n → IsFileWithin n h kind
within_at_kind n h Progbits l = l
within_at_kind n h Nobits l = tt
within_at_kind n h Note l = l
within_at_kind n h InitArray l = l
within_at_kind n h FiniArray l = l
within_at_kind n h PreinitArray l = l
within_at_kind n h Unwind l = l

bounds_parts : (looked_at nobits past large odd : Bool) → looked_at ≡ true → nobits ≡ false
    → (looked_at && (((not nobits) && past) || large || odd)) ≡ false → past ≡ false
bounds_parts false nobits past large odd a b h = absurd (true≢false (sym a))
bounds_parts true true past large odd a b h = absurd (true≢false b)
bounds_parts true false past large odd a b h = (or_parts past large (or_parts (past || large) odd h).0).0

pub file_within : (n : ℕ) (h : SectionHeader) (kind : SectionKind) → kind_of h.sh_type ≡ Some kind
    → is_out_of_bounds n h ≡ false → IsFileWithin n h kind
file_within n h kind e b = ⊎_elim
    (λ q. subst (λ k. IsFileWithin n h k) (sym (kind_nobits h.sh_type kind e q)) tt)
    (λ q. within_at_kind n h kind (ltb-false _ _
    (bounds_parts (is_looked_at h) (eqb h.sh_type 8) (nat_lt n (h.sh_offset + h.sh_size)) _ _
    (ap not (kind_not_null h.sh_type kind e)) q b)))
    (cases_Bool (eqb h.sh_type 8))

name_within : (bytes : List ℕ) (h : SectionHeader) (kind : SectionKind) → is_alloc h ≡ true
    → kind_of h.sh_type ≡ Some kind → is_outside_profile bytes h ≡ false
    → option_map_or is_name (name_of bytes h) false ≡ true
name_within bytes h kind a e b =
    let f = rw (kind_not_null h.sh_type kind e, a) at b in
    not-false _ (or_parts _ _ f).1

cond_parts : (b : Bool) (o : Option SectionKind) (kind : SectionKind) → cond b o None ≡ Some kind
    → (b ≡ true) × (o ≡ Some kind)
cond_parts true o kind e = (refl, e)
cond_parts false o kind e = absurd (none-some kind e)

pub linked_parts : (h : SectionHeader) (kind : SectionKind) → linked_kind h ≡ Some kind
    → (is_alloc h ≡ true) × (kind_of h.sh_type ≡ Some kind)
linked_parts h kind e = cond_parts (is_alloc h) (kind_of h.sh_type) kind e

-- what the tests leave known of a header whose section is linked
pub linkable : (bytes : List ℕ) (k : ℕ) (kind : SectionKind) (h : SectionHeader) → PassesTests bytes → k < e_shnum bytes
    → h ≡ header bytes k → linked_kind h ≡ Some kind → IsLinkable bytes h kind
unfolding holds
linkable bytes k kind h t l e f =
    let parts = linked_parts h kind f in
    let bounds : is_out_of_bounds (length bytes) h ≡ false = ap (is_out_of_bounds (length bytes)) e
    ∙ none_at (is_out_of_bounds (length bytes)) bytes k (or_parts _ _ t.bounds).1 l in
    let profile : is_outside_profile bytes h ≡ false = ap (is_outside_profile bytes) e
    ∙ none_at (is_outside_profile bytes) bytes k t.profile l in
    record {
      name = name_within bytes h kind parts.0 parts.1 profile;
      file = file_within (length bytes) h kind parts.1 bounds;
    }
