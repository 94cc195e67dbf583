-- Each linked section of an object that is not refused is within the profile.
use Rattle.elfobj.proofs.Common.{All, All-append, All-cons, All-nil, Bool, FieldBounds, FieldOverlap, FiniArray}
use Rattle.elfobj.proofs.Common.{InitArray, IsFileWithin, IsLinkable, IsSectionOfProfile, IsTrue, List, Nobits, None}
use Rattle.elfobj.proofs.Common.{Note, ObjectRefusal, Option, PassesTests, PreinitArray, Progbits, RelocationSection}
use Rattle.elfobj.proofs.Common.{RelocationType, SectionBounds, SectionHeader, SectionKind, SectionProfile, Some}
use Rattle.elfobj.proofs.Common.{SymbolTable, Unwind, [], and_cases, ap, arith, cond, contents, drop, e_shnum, eqb}
use Rattle.elfobj.proofs.Common.{eqb-true, false, false≢true, header, holds, inl, inr, is_alloc, is_looked_at, is_name}
use Rattle.elfobj.proofs.Common.{is_out_of_bounds, is_outside_profile, length, length-drop, length-take, linked_as}
use Rattle.elfobj.proofs.Common.{linked_kind, linked_section, ltb-false, name_of, nat_lt, not, not-false}
use Rattle.elfobj.proofs.Common.{object_refusal, option_map_or, option_to_list, or_parts, refl, sections_below}
use Rattle.elfobj.proofs.Common.{sections_of, size_in_file, slice_range, suc, true, unwrap_or, zero, ℕ, ⊎_elim, ◌&&◌}
use Rattle.elfobj.proofs.Common.{◌+◌, ◌-◌, ◌<◌, ◌||◌, ◌≡◌, ◌≤◌, ◌⊎◌}
use Rattle.std.specs.Int.{is_power_of_two}
use Rattle.std.specs.Int.Bits.{bit_or}
use Rattle.std.proofs.lemmas.Nat.{le_or_l}
use Rattle.elfobj_file.specs.declared.refusal.ObjectRefusal.TheVariants.{Short, NotElf, Machine, SectionTable}
use Rattle.elfobj_file.specs.declared.refusal.ObjectRefusal.TheVariants.{SectionCount, Symbol}
use Rattle.elfobj.proofs.Passing.{none_at}
use Rattle.elfobj.proofs.Steps.{linkable, linked_parts, kind_not_null}

pub cond_none : (b : Bool) (r : ObjectRefusal) (o : Option ObjectRefusal) → cond b (Some r) o ≡ None
    → (b ≡ false) × (o ≡ None)
cond_none true r o h = cc
cond_none false r o h = (refl, h)

-- what an object's bytes pass
pub record Accepted (bytes : List ℕ) : Type 0 where
  pub tests : PassesTests bytes
  pub table : holds bytes SymbolTable ≡ false
  pub symbol : holds bytes Symbol ≡ false
  pub relocations : holds bytes RelocationSection ≡ false
  pub types : holds bytes RelocationType ≡ false
  pub bounds : holds bytes FieldBounds ≡ false
  pub overlap : holds bytes FieldOverlap ≡ false

pub accepted_parts : (bytes : List ℕ) → object_refusal bytes ≡ None → Accepted bytes
unfolding object_refusal
accepted_parts bytes h =
    let a = cond_none (holds bytes Short) Short _ h in
    let b = cond_none (holds bytes NotElf) NotElf _ a.1 in
    let c = cond_none (holds bytes Machine) Machine _ b.1 in
    let d = cond_none (holds bytes SectionTable) SectionTable _ c.1 in
    let e = cond_none (holds bytes SectionCount) SectionCount _ d.1 in
    let f = cond_none (holds bytes SectionBounds) SectionBounds _ e.1 in
    let g = cond_none (holds bytes SectionProfile) SectionProfile _ f.1 in
    let i = cond_none (holds bytes SymbolTable) SymbolTable _ g.1 in
    let j = cond_none (holds bytes Symbol) Symbol _ i.1 in
    let k = cond_none (holds bytes RelocationSection) RelocationSection _ j.1 in
    let l = cond_none (holds bytes RelocationType) RelocationType _ k.1 in
    let m = cond_none (holds bytes FieldBounds) FieldBounds _ l.1 in
    let n = cond_none (holds bytes FieldOverlap) FieldOverlap _ m.1 in
    record {
      tests = record { bounds = f.0; profile = g.0 };
      table = i.0;
      symbol = j.0;
      relocations = k.0;
      types = l.0;
      bounds = m.0;
      overlap = n.0;
    }

large_parts : (looked_at a large odd : Bool) → looked_at ≡ true → (looked_at && (a || large || odd)) ≡ false
    → (large ≡ false) × (odd ≡ false)
large_parts false a large odd l h = absurd (false≢true l)
large_parts true a large odd l h = let p = or_parts (a || large) odd h in ((or_parts a large p.0).1, p.1)

flag_parts : (looked_at alloc a odd b : Bool) → looked_at ≡ true → alloc ≡ true
    → (looked_at && alloc && (a || odd || b)) ≡ false → odd ≡ false
flag_parts false alloc a odd b l k h = absurd (false≢true l)
flag_parts true false a odd b l k h = absurd (false≢true k)
flag_parts true true a odd b l k h = (or_parts a odd (or_parts (a || odd) b h).0).1

pub name_told : (o : Option (List ℕ)) → option_map_or is_name o false ≡ true → is_name (unwrap_or o []) ≡ true
name_told None h = absurd (false≢true h)
name_told (Some name) h = h

range_length : (bytes : List ℕ) (off size : ℕ) → off + size ≤ length bytes
    → length (slice_range bytes off (off + size)) ≡ size
range_length bytes off size h =
    let a = length-take (off + size - off) (drop off bytes) in
    let b = length-drop off bytes in
    omega arith

contents_length : (bytes : List ℕ) (h : SectionHeader) (kind : SectionKind) → IsFileWithin (length bytes) h kind
    → length (contents bytes h kind) ≡ size_in_file kind h.sh_size
contents_length bytes h Progbits l = range_length bytes h.sh_offset h.sh_size l
contents_length bytes h Nobits l = refl
contents_length bytes h Note l = range_length bytes h.sh_offset h.sh_size l
contents_length bytes h InitArray l = range_length bytes h.sh_offset h.sh_size l
contents_length bytes h FiniArray l = range_length bytes h.sh_offset h.sh_size l
contents_length bytes h PreinitArray l = range_length bytes h.sh_offset h.sh_size l
contents_length bytes h Unwind l = range_length bytes h.sh_offset h.sh_size l

aligned : (a : ℕ) → ((not (eqb a 0)) && (not (is_power_of_two a))) ≡ false → (a ≡ 0) ⊎ IsTrue (is_power_of_two a)
aligned a h = ⊎_elim (λ p. inl (eqb-true a 0 (not-false _ p))) (λ p. inr (not-false _ p))
    (and_cases (not (eqb a 0)) (not (is_power_of_two a)) h)

section_limits : (bytes : List ℕ) (k : ℕ) (h : SectionHeader) (kind : SectionKind) → linked_kind h ≡ Some kind
    → is_out_of_bounds (length bytes) h ≡ false → is_outside_profile bytes h ≡ false
    → IsLinkable bytes h kind → IsSectionOfProfile (linked_as bytes k h kind)
section_limits bytes k h kind e b p l =
    let parts = linked_parts h kind e in
    let looked_at : is_looked_at h ≡ true = ap not (kind_not_null h.sh_type kind parts.1) in
    let large = large_parts (is_looked_at h) _ (nat_lt 2147483648 h.sh_size)
    ((not (eqb h.sh_addralign 0)) && (not (is_power_of_two h.sh_addralign))) looked_at b in
    let flags : bit_or h.sh_flags 55 ≡ 55 = eqb-true (bit_or h.sh_flags 55) 55
    (not-false _ (flag_parts (is_looked_at h) (is_alloc h) _
    (not (eqb (bit_or h.sh_flags 55) 55)) _ looked_at parts.0 p)) in
    let small = le_or_l h.sh_flags 55 in
    record {
      name = name_told (name_of bytes h) l.name;
      flags = flags;
      alloc = parts.0;
      flags_fit = omega arith;
      size = ltb-false 2147483648 h.sh_size large.0;
      alignment = aligned h.sh_addralign large.1;
      bytes = contents_length bytes h kind l.file;
    }

limits_at : (bytes : List ℕ) (k : ℕ) (o : Option SectionKind) → linked_kind (header bytes k) ≡ o → PassesTests bytes
    → k < e_shnum bytes → All IsSectionOfProfile (option_to_list (linked_section bytes k (header bytes k) o))
unfolding holds
limits_at bytes k None e t l = All-nil IsSectionOfProfile
limits_at bytes k (Some kind) e t l = All-cons IsSectionOfProfile _ [] (section_limits bytes k (header bytes k) kind e
    (none_at (is_out_of_bounds (length bytes)) bytes k (or_parts _ _ t.bounds).1 l)
    (none_at (is_outside_profile bytes) bytes k t.profile l)
    (linkable bytes k kind (header bytes k) t l refl e)) (All-nil IsSectionOfProfile)

limits_below : (bytes : List ℕ) (n : ℕ) → PassesTests bytes → n ≤ e_shnum bytes
    → All IsSectionOfProfile (sections_below bytes n)
limits_below bytes zero t l = All-nil IsSectionOfProfile
limits_below bytes (suc n) t l =
    All-append IsSectionOfProfile _ _ (limits_below bytes n t (omega arith))
    (limits_at bytes n (linked_kind (header bytes n)) refl t (omega arith))

-- each linked section of an object is within the profile
pub limits : (bytes : List ℕ) → object_refusal bytes ≡ None → All IsSectionOfProfile (sections_of bytes)
unfolding sections_of
limits bytes h = limits_below bytes (e_shnum bytes) (accepted_parts bytes h).tests (omega arith)
