-- What was found of all objects as they were read.
use Rattle.emit.proofs.Common.{All, All-contains, All-head, All-tail, All-weaker, AreAscending, AreNamesDistinct}
use Rattle.emit.proofs.Common.{AreNumbered, AreOfProfile, Each, EachLater, HasRelocationsOfProfile, IsPlacedOnce}
use Rattle.emit.proofs.Common.{IsRead, Layout, LinkedSection, List, NamedObject, Ok, Project, Section, [], arith}
use Rattle.emit.proofs.Common.{each_of_all, false, length, map, ne_eqb, object_of, placement, provided, rows}
use Rattle.emit.proofs.Common.{section_of, suc, zero, ℕ, ◌<◌, ◌==◌, ◌∷◌, ◌≡◌}
use Rattle.ldmodel_laws.specs.Untouched.{AreRead}

abbrev Differ : LinkedSection → LinkedSection → Type 0
Differ x y = (x.number.0 == y.number.0) ≡ false

-- the first of ascending numbers is below the others
above : (n : ℕ) (xs : List LinkedSection) → All (λ (s : Section). n < s.number.0) (map section_of xs)
    → Each (λ (y : LinkedSection). (n == y.number.0) ≡ false) xs
above n [] h = tt
above n (x ∷ xs) h =
    let low : n < x.number.0 = All-head (λ (s : Section). n < s.number.0) (section_of x) (map section_of xs) h in (
      ne_eqb n x.number.0 (λ e. absurd (omega (arith, low, e))),
      above n xs (All-tail (λ (s : Section). n < s.number.0) (section_of x) (map section_of xs) h),
    )

all_differ : (xs : List LinkedSection) → AreAscending xs → EachLater Differ xs
all_differ [] up = tt
all_differ (x ∷ xs) up = (
  above x.number.0 xs (λ k d low. up zero (suc k) d (omega arith) (omega (arith, low))),
  all_differ xs (λ i j d before short. up (suc i) (suc j) d (omega (arith, before)) (omega (arith, short))),
)

module _ (p : Project) (read : All (λ (o : NamedObject). IsRead o.object) p.objects) where
  pub ascending : All (λ (o : NamedObject). AreAscending o.object.sections) p.objects
  ascending =
      All-weaker (λ (o : NamedObject). IsRead o.object) (λ (o : NamedObject). AreAscending o.object.sections)
      (λ o h. h.ascending) p.objects read

  pub spelt : AreRead p
  spelt =
      each_of_all (λ (o : NamedObject). o.object ≡ object_of o.object.text) p.objects
      (All-weaker (λ (o : NamedObject). IsRead o.object) (λ (o : NamedObject). o.object ≡ object_of o.object.text)
      (λ o h. h.spelt) p.objects read)

  numbered : AreNumbered p
  numbered =
      each_of_all (λ (o : NamedObject). EachLater Differ o.object.sections) p.objects
      (All-weaker (λ (o : NamedObject). IsRead o.object) (λ (o : NamedObject). EachLater Differ o.object.sections)
      (λ o h. all_differ o.object.sections h.ascending) p.objects read)

  pub placed_once : (s : Layout) → AreNamesDistinct p.objects
      → placement p.script (rows p) (provided p) ≡ Ok s → IsPlacedOnce p s
  placed_once s names e = record { placed = e; names = names; numbers = numbered }

  pub of_profile : AreOfProfile p
  of_profile = λ o x c d.
      All-contains (HasRelocationsOfProfile (length o.object.symbols)) o.object.sections x
      ((All-contains (λ (z : NamedObject). IsRead z.object) p.objects o read c).relocations) d
