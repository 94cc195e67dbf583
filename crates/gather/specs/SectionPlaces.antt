-- The places of input sections in their list, and the sections that relocations refer to, by these.
use Rattle.std.specs.Prelude.{◌≡◌, ◌<◌, ◌++◌, ◌↔◌, ◌&&◌, ◌==◌, ℕ, Bool, List, Option, Some, None, Contains}
use Rattle.std.specs.Prelude.{IsSome, option_and_then, slice_set}
use Rattle.std.specs.Prelude.{IsTrue, slice_index_or}
use Rattle.std.specs.List.{list_any}
use Rattle.elfobj.specs.declared.relocation.Relocation.{Relocation}
use Rattle.gather.specs.LiveMarks.{IsSectionAt}
use Rattle.gather.specs.declared.gathered_section.GatheredSection.{GatheredSection}
use Rattle.ldmodel.specs.CodeValues.{decision_of, section_id}
use Rattle.ldmodel.specs.Live.{is_section, refers_to, section_of_decision, target_section}
use Rattle.ldmodel.specs.Project.{Project}
use Rattle.ldmodel.specs.Sections.{InputSection, SectionId, is_same_part}
use Rattle.ldmodel.specs.declared.names.Case.{Case}
use Rattle.ldmodel.specs.declared.names.ObjectPlace.{ObjectPlace}
use Rattle.ldmodel.specs.declared.sections.SectionRef.{SectionRef}
use Rattle.symres.specs.Decided.{case_at}
use Rattle.symres.specs.SymbolTable.{SymbolTableState}
use Rattle.gather.specs.declared.places.Places.{Places}
use Rattle.gather.specs.SectionTable.{number_of}
use Rattle.gather.specs.declared.input_section_table.SectionNumber as code
use Rattle.gather.specs.declared.input_section_table.InputSectionTable.{InputSectionTable}

abbrev pub place_at : List (Option ℕ) → ℕ → Option ℕ
place_at places at = slice_index_or places at None

-- the place of the section of a key, by the column of a table
abbrev pub place_under : InputSectionTable → List (Option ℕ) → SectionRef → Option ℕ
place_under t places k = option_and_then (place_at places) (number_of t k.object.0 k.part)

abbrev pub place_in : Places → SectionRef → Option ℕ
place_in x k = place_under x.table.now x.places.now k

-- a column with one more place
abbrev pub with_place : Option code.SectionNumber → ℕ → List (Option ℕ) → List (Option ℕ)
with_place None place places = places
with_place (Some i) place places = slice_set places i.0 (Some place)

abbrev pub is_same_key : SectionRef → SectionRef → Bool
is_same_key a b = (a.object.0 == b.object.0) && is_same_part a.part b.part

-- each of the first n sections has its place, and nothing else has one
pub record ArePlaces (xs : List GatheredSection) (n : ℕ) (place : SectionRef → Option ℕ) : Type 0 where
  pub below : (k : SectionRef) (m : ℕ) → place k ≡ Some m → m < n
  pub is : (k : SectionRef) (m : ℕ) (x : GatheredSection) → place k ≡ Some m → (slice_index_or xs m x).section ≡ k
  pub all : (m : ℕ) (x : GatheredSection) → m < n → IsSome (place (slice_index_or xs m x).section)

-- the place is that of the section of this key in the project; there is none where the key is of no input section
abbrev pub IsPlaceOf : Project → Option SectionId → Option ℕ → Type 0
IsPlaceOf project id place =
    (b : ℕ) (section : InputSection) → IsSectionAt project b section → IsTrue (is_section id section) ↔ (place ≡ Some b)

-- the places are those of the input sections of the project
abbrev pub AreProjectPlaces : Project → (SectionRef → Option ℕ) → Type 0
AreProjectPlaces project place = (k : SectionRef) → IsPlaceOf project (Some (section_id (λ key. key) k)) (place k)

-- the numbers are those of the sections that these relocations of object number i refer to
abbrev pub AreTargets : Project → ℕ → List Relocation → List ℕ → Type 0
AreTargets project i rs numbers =
    (b : ℕ) (section : InputSection) → IsSectionAt project b section
    → IsTrue (list_any (λ r. is_section (target_section project i r) section) rs) ↔ Contains numbers b

-- the numbers of those that these relocations refer to come after those that are there
pub record AddsTargets (project : Project) (i : ℕ) (rs : List Relocation) (old new : List ℕ) : Type 0 where
  pub added : List ℕ
  pub is : new ≡ old ++ added
  pub are : AreTargets project i rs added

-- a relocation of section number a refers to section number b, where there are such sections
abbrev pub Refers : Project → ℕ → ℕ → Type 0
Refers project a b = (section t : InputSection) → IsSectionAt project a section → IsSectionAt project b t
    → IsTrue (refers_to project section t)

-- each key that has a case has the place of the section that its name is defined in
abbrev pub AreKeyPlaces : Project → SymbolTableState → List (Option ℕ) → Type 0
AreKeyPlaces project table places =
    (k : ℕ) (c : Case ObjectPlace) → case_at table.cases k ≡ Some c
    → IsPlaceOf project (section_of_decision project (decision_of (λ key. key) c)) (place_at places k)
