-- Which input sections of a link are those of a previous one, as the code finds them.
use Rattle.std.specs.Prelude.{ℕ, Bool, false, not, List, [], codes, find, length, zip, bytes_eq, slice_get, Option}
use Rattle.std.specs.Prelude.{Some, None, ◌==◌, ◌&&◌}
use Rattle.std.specs.List.{list_all, position_or_len}
use Rattle.std.specs.Option.{option_map_or}
use Rattle.std.specs.Vec.{vec_items}
use Rattle.std.specs.Global.{Vec}
use Rattle.elfobj.specs.Object.{ObjectData}
use Rattle.elfobj.specs.Sections.{LinkedSection}
use Rattle.elfobj.specs.declared.section.SectionIndex.{SectionIndex}
use Rattle.elfobj.specs.declared.section.SectionKind.{SectionKind}
use Rattle.elfobj.specs.declared.section.SectionKind.TheVariants.{Progbits, Nobits, Note, InitArray, FiniArray}
use Rattle.elfobj.specs.declared.section.SectionKind.TheVariants.{PreinitArray, Unwind}
use Rattle.ldmodel.specs.Project.{NamedObject, Project}
use Rattle.ldmodel.specs.Sections.{is_same_part}
use Rattle.ldmodel.specs.declared.rows.Piece.{Piece}
use Rattle.ldmodel.specs.declared.sections.Part.{Part}
use Rattle.ldmodel.specs.declared.sections.Part.TheVariants.{InTable, InCommon}
use Rattle.ldmodel.specs.declared.sections.SectionRef.{SectionRef}
use Rattle.relink_driver.specs.StayedSections.{PreviousState, ReplacedObjectState, last_place}

-- the linked section of a number
abbrev pub numbered : List LinkedSection → SectionIndex → Option LinkedSection
numbered sections k = find (λ (section : LinkedSection). section.number.0 == k.0) sections

abbrev pub section_name : ObjectData → SectionIndex → List ℕ
section_name o k = option_map_or (λ (section : LinkedSection). section.name) (numbered o.sections k) []

-- a common block counts as a section of this name
abbrev pub part_name : ObjectData → Part → List ℕ
part_name o (InTable k) = section_name o k
part_name o (InCommon x) = codes "COMMON"

abbrev pub has_same_name : ObjectData → Part → NamedObject → Bool
has_same_name a part b = bytes_eq (part_name a part) (part_name b.object part)

-- the object of a section came in the place of that of the previous link's section, and the part of the latter has the
-- same name in both
abbrev pub replaced_part : ReplacedObjectState → Project → SectionRef → SectionRef → Bool
replaced_part r project a b =
    (r.old_place.0 == a.object.0)
    && ((r.new_place.0 == b.object.0) && option_map_or (has_same_name r.old_object a.part)
    (slice_get project.objects b.object.0) false)

-- by the place that the object had in the previous link, if it was there
abbrev pub is_of_same_object : PreviousState → Project → SectionRef → SectionRef → Option ℕ → Bool
is_of_same_object previous project a b (Some i) = i == a.object.0
is_of_same_object previous project a b None =
    option_map_or (λ (r : ReplacedObjectState). replaced_part r project a b) previous.replaced false

-- a section of the new link is the previous link's
abbrev pub is_same_section : PreviousState → Project → SectionRef → SectionRef → Bool
is_same_section previous project a b =
    is_same_part a.part b.part && is_of_same_object previous project a b (last_place previous b.object)

-- a number for each kind
abbrev pub kind_number : SectionKind → ℕ
kind_number Progbits = 0
kind_number Nobits = 1
kind_number Note = 2
kind_number InitArray = 3
kind_number FiniArray = 4
kind_number PreinitArray = 5
kind_number Unwind = 6

abbrev pub is_same_piece : PreviousState → Project → Piece → Piece → Bool
is_same_piece previous project a b =
    (a.statement.0 == b.statement.0)
    && (is_same_section previous project a.section b.section
    && ((kind_number a.kind == kind_number b.kind)
    && ((a.flags == b.flags) && ((a.size == b.size) && (a.alignment == b.alignment)))))

abbrev pub are_same_pieces : PreviousState → Project → List Piece → List Piece → Bool
are_same_pieces previous project before now =
    list_all (λ (c : Piece × Piece). is_same_piece previous project c.0 c.1) (zip before now)

abbrev pub is_same_row : PreviousState → Project → List Piece → List Piece → Bool
is_same_row previous project before now = (length before == length now) && are_same_pieces previous project before now

-- a row and the previous link's of its number
abbrev pub is_changed : PreviousState → Project → Vec Piece × Vec Piece → Bool
is_changed previous project rows = not (is_same_row previous project (vec_items rows.0) (vec_items rows.1))

-- the number of the first row that differs; how many both have, where none does
abbrev pub first_changed : PreviousState → Project → List (Vec Piece) → List (Vec Piece) → ℕ
first_changed previous project before now = position_or_len (is_changed previous project) (zip before now)
