-- A previous link as the new one sees it, and which input sections of the new one stayed where it has them.
use Rattle.std.specs.Prelude.{ℕ, Bool, List, Option, Some, None, option_and_then, if◌then◌else◌, slice_index_or}
use Rattle.std.specs.Option.{option_map}
use Rattle.elfobj.specs.Object.{ObjectData}
use Rattle.ldmodel.specs.declared.names.ObjectPlace.{ObjectPlace}
use Rattle.ldmodel.specs.declared.sections.Part.{Part}
use Rattle.ldmodel.specs.declared.sections.SectionRef.{SectionRef}
use Rattle.place.specs.IndexedLayout.{address_in}
use Rattle.place.specs.declared.indexed_layout.IndexedLayout.{IndexedLayout}
use Rattle.place.specs.declared.indexed_layout.SectionAddress.{SectionAddress}
use Rattle.emit.specs.relocate.declared.previous_link_info.FileRange.{FileRange}
use Rattle.relink_driver.specs.SectionLocation.{same_location, location_in}
use Rattle.relink_driver.specs.declared.link_snapshot.LinkSnapshot.{LinkSnapshot}
use Rattle.relink_driver.specs.declared.section_location.SectionLocation.{SectionLocation}
use Rattle.relink_driver.specs.declared.stayed_sections.PreviousView.{PreviousView}
use Rattle.relink_driver.specs.declared.stayed_sections.ReplacedObject.{ReplacedObject}

-- an object of the previous link, its place in it, and the place in the new one of the object that came in its place
pub record ReplacedObjectState : Type 0 where
  pub old_place : ObjectPlace
  pub old_object : ObjectData
  pub new_place : ObjectPlace

abbrev pub replaced_state : ReplacedObject → ReplacedObjectState
replaced_state x = record { old_place = x.old_place; old_object = x.old_object.now; new_place = x.new_place }

-- a previous link without faults, how many objects it has, which of them are still there, which one was replaced, and
-- whether it is the one that is answered
pub record PreviousState : Type 0 where
  pub snapshot : LinkSnapshot
  pub objects : ℕ
  pub origins : List (Option ℕ)
  pub same_script : Bool
  pub replaced : Option ReplacedObjectState
  pub is_answered : Bool

abbrev pub previous_state : PreviousView → PreviousState
previous_state x = record {
  snapshot = x.snapshot.now;
  objects = x.objects;
  origins = x.origins.now;
  same_script = x.same_script;
  replaced = option_map replaced_state x.replaced;
  is_answered = x.is_answered;
}

abbrev pub previous_of : Option PreviousView → Option PreviousState
previous_of x = option_map previous_state x

-- where an object stood in the previous link
abbrev pub last_place : PreviousState → ObjectPlace → Option ℕ
last_place previous k = slice_index_or previous.origins k.0 None

-- where an input section did
abbrev pub standing_from : PreviousState → Part → ℕ → Option SectionLocation
standing_from previous part i =
    location_in previous.snapshot.indexed_layout (record { object = record { 0 = i }; part = part })

-- its address there
abbrev pub address_from : PreviousState → Part → ℕ → Option SectionAddress
address_from previous part i =
    address_in previous.snapshot.indexed_layout (record { object = record { 0 = i }; part = part })

abbrev pub previous_address : PreviousState → SectionRef → Option SectionAddress
previous_address previous k = option_and_then (address_from previous k.part) (last_place previous k.object)

unfoldable pub previous_location : PreviousState → SectionRef → Option SectionLocation
previous_location previous k = option_and_then (standing_from previous k.part) (last_place previous k.object)

-- it stayed where it stands as it stood
abbrev pub range_if_same : Option SectionLocation → Option SectionLocation → Option FileRange
range_if_same None now = None
range_if_same (Some before) None = None
range_if_same (Some before) (Some now) = if same_location before now then Some now.range else None

-- which input sections stayed, and where their bytes stand in the file
unfoldable pub stayed_range : Option PreviousState → IndexedLayout → SectionRef → Option FileRange
stayed_range None now k = None
stayed_range (Some x) now k = range_if_same (previous_location x k) (location_in now k)
