-- An index from targets to the relocations against them.
use Rattle.std.specs.Prelude.{◌≡◌, ◌≤◌, ℕ, List, [], length, Option, None, Bool, false, ◌&&◌, ◌==◌, if◌then◌else◌}
use Rattle.std.specs.Prelude.{slice_index_or, count_by, map, ◌-◌, vec_capacity, vec_len, Vec}
use Rattle.std.specs.Global.{Global}
use Rattle.std.specs.List.{list_any}
use Rattle.std.specs.Option.{option_map_or}
use Rattle.slab.specs.Slab.{slab_len}
use Rattle.ldmodel.specs.declared.fault.SiteRef.{SiteRef}
use Rattle.ldmodel.specs.declared.names.ObjectPlace.{ObjectPlace}
use Rattle.emit_relocate.specs.declared.bucket.Bucket.{Bucket}
use Rattle.emit_relocate.specs.declared.index.IndexSlot.{IndexSlot}
use Rattle.emit_relocate.specs.declared.index.TargetSite.{TargetSite}

-- the sites of each target, and how many more there is room for, of each target and of each object
pub record SiteTable : Type 0 where
  pub targets : List (List SiteRef)
  pub target_room : List ℕ
  pub object_room : List ℕ

-- the sites of a target: which order they stand in says nothing
abbrev pub sites_at : SiteTable → ℕ → List SiteRef
sites_at x t = slice_index_or x.targets t []

-- a site of an object
abbrev pub site_of : ObjectPlace → TargetSite → SiteRef
site_of object s = record { object = object; section = s.section; entry = s.entry }

abbrev pub is_of_object : ObjectPlace → SiteRef → Bool
is_of_object object s = s.object.0 == object.0

abbrev pub is_against : ℕ → TargetSite → Bool
is_against t s = s.target.0 == t

-- these sites of an object can be added with no memory
pub record HasRoomFor (x : SiteTable) (object : ObjectPlace) (sites : List TargetSite) : Type 0 where
  pub of_targets : (t : ℕ) → count_by (is_against t) sites ≤ slice_index_or x.target_room t 0
  pub of_object : length sites ≤ slice_index_or x.object_room object.0 0

-- how an index keeps its sites: at places of slabs, one for each target, and with each object where its sites stand
abbrev pub no_bucket : Bucket
no_bucket = record { sites = record { slots = []; vacant_key = 0; capacity = 0 }; wanted = 0 }

abbrev pub room_of : Bucket → ℕ
room_of b = b.sites.capacity - slab_len b.sites

abbrev pub slots_at : List Bucket → ℕ → List (Option SiteRef)
slots_at buckets t = (slice_index_or buckets t no_bucket).sites.slots

abbrev pub slot : List Bucket → ℕ → ℕ → Option SiteRef
slot buckets t k = slice_index_or (slots_at buckets t) k None

abbrev pub is_spot : ℕ → ℕ → IndexSlot → Bool
is_spot t k s = (s.target == t) && (s.place == k)

abbrev pub has_spot : ℕ → ℕ → List IndexSlot → Bool
has_spot t k spots = list_any (is_spot t k) spots

abbrev pub is_owner : ℕ → Option SiteRef → Bool
is_owner o site = option_map_or (λ (s : SiteRef). s.object.0 == o) site false

-- an object knows a place just where one of its sites stands
pub record IsSound (buckets : List Bucket) (objects : List (List IndexSlot)) : Type 0 where
  pub known : (o t k : ℕ) → has_spot t k (slice_index_or objects o []) ≡ is_owner o (slot buckets t k)

-- what is left at a place after these are cleared
abbrev pub cleared_one : ℕ → ℕ → IndexSlot → Option SiteRef → Option SiteRef
cleared_one t k spot site = if is_spot t k spot then None else site

abbrev pub cleared : ℕ → ℕ → List IndexSlot → Option SiteRef → Option SiteRef
cleared t k spots site = if has_spot t k spots then None else site

-- what a bucket has room for, and the count of what is wanted of it
abbrev pub room_at : List Bucket → ℕ → ℕ
room_at buckets t = room_of (slice_index_or buckets t no_bucket)

abbrev pub wanted_at : List Bucket → ℕ → ℕ
wanted_at buckets t = (slice_index_or buckets t no_bucket).wanted

-- the places that an object knows, and how many more it has room for
abbrev pub spots_at : List (Vec IndexSlot Global) → ℕ → List IndexSlot
spots_at objects o = slice_index_or (map (λ (v : Vec IndexSlot Global). v.items) objects) o []

abbrev pub spot_room : List (Vec IndexSlot Global) → ℕ → ℕ
spot_room objects o = slice_index_or (map (λ (v : Vec IndexSlot Global). vec_capacity v - vec_len v) objects) o 0
