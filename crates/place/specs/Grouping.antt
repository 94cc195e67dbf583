-- Output sections that share a segment, as the code groups them: from the first to the last, by their numbers.
use Rattle.std.specs.Prelude.{◌≡◌, ⊤, ℕ, ◌+◌, ◌-◌, ◌<◌, ◌^◌, List, [], ◌∷◌, ◌++◌, map, Option, Some, None}
use Rattle.std.specs.Prelude.{slice_get, if◌then◌else◌}
use Rattle.std.specs.List.{All, AllZip, last_or}
use Rattle.ldmodel.specs.Layout.{PlacedOutput}
use Rattle.ldmodel.specs.PlacementView.{placed_of}
use Rattle.ldmodel.specs.Segments.{Group, file_size, groups, memory_size, nonempty, shares_segment}
use Rattle.ldmodel.specs.declared.placed.OutputIndex.{OutputIndex}
use Rattle.ldmodel.specs.declared.placed.Placed.{Placed}
use Rattle.place.specs.declared.group.Group as code
use Rattle.place.specs.declared.group.Running.{Running}

-- ends are below 2^64
abbrev pub Ends : List Placed → Type 0
Ends sections = All (λ (q : Placed). q.start + q.size < 2 ^ 64) sections

-- an output section with these numbers, and nothing else
abbrev pub bare : Placed → PlacedOutput
bare q = record {
  name = [];
  region = None;
  alignment = q.alignment;
  start = q.start;
  size = q.size;
  load = q.load;
  has_file_bytes = q.has_file_bytes;
  load_size = q.load_size;
  writable = q.writable;
  executable = q.executable;
  fill = None;
  pieces = [];
  data_commands = [];
}

-- a group of the code
pub record IsGroup (sections : List PlacedOutput) (g : Group) (x : code.Group) : Type 0 where
  pub start : x.start ≡ g.first.start
  pub load : x.load ≡ g.first.load
  pub in_file : x.file_size ≡ file_size g
  pub in_memory : x.memory_size ≡ memory_size g
  pub writable : x.writable ≡ g.first.writable
  pub executable : x.executable ≡ g.first.executable
  pub first : slice_get sections x.first.0 ≡ Some g.first
  pub last : slice_get sections x.last.0 ≡ last_or (Some g.first) g.others

-- the groups of output sections that have these numbers
abbrev pub AreGroups : List Placed → List code.Group → Type 0
AreGroups placed xs =
    (s : List PlacedOutput) → map placed_of s ≡ placed → AllZip (IsGroup s) (groups (nonempty s)) xs

-- an output section alone
abbrev pub begun : OutputIndex → Placed → code.Group
begun number q = record {
  start = q.start;
  load = q.load;
  file_size = if q.has_file_bytes then q.size else 0;
  memory_size = q.size;
  writable = q.writable;
  executable = q.executable;
  first = number;
  last = number;
}

-- a group and one more
abbrev pub joined : code.Group → OutputIndex → Placed → code.Group
joined g number q =
    let reach : ℕ = (q.start + q.size) - g.start in
    record g { file_size = if q.has_file_bytes then reach else g.file_size; memory_size = reach; last = number }

-- a group alone
abbrev pub single : PlacedOutput → Group
single output = record { first = output; others = [] }

abbrev pub extended : Group → PlacedOutput → Group
extended g output = record { first = g.first; others = g.others ++ output ∷ [] }

-- a group that may go on, and its last output section
pub record Current : Type 0 where
  pub group : Group
  pub last : PlacedOutput

-- the groups of a group that may go on, and of those after it
unfoldable pub groups_after : Current → List PlacedOutput → List Group
groups_after c [] = c.group ∷ []
groups_after c (q ∷ qs) =
    if shares_segment c.last q then groups_after (record { group = extended c.group q; last = q }) qs
    else (c.group ∷ groups_after (record { group = single q; last = q }) qs)

unfoldable pub groups_from : Option Current → List PlacedOutput → List Group
groups_from None [] = []
groups_from None (q ∷ qs) = groups_after (record { group = single q; last = q }) qs
groups_from (Some c) qs = groups_after c qs

-- the code's group that may go on
pub record IsCurrent (sections : List PlacedOutput) (c : Current) (x : Running) : Type 0 where
  pub group : IsGroup sections c.group x.group
  pub last : placed_of c.last ≡ x.last

abbrev pub IsRunning : List PlacedOutput → Option Current → Option Running → Type 0
IsRunning sections None None = ⊤
IsRunning sections (Some c) (Some x) = IsCurrent sections c x
IsRunning sections _ _ = ⊥

-- the groups so far, where the output sections that are left are these
pub record Grouped (sections rest : List PlacedOutput) (done : List code.Group) (running : Option Running)
    : Type 0 where
  pub complete : List Group
  pub current : Option Current
  pub are : AllZip (IsGroup sections) complete done
  pub is : IsRunning sections current running
  pub same : groups (nonempty sections) ≡ complete ++ groups_from current (nonempty rest)

-- the step over output section number k
pub record Takes (done : List code.Group) (running : Option Running) (k : ℕ) (placed : Placed)
    (new_done : List code.Group) (new_running : Option Running) : Type 0 where
  pub at : (sections rest : List PlacedOutput) (output : PlacedOutput) → slice_get sections k ≡ Some output
      → placed_of output ≡ placed → Grouped sections (output ∷ rest) done running
      → Grouped sections rest new_done new_running
