-- What comes of input sections beside a previous link: the fields of those that did not stay; and, of those that did,
-- the fields of the sites whose symbol has another value, in their places in the file.
use Rattle.std.specs.Prelude.{◌≡◌, ℕ, ◌+◌, List, [], ◌++◌, map, flat_map, filter, nat_le, if◌then◌else◌, Option, Some}
use Rattle.std.specs.Prelude.{Contains, None, length}
use Rattle.std.specs.List.{AllZip, filter_map}
use Rattle.std.specs.Option.{option_and_then}
use Rattle.emit_fields.specs.Patches.{patch_end}
use Rattle.emit_fields.specs.declared.patch.Patch.{Patch}
use Rattle.ldmodel.specs.Counts.{Counts}
use Rattle.ldmodel.specs.Relocations.{Site, sites, sites_of_section}
use Rattle.ldmodel.specs.Stayed.{GoodLink}
use Rattle.ldmodel.specs.declared.fault.Fault as code
use Rattle.ldmodel.specs.declared.names.ObjectPlace.{ObjectPlace}
use Rattle.ldmodel.specs.declared.sections.Part.TheVariants.{InTable}
use Rattle.ldmodel.specs.declared.sections.SectionRef.{SectionRef}
use Rattle.emit_relocate.specs.PreviousLinkInfo.{HasStayedAt, has_new_value}
use Rattle.emit_relocate.specs.Fields.{IsCounted, field_at}
use Rattle.emit_relocate.specs.Filled.{IsRunOf, ObjectSection, ends_of, sections_in}
use Rattle.emit_relocate.specs.KnownLink.{KnownLink, named_object}
use Rattle.emit_relocate.specs.declared.changed_fields.ChangedFields.{ChangedFields}
use Rattle.emit_relocate.specs.declared.previous_link_info.FileRange.{FileRange}

-- a field of a section in its place in the file, if it lies within the section's bytes there
abbrev pub in_file : FileRange → Patch → Option Patch
in_file r q = if nat_le (patch_end q) r.length then Some (record q { offset = r.offset + q.offset }) else None

-- the field of a site of a section whose bytes stand in a range of the file
abbrev pub file_patch_at : KnownLink → FileRange → Site → Option Patch
file_patch_at link r site = option_and_then (in_file r) (field_at link site)

-- these sites were evaluated: their fields were added, in their places in the file, and their faults, and each counted
pub record IsFiled (link : KnownLink) (r : FileRange) (ts : List Site) (old_patches new_patches : List Patch)
    (old_faults new_faults : List code.Fault) (before after : Counts) : Type 0 where
  pub patches : new_patches ≡ old_patches ++ filter_map (file_patch_at link r) ts
  pub counts : IsCounted link ts old_faults new_faults before after

-- those of these sites whose symbol has another value were evaluated: their fields were added, in their places in the
-- file, and their faults, and each counted
pub record AreRetargetedFiled (old : GoodLink) (link : KnownLink) (r : FileRange) (ts : List Site)
    (old_patches new_patches : List Patch) (old_faults new_faults : List code.Fault) (before after : Counts)
    : Type 0 where
  pub patches : new_patches ≡ old_patches ++ filter_map (file_patch_at link r) (filter (has_new_value old link) ts)
  pub counts : IsCounted link (filter (has_new_value old link) ts) old_faults new_faults before after

-- what was evaluated of an input section: its fields; patches in the file; and the sites
pub record Evaluated : Type 0 where
  pub run : List Patch
  pub patches : List Patch
  pub sites : List Site

abbrev pub own_sites : KnownLink → ObjectSection → List Site
own_sites link s = sites_of_section link.layout s.object s.section

-- the section did not stay, as far as is known: all its fields
pub record HasAllFields (link : KnownLink) (s : ObjectSection) (c : Evaluated) : Type 0 where
  pub run : IsRunOf link s c.run
  pub patches : c.patches ≡ []
  pub sites : c.sites ≡ own_sites link s

-- it stayed, with its bytes in a range of the file, if it has sites: no fields, and patches of the sites whose symbol
-- has another value
pub record HasRetargetedFields (old : GoodLink) (link : KnownLink) (key : SectionRef) (r : FileRange)
    (s : ObjectSection)
    (c : Evaluated) : Type 0 where
  pub stayed : (site : Site) → Contains (own_sites link s) site → HasStayedAt old link key r
  pub run : c.run ≡ []
  pub patches : c.patches ≡ filter_map (file_patch_at link r) c.sites
  pub sites : c.sites ≡ filter (has_new_value old link) (own_sites link s)

abbrev pub IsEvaluatedAt : GoodLink → KnownLink → SectionRef → Option FileRange → ObjectSection → Evaluated → Type 0
IsEvaluatedAt old link key None s c = HasAllFields link s c
IsEvaluatedAt old link key (Some r) s c = HasRetargetedFields old link key r s c

abbrev pub section_ref : ObjectPlace → ObjectSection → SectionRef
section_ref key s = record { object = key; part = InTable s.section.number }

-- by what is known to have stayed
pub record IsEvaluatedOf (old : GoodLink) (link : KnownLink) (range : SectionRef → Option FileRange) (s : ObjectSection)
    (c : Evaluated) : Type 0 where
  pub key : ObjectPlace
  pub named : named_object link key ≡ Some s.object
  pub outcome : IsEvaluatedAt old link (section_ref key s) (range (section_ref key s)) s c

-- what has been evaluated so far: fields, the places where those of each input section end, patches in the file,
-- faults, and the counts of work
pub record Results : Type 0 where
  pub fields : List Patch
  pub ends : List ℕ
  pub patches : List Patch
  pub faults : List code.Fault
  pub counts : Counts

abbrev pub results_of : ChangedFields → Counts → Results
results_of f counts = record {
  fields = f.patches.items;
  ends = f.ends.items;
  patches = f.retargeted.items;
  faults = f.faults.items;
  counts = counts;
}

abbrev pub no_results : Counts → Results
no_results counts = record { fields = []; ends = []; patches = []; faults = []; counts = counts }

-- something of which this is true was evaluated of an input section, and was added
pub record Adds (link : KnownLink) (IsDone : Evaluated → Type 0) (before after : Results) : Type 0 where
  -- what was evaluated
  pub evaluated : Evaluated
  pub is_done : IsDone evaluated
  -- its fields were added, and no end of them
  pub fields : after.fields ≡ before.fields ++ evaluated.run
  pub ends : after.ends ≡ before.ends
  -- its patches in the file
  pub patches : after.patches ≡ before.patches ++ evaluated.patches
  -- and the faults of its sites, each of which counts
  pub counts : IsCounted link evaluated.sites before.faults after.faults before.counts after.counts

-- what was evaluated of these input sections was added, one after another
pub record AreChanged (old : GoodLink) (link : KnownLink) (range : SectionRef → Option FileRange)
    (ss : List ObjectSection)
    (before after : Results) : Type 0 where
  pub sections : List Evaluated
  pub each : AllZip (IsEvaluatedOf old link range) ss sections
  pub fields : after.fields ≡ before.fields ++ flat_map (λ (c : Evaluated). c.run) sections
  pub ends : after.ends ≡ before.ends ++ ends_of (length before.fields) (map (λ (c : Evaluated). c.run) sections)
  pub patches : after.patches ≡ before.patches ++ flat_map (λ (c : Evaluated). c.patches) sections
  pub counts :
      IsCounted link (flat_map (λ (c : Evaluated). c.sites) sections) before.faults after.faults before.counts
      after.counts

-- all that there is to evaluate was evaluated, of all input sections: their fields were added one after another, the
-- places where those of each end, the faults of their sites, and their number
pub record AreFilled (link : KnownLink) (before after : Results) : Type 0 where
  pub runs : List (List Patch)
  pub each : AllZip (IsRunOf link) (sections_in link.project.objects) runs
  pub fields : after.fields ≡ before.fields ++ flat_map (λ run. run) runs
  pub ends : after.ends ≡ before.ends ++ ends_of (length before.fields) runs
  pub counts : IsCounted link (sites link.project link.layout) before.faults after.faults before.counts after.counts
