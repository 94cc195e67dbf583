-- The faults of the code stand for those of the definition.
use Rattle.place_sections.proofs.Common.{List, Option, OutputSectionAt, Region, Some, StandsFor, Statement, [], ap}
use Rattle.place_sections.proofs.Common.{option_map_or, output_sections, refl, slice_get, unwrap_or, ℕ, ◌∙◌, ◌≡◌}
use Rattle.ldscript.specs.statements.Numbering.{regions}
use Rattle.ldmodel.specs.Fault as fault
use Rattle.ldmodel.specs.FaultCode.{fault_of}
use Rattle.ldmodel.specs.Mentioned.{mentioned_names}
use Rattle.ldmodel.specs.declared.fault.Fault.TheVariants as variant
use Rattle.ldmodel.specs.declared.fault.MentionIndex.{MentionIndex}
use Rattle.ldmodel.specs.declared.placed.OutputIndex.{OutputIndex}
use Rattle.ldmodel.specs.declared.placed.RegionIndex.{RegionIndex}

pub stands_no_value : (script : List Statement) (line : ℕ)
    → StandsFor script (variant.NoValue line) (fault.NoValue line)
unfolding fault_of
stands_no_value script line p number e = refl

pub stands_moved_back : (script : List Statement) (line : ℕ)
    → StandsFor script (variant.MovedBack line) (fault.MovedBack line)
unfolding fault_of
stands_moved_back script line p number e = refl

pub stands_past : (script : List Statement) (line : ℕ)
    → StandsFor script (variant.PastAddressSpace line) (fault.PastAddressSpace line)
unfolding fault_of
stands_past script line p number e = refl

pub stands_not_ready : (script : List Statement) (line : ℕ) (m : MentionIndex) (name : List ℕ)
    → slice_get (mentioned_names script) m.0 ≡ Some name
    → StandsFor script (variant.NotReady line m) (fault.NotReady line name)
unfolding fault_of
stands_not_ready script line m name h p number e =
    ap (λ (s : List Statement). fault.NotReady line (unwrap_or (slice_get (mentioned_names s) m.0) [])) e
    ∙ ap (λ (o : Option (List ℕ)). fault.NotReady line (unwrap_or o [])) h

pub stands_full : (script : List Statement) (k : OutputIndex) (r : RegionIndex) (section region : List ℕ)
    → option_map_or (λ (x : OutputSectionAt). x.section.name) (slice_get (output_sections script) k.0) [] ≡ section
    → option_map_or (λ (x : Region). x.name) (slice_get (regions script) r.0) [] ≡ region
    → StandsFor script (variant.RegionFull k r) (fault.RegionFull section region)
unfolding fault_of
stands_full script k r section region h i p number e =
    ap (λ (s : List Statement).
    fault.RegionFull (option_map_or (λ (x : OutputSectionAt). x.section.name) (slice_get (output_sections s) k.0)
    []) (option_map_or (λ (x : Region). x.name) (slice_get (regions s) r.0) [])) e
    ∙ (ap (λ n. fault.RegionFull n (option_map_or (λ (x : Region). x.name) (slice_get (regions script) r.0) [])) h
    ∙ ap (λ n. fault.RegionFull section n) i)
