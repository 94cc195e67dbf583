-- No two output sections of a script without a clash have one name.
use Rattle.place.proofs.Common.{AreNamed, EachLater, IsSound, List, PlacedOutput, Project, bytes_eq, false, later_imply}
use Rattle.place.proofs.Common.{later_of_map, subst, sym, ◌≡◌, ◌≢◌}
use Rattle.ldscript.specs.statements.Numbering.{output_sections}
use Rattle.place_sections.specs.OverlapFaults.{AreOutputs}
use Rattle.ldmodel_laws.proofs.Mentioned.{other_name, section_names, sections_differ}

-- the output sections of a script have different names
pub are_named : (p : Project) (qs : List PlacedOutput) → IsSound p.script → AreOutputs p qs → AreNamed qs
are_named p qs sound same =
    later_of_map (λ n k. bytes_eq n k ≡ false) (λ (q : PlacedOutput). q.name) qs
    (subst (EachLater (λ n k. bytes_eq n k ≡ false)) (sym same)
    (later_imply (λ n k. n ≢ k) (λ n k. bytes_eq n k ≡ false) other_name (section_names (output_sections p.script))
    (sections_differ p.script sound)))
