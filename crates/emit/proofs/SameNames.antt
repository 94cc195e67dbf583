-- What names stand for, and their faults, turn on the names and the symbols of objects and on the script alone.
use Rattle.emit.proofs.Common.{DiffersInContents, List, None, Option, Project, Some, UndefinedEntry, []}
use Rattle.emit.proofs.Common.{duplicate_fault, entry_of, enumerate_from, filter, if◌then◌else◌, map, name_faults, not}
use Rattle.emit.proofs.Common.{option_or, option_to_list, provided, refl, ℕ, ◌&&◌, ◌++◌, ◌||◌, ◌∷◌, ◌≡◌}
use Rattle.ldmodel.specs.NameFaults.{ByObject, ByScript, duplicate, duplicates, first_among, first_definer}
use Rattle.ldmodel.specs.NameFaults.{if_undefined, is_duplicate, is_first_of, strong_definitions, undefined_among}
use Rattle.ldmodel.specs.NameFaults.{undefined_entry}
use Rattle.ldmodel.specs.Names.{Declaration, decided, decision, declarations, declarations_of, declared_names, distinct}
use Rattle.ldmodel.specs.Names.{entry_symbol, is_of_name, is_provided_case, is_strong}
use Rattle.ldmodel.specs.ScriptNames.{assigned_names, is_assigned, is_provided, provided_names}
use Rattle.emit.proofs.Objects.{same_object_name, same_tables}

module _ {p q : Project} {place : ℕ} (h : DiffersInContents p q place) where
  same_declarations : declarations p.objects ≡ declarations q.objects
  same_declarations = λ i. declarations_of (enumerate_from 0 (same_tables h i))

  pub same_decision : decision p ≡ decision q
  unfolding decision
  same_decision =
      λ i name. decided (is_assigned (h.script i) name) (is_provided (h.script i) name)
      (filter (is_of_name name) (same_declarations i))

  pub same_provided : provided p ≡ provided q
  unfolding provided
  same_provided = λ i. filter (λ name. is_provided_case (same_decision i name)) (provided_names (h.script i))

  pub same_entry_symbol : entry_symbol p ≡ entry_symbol q
  unfolding entry_symbol
  same_entry_symbol = λ i. option_or (h.options i).entry (entry_of (h.script i))

  pub same_declared_names : declared_names p ≡ declared_names q
  unfolding declared_names
  same_declared_names =
      λ i. distinct
      (map (λ (d : Declaration). d.name) (same_declarations i) ++ assigned_names (h.script i)
      ++ provided_names (h.script i))

  -- faults

  same_strong : strong_definitions p ≡ strong_definitions q
  same_strong = λ i name. filter is_strong (filter (is_of_name name) (same_declarations i))

  same_first_among : (ds : List Declaration) → first_among p ds ≡ first_among q ds
  same_first_among [] = refl
  same_first_among (d ∷ ds) = λ i. ByObject (same_object_name h d.entry.object i)

  same_first_definer : first_definer p ≡ first_definer q
  same_first_definer =
      λ i name. if is_assigned (h.script i) name then ByScript else same_first_among (same_strong i name) i

  same_is_duplicate : is_duplicate p ≡ is_duplicate q
  same_is_duplicate =
      λ i d. is_strong d && (is_assigned (h.script i) d.name || not (is_first_of (same_strong i d.name) d))

  same_duplicate : duplicate p ≡ duplicate q
  same_duplicate =
      λ i d. record {
        name = d.name;
        object = same_object_name h d.entry.object i;
        first = same_first_definer i d.name;
      }

  same_duplicates : duplicates p ≡ duplicates q
  unfolding duplicates
  same_duplicates = λ i. map (same_duplicate i) (filter (same_is_duplicate i) (same_declarations i))

  same_undefined_among : (m : Option (List ℕ)) → undefined_among p m ≡ undefined_among q m
  same_undefined_among None = refl
  same_undefined_among (Some name) = λ i. if_undefined name (same_decision i name)

  same_undefined_entry : undefined_entry p ≡ undefined_entry q
  unfolding undefined_entry
  same_undefined_entry = λ i. same_undefined_among (same_entry_symbol i) i

  pub same_name_faults : name_faults p ≡ name_faults q
  unfolding name_faults
  same_name_faults =
      λ i. map duplicate_fault (same_duplicates i) ++ map UndefinedEntry (option_to_list (same_undefined_entry i))
