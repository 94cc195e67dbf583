-- What symbols and the entry symbol refer to turns on what names stand for and on the symbols of objects.
use Rattle.emit.proofs.Common.{DiffersInContents, NamedSymbol, Project, if◌then◌else◌, list_any, option_and_then, refl}
use Rattle.emit.proofs.Common.{ℕ, ◌≡◌}
use Rattle.ldmodel.specs.Live.{entry_section, is_section, refers_to, section_of_decision, section_of_entry}
use Rattle.ldmodel.specs.Live.{section_of_place, section_of_symbol, target_section}
use Rattle.ldmodel.specs.Names.{Common, Decision, Duplicate, Provided, Script, Strong, Undefined, Weak, is_local}
use Rattle.emit.proofs.Objects.{same_symbol_at}
use Rattle.emit.proofs.SameNames.{same_decision, same_entry_symbol}

module _ {p q : Project} {place : ℕ} (h : DiffersInContents p q place) where
  same_section_of_entry : section_of_entry p ≡ section_of_entry q
  same_section_of_entry =
      λ i e. option_and_then (λ (s : NamedSymbol). section_of_place e.object s.symbol.place)
      (same_symbol_at h e.object e.symbol i)

  same_section_of_decision : (d : Decision) → section_of_decision p d ≡ section_of_decision q d
  same_section_of_decision (Strong e) = λ i. same_section_of_entry i e
  same_section_of_decision (Weak e) = λ i. same_section_of_entry i e
  same_section_of_decision (Common owner size alignment) = refl
  same_section_of_decision Script = refl
  same_section_of_decision Provided = refl
  same_section_of_decision Undefined = refl
  same_section_of_decision Duplicate = refl

  same_section_of_symbol : section_of_symbol p ≡ section_of_symbol q
  same_section_of_symbol =
      λ i n s. if is_local s.symbol.binding
      then section_of_place n s.symbol.place
      else same_section_of_decision (same_decision h i s.name) i

  same_target_section : target_section p ≡ target_section q
  unfolding target_section
  same_target_section = λ i n r. option_and_then (same_section_of_symbol i n) (same_symbol_at h n r.symbol.0 i)

  pub same_refers_to : refers_to p ≡ refers_to q
  same_refers_to = λ i a b. list_any (λ r. is_section (same_target_section i a.id.object r) b) a.relocations

  pub same_entry_section : entry_section p ≡ entry_section q
  unfolding entry_section
  same_entry_section =
      λ i. option_and_then (λ name. same_section_of_decision (same_decision h i name) i) (same_entry_symbol h i)
