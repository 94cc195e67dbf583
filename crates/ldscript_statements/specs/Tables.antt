-- The tables of a script's names.
use Rattle.std.specs.Prelude.{◌≡◌, ℕ, List, ◌++◌, Option, map}
use Rattle.std.specs.Borrow.{Bor}
use Rattle.ldscript_statements.specs.declared.directive.Directive.{Directive}
use Rattle.ldscript_statements.specs.declared.given.Given.{Given}
use Rattle.ldscript_statements.specs.declared.number_table.NumberTable.{NumberTable}
use Rattle.ldscript_statements.specs.declared.tables.Tables.{Tables}
use Rattle.ldscript_statements.specs.declared.statement.Region.{Region}
use Rattle.ldscript_statements.specs.declared.statement.Statement.{Statement}
use Rattle.ldscript_statements.specs.Given.{assigned_here, assigned_from, provided_here, provided_from, given_as}
use Rattle.ldscript_statements.specs.Given.{given_by}
use Rattle.ldscript_statements.specs.Given.{section_from, section_number, region_from, region_number}
use Rattle.ldscript_statements.specs.Numbering.{OutputSectionAt, DirectiveAt}
use Rattle.ldscript_statements.specs.NumberTables.{number_at}

-- names as the code lends them
abbrev pub shown_names : List (Bor (List ℕ)) → List (List ℕ)
shown_names list = map (λ (n : Bor (List ℕ)). n.now) list

abbrev pub AddsNames : List (Bor (List ℕ)) → List (Bor (List ℕ)) → List (List ℕ) → Type 0
AddsNames old new these = shown_names new ≡ shown_names old ++ these

abbrev pub AssignsOver : NumberTable → NumberTable → ℕ → Directive → Type 0
AssignsOver old new number c = (name : List ℕ) → number_at new name ≡ assigned_here number c name (number_at old name)

abbrev pub ProvidesOver : NumberTable → NumberTable → ℕ → Directive → Type 0
ProvidesOver old new number c = (name : List ℕ) → number_at new name ≡ provided_here number c name (number_at old name)

abbrev pub HasAssigned : NumberTable → List DirectiveAt → Type 0
HasAssigned t directives = (name : List ℕ) → number_at t name ≡ assigned_from 0 directives name

abbrev pub HasProvided : NumberTable → List DirectiveAt → Type 0
HasProvided t directives = (name : List ℕ) → number_at t name ≡ provided_from 0 directives name

abbrev pub HasSections : NumberTable → List OutputSectionAt → Type 0
HasSections t sections = (name : List ℕ) → number_at t name ≡ section_from 0 sections name

abbrev pub HasRegions : NumberTable → List Region → Type 0
HasRegions t regions = (name : List ℕ) → number_at t name ≡ region_from 0 regions name

abbrev pub given_in : Tables → List ℕ → Option Given
given_in t name = given_as (number_at t.assigned name) (number_at t.provided name)

abbrev pub section_in : Tables → List ℕ → Option ℕ
section_in t name = number_at t.sections name

abbrev pub region_in : Tables → List ℕ → Option ℕ
region_in t name = number_at t.regions name

-- the tables answer what the statements say
pub record IsTablesOf (s : List Statement) (t : Tables) : Type 0 where
  pub given : (name : List ℕ) → given_in t name ≡ given_by s name
  pub section : (name : List ℕ) → section_in t name ≡ section_number s name
  pub region : (name : List ℕ) → region_in t name ≡ region_number s name
