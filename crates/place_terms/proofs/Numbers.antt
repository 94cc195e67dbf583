-- The numbers of names tell the names apart.
use Rattle.place_terms.proofs.Common.{Bool, Directive, Err, IsFound, List, None, Numbered, Ok, OnOk, Option, Result}
use Rattle.place_terms.proofs.Common.{Some, Statement, [], ap, arith, assigned_from, assigned_here, bytes_eq, cond}
use Rattle.place_terms.proofs.Common.{false, given_as, given_name, length, map, map-append, name_given_by, named}
use Rattle.place_terms.proofs.Common.{number_of, option_map, option_map_or, provided_from, provided_here, refl}
use Rattle.place_terms.proofs.Common.{region_from, region_number, section_from, section_number, slice_get, suc, sym}
use Rattle.place_terms.proofs.Common.{symbol_number, symbol_of, true, ℕ, ◌++◌, ◌+◌, ◌<◌, ◌∙◌, ◌∷◌, ◌≡◌}
use Rattle.ldscript.specs.statements.Numbering.{DirectiveAt, OutputSectionAt, all_directives, output_sections, regions}
use Rattle.ldscript.specs.statements.declared.directive.Directive.TheVariants as directive
use Rattle.ldscript.specs.statements.declared.statement.Region.{Region}
use Rattle.ldmodel.specs.declared.script_symbol.ScriptSymbol as code
use Rattle.place_terms.proofs.Lists.{same_name}

-- what a number that was found says, counted from where the search began
pub record FoundAt {X : Type 0} (name_of : X → List ℕ) (from : ℕ) (xs : List X) (name : List ℕ) (k : ℕ) : Type 0 where
  pub more : ℕ
  pub here : k ≡ from + more
  pub named : option_map_or name_of (slice_get xs more) [] ≡ name
  pub inside : more < length xs

later : {X : Type 0} (name_of : X → List ℕ) (from : ℕ) (x : X) (xs : List X) (name : List ℕ) (k : ℕ)
    → FoundAt name_of (suc from) xs name k → FoundAt name_of from (x ∷ xs) name k
later name_of from x xs name k f =
    record { more = suc f.more; here = omega (arith, f.here); named = f.named; inside = omega (arith, f.inside) }

by_name : {X : Type 0} (name_of : X → List ℕ) (from : ℕ) (x : X) (xs : List X) (name : List ℕ) (k : ℕ)
    (rest : Option ℕ) → cond (bytes_eq name (name_of x)) (Some from) rest ≡ Some k
    → (rest ≡ Some k → FoundAt name_of (suc from) xs name k) → FoundAt name_of from (x ∷ xs) name k
by_name name_of from x xs name k rest e go = split (bytes_eq name (name_of x)) refl e
  where
    split : (b : Bool) → bytes_eq name (name_of x) ≡ b → cond b (Some from) rest ≡ Some k
        → FoundAt name_of from (x ∷ xs) name k
    split true h s =
        let same : from ≡ k = cc in
        record {
          more = 0;
          here = omega (arith, same);
          named = sym (same_name name (name_of x) h);
          inside =
              omega arith;
        }
    split false h s = later name_of from x xs name k (go s)

abbrev name_of_command : DirectiveAt → List ℕ
name_of_command c = given_name c.command

abbrev name_of_section : OutputSectionAt → List ℕ
name_of_section s = s.section.name

abbrev name_of_region : Region → List ℕ
name_of_region r = r.name

-- one more command, which assigns the name or does not
assigned_by : (from : ℕ) (c : DirectiveAt) (cs : List DirectiveAt) (name : List ℕ) (k : ℕ) (rest : Option ℕ) (d :
    Directive)
    → c.command ≡ d → assigned_here from d name rest ≡ Some k
    → (rest ≡ Some k → FoundAt name_of_command (suc from) cs name k) → FoundAt name_of_command from (c ∷ cs) name k
assigned_by from c cs name k rest (directive.Assign a) h e go =
    by_name name_of_command from c cs name k rest (ap (λ d. cond (bytes_eq name (given_name d)) (Some from) rest) h
    ∙ e) go
assigned_by from c cs name k rest (directive.Provide a) h e go = later name_of_command from c cs name k (go e)
assigned_by from c cs name k rest (directive.Assert a) h e go = later name_of_command from c cs name k (go e)

pub assigned_at : (from : ℕ) (cs : List DirectiveAt) (name : List ℕ) (k : ℕ) → assigned_from from cs name ≡ Some k
    → FoundAt name_of_command from cs name k
assigned_at from [] name k e = absurd (let no : ⊥ = cc in no)
assigned_at from (c ∷ cs) name k e =
    assigned_by from c cs name k (assigned_from (suc from) cs name) c.command refl e (assigned_at (suc from) cs name k)

provided_by : (from : ℕ) (c : DirectiveAt) (cs : List DirectiveAt) (name : List ℕ) (k : ℕ) (rest : Option ℕ) (d :
    Directive)
    → c.command ≡ d → provided_here from d name rest ≡ Some k
    → (rest ≡ Some k → FoundAt name_of_command (suc from) cs name k) → FoundAt name_of_command from (c ∷ cs) name k
provided_by from c cs name k rest (directive.Provide a) h e go =
    by_name name_of_command from c cs name k rest (ap (λ d. cond (bytes_eq name (given_name d)) (Some from) rest) h
    ∙ e) go
provided_by from c cs name k rest (directive.Assign a) h e go = later name_of_command from c cs name k (go e)
provided_by from c cs name k rest (directive.Assert a) h e go = later name_of_command from c cs name k (go e)

pub provided_at : (from : ℕ) (cs : List DirectiveAt) (name : List ℕ) (k : ℕ) → provided_from from cs name ≡ Some k
    → FoundAt name_of_command from cs name k
provided_at from [] name k e = absurd (let no : ⊥ = cc in no)
provided_at from (c ∷ cs) name k e =
    provided_by from c cs name k (provided_from (suc from) cs name) c.command refl e (provided_at (suc from) cs name k)

pub symbol_at : (script : List Statement) (name : List ℕ) (k : ℕ) → symbol_number script name ≡ Some k
    → FoundAt name_of_command 0 (all_directives script) name k
symbol_at script name k e =
    go (assigned_from 0 (all_directives script) name) refl (provided_from 0 (all_directives script) name) refl e
  where
    go : (a : Option ℕ) → assigned_from 0 (all_directives script) name ≡ a → (p : Option ℕ)
        → provided_from 0 (all_directives script) name ≡ p → option_map number_of (given_as a p) ≡ Some k
        → FoundAt name_of_command 0 (all_directives script) name k
    go (Some j) h p i s = assigned_at 0 (all_directives script) name k (h ∙ s)
    go None h (Some j) i s = provided_at 0 (all_directives script) name k (i ∙ s)
    go None h None i s = absurd (let no : ⊥ = cc in no)

pub section_at : (from : ℕ) (ss : List OutputSectionAt) (name : List ℕ) (k : ℕ) → section_from from ss name ≡ Some k
    → FoundAt name_of_section from ss name k
section_at from [] name k e = absurd (let no : ⊥ = cc in no)
section_at from (s ∷ ss) name k e =
    by_name name_of_section from s ss name k (section_from (suc from) ss name) e (section_at (suc from) ss name k)

pub region_at : (from : ℕ) (rs : List Region) (name : List ℕ) (k : ℕ) → region_from from rs name ≡ Some k
    → FoundAt name_of_region from rs name k
region_at from [] name k e = absurd (let no : ⊥ = cc in no)
region_at from (r ∷ rs) name k e =
    by_name name_of_region from r rs name k (region_from (suc from) rs name) e (region_at (suc from) rs name k)

-- numbers that tell names apart
pub record Tells (number : List ℕ → Option ℕ) : Type 0 where
  pub apart : (a b : List ℕ) (k : ℕ) → number a ≡ Some k → number b ≡ Some k → a ≡ b

same_place : {X : Type 0} (name_of : X → List ℕ) (xs : List X) (a b : List ℕ) (k : ℕ) → FoundAt name_of 0 xs a k
    → FoundAt name_of 0 xs b k → a ≡ b
same_place name_of xs a b k f g =
    let same : f.more ≡ g.more = omega (arith, f.here, g.here) in
    sym f.named ∙ (ap (λ n. option_map_or name_of (slice_get xs n) []) same ∙ g.named)

pub symbols_told : (script : List Statement) → Tells (symbol_number script)
symbols_told script =
    record {
      apart = λ a b k f g.
          same_place name_of_command (all_directives script) a b k (symbol_at script a k f) (symbol_at script b k g);
    }

pub sections_told : (script : List Statement) → Tells (section_number script)
sections_told script =
    record {
      apart = λ a b k f g.
          same_place name_of_section (output_sections script) a b k (section_at 0 (output_sections script) a k f)
          (section_at 0 (output_sections script) b k g);
    }

pub regions_told : (script : List Statement) → Tells (region_number script)
regions_told script =
    record {
      apart = λ a b k f g.
          same_place name_of_region (regions script) a b k (region_at 0 (regions script) a k f)
          (region_at 0 (regions script) b k g);
    }

-- the output section, or the region, of a number has the name
pub section_named_by : (script : List Statement) (name : List ℕ) (k : ℕ) → section_number script name ≡ Some k
    → option_map_or (λ (s : OutputSectionAt). s.section.name) (slice_get (output_sections script) k) [] ≡ name
section_named_by script name k e =
    let f = section_at 0 (output_sections script) name k e in
    let same : k ≡ f.more = omega (arith, f.here) in
    ap (λ j. option_map_or name_of_section (slice_get (output_sections script) j) []) same ∙ f.named

pub region_named_by : (script : List Statement) (name : List ℕ) (k : ℕ) → region_number script name ≡ Some k
    → option_map_or (λ (r : Region). r.name) (slice_get (regions script) k) [] ≡ name
region_named_by script name k e =
    let f = region_at 0 (regions script) name k e in
    let same : k ≡ f.more = omega (arith, f.here) in
    ap (λ j. option_map_or name_of_region (slice_get (regions script) j) []) same ∙ f.named

-- the command under whose number a symbol is found gives it its value
pub symbol_named_by : (script : List Statement) (name : List ℕ) (k : ℕ) → symbol_number script name ≡ Some k
    → name_given_by script k ≡ name
symbol_named_by script name k e =
    let f = symbol_at script name k e in
    let same : k ≡ f.more = omega (arith, f.here) in
    ap (name_given_by script) same ∙ f.named

pub found_by_name : (script : List Statement) (name : List ℕ) (n k v : ℕ) → symbol_number script name ≡ Some n → k ≡ n
    → IsFound script (record { command = record { 0 = k }; value = v })
found_by_name script name n k v e same =
    let h : symbol_number script name ≡ Some k = e ∙ ap Some (sym same) in
    ap (symbol_number script) (symbol_named_by script name k h) ∙ h

pub named_by_number : {T E : Type 0} (r : Result T E) (s t : Numbered) (name : List ℕ) (n k v : ℕ)
    → symbol_number s.script name ≡ Some n → k ≡ n → t.script ≡ s.script
    → OnOk r (t.list ≡ s.list ++ record { command = record { 0 = k }; value = v } ∷ [])
    → OnOk r (named t ≡ named s ++ record { name = name; value = v } ∷ [])
named_by_number (Err f) s t name n k v e same keeps pushed = tt
named_by_number (Ok u) s t name n k v e same keeps pushed =
    let x : code.ScriptSymbol = record { command = record { 0 = k }; value = v } in
    let h : symbol_number s.script name ≡ Some k = e ∙ ap Some (sym same) in
    let here : symbol_of s.script x ≡ record { name = name; value = v } =
    ap (λ m. record { name = m; value = v }) (symbol_named_by s.script name k h) in
    ap (λ z. map (symbol_of z) t.list) keeps
    ∙ (ap (map (symbol_of s.script)) pushed
    ∙ (map-append (symbol_of s.script) s.list (x ∷ []) ∙ ap (λ y. named s ++ y ∷ []) here))
