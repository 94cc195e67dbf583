-- A script in which nothing is given twice has at most one command that gives a symbol its value.
use Rattle.place_terms.proofs.Common.{Bool, Directive, Each, EachLater, List, None, Option, Some, Statement, [], ap}
use Rattle.place_terms.proofs.Common.{arith, assigned_from, assigned_here, false, given_as, number_of, option_map}
use Rattle.place_terms.proofs.Common.{other_name, provided_from, provided_here, refl, subst, suc, sym, symbol_number}
use Rattle.place_terms.proofs.Common.{symbols_differ, true, zero, ℕ, ⊤, ◌+◌, ◌∙◌, ◌∷◌, ◌≡◌, ◌≢◌}
use Rattle.place_terms.specs.Numbers.{AreCommandsOf, AreNumbered, gives, gives_at}
use Rattle.ldscript.specs.statements.Numbering.{DirectiveAt, all_directives}
use Rattle.ldscript.specs.statements.declared.directive.Directive.TheVariants as directive
use Rattle.ldmodel_laws.specs.Alike.{given_names, names_given}
use Rattle.ldmodel_laws.proofs.EachOf.{across, each_parts, last_part}
use Rattle.place_terms.proofs.Lists.{same_name}

-- none of these gives the symbol of a name its value
abbrev Ungiven : List ℕ → List DirectiveAt → Type 0
Ungiven n [] = ⊤
Ungiven n (c ∷ cs) = (gives c.command n ≡ false) × Ungiven n cs

not_given : (n : List ℕ) (c : Directive) → Each (λ k. n ≢ k) (given_names c) → gives c n ≡ false
not_given n (directive.Assign a) h = other_name n a.name h.0
not_given n (directive.Provide a) h = other_name n a.name h.0
not_given n (directive.Assert a) h = refl

ungiven : (n : List ℕ) (cs : List DirectiveAt) → Each (λ k. n ≢ k) (names_given cs) → Ungiven n cs
ungiven n [] h = tt
ungiven n (c ∷ cs) h =
    let parts = each_parts (λ k. n ≢ k) (given_names c.command) (names_given cs) h in
    (not_given n c.command parts.0, ungiven n cs parts.1)

-- no later one gives the same symbol its value
abbrev Once : List DirectiveAt → Type 0
Once [] = ⊤
Once (c ∷ cs) = ((n : List ℕ) → gives c.command n ≡ true → Ungiven n cs) × Once cs

given_once : (c : Directive) (cs : List DirectiveAt) → Each (λ n. Each (λ k. n ≢ k) (names_given cs)) (given_names c)
    → (n : List ℕ) → gives c n ≡ true → Ungiven n cs
given_once (directive.Assign a) cs h n e =
    subst (λ z. Ungiven z cs) (sym (same_name n a.name e)) (ungiven a.name cs h.0)
given_once (directive.Provide a) cs h n e =
    subst (λ z. Ungiven z cs) (sym (same_name n a.name e)) (ungiven a.name cs h.0)
given_once (directive.Assert a) cs h n e = absurd (let no : ⊥ = cc in no)

all_once : (cs : List DirectiveAt) → EachLater (λ n k. n ≢ k) (names_given cs) → Once cs
all_once [] h = tt
all_once (c ∷ cs) h = (
  given_once c.command cs (across (λ n k. n ≢ k) (given_names c.command) (names_given cs) h),
  all_once cs (last_part (λ n k. n ≢ k) (given_names c.command) (names_given cs) h),
)

unassigned_by : (from : ℕ) (n : List ℕ) (c : Directive) (later : Option ℕ) → gives c n ≡ false
    → assigned_here from c n later ≡ later
unassigned_by from n (directive.Assign a) later e = rw e refl
unassigned_by from n (directive.Provide a) later e = refl
unassigned_by from n (directive.Assert a) later e = refl

unprovided_by : (from : ℕ) (n : List ℕ) (c : Directive) (later : Option ℕ) → gives c n ≡ false
    → provided_here from c n later ≡ later
unprovided_by from n (directive.Assign a) later e = refl
unprovided_by from n (directive.Provide a) later e = rw e refl
unprovided_by from n (directive.Assert a) later e = refl

unassigned : (from : ℕ) (n : List ℕ) (cs : List DirectiveAt) → Ungiven n cs → assigned_from from cs n ≡ None
unassigned from n [] u = refl
unassigned from n (c ∷ cs) u =
    unassigned_by from n c.command (assigned_from (suc from) cs n) u.0 ∙ unassigned (suc from) n cs u.1

unprovided : (from : ℕ) (n : List ℕ) (cs : List DirectiveAt) → Ungiven n cs → provided_from from cs n ≡ None
unprovided from n [] u = refl
unprovided from n (c ∷ cs) u =
    unprovided_by from n c.command (provided_from (suc from) cs n) u.0 ∙ unprovided (suc from) n cs u.1

-- the number of the command that gives a symbol its value, counted from one on
abbrev number_from : ℕ → List DirectiveAt → List ℕ → Option ℕ
number_from from cs n = option_map number_of (given_as (assigned_from from cs n) (provided_from from cs n))

first_gives : (from : ℕ) (n : List ℕ) (c : Directive) (a p : Option ℕ) → gives c n ≡ true → a ≡ None → p ≡ None
    → option_map number_of (given_as (assigned_here from c n a) (provided_here from c n p)) ≡ Some from
first_gives from n (directive.Assign b) a p e f g = rw e refl
first_gives from n (directive.Provide b) a p e f g = rw (e, f) refl
first_gives from n (directive.Assert b) a p e f g = absurd (let no : ⊥ = cc in no)

gives_later : (n : List ℕ) (cs : List DirectiveAt) (k : ℕ) → Ungiven n cs → gives_at cs k n ≡ true → ⊥
gives_later n [] k u e = let no : ⊥ = cc in no
gives_later n (c ∷ cs) zero u e = let f = u.0 in let no : ⊥ = cc in no
gives_later n (c ∷ cs) (suc k) u e = gives_later n cs k u.1 e

number_is : (from : ℕ) (n : List ℕ) (cs : List DirectiveAt) (k : ℕ) → Once cs → gives_at cs k n ≡ true
    → number_from from cs n ≡ Some (from + k)
number_is from n [] k o e = absurd (let no : ⊥ = cc in no)
number_is from n (c ∷ cs) zero o e =
    let u = o.0 n e in
    let here : from ≡ from + 0 = omega arith in
    first_gives from n c.command (assigned_from (suc from) cs n) (provided_from (suc from) cs n) e
    (unassigned (suc from) n cs u) (unprovided (suc from) n cs u) ∙ ap Some here
number_is from n (c ∷ cs) (suc k) o e = go (gives c.command n) refl (number_is (suc from) n cs k o.1 e)
  where
    go : (b : Bool) → gives c.command n ≡ b → number_from (suc from) cs n ≡ Some (suc from + k)
        → number_from from (c ∷ cs) n ≡ Some (from + suc k)
    go true f later = absurd (gives_later n cs k (o.0 n f) e)
    go false f later =
        let more : suc from + k ≡ from + suc k = omega arith in
        ap (λ a. option_map number_of (given_as a (provided_here from c.command n (provided_from (suc from) cs n))))
        (unassigned_by from n c.command (assigned_from (suc from) cs n) f)
        ∙ (ap (λ p. option_map number_of (given_as (assigned_from (suc from) cs n) p))
        (unprovided_by from n c.command (provided_from (suc from) cs n) f)
        ∙ (later ∙ ap Some more))

-- a command that gives a symbol its value is the one that is found by the symbol's name
found_by_name : (script : List Statement) (commands : List DirectiveAt) (k : ℕ) (n : List ℕ)
    → AreCommandsOf script commands → gives_at commands k n ≡ true → symbol_number script n ≡ Some k
found_by_name script commands k n c e =
    let from_none : 0 + k ≡ k = omega arith in
    number_is 0 n (all_directives script) k (all_once (all_directives script) (symbols_differ script c.sound))
    (ap (λ cs. gives_at cs k n) (sym c.all) ∙ e) ∙ ap Some from_none

pub all_numbered : (script : List Statement) (commands : List DirectiveAt) → AreCommandsOf script commands
    → AreNumbered script commands
all_numbered script commands c = λ k n e. found_by_name script commands k n c e
