-- Why no directive stands at some tokens.
use Rattle.ldscript.proofs.Common.{Add, AddAssign, Assign, CloseParenthesis, Comma, Expr, Lexeme, List, Mode, NoneAt}
use Rattle.ldscript.proofs.Common.{OpenParenthesis, Semicolon, Set, asserted, directive, ended, mark}
use Rattle.ldscript.proofs.Common.{provided_assignment, string, ℕ, ◌▸◌}
use Rattle.ldscript.specs.Steps.{name_in}
use Rattle.ldscript.specs.Grammar.{dot_set_to, dot_change, assign, provided_name, provide, assertion}
use Rattle.ldscript_statements.specs.declared.directive.Directive.TheVariants as directives
use Rattle.ldscript.proofs.Singles.{mark_fixed, marks_differ, behind, behind_tree, ended_single, name_single}
use Rattle.ldscript.proofs.Singles.{provided_name_single}

pub add_none : (ts us : List Lexeme) → mark AddAssign ts us → NoneAt (ended Semicolon) us → NoneAt dot_change ts
add_none ts us h n (Set e) more d = marks_differ AddAssign Assign ts us d.0 (λ q. cc) h d.1
add_none ts us h n (Add e) more d =
    n e more (behind (mark AddAssign) (ended Semicolon e) (mark_fixed AddAssign) ts us more h d)

pub set_none : (ts : List Lexeme) → ((us : List Lexeme) → mark AddAssign ts us → ⊥) → NoneAt dot_set_to ts
    → NoneAt dot_change ts
set_none ts no_add n (Set e) more d = n e more d
set_none ts no_add n (Add e) more d = no_add d.0 d.1

pub assign_none : (mode : Mode) (ts us : List Lexeme) (n : List ℕ) → name_in mode n ts us → NoneAt dot_set_to us
    → NoneAt (assign mode) ts
assign_none mode ts us n h none y more d =
    let e = behind_tree (name_in mode) (dot_set_to y.value) (name_single mode) ts us more n y.name h d in
    none y.value more e.1

pub provided_none : (ts us : List Lexeme) (n : List ℕ) → provided_name n ts us → NoneAt (ended CloseParenthesis) us
    → NoneAt provided_assignment ts
provided_none ts us n h none y more d =
    let e = behind_tree provided_name (ended CloseParenthesis y.value) provided_name_single ts us more n y.name h d in
    none y.value more e.1

pub condition_none : (ts us : List Lexeme) → mark OpenParenthesis ts us → NoneAt (ended Comma) us → NoneAt asserted ts
condition_none ts us h none y more d =
    let e = behind (mark OpenParenthesis) (ended Comma y.condition ▸ string y.message ▸ mark CloseParenthesis)
    (mark_fixed OpenParenthesis) ts us more h d in
    none y.condition e.0 e.1

pub message_none : (ts us vs : List Lexeme) (e : Expr) → mark OpenParenthesis ts us → ended Comma e us vs
    → NoneAt (λ s. string s ▸ mark CloseParenthesis) vs → NoneAt asserted ts
message_none ts us vs e h k none y more d =
    let f = behind (mark OpenParenthesis) (ended Comma y.condition ▸ string y.message ▸ mark CloseParenthesis)
    (mark_fixed OpenParenthesis) ts us more h d in
    let g = behind_tree (ended Comma) (string y.message ▸ mark CloseParenthesis)
    (ended_single Comma tt) us vs more e y.condition k f in
    none y.message more g.1

pub directive_none : (mode : Mode) (ts : List Lexeme) → NoneAt (assign mode) ts → NoneAt (provide mode) ts
    → NoneAt (assertion mode) ts → NoneAt (directive mode) ts
directive_none mode ts a p s (directives.Assign y) more d = a y more d
directive_none mode ts a p s (directives.Provide y) more d = p y more d
directive_none mode ts a p s (directives.Assert y) more d = s y more d
