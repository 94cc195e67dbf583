-- The statements of a script, and the law that no text has two trees.
use Rattle.ldscript.proofs.Common.{CloseBrace, CloseParenthesis, Directive, Expression, Lexeme, List, Name, NoneAt}
use Rattle.ldscript.proofs.Common.{OpenBrace, OpenParenthesis, Punctuation, Rule, Semicolon, [], ap, append-nil}
use Rattle.ldscript.proofs.Common.{bytes_eq, codes, directive, each, false, first_line, is_free_name, is_reserved}
use Rattle.ldscript.proofs.Common.{item_statement, key, lexeme, mark, refl, region, statements, subst, sym, token}
use Rattle.ldscript.proofs.Common.{top_statement, true, ℕ, ◌∙◌, ◌∷◌, ◌≡◌, ◌▸◌}
use Rattle.ldscript_tokens.specs.Modes.{IsCut}
use Rattle.ldscript.specs.Steps.{name, Semicolons, none}
use Rattle.ldscript.specs.Grammar.{entry, memory, sections, top_command, script}
use Rattle.ldscript.specs.Script.{IsTree}
use Rattle.ldscript_statements.specs.declared.directive.Directive.TheVariants as directives
use Rattle.ldscript_statements.specs.declared.statement.Command.{Command}
use Rattle.ldscript_statements.specs.declared.statement.Command.TheVariants as top
use Rattle.ldscript_statements.specs.declared.statement.Statement.{Statement}
use Rattle.ldscript.proofs.Singles.{Single, tokens_same, mark_fixed, key_fixed, skip_single, end_single, keys_differ}
use Rattle.ldscript.proofs.Singles.{name_no_key, name_single, directive_single}
use Rattle.ldscript.proofs.Regions.{closed_regions_single}
use Rattle.ldscript.proofs.Items.{closed_items_single}
use Rattle.ldscript.proofs.Lists.{Listed, SoFar, closing_single, so_far_stuck}

pub named_in_parentheses_single : Single (λ n. mark OpenParenthesis ▸ name n ▸ mark CloseParenthesis)
named_in_parentheses_single = skip_single (mark OpenParenthesis) (λ n. name n ▸ mark CloseParenthesis)
    (mark_fixed OpenParenthesis) (end_single name (mark CloseParenthesis) (name_single Expression)
    (mark_fixed CloseParenthesis))

entry_single : Single entry
entry_single = skip_single (key Expression (codes "ENTRY")) (λ n. mark OpenParenthesis ▸ name n ▸ mark CloseParenthesis)
    (key_fixed Expression (codes "ENTRY")) named_in_parentheses_single

memory_single : Single memory
memory_single = skip_single (key Expression (codes "MEMORY")) (λ rs. mark OpenBrace ▸ each region rs ▸ mark CloseBrace)
    (key_fixed Expression (codes "MEMORY"))
    (skip_single (mark OpenBrace) (λ rs. each region rs ▸ mark CloseBrace) (mark_fixed OpenBrace) closed_regions_single)

sections_single : Single sections
sections_single = skip_single (key Expression (codes "SECTIONS"))
    (λ is. mark OpenBrace ▸ statements item_statement is ▸ mark CloseBrace) (key_fixed Expression (codes "SECTIONS"))
    (skip_single (mark OpenBrace) (λ is. statements item_statement is ▸ mark CloseBrace)
    (mark_fixed OpenBrace) closed_items_single)

entry_no_name : is_free_name (codes "ENTRY") ≡ false
unfolding is_free_name is_reserved
entry_no_name = refl

memory_no_name : is_free_name (codes "MEMORY") ≡ false
unfolding is_free_name is_reserved
memory_no_name = refl

sections_no_name : is_free_name (codes "SECTIONS") ≡ false
unfolding is_free_name is_reserved
sections_no_name = refl

key_no_directive : (w : List ℕ) → is_free_name w ≡ false → bytes_eq w w ≡ true → bytes_eq w (codes "PROVIDE") ≡ false
    → bytes_eq w (codes "ASSERT") ≡ false
    → (c : Directive) (ts r s : List Lexeme) → key Expression w ts r → directive Expression c ts s → ⊥
key_no_directive w f e p a (directives.Assign c) ts r s x y = name_no_key Expression c.name w f ts y.0 r y.1 x
key_no_directive w f e p a (directives.Provide c) ts r s x y = keys_differ Expression w (codes "PROVIDE") e p ts r y.0 x
    y.1
key_no_directive w f e p a (directives.Assert c) ts r s x y = keys_differ Expression w (codes "ASSERT") e a ts r y.0 x
    y.1

pub top_command_single : Single top_command
top_command_single ts r s (top.Entry a) (top.Entry b) x y = let e = entry_single ts r s a b x y in
    (ap top.Entry e.0, e.1)
top_command_single ts r s (top.Memory a) (top.Memory b) x y = let e = memory_single ts r s a b x y in
    (ap top.Memory e.0, e.1)
top_command_single ts r s (top.Sections a) (top.Sections b) x y = let e = sections_single ts r s a b x y in
    (ap top.Sections e.0, e.1)
top_command_single ts r s (top.Directive a) (top.Directive b) x y = let e = directive_single Expression ts r s a b x y
    in
    (ap top.Directive e.0, e.1)
top_command_single ts r s (top.Entry a) (top.Memory b) x y =
    absurd (keys_differ Expression (codes "ENTRY") (codes "MEMORY") refl refl ts x.0 y.0 x.1 y.1)
top_command_single ts r s (top.Entry a) (top.Sections b) x y =
    absurd (keys_differ Expression (codes "ENTRY") (codes "SECTIONS") refl refl ts x.0 y.0 x.1 y.1)
top_command_single ts r s (top.Entry a) (top.Directive b) x y =
    absurd (key_no_directive (codes "ENTRY") entry_no_name refl refl refl b ts x.0 s x.1 y)
top_command_single ts r s (top.Memory a) (top.Entry b) x y =
    absurd (keys_differ Expression (codes "MEMORY") (codes "ENTRY") refl refl ts x.0 y.0 x.1 y.1)
top_command_single ts r s (top.Memory a) (top.Sections b) x y =
    absurd (keys_differ Expression (codes "MEMORY") (codes "SECTIONS") refl refl ts x.0 y.0 x.1 y.1)
top_command_single ts r s (top.Memory a) (top.Directive b) x y =
    absurd (key_no_directive (codes "MEMORY") memory_no_name refl refl refl b ts x.0 s x.1 y)
top_command_single ts r s (top.Sections a) (top.Entry b) x y =
    absurd (keys_differ Expression (codes "SECTIONS") (codes "ENTRY") refl refl ts x.0 y.0 x.1 y.1)
top_command_single ts r s (top.Sections a) (top.Memory b) x y =
    absurd (keys_differ Expression (codes "SECTIONS") (codes "MEMORY") refl refl ts x.0 y.0 x.1 y.1)
top_command_single ts r s (top.Sections a) (top.Directive b) x y =
    absurd (key_no_directive (codes "SECTIONS") sections_no_name refl refl refl b ts x.0 s x.1 y)
top_command_single ts r s (top.Directive a) (top.Entry b) x y =
    absurd (key_no_directive (codes "ENTRY") entry_no_name refl refl refl a ts y.0 r y.1 x)
top_command_single ts r s (top.Directive a) (top.Memory b) x y =
    absurd (key_no_directive (codes "MEMORY") memory_no_name refl refl refl a ts y.0 r y.1 x)
top_command_single ts r s (top.Directive a) (top.Sections b) x y =
    absurd (key_no_directive (codes "SECTIONS") sections_no_name refl refl refl a ts y.0 r y.1 x)

tops_same : (a b : Statement) → a.line ≡ b.line → a.command ≡ b.command → a ≡ b
tops_same a b e f =
    let mk : ℕ → Command → Statement = λ n i. record { line = n; command = i } in
    ap (λ n. mk n a.command) e ∙ ap (λ i. mk b.line i) f

pub top_single : Single top_statement
top_single ts r s a b x y =
    let e = top_command_single ts r s a.command b.command x.1 y.1 in
    (tops_same a b (x.0 ∙ sym y.0) e.0, e.1)

-- a statement begins with a name token
top_named : (c : Command) (ts r : List Lexeme) → top_command c ts r
    → (w : List ℕ) × (us : List Lexeme) × token (Name w) ts us
top_named (top.Entry a) ts r x = (codes "ENTRY", x.0, x.1)
top_named (top.Memory a) ts r x = (codes "MEMORY", x.0, x.1)
top_named (top.Sections a) ts r x = (codes "SECTIONS", x.0, x.1)
top_named (top.Directive (directives.Assign a)) ts r x = (a.name, x.0, x.1.1)
top_named (top.Directive (directives.Provide a)) ts r x = (codes "PROVIDE", x.0, x.1)
top_named (top.Directive (directives.Assert a)) ts r x = (codes "ASSERT", x.0, x.1)

nil_cons : (x : Lexeme) (xs : List Lexeme) → [] ≡ x ∷ xs → ⊥
nil_cons x xs e = cc

-- the end of the tokens
abbrev pub at_end : Rule
at_end ts rest = (ts ≡ []) × (rest ≡ [])

pub tops_listed : Listed (λ ts. Unit {0}) at_end top_statement
tops_listed = record {
  single = λ ts r s a b x y h k. top_single ts r s a b x y;
  closes = λ ts r s x y. x.1 ∙ sym y.1;
  no_close = λ x ts r s d e. let n = top_named x.command ts r d.1 in
      nil_cons (lexeme (Name n.0) n.2.0) n.1 (sym e.0 ∙ n.2.1);
  no_semicolon = λ x ts r s d e. let n = top_named x.command ts r d.1 in
      let k = (tokens_same (Name n.0) (Punctuation Semicolon) ts n.1 s n.2 e).0 in cc;
  apart = λ ts r s d e. nil_cons (lexeme (Punctuation Semicolon) e.0) s (sym d.0 ∙ e.1);
  at_close = λ ts r d. tt;
  at_semicolon = λ ts r d. tt;
  at_start = λ x ts r d. tt;
}

pub one_script : (ts : List Lexeme) (a b : List Statement) → script a ts → script b ts → a ≡ b
one_script ts a b x y = (closing_single tops_listed a b ts [] [] ([], x, (refl, refl)) ([], y, (refl, refl))).0

-- no text has two trees
pub one_tree_of : ((text : List ℕ) (ls ms : List Lexeme) → IsCut text ls → IsCut text ms → ls ≡ ms)
    → (text : List ℕ) (a b : List Statement) → IsTree text a → IsTree text b → a ≡ b
one_tree_of cut text a b x y =
    let e = cut text x.lexemes y.lexemes x.tokens.cut y.tokens.cut in
    one_script y.lexemes a b (subst (λ l. script a l) e x.spelled) y.spelled

pub top_none : (ts : List Lexeme) → NoneAt sections ts → NoneAt memory ts → NoneAt entry ts
    → NoneAt (directive Expression) ts → NoneAt top_command ts
top_none ts a b c d (top.Sections y) more k = a y more k
top_none ts a b c d (top.Memory y) more k = b y more k
top_none ts a b c d (top.Entry y) more k = c y more k
top_none ts a b c d (top.Directive y) more k = d y more k

-- the tokens end behind the statements read so far
pub whole_script : (ts rest : List Lexeme) (xs : List Statement) → SoFar at_end top_statement ts xs rest → rest ≡ []
    → script xs ts
whole_script ts rest xs s e = subst (λ ys. script ys ts) (append-nil xs)
    (s.forth [] [] (subst (λ l. Semicolons l []) (sym e) none))

pub no_script : (ts rest : List Lexeme) (xs : List Statement) → SoFar at_end top_statement ts xs rest → (rest ≡ [] → ⊥)
    → ((us : List Lexeme) → mark Semicolon rest us → ⊥) → NoneAt top_command rest
    → (s : List Statement) → script s ts → ⊥
no_script ts rest xs so end semicolon stuck s d =
    so_far_stuck (λ ts. Unit {0}) at_end top_statement tops_listed ts xs rest so (λ us e. end e.0) semicolon
    (λ y more k st. stuck y.command more k.1) s [] ([], d, (refl, refl))

pub takes_statement : (ts xs : List Lexeme) (line : ℕ) (a : Command) → line ≡ first_line ts → top_command a ts xs
    → (y : Statement) (more : List Lexeme) → top_statement y ts more
    → (y ≡ record { line = line; command = a }) × (more ≡ xs)
takes_statement ts xs line a l d y more k = top_single ts more xs y (record { line = line; command = a }) k (l, d)
