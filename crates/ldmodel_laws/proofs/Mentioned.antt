-- In a script without a clash no symbol is given a value twice, and no two output sections have one name.
use Rattle.ldmodel_laws.proofs.Common.{BodyCommand, BodyStatement, Contains, Contains-append_left, Contains-push}
use Rattle.ldmodel_laws.proofs.Common.{Directive, DirectiveAt, Each, EachLater, IsSound, Item, ItemCommand, List}
use Rattle.ldmodel_laws.proofs.Common.{OutputSection, OutputSectionAt, Statement, [], all_directives, ap, append-nil}
use Rattle.ldmodel_laws.proofs.Common.{append_assoc, bytes_eq, bytes_eq-Decides, directives_in, directives_of, false}
use Rattle.ldmodel_laws.proofs.Common.{false_from_ne_true, item_directives, item_sections, items, items_directives}
use Rattle.ldmodel_laws.proofs.Common.{items_of, map, map-append, output_sections, refl, sections_in, subst, sym}
use Rattle.ldmodel_laws.proofs.Common.{top_directives, ℕ, ◌++◌, ◌∙◌, ◌∷◌, ◌≡◌, ◌≢◌}
use Rattle.ldscript.specs.statements.Mentions.{Clashes, Mention, SectionNamed, SymbolGiven, in_body, in_body_command}
use Rattle.ldscript.specs.statements.Mentions.{in_directive, in_item_command, in_items, in_load_head, in_load_tail}
use Rattle.ldscript.specs.statements.Mentions.{in_optional, in_region_name, in_section, in_top_command, mentions}
use Rattle.ldscript.specs.statements.declared.directive.Directive.TheVariants as directive
use Rattle.ldscript.specs.statements.declared.section.BodyCommand.TheVariants as body
use Rattle.ldscript.specs.statements.declared.statement.Command.{Command}
use Rattle.ldscript.specs.statements.declared.statement.Command.TheVariants as top
use Rattle.ldscript.specs.statements.declared.statement.ItemCommand.TheVariants as item
use Rattle.ldmodel_laws.specs.Alike.{given_names, names_given}
use Rattle.ldmodel_laws.proofs.EachOf.{each_always, each_into_map, later_imply, later_of_map}

pub other_name : (n k : List ℕ) → n ≢ k → bytes_eq n k ≡ false
other_name n k differ = false_from_ne_true (bytes_eq n k) (λ e. differ ((bytes_eq-Decides n k).0 e))

-- ---- the parts of a script

pub sections_append : (xs ys : List Item) → sections_in (xs ++ ys) ≡ sections_in xs ++ sections_in ys
sections_append [] ys = refl
sections_append (x ∷ xs) ys =
    ap (λ l. item_sections x.line x.command ++ l) (sections_append xs ys)
    ∙ sym (append_assoc (item_sections x.line x.command) (sections_in xs) (sections_in ys))

-- names that are given in one part and in another
pub names_on : (cs ds : List DirectiveAt) (names : List (List ℕ))
    → names_given (cs ++ ds) ++ names ≡ names_given cs ++ (names_given ds ++ names)
names_on [] ds names = refl
names_on (c ∷ cs) ds names =
    append_assoc (given_names c.command) (names_given (cs ++ ds)) names
    ∙ (ap (λ l. given_names c.command ++ l) (names_on cs ds names)
    ∙ sym (append_assoc (given_names c.command) (names_given cs) (names_given ds ++ names)))

pub names_of_both : (cs ds : List DirectiveAt) → names_given (cs ++ ds) ≡ names_given cs ++ names_given ds
names_of_both cs ds =
    sym (append-nil (names_given (cs ++ ds)))
    ∙ (names_on cs ds [] ∙ ap (λ l. names_given cs ++ l) (append-nil (names_given ds)))

-- ---- some mentions, in the order in which they stand among others

data Among : List Mention → List Mention → Type 0 where
  no_more : {ms : List Mention} → Among [] ms
  passed : {ks : List Mention} {m : Mention} {ms : List Mention} → Among ks ms → Among ks (m ∷ ms)
  next : {ks : List Mention} {m : Mention} {ms : List Mention} → Among ks ms → Among (m ∷ ks) (m ∷ ms)

past : {ks : List Mention} (ms : List Mention) {ls : List Mention} → Among ks ls → Among ks (ms ++ ls)
past [] h = h
past (m ∷ ms) h = passed (past ms h)

wider : {ks : List Mention} {ms : List Mention} (ls : List Mention) → Among ks ms → Among ks (ms ++ ls)
wider ls no_more = no_more
wider ls (passed h) = passed (wider ls h)
wider ls (next h) = next (wider ls h)

both : {ks ns : List Mention} {ms ls : List Mention} → Among ks ms → Among ns ls → Among (ks ++ ns) (ms ++ ls)
both {ms = ms} no_more k = past ms k
both (passed h) k = passed (both h k)
both (next h) k = next (both h k)

-- ---- symbols

abbrev Gives : List DirectiveAt → List Mention → Type 0
Gives cs ms = Among (map SymbolGiven (names_given cs)) ms

both_lists : (cs ds : List DirectiveAt) (ms ls : List Mention) → Gives cs ms → Gives ds ls → Gives (cs ++ ds) (ms ++ ls)
both_lists cs ds ms ls h k =
    subst (λ ks. Among ks (ms ++ ls))
    (sym (ap (map SymbolGiven) (names_of_both cs ds) ∙ map-append SymbolGiven (names_given cs) (names_given ds)))
    (both h k)

in_one : (line : ℕ) (c : Directive) → Gives (record { line = line; command = c } ∷ []) (in_directive c)
in_one line (directive.Assign a) = next no_more
in_one line (directive.Provide a) = next no_more
in_one line (directive.Assert a) = no_more

in_body_one : (line : ℕ) (c : BodyCommand) → Gives (directives_of line c) (in_body_command c)
in_body_one line (body.Directive c) = in_one line c
in_body_one line (body.Dot c) = no_more
in_body_one line (body.Data w e) = no_more
in_body_one line (body.Input i) = no_more

in_bodies : (ss : List BodyStatement) → Gives (directives_in ss) (in_body ss)
in_bodies [] = no_more
in_bodies (s ∷ ss) =
    both_lists (directives_of s.line s.command) (directives_in ss) (in_body_command s.command) (in_body ss)
    (in_body_one s.line s.command) (in_bodies ss)

in_output : (s : OutputSection) → Gives (directives_in s.body) (in_section s)
in_output s =
    passed (wider (in_load_tail s.load) (wider (in_region_name s.region)
    (past (in_optional s.address ++ in_load_head s.load ++ in_optional s.alignment) (in_bodies s.body))))

in_item : (line : ℕ) (c : ItemCommand) → Gives (item_directives line c) (in_item_command c)
in_item line (item.Directive c) = in_one line c
in_item line (item.Section s) = in_output s
in_item line (item.Dot c) = no_more
in_item line (item.Discard is) = no_more

in_all : (is : List Item) → Gives (items_directives is) (in_items is)
in_all [] = no_more
in_all (i ∷ is) =
    both_lists (item_directives i.line i.command) (items_directives is) (in_item_command i.command) (in_items is)
    (in_item i.line i.command) (in_all is)

in_top : (line : ℕ) (c : Command) → Gives (top_directives line c) (in_top_command c)
in_top line (top.Directive c) = in_one line c
in_top line (top.Sections is) = passed (in_all is)
in_top line (top.Entry n) = no_more
in_top line (top.Memory rs) = no_more

in_script : (ss : List Statement) → Gives (all_directives ss) (mentions ss)
in_script [] = no_more
in_script (s ∷ ss) =
    both_lists (top_directives s.line s.command) (all_directives ss) (in_top_command s.command) (mentions ss)
    (in_top s.line s.command) (in_script ss)

-- ---- output sections

abbrev pub section_names : List OutputSectionAt → List (List ℕ)
section_names os = map (λ (o : OutputSectionAt). o.section.name) os

abbrev Names : List OutputSectionAt → List Mention → Type 0
Names os ms = Among (map SectionNamed (section_names os)) ms

both_named : (os ps : List OutputSectionAt) (ms ls : List Mention) → Names os ms → Names ps ls
    → Names (os ++ ps) (ms ++ ls)
both_named os ps ms ls h k =
    subst (λ ks. Among ks (ms ++ ls))
    (sym (ap (map SectionNamed) (map-append (λ (o : OutputSectionAt). o.section.name) os ps)
    ∙ map-append SectionNamed (section_names os) (section_names ps))) (both h k)

named_in_item : (line : ℕ) (c : ItemCommand) → Names (item_sections line c) (in_item_command c)
named_in_item line (item.Section s) = next no_more
named_in_item line (item.Directive c) = no_more
named_in_item line (item.Dot c) = no_more
named_in_item line (item.Discard is) = no_more

named_in_all : (is : List Item) → Names (sections_in is) (in_items is)
named_in_all [] = no_more
named_in_all (i ∷ is) =
    both_named (item_sections i.line i.command) (sections_in is) (in_item_command i.command) (in_items is)
    (named_in_item i.line i.command) (named_in_all is)

named_in_top : (c : Command) → Names (sections_in (items_of c)) (in_top_command c)
named_in_top (top.Sections is) = passed (named_in_all is)
named_in_top (top.Directive c) = no_more
named_in_top (top.Entry n) = no_more
named_in_top (top.Memory rs) = no_more

named_in_script : (ss : List Statement) → Names (output_sections ss) (mentions ss)
named_in_script [] = no_more
named_in_script (s ∷ ss) =
    subst (λ os. Names os (mentions (s ∷ ss))) (sym (sections_append (items_of s.command) (items ss)))
    (both_named (sections_in (items_of s.command)) (output_sections ss) (in_top_command s.command) (mentions ss)
    (named_in_top s.command) (named_in_script ss))

-- ---- nothing clashes

-- nothing of some mentions clashes with what stands before it
abbrev pub NoClash : List Mention → List Mention → Type 0
NoClash before ms =
    (more : List Mention) (m : Mention) (after : List Mention) → ms ≡ more ++ m ∷ after → Clashes (before ++ more) m → ⊥

pub no_clash_in : (script : List Statement) → IsSound script → NoClash [] (mentions script)
no_clash_in script sound = λ more m after e clash.
    sound.no_clash (record { before = more; mention = m; after = after; place = e; clash = clash })

pub shift : (before ms ls : List Mention) → NoClash before (ms ++ ls) → NoClash (before ++ ms) ls
shift before ms ls h more m after e clash =
    h (ms ++ more) m after (ap (λ l. ms ++ l) e ∙ sym (append_assoc ms more (m ∷ after)))
    (subst (λ l. Clashes l m) (append_assoc before ms more) clash)

-- a mention that clashes with the same one before it
abbrev IsOnce : Mention → Type 0
IsOnce m = (before : List Mention) → Contains before m → Clashes before m

differ : (before : List Mention) (m : Mention) → IsOnce m → Contains before m → {ks ms : List Mention} → Among ks ms
    → NoClash before ms → Each (λ k. m ≢ k) ks
differ before m once c no_more h = tt
differ before m once c (passed {m = x} {ms = ms} r) h =
    differ (before ++ x ∷ []) m once (Contains-append_left before (x ∷ []) m c) r (shift before (x ∷ []) ms h)
differ before m once c (next {m = x} {ms = ms} r) h = (
  λ e. h [] x ms refl (subst (λ l. Clashes l x) (sym (append-nil before)) (subst (Clashes before) e (once before c))),
  differ (before ++ x ∷ []) m once (Contains-append_left before (x ∷ []) m c) r (shift before (x ∷ []) ms h),
)

all_differ : (before : List Mention) {ks ms : List Mention} → Among ks ms → Each IsOnce ks → NoClash before ms
    → EachLater (λ m k. m ≢ k) ks
all_differ before no_more once h = tt
all_differ before (passed {m = x} {ms = ms} r) once h =
    all_differ (before ++ x ∷ []) r once (shift before (x ∷ []) ms h)
all_differ before (next {m = x} {ms = ms} r) once h =
    let later : NoClash (before ++ x ∷ []) ms = shift before (x ∷ []) ms h in (
      differ (before ++ x ∷ []) x once.0 (Contains-push before x) r later,
      all_differ (before ++ x ∷ []) r once.1 later,
    )

-- names of one kind of mention
names_differ : (kind : List ℕ → Mention) → ((n : List ℕ) → IsOnce (kind n)) → (names : List (List ℕ))
    (script : List Statement) → IsSound script → Among (map kind names) (mentions script)
    → EachLater (λ n k. n ≢ k) names
names_differ kind once names script sound among =
    later_imply (λ n k. kind n ≢ kind k) (λ n k. n ≢ k) (λ n k apart e. apart (ap kind e)) names
    (later_of_map (λ m k. m ≢ k) kind names
    (all_differ [] among (each_into_map IsOnce kind names (each_always (λ n. IsOnce (kind n)) once names))
    (no_clash_in script sound)))

pub symbols_differ : (script : List Statement) → IsSound script
    → EachLater (λ n k. n ≢ k) (names_given (all_directives script))
symbols_differ script sound =
    names_differ SymbolGiven (λ n before c. c) (names_given (all_directives script)) script sound (in_script script)

pub sections_differ : (script : List Statement) → IsSound script
    → EachLater (λ n k. n ≢ k) (section_names (output_sections script))
sections_differ script sound =
    names_differ SectionNamed (λ n before c. c) (section_names (output_sections script)) script sound
    (named_in_script script)
