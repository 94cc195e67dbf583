-- A script has one SECTIONS.
use Rattle.place_sections.proofs.Common.{AreOutside, Command, Contains, IsOutside, IsSound, List, NoClash, Statement}
use Rattle.place_sections.proofs.Common.{[], after_sections, ap, append-nil, arith, before_sections, if_sections}
use Rattle.place_sections.proofs.Common.{no_clash_in, refl, shift, subst, suc, sym, zero, ◌++◌, ◌∷◌, ◌≡◌}
use Rattle.std.proofs.lemmas.List.Elements.{All-cons, All-nil, Contains-append_left}
use Rattle.ldscript.specs.statements.Mentions.{Mention, SectionsGiven, in_items, in_top_command, mentions}
use Rattle.ldscript.specs.statements.declared.statement.Command.TheVariants as top

last_in : (xs ys : List Mention) (x : Mention) → Contains (xs ++ x ∷ ys) x
last_in [] ys x = (0, omega arith, refl)
last_in (z ∷ zs) ys x = let c = last_in zs ys x in (suc c.0, omega (arith, c.1), c.2)

-- past one SECTIONS there is none
none_past : (before : List Mention) (ss : List Statement) → Contains before SectionsGiven → NoClash before (mentions ss)
    → AreOutside ss
none_past before [] there h = All-nil (λ (x : Statement). IsOutside x.command)
none_past before (s ∷ ss) there h =
    All-cons (λ (x : Statement). IsOutside x.command) s ss (is_outside s.command refl)
    (none_past (before ++ in_top_command s.command) ss
    (Contains-append_left before (in_top_command s.command) SectionsGiven there)
    (shift before (in_top_command s.command) (mentions ss) h))
  where
    is_outside : (c : Command) → s.command ≡ c → IsOutside c
    is_outside (top.Entry name) e = tt
    is_outside (top.Memory regions) e = tt
    is_outside (top.Directive d) e = tt
    is_outside (top.Sections items) e =
        h [] SectionsGiven (in_items items ++ mentions ss) (ap (λ c. in_top_command c ++ mentions ss) e)
        (subst (λ l. Contains l SectionsGiven) (sym (append-nil before)) there)

none_after : (before : List Mention) (ss : List Statement) → NoClash before (mentions ss)
    → AreOutside (after_sections ss)
none_after before [] h = All-nil (λ (x : Statement). IsOutside x.command)
none_after before (s ∷ ss) h =
    by_command s.command refl
    (none_after (before ++ in_top_command s.command) ss (shift before (in_top_command s.command) (mentions ss) h))
  where
    by_command : (c : Command) → s.command ≡ c → AreOutside (after_sections ss)
        → AreOutside (if_sections c (λ items. ss) (after_sections ss))
    by_command (top.Entry name) e later = later
    by_command (top.Memory regions) e later = later
    by_command (top.Directive d) e later = later
    by_command (top.Sections items) e later =
        none_past (before ++ in_top_command s.command) ss
        (subst (λ c. Contains (before ++ in_top_command c) SectionsGiven) (sym e)
        (last_in before (in_items items) SectionsGiven))
        (shift before (in_top_command s.command) (mentions ss) h)

pub after_outside : (script : List Statement) → IsSound script → AreOutside (after_sections script)
after_outside script sound = none_after [] script (no_clash_in script sound)

pub before_outside : (script : List Statement) → AreOutside (before_sections script)
before_outside [] = All-nil (λ (x : Statement). IsOutside x.command)
before_outside (s ∷ ss) = by_command s.command refl (before_outside ss)
  where
    one_more : IsOutside s.command → AreOutside (before_sections ss) → AreOutside (s ∷ before_sections ss)
    one_more outside later = All-cons (λ (x : Statement). IsOutside x.command) s (before_sections ss) outside later

    by_command : (c : Command) → s.command ≡ c → AreOutside (before_sections ss)
        → AreOutside (if_sections c (λ items. []) (s ∷ before_sections ss))
    by_command (top.Sections items) e later = All-nil (λ (x : Statement). IsOutside x.command)
    by_command (top.Entry name) e later = one_more (subst IsOutside (sym e) tt) later
    by_command (top.Memory regions) e later = one_more (subst IsOutside (sym e) tt) later
    by_command (top.Directive d) e later = one_more (subst IsOutside (sym e) tt) later
