-- The placement of a script comes of its regions and output sections, effect by effect.
use Rattle.ldmodel_laws.proofs.Common.{Advance, Align, BodyCommand, BodyStatement, Bool, Directive, DotCommand, DotForm}
use Rattle.ldmodel_laws.proofs.Common.{Err, Expr, Fault, Item, ItemCommand, Layout, List, MovedBack, None, Offset, Ok}
use Rattle.ldmodel_laws.proofs.Common.{Option, OutputSection, OutputSectionAt, PastAddressSpace, Piece, PieceTo, Region}
use Rattle.ldmodel_laws.proofs.Common.{Result, Some, Statement, Width, [], address, and_then, ap, append_assoc}
use Rattle.ldmodel_laws.proofs.Common.{byte_count, cond, dot_form, false, item_sections, items, items_of, length}
use Rattle.ldmodel_laws.proofs.Common.{little_bytes, ltb-false, ltb-true, nat_lt, noted, nothing_placed, number}
use Rattle.ldmodel_laws.proofs.Common.{output_sections, past_inputs, refl, regions, regions_in, run, sections_in, subst}
use Rattle.ldmodel_laws.proofs.Common.{sym, true, with_piece, ℕ, ◌++◌, ◌+◌, ◌<◌, ◌==◌, ◌^◌, ◌∙◌, ◌∷◌, ◌≡◌}
use Rattle.ldscript.specs.terms.Expressions as expression
use Rattle.ldscript.specs.statements.declared.directive.DotCommand.TheVariants.{Set, Add}
use Rattle.ldscript.specs.statements.declared.section.BodyCommand.TheVariants as body
use Rattle.ldscript.specs.statements.declared.statement.Command.{Command}
use Rattle.ldscript.specs.statements.declared.statement.Command.TheVariants as top
use Rattle.ldscript.specs.statements.declared.statement.ItemCommand.TheVariants as item
use Rattle.ldmodel.specs.Placement.{directive_step, Body, advanced, body_command_step, body_step, data_step, dot_step}
use Rattle.ldmodel.specs.Placement.{moved_on, piece_placed, pieces_placed, set_to, with_data, with_dot, command_step}
use Rattle.ldmodel.specs.Placement.{free_dot_step, item_command_step, item_step, next_row, opened, placement}
use Rattle.ldmodel.specs.Placement.{region_step, section_step, statement_step, with_region}
use Rattle.ldmodel_laws.specs.Traces.{BodyEffect, dot_noted, inputs_counted, symbol_given, dot_moved, entry_placed}
use Rattle.ldmodel_laws.specs.Traces.{data_added, BodyEffects, no_effect, effect_then, AddsNothing, AddsSection, Trace}
use Rattle.ldmodel_laws.specs.Traces.{all_added, nothing_added, region_added, section_added}
use Rattle.ldmodel_laws.proofs.Effects.{came, Named, unchanged, named, directive_named, section_placed, bytes_of_width}
use Rattle.ldmodel_laws.proofs.Placements.{piece_to}
use Rattle.ldmodel_laws.proofs.Mentioned.{sections_append}

-- a state that is given is that of the result
given_is : {X : Type 0} (s t : X) → ◌≡◌ {A = Result X Fault} (Ok s) (Ok t) → s ≡ t
given_is s t e = cc

-- a number that is an address
record Fits (x y : ℕ) : Type 0 where
  same : x ≡ y
  fits : x < 2 ^ 64

address_fits : (line x y : ℕ) → address line x ≡ Ok y → Fits x y
address_fits line x y e = go (nat_lt x (2 ^ 64)) refl e
  where
    go : (b : Bool) → nat_lt x (2 ^ 64) ≡ b → cond b (Ok x) (Err (PastAddressSpace line)) ≡ Ok y → Fits x y
    go true h k = record { same = cc; fits = ltb-true x (2 ^ 64) h }
    go false h k = absurd (let none : ⊥ = cc in none)

effects_on : (b c d : Body) → BodyEffects b c → BodyEffects c d → BodyEffects b d
effects_on b c d no_effect more = more
effects_on b c d (effect_then {c = e} k ks) more = effect_then k (effects_on e c d ks more)

effect_to : (b c d : Body) → BodyEffect b c → c ≡ d → BodyEffects b d
effect_to b c d k e = subst (BodyEffects b) e (effect_then k no_effect)

none_to : (b c : Body) → ◌≡◌ {A = Result Body Fault} (Ok b) (Ok c) → BodyEffects b c
none_to b c e = subst (BodyEffects b) (given_is b c e) no_effect

-- ---- the statements of a body
moved_does : (line : ℕ) (b : Body) (to : ℕ) (c : Body) → moved_on line b to ≡ Ok c → BodyEffects b c
moved_does line b to c e = go (nat_lt to b.layout.dot) refl e
  where
    go : (t : Bool) → nat_lt to b.layout.dot ≡ t
        → cond t (Err (MovedBack line)) (and_then (address line to) (λ x. Ok (with_dot b x))) ≡ Ok c → BodyEffects b c
    go true h k = absurd (let none : ⊥ = cc in none)
    go false h k =
        let at = came (address line to) (λ x. Ok (with_dot b x)) c k in
        let at_end : Fits to at.value = address_fits line to at.value at.is in
        effect_to b (with_dot b to) c (dot_moved to (ltb-false to b.layout.dot h) at_end.fits)
        (ap (with_dot b) at_end.same ∙ given_is (with_dot b at.value) c at.gives)

advanced_does : (line : ℕ) (b : Body) (e : Expr) (c : Body) → advanced line b e ≡ Ok c → BodyEffects b c
advanced_does line b e c h =
    let k = came (number b.layout line e) (λ x. moved_on line b (b.layout.dot + x)) c h in
    moved_does line b (b.layout.dot + k.value) c k.gives

set_does : (line : ℕ) (b : Body) (f : Option DotForm) (c : Body) → set_to line b f ≡ Ok c → BodyEffects b c
set_does line b (Some (Advance e)) c h = advanced_does line b e c h
set_does line b (Some (Align e)) c h =
    let k = came (number b.layout line (expression.AlignDot e)) (λ x. moved_on line b x) c h in
    moved_does line b k.value c k.gives
set_does line b (Some (Offset e)) c h =
    let k = came (number b.layout line e) (λ x. moved_on line b (b.start + x)) c h in
    moved_does line b (b.start + k.value) c k.gives
set_does line b None c h = none_to b c h

dot_does : (line : ℕ) (b : Body) (d : DotCommand) (c : Body) → dot_step line b d ≡ Ok c → BodyEffects b c
dot_does line b (Add e) c h = advanced_does line b e c h
dot_does line b (Set e) c h = set_does line b (dot_form e) c h

named_does : (b : Body) (s : Layout) → Named b.layout s → BodyEffects b (record b { layout = s })
named_does b s (unchanged e) = subst (λ (t : Layout). BodyEffects b (record b { layout = t })) e no_effect
named_does b s (named name x e) =
    subst (λ (t : Layout). BodyEffects b (record b { layout = t })) e (effect_then (symbol_given name x) no_effect)

directive_does : (provided : List (List ℕ)) (line : ℕ) (b : Body) (d : Directive) (c : Body)
    → and_then (directive_step provided b.layout line d) (λ s. Ok (record b { layout = s })) ≡ Ok c → BodyEffects b c
directive_does provided line b d c h =
    let k = came (directive_step provided b.layout line d) (λ s. Ok (record b { layout = s })) c h in
    subst (BodyEffects b) (given_is (record b { layout = k.value }) c k.gives)
    (named_does b k.value (directive_named provided b.layout line d k.value k.is))

data_does : (line : ℕ) (b : Body) (w : Width) (e : Expr) (c : Body) → data_step line b w e ≡ Ok c → BodyEffects b c
data_does line b w e c h =
    let k = came (number b.layout line e) (λ x.
    and_then (address line (b.layout.dot + byte_count w)) (λ end.
    Ok (with_dot (with_data b (little_bytes (byte_count w) x)) end))) c h in
    let bytes : List ℕ = little_bytes (byte_count w) k.value in
    let l = came (address line (b.layout.dot + byte_count w)) (λ end. Ok (with_dot (with_data b bytes) end)) c k.gives
    in
    let at_end : Fits (b.layout.dot + byte_count w) l.value =
    address_fits line (b.layout.dot + byte_count w) l.value l.is in
    let wide : b.layout.dot + length bytes ≡ b.layout.dot + byte_count w =
    ap (λ n. b.layout.dot + n) (bytes_of_width w k.value) in
    effect_to b (with_dot (with_data b bytes) (b.layout.dot + length bytes)) c
    (data_added bytes (subst (λ n. n < 2 ^ 64) (sym wide) at_end.fits))
    (ap (with_dot (with_data b bytes)) (wide ∙ at_end.same)
    ∙ given_is (with_dot (with_data b bytes) l.value) c l.gives)

pieces_do : (line n : ℕ) (ps : List Piece) (b c : Body) → b.rest ≡ ps → pieces_placed line n b ps ≡ Ok c
    → BodyEffects b c
unfolding pieces_placed
pieces_do line n [] b c r e = none_to b c e
pieces_do line n (p ∷ ps) b c r e = go (p.statement == n) e (λ d s f. pieces_do line n ps d c s f)
  where
    go : (t : Bool) → cond t (and_then (piece_placed line b p ps) (λ d. pieces_placed line n d ps)) (Ok b) ≡ Ok c
        → ((d : Body) → d.rest ≡ ps → pieces_placed line n d ps ≡ Ok c → BodyEffects d c) → BodyEffects b c
    go true k more =
        let d = came (piece_placed line b p ps) (λ d. pieces_placed line n d ps) c k in
        let to : PieceTo b p ps d.value = piece_to line b p ps d.value d.is in
        effects_on b d.value c
        (effect_to b (with_piece b p ps to.start) d.value (entry_placed to.start r to.aligned to.fits) to.after)
        (more d.value (ap (λ (u : Body). u.rest) (sym to.after)) d.gives)
    go false k more = none_to b c k

command_does : (provided : List (List ℕ)) (line : ℕ) (b : Body) (x : BodyCommand) (c : Body)
    → body_command_step provided line b x ≡ Ok c → BodyEffects b c
unfolding body_command_step
command_does provided line b (body.Dot d) c e = dot_does line b d c e
command_does provided line b (body.Directive d) c e = directive_does provided line b d c e
command_does provided line b (body.Data w x) c e = data_does line b w x c e
command_does provided line b (body.Input i) c e =
    let d = came (pieces_placed line b.layout.inputs b b.rest) (λ d. Ok (past_inputs b d)) c e in
    effects_on b d.value c (pieces_do line b.layout.inputs b.rest b d.value refl d.is)
    (effect_to d.value (past_inputs b d.value) c (inputs_counted (b.layout.inputs + 1))
    (given_is (past_inputs b d.value) c d.gives))

body_does : (provided : List (List ℕ)) (b : Body) (xs : List BodyStatement) (c : Body)
    → run (body_step provided) b xs ≡ Ok c → BodyEffects b c
unfolding run
body_does provided b [] c e = none_to b c e
body_does provided b (x ∷ xs) c e =
    let k = came (body_step provided b x) (λ d. run (body_step provided) d xs) c e in
    effect_then dot_noted
    (effects_on (record b { layout = noted b.layout }) k.value c
    (command_does provided x.line (record b { layout = noted b.layout }) x.command k.value k.is)
    (body_does provided k.value xs c k.gives))

-- ---- what adds nothing
same_added : (s t : Layout) → ◌≡◌ {A = Result Layout Fault} (Ok s) (Ok t) → AddsNothing s t
same_added s t e = subst (AddsNothing s) (given_is s t e) (record { sections = refl; regions = refl })

named_adds : (s t : Layout) → Named s t → AddsNothing s t
named_adds s t (unchanged e) = subst (AddsNothing s) e (record { sections = refl; regions = refl })
named_adds s t (named name x e) = subst (AddsNothing s) e (record { sections = refl; regions = refl })

free_dot_adds : (s : Layout) (line : ℕ) (c : DotCommand) (t : Layout) → free_dot_step s line c ≡ Ok t
    → AddsNothing s t
free_dot_adds s line (Set e) t h =
    let k = came (number s line e) _ t h in
    subst (AddsNothing s) (given_is _ t k.gives) (record { sections = refl; regions = refl })
free_dot_adds s line (Add e) t h =
    let k = came (number s line e) _ t h in
    subst (AddsNothing s) (given_is _ t k.gives) (record { sections = refl; regions = refl })

effect_adds : (b c : Body) → BodyEffect b c → AddsNothing b.layout c.layout
effect_adds b c dot_noted = record { sections = refl; regions = refl }
effect_adds b c (inputs_counted n) = record { sections = refl; regions = refl }
effect_adds b c (symbol_given name x) = record { sections = refl; regions = refl }
effect_adds b c (dot_moved to l m) = record { sections = refl; regions = refl }
effect_adds b c (entry_placed start e a l) = record { sections = refl; regions = refl }
effect_adds b c (data_added bytes l) = record { sections = refl; regions = refl }

effects_add : (b c : Body) → BodyEffects b c → AddsNothing b.layout c.layout
effects_add b c no_effect = record { sections = refl; regions = refl }
effects_add b c (effect_then {c = d} k ks) =
    let one = effect_adds b d k in
    let more = effects_add d c ks in
    record { sections = more.sections ∙ one.sections; regions = more.regions ∙ one.regions }

-- ---- the statements of SECTIONS and of the script
section_adds : (provided : List (List ℕ)) (row : List Piece) (s : Layout) (line : ℕ) (o : OutputSection) (t : Layout)
    → section_step provided row s line o ≡ Ok t → AddsSection s o t
section_adds provided row s line o t e =
    let k = section_placed provided row s line o t e in
    let does : BodyEffects (opened s row k.head) k.last = body_does provided (opened s row k.head) o.body k.last k.body
    in
    let none = effects_add (opened s row k.head) k.last does in
    record {
      row = row;
      head = k.head;
      last = k.last;
      body = does;
      nothing = record { sections = none.sections; regions = none.regions };
      after = k.after;
    }

regions_traced : (ms : List Region) (s t u : Layout) (rs : List Region) (os : List OutputSectionAt)
    → run region_step s ms ≡ Ok t → Trace t rs os u → Trace s (ms ++ rs) os u
unfolding run region_step
regions_traced [] s t u rs os e k = subst (λ (v : Layout). Trace v rs os u) (sym (given_is s t e)) k
regions_traced (r ∷ ms) s t u rs os e k =
    let one = came (region_step s r) (λ v. run region_step v ms) t e in
    let first = came (number s r.line r.origin) (λ origin.
    and_then (number s r.line r.extent) (λ extent. Ok (with_region s r.name origin extent))) one.value one.is in
    let second = came (number s r.line r.extent) (λ extent. Ok (with_region s r.name first.value extent)) one.value
    first.gives in
    region_added first.value second.value
    (subst (λ (v : Layout). Trace v (ms ++ rs) os u)
    (sym (given_is (with_region s r.name first.value second.value) one.value second.gives))
    (regions_traced ms one.value t u rs os one.gives k))

module _ (rows : List (List Piece)) (provided : List (List ℕ)) where
  item_traced : (line : ℕ) (s : Layout) (c : ItemCommand) (t u : Layout) (rs : List Region) (os : List OutputSectionAt)
      → item_command_step rows provided line s c ≡ Ok t → Trace t rs os u → Trace s rs (item_sections line c ++ os) u
  unfolding item_command_step
  item_traced line s (item.Dot c) t u rs os e k = nothing_added (free_dot_adds s line c t e) k
  item_traced line s (item.Directive c) t u rs os e k =
      nothing_added (named_adds s t (directive_named provided s line c t e)) k
  item_traced line s (item.Section o) t u rs os e k =
      section_added (section_adds provided (next_row rows s) s line o t e) k
  item_traced line s (item.Discard is) t u rs os e k =
      nothing_added
      (subst (AddsNothing s) (given_is (record s { inputs = s.inputs + length is }) t e)
      (record { sections = refl; regions = refl })) k

  items_traced : (is : List Item) (s t u : Layout) (rs : List Region) (os : List OutputSectionAt)
      → run (item_step rows provided) s is ≡ Ok t → Trace t rs os u → Trace s rs (sections_in is ++ os) u
  unfolding run
  items_traced [] s t u rs os e k = subst (λ (v : Layout). Trace v rs os u) (sym (given_is s t e)) k
  items_traced (i ∷ is) s t u rs os e k =
      let one = came (item_step rows provided s i) (λ v. run (item_step rows provided) v is) t e in
      subst (λ l. Trace s rs l u) (sym (append_assoc (item_sections i.line i.command) (sections_in is) os))
      (nothing_added {t = noted s} (record { sections = refl; regions = refl })
      (item_traced i.line (noted s) i.command one.value u rs (sections_in is ++ os) one.is
      (items_traced is one.value t u rs os one.gives k)))

  command_traced : (line : ℕ) (s : Layout) (c : Command) (t u : Layout) (rs : List Region) (is : List Item)
      → command_step rows provided line s c ≡ Ok t → Trace t rs (sections_in is) u
      → Trace s (regions_in c ++ rs) (sections_in (items_of c ++ is)) u
  unfolding command_step
  command_traced line s (top.Entry name) t u rs is e k = nothing_added (same_added s t e) k
  command_traced line s (top.Directive c) t u rs is e k =
      nothing_added (named_adds s t (directive_named provided s line c t e)) k
  command_traced line s (top.Memory ms) t u rs is e k = regions_traced ms s t u rs (sections_in is) e k
  command_traced line s (top.Sections js) t u rs is e k =
      subst (λ l. Trace s rs l u) (sym (sections_append js is)) (items_traced js s t u rs (sections_in is) e k)

  script_traced : (xs : List Statement) (s u : Layout) → run (statement_step rows provided) s xs ≡ Ok u
      → Trace s (regions xs) (output_sections xs) u
  unfolding run
  script_traced [] s u e = subst (Trace s [] []) (given_is s u e) all_added
  script_traced (x ∷ xs) s u e =
      let k = came (statement_step rows provided s x) (λ t. run (statement_step rows provided) t xs) u e in
      command_traced x.line s x.command k.value u (regions xs) (items xs) k.is (script_traced xs k.value u k.gives)

pub traced : (script : List Statement) (rows : List (List Piece)) (provided : List (List ℕ)) (s : Layout)
    → placement script rows provided ≡ Ok s → Trace nothing_placed (regions script) (output_sections script) s
unfolding placement
traced script rows provided s e = script_traced rows provided script nothing_placed s e
