-- Output sections, and statements of SECTIONS, lead to layouts that differ in symbols alone from layouts that do.
use Rattle.ldmodel_laws.proofs.Common.{BodyStatement, DotCommand, Err, Expr, Fault, Item, ItemCommand, Layout, List}
use Rattle.ldmodel_laws.proofs.Common.{None, Ok, Option, OutputSection, Piece, PieceTo, PlacedOutput, Result}
use Rattle.ldmodel_laws.proofs.Common.{ScriptSymbol, Some, [], address, and_then, ap, append-nil, arith, directives_in}
use Rattle.ldmodel_laws.proofs.Common.{directives_of, item_directives, length, length-append, noted, number, refl, run}
use Rattle.ldmodel_laws.proofs.Common.{slice_index_or, subst, sym, ℕ, ◌++◌, ◌+◌, ◌∙◌, ◌∷◌, ◌≡◌, ◌≤◌}
use Rattle.ldscript.specs.statements.declared.directive.DotCommand.TheVariants.{Set, Add}
use Rattle.ldscript.specs.statements.declared.section.Load.{Load}
use Rattle.ldscript.specs.statements.declared.section.Load.TheVariants.{Unstated, At, InRegion}
use Rattle.ldscript.specs.statements.declared.statement.ItemCommand.TheVariants as item
use Rattle.ldmodel.specs.Arithmetic.{plus_modulo}
use Rattle.ldmodel.specs.Placement.{directive_step, Body, body_step, free_dot_step, item_command_step, item_step}
use Rattle.ldmodel.specs.Placement.{next_row, opened, section_step, find_region, load_region, placed_section}
use Rattle.ldmodel.specs.Placement.{section_end, with_room, with_section, Given, Head, given, given_alignment}
use Rattle.ldmodel.specs.Placement.{given_load, head_of, load_address, number_if_given, section_start, widest}
use Rattle.ldmodel_laws.specs.Alike.{AreAlike, AreBodiesAlike, AreSameBefore, AreSymbolsAlike, given_names, names_given}
use Rattle.ldmodel_laws.proofs.Alike.{
  Both,
  IsSame,
  bodies_alike,
  both_ok,
  both_then,
  directive_both,
  having,
  number_both,
}
use Rattle.ldmodel_laws.proofs.Alike.{same_both}
use Rattle.ldmodel_laws.proofs.Effects.{came, directive_named, free_dot_kept, named_kept, run_by, Quiet, added, onward}
use Rattle.ldmodel_laws.proofs.Effects.{renamed, still, command_by, section_placed}
use Rattle.ldmodel_laws.proofs.Mentioned.{names_on}

-- heads
module _ (names : List (List ℕ)) (s : Layout) (ys : List ScriptSymbol) (a : AreSymbolsAlike names s.symbols ys) where
  abbrev t : Layout
  t = having s ys

  given_number : (line : ℕ) (e : Option Expr) → Both IsSame (number_if_given s line e) (number_if_given t line e)
  given_number line None = same_both (Ok None)
  given_number line (Some e) =
      both_then IsSame IsSame (number s line e) (number t line e) (λ x. Ok (Some x)) (λ x. Ok (Some x))
      (number_both names s ys a line e) (λ x y p. both_ok IsSame (Some x) (Some y) (ap Some p))

  alignment_both : (line : ℕ) (x y : Option ℕ) → x ≡ y → Both IsSame (given_alignment line x) (given_alignment line y)
  alignment_both line x y e =
      subst (λ z. Both IsSame (given_alignment line x) (given_alignment line z)) e (same_both (given_alignment line x))

  given_both : (line : ℕ) (o : OutputSection) → Both IsSame (given s line o) (given t line o)
  unfolding given
  given_both line o =
      both_then IsSame IsSame (number_if_given s line o.address) (number_if_given t line o.address) _ _
      (given_number line o.address) (λ at at' p.
      both_then IsSame IsSame (number_if_given s line (given_load o.load))
      (number_if_given t line (given_load o.load)) _ _
      (given_number line (given_load o.load)) (λ load load' q.
      both_then IsSame IsSame (number_if_given s line o.alignment) (number_if_given t line o.alignment) _ _
      (given_number line o.alignment) (λ align align' r.
      both_then IsSame IsSame (given_alignment line align) (given_alignment line align') _ _
      (alignment_both line align align' r) (λ n n' u.
      both_ok IsSame (record { address = at; load = load; alignment = n })
      (record { address = at'; load = load'; alignment = n' }) (rw (p, q, u) refl)))))

  start_same : (line : ℕ) (region : Option (List ℕ)) (x : Option ℕ) (n : ℕ)
      → section_start s line region x n ≡ section_start t line region x n
  unfolding section_start
  start_same line region (Some x) n = refl
  start_same line None None n = refl
  start_same line (Some r) None n = refl

  load_same : (line : ℕ) (o : OutputSection) (g : Given) (n start : ℕ)
      → load_address s line o g n start ≡ load_address t line o g n start
  unfolding load_address
  load_same line o g n start = by_load o.load refl g.load refl g.address refl
    where
      by_load : (l : Load) → o.load ≡ l → (x : Option ℕ) → g.load ≡ x → (at : Option ℕ) → g.address ≡ at
          → load_address s line o g n start ≡ load_address t line o g n start
      by_load (InRegion r) e x f at h = rw e refl
      by_load Unstated e (Some x) f at h = rw (e, f) refl
      by_load (At l) e (Some x) f at h = rw (e, f) refl
      by_load Unstated e None f (Some y) h = rw (e, f, h) refl
      by_load Unstated e None f None h = rw (e, f, h) refl
      by_load (At l) e None f (Some y) h = rw (e, f, h) refl
      by_load (At l) e None f None h = rw (e, f, h) refl

  -- a head after its expressions
  abbrev going : List Piece → ℕ → OutputSection → Layout → Given → Result Head Fault
  going row line o u g =
      and_then (section_start u line o.region g.address (widest g.alignment row)) (λ start.
      and_then (load_address u line o g (widest g.alignment row) start) (λ load.
      Ok (record { alignment = widest g.alignment row; start = start; load = load })))

  abbrev loaded : List Piece → Given → ℕ → ℕ → Result Head Fault
  loaded row g start load = Ok (record { alignment = widest g.alignment row; start = start; load = load })

  same_start : (row : List Piece) (line : ℕ) (o : OutputSection) (g : Given) (r : Result ℕ Fault)
      → and_then r (λ start. and_then (load_address s line o g (widest g.alignment row) start) (loaded row g start))
      ≡ and_then r (λ start. and_then (load_address t line o g (widest g.alignment row) start) (loaded row g start))
  same_start row line o g (Ok start) =
      ap (λ r. and_then r (loaded row g start)) (load_same line o g (widest g.alignment row) start)
  same_start row line o g (Err f) = refl

  same_going : (row : List Piece) (line : ℕ) (o : OutputSection) (g : Given) → going row line o s g
      ≡ going row line o t g
  same_going row line o g =
      ap (λ r. and_then r (λ start.
      and_then (load_address s line o g (widest g.alignment row) start) (loaded row g start)))
      (start_same line o.region g.address (widest g.alignment row))
      ∙ same_start row line o g (section_start t line o.region g.address (widest g.alignment row))

  head_both : (row : List Piece) (line : ℕ) (o : OutputSection)
      → Both IsSame (head_of s row line o) (head_of t row line o)
  unfolding head_of
  head_both row line o =
      both_then IsSame IsSame (given s line o) (given t line o) (going row line o s) (going row line o t)
      (given_both line o) (λ g g' p.
      subst (λ z. Both IsSame (going row line o s g) (going row line o t z)) p
      (subst (λ r. Both IsSame (going row line o s g) r) (same_going row line o g) (same_both (going row line o s g))))

pub heads_agree : (names : List (List ℕ)) (row : List Piece) (s t : Layout) (line : ℕ) (o : OutputSection) (h g : Head)
    → AreAlike names s t → head_of s row line o ≡ Ok h → head_of t row line o ≡ Ok g → h ≡ g
heads_agree names row s t line o h g a p q =
    head_both names s t.symbols a.symbols row line o h g p (ap (λ z. head_of z row line o) (sym a.same) ∙ q)

-- the statements of a body
run_alike : (earlier provided names : List (List ℕ)) (xs : List BodyStatement) (b c d e : Body)
    → AreBodiesAlike (names_given (directives_in xs) ++ names) b c → run (body_step earlier) b xs ≡ Ok d
    → run (body_step provided) c xs ≡ Ok e → AreBodiesAlike names d e
unfolding run
run_alike earlier provided names [] b c d e a p q =
    let first : b ≡ d = cc in let second : c ≡ e = cc in
    subst (λ z. AreBodiesAlike names d z) second (subst (λ z. AreBodiesAlike names z c) first a)
run_alike earlier provided names (x ∷ xs) b c d e a p q =
    let k = came (body_step earlier b x) (λ z. run (body_step earlier) z xs) d p in
    let l = came (body_step provided c x) (λ z. run (body_step provided) z xs) e q in
    run_alike earlier provided names xs k.value l.value d e
    (bodies_alike earlier provided (names_given (directives_in xs) ++ names) x b c k.value l.value
    (subst (λ z. AreBodiesAlike z b c) (names_on (directives_of x.line x.command) (directives_in xs) names) a) k.is
    l.is)
    k.gives l.gives

-- the end of an output section
end_is : (line : ℕ) (o : OutputSection) (h : Head) (b : Body) (t : Layout) → section_end line o h b ≡ Ok t
    → with_section b.layout o (placed_section o h b) ≡ t
unfolding section_end
end_is line o h b t e =
    let q : PlacedOutput = placed_section o h b in
    let to_end : ℕ → Result Layout Fault = λ end. Ok (with_section b.layout o q) in
    let to_load : PlacedOutput → Result Layout Fault = λ z. and_then (address line (q.load + q.load_size)) to_end in
    let k = came (with_room (find_region b.layout o.region) q.start q.size q) (λ z.
    and_then (with_room (find_region b.layout (load_region o.load)) q.load q.load_size q) to_load) t e in
    let l = came (with_room (find_region b.layout (load_region o.load)) q.load q.load_size q) to_load t k.gives in
    let m = came (address line (q.load + q.load_size)) to_end t l.gives in
    let f = m.gives in cc

section_ended : (names : List (List ℕ)) (o : OutputSection) (h : Head) (b c : Body) → AreBodiesAlike names b c
    → AreAlike names (with_section b.layout o (placed_section o h b)) (with_section c.layout o (placed_section o h c))
unfolding placed_section
section_ended names o h b c a =
    subst (λ z. AreAlike names (with_section b.layout o (placed_section o h b))
    (with_section z.layout o (placed_section o h z))) (sym a.same) (record { same = refl; symbols = a.symbols })

opened_alike : (names : List (List ℕ)) (row : List Piece) (h : Head) (s t : Layout) → AreAlike names s t
    → AreBodiesAlike names (opened s row h) (opened t row h)
opened_alike names row h s t a = record { same = ap (λ z. opened z row h) a.same; symbols = a.symbols }

section_alike : (earlier provided names : List (List ℕ)) (row : List Piece) (line : ℕ) (o : OutputSection)
    (s t u v : Layout) → AreAlike (names_given (directives_in o.body) ++ names) s t
    → section_step earlier row s line o ≡ Ok u → section_step provided row t line o ≡ Ok v → AreAlike names u v
unfolding section_step
section_alike earlier provided names row line o s t u v a p q =
    let all : List (List ℕ) = names_given (directives_in o.body) ++ names in
    let h = came (head_of s row line o) (λ h.
    and_then (run (body_step earlier) (opened s row h) o.body) (λ b. section_end line o h b)) u p in
    let g = came (head_of t row line o) (λ h.
    and_then (run (body_step provided) (opened t row h) o.body) (λ b. section_end line o h b)) v q in
    let same : g.value ≡ h.value = sym (heads_agree all row s t line o h.value g.value a h.is g.is) in
    let b = came (run (body_step earlier) (opened s row h.value) o.body) (λ b. section_end line o h.value b) u h.gives
    in
    let c = came (run (body_step provided) (opened t row h.value) o.body) (λ b. section_end line o h.value b) v
    (subst (λ z. and_then (run (body_step provided) (opened t row z) o.body) (λ b. section_end line o z b) ≡ Ok v) same
    g.gives) in
    let bodies = run_alike earlier provided names o.body (opened s row h.value) (opened t row h.value) b.value c.value
    (opened_alike all row h.value s t a) b.is c.is in
    subst (λ z. AreAlike names z v) (end_is line o h.value b.value u b.gives)
    (subst (AreAlike names (with_section b.value.layout o (placed_section o h.value b.value)))
    (end_is line o h.value c.value v c.gives) (section_ended names o h.value b.value c.value bodies))

-- statements of SECTIONS
free_dot_alike : (names : List (List ℕ)) (s t u v : Layout) (line : ℕ) (c : DotCommand) → AreAlike names s t
    → free_dot_step s line c ≡ Ok u → free_dot_step t line c ≡ Ok v → AreAlike names u v
free_dot_alike names s t u v line c a p q =
    go c u v p (ap (λ z. free_dot_step z line c) (sym a.same) ∙ q)
  where
    go : (c : DotCommand) → Both (AreAlike names) (free_dot_step s line c) (free_dot_step (having s t.symbols) line c)
    go (Set e) =
        both_then IsSame (AreAlike names) (number s line e) (number (having s t.symbols) line e)
        (λ x. Ok (record s { dot = x })) (λ x. Ok (record (having s t.symbols) { dot = x }))
        (number_both names s t.symbols a.symbols line e)
        (λ x y e. both_ok (AreAlike names) (record s { dot = x }) (record (having s t.symbols) { dot = y })
        (record { same = ap (λ z. record (having s t.symbols) { dot = z }) (sym e); symbols = a.symbols }))
    go (Add e) =
        both_then IsSame (AreAlike names) (number s line e) (number (having s t.symbols) line e)
        (λ x. Ok (record s { dot = plus_modulo s.dot x }))
        (λ x. Ok (record (having s t.symbols) { dot = plus_modulo s.dot x }))
        (number_both names s t.symbols a.symbols line e)
        (λ x y e. both_ok (AreAlike names) (record s { dot = plus_modulo s.dot x })
        (record (having s t.symbols) { dot = plus_modulo s.dot y })
        (record {
          same = ap (λ z. record (having s t.symbols) { dot = plus_modulo s.dot z }) (sym e);
          symbols = a.symbols;
        }))

-- output sections are added by output sections alone, one by each
module _ (sections : List PlacedOutput) where
  abbrev HasThese : Body → Type 0
  HasThese b = b.layout.sections ≡ sections

  quiet_keeps : (b c : Body) → Quiet b c → HasThese b → HasThese c
  quiet_keeps b c (still e) h = subst HasThese e h
  quiet_keeps b c (renamed s n e) h =
      ap (λ (z : Body). z.layout.sections) (sym e) ∙ (sym (named_kept b.layout s n).sections ∙ h)
  quiet_keeps b c (onward to l e) h = ap (λ (z : Body). z.layout.sections) (sym e) ∙ h
  quiet_keeps b c (added bytes e) h = ap (λ (z : Body). z.layout.sections) (sym e) ∙ h

  piece_keeps : (b : Body) (p : Piece) (rest : List Piece) (c : Body) → PieceTo b p rest c → HasThese b → HasThese c
  piece_keeps b p rest c t h = ap (λ (z : Body). z.layout.sections) (sym t.after) ∙ h

  body_keeps : (provided : List (List ℕ)) (xs : List BodyStatement) (b c : Body) → run (body_step provided) b xs ≡ Ok c
      → HasThese b → HasThese c
  body_keeps provided xs b c e h =
      run_by (body_step provided) (λ d ys. HasThese d) (λ d x ys f k i.
      command_by provided HasThese quiet_keeps piece_keeps (λ y z j. j) x.line
      (record d { layout = noted d.layout }) x.command f k i) xs b c e h

section_adds : (provided : List (List ℕ)) (row : List Piece) (s : Layout) (line : ℕ) (o : OutputSection) (t : Layout)
    → section_step provided row s line o ≡ Ok t → length t.sections ≡ length s.sections + 1
section_adds provided row s line o t e =
    let p = section_placed provided row s line o t e in
    let q : PlacedOutput = placed_section o p.head p.last in
    let kept = body_keeps s.sections provided o.body (opened s row p.head) p.last p.body refl in
    ap (λ (z : Layout). length z.sections) (sym p.after)
    ∙ (length-append p.last.layout.sections (q ∷ []) ∙ ap (λ l. length l + 1) kept)

-- statements of SECTIONS
command_alike : (first : ℕ) (old rows : List (List Piece)) (earlier provided names : List (List ℕ)) (line : ℕ)
    (x : ItemCommand) (s t u v : Layout) → AreSameBefore first old rows
    → AreAlike (names_given (item_directives line x) ++ names) s t → item_command_step old earlier line s x ≡ Ok u
    → item_command_step rows provided line t x ≡ Ok v → length v.sections ≤ first → AreAlike names u v
unfolding item_command_step
command_alike first old rows earlier provided names line (item.Dot c) s t u v rs a p q l =
    free_dot_alike names s t u v line c a p q
command_alike first old rows earlier provided names line (item.Directive c) s t u v rs a p q l =
    directive_both s t.symbols names earlier provided line c
    (subst (λ z. AreSymbolsAlike (z ++ names) s.symbols t.symbols) (append-nil (given_names c)) a.symbols) u v p
    (ap (λ z. directive_step provided z line c) (sym a.same) ∙ q)
command_alike first old rows earlier provided names line (item.Section o) s t u v rs a p q l =
    let more = section_adds provided (next_row rows t) t line o v q in
    let number : length s.sections ≡ length t.sections = ap (λ (z : Layout). length z.sections) (sym a.same) in
    let row : next_row rows t ≡ next_row old s =
    ap (λ k. slice_index_or rows k []) (sym number) ∙ sym (rs (length s.sections) (omega (arith, number, more, l))) in
    section_alike earlier provided names (next_row old s) line o s t u v a p
    (ap (λ z. section_step provided z t line o) (sym row) ∙ q)
command_alike first old rows earlier provided names line (item.Discard inputs) s t u v rs a p q l =
    let n : ℕ = length inputs in
    both_ok (AreAlike names) (record s { inputs = s.inputs + n }) (record t { inputs = t.inputs + n })
    (record { same = ap (λ (z : Layout). record z { inputs = z.inputs + n }) a.same; symbols = a.symbols }) u v p q

pub items_alike : (first : ℕ) (old rows : List (List Piece)) (earlier provided names : List (List ℕ)) (x : Item)
    (s t u v : Layout) → AreSameBefore first old rows
    → AreAlike (names_given (item_directives x.line x.command) ++ names) s t → item_step old earlier s x ≡ Ok u
    → item_step rows provided t x ≡ Ok v → length v.sections ≤ first → AreAlike names u v
items_alike first old rows earlier provided names x s t u v rs a p q l =
    command_alike first old rows earlier provided names x.line x.command (noted s) (noted t) u v rs
    (record { same = ap noted a.same; symbols = a.symbols }) p q l

-- output sections do not become fewer
abbrev HasAtLeast : ℕ → Layout → Type 0
HasAtLeast n s = n ≤ length s.sections

command_fewer : (rows : List (List Piece)) (provided : List (List ℕ)) (n line : ℕ) (x : ItemCommand) (s t : Layout)
    → item_command_step rows provided line s x ≡ Ok t → HasAtLeast n s → HasAtLeast n t
unfolding item_command_step
command_fewer rows provided n line (item.Dot c) s t e h =
    subst (λ xs. n ≤ length xs) (free_dot_kept s line c t e).sections h
command_fewer rows provided n line (item.Directive c) s t e h =
    subst (λ xs. n ≤ length xs) (named_kept s t (directive_named provided s line c t e)).sections h
command_fewer rows provided n line (item.Section o) s t e h =
    let more = section_adds provided (next_row rows s) s line o t e in omega (arith, more, h)
command_fewer rows provided n line (item.Discard inputs) s t e h =
    let is : record s { inputs = s.inputs + length inputs } ≡ t = cc in subst (HasAtLeast n) is h

pub item_fewer : (rows : List (List Piece)) (provided : List (List ℕ)) (n : ℕ) (x : Item) (s t : Layout)
    → item_step rows provided s x ≡ Ok t → HasAtLeast n s → HasAtLeast n t
item_fewer rows provided n x s t e h = command_fewer rows provided n x.line x.command (noted s) t e h
