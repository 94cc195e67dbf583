-- Statements lead to layouts that differ in symbols alone from layouts that do.
use Rattle.ldmodel_laws.proofs.Common.{Advance, Align, BodyCommand, BodyStatement, Bool, Directive, DoAgree, DotCommand}
use Rattle.ldmodel_laws.proofs.Common.{DotForm, Err, Expr, Fault, Layout, List, MovedBack, None, Offset, Ok, Option}
use Rattle.ldmodel_laws.proofs.Common.{Piece, Result, ScriptSymbol, Some, Width, [], address, and_then, ap, append-nil}
use Rattle.ldmodel_laws.proofs.Common.{byte_count, bytes_eq, bytes_eq-Decides, cond, directives_of, dot_form, false}
use Rattle.ldmodel_laws.proofs.Common.{find, list_any, little_bytes, nat_lt, noted, number, option_map, option_or}
use Rattle.ldmodel_laws.proofs.Common.{or_parts, refl, scope_of, subst, sym, symbol_named, true, value, value_at}
use Rattle.ldmodel_laws.proofs.Common.{with_symbol, ℕ, ◌++◌, ◌+◌, ◌==◌, ◌∙◌, ◌∷◌, ◌≡◌}
use Rattle.std.proofs.lemmas.List.Folds.{find-append}
use Rattle.ldscript.specs.terms.Expressions as expression
use Rattle.ldscript.specs.statements.declared.directive.Directive.TheVariants as directive
use Rattle.ldscript.specs.statements.declared.directive.Assignment.{Assignment}
use Rattle.ldscript.specs.statements.declared.directive.DotCommand.TheVariants.{Set, Add}
use Rattle.ldscript.specs.statements.declared.section.BodyCommand.TheVariants as body
use Rattle.ldmodel.specs.Placement.{assigned, directive_step, Body, piece_placed, piece_start, pieces_placed}
use Rattle.ldmodel.specs.Placement.{input_step, with_dot, with_data, data_step, moved_on, advanced, set_to, dot_step}
use Rattle.ldmodel.specs.Placement.{body_command_step, body_step}
use Rattle.ldmodel.specs.Value.{ValueFault}
use Rattle.ldmodel_laws.specs.Alike.{AreAlike, AreBodiesAlike, AreNew, AreSymbolsAlike, given_names, names_given}
use Rattle.ldmodel_laws.specs.Alike.{value_in, with_symbols}
use Rattle.ldmodel_laws.proofs.Agreeing.{values_agree}
use Rattle.ldmodel_laws.proofs.Effects.{came}

-- where two computations come to an end, what they give is related
abbrev pub Both : {X Y F : Type 0} → (X → Y → Type 0) → Result X F → Result Y F → Type 0
Both {X} {Y} R r q = (x : X) (y : Y) → r ≡ Ok x → q ≡ Ok y → R x y

pub both_then : {X Y Z W F : Type 0} (R : X → Y → Type 0) (Q : Z → W → Type 0) (r : Result X F) (q : Result Y F)
    (f : X → Result Z F) (g : Y → Result W F) → Both R r q → ((x : X) (y : Y) → R x y → Both Q (f x) (g y))
    → Both Q (and_then r f) (and_then q g)
both_then R Q (Err e) q f g h k z w a b = absurd (let none : ⊥ = cc in none)
both_then R Q (Ok x) (Err e) f g h k z w a b = absurd (let none : ⊥ = cc in none)
both_then R Q (Ok x) (Ok y) f g h k z w a b = k x y (h x y refl refl) z w a b

pub both_ok : {X Y F : Type 0} (R : X → Y → Type 0) (x : X) (y : Y) → R x y
    → Both R (let r : Result X F = Ok x in r) (let q : Result Y F = Ok y in q)
both_ok {X} {Y} R x y h z w a b =
    let first : x ≡ z = cc in let second : y ≡ w = cc in
    subst (λ v. R z v) second (subst (λ u. R u y) first h)

-- where a choice is the same in both
pub both_choice : {X Y F : Type 0} (R : X → Y → Type 0) (c : Bool) (r r' : Result X F) (q q' : Result Y F) → Both R r q
    → Both R r' q' → Both R (cond c r r') (cond c q q')
both_choice R true r r' q q' h k = h
both_choice R false r r' q q' h k = k

abbrev pub IsSame : {X : Type 0} → X → X → Type 0
IsSame x y = x ≡ y

pub same_both : {X F : Type 0} (r : Result X F) → Both IsSame r r
same_both r x y a b = cc

-- the same layout, with other symbols
abbrev pub having : Layout → List ScriptSymbol → Layout
having s symbols = record s { symbols = symbols }

-- symbols alike lead to an expression's number that is the same
value_of : (line : ℕ) (r : Result ℕ ValueFault) (x : ℕ) → value_at line r ≡ Ok x → r ≡ Ok x
value_of line (Ok y) x e = cc
value_of line (Err f) x e = absurd (let none : ⊥ = cc in none)

pub number_both : (names : List (List ℕ)) (s : Layout) (ys : List ScriptSymbol) → AreSymbolsAlike names s.symbols ys
    → (line : ℕ) (e : Expr) → Both IsSame (number s line e) (number (having s ys) line e)
unfolding number
number_both names s ys a line e x y p q =
    let agree : DoAgree (scope_of s) (scope_of (having s ys)) =
    record { symbols = a.values; sections = λ name. refl; regions = λ name. refl } in
    values_agree (scope_of s) (scope_of (having s ys)) s.dot e x y agree
    (value_of line (value (scope_of s) s.dot e) x p) (value_of line (value (scope_of (having s ys)) s.dot e) y q)

-- symbols, and one more where there is a value
abbrev more : List ScriptSymbol → List ℕ → Option ℕ → List ScriptSymbol
more xs n None = xs
more xs n (Some x) = xs ++ record { name = n; value = x } ∷ []

named_more : (xs : List ScriptSymbol) (n : List ℕ) (o : Option ℕ) (name : List ℕ) → bytes_eq n name ≡ false
    → symbol_named (more xs n o) name ≡ symbol_named xs name
named_more xs n None name e = refl
named_more xs n (Some x) name e =
    find-append (λ (z : ScriptSymbol). bytes_eq z.name name) xs (record { name = n; value = x } ∷ [])
    ∙ go (symbol_named xs name) (bytes_eq n name) e
  where
    go : (o : Option ScriptSymbol) (b : Bool) → b ≡ false
        → option_or o (cond b (Some (record { name = n; value = x })) None) ≡ o
    go (Some z) b h = refl
    go None true h = absurd (let none : ⊥ = cc in none)
    go None false h = refl

value_last : (xs : List ScriptSymbol) (n : List ℕ) (o : Option ℕ) → symbol_named xs n ≡ None
    → value_in (more xs n o) n ≡ o
value_last xs n None e = ap (option_map (λ (x : ScriptSymbol). x.value)) e
value_last xs n (Some x) e =
    ap (option_map (λ (z : ScriptSymbol). z.value))
    (find-append (λ (z : ScriptSymbol). bytes_eq z.name n) xs (record { name = n; value = x } ∷ [])
    ∙ ap (λ o. option_or o (find (λ (z : ScriptSymbol). bytes_eq z.name n) (record { name = n; value = x } ∷ []))) e)
    ∙ ap (λ b. option_map (λ (z : ScriptSymbol). z.value) (cond b (Some (record { name = n; value = x })) None))
    ((bytes_eq-Decides n n).1 refl)

-- the other names stay new
still_new : (n : List ℕ) (o p : Option ℕ) (ns : List (List ℕ)) (xs ys : List ScriptSymbol)
    → list_any (bytes_eq n) ns ≡ false → AreNew ns xs ys → AreNew ns (more xs n o) (more ys n p)
still_new n o p [] xs ys e h = tt
still_new n o p (m ∷ ns) xs ys e h =
    let parts = or_parts (bytes_eq n m) (list_any (bytes_eq n) ns) e in (
      named_more xs n o m parts.0 ∙ h.0,
      named_more ys n p m parts.0 ∙ h.1,
      h.2,
      still_new n o p ns xs ys parts.1 h.3,
    )

-- a new name is given a value in both, in one or in none
pub symbols_more : (n : List ℕ) (o p : Option ℕ) (names : List (List ℕ)) (xs ys : List ScriptSymbol)
    → AreSymbolsAlike (n ∷ names) xs ys → ((x y : ℕ) → o ≡ Some x → p ≡ Some y → x ≡ y)
    → AreSymbolsAlike names (more xs n o) (more ys n p)
symbols_more n o p names xs ys a same = record {
  values = λ name x y. go name (bytes_eq n name) refl x y;
  new = still_new n o p names xs ys a.new.2 a.new.3;
}
  where
    go : (name : List ℕ) (b : Bool) → bytes_eq n name ≡ b → (x y : ℕ) → value_in (more xs n o) name ≡ Some x
        → value_in (more ys n p) name ≡ Some y → x ≡ y
    go name false e x y h k =
        a.values name x y (ap (option_map (λ (z : ScriptSymbol). z.value)) (sym (named_more xs n o name e)) ∙ h)
        (ap (option_map (λ (z : ScriptSymbol). z.value)) (sym (named_more ys n p name e)) ∙ k)
    go name true e x y h k =
        let is : n ≡ name = (bytes_eq-Decides n name).0 e in
        same x y (sym (value_last xs n o a.new.0) ∙ (ap (value_in (more xs n o)) is ∙ h))
        (sym (value_last ys n p a.new.1) ∙ (ap (value_in (more ys n p)) is ∙ k))

-- a name that is given no value
pub symbols_fewer : (n : List ℕ) (names : List (List ℕ)) (xs ys : List ScriptSymbol)
    → AreSymbolsAlike (n ∷ names) xs ys → AreSymbolsAlike names xs ys
symbols_fewer n names xs ys a = record { values = a.values; new = a.new.3 }

module _ (s : Layout) (ys : List ScriptSymbol) (names : List (List ℕ)) where
  -- a symbol is given a value in both, or in one of them
  assigned_both : (line : ℕ) (a : Assignment) → AreSymbolsAlike (a.name ∷ names) s.symbols ys
      → Both (AreAlike names) (assigned s line a) (assigned (having s ys) line a)
  assigned_both line a h =
      both_then IsSame (AreAlike names) (number s line a.value) (number (having s ys) line a.value)
      (λ x. Ok (with_symbol s a.name x)) (λ x. Ok (with_symbol (having s ys) a.name x))
      (number_both (a.name ∷ names) s ys h line a.value)
      (λ x y e. both_ok (AreAlike names) (with_symbol s a.name x) (with_symbol (having s ys) a.name y) (record {
        same = refl;
        symbols = symbols_more a.name (Some x) (Some y) names s.symbols ys h (λ u v p q.
            let first : x ≡ u = cc in let second : y ≡ v = cc in sym first ∙ (e ∙ second));
      }))

  assigned_first : (line : ℕ) (a : Assignment) → AreSymbolsAlike (a.name ∷ names) s.symbols ys
      → Both (AreAlike names) (assigned s line a) (Ok (having s ys))
  assigned_first line a h t u e f =
      let k = came (number s line a.value) (λ x. Ok (with_symbol s a.name x)) t e in
      both_ok (AreAlike names) (with_symbol s a.name k.value) (having s ys) (record {
        same = refl;
        symbols = symbols_more a.name (Some k.value) None names s.symbols ys h (λ x y p q.
            absurd (let none : ⊥ = cc in none));
      }) t u k.gives f

  assigned_second : (line : ℕ) (a : Assignment) → AreSymbolsAlike (a.name ∷ names) s.symbols ys
      → Both (AreAlike names) (Ok s) (assigned (having s ys) line a)
  assigned_second line a h t u e f =
      let k = came (number (having s ys) line a.value) (λ x. Ok (with_symbol (having s ys) a.name x)) u f in
      both_ok (AreAlike names) s (with_symbol (having s ys) a.name k.value) (record {
        same = refl;
        symbols = symbols_more a.name None (Some k.value) names s.symbols ys h (λ x y p q.
            absurd (let none : ⊥ = cc in none));
      }) t u e k.gives

  pub directive_both : (earlier provided : List (List ℕ)) (line : ℕ) (c : Directive)
      → AreSymbolsAlike (given_names c ++ names) s.symbols ys
      → Both (AreAlike names) (directive_step earlier s line c) (directive_step provided (having s ys) line c)
  unfolding directive_step
  directive_both earlier provided line (directive.Assign a) h = assigned_both line a h
  directive_both earlier provided line (directive.Provide a) h =
      go (list_any (bytes_eq a.name) earlier) (list_any (bytes_eq a.name) provided)
    where
      go : (b c : Bool) → Both (AreAlike names) (cond b (assigned s line a) (Ok s))
          (cond c (assigned (having s ys) line a) (Ok (having s ys)))
      go true true = assigned_both line a h
      go true false = assigned_first line a h
      go false true = assigned_second line a h
      go false false =
          both_ok (AreAlike names) s (having s ys) (record {
            same = refl;
            symbols = symbols_fewer a.name names s.symbols ys h;
          })
  directive_both earlier provided line (directive.Assert a) h =
      both_ok (AreAlike names) s (having s ys) (record { same = refl; symbols = h })

-- bodies
module _ (b : Body) (ys : List ScriptSymbol) (names : List (List ℕ))
    (h : AreSymbolsAlike names b.layout.symbols ys) where
  abbrev c : Body
  c = with_symbols b ys

  moved_both : (line x y : ℕ) → x ≡ y → Both (AreBodiesAlike names) (moved_on line b x) (moved_on line c y)
  moved_both line x y e = subst (λ z. Both (AreBodiesAlike names) (moved_on line b x) (moved_on line c z)) e
      (both_choice (AreBodiesAlike names) (nat_lt x b.layout.dot) (Err (MovedBack line))
      (and_then (address line x) (λ z. Ok (with_dot b z))) (Err (MovedBack line))
      (and_then (address line x) (λ z. Ok (with_dot c z))) (λ d f p q. absurd (let none : ⊥ = cc in none))
      (both_then IsSame (AreBodiesAlike names) (address line x) (address line x) (λ z. Ok (with_dot b z))
      (λ z. Ok (with_dot c z)) (same_both (address line x)) (λ z w p.
      both_ok (AreBodiesAlike names) (with_dot b z) (with_dot c w)
      (record { same = ap (with_dot c) (sym p); symbols = h }))))

  numbers : (line : ℕ) (e : Expr) → Both IsSame (number b.layout line e) (number c.layout line e)
  numbers = number_both names b.layout ys h

  advanced_both : (line : ℕ) (e : Expr) → Both (AreBodiesAlike names) (advanced line b e) (advanced line c e)
  advanced_both line e =
      both_then IsSame (AreBodiesAlike names) (number b.layout line e) (number c.layout line e)
      (λ x. moved_on line b (b.layout.dot + x)) (λ x. moved_on line c (b.layout.dot + x)) (numbers line e)
      (λ x y p. moved_both line (b.layout.dot + x) (b.layout.dot + y) (ap (λ z. b.layout.dot + z) p))

  set_both : (line : ℕ) (f : Option DotForm) → Both (AreBodiesAlike names) (set_to line b f) (set_to line c f)
  set_both line (Some (Advance e)) = advanced_both line e
  set_both line (Some (Align e)) =
      both_then IsSame (AreBodiesAlike names) (number b.layout line (expression.AlignDot e))
      (number c.layout line (expression.AlignDot e)) (λ x. moved_on line b x) (λ x. moved_on line c x)
      (numbers line (expression.AlignDot e)) (λ x y p. moved_both line x y p)
  set_both line (Some (Offset e)) =
      both_then IsSame (AreBodiesAlike names) (number b.layout line e) (number c.layout line e)
      (λ x. moved_on line b (b.start + x)) (λ x. moved_on line c (b.start + x)) (numbers line e)
      (λ x y p. moved_both line (b.start + x) (b.start + y) (ap (λ z. b.start + z) p))
  set_both line None = both_ok (AreBodiesAlike names) b c (record { same = refl; symbols = h })

  dot_both : (line : ℕ) (d : DotCommand) → Both (AreBodiesAlike names) (dot_step line b d) (dot_step line c d)
  dot_both line (Add e) = advanced_both line e
  dot_both line (Set e) = set_both line (dot_form e)

  data_both : (line : ℕ) (w : Width) (e : Expr) → Both (AreBodiesAlike names) (data_step line b w e)
      (data_step line c w e)
  data_both line w e =
      let n : ℕ = byte_count w in
      both_then IsSame (AreBodiesAlike names) (number b.layout line e) (number c.layout line e)
      (λ x. and_then (address line (b.layout.dot + n)) (λ end. Ok (with_dot (with_data b (little_bytes n x)) end)))
      (λ x. and_then (address line (b.layout.dot + n)) (λ end. Ok (with_dot (with_data c (little_bytes n x)) end)))
      (numbers line e)
      (λ x y p. both_then IsSame (AreBodiesAlike names) (address line (b.layout.dot + n))
      (address line (b.layout.dot + n))
      (λ end. Ok (with_dot (with_data b (little_bytes n x)) end))
      (λ end. Ok (with_dot (with_data c (little_bytes n y)) end)) (same_both (address line (b.layout.dot + n)))
      (λ u v q. both_ok (AreBodiesAlike names) (with_dot (with_data b (little_bytes n x)) u)
      (with_dot (with_data c (little_bytes n y)) v)
      (record {
        same = ap (λ z. with_dot (with_data c (little_bytes n z)) v) (sym p)
            ∙ ap (with_dot (with_data c (little_bytes n x))) (sym q);
        symbols = h;
      })))

-- the entries of an input statement take the same places, and no symbol changes
pub record PlacedAlike (line n : ℕ) (b : Body) (ys : List ScriptSymbol) (rest : List Piece) (d : Body) : Type 0 where
  pub same : pieces_placed line n (with_symbols b ys) rest ≡ Ok (with_symbols d ys)
  pub symbols : d.layout.symbols ≡ b.layout.symbols

piece_alike : (line : ℕ) (b : Body) (ys : List ScriptSymbol) (p : Piece) (rest : List Piece) (d : Body)
    → piece_placed line b p rest ≡ Ok d
    → (piece_placed line (with_symbols b ys) p rest ≡ Ok (with_symbols d ys)) × (d.layout.symbols ≡ b.layout.symbols)
unfolding piece_placed
piece_alike line b ys p rest d e =
    let start : ℕ = piece_start b.layout.dot p in
    let go : ℕ → Body → Result Body Fault = λ end z.
    Ok (record (with_dot z end) { rest = rest; pieces = z.pieces ++ record { start = start; piece = p } ∷ [] }) in
    let k = came (address line (start + p.size)) (λ end. go end b) d e in
    let is : record (with_dot b k.value) { rest = rest; pieces = b.pieces ++ record { start = start; piece = p } ∷ [] }
    ≡ d = (let f = k.gives in cc) in (
      ap (λ r. and_then r (λ end. go end (with_symbols b ys))) k.is ∙ ap (λ z. Ok (with_symbols z ys)) is,
      ap (λ (z : Body). z.layout.symbols) (sym is),
    )

pub pieces_alike : (line n : ℕ) (ys : List ScriptSymbol) (rest : List Piece) (b d : Body)
    → pieces_placed line n b rest ≡ Ok d → PlacedAlike line n b ys rest d
unfolding pieces_placed
pieces_alike line n ys [] b d e =
    let is : b ≡ d = cc in
    record { same = ap (λ z. Ok (with_symbols z ys)) is; symbols = ap (λ (z : Body). z.layout.symbols) (sym is) }
pieces_alike line n ys (p ∷ rest) b d e =
    let k = go (p.statement == n) e (λ z. pieces_alike line n ys rest z d) in record { same = k.0; symbols = k.1 }
  where
    go : (t : Bool) → cond t (and_then (piece_placed line b p rest) (λ c. pieces_placed line n c rest)) (Ok b) ≡ Ok d
        → ((z : Body) → pieces_placed line n z rest ≡ Ok d → PlacedAlike line n z ys rest d)
        → (cond t (and_then (piece_placed line (with_symbols b ys) p rest) (λ c. pieces_placed line n c rest))
        (Ok (with_symbols b ys)) ≡ Ok (with_symbols d ys)) × (d.layout.symbols ≡ b.layout.symbols)
    go true k later =
        let one = came (piece_placed line b p rest) (λ c. pieces_placed line n c rest) d k in
        let first = piece_alike line b ys p rest one.value one.is in
        let others = later one.value one.gives in (
          ap (λ r. and_then r (λ c. pieces_placed line n c rest)) first.0 ∙ others.same,
          others.symbols ∙ first.1,
        )
    go false k later =
        let is : b ≡ d = cc in
        (ap (λ z. Ok (with_symbols z ys)) is, ap (λ (z : Body). z.layout.symbols) (sym is))

-- an input statement
pub input_alike : (line : ℕ) (b : Body) (ys : List ScriptSymbol) (d : Body) → input_step line b ≡ Ok d
    → (input_step line (with_symbols b ys) ≡ Ok (with_symbols d ys)) × (d.layout.symbols ≡ b.layout.symbols)
input_alike line b ys d e =
    let past : Body → Body = λ z. record z { layout = record z.layout { inputs = b.layout.inputs + 1 } } in
    let k = came (pieces_placed line b.layout.inputs b b.rest) (λ z. Ok (past z)) d e in
    let a = pieces_alike line b.layout.inputs ys b.rest b k.value k.is in
    let is : past k.value ≡ d = (let f = k.gives in cc) in (
      ap (λ r. and_then r (λ z. Ok (past z))) a.same ∙ ap (λ z. Ok (with_symbols z ys)) is,
      ap (λ (z : Body). z.layout.symbols) (sym is) ∙ a.symbols,
    )

-- a statement of a body
module _ (b : Body) (ys : List ScriptSymbol) (names : List (List ℕ)) (earlier provided : List (List ℕ)) where
  directive_in_body : (line : ℕ) (x : Directive) → AreSymbolsAlike (given_names x ++ names) b.layout.symbols ys
      → Both (AreBodiesAlike names) (and_then (directive_step earlier b.layout line x) (λ s. Ok (record b {
        layout = s;
      })))
      (and_then (directive_step provided (having b.layout ys) line x) (λ s. Ok (record b { layout = s })))
  directive_in_body line x h =
      both_then (AreAlike names) (AreBodiesAlike names) (directive_step earlier b.layout line x)
      (directive_step provided (having b.layout ys) line x) (λ s. Ok (record b { layout = s }))
      (λ s. Ok (record b { layout = s })) (directive_both b.layout ys names earlier provided line x h)
      (λ s t a. both_ok (AreBodiesAlike names) (record b { layout = s }) (record b { layout = t })
      (record { same = ap (λ z. record b { layout = z }) a.same; symbols = a.symbols }))

  input_both : (line : ℕ) → AreSymbolsAlike names b.layout.symbols ys
      → Both (AreBodiesAlike names) (input_step line b) (input_step line (with_symbols b ys))
  input_both line h d f p q =
      let a = input_alike line b ys d p in
      let is : with_symbols d ys ≡ f = (let k = sym a.0 ∙ q in cc) in
      subst (AreBodiesAlike names d) is
      (record { same = refl; symbols = subst (λ z. AreSymbolsAlike names z ys) (sym a.1) h })

  pub body_both : (line : ℕ) (x : BodyCommand)
      → AreSymbolsAlike (names_given (directives_of line x) ++ names) b.layout.symbols ys
      → Both (AreBodiesAlike names) (body_command_step earlier line b x)
      (body_command_step provided line (with_symbols b ys) x)
  unfolding body_command_step
  body_both line (body.Dot d) h = dot_both b ys names h line d
  body_both line (body.Directive x) h =
      directive_in_body line x
      (subst (λ z. AreSymbolsAlike (z ++ names) b.layout.symbols ys) (append-nil (given_names x)) h)
  body_both line (body.Data w e) h = data_both b ys names h line w e
  body_both line (body.Input i) h = input_both line h

-- in bodies that differ in symbols alone
pub bodies_alike : (earlier provided names : List (List ℕ)) (x : BodyStatement) (b c d e : Body)
    → AreBodiesAlike (names_given (directives_of x.line x.command) ++ names) b c → body_step earlier b x ≡ Ok d
    → body_step provided c x ≡ Ok e → AreBodiesAlike names d e
bodies_alike earlier provided names x b c d e a p q =
    body_both (record b { layout = noted b.layout }) c.layout.symbols names earlier provided x.line x.command a.symbols
    d e p (ap (λ z. body_step provided z x) (sym a.same) ∙ q)
