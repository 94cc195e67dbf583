-- Where there is no expression.
use Rattle.ldscript_terms.proofs.Common.{BinaryOperator, CloseParenthesis, Colon, Comma, Err, Expr, Lexeme, List, Mark}
use Rattle.ldscript_terms.proofs.Common.{None, Ok, OpenParenthesis, Option, Question, Result, SectionQuery, Some, Token}
use Rattle.ldscript_terms.proofs.Common.{UnaryOperator, [], lexeme, refl, subst, suc, ℕ, ◌∷◌, ◌≡◌}
use Rattle.ldscript_tokens.specs.Tokens as token
use Rattle.ldscript_terms.specs.declared.expression.RegionQuery.{RegionQuery}
use Rattle.ldscript_terms.specs.Grammar.{AsksRegion, AsksSection, Aligns, Free, Reserved, Worded, Sign, terminal_of}
use Rattle.ldscript_terms.specs.Grammar.{Begins, BeginsUnary, BeginsBinary, BeginsNamed, Primary, Arguments, Within}
use Rattle.ldscript_terms.specs.Grammar.{Whole, Spells, number, dot, name, group, of_region, of_section, align}
use Rattle.ldscript_terms.specs.Grammar.{one_argument, two_arguments, primary, unary, operators, choice}
use Rattle.ldscript_terms.specs.Reading.{Stops, Reading, NoReading, Reads}
use Rattle.ldscript_terms.proofs.Readings.{Lacks, begins_same, Shape, primary_shape, primary_begins_no_unary}
use Rattle.ldscript_terms.proofs.Readings.{primary_reading}
use Rattle.ldscript_terms.proofs.Readings.{align_reading, unary_same, binary_same, level_tail, tail_stops, Tail, done}
use Rattle.ldscript_terms.proofs.Readings.{longer}
use Rattle.ldscript_terms.proofs.Readings.{SoFar, operator_goes_on, whole_stops, whole_stops_before, within_stops_at}
use Rattle.ldscript_terms.proofs.Readings.{question_goes_on}

-- PRIMARY
pub begins_of : {t : Token} {n : ℕ} {ts rest : List Lexeme} → ts ≡ lexeme t n ∷ rest → Begins ts (terminal_of t) rest
begins_of {t = t} {n = n} e = record { first = lexeme t n; split = e; kind = refl }

primary_not_empty : {f : Expr} {ts end : List Lexeme} → Spells Primary f ts end → ts ≡ [] → ⊥
primary_not_empty (number b small) e = let s = b.split in cc
primary_not_empty (dot b) e = let s = b.split in cc
primary_not_empty (name b) e = let s = b.split in cc
primary_not_empty (group b d c) e = let s = b.split in cc
primary_not_empty (of_region b m) e = let s = b.split in cc
primary_not_empty (of_section b m) e = let s = b.split in cc
primary_not_empty (align b d) e = let s = b.split in cc

pub empty_none : (ts : List Lexeme) → ts ≡ [] → NoReading Primary ts
empty_none ts e f end d s = primary_not_empty d e

pub reserved_none : {ts rest : List Lexeme} → Begins ts (Worded Reserved) rest → NoReading Primary ts
reserved_none b f end d s = primary_shape b d

pub group_none : {ts us : List Lexeme} → Begins ts (Sign OpenParenthesis) us → NoReading Whole us → NoReading Primary ts
group_none b n f end d s = let h = primary_shape b d in n f h.0 h.1 (whole_stops_before h.2 tt)

pub group_open : {e : Expr} {ts us vs : List Lexeme} → Begins ts (Sign OpenParenthesis) us → Reading Whole us e vs
    → Lacks vs (Sign CloseParenthesis) → NoReading Primary ts
group_open b r n f end d s =
    let h = primary_shape b d in
    let same = r.only f h.0 h.1 (whole_stops_before h.2 tt) in
    n end (subst (λ x. Begins x (Sign CloseParenthesis) end) same.1 h.2)

pub of_region_none : {q : RegionQuery} {ts us : List Lexeme} → Begins ts (Worded (AsksRegion q)) us
    → ((n : List ℕ) (rest : List Lexeme) → BeginsNamed us n rest → ⊥) → NoReading Primary ts
of_region_none b n f end d s = let h = primary_shape b d in n h.0 end h.2

pub of_section_none : {q : SectionQuery} {ts us : List Lexeme} → Begins ts (Worded (AsksSection q)) us
    → ((n : List ℕ) (rest : List Lexeme) → BeginsNamed us n rest → ⊥) → NoReading Primary ts
of_section_none b n f end d s = let h = primary_shape b d in n h.0 end h.2

pub align_none : {ts us : List Lexeme} → Begins ts (Worded Aligns) us → NoReading Arguments us → NoReading Primary ts
align_none b n f end d s = n f end (primary_shape b d) tt

pub align_reads : {X E : Type 0} {ts us : List Lexeme} (expr : X → Expr) (rest : X → List Lexeme)
    (r : Result (Option X) E) → Begins ts (Worded Aligns) us → Reads Arguments us expr rest r
    → Reads Primary ts expr rest r
align_reads expr rest (Ok (Some x)) b h = align_reading b h
align_reads expr rest (Ok None) b h = align_none b h
align_reads expr rest (Err e) b h = tt

-- ARGUMENTS
pub arguments_unopened : {ts : List Lexeme} → Lacks ts (Sign OpenParenthesis) → NoReading Arguments ts
arguments_unopened n f end (one_argument b d c) s = n _ b
arguments_unopened n f end (two_arguments b d m d2 c) s = n _ b

pub first_argument_none : {ts us : List Lexeme} → Begins ts (Sign OpenParenthesis) us → NoReading Whole us
    → NoReading Arguments ts
first_argument_none b n f end (one_argument {a = x} {vs = ws} b2 d c) s =
    n x ws (subst (λ y. Spells Whole x y ws) (begins_same b2 b).1 d) (whole_stops_before c tt)
first_argument_none b n f end (two_arguments {a = x} {vs = ws} b2 d m d2 c) s =
    n x ws (subst (λ y. Spells Whole x y ws) (begins_same b2 b).1 d) (whole_stops_before m tt)

pub arguments_unclosed : {a : Expr} {ts us vs : List Lexeme} → Begins ts (Sign OpenParenthesis) us
    → Reading Whole us a vs → Lacks vs (Sign CloseParenthesis) → Lacks vs (Sign Comma) → NoReading Arguments ts
arguments_unclosed b r n n2 f end (one_argument {a = x} {vs = ws} b2 d c) s =
    let same = r.only x ws (subst (λ y. Spells Whole x y ws) (begins_same b2 b).1 d) (whole_stops_before c tt) in
    n end (subst (λ y. Begins y (Sign CloseParenthesis) end) same.1 c)
arguments_unclosed b r n n2 f end (two_arguments {a = x} {vs = ws} {ws = zs} b2 d m d2 c) s =
    let same = r.only x ws (subst (λ y. Spells Whole x y ws) (begins_same b2 b).1 d) (whole_stops_before m tt) in
    n2 zs (subst (λ y. Begins y (Sign Comma) zs) same.1 m)

-- behind the comma, all that an ALIGN of two arguments may be
second_argument : {a f : Expr} {ts us vs ws end : List Lexeme} → Begins ts (Sign OpenParenthesis) us
    → Reading Whole us a vs → Begins vs (Sign Comma) ws → Spells Arguments f ts end
    → (b : Expr) × (xs : List Lexeme) × Spells Whole b ws xs × Begins xs (Sign CloseParenthesis) end
second_argument {end = end} b r m (one_argument {a = x} {vs = ys} b2 d c) =
    let same = r.only x ys (subst (λ y. Spells Whole x y ys) (begins_same b2 b).1 d) (whole_stops_before c tt) in
    let signs = (begins_same (subst (λ y. Begins y (Sign CloseParenthesis) end) same.1 c) m).0 in
    cc
second_argument b r m (two_arguments {a = x} {b = z} {vs = ys} {ws = zs} {xs = xs} b2 d m2 d2 c) =
    let same = r.only x ys (subst (λ y. Spells Whole x y ys) (begins_same b2 b).1 d) (whole_stops_before m2 tt) in
    let zs-is = (begins_same (subst (λ y. Begins y (Sign Comma) zs) same.1 m2) m).1 in
    (z, xs, subst (λ y. Spells Whole z y xs) zs-is d2, c)

pub second_argument_none : {a : Expr} {ts us vs ws : List Lexeme} → Begins ts (Sign OpenParenthesis) us
    → Reading Whole us a vs → Begins vs (Sign Comma) ws → NoReading Whole ws → NoReading Arguments ts
second_argument_none b r m n f end d s = let h = second_argument b r m d in n h.0 h.1 h.2 (whole_stops_before h.3 tt)

pub second_argument_unclosed : {a b : Expr} {ts us vs ws xs : List Lexeme} → Begins ts (Sign OpenParenthesis) us
    → Reading Whole us a vs → Begins vs (Sign Comma) ws → Reading Whole ws b xs → Lacks xs (Sign CloseParenthesis)
    → NoReading Arguments ts
second_argument_unclosed o r m r2 n f end d s =
    let h = second_argument o r m d in
    let same = r2.only h.0 h.1 h.2 (whole_stops_before h.3 tt) in
    n end (subst (λ y. Begins y (Sign CloseParenthesis) end) same.1 h.3)

-- UNARY
pub unary_none : {op : UnaryOperator} {ts us : List Lexeme} → BeginsUnary ts op us → NoReading (Within 0) us
    → NoReading (Within 0) ts
unary_none b n f end (primary d) s = primary_begins_no_unary b d
unary_none b n f end (unary {a = x} b2 d) s = n x end (subst (λ y. Spells (Within 0) x y end) (unary_same b2 b).1 d) s

pub no_primary : {ts : List Lexeme} → ((op : UnaryOperator) (us : List Lexeme) → BeginsUnary ts op us → ⊥)
    → NoReading Primary ts → NoReading (Within 0) ts
no_primary n p f end (primary d) s = p f end d tt
no_primary n p f end (unary b d) s = n _ _ b

pub primary_reads : {X E : Type 0} {ts : List Lexeme} (expr : X → Expr) (rest : X → List Lexeme)
    (r : Result (Option X) E) → ((op : UnaryOperator) (us : List Lexeme) → BeginsUnary ts op us → ⊥)
    → Reads Primary ts expr rest r → Reads (Within 0) ts expr rest r
primary_reads expr rest (Ok (Some x)) n h = primary_reading n h
primary_reads expr rest (Ok None) n h = no_primary n h
primary_reads expr rest (Err e) n h = tt

-- OPERATORS BETWEEN OPERANDS
pub level_none : {n : ℕ} {ts : List Lexeme} → NoReading (Within n) ts → NoReading (Within (suc n)) ts
level_none n f end d s = let h = level_tail d in n h.0 h.1 h.2 (tail_stops h.3 s)

tail_stuck : {n : ℕ} {op : BinaryOperator} {a f : Expr} {us rest end : List Lexeme} → BeginsBinary (suc n) rest op us
    → NoReading (Within n) us → Stops (Within (suc n)) end → Tail n a rest f end → ⊥
tail_stuck o n s done = operator_goes_on o s
tail_stuck {n = k} o n s (longer {b = c} {vs = ws} o2 d t) = n c ws
    (subst (λ x. Spells (Within k) c x ws) (binary_same o2 o).1 d) (tail_stops t s)

pub level_stuck : {n : ℕ} {op : BinaryOperator} {ts us rest : List Lexeme} {a : Expr} → SoFar n ts a rest
    → BeginsBinary (suc n) rest op us → NoReading (Within n) us → NoReading (Within (suc n)) ts
level_stuck h o n f end d s = tail_stuck o n s (h.only f end d s)

-- WHOLE
pub whole_none : {ts : List Lexeme} → NoReading (Within 9) ts → NoReading Whole ts
whole_none n f end (operators d) s = n f end d (whole_stops 9 end s)
whole_none n f end (choice {test = x} {us = us} d q d2 k d3) s = n x us d (within_stops_at 9 q tt)

-- behind a `?`, all that a choice may be
chosen : {c f : Expr} {ts us vs end : List Lexeme} → Reading (Within 9) ts c us → Begins us (Sign Question) vs
    → Spells Whole f ts end → Stops Whole end
    → (a b : Expr) × (ws xs : List Lexeme) × Spells Whole a vs ws × Begins ws (Sign Colon) xs × Spells Whole b xs end
chosen {f = f} {end = end} r q (operators d) s =
    let h = r.only f end d (whole_stops 9 end s) in
    absurd (question_goes_on q (subst (Stops Whole) h.1 s))
chosen r q (choice {test = x} {a = y} {b = z} {us = us2} {vs = vs2} {ws = ws2} {xs = xs2} d q2 d2 k2 d3) s =
    let h = r.only x us2 d (within_stops_at 9 q2 tt) in
    let vs-is = (begins_same (subst (λ l. Begins l (Sign Question) vs2) h.1 q2) q).1 in
    (y, z, ws2, xs2, subst (λ l. Spells Whole y l ws2) vs-is d2, k2, d3)

pub first_choice_none : {c : Expr} {ts us vs : List Lexeme} → Reading (Within 9) ts c us → Begins us (Sign Question) vs
    → NoReading Whole vs → NoReading Whole ts
first_choice_none r q n f end d s = let h = chosen r q d s in n h.0 h.2 h.4 (whole_stops_before h.5 tt)

pub no_colon : {c a : Expr} {ts us vs ws : List Lexeme} → Reading (Within 9) ts c us → Begins us (Sign Question) vs
    → Reading Whole vs a ws → Lacks ws (Sign Colon) → NoReading Whole ts
no_colon r q r2 n f end d s =
    let h = chosen r q d s in
    let same = r2.only h.0 h.2 h.4 (whole_stops_before h.5 tt) in
    n h.3 (subst (λ y. Begins y (Sign Colon) h.3) same.1 h.5)

pub second_choice_none : {c a : Expr} {ts us vs ws xs : List Lexeme} → Reading (Within 9) ts c us
    → Begins us (Sign Question) vs → Reading Whole vs a ws → Begins ws (Sign Colon) xs → NoReading Whole xs
    → NoReading Whole ts
second_choice_none r q r2 k n f end d s =
    let h = chosen r q d s in
    let same = r2.only h.0 h.2 h.4 (whole_stops_before h.5 tt) in
    let xs-is = (begins_same (subst (λ y. Begins y (Sign Colon) h.3) same.1 h.5) k).1 in
    n h.1 end (subst (λ y. Spells Whole h.1 y end) xs-is h.6) s

-- A NAME IN PARENTHESES
pub unnamed : {ts inner : List Lexeme} → Begins ts (Sign OpenParenthesis) inner
    → ((n : List ℕ) (rest : List Lexeme) → Begins inner (Worded (Free n)) rest → ⊥) → (n : List ℕ) (rest : List Lexeme)
    → BeginsNamed ts n rest → ⊥
unnamed b no_name n rest m = no_name n m.outer
    (subst (λ x. Begins x (Worded (Free n)) m.outer) (begins_same m.opens b).1 m.names)

pub name_unclosed : {k : List ℕ} {ts inner outer : List Lexeme} → Begins ts (Sign OpenParenthesis) inner
    → Begins inner (Worded (Free k)) outer → Lacks outer (Sign CloseParenthesis) → (n : List ℕ) (rest : List Lexeme)
    → BeginsNamed ts n rest → ⊥
name_unclosed b d no_close n rest m =
    let names = subst (λ x. Begins x (Worded (Free n)) m.outer) (begins_same m.opens b).1 m.names in
    no_close rest (subst (λ x. Begins x (Sign CloseParenthesis) rest) (begins_same names d).1 m.closes)

-- a mark that begins no expression
pub mark_none : (ts : List Lexeme) (m : Mark) (n : ℕ) (rest : List Lexeme) → ts ≡ lexeme (token.Punctuation m) n ∷ rest
    → (m ≡ OpenParenthesis → ⊥) → NoReading Primary ts
mark_none ts m n rest e other f end d s = go m other (primary_shape (begins_of e) d)
  where
    go : (k : Mark) → (k ≡ OpenParenthesis → ⊥) → Shape (Sign k) f rest end → ⊥
    go OpenParenthesis not h = not refl
    go _ not h = h
