-- What of an expression the rules determine: readings, and that there is none.
use Rattle.ldscript_terms.proofs.Common.{BinaryOperator, CloseParenthesis, Colon, Comma, Expr, Lexeme, List, Mark, Name}
use Rattle.ldscript_terms.proofs.Common.{None, OpenParenthesis, Option, Question, SectionQuery, Some, UnaryOperator, []}
use Rattle.ldscript_terms.proofs.Common.{ap, arith, length, refl, subst, suc, sym, ℕ, ◌<◌, ◌^◌, ◌∙◌, ◌∷◌, ◌≡◌}
use Rattle.ldscript_terms.specs.declared.expression.RegionQuery.{RegionQuery}
use Rattle.ldscript_terms.specs.Operators.{unary_of, binary_of, level_of}
use Rattle.ldscript_terms.specs.Expressions.{Number, Dot, Unary, Binary, Choice, OfRegion, OfSection, AlignDot, Align}
use Rattle.ldscript_terms.specs.Grammar.{Point, AsksRegion, AsksSection, Aligns, Free, Reserved, Terminal, Numeral}
use Rattle.ldscript_terms.specs.Grammar.{Worded, Sign, Other, terminal_of, Begins, BeginsUnary, BeginsBinary}
use Rattle.ldscript_terms.specs.Grammar.{BeginsNamed, Primary, Arguments, Within, Whole, Spells, number, dot, name}
use Rattle.ldscript_terms.specs.Grammar.{group, of_region, of_section, align, one_argument, two_arguments, primary}
use Rattle.ldscript_terms.specs.Grammar.{unary, operand, binary, operators, choice}
use Rattle.ldscript_terms.specs.Reading.{IsLooser, IsNoOperator, StopsAt, Stops, Reading}

-- the tokens don't begin with this terminal
abbrev pub Lacks : List Lexeme → Terminal → Type 0
Lacks ts t = (rest : List Lexeme) → Begins ts t rest → ⊥

-- FRONTS
pub begins_same : {ts rest more : List Lexeme} {t u : Terminal} → Begins ts t rest → Begins ts u more
    → (t ≡ u) × (rest ≡ more)
begins_same {rest = rest} {more = more} a b =
    let same = sym a.split ∙ b.split in
    let firsts : a.first ≡ b.first = cc in
    let rests : rest ≡ more = cc in
    (sym a.kind ∙ ap (λ (x : Lexeme). terminal_of x.token) firsts ∙ b.kind, rests)

pub begins_shorter : {ts rest : List Lexeme} {t : Terminal} → Begins ts t rest → length rest < length ts
begins_shorter b = let long = ap length b.split in omega (arith, long)

pub within_stops_at : (n : ℕ) {ts rest : List Lexeme} {t : Terminal} → Begins ts t rest → StopsAt (Within n) t
    → Stops (Within n) ts
within_stops_at n b s = subst (Stops (Within n)) (sym b.split) (subst (StopsAt (Within n)) (sym b.kind) s)

pub within_stopped_at : (n : ℕ) {ts rest : List Lexeme} {t : Terminal} → Begins ts t rest → Stops (Within n) ts
    → StopsAt (Within n) t
within_stopped_at n b s = subst (StopsAt (Within n)) b.kind (subst (Stops (Within n)) b.split s)

pub whole_stops_before : {ts rest : List Lexeme} {t : Terminal} → Begins ts t rest → StopsAt Whole t → Stops Whole ts
whole_stops_before b s = subst (Stops Whole) (sym b.split) (subst (StopsAt Whole) (sym b.kind) s)

pub whole_stopped_before : {ts rest : List Lexeme} {t : Terminal} → Begins ts t rest → Stops Whole ts → StopsAt Whole t
whole_stopped_before b s = subst (StopsAt Whole) b.kind (subst (Stops Whole) b.split s)

pub unary_same : {ts us vs : List Lexeme} {o p : UnaryOperator} → BeginsUnary ts o us → BeginsUnary ts p vs
    → (o ≡ p) × (us ≡ vs)
unary_same {o = o} {p = p} a b =
    let same = begins_same a.begins b.begins in
    let marks : a.mark ≡ b.mark = let signs = same.0 in cc in
    let operators = sym a.spells ∙ ap unary_of marks ∙ b.spells in
    let e : o ≡ p = cc in
    (e, same.1)

pub binary_same : {n : ℕ} {ts us vs : List Lexeme} {o p : BinaryOperator} → BeginsBinary n ts o us
    → BeginsBinary n ts p vs → (o ≡ p) × (us ≡ vs)
binary_same {o = o} {p = p} a b =
    let same = begins_same a.begins b.begins in
    let marks : a.mark ≡ b.mark = let signs = same.0 in cc in
    let operators = sym a.spells ∙ ap binary_of marks ∙ b.spells in
    let e : o ≡ p = cc in
    (e, same.1)

pub named_same : {ts us vs : List Lexeme} {n m : List ℕ} → BeginsNamed ts n us → BeginsNamed ts m vs
    → (n ≡ m) × (us ≡ vs)
named_same {us = us} {n = n} {m = m} a b =
    let inners = (begins_same a.opens b.opens).1 in
    let names = begins_same a.names (rw (sym inners) at b.names) in
    let outers = names.1 in
    let closes = begins_same a.closes (rw (sym outers) at b.closes) in
    let e : n ≡ m = let words = names.0 in cc in
    (e, closes.1)

-- PRIMARY
abbrev pub Shape : Terminal → Expr → List Lexeme → List Lexeme → Type 0
Shape (Numeral v) f us more = (f ≡ Number v) × (more ≡ us) × (v < 2 ^ 64)
Shape (Worded Point) f us more = (f ≡ Dot) × (more ≡ us)
Shape (Worded (Free n)) f us more = (f ≡ Name n) × (more ≡ us)
Shape (Worded (AsksRegion q)) f us more = (n : List ℕ) × (f ≡ OfRegion q n) × BeginsNamed us n more
Shape (Worded (AsksSection q)) f us more = (n : List ℕ) × (f ≡ OfSection q n) × BeginsNamed us n more
Shape (Worded Aligns) f us more = Spells Arguments f us more
Shape (Worded Reserved) f us more = ⊥
Shape (Sign OpenParenthesis) f us more =
    (vs : List Lexeme) × Spells Whole f us vs × Begins vs (Sign CloseParenthesis) more
Shape (Sign m) f us more = ⊥
Shape Other f us more = ⊥

-- what the first token says of the rest
pub primary_shape : {t : Terminal} {f : Expr} {ts us more : List Lexeme} → Begins ts t us → Spells Primary f ts more
    → Shape t f us more
primary_shape {f = f} {us = us} {more = more} b (number d small) = let h = begins_same d b in
    subst (λ t. Shape t f us more) h.0 (refl, h.1, small)
primary_shape {f = f} {us = us} {more = more} b (dot d) = let h = begins_same d b in
    subst (λ t. Shape t f us more) h.0 (refl, h.1)
primary_shape {f = f} {us = us} {more = more} b (name d) = let h = begins_same d b in
    subst (λ t. Shape t f us more) h.0 (refl, h.1)
primary_shape {f = f} {us = us} {more = more} b (group {vs = vs} d s c) =
    let h = begins_same d b in subst (λ t. Shape t f us more) h.0 (vs, subst (λ x. Spells Whole f x vs) h.1 s, c)
primary_shape {f = f} {us = us} {more = more} b (of_region {name = n} d m) =
    let h = begins_same d b in subst (λ t. Shape t f us more) h.0 (n, refl, subst (λ x. BeginsNamed x n more) h.1 m)
primary_shape {f = f} {us = us} {more = more} b (of_section {name = n} d m) =
    let h = begins_same d b in subst (λ t. Shape t f us more) h.0 (n, refl, subst (λ x. BeginsNamed x n more) h.1 m)
primary_shape {f = f} {us = us} {more = more} b (align d s) =
    let h = begins_same d b in subst (λ t. Shape t f us more) h.0 (subst (λ x. Spells Arguments f x more) h.1 s)

pub number_reading : {v : ℕ} {ts rest : List Lexeme} → Begins ts (Numeral v) rest → v < 2 ^ 64
    → Reading Primary ts (Number v) rest
number_reading b small = record {
  spells = number b small;
  only = λ f more d s. (let h = primary_shape b d in (h.0, h.1));
  shorter = begins_shorter b;
}

pub dot_reading : {ts rest : List Lexeme} → Begins ts (Worded Point) rest → Reading Primary ts Dot rest
dot_reading b = record { spells = dot b; only = λ f more d s. primary_shape b d; shorter = begins_shorter b }

pub name_reading : {n : List ℕ} {ts rest : List Lexeme} → Begins ts (Worded (Free n)) rest
    → Reading Primary ts (Name n) rest
name_reading b = record { spells = name b; only = λ f more d s. primary_shape b d; shorter = begins_shorter b }

pub named_shorter : {n : List ℕ} {ts rest : List Lexeme} → BeginsNamed ts n rest → length rest < length ts
named_shorter m = omega (arith, begins_shorter m.opens, begins_shorter m.names, begins_shorter m.closes)

pub of_region_reading : {q : RegionQuery} {n : List ℕ} {ts us rest : List Lexeme} → Begins ts (Worded (AsksRegion q)) us
    → BeginsNamed us n rest → Reading Primary ts (OfRegion q n) rest
of_region_reading {q = q} b m = record {
  spells = of_region b m;
  only = λ f more d s. (let h = primary_shape b d in let same = named_same h.2 m in
      (h.1 ∙ ap (OfRegion q) same.0, same.1));
  shorter = omega (arith, begins_shorter b, named_shorter m);
}

pub of_section_reading : {q : SectionQuery} {n : List ℕ} {ts us rest : List Lexeme}
    → Begins ts (Worded (AsksSection q)) us → BeginsNamed us n rest → Reading Primary ts (OfSection q n) rest
of_section_reading {q = q} b m = record {
  spells = of_section b m;
  only = λ f more d s. (let h = primary_shape b d in let same = named_same h.2 m in
      (h.1 ∙ ap (OfSection q) same.0, same.1));
  shorter = omega (arith, begins_shorter b, named_shorter m);
}

pub align_reading : {e : Expr} {ts us rest : List Lexeme} → Begins ts (Worded Aligns) us → Reading Arguments us e rest
    → Reading Primary ts e rest
align_reading b r = record {
  spells = align b r.spells;
  only = λ f more d s. r.only f more (primary_shape b d) tt;
  shorter = omega (arith, begins_shorter b, r.shorter);
}

-- an expression up to a mark that stops it, and that mark
pub closed_only : {e f : Expr} {m : Mark} {us vs ws rest more : List Lexeme} → StopsAt Whole (Sign m)
    → Reading Whole us e vs → Begins vs (Sign m) rest → Spells Whole f us ws → Begins ws (Sign m) more
    → (f ≡ e) × (more ≡ rest)
closed_only {f = f} {m = m} {ws = ws} {more = more} st r c d k =
    let h = r.only f ws d (whole_stops_before k st) in
    (h.0, (begins_same (subst (λ x. Begins x (Sign m) more) h.1 k) c).1)

pub group_reading : {e : Expr} {ts us vs rest : List Lexeme} → Begins ts (Sign OpenParenthesis) us
    → Reading Whole us e vs → Begins vs (Sign CloseParenthesis) rest → Reading Primary ts e rest
group_reading b r c = record {
  spells = group b r.spells c;
  only = λ f more d s. (let h = primary_shape b d in closed_only tt r c h.1 h.2);
  shorter = omega (arith, begins_shorter b, r.shorter, begins_shorter c);
}

-- ARGUMENTS
pub one_reading : {a : Expr} {ts us vs rest : List Lexeme} → Begins ts (Sign OpenParenthesis) us → Reading Whole us a vs
    → Begins vs (Sign CloseParenthesis) rest → Reading Arguments ts (AlignDot a) rest
one_reading {a = a} {ts = ts} {us = us} {vs = vs} {rest = rest} b r c = record {
  spells = one_argument b r.spells c;
  only = go;
  shorter = omega (arith, begins_shorter b, r.shorter, begins_shorter c);
}
  where
    go : (f : Expr) (more : List Lexeme) → Spells Arguments f ts more → Stops Arguments more
        → (f ≡ AlignDot a) × (more ≡ rest)
    go f more (one_argument {a = x} {vs = ws} d s k) st =
        let us-is = (begins_same d b).1 in
        let h = closed_only tt r c (subst (λ y. Spells Whole x y ws) us-is s) k in
        (ap AlignDot h.0, h.1)
    go f more (two_arguments {a = x} {vs = ws} {ws = zs} d s m s2 k) st =
        let us-is = (begins_same d b).1 in
        let h = r.only x ws (subst (λ y. Spells Whole x y ws) us-is s) (whole_stops_before m tt) in
        let signs = (begins_same (subst (λ y. Begins y (Sign Comma) zs) h.1 m) c).0 in
        cc

pub two_reading : {a b : Expr} {ts us vs ws xs rest : List Lexeme} → Begins ts (Sign OpenParenthesis) us
    → Reading Whole us a vs → Begins vs (Sign Comma) ws → Reading Whole ws b xs → Begins xs (Sign CloseParenthesis) rest
    → Reading Arguments ts (Align a b) rest
two_reading {a = a} {b = b} {ts = ts} {us = us} {vs = vs} {ws = ws} {xs = xs} {rest = rest} o r m r2 c =
    record {
      spells = two_arguments o r.spells m r2.spells c;
      only = go;
      shorter = omega (arith, begins_shorter o, r.shorter, begins_shorter m, r2.shorter, begins_shorter c);
    }
  where
    go : (f : Expr) (more : List Lexeme) → Spells Arguments f ts more → Stops Arguments more
        → (f ≡ Align a b) × (more ≡ rest)
    go f more (one_argument {a = x} {vs = ys} d s k) st =
        let us-is = (begins_same d o).1 in
        let h = r.only x ys (subst (λ y. Spells Whole x y ys) us-is s) (whole_stops_before k tt) in
        let signs = (begins_same (subst (λ y. Begins y (Sign CloseParenthesis) more) h.1 k) m).0 in
        cc
    go f more (two_arguments {a = x} {b = y} {vs = ys} {ws = zs} {xs = zs2} d s k s2 k2) st =
        let us-is = (begins_same d o).1 in
        let first = closed_only tt r m (subst (λ z. Spells Whole x z ys) us-is s) k in
        let second = closed_only tt r2 c (subst (λ z. Spells Whole y z zs2) first.1 s2) k2 in
        (let left = first.0 in let right = second.0 in cc, second.1)

-- UNARY
pub primary_begins_no_unary : {op : UnaryOperator} {f : Expr} {ts us more : List Lexeme} → BeginsUnary ts op us
    → Spells Primary f ts more → ⊥
primary_begins_no_unary {op = op} {f = f} {us = us} {more = more} b d = no_shape b.mark b.spells
    (primary_shape b.begins d)
  where
    no_shape : (m : Mark) → unary_of m ≡ Some op → Shape (Sign m) f us more → ⊥
    no_shape OpenParenthesis e s = cc
    no_shape _ e s = s

pub unary_reading : {op : UnaryOperator} {a : Expr} {ts us rest : List Lexeme} → BeginsUnary ts op us
    → Reading (Within 0) us a rest → Reading (Within 0) ts (Unary op a) rest
unary_reading {op = op} {a = a} {ts = ts} {us = us} {rest = rest} b r = record {
  spells = unary b r.spells;
  only = go;
  shorter = omega (arith, begins_shorter b.begins, r.shorter);
}
  where
    go : (f : Expr) (more : List Lexeme) → Spells (Within 0) f ts more → Stops (Within 0) more
        → (f ≡ Unary op a) × (more ≡ rest)
    go f more (primary d) s = absurd (primary_begins_no_unary b d)
    go f more (unary {a = x} b2 d) s =
        let same = unary_same b2 b in
        let h = r.only x more (subst (λ y. Spells (Within 0) x y more) same.1 d) s in
        (let operators = same.0 in let operands = h.0 in cc, h.1)

pub primary_reading : {e : Expr} {ts rest : List Lexeme}
    → ((op : UnaryOperator) (us : List Lexeme) → BeginsUnary ts op us → ⊥) → Reading Primary ts e rest
    → Reading (Within 0) ts e rest
primary_reading {e = e} {ts = ts} {rest = rest} n r = record {
  spells = primary r.spells;
  only = go;
  shorter = r.shorter;
}
  where
    go : (f : Expr) (more : List Lexeme) → Spells (Within 0) f ts more → Stops (Within 0) more → (f ≡ e) × (more ≡ rest)
    go f more (primary d) s = r.only f more d tt
    go f more (unary b d) s = absurd (n _ _ b)

-- OPERATORS BETWEEN OPERANDS
pub looser_lower : (n : ℕ) (o : Option BinaryOperator) → IsLooser (suc n) o → IsLooser n o
looser_lower n None s = tt
looser_lower n (Some op) s = omega arith

pub lower_stops_at : (n : ℕ) (t : Terminal) → StopsAt (Within (suc n)) t → StopsAt (Within n) t
lower_stops_at n (Sign m) s = looser_lower n (binary_of m) s
lower_stops_at n (Numeral v) s = tt
lower_stops_at n (Worded w) s = tt
lower_stops_at n Other s = tt

pub lower_stops : (n : ℕ) (ts : List Lexeme) → Stops (Within (suc n)) ts → Stops (Within n) ts
lower_stops n [] s = tt
lower_stops n (x ∷ xs) s = lower_stops_at n (terminal_of x.token) s

-- an operator of the next level stops an expression, and one of this level doesn't
pub operator_stops : {n : ℕ} {op : BinaryOperator} {ts us : List Lexeme} → BeginsBinary (suc n) ts op us
    → Stops (Within n) ts
operator_stops {n = n} {op = op} b =
    let binds = b.binds in
    let looser : n < level_of op = omega arith in
    within_stops_at n b.begins (subst (IsLooser n) (sym b.spells) looser)

pub operator_goes_on : {n : ℕ} {op : BinaryOperator} {ts us : List Lexeme} → BeginsBinary (suc n) ts op us
    → Stops (Within (suc n)) ts → ⊥
operator_goes_on {n = n} {op = op} b s =
    let binds = b.binds in
    let looser : suc n < level_of op = subst (IsLooser (suc n)) b.spells (within_stopped_at (suc n) b.begins s) in
    omega arith

-- what more of a level may follow: from the expression so far to the whole one
pub data Tail (n : ℕ) : Expr → List Lexeme → Expr → List Lexeme → Type 0 where
  done : {a : Expr} {ts : List Lexeme} → Tail n a ts a ts
  longer : {op : BinaryOperator} {a b e : Expr} {ts us vs rest : List Lexeme} → BeginsBinary (suc n) ts op us
      → Spells (Within n) b us vs → Tail n (Binary op a b) vs e rest → Tail n a ts e rest

-- one more at the end
pub tail_end_more : {n : ℕ} {op : BinaryOperator} {a b c : Expr} {ts us vs rest : List Lexeme} → Tail n a ts b us
    → BeginsBinary (suc n) us op vs → Spells (Within n) c vs rest → Tail n a ts (Binary op b c) rest
tail_end_more done o s = longer o s done
tail_end_more (longer o2 s2 t) o s = longer o2 s2 (tail_end_more t o s)

-- an expression of a level is its first operand and a tail
pub level_tail : {n : ℕ} {e : Expr} {ts rest : List Lexeme} → Spells (Within (suc n)) e ts rest
    → (a : Expr) × (us : List Lexeme) × Spells (Within n) a ts us × Tail n a us e rest
level_tail (operand {expression = e} {rest = rest} d) = (e, rest, d, done)
level_tail (binary d o s) = let h = level_tail d in (h.0, h.1, h.2, tail_end_more h.3 o s)

pub tail_stops : {n : ℕ} {a f : Expr} {us rest : List Lexeme} → Tail n a us f rest → Stops (Within (suc n)) rest
    → Stops (Within n) us
tail_stops {n = n} {us = us} done s = lower_stops n us s
tail_stops (longer o d t) s = operator_stops o

pub tail_ended : {n : ℕ} {a f : Expr} {us rest : List Lexeme} → Tail n a us f rest
    → ((op : BinaryOperator) (vs : List Lexeme) → BeginsBinary (suc n) us op vs → ⊥) → (f ≡ a) × (rest ≡ us)
tail_ended done n = (refl, refl)
tail_ended (longer o d t) n = absurd (n _ _ o)

-- the operands and operators so far, and how any expression here goes on from them
pub record SoFar (n : ℕ) (ts : List Lexeme) (a : Expr) (rest : List Lexeme) : Type 0 where
  pub spells : Spells (Within (suc n)) a ts rest
  pub only : (f : Expr) (end : List Lexeme) → Spells (Within (suc n)) f ts end → Stops (Within (suc n)) end
      → Tail n a rest f end
  pub shorter : length rest < length ts

pub level_start : {n : ℕ} {ts rest : List Lexeme} {a : Expr} → Reading (Within n) ts a rest → SoFar n ts a rest
level_start {n = n} {ts = ts} {rest = rest} {a = a} r = record {
  spells = operand r.spells;
  only = go;
  shorter = r.shorter;
}
  where
    go : (f : Expr) (end : List Lexeme) → Spells (Within (suc n)) f ts end → Stops (Within (suc n)) end
        → Tail n a rest f end
    go f end d s =
        let h = level_tail d in
        let same = r.only h.0 h.1 h.2 (tail_stops h.3 s) in
        subst (λ x. Tail n x rest f end) same.0 (subst (λ us. Tail n h.0 us f end) same.1 h.3)

pub level_end : {n : ℕ} {ts rest : List Lexeme} {a : Expr} → SoFar n ts a rest
    → ((op : BinaryOperator) (us : List Lexeme) → BeginsBinary (suc n) rest op us → ⊥)
    → Reading (Within (suc n)) ts a rest
level_end h n = record { spells = h.spells; only = λ f end d s. tail_ended (h.only f end d s) n; shorter = h.shorter }

-- one operator and operand further along a tail
tail_step : {n : ℕ} {op : BinaryOperator} {a b f : Expr} {us vs rest end : List Lexeme}
    → BeginsBinary (suc n) rest op us → Reading (Within n) us b vs → Stops (Within (suc n)) end → Tail n a rest f end
    → Tail n (Binary op a b) vs f end
tail_step o r s done = absurd (operator_goes_on o s)
tail_step {n = n} {op = op} {a = a} {b = b} {f = f} {vs = vs} {end = end} o r s
    (longer {op = p} {b = c} {vs = ws} o2 d t) =
    let same = binary_same o2 o in
    let h = r.only c ws (subst (λ x. Spells (Within n) c x ws) same.1 d) (tail_stops t s) in
    subst (λ q. Tail n (Binary q a b) vs f end) same.0
    (subst (λ x. Tail n (Binary p a x) vs f end) h.0
    (subst (λ x. Tail n (Binary p a c) x f end) h.1 t))

pub level_step : {n : ℕ} {op : BinaryOperator} {ts us vs rest : List Lexeme} {a b : Expr} → SoFar n ts a rest
    → BeginsBinary (suc n) rest op us → Reading (Within n) us b vs → SoFar n ts (Binary op a b) vs
level_step h o r = record {
  spells = binary h.spells o r.spells;
  only = λ f end d s. tail_step o r s (h.only f end d s);
  shorter = omega (arith, h.shorter, begins_shorter o.begins, r.shorter);
}

-- WHOLE
no_operator_looser : (n : ℕ) (o : Option BinaryOperator) → IsNoOperator o → IsLooser n o
no_operator_looser n None s = tt
no_operator_looser n (Some op) s = absurd s

whole_stops_at : (n : ℕ) (t : Terminal) → StopsAt Whole t → StopsAt (Within n) t
whole_stops_at n (Numeral v) s = tt
whole_stops_at n (Worded w) s = tt
whole_stops_at n Other s = tt
whole_stops_at n (Sign Question) s = absurd s
whole_stops_at n (Sign m) s = no_operator_looser n (binary_of m) s

pub whole_stops : (n : ℕ) (ts : List Lexeme) → Stops Whole ts → Stops (Within n) ts
whole_stops n [] s = tt
whole_stops n (x ∷ xs) s = whole_stops_at n (terminal_of x.token) s

pub operators_reading : {e : Expr} {ts rest : List Lexeme} → Reading (Within 9) ts e rest → Lacks rest (Sign Question)
    → Reading Whole ts e rest
operators_reading {e = e} {ts = ts} {rest = rest} r n = record {
  spells = operators r.spells;
  only = go;
  shorter = r.shorter;
}
  where
    go : (f : Expr) (more : List Lexeme) → Spells Whole f ts more → Stops Whole more → (f ≡ e) × (more ≡ rest)
    go f more (operators d) s = r.only f more d (whole_stops 9 more s)
    go f more (choice {test = x} {us = us} {vs = vs} d q d2 c d3) s =
        let h = r.only x us d (within_stops_at 9 q tt) in
        absurd (n vs (subst (λ y. Begins y (Sign Question) vs) h.1 q))

-- tokens that begin with `?` go on an expression
pub question_goes_on : {ts us : List Lexeme} → Begins ts (Sign Question) us → Stops Whole ts → ⊥
question_goes_on b s = whole_stopped_before b s

pub choice_reading : {c a b : Expr} {ts us vs ws xs rest : List Lexeme} → Reading (Within 9) ts c us
    → Begins us (Sign Question) vs → Reading Whole vs a ws → Begins ws (Sign Colon) xs → Reading Whole xs b rest
    → Reading Whole ts (Choice c a b) rest
choice_reading {c = c} {a = a} {b = b} {ts = ts} {us = us} {vs = vs} {ws = ws} {xs = xs} {rest = rest} r1 q r2 k r3 =
    record {
      spells = choice r1.spells q r2.spells k r3.spells;
      only = go;
      shorter = omega (arith, r1.shorter, begins_shorter q, r2.shorter, begins_shorter k, r3.shorter);
    }
  where
    go : (f : Expr) (more : List Lexeme) → Spells Whole f ts more → Stops Whole more
        → (f ≡ Choice c a b) × (more ≡ rest)
    go f more (operators d) s =
        let h = r1.only f more d (whole_stops 9 more s) in
        absurd (question_goes_on q (subst (Stops Whole) h.1 s))
    go f more (choice {test = x} {a = y} {b = z} {us = us2} {vs = vs2} {ws = ws2} {xs = xs2} d q2 d2 k2 d3) s =
        let h1 = r1.only x us2 d (within_stops_at 9 q2 tt) in
        let vs-is = (begins_same (subst (λ l. Begins l (Sign Question) vs2) h1.1 q2) q).1 in
        let h2 = closed_only tt r2 k (subst (λ l. Spells Whole y l ws2) vs-is d2) k2 in
        let h3 = r3.only z more (subst (λ l. Spells Whole z l more) h2.1 d3) s in
        (let k1 = h1.0 in let k2 = h2.0 in let k3 = h3.0 in cc, h3.1)
