-- What follows the `}` of an output section: parts that may stand there or not.
use Rattle.ldscript.proofs.Common.{Assign, EndsSection, Expression, Greater, Lexeme, List, Mark, Maybe, Name, None}
use Rattle.ldscript.proofs.Common.{NoneAt, NoneUntil, Option, Punctuation, Rule, SectionTail, Some, TakesTail, ap}
use Rattle.ldscript.proofs.Common.{arith, codes, key, length, mark, refl, subst, sym, tail_part, ℕ, ◌∙◌, ◌≡◌, ◌≤◌, ◌▸◌}
use Rattle.ldscript_tokens.specs.Tokens.{Number}
use Rattle.ldscript.specs.Steps.{name, optional}
use Rattle.ldscript_statements.specs.Fill.{fill_of}
use Rattle.ldscript.specs.Grammar.{fill, in_region, at_region, filled}
use Rattle.ldscript.proofs.Singles.{Single, tokens_same, mark_fixed, key_fixed, skip_single, name_single, marks_differ}

pub in_region_single : Single in_region
in_region_single = skip_single (mark Greater) name (mark_fixed Greater) (name_single Expression)

pub at_region_single : Single at_region
at_region_single = skip_single (key Expression (codes "AT")) (λ r. mark Greater ▸ name r)
    (key_fixed Expression (codes "AT")) in_region_single

same_options : (a b : List ℕ) → Some a ≡ Some b → a ≡ b
same_options a b e = cc

same_numbers : (v w : List ℕ) → Number v ≡ Number w → v ≡ w
same_numbers v w e = cc

fill_single : Single fill
fill_single ts r s a b x y =
    let e = tokens_same (Number x.0) (Number y.0) ts r s x.2 y.2 in
    (same_options a b (sym x.1 ∙ ap fill_of (same_numbers x.0 y.0 e.0) ∙ y.1), e.1)

pub filled_single : Single filled
filled_single = skip_single (mark Assign) fill (mark_fixed Assign) fill_single

-- an optional part that was read, and what follows it: nothing else stands here
abbrev pub OnlyUntil : {B : Type 0} → (B → Rule) → List Lexeme → B → List Lexeme → Type 0
OnlyUntil {B} q us b rest = (c : B) (more : List Lexeme) → q c us more → EndsSection more → (c ≡ b) × (more ≡ rest)

-- where what follows stands at once, the optional part can't begin
abbrev pub NotSkipped : {B : Type 0} → Rule → (B → Rule) → Type 0
NotSkipped {B} f q = (c : B) (ts more us : List Lexeme) → q c ts more → EndsSection more → f ts us → ⊥

module _ {A B : Type 0} (f : Rule) (p : A → Rule) (q : B → Rule) where
  pub optional_only : ((x : A) (ts r : List Lexeme) → p x ts r → (us : List Lexeme) × f ts us) → Single p
      → NotSkipped f q
      → (ts us rest : List Lexeme) (a : Option A) (b : B) → Maybe f p ts a us → OnlyUntil q us b rest
      → (x : Option A) (y : B) (more : List Lexeme) → (optional p x ▸ q y) ts more → EndsSection more
      → (x ≡ a) × (y ≡ b) × (more ≡ rest)
  optional_only first single skip ts us rest None b m only None y more d e =
      let h = only y more (subst (λ l. q y l more) (sym d.1 ∙ m.0) d.2) e in
      (refl, h.0, h.1)
  optional_only first single skip ts us rest None b m only (Some x) y more d e = let h = first x ts d.0 d.1 in
      absurd (m.1 h.0 h.1)
  optional_only first single skip ts us rest (Some a) b m only None y more d e =
      let h = first a ts us m.0 in
      absurd (skip y ts more h.0 (subst (λ l. q y l more) (sym d.1) d.2) e h.1)
  optional_only first single skip ts us rest (Some a) b m only (Some x) y more d e =
      let s = single ts d.0 us x a d.1 m.0 in
      let h = only y more (subst (λ l. q y l more) s.1 d.2) e in
      (ap Some s.0, h.0, h.1)

  -- what follows the part that was read can't be read
  pub optional_none : ((x : A) (ts r : List Lexeme) → p x ts r → (us : List Lexeme) × f ts us) → Single p
      → NotSkipped f q
      → (ts us : List Lexeme) (a : Option A) → Maybe f p ts a us
      → ((y : B) (more : List Lexeme) → q y us more → EndsSection more → ⊥)
      → (x : Option A) (y : B) (more : List Lexeme) → (optional p x ▸ q y) ts more → EndsSection more → ⊥
  optional_none first single skip ts us None m none None y more d e =
      none y more (subst (λ l. q y l more) (sym d.1 ∙ m.0) d.2) e
  optional_none first single skip ts us None m none (Some x) y more d e = let h = first x ts d.0 d.1 in m.1 h.0 h.1
  optional_none first single skip ts us (Some a) m none None y more d e =
      let h = first a ts us m.0 in
      skip y ts more h.0 (subst (λ l. q y l more) (sym d.1) d.2) e h.1
  optional_none first single skip ts us (Some a) m none (Some x) y more d e =
      none y more (subst (λ l. q y l more) (single ts d.0 us x a d.1 m.0).1 d.2) e

  -- the part itself begins and does not go on
  pub optional_stuck : NotSkipped f q → (ts us : List Lexeme) → f ts us → NoneAt p ts
      → (x : Option A) (y : B) (more : List Lexeme) → (optional p x ▸ q y) ts more → EndsSection more → ⊥
  optional_stuck skip ts us h n None y more d e = skip y ts more us (subst (λ l. q y l more) (sym d.1) d.2) e h
  optional_stuck skip ts us h n (Some x) y more d e = n x d.0 d.1

pub key_no_mark : (w : List ℕ) (m : Mark) (ts r s : List Lexeme) → key Expression w ts r → mark m ts s → ⊥
key_no_mark w m ts r s x y = let e = (tokens_same (Name w) (Punctuation m) ts r s x y).0 in cc

region_first : (x : List ℕ) (ts r : List Lexeme) → in_region x ts r → (us : List Lexeme) × mark Greater ts us
region_first x ts r d = (d.0, d.1)

load_first : (x : List ℕ) (ts r : List Lexeme) → at_region x ts r
    → (us : List Lexeme) × key Expression (codes "AT") ts us
load_first x ts r d = (d.0, d.1)

fill_first : (x : List ℕ) (ts r : List Lexeme) → filled x ts r → (us : List Lexeme) × mark Assign ts us
fill_first x ts r d = (d.0, d.1)

-- the fill, which is the last
abbrev FillPart : Option (List ℕ) → Rule
FillPart o = optional filled o

load_not_skipped : NotSkipped (key Expression (codes "AT")) FillPart
load_not_skipped None ts more us d e k = e.no_load us (subst (λ l. key Expression (codes "AT") l us) d k)
load_not_skipped (Some x) ts more us d e k = key_no_mark (codes "AT") Assign ts us d.0 k d.1

abbrev LoadPart : (Option (List ℕ) × Option (List ℕ)) → Rule
LoadPart o = optional at_region o.0 ▸ optional filled o.1

region_not_skipped : NotSkipped (mark Greater) LoadPart
region_not_skipped (None, None) ts more us d e k = e.no_region us (subst (λ l. mark Greater l us) (d.1 ∙ d.2) k)
region_not_skipped (None, Some x) ts more us d e k =
    marks_differ Greater Assign d.0 us d.2.0 (λ q. cc) (subst (λ l. mark Greater l us) d.1 k) d.2.1
region_not_skipped (Some r, y) ts more us d e k = key_no_mark (codes "AT") Greater ts d.1.0 us d.1.1 k

fill_only : (ts rest : List Lexeme) (a : Option (List ℕ)) → Maybe (mark Assign) filled ts a rest
    → OnlyUntil FillPart ts a rest
fill_only ts rest None m None more d e = (refl, sym d ∙ m.0)
fill_only ts rest None m (Some x) more d e = absurd (m.1 d.0 d.1)
fill_only ts rest (Some a) m None more d e =
    let h = fill_first a ts rest m.0 in
    absurd (e.no_fill h.0 (subst (λ l. mark Assign l h.0) d h.1))
fill_only ts rest (Some a) m (Some x) more d e = let s = filled_single ts more rest x a d m.0 in (ap Some s.0, s.1)

fill_stuck : (ts us : List Lexeme) → mark Assign ts us → NoneAt filled ts → (x : Option (List ℕ)) (more : List Lexeme)
    → FillPart x ts more → EndsSection more → ⊥
fill_stuck ts us h n None more d e = e.no_fill us (subst (λ l. mark Assign l us) d h)
fill_stuck ts us h n (Some x) more d e = n x more d

load_only : (ts us rest : List Lexeme) (a b : Option (List ℕ)) → Maybe (key Expression (codes "AT")) at_region ts a us
    → Maybe (mark Assign) filled us b rest → OnlyUntil LoadPart ts (a, b) rest
load_only ts us rest a b m k c more d e =
    let h = optional_only (key Expression (codes "AT")) at_region FillPart load_first at_region_single load_not_skipped
    ts us rest a b m (fill_only us rest b k) c.0 c.1 more d e in
    (ap (λ x. (x, c.1)) h.0 ∙ ap (λ y. (a, y)) h.1, h.2)

pub tails_same : (a b : SectionTail) → a.region ≡ b.region → a.load ≡ b.load → a.fill ≡ b.fill → a ≡ b
tails_same a b e f g =
    let mk : Option (List ℕ) → Option (List ℕ) → Option (List ℕ)
    → SectionTail = λ r l f. record { region = r; load = l; fill = f } in
    ap (λ r. mk r a.load a.fill) e ∙ ap (λ l. mk b.region l a.fill) f ∙ ap (λ x. mk b.region b.load x) g

maybe_spells : {A : Type 0} (f : Rule) (p : A → Rule) (ts : List Lexeme) (a : Option A) (us : List Lexeme)
    → Maybe f p ts a us → optional p a ts us
maybe_spells f p ts None us m = m.0
maybe_spells f p ts (Some a) us m = m.0

maybe_within : {A : Type 0} (f : Rule) (p : A → Rule) (ts : List Lexeme) (a : Option A) (us : List Lexeme)
    → Maybe f p ts a us → length us ≤ length ts
maybe_within f p ts None us m = let e = ap length m.0 in omega arith
maybe_within f p ts (Some a) us m = omega (arith, m.1)

pub takes_tail : (ts us vs rest : List Lexeme) (t : SectionTail) → Maybe (mark Greater) in_region ts t.region us
    → Maybe (key Expression (codes "AT")) at_region us t.load vs
    → Maybe (mark Assign) filled vs t.fill rest → TakesTail ts t rest
takes_tail ts us vs rest t r l f = record {
  spells = (
    us,
    maybe_spells (mark Greater) in_region ts t.region us r,
    (
      vs,
      maybe_spells (key Expression (codes "AT")) at_region us t.load vs l,
      maybe_spells (mark Assign) filled vs t.fill rest f,
    ),
  );
  only = λ u more d e.
      let h = optional_only (mark Greater) in_region LoadPart region_first in_region_single region_not_skipped ts us
      rest t.region (t.load, t.fill) r (load_only us vs rest t.load t.fill l f) u.region
      (u.load, u.fill) more d e in
      (tails_same u t h.0 (ap (λ o. o.0) h.1) (ap (λ o. o.1) h.1), h.2);
  within = omega (
    arith,
    maybe_within (mark Greater) in_region ts t.region us r,
    maybe_within (key Expression (codes "AT")) at_region us t.load vs l,
    maybe_within (mark Assign) filled vs t.fill rest f,
  );
}

abbrev pub NoTail : List Lexeme → Type 0
NoTail ts = NoneUntil EndsSection tail_part ts

pub tail_region_stuck : (ts us : List Lexeme) → mark Greater ts us → NoneAt in_region ts → NoTail ts
tail_region_stuck ts us h n u more d e =
    optional_stuck (mark Greater) in_region LoadPart region_not_skipped ts us h n u.region (u.load, u.fill) more d e

pub tail_load_stuck : (ts us vs : List Lexeme) (r : Option (List ℕ)) → Maybe (mark Greater) in_region ts r us
    → key Expression (codes "AT") us vs → NoneAt at_region us → NoTail ts
tail_load_stuck ts us vs r m h n u more d e =
    optional_none (mark Greater) in_region LoadPart region_first in_region_single region_not_skipped ts us r m
    (λ y more d e. optional_stuck (key Expression (codes "AT")) at_region FillPart load_not_skipped us vs h n y.0 y.1
    more d e) u.region (u.load, u.fill) more d e

pub tail_fill_stuck : (ts us vs ws : List Lexeme) (r l : Option (List ℕ)) → Maybe (mark Greater) in_region ts r us
    → Maybe (key Expression (codes "AT")) at_region us l vs → mark Assign vs ws → NoneAt filled vs → NoTail ts
tail_fill_stuck ts us vs ws r l m k h n u more d e =
    optional_none (mark Greater) in_region LoadPart region_first in_region_single region_not_skipped ts us r m
    (λ y more d e. optional_none (key Expression (codes "AT")) at_region FillPart load_first at_region_single
    load_not_skipped us vs l k (fill_stuck vs ws h n) y.0 y.1 more d e) u.region (u.load, u.fill) more d e

module _ {A B : Type 0} (f : Rule) (p : A → Rule) (q : B → Rule) where
  optional_single : ((x : A) (ts r : List Lexeme) → p x ts r → (us : List Lexeme) × f ts us) → Single p → NotSkipped f q
      → ((ts r s : List Lexeme) (a b : B) → q a ts r → q b ts s → EndsSection r → EndsSection s → (a ≡ b) × (r ≡ s))
      → (ts r s : List Lexeme) (a b : Option A) (c d : B) → (optional p a ▸ q c) ts r → (optional p b ▸ q d) ts s
      → EndsSection r → EndsSection s → (a ≡ b) × (c ≡ d) × (r ≡ s)
  optional_single first single skip rest ts r s None None c d x y hr hs =
      let h = rest y.0 r s c d (subst (λ l. q c l r) (sym x.1 ∙ y.1) x.2) y.2 hr hs in
      (refl, h.0, h.1)
  optional_single first single skip rest ts r s None (Some b) c d x y hr hs =
      let h = first b ts y.0 y.1 in
      absurd (skip c ts r h.0 (subst (λ l. q c l r) (sym x.1) x.2) hr h.1)
  optional_single first single skip rest ts r s (Some a) None c d x y hr hs =
      let h = first a ts x.0 x.1 in
      absurd (skip d ts s h.0 (subst (λ l. q d l s) (sym y.1) y.2) hs h.1)
  optional_single first single skip rest ts r s (Some a) (Some b) c d x y hr hs =
      let e = single ts x.0 y.0 a b x.1 y.1 in
      let h = rest y.0 r s c d (subst (λ l. q c l r) e.1 x.2) y.2 hr hs in
      (ap Some e.0, h.0, h.1)

fill_until : (ts r s : List Lexeme) (a b : Option (List ℕ)) → FillPart a ts r → FillPart b ts s → EndsSection r
    → EndsSection s → (a ≡ b) × (r ≡ s)
fill_until ts r s None None x y hr hs = (refl, sym x ∙ y)
fill_until ts r s None (Some b) x y hr hs = absurd (hr.no_fill y.0 (subst (λ l. mark Assign l y.0) x y.1))
fill_until ts r s (Some a) None x y hr hs = absurd (hs.no_fill x.0 (subst (λ l. mark Assign l x.0) y x.1))
fill_until ts r s (Some a) (Some b) x y hr hs = let e = filled_single ts r s a b x y in (ap Some e.0, e.1)

load_until : (ts r s : List Lexeme) (a b : Option (List ℕ) × Option (List ℕ)) → LoadPart a ts r → LoadPart b ts s
    → EndsSection r → EndsSection s → (a ≡ b) × (r ≡ s)
load_until ts r s a b x y hr hs =
    let h = optional_single (key Expression (codes "AT")) at_region FillPart load_first at_region_single
    load_not_skipped fill_until ts r s a.0 b.0 a.1 b.1 x y hr hs in
    (ap (λ z. (z, a.1)) h.0 ∙ ap (λ z. (b.0, z)) h.1, h.2)

pub tails_single : (ts r s : List Lexeme) (a b : SectionTail) → tail_part a ts r → tail_part b ts s → EndsSection r
    → EndsSection s → (a ≡ b) × (r ≡ s)
tails_single ts r s a b x y hr hs =
    let h = optional_single (mark Greater) in_region LoadPart region_first in_region_single region_not_skipped
    load_until ts r s a.region b.region (a.load, a.fill) (b.load, b.fill) x y hr hs in
    (tails_same a b h.0 (ap (λ z. z.0) h.1) (ap (λ z. z.1) h.1), h.2)
