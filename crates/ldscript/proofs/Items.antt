-- Output sections and the statements of SECTIONS: no tokens are two of them.
use Rattle.ldscript.proofs.Common.{Assign, BodyStatement, CloseBrace, Colon, Directive, Discard, EndsSection, Err, Expr}
use Rattle.ldscript.proofs.Common.{Expression, Greater, InputStatement, IsOfParts, Lexeme, List, Mark, Name, None}
use Rattle.ldscript.proofs.Common.{NoneAt, NoneUntil, Ok, OpenBrace, Option, Punctuation, Reads, Result, SectionTail}
use Rattle.ldscript.proofs.Common.{Semicolon, Some, Takes, TakesOnly, TakesTail, Whole, ap, arith, body_statement}
use Rattle.ldscript.proofs.Common.{bytes_eq, codes, directive, discard_head, dot_command, ended, expression, false}
use Rattle.ldscript.proofs.Common.{false≢true, first_line, head_part, in_parentheses, inl, input_statement, inr}
use Rattle.ldscript.proofs.Common.{is_free_name, is_reserved, item_statement, key, length, mark, opened_part, refl}
use Rattle.ldscript.proofs.Common.{statements, subst, sym, tail_part, token, true, ℕ, ◌<◌, ◌∙◌, ◌≡◌, ◌⊎◌, ◌▸◌}
use Rattle.ldscript.specs.Steps.{name, optional}
use Rattle.ldscript.specs.Grammar.{stated_address, at_address, load_in_head, load_in_tail, alignment, section}
use Rattle.ldscript.specs.Grammar.{discarded, discard, item_command}
use Rattle.ldscript_statements.specs.declared.directive.Directive.TheVariants as directives
use Rattle.ldscript_statements.specs.declared.directive.DotCommand.{DotCommand}
use Rattle.ldscript.specs.declared.read_section.SectionHead.{SectionHead}
use Rattle.ldscript_statements.specs.declared.section.Load.{Load}
use Rattle.ldscript_statements.specs.declared.section.Load.TheVariants.{Unstated, At, InRegion}
use Rattle.ldscript_statements.specs.declared.section.OutputSection.{OutputSection}
use Rattle.ldscript_statements.specs.declared.statement.ItemCommand.{ItemCommand}
use Rattle.ldscript_statements.specs.declared.statement.ItemCommand.TheVariants as item
use Rattle.ldscript_statements.specs.declared.statement.Item.{Item}
use Rattle.ldscript.proofs.Singles.{Fixed, Single, SingleUntil, tokens_same, words_same, mark_fixed, key_fixed}
use Rattle.ldscript.proofs.Singles.{token_fixed, then_fixed, skip_single, behind, behind_tree, keys_differ, name_no_key}
use Rattle.ldscript.proofs.Singles.{
  name_single,
  ended_single,
  in_parentheses_single,
  directive_single,
  dot_command_single,
}
use Rattle.ldscript.proofs.Singles.{marks_differ}
use Rattle.ldscript.proofs.Starts.{starts}
use Rattle.ldscript.proofs.Tails.{NoTail, key_no_mark, tails_same, tails_single}
use Rattle.ldscript.proofs.Inputs.{closed_inputs_single}
use Rattle.ldscript.proofs.Bodies.{closed_body_single, dot_no_directive, dot_no_name}
use Rattle.ldscript.proofs.Lists.{Listed, closing_single}

no_colon_first : (e : Expr) (ts us r s : List Lexeme) → expression e ts us → mark Colon ts s → ⊥
no_colon_first e ts us r s x y = starts Colon (λ q. cc) refl Whole e ts us s x y

pub address_single : Single stated_address
address_single ts r s None None x y = (refl, mark_fixed Colon ts r s x y)
address_single ts r s None (Some e) x y = absurd (starts Colon (λ q. cc) refl Whole e ts y.0 r y.1 x)
address_single ts r s (Some e) None x y = absurd (starts Colon (λ q. cc) refl Whole e ts x.0 s x.1 y)
address_single ts r s (Some e) (Some f) x y = let h = ended_single Colon tt ts r s e f x y in (ap Some h.0, h.1)

pub address_none : (ts : List Lexeme) → ((us : List Lexeme) → mark Colon ts us → ⊥) → NoneAt (ended Colon) ts
    → NoneAt stated_address ts
address_none ts c n None more d = c more d
address_none ts c n (Some e) more d = n e more d

alignment_single : Single alignment
alignment_single = skip_single (key Expression (codes "ALIGN")) in_parentheses
    (key_fixed Expression (codes "ALIGN")) in_parentheses_single

at_address_single : Single at_address
at_address_single = skip_single (key Expression (codes "AT")) in_parentheses
    (key_fixed Expression (codes "AT")) in_parentheses_single

-- [ALIGN "(" e ")"] "{"
pub opened_single : Single opened_part
opened_single ts r s None None x y =
    (refl, mark_fixed OpenBrace y.0 r s (subst (λ l. mark OpenBrace l r) (sym x.1 ∙ y.1) x.2) y.2)
opened_single ts r s None (Some e) x y =
    absurd (key_no_mark (codes "ALIGN") OpenBrace ts y.1.0 r y.1.1 (subst (λ l. mark OpenBrace l r) (sym x.1) x.2))
opened_single ts r s (Some e) None x y =
    absurd (key_no_mark (codes "ALIGN") OpenBrace ts x.1.0 s x.1.1 (subst (λ l. mark OpenBrace l s) (sym y.1) y.2))
opened_single ts r s (Some e) (Some f) x y =
    let h = behind_tree alignment (mark OpenBrace) alignment_single ts x.0 s e f x.1 y in
    (ap Some (sym h.0), mark_fixed OpenBrace x.0 r s x.2 h.1)

pub opened_none : (ts : List Lexeme) → ((us : List Lexeme) → mark OpenBrace ts us → ⊥)
    → NoneAt (λ e. alignment e ▸ mark OpenBrace) ts → NoneAt opened_part ts
opened_none ts b n None more d = b more (subst (λ l. mark OpenBrace l more) (sym d.1) d.2)
opened_none ts b n (Some e) more d = n e more d

pub no_alignment : (ts : List Lexeme) → ((us : List Lexeme) → key Expression (codes "ALIGN") ts us → ⊥)
    → NoneAt (λ e. alignment e ▸ mark OpenBrace) ts
no_alignment ts n e more d = n d.1.0 d.1.1

pub alignment_stuck : (ts us : List Lexeme) → key Expression (codes "ALIGN") ts us → NoneAt in_parentheses us
    → NoneAt (λ e. alignment e ▸ mark OpenBrace) ts
alignment_stuck ts us h n e more d =
    n e d.0 (behind (key Expression (codes "ALIGN")) (in_parentheses e)
    (key_fixed Expression (codes "ALIGN")) ts us d.0 h d.1)

pub alignment_open : (ts us vs : List Lexeme) (a : Expr) → key Expression (codes "ALIGN") ts us → in_parentheses a us vs
    → ((r : List Lexeme) → mark OpenBrace vs r → ⊥) → NoneAt (λ e. alignment e ▸ mark OpenBrace) ts
alignment_open ts us vs a h k n e more d =
    let s = alignment_single ts d.0 vs e a d.1 (us, h, k) in
    n more (subst (λ l. mark OpenBrace l more) s.1 d.2)

-- where the rest of the head begins with `{` or ALIGN, there is no AT
opened_no_at : (a : Option Expr) (ts r s : List Lexeme) → opened_part a ts r → key Expression (codes "AT") ts s → ⊥
opened_no_at None ts r s x y =
    key_no_mark (codes "AT") OpenBrace ts s r y (subst (λ l. mark OpenBrace l r) (sym x.1) x.2)
opened_no_at (Some e) ts r s x y = keys_differ Expression (codes "ALIGN") (codes "AT") refl refl ts x.1.0 s x.1.1 y

heads_same : (a b : SectionHead) → a.load ≡ b.load → a.alignment ≡ b.alignment → a ≡ b
heads_same a b e f =
    let mk : Option Expr → Option Expr → SectionHead = λ l a. record { load = l; alignment = a } in
    ap (λ l. mk l a.alignment) e ∙ ap (λ x. mk b.load x) f

head_cases : (o p : Option Expr) (a b : Option Expr) (ts r s : List Lexeme)
    → (optional at_address o ▸ opened_part a) ts r → (optional at_address p ▸ opened_part b) ts s
    → (o ≡ p) × (a ≡ b) × (r ≡ s)
head_cases None None a b ts r s x y =
    let h = opened_single y.0 r s a b (subst (λ l. opened_part a l r) (sym x.1 ∙ y.1) x.2) y.2 in (refl, h.0, h.1)
head_cases None (Some e) a b ts r s x y =
    absurd (opened_no_at a ts r y.1.0 (subst (λ l. opened_part a l r) (sym x.1) x.2) y.1.1)
head_cases (Some e) None a b ts r s x y =
    absurd (opened_no_at b ts s x.1.0 (subst (λ l. opened_part b l s) (sym y.1) y.2) x.1.1)
head_cases (Some e) (Some f) a b ts r s x y =
    let h = behind_tree at_address (opened_part b) at_address_single ts x.0 s e f x.1 y in
    let k = opened_single x.0 r s a b x.2 h.1 in
    (ap Some (sym h.0), k.0, k.1)

pub head_single : Single head_part
head_single ts r s a b x y = let h = head_cases a.load b.load a.alignment b.alignment ts r s x y in
    (heads_same a b h.0 h.1, h.2)

pub head_no_at : (ts : List Lexeme) → ((us : List Lexeme) → key Expression (codes "AT") ts us → ⊥)
    → NoneAt opened_part ts → NoneAt head_part ts
head_no_at ts n m h more d = cases h.load d where
  cases : (o : Option Expr) → (optional at_address o ▸ opened_part h.alignment) ts more → ⊥
  cases None e = m h.alignment more (subst (λ l. opened_part h.alignment l more) (sym e.1) e.2)
  cases (Some a) e = n e.1.0 e.1.1

pub head_at_stuck : (ts us : List Lexeme) → key Expression (codes "AT") ts us
    → ((e : Expr) (vs r : List Lexeme) (a : Option Expr) → in_parentheses e us vs → opened_part a vs r → ⊥)
    → NoneAt head_part ts
head_at_stuck ts us k n h more d = cases h.load d where
  cases : (o : Option Expr) → (optional at_address o ▸ opened_part h.alignment) ts more → ⊥
  cases None e = opened_no_at h.alignment ts more us (subst (λ l. opened_part h.alignment l more) (sym e.1) e.2) k
  cases (Some a) e = n a e.0 more h.alignment
      (behind (key Expression (codes "AT")) (in_parentheses a) (key_fixed Expression (codes "AT")) ts us e.0 k e.1) e.2

pub head_opened_none : (us vs : List Lexeme) (a : Expr) → in_parentheses a us vs → NoneAt opened_part vs
    → (e : Expr) (ws r : List Lexeme) (o : Option Expr) → in_parentheses e us ws → opened_part o ws r → ⊥
head_opened_none us vs a h n e ws r o x y =
    n o r (subst (λ l. opened_part o l r) (in_parentheses_single us ws vs e a x h).1 y)

-- a section part by part
abbrev pub head_of : OutputSection → SectionHead
head_of s = record { load = load_in_head s.load; alignment = s.alignment }

abbrev pub tail_of : OutputSection → SectionTail
tail_of s = record { region = s.region; load = load_in_tail s.load; fill = s.fill }

pub record SectionParts (s : OutputSection) (ts more : List Lexeme) : Type 0 where
  pub behind_name : List Lexeme
  pub behind_address : List Lexeme
  pub behind_head : List Lexeme
  pub behind_body : List Lexeme
  pub named : name s.name ts behind_name
  pub addressed : stated_address s.address behind_name behind_address
  pub headed : head_part (head_of s) behind_address behind_head
  pub bodied : (statements body_statement s.body ▸ mark CloseBrace) behind_head behind_body
  pub tailed : tail_part (tail_of s) behind_body more

pub section_parts : (s : OutputSection) (ts more : List Lexeme) → section s ts more → SectionParts s ts more
section_parts s ts more d = record {
  behind_name = d.1.0;
  behind_address = d.1.2.0;
  behind_head = d.0;
  behind_body = d.2.2.0;
  named = d.1.1;
  addressed = d.1.2.1;
  headed = d.1.2.2;
  bodied = (d.2.0, d.2.1, d.2.2.1);
  tailed = d.2.2.2;
}

pub parts_section : (s : OutputSection) (ts more : List Lexeme) → SectionParts s ts more → section s ts more
parts_section s ts more p = (
  p.behind_head,
  (p.behind_name, p.named, (p.behind_address, p.addressed, p.headed)),
  (p.bodied.0, p.bodied.1, (p.behind_body, p.bodied.2, p.tailed)),
)

load_same : (a b : Load) → load_in_head a ≡ load_in_head b → load_in_tail a ≡ load_in_tail b → a ≡ b
load_same Unstated Unstated e f = refl
load_same (At x) (At y) e f = ap At (let h : x ≡ y = cc in h)
load_same (InRegion x) (InRegion y) e f = ap InRegion (let h : x ≡ y = cc in h)
load_same Unstated (At y) e f = absurd (cc)
load_same Unstated (InRegion y) e f = absurd (cc)
load_same (At x) Unstated e f = absurd (cc)
load_same (At x) (InRegion y) e f = absurd (cc)
load_same (InRegion x) Unstated e f = absurd (cc)
load_same (InRegion x) (At y) e f = absurd (cc)

sections_same : (a b : OutputSection) → a.name ≡ b.name → a.address ≡ b.address → head_of a ≡ head_of b
    → a.body ≡ b.body → tail_of a ≡ tail_of b → a ≡ b
sections_same a b n d h s t =
    let mk : List ℕ → Option Expr → Load → Option Expr → List BodyStatement → Option (List ℕ) → Option (List ℕ)
    → OutputSection =
    λ n d l g s r f. record { name = n; address = d; load = l; alignment = g; body = s; region = r; fill = f } in
    let l = load_same a.load b.load (ap (λ (x : SectionHead). x.load) h) (ap (λ (x : SectionTail). x.load) t) in
    ap (λ x. mk x a.address a.load a.alignment a.body a.region a.fill) n
    ∙ ap (λ x. mk b.name x a.load a.alignment a.body a.region a.fill) d
    ∙ ap (λ x. mk b.name b.address x a.alignment a.body a.region a.fill) l
    ∙ ap (λ x. mk b.name b.address b.load x a.body a.region a.fill) (ap (λ (x : SectionHead). x.alignment) h)
    ∙ ap (λ x. mk b.name b.address b.load b.alignment x a.region a.fill) s
    ∙ ap (λ x. mk b.name b.address b.load b.alignment b.body x a.fill) (ap (λ (x : SectionTail). x.region) t)
    ∙ ap (λ x. mk b.name b.address b.load b.alignment b.body b.region x) (ap (λ (x : SectionTail). x.fill) t)

-- a section of the same tokens: as far as its parts are read
pub section_only : (a b : OutputSection) (ts r more : List Lexeme) (p : SectionParts a ts r)
    → ((u : SectionTail) (m : List Lexeme) → tail_part u p.behind_body m → EndsSection m → (u ≡ tail_of a) × (m ≡ r))
    → section b ts more → EndsSection more → (b ≡ a) × (more ≡ r)
section_only a b ts r more p only d e =
    let q = section_parts b ts more d in
    let n = name_single Expression ts q.behind_name p.behind_name b.name a.name q.named p.named in
    let x = address_single p.behind_name q.behind_address p.behind_address b.address a.address
    (subst (λ l. stated_address b.address l q.behind_address) n.1 q.addressed) p.addressed in
    let h = head_single p.behind_address q.behind_head p.behind_head (head_of b) (head_of a)
    (subst (λ l. head_part (head_of b) l q.behind_head) x.1 q.headed) p.headed in
    let s = closed_body_single p.behind_head q.behind_body p.behind_body b.body a.body
    (subst (λ l. (statements body_statement b.body ▸ mark CloseBrace) l q.behind_body) h.1 q.bodied) p.bodied in
    let t = only (tail_of b) more (subst (λ l. tail_part (tail_of b) l more) s.1 q.tailed) e in
    (sections_same b a n.0 x.0 h.0 s.0 t.0, t.1)

-- what stands behind the parts of a section that were read, in any section of the same tokens
module _ (ts b1 : List Lexeme) (n : List ℕ) (named : name n ts b1) (y : OutputSection) (more : List Lexeme)
    (d : section y ts more) where
  address_at : stated_address y.address b1 (section_parts y ts more d).behind_address
  address_at =
      let q = section_parts y ts more d in
      subst (λ l. stated_address y.address l q.behind_address)
      (name_single Expression ts q.behind_name b1 y.name n q.named named).1 q.addressed

  head_at : (b2 : List Lexeme) (a : Option Expr) → stated_address a b1 b2
      → head_part (head_of y) b2 (section_parts y ts more d).behind_head
  head_at b2 a addressed =
      let q = section_parts y ts more d in
      subst (λ l. head_part (head_of y) l q.behind_head)
      (address_single b1 q.behind_address b2 y.address a address_at addressed).1 q.headed

  body_at : (b2 b3 : List Lexeme) (a : Option Expr) (h : SectionHead) → stated_address a b1 b2 → head_part h b2 b3
      → (statements body_statement y.body ▸ mark CloseBrace) b3 (section_parts y ts more d).behind_body
  body_at b2 b3 a h addressed headed =
      let q = section_parts y ts more d in
      subst (λ l. (statements body_statement y.body ▸ mark CloseBrace) l q.behind_body)
      (head_single b2 q.behind_head b3 (head_of y) h (head_at b2 a addressed) headed).1 q.bodied

  tail_at : (b2 b3 b4 : List Lexeme) (a : Option Expr) (h : SectionHead) (s : List BodyStatement)
      → stated_address a b1 b2
      → head_part h b2 b3 → (statements body_statement s ▸ mark CloseBrace) b3 b4 → tail_part (tail_of y) b4 more
  tail_at b2 b3 b4 a h s addressed headed bodied =
      let q = section_parts y ts more d in
      subst (λ l. tail_part (tail_of y) l more)
      (closed_body_single b3 q.behind_body b4 y.body s (body_at b2 b3 a h addressed headed) bodied).1 q.tailed

pub section_name_none : (ts : List Lexeme) → NoneAt name ts → NoneUntil EndsSection section ts
section_name_none ts n y more d e = n y.name d.1.0 d.1.1

pub section_address_none : (ts b1 : List Lexeme) (n : List ℕ) → name n ts b1 → NoneAt stated_address b1
    → NoneUntil EndsSection section ts
section_address_none ts b1 n named none y more d e =
    none y.address (section_parts y ts more d).behind_address (address_at ts b1 n named y more d)

pub section_head_none : (ts b1 b2 : List Lexeme) (n : List ℕ) (a : Option Expr) → name n ts b1 → stated_address a b1 b2
    → NoneAt head_part b2 → NoneUntil EndsSection section ts
section_head_none ts b1 b2 n a named addressed none y more d e =
    none (head_of y) (section_parts y ts more d).behind_head (head_at ts b1 n named y more d b2 a addressed)

pub section_body_none : (ts b1 b2 b3 : List Lexeme) (n : List ℕ) (a : Option Expr) (h : SectionHead) → name n ts b1
    → stated_address a b1 b2 → head_part h b2 b3
    → NoneAt (λ ss. statements body_statement ss ▸ mark CloseBrace) b3 → NoneUntil EndsSection section ts
section_body_none ts b1 b2 b3 n a h named addressed headed none y more d e =
    none y.body (section_parts y ts more d).behind_body (body_at ts b1 n named y more d b2 b3 a h addressed headed)

pub section_tail_none : (ts b1 b2 b3 b4 : List Lexeme) (n : List ℕ) (a : Option Expr) (h : SectionHead)
    (s : List BodyStatement) → name n ts b1 → stated_address a b1 b2 → head_part h b2 b3
    → (statements body_statement s ▸ mark CloseBrace) b3 b4 → NoTail b4 → NoneUntil EndsSection section ts
section_tail_none ts b1 b2 b3 b4 n a h s named addressed headed bodied none y more d e =
    none (tail_of y) more (tail_at ts b1 n named y more d b2 b3 b4 a h s addressed headed bodied) e

-- a load address in the head and another in the tail
pub section_load_none : (ts b1 b2 b3 b4 rest : List Lexeme) (n : List ℕ) (a : Option Expr) (h : SectionHead)
    (s : List BodyStatement) (t : SectionTail) → name n ts b1 → stated_address a b1 b2 → head_part h b2 b3
    → (statements body_statement s ▸ mark CloseBrace) b3 b4 → TakesTail b4 t rest
    → ((l : Load) → load_in_head l ≡ h.load → load_in_tail l ≡ t.load → ⊥) → NoneUntil EndsSection section ts
section_load_none ts b1 b2 b3 b4 rest n a h s t named addressed headed bodied tailed none y more d e =
    let q = section_parts y ts more d in
    let k = head_single b2 q.behind_head b3 (head_of y) h (head_at ts b1 n named y more d b2 a addressed) headed in
    let m = tailed.only (tail_of y) more (tail_at ts b1 n named y more d b2 b3 b4 a h s addressed headed bodied) e in
    none y.load (ap (λ (x : SectionHead). x.load) k.0) (ap (λ (x : SectionTail). x.load) m.0)

pub takes_section : (s : OutputSection) (h : SectionHead) (t : SectionTail) (ts b1 b2 b3 b4 rest : List Lexeme)
    → Takes name ts s.name b1 → Takes stated_address b1 s.address b2 → Takes head_part b2 h b3
    → Takes (λ ss. statements body_statement ss ▸ mark CloseBrace) b3 s.body b4 → TakesTail b4 t rest
    → load_in_head s.load ≡ h.load → s.alignment ≡ h.alignment → s.region ≡ t.region → load_in_tail s.load ≡ t.load
    → s.fill ≡ t.fill → TakesOnly EndsSection section ts s rest
takes_section s h t ts b1 b2 b3 b4 rest named addressed headed bodied tailed at aligned placed loaded filled =
    let e = heads_same (head_of s) h at aligned in
    let f = tails_same (tail_of s) t placed loaded filled in
    let parts : SectionParts s ts rest = record {
      behind_name = b1;
      behind_address = b2;
      behind_head = b3;
      behind_body = b4;
      named = named.spells;
      addressed = addressed.spells;
      headed = subst (λ x. head_part x b2 b3) (sym e) headed.spells;
      bodied = bodied.spells;
      tailed = subst (λ x. tail_part x b4 rest) (sym f) tailed.spells;
    } in
    record {
      spells = parts_section s ts rest parts;
      only = λ y more d k. section_only s y ts rest more parts
          (λ u m x z. let o = tailed.only u m x z in (o.0 ∙ sym f, o.1)) d k;
      shorter = omega (arith, named.shorter, addressed.shorter, headed.shorter, bodied.shorter, tailed.within);
    }

pub section_of_parts : (s : OutputSection) (n : List ℕ) (a : Option Expr) (h : SectionHead) (b : List BodyStatement)
    (t : SectionTail) (ts b1 b2 b3 b4 rest : List Lexeme) → Takes name ts n b1 → Takes stated_address b1 a b2
    → Takes head_part b2 h b3 → Takes (λ ss. statements body_statement ss ▸ mark CloseBrace) b3 b b4
    → TakesTail b4 t rest → IsOfParts s n a h b t → TakesOnly EndsSection section ts s rest
section_of_parts s n a h b t ts b1 b2 b3 b4 rest named addressed headed bodied tailed is =
    takes_section s h t ts b1 b2 b3 b4 rest (subst (λ x. Takes name ts x b1) (sym is.name) named)
    (subst (λ x. Takes stated_address b1 x b2) (sym is.address) addressed) headed
    (subst (λ x. Takes (λ ss. statements body_statement ss ▸ mark CloseBrace) b3 x b4) (sym is.body) bodied) tailed
    is.in_head is.alignment is.region is.in_tail is.fill

section_until : SingleUntil EndsSection section
section_until ts r s a b x y hr hs =
    let p = section_parts a ts r x in
    let h = section_only a b ts r s p (λ u m d e. tails_single p.behind_body m r u (tail_of a) d p.tailed e hr) y hs in
    (sym h.0, sym h.1)

discard_single : Single discard
discard_single = skip_single (token Discard) discarded (token_fixed Discard)
    (skip_single (mark Colon) (λ is. mark OpenBrace ▸ statements input_statement is ▸ mark CloseBrace)
    (mark_fixed Colon)
    (skip_single (mark OpenBrace) (λ is. statements input_statement is ▸ mark CloseBrace)
    (mark_fixed OpenBrace) closed_inputs_single))

provide_no_name : is_free_name (codes "PROVIDE") ≡ false
unfolding is_free_name is_reserved
provide_no_name = refl

assert_no_name : is_free_name (codes "ASSERT") ≡ false
unfolding is_free_name is_reserved
assert_no_name = refl

dot_no_section : (a : DotCommand) (b : OutputSection) (ts r s : List Lexeme) → dot_command Expression a ts r
    → section b ts s → ⊥
dot_no_section a b ts r s x y = name_no_key Expression b.name (codes ".") dot_no_name ts y.1.0 x.0 y.1.1 x.1

address_no_assign : (o : Option Expr) (ts r s : List Lexeme) → stated_address o ts r → mark Assign ts s → ⊥
address_no_assign None ts r s x y = marks_differ Colon Assign ts r s (λ q. cc) x y
address_no_assign (Some e) ts r s x y = starts Assign (λ q. cc) refl Whole e ts x.0 s x.1 y

directive_no_section : (a : Directive) (b : OutputSection) (ts r s : List Lexeme) → directive Expression a ts r
    → section b ts s → ⊥
directive_no_section (directives.Assign a) b ts r s x y =
    let e = name_single Expression ts y.1.0 x.0 b.name a.name y.1.1 x.1 in
    address_no_assign b.address x.0 y.1.2.0 x.2.0 (subst (λ l. stated_address b.address l y.1.2.0) e.1 y.1.2.1) x.2.1
directive_no_section (directives.Provide a) b ts r s x y =
    name_no_key Expression b.name (codes "PROVIDE") provide_no_name ts y.1.0 x.0 y.1.1 x.1
directive_no_section (directives.Assert a) b ts r s x y =
    name_no_key Expression b.name (codes "ASSERT") assert_no_name ts y.1.0 x.0 y.1.1 x.1

name_no_discard : (n : List ℕ) (ts r s : List Lexeme) → token (Name n) ts r → token Discard ts s → ⊥
name_no_discard n ts r s x y = let e = (tokens_same (Name n) Discard ts r s x y).0 in cc

directive_no_discard : (a : Directive) (ts r s : List Lexeme) → directive Expression a ts r → token Discard ts s → ⊥
directive_no_discard (directives.Assign a) ts r s x y = name_no_discard a.name ts x.0 s x.1.1 y
directive_no_discard (directives.Provide a) ts r s x y = name_no_discard (codes "PROVIDE") ts x.0 s x.1 y
directive_no_discard (directives.Assert a) ts r s x y = name_no_discard (codes "ASSERT") ts x.0 s x.1 y

-- where one command stands, no other does
dot_only : (ts r s : List Lexeme) (a : DotCommand) (b : ItemCommand) → dot_command Expression a ts r
    → item_command b ts s → (b ≡ item.Dot a) × (s ≡ r)
dot_only ts r s a (item.Dot b) x y = let e = dot_command_single Expression ts s r b a y x in (ap item.Dot e.0, e.1)
dot_only ts r s a (item.Directive b) x y = absurd (dot_no_directive Expression a b ts r s x y)
dot_only ts r s a (item.Section b) x y = absurd (dot_no_section a b ts r s x y)
dot_only ts r s a (item.Discard b) x y = absurd (name_no_discard (codes ".") ts x.0 y.0 x.1 y.1)

directive_only : (ts r s : List Lexeme) (a : Directive) (b : ItemCommand) → directive Expression a ts r
    → item_command b ts s
    → (b ≡ item.Directive a) × (s ≡ r)
directive_only ts r s a (item.Dot b) x y = absurd (dot_no_directive Expression b a ts s r y x)
directive_only ts r s a (item.Directive b) x y = let e = directive_single Expression ts s r b a y x in (
  ap
      item.Directive e.0,
  e.1,
)
directive_only ts r s a (item.Section b) x y = absurd (directive_no_section a b ts r s x y)
directive_only ts r s a (item.Discard b) x y = absurd (directive_no_discard a ts r y.0 x y.1)

discard_only : (ts r s : List Lexeme) (a : List InputStatement) (b : ItemCommand) → discard a ts r → item_command b ts s
    → (b ≡ item.Discard a) × (s ≡ r)
discard_only ts r s a (item.Dot b) x y = absurd (name_no_discard (codes ".") ts y.0 x.0 y.1 x.1)
discard_only ts r s a (item.Directive b) x y = absurd (directive_no_discard b ts s x.0 y x.1)
discard_only ts r s a (item.Section b) x y = absurd (name_no_discard b.name ts y.1.0 x.0 y.1.1.1 x.1)
discard_only ts r s a (item.Discard b) x y = let e = discard_single ts s r b a y x in (ap item.Discard e.0, e.1)

abbrev OnlySection : OutputSection → List Lexeme → List Lexeme → Type 0
OnlySection a ts r = (c : OutputSection) (more : List Lexeme) → section c ts more → EndsSection more
    → (c ≡ a) × (more ≡ r)

section_item_only : (ts r s : List Lexeme) (a : OutputSection) (b : ItemCommand) → section a ts r → OnlySection a ts r
    → item_command b ts s → EndsSection s → (b ≡ item.Section a) × (s ≡ r)
section_item_only ts r s a (item.Dot b) x only y hs = absurd (dot_no_section b a ts s r y x)
section_item_only ts r s a (item.Directive b) x only y hs = absurd (directive_no_section b a ts s r y x)
section_item_only ts r s a (item.Section b) x only y hs = let e = only b s y hs in (ap item.Section e.0, e.1)
section_item_only ts r s a (item.Discard b) x only y hs = absurd (name_no_discard a.name ts x.1.0 y.0 x.1.1.1 y.1)

pub item_command_until : SingleUntil EndsSection item_command
item_command_until ts r s (item.Dot a) b x y hr hs = let e = dot_only ts r s a b x y in (sym e.0, sym e.1)
item_command_until ts r s (item.Directive a) b x y hr hs = let e = directive_only ts r s a b x y in (sym e.0, sym e.1)
item_command_until ts r s (item.Section a) b x y hr hs =
    let e = section_item_only ts r s a b x (λ c more d h. section_until ts more r c a d x h hr) y hs in
    (sym e.0, sym e.1)
item_command_until ts r s (item.Discard a) b x y hr hs = let e = discard_only ts r s a b x y in (sym e.0, sym e.1)

pub takes_dot : (ts r : List Lexeme) (a : DotCommand) → Takes (dot_command Expression) ts a r
    → TakesOnly EndsSection item_command ts (item.Dot a) r
takes_dot ts r a d = record {
  spells = d.spells;
  only = λ y more k e. dot_only ts r more a y d.spells k;
  shorter = d.shorter;
}

pub takes_directive : (ts r : List Lexeme) (a : Directive) → Takes (directive Expression) ts a r
    → TakesOnly EndsSection item_command ts (item.Directive a) r
takes_directive ts r a d = record {
  spells = d.spells;
  only = λ y more k e. directive_only ts r more a y d.spells k;
  shorter = d.shorter;
}

pub takes_discard : (ts r : List Lexeme) (a : List InputStatement) → Takes discard ts a r
    → TakesOnly EndsSection item_command ts (item.Discard a) r
takes_discard ts r a d = record {
  spells = d.spells;
  only = λ y more k e. discard_only ts r more a y d.spells k;
  shorter = d.shorter;
}

pub takes_section_item : (ts r : List Lexeme) (a : OutputSection) → TakesOnly EndsSection section ts a r
    → TakesOnly EndsSection item_command ts (item.Section a) r
takes_section_item ts r a d = record {
  spells = d.spells;
  only = λ y more k e. section_item_only ts r more a y d.spells d.only k e;
  shorter = d.shorter;
}

items_same : (a b : Item) → a.line ≡ b.line → a.command ≡ b.command → a ≡ b
items_same a b e f =
    let mk : ℕ → ItemCommand → Item = λ n i. record { line = n; command = i } in
    ap (λ n. mk n a.command) e ∙ ap (λ i. mk b.line i) f

item_until : SingleUntil EndsSection item_statement
item_until ts r s a b x y hr hs =
    let e = item_command_until ts r s a.command b.command x.1 y.1 hr hs in
    (items_same a b (x.0 ∙ sym y.0) e.0, e.1)

-- as its command stands alone, so does the statement
pub item_statement_only : (ts r : List Lexeme) (line : ℕ) (a : ItemCommand) → line ≡ first_line ts
    → ((b : ItemCommand) (more : List Lexeme) → item_command b ts more → EndsSection more → (b ≡ a) × (more ≡ r))
    → (y : Item) (more : List Lexeme) → item_statement y ts more → EndsSection more
    → (y ≡ record { line = line; command = a }) × (more ≡ r)
item_statement_only ts r line a l only y more d e =
    let k = only y.command more d.1 e in
    (items_same y (record { line = line; command = a }) (d.0 ∙ sym l) k.0, k.1)

-- what a statement of SECTIONS begins with: a name token that is not AT, or /DISCARD/
abbrev Begun : List Lexeme → Type 0
Begun ts = ((w : List ℕ) × (us : List Lexeme) × token (Name w) ts us × (w ≡ codes "AT" → ⊥))
    ⊎ ((us : List Lexeme) × token Discard ts us)

at_no_name : is_free_name (codes "AT") ≡ false
unfolding is_free_name is_reserved
at_no_name = refl

not_at : (n : List ℕ) → is_free_name n ≡ true → n ≡ codes "AT" → ⊥
not_at n h e = false≢true (sym at_no_name ∙ sym (ap is_free_name e) ∙ h)

word_not_at : (w : List ℕ) → bytes_eq w w ≡ true → bytes_eq w (codes "AT") ≡ false → w ≡ codes "AT" → ⊥
word_not_at w h k e = false≢true (sym k ∙ sym (ap (λ x. bytes_eq w x) e) ∙ h)

item_begun : (c : ItemCommand) (ts r : List Lexeme) → item_command c ts r → Begun ts
item_begun (item.Dot a) ts r x = inl (codes ".", x.0, x.1, word_not_at (codes ".") refl refl)
item_begun (item.Directive (directives.Assign a)) ts r x = inl (a.name, x.0, x.1.1, not_at a.name x.1.0)
item_begun (item.Directive (directives.Provide a)) ts r x =
    inl (codes "PROVIDE", x.0, x.1, word_not_at (codes "PROVIDE") refl refl)
item_begun (item.Directive (directives.Assert a)) ts r x =
    inl (codes "ASSERT", x.0, x.1, word_not_at (codes "ASSERT") refl refl)
item_begun (item.Section a) ts r x = inl (a.name, x.1.0, x.1.1.1, not_at a.name x.1.1.0)
item_begun (item.Discard a) ts r x = inr (x.0, x.1)

begun_no_mark : (ts : List Lexeme) → Begun ts → (m : Mark) (r : List Lexeme) → mark m ts r → ⊥
begun_no_mark ts (inl b) m r d = key_no_mark b.0 m ts b.1 r b.2 d
begun_no_mark ts (inr b) m r d = let e = (tokens_same Discard (Punctuation m) ts b.0 r b.1 d).0 in cc

begun_no_at : (ts : List Lexeme) → Begun ts → (r : List Lexeme) → key Expression (codes "AT") ts r → ⊥
begun_no_at ts (inl b) r d = b.3 (words_same Expression b.0 (codes "AT") ts b.1 r b.2 d).0
begun_no_at ts (inr b) r d = name_no_discard (codes "AT") ts r b.0 d b.1

begun_ends : (ts : List Lexeme) → Begun ts → EndsSection ts
begun_ends ts b = record {
  no_region = λ r d. begun_no_mark ts b Greater r d;
  no_load = λ r d. begun_no_at ts b r d;
  no_fill = λ r d. begun_no_mark ts b Assign r d;
}

mark_ends : (m : Mark) → (m ≡ Greater → ⊥) → (m ≡ Assign → ⊥) → (ts r : List Lexeme) → mark m ts r → EndsSection ts
mark_ends m g a ts r x = record {
  no_region = λ s d. marks_differ m Greater ts r s g x d;
  no_load = λ s d. key_no_mark (codes "AT") m ts s r d x;
  no_fill = λ s d. marks_differ m Assign ts r s a x d;
}

pub items_listed : Listed EndsSection (mark CloseBrace) item_statement
items_listed = record {
  single = item_until;
  closes = mark_fixed CloseBrace;
  no_close = λ x ts r s d e. begun_no_mark ts (item_begun x.command ts r d.1) CloseBrace s e;
  no_semicolon = λ x ts r s d e. begun_no_mark ts (item_begun x.command ts r d.1) Semicolon s e;
  apart = λ ts r s d e. marks_differ CloseBrace Semicolon ts r s (λ q. cc) d e;
  at_close = λ ts r d. mark_ends CloseBrace (λ q. cc) (λ q. cc) ts r d;
  at_semicolon = λ ts r d. mark_ends Semicolon (λ q. cc) (λ q. cc) ts r d;
  at_start = λ x ts r d. begun_ends ts (item_begun x.command ts r d.1);
}

pub closed_items_single : Single (λ is. statements item_statement is ▸ mark CloseBrace)
closed_items_single ts r s a b x y = closing_single items_listed a b ts r s x y

pub item_none : (ts : List Lexeme) → NoneAt (dot_command Expression) ts → NoneAt (directive Expression) ts
    → NoneAt discard ts → NoneUntil EndsSection section ts → NoneUntil EndsSection item_command ts
item_none ts a b c d (item.Dot y) more k e = a y more k
item_none ts a b c d (item.Directive y) more k e = b y more k
item_none ts a b c d (item.Section y) more k e = d y more k e
item_none ts a b c d (item.Discard y) more k e = c y more k

pub discard_none : (ts : List Lexeme) → ((us : List Lexeme) → discard_head ts us → ⊥) → NoneAt discard ts
discard_none ts n y more d = n d.2.2.0 (d.0, d.1, (d.2.0, d.2.1, d.2.2.1))

discard_head_fixed : Fixed discard_head
discard_head_fixed = then_fixed (token Discard) (mark Colon ▸ mark OpenBrace) (token_fixed Discard)
    (then_fixed (mark Colon) (mark OpenBrace) (mark_fixed Colon) (mark_fixed OpenBrace))

pub discard_reads : {X E : Type 0} (ts us : List Lexeme) → discard_head ts us × (length us < length ts)
    → (tree : X → List InputStatement) (rest : X → List Lexeme) (r : Result (Option X) E)
    → Reads (λ is. statements input_statement is ▸ mark CloseBrace) us tree rest r → Reads discard ts tree rest r
discard_reads ts us h tree rest (Ok (Some x)) d =
    record {
      spells = (h.0.0, h.0.1, (h.0.2.0, h.0.2.1, (us, h.0.2.2, d.spells)));
      shorter = omega (arith, h.1, d.shorter);
    }
discard_reads ts us h tree rest (Ok None) d = λ y more k.
    let e = discard_head_fixed ts k.2.2.0 us (k.0, k.1, (k.2.0, k.2.1, k.2.2.1)) h.0 in
    d y more (subst (λ l. (statements input_statement y ▸ mark CloseBrace) l more) e k.2.2.2)
discard_reads ts us h tree rest (Err f) d = tt
