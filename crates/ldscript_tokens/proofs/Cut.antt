-- A cut of a text, a token at a time.
use Rattle.ldscript_tokens.proofs.Common.{CodeToken, IsCut, IsShallow, LexState, List, [], ap, append-nil, append_assoc}
use Rattle.ldscript_tokens.proofs.Common.{arith, at_start, cond, drop, drop-drop, lexeme_of, line_at, line_feeds, map}
use Rattle.ldscript_tokens.proofs.Common.{map-append, refl, slice_range, state_after, subst, sum_by-append, sym, take}
use Rattle.ldscript_tokens.proofs.Common.{token_of, ℕ, ◌++◌, ◌+◌, ◌-◌, ◌==◌, ◌∙◌, ◌∷◌, ◌≡◌, ◌≤◌}
use Rattle.std.proofs.Math.Seq.{take-add}
use Rattle.ldscript_tokens.specs.Tokens.{Token, Lexeme, lexeme, End, Blank, Begins, Nothing, front}
use Rattle.ldscript_tokens.specs.CodeTokens.{piece_of, spelled_token, front_of, IsShortStretch}
use Rattle.ldscript_tokens.specs.Modes.{IsCutFrom, ended, blank, token, mode_of}
use Rattle.ldscript_tokens.specs.declared.front.FrontToken.{FrontToken}
use Rattle.ldscript_tokens.specs.declared.token.ExpressionStretch.{ExpressionStretch}
use Rattle.ldscript_tokens.specs.declared.token.ExpressionStretch.TheVariants.{Closed, Awaited, ToSemicolon}
use Rattle.ldscript_tokens.specs.declared.token.ExpressionStretch.TheVariants.{ToParenthesis}
use Rattle.ldscript_tokens.specs.declared.front.Ahead.TheVariants.{Found}

pub cut_end : {text : List ℕ} {at : ℕ} {p : LexState} {ls : List Lexeme} → front (mode_of p) (drop at text) ≡ End
    → IsCutFrom text at p ls → ls ≡ []
cut_end h (ended e) = refl
cut_end h (blank e r) = cc
cut_end h (token e r) = cc

pub cut_nothing : {text : List ℕ} {at : ℕ} {p : LexState} {ls : List Lexeme}
    → front (mode_of p) (drop at text) ≡ Nothing → IsCutFrom text at p ls → ⊥
cut_nothing h (ended e) = cc
cut_nothing h (blank e r) = cc
cut_nothing h (token e r) = cc

pub cut_blank : {text : List ℕ} {at n : ℕ} {p : LexState} {ls : List Lexeme}
    → front (mode_of p) (drop at text) ≡ Blank n → IsCutFrom text at p ls → IsCutFrom text (at + n) p ls
cut_blank h (ended e) = absurd (cc)
cut_blank {text} {at} {n} {p} {ls} h (blank {n = m} e r) = let s : m ≡ n = cc in
    subst (λ k. IsCutFrom text (at + k) p ls) s r
cut_blank h (token e r) = absurd (cc)

pub cut_token : {text : List ℕ} {at n : ℕ} {p : LexState} {t : Token} {ls : List Lexeme}
    → front (mode_of p) (drop at text) ≡ Begins t n → IsCutFrom text at p ls
    → (rest : List Lexeme) × (ls ≡ lexeme t (line_at text at) ∷ rest) × IsCutFrom text (at + n) (state_after p t) rest
cut_token h (ended e) = absurd (cc)
cut_token h (blank e r) = absurd (cc)
cut_token {text} {at} {n} {p} {t} h (token {n = m} {token = u} {lexemes = rest} e r) =
    let a : u ≡ t = cc in
    let b : m ≡ n = cc in (
      rest,
      ap (λ v. lexeme v (line_at text at) ∷ rest) a,
      subst (λ v. IsCutFrom text (at + n) (state_after p v) rest) a
          (subst (λ k. IsCutFrom text (at + k) (state_after p u) rest) b r),
    )

pub one_cut : {text : List ℕ} {at : ℕ} {p : LexState} {ls ms : List Lexeme} → IsCutFrom text at p ls
    → IsCutFrom text at p ms → ms ≡ ls
one_cut (ended e) other = cut_end e other
one_cut (blank e rest) other = one_cut rest (cut_blank e other)
one_cut {text} {at} (token {token = t} e rest) other = let o = cut_token e other in o.1
    ∙ ap (λ v. lexeme t (line_at text at) ∷ v) (one_cut rest o.2)

-- so far these tokens are cut, and what the text has from an index on goes on from them
pub record IsCutTo (text : List ℕ) (done : List Lexeme) (at : ℕ) (p : LexState) : Type 0 where
  pub on : (ls : List Lexeme) → IsCutFrom text at p ls → IsCut text (done ++ ls)
  pub only : (all : List Lexeme) → IsCut text all → (ls : List Lexeme) × (all ≡ done ++ ls) × IsCutFrom text at p ls

pub cut_to_start : (text : List ℕ) → IsCutTo text [] 0 at_start
cut_to_start text = record { on = λ ls c. c; only = λ all c. (all, refl, c) }

pub cut_to_end : {text : List ℕ} {done : List Lexeme} {at : ℕ} {p : LexState} → IsCutTo text done at p
    → front (mode_of p) (drop at text) ≡ End → IsCut text done
cut_to_end {text} {done} c h = subst (λ ls. IsCut text ls) (append-nil done) (c.on [] (ended h))

pub cut_to_nothing : {text : List ℕ} {done : List Lexeme} {at : ℕ} {p : LexState} → IsCutTo text done at p
    → front (mode_of p) (drop at text) ≡ Nothing
    → (ls : List Lexeme) → IsCut text ls → ⊥
cut_to_nothing c h ls all = cut_nothing h (c.only ls all).2

pub cut_to_blank : {text : List ℕ} {done : List Lexeme} {at n : ℕ} {p : LexState} → IsCutTo text done at p
    → front (mode_of p) (drop at text) ≡ Blank n
    → IsCutTo text done (at + n) p
cut_to_blank c h = record {
  on = λ ls r. c.on ls (blank h r);
  only = λ all r. let o = c.only all r in (o.0, o.1, cut_blank h o.2);
}

pub cut_to_token : {text : List ℕ} {done : List Lexeme} {at n : ℕ} {p : LexState} {t : Token} → IsCutTo text done at p
    → front (mode_of p) (drop at text) ≡ Begins t n
    → IsCutTo text (done ++ lexeme t (line_at text at) ∷ []) (at + n) (state_after p t)
cut_to_token {text} {done} {at} {n} {p} {t} c h =
    let l = lexeme t (line_at text at) in
    record {
      on = λ ls r. subst (λ all. IsCut text all) (sym (append_assoc done (l ∷ []) ls)) (c.on (l ∷ ls) (token h r));
      only = λ all r. let o = c.only all r in let k = cut_token h o.2 in
          (k.0, o.1 ∙ ap (λ v. done ++ v) k.1 ∙ sym (append_assoc done (l ∷ []) k.0), k.2);
    }

pub still_short : (n m : ℕ) (s : ExpressionStretch) → n ≤ m → IsShortStretch n s → IsShortStretch m s
still_short n m Closed h r = tt
still_short n m Awaited h r = tt
still_short n m ToSemicolon h r = tt
still_short n m (ToParenthesis k) h r = omega arith

pub still_shallow : (n m : ℕ) (p : LexState) → n ≤ m → IsShallow n p → IsShallow m p
still_shallow n m p h r = (omega (arith, r.0), still_short n m p.stretch h r.1)

-- a token by its place in the whole text
abbrev pub behind : ℕ → ℕ → FrontToken → CodeToken
behind at n t = record { kind = t.kind; start = at + t.start; end = at + t.end; line = n }

pub range_behind : (text : List ℕ) (at start end : ℕ)
    → slice_range text (at + start) (at + end) ≡ slice_range (drop at text) start end
range_behind text at start end =
    let e : (at + end) - (at + start) ≡ end - start = omega arith in
    rw (e, drop-drop) refl

pub token_behind : (text : List ℕ) (at n : ℕ) (t : FrontToken)
    → token_of text (behind at n t) ≡ piece_of (drop at text) t
token_behind text at n t = ap (λ bytes. spelled_token t.kind bytes) (range_behind text at t.start t.end)

pub cut_to_found : (text : List ℕ) (items : List CodeToken) (p : LexState) (at n : ℕ) (t : FrontToken)
    → IsCutTo text (map (lexeme_of text) items) at p
    → front (mode_of p) (drop at text) ≡ front_of (drop at text) (Found t n)
    → IsCutTo text (map (lexeme_of text) (items ++ behind at (line_at text at) t ∷ [])) (at + n)
    (state_after p (token_of text (behind at (line_at text at) t)))
cut_to_found text items p at n t c h =
    let b = behind at (line_at text at) t in
    let u = token_of text b in
    let f : front (mode_of p) (drop at text) ≡ Begins u n = h
    ∙ ap (λ v. Begins v n) (sym (token_behind text at (line_at text at) t)) in
    subst (λ done. IsCutTo text done (at + n) (state_after p u)) (sym (map-append (lexeme_of text) items (b ∷ [])))
    (cut_to_token c f)

pub line_ahead : (text : List ℕ) (at n : ℕ)
    → line_at text (at + n) ≡ line_at text at + line_feeds (slice_range text at (at + n))
line_ahead text at n =
    let e : (at + n) - at ≡ n = omega arith in
    rw (e, take-add at n text, sum_by-append (λ b. cond (b == 10) 1 0) (take at text) (take n (drop at text)))
    (omega arith)
