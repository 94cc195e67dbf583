-- Lists of statements up to what closes them.
use Rattle.ldscript.proofs.Common.{Lexeme, List, NoneAt, Rule, Semicolon, Takes, [], ap, append-nil, append_assoc}
use Rattle.ldscript.proofs.Common.{arith, inl, inr, length, mark, refl, statements, subst, sym, ◌++◌, ◌<◌, ◌∙◌, ◌∷◌}
use Rattle.ldscript.proofs.Common.{◌≡◌, ◌≤◌, ◌⊎◌, ◌▸◌}
use Rattle.ldscript.specs.Steps.{Semicolons, none, one}
use Rattle.ldscript.proofs.Singles.{Fixed, SingleUntil, mark_fixed}

-- what tells the statements of a list, the `;` between them and what closes the list apart
pub record Listed {A : Type 0} (Stop : List Lexeme → Type 0) (c : Rule) (p : A → Rule) : Type 0 where
  pub single : SingleUntil Stop p
  pub closes : Fixed c
  pub no_close : (x : A) (ts r s : List Lexeme) → p x ts r → c ts s → ⊥
  pub no_semicolon : (x : A) (ts r s : List Lexeme) → p x ts r → mark Semicolon ts s → ⊥
  pub apart : (ts r s : List Lexeme) → c ts r → mark Semicolon ts s → ⊥
  pub at_close : (ts r : List Lexeme) → c ts r → Stop ts
  pub at_semicolon : (ts r : List Lexeme) → mark Semicolon ts r → Stop ts
  pub at_start : (x : A) (ts r : List Lexeme) → p x ts r → Stop ts

split_semicolons : (ts r : List Lexeme) → Semicolons ts r
    → (ts ≡ r) ⊎ ((us : List Lexeme) × mark Semicolon ts us × Semicolons us r)
split_semicolons ts r none = inl refl
split_semicolons ts r (one {middle = us} m d) = inr (us, m, d)

module _ {A : Type 0} {Stop : List Lexeme → Type 0} {c : Rule} {p : A → Rule} where
  -- one `;` less
  pub behind_semicolon : Listed Stop c p → (ts us : List Lexeme) → mark Semicolon ts us
      → (ys : List A) (r : List Lexeme) → (statements p ys ▸ c) ts r → (statements p ys ▸ c) us r
  behind_semicolon l ts us m [] r d = elim (split_semicolons ts d.0 d.1) [
    | inl e ↦ absurd (l.apart ts r us (subst (λ t. c t r) (sym e) d.2) m)
    | inr s ↦ (d.0, subst (λ t. Semicolons t d.0) (mark_fixed Semicolon ts s.0 us s.1 m) s.2, d.2)
  ]
  behind_semicolon l ts us m (y ∷ ys) r d = elim (split_semicolons ts d.1.0 d.1.1) [
    | inl e ↦ absurd (l.no_semicolon y ts d.1.2.0 us (subst (λ t. p y t d.1.2.0) (sym e) d.1.2.1) m)
    | inr s ↦ (d.0, (d.1.0, subst (λ t. Semicolons t d.1.0) (mark_fixed Semicolon ts s.0 us s.1 m) s.2, d.1.2), d.2)
  ]

  -- what follows a statement stops it
  pub closing_stops : Listed Stop c p → (ys : List A) (ts r : List Lexeme) → (statements p ys ▸ c) ts r → Stop ts
  closing_stops l [] ts r d = elim (split_semicolons ts d.0 d.1) [
    | inl e ↦ subst Stop (sym e) (l.at_close d.0 r d.2)
    | inr s ↦ l.at_semicolon ts s.0 s.1
  ]
  closing_stops l (y ∷ ys) ts r d = elim (split_semicolons ts d.1.0 d.1.1) [
    | inl e ↦ subst Stop (sym e) (l.at_start y d.1.0 d.1.2.0 d.1.2.1)
    | inr s ↦ l.at_semicolon ts s.0 s.1
  ]

  -- where a statement stands, a list has one
  pub closing_statement : Listed Stop c p → (x : A) (ts us : List Lexeme) → p x ts us
      → ((y : A) (more : List Lexeme) → p y ts more → Stop more → (y ≡ x) × (more ≡ us))
      → (ys : List A) (r : List Lexeme) → (statements p ys ▸ c) ts r
      → (zs : List A) × (ys ≡ x ∷ zs) × (statements p zs ▸ c) us r
  closing_statement l x ts us h only [] r d = elim (split_semicolons ts d.0 d.1) [
    | inl e ↦ absurd (l.no_close x ts us r h (subst (λ t. c t r) (sym e) d.2))
    | inr s ↦ absurd (l.no_semicolon x ts us s.0 h s.1)
  ]
  closing_statement l x ts us h only (y ∷ ys) r d = elim (split_semicolons ts d.1.0 d.1.1) [
    | inl e ↦
        let next : p y ts d.1.2.0 = subst (λ t. p y t d.1.2.0) (sym e) d.1.2.1 in
        let stops : Stop d.1.2.0 = closing_stops l ys d.1.2.0 r (d.0, d.1.2.2, d.2) in
        let same = only y d.1.2.0 next stops in
        (ys, ap (λ z. z ∷ ys) same.0, (d.0, subst (λ t. statements p ys t d.0) same.1 d.1.2.2, d.2))
    | inr s ↦ absurd (l.no_semicolon x ts us s.0 h s.1)
  ]

  -- where the list is closed, it has no statement
  pub closing_end : Listed Stop c p → (ts us : List Lexeme) → c ts us → (ys : List A) (r : List Lexeme)
      → (statements p ys ▸ c) ts r → (ys ≡ []) × (r ≡ us)
  closing_end l ts us h [] r d = elim (split_semicolons ts d.0 d.1) [
    | inl e ↦ (refl, l.closes ts r us (subst (λ t. c t r) (sym e) d.2) h)
    | inr s ↦ absurd (l.apart ts us s.0 h s.1)
  ]
  closing_end l ts us h (y ∷ ys) r d = elim (split_semicolons ts d.1.0 d.1.1) [
    | inl e ↦ absurd (l.no_close y ts d.1.2.0 us (subst (λ t. p y t d.1.2.0) (sym e) d.1.2.1) h)
    | inr s ↦ absurd (l.apart ts us s.0 h s.1)
  ]

  pub behind_semicolons : Listed Stop c p → (ts us : List Lexeme) → Semicolons ts us → (ys : List A) (r : List Lexeme)
      → (statements p ys ▸ c) ts r → (statements p ys ▸ c) us r
  behind_semicolons l ts us none ys r d = d
  behind_semicolons l ts us (one {middle = vs} m s) ys r d = behind_semicolons l vs us s ys r
      (behind_semicolon l ts vs m ys r d)

  -- no tokens are two closed lists
  pub closing_single : Listed Stop c p → (xs ys : List A) (ts r s : List Lexeme) → (statements p xs ▸ c) ts r
      → (statements p ys ▸ c) ts s → (xs ≡ ys) × (r ≡ s)
  closing_single l [] ys ts r s x y =
      let e = closing_end l x.0 r x.2 ys s (behind_semicolons l ts x.0 x.1 ys s y) in
      (sym e.0, sym e.1)
  closing_single l (x ∷ xs) ys ts r s d y =
      let stops : Stop d.1.2.0 = closing_stops l xs d.1.2.0 r (d.0, d.1.2.2, d.2) in
      let h = closing_statement l x d.1.0 d.1.2.0 d.1.2.1
      (λ z more k st. l.single d.1.0 more d.1.2.0 z x k d.1.2.1 st stops) ys s
      (behind_semicolons l ts d.1.0 d.1.1 ys s y) in
      let e = closing_single l xs h.0 d.1.2.0 r s (d.0, d.1.2.2, d.2) h.2 in
      (ap (λ zs. x ∷ zs) e.0 ∙ sym h.1, e.1)

pub with_semicolon : {A : Type 0} (p : A → Rule) (ts us : List Lexeme) → mark Semicolon ts us
    → (ys : List A) (r : List Lexeme) → statements p ys us r → statements p ys ts r
with_semicolon p ts us m [] r d = one m d
with_semicolon p ts us m (y ∷ ys) r d = (d.0, one m d.1, d.2)

-- the statements read so far: what completes the rest completes the whole, and the other way round
pub record SoFar {A : Type 0} (c : Rule) (p : A → Rule) (ts : List Lexeme) (xs : List A)
    (rest : List Lexeme) : Type 0 where
  pub forth : (ys : List A) (r : List Lexeme) → statements p ys rest r → statements p (xs ++ ys) ts r
  pub back : (ys : List A) (r : List Lexeme) → (statements p ys ▸ c) ts r → (zs : List A) × (statements p zs ▸ c) rest r
  pub shorter : length rest ≤ length ts

pub so_far_none : {A : Type 0} (c : Rule) (p : A → Rule) (ts : List Lexeme) → SoFar c p ts [] ts
so_far_none c p ts = record { forth = λ ys r d. d; back = λ ys r d. (ys, d); shorter = omega arith }

pub so_far_semicolon : {A : Type 0} (Stop : List Lexeme → Type 0) (c : Rule) (p : A → Rule) → Listed Stop c p
    → (ts : List Lexeme) (xs : List A) (rest us : List Lexeme)
    → SoFar c p ts xs rest → mark Semicolon rest us → length us < length rest → SoFar c p ts xs us
so_far_semicolon Stop c p l ts xs rest us s m h = record {
  forth = λ ys r d. s.forth ys r (with_semicolon p rest us m ys r d);
  back = λ ys r d. let b = s.back ys r d in (b.0, behind_semicolon l rest us m b.0 r b.1);
  shorter = omega (arith, s.shorter);
}

pub so_far_statement : {A : Type 0} (Stop : List Lexeme → Type 0) (c : Rule) (p : A → Rule) → Listed Stop c p
    → (ts : List Lexeme) (xs : List A) (x : A) (rest us : List Lexeme)
    → SoFar c p ts xs rest → p x rest us
    → ((y : A) (more : List Lexeme) → p y rest more → Stop more → (y ≡ x) × (more ≡ us)) → length us < length rest
    → SoFar c p ts (xs ++ x ∷ []) us
so_far_statement Stop c p l ts xs x rest us s m only h = record {
  forth = λ ys r d. subst (λ zs. statements p zs ts r) (sym (append_assoc xs (x ∷ []) ys))
      (s.forth (x ∷ ys) r (rest, none, (us, m, d)));
  back = λ ys r d. let b = s.back ys r d in let k = closing_statement l x rest us m only b.0 r b.1 in (k.0, k.2);
  shorter = omega (arith, s.shorter);
}

pub so_far_closed : {A : Type 0} (c : Rule) (p : A → Rule) (ts : List Lexeme) (xs : List A) (rest us : List Lexeme)
    → SoFar c p ts xs rest → c rest us → length us < length rest
    → Takes (λ ys. statements p ys ▸ c) ts xs us
so_far_closed c p ts xs rest us s m h = record {
  spells = (rest, subst (λ zs. statements p zs ts rest) (append-nil xs) (s.forth [] rest none), m);
  shorter = omega (arith, s.shorter);
}

pub so_far_stuck : {A : Type 0} (Stop : List Lexeme → Type 0) (c : Rule) (p : A → Rule) → Listed Stop c p
    → (ts : List Lexeme) (xs : List A) (rest : List Lexeme)
    → SoFar c p ts xs rest → ((us : List Lexeme) → c rest us → ⊥) → ((us : List Lexeme) → mark Semicolon rest us → ⊥)
    → ((y : A) (more : List Lexeme) → p y rest more → Stop more → ⊥) → NoneAt (λ ys. statements p ys ▸ c) ts
so_far_stuck {A} Stop c p l ts xs rest s no_end no_semicolon no_statement ys r d = let b = s.back ys r d in
    stuck b.0 b.1 where
      stuck : (zs : List A) → (statements p zs ▸ c) rest r → ⊥
      stuck [] e = elim (split_semicolons rest e.0 e.1) [
        | inl q ↦ no_end r (subst (λ t. c t r) (sym q) e.2)
        | inr q ↦ no_semicolon q.0 q.1
      ]
      stuck (z ∷ zs) e = elim (split_semicolons rest e.1.0 e.1.1) [
        | inl q ↦ no_statement z e.1.2.0 (subst (λ t. p z t e.1.2.0) (sym q) e.1.2.1)
            (closing_stops l zs e.1.2.0 r (e.0, e.1.2.2, e.2))
        | inr q ↦ no_semicolon q.0 q.1
      ]
