-- Lists without `;`, up to what closes them.
use Rattle.ldscript.proofs.Common.{Lexeme, List, NoneAt, Rule, Takes, [], ap, append-nil, append_assoc, arith, each}
use Rattle.ldscript.proofs.Common.{length, refl, some, subst, sym, ◌++◌, ◌<◌, ◌∙◌, ◌∷◌, ◌≡◌, ◌≤◌, ◌▸◌}
use Rattle.ldscript.proofs.Singles.{Fixed, Single, SingleUntil}

-- what tells the members of a list and what closes it apart
pub record EachListed {A : Type 0} (Stop : List Lexeme → Type 0) (c : Rule) (p : A → Rule) : Type 0 where
  pub single : SingleUntil Stop p
  pub closes : Fixed c
  pub no_close : (x : A) (ts r s : List Lexeme) → p x ts r → c ts s → ⊥
  pub at_close : (ts r : List Lexeme) → c ts r → Stop ts
  pub at_start : (x : A) (ts r : List Lexeme) → p x ts r → Stop ts

module _ {A : Type 0} {Stop : List Lexeme → Type 0} {c : Rule} {p : A → Rule} where
  pub each_stops : EachListed Stop c p → (ys : List A) (ts r : List Lexeme) → (each p ys ▸ c) ts r → Stop ts
  each_stops l [] ts r d = subst Stop (sym d.1) (l.at_close d.0 r d.2)
  each_stops l (y ∷ ys) ts r d = l.at_start y ts d.1.0 d.1.1

  -- where a member stands, a list has one
  pub each_member : EachListed Stop c p → (x : A) (ts us : List Lexeme) → p x ts us
      → ((y : A) (more : List Lexeme) → p y ts more → Stop more → (y ≡ x) × (more ≡ us))
      → (ys : List A) (r : List Lexeme) → (each p ys ▸ c) ts r
      → (zs : List A) × (ys ≡ x ∷ zs) × (each p zs ▸ c) us r
  each_member l x ts us h only [] r d = absurd (l.no_close x ts us r h (subst (λ t. c t r) (sym d.1) d.2))
  each_member l x ts us h only (y ∷ ys) r d =
      let stops : Stop d.1.0 = each_stops l ys d.1.0 r (d.0, d.1.2, d.2) in
      let same = only y d.1.0 d.1.1 stops in
      (ys, ap (λ z. z ∷ ys) same.0, (d.0, subst (λ t. each p ys t d.0) same.1 d.1.2, d.2))

  pub each_single : EachListed Stop c p → (xs ys : List A) (ts r s : List Lexeme) → (each p xs ▸ c) ts r
      → (each p ys ▸ c) ts s → (xs ≡ ys) × (r ≡ s)
  each_single l [] [] ts r s x y =
      (refl, l.closes ts r s (subst (λ t. c t r) (sym x.1) x.2) (subst (λ t. c t s) (sym y.1) y.2))
  each_single l [] (y ∷ ys) ts r s d e = absurd (l.no_close y ts e.1.0 r e.1.1 (subst (λ t. c t r) (sym d.1) d.2))
  each_single l (x ∷ xs) ys ts r s d e =
      let stops : Stop d.1.0 = each_stops l xs d.1.0 r (d.0, d.1.2, d.2) in
      let h = each_member l x ts d.1.0 d.1.1 (λ z more k st. l.single ts more d.1.0 z x k d.1.1 st stops) ys s e in
      let k = each_single l xs h.0 d.1.0 r s (d.0, d.1.2, d.2) h.2 in
      (ap (λ zs. x ∷ zs) k.0 ∙ sym h.1, k.1)

  -- no tokens are two lists of one member or more
  pub some_single : EachListed Stop c p → Single (λ xs. some p xs ▸ c)
  some_single l ts r s [] ys x y = absurd x.1
  some_single l ts r s (a ∷ xs) [] x y = absurd y.1
  some_single l ts r s (a ∷ xs) (b ∷ ys) x y = each_single l (a ∷ xs) (b ∷ ys) ts r s x y

  -- where the list is empty, there is no list of one member or more
  pub empty_none : EachListed Stop c p → (xs : List A) (ts us : List Lexeme) → xs ≡ [] → (each p xs ▸ c) ts us
      → NoneAt (λ xs. some p xs ▸ c) ts
  empty_none l xs ts us e h [] more d = d.1
  empty_none l xs ts us e h (y ∷ ys) more d = let q = (each_single l xs (y ∷ ys) ts us more h d).0 in cc

pub some_of_each : {A : Type 0} (c : Rule) (p : A → Rule) (xs : List A) (ts us : List Lexeme) → (xs ≡ [] → ⊥)
    → (each p xs ▸ c) ts us → (some p xs ▸ c) ts us
some_of_each c p [] ts us n d = absurd (n refl)
some_of_each c p (x ∷ xs) ts us n d = d

pub some_none : {A : Type 0} (c : Rule) (p : A → Rule) (ts : List Lexeme) → NoneAt (λ xs. each p xs ▸ c) ts
    → NoneAt (λ xs. some p xs ▸ c) ts
some_none c p ts n [] more d = d.1
some_none c p ts n (x ∷ xs) more d = n (x ∷ xs) more d

-- the members read so far: what completes the rest completes the whole, and the other way round
pub record EachSoFar {A : Type 0} (c : Rule) (p : A → Rule) (ts : List Lexeme) (xs : List A)
    (rest : List Lexeme) : Type 0 where
  pub forth : (ys : List A) (r : List Lexeme) → each p ys rest r → each p (xs ++ ys) ts r
  pub back : (ys : List A) (r : List Lexeme) → (each p ys ▸ c) ts r → (zs : List A) × (each p zs ▸ c) rest r
  pub shorter : length rest ≤ length ts

pub each_so_far_none : {A : Type 0} (c : Rule) (p : A → Rule) (ts : List Lexeme) → EachSoFar c p ts [] ts
each_so_far_none c p ts = record { forth = λ ys r d. d; back = λ ys r d. (ys, d); shorter = omega arith }

pub each_so_far_member : {A : Type 0} (Stop : List Lexeme → Type 0) (c : Rule) (p : A → Rule) → EachListed Stop c p
    → (ts : List Lexeme) (xs : List A) (x : A) (rest us : List Lexeme)
    → EachSoFar c p ts xs rest → p x rest us
    → ((y : A) (more : List Lexeme) → p y rest more → Stop more → (y ≡ x) × (more ≡ us)) → length us < length rest
    → EachSoFar c p ts (xs ++ x ∷ []) us
each_so_far_member Stop c p l ts xs x rest us s m only h = record {
  forth = λ ys r d. subst (λ zs. each p zs ts r) (sym (append_assoc xs (x ∷ []) ys)) (s.forth (x ∷ ys) r (us, m, d));
  back = λ ys r d. let b = s.back ys r d in let k = each_member l x rest us m only b.0 r b.1 in (k.0, k.2);
  shorter = omega (arith, s.shorter);
}

pub each_so_far_closed : {A : Type 0} (c : Rule) (p : A → Rule) (ts : List Lexeme) (xs : List A) (rest us : List Lexeme)
    → EachSoFar c p ts xs rest → c rest us → length us < length rest
    → Takes (λ ys. each p ys ▸ c) ts xs us
each_so_far_closed c p ts xs rest us s m h = record {
  spells = (rest, subst (λ zs. each p zs ts rest) (append-nil xs) (s.forth [] rest refl), m);
  shorter = omega (arith, s.shorter);
}

pub each_so_far_stuck : {A : Type 0} (Stop : List Lexeme → Type 0) (c : Rule) (p : A → Rule) → EachListed Stop c p
    → (ts : List Lexeme) (xs : List A) (rest : List Lexeme)
    → EachSoFar c p ts xs rest → ((us : List Lexeme) → c rest us → ⊥)
    → ((y : A) (more : List Lexeme) → p y rest more → Stop more → ⊥) → NoneAt (λ ys. each p ys ▸ c) ts
each_so_far_stuck {A} Stop c p l ts xs rest s no_end no_member ys r d = let b = s.back ys r d in stuck b.0 b.1 where
  stuck : (zs : List A) → (each p zs ▸ c) rest r → ⊥
  stuck [] e = no_end r (subst (λ t. c t r) (sym e.1) e.2)
  stuck (z ∷ zs) e = no_member z e.1.0 e.1.1 (each_stops l zs e.1.0 r (e.0, e.1.2, e.2))
