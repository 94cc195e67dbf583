-- A pass over a list of mentions.
use Rattle.ldscript_statements.proofs.Common.{Bool, Clashes, Err, HasClash, HasClashIn, Holds, IfOk, List, MatchBool}
use Rattle.ldscript_statements.proofs.Common.{Meets, Mention, Ok, Result, [], ap, drop, false, get_or, inl, inr, length}
use Rattle.ldscript_statements.proofs.Common.{mention_of, mentions, refl, shown, subst, sym, take, true, ℕ, ◌++◌, ◌+◌}
use Rattle.ldscript_statements.proofs.Common.{◌<◌, ◌∙◌, ◌∷◌, ◌≡◌, ◌≤◌, ◌⊎◌}
use Rattle.std.proofs.lemmas.List.{take_more, take_all, take-append-drop, drop_more, map-append}
use Rattle.ldscript_statements.specs.declared.mention.Mention as code
use Rattle.ldscript_statements.specs.declared.statement.Statement.{Statement}

-- the keys hold these, and none of these clashes with those before it
pub record Scanned (keys : List code.Mention) (before : List Mention) : Type 0 where
  pub holds : Holds keys before
  pub none : HasClashIn before → ⊥

nil_not : {X : Type 0} (b a : List X) (x : X) → [] ≡ b ++ x ∷ a → ⊥
nil_not [] a x e = cc
nil_not (y ∷ ys) a x e = cc

-- a place in a list with one more at its end is the end, or a place in the list
split_last : {X : Type 0} (xs before after : List X) (m x : X) → xs ++ m ∷ [] ≡ before ++ x ∷ after
    → ((xs ≡ before) × (m ≡ x)) ⊎ ((rest : List X) × (xs ≡ before ++ x ∷ rest))
split_last [] [] after m x e = let same : m ≡ x = cc in inl (refl, same)
split_last [] (b ∷ bs) after m x e = let t : [] ≡ bs ++ x ∷ after = cc in absurd (nil_not bs after x t)
split_last (y ∷ ys) [] after m x e = let same : y ∷ ys ≡ x ∷ ys = cc in inr (ys, same)
split_last (y ∷ ys) (b ∷ bs) after m x e =
    let head : y ≡ b = cc in
    let tail : ys ++ m ∷ [] ≡ bs ++ x ∷ after = cc in
    elim (split_last ys bs after m x tail) [
      | inl h ↦ inl (ap (λ l. y ∷ l) h.0 ∙ ap (λ z. z ∷ bs) head, h.1)
      | inr h ↦ inr (h.0, ap (λ l. y ∷ l) h.1 ∙ ap (λ z. z ∷ (bs ++ x ∷ h.0)) head)
    ]

none_more : (xs : List Mention) (m : Mention) → (HasClashIn xs → ⊥) → (Clashes xs m → ⊥) → HasClashIn (xs ++ m ∷ []) → ⊥
none_more xs m none free c = elim (split_last xs c.before c.after m c.mention c.place) [
  | inl h ↦ free (subst (λ (v : Mention). Clashes xs v) (sym h.1)
      (subst (λ (l : List Mention). Clashes l c.mention) (sym h.0) c.clash))
  | inr h ↦ none (record { before = c.before; mention = c.mention; after = h.0; place = h.1; clash = c.clash })
]

shown_more : (ms : List code.Mention) (i : ℕ) (d : code.Mention) → i < length ms
    → shown (take (i + 1) ms) ≡ shown (take i ms) ++ mention_of (get_or ms i d) ∷ []
shown_more ms i d below = ap shown (take_more ms i d below) ∙ map-append mention_of (take i ms) (get_or ms i d ∷ [])

shown_place : (ms : List code.Mention) (i : ℕ) (d : code.Mention) → i < length ms
    → shown ms ≡ shown (take i ms) ++ mention_of (get_or ms i d) ∷ shown (drop (i + 1) ms)
shown_place ms i d below =
    ap shown (sym (take-append-drop i ms)) ∙ map-append mention_of (take i ms) (drop i ms)
    ∙ ap (λ l. shown (take i ms) ++ shown l) (drop_more ms i d below)

pub scan_start : (keys : List code.Mention) → keys ≡ [] → Scanned keys []
scan_start keys empty = subst (λ (k : List code.Mention). Scanned k []) (sym empty)
    (record {
      holds = record { complete = λ m once h. h; sound = λ m h. h };
      none = λ c. nil_not c.before c.after c.mention c.place;
    })

-- what an answer says where it is known
answered : (old new : List code.Mention) (m : Mention) (before : List Mention) (b known : Bool) → b ≡ known
    → Meets old new m b → Holds old before
    → MatchBool known (Clashes before m) ((Clashes before m → ⊥) × Holds new (before ++ m ∷ []))
answered old new m before b known is met holds =
    subst (λ (t : Bool). MatchBool t (Clashes before m) ((Clashes before m → ⊥) × Holds new (before ++ m ∷ []))) is
    (met before holds)

pub scan_more : (old new ms : List code.Mention) (i : ℕ) (d : code.Mention) (clashes : Bool) → i < length ms
    → clashes ≡ false
    → Meets old new (mention_of (get_or ms i d)) clashes → Scanned old (shown (take i ms))
    → Scanned new (shown (take (i + 1) ms))
scan_more old new ms i d clashes below free met scanned =
    let m : Mention = mention_of (get_or ms i d) in
    let before : List Mention = shown (take i ms) in
    let answer = answered old new m before clashes false free met scanned.holds in
    subst (λ (l : List Mention). Scanned new l) (sym (shown_more ms i d below))
    (record { holds = answer.1; none = none_more before m scanned.none answer.0 })

pub scan_clash : (old new ms : List code.Mention) (i : ℕ) (d : code.Mention) (clashes : Bool) → i < length ms
    → clashes ≡ true
    → Meets old new (mention_of (get_or ms i d)) clashes → Scanned old (shown (take i ms)) → HasClashIn (shown ms)
scan_clash old new ms i d clashes below clashing met scanned =
    let m : Mention = mention_of (get_or ms i d) in
    let before : List Mention = shown (take i ms) in
    record {
      before = before;
      mention = m;
      after = shown (drop (i + 1) ms);
      place = shown_place ms i d below;
      clash = answered old new m before clashes true clashing met scanned.holds;
    }

pub scan_end : (keys ms : List code.Mention) (i : ℕ) → length ms ≤ i → Scanned keys (shown (take i ms))
    → HasClashIn (shown ms) → ⊥
scan_end keys ms i all scanned =
    subst (λ (l : List code.Mention). HasClashIn (shown l) → ⊥) (take_all i ms all) scanned.none

-- the answer for the list is the one for the script
pub of_script : {E : Type 0} (r : Result Bool E) (s : List Statement) (l : List Mention) → l ≡ mentions s
    → IfOk r (λ b. MatchBool b (HasClashIn l) (HasClashIn l → ⊥))
    → IfOk r (λ b. MatchBool b (HasClash s) (HasClash s → ⊥))
of_script (Ok true) s l is c =
    record { before = c.before; mention = c.mention; after = c.after; place = sym is ∙ c.place; clash = c.clash }
of_script (Ok false) s l is none =
    λ c. none (record {
      before = c.before;
      mention = c.mention;
      after = c.after;
      place = is
          ∙ c.place;
      clash = c.clash;
    })
of_script (Err e) s l is said = tt
