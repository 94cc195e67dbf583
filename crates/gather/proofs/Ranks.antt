-- The order of input sections.
use Rattle.gather.proofs.Common.{Bool, Equal, Greater, IsTotalOrder, Less, Ordering, and_parts, ap, arith, bool_cmp}
use Rattle.gather.proofs.Common.{bool_cmp_total, cond, eq-eqb, eqb-true, false, false≢true, is_eq, ltb-true, nat_cmp}
use Rattle.gather.proofs.Common.{nat_lt, ordering_then, rank_cmp, refl, sym, true, ℕ, ◌&&◌, ◌<◌, ◌==◌, ◌∙◌, ◌≡◌}
use Rattle.std.proofs.lemmas.Cmp.{nat_cmp_total, on_total, then_total}
use mathlib.Core.Bool.{beq}

pub rank_total : IsTotalOrder rank_cmp
rank_total =
    then_total (then_total (on_total (λ (x : ℕ × Bool × ℕ). x.0) nat_cmp_total)
    (on_total (λ (x : ℕ × Bool × ℕ). x.1) bool_cmp_total)) (on_total (λ (x : ℕ × Bool × ℕ). x.2) nat_cmp_total)

eq_then : (o r : Ordering) → is_eq (ordering_then o r) ≡ is_eq o && is_eq r
eq_then Less r = refl
eq_then Equal r = refl
eq_then Greater r = refl

eq_nat : (x y : ℕ) → is_eq (nat_cmp x y) ≡ (x == y)
eq_nat x y = go (nat_lt x y) (x == y) refl refl
  where
    go : (s t : Bool) → nat_lt x y ≡ s → (x == y) ≡ t → is_eq (cond s Less (cond t Equal Greater)) ≡ t
    go true true l e = let a : x < y = ltb-true x y l in let b : x ≡ y = eqb-true x y e in absurd (omega arith)
    go true false l e = refl
    go false true l e = refl
    go false false l e = refl

-- two ranks are equal number by number
abbrev pub are_equal : ℕ × Bool × ℕ → ℕ × Bool × ℕ → Bool
are_equal x y = ((x.0 == y.0) && beq x.1 y.1) && (x.2 == y.2)

eq_bool : (x y : Bool) → is_eq (bool_cmp x y) ≡ beq x y
eq_bool true true = refl
eq_bool true false = refl
eq_bool false true = refl
eq_bool false false = refl

pub equal : (x y : ℕ × Bool × ℕ) → is_eq (rank_cmp x y) ≡ are_equal x y
equal x y =
    eq_then (ordering_then (nat_cmp x.0 y.0) (bool_cmp x.1 y.1)) (nat_cmp x.2 y.2)
    ∙ ap (λ t. t && is_eq (nat_cmp x.2 y.2)) (eq_then (nat_cmp x.0 y.0) (bool_cmp x.1 y.1))
    ∙ ap (λ t. (t && is_eq (bool_cmp x.1 y.1)) && is_eq (nat_cmp x.2 y.2)) (eq_nat x.0 y.0)
    ∙ ap (λ t. ((x.0 == y.0) && t) && is_eq (nat_cmp x.2 y.2)) (eq_bool x.1 y.1)
    ∙ ap (λ t. ((x.0 == y.0) && beq x.1 y.1) && t) (eq_nat x.2 y.2)

beq_true : (x y : Bool) → beq x y ≡ true → x ≡ y
beq_true true true e = refl
beq_true true false e = absurd (false≢true e)
beq_true false true e = absurd (false≢true e)
beq_true false false e = refl

-- ranks that compare as equal are one
pub one : (x y : ℕ × Bool × ℕ) → is_eq (rank_cmp x y) ≡ true → x ≡ y
one x y e =
    ap (λ (i : ℕ). (i, x.1, x.2)) (eqb-true x.0 y.0 (and_parts (x.0 == y.0) (beq x.1 y.1) both).0)
    ∙ ap (λ (b : Bool). (y.0, b, x.2)) (beq_true x.1 y.1 (and_parts (x.0 == y.0) (beq x.1 y.1) both).1)
    ∙ ap (λ (k : ℕ). (y.0, y.1, k)) (eqb-true x.2 y.2 (and_parts ((x.0 == y.0) && beq x.1 y.1) (x.2 == y.2) all).1)
  where
    all : are_equal x y ≡ true
    all = sym (equal x y) ∙ e

    both : (x.0 == y.0) && beq x.1 y.1 ≡ true
    both = (and_parts ((x.0 == y.0) && beq x.1 y.1) (x.2 == y.2) all).0

beq_self : (x : Bool) → beq x x ≡ true
beq_self true = refl
beq_self false = refl

-- a rank compares as equal with itself
pub alike : (r : ℕ × Bool × ℕ) → is_eq (rank_cmp r r) ≡ true
alike r =
    equal r r ∙ ap (λ b. (b && beq r.1 r.1) && (r.2 == r.2)) (eq-eqb r.0 r.0 refl)
    ∙ ap (λ b. b && (r.2 == r.2)) (beq_self r.1) ∙ eq-eqb r.2 r.2 refl
