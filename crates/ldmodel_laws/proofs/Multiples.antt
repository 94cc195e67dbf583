-- The least multiple of a number not below another: there is one, and no other.
use Rattle.ldmodel_laws.proofs.Common.{IsLeastMultiple, ap, arith, cases_lt, div-add-mod', eq-zero-or-pos}
use Rattle.ldmodel_laws.proofs.Common.{next_multiple_of, ℕ, ⊎_elim, ◌%◌, ◌*◌, ◌+◌, ◌-◌, ◌/◌, ◌<◌, ◌∙◌, ◌≡◌, ◌≤◌}
use Rattle.std.proofs.Math.Nat.{mod_self, mod-lt, mod-eq_of_lt, mul-mod_left, mul-le-mul_right, sub-zero}

-- two multiples, of which one is less, are at least as far apart as the number
apart : (a m n : ℕ) → m % a ≡ 0 → n % a ≡ 0 → m < n → m + a ≤ n
apart a m n hm hn h =
    let dm : m / a * a + m % a ≡ m = div-add-mod' m a in
    let dn : n / a * a + n % a ≡ n = div-add-mod' n a in
    ⊎_elim
    (λ (l : m / a < n / a).
    let wide : (m / a + 1) * a ≤ n / a * a = mul-le-mul_right a (omega (arith, l)) in
    let one : (m / a + 1) * a ≡ m / a * a + a = omega arith in
    omega (arith, dm, dn, wide, one, hm, hn))
    (λ (g : n / a ≤ m / a).
    let narrow : n / a * a ≤ m / a * a = mul-le-mul_right a g in
    omega (arith, dm, dn, narrow, hm, hn, h))
    (cases_lt (m / a) (n / a))

pub record IsNext (a x y : ℕ) : Type 0 where
  pub above : x ≤ y
  pub near : y < x + a
  pub multiple : y % a ≡ 0

is_next : (a x : ℕ) → 0 < a → IsNext a x (next_multiple_of x a)
is_next a x pos = ⊎_elim on past (eq-zero-or-pos (x % a))
  where
    on : x % a ≡ 0 → IsNext a x (next_multiple_of x a)
    on e =
        let none : (a - x % a) % a ≡ 0 = ap (λ k. (a - k) % a) e ∙ ap (λ k. k % a) (sub-zero a) ∙ mod_self a in
        let same : next_multiple_of x a ≡ x = omega (arith, none) in
        record { above = omega (arith, same); near = omega (arith, same, pos); multiple = ap (λ k. k % a) same ∙ e }

    past : 0 < x % a → IsNext a x (next_multiple_of x a)
    past h =
        let below : x % a < a = mod-lt x pos in
        let rest : (a - x % a) % a ≡ a - x % a = mod-eq_of_lt (omega (arith, h, below)) in
        let cut : x / a * a + x % a ≡ x = div-add-mod' x a in
        let one : (x / a + 1) * a ≡ x / a * a + a = omega arith in
        let same : next_multiple_of x a ≡ (x / a + 1) * a = omega (arith, rest, cut, one, below) in
        record {
          above = omega (arith, rest, below);
          near = omega (arith, rest, below, h);
          multiple = ap (λ k. k % a) same ∙ mul-mod_left (x / a + 1) a;
        }

pub least_multiple : (a x : ℕ) → 0 < a → IsLeastMultiple a x (next_multiple_of x a)
least_multiple a x pos =
    let y : IsNext a x (next_multiple_of x a) = is_next a x pos in
    record {
      above = y.above;
      multiple = y.multiple;
      least = λ n h e. ⊎_elim
          (λ (l : n < next_multiple_of x a).
          absurd (let far : n + a ≤ next_multiple_of x a = apart a n (next_multiple_of x a) e y.multiple l in
          let near : next_multiple_of x a < x + a = y.near in omega (arith, far, near, h)))
          (λ (g : next_multiple_of x a ≤ n). g)
          (cases_lt n (next_multiple_of x a));
    }

pub one_least_multiple : (a x y z : ℕ) → IsLeastMultiple a x y → IsLeastMultiple a x z → y ≡ z
one_least_multiple a x y z h k =
    let up : y ≤ z = h.least z k.above k.multiple in
    let down : z ≤ y = k.least y h.above h.multiple in
    omega (arith, up, down)
