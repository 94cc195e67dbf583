-- Spans that are written after others.
use Rattle.emit_image.proofs.Common.{Bool, Bytes, Counts, IsPainted, List, Spot, [], after_zeros, ap, arith, cases_lt}
use Rattle.emit_image.proofs.Common.{cond, count_from, count_unstayed, false, get_or, inl, inr, length, nat_tests}
use Rattle.emit_image.proofs.Common.{raised, refl, suc, sym, true, true≢false, zero, ℕ, ◌+◌, ◌-◌, ◌<◌, ◌∙◌, ◌∷◌, ◌≡◌}
use Rattle.emit_image.proofs.Common.{◌≤◌}
use Rattle.emit_image.proofs.Counting.{raised_more}
use Rattle.emit_image.proofs.Unstayed.{nothing, one_more, unless}

-- ---- how many bytes do not stay

count_same : (f g : ℕ → Spot) (from n : ℕ) → ((o : ℕ) → from ≤ o → o < from + n → f o ≡ g o)
    → count_from f from n ≡ count_from g from n
count_same f g from zero h = refl
count_same f g from (suc n) h =
    ap (λ k. k + cond (f (from + n)).stays 0 1) (count_same f g from n (λ o a b. h o a (omega arith)))
    ∙ ap (λ (x : Spot). count_from g from n + cond x.stays 0 1) (h (from + n) (omega arith) (omega arith))

count_split : (f : ℕ → Spot) (from a b : ℕ) → count_from f from (a + b)
    ≡ count_from f from a + count_from f (from + a) b
count_split f from a zero =
    let none : a + 0 ≡ a = omega arith in
    ap (count_from f from) none
    ∙ (let t : count_from f from a ≡ count_from f from a + 0 = omega arith in t)
count_split f from a (suc b) =
    let next : a + suc b ≡ suc (a + b) = omega arith in
    let place : from + (a + b) ≡ from + a + b = omega arith in
    let rest = count_split f from a b in
    ap (count_from f from) next
    ∙ ap (λ o. count_from f from (a + b) + cond (f o).stays 0 1) place
    ∙ ap (λ k. k + cond (f (from + a + b)).stays 0 1) rest
    ∙ (let t : count_from f from a + count_from f (from + a) b + cond (f (from + a + b)).stays 0 1
    ≡ count_from f from a + (count_from f (from + a) b + cond (f (from + a + b)).stays 0 1) = omega arith in t)

count_then : (f : ℕ → Spot) (from mid to : ℕ) → from ≤ mid → mid ≤ to → count_from f from (to - from)
    ≡ count_from f from (mid - from) + count_from f mid (to - mid)
count_then f from mid to a b =
    let sum : to - from ≡ mid - from + (to - mid) = omega (arith, a, b) in
    let there : from + (mid - from) ≡ mid = omega (arith, a) in
    ap (count_from f from) sum ∙ count_split f from (mid - from) (to - mid)
    ∙ ap (λ o. count_from f from (mid - from) + count_from f o (to - mid)) there

count_alike : (f : ℕ → Spot) (b : Bool) (from n : ℕ) → ((o : ℕ) → (f o).stays ≡ b) → count_from f from n
    ≡ unless b n
count_alike f b from zero h = sym (nothing b)
count_alike f b from (suc n) h =
    ap (λ (c : Bool). count_from f from n + cond c 0 1) (h (from + n))
    ∙ ap (λ k. k + unless b 1) (count_alike f b from n h) ∙ one_more b n

pub count_from_start : (f : ℕ → Spot) (n : ℕ) → count_from f 0 n ≡ count_unstayed f n
count_from_start f zero = refl
count_from_start f (suc n) =
    let place : 0 + n ≡ n = omega arith in
    ap (λ o. count_from f 0 n + cond (f o).stays 0 1) place
    ∙ ap (λ k. k + cond (f n).stays 0 1) (count_from_start f n)

-- ---- what was written

nothing_more : (m : Counts) (a : ℕ) → 0 ≡ a → (n : ℕ) → raised m Bytes n ≡ raised m Bytes (a + n)
nothing_more m a e n = let t : n ≡ a + n = omega (arith, e) in ap (λ k. raised m Bytes k) t

-- what stays, where the canvas grew by zeros, which is what a byte past its end counts as
pub painted_kept : (old new : List ℕ) (m : Counts) (from to : ℕ) (image : ℕ → Spot) → ((o : ℕ) → (image o).stays ≡ true)
    → ((o : ℕ) → get_or new o 0 ≡ get_or old o 0) → to ≤ length new → IsPainted old new m m from to image
painted_kept old new m from to image stays same long = record {
  drawn = λ o a b e. absurd (true≢false (sym (stays o) ∙ e));
  kept = λ o a b e. same o;
  below = λ o a. same o;
  above = λ o a. same o;
  reached = λ _. long;
  counted = nothing_more m (count_from image from (to - from)) (sym (count_alike image true from (to - from) stays));
}

-- what does not stay
pub painted_own : (old grown new : List ℕ) (m n : Counts) (from to : ℕ) (own_byte : ℕ → ℕ) (stays : Bool) → from ≤ to
    → stays ≡ false → ((o : ℕ) → get_or grown o 0 ≡ get_or old o 0) → to ≤ length grown
    → ((i : ℕ) → i < to - from → get_or new (from + i) 0 ≡ own_byte i)
    → ((o : ℕ) → o < from → get_or new o 0 ≡ get_or grown o 0)
    → ((o : ℕ) → to ≤ o → get_or new o 0 ≡ get_or grown o 0) → length new ≡ length grown
    → n ≡ raised m Bytes (to - from)
    → IsPainted old new m n from to (λ o. record { byte = own_byte (o - from); stays = stays })
painted_own old grown new m n from to own_byte stays up drawn same long own before after len counted = record {
  drawn = λ o a b e. (let back : from + (o - from) ≡ o = omega (arith, a) in
      ap (λ j. get_or new j 0) (sym back) ∙ own (o - from) (omega (arith, a, b)));
  kept = λ o a b e. absurd (true≢false (sym e ∙ drawn));
  below = λ o a. before o a ∙ same o;
  above = λ o a. after o a ∙ same o;
  reached = λ _. omega (arith, len, long);
  counted = λ i. (let all = count_alike (λ o. record { byte = own_byte (o - from); stays = stays }) false from
      (to - from) (λ o. drawn) in
      ap (λ (q : Counts). raised q Bytes i) counted ∙ raised_more m (to - from) i (to - from + i) refl
      ∙ ap (λ k. raised m Bytes (k + i)) (sym all));
}

-- nothing yet
pub painted_none : (old : List ℕ) (m : Counts) (from to : ℕ) (image : ℕ → Spot) → from ≡ to
    → IsPainted old old m m from to image
painted_none old m from to image e = record {
  drawn = λ o a b s. absurd (omega (arith, e, a, b));
  kept = λ o a b s. refl;
  below = λ o a. refl;
  above = λ o a. refl;
  reached = λ l. omega (arith, e, l);
  counted = nothing_more m (count_from image from (to - from))
      (let none : to - from ≡ 0 = omega (arith, e) in sym (ap (count_from image from) none));
}

-- of one image and then of another that agree
pub painted_as : (old new : List ℕ) (m n : Counts) (from to : ℕ) (image other : ℕ → Spot)
    → IsPainted old new m n from to image → from ≤ to → ((o : ℕ) → from ≤ o → o < to → image o ≡ other o)
    → IsPainted old new m n from to other
painted_as old new m n from to image other g up same = record {
  drawn = λ o a b e. (let s = same o a b in
      g.drawn o a b (ap (λ (x : Spot). x.stays) s ∙ e) ∙ ap (λ (x : Spot). x.byte) s);
  kept = λ o a b e. g.kept o a b (ap (λ (x : Spot). x.stays) (same o a b) ∙ e);
  below = g.below;
  above = g.above;
  reached = g.reached;
  counted = λ i. g.counted i
      ∙ ap (λ k. raised m Bytes (k + i))
      (count_same image other from (to - from) (λ o a b. same o a (omega (arith, up, b))));
}

-- one after the other
pub painted_then : (old mid new : List ℕ) (m p n : Counts) (from between to : ℕ) (image : ℕ → Spot) → from ≤ between
    → between ≤ to → IsPainted old mid m p from between image → IsPainted mid new p n between to image
    → IsPainted old new m n from to image
painted_then old mid new m p n from between to image a b g h = record {
  drawn = λ o c d e. elim (cases_lt o between) [
    | inl l ↦ h.below o l ∙ g.drawn o c l e
    | inr l ↦ h.drawn o l d e
  ];
  kept = λ o c d e. elim (cases_lt o between) [
    | inl l ↦ h.below o l ∙ g.kept o c l e
    | inr l ↦ h.kept o l d e ∙ g.above o l
  ];
  below = λ o c. h.below o (omega (arith, a, c)) ∙ g.below o c;
  above = λ o c. h.above o c ∙ g.above o (omega (arith, b, c));
  reached = λ l. h.reached (g.reached l);
  counted = λ i. (let first = count_from image from (between - from) in
      let second = count_from image between (to - between) in
      let sum = count_then image from between to a b in
      h.counted i ∙ g.counted (second + i)
      ∙ ap (λ k. raised m Bytes k) (let t : first + (second + i) ≡ count_from image from (to - from) + i =
      omega (arith, sum) in t));
}

-- zeros, and what stands after them
below_zeros : (begin o : ℕ) (image : ℕ → Spot) → o < begin → after_zeros begin image o
    ≡ record { byte = 0; stays = false }
below_zeros begin o image l = grind (arith, nat_tests)

past_zeros : (begin o : ℕ) (image : ℕ → Spot) → begin ≤ o → after_zeros begin image o ≡ image o
past_zeros begin o image l = grind (arith, nat_tests)

pub painted_after_zeros : (old mid new : List ℕ) (m p n : Counts) (from begin end : ℕ) (zero_at : ℕ → ℕ)
    (image : ℕ → Spot) → from ≤ begin → begin ≤ end → ((o : ℕ) → zero_at o ≡ 0)
    → IsPainted old mid m p from begin (λ o. record { byte = zero_at o; stays = false })
    → IsPainted mid new p n begin end image → IsPainted old new m n from end (after_zeros begin image)
painted_after_zeros old mid new m p n from begin end zero_at image a b zeros g h =
    painted_then old mid new m p n from begin end (after_zeros begin image) a b
    (painted_as old mid m p from begin (λ o. record { byte = zero_at o; stays = false }) (after_zeros begin image) g a
    (λ o l k. ap (λ (i : ℕ). record { byte = i; stays = false }) (zeros o) ∙ sym (below_zeros begin o image k)))
    (painted_as mid new p n begin end image (after_zeros begin image) h b
    (λ o l k. sym (past_zeros begin o image l)))

-- the one zero
abbrev pub one_zero : List ℕ
one_zero = 0 ∷ []

pub zero_byte : (k : ℕ) → get_or one_zero k 0 ≡ 0
zero_byte zero = refl
zero_byte (suc k) = refl
