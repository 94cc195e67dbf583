-- The signs of runs, counted from left to right.
use Rattle.ldscript_tokens.proofs.Common.{Bool, CodeToken, LexState, List, Mode, [], add-one, ap, arith, cond, count_by}
use Rattle.ldscript_tokens.proofs.Common.{drop, drop-cons, drop_all, false, get_or, if◌then◌else◌, length, list_any}
use Rattle.ldscript_tokens.proofs.Common.{map, moded, nat_le, refl, rules, state_after, subst, sum_by-cons, sym}
use Rattle.ldscript_tokens.proofs.Common.{token_of, true, ℕ, ◌&&◌, ◌++◌, ◌+◌, ◌<◌, ◌∙◌, ◌∷◌, ◌≡◌, ◌≤◌}
use Rattle.ldscript_tokens.specs.Tokens.{Token}
use Rattle.ldscript_tokens.specs.Limits.{ModedToken, is_break, is_sign, HasShortRuns, counted_mode}

abbrev pub breaks : ModedToken → Bool
breaks m = is_break m.mode m.token

abbrev pub sign : ModedToken → ℕ
sign m = cond (is_sign m.token) 1 0

abbrev pub signs_in : List ModedToken → ℕ
signs_in run = count_by (λ m. is_sign m.token) run

-- the signs of the run that a token ends, after this number of them
abbrev pub signs_to : ℕ → ModedToken → ℕ
signs_to c m = if breaks m then 0 else c + sign m

-- no run has more than 64 signs, where the first goes on one that has this number of them
abbrev pub runs_from : ℕ → List ModedToken → Bool
runs_from c [] = true
runs_from c (m ∷ ms) = nat_le (signs_to c m) 64 && runs_from (signs_to c m) ms

-- the run at the front has room for this number of further signs
abbrev pub HasShortFront : ℕ → List ModedToken → Type 0
HasShortFront c ms = (run after : List ModedToken) → ms ≡ run ++ after → list_any breaks run ≡ false
    → c + signs_in run ≤ 64

pub front_nil : (c : ℕ) → c ≤ 64 → HasShortFront c []
front_nil c h [] after e b = omega (arith, h)
front_nil c h (r ∷ rs) after e b = absurd (cc)

pub front_cons : (c : ℕ) (m : ModedToken) (ms : List ModedToken) → c ≤ 64 → breaks m ≡ false
    → HasShortFront (c + sign m) ms → HasShortFront c (m ∷ ms)
front_cons c m ms h out f [] after e b = omega (arith, h)
front_cons c m ms h out f (r ∷ rs) after e b =
    let x : m ≡ r = cc in
    let y : ms ≡ rs ++ after = cc in
    let z : list_any breaks rs ≡ false = rw (sym x, out) at b in
    let s : signs_in (r ∷ rs) ≡ sign r + signs_in rs = sum_by-cons (λ k. cond (is_sign k.token) 1 0) r rs in
    omega (arith, s, ap sign x, f rs after y z)

pub front_break : (c : ℕ) (m : ModedToken) (ms : List ModedToken) → c ≤ 64 → breaks m ≡ true → HasShortFront c (m ∷ ms)
front_break c m ms h is [] after e b = omega (arith, h)
front_break c m ms h is (r ∷ rs) after e b =
    let x : m ≡ r = cc in
    let z : true ≡ false = rw (sym x, is) at b in
    absurd (cc)

pub front_less : (c d : ℕ) (ms : List ModedToken) → d ≤ c → HasShortFront c ms → HasShortFront d ms
front_less c d ms le f run after e b = omega (arith, le, f run after e b)

pub runs_nil : HasShortRuns []
runs_nil [] [] after e b = omega arith
runs_nil [] (r ∷ rs) after e b = absurd (cc)
runs_nil (x ∷ xs) run after e b = absurd (cc)

pub runs_cons : (m : ModedToken) (ms : List ModedToken) → HasShortFront 0 (m ∷ ms) → HasShortRuns ms
    → HasShortRuns (m ∷ ms)
runs_cons m ms f h [] run after e b = omega (arith, f run after e b)
runs_cons m ms f h (x ∷ xs) run after e b = h xs run after (cc) b

pub both : (n : ℕ) (b : Bool) → (nat_le n 64 && b) ≡ true → (n ≤ 64) × (b ≡ true)
both n b h = search rules

pub to_both : (n : ℕ) (b : Bool) → n ≤ 64 → b ≡ true → (nat_le n 64 && b) ≡ true
to_both n b h e = search rules

abbrev pub AreShort : ℕ → List ModedToken → Type 0
AreShort c ms = HasShortRuns ms × HasShortFront c ms

pub short_step : (b : Bool) (c : ℕ) (m : ModedToken) (ms : List ModedToken) → breaks m ≡ b → c ≤ 64
    → runs_from c (m ∷ ms) ≡ true
    → ((d : ℕ) → d ≤ 64 → runs_from d ms ≡ true → AreShort d ms) → AreShort c (m ∷ ms)
short_step true c m ms is h t ih =
    let k = both 0 (runs_from 0 ms) (rw is at t) in
    let o = ih 0 k.0 k.1 in
    (runs_cons m ms (front_break 0 m ms k.0 is) o.0, front_break c m ms h is)
short_step false c m ms is h t ih =
    let k = both (c + sign m) (runs_from (c + sign m) ms) (rw is at t) in
    let o = ih (c + sign m) k.0 k.1 in
    let f = front_cons c m ms h is o.1 in
    (runs_cons m ms (front_less c 0 (m ∷ ms) (omega arith) f) o.0, f)

pub short_runs : (c : ℕ) (ms : List ModedToken) → c ≤ 64 → runs_from c ms ≡ true → AreShort c ms
short_runs c [] h t = (runs_nil, front_nil c h)
short_runs c (m ∷ ms) h t = short_step (breaks m) c m ms refl h t (λ d. short_runs d ms)

pub runs_tail : (m : ModedToken) (ms : List ModedToken) → HasShortRuns (m ∷ ms) → HasShortRuns ms
runs_tail m ms h before run after e b = h (m ∷ before) run after (ap (λ v. m ∷ v) e) b

pub runs_step : (b : Bool) (c : ℕ) (m : ModedToken) (ms : List ModedToken) → breaks m ≡ b → HasShortRuns (m ∷ ms)
    → HasShortFront c (m ∷ ms)
    → ((d : ℕ) → HasShortFront d ms → runs_from d ms ≡ true) → runs_from c (m ∷ ms) ≡ true
runs_step true c m ms is h f ih =
    let g : HasShortFront 0 ms = λ run after e b. omega (arith, h (m ∷ []) run after (ap (λ v. m ∷ v) e) b) in
    rw is (to_both 0 (runs_from 0 ms) (omega arith) (ih 0 g))
runs_step false c m ms is h f ih =
    let s : (run : List ModedToken)
    → signs_in (m ∷ run) ≡ sign m + signs_in run = λ run. sum_by-cons (λ k. cond (is_sign k.token) 1 0) m run in
    let one : c + sign m ≤ 64 = omega (arith, f (m ∷ []) ms refl (rw is refl), s []) in
    let g : HasShortFront (c + sign m) ms = λ run after e b. omega
    (arith, f (m ∷ run) after (ap (λ v. m ∷ v) e) (rw is b), s run) in
    rw is (to_both (c + sign m) (runs_from (c + sign m) ms) one (ih (c + sign m) g))

pub runs_short : (c : ℕ) (ms : List ModedToken) → HasShortRuns ms → HasShortFront c ms → runs_from c ms ≡ true
runs_short c [] h f = refl
runs_short c (m ∷ ms) h f = runs_step (breaks m) c m ms refl h f (λ d g. runs_short d ms (runs_tail m ms h) g)

pub runs_all : (ms : List ModedToken) → runs_from 0 ms ≡ true → HasShortRuns ms
runs_all ms t = (short_runs 0 ms (omega arith) t).0

pub runs_not : (ms : List ModedToken) → runs_from 0 ms ≡ false → HasShortRuns ms → ⊥
runs_not ms t h =
    let s : runs_from 0 ms ≡ true = runs_short 0 ms h (λ run after e b. omega (arith, h [] run after e b)) in
    cc

pub drop_next : {X : Type 0} (xs : List X) (i : ℕ) (d : X) → i < length xs → drop i xs ≡ get_or xs i d ∷ drop (i + 1) xs
drop_next xs i d lt = rw (add-one i) (drop-cons xs i d lt)

-- the next token of a list
pub runs_next : (text : List ℕ) (tokens : List CodeToken) (i c : ℕ) (p : LexState) (d : CodeToken) → i < length tokens
    → runs_from c (moded p (map (token_of text) (drop i tokens)))
    ≡ (let t = token_of text (get_or tokens i d) in
    let n = signs_to c (record { token = t; mode = counted_mode p t }) in
    nat_le n 64 && runs_from n (moded (state_after p t) (map (token_of text) (drop (i + 1) tokens))))
runs_next text tokens i c p d lt = ap (λ ts. runs_from c (moded p (map (token_of text) ts))) (drop_next tokens i d lt)

pub few_signs : (n : ℕ) → n ≤ 64 → nat_le n 64 ≡ true
few_signs n h = search rules

pub many_signs : (n : ℕ) → 64 < n → nat_le n 64 ≡ false
many_signs n h = search rules

abbrev pub IsNext : ℕ → LexState → Token → ℕ → Mode → Type 0
IsNext c p t n mode = (mode ≡ counted_mode p t) × (n ≡ (if is_break mode t then 0 else c + cond (is_sign t) 1 0))

pub next_signs : (c : ℕ) (p : LexState) (t : Token) (n : ℕ) (mode : Mode) → IsNext c p t n mode
    → n ≡ signs_to c (record { token = t; mode = counted_mode p t })
next_signs c p t n mode (a, b) = rw a at b

pub run_passed : (text : List ℕ) (tokens : List CodeToken) (i c n : ℕ) (p next : LexState) (mode : Mode) (d : CodeToken)
    → i < length tokens
    → IsNext c p (token_of text (get_or tokens i d)) n mode
    → next ≡ state_after p (token_of text (get_or tokens i d)) → n ≤ 64
    → runs_from c (moded p (map (token_of text) (drop i tokens))) ≡ runs_from n
    (moded next (map (token_of text) (drop (i + 1) tokens)))
run_passed text tokens i c n p next mode d lt is s le =
    let t = token_of text (get_or tokens i d) in
    let m = signs_to c (record { token = t; mode = counted_mode p t }) in
    let e : n ≡ m = next_signs c p t n mode is in
    let rest = λ (k : ℕ) (q : LexState). runs_from k (moded q (map (token_of text) (drop (i + 1) tokens))) in
    runs_next text tokens i c p d lt
    ∙ ap (λ b. b && rest m (state_after p t)) (few_signs m (subst (λ k. k ≤ 64) e le))
    ∙ ap (λ k. rest k (state_after p t)) (sym e)
    ∙ ap (λ q. rest n q) (sym s)

pub run_over : (text : List ℕ) (tokens : List CodeToken) (i c n : ℕ) (p : LexState) (mode : Mode) (d : CodeToken)
    → i < length tokens
    → IsNext c p (token_of text (get_or tokens i d)) n mode → 64 < n
    → runs_from c (moded p (map (token_of text) (drop i tokens))) ≡ false
run_over text tokens i c n p mode d lt is gt =
    let t = token_of text (get_or tokens i d) in
    let m = signs_to c (record { token = t; mode = counted_mode p t }) in
    let e : n ≡ m = next_signs c p t n mode is in
    runs_next text tokens i c p d lt
    ∙ ap (λ b. b && runs_from m (moded (state_after p t) (map (token_of text) (drop (i + 1) tokens))))
    (many_signs m (subst (λ k. 64 < k) e gt))

pub runs_end : (text : List ℕ) (tokens : List CodeToken) (i c : ℕ) (p : LexState) → length tokens ≤ i
    → runs_from c (moded p (map (token_of text) (drop i tokens))) ≡ true
runs_end text tokens i c p h = ap (λ ts. runs_from c (moded p (map (token_of text) ts))) (drop_all i tokens h)
