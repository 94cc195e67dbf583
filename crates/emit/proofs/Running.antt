-- The data commands of one output section after another.
use Rattle.emit.proofs.Common.{AllZip, AreDataFrom, AreDataOf, Each, IsImageData, List, NumberedData, PlacedOutput, []}
use Rattle.emit.proofs.Common.{ap, arith, cond, data_of, drop, drop-cons, enumerate_from, eq-eqb, eqb-true, false}
use Rattle.emit.proofs.Common.{false_from_ne_true, flat_map, get_or, length, length-drop, length-take-le, map, numbered}
use Rattle.emit.proofs.Common.{refl, run_length, subst, suc, sym, take, take-suc, take_all, true, zero, zip_more, ℕ}
use Rattle.emit.proofs.Common.{◌++◌, ◌+◌, ◌-◌, ◌<◌, ◌==◌, ◌∙◌, ◌∷◌, ◌≡◌, ◌≤◌}
use Rattle.ldmodel.specs.Layout as layout
use Rattle.ldmodel.specs.declared.placed.PlacedData.{PlacedData}

-- the output sections before a number have their data commands, and the others are those of what is left
pub record Runs (commands : List PlacedData) (count section at : ℕ) (runs : List (List PlacedData)) : Type 0 where
  pub within : at ≤ length commands
  pub so_far : (qs : List PlacedOutput) → AreDataFrom 0 qs commands → count ≡ length qs
      → AllZip AreDataOf (take section qs) runs
  pub rest : (qs : List PlacedOutput) → AreDataFrom 0 qs commands → count ≡ length qs
      → AreDataFrom section (drop section qs) (drop at commands)

abbrev Other : ℕ → NumberedData → Type 0
Other k n = (n.section == k) ≡ false

abbrev with_number : ℕ → layout.PlacedData → NumberedData
with_number k d = record { section = k; start = d.start; bytes = d.bytes }

each_join : {X : Type 0} (P : X → Type 0) (xs ys : List X) → Each P xs → Each P ys → Each P (xs ++ ys)
each_join P [] ys h k = k
each_join P (x ∷ xs) ys h k = (h.0, each_join P xs ys h.1 k)

others_in : (k m : ℕ) → k < m → (ds : List layout.PlacedData) → Each (Other k) (map (with_number m) ds)
others_in k m l [] = tt
others_in k m l (d ∷ ds) =
    (false_from_ne_true (m == k) (λ t. absurd (omega (arith, l, eqb-true m k t))), others_in k m l ds)

others : (k m : ℕ) → k < m → (qs : List PlacedOutput) → Each (Other k) (flat_map numbered (enumerate_from m qs))
others k m l [] = tt
others k m l (q ∷ qs) =
    each_join (Other k) (map (with_number m) q.data_commands) (flat_map numbered (enumerate_from (m + 1) qs))
    (others_in k m l q.data_commands) (others k (m + 1) (omega (arith, l)) qs)

-- the data commands with a number, and then others
record Cut (k : ℕ) (es : List layout.PlacedData) (more : List NumberedData) (ds : List PlacedData) : Type 0 where
  pub own : AllZip IsImageData es (take (run_length k ds) ds)
  pub left : map data_of (drop (run_length k ds) ds) ≡ more

stops : (k : ℕ) (d : PlacedData) (ds : List PlacedData) → (d.section.0 == k) ≡ false → run_length k (d ∷ ds) ≡ 0
stops k d ds e = ap (λ b. cond b (suc (run_length k ds)) 0) e

goes_on : (k : ℕ) (d : PlacedData) (ds : List PlacedData) → (d.section.0 == k) ≡ true
    → run_length k (d ∷ ds) ≡ suc (run_length k ds)
goes_on k d ds e = ap (λ b. cond b (suc (run_length k ds)) 0) e

cut : (k : ℕ) (es : List layout.PlacedData) (more : List NumberedData) (ds : List PlacedData)
    → map data_of ds ≡ map (with_number k) es ++ more → Each (Other k) more → Cut k es more ds
cut k [] more [] e h = record { own = tt; left = e }
cut k [] [] (d ∷ ds) e h = absurd (let none : ⊥ = cc in none)
cut k [] (m ∷ ms) (d ∷ ds) e h =
    let same : data_of d ≡ m = cc in
    let none : run_length k (d ∷ ds) ≡ 0 = stops k d ds (ap (λ n. n.section == k) same ∙ h.0) in
    record {
      own = subst (λ n. AllZip IsImageData [] (take n (d ∷ ds))) (sym none) tt;
      left = ap (λ n. map data_of (drop n (d ∷ ds))) none ∙ e;
    }
cut k (x ∷ es) more [] e h = absurd (let none : ⊥ = cc in none)
cut k (x ∷ es) more (d ∷ ds) e h =
    let same : data_of d ≡ with_number k x = cc in
    let tail : map data_of ds ≡ map (with_number k) es ++ more = cc in
    let one : run_length k (d ∷ ds) ≡ suc (run_length k ds) =
    goes_on k d ds (eq-eqb d.section.0 k (ap (λ n. n.section) same)) in
    let rest = cut k es more ds tail h in
    let is : IsImageData x d = record { start = ap (λ n. n.start) same; bytes = ap (λ n. n.bytes) same } in
    record {
      own = subst (λ n. AllZip IsImageData (x ∷ es) (take n (d ∷ ds))) (sym one) (is, rest.own);
      left = ap (λ n. map data_of (drop n (d ∷ ds))) one ∙ rest.left;
    }

pub drop_drop : {X : Type 0} (m n : ℕ) (xs : List X) → drop n (drop m xs) ≡ drop (m + n) xs
drop_drop zero n xs = let e : n ≡ zero + n = omega arith in ap (λ k. drop k xs) e
drop_drop (suc m) n [] = drop_none n ∙ sym (drop_none (suc m + n))
  where
    drop_none : {X : Type 0} (k : ℕ) → drop k (let l : List X = [] in l) ≡ []
    drop_none zero = refl
    drop_none (suc k) = refl
drop_drop (suc m) n (x ∷ xs) =
    let e : suc (m + n) ≡ suc m + n = omega arith in drop_drop m n xs ∙ ap (λ k. drop k (x ∷ xs)) e

pub no_runs : (commands : List PlacedData) (count : ℕ) → Runs commands count 0 0 []
no_runs commands count = record { within = omega arith; so_far = λ qs e l. tt; rest = λ qs e l. e }

-- one output section more
pub one_run : (commands : List PlacedData) (count k at n : ℕ) (runs : List (List PlacedData)) → k < count
    → n ≡ run_length k (drop at commands) → at + n ≤ length commands → Runs commands count k at runs
    → Runs commands count (k + 1) (at + n) (runs ++ take n (drop at commands) ∷ [])
one_run commands count k at n runs l is end h = record {
  within = end;
  so_far = λ qs e long.
      let d = front qs long in
      let c = cut_at qs e long in
      let own : AreDataOf (get_or qs k d) (take n (drop at commands)) =
      subst (λ m. AreDataOf (get_or qs k d) (take m (drop at commands))) (sym is) c.own in
      let more : take (k + 1) qs ≡ take k qs ++ get_or qs k d ∷ [] =
      ap (λ m. take m qs) suc_is ∙ take-suc qs k d (omega (arith, l, long)) in
      subst (λ rs. AllZip AreDataOf rs (runs ++ take n (drop at commands) ∷ [])) (sym more)
      (zip_more AreDataOf (take k qs) runs (get_or qs k d) (take n (drop at commands)) (h.so_far qs e long) own);
  rest = λ qs e long.
      let c = cut_at qs e long in
      ap (map data_of) (sym (drop_drop at n commands) ∙ ap (λ m. drop m (drop at commands)) is) ∙ c.left;
} where
  suc_is : k + 1 ≡ suc k
  suc_is = omega arith

  front : (qs : List PlacedOutput) → count ≡ length qs → PlacedOutput
  front [] long = absurd (omega (arith, l, long))
  front (q ∷ qs) long = q

  cut_at : (qs : List PlacedOutput) (e : AreDataFrom 0 qs commands) (long : count ≡ length qs)
      → Cut k ((get_or qs k (front qs long)).data_commands)
      (flat_map numbered (enumerate_from (k + 1) (drop (k + 1) qs))) (drop at commands)
  cut_at qs e long =
      let d = front qs long in
      let split : drop k qs ≡ get_or qs k d ∷ drop (k + 1) qs =
      drop-cons qs k d (omega (arith, l, long)) ∙ ap (λ m. get_or qs k d ∷ drop m qs) (sym suc_is) in
      cut k ((get_or qs k d).data_commands) (flat_map numbered (enumerate_from (k + 1) (drop (k + 1) qs)))
      (drop at commands)
      (h.rest qs e long ∙ ap (λ rs. flat_map numbered (enumerate_from k rs)) split)
      (others k (k + 1) (omega arith) (drop (k + 1) qs))

-- one output section more, where its data commands are pushed
pub one_pushed : (commands : List PlacedData) (count k at m : ℕ) (runs items : List (List PlacedData)) → k < count
    → m ≡ run_length k (take (length commands - at) (drop at commands))
    → m ≤ length (take (length commands - at) (drop at commands))
    → items ≡ runs ++ take m (take (length commands - at) (drop at commands)) ∷ [] → Runs commands count k at runs
    → Runs commands count (k + 1) (at + length (take m (take (length commands - at) (drop at commands)))) items
one_pushed commands count k at m runs items l is within pushed h =
    let rest : List PlacedData = take (length commands - at) (drop at commands) in
    let left : length (drop at commands) ≡ length commands - at = length-drop at commands in
    let whole : rest ≡ drop at commands = take_all (length commands - at) (drop at commands) (omega (arith, left)) in
    let long : length rest ≡ length commands - at = ap length whole ∙ left in
    let own : length (take m rest) ≡ m = length-take-le m rest within in
    let end : at + m ≤ length commands = omega (arith, long, within, h.within) in
    subst (λ n. Runs commands count (k + 1) (at + n) items) (sym own)
    (subst (λ rs. Runs commands count (k + 1) (at + m) rs) (sym (pushed ∙ ap (λ r. runs ++ take m r ∷ []) whole))
    (one_run commands count k at m runs l (is ∙ ap (run_length k) whole) end h))
