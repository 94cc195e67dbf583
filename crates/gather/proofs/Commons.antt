-- Common symbols, and the blocks of those between the first and the last.
use Rattle.gather.proofs.Common.{AreCommonsIn, Bool, InputSection, IsObjectAt, List, NamedSymbol, None, ObjectData}
use Rattle.gather.proofs.Common.{Option, Project, [], add-one, ap, append-nil, arith, cases_eq, cases_lt}
use Rattle.gather.proofs.Common.{enumerate_from, false, filter_map, filter_map-append, get_or, get_or_from_slice_get}
use Rattle.gather.proofs.Common.{inl, inr, is_common_place, length, length-enumerate_from, option_to_list, refl, suc}
use Rattle.gather.proofs.Common.{sym, take, take-suc, take_all, true, zero, ℕ, ⊎_elim, ◌++◌, ◌+◌, ◌-◌, ◌<◌, ◌∙◌, ◌∷◌}
use Rattle.gather.proofs.Common.{◌≡◌, ◌≤◌, ◌⊎◌}
use Rattle.ldmodel.specs.InputSections as model
use Rattle.gather.proofs.InLists.{there}
use Rattle.gather.proofs.Lists.{filter_map_one, numbered}
use Rattle.gather.proofs.Owning.{owns_none}

-- ---- the first and the last

-- the common ones of the first n symbols
pub record CommonsBefore (symbols : List NamedSymbol) (n start end : ℕ) : Type 0 where
  pub order : start ≤ end
  pub within : end ≤ n
  pub all : (k : ℕ) (d : NamedSymbol) → k < n → k < length symbols
      → is_common_place (get_or symbols k d).symbol.place ≡ true → (start ≤ k) × (k < end)

pub no_commons : (symbols : List NamedSymbol) → CommonsBefore symbols 0 0 0
no_commons symbols = record {
  order = omega arith;
  within = omega arith;
  all = λ k d low short is. absurd (omega (arith, low));
}

module _ (symbols : List NamedSymbol) (n start end : ℕ) (h : CommonsBefore symbols n start end) where
  -- one more that is not common
  pub not_common : ((d : NamedSymbol) → is_common_place (get_or symbols n d).symbol.place ≡ false)
      → CommonsBefore symbols (n + 1) start end
  not_common other = record {
    order = h.order;
    within = omega (arith, h.within);
    all = λ k d low short is. at k d low short is (cases_eq k n);
  }
    where
      at : (k : ℕ) (d : NamedSymbol) → k < n + 1 → k < length symbols
          → is_common_place (get_or symbols k d).symbol.place ≡ true → (k ≡ n) ⊎ (k ≡ n → ⊥)
          → (start ≤ k) × (k < end)
      at k d low short is (inl same) = absurd (no (sym is
          ∙ (ap (λ j. is_common_place (get_or symbols j d).symbol.place) same ∙ other d)))
        where
          no : true ≡ false → ⊥
          no e = absurd (cc)
      at k d low short is (inr ne) = h.all k d (before k n low ne) short is
        where
          before : (k n : ℕ) → k < n + 1 → (k ≡ n → ⊥) → k < n
          before k n low ne = omega (arith, low, ne)

  -- the first common one
  pub first_common : end ≡ 0 → CommonsBefore symbols (n + 1) n (n + 1)
  first_common none = record {
    order = omega arith;
    within = omega arith;
    all = λ k d low short is. at k d low short is (cases_eq k n);
  }
    where
      at : (k : ℕ) (d : NamedSymbol) → k < n + 1 → k < length symbols
          → is_common_place (get_or symbols k d).symbol.place ≡ true → (k ≡ n) ⊎ (k ≡ n → ⊥)
          → (n ≤ k) × (k < n + 1)
      at k d low short is (inl same) = (omega (arith, same), low)
      at k d low short is (inr ne) =
          let was = h.all k d (omega (arith, low, ne)) short is in
          absurd (omega (arith, was.1, none))

  -- one more common one
  pub next_common : CommonsBefore symbols (n + 1) start (n + 1)
  next_common = record {
    order = omega (arith, h.order, h.within);
    within = omega arith;
    all = λ k d low short is. at k d low short is (cases_eq k n);
  }
    where
      at : (k : ℕ) (d : NamedSymbol) → k < n + 1 → k < length symbols
          → is_common_place (get_or symbols k d).symbol.place ≡ true → (k ≡ n) ⊎ (k ≡ n → ⊥)
          → (start ≤ k) × (k < n + 1)
      at k d low short is (inl same) = (omega (arith, same, h.order, h.within), low)
      at k d low short is (inr ne) = ((h.all k d (omega (arith, low, ne)) short is).0, low)

  pub all_commons : length symbols ≤ n → n ≤ length symbols → AreCommonsIn symbols start end
  all_commons past upto = record {
    order = h.order;
    within = omega (arith, h.within, upto);
    all = λ k d short is. h.all k d (omega (arith, short, past)) short is;
  }

-- ---- the blocks

-- members that give nothing
nothing_more : {X Z : Type 0} (f : ℕ × X → Option Z) (xs : List X) (k : ℕ) → k < length xs
    → ((d : X) → f (k, get_or xs k d) ≡ None)
    → filter_map f (take (k + 1) (enumerate_from 0 xs)) ≡ filter_map f (take k (enumerate_from 0 xs))
nothing_more {X} {Z} f xs k low none =
    let at = there xs k low in
    let all : List (ℕ × X) = enumerate_from 0 xs in
    let one : ℕ × X = (k, at.0) in
    let within : k < length all = omega (arith, low, length-enumerate_from 0 xs) in
    let next : take (k + 1) all ≡ take k all ++ one ∷ [] =
    ap (λ (m : ℕ). take m all) (add-one k)
    ∙ (take-suc all k one within ∙ ap (λ (t : ℕ × X). take k all ++ t ∷ []) (numbered xs k at.0 one at.1)) in
    let here : f one ≡ None =
    ap (λ (x : X). f (k, x)) (sym (get_or_from_slice_get xs k at.0 at.0 at.1)) ∙ none at.0 in
    ap (filter_map f) next
    ∙ (filter_map-append f (take k all) (one ∷ [])
    ∙ (ap (λ l. filter_map f (take k all) ++ l)
    (filter_map_one f one ∙ ap (λ (o : Option Z). option_to_list o) here)
    ∙ append-nil (filter_map f (take k all))))

nothing_between : {X Z : Type 0} (f : ℕ × X → Option Z) (xs : List X) (n c : ℕ) → n + c ≤ length xs
    → ((k : ℕ) → n ≤ k → k < n + c → k < length xs → (d : X) → f (k, get_or xs k d) ≡ None)
    → filter_map f (take (n + c) (enumerate_from 0 xs)) ≡ filter_map f (take n (enumerate_from 0 xs))
nothing_between f xs n zero upto none =
    let same : n + 0 ≡ n = omega arith in
    ap (λ (m : ℕ). filter_map f (take m (enumerate_from 0 xs))) same
nothing_between f xs n (suc c) upto none =
    let same : n + suc c ≡ (n + c) + 1 = omega arith in
    ap (λ (m : ℕ). filter_map f (take m (enumerate_from 0 xs))) same
    ∙ (nothing_more f xs (n + c) (omega (arith, upto))
    (λ d. none (n + c) (omega arith) (omega arith) (omega (arith, upto)) d)
    ∙ nothing_between f xs n c (omega (arith, upto)) (λ k from low short d. none k from (omega (arith, low)) short d))

module _ (p : Project) (i : ℕ) (object : ObjectData) (start end : ℕ) (at : IsObjectAt p i object)
    (h : AreCommonsIn object.symbols start end) (name : List ℕ) where
  abbrev block : ℕ × NamedSymbol → Option InputSection
  block = model.block_at p i (record { name = name; object = object })

  outside : (k : ℕ) → k < length object.symbols → (k < start) ⊎ (end ≤ k) → (d : NamedSymbol)
      → block (k, get_or object.symbols k d) ≡ None
  outside k low out d = owns_none p i k object d at low name
      (inr (go (is_common_place (get_or object.symbols k d).symbol.place) refl))
    where
      go : (b : Bool) → is_common_place (get_or object.symbols k d).symbol.place ≡ b
          → is_common_place (get_or object.symbols k d).symbol.place ≡ false
      go false e = e
      go true e =
          let in_them = h.all k d low e in
          elim out [
            | inl here ↦ absurd (omega (arith, here, in_them.0))
            | inr there ↦ absurd (omega (arith, there, in_them.1))
          ]

  -- none before the first
  pub none_before : filter_map block (take start (enumerate_from 0 object.symbols)) ≡ []
  none_before =
      let s : 0 + start ≡ start = omega arith in
      ap (λ (m : ℕ). filter_map block (take m (enumerate_from 0 object.symbols))) (sym s)
      ∙ nothing_between block object.symbols 0 start (omega (arith, h.order, h.within))
      (λ k from low short d. outside k short (inl (omega (arith, low))) d)

  -- none after the last
  pub none_after : (n : ℕ) → end ≤ n
      → filter_map block (take n (enumerate_from 0 object.symbols))
      ≡ filter_map block (enumerate_from 0 object.symbols)
  none_after n past = ⊎_elim inside all_taken (cases_lt n (length object.symbols))
    where
      all_taken : length object.symbols ≤ n → filter_map block (take n (enumerate_from 0 object.symbols))
          ≡ filter_map block (enumerate_from 0 object.symbols)
      all_taken long = ap (filter_map block) (take_all n (enumerate_from 0 object.symbols)
          (omega (arith, long, length-enumerate_from 0 object.symbols)))

      inside : n < length object.symbols → filter_map block (take n (enumerate_from 0 object.symbols))
          ≡ filter_map block (enumerate_from 0 object.symbols)
      inside low =
          let long : n + (length object.symbols - n) ≡ length object.symbols = omega (arith, low) in
          sym (nothing_between block object.symbols n (length object.symbols - n) (omega (arith, long))
          (λ k from low short d. outside k short (inr (omega (arith, from, past))) d))
          ∙ ap (filter_map block) (take_all (n + (length object.symbols - n)) (enumerate_from 0 object.symbols)
          (omega (arith, long, length-enumerate_from 0 object.symbols)))
