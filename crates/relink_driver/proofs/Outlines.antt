-- Objects of which the code finds that they differ in what their sections hold alone.
use Rattle.relink_driver.proofs.Common.{LinkedSection, List, NamedSymbol, None, Option, Relocation, Section}
use Rattle.relink_driver.proofs.Common.{SectionOutline, Some, Symbol, SymbolIndex, [], ap, arith, cases_lt, false}
use Rattle.relink_driver.proofs.Common.{get_or_from_slice_get, inl, inr, length, length-map, map, option_map, refl}
use Rattle.relink_driver.proofs.Common.{same_Some, same_lists, section_of, section_outline, section_targets, slice_get}
use Rattle.relink_driver.proofs.Common.{slice_get-get_or, slice_get-map, slice_index_or, subst, sym, true, ℕ, ◌+◌, ◌<◌}
use Rattle.relink_driver.proofs.Common.{◌∙◌, ◌∷◌, ◌≡◌, ◌≤◌, ◌⊎◌}

-- lists that have the same at each place
pub same_at : {X : Type 0} (xs ys : List X) → length xs ≡ length ys
    → ((k : ℕ) → k < length xs → slice_get xs k ≡ slice_get ys k) → xs ≡ ys
same_at xs ys long same =
    same_lists xs ys long (λ k d within.
    sym (get_or_from_slice_get ys k _ d (sym (same k within) ∙ slice_get-get_or xs k d within)))

-- lists have the same at the first places
abbrev pub AreSame : {X : Type 0} → List X → List X → ℕ → Type 0
AreSame xs ys n = (k : ℕ) → k < n → slice_get xs k ≡ slice_get ys k

pub none_same : {X : Type 0} (xs ys : List X) → AreSame xs ys 0
none_same xs ys k less = absurd (omega (arith, less))

-- and at one place more
pub one_more : {X : Type 0} (xs ys : List X) (n : ℕ) → AreSame xs ys n → slice_get xs n ≡ slice_get ys n
    → AreSame xs ys (n + 1)
one_more xs ys n before here k less = go (cases_lt k n)
  where
    go : (k < n) ⊎ (n ≤ k) → slice_get xs k ≡ slice_get ys k
    go (inl earlier) = before k earlier
    go (inr previous) =
        let same : n ≡ k = omega (arith, less, previous) in
        subst (λ j. slice_get xs j ≡ slice_get ys j) same here

module _ {X A B C : Type 0} (g : X → A) (h : X → B) (both : A → B → C) where
  abbrev of : X → C
  of x = both (g x) (h x)

  one : (m n : Option X) → option_map g m ≡ option_map g n → option_map h m ≡ option_map h n
      → option_map of m ≡ option_map of n
  one None None e f = refl
  one None (Some y) e f = absurd (let none : ⊥ = cc in none)
  one (Some x) None e f = absurd (let none : ⊥ = cc in none)
  one (Some x) (Some y) e f =
      ap Some (ap (λ a. both a (h x)) (same_Some _ _ e) ∙ ap (both (g y)) (same_Some _ _ f))

  pub same_more : (xs ys : List X) (n : ℕ) → slice_get (map g xs) n ≡ slice_get (map g ys) n
      → slice_get (map h xs) n ≡ slice_get (map h ys) n → AreSame (map of xs) (map of ys) n
      → AreSame (map of xs) (map of ys) (n + 1)
  same_more xs ys n e f before =
      one_more (map of xs) (map of ys) n before
      (slice_get-map of xs n
      ∙ one (slice_get xs n) (slice_get ys n) (sym (slice_get-map g xs n) ∙ e ∙ slice_get-map g ys n)
      (sym (slice_get-map h xs n) ∙ f ∙ slice_get-map h ys n) ∙ sym (slice_get-map of ys n))

  pub all_same : (xs ys : List X) (n : ℕ) → length (map g xs) ≡ length (map g ys) → n ≡ length (map g xs)
      → AreSame (map of xs) (map of ys) n → map of xs ≡ map of ys
  all_same xs ys n long is same =
      let a = length-map xs g in
      let b = length-map ys g in
      let c = length-map xs of in
      let d = length-map ys of in
      same_at (map of xs) (map of ys) (omega (arith, long, a, b, c, d))
      (λ k less. same k (omega (arith, is, a, c, less)))

-- ---- symbols and sections

abbrev pub named_symbol : Symbol → List ℕ → NamedSymbol
named_symbol x name = record { name = name; symbol = x }

abbrev pub symbols_again : List NamedSymbol → List NamedSymbol
symbols_again xs = map (λ (x : NamedSymbol). named_symbol x.symbol x.name) xs

pub again : (xs : List NamedSymbol) → symbols_again xs ≡ xs
again [] = refl
again (x ∷ xs) = ap (λ ys. x ∷ ys) (again xs)

abbrev pub named_section : Section → List ℕ → SectionOutline
named_section x name = record {
  number = x.number;
  name = name;
  kind = x.kind;
  flags = x.flags;
  size = x.size;
  alignment = x.alignment;
}

-- what an index reads
pub read_same : {X : Type 0} (xs ys us vs : List X) (n : ℕ) (d : X) → us ≡ xs → vs ≡ ys → n < length us
    → length us ≡ length vs → slice_index_or us n d ≡ slice_index_or vs n d → slice_get xs n ≡ slice_get ys n
read_same xs ys us vs n d e f less long same =
    ap (λ l. slice_get l n) (sym e) ∙ slice_get-get_or us n d less ∙ ap Some same
    ∙ sym (slice_get-get_or vs n d (omega (arith, less, long))) ∙ ap (λ l. slice_get l n) f

-- ---- the symbols that relocations name

abbrev pub symbol_of : Relocation → SymbolIndex
symbol_of r = r.symbol

abbrev pub symbols_named : List Relocation → List SymbolIndex
symbols_named rs = map symbol_of rs

-- what an index reads of each
pub same_symbol_at : (xs ys : List Relocation) (n : ℕ) (d : Relocation) → n < length xs → length xs ≡ length ys
    → (slice_index_or xs n d).symbol ≡ (slice_index_or ys n d).symbol
    → slice_get (symbols_named xs) n ≡ slice_get (symbols_named ys) n
same_symbol_at xs ys n d less long same =
    slice_get-map symbol_of xs n ∙ ap (option_map symbol_of) (slice_get-get_or xs n d less) ∙ ap Some same
    ∙ sym (ap (option_map symbol_of) (slice_get-get_or ys n d (omega (arith, less, long))))
    ∙ sym (slice_get-map symbol_of ys n)

pub targets_at : (xs : List LinkedSection) (n : ℕ) (rs : List Relocation)
    → slice_get (map (λ (x : LinkedSection). x.relocations) xs) n ≡ Some rs
    → slice_get (map section_targets xs) n ≡ Some (symbols_named rs)
targets_at xs n rs at =
    slice_get-map section_targets xs n ∙ map_twice (slice_get xs n)
    ∙ ap (option_map symbols_named) (sym (slice_get-map (λ (x : LinkedSection). x.relocations) xs n) ∙ at)
  where
    map_twice : (m : Option LinkedSection) → option_map section_targets m
        ≡ option_map symbols_named (option_map (λ (x : LinkedSection). x.relocations) m)
    map_twice None = refl
    map_twice (Some x) = refl

-- lists of the same length that are the same at each place
pub all_mapped : {X Y : Type 0} (f : X → Y) (xs ys : List X) (n : ℕ) → length xs ≡ length ys → n ≡ length xs
    → AreSame (map f xs) (map f ys) n → map f xs ≡ map f ys
all_mapped f xs ys n long is same =
    let a = length-map xs f in
    let b = length-map ys f in
    same_at (map f xs) (map f ys) (omega (arith, long, a, b)) (λ k less. same k (omega (arith, is, a, less)))

-- ---- lists that are the same have the same at each place

-- what a boolean says cannot be
pub never : {X : Type 0} → false ≡ true → X
never e = absurd (let none : ⊥ = cc in none)

-- what an index reads of each
pub mapped_read : {X Y : Type 0} (f : X → Y) (xs ys : List X) (n : ℕ) (d : X) → n < length xs → length xs ≡ length ys
    → map f xs ≡ map f ys → f (slice_index_or xs n d) ≡ f (slice_index_or ys n d)
mapped_read f xs ys n d less long same =
    same_Some _ _ (sym (mapped xs less) ∙ ap (λ l. slice_get l n) same ∙ mapped ys (omega (arith, less, long)))
  where
    mapped : (l : List _) → n < length l → slice_get (map f l) n ≡ Some (f (slice_index_or l n d))
    mapped l within = slice_get-map f l n ∙ ap (option_map f) (slice_get-get_or l n d within)

-- a section without its name
abbrev bare : SectionOutline → Section
bare x = record { number = x.number; kind = x.kind; flags = x.flags; size = x.size; alignment = x.alignment }

pub same_bare : (xs ys : List LinkedSection) (us vs : List Section) (n : ℕ) (d : Section) → us ≡ map section_of xs
    → vs ≡ map section_of ys → map section_outline xs ≡ map section_outline ys
    → slice_index_or us n d ≡ slice_index_or vs n d
same_bare xs ys us vs n d e f same =
    ap (λ l. slice_index_or l n d) (e ∙ of xs ∙ ap (map bare) same ∙ sym (of ys) ∙ sym f)
  where
    of : (l : List LinkedSection) → map section_of l ≡ map bare (map section_outline l)
    of [] = refl
    of (x ∷ l) = ap (λ rest. section_of x ∷ rest) (of l)

pub same_section_names : (xs ys : List LinkedSection) → map section_outline xs ≡ map section_outline ys
    → map (λ (x : LinkedSection). x.name) xs ≡ map (λ (x : LinkedSection). x.name) ys
same_section_names xs ys same = of xs ∙ ap (map (λ (o : SectionOutline). o.name)) same ∙ sym (of ys)
  where
    of : (l : List LinkedSection)
        → map (λ (x : LinkedSection). x.name) l ≡ map (λ (o : SectionOutline). o.name) (map section_outline l)
    of [] = refl
    of (x ∷ l) = ap (λ rest. x.name ∷ rest) (of l)
