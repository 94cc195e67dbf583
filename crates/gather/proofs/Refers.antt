-- The sections that relocations refer to, by numbers.
use Rattle.gather.proofs.Common.{AddsTargets, AreProjectPlaces, Bool, Contains, Contains-append_cases}
use Rattle.gather.proofs.Common.{Contains-append_left, Contains-append_right, InputSection, IsObjectAt, IsPlaceOf, List}
use Rattle.gather.proofs.Common.{NamedObject, NamedSymbol, None, ObjectData, Option, Project, Relocation, SectionRef}
use Rattle.gather.proofs.Common.{Some, [], ap, append-nil, append_assoc, arith, cond, decision, get_or, get_or_default}
use Rattle.gather.proofs.Common.{is_local, is_section, length, list_any, option_and_then, option_map, option_to_list}
use Rattle.gather.proofs.Common.{or_cases, or_left, or_right, same_Some, section_id, section_of_decision}
use Rattle.gather.proofs.Common.{section_of_place, section_of_symbol, slice_get, slice_get-get_or, slice_get_past}
use Rattle.gather.proofs.Common.{subst, suc, sym, symbol_at, take, target_section, true, zero, ℕ, ⊎_elim, ◌++◌, ◌+◌}
use Rattle.gather.proofs.Common.{◌<◌, ◌||◌, ◌∙◌, ◌∷◌, ◌≡◌, ◌≤◌}
use Rattle.std.proofs.lemmas.List.Folds.{list_any_more}
use Rattle.gather.proofs.Keyed.{place_of_key}
use Rattle.gather.proofs.Seen.{object_at}

-- nothing refers to nothing
pub no_targets : (p : Project) (i : ℕ) (old : List ℕ) → AddsTargets p i [] old old
no_targets p i old = record {
  added = [];
  is = sym (append-nil old);
  are = λ b s at. (λ h. absurd (cc), λ c. absurd (omega (arith, c.1)));
}

in_option : (o : Option ℕ) (b : ℕ) → Contains (option_to_list o) b → o ≡ Some b
in_option None b c = absurd (omega (arith, c.1))
in_option (Some n) b c = go c.0 c.1 c.2
  where
    go : (k : ℕ) → k < 1 → get_or (n ∷ []) k b ≡ b → Some n ≡ Some b
    go zero l e = ap (λ x. Some x) e
    go (suc k) l e = absurd (omega (arith, l))

option_in : (o : Option ℕ) (b : ℕ) → o ≡ Some b → Contains (option_to_list o) b
option_in None b h = absurd (cc)
option_in (Some n) b h = (0, omega arith, same_Some n b h)

-- one relocation more
module _ (p : Project) (i : ℕ) (rs : List Relocation) (n : ℕ) (r : Relocation) (number : Option ℕ)
    (old before new : List ℕ) (low : n < length rs) (here : get_or rs n r ≡ r)
    (is : IsPlaceOf p (target_section p i r) number) (pushed : new ≡ before ++ option_to_list number)
    (had : AddsTargets p i (take n rs) old before) where
  more : (s : InputSection) → list_any (λ r. is_section (target_section p i r) s) (take (n + 1) rs)
      ≡ (list_any (λ r. is_section (target_section p i r) s) (take n rs) || is_section (target_section p i r) s)
  more s = list_any_more (λ r. is_section (target_section p i r) s) rs n r low
      ∙ ap (λ (q : Relocation). list_any (λ r. is_section (target_section p i r) s) (take n rs)
      || is_section (target_section p i q) s) here

  pub more_targets : AddsTargets p i (take (n + 1) rs) old new
  more_targets = record {
    added = had.added ++ option_to_list number;
    is = pushed ∙ (ap (λ l. l ++ option_to_list number) had.is
        ∙ append_assoc old had.added (option_to_list number));
    are = λ b s at. (
      λ h. ⊎_elim
          (λ e. Contains-append_left had.added (option_to_list number) b ((had.are b s at).0 e))
          (λ e. Contains-append_right had.added (option_to_list number) b (option_in number b ((is b s at).0 e)))
          (or_cases _ _ (sym (more s) ∙ h)),
      λ c. more s ∙ ⊎_elim
          (λ e. or_left _ _ ((had.are b s at).1 e))
          (λ e. or_right _ _ ((is b s at).1 (in_option number b e)))
          (Contains-append_cases had.added (option_to_list number) b c),
    );
  }

-- the place of the target of a relocation, by that of its symbol
pub target_place : (p : Project) (i : ℕ) (r : Relocation) (number : Option ℕ)
    → IsPlaceOf p (option_and_then (section_of_symbol p i) (symbol_at p i r.symbol.0)) number
    → IsPlaceOf p (target_section p i r) number
unfolding target_section
target_place p i r number is = is

module _ (p : Project) (i : ℕ) (r : Relocation) (object : ObjectData) (at : IsObjectAt p i object) where
  shown_symbol : symbol_at p i r.symbol.0 ≡ slice_get object.symbols r.symbol.0
  shown_symbol =
      let o = object_at p i object at in
      ap (option_and_then (λ (x : NamedObject). slice_get x.object.symbols r.symbol.0)) o.1
      ∙ ap (λ (x : ObjectData). slice_get x.symbols r.symbol.0) o.2

  -- of no symbol there is no target
  pub no_target : length object.symbols ≤ r.symbol.0 → IsPlaceOf p (target_section p i r) None
  no_target past =
      target_place p i r None
      (subst (λ (o : Option NamedSymbol). IsPlaceOf p (option_and_then (section_of_symbol p i) o) None)
      (sym (shown_symbol ∙ slice_get_past object.symbols r.symbol.0 past))
      (λ b s stands. (λ h. absurd (cc), λ h. absurd (cc))))

  module _ (d : NamedSymbol) (number : Option ℕ) (low : r.symbol.0 < length object.symbols) where
    abbrev symbol : NamedSymbol
    symbol = get_or object.symbols r.symbol.0 d

    -- of a symbol it is the place of the section that this refers to
    pub symbol_target : IsPlaceOf p (section_of_symbol p i symbol) number → IsPlaceOf p (target_section p i r) number
    symbol_target is =
        target_place p i r number
        (subst (λ (o : Option NamedSymbol). IsPlaceOf p (option_and_then (section_of_symbol p i) o) number)
        (sym (shown_symbol ∙ slice_get-get_or object.symbols r.symbol.0 d low)) is)

    -- of a local one its own
    pub local_target : (place : SectionRef → Option ℕ) (key : Option SectionRef) → AreProjectPlaces p place
        → is_local symbol.symbol.binding ≡ true
        → option_map (section_id (λ key. key)) key ≡ section_of_place i symbol.symbol.place
        → number ≡ option_and_then place key → IsPlaceOf p (target_section p i r) number
    local_target place key are local same is =
        symbol_target (place_of_key p place key (section_of_symbol p i symbol) number are
        (same ∙ sym (ap (λ (b : Bool). cond b (section_of_place i symbol.symbol.place)
        (section_of_decision p (decision p symbol.name))) local)) is)

-- the same of the relocation at a place
pub next_targets : (p : Project) (i : ℕ) (rs : List Relocation) (n : ℕ) (d : Relocation) (number : Option ℕ)
    (old before new : List ℕ) → n < length rs → IsPlaceOf p (target_section p i (get_or rs n d)) number
    → new ≡ before ++ option_to_list number → AddsTargets p i (take n rs) old before
    → AddsTargets p i (take (n + 1) rs) old new
next_targets p i rs n d number old before new low is pushed had =
    more_targets p i rs n (get_or rs n d) number old before new low (get_or_default rs n (get_or rs n d) d low) is
    pushed had
