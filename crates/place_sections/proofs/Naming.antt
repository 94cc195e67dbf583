-- What expressions may name does not turn on the names of input sections.
use Rattle.place_sections.proofs.Common.{Bool, KeyedSection, LayoutCursor, List, Naming, Option, Placed, PlacedOutput}
use Rattle.place_sections.proofs.Common.{PlacedOutputs, Some, [], ap, bytes_eq, cond, false, find, layout_of, map}
use Rattle.place_sections.proofs.Common.{option_map, refl, scope_of, section_named, section_of, sym, true, ℕ, ◌∙◌, ◌∷◌}
use Rattle.place_sections.proofs.Common.{◌≡◌}
use mathlib.Core.Path.{fun_ext}
use Rattle.ldmodel.specs.Value.{SectionNumbers}

abbrev pub asked : Placed → SectionNumbers
asked q = record { start = q.start; load = q.load; size = q.size }

pub numbers_found : (n : Naming) (xs : List KeyedSection) (name : List ℕ)
    → option_map asked (option_map (λ (x : KeyedSection).
    x.placed) (find (λ (x : KeyedSection). bytes_eq x.name name) xs))
    ≡ option_map (λ (q : PlacedOutput). record { start = q.start; load = q.load; size = q.size })
    (section_named (map (section_of n) xs) name)
numbers_found n [] name = refl
numbers_found n (x ∷ xs) name = go (bytes_eq x.name name) (numbers_found n xs name)
  where
    go : (b : Bool) → option_map asked
        (option_map (λ (y : KeyedSection). y.placed) (find (λ (y : KeyedSection). bytes_eq y.name name) xs))
        ≡ option_map (λ (q : PlacedOutput). record { start = q.start; load = q.load; size = q.size })
        (section_named (map (section_of n) xs) name)
        → option_map asked (option_map (λ (y : KeyedSection).
        y.placed) (cond b (Some x) (find (λ (y : KeyedSection). bytes_eq y.name name) xs)))
        ≡ option_map (λ (q : PlacedOutput). record { start = q.start; load = q.load; size = q.size })
        (cond b (Some (section_of n x)) (section_named (map (section_of n) xs) name))
    go true h = refl
    go false h = h

pub same_scope : (n m : Naming) (h : LayoutCursor) (d : PlacedOutputs) → scope_of (layout_of n h d)
    ≡ scope_of (layout_of m h d)
same_scope n m h d =
    ap (λ (f : List ℕ → Option SectionNumbers).
    record {
      symbol = (scope_of (layout_of n h d)).symbol;
      section = f;
      region =
          (scope_of (layout_of n h d)).region;
    })
    (fun_ext (λ name. sym (numbers_found n d.sections.list name) ∙ numbers_found m d.sections.list name))
