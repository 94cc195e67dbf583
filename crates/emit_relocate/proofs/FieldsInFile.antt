-- A site whose field, if it has one, was added to a list, and then put into its place in the file.
use Rattle.emit_relocate.proofs.Common.{Bool, Counts, FileRange, IsFiled, IsTried, KnownLink, LinkedSection, List}
use Rattle.emit_relocate.proofs.Common.{NamedObject, Option, Patch, Relocation, Site, Some, [], ap, append-nil, arith}
use Rattle.emit_relocate.proofs.Common.{cond, cons_option, false, field_at, file_patch_at, filter_map, in_file}
use Rattle.emit_relocate.proofs.Common.{is_evaluated, length, length_push, map, option_and_then, option_to_list, refl}
use Rattle.emit_relocate.proofs.Common.{same_from_push, sites_among, sym, true, ℕ, ◌++◌, ◌∙◌, ◌∷◌, ◌≡◌}
use Rattle.std.proofs.Common.{None}
use Rattle.ldmodel.specs.declared.fault.Fault as code

as_list : (m : Option Patch) → cons_option m [] ≡ option_to_list m
as_list None = refl
as_list (Some q) = refl

-- sites that have one field at most
record HasOneField (l : KnownLink) (r : FileRange) (ts : List Site) : Type 0 where
  field : Option Patch
  fields : filter_map (field_at l) ts ≡ option_to_list field
  files : filter_map (file_patch_at l r) ts ≡ option_to_list (option_and_then (in_file r) field)

module _ (l : KnownLink) (r : FileRange) (o : NamedObject) (x : LinkedSection) (start : ℕ) (a : Relocation) where
  one_field : HasOneField l r (sites_among o x start (a ∷ []))
  one_field = go (is_evaluated a.kind)
    where
      site : Relocation → Site
      site b = record { object = o; section = x; start = start; relocation = b }

      go : (b : Bool) → HasOneField l r (map site (cond b (a ∷ []) []))
      go true = record {
        field = field_at l (site a);
        fields = as_list (field_at l (site a));
        files = as_list (file_patch_at l r (site a));
      }
      go false = record { field = None; fields = refl; files = refl }

  module _ (p0 p1 : List Patch) (g0 g1 : List code.Fault) (m0 m1 : Counts)
      (tried : IsTried l (sites_among o x start (a ∷ [])) p0 p1 g0 g1 m0 m1) where
    h : HasOneField l r (sites_among o x start (a ∷ []))
    h = one_field

    none_filed : (m : Option Patch) → p1 ≡ p0 ++ option_to_list m → length p1 ≡ length p0
        → p1 ≡ p0 ++ option_to_list (option_and_then (in_file r) m)
    none_filed None e same = e
    none_filed (Some q) e same = absurd (omega (arith, same, ap length e, length_push p0 q))

    -- it has none: nothing was added
    pub filed_none : length p1 ≡ length p0 → IsFiled l r (sites_among o x start (a ∷ [])) p0 p1 g0 g1 m0 m1
    filed_none same = record {
      patches = none_filed h.field (tried.fields ∙ ap (λ xs. p0 ++ xs) h.fields) same
          ∙ ap (λ xs. p0 ++ xs) (sym h.files);
      counts = tried.counts;
    }

    module _ (p2 p3 : List Patch) (q : Patch) (popped : p1 ≡ p2 ++ q ∷ [])
        (put : p3 ≡ p2 ++ option_to_list (in_file r q)) where
      one_filed : (m : Option Patch) → p1 ≡ p0 ++ option_to_list m → (length p1 ≡ length p0 → ⊥)
          → p3 ≡ p0 ++ option_to_list (option_and_then (in_file r) m)
      one_filed None e differs = absurd (differs (ap length (e ∙ append-nil p0)))
      one_filed (Some y) e differs =
          let same = same_from_push p2 p0 q y (sym popped ∙ e) in
          put ∙ ap (λ xs. xs ++ option_to_list (in_file r q)) same.0
          ∙ ap (λ (z : Patch). p0 ++ option_to_list (in_file r z)) same.1

      -- it was the last, and was put into its place
      pub filed_one : (length p1 ≡ length p0 → ⊥) → IsFiled l r (sites_among o x start (a ∷ [])) p0 p3 g0 g1 m0 m1
      filed_one differs = record {
        patches = one_filed h.field (tried.fields ∙ ap (λ xs. p0 ++ xs) h.fields) differs
            ∙ ap (λ xs. p0 ++ xs) (sym h.files);
        counts = tried.counts;
      }
