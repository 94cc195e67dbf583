-- The numbers of linked sections ascend, so that a binary search finds them.
use Rattle.elfobj.proofs.Common.{All, All-map, AllPairs, Err, IsBinarySearchResult, IsNonDecreasingBy, List, None, Ok}
use Rattle.elfobj.proofs.Common.{Option, Progbits, SectionHeader, SectionKind, Some, ap, append-nil, arith, cases_lt}
use Rattle.elfobj.proofs.Common.{e_shnum, get_or, header, inl, inr, length, linked_kind, linked_section, map}
use Rattle.elfobj.proofs.Common.{map-append, option_to_list, section_of, sections_below, sections_of, subst, suc, sym}
use Rattle.elfobj.proofs.Common.{zero, ℕ, ◌++◌, ◌<◌, ◌≡◌, ◌≢◌, ◌≤◌}
use Rattle.std.specs.Ordering.{nat_cmp, ordering_index}
use Rattle.std.proofs.lemmas.Bool.Decides.{nat_tests}
use Rattle.std.proofs.lemmas.Cmp.{ranked}
use Rattle.std.proofs.lemmas.List.Quantifiers.{all_pairs_push}
use Rattle.std.proofs.lemmas.List.Sorted.{IsNonDecreasingBy-from_default}
use Rattle.elfobj.specs.Numbering.{IsNumberedAt}
use Rattle.elfobj_file.specs.declared.section.Section.{Section}
use Rattle.elfobj_file.specs.declared.section.SectionIndex.{SectionIndex}
use Rattle.elfobj.proofs.RelocationReads.{all_below}

abbrev pub IsBefore : Section → Section → Type 0
IsBefore s t = s.number.0 < t.number.0

abbrev pub no_section : Section
no_section = record { number = record { 0 = 0 }; kind = Progbits; flags = 0; size = 0; alignment = 0 }

one_more : (bytes : List ℕ) (n : ℕ) (h : SectionHeader) (o : Option SectionKind) (ss : List Section)
    → All (λ (s : Section). s.number.0 < n) ss → AllPairs IsBefore ss
    → AllPairs IsBefore (ss ++ map section_of (option_to_list (linked_section bytes n h o)))
one_more bytes n h None ss a p = subst (AllPairs IsBefore) (sym (append-nil ss)) p
one_more bytes n h (Some kind) ss a p = all_pairs_push IsBefore ss _ p a

below : (bytes : List ℕ) (n : ℕ) → AllPairs IsBefore (map section_of (sections_below bytes n))
below bytes zero = λ i j d l m. absurd (omega arith)
below bytes (suc n) =
    subst (AllPairs IsBefore) (sym
    (map-append section_of (sections_below bytes n)
    (option_to_list (linked_section bytes n (header bytes n) (linked_kind (header bytes n))))))
    (one_more bytes n (header bytes n) (linked_kind (header bytes n)) (map section_of (sections_below bytes n))
    (All-map (λ (s : Section). s.number.0 < n) section_of (sections_below bytes n) (all_below bytes n n (omega arith)))
    (below bytes n))

pub ascending : (bytes : List ℕ) → AllPairs IsBefore (map section_of (sections_of bytes))
unfolding sections_of
ascending bytes = below bytes (e_shnum bytes)

module _ (ss : List Section) (up : AllPairs IsBefore ss) (n : SectionIndex) where
  comparisons_rise : IsNonDecreasingBy (λ (s : Section). ordering_index (nat_cmp s.number.0 n.0)) ss
  comparisons_rise = IsNonDecreasingBy-from_default
      (λ (s : Section). ordering_index (nat_cmp s.number.0 n.0)) ss no_section (λ i j le in_range.
      let numbers_rise : (get_or ss i no_section).number.0 ≤ (get_or ss j no_section).number.0 = grind
      (arith, up i j no_section, λ (same : i ≡ j). ap (λ k. (get_or ss k no_section).number.0) same) in
      grind (arith, nat_tests))

  pub found_at : (i : ℕ) → i < length ss → IsBinarySearchResult (λ (s : Section). nat_cmp s.number.0 n.0) ss (Ok i)
      → IsNumberedAt ss n i
  found_at i l equal = record { within = l; number_is = λ d. ranked _ n.0 _ (sym (equal d)) }

  pub found_none : (i : ℕ) → IsBinarySearchResult (λ (s : Section). nat_cmp s.number.0 n.0) ss (Err i)
      → All (λ (s : Section). s.number.0 ≢ n.0) ss
  found_none i parted = λ k d l same. elim (cases_lt k i) [
    | inl m ↦ let below = ranked _ n.0 _ (sym ((parted comparisons_rise).0 k d (omega arith) m)) in
        omega (arith, below, same)
    | inr m ↦ let above = ranked _ n.0 _ (sym ((parted comparisons_rise).1 k d m l)) in omega (arith, above, same)
  ]
