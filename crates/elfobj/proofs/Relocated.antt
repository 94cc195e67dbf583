-- Which sections have relocations, and how many at most, by the places of these.
use Rattle.elfobj.proofs.Common.{All, All-head, All-tail, Bool, IsInside, LinkedSection, List, PartSpans, Relocation}
use Rattle.elfobj.proofs.Common.{Some, Span, [], ap, arith, drop, false, get_or, get_or-map, le-ltb, length}
use Rattle.elfobj.proofs.Common.{length-drop, length-map, length-take-le, lt-ltb, ltb-false, ltb-true, map, nat_lt}
use Rattle.elfobj.proofs.Common.{refl, relocations_in, slice_get, sym, true, ℕ, ◌-◌, ◌<◌, ◌∙◌, ◌∷◌, ◌≡◌, ◌≤◌}
use Rattle.std.proofs.lemmas.Option.{slice_get-get_or}
use Rattle.elfobj.specs.PartSpans.{ArePlaced, is_relocated}
use Rattle.elfobj.proofs.Placed.{mapped}

abbrev has_any : List Relocation → Bool
has_any rs = nat_lt 0 (length rs)

abbrev list_of : LinkedSection → List Relocation
list_of s = s.relocations

-- a stretch has as many relocations as it is long
long : (all : List Relocation) (s : Span) → IsInside (length all) s → length (relocations_in all s) ≡ s.end - s.start
long all s h =
    length-take-le (s.end - s.start) (drop s.start all) (omega (arith, length-drop s.start all, h.order, h.end))

any_at : (all : List Relocation) (p : PartSpans) → IsInside (length all) p.relocations
    → is_relocated p ≡ has_any (relocations_in all p.relocations)
any_at all p h = go (nat_lt p.relocations.start p.relocations.end) refl
  where
    many : length (relocations_in all p.relocations) ≡ p.relocations.end - p.relocations.start
    many = long all p.relocations h

    go : (b : Bool) → nat_lt p.relocations.start p.relocations.end ≡ b
        → nat_lt p.relocations.start p.relocations.end ≡ has_any (relocations_in all p.relocations)
    go true e =
        e
        ∙ sym (lt-ltb 0 (length (relocations_in all p.relocations))
        (omega (arith, many, ltb-true p.relocations.start p.relocations.end e)))
    go false e =
        e
        ∙ sym (le-ltb 0 (length (relocations_in all p.relocations))
        (omega (arith, many, ltb-false p.relocations.start p.relocations.end e)))

abbrev IsIn : List Relocation → PartSpans → Type 0
IsIn all p = IsInside (length all) p.relocations

any_in : (all : List Relocation) (ps : List PartSpans) → All (λ (p : PartSpans). IsInside (length all) p.relocations) ps
    → map is_relocated ps ≡ map (λ (p : PartSpans). has_any (relocations_in all p.relocations)) ps
any_in all [] h = refl
any_in all (p ∷ ps) h =
    ap (λ b. b ∷ map is_relocated ps) (any_at all p (All-head (IsIn all) p ps h))
    ∙ ap (λ bs. has_any (relocations_in all p.relocations) ∷ bs) (any_in all ps (All-tail (IsIn all) p ps h))

-- the flags of places are those of their sections
flags_are : (all : List Relocation) (ps : List PartSpans) (ls : List LinkedSection) → ArePlaced (map list_of ls) all ps
    → map is_relocated ps ≡ map (λ (s : LinkedSection). has_any s.relocations) ls
flags_are all ps ls h =
    any_in all ps h.within
    ∙ sym (mapped (λ (p : PartSpans). relocations_in all p.relocations) has_any ps)
    ∙ ap (map has_any) h.lists
    ∙ mapped list_of has_any ls

abbrev none : Span
none = record { start = 0; end = 0 }

-- no section has more relocations than there are
pub at_most : (all : List Relocation) (ps : List PartSpans) (ls : List LinkedSection) (n : ℕ)
    → ArePlaced (map list_of ls) all ps → n ≡ length all → All (λ (s : LinkedSection). length s.relocations ≤ n) ls
at_most all ps ls n h e k d l =
    let low : k < length ps = omega (
      arith,
      l,
      length-map ps (λ (p : PartSpans). relocations_in all p.relocations),
      ap length h.lists,
      length-map ls list_of,
    ) in
    let p : PartSpans = get_or ps k (record { name = none; bytes = none; relocations = none }) in
    let here : IsInside (length all) p.relocations = h.within k _ low in
    let same : relocations_in all p.relocations ≡ (get_or ls k d).relocations =
    sym (get_or-map (λ (q : PartSpans). relocations_in all q.relocations) ps k _ d.relocations low)
    ∙ ap (λ rs. get_or rs k d.relocations) h.lists ∙ get_or-map list_of ls k d d.relocations l in
    omega (arith, e, long all p.relocations here, ap length same, here.order, here.end)

-- the flag of a section says whether it has any
pub flag_at : (all : List Relocation) (ps : List PartSpans) (ls : List LinkedSection) (flags : List Bool) (k : ℕ)
    (b : Bool)
    → ArePlaced (map list_of ls) all ps → flags ≡ map is_relocated ps → b ≡ get_or flags k b → k < length ls
    → slice_get (map (λ (s : LinkedSection). has_any s.relocations) ls) k ≡ Some b
flag_at all ps ls flags k b h are is l =
    let same : map (λ (s : LinkedSection). has_any s.relocations) ls ≡ flags = sym (are ∙ flags_are all ps ls h) in
    let low : k < length flags = omega (
      arith,
      l,
      ap length same,
      length-map ls (λ (s : LinkedSection). has_any s.relocations),
    ) in
    ap (λ bs. slice_get bs k) same ∙ slice_get-get_or flags k b low ∙ ap Some (sym is)
