-- The output sections of a layout stand in order in the file.
use Rattle.emit_image.proofs.Common.{All, BeginFrom, Bool, Each, IsTogether, List, Neighbours, PlacedOutput}
use Rattle.emit_image.proofs.Common.{SectionInFile, Shares, [], ap, arith, cond, end_of, false, filter, filter-append}
use Rattle.emit_image.proofs.Common.{flat_map, flat_map-cons, fold, get_or-append-add, get_or_append_left, in_file}
use Rattle.emit_image.proofs.Common.{length, length-append, map, nat_tests, refl, segment_start, subst, suc, sym, true}
use Rattle.emit_image.proofs.Common.{ℕ, ◌++◌, ◌+◌, ◌-◌, ◌<◌, ◌==◌, ◌∙◌, ◌∷◌, ◌≡◌, ◌≤◌}
use Rattle.ldmodel.specs.Segments.{Segment, file_end, in_segment, group_sections, shares_segment}

abbrev is_loaded : SectionInFile → Bool
is_loaded x = x.section.has_file_bytes

abbrev file_end_of : SectionInFile → ℕ
file_end_of x = x.offset + x.section.size

-- one after the other from an offset on
abbrev pub InFile : ℕ → List SectionInFile → Type 0
InFile from [] = Unit {0}
InFile from (x ∷ xs) = (from ≤ x.offset) × InFile (file_end_of x) xs

abbrev pub last_file_end : ℕ → List SectionInFile → ℕ
last_file_end from [] = from
last_file_end from (x ∷ xs) = last_file_end (file_end_of x) xs

abbrev Chain : ℕ → List PlacedOutput → Type 0
Chain low [] = Unit {0}
Chain low (q ∷ qs) = (low ≤ q.start) × Chain (end_of q) qs

shares-above : (p q : PlacedOutput) → shares_segment p q ≡ true → end_of p ≤ q.start
shares-above p q h = grind (arith, nat_tests)

chain-of : (p : PlacedOutput) (qs : List PlacedOutput) → Neighbours Shares (p ∷ qs) → Chain (end_of p) qs
chain-of p [] h = tt
chain-of p (q ∷ qs) h = (shares-above p q h.0, chain-of q qs h.1)

abbrev Full : PlacedOutput → Type 0
Full q = 0 < q.size

-- where the file bytes end, of which this number are of this segment
abbrev ended : (end offset n : ℕ) → ℕ
ended end offset n = cond (n == 0) end (offset + n)

ended-some : (end offset n : ℕ) → 0 < n → ended end offset n ≡ offset + n
ended-some end offset n h = grind (arith, nat_tests)

abbrev reached : ℕ → ℕ → PlacedOutput → ℕ
reached start n q = cond q.has_file_bytes (end_of q - start) n

record Walk (end offset start n : ℕ) (qs : List PlacedOutput) : Type 0 where
  order : InFile (ended end offset n)
      (filter is_loaded (map (λ (q : PlacedOutput). record { offset = offset + (q.start - start); section = q }) qs))
  last : last_file_end (ended end offset n)
      (filter is_loaded (map (λ (q : PlacedOutput). record { offset = offset + (q.start - start); section = q }) qs))
      ≡ ended end offset (fold (reached start) n qs)

walk : (end offset start low n : ℕ) (qs : List PlacedOutput) → start ≤ low
    → ended end offset n ≤ offset + (low - start) → Chain low qs → All Full qs → Walk end offset start n qs
walk end offset start low n [] a b c f = record { order = tt; last = refl }
walk end offset start low n (q ∷ qs) a b c f =
    (let done = claims q.has_file_bytes (λ low' m i j k l. walk end offset start low' m qs i j k l) in
    record { order = done.0; last = done.1 })
  where
    full : 0 < q.size
    full = f 0 q (omega arith)

    rest : List SectionInFile
    rest = filter is_loaded
        (map (λ (q : PlacedOutput). record { offset = offset + (q.start - start); section = q }) qs)

    here : SectionInFile
    here = record { offset = offset + (q.start - start); section = q }

    later : All Full qs
    later = λ k d l. f (suc k) d (omega arith)

    claims : (t : Bool) → ((low m : ℕ) → start ≤ low → ended end offset m ≤ offset + (low - start) → Chain low qs
        → All Full qs → Walk end offset start m qs)
        → InFile (ended end offset n) (cond t (here ∷ rest) rest)
        × (last_file_end (ended end offset n) (cond t (here ∷ rest) rest)
        ≡ ended end offset (fold (reached start) (cond t (end_of q - start) n) qs))
    claims true go =
        let m : ℕ = end_of q - start in
        let low' : start ≤ end_of q = omega (arith, c.0) in
        let some : 0 < m = omega (arith, full, c.0) in
        let there : ended end offset m ≡ offset + m = ended-some end offset m some in
        let same : file_end_of here ≡ ended end offset m = omega (arith, there, c.0) in
        let w = go (end_of q) m low' (omega (arith, there)) c.1 later in (
          (omega (arith, c.0), subst (λ (k : ℕ). InFile k rest) (sym same) w.order),
          ap (λ (k : ℕ). last_file_end k rest) same ∙ w.last,
        )
    claims false go =
        let low' : start ≤ end_of q = omega (arith, c.0) in
        let w = go (end_of q) n low' (omega (arith, c.0)) c.1 later in
        (w.order, w.last)

all-left : {X : Type 0} (P : X → Type 0) (xs ys : List X) → All P (xs ++ ys) → All P xs
all-left P xs ys h = λ k d l.
    (let e = h k d (rw length-append (omega arith)) in subst P (get_or_append_left xs ys d k l) e)

all-right : {X : Type 0} (P : X → Type 0) (xs ys : List X) → All P (xs ++ ys) → All P ys
all-right P xs ys h = λ k d l.
    (let e = h (length xs + k) d (rw length-append (omega arith)) in subst P (get_or-append-add xs ys k d) e)

file-append : (from : ℕ) (xs ys : List SectionInFile) → InFile from xs → InFile (last_file_end from xs) ys
    → InFile from (xs ++ ys)
file-append from [] ys a b = b
file-append from (x ∷ xs) ys a b = (a.0, file-append (file_end_of x) xs ys a.1 b)

last-append : (from : ℕ) (xs ys : List SectionInFile) → last_file_end from (xs ++ ys)
    ≡ last_file_end (last_file_end from xs) ys
last-append from [] ys = refl
last-append from (x ∷ xs) ys = last-append (file_end_of x) xs ys

-- those with file bytes stand in order past an end, and end where the segments' file bytes do
pub files : (end : ℕ) (gs : List Segment) → Each IsTogether (map (λ (g : Segment). g.group) gs) → BeginFrom end gs
    → All Full (flat_map group_sections (map (λ (g : Segment). g.group) gs))
    → InFile end (filter is_loaded (in_file gs))
    × (last_file_end end (filter is_loaded (in_file gs)) ≡ fold file_end end gs)
files end [] t b f = (tt, refl)
files end (g ∷ gs) t b f =
    let sections : List PlacedOutput = group_sections g.group in
    let others : List Segment = gs in
    let all : All Full (sections ++ flat_map group_sections (map (λ (g : Segment). g.group) gs)) =
    subst (All Full) (flat_map-cons group_sections g.group (map (λ (g : Segment). g.group) gs)) f in
    let w = walk end g.offset (segment_start g) (segment_start g) 0 sections (omega arith) (omega (arith, b.0.above))
    (omega arith, chain-of g.group.first g.group.others t.0) (all-left Full sections _ all) in
    let r = files (file_end end g) gs t.1 b.1 (all-right Full sections _ all) in
    let own : List SectionInFile = filter is_loaded (map (in_segment g) sections) in
    let cut : filter is_loaded (in_file (g ∷ gs)) ≡ own ++ filter is_loaded (in_file gs) =
    ap (filter is_loaded) (flat_map-cons (λ (g : Segment). map (in_segment g) (group_sections g.group)) g gs)
    ∙ filter-append is_loaded (map (in_segment g) sections) (in_file gs) in
    let order : InFile end (own ++ filter is_loaded (in_file gs)) =
    file-append end own (filter is_loaded (in_file gs)) w.order
    (subst (λ (k : ℕ). InFile k (filter is_loaded (in_file gs))) (sym w.last) r.0) in
    let last : last_file_end end (own ++ filter is_loaded (in_file gs)) ≡ fold file_end end (g ∷ gs) =
    last-append end own (filter is_loaded (in_file gs))
    ∙ ap (λ (k : ℕ). last_file_end k (filter is_loaded (in_file gs))) w.last ∙ r.1 in (
      subst (InFile end) (sym cut) order,
      ap (last_file_end end) cut ∙ last,
    )
