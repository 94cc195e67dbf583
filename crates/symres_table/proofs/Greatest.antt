-- A pass over the entries of a name, one entry more.
use Rattle.symres_table.proofs.Common.{Bool, Common, List, None, ObjectKey, Option, Some, [], ap, append-nil, arith}
use Rattle.symres_table.proofs.Common.{cond, false, false≢true, filter, filter-append, first, is_none, is_some, length}
use Rattle.symres_table.proofs.Common.{length-append, list_any, lt-ltb, max, nat_lt, refl, sym, tally_of, true, ℕ, ◌&&◌}
use Rattle.symres_table.proofs.Common.{◌++◌, ◌||◌, ◌∙◌, ◌∷◌, ◌≡◌}
use Rattle.ldmodel.specs.Names.{Declaration, is_strong, is_common, is_weak, is_undefined, greatest, common_size}
use Rattle.ldmodel.specs.Names.{common_alignment, is_global, is_weak_binding, is_placed, is_common_place}
use Rattle.ldmodel.specs.Names.{is_undefined_place}
use Rattle.ldmodel.specs.declared.names.Entry.{Entry}
use Rattle.symres_table.specs.declared.tally.Tally.{Tally}

pub greatest_push : (of : Declaration → ℕ) (ds : List Declaration) (d : Declaration) → greatest of (ds ++ d ∷ [])
    ≡ max (greatest of ds) (of d)
greatest_push of [] d = omega arith
greatest_push of (x ∷ ds) d = omega (arith, greatest_push of ds d)

kept : (test : Declaration → Bool) (ds : List Declaration) (d : Declaration) (b : Bool) → test d ≡ b
    → filter test (ds ++ d ∷ []) ≡ cond b (filter test ds ++ d ∷ []) (filter test ds)
kept test ds d true h = rw (filter-append, h) refl
kept test ds d false h = rw (filter-append, h) (append-nil _)

any : (ds : List Declaration) (d : Declaration) (b : Bool) → is_undefined d ≡ b → list_any is_undefined (ds ++ d ∷ [])
    ≡ cond b true (list_any is_undefined ds)
any [] d true h = rw h refl
any [] d false h = rw h refl
any (x ∷ ds) d true h = go (is_undefined x) (any ds d true h)
  where
    go : (c : Bool) → list_any is_undefined (ds ++ d ∷ []) ≡ true → (c || list_any is_undefined (ds ++ d ∷ [])) ≡ true
    go true e = refl
    go false e = e
any (x ∷ ds) d false h = ap (λ b. is_undefined x || b) (any ds d false h)

abbrev pub entry_of : Declaration → Entry ObjectKey
entry_of d = record { object = record { 0 = d.entry.object }; symbol = record { 0 = d.entry.symbol } }

abbrev pub or_entry : Option (Entry ObjectKey) → Entry ObjectKey → Option (Entry ObjectKey)
or_entry None e = Some e
or_entry (Some x) e = Some x

first_push : (ds : List Declaration) (d : Declaration) → first (ds ++ d ∷ [])
    ≡ or_entry (first ds) (record { object = record { 0 = d.entry.object }; symbol = record { 0 = d.entry.symbol } })
first_push [] d = refl
first_push (x ∷ ds) d = refl

several_push : (ds : List Declaration) (d : Declaration) → nat_lt 1 (length (ds ++ d ∷ [])) ≡ is_some (first ds)
several_push [] d = refl
several_push (x ∷ []) d = refl
several_push (x ∷ y ∷ ds) d =
    lt-ltb 1 (length ((x ∷ y ∷ ds) ++ d ∷ [])) (omega (arith, length-append (x ∷ y ∷ ds) (d ∷ [])))

-- a tally with one entry more, by what the entry is
abbrev pub grown : (strong common weak undefined : Bool) → Tally → Declaration → Tally
grown strong common weak undefined t d =
    let e : Entry ObjectKey = entry_of d in
    record {
      several = cond strong (is_some t.strong) t.several;
      strong = cond strong (or_entry t.strong e) t.strong;
      common = cond common (or_entry t.common e) t.common;
      size = cond common (max t.size d.symbol.size) t.size;
      alignment = cond common (max t.alignment d.symbol.value) t.alignment;
      weak = cond weak (or_entry t.weak e) t.weak;
      undefined = cond undefined true t.undefined;
    }

pub tally_push : (s c w u : Bool) (seen : List Declaration) (d : Declaration) → is_strong d ≡ s → is_common d ≡ c
    → is_weak d ≡ w → is_undefined d ≡ u → tally_of (seen ++ d ∷ []) ≡ grown s c w u (tally_of seen) d
tally_push s c w u seen d hs hc hw hu =
    let fs = kept is_strong seen d s hs in
    let fc = kept is_common seen d c hc in
    let fw = kept is_weak seen d w hw in
    let several : nat_lt 1 (length (filter is_strong (seen ++ d ∷ []))) ≡ (grown s c w u (tally_of seen) d).several =
    ap (λ xs. nat_lt 1 (length xs)) fs ∙ by_several s in
    let strong : first (filter is_strong (seen ++ d ∷ [])) ≡ (grown s c w u (tally_of seen) d).strong = ap first fs
    ∙ by_first s (filter is_strong seen) in
    let common : first (filter is_common (seen ++ d ∷ [])) ≡ (grown s c w u (tally_of seen) d).common = ap first fc
    ∙ by_first c (filter is_common seen) in
    let size : greatest common_size (filter is_common (seen ++ d ∷ [])) ≡ (grown s c w u (tally_of seen) d).size =
    ap (greatest common_size) fc ∙ by_greatest c common_size in
    let alignment : greatest common_alignment (filter is_common (seen ++ d ∷ []))
    ≡ (grown s c w u (tally_of seen) d).alignment = ap (greatest common_alignment) fc
    ∙ by_greatest c common_alignment in
    let weak : first (filter is_weak (seen ++ d ∷ [])) ≡ (grown s c w u (tally_of seen) d).weak = ap first fw
    ∙ by_first w (filter is_weak seen) in
    let undefined = any seen d u hu in
    λ i. record {
      several = several i;
      strong = strong i;
      common = common i;
      size = size i;
      alignment = alignment i;
      weak = weak i;
      undefined = undefined i;
    }
  where
    by_several : (b : Bool) → nat_lt 1 (length (cond b (filter is_strong seen ++ d ∷ []) (filter is_strong seen)))
        ≡ cond b (is_some (first (filter is_strong seen))) (nat_lt 1 (length (filter is_strong seen)))
    by_several true = several_push (filter is_strong seen) d
    by_several false = refl

    by_first : (b : Bool) (ds : List Declaration) → first (cond b (ds ++ d ∷ []) ds)
        ≡ cond b
        (or_entry (first ds)
        (record { object = record { 0 = d.entry.object }; symbol = record { 0 = d.entry.symbol } })) (first ds)
    by_first true ds = first_push ds d
    by_first false ds = refl

    by_greatest : (b : Bool) (of : Declaration → ℕ)
        → greatest of (cond b (filter is_common seen ++ d ∷ []) (filter is_common seen))
        ≡ cond b (max (greatest of (filter is_common seen)) (of d)) (greatest of (filter is_common seen))
    by_greatest true of = greatest_push of (filter is_common seen) d
    by_greatest false of = refl

stays : (o : Option (Entry ObjectKey)) (e : Entry ObjectKey) → is_none o ≡ false → or_entry o e ≡ o
stays None e h = absurd (false≢true (sym h))
stays (Some x) e h = refl

and_false : (b : Bool) → (b && false) ≡ false
and_false true = refl
and_false false = refl

-- a common block that isn't the first
pub common_later : (seen : List Declaration) (d : Declaration) (t : Tally) → d.symbol.place ≡ Common → t
    ≡ tally_of seen → is_none t.common ≡ false
    → record t { size = max t.size d.symbol.size; alignment = max t.alignment d.symbol.value }
    ≡ tally_of (seen ++ d ∷ [])
common_later seen d t k h n =
    let e : Entry ObjectKey = entry_of d in
    let strong : is_strong d ≡ false = ap (λ p. is_global d.symbol.binding && is_placed p) k
    ∙ and_false (is_global d.symbol.binding) in
    let weak : is_weak d ≡ false = ap (λ p. is_weak_binding d.symbol.binding && is_placed p) k
    ∙ and_false (is_weak_binding d.symbol.binding) in
    let common : is_common d ≡ true = ap is_common_place k in
    let undefined : is_undefined d ≡ false = ap is_undefined_place k in
    let same : or_entry t.common e ≡ t.common = stays t.common e n in
    sym (tally_push false true false false seen d strong common weak undefined
    ∙ ap (λ x. grown false true false false x d) (sym h)
    ∙ ap (λ c. record t { common = c; size = max t.size d.symbol.size; alignment = max t.alignment d.symbol.value })
    same)
