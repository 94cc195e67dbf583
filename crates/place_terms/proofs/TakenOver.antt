-- Output sections that are taken over are the first ones of the previous layout.
use Rattle.place_terms.proofs.Common.{Closed, KeyedPiece, KeyedSection, List, OutputSection, Outputs, PreviousOutputs}
use Rattle.place_terms.proofs.Common.{ReusedOutput, Some, Statement, [], ap, append-nil, append_assoc, arith, both}
use Rattle.place_terms.proofs.Common.{counts_in, data_at_of, earlier_of, keyed, keyed_taken, length, length-append}
use Rattle.place_terms.proofs.Common.{length-map, map, map-append, placed_in, refl, slice_get, starts_in, subst, suc}
use Rattle.place_terms.proofs.Common.{sym, take, zero, ℕ, ◌++◌, ◌+◌, ◌-◌, ◌∙◌, ◌∷◌, ◌≡◌, ◌≤◌}
use Rattle.std.proofs.Math.Seq.{take-add}
use Rattle.ldmodel.specs.declared.placed.PlacedData.{PlacedData}
use Rattle.ldmodel.specs.declared.rows.Piece.{Piece}
use Rattle.place_terms.proofs.Counting.{starts_push}
use Rattle.place_terms.proofs.FoundSections.{both_taken}
use Rattle.place_terms.specs.PreviousLayout.{AreTaken, IsSectionOf, IsWithTaken, part_of}
use Rattle.place_terms.specs.SectionTable.{taken_pieces, AreSectionsOf}
use Rattle.place_terms.specs.declared.previous_layout.PreviousLayout.{PreviousLayout}

pub take_one : {X : Type 0} (xs : List X) (k : ℕ) (x : X) → slice_get xs k ≡ Some x → take (suc k) xs
    ≡ take k xs ++ x ∷ []
take_one [] k x e = absurd (let no : ⊥ = cc in no)
take_one (y ∷ ys) zero x e = let same : y ≡ x = cc in ap (λ z. z ∷ []) same
take_one (y ∷ ys) (suc k) x e = ap (λ l. y ∷ l) (take_one ys k x e)

-- with entries enough, all starts are taken
taken_long : (xs : List ℕ) (ps : List Piece) → length xs ≤ length ps → length (taken_pieces xs ps) ≡ length xs
taken_long [] ps l = refl
taken_long (x ∷ xs) [] l = absurd (omega (arith, l))
taken_long (x ∷ xs) (p ∷ ps) l = ap suc (taken_long xs ps (omega (arith, l)))

taken_starts : (xs : List ℕ) (ps : List Piece) → length xs ≤ length ps
    → map (λ (p : KeyedPiece). p.start) (taken_pieces xs ps) ≡ xs
taken_starts [] ps l = refl
taken_starts (x ∷ xs) [] l = absurd (omega (arith, l))
taken_starts (x ∷ xs) (p ∷ ps) l = ap (λ l. x ∷ l) (taken_starts xs ps (omega (arith, l)))

starts_both : (xs ys : List KeyedSection) → starts_in (xs ++ ys) ≡ starts_in xs ++ starts_in ys
starts_both [] ys = refl
starts_both (x ∷ xs) ys =
    ap (λ l. map (λ (p : KeyedPiece). p.start) x.pieces ++ l) (starts_both xs ys)
    ∙ sym (append_assoc (map (λ (p : KeyedPiece). p.start) x.pieces) (starts_in xs) (starts_in ys))

pub none_taken : (e : PreviousOutputs) (ts : List ReusedOutput) → ts ≡ [] → AreTaken e ts 0
none_taken e ts none = rw none (record { placed = refl; counts = refl; starts = refl; counted = refl })

-- the parts of all
module _ (e : PreviousOutputs) (ts : List ReusedOutput) (count : ℕ) (a : AreTaken e ts count) (xs : List Closed) where
  pub placed_parts : placed_in (both ts xs) ≡ take (length ts) e.sections ++ placed_in (map keyed xs)
  placed_parts =
      map-append (λ (x : KeyedSection). x.placed) (map keyed_taken ts) (map keyed xs)
      ∙ ap (λ l. l ++ placed_in (map keyed xs)) a.placed

  pub counts_parts : counts_in (both ts xs) ≡ take (length ts) e.counts ++ counts_in (map keyed xs)
  counts_parts =
      map-append (λ (x : KeyedSection). length x.pieces) (map keyed_taken ts) (map keyed xs)
      ∙ ap (λ l. l ++ counts_in (map keyed xs)) a.counts

  pub starts_parts : starts_in (both ts xs) ≡ take count e.starts ++ starts_in (map keyed xs)
  starts_parts = starts_both (map keyed_taken ts) (map keyed xs) ∙ ap (λ l. l ++ starts_in (map keyed xs)) a.starts

-- one more is taken over
module _ (script : List Statement) (e : PreviousLayout) (ts : List ReusedOutput) (xs : List Closed) (ds : List ℕ)
    (elsewhere count commands_count taken_count : ℕ) (none : xs ≡ [])
    (of : AreSectionsOf script (both ts xs) ds elsewhere count commands_count)
    (a : AreTaken (earlier_of e) ts taken_count) (number : ℕ) (o : OutputSection) (row : List Piece)
    (commands : List PlacedData) (t : ReusedOutput) (number_is : number ≡ length ts)
    (i : IsSectionOf e number count o row commands t) where
  pieces_long : length (taken_pieces t.starts.now t.row.now) ≡ length t.starts.now
  pieces_long = taken_long t.starts.now t.row.now
      (let l = i.enough in let r = ap length i.row_is in omega (arith, l, r))

  alone : both ts xs ≡ map keyed_taken ts
  alone = rw none (append-nil (map keyed_taken ts))

  same : count ≡ taken_count
  same = of.counted ∙ (ap (λ l. length (starts_in l)) alone ∙ sym a.counted)

  more : map keyed_taken (ts ++ t ∷ []) ≡ map keyed_taken ts ++ keyed_taken t ∷ []
  more = map-append keyed_taken ts (t ∷ [])

  one_more : length (ts ++ t ∷ []) ≡ suc number
  one_more = let l = length-append ts (t ∷ []) in omega (arith, l, number_is)

  starts_are : starts_in (map keyed_taken (ts ++ t ∷ [])) ≡ starts_in (map keyed_taken ts) ++ t.starts.now
  starts_are =
      ap starts_in more
      ∙ (starts_push (map keyed_taken ts) (keyed_taken t)
      ∙ ap (λ l. starts_in (map keyed_taken ts) ++ l)
      (taken_starts t.starts.now t.row.now (let l = i.enough in let r = ap length i.row_is in omega (arith, l, r))))

  pub taken_more : (new : List ReusedOutput) (all : ℕ) → new ≡ ts ++ t ∷ [] → all ≡ count + length t.starts.now
      → AreTaken (earlier_of e) new all
  taken_more new all is sum = subst (λ l. AreTaken (earlier_of e) l all) (sym is) (record {
    placed = ap placed_in more
        ∙ (map-append (λ (x : KeyedSection). x.placed) (map keyed_taken ts) (keyed_taken t ∷ [])
        ∙ (ap (λ l. l ++ t.placed.now ∷ []) a.placed
        ∙ (ap (λ n. take n e.sections.now ++ t.placed.now ∷ []) (sym number_is)
        ∙ (sym (take_one e.sections.now number t.placed.now i.placed)
        ∙ ap (λ n. take n e.sections.now) (sym one_more)))));
    counts = ap counts_in more
        ∙ (map-append (λ (x : KeyedSection). length x.pieces) (map keyed_taken ts) (keyed_taken t ∷ [])
        ∙ (ap (λ l. l ++ length (taken_pieces t.starts.now t.row.now) ∷ []) a.counts
        ∙ (ap (λ n. take n e.counts.now ++ length (taken_pieces t.starts.now t.row.now) ∷ []) (sym number_is)
        ∙ (ap (λ n. take number e.counts.now ++ n ∷ []) pieces_long
        ∙ (sym (take_one e.counts.now number (length t.starts.now) i.counted)
        ∙ ap (λ n. take n e.counts.now) (sym one_more))))));
    starts = starts_are
        ∙ (ap (λ l. l ++ t.starts.now) a.starts
        ∙ (ap (λ l. take taken_count e.starts.now ++ l)
        (i.starts ∙ ap (λ k. part_of e.starts.now k (length t.starts.now)) same)
        ∙ (sym (take-add taken_count (length t.starts.now) e.starts.now)
        ∙ ap (λ n. take n e.starts.now) (sym (sum ∙ ap (λ k. k + length t.starts.now) same)))));
    counted =
        let l = ap length starts_are ∙ length-append (starts_in (map keyed_taken ts)) t.starts.now in
        let c = a.counted in
        let s = same in
        omega (arith, l, c, sum, s);
  })

  -- how many input sections there are then
  pub counted_more : (all : ℕ) → all ≡ count + length t.starts.now → all ≡ count + length (keyed_taken t).pieces
  counted_more all sum = let l = pieces_long in omega (arith, sum, l)

  pub commands_more : (end : ℕ) → commands_count + length commands ≡ end
      → end ≡ commands_count + length (keyed_taken t).data_commands
  commands_more end sum =
      let l = length-map t.data_commands.now data_at_of in
      let c = ap length i.data_commands in
      omega (arith, sum, l, c)

  -- it is the next one of the previous layout
  pub with_taken : (v : Outputs)
      → record { script = script; earlier = earlier_of e; list = both ts xs; placed = length xs } ≡ v
      → (new : List ReusedOutput) → new ≡ ts ++ t ∷ [] → (end : ℕ)
      → commands ≡ part_of e.data_commands.now commands_count (end - commands_count)
      → commands_count + length commands ≡ end → IsWithTaken v.earlier v.list row o end (both new xs)
  with_taken v view new is end part sum =
      let number_of : length (both ts xs) ≡ number =
      ap length alone ∙ (length-map ts keyed_taken ∙ sym number_is) in
      subst (λ (w : Outputs). IsWithTaken w.earlier w.list row o end (both new xs)) view (record {
        section = keyed_taken t;
        taken = record {
          name = ap (λ (x : OutputSection). x.name) i.output;
          region = ap (λ (x : OutputSection). x.region) i.output;
          fill = ap (λ (x : OutputSection). x.fill) i.output;
          placed = ap (slice_get e.sections.now) number_of ∙ i.placed;
          count = length t.starts.now;
          counted = ap (slice_get e.counts.now) number_of ∙ i.counted;
          pieces = ap (taken_pieces t.starts.now) i.row_is
              ∙ ap (λ l. taken_pieces l row)
              (i.starts ∙ ap (λ k. part_of e.starts.now k (length t.starts.now)) of.counted);
          data_count = end - commands_count;
          data_counted = let c = of.data_counted in omega (arith, c, sum);
          data_commands = ap (map data_at_of)
              (i.data_commands
              ∙ (part ∙ ap (λ k. part_of e.data_commands.now k (end - commands_count)) of.data_counted));
        };
        pushed = ap (λ l. both l xs) is ∙ both_taken ts xs t none;
      })
