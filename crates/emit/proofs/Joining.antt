-- Output sections of the members of lists.
use Rattle.emit.proofs.Common.{All-push, AllZip, AllZip-long, AreDataOf, AreDrawnOf, AreNamed, AreStayedByKey, Bool}
use Rattle.emit.proofs.Common.{ImagePiece, ImageSection, IsImageSection, IsJoinedRow, IsJoinedSection, IsOutput, Layout}
use Rattle.emit.proofs.Common.{List, OutputDrawing, OutputSectionAt, Placed, PlacedOutput, Project, SectionInFile}
use Rattle.emit.proofs.Common.{SectionRef, Some, [], ap, append-nil, arith, cond, eqb-true, false, false_from_ne_true}
use Rattle.emit.proofs.Common.{filter, filter-append, get_or, length, length-map, map, map-append, nonempty, not}
use Rattle.emit.proofs.Common.{option_map, placed_of, refl, same_Some, segments, slice_get, slice_get-map, subst, sym}
use Rattle.emit.proofs.Common.{take, take_all, true, zip_more, ℕ, ◌++◌, ◌+◌, ◌<◌, ◌==◌, ◌∙◌, ◌∷◌, ◌≡◌, ◌≤◌}
use Rattle.emit_image.specs.InMemory.{IsSectionFilled}
use Rattle.place.proofs.Walking.{in_file_are}
use Rattle.place.specs.Offsets.{IsOffset}
use Rattle.ldmodel_laws.specs.FileLayout.{IsFileLayout}
use Rattle.ldmodel.specs.declared.placed.PlacedData.{PlacedData}
use Rattle.emit.proofs.Lists.{at_zip, next_zip}
use Rattle.emit.specs.Joined.{AreJoined, IsAt}
use Rattle.emit.specs.Output.{AreDrawn, IsDrawn, in_file_at, with_bytes}

zip_map : {X Y : Type 0} (f : X → Y) (xs : List X) → AllZip (λ x y. y ≡ f x) xs (map f xs)
zip_map f [] = tt
zip_map f (x ∷ xs) = (refl, zip_map f xs)

-- members of mapped lists that are the same
same_at : {X Y Z : Type 0} (f : X → Z) (g : Y → Z) (xs : List X) (ys : List Y) (k : ℕ) (x : X) (y : Y)
    → map f xs ≡ map g ys → slice_get xs k ≡ Some x → slice_get ys k ≡ Some y → g y ≡ f x
same_at f g xs ys k x y e at_x at_y =
    let left : slice_get (map f xs) k ≡ Some (f x) = slice_get-map f xs k ∙ ap (option_map f) at_x in
    let right : slice_get (map g ys) k ≡ Some (g y) = slice_get-map g ys k ∙ ap (option_map g) at_y in
    same_Some _ _ (sym right ∙ ap (λ l. slice_get l k) (sym e) ∙ left)

module _ (p : Project) (s : Layout) (stays : SectionRef → Bool) (places : List Placed) (os : List OutputSectionAt)
    (offsets : List ℕ) (rows : List (List ImagePiece)) (runs : List (List PlacedData)) where
  -- the output section of a number
  pub record Joint (k : ℕ) (place : Placed) : Type 0 where
    pub member : PlacedOutput
    pub taken : take (k + 1) s.sections ≡ take k s.sections ++ member ∷ []
    pub is : IsAt p s stays member k place os offsets rows runs

  pub joint : (k : ℕ) (place : Placed) → AreJoined p s stays places os offsets rows runs → k < length places
      → get_or places k place ≡ place → Joint k place
  joint k place h l e =
      let z : AllZip (λ q pl. pl ≡ placed_of q) s.sections places =
      subst (λ ps. AllZip (λ q pl. pl ≡ placed_of q) s.sections ps) h.placed (zip_map placed_of s.sections) in
      let next = next_zip (λ q pl. pl ≡ placed_of q) s.sections places k place z l e in
      let q = next.member in
      record {
        member = q;
        taken = next.taken;
        is = record {
          placed = next.is;
          name = λ o at.
              same_at (λ (r : PlacedOutput). r.name) (λ (x : OutputSectionAt). x.section.name) s.sections os k q o
              h.names
              next.at at;
          fill = λ o at.
              same_at (λ (r : PlacedOutput). r.fill) (λ (x : OutputSectionAt). x.section.fill) s.sections os k q o
              h.fills
              next.at at;
          offset = λ n at. at_zip (IsOffset s) s.sections offsets k q n h.begun next.at at;
          row = λ ys at. at_zip (IsJoinedRow p s stays) s.sections rows k q ys h.pieces next.at at;
          data_commands = λ ds at. at_zip AreDataOf s.sections runs k q ds h.data_commands next.at at;
        };
      }

  -- each list has a member for each place
  pub record Reached (k : ℕ) : Type 0 where
    pub section : k < length os
    pub offset : k < length offsets
    pub row : k < length rows
    pub run : k < length runs

  pub reached : (k : ℕ) → AreJoined p s stays places os offsets rows runs → k < length places → Reached k
  reached k h l =
      let long : length s.sections ≡ length places = sym (length-map s.sections placed_of) ∙ ap length h.placed in
      let names : length s.sections ≡ length os =
      sym (length-map s.sections (λ (q : PlacedOutput). q.name)) ∙ ap length h.names
      ∙ length-map os (λ (o : OutputSectionAt). o.section.name) in
      record {
        section = omega (arith, l, long, names);
        offset = omega (arith, l, long, AllZip-long (IsOffset s) s.sections offsets h.begun);
        row = omega (arith, l, long, AllZip-long (IsJoinedRow p s stays) s.sections rows h.pieces);
        run = omega (arith, l, long, AllZip-long AreDataOf s.sections runs h.data_commands);
      }

  -- one output section more
  pub one_joined : (k : ℕ) (place : Placed) (x : OutputDrawing) (old new : List OutputDrawing)
      → AreJoined p s stays places os offsets rows runs → k < length places → get_or places k place ≡ place
      → ((q : PlacedOutput) → IsAt p s stays q k place os offsets rows runs → IsOutput p s stays q x)
      → new ≡ old ++ x ∷ []
      → AllZip (IsOutput p s stays) (take k s.sections) old
      → AllZip (IsOutput p s stays) (take (k + 1) s.sections) new
  one_joined k place x old new h l e make pushed so_far =
      let j = joint k place h l e in
      subst (λ qs. AllZip (IsOutput p s stays) qs new) (sym j.taken)
      (subst (λ xs. AllZip (IsOutput p s stays) (take k s.sections ++ j.member ∷ []) xs) (sym pushed)
      (zip_more (IsOutput p s stays) (take k s.sections) old j.member x so_far (make j.member j.is)))

  pub all_joined : (k : ℕ) (xs : List OutputDrawing) → AreJoined p s stays places os offsets rows runs
      → length places ≤ k → AllZip (IsOutput p s stays) (take k s.sections) xs
      → AllZip (IsOutput p s stays) s.sections xs
  all_joined k xs h past so_far =
      let long : length s.sections ≡ length places = sym (length-map s.sections placed_of) ∙ ap length h.placed in
      subst (λ qs. AllZip (IsOutput p s stays) qs xs) (take_all k s.sections (omega (arith, past, long))) so_far

-- ---- output sections with bytes in the file

abbrev loads : SectionInFile → Bool
loads x = x.section.has_file_bytes

with_append : (s : Layout) (qs rs : List PlacedOutput) → with_bytes s (qs ++ rs) ≡ with_bytes s qs ++ with_bytes s rs
with_append s qs rs =
    ap (λ l. filter loads (map (in_file_at s) l)) (filter-append (λ (q : PlacedOutput). not (q.size == 0)) qs rs)
    ∙ ap (filter loads) (map-append (in_file_at s) (nonempty qs) (nonempty rs))
    ∙ filter-append loads (map (in_file_at s) (nonempty qs)) (map (in_file_at s) (nonempty rs))

abbrev one_of : Layout → PlacedOutput → Bool → Bool → List SectionInFile
one_of s q empty loaded =
    cond empty [] (cond loaded (in_file_at s q ∷ []) [])

with_one : (s : Layout) (q : PlacedOutput) → with_bytes s (q ∷ []) ≡ one_of s q (q.size == 0) q.has_file_bytes
with_one s q = go (q.size == 0)
  where
    go : (b : Bool) → filter loads (map (in_file_at s) (cond (not b) (q ∷ []) []))
        ≡ one_of s q b q.has_file_bytes
    go true = refl
    go false = refl

pub drawn_same : (p : Project) (s : Layout) (stays : SectionRef → Bool) (qs : List PlacedOutput) (q : PlacedOutput)
    (ys : List ImageSection) (b c : Bool) → (q.size == 0) ≡ b → q.has_file_bytes ≡ c → one_of s q b c ≡ []
    → AreDrawnOf p s stays qs ys → AreDrawnOf p s stays (qs ++ q ∷ []) ys
drawn_same p s stays qs q ys b c e f none h =
    let one : with_bytes s (q ∷ []) ≡ [] =
    with_one s q ∙ ap (λ t. one_of s q t q.has_file_bytes) e ∙ ap (one_of s q b) f ∙ none in
    let same = with_append s qs (q ∷ []) ∙ ap (λ l. with_bytes s qs ++ l) one ∙ append-nil (with_bytes s qs) in
    record {
      wholes = h.wholes;
      sections = subst (λ l. AllZip (IsImageSection p s) l h.wholes) (sym same) h.sections;
      filled = h.filled;
      kept = subst (λ l. AllZip (AreStayedByKey p stays) l h.wholes) (sym same) h.kept;
      joined = h.joined;
    }

pub drawn_more : (p : Project) (s : Layout) (stays : SectionRef → Bool) (qs : List PlacedOutput) (q : PlacedOutput)
    (old new : List ImageSection) (y : ImageSection) → (q.size == 0) ≡ false → q.has_file_bytes ≡ true
    → IsDrawn p s stays q y → new ≡ old ++ y ∷ []
    → AreDrawnOf p s stays qs old → AreDrawnOf p s stays (qs ++ q ∷ []) new
drawn_more p s stays qs q old new y e f is pushed h =
    let one : with_bytes s (q ∷ []) ≡ in_file_at s q ∷ [] =
    with_one s q ∙ ap (λ t. one_of s q t q.has_file_bytes) e ∙ ap (one_of s q false) f in
    let more = with_append s qs (q ∷ []) ∙ ap (λ l. with_bytes s qs ++ l) one in
    subst (AreDrawnOf p s stays (qs ++ q ∷ [])) (sym pushed) (record {
      wholes = h.wholes ++ is.whole ∷ [];
      sections = subst (λ l. AllZip (IsImageSection p s) l (h.wholes ++ is.whole ∷ [])) (sym more)
          (zip_more (IsImageSection p s) (with_bytes s qs) h.wholes (in_file_at s q) is.whole h.sections is.section);
      filled = All-push IsSectionFilled h.wholes is.whole h.filled is.filled;
      kept = subst (λ l. AllZip (AreStayedByKey p stays) l (h.wholes ++ is.whole ∷ [])) (sym more)
          (zip_more (AreStayedByKey p stays) (with_bytes s qs) h.wholes (in_file_at s q) is.whole h.kept is.kept);
      joined = zip_more IsJoinedSection h.wholes old is.whole y h.joined is.joined;
    })

-- all are drawn
pub drawn_all : (p : Project) (s : Layout) (stays : SectionRef → Bool) (ys : List ImageSection) → AreNamed s.sections
    → IsFileLayout s.sections (segments s.sections) → AreDrawnOf p s stays s.sections ys → AreDrawn p s stays ys
drawn_all p s stays ys named file h =
    let same = in_file_are s.sections (segments s.sections) named file.grouping.parts in
    record {
      wholes = h.wholes;
      sections = subst (λ l. AllZip (IsImageSection p s) (filter loads l) h.wholes) (sym same) h.sections;
      filled = h.filled;
      kept = subst (λ l. AllZip (AreStayedByKey p stays) (filter loads l) h.wholes) (sym same) h.kept;
      joined = h.joined;
    }

pub not_zero : (n : ℕ) → (n ≡ 0 → ⊥) → (n == 0) ≡ false
not_zero n h = false_from_ne_true (n == 0) (λ t. absurd (h (eqb-true n 0 t)))
