-- Each input section in the output is of an object of the project.
use Rattle.place.proofs.Common.{AreObjectsNamed, Bool, Contains, Each, InputSection, IsOfObject, IsOwned, List}
use Rattle.place.proofs.Common.{NamedObject, Part, Project, [], at_place, cond, each_always, each_filter, each_flat}
use Rattle.place.proofs.Common.{each_into_map, each_sorted, enumerate_from, false, filter, flat_map, input_sections}
use Rattle.place.proofs.Common.{length, not, range_with_len, refl, rows, subst, sym, true, ℕ, ◌<◌, ◌∙◌, ◌∷◌, ◌≡◌}
use Rattle.ldscript.specs.statements.Numbering.{InputStatementAt, input_statements, output_sections}
use Rattle.ldmodel.specs.Gathering.{candidates, is_discarded}
use Rattle.ldmodel.specs.Live.{live}
use Rattle.ldmodel.specs.Rows.{Piece, below, is_in_section, is_taken_by, piece_of, pieces_in, row, sorted_pieces, taken}
use Rattle.ldmodel_laws.proofs.Finding.{member_of, each_member}

-- ---- lists

-- ---- rows

-- what holds of all input sections of a project holds of those in its rows
module _ (p : Project) (Holds : List ℕ → Part → Type 0)
    (of_all : Each (λ (x : InputSection). Holds x.object x.id.part) (input_sections p))
    (in_order : (test : InputSection → Bool) × (live p ≡ filter test (candidates p))) where
  abbrev OfInput : InputSection → Type 0
  OfInput x = Holds x.object x.id.part

  of_live : Each OfInput (live p)
  of_live =
      subst (Each OfInput) (sym in_order.1)
      (each_filter OfInput in_order.0 (candidates p)
      (each_filter OfInput (λ s. not (is_discarded p s)) (input_sections p) of_all))

  abbrev OfPiece : Piece → Type 0
  OfPiece x = Holds x.object x.part

  of_statement : (n : ℕ) (i : InputStatementAt) → Each OfPiece (sorted_pieces p n i)
  of_statement n i =
      each_sorted OfPiece (below i.input.sort) (taken p n)
      (each_into_map OfPiece (piece_of n) (filter (is_taken_by p n) (live p))
      (each_filter OfInput (is_taken_by p n) (live p) of_live))

  of_place : (k : ℕ) (i : ℕ × InputStatementAt) → Each OfPiece (pieces_in p k i)
  of_place k i = go (is_in_section k i.1.place)
    where
      go : (b : Bool) → Each OfPiece (cond b (sorted_pieces p i.0 i.1) [])
      go true = of_statement i.0 i.1
      go false = tt

  of_row : (k : ℕ) → Each OfPiece (row p k)
  of_row k =
      each_flat OfPiece (pieces_in p k) (enumerate_from 0 (input_statements p.script))
      (each_always (λ (i : ℕ × InputStatementAt). Each OfPiece (pieces_in p k i)) (of_place k)
      (enumerate_from 0 (input_statements p.script)))

  pub of_rows : Each OfPiece (flat_map (λ (x : List Piece). x) (rows p))
  unfolding rows
  of_rows =
      each_flat OfPiece (λ (x : List Piece). x) (rows p)
      (each_into_map (Each OfPiece) (row p) (range_with_len 0 (length (output_sections p.script)))
      (each_always (λ k. Each OfPiece (row p k)) of_row (range_with_len 0 (length (output_sections p.script)))))

-- ---- input sections

-- a part of an object of this name that is an input section of the project
pub record IsInput (p : Project) (name : List ℕ) (part : Part) : Type 0 where
  pub section : InputSection
  pub among : Contains (input_sections p) section
  pub object : section.object ≡ name
  pub is : section.id.part ≡ part

pub all_inputs : (p : Project) → (test : InputSection → Bool) × (live p ≡ filter test (candidates p))
    → Each (λ (x : Piece). IsInput p x.object x.part) (flat_map (λ (row : List Piece). row) (rows p))
all_inputs p in_order =
    of_rows p (IsInput p)
    (each_member (λ (x : InputSection). IsInput p x.object x.id.part) (input_sections p)
    (λ x c. record { section = x; among = c; object = refl; is = refl })) in_order

-- ---- objects with names

module _ (p : Project) (named : AreObjectsNamed p.objects)
    (of_objects : (s : InputSection) → Contains (input_sections p) s → IsOfObject p s) where
  is_owned : (x : Piece) → IsInput p x.object x.part → IsOwned p x
  is_owned x k =
      let o = of_objects k.section k.among in
      let among : Contains p.objects o.object = at_place p.objects k.section.id.object o.object o.at in
      let is : o.object.name ≡ x.object = o.name ∙ k.object in
      record {
        object = o.object;
        among = among;
        is = is;
        some = subst (λ (name : List ℕ). 0 < length name) is
            (member_of (λ (y : NamedObject). 0 < length y.name) p.objects o.object named among);
      }

  pub all_owned : (xs : List Piece) → Each (λ (x : Piece). IsInput p x.object x.part) xs → Each (IsOwned p) xs
  all_owned [] h = tt
  all_owned (x ∷ xs) h = (is_owned x h.0, all_owned xs h.1)
