-- What an input statement takes of a row, and the rows by what each input statement has.
use Rattle.ldmodel_laws.proofs.Common.{BodyCommand, BodyStatement, Bool, Each, InSection, InputStatementAt, Item}
use Rattle.ldmodel_laws.proofs.Common.{ItemCommand, List, Ok, Piece, PieceTo, PlacedPiece, [], and_then, ap, append-nil}
use Rattle.ldmodel_laws.proofs.Common.{append_assoc, arith, cond, discarded_inputs, enumerate_from, eqb-true, false}
use Rattle.ldmodel_laws.proofs.Common.{flat_map, inputs_from, inputs_in, inputs_of, is_in_section, item_inputs}
use Rattle.ldmodel_laws.proofs.Common.{item_sections, length, map, map-append, refl, subst, suc, sym, true, ℕ, ◌++◌}
use Rattle.ldmodel_laws.proofs.Common.{◌+◌, ◌<◌, ◌==◌, ◌∙◌, ◌∷◌, ◌≡◌}
use Rattle.ldscript.specs.statements.declared.input.InputStatement.{InputStatement}
use Rattle.ldscript.specs.statements.declared.section.BodyCommand.TheVariants as body
use Rattle.ldscript.specs.statements.declared.statement.ItemCommand.TheVariants as item
use Rattle.ldmodel.specs.Placement.{Body, piece_placed, pieces_placed}
use Rattle.ldmodel_laws.proofs.Effects.{came, Kept, kept_same, kept_all}
use Rattle.ldmodel_laws.proofs.Placements.{piece_to}
use Rattle.ldmodel_laws.proofs.EachOf.{each_append}

abbrev pub entry : PlacedPiece → Piece
entry x = x.piece

abbrev pub entries : List PlacedPiece → List Piece
entries xs = map entry xs

-- ---- an input statement takes its entries from the front of what is left of the row

pub record Took (mine others : List Piece) (b c : Body) : Type 0 where
  pub pieces : entries c.pieces ≡ entries b.pieces ++ mine
  pub rest : c.rest ≡ others
  pub kept : Kept b.layout c.layout

abbrev pub IsOf : ℕ → Piece → Type 0
IsOf n x = (x.statement == n) ≡ true

abbrev pub IsNotOf : ℕ → Piece → Type 0
IsNotOf n x = (x.statement == n) ≡ false

pub took_none : (b c : Body) (others : List Piece) → b ≡ c → b.rest ≡ others → Took [] others b c
took_none b c others e r = record {
  pieces = ap (λ (x : Body). entries x.pieces) (sym e) ∙ sym (append-nil (entries b.pieces));
  rest = ap (λ (x : Body). x.rest) (sym e) ∙ r;
  kept = kept_same b.layout c.layout (ap (λ (x : Body). x.layout) e);
}

took_one : (b : Body) (p : Piece) (rest : List Piece) (c : Body) → PieceTo b p rest c → Took (p ∷ []) rest b c
took_one b p rest c h = subst (Took (p ∷ []) rest b) h.after (record {
  pieces = map-append entry b.pieces (record { start = h.start; piece = p } ∷ []);
  rest = refl;
  kept = record { sections = refl; inputs = refl; dots = refl };
})

took_more : (p : Piece) (mine others : List Piece) (b c d : Body) → Took (p ∷ []) (mine ++ others) b c
    → Took mine others c d → Took (p ∷ mine) others b d
took_more p mine others b c d h k = record {
  pieces = k.pieces ∙ ap (λ xs. xs ++ mine) h.pieces ∙ append_assoc (entries b.pieces) (p ∷ []) mine;
  rest = k.rest;
  kept = kept_all b.layout c.layout d.layout h.kept k.kept;
}

module _ (line n : ℕ) where
  pub takes : (mine others : List Piece) → Each (IsOf n) mine → Each (IsNotOf n) others → (b c : Body) → b.rest ≡ mine
      ++ others → pieces_placed line n b (mine ++ others) ≡ Ok c → Took mine others b c
  unfolding pieces_placed
  takes [] [] h k b c r e = took_none b c [] (let f : b ≡ c = cc in f) r
  takes [] (p ∷ others) h k b c r e = go (p.statement == n) (k.0) e
    where
      go : (t : Bool) → t ≡ false
          → cond t (and_then (piece_placed line b p others) (λ d. pieces_placed line n d others)) (Ok b) ≡ Ok c
          → Took [] (p ∷ others) b c
      go true f g = absurd (let none : ⊥ = cc in none)
      go false f g = took_none b c (p ∷ others) (let f : b ≡ c = cc in f) r
  takes (p ∷ mine) others h k b c r e = go (p.statement == n) (h.0) e (λ d f. takes mine others h.1 k d c f)
    where
      go : (t : Bool) → t ≡ true
          → cond t (and_then (piece_placed line b p (mine ++ others)) (λ d. pieces_placed line n d (mine ++ others)))
          (Ok b) ≡ Ok c
          → ((d : Body) → d.rest ≡ mine ++ others → pieces_placed line n d (mine ++ others) ≡ Ok c
          → Took mine others d c)
          → Took (p ∷ mine) others b c
      go true f g more =
          let k' = came (piece_placed line b p (mine ++ others)) (λ d. pieces_placed line n d (mine ++ others)) c g in
          let one = took_one b p (mine ++ others) k'.value (piece_to line b p (mine ++ others) k'.value k'.is) in
          took_more p mine others b k'.value c one (more k'.value one.rest k'.gives)
      go false f g more = absurd (let none : ⊥ = cc in none)

-- ---- rows, by what each input statement has

module _ (of : ℕ → InputStatementAt → List Piece) (mark : (n : ℕ) (i : InputStatementAt) → Each (IsOf n) (of n i)) where
  -- the entries of statements, the first of which has number n
  abbrev pub of_all : ℕ → List InputStatementAt → List Piece
  of_all n [] = []
  of_all n (i ∷ is) = of n i ++ of_all (n + 1) is

  not_of : (n m : ℕ) → n < m → (xs : List Piece) → Each (IsOf m) xs → Each (IsNotOf n) xs
  not_of n m l [] h = tt
  not_of n m l (x ∷ xs) h = (go (x.statement == n) refl, not_of n m l xs h.1)
    where
      go : (t : Bool) → (x.statement == n) ≡ t → t ≡ false
      go true e = absurd (omega (arith, l, eqb-true x.statement n e, eqb-true x.statement m h.0))
      go false e = refl

  pub later : (n m : ℕ) → n < m → (is : List InputStatementAt) → Each (IsNotOf n) (of_all m is)
  later n m l [] = tt
  later n m l (i ∷ is) =
      each_append (IsNotOf n) (of m i) (of_all (m + 1) is) (not_of n m l (of m i) (mark m i))
      (later n (m + 1) (omega (arith, l)) is)

  -- the row of the output section of a number is empty where no statement stands in it, and all that they have where
  -- all do
  abbrev pub in_row : ℕ → ℕ × InputStatementAt → List Piece
  in_row k i = cond (is_in_section k i.1.place) (of i.0 i.1) []

  abbrev pub in_rows : ℕ → ℕ → List InputStatementAt → List Piece
  in_rows k n is = flat_map (in_row k) (enumerate_from n is)

  abbrev pub StandsIn : ℕ → Bool → InputStatementAt → Type 0
  StandsIn k b i = is_in_section k i.place ≡ b

  pub in_none : (k n : ℕ) (is : List InputStatementAt) → Each (StandsIn k false) is → in_rows k n is ≡ []
  in_none k n [] h = refl
  in_none k n (i ∷ is) h = ap (λ b. cond b (of n i) [] ++ in_rows k (n + 1) is) h.0 ∙ in_none k (n + 1) is h.1

  pub in_all : (k n : ℕ) (is : List InputStatementAt) → Each (StandsIn k true) is → in_rows k n is ≡ of_all n is
  in_all k n [] h = refl
  in_all k n (i ∷ is) h = ap (λ b. cond b (of n i) [] ++ in_rows k (n + 1) is) h.0
      ∙ ap (λ xs. of n i ++ xs) (in_all k (n + 1) is h.1)

  pub in_append : (k n : ℕ) (is js : List InputStatementAt) → in_rows k n (is ++ js) ≡ in_rows k n is
      ++ in_rows k (n + length is) js
  in_append k n [] js = let e : n ≡ n + 0 = omega arith in ap (λ m. in_rows k m js) e
  in_append k n (i ∷ is) js =
      let e : n + 1 + length is ≡ n + suc (length is) = omega arith in
      ap (λ xs. in_row k (n, i) ++ xs) (in_append k (n + 1) is js ∙ ap (λ m. in_rows k (n + 1) is ++ in_rows k m js) e)
      ∙ sym (append_assoc (in_row k (n, i)) (in_rows k (n + 1) is) (in_rows k (n + length (i ∷ is)) js))

  stands_of : (k j line : ℕ) (b : Bool) → (k == j) ≡ b → (c : BodyCommand)
      → Each (StandsIn j b) (inputs_of (InSection k) line c)
  stands_of k j line b e (body.Input i) = (e, tt)
  stands_of k j line b e (body.Dot c) = tt
  stands_of k j line b e (body.Directive c) = tt
  stands_of k j line b e (body.Data w x) = tt

  pub stands_in : (k j : ℕ) (b : Bool) → (k == j) ≡ b → (ss : List BodyStatement)
      → Each (StandsIn j b) (inputs_in (InSection k) ss)
  stands_in k j b e [] = tt
  stands_in k j b e (s ∷ ss) =
      each_append (StandsIn j b) (inputs_of (InSection k) s.line s.command) (inputs_in (InSection k) ss)
      (stands_of k j s.line b e s.command) (stands_in k j b e ss)

  pub stands_discarded : (j : ℕ) (is : List InputStatement) → Each (StandsIn j false) (discarded_inputs is)
  stands_discarded j [] = tt
  stands_discarded j (i ∷ is) = (refl, stands_discarded j is)

  stands_item : (k j : ℕ) → j < k → (c : ItemCommand) → Each (StandsIn j false) (item_inputs k c)
  stands_item k j l (item.Section o) = stands_in k j false (neq k j l) o.body
    where
      neq : (k j : ℕ) → j < k → (k == j) ≡ false
      neq k j l = go (k == j) refl
        where
          go : (t : Bool) → (k == j) ≡ t → t ≡ false
          go true e = absurd (omega (arith, l, eqb-true k j e))
          go false e = refl
  stands_item k j l (item.Discard is) = stands_discarded j is
  stands_item k j l (item.Dot c) = tt
  stands_item k j l (item.Directive c) = tt

  pub stands_later : (k j : ℕ) → j < k → (is : List Item) → Each (StandsIn j false) (inputs_from k is)
  stands_later k j l [] = tt
  stands_later k j l (i ∷ is) =
      each_append (StandsIn j false) (item_inputs k i.command) _ (stands_item k j l i.command)
      (stands_later (k + length (item_sections i.line i.command)) j (omega (arith, l)) is)
