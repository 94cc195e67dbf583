-- The map by the code's values is the map of the link.
use Rattle.emit_text.proofs.Common.{Bool, Contains, Each, List, MapSymbol, Option, OutputSectionAt, Piece, Project, []}
use Rattle.emit_text.proofs.Common.{ap, append_assoc, codes, cond, drop, false, filter, flat_map, hex, is_defined}
use Rattle.emit_text.proofs.Common.{length, line_of, map, output_sections, owner, piece_in, piece_text, pieces_text}
use Rattle.emit_text.proofs.Common.{refl, section_text, sections_text, shown_map, shown_sections, sym, symbols_text}
use Rattle.emit_text.proofs.Common.{true, value_text, vec_items, ℕ, ◌++◌, ◌∙◌, ◌∷◌, ◌≡◌}
use Rattle.ldmodel.specs.Layout.{Layout, PlacedPiece, PlacedOutput}
use Rattle.ldmodel.specs.PlacementView.{placed_of, starts_of}
use Rattle.ldmodel.specs.MapText.{map_text, entry_line, section_lines, piece_line, symbol_line, value_word}
use Rattle.ldmodel.specs.Names.{Decision, decision, declared_names}
use Rattle.ldmodel.specs.OutputSymbols.{OutputSymbol, in_byte_order, output_symbol, output_symbols}
use Rattle.ldmodel.specs.Rows as model
use Rattle.ldmodel.specs.SymbolValues.{SymbolValue, Number, NotDefined, NotInOutput, name_value}
use Rattle.emit_text.specs.Definer.{definer_of, defines, owner_in}
use Rattle.emit_text.specs.MapOf.{IsMapOf, IsSymbolOf, AreSymbolsOf, IsValue, name_of, name_in, row_of, symbol_names}
use Rattle.emit_text.specs.ShownMap.{symbol_text}
use Rattle.emit_text.specs.declared.maps.MapParts.{MapParts}
use Rattle.emit_text.specs.declared.definer.Definer.{Definer}
use Rattle.emit_text.proofs.Definers.{defines_as, owner_as}
use Rattle.emit_text.proofs.ByteOrder.{Name, In, Once, contained_in, distinct_once, filtered_asc}
use Rattle.emit_text.proofs.ByteOrder.{filtered_in, in_contained, in_filtered, in_sorted}
use Rattle.emit_text.proofs.ByteOrder.{same_list, sorted_asc, sorted_in}
use Rattle.emit_text.proofs.MapNames.{asc_from, each_name, each_of}

-- ---- sections and rows

piece_same : (p : Project) (x : Piece) (y : PlacedPiece) → piece_in p x ≡ y.piece
    → piece_text p x y.start ≡ piece_line y
piece_same p x y e =
    ap (λ (z : model.Piece). line_of (codes "piece" ∷ hex y.start ∷ hex z.size ∷ z.object ∷ z.name ∷ [])) e

pieces_same : (p : Project) (ys : List PlacedPiece) (xs : List Piece) (rest : List ℕ)
    → map (piece_in p) xs ≡ map (λ (y : PlacedPiece). y.piece) ys
    → pieces_text p xs (map (λ (y : PlacedPiece). y.start) ys ++ rest) ≡ flat_map piece_line ys
pieces_same p [] [] rest e = refl
pieces_same p [] (x ∷ xs) rest e = absurd (cc)
pieces_same p (y ∷ ys) [] rest e = absurd (cc)
pieces_same p (y ∷ ys) (x ∷ xs) rest e =
    let head : piece_in p x ≡ y.piece = cc in
    let tail : map (piece_in p) xs ≡ map (λ (z : PlacedPiece). z.piece) ys = cc in
    ap (λ t. t ++ pieces_text p xs (map (λ (z : PlacedPiece). z.start) ys ++ rest))
    (piece_same p x y head)
    ∙ ap (λ t. piece_line y ++ t) (pieces_same p ys xs rest tail)

starts_left : (p : Project) (ys : List PlacedPiece) (xs : List Piece) (rest : List ℕ)
    → map (piece_in p) xs ≡ map (λ (y : PlacedPiece). y.piece) ys
    → drop (length xs) (map (λ (y : PlacedPiece). y.start) ys ++ rest) ≡ rest
starts_left p [] [] rest e = refl
starts_left p [] (x ∷ xs) rest e = absurd (cc)
starts_left p (y ∷ ys) [] rest e = absurd (cc)
starts_left p (y ∷ ys) (x ∷ xs) rest e =
    let tail : map (piece_in p) xs ≡ map (λ (z : PlacedPiece). z.piece) ys = cc in
    starts_left p ys xs rest tail

sections_same : (p : Project) (qs : List PlacedOutput) (os : List OutputSectionAt)
    (rows : List (List Piece)) → map name_of qs ≡ map name_in os
    → map (λ (row : List Piece). map (piece_in p) row) rows ≡ map row_of qs
    → sections_text p (map placed_of qs) os rows (flat_map starts_of qs) ≡ flat_map section_lines qs
sections_same p [] os rows e r = refl
sections_same p (q ∷ qs) [] rows e r = absurd (cc)
sections_same p (q ∷ qs) (o ∷ os) [] e r = absurd (cc)
sections_same p (q ∷ qs) (o ∷ os) (row ∷ rows) e r =
    let name : q.name ≡ o.section.name = cc in
    let names : map name_of qs ≡ map name_in os = cc in
    let here : map (piece_in p) row ≡ row_of q = cc in
    let later : map (λ (row : List Piece). map (piece_in p) row) rows ≡ map row_of qs = cc in
    let starts = flat_map starts_of qs in
    let line = section_text o.section.name (placed_of q) in
    let rest : List ℕ → List ℕ = λ ss. sections_text p (map placed_of qs) os rows ss in
    ap (λ t. line ++ (t ++ rest (drop (length row) (starts_of q ++ starts))))
    (pieces_same p q.pieces row starts here)
    ∙ ap (λ ss. line ++ (flat_map piece_line q.pieces ++ rest ss)) (starts_left p q.pieces row starts here)
    ∙ ap (λ t. line ++ (flat_map piece_line q.pieces ++ t)) (sections_same p qs os rows names later)
    ∙ ap (λ m. section_text m (placed_of q) ++ (flat_map piece_line q.pieces ++ flat_map section_lines qs)) (sym name)
    ∙ sym (append_assoc (section_text q.name (placed_of q)) (flat_map piece_line q.pieces) (flat_map section_lines qs))

-- ---- symbols

abbrev stands : Project → Name → Bool
stands p name = is_defined (decision p name)

-- the line of a name, or none
abbrev named_line : Project → Layout → Name → List ℕ
named_line p s name = cond (stands p name) (symbol_line p (output_symbol p s name)) []

listed : (p : Project) (s : Layout) (xs : List Name)
    → flat_map (symbol_line p) (filter (λ (x : OutputSymbol). is_defined x.decision) (map (output_symbol p s) xs))
    ≡ flat_map (named_line p s) xs
listed p s [] = refl
listed p s (x ∷ xs) = go (stands p x) (listed p s xs)
  where
    go : (b : Bool) → flat_map (symbol_line p)
        (filter (λ (y : OutputSymbol). is_defined y.decision) (map (output_symbol p s) xs))
        ≡ flat_map (named_line p s) xs
        → flat_map (symbol_line p)
        (cond b (output_symbol p s x ∷ filter (λ (y : OutputSymbol).
        is_defined y.decision) (map (output_symbol p s) xs))
        (filter (λ (y : OutputSymbol). is_defined y.decision) (map (output_symbol p s) xs)))
        ≡ cond b (symbol_line p (output_symbol p s x)) [] ++ flat_map (named_line p s) xs
    go true e = ap (λ t. symbol_line p (output_symbol p s x) ++ t) e
    go false e = e

filtered_lines : (p : Project) (s : Layout) (xs : List Name) → flat_map (named_line p s) (filter (stands p) xs)
    ≡ flat_map (named_line p s) xs
filtered_lines p s [] = refl
filtered_lines p s (x ∷ xs) = go (stands p x) refl (filtered_lines p s xs)
  where
    go : (b : Bool) → stands p x ≡ b → flat_map (named_line p s) (filter (stands p) xs) ≡ flat_map (named_line p s) xs
        → flat_map (named_line p s) (cond b (x ∷ filter (stands p) xs) (filter (stands p) xs)) ≡ named_line p s x
        ++ flat_map (named_line p s) xs
    go true h e = ap (λ t. named_line p s x ++ t) e
    go false h e = e ∙ ap (λ b. cond b (symbol_line p (output_symbol p s x)) [] ++ flat_map (named_line p s) xs) (sym h)

value_same : (v : SymbolValue) (o : Option ℕ) → IsValue v o → value_text o ≡ value_word v
value_same (Number x) o e = ap value_text e
value_same NotInOutput o e = ap value_text e
value_same NotDefined o e = ap value_text e

symbol_same : (p : Project) (s : Layout) (x : MapSymbol) → IsSymbolOf p s x
    → symbol_text p x ≡ named_line p s x.name.now
symbol_same p s x h =
    ap (λ (k : Definer). cond (defines k) (line (owner_in p k)) []) h.definer
    ∙ ap (λ (b : Bool). cond b (line (owner_in p (definer_of d))) []) (defines_as d)
    ∙ ap (λ (o : List ℕ). cond (is_defined d) (line o) []) (owner_as p d)
    ∙ go (stands p x.name.now) refl
  where
    d : Decision
    d = decision p x.name.now

    line : List ℕ → List ℕ
    line o = line_of (codes "symbol" ∷ value_text x.value ∷ x.name.now ∷ o ∷ [])

    go : (b : Bool) → stands p x.name.now ≡ b
        → cond b (line_of (codes "symbol" ∷ value_text x.value ∷ x.name.now ∷ owner p (decision p x.name.now) ∷ [])) []
        ≡ cond b (symbol_line p (output_symbol p s x.name.now)) []
    go true e = ap (λ v. line_of (codes "symbol" ∷ v ∷ x.name.now ∷ owner p (decision p x.name.now) ∷ []))
        (value_same (name_value p s x.name.now) x.value (h.value e))
    go false e = refl

symbols_same : (p : Project) (s : Layout) (xs : List MapSymbol) → Each (IsSymbolOf p s) xs
    → symbols_text p xs ≡ flat_map (named_line p s) (symbol_names xs)
symbols_same p s [] h = refl
symbols_same p s (x ∷ xs) h =
    ap (λ t. t ++ symbols_text p xs) (symbol_same p s x h.0)
    ∙ ap (λ t. named_line p s x.name.now ++ t) (symbols_same p s xs h.1)

names_once : (p : Project) → Once (declared_names p)
unfolding declared_names
names_once p = distinct_once _

-- the names that stand for something are the same ones
module _ (p : Project) (s : Layout) (xs : List MapSymbol) (h : AreSymbolsOf p s xs)
    (all : (name : List ℕ) → Contains (declared_names p) name → is_defined (decision p name) ≡ true
    → Contains (symbol_names xs) name) where
  abbrev every : List Name
  every = in_byte_order (declared_names p)

  each : Each (IsSymbolOf p s) xs
  each = each_of (IsSymbolOf p s) xs h.each

  to_every : (z : Name) → In z (filter (stands p) (symbol_names xs)) → In z (filter (stands p) every)
  to_every z i =
      let parts = in_filtered (stands p) z (symbol_names xs) i in
      let declared : Contains (declared_names p) z =
      each_name (IsSymbolOf p s) (λ w. is_defined (decision p w) ≡ true → Contains (declared_names p) w) (λ x q.
      q.declared) xs z each parts.0 parts.1 in
      filtered_in (stands p) z every (sorted_in z (declared_names p) (in_contained z (declared_names p) declared))
      parts.1

  to_listed : (z : Name) → In z (filter (stands p) every) → In z (filter (stands p) (symbol_names xs))
  to_listed z i =
      let parts = in_filtered (stands p) z every i in
      let among = all z (contained_in z (declared_names p) (in_sorted z (declared_names p) parts.0)) parts.1 in
      filtered_in (stands p) z (symbol_names xs) (in_contained z (symbol_names xs) among) parts.1

  same_names : filter (stands p) (symbol_names xs) ≡ filter (stands p) every
  same_names = same_list (filter (stands p) (symbol_names xs)) (filter (stands p) every)
      (filtered_asc (stands p) (symbol_names xs) (asc_from xs h.order))
      (filtered_asc (stands p) every (sorted_asc (declared_names p) (names_once p))) to_every to_listed

  pub all_symbols : symbols_text p xs ≡ flat_map (symbol_line p) (output_symbols p s)
  unfolding output_symbols
  all_symbols =
      symbols_same p s xs each ∙ sym (filtered_lines p s (symbol_names xs))
      ∙ ap (flat_map (named_line p s)) same_names
      ∙ filtered_lines p s every ∙ sym (listed p s every)

pub map_is_shown : (p : Project) (s : Layout) (m : MapParts) (xs : List MapSymbol)
    → IsMapOf p s m xs → shown_map p m xs ≡ map_text p s
unfolding shown_map map_text
map_is_shown p s m xs h =
    let sections : sections_text p m.placement.sections.now (shown_sections m.sections.now)
    (map vec_items m.rows.now) m.placement.starts.now ≡ flat_map section_lines s.sections =
    ap (λ qs. sections_text p qs (shown_sections m.sections.now) (map vec_items m.rows.now)
    m.placement.starts.now)
    h.placement.sections
    ∙ ap (λ ss. sections_text p (map placed_of s.sections) (shown_sections m.sections.now)
    (map vec_items m.rows.now) ss) h.placement.starts
    ∙ ap (λ os. sections_text p (map placed_of s.sections) os (map vec_items m.rows.now)
    (flat_map starts_of s.sections)) h.sections
    ∙ sections_same p s.sections (output_sections p.script) (map vec_items m.rows.now) h.names h.rows in
    let symbols = all_symbols p s xs h.listed h.complete in
    ap (λ e. line_of (codes "entry" ∷ hex e ∷ [])
    ++ (sections_text p m.placement.sections.now (shown_sections m.sections.now) (map vec_items m.rows.now)
    m.placement.starts.now ++ symbols_text p xs)) h.entry
    ∙ ap (λ t. entry_line p s ++ (t ++ symbols_text p xs)) sections
    ∙ ap (λ t. entry_line p s ++ (flat_map section_lines s.sections ++ t)) symbols
    ∙ sym (append_assoc (entry_line p s) (flat_map section_lines s.sections)
    (flat_map (symbol_line p) (output_symbols p s)))
