-- Output sections with their rows.
use Rattle.emit_text.proofs.Common.{List, OutputSectionAt, Piece, Project, [], ap, append_assoc, arith, at_drop_all}
use Rattle.emit_text.proofs.Common.{at_drop_more, drop, drop_min, get_or, length, length-drop, map, min, pieces_text}
use Rattle.emit_text.proofs.Common.{refl, section_text, sections_text, shown_sections, sym, take, take_all, vec_items}
use Rattle.emit_text.proofs.Common.{ℕ, ◌++◌, ◌+◌, ◌-◌, ◌<◌, ◌∙◌, ◌∷◌, ◌≡◌}
use Rattle.ldscript.specs.statements.declared.numbering.OutputSectionAt as code_section
use Rattle.ldmodel.specs.declared.placed.Placed.{Placed}
use Rattle.emit_text.proofs.Appending.{written_step, written_both, written_end}
use Rattle.emit_text.proofs.SideBySide.{some_left, none_left}
use Rattle.emit_text.proofs.maps.put_sections.Goals as goal

-- the output section that each number stands for
abbrev shown_one : code_section.OutputSectionAt → OutputSectionAt
shown_one s = record { line = s.line; section = s.section.now }

-- one output section further
sections_step : (p : Project) (d e f end : List ℕ) (placed : List Placed) (os : List OutputSectionAt)
    (rows : List (List Piece)) (starts later : List ℕ) (k : ℕ)
    (q : Placed) (o : OutputSectionAt) (row : List Piece) → k < length placed → drop k os ≡ o ∷ drop (k + 1) os
    → drop k rows ≡ row ∷ drop (k + 1) rows
    → e ≡ d ++ section_text o.section.name (get_or placed k q) → f ≡ e ++ pieces_text p row starts
    → later ≡ drop (length row) starts
    → d ++ sections_text p (drop k placed) (drop k os) (drop k rows) starts ≡ end
    → f ++ sections_text p (drop (k + 1) placed) (drop (k + 1) os) (drop (k + 1) rows) later ≡ end
sections_step p d e f end placed os rows starts later k q o row h a b x y r v =
    let line = section_text o.section.name (get_or placed k q) in
    let pieces = pieces_text p row starts in
    let rest : List ℕ → List ℕ = λ ss.
    sections_text p (drop (k + 1) placed) (drop (k + 1) os) (drop (k + 1) rows) ss in
    written_step d f (line ++ pieces) (rest later)
    (sections_text p (drop k placed) (drop k os) (drop k rows) starts) end
    (written_both d e f line pieces x y)
    (at_drop_more (λ qs. sections_text p qs (drop k os) (drop k rows) starts) placed k q h
    ∙ ap (λ us. sections_text p (get_or placed k q ∷ drop (k + 1) placed) us (drop k rows) starts) a
    ∙ ap (λ us. sections_text p (get_or placed k q ∷ drop (k + 1) placed) (o ∷ drop (k + 1) os) us starts) b
    ∙ sym (append_assoc line pieces (rest (drop (length row) starts)))
    ∙ ap (λ ss. (line ++ pieces) ++ rest ss) (sym r))
    v

-- the same by the name and the row as they are lent
sections_lent : (p : Project) (d e f end : List ℕ) (placed : List Placed) (os : List OutputSectionAt)
    (rows : List (List Piece)) (starts later : List ℕ) (k : ℕ)
    (q : Placed) (o : OutputSectionAt) (row : List Piece) (name : List ℕ) (items : List Piece) → k < length placed
    → drop k os ≡ o ∷ drop (k + 1) os → drop k rows ≡ row ∷ drop (k + 1) rows
    → name ≡ o.section.name → items ≡ row → e ≡ d ++ section_text name (get_or placed k q) → f
    ≡ e ++ pieces_text p items starts → later ≡ drop (length items) starts
    → d ++ sections_text p (drop k placed) (drop k os) (drop k rows) starts ≡ end
    → f ++ sections_text p (drop (k + 1) placed) (drop (k + 1) os) (drop (k + 1) rows) later ≡ end
sections_lent p d e f end placed os rows starts later k q o row name items h a b n r x y z v =
    sections_step p d e f end placed os rows starts later k q o row h a b
    (x ∙ ap (λ m. d ++ section_text m (get_or placed k q)) n)
    (y ∙ ap (λ i. e ++ pieces_text p i starts) r)
    (z ∙ ap (λ i. drop (length i) starts) r) v

no_sections : (p : Project) (placed : List Placed) (os : List OutputSectionAt)
    (rows : List (List Piece)) (starts : List ℕ) → os ≡ [] → sections_text p placed os rows starts ≡ []
no_sections p [] os rows starts h = refl
no_sections p (q ∷ qs) [] rows starts h = refl
no_sections p (q ∷ qs) (o ∷ os) rows starts h = cc

no_rows : (p : Project) (placed : List Placed) (os : List OutputSectionAt) (rows : List (List Piece))
    (starts : List ℕ) → rows ≡ [] → sections_text p placed os rows starts ≡ []
no_rows p [] os rows starts h = refl
no_rows p (q ∷ qs) [] rows starts h = refl
no_rows p (q ∷ qs) (o ∷ os) [] starts h = refl
no_rows p (q ∷ qs) (o ∷ os) (r ∷ rs) starts h = cc

-- what a row leaves of the addresses
starts_left : (row : List Piece) (starts : List ℕ) (n : ℕ) → n ≡ min (length row) (length starts)
    → take (length starts - n) (drop n starts) ≡ drop (length row) starts
starts_left row starts n e =
    take_all (length starts - n) (drop n starts) (omega (arith, length-drop n starts))
    ∙ ap (λ m. drop m starts) e ∙ drop_min (length row) starts

pub loop-k-preserved : goal.loop-k-preserved
loop-k-preserved c =
    let starts = c.loop-k.starts.now in
    sections_lent c.args.project.now c.loop-k.text.items c.put_section.new.text.items c.put_pieces.new.text.items _
    c.args.parts.now.placement.sections.now (shown_sections c.args.parts.now.sections.now)
    (map vec_items c.args.parts.now.rows.now) starts _ c.loop-k.k _ (shown_one c.in-Some.section.now)
    (vec_items c.in-Some-get.row.now) c.as_bytes.result.now c.deref.result.now c.loop-k-test.true
    (some_left shown_one c.args.parts.now.sections.now c.loop-k.k c.in-Some.section.now
    c.in-Some.ensures.lookup.3.0 c.in-Some.ensures.lookup.1)
    (some_left vec_items c.args.parts.now.rows.now c.loop-k.k c.in-Some-get.row.now
    c.in-Some-get.ensures.lookup.3.0 c.in-Some-get.ensures.lookup.1)
    c.as_bytes.ensures c.deref.ensures.value c.in_ok-put_section.ensures c.in_ok-put_pieces.ensures
    (starts_left c.deref.result.now starts c.min.result
    (c.min.ensures ∙ ap (λ n. min n (length starts)) (c.len.ensures ∙ sym c.deref.ensures.len)))
    c.loop-k.invariant

pub returns-in_default : goal.returns-in_default
returns-in_default c =
    written_end _ _ _
    (no_sections c.args.project.now (drop c.loop-k.k c.args.parts.now.placement.sections.now)
    (drop c.loop-k.k (shown_sections c.args.parts.now.sections.now))
    (drop c.loop-k.k (map vec_items c.args.parts.now.rows.now)) c.loop-k.starts.now
    (none_left shown_one c.args.parts.now.sections.now c.loop-k.k c.in_default.ensures.lookup.3))
    c.loop-k.invariant

pub returns-in_default-get : goal.returns-in_default-get
returns-in_default-get c =
    written_end _ _ _
    (no_rows c.args.project.now (drop c.loop-k.k c.args.parts.now.placement.sections.now)
    (drop c.loop-k.k (shown_sections c.args.parts.now.sections.now))
    (drop c.loop-k.k (map vec_items c.args.parts.now.rows.now)) c.loop-k.starts.now
    (none_left vec_items c.args.parts.now.rows.now c.loop-k.k c.in_default-get.ensures.lookup.3))
    c.loop-k.invariant

pub returns : goal.returns
returns c =
    written_end _ _ _
    (at_drop_all (λ qs. sections_text c.args.project.now qs
    (drop c.loop-k.k (shown_sections c.args.parts.now.sections.now))
    (drop c.loop-k.k (map vec_items c.args.parts.now.rows.now)) c.loop-k.starts.now)
    c.args.parts.now.placement.sections.now c.loop-k.k c.loop-k-test.false)
    c.loop-k.invariant
