-- How the map's lines of two names are spelled.
use Rattle.emit_text.proofs.Common.{List, None, Option, Some, [], ap, append-nil, append_assoc, codes, hex, line_of}
use Rattle.emit_text.proofs.Common.{sym, value_text, ℕ, ◌++◌, ◌∙◌, ◌∷◌, ◌≡◌}

abbrev names : (xs ys : List ℕ) → List ℕ
names xs ys = xs ++ 32 ∷ [] ++ ys ++ 10 ∷ []

names_last : (xs ys : List ℕ) → names xs ys ≡ (xs ++ (32 ∷ (ys ++ []))) ++ 10 ∷ []
names_last xs ys =
    ap (λ t. t ++ 10 ∷ []) (append_assoc xs (32 ∷ []) ys ∙ ap (λ zs. xs ++ 32 ∷ zs) (sym (append-nil ys)))

pub piece_spelled : (start size : ℕ) (object section : List ℕ)
    → codes "piece " ++ (hex start ++ 32 ∷ []) ++ (hex size ++ 32 ∷ []) ++ names object section
    ≡ line_of (codes "piece" ∷ hex start ∷ hex size ∷ object ∷ section ∷ [])
unfolding line_of hex
piece_spelled start size object section =
    ap (λ t. codes "piece " ++ (hex start ++ 32 ∷ []) ++ (hex size ++ 32 ∷ []) ++ t) (names_last object section)

pub symbol_spelled : (value : Option ℕ) (name owner : List ℕ)
    → codes "symbol " ++ (value_text value ++ 32 ∷ []) ++ names name owner
    ≡ line_of (codes "symbol" ∷ value_text value ∷ name ∷ owner ∷ [])
unfolding line_of hex
symbol_spelled (Some x) name owner = ap (λ t. codes "symbol " ++ (hex x ++ 32 ∷ []) ++ t) (names_last name owner)
symbol_spelled None name owner = ap (λ t. codes "symbol " ++ (value_text None ++ 32 ∷ []) ++ t) (names_last name owner)

pub entry_spelled : (digits : List ℕ) (entry : ℕ) → digits ≡ hex entry
    → codes "entry " ++ digits ++ 10 ∷ [] ≡ line_of (codes "entry" ∷ hex entry ∷ [])
unfolding line_of hex
entry_spelled digits entry e = ap (λ t. codes "entry " ++ t ++ 10 ∷ []) e

abbrev numbers : (start load size : ℕ) → List ℕ
numbers start load size = 32 ∷ (hex start ++ 32 ∷ []) ++ (hex load ++ 32 ∷ []) ++ (hex size ++ 32 ∷ [])

-- what follows the name of a section
section_last : (name flags middle : List ℕ)
    → name ++ middle ++ flags ++ 10 ∷ [] ≡ (name ++ (middle ++ (flags ++ []))) ++ 10 ∷ []
section_last name flags middle =
    ap (λ t. t ++ 10 ∷ []) (append_assoc name middle flags ∙ ap (λ t. name ++ (middle ++ t)) (sym (append-nil flags)))

pub section_spelled : (name middle : List ℕ) (start load size : ℕ) (flags : List ℕ)
    → middle ≡ numbers start load size
    → codes "section " ++ name ++ middle ++ flags ++ 10 ∷ []
    ≡ line_of (codes "section" ∷ name ∷ hex start ∷ hex load ∷ hex size ∷ flags ∷ [])
unfolding line_of hex
section_spelled name middle start load size flags e =
    ap (λ t. codes "section " ++ name ++ t ++ flags ++ 10 ∷ []) e
    ∙ ap (λ t. codes "section " ++ t) (section_last name flags (numbers start load size))
