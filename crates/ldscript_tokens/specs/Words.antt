-- The words that the language keeps for itself, and the NAMEs and WORDs of its grammar.
use Rattle.std.specs.Prelude.{ℕ, List, [], ◌∷◌, Bool, not, ◌&&◌, codes, bytes_eq}
use Rattle.std.specs.List.{list_any}

-- never a NAME or WORD of the grammar
abbrev pub reserved_words : List (List ℕ)
reserved_words =
    codes "ENTRY" ∷ codes "MEMORY" ∷ codes "SECTIONS" ∷ codes "PROVIDE" ∷ codes "PROVIDE_HIDDEN" ∷ codes
    "HIDDEN" ∷ codes "KEEP"
    ∷ codes "ASSERT" ∷ codes "BYTE" ∷ codes "SHORT" ∷ codes "LONG" ∷ codes "QUAD" ∷ codes "SORT" ∷ codes "SORT_BY_NAME"
    ∷ codes "SORT_BY_ALIGNMENT" ∷ codes "EXCLUDE_FILE" ∷ codes "ORIGIN" ∷ codes "LENGTH" ∷ codes
    "ADDR" ∷ codes "LOADADDR"
    ∷ codes "SIZEOF" ∷ codes "ALIGN" ∷ codes "AT" ∷ codes "DEFINED" ∷ codes "MAX" ∷ codes "MIN" ∷ codes "CONSTANT"
    ∷ codes "NOLOAD" ∷ codes "SIZEOF_HEADERS" ∷ codes "FILL" ∷ codes "SQUAD" ∷ codes "INPUT_SECTION_FLAGS" ∷ []

unfoldable pub is_reserved : List ℕ → Bool
is_reserved word = list_any (λ listed. bytes_eq listed word) reserved_words

-- a NAME of the grammar: not `.`, not reserved
unfoldable pub is_free_name : List ℕ → Bool
is_free_name name = not (bytes_eq name (codes ".")) && not (is_reserved name)

-- a WORD of the grammar: not reserved
unfoldable pub is_free_word : List ℕ → Bool
is_free_word word = not (is_reserved word)
