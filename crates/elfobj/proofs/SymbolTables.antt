-- The symbols that are read are those of the symbol table, which lies in the file; or the table is refused.
use Rattle.elfobj.proofs.Common.{All-nil, All-push, AreNamed, Bool, IsInside, List, NamedSymbol, None, Option}
use Rattle.elfobj.proofs.Common.{PassesTests, SectionHeader, Some, Span, SymbolEntry, SymbolTable, [], ap, arith}
use Rattle.elfobj.proofs.Common.{bytes_at, count_by, drop, e_shnum, entries_of, eqb, eqb-true, false, false≢true}
use Rattle.elfobj.proofs.Common.{file_bytes, find, get_or, header, headers, holds, is_out_of_bounds, is_symbol_table}
use Rattle.elfobj.proofs.Common.{length, length-append, list_any, ltb-false, map, map_push, named_symbol, nat_lt}
use Rattle.elfobj.proofs.Common.{not-false, null_symbol, or_from, or_left, or_parts, or_right, refl, strings_of, subst}
use Rattle.elfobj.proofs.Common.{suc, sym, symbol_entries_below, symbol_entry_at, symbol_name, symbol_of}
use Rattle.elfobj.proofs.Common.{symbol_refusals, symbol_table, symbols_from, symbols_in, symbols_of, take, take_more}
use Rattle.elfobj.proofs.Common.{true, zero, ℕ, ◌%◌, ◌*◌, ◌++◌, ◌+◌, ◌/◌, ◌<◌, ◌∙◌, ◌∷◌, ◌≡◌, ◌≤◌}
use Rattle.elfobj_file.specs.Tables.{has_misplaced_entry, has_wrong_entry, has_wrong_header, has_wrong_symbol}
use Rattle.elfobj_file.specs.Tables.{has_wrong_symbol_table, is_string_table, is_wrong_non_local, is_wrong_symbol}
use Rattle.elfobj_file.specs.Tables.{is_wrong_symbol_table}
use Rattle.elfobj_file.specs.declared.refusal.ObjectRefusal.TheVariants.{Symbol as WrongSymbol}
use Rattle.elfobj_file.specs.declared.symbol.Symbol.{Symbol}
use Rattle.elfobj.proofs.Found.{IsTableIn, found_is, found_not, strings_type, symbols_in_file}
use Rattle.elfobj.proofs.Passing.{none_at}

pub entries_length : (bytes : List ℕ) (start n : ℕ) → length (symbol_entries_below bytes start n) ≡ n
entries_length bytes start zero = refl
entries_length bytes start (suc n) = let h = entries_length bytes start n in
    rw (length-append (symbol_entries_below bytes start n) (symbol_entry_at bytes (start + 24 * n) ∷ [])) (omega arith)

-- what a right header of a symbol table says
pub record IsRightHeader (all : List SectionHeader) (t : SectionHeader) : Type 0 where
  pub some : 1 ≤ t.sh_size / 24
  pub strings : is_string_table all t.sh_link ≡ true
  pub low : 1 ≤ t.sh_info
  pub high : t.sh_info ≤ t.sh_size / 24

not_zero : (n : ℕ) → eqb n 0 ≡ false → 1 ≤ n
not_zero zero h = absurd (false≢true (sym h))
not_zero (suc n) h = omega arith

pub right_header : (all : List SectionHeader) (t : SectionHeader) → has_wrong_header all t ≡ false → IsRightHeader all t
right_header all t h =
    let a = or_parts _ _ h in
    let b = or_parts _ _ a.0 in
    let c = or_parts _ _ b.0 in
    let d = or_parts _ _ c.0 in
    let e = or_parts _ _ d.0 in
    let size = not_zero t.sh_size e.1 in
    let whole : t.sh_size % 24 ≡ 0 = eqb-true (t.sh_size % 24) 0 (not-false _ d.1) in
    record {
      some = omega arith;
      strings = not-false _ c.1;
      low = not_zero t.sh_info b.1;
      high = ltb-false (t.sh_size / 24) t.sh_info a.1;
    }

-- a string table by its number
pub string_table_below : (all : List SectionHeader) (k : ℕ) → is_string_table all k ≡ true → k < length all
string_table_below [] k h = absurd (false≢true h)
string_table_below (x ∷ xs) zero h = omega arith
string_table_below (x ∷ xs) (suc k) h = let l = string_table_below xs k h in omega arith

pub string_table_type : (all : List SectionHeader) (k : ℕ) (d : SectionHeader) → is_string_table all k ≡ true
    → (get_or all k d).sh_type ≡ 3
string_table_type [] k d h = absurd (false≢true h)
string_table_type (x ∷ xs) zero d h = eqb-true x.sh_type 3 h
string_table_type (x ∷ xs) (suc k) d h = string_table_type xs k d h

-- the table that is found lies in the file
pub table_in_file : (bytes : List ℕ) (t : SectionHeader) → PassesTests bytes → symbol_table bytes ≡ Some t
    → IsTableIn (length bytes) t
unfolding holds symbol_table
table_in_file bytes t p e =
    symbols_in_file (length bytes) t (found_is is_symbol_table (headers bytes) t e)
    (found_not is_symbol_table (is_out_of_bounds (length bytes)) (headers bytes) t e (or_parts _ _ p.bounds).1)

-- and so does its string table
pub strings_in_file : (bytes : List ℕ) (k : ℕ) (h : SectionHeader) → PassesTests bytes → k < e_shnum bytes
    → h ≡ header bytes k → h.sh_type ≡ 3 → IsTableIn (length bytes) h
unfolding holds
strings_in_file bytes k h p l e t =
    strings_type (length bytes) h t
    (ap (is_out_of_bounds (length bytes)) e
    ∙ none_at (is_out_of_bounds (length bytes)) bytes k (or_parts _ _ p.bounds).1 l)

-- if no symbol is wrong, none that is not local has a wrong name
pub names_right : (n : ℕ) (strings : List ℕ) (es : List SymbolEntry) → list_any (is_wrong_symbol n strings) es ≡ false
    → list_any (is_wrong_non_local strings) es ≡ false
names_right n strings [] h = refl
names_right n strings (e ∷ es) h =
    let p = or_parts _ _ h in
    or_from _ _ (or_parts _ _ (or_parts _ _ p.0).0).1 (names_right n strings es p.1)

-- one more symbol and its name
pub named_push : (file : List ℕ) (ns : List NamedSymbol) (ss : List Symbol) (ps : List Span) (n : NamedSymbol)
    (s : Symbol) (p : Span)
    → AreNamed file ns ss ps → s ≡ n.symbol → IsInside (length file) p → bytes_at file p ≡ n.name
    → AreNamed file (ns ++ n ∷ []) (ss ++ s ∷ []) (ps ++ p ∷ [])
named_push file ns ss ps n s p a e i b = record {
  symbols = rw (map_push (λ (x : NamedSymbol). x.symbol) ns n, a.symbols, e) refl;
  names = map_push (bytes_at file) ps p ∙ ap (λ x. map (bytes_at file) ps ++ x ∷ []) b
      ∙ ap (λ xs. xs ++ n.name ∷ []) a.names ∙ sym (map_push (λ (x : NamedSymbol). x.name) ns n);
  within = All-push (IsInside (length file)) ps p a.within i;
}

-- the symbols of the first i entries past the null entry
pub named_more : (file strings : List ℕ) (es : List SymbolEntry) (i : ℕ) (d : SymbolEntry) (ss ss' : List Symbol)
    (ps ps' : List Span) (s : Symbol) (p : Span) → i < length es
    → AreNamed file (null_symbol ∷ map (named_symbol strings) (take i es)) ss ps
    → s ≡ symbol_of (get_or es i d) → IsInside (length file) p → bytes_at file p ≡ symbol_name strings (get_or es i d)
    → ss' ≡ ss ++ s ∷ [] → ps' ≡ ps ++ p ∷ []
    → AreNamed file (null_symbol ∷ map (named_symbol strings) (take (i + 1) es)) ss' ps'
named_more file strings es i d ss ss' ps ps' s p l a e w b f g =
    rw (take_more es i d l, map_push (named_symbol strings) (take i es) (get_or es i d), f, g)
    (named_push file (null_symbol ∷ map (named_symbol strings) (take i es)) ss ps
    (named_symbol strings (get_or es i d)) s p a e w b)

-- the symbols of the whole table
pub named_all : (bytes : List ℕ) (t s : SectionHeader) (es : List SymbolEntry) (ss : List Symbol) (ps : List Span)
    → symbol_table bytes ≡ Some t → s ≡ header bytes t.sh_link → es ≡ entries_of bytes t
    → AreNamed bytes (symbols_from (file_bytes bytes s) es) ss ps → AreNamed bytes (symbols_of bytes) ss ps
unfolding symbols_of
named_all bytes t s es ss ps e f g a =
    subst (λ x. AreNamed bytes (symbols_in bytes x) ss ps) (sym e)
    (subst (λ x. AreNamed bytes (symbols_from (file_bytes bytes (header bytes t.sh_link)) x) ss ps) g
    (subst (λ x. AreNamed bytes (symbols_from (file_bytes bytes x) es) ss ps) f a))

pub named_none : (bytes : List ℕ) → symbol_table bytes ≡ None → AreNamed bytes (symbols_of bytes) [] []
unfolding symbols_of
named_none bytes e = subst (λ x. AreNamed bytes (symbols_in bytes x) [] []) (sym e)
    (record { symbols = refl; names = refl; within = All-nil (IsInside (length bytes)) })

-- the refusals that a symbol table gives
pub table_refused : (bytes : List ℕ) → holds bytes SymbolTable ≡ true
    → find (holds bytes) symbol_refusals ≡ Some SymbolTable
table_refused bytes h = rw h refl

pub symbol_refused : (bytes : List ℕ) → holds bytes SymbolTable ≡ false → holds bytes WrongSymbol ≡ true
    → find (holds bytes) symbol_refusals ≡ Some WrongSymbol
symbol_refused bytes h k = rw (h, k) refl

pub symbols_pass : (bytes : List ℕ) → holds bytes SymbolTable ≡ false → holds bytes WrongSymbol ≡ false
    → find (holds bytes) symbol_refusals ≡ None
symbols_pass bytes h k = rw (h, k) refl

pub wrong_several : (bytes : List ℕ) → nat_lt 1 (count_by is_symbol_table (headers bytes)) ≡ true
    → holds bytes SymbolTable ≡ true
unfolding holds has_wrong_symbol_table
wrong_several bytes h = or_left _ _ h

pub wrong_table : (bytes : List ℕ) (t : SectionHeader) (b : Bool)
    → nat_lt 1 (count_by is_symbol_table (headers bytes)) ≡ false → symbol_table bytes ≡ Some t
    → is_wrong_symbol_table bytes t ≡ b → holds bytes SymbolTable ≡ b
unfolding holds has_wrong_symbol_table
wrong_table bytes t b h e k = rw (h, e) k

pub no_table : (bytes : List ℕ) → nat_lt 1 (count_by is_symbol_table (headers bytes)) ≡ false
    → symbol_table bytes ≡ None → find (holds bytes) symbol_refusals ≡ None
unfolding holds has_wrong_symbol_table has_wrong_symbol
no_table bytes h e = rw (h, e) refl

pub wrong_symbol : (bytes : List ℕ) (t : SectionHeader) (b : Bool) → symbol_table bytes ≡ Some t
    → has_wrong_entry bytes t ≡ b → holds bytes WrongSymbol ≡ b
unfolding holds has_wrong_symbol
wrong_symbol bytes t b e k = rw e k

-- what calls tell
pub several_told : (bytes : List ℕ) (hs : List SectionHeader) (r b : Bool) → hs ≡ headers bytes
    → r ≡ nat_lt 1 (count_by is_symbol_table hs) → r ≡ b → nat_lt 1 (count_by is_symbol_table (headers bytes)) ≡ b
several_told bytes hs r b e f g = ap (λ xs. nat_lt 1 (count_by is_symbol_table xs)) (sym e) ∙ sym f ∙ g

pub table_told : (bytes : List ℕ) (hs : List SectionHeader) (r o : Option SectionHeader) → hs ≡ headers bytes
    → r ≡ find is_symbol_table hs → r ≡ o → symbol_table bytes ≡ o
unfolding symbol_table
table_told bytes hs r o e f g = ap (find is_symbol_table) (sym e) ∙ sym f ∙ g

pub wrong_by_header : (bytes : List ℕ) (hs : List SectionHeader) (t : SectionHeader) → hs ≡ headers bytes
    → has_wrong_header hs t ≡ true → is_wrong_symbol_table bytes t ≡ true
wrong_by_header bytes hs t e h = or_left _ _ (ap (λ xs. has_wrong_header xs t) (sym e) ∙ h)

pub wrong_by_entries : (bytes : List ℕ) (t : SectionHeader) (es : List SymbolEntry) → es ≡ entries_of bytes t
    → has_misplaced_entry t es ≡ true → is_wrong_symbol_table bytes t ≡ true
wrong_by_entries bytes t es e h = or_right _ _ (ap (has_misplaced_entry t) (sym e) ∙ h)

pub right_table : (bytes : List ℕ) (hs : List SectionHeader) (t : SectionHeader) (es : List SymbolEntry)
    → hs ≡ headers bytes → es ≡ entries_of bytes t → has_wrong_header hs t ≡ false → has_misplaced_entry t es ≡ false
    → is_wrong_symbol_table bytes t ≡ false
right_table bytes hs t es e f h k =
    or_from _ _ (ap (λ xs. has_wrong_header xs t) (sym e) ∙ h) (ap (has_misplaced_entry t) (sym f) ∙ k)

pub count_told : (bytes : List ℕ) (t : SectionHeader) (es : List SymbolEntry) → es ≡ entries_of bytes t
    → length es ≡ t.sh_size / 24
count_told bytes t es e = ap length e ∙ entries_length bytes t.sh_offset (t.sh_size / 24)

pub entry_told : (bytes : List ℕ) (t s : SectionHeader) (n : ℕ) (strings : List ℕ) (es : List SymbolEntry) (b : Bool)
    → n ≡ e_shnum bytes → s ≡ header bytes t.sh_link → strings ≡ file_bytes bytes s → es ≡ entries_of bytes t
    → list_any (is_wrong_symbol n strings) (drop 1 es) ≡ b → has_wrong_entry bytes t ≡ b
entry_told bytes t s n strings es b e f g h k =
    ap (λ m. list_any (is_wrong_symbol m (strings_of bytes t)) (drop 1 (entries_of bytes t))) (sym e)
    ∙ ap (λ x. list_any (is_wrong_symbol n (file_bytes bytes x)) (drop 1 (entries_of bytes t))) (sym f)
    ∙ ap (λ x. list_any (is_wrong_symbol n x) (drop 1 (entries_of bytes t))) (sym g)
    ∙ ap (λ x. list_any (is_wrong_symbol n strings) (drop 1 x)) (sym h)
    ∙ k

pub names_told : (n : ℕ) (strings strings' : List ℕ) (es es' : List SymbolEntry) → strings ≡ strings' → es ≡ es'
    → list_any (is_wrong_symbol n strings) (drop 1 es) ≡ false
    → list_any (is_wrong_non_local strings') (drop 1 es') ≡ false
names_told n strings strings' es es' e f h =
    ap (λ x. list_any (is_wrong_non_local x) (drop 1 es')) (sym e)
    ∙ ap (λ x. list_any (is_wrong_non_local strings) (drop 1 x)) (sym f) ∙ names_right n strings (drop 1 es) h

-- of a table that was looked through
pub table_same : (bytes file : List ℕ) (h s : SectionHeader) → file ≡ bytes → h ≡ s
    → file_bytes file h ≡ file_bytes bytes s
table_same bytes file h s e f = ap (λ x. file_bytes x h) e ∙ ap (λ x. file_bytes bytes x) f

pub named_same : (bytes file : List ℕ) (h s : SectionHeader) (es : List SymbolEntry) (ss : List Symbol) (ps : List Span)
    → file ≡ bytes → h ≡ s → AreNamed file (symbols_from (file_bytes file h) es) ss ps
    → AreNamed bytes (symbols_from (file_bytes bytes s) es) ss ps
named_same bytes file h s es ss ps e f a =
    subst (λ x. AreNamed bytes (symbols_from (file_bytes bytes x) es) ss ps) f
    (subst (λ x. AreNamed x (symbols_from (file_bytes x h) es) ss ps) e a)
