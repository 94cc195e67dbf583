-- Symbols that one pass reads: all of their entries are within the profile.
use Rattle.elfobj.proofs.Common.{AreNamed, Bool, IsInside, List, None, SectionHeader, Some, Span, SymbolEntry, []}
use Rattle.elfobj.proofs.Common.{and_from, ap, arith, bytes_at, cases_lt, count_by, drop, e_shnum, entries_of, false}
use Rattle.elfobj.proofs.Common.{false≢true, file_bytes, find, get_or, get_or-drop, get_or-take, get_or_append_left}
use Rattle.elfobj.proofs.Common.{get_or_push, header, headers, holds, is_symbol_table, le-ltb, length, length-drop}
use Rattle.elfobj.proofs.Common.{length-take-le, list_any, list_any_none, lt-ltb, map_push, named_symbol, nat_lt, not}
use Rattle.elfobj.proofs.Common.{null_symbol, or_from, refl, slice_range, subst, suc, sym, symbol_entries_below}
use Rattle.elfobj.proofs.Common.{symbol_entry_at, symbol_name, symbol_of, symbol_refusals, symbol_table, symbols_from}
use Rattle.elfobj.proofs.Common.{true, zero, ℕ, ⊎_elim, ◌*◌, ◌++◌, ◌+◌, ◌-◌, ◌/◌, ◌<◌, ◌∙◌, ◌∷◌, ◌≡◌, ◌≤◌}
use Rattle.std.specs.List.{list_all}
use Rattle.std.proofs.Math.Bool.{beq}
use Rattle.elfobj_file.specs.Tables.{has_misplaced_entry, has_wrong_header, is_local_entry, is_wrong_symbol}
use Rattle.elfobj_file.specs.declared.symbol.Symbol.{Symbol}
use Rattle.elfobj.proofs.SymbolTables.{entries_length, entry_told, named_push, right_table, symbols_pass, wrong_symbol}
use Rattle.elfobj.proofs.SymbolTables.{wrong_table}

pub same_by : (a b : Bool) → not (beq a b) ≡ false → a ≡ b
same_by true true h = refl
same_by true false h = absurd (false≢true (sym h))
same_by false true h = absurd (false≢true (sym h))
same_by false false h = refl

-- entries by their numbers
entry_at : (bytes : List ℕ) (start n j : ℕ) (d : SymbolEntry) → j < n
    → get_or (symbol_entries_below bytes start n) j d ≡ symbol_entry_at bytes (start + 24 * j)
entry_at bytes start zero j d l = absurd (omega arith)
entry_at bytes start (suc n) j d l =
    let long = entries_length bytes start n in
    ⊎_elim
    (λ m. get_or_append_left (symbol_entries_below bytes start n) (symbol_entry_at bytes (start + 24 * n) ∷ []) d j
    (omega arith) ∙ entry_at bytes start n j d m)
    (λ m. let e : j ≡ n = omega arith in
    ap (λ k. get_or (symbol_entries_below bytes start (suc n)) k d) e
    ∙ get_or_push (symbol_entries_below bytes start n) (symbol_entry_at bytes (start + 24 * n)) d n long
    ∙ ap (λ k. symbol_entry_at bytes (start + 24 * k)) (sym e))
    (cases_lt j n)

-- what holds of all numbers from 1 on and below k
pub each_more : (P : ℕ → Type 0) (k : ℕ) → P k → ((j : ℕ) → 1 ≤ j → j < k → P j) → (j : ℕ) → 1 ≤ j → j < k + 1 → P j
each_more P k p h j a b = ⊎_elim (λ l. h j a l) (λ l. let e : k ≡ j = omega arith in subst P e p) (cases_lt j k)

-- one more symbol
from_push : (strings : List ℕ) (xs : List SymbolEntry) (y : SymbolEntry) → 0 < length xs
    → symbols_from strings (xs ++ y ∷ []) ≡ symbols_from strings xs ++ named_symbol strings y ∷ []
from_push strings [] y l = absurd (omega arith)
from_push strings (x ∷ xs) y l = ap (λ zs. null_symbol ∷ zs) (map_push (named_symbol strings) xs y)

below_more : (bytes : List ℕ) (start k : ℕ)
    → symbol_entries_below bytes start (k + 1) ≡ symbol_entries_below bytes start k ++ symbol_entry_at bytes
    (start + 24 * k) ∷ []
below_more bytes start k = let e : k + 1 ≡ suc k = omega arith in ap (symbol_entries_below bytes start) e

pub symbols_more : (bytes strings : List ℕ) (start k : ℕ) (e : SymbolEntry) (ss ss' : List Symbol) (ps ps' : List Span)
    (s : Symbol) (p : Span) → 1 ≤ k → e ≡ symbol_entry_at bytes (start + 24 * k)
    → s ≡ symbol_of e → IsInside (length bytes) p → bytes_at bytes p ≡ symbol_name strings e → ss' ≡ ss ++ s ∷ []
    → ps' ≡ ps ++ p ∷ []
    → AreNamed bytes (symbols_from strings (symbol_entries_below bytes start k)) ss ps
    → AreNamed bytes (symbols_from strings (symbol_entries_below bytes start (k + 1))) ss' ps'
symbols_more bytes strings start k e ss ss' ps ps' s p l f a w b g h n =
    let long = entries_length bytes start k in
    let more : symbols_from strings (symbol_entries_below bytes start (k + 1)) ≡ symbols_from strings
    (symbol_entries_below bytes start k) ++ named_symbol strings e ∷ [] =
    ap (symbols_from strings) (below_more bytes start k)
    ∙ from_push strings (symbol_entries_below bytes start k) (symbol_entry_at bytes (start + 24 * k)) (omega arith)
    ∙ ap (λ x. symbols_from strings (symbol_entries_below bytes start k) ++ named_symbol strings x ∷ []) (sym f) in
    subst (λ ns. AreNamed bytes ns ss' ps') (sym more)
    (rw (g, h) (named_push bytes (symbols_from strings (symbol_entries_below bytes start k)) ss ps
    (named_symbol strings e) s p n a w b))

-- local entries stand before the others
all_by : (p : SymbolEntry → Bool) (xs : List SymbolEntry)
    → ((k : ℕ) (d : SymbolEntry) → k < length xs → p (get_or xs k d) ≡ true) → list_all p xs ≡ true
all_by p [] h = refl
all_by p (x ∷ xs) h = and_from _ _ (h 0 x (omega arith)) (all_by p xs (λ k d l. h (suc k) d (omega arith)))

pub placed_all : (bytes : List ℕ) (t : SectionHeader) (n : ℕ) → t.sh_size / 24 ≤ n → 1 ≤ t.sh_info
    → t.sh_info ≤ t.sh_size / 24
    → ((j : ℕ) → 1 ≤ j → j < n → is_local_entry (symbol_entry_at bytes (t.sh_offset + 24 * j)) ≡ nat_lt j t.sh_info)
    → has_misplaced_entry t (entries_of bytes t) ≡ false
placed_all bytes t n l low m h =
    let es = entries_of bytes t in
    let long : length es ≡ t.sh_size / 24 = entries_length bytes t.sh_offset (t.sh_size / 24) in
    let long' = length-drop 1 es in
    let long'' = length-drop t.sh_info es in
    or_from _ _
    (ap not (all_by is_local_entry (slice_range es 1 t.sh_info) (λ k d a.
    let short = length-take-le (t.sh_info - 1) (drop 1 es) (omega arith) in
    let b : k < t.sh_info - 1 = omega arith in
    ap is_local_entry (get_or-take (t.sh_info - 1) (drop 1 es) k d b ∙ get_or-drop 1 es k d
    ∙ entry_at bytes t.sh_offset (t.sh_size / 24) (1 + k) d (omega arith))
    ∙ h (1 + k) (omega arith) (omega arith) ∙ lt-ltb (1 + k) t.sh_info (omega arith))))
    (list_any_none is_local_entry (drop t.sh_info es) (λ k d a.
    ap is_local_entry (get_or-drop t.sh_info es k d
    ∙ entry_at bytes t.sh_offset (t.sh_size / 24) (t.sh_info + k) d (omega arith))
    ∙ h (t.sh_info + k) (omega arith) (omega arith) ∙ le-ltb (t.sh_info + k) t.sh_info (omega arith)))

pub right_all : (bytes : List ℕ) (t : SectionHeader) (p : SymbolEntry → Bool) (n : ℕ) → t.sh_size / 24 ≤ n
    → ((j : ℕ) → 1 ≤ j → j < n → p (symbol_entry_at bytes (t.sh_offset + 24 * j)) ≡ false)
    → list_any p (drop 1 (entries_of bytes t)) ≡ false
right_all bytes t p n l h =
    let es = entries_of bytes t in
    let long : length es ≡ t.sh_size / 24 = entries_length bytes t.sh_offset (t.sh_size / 24) in
    let long' = length-drop 1 es in
    list_any_none p (drop 1 es) (λ k d a.
    ap p (get_or-drop 1 es k d ∙ entry_at bytes t.sh_offset (t.sh_size / 24) (1 + k) d (omega arith))
    ∙ h (1 + k) (omega arith) (omega arith))

-- they are not refused
pub passing_none : (bytes : List ℕ) (hs : List SectionHeader) (t s : SectionHeader) (n : ℕ) → hs ≡ headers bytes
    → nat_lt 1 (count_by is_symbol_table (headers bytes)) ≡ false → symbol_table bytes ≡ Some t
    → has_wrong_header hs t ≡ false
    → n ≡ e_shnum bytes → s ≡ header bytes t.sh_link → has_misplaced_entry t (entries_of bytes t) ≡ false
    → list_any (is_wrong_symbol n (file_bytes bytes s)) (drop 1 (entries_of bytes t)) ≡ false
    → find (holds bytes) symbol_refusals ≡ None
passing_none bytes hs t s n e one found right c f placed passes =
    symbols_pass bytes
    (wrong_table bytes t false one found (right_table bytes hs t (entries_of bytes t) e refl right placed))
    (wrong_symbol bytes t false found
    (entry_told bytes t s n (file_bytes bytes s) (entries_of bytes t) false c f refl refl passes))
