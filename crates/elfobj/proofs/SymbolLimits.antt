-- Each symbol of an object that is not refused is within the profile, and there are fewer than 2^32.
use Rattle.elfobj.proofs.Common.{All, All-cons, All-nil, Bool, IsCommonBlock, IsNameOf, IsSectionBelow}
use Rattle.elfobj.proofs.Common.{IsSymbolOfProfile, IsTrue, List, NamedSymbol, None, Option, SectionHeader, Some}
use Rattle.elfobj.proofs.Common.{SymbolEntry, [], and_cases, ap, arith, cond, drop, e_shnum, entries_of, eqb, eqb-true}
use Rattle.elfobj.proofs.Common.{false, false≢true, holds, is_name, length, length-map, list_any, ltb-false, ltb-true}
use Rattle.elfobj.proofs.Common.{map, named_symbol, nat_lt, not, not-false, null_symbol, object_refusal, option_map_or}
use Rattle.elfobj.proofs.Common.{or_parts, refl, string_at, strings_of, sym, symbol_of, symbol_table, symbols_from}
use Rattle.elfobj.proofs.Common.{symbols_in, symbols_of, true, unwrap_or, ℕ, ⊎_elim, ◌&&◌, ◌/◌, ◌<◌, ◌∙◌, ◌∷◌, ◌≡◌}
use Rattle.elfobj_file.specs.SymbolEntries.{st_bind}
use Rattle.elfobj_file.specs.SymbolKinds.{binding_of}
use Rattle.elfobj_file.specs.Tables.{has_wrong_entry, has_wrong_symbol, is_local_entry, is_not_local, is_wrong_common}
use Rattle.elfobj_file.specs.Tables.{is_wrong_non_local, is_wrong_symbol}
use Rattle.elfobj_file.specs.declared.symbol.Binding.TheVariants.{Local, Global, Weak}
use Rattle.elfobj_file.specs.declared.symbol.SymbolPlace.TheVariants.{Common, Undefined, Absolute, Section}
use Rattle.elfobj.proofs.Limits.{accepted_parts, name_told}
use Rattle.elfobj.proofs.SymbolTables.{entries_length, table_in_file}

-- the name of a symbol that isn't local
strict_name : (b : Bool) (name : List ℕ) → IsTrue (is_name name) → IsNameOf (cond b Global Weak) name
strict_name true name h = h
strict_name false name h = h

name_at : (l g : Bool) (o : Option (List ℕ)) → (l ≡ false → option_map_or is_name o false ≡ true)
    → IsNameOf (cond l Local (cond g Global Weak)) (cond l [] (unwrap_or o []))
name_at true g o h = refl
name_at false g o h = strict_name g (unwrap_or o []) (name_told o (h refl))

name_right : (strings : List ℕ) (e : SymbolEntry) → is_wrong_non_local strings e ≡ false → is_local_entry e ≡ false
    → option_map_or is_name (string_at strings e.st_name) false ≡ true
name_right strings e h l = ⊎_elim
    (λ a. absurd (false≢true (sym a ∙ ap not l)))
    (λ a. not-false _ (or_parts _ _ a).1)
    (and_cases (is_not_local e) _ h)

-- a common block
place_common : (n : ℕ) (u a c : Bool)
    → cond u Undefined (cond a Absolute (cond c Common (Section (record { 0 = n })))) ≡ Common → c ≡ true
place_common n true a c h = cc
place_common n false true c h = cc
place_common n false false true h = refl
place_common n false false false h = cc

common_right : (e : SymbolEntry) → is_wrong_common e ≡ false → (symbol_of e).place ≡ Common
    → IsCommonBlock (symbol_of e)
unfolding symbol_of
common_right e h p =
    let c : eqb e.st_shndx 65522 ≡ true = place_common e.st_shndx (eqb e.st_shndx 0) (eqb e.st_shndx 65521)
    (eqb e.st_shndx 65522) p in
    let r = rw c at h in
    let q = or_parts _ _ r in
    let s = or_parts _ _ q.0 in
    let b : st_bind e ≡ 1 = eqb-true (st_bind e) 1 (not-false _ s.0) in
    record { binding = ap binding_of b; alignment = not-false _ s.1; size = ltb-false 2147483648 e.st_size q.1 }

symbol_limits : (n : ℕ) (strings : List ℕ) (e : SymbolEntry) → is_wrong_symbol n strings e ≡ false
    → IsSymbolOfProfile (named_symbol strings e)
unfolding symbol_of
symbol_limits n strings e h =
    let a = or_parts _ _ h in
    let b = or_parts _ _ a.0 in
    record {
      name = name_at (eqb (st_bind e) 0) (eqb (st_bind e) 1) (string_at strings e.st_name) (name_right strings e b.1);
      common = common_right e a.1;
    }

-- a section that a symbol lies in
below_told : (b : Bool) → ((not b) && true && true) ≡ false → b ≡ true
below_told true h = refl
below_told false h = absurd (false≢true (sym h))

place_below : (n k : ℕ) (u a c : Bool) → ((not (nat_lt k n)) && (not a) && (not c)) ≡ false
    → IsSectionBelow n (cond u Undefined (cond a Absolute (cond c Common (Section (record { 0 = k })))))
place_below n k true a c h = tt
place_below n k false true c h = tt
place_below n k false false true h = tt
place_below n k false false false h = ltb-true k n (below_told (nat_lt k n) h)

symbol_section : (n : ℕ) (strings : List ℕ) (e : SymbolEntry) → is_wrong_symbol n strings e ≡ false
    → IsSectionBelow n (symbol_of e).place
unfolding symbol_of
symbol_section n strings e h =
    let a = or_parts _ _ h in
    let b = or_parts _ _ a.0 in
    let c = or_parts _ _ b.0 in
    let d = or_parts _ _ c.0 in
    place_below n e.st_shndx (eqb e.st_shndx 0) (eqb e.st_shndx 65521) (eqb e.st_shndx 65522) d.1

-- what holds of the null entry, and of each entry that isn't wrong
record HoldsOfRight (P : NamedSymbol → Type 0) (n : ℕ) : Type 0 where
  pub null : P null_symbol
  pub each : (strings : List ℕ) (e : SymbolEntry) → is_wrong_symbol n strings e ≡ false → P (named_symbol strings e)

all_symbols : (P : NamedSymbol → Type 0) (n : ℕ) (strings : List ℕ) → HoldsOfRight P n → (es : List SymbolEntry)
    → list_any (is_wrong_symbol n strings) es ≡ false → All P (map (named_symbol strings) es)
all_symbols P n strings r [] h = All-nil P
all_symbols P n strings r (e ∷ es) h =
    let p = or_parts _ _ h in
    All-cons P _ _ (r.each strings e p.0) (all_symbols P n strings r es p.1)

from_limits : (P : NamedSymbol → Type 0) (n : ℕ) (strings : List ℕ) → HoldsOfRight P n → (es : List SymbolEntry)
    → list_any (is_wrong_symbol n strings) (drop 1 es) ≡ false → All P (symbols_from strings es)
from_limits P n strings r [] h = All-nil P
from_limits P n strings r (e ∷ es) h = All-cons P _ _ r.null (all_symbols P n strings r es h)

in_limits : (P : NamedSymbol → Type 0) (bytes : List ℕ) → HoldsOfRight P (e_shnum bytes) → (o : Option SectionHeader)
    → option_map_or (has_wrong_entry bytes) o false ≡ false → All P (symbols_in bytes o)
in_limits P bytes r None h = All-nil P
in_limits P bytes r (Some t) h = from_limits P (e_shnum bytes) (strings_of bytes t) r (entries_of bytes t) h

all_limits : (P : NamedSymbol → Type 0) (bytes : List ℕ) → HoldsOfRight P (e_shnum bytes) → object_refusal bytes ≡ None
    → All P (symbols_of bytes)
unfolding holds has_wrong_symbol symbols_of
all_limits P bytes r h = in_limits P bytes r (symbol_table bytes) (accepted_parts bytes h).symbol

-- each symbol of an object is within the profile
pub symbol_limits_of : (bytes : List ℕ) → object_refusal bytes ≡ None → All IsSymbolOfProfile (symbols_of bytes)
symbol_limits_of bytes h = all_limits IsSymbolOfProfile bytes
    (record { null = record { name = refl; common = λ h. cc }; each = symbol_limits (e_shnum bytes) }) h

-- and in one of its sections, if in any
pub symbol_sections_of : (bytes : List ℕ) → object_refusal bytes ≡ None
    → All (λ (s : NamedSymbol). IsSectionBelow (e_shnum bytes) s.symbol.place) (symbols_of bytes)
symbol_sections_of bytes h = all_limits (λ s. IsSectionBelow (e_shnum bytes) s.symbol.place) bytes
    (record { null = tt; each = symbol_section (e_shnum bytes) }) h

from_length : (strings : List ℕ) (es : List SymbolEntry) → length (symbols_from strings es) ≡ length es
from_length strings [] = refl
from_length strings (e ∷ es) = let l = length-map es (named_symbol strings) in omega arith

in_few : (bytes : List ℕ) (o : Option SectionHeader) → symbol_table bytes ≡ o → object_refusal bytes ≡ None
    → length (symbols_in bytes o) < 4294967296
in_few bytes None e h = omega arith
in_few bytes (Some t) e h =
    let small = (table_in_file bytes t (accepted_parts bytes h).tests e).small in
    let a = from_length (strings_of bytes t) (entries_of bytes t) in
    let b = entries_length bytes t.sh_offset (t.sh_size / 24) in
    omega arith

-- there are fewer than numbers of 32 bits
pub few_symbols : (bytes : List ℕ) → object_refusal bytes ≡ None → length (symbols_of bytes) < 4294967296
unfolding symbols_of
few_symbols bytes h = in_few bytes (symbol_table bytes) refl h
