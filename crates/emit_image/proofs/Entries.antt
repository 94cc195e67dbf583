-- String tables and tables of records, entry by entry.
use Rattle.emit_image.proofs.Common.{List, SymbolEntry, TableSymbol, [], ap, append-nil, append_assoc, arith, entry_of}
use Rattle.emit_image.proofs.Common.{enumerate_from, flat_map, flat_map-cons, get_or, get_or-map, length, length-append}
use Rattle.emit_image.proofs.Common.{length-flat_map, length-map, map, map-append, name_offset, names_of, refl}
use Rattle.emit_image.proofs.Common.{replicate, string_table, sum_by, sum_by-cons, sym, symbol_bytes, symbol_table_of}
use Rattle.emit_image.proofs.Common.{take, take_all, zero-add, ℕ, ◌++◌, ◌+◌, ◌<◌, ◌∙◌, ◌∷◌, ◌≡◌, ◌≤◌}
use Rattle.std.proofs.lemmas.Grind.{flat_map-append}
use Rattle.std.proofs.lemmas.List.{take_more, take-append-le}
use Rattle.std.proofs.lemmas.List.FromFn.{length-enumerate_from, get_or-enumerate_from}
use Rattle.ldmodel.specs.Tail.{kind_number}
use Rattle.emit_image.specs.Tables.{binding_number}

with_zero : (name : List ℕ) → length (name ++ 0 ∷ []) ≡ length name + 1
with_zero name = length-append name (0 ∷ [])

sum_same : (names : List (List ℕ)) → sum_by (λ (name : List ℕ). length (name ++ 0 ∷ [])) names
    ≡ sum_by (λ (name : List ℕ). length name + 1) names
sum_same [] = refl
sum_same (x ∷ xs) =
    sum_by-cons (λ (name : List ℕ). length (name ++ 0 ∷ [])) x xs
    ∙ ap (λ (n : ℕ). n + sum_by (λ (name : List ℕ). length (name ++ 0 ∷ [])) xs) (with_zero x)
    ∙ ap (λ (n : ℕ). length x + 1 + n) (sum_same xs)
    ∙ sym (sum_by-cons (λ (name : List ℕ). length name + 1) x xs)

sizes : (names : List (List ℕ)) → length (flat_map (λ (name : List ℕ). name ++ 0 ∷ []) names)
    ≡ sum_by (λ (name : List ℕ). length name + 1) names
sizes names = length-flat_map (λ (name : List ℕ). name ++ 0 ∷ []) names ∙ sum_same names

-- a name begins where those before it end
pub name_at : (names : List (List ℕ)) (i : ℕ) → name_offset names i ≡ length (string_table (take i names))
name_at names i = let e = sizes (take i names) in omega (arith, e)

one : {X : Type 0} (f : X → List ℕ) (x : X) → flat_map f (x ∷ []) ≡ f x
one f x = flat_map-cons f x [] ∙ append-nil (f x)

more : {X : Type 0} (f : X → List ℕ) (xs : List X) (i : ℕ) (d : X) → i < length xs → flat_map f (take (i + 1) xs)
    ≡ flat_map f (take i xs) ++ f (get_or xs i d)
more f xs i d l =
    ap (λ ys. flat_map f ys) (take_more xs i d l) ∙ flat_map-append f (take i xs) (get_or xs i d ∷ [])
    ∙ ap (λ (t : List ℕ). flat_map f (take i xs) ++ t) (one f (get_or xs i d))

pub string_more : (names : List (List ℕ)) (i : ℕ) (d : List ℕ) → i < length names → string_table (take (i + 1) names)
    ≡ string_table (take i names) ++ (get_or names i d ++ 0 ∷ [])
string_more names i d l = ap (λ (t : List ℕ). 0 ∷ t) (more (λ (name : List ℕ). name ++ 0 ∷ []) names i d l)

-- a table of records grows by the next one
pub table_more : {X : Type 0} (f : ℕ × X → List ℕ) (xs : List X) (i : ℕ) (d : X) → i < length xs
    → flat_map f (take (i + 1) (enumerate_from 0 xs)) ≡ flat_map f (take i (enumerate_from 0 xs))
    ++ f (i, get_or xs i d)
table_more f xs i d l =
    let zero_first : (0 + i, get_or xs i d) ≡ (i, get_or xs i d) = ap (λ (n : ℕ). (n, get_or xs i d)) (zero-add i) in
    let at : get_or (enumerate_from 0 xs) i (0, d) ≡ (i, get_or xs i d) = get_or-enumerate_from 0 xs i (0, d) l
    ∙ zero_first in
    more f (enumerate_from 0 xs) i (0, d) (rw length-enumerate_from l)
    ∙ ap (λ x. flat_map f (take i (enumerate_from 0 xs)) ++ f x) at

-- a name that is added after those before it
pub name_next : {X : Type 0} (of : X → List ℕ) (xs : List X) (i : ℕ) (d : X) (before after : List ℕ) → i < length xs
    → before ≡ string_table (take i (map of xs))
    → after ≡ before ++ of (get_or xs i d) ++ 0 ∷ [] → after ≡ string_table (take (i + 1) (map of xs))
name_next of xs i d before after l b e =
    let here : get_or (map of xs) i (of d) ≡ of (get_or xs i d) = get_or-map of xs i d (of d) l in
    let grown = string_more (map of xs) i (of d) (rw length-map l) in
    let at : before ++ of (get_or xs i d) ++ 0 ∷ [] ≡ string_table (take i (map of xs))
    ++ (get_or (map of xs) i (of d) ++ 0 ∷ []) =
    ap (λ (bs : List ℕ). bs ++ of (get_or xs i d) ++ 0 ∷ []) b
    ∙ append_assoc (string_table (take i (map of xs))) (of (get_or xs i d)) (0 ∷ [])
    ∙ ap (λ (name : List ℕ). string_table (take i (map of xs)) ++ (name ++ 0 ∷ [])) (sym here) in
    e ∙ at ∙ sym grown

-- the entry of a symbol whose name begins at an offset
abbrev entry_at : ℕ → TableSymbol → SymbolEntry
entry_at at x = record {
  name = at;
  binding = binding_number x.weak;
  type = kind_number x.kind;
  section = x.section;
  value = x.value;
  size = x.size;
}

abbrev entry_bytes : List (List ℕ) → ℕ × TableSymbol → List ℕ
entry_bytes names y = symbol_bytes (entry_of names y)

-- where a name begins does not depend on those after it
begins_same : (names more : List (List ℕ)) (i : ℕ) → i ≤ length names → name_offset (names ++ more) i
    ≡ name_offset names i
begins_same names more i l =
    ap (λ (ns : List (List ℕ)). 1 + sum_by (λ (name : List ℕ). length name + 1) ns) (take-append-le i names more l)

-- nor do the entries
entries_same : (names more : List (List ℕ)) (n : ℕ) (xs : List TableSymbol) → n + length xs ≤ length names
    → flat_map (entry_bytes (names ++ more)) (enumerate_from n xs)
    ≡ flat_map (entry_bytes names) (enumerate_from n xs)
entries_same names more n [] l = refl
entries_same names more n (x ∷ xs) l =
    flat_map-cons (entry_bytes (names ++ more)) (n, x) (enumerate_from (n + 1) xs)
    ∙ ap (λ (k : ℕ). symbol_bytes (entry_at k x)
    ++ flat_map (entry_bytes (names ++ more)) (enumerate_from (n + 1) xs))
    (begins_same names more n (omega (arith, l)))
    ∙ ap (λ (bs : List ℕ). entry_bytes names (n, x) ++ bs) (entries_same names more (n + 1) xs (omega (arith, l)))
    ∙ sym (flat_map-cons (entry_bytes names) (n, x) (enumerate_from (n + 1) xs))

enumerate_more : (n : ℕ) (xs : List TableSymbol) (x : TableSymbol) → enumerate_from n (xs ++ x ∷ [])
    ≡ enumerate_from n xs ++ (n + length xs, x) ∷ []
enumerate_more n [] x = let zero : n ≡ n + 0 = omega arith in ap (λ (m : ℕ). (m, x) ∷ []) zero
enumerate_more n (y ∷ ys) x =
    let same : n + 1 + length ys ≡ n + length (y ∷ ys) = omega arith in
    ap (λ zs. (n, y) ∷ zs) (enumerate_more (n + 1) ys x
    ∙ ap (λ (m : ℕ). enumerate_from (n + 1) ys ++ (m, x) ∷ []) same)

-- the tables of no symbols
pub no_entries : (out : List ℕ) → out ≡ replicate 24 0 → out ≡ symbol_table_of []
unfolding symbol_table_of
no_entries out h = h ∙ sym (append-nil (replicate 24 0))

-- a symbol more, whose name begins where those before it end
pub entry_more : (xs : List TableSymbol) (x : TableSymbol) (at : ℕ) → at ≡ length (string_table (names_of xs))
    → symbol_table_of (xs ++ x ∷ []) ≡ symbol_table_of xs ++ symbol_bytes (entry_at at x)
unfolding symbol_table_of
entry_more xs x at e =
    let ns : List (List ℕ) = names_of xs in
    let own : List (List ℕ) = x.name.now ∷ [] in
    let long : length ns ≡ length xs = length-map xs _ in
    let all : names_of (xs ++ x ∷ []) ≡ ns ++ own = map-append (λ (y : TableSymbol). y.name.now) xs (x ∷ []) in
    let before : name_offset (ns ++ own) (0 + length xs) ≡ name_offset ns (0 + length xs) =
    begins_same ns own (0 + length xs) (omega (arith, long)) in
    let here : name_offset ns (0 + length xs) ≡ at =
    name_at ns (0 + length xs)
    ∙ ap (λ (ms : List (List ℕ)). length (string_table ms)) (take_all (0 + length xs) ns (omega (arith, long)))
    ∙ sym e in
    ap (λ (ms : List (List ℕ)). replicate 24 0 ++ flat_map (entry_bytes ms) (enumerate_from 0 (xs ++ x ∷ []))) all
    ∙ ap (λ ys. replicate 24 0 ++ flat_map (entry_bytes (ns ++ own)) ys) (enumerate_more 0 xs x)
    ∙ ap (λ (bs : List ℕ). replicate 24 0 ++ bs)
    (flat_map-append (entry_bytes (ns ++ own)) (enumerate_from 0 xs) ((0 + length xs, x) ∷ [])
    ∙ ap (λ (bs : List ℕ). bs ++ flat_map (entry_bytes (ns ++ own)) ((0 + length xs, x) ∷ []))
    (entries_same ns own 0 xs (omega (arith, long)))
    ∙ ap (λ (bs : List ℕ). flat_map (entry_bytes ns) (enumerate_from 0 xs) ++ bs)
    (one (entry_bytes (ns ++ own)) (0 + length xs, x) ∙ ap (λ (k : ℕ). symbol_bytes (entry_at k x)) (before ∙ here)))
    ∙ sym (append_assoc (replicate 24 0) (flat_map (entry_bytes ns) (enumerate_from 0 xs))
    (symbol_bytes (entry_at at x)))

pub names_more : (xs : List TableSymbol) (x : TableSymbol) (before after : List ℕ)
    → before ≡ string_table (names_of xs) → after ≡ before ++ x.name.now ++ 0 ∷ []
    → after ≡ string_table (names_of (xs ++ x ∷ []))
names_more xs x before after b e =
    let ns : List (List ℕ) = names_of xs in
    let f : List ℕ → List ℕ = λ name. name ++ 0 ∷ [] in
    e ∙ ap (λ (bs : List ℕ). bs ++ x.name.now ++ 0 ∷ []) b
    ∙ append_assoc (string_table ns) x.name.now (0 ∷ [])
    ∙ ap (λ (bs : List ℕ). 0 ∷ bs)
    (ap (λ (bs : List ℕ). flat_map f ns ++ bs) (sym (one f x.name.now)) ∙ sym (flat_map-append f ns (x.name.now ∷ [])))
    ∙ ap string_table (sym (map-append (λ (y : TableSymbol). y.name.now) xs (x ∷ [])))
