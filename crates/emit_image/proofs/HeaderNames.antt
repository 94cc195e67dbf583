-- The names of the section headers, and the headers, one after the other.
use Rattle.emit_image.proofs.Common.{Header, List, SectionHeader, TableSection, [], ap, append_assoc, codes}
use Rattle.emit_image.proofs.Common.{enumerate_from, flat_map, get_or, get_or-append-add, get_or-map}
use Rattle.emit_image.proofs.Common.{get_or_append_left, header_bytes, header_names_of, header_of, length}
use Rattle.emit_image.proofs.Common.{length-append, length-map, map, name_offset, section_header_of, string_table}
use Rattle.emit_image.proofs.Common.{subst, sym, take, take_all, ℕ, ◌++◌, ◌+◌, ◌<◌, ◌∙◌, ◌∷◌, ◌≡◌, ◌≤◌}
use Rattle.std.proofs.lemmas.List.FromFn.{length-enumerate_from}
use Rattle.emit_image.proofs.Entries.{string_more, name_at, table_more}

abbrev table_names : List (List ℕ)
table_names = codes ".symtab" ∷ codes ".strtab" ∷ codes ".shstrtab" ∷ []

abbrev own_names : List TableSection → List (List ℕ)
own_names ys = map (λ (y : TableSection). y.name.now) ys

pub long : (ys : List TableSection) → length (header_names_of ys) ≡ length ys + 3
long ys = length-append (own_names ys) table_names
    ∙ ap (λ (n : ℕ). n + 3) (length-map ys (λ (y : TableSection). y.name.now))

pub own_name : (ys : List TableSection) (i : ℕ) (d : TableSection) → i < length ys
    → get_or (header_names_of ys) i (d.name.now) ≡ (get_or ys i d).name.now
own_name ys i d l =
    get_or_append_left (own_names ys) table_names (d.name.now) i
    (subst (λ (n : ℕ). i < n) (sym (length-map ys (λ (y : TableSection). y.name.now))) l)
    ∙ get_or-map (λ (y : TableSection). y.name.now) ys i d (d.name.now) l

pub table_name : (ys : List TableSection) (j : ℕ) (d : List ℕ) → get_or (header_names_of ys) (length ys + j) d
    ≡ get_or table_names j d
table_name ys j d =
    ap (λ (n : ℕ). get_or (header_names_of ys) (n + j) d) (sym (length-map ys (λ (y : TableSection). y.name.now)))
    ∙ get_or-append-add (own_names ys) table_names j d

-- a name that is added
pub string_next : (ns : List (List ℕ)) (i : ℕ) (d name before after : List ℕ) → i < length ns → get_or ns i d ≡ name
    → before ≡ string_table (take i ns) → after ≡ before ++ name ++ 0 ∷ [] → after ≡ string_table (take (i + 1) ns)
string_next ns i d name before after l n b e =
    e ∙ append_assoc before name (0 ∷ [])
    ∙ ap (λ (bs : List ℕ). bs ++ (name ++ 0 ∷ [])) b
    ∙ ap (λ (x : List ℕ). string_table (take i ns) ++ (x ++ 0 ∷ [])) (sym n)
    ∙ sym (string_more ns i d l)

-- where it begins
pub begins : (ns : List (List ℕ)) (i at : ℕ) (before : List ℕ) → at ≡ length before → before ≡ string_table (take i ns)
    → at ≡ name_offset ns i
begins ns i at before a b = a ∙ ap (λ (bs : List ℕ). length bs) b ∙ sym (name_at ns i)

abbrev of : List TableSection → ℕ × TableSection → List ℕ
of ys y = header_bytes (section_header_of (header_names_of ys) y)

pub header_next : (ys : List TableSection) (i : ℕ) (d : TableSection) (h : Header) (front before after : List ℕ)
    → i < length ys
    → header_of h ≡ section_header_of (header_names_of ys) (i, get_or ys i d)
    → before ≡ front ++ flat_map (λ y. header_bytes (section_header_of (header_names_of ys) y))
    (take i (enumerate_from 0 ys))
    → after ≡ before ++ header_bytes (header_of h)
    → after ≡ front ++ flat_map (λ y. header_bytes (section_header_of (header_names_of ys) y))
    (take (i + 1) (enumerate_from 0 ys))
header_next ys i d h front before after l same b e =
    e ∙ ap (λ (x : SectionHeader). before ++ header_bytes x) same
    ∙ ap (λ (bs : List ℕ). bs ++ of ys (i, get_or ys i d)) b
    ∙ append_assoc front (flat_map (of ys) (take i (enumerate_from 0 ys))) (of ys (i, get_or ys i d))
    ∙ ap (λ (bs : List ℕ). front ++ bs) (sym (table_more (of ys) ys i d l))

pub all_headers : (ys : List TableSection) (i : ℕ) (front out : List ℕ) → length ys ≤ i
    → out ≡ front ++ flat_map (λ y. header_bytes (section_header_of (header_names_of ys) y))
    (take i (enumerate_from 0 ys))
    → out ≡ front ++ flat_map (λ y. header_bytes (section_header_of (header_names_of ys) y)) (enumerate_from 0 ys)
all_headers ys i front out l e = e
    ∙ ap (λ zs. front ++ flat_map (of ys) zs) (take_all i (enumerate_from 0 ys) (rw length-enumerate_from l))
