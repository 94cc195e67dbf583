-- Places that have been given the stretches of their relocations.
use Rattle.elfobj.proofs.Common.{AreNamed, ArePartsOf, AreRead, AreRelocated, IsInside, LinkedSection, List, PartSpans}
use Rattle.elfobj.proofs.Common.{Relocation, Span, [], ap, arith, bytes_at, get_or, get_or-map, length, length-map, map}
use Rattle.elfobj.proofs.Common.{map_push, refl, relocations_in, sections_of, set, subst, sym, symbols_of, take}
use Rattle.elfobj.proofs.Common.{take_more, ℕ, ◌++◌, ◌+◌, ◌<◌, ◌∙◌, ◌∷◌, ◌≡◌}
use Rattle.std.proofs.lemmas.List.{map-set, set-get_or, take_more_set}
use Rattle.elfobj.specs.PartSpans.{ArePlaced, name_in}
use Rattle.elfobj_file.specs.declared.section.Section.{Section}
use Rattle.elfobj_file.specs.declared.symbol.Symbol.{Symbol}

-- a part that a change of one element leaves
pub part_kept : {X Y : Type 0} (f : X → Y) (xs : List X) (i : ℕ) (d x : X) → i < length xs → f x ≡ f (get_or xs i d)
    → map f (set xs i x) ≡ map f xs
part_kept f xs i d x l e =
    map-set f xs i x ∙ ap (set (map f xs) i) (e ∙ sym (get_or-map f xs i d (f d) l)) ∙ set-get_or (map f xs) i (f d)

-- one more element has the part that it is to have
pub part_more : {X Y : Type 0} (f : X → Y) (xs : List X) (ys : List Y) (i : ℕ) (x : X) (e : Y) → i < length xs
    → i < length ys → f x ≡ get_or ys i e
    → map f (take i xs) ≡ take i ys → map f (take (i + 1) (set xs i x)) ≡ take (i + 1) ys
part_more f xs ys i x e l m h a =
    ap (map f) (take_more_set xs i x l)
    ∙ map_push f (take i xs) x
    ∙ ap (λ zs. zs ++ f x ∷ []) a
    ∙ ap (λ y. take i ys ++ y ∷ []) h
    ∙ sym (take_more ys i e m)

-- as many stretches as places
pub as_many : (file : List ℕ) (ls : List LinkedSection) (ss : List Section) (ps : List PartSpans)
    (all : List Relocation)
    (spans : List Span) → AreRead file ls ss ps
    → AreRelocated (map (λ (s : LinkedSection). s.relocations) ls) all spans → length spans ≡ length ps
as_many file ls ss ps all spans a r =
    sym (length-map spans (relocations_in all))
    ∙ ap length r.lists
    ∙ length-map ls (λ (s : LinkedSection). s.relocations)
    ∙ sym (length-map ls (λ (s : LinkedSection). s.name))
    ∙ sym (ap length a.names)
    ∙ length-map ps (name_in file)

pub mapped : {X Y Z : Type 0} (f : X → Y) (g : Y → Z) (xs : List X) → map g (map f xs) ≡ map (λ x. g (f x)) xs
mapped f g [] = refl
mapped f g (x ∷ xs) = ap (λ zs. g (f x) ∷ zs) (mapped f g xs)

mapped_same : {X Y Z : Type 0} (f : X → Y) (g : Y → Z) (xs ys : List X) → map f ys ≡ map f xs
    → map (λ x. g (f x)) ys ≡ map (λ x. g (f x)) xs
mapped_same f g xs ys e = sym (mapped f g ys) ∙ ap (map g) e ∙ mapped f g xs

part_at : {X Y : Type 0} (f : X → Y) (xs ys : List X) (k : ℕ) (d : X) → map f ys ≡ map f xs → k < length ys
    → k < length xs → f (get_or xs k d) ≡ f (get_or ys k d)
part_at f xs ys k d e l m = sym (get_or-map f xs k d (f d) m) ∙ ap (λ zs. get_or zs k (f d)) (sym e)
    ∙ get_or-map f ys k d (f d) l

-- the same names and bytes are read
pub read_kept : (file : List ℕ) (ls : List LinkedSection) (ss : List Section) (ps ps' : List PartSpans)
    → map (λ (p : PartSpans). p.name) ps' ≡ map (λ (p : PartSpans). p.name) ps
    → map (λ (p : PartSpans). p.bytes) ps' ≡ map (λ (p : PartSpans). p.bytes) ps → AreRead file ls ss ps
    → AreRead file ls ss ps'
read_kept file ls ss ps ps' e f a =
    let long : length ps' ≡ length ps = sym (length-map ps' (λ (p : PartSpans). p.name)) ∙ ap length e
    ∙ length-map ps (λ (p : PartSpans). p.name) in
    record {
      sections = a.sections;
      names = mapped_same (λ (p : PartSpans). p.name) (bytes_at file) ps ps' e ∙ a.names;
      bytes = mapped_same (λ (p : PartSpans). p.bytes) (bytes_at file) ps ps' f ∙ a.bytes;
      within = λ k d l.
          let m : k < length ps = omega arith in
          record {
            name = subst (IsInside (length file)) (part_at (λ (p : PartSpans). p.name) ps ps' k d e l m)
                (a.within k d m).name;
            bytes = subst (IsInside (length file)) (part_at (λ (p : PartSpans). p.bytes) ps ps' k d f l m)
                (a.within k d m).bytes;
          };
    }

-- stretches that stand in places
placed : (lists_of : List (List Relocation)) (all : List Relocation) (ps : List PartSpans)
    → AreRelocated lists_of all (map (λ (p : PartSpans). p.relocations) ps) → ArePlaced lists_of all ps
placed lists_of all ps r = record {
  lists = sym (mapped (λ (p : PartSpans). p.relocations) (relocations_in all) ps) ∙ r.lists;
  within = λ k d l.
      let m : k < length (map (λ (p : PartSpans). p.relocations) ps) = omega
      (arith, length-map ps (λ (p : PartSpans). p.relocations)) in
      subst (IsInside (length all)) (get_or-map (λ (p : PartSpans). p.relocations) ps k d d.relocations l)
      (r.within k d.relocations m);
}

-- all parts, once places `old` have become `ps`
pub parts_placed : (file : List ℕ) (ss : List Section) (read old ps ps' : List PartSpans) (symbols : List Symbol)
    (names : List Span) (all : List Relocation) (spans spans' : List Span)
    → AreRead file (sections_of file) ss read → AreNamed file (symbols_of file) symbols names
    → AreRelocated (map (λ (s : LinkedSection). s.relocations) (sections_of file)) all spans
    → old ≡ read → spans' ≡ spans → map (λ (p : PartSpans). p.relocations) ps ≡ spans'
    → map (λ (p : PartSpans). p.name) ps ≡ map (λ (p : PartSpans). p.name) old
    → map (λ (p : PartSpans). p.bytes) ps ≡ map (λ (p : PartSpans). p.bytes) old → ps' ≡ ps
    → ArePartsOf file ss ps' symbols names all
parts_placed file ss read old ps ps' symbols names all spans spans' a n r e f g h k s = rw s (record {
  sections_read = read_kept file (sections_of file) ss read ps (h ∙ ap (map (λ (p : PartSpans). p.name)) e)
      (k ∙ ap (map (λ (p : PartSpans). p.bytes)) e) a;
  symbols_read = n;
  relocations_read = placed (map (λ (s : LinkedSection). s.relocations) (sections_of file)) all ps
      (subst (AreRelocated (map (λ (s : LinkedSection). s.relocations) (sections_of file)) all) (sym (g ∙ f)) r);
})
