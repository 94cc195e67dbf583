-- What an output section adds to a layout.
use Rattle.place_sections.proofs.Common.{Begins, Body, Head, Layout, List, Ok, OutputSection, PlacedOutput, [], address}
use Rattle.place_sections.proofs.Common.{ap, arith, body_step, enumerate_from, find_region, freed_from, head_of, length}
use Rattle.place_sections.proofs.Common.{load_region, map, opened, placed_section, refl, run, section_end, section_step}
use Rattle.place_sections.proofs.Common.{subst, sym, with_room, with_section, ℕ, ◌++◌, ◌+◌, ◌<◌, ◌^◌, ◌∙◌, ◌∷◌, ◌≡◌}
use Rattle.ldmodel.specs.Rows.{Piece}
use Rattle.place_sections.proofs.Ending.{address_fits, chained}
use Rattle.place_sections.proofs.Grows.{Grown, body_grows, given_is, the_piece}

-- the numbers of a list go on
pub enumerate_more : {X : Type 0} (k : ℕ) (xs ys : List X) → enumerate_from k (xs ++ ys)
    ≡ enumerate_from k xs ++ enumerate_from (k + length xs) ys
enumerate_more k [] ys = let e : k + 0 ≡ k = omega arith in ap (λ j. enumerate_from j ys) (sym e)
enumerate_more k (x ∷ xs) ys =
    let e : k + 1 + length xs ≡ k + length (x ∷ xs) = omega arith in
    ap (λ l. (k, x) ∷ l) (enumerate_more (k + 1) xs ys ∙ ap (λ j. enumerate_from (k + 1) xs ++ enumerate_from j ys) e)

-- what an output section adds to a layout, and where its regions go on
pub record SectionGrown (row : List Piece) (s : Layout) (o : OutputSection) (t : Layout) : Type 0 where
  pub section : PlacedOutput
  pub added : t.sections ≡ s.sections ++ section ∷ []
  pub name : section.name ≡ o.name
  pub region : section.region ≡ o.region
  pub fill : section.fill ≡ o.fill
  pub rest : List Piece
  pub row_is : map the_piece section.pieces ++ rest ≡ row
  pub regions : t.regions
      ≡ freed_from (load_region o.load) (section.load + section.load_size)
      (freed_from o.region (section.start + section.size) s.regions)
  pub load_end : section.load + section.load_size < 2 ^ 64
  pub dots_are : Begins s.dots t.dots
  pub symbols_are : Begins s.symbols t.symbols

-- the end of a section adds it, and changes regions alone
pub end_is : (line : ℕ) (o : OutputSection) (h : Head) (b : Body) (t : Layout) → section_end line o h b ≡ Ok t
    → with_section b.layout o (placed_section o h b) ≡ t
unfolding section_end
end_is line o h b t e =
    let q : PlacedOutput = placed_section o h b in
    let x = chained (with_room (find_region b.layout o.region) q.start q.size q) _ t e in
    let y = chained (with_room (find_region b.layout (load_region o.load)) q.load q.load_size q) _ t x.second in
    let z = chained (address line (q.load + q.load_size)) _ t y.second in
    given_is (with_section b.layout o q) t z.second

-- it is loaded up to an address
loaded : (line : ℕ) (o : OutputSection) (h : Head) (b : Body) (t : Layout) → section_end line o h b ≡ Ok t
    → (placed_section o h b).load + (placed_section o h b).load_size < 2 ^ 64
unfolding section_end
loaded line o h b t e =
    let q : PlacedOutput = placed_section o h b in
    let x = chained (with_room (find_region b.layout o.region) q.start q.size q) _ t e in
    let y = chained (with_room (find_region b.layout (load_region o.load)) q.load q.load_size q) _ t x.second in
    let z = chained (address line (q.load + q.load_size)) _ t y.second in
    address_fits line (q.load + q.load_size) z.value z.first

section_ended : (row : List Piece) (s : Layout) (o : OutputSection) (h : Head) (b : Body)
    → Grown (opened s row h) b → (placed_section o h b).load + (placed_section o h b).load_size < 2 ^ 64
    → SectionGrown row s o (with_section b.layout o (placed_section o h b))
unfolding placed_section
section_ended row s o h b g l = record {
  section = placed_section o h b;
  added = ap (λ l. l ++ placed_section o h b ∷ []) g.sections;
  name = refl;
  region = refl;
  fill = refl;
  rest = b.rest;
  row_is = g.row;
  regions = ap (λ l. freed_from (load_region o.load) ((placed_section o h b).load + (placed_section o h b).load_size)
      (freed_from o.region ((placed_section o h b).start + (placed_section o h b).size) l)) g.regions;
  load_end = l;
  dots_are = g.dots_are;
  symbols_are = g.symbols_are;
}

pub section_grows : (provided : List (List ℕ)) (row : List Piece) (s : Layout) (line : ℕ) (o : OutputSection)
    (t : Layout) → section_step provided row s line o ≡ Ok t → SectionGrown row s o t
unfolding section_step
section_grows provided row s line o t e =
    let h = chained (head_of s row line o) _ t e in
    let b = chained (run (body_step provided) (opened s row h.value) o.body) (λ c. section_end line o h.value c) t
    h.second in
    let g = body_grows provided o.body (opened s row h.value) b.value b.first in
    subst (SectionGrown row s o) (end_is line o h.value b.value t b.second)
    (section_ended row s o h.value b.value g (loaded line o h.value b.value t b.second))
