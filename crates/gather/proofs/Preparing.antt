-- The objects of a project, one after the other.
use Rattle.gather.proofs.Common.{AddsFacts, All, All-more, AllZip, AreBlocks, AreBlocksOf, AreGathered, AreMatched, Bor}
use Rattle.gather.proofs.Common.{CommonBlock, GatheredSection, Global, InputSection, IsAscending, IsMatched, List}
use Rattle.gather.proofs.Common.{Matches, NamedObject, Project, Some, Vec, [], ap, arith, enumerate_from, facts}
use Rattle.gather.proofs.Common.{flat_map, flat_map_more, get_or, get_or-map, get_or_from_slice_get, input_sections}
use Rattle.gather.proofs.Common.{length, length-enumerate_from, length-map, map, map-append, object_inputs, shown_facts}
use Rattle.gather.proofs.Common.{shown_input, slice_get, slice_get-get_or, slice_get_within, subst, sym, take, take_all}
use Rattle.gather.proofs.Common.{take_more, ℕ, ◌++◌, ◌+◌, ◌<◌, ◌∙◌, ◌∷◌, ◌≡◌, ◌≤◌}
use Rattle.std.proofs.lemmas.Slice.Zip.{AllZip-long}
use Rattle.ldmodel_project.specs.Inputs.{shown_inputs}
use Rattle.ldmodel_project.specs.declared.input.InputObject.{InputObject}
use Rattle.gather.proofs.Lists.{numbered, zip_at, zip_member, zip_next}

pub object_here : (p : Project) (inputs : List InputObject) (n : ℕ) (x : InputObject) → shown_inputs inputs ≡ p.objects
    → n < length inputs → get_or inputs n x ≡ x → slice_get p.objects n ≡ Some (shown_input x)
object_here p inputs n x are low here =
    let within : n < length (shown_inputs inputs) = omega (arith, low, length-map inputs shown_input) in
    ap (λ (os : List NamedObject). slice_get os n) (sym are)
    ∙ (slice_get-get_or (shown_inputs inputs) n (shown_input x) within
    ∙ ap (λ (o : NamedObject). Some o) (get_or-map shown_input inputs n x (shown_input x) low ∙ ap shown_input here))

pub as_many : (p : Project) (inputs : List InputObject) → shown_inputs inputs ≡ p.objects
    → length p.objects ≡ length inputs
as_many p inputs are = ap length (sym are) ∙ length-map inputs shown_input

-- the objects so far are matched
abbrev pub MatchedBefore : Project → ℕ → List Matches → Type 0
MatchedBefore p n xs = AllZip (IsMatched p.script) (take n p.objects) xs

pub more_matched : (p : Project) (n : ℕ) (o : NamedObject) (xs new : List Matches) (x : Matches)
    → slice_get p.objects n ≡ Some o → IsMatched p.script o x → new ≡ xs ++ x ∷ [] → MatchedBefore p n xs
    → MatchedBefore p (n + 1) new
more_matched p n o xs new x at is pushed h =
    subst (MatchedBefore p (n + 1)) (sym pushed) (zip_next (IsMatched p.script) p.objects xs n o x at is h)

-- the blocks of an object
abbrev AreBlocksAt : Project → ℕ × NamedObject → Vec CommonBlock Global → Type 0
AreBlocksAt p o x = AreBlocksOf p o.0 o.1 x.items

-- those of the objects so far
abbrev pub BlocksBefore : Project → ℕ → List (Vec CommonBlock Global) → Type 0
BlocksBefore p n xs = AllZip (AreBlocksAt p) (take n (enumerate_from 0 p.objects)) xs

pub more_blocks : (p : Project) (n : ℕ) (o : NamedObject) (xs new : List (Vec CommonBlock Global))
    (x : Vec CommonBlock Global) → slice_get p.objects n ≡ Some o → AreBlocksOf p n o x.items → new ≡ xs ++ x ∷ []
    → BlocksBefore p n xs → BlocksBefore p (n + 1) new
more_blocks p n o xs new x at is pushed h =
    let t : ℕ × NamedObject = (n, o) in
    let within : n < length (enumerate_from 0 p.objects) =
    omega (arith, slice_get_within p.objects n o at, length-enumerate_from 0 p.objects) in
    let here : slice_get (enumerate_from 0 p.objects) n ≡ Some t =
    slice_get-get_or (enumerate_from 0 p.objects) n t within
    ∙ ap (λ (y : ℕ × NamedObject). Some y) (numbered p.objects n o t at) in
    subst (BlocksBefore p (n + 1)) (sym pushed)
    (zip_next (AreBlocksAt p) (enumerate_from 0 p.objects) xs n t x here is h)

pub all_blocks : (p : Project) (n : ℕ) (xs : List (Vec CommonBlock Global)) → length p.objects ≤ n
    → BlocksBefore p n xs → AreBlocks p xs
all_blocks p n xs past h =
    subst (λ (l : List (ℕ × NamedObject)). AllZip (AreBlocksAt p) l xs)
    (take_all n (enumerate_from 0 p.objects) (omega (arith, past, length-enumerate_from 0 p.objects))) h

-- one for each object
pub as_many_matched : (p : Project) (xs : List (Bor Matches)) → AreMatched p (map (λ (x : Bor Matches). x.now) xs)
    → length xs ≡ length p.objects
as_many_matched p xs h =
    sym (length-map xs (λ (x : Bor Matches). x.now))
    ∙ AllZip-long (IsMatched p.script) p.objects (map (λ (x : Bor Matches). x.now) xs) h

pub as_many_blocks : (p : Project) (xs : List (Vec CommonBlock Global)) → AreBlocks p xs
    → length xs ≡ length p.objects
as_many_blocks p xs h =
    AllZip-long (AreBlocksAt p) (enumerate_from 0 p.objects) xs h ∙ length-enumerate_from 0 p.objects

-- what is known of object number n
pub matched_at : (p : Project) (n : ℕ) (o : NamedObject) (xs : List (Bor Matches)) (x : Bor Matches)
    → AreMatched p (map (λ (x : Bor Matches). x.now) xs) → x ≡ get_or xs n x → slice_get p.objects n ≡ Some o
    → IsMatched p.script o x.now
matched_at p n o xs x h here at =
    let low : n < length xs = omega (arith, as_many_matched p xs h, slice_get_within p.objects n o at) in
    let is : get_or (map (λ (x : Bor Matches). x.now) xs) n x.now ≡ x.now =
    get_or-map (λ (x : Bor Matches). x.now) xs n x x.now low ∙ ap (λ (x : Bor Matches). x.now) (sym here) in
    subst (IsMatched p.script o) is
    (zip_member (IsMatched p.script) p.objects (map (λ (x : Bor Matches). x.now) xs) n o x.now at h)

pub blocks_given : (p : Project) (n : ℕ) (o : NamedObject) (xs : List (Vec CommonBlock Global))
    (x : Vec CommonBlock Global) → AreBlocks p xs → x ≡ get_or xs n x → slice_get p.objects n ≡ Some o
    → AreBlocksOf p n o x.items
blocks_given p n o xs x h here at =
    subst (λ (y : Vec CommonBlock Global). AreBlocksOf p n o y.items) (sym here)
    (zip_at (AreBlocksAt p) p.objects xs n o x at h)

-- the sections of the objects so far
pub record GatheredBefore (p : Project) (n : ℕ) (xs : List GatheredSection) : Type 0 where
  pub are : map shown_facts xs ≡ map (facts p) (flat_map (λ (o : ℕ × NamedObject). object_inputs p o.0 o.1)
      (take n (enumerate_from 0 p.objects)))
  pub ascending : All IsAscending (take n p.objects)

pub more_gathered : (p : Project) (n : ℕ) (o : NamedObject) (xs new : List GatheredSection) → slice_get p.objects n
    ≡ Some o
    → AddsFacts xs new (map (facts p) (object_inputs p n o)) → IsAscending o → GatheredBefore p n xs
    → GatheredBefore p (n + 1) new
more_gathered p n o xs new at added up h =
    let f : ℕ × NamedObject → List InputSection = λ o. object_inputs p o.0 o.1 in
    let t : ℕ × NamedObject = (n, o) in
    let within : n < length p.objects = slice_get_within p.objects n o at in
    let all : List (ℕ × NamedObject) = enumerate_from 0 p.objects in
    let next : flat_map f (take (n + 1) all) ≡ flat_map f (take n all) ++ object_inputs p n o =
    ap (flat_map f) (take_more all n t (omega (arith, within, length-enumerate_from 0 p.objects))
    ∙ ap (λ (y : ℕ × NamedObject). take n all ++ y ∷ []) (numbered p.objects n o t at))
    ∙ sym (flat_map_more f [] (take n all) t) in
    record {
      are = added ∙ ap (λ l. l ++ map (facts p) (object_inputs p n o)) h.are
          ∙ sym (map-append (facts p) (flat_map f (take n all)) (object_inputs p n o)) ∙ ap (map (facts p)) (sym next);
      ascending = All-more IsAscending p.objects n o within h.ascending
          (subst IsAscending (sym (get_or_from_slice_get p.objects n o o at)) up);
    }

pub all_gathered : (p : Project) (n : ℕ) (xs : List GatheredSection) → length p.objects ≤ n → GatheredBefore p n xs
    → AreGathered p xs
unfolding input_sections
all_gathered p n xs past h = record {
  facts = h.are
      ∙ ap (λ (l : List (ℕ × NamedObject)). map (facts p) (flat_map (λ
      (o : ℕ × NamedObject). object_inputs p o.0 o.1) l))
      (take_all n (enumerate_from 0 p.objects) (omega (arith, past, length-enumerate_from 0 p.objects)));
  ascending = subst (All IsAscending) (take_all n p.objects past) h.ascending;
}
