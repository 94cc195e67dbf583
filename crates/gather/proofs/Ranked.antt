-- The ranks of the common blocks of objects.
use Rattle.gather.proofs.Common.{All, AllZip, AreBlocks, AreBlocksOf, Bool, CommonBlock, Contains, Contains-append_left}
use Rattle.gather.proofs.Common.{Contains-append_right, Global, InputSection, List, NamedObject, Project, Some, Vec, []}
use Rattle.gather.proofs.Common.{ap, arith, block_rank, cases_lt, enumerate_from, get_or, get_or-map}
use Rattle.gather.proofs.Common.{get_or_from_slice_get, inl, inr, length, length-map, map, refl, same_Some, slice_get}
use Rattle.gather.proofs.Common.{slice_get_within, subst, suc, sym, zero, ℕ, ◌++◌, ◌+◌, ◌<◌, ◌∙◌, ◌∷◌, ◌≡◌, ◌≤◌, ◌⊎◌}
use Rattle.gather.specs.SectionTable.{AreBlockRanks, IsBlockAmong}
use Rattle.gather.specs.Blocks.{block_of}

abbrev Blocks : Type 0
Blocks = Vec CommonBlock Global

-- the blocks of the first i objects have their ranks among these
pub record RankedUpTo (all : List Blocks) (ranks : List (ℕ × Bool × ℕ)) (i : ℕ) : Type 0 where
  pub ranked : (k : ℕ) (v : Blocks) → k < i → slice_get all k ≡ Some v
      → All (λ (b : CommonBlock). Contains ranks (block_rank k b)) v.items

pub none_ranked : (all : List Blocks) → RankedUpTo all [] 0
none_ranked all = record { ranked = λ k v l. absurd (omega (arith, l)) }

own_ranks : (i : ℕ) (bs : List CommonBlock) (k : ℕ) (d : CommonBlock) → k < length bs
    → Contains (map (block_rank i) bs) (block_rank i (get_or bs k d))
own_ranks i bs k d l =
    let is = get_or-map (block_rank i) bs k d (block_rank i (get_or bs k d)) l in
    (k, omega (arith, l, length-map bs (block_rank i)), is)

pub more_ranked : (all : List Blocks) (i : ℕ) (v : Blocks) (old new : List (ℕ × Bool × ℕ)) → v ≡ get_or all i v
    → new ≡ old ++ map (block_rank i) v.items → RankedUpTo all old i → RankedUpTo all new (i + 1)
more_ranked all i v old new here pushed before =
    subst (λ l. RankedUpTo all l (i + 1)) (sym pushed) (record { ranked = λ k w l at. go k w l at (cases_lt k i) })
  where
    go : (k : ℕ) (w : Blocks) → k < i + 1 → slice_get all k ≡ Some w → (k < i) ⊎ (i ≤ k)
        → All (λ (b : CommonBlock). Contains (old ++ map (block_rank i) v.items) (block_rank k b)) w.items
    go k w l at (inl below) =
        λ j d m. Contains-append_left old (map (block_rank i) v.items) (block_rank k (get_or w.items j d))
        (before.ranked k w below at j d m)
    go k w l at (inr past) =
        let same : k ≡ i = omega (arith, past, l) in
        let one : v ≡ w = here ∙ ap (λ n. get_or all n v) (sym same) ∙ get_or_from_slice_get all k w v at in
        subst (λ (n : ℕ). All (λ (b : CommonBlock). Contains (old ++ map (block_rank i) v.items) (block_rank n b))
        w.items) (sym same)
        (subst (λ (x : Blocks). All (λ (b : CommonBlock). Contains (old ++ map (block_rank i) v.items) (block_rank i b))
        x.items) one
        (λ j d m. Contains-append_right old (map (block_rank i) v.items) (block_rank i (get_or v.items j d))
        (own_ranks i v.items j d m)))

-- the blocks of an object
record Own (p : Project) (xs : List Blocks) (i k : ℕ) (o : NamedObject) : Type 0 where
  blocks : Blocks
  at : slice_get xs k ≡ Some blocks
  are : AreBlocksOf p i o blocks.items

own_of : (p : Project) (n : ℕ) (os : List NamedObject) (xs : List Blocks)
    → AllZip (λ (o : ℕ × NamedObject) (x : Blocks). AreBlocksOf p o.0 o.1 x.items) (enumerate_from n os) xs
    → (k : ℕ) (o : NamedObject) → slice_get os k ≡ Some o → Own p xs (n + k) k o
own_of p n [] xs h k o e = absurd (let none : ⊥ = cc in none)
own_of p n (y ∷ ys) [] h k o e = absurd h
own_of p n (y ∷ ys) (x ∷ xs) h zero o e =
    let first : n ≡ n + 0 = omega arith in
    record {
      blocks = x;
      at = refl;
      are = subst (λ (m : ℕ). AreBlocksOf p m o x.items) first
          (subst (λ (z : NamedObject). AreBlocksOf p n z x.items) (same_Some _ _ e) h.0);
    }
own_of p n (y ∷ ys) (x ∷ xs) h (suc k) o e =
    let rest = own_of p (n + 1) ys xs h.1 k o e in
    let next : (n + 1) + k ≡ n + suc k = omega arith in
    record {
      blocks = rest.blocks;
      at = rest.at;
      are = subst (λ (m : ℕ). AreBlocksOf p m o rest.blocks.items) next rest.are;
    }

among : (ranks : List (ℕ × Bool × ℕ)) (i : ℕ) (name : List ℕ) (bs : List CommonBlock)
    → All (λ (b : CommonBlock). Contains ranks (block_rank i b)) bs
    → All (λ (s : InputSection). IsBlockAmong ranks s.id.object s.id.part) (map (block_of i name) bs)
among ranks i name [] h k d l = absurd (omega (arith, l))
among ranks i name (b ∷ bs) h zero d l = h 0 b (omega arith)
among ranks i name (b ∷ bs) h (suc k) d l =
    among ranks i name bs (λ j e m. h (suc j) e (omega (arith, m))) k d (omega (arith, l))

-- so they are those of the project
pub all_ranked : (p : Project) (all : List Blocks) (ranks : List (ℕ × Bool × ℕ)) (n : ℕ) → length all ≤ n
    → RankedUpTo all ranks n → AreBlocks p all → AreBlockRanks p ranks
all_ranked p all ranks n past h are i o at =
    let own = own_of p 0 p.objects all are i o at in
    let from : 0 + i ≡ i = omega arith in
    let is : AreBlocksOf p i o own.blocks.items = subst (λ (m : ℕ). AreBlocksOf p m o own.blocks.items) from own.are in
    subst (All (λ (s : InputSection). IsBlockAmong ranks s.id.object s.id.part)) is
    (among ranks i o.name own.blocks.items
    (h.ranked i own.blocks (omega (arith, past, slice_get_within all i own.blocks own.at)) own.at))
