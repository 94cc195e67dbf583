-- The sections that are reached in the graph of a project are the live ones.
use Rattle.gather.proofs.Common.{Bool, Contains, Err, Graph, IfOk, InputSection, IsGraphOf, IsIn, IsLive, IsMarked}
use Rattle.gather.proofs.Common.{IsSectionAt, List, Ok, Project, Result, Some, [], and_from, and_parts, ap, arith}
use Rattle.gather.proofs.Common.{candidates, cond, false, filter, from_live, from_root, get_or, get_or-map}
use Rattle.gather.proofs.Common.{get_or_from_slice_get, input_sections, is_discarded, is_root, length, length-map, live}
use Rattle.gather.proofs.Common.{map, marked, not, not-true, refers_to, refl, slice_get-get_or, slice_get_within}
use Rattle.gather.proofs.Common.{slice_index_or, subst, sym, true, ℕ, ◌&&◌, ◌<◌, ◌↔◌, ◌∙◌, ◌∷◌, ◌≡◌}
use Rattle.ldmodel.specs.Reach.{Path, start, step}
use Rattle.gather.proofs.InLists.{filter_twice, marked_filter}
use Rattle.ldmodel_laws.proofs.Members.{in_filter, filter_in, same_tests}

live_in : (g : Graph) (k : ℕ) → IsLive g k → IsIn g k
live_in g k (from_root s c i) = i
live_in g k (from_live a b l t i) = i

module _ (p : Project) (g : Graph) (w : IsGraphOf p g) where
  abbrev all : List InputSection
  all = input_sections p

  abbrev is_in : InputSection → Bool
  is_in s = not (is_discarded p s)

  long : length g.out ≡ length all
  long = ap length w.out ∙ length-map all (is_discarded p)

  out_at : (k : ℕ) (s : InputSection) → IsSectionAt p k s → slice_index_or g.out k true ≡ is_discarded p s
  out_at k s e = ap (λ l. slice_index_or l k true) w.out
      ∙ get_or-map (is_discarded p) all k s true (slice_get_within all k s e)
      ∙ ap (is_discarded p) (get_or_from_slice_get all k s s e)

  not_discarded : (k : ℕ) (s : InputSection) → IsSectionAt p k s → IsIn g k → is_discarded p s ≡ false
  not_discarded k s e i = sym (out_at k s e) ∙ i

  candidate : (k : ℕ) (s : InputSection) → IsSectionAt p k s → is_discarded p s ≡ false → Contains (candidates p) s
  candidate k s e o = filter_in is_in all s (k, slice_get_within all k s e, get_or_from_slice_get all k s s e)
      (ap not o)

  among : (s : InputSection) → Contains (candidates p) s → Contains all s × (is_discarded p s ≡ false)
  among s c = let h : Contains all s × (is_in s ≡ true) = in_filter is_in all s c in
      (h.0, not-true (is_discarded p s) h.1)

  at_place : (s : InputSection) (c : Contains all s) → IsSectionAt p c.0 s
  at_place s c = slice_get-get_or all c.0 s c.1 ∙ ap (λ x. Some x) c.2

  live_path : (k : ℕ) → IsLive g k → (s : InputSection) → IsSectionAt p k s
      → Path (is_root p) (refers_to p) (candidates p) s
  live_path k (from_root n c i) s e =
      let o : is_discarded p s ≡ false = not_discarded k s e i in
      start s (candidate k s e o) ((w.roots k s e o).1 c)
  live_path k (from_live a b l t i) s e =
      let o : is_discarded p s ≡ false = not_discarded k s e i in
      let within : a < length all = omega (arith, t.0, long) in
      let at : IsSectionAt p a (get_or all a s) = slice_get-get_or all a s within in
      let before : is_discarded p (get_or all a s) ≡ false = not_discarded a (get_or all a s) at (live_in g a l) in
      step (get_or all a s) s (live_path a l (get_or all a s) at) (candidate k s e o)
      ((w.references a k (get_or all a s) s at e before o).1 t)

  on_path : (s : InputSection) → Path (is_root p) (refers_to p) (candidates p) s → Contains (candidates p) s
  on_path s (start x c h) = c
  on_path s (step x y q c h) = c

  path_live : (s : InputSection) → Path (is_root p) (refers_to p) (candidates p) s → (k : ℕ) → IsSectionAt p k s
      → IsLive g k
  path_live s (start x c h) k e =
      let o : is_discarded p s ≡ false = (among s c).1 in
      from_root k ((w.roots k s e o).0 h) (out_at k s e ∙ o)
  path_live s (step x y q c h) k e =
      let o : is_discarded p s ≡ false = (among s c).1 in
      let from : Contains all x × (is_discarded p x ≡ false) = among x (on_path x q) in
      let at : IsSectionAt p from.0.0 x = at_place x from.0 in
      from_live from.0.0 k (path_live x q from.0.0 at) ((w.references from.0.0 k x s at e from.1 o).0 h) (out_at k s e
      ∙ o)

  module _ (marks : List Bool) (as_long : length marks ≡ length g.out) (reached : (k : ℕ)
      → IsMarked marks k ↔ IsLive g k)
      (paths : (s : InputSection) → Contains (live p) s ↔ Path (is_root p) (refers_to p) (candidates p) s)
      (test : InputSection → Bool) (in_order : live p ≡ filter test (candidates p)) where
    abbrev passes : InputSection → Bool
    passes s = is_in s && test s

    mark_is : (k : ℕ) (s : InputSection) → IsSectionAt p k s → slice_index_or marks k false ≡ passes s
    mark_is k s e = same_tests (slice_index_or marks k false) (passes s)
        (λ m. let c : Contains (live p) s = (paths s).1 (live_path k ((reached k).0 m) s e) in
        let kept : Contains (candidates p) s × (test s ≡ true) =
        in_filter test (candidates p) s (subst (λ l. Contains l s) in_order c) in
        and_from (is_in s) (test s) (ap not (among s kept.0).1) kept.1)
        (λ h. let both = and_parts (is_in s) (test s) h in
        let c : Contains (live p) s =
        subst (λ l. Contains l s) (sym in_order)
        (filter_in test (candidates p) s (candidate k s e (not-true (is_discarded p s) both.0)) both.1) in
        (reached k).1 (path_live s ((paths s).0 c) k e))

    pub marked_live : marked marks all ≡ live p
    marked_live =
        marked_filter passes marks all (as_long ∙ long) mark_is
        ∙ sym (filter_twice is_in test all) ∙ sym in_order

-- what two clauses say together of an Ok
pub if_ok_two : {T E : Type 0} (r : Result T E) (A B D : T → Type 0) → ((v : T) → A v → B v → D v) → IfOk r A
    → IfOk r B → IfOk r D
if_ok_two (Ok v) A B D f a b = f v a b
if_ok_two (Err e) A B D f a b = tt

-- without garbage collection those that are not left out
pub kept_are : {X : Type 0} (out : X → Bool) (xs : List X) → marked (map not (map out xs)) xs
    ≡ filter (λ x. not (out x)) xs
kept_are out [] = refl
kept_are out (x ∷ xs) = ap (λ l. cond (not (out x)) (x ∷ l) l) (kept_are out xs)
