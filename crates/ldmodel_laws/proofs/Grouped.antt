-- The groups of a list of output sections are the one way to cut it exactly where neighbours do not share a segment.
use Rattle.ldmodel_laws.proofs.Common.{Bool, Each, List, PlacedOutput, [], ap, false, flat_map, groups, if◌then◌else◌}
use Rattle.ldmodel_laws.proofs.Common.{refl, sym, true, ◌++◌, ◌∙◌, ◌∷◌, ◌≡◌}
use Rattle.ldmodel_laws.specs.FileLayout.{Neighbours, IsTogether, AreApart, IsGrouping, Shares}
use Rattle.ldmodel.specs.Segments.{Group, with_front, group_sections, shares_segment}

abbrev alone : PlacedOutput → Group
alone q = record { first = q; others = [] }

abbrev before : PlacedOutput → Group → Group
before q g = record { first = q; others = group_sections g }

-- a section before groups, by whether it shares a segment with the first of them
abbrev put : Bool → PlacedOutput → Group → List Group → List Group
put b q g gs = if b then before q g ∷ gs else (alone q ∷ g ∷ gs)

front_parts : (q : PlacedOutput) (gs : List Group) → flat_map group_sections (with_front q gs)
    ≡ q ∷ flat_map group_sections gs
front_parts q [] = refl
front_parts q (g ∷ gs) = by (shares_segment q g.first)
  where
    by : (b : Bool) → flat_map group_sections (put b q g gs) ≡ q ∷ flat_map group_sections (g ∷ gs)
    by true = refl
    by false = refl

parts : (qs : List PlacedOutput) → flat_map group_sections (groups qs) ≡ qs
unfolding groups
parts [] = refl
parts (q ∷ qs) = front_parts q (groups qs) ∙ ap (λ l. q ∷ l) (parts qs)

front_together : (q : PlacedOutput) (gs : List Group) → Each IsTogether gs → Each IsTogether (with_front q gs)
front_together q [] h = (tt, tt)
front_together q (g ∷ gs) h = by (shares_segment q g.first) refl
  where
    by : (b : Bool) → shares_segment q g.first ≡ b → Each IsTogether (put b q g gs)
    by true e = ((e, h.0), h.1)
    by false e = (tt, h)

together : (qs : List PlacedOutput) → Each IsTogether (groups qs)
unfolding groups
together [] = tt
together (q ∷ qs) = front_together q (groups qs) (together qs)

front_apart : (q : PlacedOutput) (gs : List Group) → Neighbours AreApart gs → Neighbours AreApart (with_front q gs)
front_apart q [] h = tt
front_apart q (g ∷ []) h = by (shares_segment q g.first) refl
  where
    by : (b : Bool) → shares_segment q g.first ≡ b → Neighbours AreApart (put b q g [])
    by true e = tt
    by false e = (e, tt)
front_apart q (g ∷ f ∷ gs) h = by (shares_segment q g.first) refl
  where
    by : (b : Bool) → shares_segment q g.first ≡ b → Neighbours AreApart (put b q g (f ∷ gs))
    by true e = h
    by false e = (e, h)

apart : (qs : List PlacedOutput) → Neighbours AreApart (groups qs)
unfolding groups
apart [] = tt
apart (q ∷ qs) = front_apart q (groups qs) (apart qs)

pub is_grouping : (qs : List PlacedOutput) → IsGrouping qs (groups qs)
is_grouping qs = record { parts = parts qs; together = together qs; apart = apart qs }

-- and there is no other
abbrev group_of : PlacedOutput → List PlacedOutput → Group
group_of p qs = record { first = p; others = qs }

put_alone : (p : PlacedOutput) (gs : List Group) → Neighbours AreApart (alone p ∷ gs) → with_front p gs ≡ alone p ∷ gs
put_alone p [] h = refl
put_alone p (g ∷ gs) h = ap (λ b. put b p g gs) (h.0)

put_before : (p q : PlacedOutput) (qs : List PlacedOutput) (gs : List Group) → Shares p q
    → with_front p (group_of q qs ∷ gs) ≡ group_of p (q ∷ qs) ∷ gs
put_before p q qs gs h = ap (λ b. put b p (group_of q qs) gs) h

tail_apart : (g : Group) (gs : List Group) → Neighbours AreApart (g ∷ gs) → Neighbours AreApart gs
tail_apart g [] h = tt
tail_apart g (f ∷ gs) h = h.1

shorter_apart : (p q : PlacedOutput) (qs : List PlacedOutput) (gs : List Group)
    → Neighbours AreApart (group_of p (q ∷ qs) ∷ gs) → Neighbours AreApart (group_of q qs ∷ gs)
shorter_apart p q qs [] h = tt
shorter_apart p q qs (f ∷ gs) h = h

joined : (p : PlacedOutput) (qs : List PlacedOutput) (gs : List Group) → Neighbours Shares (p ∷ qs)
    → Neighbours AreApart (group_of p qs ∷ gs) → groups (flat_map group_sections gs) ≡ gs
    → groups (p ∷ (qs ++ flat_map group_sections gs)) ≡ group_of p qs ∷ gs
unfolding groups
joined p [] gs t a e = ap (with_front p) e ∙ put_alone p gs a
joined p (q ∷ qs) gs t a e =
    ap (with_front p) (joined q qs gs (t.1) (shorter_apart p q qs gs a) e) ∙ put_before p q qs gs (t.0)

unique : (gs : List Group) → Each IsTogether gs → Neighbours AreApart gs → groups (flat_map group_sections gs) ≡ gs
unfolding groups
unique [] t a = refl
unique (g ∷ gs) t a = joined g.first g.others gs (t.0) a (unique gs (t.1) (tail_apart g gs a))

pub one_grouping : (qs : List PlacedOutput) (gs : List Group) → IsGrouping qs gs → gs ≡ groups qs
one_grouping qs gs h = sym (unique gs h.together h.apart) ∙ ap groups h.parts
