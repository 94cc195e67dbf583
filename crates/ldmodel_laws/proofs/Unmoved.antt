-- Sites in input sections that stayed, whose symbols have the same values in both links.
use Rattle.ldmodel_laws.proofs.Common.{AreRead, Bool, Contains, HasField, HasSameValue, IsGood, List, Number, Site, []}
use Rattle.ldmodel_laws.proofs.Common.{ap, cond, eq-eqb, false, filter, flat_map, not, number_or_0, refl, site_field}
use Rattle.ldmodel_laws.proofs.Common.{site_field_with, site_value, sym, true, ◌↔◌, ◌∙◌, ◌∷◌, ◌≡◌}
use Rattle.ldmodel.specs.Stayed.{GoodLink, LinkedPiece, has_other_value, retargeted, sites_in, stayed, site_value_in}
use Rattle.ldmodel_laws.proofs.Finding.{in_flat_map}
use Rattle.ldmodel_laws.proofs.Members.{here, later}
use Rattle.ldmodel_laws.proofs.Untouched.{in_new, in_old, number_of, unmoved}

-- a value decides the field
pub same_field : (old new : GoodLink) (t : Site) → HasSameValue old new t
    → site_field new.project new.layout t ≡ site_field old.project old.layout t
unfolding site_field
same_field old new t e = ap (site_field_with t) (sym e)

pub field_stays : (old new : GoodLink) → IsGood old → AreRead new.project → (x : LinkedPiece) (t : Site)
    → Contains (stayed old new) x → Contains (sites_in new.project x) t → HasSameValue old new t → HasField new t
field_stays old new g read x t stays c e =
    let first : HasField old t = in_old old new g read x stays t c in
    (first.0, same_field old new t e ∙ first.1)

-- ---- of two good links

pub by_value : (old new : GoodLink) → IsGood old → IsGood new → (x : LinkedPiece) (t : Site)
    → Contains (stayed old new) x → Contains (sites_in new.project x) t
    → HasSameValue old new t ↔ (has_other_value old new t ≡ false)
unfolding site_field
by_value old new g h x t stays c = (
  λ e. ap not (eq-eqb (site_value_in old t) (site_value_in new t) (ap number_or_0 e)),
  λ e. let first : HasField old t = in_old old new g h.read x stays t c in
      let second : HasField new t = in_new old new g h.read x stays h t c in
      number_of t (site_value old.project old.layout t) first.0 first.1
      ∙ ap Number (unmoved (site_value_in old t) (site_value_in new t) e)
      ∙ sym (number_of t (site_value new.project new.layout t) second.0 second.1),
)

-- tests that fail at the same members keep the same ones
pub same_filters : {X : Type 0} (f g : X → Bool) (xs : List X)
    → ((x : X) → Contains xs x → (f x ≡ false) ↔ (g x ≡ false)) → filter f xs ≡ filter g xs
same_filters f g [] h = refl
same_filters {X} f g (x ∷ xs) h =
    ap (λ b. cond b (x ∷ filter f xs) (filter f xs)) (same (f x) (g x) (h x (here x xs)))
    ∙ ap (λ l. cond (g x) (x ∷ l) l) (same_filters f g xs (λ y c. h y (later x xs y c)))
  where
    same : (a b : Bool) → (a ≡ false) ↔ (b ≡ false) → a ≡ b
    same false b k = sym (k.0 refl)
    same true false k = k.1 refl
    same true true k = refl

-- a test of the values keeps the retargeted sites
pub kept_by_test : (old new : GoodLink) → IsGood old → IsGood new → (test : Site → Bool)
    → ((t : Site) → Contains (flat_map (sites_in new.project) (stayed old new)) t
    → (test t ≡ false) ↔ HasSameValue old new t)
    → filter test (flat_map (sites_in new.project) (stayed old new)) ≡ retargeted old new
unfolding retargeted
kept_by_test old new g h test decides =
    same_filters test (has_other_value old new) (flat_map (sites_in new.project) (stayed old new)) (λ t c.
    let k = in_flat_map (sites_in new.project) (stayed old new) t c in
    let moved = by_value old new g h k.origin t k.among k.gives in
    let tested = decides t c in
    (λ e. moved.0 (tested.0 e), λ e. tested.1 (moved.1 e)))
