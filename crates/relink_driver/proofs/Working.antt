-- What a link over a previous one counts.
use Rattle.relink_driver.proofs.Common.{AreEvaluated, ArePlaced, Bool, Counts, Err, Fault, GoodLink, IfSome}
use Rattle.relink_driver.proofs.Common.{ImageTooLong, IsGood, IsPreviousOf, IsSome, IsWritten, Layout, List, None, Ok}
use Rattle.relink_driver.proofs.Common.{Option, PreviousState, PreviousView, Project, Relocated, Some, StayedSections}
use Rattle.relink_driver.proofs.Common.{[], ap, arith, capped, cond, false, image_length, inl, layout, ltb-true}
use Rattle.relink_driver.proofs.Common.{max_image_length, nat_lt, new_link, of_length, previous_of, raised, refl}
use Rattle.relink_driver.proofs.Common.{sites_to_evaluate, subst, sym, true, ℕ, ◌∙◌, ◌∷◌, ◌≡◌, ◌≤◌}
use Rattle.elfobj.specs.declared.meter.Count.TheVariants as counts
use Rattle.relink_driver.specs.Counted.{AreDrawn, CountsFields, IsImageCount, bytes_spent}
use Rattle.relink_driver.specs.Worked.{IsLinkWork}

-- ---- the image

image_count : (old new : GoodLink) (r : Relocated) (m0 m1 m2 : Counts) → CountsFields old new r m0 m1
    → m2 ≡ raised m1 counts.Bytes (bytes_spent old new r) → IsImageCount old new m0 m2
image_count old new r m0 m1 m2 h e = record {
  relocations = ap (λ (m : Counts). m.fields) e ∙ ap (λ (m : Counts). m.fields) h.counted;
  written = bytes_spent old new r;
  bytes = ap (λ (m : Counts). m.bytes) e
      ∙ ap (λ (n : ℕ). capped n (bytes_spent old new r)) (ap (λ (m : Counts). m.bytes) h.counted);
  few = omega (arith, h.patched);
  exactly = inl (omega (arith, h.patched));
}

within_length : (b : Bool) (fs : List Fault) (s t : Layout) → cond b (Err fs) (Ok t) ≡ Ok s → t ≡ s
within_length true fs s t h = cc
within_length false fs s t h = cc

-- the layout of a project is that of its link
own_layout : (p : Project) (s t : Layout) → layout p ≡ of_length (image_length p t) t → layout p ≡ Ok s → t ≡ s
own_layout p s t is e =
    within_length (nat_lt max_image_length (image_length p t)) (ImageTooLong (image_length p t) ∷ []) s t (sym is ∙ e)

-- the layout of an image that is not too long
pub of_short : (p : Project) (s : Layout) → image_length p s ≤ max_image_length → of_length (image_length p s) s ≡ Ok s
of_short p s short = go (nat_lt max_image_length (image_length p s)) refl
  where
    go : (b : Bool) → nat_lt max_image_length (image_length p s) ≡ b
        → cond b (Err (ImageTooLong (image_length p s) ∷ [])) (Ok s) ≡ Ok s
    go false e = refl
    go true e = absurd (omega (arith, short, ltb-true max_image_length (image_length p s) e))

some_last : (l : Option PreviousView) (x : PreviousState) → previous_of l ≡ Some x → IsSome l
some_last None x e = absurd (let none : ⊥ = cc in none)
some_last (Some l) x e = refl

pub are_drawn : (p : Project) (t : Layout) (y : StayedSections) (r : Relocated) (m0 m1 m2 : Counts)
    → layout p ≡ of_length (image_length p t) t → IsGood (new_link p t) → AreEvaluated p t y r m0 m1
    → IsWritten p t y r m1 m2 → AreDrawn p (previous_of y.previous) m0 m2
are_drawn p t y r m0 m1 m2 is good h w = record {
  pieces = ap (λ (m : Counts). m.pieces) w.bytes.1 ∙ ap (λ (m : Counts). m.pieces) h.fields.1;
  image = λ old x s e previous laid.
      subst (λ (z : Layout). IsImageCount old (new_link p z) m0 m2)
      (own_layout p s t is laid)
      (at_own old (subst (λ (z : Option PreviousState). IfSome z (IsPreviousOf old p)) (sym e) previous)
      (some_last y.previous x e)
      previous.table.good);
}
  where
    at_own : (old : GoodLink) → IfSome (previous_of y.previous) (IsPreviousOf old p) → IsSome y.previous → IsGood old
        → IsImageCount old (new_link p t) m0 m2
    at_own old previous some old_good =
        image_count old (new_link p t) r m0 m1 m2 (h.beside old previous some old_good good)
        (w.beside old previous some)

-- ---- the link

pub link_work : (p : Project) (previous : Option PreviousState) (m0 m1 m2 : Counts) → ArePlaced p previous m0 m1
    → AreDrawn p previous m1 m2 → (old : GoodLink) (x : PreviousState) (s : Layout) → previous ≡ Some x
    → IsPreviousOf old p x
    → layout p ≡ Ok s → IsLinkWork old (new_link p s) x m0 m2
link_work p previous m0 m1 m2 placed drawn old x s e is laid =
    let image = drawn.image old x s e is laid in
    let new = new_link p s in
    record {
      first = placed.first;
      pieces = drawn.pieces ∙ ap (λ (m : Counts). m.pieces) placed.counted;
      same = placed.same old x e is;
      changed = placed.changed old x e is;
      anew = placed.anew x e;
      image = record {
        relocations = image.relocations
            ∙ ap (λ (n : ℕ). capped n (sites_to_evaluate old new)) (ap (λ (m : Counts). m.fields) placed.counted);
        written = image.written;
        bytes = image.bytes
            ∙ ap (λ (n : ℕ). capped n image.written) (ap (λ (m : Counts). m.bytes) placed.counted);
        few = image.few;
        exactly = image.exactly;
      };
    }
