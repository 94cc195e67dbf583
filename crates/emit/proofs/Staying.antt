-- What stays of a drawing, by what is said of keys.
use Rattle.emit.proofs.Common.{All, AllZip, AreStayedByKey, Bool, Contains, IfSome, ImagePiece, ImageSection, KnownLink}
use Rattle.emit.proofs.Common.{Layout, List, None, Option, PlacedOutput, PlacedPiece, Project, SectionInFile}
use Rattle.emit.proofs.Common.{SectionRef, Some, SymbolTableState, [], ap, arith, cond, false, filter, get_or, in_file}
use Rattle.emit.proofs.Common.{is_some, known_link, length, loaded, map, nonempty, not, refl, segments, subst, suc, sym}
use Rattle.emit.proofs.Common.{true, true≢false, zero, ℕ, ◌<◌, ◌==◌, ◌∙◌, ◌∷◌, ◌≡◌}
use Rattle.emit_image.specs.Redrawings.{HasStayed, IsMarkedIfStayed, linked_in}
use Rattle.ldmodel.specs.Stayed.{GoodLink, LinkedPiece, has_stayed, linked_piece, link_pieces}
use Rattle.emit_relocate.specs.PreviousLinkInfo.{HasStayedAt, IsComplete, IsPieceOf}
use Rattle.emit_relocate.specs.declared.previous_link_info.FileRange.{FileRange}
use Rattle.emit.proofs.Lists.{zip_each, zip_right}
use Rattle.emit.specs.StayedPieces.{AreAllThatStayed, HaveStayed, IsStayedByKey, IsKeyed, IsSound}

-- what a filter keeps was in the list
filtered : {X : Type 0} (p : X → Bool) (xs : List X) (x : X) → Contains (filter p xs) x → Contains xs x
filtered p [] x c = c
filtered p (y ∷ ys) x c = go (p y) c (filtered p ys x)
  where
    later : Contains ys x → Contains (y ∷ ys) x
    later k = (suc k.0, omega (arith, k.1), k.2)

    first : (k : ℕ) → k < length (y ∷ filter p ys) → get_or (y ∷ filter p ys) k x ≡ x
        → (Contains (filter p ys) x → Contains ys x) → Contains (y ∷ ys) x
    first zero l e rest = (0, omega arith, e)
    first (suc k) l e rest = later (rest (k, omega (arith, l), e))

    go : (b : Bool) → Contains (cond b (y ∷ filter p ys) (filter p ys)) x
        → (Contains (filter p ys) x → Contains ys x) → Contains (y ∷ ys) x
    go true c rest = first c.0 c.1 c.2 rest
    go false c rest = later (rest c)

mapped : {X Y : Type 0} (f : X → Y) (xs : List X) (x : X) → Contains xs x → Contains (map f xs) (f x)
mapped f [] x c = absurd (omega (arith, c.1))
mapped f (y ∷ ys) x c = go c.0 c.1 c.2 (mapped f ys x)
  where
    go : (k : ℕ) → k < length (y ∷ ys) → get_or (y ∷ ys) k x ≡ x
        → (Contains ys x → Contains (map f ys) (f x)) → Contains (map f (y ∷ ys)) (f x)
    go zero l e more = (0, omega arith, ap f e)
    go (suc k) l e more = let rest = more (k, omega (arith, l), e) in (suc rest.0, omega (arith, rest.1), rest.2)

-- the laws of links that are used
pub record Laws : Type 0 where
  pub linked : (l : GoodLink) (q : PlacedOutput) (z : PlacedPiece) → Contains l.layout.sections q
      → Contains q.pieces z → Contains (link_pieces l) (linked_piece l.project (segments l.layout.sections) q z)
  pub all : (sections : List PlacedOutput)
      → map (λ (x : SectionInFile). x.section) (in_file (segments sections)) ≡ nonempty sections

-- an output section with bytes in the file is one of the layout
in_layout : Laws → (s : Layout) (x : SectionInFile) → Contains (loaded s) x → Contains s.sections x.section
in_layout laws s x c =
    filtered (λ (q : PlacedOutput). not (q.size == 0)) s.sections x.section
    (subst (λ qs. Contains qs x.section) (laws.all s.sections)
    (mapped (λ (y : SectionInFile). y.section) (in_file (segments s.sections)) x
    (filtered (λ (y : SectionInFile). y.section.has_file_bytes) (in_file (segments s.sections)) x c)))

-- nothing stays where no key does
pub none_stays : (p : Project) (s : Layout) (stays : SectionRef → Bool) (ys : List ImageSection)
    → ((k : SectionRef) → stays k ≡ false) → AllZip (AreStayedByKey p stays) (loaded s) ys
    → All (λ (x : ImageSection). All (λ (y : ImagePiece). y.stays ≡ false) x.pieces.now) ys
none_stays p s stays ys none z =
    zip_right (AreStayedByKey p stays)
    (λ (x : ImageSection). All (λ (y : ImagePiece). y.stays ≡ false) x.pieces.now) (loaded s) ys
    (λ x y h. zip_right (IsStayedByKey p stays) (λ v. v.stays ≡ false) x.section.pieces y.pieces.now
    (λ w v k. k.is ∙ none k.section) h) z

-- the input sections of output sections with bytes in the file, and those that are drawn, are related one by one
abbrev EachDrawn : (PlacedOutput → PlacedPiece → ImagePiece → Type 0) → Layout → List ImageSection → Type 0
EachDrawn R s ys =
    AllZip (λ (x : SectionInFile) (y : ImageSection). AllZip (R x.section) x.section.pieces y.pieces.now) (loaded s) ys

module _ (laws : Laws) (old new : GoodLink) (stays : SectionRef → Bool) (ys : List ImageSection)
    (kept : AllZip (AreStayedByKey new.project stays) (loaded new.layout) ys) where
  by_piece : (R : PlacedOutput → PlacedPiece → ImagePiece → Type 0)
      → ((x : SectionInFile) (w : PlacedPiece) (y : ImagePiece) (k : IsStayedByKey new.project stays w y)
      → IsKeyed new k.section (linked_in new x.section w) → R x.section w y) → EachDrawn R new.layout ys
  by_piece R f =
      zip_each (AreStayedByKey new.project stays) (λ x y. AllZip (R x.section) x.section.pieces y.pieces.now)
      (loaded new.layout) ys
      (λ x y c h. zip_each (IsStayedByKey new.project stays) (R x.section) x.section.pieces y.pieces.now
      (λ w v m k. f x w v k (record {
        among = laws.linked new x.section w (in_layout laws new.layout x c) m;
        object = k.object;
        part = k.part;
      })) h) kept

  -- what is kept has stayed
  pub have_stayed : HaveStayed old new stays → EachDrawn (HasStayed old new) new.layout ys
  have_stayed h =
      by_piece (HasStayed old new) (λ x w y k is e. h k.section (linked_in new x.section w) (sym k.is ∙ e) is)

  -- what has stayed is kept
  pub are_kept : AreAllThatStayed old new stays → EachDrawn (IsMarkedIfStayed old new) new.layout ys
  are_kept h =
      by_piece (IsMarkedIfStayed old new) (λ x w y k is e. k.is ∙ h k.section (linked_in new x.section w) is e)

-- ---- what a previous link says

abbrev link_at : GoodLink → SymbolTableState → KnownLink
link_at new a = known_link new.project new.layout a

piece_of : (new : GoodLink) (a : SymbolTableState) (k : SectionRef) (x : LinkedPiece) → IsKeyed new k x
    → IsPieceOf (link_at new a) k x
piece_of new a k x h = record { among = h.among; object_is = sym h.object; part_is = sym h.part }

-- what is known to have stayed has
pub only_said : (old new : GoodLink) (a : SymbolTableState) (range : SectionRef → Option FileRange)
    → IsSound range old (link_at new a) → HaveStayed old new (λ k. is_some (range k))
only_said old new a range sound k x said is = go (range k) said (sound k)
  where
    go : (r : Option FileRange) → is_some r ≡ true → IfSome r (HasStayedAt old (link_at new a) k)
        → has_stayed old x ≡ true
    go None e h = absurd (true≢false (sym e))
    go (Some r) e h = (h x (piece_of new a k x is)).0

-- what has stayed is known to have
pub all_said : (old new : GoodLink) (a : SymbolTableState) (range : SectionRef → Option FileRange)
    → IsComplete range old (link_at new a) → AreAllThatStayed old new (λ k. is_some (range k))
all_said old new a range complete k x is stayed = go (range k) refl
  where
    go : (r : Option FileRange) → range k ≡ r → is_some r ≡ true
    go None e = absurd (true≢false (sym stayed ∙ complete k x e (piece_of new a k x is)))
    go (Some r) e = refl
