-- An edit has been followed: its link, what is kept, and the counts.
use Rattle.relink.proofs.Common.{AreTablesOf, Counts, CountsNames, HasUpdateOutcome, IfSome, IsChange, LinkTables, List}
use Rattle.relink.proofs.Common.{Listed, Listing, None, ObjectChange, Option, PreviousState, ProjectState, ReadsNothing}
use Rattle.relink.proofs.Common.{Some, Staged, StagedObjects, UpdateOutcome, ap, declared_by, edited_key, names_at}
use Rattle.relink.proofs.Common.{names_of_edit, names_of_step, next_listing, project_of, same_Some, subst, sym, ℕ, ◌++◌}
use Rattle.relink.proofs.Common.{◌∙◌, ◌≡◌}
use Rattle.relink.specs.Update.{IsUpdated}
use Rattle.relink.specs.Work.{Decides, HasWorked}
use Rattle.relink.proofs.Bounding.{names_link_nothing, worked_from}
use Rattle.relink.proofs.Working.{decides}

-- what holds of what there is
pub of_some : {A : Type 0} (F : A → Type 0) (o : Option A) (x : A) → o ≡ Some x → IfSome o F → F x
of_some F None x is holds = absurd (cc)
of_some F (Some y) x is holds = subst F (same_Some y x is) holds

-- what a change of an object declares is what the edit touches
pub names_of_change : (entries : List Listed) (s : StagedObjects) (key : ℕ) (x : ObjectChange)
    → edited_key s.step ≡ Some key → IsChange entries s key x
    → (declared_by x.out ++ declared_by x.into) ≡ names_of_edit entries s
names_of_change entries s key x edited is =
    ap (λ (names : List (List ℕ)). names ++ declared_by x.into) is.out
    ∙ (ap (λ (names : List (List ℕ)). names_at s.places.before entries key ++ names) is.into
    ∙ ap (names_of_step entries s) (sym edited))

-- a link of the next project follows, over what is kept of that, after its names are decided
pub is_followed : (h : ProjectState) (s : Staged) (lent : Option PreviousState) (t : LinkTables) (old new : List ℕ)
    (m0 m1 m2 : Counts) (f : UpdateOutcome) (l : Listing) (names : List (List ℕ)) → l ≡ next_listing h s
    → AreTablesOf (next_listing h s) t.symbol_table t.matches.items → CountsNames m0 m1 names
    → names ≡ names_of_edit h.contents.entries s.objects → HasUpdateOutcome l lent old new f → ReadsNothing m1 m2
    → HasWorked (project_of l) lent m1 m2 f → IsUpdated h s lent t old new m0 m2 f
is_followed h s lent t old new m0 m1 m2 f l names is kept counted edited updated reads worked = record {
  link = subst (λ (x : Listing). HasUpdateOutcome x lent old new f) is updated;
  kept = kept;
  decides = subst (λ (ns : List (List ℕ)). Decides m0 m2 ns) edited (decides m0 m1 m2 names counted reads);
  worked = subst (λ (x : Listing). HasWorked (project_of x) lent m0 m2 f) is
      (worked_from (project_of l) lent m0 m1 m2 f (names_link_nothing m0 m1 names counted) worked);
}
