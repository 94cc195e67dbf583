-- The fields of input sections that are not known to have stayed.
use Rattle.emit.proofs.Common.{AllZip, AreRunsUnless, IsRunUnless, KnownLink, List, NamedObject, None, ObjectSection}
use Rattle.emit.proofs.Common.{Option, Patch, SectionRef, Some, [], ap, ends_of, false, flat_map, is_some, key_in}
use Rattle.emit.proofs.Common.{length, map, refl, sections_in, slice_get, subst, sym, ℕ, ◌++◌, ◌∙◌, ◌∷◌, ◌≡◌}
use Rattle.ldmodel.specs.Stayed.{GoodLink}
use Rattle.emit_relocate.specs.Changes.{AreChanged, Evaluated, IsEvaluatedAt, IsEvaluatedOf, Results, section_ref}
use Rattle.emit_relocate.specs.declared.previous_link_info.FileRange.{FileRange}

abbrev pub run_of : Evaluated → List Patch
run_of c = c.run

flat_runs : (cs : List Evaluated) → flat_map run_of cs ≡ flat_map (λ run. run) (map run_of cs)
flat_runs [] = refl
flat_runs (c ∷ cs) = ap (λ r. c.run ++ r) (flat_runs cs)

module _ (old : GoodLink) (l : KnownLink) (range : SectionRef → Option FileRange) where
  gone : (r : Option FileRange) → is_some r ≡ false → r ≡ None
  gone None e = refl
  gone (Some r) e = cc

  -- where each object has one place, which is its key
  module _ (one : (o : NamedObject) (i j : ℕ) → slice_get l.project.objects i ≡ Some o
      → slice_get l.project.objects j ≡ Some o → i ≡ j) (by_place : (k : ℕ) → l.number k ≡ k) where
    run_unless : (s : ObjectSection) (c : Evaluated) → IsEvaluatedOf old l range s c
        → IsRunUnless l (λ k. is_some (range k)) s c.run
    run_unless s c h = λ object named stays.
        let here : slice_get l.project.objects h.key.0 ≡ Some s.object =
        ap (slice_get l.project.objects) (sym (by_place h.key.0)) ∙ h.named in
        let same : object.0 ≡ h.key.0 = one s.object object.0 h.key.0 named here in
        let key : section_ref h.key s ≡ key_in object s =
        ap (λ n. section_ref (record { 0 = n }) s) (sym same) in
        (subst (λ r. IsEvaluatedAt old l (section_ref h.key s) r s c)
        (ap range key ∙ gone (range (key_in object s)) stays) h.outcome).run

    runs_unless : (ss : List ObjectSection) (cs : List Evaluated) → AllZip (IsEvaluatedOf old l range) ss cs
        → AllZip (IsRunUnless l (λ k. is_some (range k))) ss (map run_of cs)
    runs_unless [] [] h = tt
    runs_unless [] (c ∷ cs) h = absurd h
    runs_unless (s ∷ ss) [] h = absurd h
    runs_unless (s ∷ ss) (c ∷ cs) h = (run_unless s c h.0, runs_unless ss cs h.1)

    pub are_runs : (a b : Results) → a.fields ≡ [] → a.ends ≡ []
        → AreChanged old l range (sections_in l.project.objects) a b
        → AreRunsUnless l (λ k. is_some (range k)) b.fields b.ends
    are_runs a b none nowhere h = record {
      runs = map run_of h.sections;
      patches = h.fields ∙ ap (λ r. r ++ flat_map run_of h.sections) none ∙ flat_runs h.sections;
      ends = h.ends ∙ ap (λ r. r ++ ends_of (length a.fields) (map run_of h.sections)) nowhere
          ∙ ap (λ r. ends_of (length r) (map run_of h.sections)) none;
      each = runs_unless (sections_in l.project.objects) h.sections h.each;
    }
