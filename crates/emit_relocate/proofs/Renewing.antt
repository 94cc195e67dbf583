-- What was evaluated of all input sections, where none is known to have stayed: all.
use Rattle.emit_relocate.proofs.Common.{AllZip, AreChanged, AreFilled, Evaluated, FileRange, GoodLink, HasAllFields}
use Rattle.emit_relocate.proofs.Common.{IsCounted, IsEvaluatedAt, IsEvaluatedOf, IsRunOf, KnownLink, List}
use Rattle.emit_relocate.proofs.Common.{ObjectSection, Option, Results, SectionRef, [], ap, flat_map, map, own_sites}
use Rattle.emit_relocate.proofs.Common.{refl, section_ref, sections_in, subst, sym, ◌++◌, ◌∙◌, ◌∷◌, ◌≡◌}
use Rattle.std.proofs.Common.{None}
use Rattle.emit_relocate.proofs.Changing.{flat_runs, run_of, sites_of}
use Rattle.emit_relocate.proofs.Settling.{all_sites}

module _ (old : GoodLink) (l : KnownLink) (range : SectionRef → Option FileRange)
    (nothing : (key : SectionRef) → range key ≡ None) where
  renewed : (s : ObjectSection) (c : Evaluated) → IsEvaluatedOf old l range s c → HasAllFields l s c
  renewed s c h =
      subst (λ r. IsEvaluatedAt old l (section_ref h.key s) r s c) (nothing (section_ref h.key s)) h.outcome

  all_runs : (ss : List ObjectSection) (cs : List Evaluated) → AllZip (IsEvaluatedOf old l range) ss cs
      → AllZip (IsRunOf l) ss (map run_of cs)
  all_runs [] [] k = tt
  all_runs [] (c ∷ cs) k = absurd k
  all_runs (s ∷ ss) [] k = absurd k
  all_runs (s ∷ ss) (c ∷ cs) k = ((renewed s c k.0).run, all_runs ss cs k.1)

  all_evaluated : (ss : List ObjectSection) (cs : List Evaluated) → AllZip (IsEvaluatedOf old l range) ss cs
      → flat_map sites_of cs ≡ flat_map (own_sites l) ss
  all_evaluated [] [] k = refl
  all_evaluated [] (c ∷ cs) k = absurd k
  all_evaluated (s ∷ ss) [] k = absurd k
  all_evaluated (s ∷ ss) (c ∷ cs) k =
      ap (λ r. r ++ flat_map sites_of cs) ((renewed s c k.0).sites)
      ∙ ap (λ r. own_sites l s ++ r) (all_evaluated ss cs k.1)

  pub all_filled : (a b : Results) → AreChanged old l range (sections_in l.project.objects) a b → AreFilled l a b
  all_filled a b h = record {
    runs = map run_of h.sections;
    each = all_runs (sections_in l.project.objects) h.sections h.each;
    fields = h.fields ∙ ap (λ r. a.fields ++ r) (sym (flat_runs h.sections));
    ends = h.ends;
    counts = subst (λ ts. IsCounted l ts a.faults b.faults a.counts b.counts)
        (all_evaluated (sections_in l.project.objects) h.sections h.each ∙ all_sites l) h.counts;
  }
