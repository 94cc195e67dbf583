use Rattle.emit.proofs.Common.{EndBelow, KnownLink, bytes_eq-Decides, faults_in, has_name, known_link, refl, value_of}
use Rattle.ldmodel.specs.Stayed.{GoodLink}
use Rattle.emit_relocate.specs.SymbolValues.{HasSymbolValues}
use Rattle.emit.proofs.Beside.{are_runs}
use Rattle.emit.proofs.Faulting.{all_faults}
use Rattle.emit.proofs.RelocatedLists.{one_place}
use Rattle.emit.proofs.Patching.{each_ends, each_is}
use Rattle.emit.proofs.Reading.{ascending, of_profile, placed_once, spelt}
use Rattle.emit.proofs.relocated.Relocated.of.Goals as goal

pub returns : goal.returns
returns g c =
    λ s a old e v w worth k.
    let p = c.args.project.now in
    let l : KnownLink = known_link p s a in
    let new : GoodLink = record { project = p; layout = s } in
    let read = c.objects_are_read.ensures.read in
    let distinct = c.objects_are_read.ensures.distinct in
    let below : EndBelow l = c.sections_end_below.ensures p s a distinct (ascending p read) e in
    let symbols : HasSymbolValues l c.args.symbols.now = λ key j o x. worth key.0 j o x in
    let changed = c.in_ok-fields.ensures old l v k symbols below in
    let range = g.E.PreviousLinkInfo.range c.args.previous.now in
    let once = placed_once p read s distinct e in
    let profile = of_profile p read in
    let own = c.patches_are_fields.ensures old l range _ _ changed refl profile once in
    let all_of = all_faults p s (value_of c.args.values.now.entry) (faults_in p c.in_ok-faults.faults.items)
    (faults_in p c.in_ok-fields.fields.faults.items) w.entry (c.in_ok-faults.ensures p) in
    record {
      fields = are_runs old l range
          (λ o i j at there. one_place (has_name o.name) p.objects o (distinct o.name)
          ((bytes_eq-Decides o.name o.name).1 refl) i j at there) (λ n. refl) _ _ refl refl changed;
      faults = λ good. all_of (c.no_fault_is_missed.ensures old l range _ _ changed good (spelt p read) once);
      each = each_is old new _ own;
      ends = λ good. each_ends old new _ (c.pieces_in_image.ensures.own new good)
          (λ x t within. c.fields_in_image.ensures.some new x t within)
          (λ x t field within is. c.fields_in_image.ensures.wide new x t field within is)
          (λ x stays. ((c.stayed_in_both.ensures.stayed old new x).0 stays).0) _ own;
      patches = λ complete. record {
        each = each_is old new _ own;
        all = c.patches_are_those_retargeted.ensures.all old l range _ _ changed refl complete profile
            (c.pieces_are_sized.ensures p s distinct (ascending p read) e) once;
      };
      patched = λ complete good after.
          let filed = c.pieces_in_file.ensures p s distinct (ascending p read) profile e in
          let each = c.patches_are_those_retargeted.ensures.exact old l range _ _ changed refl complete profile filed
          good after once in
          c.patches_are_all.ensures old new each.sites _ each.parts each.widths;
      counts = (_, changed.counts.counted);
      counted = λ complete good after.
          c.due_sites_count.ensures old l range _ _ changed complete good after once;
      anew = λ nothing.
          let filled = c.all_is_evaluated.ensures old l range _ _ changed nothing in
          record {
            fields = record {
              runs = filled.runs;
              patches = filled.fields;
              ends = filled.ends;
              each = filled.each;
            };
            faults = all_of filled.counts.faults;
          };
      all_counted = λ nothing. (c.all_is_evaluated.ensures old l range _ _ changed nothing).counts.counted;
    }
