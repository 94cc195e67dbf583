use Rattle.elfobj.proofs.Common.{[], ap, append-nil, append_assoc, arith, refl, sym, ◌++◌, ◌∙◌, ◌∷◌}
use Rattle.elfobj.proofs.OrderedTables.{apart_more, decoded_more, ends_more, none_share, passes_more}
use Rattle.elfobj.proofs.ordered_table.push_ordered.Goals as goal

pub loop-k-init : goal.loop-k-init
loop-k-init c = record {
  read = sym (append-nil c.args.all.now.items);
  passes = refl;
  ends = λ k d l. absurd (omega arith);
  apart = none_share;
}

pub loop-k-preserved : goal.loop-k-preserved
loop-k-preserved c =
    let e = c.read_relocation_entry-entry.result in
    let r = c.in-Some.relocation in
    let t = c.args.table.now in
    let more = decoded_more c.args.bytes.now t.start c.loop-k.k e r c.read_relocation_entry-entry.ensures
    c.in-Some.ensures.value in
    record {
      read = c.in_ok-push.ensures.items ∙ ap (λ xs. xs ++ r ∷ []) c.loop-k.invariant.read
          ∙ append_assoc c.args.all.now.items _ (r ∷ []) ∙ ap (λ xs. c.args.all.now.items ++ xs) (sym more);
      passes = passes_more c.args.bytes.now c.args.symbols t.section t.start c.loop-k.k e r
          c.read_relocation_entry-entry.ensures c.in-Some.ensures.value c.in-Some.ensures.symbol c.in-Some.ensures.kind
          c.in-Some-end_inside.ensures.inside c.loop-k.invariant.passes;
      ends = ends_more _ _ r c.loop-k.end _ more
          (omega (arith, c.if-relocation-end.false)) c.in-Some-end_inside.ensures.end c.loop-k.invariant.ends;
      apart = apart_more _ _ r c.loop-k.end more
          (omega (arith, c.if-relocation-end.false)) c.loop-k.invariant.ends c.loop-k.invariant.apart;
    }
