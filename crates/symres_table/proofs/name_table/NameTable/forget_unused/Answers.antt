use Rattle.symres_table.proofs.Common.{IsKeptWhere, IsPaired, KnownNames, List, None, Vec, ap, entry_spelled, filter}
use Rattle.symres_table.proofs.Common.{get_or, is_some, is_used, map, rules, spelled, stored, subst, sym, ℕ, ◌∙◌, ◌≡◌}
use Rattle.std.proofs.Common.{Global}
use Rattle.indexmap.proofs.CallerLemmas.{filter-RetainsPairs}
use Rattle.symres_table.proofs.PlacesByNumber.{apart, filter_keys, have_slots, kept_stored, refiled, refiled_names}
use Rattle.symres_table.proofs.PlacesByNumber.{within_kept}
use Rattle.symres_table.proofs.Forgetting.{Kept, listed_kept, paired_kept, kept_where}
use Rattle.symres_table.proofs.name_table.NameTable.forget_unused.Goals as goal

pub file_all-requires-clause-apart : goal.file_all-requires-clause-apart
file_all-requires-clause-apart c =
    let a = c.self.inside in
    let es = a.numbers.entries in
    let ps = c.drop_unused.new.places.slots in
    let w = within_kept (λ n. is_used n c.args.objects.now.objects) es a.places.slots ps c.self.invariant.within
    c.drop_unused.ensures in
    let k : Kept (λ n. is_used n c.args.objects.now.objects) (stored es a.places.slots) (stored es ps) =
    kept_stored (λ n. is_used n c.args.objects.now.objects) es a.places.slots ps c.drop_unused.ensures in
    let e : c.retain.new.self.entries
    ≡ filter (λ (e : Vec ℕ Global × ℕ). is_some (get_or (stored es ps) e.1 None)) es =
    filter-RetainsPairs _ (λ (e : Vec ℕ Global × ℕ). is_some (get_or ps e.1 None)) _ (λ k v b w g call.
    search rules) es c.retain.new.self.entries c.retain.ensures.filtered
    ∙ filter_keys es es ps w in
    let p : IsPaired c.retain.new.self.entries (stored es ps) =
    paired_kept (λ n. is_used n c.args.objects.now.objects) (stored es a.places.slots) (stored es ps) es
    c.retain.new.self.entries k c.self.invariant.paired e in
    apart c.retain.new.self.entries (stored es ps) p c.retain.ensures.unique

pub file_all-requires-clause-slots : goal.file_all-requires-clause-slots
file_all-requires-clause-slots c =
    let a = c.self.inside in
    let es = a.numbers.entries in
    let ps = c.drop_unused.new.places.slots in
    let w = within_kept (λ n. is_used n c.args.objects.now.objects) es a.places.slots ps c.self.invariant.within
    c.drop_unused.ensures in
    let k : Kept (λ n. is_used n c.args.objects.now.objects) (stored es a.places.slots) (stored es ps) =
    kept_stored (λ n. is_used n c.args.objects.now.objects) es a.places.slots ps c.drop_unused.ensures in
    let e : c.retain.new.self.entries
    ≡ filter (λ (e : Vec ℕ Global × ℕ). is_some (get_or (stored es ps) e.1 None)) es =
    filter-RetainsPairs _ (λ (e : Vec ℕ Global × ℕ). is_some (get_or ps e.1 None)) _ (λ k v b w g call.
    search rules) es c.retain.new.self.entries c.retain.ensures.filtered
    ∙ filter_keys es es ps w in
    let p : IsPaired c.retain.new.self.entries (stored es ps) =
    paired_kept (λ n. is_used n c.args.objects.now.objects) (stored es a.places.slots) (stored es ps) es
    c.retain.new.self.entries k c.self.invariant.paired e in
    have_slots es c.retain.new.self.entries ps p

pub invariant_of-self : goal.invariant_of-self
invariant_of-self c =
    let a = c.self.inside in
    let es = a.numbers.entries in
    let ps = c.drop_unused.new.places.slots in
    let w = within_kept (λ n. is_used n c.args.objects.now.objects) es a.places.slots ps c.self.invariant.within
    c.drop_unused.ensures in
    let k : Kept (λ n. is_used n c.args.objects.now.objects) (stored es a.places.slots) (stored es ps) =
    kept_stored (λ n. is_used n c.args.objects.now.objects) es a.places.slots ps c.drop_unused.ensures in
    let e : c.retain.new.self.entries
    ≡ filter (λ (e : Vec ℕ Global × ℕ). is_some (get_or (stored es ps) e.1 None)) es =
    filter-RetainsPairs _ (λ (e : Vec ℕ Global × ℕ). is_some (get_or ps e.1 None)) _ (λ k v b w g call.
    search rules) es c.retain.new.self.entries c.retain.ensures.filtered
    ∙ filter_keys es es ps w in
    let p : IsPaired c.retain.new.self.entries (stored es ps) =
    paired_kept (λ n. is_used n c.args.objects.now.objects) (stored es a.places.slots) (stored es ps) es
    c.retain.new.self.entries k c.self.invariant.paired e in
    refiled es c.retain.new.self.entries ps c.file_all.new.places.slots p w c.file_all.ensures

pub returns-clause-kept : goal.returns-clause-kept
returns-clause-kept c =
    let a = c.self.inside in
    let es = a.numbers.entries in
    let ps = c.drop_unused.new.places.slots in
    let w = within_kept (λ n. is_used n c.args.objects.now.objects) es a.places.slots ps c.self.invariant.within
    c.drop_unused.ensures in
    let k : Kept (λ n. is_used n c.args.objects.now.objects) (stored es a.places.slots) (stored es ps) =
    kept_stored (λ n. is_used n c.args.objects.now.objects) es a.places.slots ps c.drop_unused.ensures in
    let e : c.retain.new.self.entries
    ≡ filter (λ (e : Vec ℕ Global × ℕ). is_some (get_or (stored es ps) e.1 None)) es =
    filter-RetainsPairs _ (λ (e : Vec ℕ Global × ℕ). is_some (get_or ps e.1 None)) _ (λ k v b w g call.
    search rules) es c.retain.new.self.entries c.retain.ensures.filtered
    ∙ filter_keys es es ps w in
    let p : IsPaired c.retain.new.self.entries (stored es ps) =
    paired_kept (λ n. is_used n c.args.objects.now.objects) (stored es a.places.slots) (stored es ps) es
    c.retain.new.self.entries k c.self.invariant.paired e in
    let same : map spelled (stored c.retain.new.self.entries c.file_all.new.places.slots)
    ≡ map spelled (stored es ps) =
    refiled_names es c.retain.new.self.entries ps c.file_all.new.places.slots p w c.file_all.ensures in
    subst (IsKeptWhere (λ n. is_used n c.args.objects.now.objects) c.args.self.now.slots) (sym same)
    (subst (λ (k : KnownNames). IsKeptWhere (λ n. is_used n c.args.objects.now.objects) k.slots
    (map spelled (stored es ps))) c.self.view_is
    (kept_where (λ n. is_used n c.args.objects.now.objects) (stored es a.places.slots) (stored es ps) k))

pub returns-clause-order : goal.returns-clause-order
returns-clause-order c =
    let a = c.self.inside in
    let es = a.numbers.entries in
    let ps = c.drop_unused.new.places.slots in
    let w = within_kept (λ n. is_used n c.args.objects.now.objects) es a.places.slots ps c.self.invariant.within
    c.drop_unused.ensures in
    let k : Kept (λ n. is_used n c.args.objects.now.objects) (stored es a.places.slots) (stored es ps) =
    kept_stored (λ n. is_used n c.args.objects.now.objects) es a.places.slots ps c.drop_unused.ensures in
    let e : c.retain.new.self.entries
    ≡ filter (λ (e : Vec ℕ Global × ℕ). is_some (get_or (stored es ps) e.1 None)) es =
    filter-RetainsPairs _ (λ (e : Vec ℕ Global × ℕ). is_some (get_or ps e.1 None)) _ (λ k v b w g call.
    search rules) es c.retain.new.self.entries c.retain.ensures.filtered
    ∙ filter_keys es es ps w in
    ap (map entry_spelled) e
    ∙ listed_kept (λ n. is_used n c.args.objects.now.objects) (stored es a.places.slots) (stored es ps) es k
    c.self.invariant.paired.sound
    ∙ ap (λ (k : KnownNames). filter (λ (e : List ℕ × ℕ). is_used e.1 c.args.objects.now.objects) k.order)
    c.self.view_is
