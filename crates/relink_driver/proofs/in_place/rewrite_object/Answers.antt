use Rattle.relink_driver.proofs.Common.{Bytes, Fields, GoodLink, HasLocatedSections, IsPreviousOf, IsRow}
use Rattle.relink_driver.proofs.Common.{IsTouchedCount, KnownLink, Layout, List, LocatedSection, NamedObject}
use Rattle.relink_driver.proofs.Common.{NamedSymbol, ObjectData, PreviousState, Project, ReplacedObjectState, [], ap}
use Rattle.relink_driver.proofs.Common.{arith, bytes_of, length, length-map, map, new_link, option_map, previous_state}
use Rattle.relink_driver.proofs.Common.{project_of, raised, relocation_faults, replaced_state, same_Some, section_of}
use Rattle.relink_driver.proofs.Common.{sites_of, spots_below, subst, sum_by, sym, ◌<◌, ◌^◌, ◌∙◌, ◌≡◌}
use Rattle.emit.specs.relocate.Fields.{evaluations}
use Rattle.relink_driver.proofs.Reading.{fields_read_nothing}
use Rattle.relink_driver.proofs.ObjectOverwritten as touching
use Rattle.relink_driver.proofs.in_place.rewrite_object.Goals as goal

pub returns-clause-link : goal.returns-clause-link
returns-clause-link c =
    let p : Project = project_of c.args.context in
    let x : PreviousState = previous_state c.args.previous.now in
    let r : ReplacedObjectState = replaced_state c.args.replaced.now in
    let f = c.requires.followed in
    let names = c.inputs-inputs.ensures.distinct in
    let keeps = λ (o : GoodLink). c.outlines_decide.ensures o p r.new_place.0 in
    let old : GoodLink = c.requires.previous.old in
    let is : IsPreviousOf old p x = c.requires.previous.is in
    let s : Layout = old.layout in
    let object : f.after.object ≡ c.in-Some.object.now =
    sym (same_Some _ _ (c.in-Some.ensures ∙ ap (option_map (λ (o : NamedObject). o.object)) f.at)) in
    let count : length c.symbols.result.now ≡ length f.after.object.symbols =
    ap length c.symbols.ensures.value ∙ length-map c.in-Some.object.now.symbols (λ (y : NamedSymbol). y.symbol)
    ∙ ap (λ (d : ObjectData). length d.symbols) (sym object) in
    let l : KnownLink = touching.link_at p x r f names keeps s in
    let row : IsRow l f.after c.slice-values.result.now =
    touching.values p x r f names keeps old is (length c.symbols.result.now) c.slice-values.result.now count
    c.slice-values.ensures.is in
    let order = c.files_in_order.ensures s.sections in
    let all = c.sections_in_file.ensures.all s.sections in
    let offset_is = c.sections_in_file.ensures.offset s.sections is.table.indexed_layout.link_layout.named in
    let located : HasLocatedSections p s f.after c.deref.result.now =
    subst (HasLocatedSections p s f.after) (sym (c.deref.ensures.value ∙ c.in_ok-located.ensures
    ∙ ap (λ (d : ObjectData). spots_below x.snapshot.indexed_layout r.new_place (map section_of d.sections)
    (length d.sections))
    (sym object))) (touching.locate_sections p x r f names keeps old is order all offset_is) in
    let rewrite = touching.rewriting_of p x r f names keeps old is c.nobits_are_bare.ensures in
    touching.if_both _ _ _ c.rewrite_in_place.result (λ done image faultless yes.
    let none = faultless yes old.project l f.after rewrite object row located
    (touching.before_faultless p x r f names keeps old is) in
    touching.rewritten_end p x r f names keeps old is c.rewrite_in_place.new.canvas.bytes none
    (c.faultless_link_is_good.ensures s (touching.indexed_layout p x r f names keeps old is).link_layout
    (touching.short p x r f names keeps old is) none)
    (image yes old.project l f.after rewrite object row located c.requires.previous.image))
    c.rewrite_in_place.ensures.image c.rewrite_in_place.ensures.faultless

pub returns-clause-counted : goal.returns-clause-counted
returns-clause-counted c =
    let p : Project = project_of c.args.context in
    let x : PreviousState = previous_state c.args.previous.now in
    let r : ReplacedObjectState = replaced_state c.args.replaced.now in
    let f = c.requires.followed in
    let names = c.inputs-inputs.ensures.distinct in
    let keeps = λ (o : GoodLink). c.outlines_decide.ensures o p r.new_place.0 in
    let object : f.after.object ≡ c.in-Some.object.now =
    sym (same_Some _ _ (c.in-Some.ensures ∙ ap (option_map (λ (o : NamedObject). o.object)) f.at)) in
    let count : length c.symbols.result.now ≡ length f.after.object.symbols =
    ap length c.symbols.ensures.value ∙ length-map c.in-Some.object.now.symbols (λ (y : NamedSymbol). y.symbol)
    ∙ ap (λ (d : ObjectData). length d.symbols) (sym object) in
    let spots_are = c.deref.ensures.value ∙ c.in_ok-located.ensures
    ∙ ap (λ (d : ObjectData). spots_below x.snapshot.indexed_layout r.new_place (map section_of d.sections)
    (length d.sections))
    (sym object) in
    touching.if_both _ _ _ c.rewrite_in_place.result (λ done counted faultless yes old t is laid_at.
    let s : Layout = old.layout in
    let l : KnownLink = touching.link_at p x r f names keeps s in
    let row : IsRow l f.after c.slice-values.result.now =
    touching.values p x r f names keeps old is (length c.symbols.result.now) c.slice-values.result.now count
    c.slice-values.ensures.is in
    let order = c.files_in_order.ensures s.sections in
    let all = c.sections_in_file.ensures.all s.sections in
    let offset_is = c.sections_in_file.ensures.offset s.sections is.table.indexed_layout.link_layout.named in
    let located : HasLocatedSections p s f.after c.deref.result.now =
    subst (HasLocatedSections p s f.after) (sym spots_are)
    (touching.locate_sections p x r f names keeps old is order all offset_is) in
    let rewrite = touching.rewriting_of p x r f names keeps old is c.nobits_are_bare.ensures in
    let none = faultless yes old.project l f.after rewrite object row located
    (touching.before_faultless p x r f names keeps old is) in
    let good = c.faultless_link_is_good.ensures s (touching.indexed_layout p x r f names keeps old is).link_layout
    (touching.short p x r f names keeps old is) none in
    let raised_by = counted yes l f.after f.at object row located
    ∙ ap (λ (d : ObjectData). raised (raised c.args.meter.now Fields (evaluations l (sites_of s f.after))) Bytes
    (sum_by (bytes_of d) c.deref.result.now)) (sym object)
    ∙ ap (λ (us : List LocatedSection). raised
    (raised c.args.meter.now Fields (evaluations l (sites_of s f.after))) Bytes
    (sum_by (bytes_of f.after.object) us)) spots_are in
    subst (λ (u : Layout). IsTouchedCount old
    (new_link p u) r.new_place.0 c.args.meter.now c.rewrite_in_place.new.meter)
    (sym (touching.same_layout_as p x r f names keeps old is t laid_at))
    (touching.touched_count p x r f names keeps old is c.are_numbered.ensures none
    (c.stayed_in_image.ensures (new_link p s) (new_link p s) good)
    (c.stayed_by_part.ensures.piece old (new_link p s)) (c.stayed_by_part.ensures.outside old (new_link p s))
    order all offset_is c.args.meter.now c.rewrite_in_place.new.meter raised_by))
    c.rewrite_in_place.ensures.counted c.rewrite_in_place.ensures.faultless

pub returns-clause-faulty : goal.returns-clause-faulty
returns-clause-faulty c =
    let p : Project = project_of c.args.context in
    let x : PreviousState = previous_state c.args.previous.now in
    let r : ReplacedObjectState = replaced_state c.args.replaced.now in
    let f = c.requires.followed in
    let names = c.inputs-inputs.ensures.distinct in
    let keeps = λ (o : GoodLink). c.outlines_decide.ensures o p r.new_place.0 in
    let old : GoodLink = c.requires.previous.old in
    let is : IsPreviousOf old p x = c.requires.previous.is in
    let s : Layout = old.layout in
    let object : f.after.object ≡ c.in-Some.object.now =
    sym (same_Some _ _ (c.in-Some.ensures ∙ ap (option_map (λ (o : NamedObject). o.object)) f.at)) in
    let count : length c.symbols.result.now ≡ length f.after.object.symbols =
    ap length c.symbols.ensures.value ∙ length-map c.in-Some.object.now.symbols (λ (y : NamedSymbol). y.symbol)
    ∙ ap (λ (d : ObjectData). length d.symbols) (sym object) in
    let l : KnownLink = touching.link_at p x r f names keeps s in
    let row : IsRow l f.after c.slice-values.result.now =
    touching.values p x r f names keeps old is (length c.symbols.result.now) c.slice-values.result.now count
    c.slice-values.ensures.is in
    let order = c.files_in_order.ensures s.sections in
    let all = c.sections_in_file.ensures.all s.sections in
    let offset_is = c.sections_in_file.ensures.offset s.sections is.table.indexed_layout.link_layout.named in
    let located : HasLocatedSections p s f.after c.deref.result.now =
    subst (HasLocatedSections p s f.after) (sym (c.deref.ensures.value ∙ c.in_ok-located.ensures
    ∙ ap (λ (d : ObjectData). spots_below x.snapshot.indexed_layout r.new_place (map section_of d.sections)
    (length d.sections))
    (sym object))) (touching.locate_sections p x r f names keeps old is order all offset_is) in
    touching.if_one _ _ c.rewrite_in_place.result
    (λ done refused no t laid none. refused no l f.after f.at object row located
    (subst (λ (u : Layout). relocation_faults p u ≡ []) (touching.same_layout_as p x r f names keeps old is t laid)
    none))
    c.rewrite_in_place.ensures.refused_faulty

pub returns-clause-reads : goal.returns-clause-reads
returns-clause-reads c =
    let p : Project = project_of c.args.context in
    let x : PreviousState = previous_state c.args.previous.now in
    let r : ReplacedObjectState = replaced_state c.args.replaced.now in
    let f = c.requires.followed in
    let names = c.inputs-inputs.ensures.distinct in
    let keeps = λ (o : GoodLink). c.outlines_decide.ensures o p r.new_place.0 in
    let old : GoodLink = c.requires.previous.old in
    let is : IsPreviousOf old p x = c.requires.previous.is in
    let s : Layout = old.layout in
    let object : f.after.object ≡ c.in-Some.object.now =
    sym (same_Some _ _ (c.in-Some.ensures ∙ ap (option_map (λ (o : NamedObject). o.object)) f.at)) in
    let count : length c.symbols.result.now ≡ length f.after.object.symbols =
    ap length c.symbols.ensures.value ∙ length-map c.in-Some.object.now.symbols (λ (y : NamedSymbol). y.symbol)
    ∙ ap (λ (d : ObjectData). length d.symbols) (sym object) in
    let l : KnownLink = touching.link_at p x r f names keeps s in
    let row : IsRow l f.after c.slice-values.result.now =
    touching.values p x r f names keeps old is (length c.symbols.result.now) c.slice-values.result.now count
    c.slice-values.ensures.is in
    let order = c.files_in_order.ensures s.sections in
    let all = c.sections_in_file.ensures.all s.sections in
    let offset_is = c.sections_in_file.ensures.offset s.sections is.table.indexed_layout.link_layout.named in
    let located : HasLocatedSections p s f.after c.deref.result.now =
    subst (HasLocatedSections p s f.after) (sym (c.deref.ensures.value ∙ c.in_ok-located.ensures
    ∙ ap (λ (d : ObjectData). spots_below x.snapshot.indexed_layout r.new_place (map section_of d.sections)
    (length d.sections))
    (sym object))) (touching.locate_sections p x r f names keeps old is order all offset_is) in
    let fields : c.args.meter.now.fields < 2 ^ 64 = omega (arith, c.fields.type_inv, c.fields.ensures) in
    let bytes : c.args.meter.now.bytes < 2 ^ 64 = omega (arith, c.bytes.type_inv, c.bytes.ensures) in
    touching.if_both _ _ _ c.rewrite_in_place.result (λ done counted refused. touching.by_answer done
    (λ yes. touching.touched_reads c.args.meter.now c.rewrite_in_place.new.meter _ _ fields bytes
    (counted yes l f.after f.at object row located))
    (λ no. let n = refused no l f.after f.at object row located in
    fields_read_nothing c.args.meter.now c.rewrite_in_place.new.meter n.0 fields n.1))
    c.rewrite_in_place.ensures.counted c.rewrite_in_place.ensures.counted_refused
