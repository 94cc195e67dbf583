use Rattle.ldmodel_project.proofs.Common.{Listing, NamedObject, Option, ProjectState, ap, arith, count_by, eq-eqb}
use Rattle.ldmodel_project.proofs.Common.{get_or, get_or_read, key_count, length, length-map, named_under, nat_eq}
use Rattle.ldmodel_project.proofs.Common.{next_count, slice_get, subst, sym, unwrap_or, ◌<◌, ◌∙◌, ◌≡◌}
use Rattle.ldmodel_project.proofs.Counts.{count_by_at}
use Rattle.ldmodel_project.proofs.Shown.{next_entry_at, listed_before}
use Rattle.ldmodel_project.proofs.project.Next.entry.Goals as goal

pub named-requires : goal.named-requires
named-requires c =
    let entries = c.self.inside.project.now.contents.entries in
    let staged = c.self.inside.staged.now.objects in
    let within : c.args.at < length staged.order.items =
    rw length-map at (subst (λ (l : Listing). c.args.at < length l.entries) (sym c.self.view_is) c.requires) in
    let key : get_or staged.order.items c.args.at 0 ≡ c.index-key.result.now =
    sym (get_or_read staged.order.items c.args.at c.index-key.result.now within c.index-key.ensures 0) in
    let count : 0 < count_by (nat_eq c.index-key.result.now) staged.order.items =
    count_by_at (nat_eq c.index-key.result.now) staged.order.items c.args.at 0 within
    (eq-eqb c.index-key.result.now (get_or staged.order.items c.args.at 0) (sym key)) in
    let next : 0 < next_count entries staged.step c.index-key.result.now =
    omega (arith, count, c.self.invariant.keys c.index-key.result.now) in
    let listed : 0 < key_count entries c.index-key.result.now =
    listed_before entries staged.step c.index-key.result.now (sym c.in-None.ensures) next in
    subst (λ (h : ProjectState). 0 < key_count h.contents.entries c.index-key.result.now) (sym c.project.view_is) listed

pub returns-in-Some : goal.returns-in-Some
returns-in-Some c =
    let entries = c.self.inside.project.now.contents.entries in
    let staged = c.self.inside.staged.now.objects in
    let within : c.args.at < length staged.order.items =
    rw length-map at (subst (λ (l : Listing). c.args.at < length l.entries) (sym c.self.view_is) c.requires) in
    ap (λ (l : Listing). slice_get l.entries c.args.at) (sym c.self.view_is)
    ∙ next_entry_at entries staged.step staged.order.items c.args.at c.index-key.result.now c.in-Some.named.now within
    c.index-key.ensures
    (ap (λ (o : Option NamedObject). unwrap_or o (named_under entries c.index-key.result.now)) (sym c.in-Some.ensures))

pub returns-in-None : goal.returns-in-None
returns-in-None c =
    let entries = c.self.inside.project.now.contents.entries in
    let staged = c.self.inside.staged.now.objects in
    let within : c.args.at < length staged.order.items =
    rw length-map at (subst (λ (l : Listing). c.args.at < length l.entries) (sym c.self.view_is) c.requires) in
    let named : named_under entries c.index-key.result.now ≡ c.named.result.now =
    ap (λ (h : ProjectState). named_under h.contents.entries c.index-key.result.now) (sym c.project.view_is)
    ∙ sym c.named.ensures in
    ap (λ (l : Listing). slice_get l.entries c.args.at) (sym c.self.view_is)
    ∙ next_entry_at entries staged.step staged.order.items c.args.at c.index-key.result.now c.named.result.now within
    c.index-key.ensures
    (ap (λ (o : Option NamedObject). unwrap_or o (named_under entries c.index-key.result.now)) (sym c.in-None.ensures)
    ∙ named)
