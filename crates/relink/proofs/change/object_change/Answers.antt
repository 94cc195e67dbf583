use Rattle.relink.proofs.Common.{Listing, Option, ap, beside, found_under, option_copied, refl, ℕ, ◌∙◌}
use Rattle.relink.proofs.Changing.{is_change, object_or}
use Rattle.relink.proofs.change.object_change.Goals as goal

pub returns : goal.returns
returns c =
    let entries = c.args.project.now.contents.entries in
    let s = c.args.staged.now.objects in
    let key : ℕ = c.args.key.0 in
    is_change entries s key
    (record { key = c.args.key; out = c.object_at.result; into = c.object_at-2.result })
    refl c.requires.arranged c.requires.edited (λ es. c.found_where_placed.ensures es key)
    (c.object_at.ensures
    ∙ (ap (λ (p : Option ℕ). beside p (option_copied c.object.result)) c.place_before.ensures
    ∙ ap (beside s.places.before) c.object.ensures))
    (c.object_at-2.ensures
    ∙ (ap (λ (p : Option ℕ). beside p (option_copied c.object-2.result)) c.place_after.ensures
    ∙ (ap (beside s.places.after) c.object-2.ensures
    ∙ ap (λ (l : Listing). beside s.places.after (object_or (found_under l.entries key))) c.requires.next)))
    (c.tables_follow.ensures.before entries s key c.requires.arranged c.requires.edited)
    (c.tables_follow.ensures.after entries s key c.requires.arranged c.requires.edited)
    (λ ts fits. c.undone.ensures ts _ fits)
