use Rattle.symres_decisions.proofs.Common.{All, All-filter, Bool, IsInside, List, Option, WrittenName, ap, filter}
use Rattle.symres_decisions.proofs.Common.{is_known, map, rules, subst, sym, written, ℕ, ◌∙◌, ◌≡◌}
use Rattle.std.proofs.lemmas.Fn.{filter_same}
use Rattle.symres_decisions.proofs.Written.{kept_written}
use Rattle.symres_decisions.proofs.name_text.NameText.keep_known.Goals as goal

abbrev test : List (Option (List ℕ)) → List ℕ → WrittenName → Bool
test names bytes w = is_known names (written bytes w)

pub invariant_of-self : goal.invariant_of-self
invariant_of-self c =
    let names = c.args.names.now.names in
    let bytes : List ℕ = c.self.inside.bytes.items in
    let kept : c.retain.new.self.items ≡ filter (test names bytes) c.self.inside.names.items =
    filter_same _ (test names bytes) _ (λ x b f' call. search rules) _ _ c.retain.ensures.filtered in
    subst (All (IsInside bytes)) (sym kept)
    (All-filter (test names bytes) (IsInside bytes) c.self.inside.names.items c.self.invariant)

pub returns : goal.returns
returns c =
    let names = c.args.names.now.names in
    let bytes : List ℕ = c.self.inside.bytes.items in
    let kept : c.retain.new.self.items ≡ filter (test names bytes) c.self.inside.names.items =
    filter_same _ (test names bytes) _ (λ x b f' call. search rules) _ _ c.retain.ensures.filtered in
    ap (map (written bytes)) kept ∙ kept_written (is_known names) bytes c.self.inside.names.items
    ∙ ap (filter (is_known names)) c.self.view_is
