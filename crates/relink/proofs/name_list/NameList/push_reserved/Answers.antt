use Rattle.relink.proofs.Common.{List, Names, [], ap, length, names_in, refl, ℕ, ◌++◌, ◌∙◌, ◌∷◌}
use Rattle.std.proofs.lemmas.Slice.{pushed}
use Rattle.relink.proofs.Listed.{names_more}
use Rattle.relink.proofs.name_list.NameList.push_reserved.Goals as goal

pub returns-clause-names : goal.returns-clause-names
returns-clause-names c =
    let name : List ℕ = c.args.name.now in
    let more = length name ∷ [] in
    let text = pushed name refl c.unwrap.ensures c.extend_from_slice.ensures.items in
    let lengths = pushed more refl c.unwrap-2.ensures c.push.ensures.items in
    ap (λ (t : List ℕ). names_in t c.push.new.self.items) text
    ∙ ap (names_in (c.self.inside.text.items ++ name)) lengths
    ∙ names_more c.self.inside.text.items c.self.inside.lengths.items name c.self.invariant
    ∙ ap (λ (n : Names). n.names ++ name ∷ []) c.self.view_is
