use Rattle.symres_decisions.proofs.Common.{List, WrittenName, [], ap, map, written, ℕ, ◌++◌, ◌∙◌, ◌∷◌}
use Rattle.symres_decisions.proofs.Written.{one_written}
use Rattle.symres_decisions.proofs.name_text.NameText.push.Goals as goal

pub returns : goal.returns
returns c =
    let bytes : List ℕ = c.self.inside.bytes.items in
    let names : List WrittenName = c.self.inside.names.items in
    let name : List ℕ = c.args.name.now in
    let key : ℕ = c.args.key.0 in
    ap (λ (bs : List ℕ). map (written bs) c.push.new.self.items) c.in_ok-written.ensures.bytes
    ∙ ap (map (written (bytes ++ name))) c.in_default.ensures.items
    ∙ one_written bytes name key names c.in_ok-written.written c.in_ok-written.ensures.written c.self.invariant
    ∙ ap (λ (xs : List (List ℕ × ℕ)). xs ++ (name, key) ∷ []) c.self.view_is
