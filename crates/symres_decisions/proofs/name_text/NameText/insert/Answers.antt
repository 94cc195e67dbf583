use Rattle.symres_decisions.proofs.Common.{AreInOrder, List, WrittenName, ap, insert, map, subst, sym, written, ℕ, ◌++◌}
use Rattle.symres_decisions.proofs.Common.{◌∙◌, ◌∷◌, ◌≡◌}
use Rattle.symres_decisions.proofs.ByteOrder.{one_more}
use Rattle.symres_decisions.proofs.Listed.{Listed}
use Rattle.symres_decisions.proofs.Written.{put_written}
use Rattle.symres_decisions.proofs.name_text.NameText.insert.Goals as goal

pub returns : goal.returns
returns c =
    let bytes : List ℕ = c.self.inside.bytes.items in
    let names : List WrittenName = c.self.inside.names.items in
    let name : List ℕ = c.args.name.now in
    let key : ℕ = c.args.key.0 in
    let place : ℕ = c.place_for-place.result in
    let is : map (written c.write_name.new.bytes.items) c.insert.new.self.items
    ≡ insert c.args.self.now place (name, key) =
    ap (λ (bs : List ℕ). map (written bs) c.insert.new.self.items) c.in_ok-written.ensures.bytes
    ∙ ap (map (written (bytes ++ name))) c.in_default.ensures.items
    ∙ put_written bytes name key names place c.in_ok-written.written c.in_ok-written.ensures.written c.self.invariant
    ∙ ap (λ (xs : List Listed). insert xs place (name, key)) c.self.view_is in
    subst (AreInOrder ((name, key) ∷ c.args.self.now)) (sym is)
    (one_more c.args.self.now name key place c.requires c.place_for-place.ensures)
