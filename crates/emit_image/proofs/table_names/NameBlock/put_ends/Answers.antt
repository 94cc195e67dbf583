-- Both ends of the part are the part.
use Rattle.emit_image.proofs.Common.{ap, arith, length, length-take-le, take, ◌++◌, ◌∙◌, ◌≡◌}
use Rattle.emit_image.proofs.Ends.{ends_put}
use Rattle.emit_image.proofs.table_names.NameBlock.put_ends.Goals as goal

pub returns : goal.returns
returns g c =
    let part = c.args.part.now in
    let used : length (take c.self.inside.used c.self.inside.bytes) ≡ c.self.inside.used =
    length-take-le c.self.inside.used c.self.inside.bytes (omega (arith)) in
    ends_put c.self.inside.bytes part c.copy_from_slice.new.self c.copy_from_slice-2.new.self c.self.inside.used g.row.N
    _ _ (omega (arith, used, ap length c.self.view_is)) c.in-Some-Some.ensures.cases.enough
    (omega (arith))
    (c.copy_from_slice.ensures.after ∙ c.in-Some-Some.ensures.cases.same)
    (c.copy_from_slice-2.ensures.after ∙ c.in-Some-Some.ensures'.cases.1.same)
    ∙ ap (λ t. t ++ part) c.self.view_is
