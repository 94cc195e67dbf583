use Rattle.emit_relocate.proofs.Common.{Option, ap, object_name, placed_part, ℕ, ◌∙◌}
use Rattle.emit_relocate.specs.Values.{address_from}
use Rattle.emit_relocate.proofs.Rows.{address_is}
use Rattle.emit_relocate.proofs.name_row.standing_at.Goals as goal

pub returns : goal.returns
returns c p s k at = record {
  value = c.address_from.ensures
      ∙ (ap (λ (o : Option ℕ). address_from o c.args.offset) (c.start_at.ensures p s k at)
      ∙ address_is (placed_part s (object_name p k.object.0) k.part) c.args.offset);
  section = c.in_ok-section.ensures p s k at;
}
