-- Joined to the last one, or added after it.
use Rattle.emit_image.proofs.Common.{ImagePiece, [], arith, length, refl, subst, sym, ◌++◌, ◌+◌, ◌-◌, ◌∷◌, ◌≡◌}
use Rattle.emit_image.specs.Joined.{StandFor}
use Rattle.emit_image.proofs.Joining.{joined_last, stand_more}
use Rattle.emit_image.proofs.row.add_stayed.Goals as goal

pub returns-in-Some : goal.returns-in-Some
returns-in-Some c = λ whole h.
    let y = c.index.result.now in
    let both = c.in-Some.ensures in
    let x : ImagePiece = record {
      start = c.args.start;
      size = c.args.size;
      bytes = record { ref_ptr = (0, 0); now = [] };
      fields = record { ref_ptr = (0, 0); now = [] };
      stays = y.stays;
    } in
    let long : length c.args.row.now.items ≡ (c.len-count.result - 1) + 1 =
    omega (arith, c.len-count.ensures, c.if-count-gt0.true) in (
      x,
      record { start_is = refl; size_is = refl; bytes = refl; fields = refl; stays = both.0 },
      joined_last whole c.args.row.now.items (c.len-count.result - 1) y x _ h long (sym c.index.ensures) both.0
          (record { start_is = sym both.1; size_is = refl; bytes = refl; fields = refl; stays = both.0 })
          refl both.2 refl refl refl,
    )

pub returns : goal.returns
returns c = λ whole h. (
  c.stayed_piece.result,
  c.stayed_piece.ensures,
  subst (StandFor (whole ++ c.stayed_piece.result ∷ [])) (sym c.in_ok-add.ensures)
      (stand_more whole c.args.row.now.items c.stayed_piece.result h
      (λ _. (c.stayed_piece.ensures.bytes, c.stayed_piece.ensures.fields))),
)
