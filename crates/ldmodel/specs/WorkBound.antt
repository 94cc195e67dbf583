-- What an incremental link may count (this project's own): the relocations that it may evaluate, and the bytes that
-- stayed. The bound itself stands with the session.
use Rattle.std.specs.Prelude.{ℕ, List, filter, flat_map, sum_by, not}
use Rattle.elfobj.specs.RelocationKinds.{width}
use Rattle.ldmodel.specs.Relocations.{Site}
use Rattle.ldmodel.specs.Stayed.{GoodLink, LinkedPiece, link_pieces, has_stayed, stayed, retargeted, sites_in}

-- the sites of the new link outside input sections that stayed
abbrev pub sites_outside : GoodLink → GoodLink → List Site
sites_outside old new =
    flat_map (sites_in new.project) (filter (λ (piece : LinkedPiece). not (has_stayed old piece)) (link_pieces new))

abbrev pub bytes_stayed : GoodLink → GoodLink → ℕ
bytes_stayed old new = sum_by (λ (piece : LinkedPiece). piece.range.length) (stayed old new)

abbrev pub retargeted_bytes : GoodLink → GoodLink → ℕ
retargeted_bytes old new = sum_by (λ (site : Site). width site.relocation.kind) (retargeted old new)
