-- Patches as an image takes them.
use Rattle.emit.proofs.Common.{All, All-weaker, Contains, EndsBy, IsPatchOfSite, List, Ok, Patch, Site, ap, arith}
use Rattle.emit.proofs.Common.{length, site_field, width, ℕ, ◌+◌, ◌-◌, ◌<◌, ◌≡◌}
use Rattle.emit_image.specs.Redrawings.{IsSitePatch}
use Rattle.ldmodel.specs.Stayed.{GoodLink, LinkedPiece, link_pieces, sites_in, stayed}

pub each_is : (old new : GoodLink) (qs : List Patch) → All (IsPatchOfSite old new) qs → All (IsSitePatch old new) qs
each_is old new qs h =
    All-weaker (IsPatchOfSite old new) (IsSitePatch old new)
    (λ q k. record {
      piece = k.piece;
      site = k.site;
      among_stayed = k.among_stayed;
      among = k.among;
      apart = k.apart;
      is_field = k.is_field;
      place = k.place;
      inside = k.inside;
    }) qs h

-- they end in the image
pub each_ends : (old new : GoodLink) (n : ℕ)
    → ((x : LinkedPiece) → Contains (link_pieces new) x → (i : ℕ) → i < x.range.length → x.range.offset + i < n)
    → ((x : LinkedPiece) (t : Site) → Contains (sites_in new.project x) t → 0 < width t.relocation.kind)
    → ((x : LinkedPiece) (t : Site) (field : List ℕ) → Contains (sites_in new.project x) t
    → site_field new.project new.layout t ≡ Ok field → length field ≡ width t.relocation.kind)
    → ((x : LinkedPiece) → Contains (stayed old new) x → Contains (link_pieces new) x) → (qs : List Patch)
    → All (IsPatchOfSite old new) qs → All (EndsBy n) qs
each_ends old new n own some wide linked qs h =
    All-weaker (IsPatchOfSite old new) (EndsBy n)
    (λ q k.
    let long : length q.field ≡ width k.site.relocation.kind = wide k.piece k.site q.field k.among k.is_field in
    let more : 0 < width k.site.relocation.kind = some k.piece k.site k.among in
    let at : q.offset ≡ k.piece.range.offset + k.site.relocation.offset = ap (λ (z : Patch). z.offset) k.place in
    let inside = k.inside in
    let last : k.site.relocation.offset + length q.field - 1 < k.piece.range.length =
    omega (arith, long, more, at, inside) in
    let end = own k.piece (linked k.piece k.among_stayed) (k.site.relocation.offset + length q.field - 1) last in
    omega (arith, end, long, more, at)) qs h
