use Rattle.relink_driver.proofs.Common.{KnownLink, None, ap, inl, inr, is_some, previous_of, sym, table_key, true, ℕ}
use Rattle.relink_driver.proofs.Common.{⊎_elim, ◌∙◌, ◌≡◌}
use Rattle.place.specs.IndexedLayout.{address_in}
use Rattle.relink_driver.specs.StayedSections.{range_of}
use Rattle.relink_driver.proofs.Ranges.{if_known, sound}
use Rattle.relink_driver.proofs.WhollyStayed.{by_cases, no_start, unknown}
use Rattle.relink_driver.proofs.stayed_sections.StayedSectionsPreviousLinkInfo.has_wholly_stayed.Goals as goal

pub returns : goal.returns
returns c = λ old l h so number.
    let s = c.args.self.now in
    let t = s.indexed_layout.now in
    let key = table_key c.args.object number in
    let keys : (k : ℕ) → l.number k ≡ k = λ k. ap (λ (m : KnownLink). m.number k) h.link in
    ⊎_elim
    (λ (known : is_some (range_of s key) ≡ true). inl (record {
      known = known;
      stayed = if_known old l key (range_of s key) (λ r e.
          sound old l keys h.names t h.indexed_layout (previous_of s.previous) h.previous key r e);
    }))
    (λ (gone : address_in t key ≡ None). inr (record {
      unknown = unknown (previous_of s.previous) t key gone;
      absent = no_start l t keys h.indexed_layout key gone;
    }))
    (by_cases (is_some (range_of s key)) (address_in t key)
    (s.found_all_stayed c.args.object (sym c.has_wholly_stayed.ensures ∙ so) number))
