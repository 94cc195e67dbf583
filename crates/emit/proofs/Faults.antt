-- The faults of relocation of a project of which one object differs from that of another project.
use Rattle.emit.proofs.Common.{Bool, Contains, DiffersInContents, HasSameFrame, InTable, Layout, LinkedSection}
use Rattle.emit.proofs.Common.{NamedObject, None, Option, PlacedPiece, Project, Site, Some, [], ap, entry_fault}
use Rattle.emit.proofs.Common.{entry_point, eq-eqb, eqb-true, false, false≢true, filter_map, flat_map, in_flat_map}
use Rattle.emit.proofs.Common.{none_in_nil, option_map_or, placed_part, refl, relocation_faults, result_err, same_Some}
use Rattle.emit.proofs.Common.{site_field, sites, sites_at, sites_of, sites_of_section, slice_get, sym, true, ℕ, ◌++◌}
use Rattle.emit.proofs.Common.{◌==◌, ◌∙◌, ◌≡◌}
use Rattle.ldmodel.specs.Fault.{Fault}
use Rattle.emit.proofs.Others.{field_same, object_of_site}
use Rattle.emit.proofs.Places.{both_nil, none_at, none_of_all, none_of_each, same_results}

abbrev fault_in : Project → Layout → Site → Option Fault
fault_in p s t = result_err (site_field p s t)

-- a site of an object is one of this object
own_object : (s : Layout) (o : NamedObject) (t : Site) → Contains (sites_of s o) t → t.object ≡ o
own_object s o t c =
    let k = in_flat_map (sites_of_section s o) o.object.sections t c in
    go k.origin (placed_part s o.name (InTable k.origin.number)) k.gives
  where
    go : (x : LinkedSection) (m : Option PlacedPiece)
        → Contains (option_map_or (λ (y : PlacedPiece). sites_at o x y.start) m []) t → t.object ≡ o
    go x None d = absurd (none_in_nil t d)
    go x (Some y) d = object_of_site o x y.start t d

-- where a link has no faults of relocation, no object of it has one
pub none_of_object : (p : Project) (s : Layout) (i : ℕ) (o : NamedObject) → slice_get p.objects i ≡ Some o
    → relocation_faults p s ≡ [] → filter_map (fault_in p s) (sites_of s o) ≡ []
unfolding relocation_faults sites
none_of_object p s i o is none =
    none_at (fault_in p s) (sites_of s) p.objects i o
    (both_nil (entry_fault (entry_point p s)) (filter_map (fault_in p s) (flat_map (sites_of s) p.objects)) none).1 is

module _ (p q : Project) (s : Layout) (i : ℕ) (b : NamedObject) (h : DiffersInContents p q i)
    (frame : HasSameFrame p q s)
    (at_i : slice_get q.objects i ≡ Some b) (none : relocation_faults p s ≡ [])
    (own : (t : Site) → Contains (sites_of s b) t → result_err (site_field q s t) ≡ None) where
  parts : (entry_fault (entry_point p s) ≡ [])
      × (filter_map (fault_in p s) (flat_map (sites_of s) p.objects) ≡ [])
  unfolding relocation_faults sites
  parts = both_nil (entry_fault (entry_point p s)) (filter_map (fault_in p s) (flat_map (sites_of s) p.objects)) none

  of_object : (j : ℕ) (o : NamedObject) → slice_get q.objects j ≡ Some o → filter_map (fault_in q s) (sites_of s o) ≡ []
  of_object j o is = go (j == i) refl
    where
      go : (e : Bool) → (j == i) ≡ e → filter_map (fault_in q s) (sites_of s o) ≡ []
      go true e =
          let same : o ≡ b = same_Some _ _ (sym is ∙ ap (slice_get q.objects) (eqb-true j i e) ∙ at_i) in
          ap (λ u. filter_map (fault_in q s) (sites_of s u)) same ∙ none_of_all (fault_in q s) (sites_of s b) own
      go false e =
          let in_p : slice_get p.objects j ≡ Some o = h.others j (λ k. false≢true (sym e ∙ eq-eqb j i k)) ∙ is in
          sym (same_results (fault_in p s) (fault_in q s) (sites_of s o)
          (λ t c. ap result_err (field_same p q s i h b at_i frame j o in_p is t (own_object s o t c))))
          ∙ none_at (fault_in p s) (sites_of s) p.objects j o parts.1 in_p

  pub still_none : relocation_faults q s ≡ []
  unfolding relocation_faults sites
  still_none =
      ap (λ fs. fs ++ filter_map (fault_in q s) (flat_map (sites_of s) q.objects))
      (ap entry_fault (sym frame.entry) ∙ parts.0)
      ∙ none_of_each (fault_in q s) (sites_of s) q.objects of_object
