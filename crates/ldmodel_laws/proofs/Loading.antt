-- An output section has file bytes exactly where it is loaded.
use Rattle.ldmodel_laws.proofs.Common.{Bool, OutputSection, ap, cond, false, not, refl, sym, true, ℕ, ◌&&◌, ◌-◌, ◌==◌}
use Rattle.ldmodel_laws.proofs.Common.{◌≡◌}
use Rattle.ldmodel.specs.Placement.{Body, Head, has_contents, placed_section}

loaded : (size : ℕ) (empty some : Bool) → (size == 0) ≡ empty
    → (not empty && some) ≡ not (cond (not empty && some) size 0 == 0)
loaded size true some e = refl
loaded size false true e = sym (ap not e)
loaded size false false e = refl

pub loaded_section : (o : OutputSection) (h : Head) (b : Body)
    → (placed_section o h b).has_file_bytes ≡ not ((placed_section o h b).load_size == 0)
unfolding placed_section
loaded_section o h b = loaded (b.layout.dot - h.start) (b.layout.dot - h.start == 0) (has_contents b) refl
