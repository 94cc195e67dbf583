-- How the output sections with file bytes lie in the image.
use Rattle.std.specs.Prelude.{ℕ, ◌+◌, ◌≤◌, List, length, filter}
use Rattle.ldmodel.specs.Each.{Each}
use Rattle.ldmodel.specs.Segments.{Segment, SectionInFile, in_file, headers_end, loaded_end}
use Rattle.ldmodel_laws.specs.Spread.{EachLater}

abbrev pub with_file_bytes : List Segment → List SectionInFile
with_file_bytes gs = filter (λ (x : SectionInFile). x.section.has_file_bytes) (in_file gs)

abbrev pub end_in_file : SectionInFile → ℕ
end_in_file x = x.offset + x.section.size

-- they lie past the headers and up to the end of the loaded part, each past the earlier ones
pub record AreInFileOrder (gs : List Segment) : Type 0 where
  pub inside :
      Each (λ (x : SectionInFile). (headers_end (length gs) ≤ x.offset) × (end_in_file x ≤ loaded_end gs))
      (with_file_bytes gs)
  pub ascend : EachLater (λ (x y : SectionInFile). end_in_file x ≤ y.offset) (with_file_bytes gs)
