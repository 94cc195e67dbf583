-- A stretch of a file or of a list.
use Rattle.std.specs.Prelude.{ℕ, ◌≤◌, List}
use Rattle.std.specs.List.{slice_range}
use Rattle.elfobj_file.specs.declared.span.Span.{Span}

-- a stretch inside n elements
pub record IsInside (n : ℕ) (s : Span) : Type 0 where
  pub order : s.start ≤ s.end
  pub end : s.end ≤ n

abbrev pub bytes_at : List ℕ → Span → List ℕ
bytes_at bytes s = slice_range bytes s.start s.end
