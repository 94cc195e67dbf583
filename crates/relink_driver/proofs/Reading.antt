-- Counts of objects and names that stay, and others that do not fall.
use Rattle.relink_driver.proofs.Common.{Counts, EndsReadingNothing, ReadsNothing, ap, arith, capped, inl, inr, raised}
use Rattle.relink_driver.proofs.Common.{ℕ, ◌<◌, ◌^◌, ◌∙◌, ◌≡◌, ◌≤◌}
use Rattle.elfobj.specs.declared.meter.Count.TheVariants as counts
use Rattle.place.specs.sections.Counted.{CountsPieces}
use Rattle.relink_driver.specs.declared.pass_end.PassEnd.{PassEnd}
use Rattle.relink_driver.specs.declared.pass_end.PassEnd.TheVariants.{Faulty, NoMemory}

-- a count does not fall
up : (n m by : ℕ) → n < 2 ^ 64 → m ≡ capped n by → n ≤ m
up n m by h e = omega (arith, h, e)

reads_none : (old new : Counts) → new ≡ old → ReadsNothing old new
reads_none old new e = record {
  objects = ap (λ (m : Counts). m.objects) e;
  names = ap (λ (m : Counts). m.names) e;
  pieces = (let same = ap (λ (m : Counts). m.pieces) e in omega (arith, same));
  fields = (let same = ap (λ (m : Counts). m.fields) e in omega (arith, same));
  bytes = (let same = ap (λ (m : Counts). m.bytes) e in omega (arith, same));
}

pub reads_then : (a b c : Counts) → ReadsNothing a b → ReadsNothing b c → ReadsNothing a c
reads_then a b c x y = record {
  objects = y.objects ∙ x.objects;
  names = y.names ∙ x.names;
  pieces = omega (arith, x.pieces, y.pieces);
  fields = omega (arith, x.fields, y.fields);
  bytes = omega (arith, x.bytes, y.bytes);
}

pub pieces_read_nothing : (old new : Counts) (most : ℕ) → old.pieces < 2 ^ 64 → CountsPieces old new most
    → ReadsNothing old new
pieces_read_nothing old new most small (inl e) = reads_none old new e
pieces_read_nothing old new most small (inr h) = record {
  objects = ap (λ (m : Counts). m.objects) h.2;
  names = ap (λ (m : Counts). m.names) h.2;
  pieces = up old.pieces new.pieces h.0 small (ap (λ (m : Counts). m.pieces) h.2);
  fields = (let same = ap (λ (m : Counts). m.fields) h.2 in omega (arith, same));
  bytes = (let same = ap (λ (m : Counts). m.bytes) h.2 in omega (arith, same));
}

pub fields_read_nothing : (old new : Counts) (n : ℕ) → old.fields < 2 ^ 64 → new ≡ raised old counts.Fields n
    → ReadsNothing old new
fields_read_nothing old new n small e = record {
  objects = ap (λ (m : Counts). m.objects) e;
  names = ap (λ (m : Counts). m.names) e;
  pieces = (let same = ap (λ (m : Counts). m.pieces) e in omega (arith, same));
  fields = up old.fields new.fields n small (ap (λ (m : Counts). m.fields) e);
  bytes = (let same = ap (λ (m : Counts). m.bytes) e in omega (arith, same));
}

pub bytes_read_nothing : (old new : Counts) (n : ℕ) → old.bytes < 2 ^ 64 → new ≡ raised old counts.Bytes n
    → ReadsNothing old new
bytes_read_nothing old new n small e = record {
  objects = ap (λ (m : Counts). m.objects) e;
  names = ap (λ (m : Counts). m.names) e;
  pieces = (let same = ap (λ (m : Counts). m.pieces) e in omega (arith, same));
  fields = (let same = ap (λ (m : Counts). m.fields) e in omega (arith, same));
  bytes = up old.bytes new.bytes n small (ap (λ (m : Counts). m.bytes) e);
}

pub ends_reading : (old new : Counts) (stop : PassEnd) → ReadsNothing old new → EndsReadingNothing old new stop
ends_reading old new (Faulty o) r = r
ends_reading old new (NoMemory _) r = tt

-- what read nothing, and then ended so
pub reads_ending : (a b c : Counts) (stop : PassEnd) → ReadsNothing a b → EndsReadingNothing b c stop
    → EndsReadingNothing a c stop
reads_ending a b c (Faulty o) x y = reads_then a b c x y
reads_ending a b c (NoMemory _) x y = tt
