-- A part of a part of a list is a part of the list; so a name in a table is a part of the file.
use Rattle.std.proofs.Common.{◌≡◌, ℕ, ◌+◌, ◌-◌, ◌≤◌, List, [], length, take, drop, ap, sym, ◌∙◌, subst, arith, Option}
use Rattle.std.proofs.Common.{Some}
use Rattle.std.specs.List.{slice_range}
use Rattle.std.specs.Option.{unwrap_or, IfSome}
use Rattle.std.proofs.lemmas.Option.{MatchOption-at_some}
use Rattle.std.proofs.lemmas.List.{length-take, drop-take, take-take, drop-drop}
use Rattle.elfobj_file.specs.Names.{string_at}

-- a part of a part of a list
pub cut_cut : {X : Type 0} (bytes : List X) (off size at n : ℕ) → at + n ≤ size
    → take n (drop at (slice_range bytes off (off + size))) ≡ slice_range bytes (off + at) (off + at + n)
cut_cut bytes off size at n h =
    let e : off + size - off ≡ at + (size - at) = omega arith in
    let f : n ≡ off + at + n - (off + at) = omega arith in
    ap (λ k. take n (drop at (take k (drop off bytes)))) e
    ∙ ap (λ xs. take n xs) (drop-take at (size - at) (drop off bytes))
    ∙ take-take n (size - at) (drop at (drop off bytes)) (omega arith)
    ∙ ap (λ xs. take n xs) (drop-drop at off bytes)
    ∙ ap (λ k. take k (drop (off + at) bytes)) f

-- the name in a table that is part of a file, as part of the file
pub name_cut : (bytes : List ℕ) (off size at n : ℕ) → at + n ≤ length (slice_range bytes off (off + size))
    → string_at (slice_range bytes off (off + size)) at ≡ Some (take n (drop at (slice_range bytes off (off + size))))
    → slice_range bytes (off + at) (off + at + n) ≡ unwrap_or (string_at (slice_range bytes off (off + size)) at) []
name_cut bytes off size at n h e =
    let short = length-take (off + size - off) (drop off bytes) in
    rw e (sym (cut_cut bytes off size at n (omega arith)))

-- the same, as a call tells it
pub name_cut_by : (bytes : List ℕ) (off size at n : ℕ) (table : List ℕ) (r : Option ℕ)
    → table ≡ slice_range bytes off (off + size) → r ≡ Some n
    → IfSome r (λ n. at + n ≤ length table) → IfSome r (λ n. string_at table at ≡ Some (take n (drop at table)))
    → slice_range bytes (off + at) (off + at + n) ≡ unwrap_or (string_at (slice_range bytes off (off + size)) at) []
name_cut_by bytes off size at n table r t e h k =
    let h' : at + n ≤ length table = MatchOption-at_some (Unit {0}) (λ n. at + n ≤ length table) n e h in
    let k' : string_at table at ≡ Some (take n (drop at table)) = MatchOption-at_some (Unit {0})
    (λ n. string_at table at ≡ Some (take n (drop at table))) n e k in
    name_cut bytes off size at n
    (subst (λ xs. at + n ≤ length xs) t h')
    (subst (λ xs. string_at xs at ≡ Some (take n (drop at xs))) t k')
