-- Output sections that would share addresses (GNU ld manual, option `--check-sections`: two output sections that
-- overlap are an error, in memory as where they are loaded).
use Rattle.std.specs.Prelude.{ℕ, ◌+◌, List, [], ◌∷◌, ◌++◌, find, Option, Some, None, Bool, not, ◌&&◌, ◌==◌, nat_lt}
use Rattle.ldmodel.specs.Fault.{Fault, AddressesOverlap, LoadAddressesOverlap}
use Rattle.ldmodel.specs.Layout.{PlacedOutput}

-- two ranges, each by where it begins and its size, share a number; a range of size 0 shares none
abbrev pub ranges_overlap : ℕ → ℕ → ℕ → ℕ → Bool
ranges_overlap a n b m = not (n == 0) && not (m == 0) && nat_lt a (b + m) && nat_lt b (a + n)

abbrev pub addresses_overlap : PlacedOutput → PlacedOutput → Bool
addresses_overlap output other = ranges_overlap output.start output.size other.start other.size

abbrev pub load_addresses_overlap : PlacedOutput → PlacedOutput → Bool
load_addresses_overlap output other = ranges_overlap output.load output.load_size other.load other.load_size

abbrev pub overlap_fault : (List ℕ → List ℕ → Fault) → PlacedOutput → Option PlacedOutput → List Fault
overlap_fault fault output None = []
overlap_fault fault output (Some other) = fault output.name other.name ∷ []

-- for each section that overlaps an earlier one a fault with the first that it overlaps, in the order of the script
abbrev pub overlap_faults : (PlacedOutput → PlacedOutput → Bool) → (List ℕ → List ℕ → Fault) → List PlacedOutput
    → List PlacedOutput → List Fault
overlap_faults overlap fault earlier [] = []
overlap_faults overlap fault earlier (q ∷ qs) =
    overlap_fault fault q (find (overlap q) earlier) ++ overlap_faults overlap fault (earlier ++ q ∷ []) qs

-- first all that overlap in memory, then all that overlap where they are loaded
unfoldable pub overlaps : List PlacedOutput → List Fault
overlaps sections =
    overlap_faults addresses_overlap AddressesOverlap [] sections
    ++ overlap_faults load_addresses_overlap LoadAddressesOverlap [] sections
