-- A list that is set aside adds its room to those of the others.
use Rattle.symres_table.proofs.Common.{List, Numbered, Vec, [], ap, arith, get_or, length, length-map, refl, rooms}
use Rattle.symres_table.proofs.Common.{vec_capacity, ℕ, ◌++◌, ◌<◌, ◌∷◌, ◌≡◌, ◌≤◌}
use Rattle.std.proofs.Common.{Global}
use Rattle.std.proofs.lemmas.List.{get_or-map}

abbrev pub room_of : Vec Numbered Global → ℕ
room_of v = vec_capacity v

pub none_long : (ls : List (Vec Numbered Global)) (count i : ℕ) → i < length (rooms ls)
    → ((k : ℕ) (d : Vec Numbered Global) → k < length ls → vec_capacity (get_or ls k d) < count)
    → count ≤ get_or (rooms ls) i 0 → ⊥
none_long [] count i h f l = absurd (omega (arith, h))
none_long (v ∷ ls) count i h f l =
    let h' : i < length (v ∷ ls) = omega (arith, h, length-map (v ∷ ls) room_of) in
    let a = get_or-map room_of (v ∷ ls) i v 0 h' in
    let b = f i v h' in
    absurd (omega (arith, a, b, l))

pub rooms_push : (ls : List (Vec Numbered Global)) (v : Vec Numbered Global) → rooms (ls ++ v ∷ []) ≡ rooms ls
    ++ vec_capacity v ∷ []
rooms_push [] v = refl
rooms_push (x ∷ ls) v = ap (λ l. vec_capacity x ∷ l) (rooms_push ls v)
