-- No spelling of a command begins another, so no stream is cut into commands in two ways.
use Rattle.ldmodel_laws.proofs.Common.{Bool, Change, List, [], and_parts, ap, append_assoc, arith, codes, decimal}
use Rattle.ldmodel_laws.proofs.Common.{eq-eqb, false, false≢true, flat_map, length, not, refl, suc, sym, true, zero, ℕ}
use Rattle.ldmodel_laws.proofs.Common.{◌%◌, ◌&&◌, ◌++◌, ◌+◌, ◌<◌, ◌==◌, ◌^◌, ◌∙◌, ◌∷◌, ◌≡◌, ◌≢◌}
use Rattle.std.proofs.lemmas.Fmt.{decimal_by_steps, decimal_injective}
use Rattle.ldmodel.specs.Commands.{Query, Image, Map, Faults, Command, Edit, Ask, edit_line, query_line, line}
use Rattle.ldmodel.specs.Commands.{edit_payload, payload, spelling, HasNo, IsWord, IsPayload, HasWords, IsCommand}
use Rattle.ldmodel.specs.Commands.{AreCommands, BeginsCommand}
use Rattle.ldmodel.specs.Edits.{Add, Replace, Move, Remove, SetScript}

no_append : (b : ℕ) (xs ys : List ℕ) → HasNo b xs → HasNo b ys → HasNo b (xs ++ ys)
no_append b [] ys h k = k
no_append b (x ∷ xs) ys h k = (h.0, no_append b xs ys h.1 k)

-- two texts that are cut at their first byte of a kind
first_cut : (s : ℕ) (a b x y : List ℕ) → HasNo s a → HasNo s b → a ++ s ∷ x ≡ b ++ s ∷ y → (a ≡ b) × (x ≡ y)
first_cut s [] [] x y p q e = (refl, cc)
first_cut s [] (b ∷ bs) x y p q e = absurd (q.0 cc)
first_cut s (a ∷ az) [] x y p q e = absurd (p.0 cc)
first_cut s (a ∷ az) (b ∷ bs) x y p q e =
    let rest : az ++ s ∷ x ≡ bs ++ s ∷ y = cc in
    let same = first_cut s az bs x y p.1 q.1 rest in
    (let f = same.0 in cc, same.1)

-- bytes without the kind, and a text that has it
no_cut : (s : ℕ) (a b y : List ℕ) → HasNo s a → a ≡ b ++ s ∷ y → ⊥
no_cut s [] [] y p e = cc
no_cut s [] (b ∷ bs) y p e = cc
no_cut s (a ∷ az) [] y p e = p.0 cc
no_cut s (a ∷ az) (b ∷ bs) y p e = let rest : az ≡ bs ++ s ∷ y = cc in no_cut s az bs y p.1 rest

-- two texts that are cut at one length
cut_at : (a b x y : List ℕ) → length a ≡ length b → a ++ x ≡ b ++ y → (a ≡ b) × (x ≡ y)
cut_at [] [] x y l e = (refl, e)
cut_at [] (b ∷ bs) x y l e = cc
cut_at (a ∷ az) [] x y l e = cc
cut_at (a ∷ az) (b ∷ bs) x y l e =
    let shorter : length az ≡ length bs = cc in
    let rest : az ++ x ≡ bs ++ y = cc in
    let same = cut_at az bs x y shorter rest in
    (let f = same.0 in cc, same.1)

decimal_no : (b n : ℕ) → b < 48 → n < 2 ^ 64 → HasNo b (decimal n)
decimal_no b n low small =
    decimal_by_steps (λ _ ds. HasNo b ds) (λ d _. (λ e. absurd (omega (arith, e)), tt))
    (λ d ds _ h. no_append b ds ((48 + d % 10) ∷ []) h (λ e. absurd (omega (arith, e)), tt)) n small

-- a test of literal bytes
abbrev has_no : ℕ → List ℕ → Bool
has_no b [] = true
has_no b (x ∷ xs) = not (x == b) && has_no b xs

differs : (x b : ℕ) → not (x == b) ≡ true → x ≢ b
differs x b e same = false≢true (rw (eq-eqb x b same) at e)

no_by_test : (b : ℕ) (xs : List ℕ) → has_no b xs ≡ true → HasNo b xs
no_by_test b [] e = tt
no_by_test b (x ∷ xs) e =
    let two = and_parts (not (x == b)) (has_no b xs) e in (differs x b two.0, no_by_test b xs two.1)

small : (bytes : List ℕ) → IsPayload bytes → length bytes < 2 ^ 64
small bytes h = omega arith

-- the line of an edit: its first word, and the words after it
abbrev first_word : Change → List ℕ
first_word (Add name at bytes) = codes "add"
first_word (Replace name bytes) = codes "replace"
first_word (Move name to) = codes "move"
first_word (Remove name) = codes "remove"
first_word (SetScript text) = codes "script"

abbrev numbers : ℕ → ℕ → List ℕ
numbers a b = decimal a ++ 32 ∷ decimal b

abbrev words : Change → List ℕ
words (Add name at bytes) = name ++ 32 ∷ numbers at (length bytes)
words (Replace name bytes) = name ++ 32 ∷ decimal (length bytes)
words (Move name to) = name ++ 32 ∷ decimal to
words (Remove name) = name
words (SetScript text) = decimal (length text)

line_of : (c : Change) → edit_line c ≡ first_word c ++ 32 ∷ words c
line_of (Add name at bytes) = refl
line_of (Replace name bytes) = refl
line_of (Move name to) = refl
line_of (Remove name) = refl
line_of (SetScript text) = refl

one_word : (c : Change) → HasNo 32 (first_word c)
one_word (Add name at bytes) = no_by_test 32 (codes "add") refl
one_word (Replace name bytes) = no_by_test 32 (codes "replace") refl
one_word (Move name to) = no_by_test 32 (codes "move") refl
one_word (Remove name) = no_by_test 32 (codes "remove") refl
one_word (SetScript text) = no_by_test 32 (codes "script") refl

no_feed_first : (c : Change) → HasNo 10 (first_word c)
no_feed_first (Add name at bytes) = no_by_test 10 (codes "add") refl
no_feed_first (Replace name bytes) = no_by_test 10 (codes "replace") refl
no_feed_first (Move name to) = no_by_test 10 (codes "move") refl
no_feed_first (Remove name) = no_by_test 10 (codes "remove") refl
no_feed_first (SetScript text) = no_by_test 10 (codes "script") refl

-- a space and more without a line feed
after_space : (xs : List ℕ) → HasNo 10 xs → HasNo 10 (32 ∷ xs)
after_space xs h = (λ e. absurd (omega (arith, e)), h)

no_feed_number : (n : ℕ) → n < 2 ^ 64 → HasNo 10 (decimal n)
no_feed_number n h = decimal_no 10 n (omega arith) h

no_space_number : (n : ℕ) → n < 2 ^ 64 → HasNo 32 (decimal n)
no_space_number n h = decimal_no 32 n (omega arith) h

no_feed_words : (c : Change) → HasWords c → HasNo 10 (words c)
no_feed_words (Add name at bytes) h =
    no_append 10 name _ h.0.no_feed
    (after_space _ (no_append 10 (decimal at) _ (no_feed_number at h.1)
    (after_space _ (no_feed_number (length bytes) (small bytes h.2)))))
no_feed_words (Replace name bytes) h =
    no_append 10 name _ h.0.no_feed (after_space _ (no_feed_number (length bytes) (small bytes h.1)))
no_feed_words (Move name to) h = no_append 10 name _ h.0.no_feed (after_space _ (no_feed_number to h.1))
no_feed_words (Remove name) h = h.no_feed
no_feed_words (SetScript text) h = no_feed_number (length text) (small text h)

no_space_query : (q : Query) → HasNo 32 (query_line q)
no_space_query Image = no_by_test 32 (codes "image") refl
no_space_query Map = no_by_test 32 (codes "map") refl
no_space_query Faults = no_by_test 32 (codes "faults") refl

no_feed_query : (q : Query) → HasNo 10 (query_line q)
no_feed_query Image = no_by_test 10 (codes "image") refl
no_feed_query Map = no_by_test 10 (codes "map") refl
no_feed_query Faults = no_by_test 10 (codes "faults") refl

pub no_feed : (c : Command) → IsCommand c → HasNo 10 (line c)
unfolding line
no_feed (Edit c) h = rw (line_of c)
    (no_append 10 (first_word c) _ (no_feed_first c) (after_space _ (no_feed_words c h.words)))
no_feed (Ask q) h = no_feed_query q

-- a name and what follows it
one_name : (a b x y : List ℕ) → IsWord a → IsWord b → a ++ 32 ∷ x ≡ b ++ 32 ∷ y → (a ≡ b) × (x ≡ y)
one_name a b x y h k e = first_cut 32 a b x y h.no_space k.no_space e

-- equal payloads, where their lengths are spelled alike
one_payload : (a b x y : List ℕ) → IsPayload a → IsPayload b → decimal (length a) ≡ decimal (length b) → a ++ x ≡ b
    ++ y → (a ≡ b) × (x ≡ y)
one_payload a b x y h k l e = cut_at a b x y (decimal_injective (length a) (length b) (small a h) (small b k) l) e

-- two texts that differ at a place
abbrev byte_at : ℕ → List ℕ → ℕ
byte_at i [] = 0
byte_at zero (b ∷ bs) = b
byte_at (suc i) (b ∷ bs) = byte_at i bs

apart : (i : ℕ) (xs ys : List ℕ) → xs ≡ ys → (byte_at i xs == byte_at i ys) ≡ false → ⊥
apart i xs ys e h = false≢true (sym h ∙ eq-eqb (byte_at i xs) (byte_at i ys) (ap (byte_at i) e))

abbrev Same : Change → Change → List ℕ → List ℕ → Type 0
Same c d x y = (c ≡ d) × (x ≡ y)

-- edits with the same first word, the same words after it, and payloads that begin one text
one_edit : (c d : Change) (x y : List ℕ) → HasWords c → HasWords d → first_word c ≡ first_word d → words c ≡ words d
    → edit_payload c ++ x ≡ edit_payload d ++ y → Same c d x y
one_edit (Add name at bytes) (Add name' at' bytes') x y h k w e p =
    let first = one_name name name' _ _ h.0 k.0 e in
    let second = first_cut 32 (decimal at) (decimal at') _ _ (no_space_number at h.1) (no_space_number at' k.1) first.1
    in
    let same_at : at ≡ at' = decimal_injective at at' h.1 k.1 second.0 in
    let payloads = one_payload bytes bytes' x y h.2 k.2 second.1 p in
    (let f = first.0 in let g = payloads.0 in cc, payloads.1)
one_edit (Replace name bytes) (Replace name' bytes') x y h k w e p =
    let first = one_name name name' _ _ h.0 k.0 e in
    let payloads = one_payload bytes bytes' x y h.1 k.1 first.1 p in
    (let f = first.0 in let g = payloads.0 in cc, payloads.1)
one_edit (Move name to) (Move name' to') x y h k w e p =
    let first = one_name name name' _ _ h.0 k.0 e in
    let same_to : to ≡ to' = decimal_injective to to' h.1 k.1 first.1 in
    (let f = first.0 in cc, p)
one_edit (Remove name) (Remove name') x y h k w e p = (ap Remove e, p)
one_edit (SetScript text) (SetScript text') x y h k w e p =
    let payloads = one_payload text text' x y h k e p in
    (ap SetScript payloads.0, payloads.1)
one_edit (Add name at bytes) (Replace name' bytes') x y h k w e p = absurd (apart 0 _ _ w refl)
one_edit (Add name at bytes) (Move name' to') x y h k w e p = absurd (apart 0 _ _ w refl)
one_edit (Add name at bytes) (Remove name') x y h k w e p = absurd (apart 0 _ _ w refl)
one_edit (Add name at bytes) (SetScript text') x y h k w e p = absurd (apart 0 _ _ w refl)
one_edit (Replace name bytes) (Add name' at' bytes') x y h k w e p = absurd (apart 0 _ _ w refl)
one_edit (Replace name bytes) (Move name' to') x y h k w e p = absurd (apart 0 _ _ w refl)
one_edit (Replace name bytes) (Remove name') x y h k w e p = absurd (apart 2 _ _ w refl)
one_edit (Replace name bytes) (SetScript text') x y h k w e p = absurd (apart 0 _ _ w refl)
one_edit (Move name to) (Add name' at' bytes') x y h k w e p = absurd (apart 0 _ _ w refl)
one_edit (Move name to) (Replace name' bytes') x y h k w e p = absurd (apart 0 _ _ w refl)
one_edit (Move name to) (Remove name') x y h k w e p = absurd (apart 0 _ _ w refl)
one_edit (Move name to) (SetScript text') x y h k w e p = absurd (apart 0 _ _ w refl)
one_edit (Remove name) (Add name' at' bytes') x y h k w e p = absurd (apart 0 _ _ w refl)
one_edit (Remove name) (Replace name' bytes') x y h k w e p = absurd (apart 2 _ _ w refl)
one_edit (Remove name) (Move name' to') x y h k w e p = absurd (apart 0 _ _ w refl)
one_edit (Remove name) (SetScript text') x y h k w e p = absurd (apart 0 _ _ w refl)
one_edit (SetScript text) (Add name' at' bytes') x y h k w e p = absurd (apart 0 _ _ w refl)
one_edit (SetScript text) (Replace name' bytes') x y h k w e p = absurd (apart 0 _ _ w refl)
one_edit (SetScript text) (Move name' to') x y h k w e p = absurd (apart 0 _ _ w refl)
one_edit (SetScript text) (Remove name') x y h k w e p = absurd (apart 0 _ _ w refl)

one_query : (q r : Query) → query_line q ≡ query_line r → q ≡ r
one_query Image Image e = refl
one_query Image Map e = absurd (apart 0 _ _ e refl)
one_query Image Faults e = absurd (apart 0 _ _ e refl)
one_query Map Image e = absurd (apart 0 _ _ e refl)
one_query Map Map e = refl
one_query Map Faults e = absurd (apart 0 _ _ e refl)
one_query Faults Image e = absurd (apart 0 _ _ e refl)
one_query Faults Map e = absurd (apart 0 _ _ e refl)
one_query Faults Faults e = refl

-- commands of one line, and payloads that begin one text
one_command : (c d : Command) (x y : List ℕ) → IsCommand c → IsCommand d → line c ≡ line d → payload c ++ x ≡ payload d
    ++ y → (c ≡ d) × (x ≡ y)
unfolding line
one_command (Edit c) (Edit d) x y h k e p =
    let cut = first_cut 32 (first_word c) (first_word d) (words c) (words d) (one_word c) (one_word d) (sym (line_of c)
    ∙ e ∙ line_of d) in
    let same = one_edit c d x y h.words k.words cut.0 cut.1 p in
    (ap Edit same.0, same.1)
one_command (Edit c) (Ask q) x y h k e p =
    absurd (no_cut 32 (query_line q) (first_word c) (words c) (no_space_query q) (sym e ∙ line_of c))
one_command (Ask q) (Edit c) x y h k e p =
    absurd (no_cut 32 (query_line q) (first_word c) (words c) (no_space_query q) (e ∙ line_of c))
one_command (Ask q) (Ask r) x y h k e p = (ap Ask (one_query q r e), p)

spelled : (c : Command) (more : List ℕ) → spelling c ++ more ≡ line c ++ 10 ∷ (payload c ++ more)
spelled c more = append_assoc (line c) (10 ∷ payload c) more

pub one_first : (c d : Command) (x y : List ℕ) → IsCommand c → IsCommand d → spelling c ++ x ≡ spelling d ++ y
    → (c ≡ d) × (x ≡ y)
one_first c d x y i j e =
    let cut = first_cut 10 (line c) (line d) (payload c ++ x) (payload d ++ y) (no_feed c i) (no_feed d j)
    (sym (spelled c x) ∙ e ∙ spelled d y) in
    one_command c d x y i j cut.0 cut.1

first_of : (c : Command) (cs : List Command) (tail : List ℕ) → flat_map spelling (c ∷ cs) ++ tail ≡ spelling c
    ++ (flat_map spelling cs ++ tail)
first_of c cs tail = append_assoc (spelling c) (flat_map spelling cs) tail

begun : (c : Command) (cs : List Command) (text tail : List ℕ) → IsCommand c → text ≡ flat_map spelling (c ∷ cs)
    ++ tail → (BeginsCommand text → ⊥) → ⊥
begun c cs text tail i e none =
    none (record { command = c; more = flat_map spelling cs ++ tail; is = i; cut = e ∙ first_of c cs tail })

pub one_cutting : (cs ds : List Command) (tail rest : List ℕ) → AreCommands cs → AreCommands ds
    → (BeginsCommand tail → ⊥) → (BeginsCommand rest → ⊥)
    → flat_map spelling cs ++ tail ≡ flat_map spelling ds ++ rest → (cs ≡ ds) × (tail ≡ rest)
one_cutting [] [] tail rest i j m n e = (refl, e)
one_cutting [] (d ∷ ds) tail rest i j m n e = absurd (begun d ds tail rest j.0 e m)
one_cutting (c ∷ cs) [] tail rest i j m n e = absurd (begun c cs rest tail i.0 (sym e) n)
one_cutting (c ∷ cs) (d ∷ ds) tail rest i j m n e =
    let first = one_first c d _ _ i.0 j.0 (sym (first_of c cs tail) ∙ e ∙ first_of d ds rest) in
    let others = one_cutting cs ds tail rest i.1 j.1 m n first.1 in
    (let a = first.0 in let b = others.0 in cc, others.1)
