use Rattle.gather.proofs.Common.{Bor, List, Some, UpdatesBy, WordAt, WordTable, [], ap, filter, get_by, is_named}
use Rattle.gather.proofs.Common.{is_wild, nat_cmp, on_ok_weaker, option_map_or, rules, shown_listed, shown_words}
use Rattle.gather.proofs.Common.{slice_cmp, subst, words_of, ℕ, ◌++◌, ◌∙◌}
use Rattle.std.proofs.lemmas.Map.Text.{btree_map_updates_str}
use Rattle.gather.proofs.NamedLists.{listed_more}
use Rattle.gather.proofs.file_tables.FileTables.add_own.Goals as goal

abbrev under : List ℕ → WordTable → List WordAt
under name t = shown_listed t name

abbrev others : WordTable → List WordAt
others t = shown_words t.wild.items

pub returns-in-Some-clause-own : goal.returns-in-Some-clause-own
returns-in-Some-clause-own c =
    let ws = words_of c.args.statement.0 c.args.input.now c.args.input.now.sections in
    let before = λ (n : List ℕ). get_by (λ (k : Bor (List ℕ)). slice_cmp nat_cmp n k.now) c.args.self.now.own in
    let after = c.get_mut.follows.lender c.add_statement.new.self in
    let at = λ (q : List ℕ). btree_map_updates_str c.args.file.now c.args.self.now.own after
    (Some c.add_statement.new.self) ((c.get_mut.follows.holds c.add_statement.new.self).3 (search rules)) q in
    on_ok_weaker c.add_statement.result
    (λ adds. record {
      named = λ q name. listed_more (under name) before c.args.file.now q
          (get_by (λ (k : Bor (List ℕ)). slice_cmp nat_cmp q k.now) after) c.add_statement.new.self
          (filter (is_named name) ws) (at q)
          (adds.named name
          ∙ ap (λ o. option_map_or (under name) o [] ++ filter (is_named name) ws) c.in-Some.ensures.value);
      wild = λ q. listed_more others before c.args.file.now q
          (get_by (λ (k : Bor (List ℕ)). slice_cmp nat_cmp q k.now) after) c.add_statement.new.self
          (filter is_wild ws) (at q)
          (adds.wild ∙ ap (λ o. option_map_or others o [] ++ filter is_wild ws) c.in-Some.ensures.value);
    }) c.add_statement.ensures

pub returns-in_ok-insert-in-None-clause-own : goal.returns-in_ok-insert-in-None-clause-own
returns-in_ok-insert-in-None-clause-own c =
    let ws = words_of c.args.statement.0 c.args.input.now c.args.input.now.sections in
    let before = λ (n : List ℕ). get_by (λ (k : Bor (List ℕ)). slice_cmp nat_cmp n k.now) c.args.self.now.own in
    let at = λ (q : List ℕ). btree_map_updates_str c.args.file.now c.args.self.now.own c.insert.new.map
    (Some c.add_statement-in-None.new.self)
    (subst (λ m. UpdatesBy (λ (x y : Bor (List ℕ)). slice_cmp nat_cmp x.now y.now) (λ (k : Bor (List ℕ)).
    slice_cmp nat_cmp c.args.file.now k.now) m c.insert.new.map (Some c.add_statement-in-None.new.self))
    c.get_mut.follows.holds-at-none c.in_ok-insert-in-None.ensures.updates) q in
    record {
      named = λ q name. listed_more (under name) before c.args.file.now q
          (get_by (λ (k : Bor (List ℕ)). slice_cmp nat_cmp q k.now) c.insert.new.map)
          c.add_statement-in-None.new.self (filter (is_named name) ws) (at q)
          (c.in_ok-add_statement-in-None.ensures.named name
          ∙ ap (λ xs. xs ++ filter (is_named name) ws) (c.new-own.ensures.named name)
          ∙ ap (λ o. option_map_or (under name) o [] ++ filter (is_named name) ws) c.in-None.ensures.value);
      wild = λ q. listed_more others before c.args.file.now q
          (get_by (λ (k : Bor (List ℕ)). slice_cmp nat_cmp q k.now) c.insert.new.map)
          c.add_statement-in-None.new.self (filter is_wild ws) (at q)
          (c.in_ok-add_statement-in-None.ensures.wild
          ∙ ap (λ xs. xs ++ filter is_wild ws) c.new-own.ensures.wild
          ∙ ap (λ o. option_map_or others o [] ++ filter is_wild ws) c.in-None.ensures.value);
    }
