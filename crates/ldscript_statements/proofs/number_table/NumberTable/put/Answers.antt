use Rattle.ldscript_statements.proofs.Common.{List, Some, ap, bytes_eq, cond, is_some, lookup, nat_cmp, number_at}
use Rattle.ldscript_statements.proofs.Common.{slice_cmp, ℕ, ◌∙◌, ◌≡◌}
use Rattle.std.specs.BTreeMap.{is_at}
use Rattle.std.specs.Vec.{vec_items}
use Rattle.ldscript_statements.proofs.KindsNoted.{by_result, still_absent}
use Rattle.ldscript_statements.proofs.NameTables.{lookup_put}
use Rattle.ldscript_statements.proofs.number_table.NumberTable.put.Goals as goal

pub returns : goal.returns
returns c = λ q.
    (ap (λ es. lookup (is_at (λ k. slice_cmp nat_cmp q (vec_items k))) es) c.in_ok-insert.ensures.entries
    ∙ lookup_put vec_items q c.in_ok-key.key c.args.number c.args.self.now.numbers.entries
    ∙ ap (λ b. cond (bytes_eq q b) (Some c.args.number) (number_at c.args.self.now q)) c.in_ok-key.ensures.items)

pub invariant_of-self : goal.invariant_of-self
invariant_of-self c = record {
  known = λ q off.
      let old = c.args.self.now.numbers in
      let finds = is_at (λ k. slice_cmp nat_cmp q (vec_items k)) in
      let none = c.args.self.now.known q (c.note.ensures.others q off) in
      by_result c.insert.result c.insert.ensures.entries c.insert.ensures.err
      (λ put. still_absent q c.args.name.now c.args.number (lookup finds old.entries)
      (lookup finds c.insert.new.map.entries)
      (c.note.ensures.name q off)
      (ap (lookup finds) put ∙ lookup_put vec_items q c.in_ok-key.key c.args.number old.entries
      ∙ ap (λ b. cond (bytes_eq q b) (Some c.args.number) (lookup finds old.entries)) c.in_ok-key.ensures.items)
      none)
      (λ same. ap (λ es. is_some (lookup finds es)) same ∙ none);
}
