use Rattle.symres_table.proofs.Common.{Bool, ap, combined, cond, eq-eqb, ne_eqb, shifted, sym, with_byte, ◌/◌, ◌^◌}
use Rattle.symres_table.specs.declared.hashing.WordHasher.{WordHasher}
use Rattle.symres_table.proofs.hashing.WordHasher.add.Goals as goal

pub returns-then-word-eq0 : goal.returns-then-word-eq0
unfolding with_byte
returns-then-word-eq0 c =
    let h = c.args.self.now in
    let word = shifted h.word c.args.byte in
    let make : Bool → WordHasher = λ b. cond b (record { numbers = h.numbers; sum = h.sum; word = word }) (record {
      numbers = h.numbers;
      sum = combined h.sum h.numbers.argument word;
      word = 1;
    }) in
    sym (ap make (eq-eqb (word / 2 ^ 56) 0 c.if-word-eq0.true))

pub returns-else-word-eq0 : goal.returns-else-word-eq0
unfolding with_byte
returns-else-word-eq0 c =
    let h = c.args.self.now in
    let word = shifted h.word c.args.byte in
    let make : Bool → WordHasher = λ b. cond b (record { numbers = h.numbers; sum = h.sum; word = word }) (record {
      numbers = h.numbers;
      sum = combined h.sum h.numbers.argument word;
      word = 1;
    }) in
    rw c.combined-self.ensures (sym (ap make (ne_eqb (word / 2 ^ 56) 0 c.if-word-eq0.false)))
