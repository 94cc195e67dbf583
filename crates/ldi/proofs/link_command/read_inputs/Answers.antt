use Rattle.std.proofs.Common.{rules, map, subst}
use Rattle.std.specs.Prelude.{Contains, string_bytes}
use Rattle.ldi.proofs.Names.{contains_name, fault_of_object}
use Rattle.ldi.proofs.link_command.read_inputs.Goals as goal

pub returns-in_err-bytes : goal.returns-in_err-bytes
returns-in_err-bytes c =
    let name = c.name-item.result in
    let has : Contains (map string_bytes c.args.names.now.objects.items) (string_bytes name) =
    subst (λ items. Contains (map string_bytes items) (string_bytes name)) c.deref-name-items.ensures.value
    (contains_name string_bytes c.deref-name-items.result.now c.loop-name.name-index name
    c.loop-name-test.true c.name-item.is) in
    search (rules, fault_of_object, has)
