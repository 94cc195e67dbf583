use Rattle.symres_decisions.proofs.Common.{IsNamed, List, [], ap, get_or, subst, ℕ, ◌∙◌, ◌≡◌}
use Rattle.symres_decisions.proofs.ByteOrder.{one_listed}
use Rattle.symres_decisions.proofs.Listed.{Listed, named_listed, some_name}
use Rattle.symres_decisions.proofs.OneName.{one_name}
use Rattle.symres_decisions.proofs.kept_text.with_name.Goals as goal

pub unwrap-requires : goal.unwrap-requires
unwrap-requires c =
    let s = c.args.names.now in
    some_name s.names c.key_listed-key.result.0 (λ x. x.now) c.name_of.result c.name_of.ensures
    (named_listed s.names s.order c.args.place c.key_listed-key.result.0 ([], 0) c.known-known.ensures.listing
    c.requires.place (c.key_listed-key.ensures ([], 0)))

pub returns-in-Some : goal.returns-in-Some
returns-in-Some c =
    let s = c.args.names.now in
    let place : ℕ = c.args.place in
    let key : ℕ = c.key_listed-key.result.0 in
    let name : List ℕ = c.unwrap.result.now in
    let named : IsNamed s.names key name = rw c.unwrap.ensures at c.name_of.ensures in
    let is : (e : Listed) → get_or s.order place e ≡ (name, key) =
    λ e.
    let there : IsNamed s.names key (get_or s.order place e).0 =
    subst (λ (k : ℕ). IsNamed s.names k (get_or s.order place e).0) (c.key_listed-key.ensures e)
    (c.known-known.ensures.listing.sound place e c.requires.place) in
    ap (λ (n : List ℕ). (n, (get_or s.order place e).1))
    (one_name s.names key (get_or s.order place e).0 name there named)
    ∙ ap (λ (k : ℕ). (name, k)) (c.key_listed-key.ensures e) in
    one_listed s.order c.args.text c.insert.new.self place (name, key) c.requires.place is c.requires.text
    c.in-Some.ensures
