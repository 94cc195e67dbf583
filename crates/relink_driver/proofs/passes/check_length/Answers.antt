use Rattle.relink_driver.proofs.Common.{ap, faulty_link, image_length, max_image_length, nat_lt, of_length, placed}
use Rattle.relink_driver.proofs.Common.{refl, relocated, subst, sym, ℕ, ◌∙◌, ◌≡◌, ◌≤◌}
use Rattle.ldmodel.specs.Fault as model
use Rattle.ldmodel.specs.declared.fault.Fault.TheVariants as variant
use Rattle.relink_driver.proofs.EarlyEnds.{fitting, short_of, too_long_of}
use Rattle.relink_driver.proofs.passes.check_length.Goals as goal

pub returns-in-None-clause-good : goal.returns-in-None-clause-good
returns-in-None-clause-good c =
    let p = c.args.context.project.now in
    let k = c.requires.known in
    let s = k.layout in
    let n : ℕ = c.in_ok-length.length in
    let is : n ≡ image_length p s = c.in_ok-length.ensures s c.requires.symbol_table k.link_layout c.requires.values in
    let short : n ≤ max_image_length =
    short_of (nat_lt max_image_length n) max_image_length n (variant.ImageTooLong n) refl c.in-None.ensures in
    let here : placed p (of_length n s) ≡ relocated p s =
    fitting (nat_lt max_image_length n) p s max_image_length n (variant.ImageTooLong n) (model.ImageTooLong n) refl
    c.in-None.ensures in
    record {
      placed = c.requires;
      length = subst (λ (k : ℕ). k ≤ max_image_length) is short;
      rest = k.rest
          ∙ (ap (placed p) k.link_layout.layout ∙ (ap (λ (k : ℕ). placed p (of_length k s)) (sym is) ∙ here));
    }

pub returns-in_ok-lines-in-Some-clause-stop : goal.returns-in_ok-lines-in-Some-clause-stop
returns-in_ok-lines-in-Some-clause-stop c =
    let p = c.args.context.project.now in
    let k = c.requires.known in
    let s = k.layout in
    let n : ℕ = c.in_ok-length.length in
    let is : n ≡ image_length p s = c.in_ok-length.ensures s c.requires.symbol_table k.link_layout c.requires.values in
    ap faulty_link c.in_ok-lines-in-Some.ensures
    ∙ (too_long_of p s n c.in-Some.fault c.in-Some.ensures
    ∙ (ap (λ (k : ℕ). placed p (of_length k s)) is
    ∙ sym (k.rest ∙ ap (placed p) k.link_layout.layout)))
