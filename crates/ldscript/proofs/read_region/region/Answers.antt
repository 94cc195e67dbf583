use Rattle.ldscript.proofs.Common.{arith, sym, ◌∙◌}
use Rattle.ldscript.proofs.Regions.{region_name, region_only, region_origin, region_extent}
use Rattle.ldscript.proofs.read_region.region.Goals as goal

pub returns-in_default : goal.returns-in_default
returns-in_default c = λ y more d st. c.in_default.ensures y.name d.1.0 d.1.1

pub returns-in_default-2 : goal.returns-in_default-2
returns-in_default-2 c =
    let n = (rw c.in_default-2.is at c.in_ok-origin.ensures) in
    λ y more d st. let e = region_name y _ _ more _ c.in-Some.ensures.spells d in n y.origin e.1.0 e.1.1

pub returns-in_default-region_middle : goal.returns-in_default-region_middle
returns-in_default-region_middle c = λ y more d st.
    let e = region_name y _ _ more _ c.in-Some.ensures.spells d in
    let f = region_origin y _ _ more _ (rw c.in-Some-2.is at c.in_ok-origin.ensures).spells e.1 in
    c.in_default-region_middle.ensures f.1.0 f.1.1

pub returns-in_default-3 : goal.returns-in_default-3
returns-in_default-3 c =
    let n = (rw c.in_default-3.is at c.in_ok-extent.ensures) in
    λ y more d st. let e = region_name y _ _ more _ c.in-Some.ensures.spells d in
    let f = region_origin y _ _ more _ (rw c.in-Some-2.is at c.in_ok-origin.ensures).spells e.1 in
    n y.extent more (region_extent y _ _ more c.in-Some-region_middle.ensures.0 f.1) st

pub returns : goal.returns
returns c = rw c.in_ok-new.ensures (record {
  spells = (
    c.line-line.ensures,
    (
      _,
      c.in-Some.ensures.spells,
      (
        _,
        (rw c.in-Some-2.is at c.in_ok-origin.ensures).spells,
        (_, c.in-Some-region_middle.ensures.0, (rw c.in-Some-3.is at c.in_ok-extent.ensures).spells),
      ),
    ),
  );
  only = λ y more d st. region_only _ _ _ _ _ _ y more c.in-Some.ensures.spells
      (rw c.in-Some-2.is at c.in_ok-origin.ensures).spells c.in-Some-region_middle.ensures.0
      (rw c.in-Some-3.is at c.in_ok-extent.ensures).only (c.line-line.ensures ∙ sym d.0) d st;
  shorter = omega (
    arith,
    c.in-Some.ensures.shorter,
    (rw c.in-Some-2.is at c.in_ok-origin.ensures).shorter,
    c.in-Some-region_middle.ensures.1,
    (rw c.in-Some-3.is at c.in_ok-extent.ensures).shorter,
  );
})
