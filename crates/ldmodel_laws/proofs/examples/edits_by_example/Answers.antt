use Rattle.ldmodel_laws.proofs.Common.{inr, refl}
use Rattle.elfobj.specs.Refusal.{holds, object_refusal}
use Rattle.elfobj.specs.declared.refusal.ObjectRefusal.TheVariants.{Short}
use Rattle.ldmodel.specs.Edits.{early_refusal, is_full, is_object_name, is_too_long}
use Rattle.ldmodel_laws.proofs.examples.edits_by_example.Goals as goal

pub returns-clause-in_use : goal.returns-clause-in_use
unfolding early_refusal is_full is_object_name is_too_long
returns-clause-in_use c = refl

pub returns-clause-past_end : goal.returns-clause-past_end
unfolding early_refusal is_full is_object_name is_too_long
returns-clause-past_end c = refl

pub returns-clause-limit : goal.returns-clause-limit
unfolding early_refusal is_full is_object_name is_too_long
returns-clause-limit c = refl

pub returns-clause-unnamed : goal.returns-clause-unnamed
unfolding early_refusal is_full is_object_name is_too_long
returns-clause-unnamed c = refl

pub returns-clause-short : goal.returns-clause-short
unfolding early_refusal is_full is_object_name is_too_long holds object_refusal
returns-clause-short c = inr (refl, (Short, refl, refl))

pub returns-clause-unknown : goal.returns-clause-unknown
unfolding early_refusal
returns-clause-unknown c = refl

pub returns-clause-too_far : goal.returns-clause-too_far
unfolding early_refusal
returns-clause-too_far c = refl

pub returns-clause-last : goal.returns-clause-last
unfolding early_refusal
returns-clause-last c = (refl, refl)

pub returns-clause-removed : goal.returns-clause-removed
unfolding early_refusal
returns-clause-removed c = (refl, refl)

pub returns-clause-not_there : goal.returns-clause-not_there
unfolding early_refusal
returns-clause-not_there c = refl
