-- The cases and counts that were found by hand are the definitions'.
use mathlib.Core.Path.{refl}
use Rattle.model.specs.Ownership.{nat}
use Rattle.model.specs.Sections.{count_of}
use Rattle.model.specs.Cases.{case_of}
use Rattle.model.specs.CasesByHand.{CasesByHand}

pub cases-hold : CasesByHand
unfolding nat count_of case_of
cases-hold = record {
  forward = (refl, refl);
  forward-short = (refl, refl);
  forward-one = (refl, refl);
  forward-most = (refl, refl);
  forward-far = (refl, refl);
  backward = (refl, refl);
  backward-short = (refl, refl);
  backward-one = (refl, refl);
  backward-most = (refl, refl);
  backward-far = (refl, refl);
  empty = (refl, refl);
  empty_back = (refl, refl);
  empty-far = (refl, refl);
  empty-back-far = (refl, refl);
}
