-- `plan_of` meets its contract: each share is one of an accepted section.
use mathlib.Core.Path.{refl, ◌∙◌}
use native.Mathlib.Omega.{arith}
use Rattle.model.specs.Grids.{GridSection, sections_of}
use Rattle.model.proofs.GridAccepted.{first-yes, second-yes, third-yes}
use Rattle.section.specs.Shares.{Fitted, Accepted}
use Rattle.grid_fill.proofs.PlanLaws.{held-few, accepted, fitted, first-is}
use Rattle.grid_fill.proofs.plans.plan_of.Goals as goal
use Rattle.grid_fill.proofs.plans.plan_of.Goals.{Start}

abbrev source : (c : Start) → GridSection
source c =
    c.requires.source

first-accepted : (c : Start) → Accepted c.args.s.first
first-accepted c =
    accepted (sections_of (source c)).first (first-yes (source c) c.requires.shares.accepted) c.args.s.first c.requires.shares.first

second-accepted : (c : Start) → Accepted c.args.s.second
second-accepted c =
    accepted (sections_of (source c)).second (second-yes (source c) c.requires.shares.accepted) c.args.s.second c.requires.shares.second

third-accepted : (c : Start) → Accepted c.args.s.third
third-accepted c =
    accepted (sections_of (source c)).third (third-yes (source c) c.requires.shares.accepted) c.args.s.third c.requires.shares.third

first-fitted : (c : Start) → Fitted c.args.s.first
first-fitted c =
    fitted (sections_of (source c)).first (first-yes (source c) c.requires.shares.accepted) c.args.s.first c.requires.shares.first

second-fitted : (c : Start) → Fitted c.args.s.second
second-fitted c =
    fitted (sections_of (source c)).second (second-yes (source c) c.requires.shares.accepted) c.args.s.second c.requires.shares.second

pub first_of-enter-requires : goal.first_of-enter-requires
first_of-enter-requires c = first-fitted (goal.at.first_of-enter-requires c).Start

pub first_of-row-requires : goal.first_of-row-requires
first_of-row-requires c = second-fitted (goal.at.first_of-row-requires c).Start

pub way_of-requires : goal.way_of-requires
way_of-requires c = first-accepted (goal.at.way_of-requires c).Start

pub way_of-requires-2 : goal.way_of-requires-2
way_of-requires-2 c = second-accepted (goal.at.way_of-requires-2 c).Start

pub way_of-requires-3 : goal.way_of-requires-3
way_of-requires-3 c = third-accepted (goal.at.way_of-requires-3 c).Start

pub returns : goal.returns
returns c =
    record {
      result_value = refl;
      plan_of = λ x o.
          let first-ok = first-yes x o.accepted in
          let second-ok = second-yes x o.accepted in
          record {
            accepted = o.accepted;
            first = o.first;
            second = o.second;
            third = o.third;
            first_way = c.way_of.ensures;
            second_way = c.way_of-2.ensures;
            third-way = c.way_of-3.ensures;
            elements = o.elements-are;
            rows = o.rows_are;
            few = omega (arith, o.rows_are, held-few (sections_of x).second second-ok c.args.s.second.processor);
            enter = c.first_of-enter.ensures ∙ first-is (sections_of x).first first-ok c.args.s.first o.first;
            row = c.first_of-row.ensures ∙ first-is (sections_of x).second second-ok c.args.s.second o.second;
          };
    }
