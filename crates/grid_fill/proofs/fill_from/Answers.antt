-- `fill_from` meets its contract: the fill by rows is the one from its place.
use mathlib.Core.Path.{sym, subst}
use Rattle.model.specs.declared.three.Three.{Three}
use Rattle.section.specs.declared.shares.Share.{Share}
use Rattle.grid_fill.specs.Rows.{PlanOf}
use Rattle.grid_fill.specs.Plans.{PlaceIn}
use Rattle.grid_fill.proofs.fill_from.Goals as goal
use Rattle.grid_fill.proofs.fill_from.Goals.{After-plan_of-plan}

-- the plan is one for the section that the fill is of
planned : (c : After-plan_of-plan) → PlanOf c.plan_of-plan.result c.requires.source
planned c =
    c.plan_of-plan.ensures.plan_of c.requires.source c.requires.shares

pub stand_at-at-requires : goal.stand_at-at-requires
stand_at-at-requires c =
    record {
      source = c.requires.source;
      planned = planned (goal.at.stand_at-at-requires c).After-plan_of-plan;
      place = subst (λ (v : Three Share). PlaceIn v c.args.s.place.0) (sym c.plan_of-plan.ensures.result_value) c.requires.place;
    }

pub fill_rows-requires : goal.fill_rows-requires
fill_rows-requires c =
    record {
      source = c.requires.source;
      planned = planned (goal.at.fill_rows-requires c).After-plan_of-plan;
      stands = (c.stand_at-at.ensures c.requires.source (planned (goal.at.fill_rows-requires c).After-plan_of-plan)).0;
      least = c.requires.least;
      most = c.requires.most;
    }

pub returns : goal.returns
returns c x o =
    let here = c.plan_of-plan.ensures.plan_of x o in
    let stands = c.stand_at-at.ensures x here in
    rw (← stands.1) (c.fill_rows.ensures x here stands.0)
