-- How a fill goes through a processor's share. Definitions only.
use Rattle.std.specs.Prelude.{◌≡◌}
use Rattle.section.specs.declared.shares.Extent.TheVariants as extent
use Rattle.section.specs.declared.shares.Share.{Share}
use Rattle.fill.specs.declared.ways.Way.{Way}
use Rattle.fill.specs.declared.ways.Way.TheVariants.{Blocks, Run}
use Rattle.fill.specs.Starting.{Planned}

-- by a plan for its blocks, or along its run
abbrev pub WayOf : Share → Way → Type 0
WayOf s (Blocks p) = (s.extent ≡ extent.Blocks) × Planned s.section s.processor p
WayOf s (Run r) = s.extent ≡ extent.Run r
