-- A fill along a run of positions. Definitions only.
use Rattle.std.specs.Prelude.{ℕ, zero, suc, ◌+◌, ◌-◌, ◌%◌, ◌<◌, ◌≡◌, min, List, [], ◌∷◌}
use Rattle.section.specs.declared.shares.Span.{Span}
use Rattle.section.specs.declared.shares.Extent.TheVariants.{Run}
use Rattle.fill.specs.declared.ready.Start.{Start}
use Rattle.fill.specs.Ready.{Accepted}

-- n addresses from a on, each d on from the one before it
unfoldable pub addresses_from : ℕ → ℕ → ℕ → List ℕ
addresses_from zero a d = []
addresses_from (suc n) a d = a ∷ addresses_from n ((a + d) % 4294967296) d

-- how many entries a fill writes from place t on of a run that ends before `high`, each for 1 try: it goes on while 3 are left
abbrev pub entries_in : ℕ → ℕ → ℕ → ℕ → ℕ
entries_in high t quota room = min (min (high - t) (quota - 2)) room

-- an accepted fill from a place in its run
pub record InRun (s : Start) (r : Span) : Type 0 where
  pub accepted : Accepted s
  pub extent : s.extent ≡ Run r
  pub below : s.place.0 < s.section.count
