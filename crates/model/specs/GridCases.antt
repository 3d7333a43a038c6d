-- The grids and sections of the cases of our own for grids of processors (document 02, A7). Definitions only.
use Rattle.std.specs.Prelude.{[], ◌∷◌, ℤ, pos, negsuc}
use Rattle.model.specs.Mappings.{Mapping, Section}
use Rattle.model.specs.declared.three.Three.{Three}
use Rattle.model.specs.Grids.{Grid, GridSection}
use Rattle.model.specs.Starred.{mapped, bounded, on}
use Rattle.model.specs.GenBlockRows.{runs}

-- ---- of any rank

abbrev pub at : {A : Type 0} → A → A → A → Three A
at x y z = record { first = x; second = y; third = z }

-- numbers that fail, for the dimensions past the rank
abbrev pub nothing : Mapping
nothing = mapped 0 0 0 0 0 0

abbrev pub nowhere : Section
nowhere = on nothing (pos 0) (pos 0) (pos 0)

abbrev pub ranked : ℤ → Mapping → Mapping → Mapping → Grid
ranked r x y z = record { rank = r; dimensions = at x y z }

abbrev pub flat : Mapping → Mapping → Grid
flat x y = ranked (pos 2) x y nothing

abbrev pub solid : Mapping → Mapping → Mapping → Grid
solid x y z = ranked (pos 3) x y z

abbrev pub ranked_on : ℤ → Section → Section → Section → GridSection
ranked_on r x y z = record { rank = r; dimensions = at x y z }

abbrev pub flat_on : Section → Section → GridSection
flat_on x y = ranked_on (pos 2) x y nowhere

abbrev pub solid_on : Section → Section → Section → GridSection
solid_on x y z = ranked_on (pos 3) x y z

-- ---- arrays of rank 2 and 3

-- 6 elements on cells 0, 4, .. 20, dealt to 2 processors by 3: 0 1 0 0 1 0; their columns are 0 1 2 0 1 2
abbrev pub sixes : Mapping
sixes = mapped 24 2 3 4 0 6

-- 5 elements dealt to 2 processors by 1: 0 1 0 1 0
abbrev pub fives : Mapping
fives = mapped 5 2 1 1 0 5

-- 4 elements dealt to 3 processors by 2: 0 0 1 1, and processor 2 has none
abbrev pub fours : Mapping
fours = mapped 4 3 2 1 0 4

-- 6 elements by sizes 2 0 4
abbrev pub edge : Mapping
edge = runs 6 3 (pos 2 ∷ pos 0 ∷ pos 4 ∷ []) 0 1 0 6 (pos 0) (pos 0)

-- the first with indices 1 to 6, and the second with -2 to 2
abbrev pub one_up : Mapping
one_up = bounded 24 2 3 4 (negsuc 3) 6 (pos 1) (pos 0)

abbrev pub two_down : Mapping
two_down = bounded 5 2 1 1 (pos 0) 5 (negsuc 1) (negsuc 1)

abbrev pub plane : Grid
plane = flat sixes fives

-- 3 elements: 0 1 0; of indices -1 to 1: 0 0 1, and processor 2 has none; and by sizes 0 2: 1 1
abbrev pub thirds : Mapping
thirds = mapped 12 2 3 4 0 3

abbrev pub below : Mapping
below = bounded 4 3 2 1 (pos 1) 3 (negsuc 0) (pos 0)

abbrev pub pair : Mapping
pair = runs 2 2 (pos 0 ∷ pos 2 ∷ []) 0 1 0 2 (pos 0) (pos 0)

abbrev pub cube : Grid
cube = solid thirds below pair

-- ---- sections

-- the whole of both, and of the plane with strides, downward, and with fours in the second dimension
abbrev pub up : Section
up = on sixes (pos 0) (pos 5) (pos 1)

abbrev down : Section
down = on sixes (pos 5) (pos 0) (negsuc 0)

abbrev pub rows : Section
rows = on fives (pos 0) (pos 4) (pos 1)

abbrev pub whole : GridSection
whole = flat_on up rows

abbrev pub falling : GridSection
falling = flat_on down rows

abbrev pub both_down : GridSection
both_down = flat_on (on sixes (pos 5) (pos 0) (negsuc 1)) (on fives (pos 3) (pos 0) (negsuc 1))

abbrev pub strided : GridSection
strided = flat_on (on sixes (pos 0) (pos 5) (pos 2)) (on fives (pos 0) (pos 4) (pos 2))

abbrev pub narrow : GridSection
narrow = flat_on up (on fours (pos 0) (pos 3) (pos 1))

abbrev pub lines : Section
lines = on thirds (pos 0) (pos 2) (pos 1)

abbrev pub floors : Section
floors = on below (negsuc 0) (pos 1) (pos 1)

abbrev pub layers : Section
layers = on pair (pos 0) (pos 1) (pos 1)

abbrev pub full : GridSection
full = solid_on lines floors layers

-- of rank 1
abbrev pub line : Section
line = on (mapped 96 3 4 1 0 96) (pos 0) (pos 95) (pos 7)
