-- A processor's part of a template, and what it has of an array. Definitions only.
use Rattle.std.specs.Prelude.{ℕ, suc, ◌+◌, ◌-◌, ◌^◌, ◌≤◌, ◌≡◌, true, pos}
use Rattle.numbers.specs.Multiples.{multiples_below}
use Rattle.model.specs.declared.Layout.{Layout}
use Rattle.model.specs.Mappings.{Dealing, cyclic, gen_block}
use Rattle.model.specs.Ownership.{cell_of, cell_owner_by, owner_of, held, back_to, run_start, run_sizes}
use Rattle.model.specs.Questions.{runs_fit}
use Rattle.mapping.specs.declared.parts.Part.{Part}
use Rattle.mapping.specs.declared.parts.Part.TheVariants.{Blocks, Run}

-- the owner of each index of an array on a template that is dealt so
abbrev pub owner_for : Layout → Dealing → ℕ → ℕ
owner_for l d i = cell_owner_by d l (cell_of l i)

-- the dealing's list, if it has one, passed question 16
abbrev pub Listed : Layout → Dealing → Type 0
Listed l d = runs_fit (pos l.cells) (pos l.processors) d ≡ true

-- ---- the part of processor q

abbrev pub part_in : Dealing → ℕ → Part
part_in (cyclic k) q = Blocks
part_in (gen_block sizes left) q = Run (record { start = record { 0 = run_start (run_sizes sizes) q }; end = record { 0 = run_start (run_sizes sizes) (suc q) } })

-- sums of 1,024 sizes
abbrev pub Low : Part → Type 0
Low Blocks = Unit {0}
Low (Run r) = (r.start.0 ≤ r.end.0) × (r.end.0 ≤ 2 ^ 42)

-- ---- what it has of an array

-- how many elements sit below cell c
abbrev pub index_from : Layout → ℕ → ℕ
index_from l c = multiples_below l.stride l.size (c - l.offset)

-- how many elements it has, and the one at address x
abbrev pub held_in : Layout → ℕ → Part → ℕ
held_in l q Blocks = held (owner_of l) l.size q
held_in l q (Run r) = index_from l r.end.0 - index_from l r.start.0

abbrev pub found_in : Layout → ℕ → Part → ℕ → ℕ
found_in l q Blocks x = back_to (owner_of l) l.size q x
found_in l q (Run r) x = index_from l r.start.0 + x
