-- How the runs of an array on a cyclic template follow one another: a run has the elements of one block. Definitions only.
use Rattle.std.specs.Prelude.{ℕ, ◌+◌, ◌-◌, ◌*◌, ◌/◌, ◌%◌, ◌≤◌, ◌<◌, ◌≡◌, cond, ◌⊎◌, ltb}
use Rattle.model.specs.declared.Layout.{Layout}
use Rattle.model.specs.Ownership.{cell_of, cell_owner}
use Rattle.storage.specs.declared.runs.Pace.{Pace}
use Rattle.storage.specs.declared.runs.Run.{Run}

-- ---- the two lengths of a run, and where the next begins

abbrev pub short_pace : Layout → Pace
short_pace l =
    let limit = l.block % l.stride in
    let few = l.block / l.stride in
    record {
      limit = limit;
      rise = l.stride - limit;
      many = few + 1;
      few = few;
      many_on = 1 % l.processors;
      few_on = 1 % l.processors;
      processors = l.processors;
    }

abbrev pub long_pace : Layout → Pace
long_pace l =
    let rise = l.stride % l.block in
    let blocks = l.stride / l.block in
    record {
      limit = l.block - rise;
      rise = rise;
      many = 1;
      few = 1;
      many_on = blocks % l.processors;
      few_on = (blocks + 1) % l.processors;
      processors = l.processors;
    }

abbrev pub pace_of : Layout → Pace
pace_of l = cond (ltb l.stride l.block) (short_pace l) (long_pace l)

abbrev pub length_at : Pace → ℕ → ℕ
length_at p c = cond (ltb c p.limit) p.many p.few

-- the array's first run: those that would lie before the first element are left out
abbrev pub first_run : Layout → Pace → Run
first_run l p =
    let column = l.offset % l.block in
    let begin = column % l.stride in
    record { index = record { 0 = 0 }; length = length_at p begin - column / l.stride; column = begin; processor = cell_owner l l.offset }

-- the run from index i on, in a block whose elements begin at column c
abbrev pub run_at : Pace → ℕ → ℕ → ℕ → Run
run_at p i c q = record { index = record { 0 = i }; length = length_at p c; column = c; processor = q }

-- the run after r, of which so many elements were taken
abbrev pub next_run : Pace → Run → ℕ → Run
next_run p r taken =
    cond (ltb r.column p.limit) (run_at p (r.index.0 + taken) (r.column + p.rise) (r.processor + p.many_on))
    (run_at p (r.index.0 + taken) (r.column - p.limit) (r.processor + p.few_on))

-- a processor's number less p, where it is too high
abbrev pub wrapped : ℕ → ℕ → ℕ
wrapped p q = cond (ltb q p) q (q - p)

abbrev pub wrapped_run : Pace → Run → Run
wrapped_run p r =
    record { index = r.index; length = r.length; column = r.column; processor = wrapped p.processors r.processor }

-- ---- what is known of them

-- A block's elements begin below column limit + rise. `many` elements on it is some blocks and `rise` columns on, and `few` elements
-- on it is some blocks on and `limit` columns back; all elements before these are in the same block.
pub record Paced (l : Layout) (p : Pace) : Type 0 where
  pub many-blocks : ℕ
  pub few-blocks : ℕ
  pub many-some : 0 < many-blocks
  pub few-some : 0 < few-blocks
  pub many-on : p.many_on ≡ many-blocks % l.processors
  pub few-on : p.few_on ≡ few-blocks % l.processors
  pub many-cells : l.stride * p.many ≡ l.block * many-blocks + p.rise
  pub few-cells : l.stride * p.few + p.limit ≡ l.block * few-blocks
  pub many-inside : p.limit + l.stride * p.many ≤ l.block + l.stride
  pub few-inside : p.limit + p.rise + l.stride * p.few ≤ l.block + l.stride
  pub wide : (l.stride ≤ p.limit + p.rise) ⊎ (l.block ≤ p.limit + p.rise)
  pub few-pos : 0 < p.few
  pub few-le : p.few ≤ p.many
  pub processors : p.processors ≡ l.processors

-- a run's column is one at which a block's elements begin, and the next run's numbers are small
pub record Within (p : Pace) (r : Run) (taken : ℕ) : Type 0 where
  pub begins : r.column < p.limit + p.rise
  pub index : r.index.0 + taken ≤ 2147483647
  pub column : r.column + p.rise ≤ 131072
  pub many : r.processor + p.many_on ≤ 2048
  pub few : r.processor + p.few_on ≤ 2048

-- r is the run of the elements from its index on. The first run may leave out some that would lie before.
pub record Stands (l : Layout) (p : Pace) (r : Run) : Type 0 where
  pub block : ℕ
  pub before : ℕ
  pub column : r.column < p.limit + p.rise
  pub cell : cell_of l r.index.0 ≡ l.block * block + (r.column + l.stride * before)
  pub length : before + r.length ≡ length_at p r.column
  pub some : 0 < r.length
  pub processor : r.processor < l.processors + l.processors
  pub owner : wrapped l.processors r.processor ≡ block % l.processors
