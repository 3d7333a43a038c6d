-- A processor's share of an accepted section, by its part of the template, on natural numbers. Definitions only.
use Rattle.std.specs.Prelude.{ℕ, suc, ◌-◌, ◌*◌, ◌≤◌, ◌<◌, ◌≡◌, Bool, cond, ◌&&◌, leb, ltb}
use Rattle.numbers.specs.Search.{tally}
use Rattle.numbers.specs.Multiples.{multiples_below}
use Rattle.model.specs.declared.Steps.{Steps}
use Rattle.model.specs.Mappings.{Dealing, cyclic, gen_block, Section}
use Rattle.model.specs.Ownership.{owner_of, rank}
use Rattle.model.specs.Steps.{run_steps}
use Rattle.model.specs.Questions.{first_no, of_section}
use Rattle.mapping.specs.declared.parts.Part.{Part}
use Rattle.mapping.specs.declared.parts.Part.TheVariants as part
use Rattle.mapping.specs.declared.runs.Run.{Run}
use Rattle.mapping.specs.Parts.{part_in, index_from}
use Rattle.section.specs.declared.questions.Strided.{Strided}
use Rattle.section.specs.declared.shares.Span.{Span}
use Rattle.section.specs.declared.shares.Extent.{Extent}
use Rattle.section.specs.declared.shares.Extent.TheVariants as extent
use Rattle.section.specs.declared.shares.Share.{Share}
use Rattle.section.specs.Strides.{strided_of, Bounded, index_at, cell_at, owned_at, place_in, steps_in}
use Rattle.section.specs.Going.{Held, next_in}

-- ---- a share

-- how many positions come before cell c: going up those on cells below it, going down those on cells not below it
abbrev pub positions_to : Strided → ℕ → ℕ
positions_to w c =
    multiples_below (w.layout.stride * w.stride) w.count (cond w.upward (c - cell_at w 0) (suc (cell_at w 0) - c))

-- the positions on the cells of a run
abbrev pub span_in : Strided → Run → Span
span_in w r = record {
  low = record { 0 = positions_to w (cond w.upward r.start.0 r.end.0) };
  high = record { 0 = positions_to w (cond w.upward r.end.0 r.start.0) };
  base = record { 0 = index_from w.layout r.start.0 };
}

abbrev pub extent_in : Strided → Part → Extent
extent_in w part.Blocks = extent.Blocks
extent_in w (part.Run r) = extent.Run (span_in w r)

abbrev pub share_in : Strided → ℕ → Part → Share
share_in w q p = record { section = w; processor = q; extent = extent_in w p }

-- processor q's share of a section
abbrev pub share_of : Section → ℕ → Share
share_of x q = share_in (strided_of x) q (part_in x.mapping.dealing q)

-- ---- what it has

-- does the processor own position t?
abbrev pub owned_in : Span → ℕ → Bool
owned_in r t = leb r.low.0 t && ltb t r.high.0

abbrev pub owned_of : Strided → ℕ → Extent → ℕ → Bool
owned_of w q extent.Blocks t = owned_at w q t
owned_of w q (extent.Run r) t = owned_in r t

abbrev pub owned_by : Share → ℕ → Bool
owned_by s t = owned_of s.section s.processor s.extent t

-- its first place in a section of n
abbrev pub first_in : Span → ℕ → ℕ
first_in r n = cond (ltb r.low.0 r.high.0) r.low.0 n

abbrev pub place_from : Strided → ℕ → Extent → ℕ
place_from w q extent.Blocks = place_in w q
place_from w q (extent.Run r) = first_in r w.count

abbrev pub place_by : Share → ℕ
place_by s = place_from s.section s.processor s.extent

-- the next place after position t
abbrev pub after_in : Span → ℕ → ℕ → ℕ
after_in r n t = cond (ltb (suc t) r.high.0) (suc t) n

abbrev pub next_from : Strided → Extent → ℕ → ℕ
next_from w extent.Blocks t = next_in w t
next_from w (extent.Run r) t = after_in r w.count t

abbrev pub next_by : Share → ℕ → ℕ
next_by s t = next_from s.section s.extent t

-- the local address of position t
abbrev pub off_base : Strided → Span → ℕ → ℕ
off_base w r t = index_at w t - r.base.0

abbrev pub address_from : Strided → Extent → ℕ → ℕ
address_from w extent.Blocks t = rank (owner_of w.layout) (index_at w t)
address_from w (extent.Run r) t = off_base w r t

abbrev pub address_by : Share → ℕ → ℕ
address_by s t = address_from s.section s.extent t

-- how many there are
abbrev pub held_from : Strided → ℕ → Extent → ℕ
held_from w q extent.Blocks = tally (owned_at w q) w.count
held_from w q (extent.Run r) = r.high.0 - r.low.0

abbrev pub held_by : Share → ℕ
held_by s = held_from s.section s.processor s.extent

-- ---- the steps of the section, by the dealing

abbrev pub steps_for : Strided → Dealing → Steps
steps_for w (cyclic k) = steps_in w
steps_for w (gen_block sizes left) = run_steps w.count (w.layout.stride * w.stride)

-- steps that lead along a share: those of blocks; in a run none are looked at
abbrev pub LeadOn : Strided → Extent → Steps → Type 0
LeadOn w extent.Blocks steps = steps ≡ steps_in w
LeadOn w (extent.Run r) steps = Unit {0}

-- ---- what is asked of a share

-- a section in range, and one of its processors
pub record Fitted (s : Share) : Type 0 where
  pub bounded : Bounded s.section
  pub processor : s.processor < s.section.layout.processors

-- and t a position of it
pub record Shared (s : Share) (t : ℕ) : Type 0 where
  pub fitted : Fitted s
  pub below : t < s.section.count

-- position t of a run, whose index is not below the base
pub record Based (w : Strided) (r : Span) (t : ℕ) : Type 0 where
  pub held : Held w t
  pub base : r.base.0 ≤ index_at w t

abbrev pub BasedIn : Strided → Extent → ℕ → Type 0
BasedIn w extent.Blocks t = Unit {0}
BasedIn w (extent.Run r) t = r.base.0 ≤ index_at w t

abbrev pub BasedBy : Share → ℕ → Type 0
BasedBy s t = BasedIn s.section s.extent t

-- it is one of an accepted section
pub record Accepted (s : Share) : Type 0 where
  pub whole : Section
  pub none : first_no (of_section whole) ≡ 0
  pub share : s ≡ share_of whole s.processor
  pub processor : s.processor < s.section.layout.processors
