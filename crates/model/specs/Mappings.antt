-- Document 01's mapping and section, with the two dealings of document 02, A5, and what the parameters of a call stand for.
-- Definitions only.
use Rattle.std.specs.Prelude.{ℕ, ◌-◌, ◌%◌, cond, List, map, ltb, ℤ, pos, negsuc, length}
use Rattle.numbers.specs.Words.{words_of}
use Rattle.model.specs.declared.Triplet.{Triplet}
use Rattle.model.specs.declared.Dealing as dealings
use Rattle.model.specs.declared.Dealing.TheVariants.{Cyclic, GenBlock}
use Rattle.model.specs.declared.Mapping as mappings
use Rattle.model.specs.declared.Section as sections

-- how a template is dealt: cyclic with its block k; or GEN_BLOCK with its list of sizes, and how many bytes of the list are
-- left over
pub data Dealing : Type 0 where
  cyclic : ℤ → Dealing
  gen_block : List ℤ → ℕ → Dealing

-- T, p, the dealing, a, b, n, La and Lt
pub record Mapping : Type 0 where
  pub cells : ℤ
  pub processors : ℤ
  pub dealing : Dealing
  pub stride : ℤ
  pub offset : ℤ
  pub size : ℤ
  pub lower : ℤ
  pub origin : ℤ

-- a section of an array
pub record Section : Type 0 where
  pub mapping : Mapping
  pub triplet : Triplet

-- ---- the parameters of a call: a mapping's numbers, and its sizes as a list of bytes

-- 32 bits in two's complement
abbrev pub signed_of : ℕ → ℤ
signed_of w = cond (ltb w 2147483648) (pos w) (negsuc (4294967295 - w))

-- "bytes, 4 to a size, lowest first, two's complement"
unfoldable pub sizes_of : List ℕ → List ℤ
sizes_of bytes = map signed_of (words_of 4 bytes)

-- the bytes of a cyclic template's list are not looked at
abbrev pub dealing_with : dealings.Dealing → List ℕ → Dealing
dealing_with (Cyclic k) bytes = cyclic k
dealing_with GenBlock bytes = gen_block (sizes_of bytes) (length bytes % 4)

abbrev pub mapping_with : mappings.Mapping → List ℕ → Mapping
mapping_with m bytes = record {
  cells = m.cells;
  processors = m.processors;
  dealing = dealing_with m.dealing bytes;
  stride = m.stride;
  offset = m.offset;
  size = m.size;
  lower = m.lower;
  origin = m.origin;
}

abbrev pub section_with : sections.Section → List ℕ → Section
section_with x bytes = record { mapping = mapping_with x.mapping bytes; triplet = x.triplet }
