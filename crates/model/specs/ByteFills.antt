-- Fills into a list of bytes, "4 to an address, lowest byte first; up to 3 bytes left over are no entry and stay".
-- Definitions only.
use Rattle.std.specs.Prelude.{ℕ, suc, ◌*◌, List, [], ◌∷◌, ℤ, take}
use Rattle.numbers.specs.Words.{words_of, store_at}
use Rattle.model.specs.Mappings.{Section}
use Rattle.model.specs.Filling.{Filled, Outcome}
use Rattle.model.specs.Calls.{FillOf, fill}

-- of a section of any kind
pub record BytesOf (S : Type 0) : Type 0 where
  pub section : S
  pub processor : ℤ
  pub place : ℤ
  pub quota : ℤ
  pub bytes : List ℕ

abbrev pub ByteFill : Type 0
ByteFill = BytesOf Section

-- the fill that it stands for
unfoldable pub in_words : {S : Type 0} → BytesOf S → FillOf S
in_words c =
    record { section = c.section; processor = c.processor; place = c.place; quota = c.quota; list = words_of 4 c.bytes }

-- an address stored as entry n: its 4 bytes, and nothing else
abbrev pub store_entry : List ℕ → ℕ → ℕ → List ℕ
store_entry bs n a = store_at 4 bs (4 * n) a

-- addresses stored one after the other, from entry n on
unfoldable pub store_entries : List ℕ → ℕ → List ℕ → List ℕ
store_entries bs n [] = bs
store_entries bs n (a ∷ xs) = store_entries (store_entry bs n a) (suc n) xs

-- the bytes after a fill of their words: each address that it wrote is stored
abbrev pub bytes_by : List ℕ → Filled → List ℕ
bytes_by bs f = store_entries bs 0 (take f.entries f.list)

-- what the fill of bytes returns, and its list as the bytes afterwards give it
abbrev pub outcome_by : List ℕ → Outcome → Outcome
outcome_by bs o = record {
  refusal = o.refusal;
  filled = record {
    entries = o.filled.entries;
    tries = o.filled.tries;
    place = o.filled.place;
    list = words_of 4 (bytes_by bs o.filled);
  };
}

unfoldable pub bytes_after : ByteFill → List ℕ
bytes_after c = bytes_by c.bytes (fill (in_words c)).filled

unfoldable pub outcome_of : ByteFill → Outcome
outcome_of c = outcome_by c.bytes (fill (in_words c))
