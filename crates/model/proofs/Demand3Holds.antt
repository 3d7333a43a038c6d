-- Demand 3 holds of every kind of section that is lawful, and so of every accepted section, for fills of words and for fills of
-- bytes. Assumes nothing.
use mathlib.Core.Path.{◌≡◌, refl, ◌∙◌}
use mathlib.Core.List.{[], ◌∷◌}
use lib.IntN.{pos}
use Rattle.numbers.specs.Words.{value_of, words_in, words_of}
use Rattle.model.specs.Mappings.{Section}
use Rattle.model.specs.Sections.{address}
use Rattle.model.specs.Filling.{Outcome}
use Rattle.model.specs.Questions.{first_no, of_section}
use Rattle.model.specs.Calls.{FillOf, walk_of, request_of, fill}
use Rattle.model.specs.ByteFills.{BytesOf, in_words, outcome_of}
use Rattle.model.specs.Demand3.{Kind, sections, Form, Filling, axis_in, in_word_lists, in_byte_lists, Demand3}
use Rattle.model.proofs.AddressLaws.{no_gap}
use Rattle.model.proofs.KindLaws.{Laws, Same, fills-in-turn}
use Rattle.model.proofs.SectionFills.{section-laws}
use Rattle.model.proofs.OnceLaws.{once}
use Rattle.model.proofs.FillsExist.{one_entry, Asks, one_more, runs-exist}
use Rattle.model.proofs.ByteFillsHold.{outcome-is}

pub in-form : (f : Form) → Laws f.kind → Same f → Asks f → (x : Filling f) → first_no (f.kind.questions x) ≡ 0 → Demand3 f x
in-form f laws same asks x ok = record {
  fills = λ q h. fills-in-turn f laws same x q ok;
  once = once f laws same x ok;
  goes_on = one_more f laws same x ok;
  reaches = runs-exist f laws same x ok asks;
  no_gap = no_gap (axis_in f x).array.owner (axis_in f x).array.size;
  neighbours = (laws.lawful x ok).neighbours;
  cheap = (laws.lawful x ok).cheap;
}

-- words and bytes can ask for one entry, of any kind of section
pub word-asks : (k : Kind) (o : FillOf k.Of → Outcome) → Asks (record { kind = k; Call = FillOf k.Of; words = λ c. c; outcome = o })
word-asks k o = record { call = one_entry; is = λ x q t. refl }

pub byte-asks : (k : Kind) (o : BytesOf k.Of → Outcome) → Asks (record { kind = k; Call = BytesOf k.Of; words = in_words; outcome = o })
unfolding in_words words_of words_in value_of
byte-asks k o = record {
  call = λ x q t. record { section = x; processor = pos q; place = pos t; quota = pos 3; bytes = 0 ∷ 0 ∷ 0 ∷ 0 ∷ [] };
  is = λ x q t. refl;
}

word-outcome : Same in_word_lists
unfolding fill request_of walk_of address
word-outcome c = refl

pub demand3 : (x : Section) → first_no (of_section x) ≡ 0 → Demand3 in_word_lists x
demand3 = in-form in_word_lists section-laws word-outcome (word-asks sections fill)

pub demand3-of-bytes : (x : Section) → first_no (of_section x) ≡ 0 → Demand3 in_byte_lists x
demand3-of-bytes = in-form in_byte_lists section-laws (λ c. outcome-is c ∙ word-outcome (in_words c)) (byte-asks sections outcome_of)
