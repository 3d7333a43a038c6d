-- Questions 8, 10 and 11 of a fill, after those about its section, and what a fill that passed them may count on.
-- Definitions only.
use Rattle.std.specs.Prelude.{ℕ, ◌≤◌, ◌<◌, ◌≡◌, Bool, true, cond, ◌&&◌, ◌||◌, List, [], ◌∷◌, ◌++◌, ltb, eqb, ℤ, pos, Result, Ok, Err}
use Rattle.std.specs.Int.Signed.{le_z}
use Rattle.numbers.specs.Words.{words_of}
use Rattle.model.specs.Mappings.{Dealing, Section}
use Rattle.model.specs.Ownership.{nat}
use Rattle.model.specs.Questions.{Question, ask, first_no, between, is_below, of_section, of_processor, of_place, of_quota}
use Rattle.model.specs.Filling.{fill_by}
use Rattle.model.specs.Calls.{walk_of}
use Rattle.mapping.specs.Parts.{part_in}
use Rattle.section.specs.declared.questions.Strided.{Strided}
use Rattle.section.specs.declared.shares.Share.{Share}
use Rattle.section.specs.Strides.{Bounded}
use Rattle.section.specs.Shares.{share_in, share_of, owned_by}
use Rattle.walk.specs.declared.moves.Report.{Report}
use Rattle.fill.specs.declared.ready.Start.{Start}
use Rattle.walk.specs.Driving.{ByteFilled}

-- ---- the questions

-- a fill of an accepted section, if its questions, of which e is the first that is answered no, passed
abbrev pub start_at : Share → ℤ → ℤ → Start
start_at s t z =
    record { section = s.section; processor = s.processor; extent = s.extent; place = record { 0 = nat t }; quota = nat z }

abbrev pub ready_by : Share → ℤ → ℤ → ℕ → Result Start ℕ
ready_by s t z e = cond (eqb e 0) (Ok (start_at s t z)) (Err e)

unfoldable pub ready_of : Section → ℤ → ℤ → ℤ → Result Start ℕ
ready_of x q t z =
    ready_by (share_of x (nat q)) t z (first_no (of_section x ++ of_processor x.mapping q ++ of_place x q t ++ of_quota z))

-- question 10, of a share
unfoldable pub is_place_in : Share → ℤ → Bool
is_place_in s t =
    let n : ℕ = s.section.count in
    le_z (pos 0) t && (eqb (nat t) n || (ltb (nat t) n && owned_by s (nat t)))

-- what is left to ask of an accepted section, and the answer
abbrev pub left_of : Share → ℤ → ℤ → ℤ → List Question
left_of s q t z =
    ask 8 (is_below (pos s.section.layout.processors) q)
    ∷ ask 10 (is_place_in s t)
    ∷ ask 11 (between (pos 3) (pos 1000000) z)
    ∷ []

unfoldable pub ready_in : Strided → Dealing → ℤ → ℤ → ℤ → Result Start ℕ
ready_in w d q t z =
    let s : Share = share_in w (nat q) (part_in d (nat q)) in
    ready_by s t z (first_no (left_of s q t z))

-- ---- what a yes to all of them says

-- the share that is filled from
abbrev pub share_from : Start → Share
share_from s = record { section = s.section; processor = s.processor; extent = s.extent }

pub record Started (s : Start) : Type 0 where
  pub section-bounded : Bounded s.section
  pub processor : s.processor < s.section.layout.processors
  pub place : s.place.0 ≤ s.section.count
  pub owned : s.place.0 < s.section.count → owned_by (share_from s) s.place.0 ≡ true
  pub least : 3 ≤ s.quota
  pub most : s.quota ≤ 1000000

-- what is known of each case
abbrev pub SoundReady : Result Start ℕ → Type 0
SoundReady (Ok s) = Started s
SoundReady (Err e) = 0 < e

-- it is one of an accepted section
pub record Accepted (s : Start) : Type 0 where
  pub started : Started s
  pub source : Section
  pub accepted : first_no (of_section source) ≡ 0
  pub same : share_from s ≡ share_of source s.processor

-- ---- what a fill that passed them gives

-- Whatever accepted section it was, the fill along its walk gives what was reported, and the list afterwards.
abbrev pub FillsFrom : Start → List ℕ → List ℕ → Report → Type 0
FillsFrom s l l' r =
    (x : Section) → first_no (of_section x) ≡ 0 → share_from s ≡ share_of x s.processor
    → fill_by (walk_of x) s.place.0 s.quota l ≡ record { entries = r.entries; tries = r.tries; place = r.place.0; list = l' }

-- the same of a list of bytes
abbrev pub FillsBytesFrom : Start → List ℕ → List ℕ → Report → Type 0
FillsBytesFrom s bs bs' r =
    (x : Section) → first_no (of_section x) ≡ 0 → share_from s ≡ share_of x s.processor
    → ByteFilled (fill_by (walk_of x) s.place.0 s.quota (words_of 4 bs)) bs bs' r
