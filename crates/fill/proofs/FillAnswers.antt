-- What the public fills answer, from the answer to their questions.
use Prim.Native.Nat.{ℕ}
use mathlib.Core.Path.{◌≡◌, refl, sym, ap, ◌∙◌}
use mathlib.Core.Bool.{Bool, true, false, cond}
use mathlib.Core.List.{List, ◌++◌}
use native.Mathlib.Omega.{arith}
use borrow.Author.Tests.{eqb-true, eqb-false, ne_eqb}
use lib.Dec.{eqb}
use lib.IntN.{ℤ}
use mir.Syntax.{w64}
use mir.Val.{SFits}
use mir.ValLaws.{to_z-of_z}
use Rattle.std.specs.Prelude.{Result, Ok, Err}
use Rattle.numbers.specs.Words.{words_of}
use Rattle.numbers.proofs.Signed.{back}
use Rattle.model.specs.Mappings.{Section}
use Rattle.model.specs.Ownership.{nat}
use Rattle.model.specs.Questions.{first_no, of_section, of_processor, of_place, of_quota}
use Rattle.model.specs.Filling.{Filled, stopped, Outcome, fill_by, answer}
use Rattle.model.specs.Calls.{FillCall, walk_of, request_of, fill}
use Rattle.model.specs.ByteFills.{ByteFill, in_words, store_entries, bytes_by, bytes_after}
use Rattle.model.specs.declared.refusals.Refusal.{Refusal}
use Rattle.model.specs.Refusals.{number}
use Rattle.model.proofs.QuestionLaws.{both_yes}
use Rattle.model.proofs.RefusalLaws.{told-apart}
use Rattle.section.specs.Shares.{share_of}
use Rattle.walk.specs.declared.moves.Report.{Report}
use Rattle.fill.specs.declared.ready.Start.{Start}
use Rattle.fill.specs.Ready.{start_at, ready_of, share_from, Started, Accepted, FillsFrom, FillsBytesFrom}
use Rattle.fill.specs.Answers.{outcome_as, report_of, FilledBytes}

-- an answer about numbers that the machine reads back is one about the numbers
pub of-parameters : (x : Section) (q t z : ℤ) {r : Result Start ℕ} → SFits w64 q → SFits w64 t → SFits w64 z
    → r ≡ ready_of x (back w64 q) (back w64 t) (back w64 z) → r ≡ ready_of x q t z
of-parameters x q t z f g h e = e ∙ (λ i. ready_of x (to_z-of_z w64 q f i) (to_z-of_z w64 t g i) (to_z-of_z w64 z h i))

module _ (x : Section) (q t z : ℤ) where
  -- the first question that is answered no
  no-to : ℕ
  no-to = first_no (of_section x ++ of_processor x.mapping q ++ of_place x q t ++ of_quota z)

  abbrev call : List ℕ → FillCall
  call l = record { section = x; processor = q; place = t; quota = z; list = l }

  abbrev bytes_call : List ℕ → ByteFill
  bytes_call bs = record { section = x; processor = q; place = t; quota = z; bytes = bs }

  -- ---- what the answer says of the questions

  record Passed (s : Start) : Type 0 where
    none : no-to ≡ 0
    share : share_from s ≡ share_of x s.processor
    place : s.place.0 ≡ nat t
    quota : s.quota ≡ nat z

  passed : (s : Start) → ready_of x q t z ≡ Ok s → Passed s
  unfolding ready_of no-to
  passed s e = go (eqb no-to 0) refl
    where
      go : (b : Bool) → eqb no-to 0 ≡ b → Passed s
      go true p =
          let g = rw p at e in
          let start : s ≡ start_at (share_of x (nat q)) t z = cc in
          record {
            none = eqb-true no-to 0 p;
            share = ap share_from start ∙ ap (share_of x) (sym (ap (λ (v : Start). v.processor) start));
            place = ap (λ (v : Start). v.place.0) start;
            quota = ap (λ (v : Start). v.quota) start;
          }
      go false p = absurd (let f = rw p at e in let n : ◌≡◌ {A = ℕ} 0 1 = cc in omega arith)

  accepted : no-to ≡ 0 → first_no (of_section x) ≡ 0
  unfolding no-to
  accepted e = (both_yes (of_section x) (of_processor x.mapping q ++ of_place x q t ++ of_quota z) refl e).0

  -- a fill that passed is one of an accepted section
  pub taken : (s : Start) → Started s → ready_of x q t z ≡ Ok s → Accepted s
  taken s d e = let p = passed s e in record { started = d; source = x; accepted = accepted p.none; same = p.share }

  record Stopped (n : ℕ) : Type 0 where
    first : no-to ≡ n
    some : n ≡ 0 → ⊥

  refused : (n : ℕ) → ready_of x q t z ≡ Err n → Stopped n
  unfolding ready_of no-to
  refused n e = go (eqb no-to 0) refl
    where
      go : (b : Bool) → eqb no-to 0 ≡ b → Stopped n
      go true p = absurd (let f = rw p at e in let g : ◌≡◌ {A = ℕ} 0 1 = cc in omega arith)
      go false p =
          let f : no-to ≡ n = let g = rw p at e in cc in
          record { first = f; some = λ g. eqb-false no-to 0 p (f ∙ g) }

  -- ---- the fill that is asked for, in each case

  abbrev outcome : ℕ → Filled → List ℕ → Outcome
  outcome n f l = record { refusal = n; filled = cond (eqb n 0) f (stopped 0 l) }

  runs : (s : Start) → ready_of x q t z ≡ Ok s → (l : List ℕ)
      → record { refusal = 0; filled = fill_by (walk_of x) s.place.0 s.quota l } ≡ fill (call l)
  unfolding fill answer request_of no-to
  runs s e l =
      let p = passed s e in
      λ i. outcome (sym p.none i) (fill_by (walk_of x) (p.place i) (p.quota i) l) l

  stays : (n : ℕ) → ready_of x q t z ≡ Err n → (l : List ℕ) → record { refusal = n; filled = stopped 0 l } ≡ fill (call l)
  unfolding fill answer request_of no-to
  stays n e l = let s = refused n e in rw (s.first, ne_eqb n 0 s.some)

  -- ---- words

  pub fill_done : (s : Start) (l l' : List ℕ) (r : Report) → ready_of x q t z ≡ Ok s → FillsFrom s l l' r
      → outcome_as (Ok r) l' ≡ fill (call l)
  fill_done s l l' r e h =
      let p = passed s e in
      ap (λ (f : Filled). record { refusal = 0; filled = f }) (sym (h x (accepted p.none) p.share)) ∙ runs s e l

  pub fill-refused : (r : Refusal) (l : List ℕ) → ready_of x q t z ≡ Err (number r) → outcome_as (Err r) l ≡ fill (call l)
  fill-refused r l e = stays (number r) e l

  -- ---- bytes

  -- an outcome's addresses stored
  abbrev stored : List ℕ → Outcome → List ℕ
  stored bs o = bytes_by bs o.filled

  pub bytes-done : (s : Start) (bs bs' : List ℕ) (r : Report) → ready_of x q t z ≡ Ok s → FillsBytesFrom s bs bs' r
      → FilledBytes (bytes_call bs) bs' (Ok r)
  unfolding in_words bytes_after
  bytes-done s bs bs' r e h =
      let p = passed s e in
      let b = h x (accepted p.none) p.share in
      let o = runs s e (words_of 4 bs) in (
        (λ i. record { refusal = 0; entries = b.entries i; tries = b.tries i; place = b.place i }) ∙ ap report_of o,
        b.bytes ∙ ap (stored bs) o,
        tt,
      )

  -- a refused fill stores nothing
  pub bytes-refused : (r : Refusal) (bs : List ℕ) → ready_of x q t z ≡ Err (number r) → FilledBytes (bytes_call bs) bs (Err r)
  unfolding in_words bytes_after store_entries
  bytes-refused r bs e = let o = stays (number r) e (words_of 4 bs) in (ap report_of o, ap (stored bs) o, told-apart {A = Report} (Err r))
