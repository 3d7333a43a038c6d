-- What the public fill answers, from the answer to its questions.
use Prim.Native.Nat.{ℕ, ◌/◌, ◌<◌}
use mathlib.Core.Path.{◌≡◌, refl, sym, ap, ◌∙◌, subst}
use mathlib.Core.Bool.{true, cond, ◌&&◌, ◌||◌}
use mathlib.Core.List.{List, [], ◌∷◌, ◌++◌}
use mathlib.Core.Logic.{inl, inr}
use native.Mathlib.Nat.{mod-lt}
use native.Mathlib.Omega.{arith}
use borrow.Author.Tests.{ltb-true, eqb-true, ne_eqb}
use lib.Dec.{ltb, eqb}
use lib.IntN.{ℤ, pos}
use lib.Signed.{le_z}
use mir.Syntax.{w64}
use mir.Val.{SFits}
use mir.ValLaws.{to_z-of_z}
use Rattle.std.specs.Prelude.{Result, Ok, Err}
use Rattle.numbers.specs.Words.{words_of}
use Rattle.numbers.proofs.Signed.{back}
use Rattle.numbers.proofs.Tests.{both_true, either_true}
use Rattle.model.specs.Ownership.{nat}
use Rattle.model.specs.Sections.{layout}
use Rattle.model.specs.Questions.{ask, first_no, of_quota}
use Rattle.model.specs.Filling.{Filled, stopped, Outcome, fill_by, answer}
use Rattle.model.specs.ByteFills.{in_words, store_entries, bytes_by}
use Rattle.model.specs.Axes.{Axis, axis_of}
use Rattle.model.specs.Grids.{GridSection, sections_of, grid_axis, of_grid_section, of_grid_processor}
use Rattle.model.specs.GridCalls.{of_grid_place, is_place_on, GridFill, of_grid_fill, grid_request_of, grid_fill, GridByteFill, grid_bytes_after}
use Rattle.model.specs.declared.refusals.Refusal.{Refusal}
use Rattle.model.specs.Refusals.{number}
use Rattle.model.proofs.RefusalLaws.{told-apart}
use Rattle.model.proofs.QuestionLaws.{Natural, all_yes, both_yes, between_is, below-is}
use Rattle.model.proofs.PairLaws.{second_lt}
use Rattle.model.proofs.GridAccepted.{first-yes, second-yes}
use Rattle.section.specs.Strides.{strided_of}
use Rattle.section.proofs.StridedSections.{bounded}
use Rattle.walk.specs.declared.moves.Report.{Report}
use Rattle.fill.specs.Answers.{report_of}
use Rattle.grid.proofs.AskLaws.{says-yes, says-no}
use Rattle.model.specs.declared.three.Three.{Three}
use Rattle.section.specs.declared.shares.Share.{Share}
use Rattle.grid_section.specs.Shares.{shares_of, positions_in, owned_on, is_place_by}
use Rattle.grid_section.proofs.ShareLaws.{is-place-are}
use Rattle.grid_fill.specs.declared.ready.Start.{Start}
use Rattle.grid_fill.specs.Rows.{grid_walk}
use Rattle.grid_fill.specs.Plans.{SourceOf, PlaceIn}
use Rattle.grid_fill.specs.Ready.{start_of, ready_of, Accepted, FillsFrom}
use Rattle.grid_fill.specs.Answers.{GridFilledBytes}

-- an answer about numbers that the machine reads back is one about the numbers
pub of-parameters : (x : GridSection) (q t z : ℤ) {r : Result Start ℕ} → SFits w64 q → SFits w64 t → SFits w64 z
    → r ≡ ready_of x (back w64 q) (back w64 t) (back w64 z) → r ≡ ready_of x q t z
of-parameters x q t z f g h e = e ∙ (λ i. ready_of x (to_z-of_z w64 q f i) (to_z-of_z w64 t g i) (to_z-of_z w64 z h i))

-- what a yes to question 10 says
place-in : (s : Three Share) (t : ℤ) → is_place_by s t ≡ true → PlaceIn s (nat t)
place-in s t e =
    let n : ℕ = positions_in s in
    let inside = ltb (nat t) n && owned_on s (nat t) in
    let yes-to = (both_true (le_z (pos 0) t) (eqb (nat t) n || inside) e).1 in
    elim (either_true (eqb (nat t) n) inside yes-to) [
      | inl p ↦
          let z : nat t ≡ n = eqb-true (nat t) n p in
          record { within = omega arith; owned = λ h. absurd (omega arith) }
      | inr p ↦
          let both = both_true (ltb (nat t) n) (owned_on s (nat t)) p in
          record { within = omega (arith, ltb-true (nat t) n both.0); owned = λ h. both.1 }
    ]

module _ (x : GridSection) (q t z : ℤ) where
  abbrev call : List ℕ → GridFill
  call l = record { section = x; processor = q; place = t; quota = z; list = l }

  abbrev bytes_call : List ℕ → GridByteFill
  bytes_call bs = record { section = x; processor = q; place = t; quota = z; bytes = bs }

  abbrev a : Axis
  a = grid_axis (sections_of x)

  -- the first question that is answered no
  no-to : ℕ
  no-to = first_no (of_grid_fill (call []))

  -- ---- what a yes to all of them says

  record Said : Type 0 where
    section : first_no (of_grid_section x) ≡ 0
    processor : nat q < a.array.processors
    place : is_place_on a q t ≡ true
    quota : Natural z 3 1000000

  said : no-to ≡ 0 → Said
  unfolding no-to nat
  said e =
      let end = (ask 10 (is_place_on a q t) ∷ []) ++ of_quota z in
      let rest = both_yes (of_grid_place x q) end refl e in
      let front = both_yes (of_grid_section x) (of_grid_processor a.array q) refl rest.0 in
      let last = all_yes end refl rest.1 in
      record {
        section = front.0;
        processor = (below-is q (pos a.array.processors) (all_yes (of_grid_processor a.array q) refl front.1).0).below;
        place = last.0;
        quota = between_is 3 1000000 z last.1.0;
      }

  -- the shares are those of a processor of an accepted section
  sourced : no-to ≡ 0 → (let s : Start = start_of (sections_of x) q t z in SourceOf s.shares s.elements s.rows x)
  unfolding grid_axis strided_of layout
  sourced e =
      let p : ℕ = (axis_of (sections_of x).first).array.processors in
      let r : ℕ = (axis_of (sections_of x).second).array.processors in
      let y = said e in
      record {
        accepted = y.section;
        first = record { share = refl; processor = mod-lt (nat q) (bounded (sections_of x).first (first-yes x y.section)).sized.processors-pos };
        second = record { share = refl; processor = mod-lt (nat q / p) (bounded (sections_of x).second (second-yes x y.section)).sized.processors-pos };
        third = record { share = refl; processor = second_lt r _ (nat q / p) (second_lt p _ (nat q) y.processor) };
        elements-are = refl;
        rows_are = refl;
      }

  accepted : no-to ≡ 0 → Accepted (start_of (sections_of x) q t z)
  accepted e =
      let y = said e in
      record {
        source = x;
        shares = sourced e;
        place = place-in (shares_of x (nat q)) t (sym (is-place-are x y.section q t y.processor) ∙ y.place);
        least = y.quota.from;
        most = y.quota.upto;
      }

  -- ---- what the answer says of the questions

  record Passed (s : Start) : Type 0 where
    none : no-to ≡ 0
    start : s ≡ start_of (sections_of x) q t z

  passed : (s : Start) → ready_of x q t z ≡ Ok s → Passed s
  unfolding ready_of no-to
  passed s e = let y = says-yes no-to (start_of (sections_of x) q t z) s e in record { none = y.0; start = y.1 }

  -- a fill that passed is one of an accepted section
  pub taken : (s : Start) → ready_of x q t z ≡ Ok s → Accepted s
  taken s e = let p = passed s e in subst Accepted (sym p.start) (accepted p.none)

  record Stopped (n : ℕ) : Type 0 where
    first : no-to ≡ n
    some : n ≡ 0 → ⊥

  refused : (n : ℕ) → ready_of x q t z ≡ Err n → Stopped n
  unfolding ready_of no-to
  refused n e = let y = says-no no-to (start_of (sections_of x) q t z) n e in record { first = y.0; some = y.1 }

  -- ---- the fill that is asked for, in each case

  abbrev outcome : ℕ → Filled → List ℕ → Outcome
  outcome n f l = record { refusal = n; filled = cond (eqb n 0) f (stopped 0 l) }

  runs : (s : Start) → ready_of x q t z ≡ Ok s → (l : List ℕ)
      → record { refusal = 0; filled = fill_by (grid_walk x) s.place.0 s.quota l } ≡ grid_fill (call l)
  unfolding grid_fill answer grid_request_of no-to
  runs s e l =
      let p = passed s e in
      λ i. outcome (sym p.none i) (fill_by (grid_walk x) (p.start i).place.0 (p.start i).quota l) l

  stays : (n : ℕ) → ready_of x q t z ≡ Err n → (l : List ℕ) → record { refusal = n; filled = stopped 0 l } ≡ grid_fill (call l)
  unfolding grid_fill answer grid_request_of no-to
  stays n e l = let s = refused n e in rw (s.first, ne_eqb n 0 s.some)

  -- ---- bytes

  -- an outcome's addresses stored
  abbrev stored : List ℕ → Outcome → List ℕ
  stored bs o = bytes_by bs o.filled

  pub bytes-done : (s : Start) (bs bs' : List ℕ) (r : Report) → ready_of x q t z ≡ Ok s → FillsFrom s bs bs' r
      → GridFilledBytes (bytes_call bs) bs' (Ok r)
  unfolding in_words grid_bytes_after
  bytes-done s bs bs' r e h =
      let p = passed s e in
      let b = h x (subst (λ (v : Start). SourceOf v.shares v.elements v.rows x) (sym p.start) (sourced p.none)) in
      let o = runs s e (words_of 4 bs) in (
        (λ i. record { refusal = 0; entries = b.entries i; tries = b.tries i; place = b.place i }) ∙ ap report_of o,
        b.bytes ∙ ap (stored bs) o,
        tt,
      )

  -- a refused fill stores nothing
  pub bytes-refused : (r : Refusal) (bs : List ℕ) → ready_of x q t z ≡ Err (number r) → GridFilledBytes (bytes_call bs) bs (Err r)
  unfolding in_words grid_bytes_after store_entries
  bytes-refused r bs e = let o = stays (number r) e (words_of 4 bs) in (ap report_of o, ap (stored bs) o, told-apart {A = Report} (Err r))
