-- Each part is the front of what was left to print.
use Prim.Native.Nat.{ℕ, suc, ◌+◌, ◌-◌, ◌^◌, ◌≤◌, ◌<◌}
use mathlib.Core.Path.{◌≡◌, sym, ◌∙◌, ap}
use mathlib.Core.List.{List, [], ◌∷◌, ◌++◌, map, map-append, append_assoc, append-nil}
use native.Mathlib.Nat.{sub-zero}
use native.Mathlib.Numerals.{add-one}
use native.Mathlib.Omega.{arith}
use borrow.Author.Tests.{ne_eqb}
use lib.ListN.{length, take, drop, take-append-drop}
use lib.Seq.{length-take-le}
use Rattle.std.specs.Prelude.{Ok, Err}
use Rattle.numbers.specs.Search.{sum}
use Rattle.model.specs.Mappings.{Section}
use Rattle.model.specs.Sections.{layout, count, address, places}
use Rattle.model.specs.Steps.{cost}
use Rattle.section.specs.declared.questions.Strided.{Strided}
use Rattle.section.specs.Strides.{strided_of}
use Rattle.section.specs.Answers.{asked_of}
use Rattle.section.proofs.CallAnswers.{passed, stopped}
use Rattle.print.specs.declared.fills.Listed.{Listed}
use Rattle.print.specs.declared.fills.Rest.{Rest}
use Rattle.print.specs.declared.fills.Gone.{Gone}
use Rattle.print.specs.declared.parts.Turn.{Turn}
use Rattle.print.specs.declared.parts.Turn.TheVariants.{Line, Addresses, Done}
use Rattle.print.specs.Texts.{section_line, refusal_line, sheet_line, processor_line, processor_lines, section_text, next_numbers, line_front, Puts}
use Rattle.print.specs.Ahead.{listed, Fair, Owner, rest_of, StandsIn, Went}
use Rattle.print.specs.Turns.{lines_from, text_left, Stands, PartOf}
use Rattle.print.proofs.PutLaws.{put-length, in-front, some-digits}
use Rattle.print.proofs.LineLaws.{section-length, refusal-length, sheet-length, front_length, word-digits, long-digits, next-append, line-is, some-numbers, no_text}
use Rattle.print.proofs.AheadLaws.{left_is, places-few}
use Rattle.print.proofs.WentLaws.{tries-few}

-- a text that was put, before what is left
pub part_of : {text s out after : List ℕ} {n : ℕ} {t : Turn} → Puts s out 0 after n → length s ≤ length out → 0 < length s
    → text ≡ s ++ text_left t → Stands t → PartOf text after (record { bytes = n; next = t })
part_of {text} {s} {out} {after} {n} {t} p fits some e stands =
    record {
      within = omega (arith, p.ends, put-length p);
      printed = rw (in-front p fits) e;
      stands = stands;
      last = λ z. absurd (omega (arith, p.ends));
    }

-- ---- which line is next

module _ (y : Listed) (f : Fair y) (q : ℕ) where
  pub owner_of : q < y.strided.layout.processors → Owner y q
  unfolding strided_of
  owner_of h = record { fair = f; processor = rw f.same at h }

  pub no_lines : y.strided.layout.processors ≤ q → [] ≡ lines_from (listed y) q
  unfolding strided_of processor_lines
  no_lines h =
      let k : (layout (listed y)).processors ≤ q = rw f.same at h in
      let z : (layout (listed y)).processors - q ≡ 0 = omega arith in
      rw z

-- ---- the first line

module _ (j : ℕ) (x : Section) {out after : List ℕ} {n : ℕ} where
  pub first_by : (w : Strided) → asked_of x ≡ Ok w → Puts (section_line j w.count) out 0 after n → length (section_line j w.count) ≤ length out
      → {t : Turn} → text_left t ≡ lines_from x 0 → Stands t → PartOf (section_text j x) after (record { bytes = n; next = t })
  unfolding section_text strided_of
  first_by w a p fits {t} e stands =
      let v = passed x w a in
      let all : (layout x).processors - 0 ≡ (layout x).processors = sub-zero _ in
      let c : w.count ≡ count x = ap (λ (z : Strided). z.count) v.strided in
      part_of p fits (omega (arith, section-length j w.count)) (rw (v.none, c, e, all)) stands

  pub first-refused : (e : ℕ) → asked_of x ≡ Err e → Puts (refusal_line j e) out 0 after n → length (refusal_line j e) ≤ length out
      → PartOf (section_text j x) after (record { bytes = n; next = Done })
  unfolding section_text
  first-refused e a p fits =
      let v = stopped x e a in
      part_of p fits (omega (arith, refusal-length j e)) (rw (v.first, ne_eqb e 0 v.some) (sym (append-nil _))) tt

pub section-fits : (j n : ℕ) → j < 2 ^ 64 → n < 2 ^ 64 → length (section_line j n) ≤ 64
section-fits j n h k = omega (arith, section-length j n, long-digits j h, long-digits n k)

pub refusal-fits : (j e : ℕ) → j < 2 ^ 64 → e < 2 ^ 32 → length (refusal_line j e) ≤ 64
refusal-fits j e h k = omega (arith, refusal-length j e, long-digits j h, word-digits e k)

pub sheet-fits : (n : ℕ) → n < 2 ^ 64 → length (sheet_line n) ≤ 64
sheet-fits n h = omega (arith, sheet-length n, long-digits 14 (omega arith), long-digits n h)

-- ---- a processor's line

module _ (y : Listed) (q : ℕ) (o : Owner y q) where
  abbrev x : Section
  x = listed y

  lines-from : lines_from x q ≡ processor_line x q ++ lines_from x (suc q)
  unfolding processor_lines
  lines-from =
      let e : (layout x).processors - q ≡ suc ((layout x).processors - suc q) = omega (arith, o.processor) in
      rw e

  -- its front
  pub front_fits : (r : Rest) → StandsIn x q r → rest_of x q r ≡ places x q → (t : ℕ) → t ≡ sum (map (cost x) (places x q)) → q < 2 ^ 64
      → length (line_front q r.left t) ≤ 64
  front_fits r s e t d h =
      let few = places-few x q o.fair.accepted in
      let n : r.left < 2 ^ 32 = omega (arith, left_is x q s, ap length e) in
      omega (
        arith,
        front_length q r.left t,
        long-digits q h,
        word-digits r.left n,
        long-digits t (omega (arith, tries-few x o.fair.accepted q)),
      )

  pub front-part-of : {out after : List ℕ} {n : ℕ} (r : Rest) → StandsIn x q r → rest_of x q r ≡ places x q → (t : ℕ) → t ≡ sum (map (cost x) (places x q))
      → Puts (line_front q r.left t) out 0 after n → length (line_front q r.left t) ≤ length out
      → PartOf (text_left (Line y q)) after (record { bytes = n; next = Addresses y q r })
  unfolding processor_line
  front-part-of r s e t d p fits =
      let left : r.left ≡ length (places x q) = left_is x q s ∙ ap length e in
      let ps = places x q in
      let line = line-is q (length ps) (sum (map (cost x) ps)) (map (address x) ps) in
      part_of p fits (omega (arith, front_length q r.left t, some-digits q))
      (lines-from ∙ rw (line, e, left, d) (simp append_assoc)) (o, s)

  -- its newline
  pub newline-part-of : {out after : List ℕ} {n : ℕ} (r : Rest) → StandsIn x q r → r.left ≡ 0 → Puts (10 ∷ []) out 0 after n → 1 ≤ length out
      → {t : Turn} → text_left t ≡ lines_from x (q + 1) → Stands t → PartOf (text_left (Addresses y q r)) after (record { bytes = n; next = t })
  newline-part-of r s z p fits e stands = part_of p fits (omega arith) (rw (none_left, e, add-one)) stands
    where
      none_left : next_numbers (map (address x) (rest_of x q r)) ≡ []
      none_left = no_text (address x) (rest_of x q r) (omega (arith, left_is x q s))

  -- addresses of it
  pub addresses-part-of : {out after list before : List ℕ} {n : ℕ} (r : Rest) → StandsIn x q r → 0 < r.left → 0 < length before
      → {g : Gone} → Went x q r before list g → Puts (next_numbers (take g.entries list)) out 0 after n → n ≤ length out
      → PartOf (text_left (Addresses y q r)) after (record { bytes = n; next = Addresses y q g.rest })
  addresses-part-of {out} {after} {list} {before} {n} r s h k {g} v p fits =
      part_of p (omega (arith, p.ends)) (some-numbers (take g.entries list) (omega (arith, v.some h k, length-take-le g.entries list v.few)))
      (rw (v.addresses, v.rest) split) (o, v.stands)
    where
      ps : List ℕ
      ps = rest_of x q r

      m : ℕ
      m = g.entries

      lines : List ℕ
      lines = 10 ∷ lines_from x (suc q)

      split : next_numbers (map (address x) ps) ++ lines ≡ next_numbers (map (address x) (take m ps)) ++ (next_numbers (map (address x) (drop m ps)) ++ lines)
      split =
          ap (λ (l : List ℕ). next_numbers (map (address x) l) ++ lines) (sym (take-append-drop m ps))
          ∙ rw (map-append (address x) (take m ps) (drop m ps), next-append) (simp append_assoc)
