-- Save and load: what each writes, that they undo each other, and the restart under another mapping. Assumes nothing.
use Prim.Native.Nat.{ℕ, ◌≤◌, ◌<◌}
use mathlib.Core.Path.{◌≡◌, refl, sym, ap, ◌∙◌}
use mathlib.Core.List.{List, ◌++◌}
use native.Mathlib.Omega.{arith}
use lib.Dec.{leb}
use lib.ListN.{length, get_or, take, drop, take-append-drop}
use lib.Seq.{length-take-le, get_or-take, ext_get_or}
use borrow.Author.Tests.{eq-eqb, ne_eqb, leb-true, le-leb}
use Rattle.numbers.proofs.Tests.{both_true}
use Rattle.model.specs.Mappings.{Mapping}
use Rattle.model.specs.Ownership.{layout_of, owner}
use Rattle.model.specs.Questions.{first_no, of_mapping, Passes}
use Rattle.model.specs.Storages.{OneToOne, copied}
use Rattle.model.specs.Checkpoints.{CopyCall, copy_of, words_in, of_words, of_copy, copying, place_of, in_order, after_copy, saved, loaded}
use Rattle.model.specs.Checkpoints.{Room, front_of, Checkpoints}
use Rattle.model.specs.Demand1.{Answers, WordsCopied, NoneCopied}
use Rattle.model.proofs.QuestionLaws.{all_yes, none-no, both_yes, asks-on}
use Rattle.model.proofs.AnsweredLaws.{either-of}
use Rattle.model.proofs.Demand2Holds.{owner-lt}
use Rattle.model.proofs.StorageLaws.{one-to-one}
use Rattle.model.proofs.CopyLaws.{copied-length, copied-rest, copied_at}

-- ---- places

pub places : (m : Mapping) → Passes m → OneToOne (words_in m) (place_of m)
unfolding layout_of
places m ok =
    one-to-one (owner m) (layout_of m).processors (words_in m) (owner-lt m ok)

in_order_lem : (n : ℕ) → OneToOne n in_order
in_order_lem n = record { below = λ i h. h; once = λ i j h k e. e; each = λ y h. (y, h, refl) }

-- ---- a copy between lists with room

module _ (n : ℕ) (from to : ℕ → ℕ) (o : OneToOne n to) (s l : List ℕ) (room : n ≤ length l) where
  word_at : (i : ℕ) → i < n → get_or (copied from to n s l) (to i) 0 ≡ get_or s (from i) 0
  word_at i h = copied_at from to n s l o.once (λ j k. omega (arith, o.below j k)) i h

  rest-stays : drop n (copied from to n s l) ≡ drop n l
  rest-stays = copied-rest from to n n s l o.below

-- a list whose first n words are those of s
front-is : (n : ℕ) (s l x : List ℕ) → n ≤ length s → n ≤ length x → ((y : ℕ) → y < n → get_or x y 0 ≡ get_or s y 0) → drop n x ≡ drop n l
    → x ≡ front_of n s l
front-is n s l x in-s in-x same rest =
    sym (take-append-drop n x) ∙ (λ i. front i ++ rest i)
  where
    front : take n x ≡ take n s
    front =
        ext_get_or 0 (take n x) (take n s) (length-take-le n x in-x ∙ sym (length-take-le n s in-s))
        (λ y h.
        let k : y < n = omega (arith, length-take-le n x in-x) in
        get_or-take n x y 0 k ∙ same y k ∙ sym (get_or-take n s y 0 k))

-- there and back
undone : (n : ℕ) (a b : ℕ → ℕ) → OneToOne n a → OneToOne n b → (s w l : List ℕ) → n ≤ length s → n ≤ length w → n ≤ length l
    → copied b a n (copied a b n s w) l ≡ front_of n s l
undone n a b oa ob s w l in-s in-w in-l =
    front-is n s l (copied b a n (copied a b n s w) l) in-s (omega (arith, copied-length b a n (copied a b n s w) l)) back
    (rest-stays n b a oa (copied a b n s w) l in-l)
  where
    back : (y : ℕ) → y < n → get_or (copied b a n (copied a b n s w) l) y 0 ≡ get_or s y 0
    back y h =
        let e = oa.each y h in
        rw (← e.2) (word_at n b a oa (copied a b n s w) l in-l e.0 e.1 ∙ word_at n a b ob s w in-w e.0 e.1)

-- ---- a call

-- what a yes to all questions says
pub record Accepted (c : CopyCall) : Type 0 where
  pub mapping : Passes c.mapping
  pub read : Room c.mapping c.read
  pub written : Room c.mapping c.written

pub accepted : (c : CopyCall) → first_no (of_copy c) ≡ 0 → Accepted c
accepted c e =
    let n : ℕ = words_in c.mapping in
    let r = both_yes (of_mapping c.mapping) (of_words n c.read c.written) refl e in
    let y = (all_yes (of_words n c.read c.written) refl r.1).0 in
    let b = both_true (leb n (length c.read)) (leb n (length c.written)) y in
    record { mapping = r.0; read = leb-true n (length c.read) b.0; written = leb-true n (length c.written) b.1 }

module _ (m : Mapping) (ok : Passes m) (s l : List ℕ) (in-s : Room m s) (in-l : Room m l) where
  pub accepts : first_no (of_copy (copy_of m s l)) ≡ 0
  accepts =
      asks-on (of_mapping m) (of_words (words_in m) s l) (all_yes (of_mapping m) refl ok)
      ∙ none-no (of_words (words_in m) s l) (rw (le-leb (words_in m) (length s) in-s, le-leb (words_in m) (length l) in-l) refl, tt)

  after_is : (from to : ℕ → ℕ) → after_copy from to (copy_of m s l) ≡ copied from to (words_in m) s l
  unfolding after_copy
  after_is from to = rw (eq-eqb (first_no (of_copy (copy_of m s l))) 0 accepts)

  after-length : (from to : ℕ → ℕ) → length (after_copy from to (copy_of m s l)) ≡ length l
  after-length from to = ap length (after_is from to) ∙ copied-length from to (words_in m) s l

module _ (m : Mapping) (ok : Passes m) where
  -- both ways
  undoes : (a b : ℕ → ℕ) → OneToOne (words_in m) a → OneToOne (words_in m) b
      → (s w l : List ℕ) → Room m s → Room m w → Room m l
      → after_copy b a (copy_of m (after_copy a b (copy_of m s w)) l) ≡ front_of (words_in m) s l
  undoes a b oa ob s w l in-s in-w in-l =
      let same = after_is m ok s w in-s in-w a b in
      after_is m ok (after_copy a b (copy_of m s w)) l (omega (arith, after-length m ok s w in-s in-w a b)) in-l b a
      ∙ ap (λ (x : List ℕ). copied b a (words_in m) x l) same
      ∙ undone (words_in m) a b oa ob s w l in-s in-w in-l

-- one mapping's storage, saved and loaded into another's
restarts : (m m' : Mapping) → Passes m → Passes m' → words_in m ≡ words_in m' → (s w l : List ℕ) → Room m s → Room m w → Room m' l
    → (i : ℕ) → i < words_in m → get_or (loaded (copy_of m' (saved (copy_of m s w)) l)) (place_of m' i) 0 ≡ get_or s (place_of m i) 0
restarts m m' ok ok' e s w l in-s in-w in-l i h =
    let w' : List ℕ = saved (copy_of m s w) in
    let in-w' : Room m' w' = omega (arith, after-length m ok s w in-s in-w (place_of m) in_order) in
    ap (λ (x : List ℕ). get_or x (place_of m' i) 0) (after_is m' ok' w' l in-w' in-l in_order (place_of m'))
    ∙ word_at (words_in m') in_order (place_of m') (places m' ok') w' l in-l i (omega arith)
    ∙ ap (λ (x : List ℕ). get_or x i 0) (after_is m ok s w in-s in-w (place_of m) in_order)
    ∙ word_at (words_in m) (place_of m) in_order (in_order_lem (words_in m)) s w in-w i h

pub checkpoints : Checkpoints
checkpoints = record {
  places = places;
  save-load = λ m ok. undoes m ok (place_of m) in_order (places m ok) (in_order_lem (words_in m));
  load-save = λ m ok. undoes m ok in_order (place_of m) (in_order_lem (words_in m)) (places m ok);
  restart = restarts;
}

-- ---- demand 1

module _ (from to : ℕ → ℕ) (c : CopyCall) (o : Passes c.mapping → OneToOne (words_in c.mapping) to) where
  numbers-answer : Answers (copying c) (λ a. a.refusal) (of_copy c) (λ a. a.needed ≡ 0)
      (λ a. (a.refusal ≡ 13 → a.needed ≡ words_in c.mapping) × ((a.refusal ≡ 13 → ⊥) → a.needed ≡ 0))
  unfolding copying
  numbers-answer =
      let e : ℕ = first_no (of_copy c) in
      either-of _ _ _ (of_copy c) refl _ _ refl refl refl ((λ z. rw (eq-eqb e 13 z)), (λ f. rw (ne_eqb e 13 f)))

  written-accepted : (copying c).refusal ≡ 0 → WordsCopied from to c (after_copy from to c) (copying c)
  written-accepted e =
      let none : first_no (of_copy c) ≡ 0 = sym numbers-answer.first ∙ e in
      let a = accepted c none in
      let n : ℕ = words_in c.mapping in
      let is = after_is c.mapping a.mapping c.read c.written a.read a.written from to in (
        numbers-answer.accepted e,
        λ i h. ap (λ (x : List ℕ). get_or x (to i) 0) is ∙ word_at n from to (o a.mapping) c.read c.written a.written i h,
        ap (drop n) is ∙ rest-stays n from to (o a.mapping) c.read c.written a.written,
        after-length c.mapping a.mapping c.read c.written a.read a.written from to,
      )

  written-refused : ((copying c).refusal ≡ 0 → ⊥) → after_copy from to c ≡ c.written
  unfolding after_copy
  written-refused f = rw (ne_eqb (first_no (of_copy c)) 0 (λ z. f (numbers-answer.first ∙ z)))

  pub copy-answers : Answers (copying c) (λ a. a.refusal) (of_copy c) (WordsCopied from to c (after_copy from to c)) (NoneCopied c (after_copy from to c))
  copy-answers = record {
    first = numbers-answer.first;
    every = numbers-answer.every;
    accepted = written-accepted;
    refused = λ f. let v = numbers-answer.refused f in (v.0, v.1, written-refused f);
  }

pub save-answers : (c : CopyCall) → Answers (copying c) (λ a. a.refusal) (of_copy c) (WordsCopied (place_of c.mapping) in_order c (saved c)) (NoneCopied c (saved c))
save-answers c = copy-answers (place_of c.mapping) in_order c (λ ok. in_order_lem (words_in c.mapping))

pub load-answers : (c : CopyCall) → Answers (copying c) (λ a. a.refusal) (of_copy c) (WordsCopied in_order (place_of c.mapping) c (loaded c)) (NoneCopied c (loaded c))
load-answers c = copy-answers in_order (place_of c.mapping) c (places c.mapping)
