-- `put_higher` meets its contract. The invariant: storing what is left into the list as it is comes to the same, and the words
-- that are still to be read are as they were.
use Prim.Native.Nat.{ℕ, suc, ◌+◌, ◌-◌, ◌/◌, ◌%◌, ◌≤◌, ◌<◌}
use mathlib.Core.Path.{◌≡◌, refl, sym, ap, ◌∙◌}
use mathlib.Core.Logic.{◌⊎◌, inl, inr}
use mathlib.Core.List.{List}
use native.Mathlib.Nat.{mod-lt, add-zero}
use native.Mathlib.Omega.{arith}
use lib.ListN.{length, get_or, take, drop}
use lib.Seq.{drop-cons, get_or-set_other}
use Rattle.numbers.specs.Words.{words_of}
use Rattle.numbers.proofs.WordLaws.{words-length, words-store}
use Rattle.model.specs.ByteFills.{store_entry, store_entries}
use Rattle.grid_fill.specs.Entries.{higher}
use Rattle.grid_fill.proofs.entries.put_higher.Invariants.{left}
use Rattle.grid_fill.proofs.entries.put_higher.Goals as goal
use Rattle.grid_fill.proofs.entries.put_higher.Goals.{In-loop-i}

-- one entry stored, and the rest after it
on : (l₀ l : List ℕ) (from to n add i : ℕ) → i < n → from + n ≤ length l₀ / 4
    → store_entries (store_entry l (to + i) ((get_or (words_of 4 l₀) (from + i) 0 + add) % 4294967296)) (to + (i + 1)) (left l₀ from n add (i + 1))
    ≡ store_entries l (to + i) (left l₀ from n add i)
unfolding store_entries
on l₀ l from to n add i h room =
    let more : n - i ≡ suc (n - (i + 1)) = omega arith in
    let next : to + (i + 1) ≡ suc (to + i) = omega arith in
    let start : from + (i + 1) ≡ suc (from + i) = omega arith in
    rw (more, next, start, drop-cons (words_of 4 l₀) (from + i) 0 (omega (arith, words-length 4 l₀)))

-- another word is as it was
other : (from to n i j : ℕ) → (from ≡ to) ⊎ (from + n ≤ to) → i < j → j < n → from + j ≡ to + i → ⊥
other from to n i j (inl e) h l s = omega arith
other from to n i j (inr e) h l s = omega arith

room_of : (from to n len : ℕ) → (from ≡ to) ⊎ (from + n ≤ to) → to + n ≤ len → from + n ≤ len
room_of from to n len (inl e) h = omega arith
room_of from to n len (inr e) h = omega arith

pub loop-i-init : goal.loop-i-init
loop-i-init c = (rw (add-zero c.args.to), λ j h l. refl)

-- the entries read and put are there
reads : (c : In-loop-i) → (c.args.from + c.args.n ≤ length c.loop-i.list / 4) × (c.args.to + c.args.n ≤ length c.loop-i.list / 4)
reads c = rw c.loop-i.auto.list (room_of c.args.from c.args.to c.args.n _ c.requires.1 c.requires.0, c.requires.0)

pub overflow_add-from : goal.overflow_add-from
overflow_add-from c = omega (arith, (reads (goal.at.overflow_add-from c).In-loop-i).0, c.loop-i-test.true, c.loop-i.auto.list)

pub word_at-x-requires : goal.word_at-x-requires
word_at-x-requires c = omega (arith, (reads (goal.at.word_at-x-requires c).In-loop-i).0, c.loop-i-test.true)

pub overflow_add-to : goal.overflow_add-to
overflow_add-to c = omega (arith, (reads (goal.at.overflow_add-to c).In-loop-i).1, c.loop-i-test.true, c.loop-i.auto.list)

pub overflow_add-x : goal.overflow_add-x
overflow_add-x c = omega (arith, c.requires.2)

pub overflow_cast-x-in-loop-i : goal.overflow_cast-x-in-loop-i
overflow_cast-x-in-loop-i c =
    let low : (c.word_at-x.result + c.args.add) % 4294967296 < 4294967296 = mod-lt _ (omega arith) in
    omega (arith, low)

pub put_entry-requires : goal.put_entry-requires
put_entry-requires c = omega (arith, (reads (goal.at.put_entry-requires c).In-loop-i).1, c.loop-i-test.true)

pub loop-i-preserved : goal.loop-i-preserved
loop-i-preserved c =
    let read : c.word_at-x.result ≡ get_or (words_of 4 c.args.list.now) (c.args.from + c.loop-i.i) 0 = c.word_at-x.ensures ∙ c.loop-i.invariant.1 c.loop-i.i (omega arith) c.loop-i-test.true in
    let x : ℕ = (get_or (words_of 4 c.args.list.now) (c.args.from + c.loop-i.i) 0 + c.args.add) % 4294967296 in
    let low : x < 4294967296 = mod-lt _ (omega arith) in
    let is : c.put_entry.new.list ≡ store_entry c.loop-i.list (c.args.to + c.loop-i.i) x =
    c.put_entry.ensures ∙ ap (λ (z : ℕ). store_entry c.loop-i.list (c.args.to + c.loop-i.i) ((z + c.args.add) % 4294967296)) read in (
      ap (λ (z : List ℕ). store_entries z (c.args.to + (c.loop-i.i + 1)) (left c.args.list.now c.args.from c.args.n c.args.add (c.loop-i.i + 1))) is
          ∙ on c.args.list.now c.loop-i.list c.args.from c.args.to c.args.n c.args.add c.loop-i.i c.loop-i-test.true (omega (arith, (reads (goal.at.loop-i-preserved c).In-loop-i).0, c.loop-i.auto.list))
          ∙ c.loop-i.invariant.0,
      λ j h k.
          ap (λ (z : List ℕ). get_or (words_of 4 z) (c.args.from + j) 0) is
          ∙ ap (λ (z : List ℕ). get_or z (c.args.from + j) 0) (words-store 4 (c.args.to + c.loop-i.i) x c.loop-i.list (omega (arith, (reads (goal.at.loop-i-preserved c).In-loop-i).1, c.loop-i-test.true)) low)
          ∙ get_or-set_other (words_of 4 c.loop-i.list) (c.args.to + c.loop-i.i) (c.args.from + j) x 0 (other c.args.from c.args.to c.args.n c.loop-i.i j c.requires.1 (omega arith) k)
          ∙ c.loop-i.invariant.1 j (omega arith) k,
    )

pub returns : goal.returns
unfolding store_entries
returns c =
    let none : c.args.n - c.loop-i.i ≡ 0 = omega (arith, c.loop-i-test.false) in
    let all : c.args.n - 0 ≡ c.args.n = omega arith in
    sym (ap (λ (m : ℕ). store_entries c.loop-i.list (c.args.to + c.loop-i.i) (higher c.args.add (take m (drop (c.args.from + c.loop-i.i) (words_of 4 c.args.list.now))))) none)
    ∙ c.loop-i.invariant.0
    ∙ rw (all, add-zero)
