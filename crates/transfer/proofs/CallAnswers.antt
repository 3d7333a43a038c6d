-- What `transfers` answers and leaves in the lists, from the answer to the questions of the pair.
use Prim.Native.Nat.{ℕ}
use mathlib.Core.Path.{◌≡◌, refl, sym, ap, ◌∙◌}
use mathlib.Core.Bool.{Bool, true, false, cond}
use native.Mathlib.Omega.{arith}
use borrow.Author.Tests.{ne_eqb}
use lib.IntN.{ℤ}
use lib.ListN.{length}
use Rattle.std.specs.Prelude.{Result, Ok, Err, IsErrAnd}
use Rattle.std.proofs.lemmas.Result.{err_from_is_err_and}
use Rattle.model.specs.declared.refusals.Refusal.{Refusal}
use Rattle.model.specs.declared.refusals.ListError.{ListError}
use Rattle.model.specs.declared.refusals.ListError.TheVariants.{Needs, Refused}
use Rattle.model.specs.Mappings.{Section}
use Rattle.model.specs.Ownership.{nat}
use Rattle.model.specs.Sections.{address}
use Rattle.model.specs.Questions.{first_no}
use Rattle.model.specs.Calls.{ToldApart}
use Rattle.model.specs.Transfers.{Lists, TransferCall, pair_places, places_of, of_pair, of_room, of_transfer, entries_of, transfers, with_entries, lists_after}
use Rattle.model.proofs.QuestionLaws.{all_yes, asks-on, stops, never}
use Rattle.transfer.specs.declared.questions.Pair.{Pair}
use Rattle.transfer.specs.Pairs.{pair_of, pair_asked}
use Rattle.transfer.specs.Answers.{call_of, transferred_as, transferred_refusals, rising, has_room, listed_in, rising_lists, lists_in}
use Rattle.transfer.proofs.PairAnswers.{Passed, pair-passed, pair-stopped}
use Rattle.transfer.proofs.PairLists.{same-places, same_lists}

-- what `?` returns, from what its conversion ensures of the refusal
pub turned : {A : Type 0} (r : Result A ListError) (e : Refusal) → IsErrAnd r (λ f. f ≡ Refused e) → r ≡ Err (Refused e)
turned r e h = let p = err_from_is_err_and r h in p.1 ∙ ap Err p.2

-- an accepted pair holds no refusal's number
pub told-by : (p : Pair) (x : Lists) → ToldApart (transferred_refusals (listed_in p x))
told-by p x = go (has_room (length (rising p)) x)
  where
    go : (b : Bool) → ToldApart (transferred_refusals (cond b (Ok (length (rising p))) (Err (Needs (length (rising p))))))
    go true = tt
    go false = tt

module _ (left right : Section) (q m : ℤ) (x : Lists) where
  abbrev call : TransferCall
  call = call_of left right q m x

  -- ---- the pair is refused

  module _ (e : ℕ) (r : pair_asked left right q m ≡ Err e) where
    some : e ≡ 0 → ⊥
    some = (pair-stopped left right q m e r).1

    first : first_no (of_transfer call) ≡ e
    first =
        let f = (pair-stopped left right q m e r).0 in
        stops (of_pair left right q m) (of_room (entries_of call) x) (λ z. some (sym f ∙ z)) ∙ f

    not-room : e ≡ 13 → ⊥
    not-room z =
        let f = (pair-stopped left right q m e r).0 in
        absurd (let n : ◌≡◌ {A = ℕ} 13 0 = never 13 (of_pair left right q m) refl (f ∙ z) in omega arith)

    pub answer-refused : record { refusal = e; entries = 0; needed = 0 } ≡ transfers call
    unfolding transfers
    answer-refused = rw (first, ne_eqb e 0 some, ne_eqb e 13 not-room)

    pub lists-refused : x ≡ lists_after call
    unfolding lists_after
    lists-refused = rw (first, ne_eqb e 0 some)

  -- ---- the pair passed

  module _ (p : Pair) (r : pair_asked left right q m ≡ Ok p) where
    passed : Passed left right q m p
    passed = pair-passed left right q m p r

    n : ℕ
    n = entries_of call

    same : rising (pair_of left right q m) ≡ pair_places left right (nat q) (nat m)
    same = same-places left right passed.left-none passed.right-none passed.counts (nat q) (nat m)

    n-is : length (rising p) ≡ n
    unfolding n entries_of
    n-is = ap (λ (z : Pair). length (rising z)) passed.pair ∙ ap length same

    -- question 13 decides
    after-pair : first_no (of_transfer call) ≡ first_no (of_room (entries_of call) x)
    after-pair = asks-on (of_pair left right q m) (of_room (entries_of call) x) (all_yes (of_pair left right q m) refl passed.none)

    decided : (b : Bool) → has_room n x ≡ b → first_no (of_transfer call) ≡ cond b 0 13
    unfolding first_no n
    decided b e = after-pair ∙ ap (λ (z : Bool). cond z 0 13) e

    pub answer-by : transferred_as (listed_in p x) ≡ transfers call
    unfolding transfers n
    answer-by = go (has_room n x) refl
      where
        go : (b : Bool) → has_room n x ≡ b → transferred_as (listed_in p x) ≡ transfers call
        go true e = rw (decided true e, n-is, e)
        go false e = rw (decided false e, n-is, e)

    lists-are : rising_lists p x ≡ with_entries (places_of call) (address right) (address left) x
    lists-are =
        ap (λ (z : Pair). rising_lists z x) passed.pair
        ∙ same_lists left right passed.left-none passed.right-none passed.counts q m x

    pub lists-by : lists_in p x ≡ lists_after call
    unfolding lists_after
    lists-by = go (has_room n x) refl
      where
        same-room : (b : Bool) → has_room n x ≡ b → has_room (length (rising p)) x ≡ b
        same-room b e = ap (λ (k : ℕ). has_room k x) n-is ∙ e

        go : (b : Bool) → has_room n x ≡ b → lists_in p x ≡ lists_after call
        go true e = rw (same-room true e, decided true e) lists-are
        go false e = rw (same-room false e, decided false e)
