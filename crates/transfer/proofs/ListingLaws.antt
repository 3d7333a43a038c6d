-- Listing an accepted pair: question 13, what the addresses ask for, and the lists in the end.
use Prim.Native.Nat.{ℕ, ◌≤◌, ◌<◌}
use mathlib.Core.Path.{◌≡◌, sym, ap, ◌∙◌, subst}
use mathlib.Core.Bool.{Bool, true, ◌&&◌}
use mathlib.Core.List.{List, map}
use native.Mathlib.Omega.{arith}
use borrow.Author.Tests.{le-leb}
use lib.ListN.{length, get_or, take}
use Rattle.numbers.proofs.Tests.{both_true}
use Rattle.numbers.proofs.SearchLaws.{Nth, listed}
use Rattle.model.specs.Transfers.{Lists, fronted}
use Rattle.section.specs.Shares.{owned_by, address_by}
use Rattle.transfer.specs.declared.questions.Pair.{Pair}
use Rattle.transfer.specs.Pairs.{Fit, places}
use Rattle.transfer.specs.Walks.{Addressable}
use Rattle.transfer.specs.Answers.{lists_of, rising, has_room, lists_in}
use Rattle.transfer.proofs.FrontLaws.{front_at, front-take, front_length}

-- ---- question 13

pub room-yes : (n : ℕ) (x : Lists) → n ≤ length x.positions → n ≤ length x.sent → n ≤ length x.received → has_room n x ≡ true
room-yes n x a b c = rw (le-leb n (length x.positions) a, le-leb n (length x.sent) b, le-leb n (length x.received) c)

-- ---- a pair

module _ (p : Pair) {n : ℕ} (e : n ≡ length (rising p)) (x : Lists) where
  module _ (after : List ℕ) (w : after ≡ fronted (rising p) x.positions) where
    written : take n after ≡ rising p
    written = rw (w, e) (front-take (rising p) x.positions)

    -- what is written are positions in both shares, so that either's addresses may be written into a list that has room
    module _ (f : Fit p) (h : n ≤ length x.positions) where
      abbrev N : ℕ
      N = p.sender.section.count

      there : n ≤ length after
      there = omega (arith, ap length w, front_length (rising p) x.positions (omega arith))

      in_both : (i : ℕ) → i < n → let t = get_or after i 0 in (t < N) × (owned_by p.sender t ≡ true) × (owned_by p.receiver t ≡ true)
      unfolding places
      in_both i b =
          let both : ℕ → Bool = λ t. owned_by p.sender t && owned_by p.receiver t in
          let at : get_or after i 0 ≡ get_or (rising p) i 0 = ap (λ (z : List ℕ). get_or z i 0) w ∙ front_at (rising p) x.positions i (omega arith) in
          let r = subst (Nth both 0 N i) (sym at) (listed both N 0 i (omega arith)) in
          let o = both_true (owned_by p.sender (get_or after i 0)) (owned_by p.receiver (get_or after i 0)) r.passes in
          (omega (arith, r.below), o.0, o.1)

      pub of_either : (l : List ℕ) → n ≤ length l → Addressable p.sender after n l × Addressable p.receiver after n l
      of_either l k = (
        record { accepted = f.first; there = there; room = k; below = λ i b. (in_both i b).0; owned = λ i b. (in_both i b).1 },
        record { accepted = f.second; there = there; room = k; below = λ i b. rw f.counts (in_both i b).0; owned = λ i b. (in_both i b).2 },
      )

    -- the lists, in rising order
    pub all_listed : (sent received : List ℕ)
        → sent ≡ fronted (map (address_by p.sender) (take n after)) x.sent
        → received ≡ fronted (map (address_by p.receiver) (take n after)) x.received
        → has_room n x ≡ true → lists_of after sent received ≡ lists_in p x
    all_listed sent received s r h =
        let room : has_room (length (rising p)) x ≡ true = rw (← e) h in
        let sent_is = s ∙ ap (λ (ts : List ℕ). fronted (map (address_by p.sender) ts) x.sent) written in
        let received_is = r ∙ ap (λ (ts : List ℕ). fronted (map (address_by p.receiver) ts) x.received) written in
        rw room (λ i. lists_of (w i) (sent_is i) (received_is i))
