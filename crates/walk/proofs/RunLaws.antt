-- What a loop that fills a list by moves keeps, on any walk that they go along. Assumes nothing.
use Prim.Native.Nat.{ℕ, ◌+◌, ◌-◌, ◌%◌, ◌≤◌, ◌<◌}
use mathlib.Core.Path.{◌≡◌, sym}
use mathlib.Core.List.{List}
use mathlib.Core.Logic.{◌⊎◌, inl, inr}
use native.Mathlib.Nat.{le_refl}
use native.Mathlib.Decide.{dec_lt}
use native.Mathlib.Omega.{arith}
use lib.ListN.{length, set}
use borrow.Author.Tests.{lt-ltb, le-ltb}
use Rattle.model.specs.Filling.{Walk, Filled, fill_by}
use Rattle.model.proofs.FillLoopLaws.{Going, starts, goes_on, ends-full, ends-place, ends-quota}
use Rattle.walk.specs.declared.moves.Moves.{Moves}
use Rattle.walk.specs.declared.moves.State.{State}
use Rattle.walk.specs.Moving.{move_from, moved_by, at_most, stop_at, Sound}
use Rattle.walk.specs.Driving.{Paces, Drives, Stands}
use Rattle.walk.specs.Bursts.{Starts}
use Rattle.walk.proofs.MoveLaws.{at-most-is}

module _ (w : Walk) (m : Moves) (p : Paces w m) where
  -- the fill f has come to state s, with n entries of the list l written
  pub record Run (f : Filled) (quota : ℕ) (l : List ℕ) (s : State) (n : ℕ) : Type 0 where
    pub stands : Stands w m p s
    pub going : Going w f quota l (at_most w.count s.place.0) s.paid n

  -- a fill starts from a state that stands in the walk
  pub begins : (quota : ℕ) (l : List ℕ) (s : State) → s.place.0 ≤ w.count → s.paid ≡ 0 → Stands w m p s → Run (fill_by w s.place.0 quota l) quota l s 0
  begins quota l s inside none v =
      record { stands = v; going = rw (at-most-is w.count s.place.0 inside, none) (starts w s.place.0 quota l) }

  -- the address after the state's, where that is one of the walk, is d on
  abbrev pub Arrives : State → ℕ → Type 0
  Arrives s d =
      s.place.0 + (move_from m s.column).places < w.count
      → w.address (s.place.0 + (move_from m s.column).places) ≡ (s.address.0 + d) % 4294967296

  module _ {f : Filled} {quota : ℕ} {l : List ℕ} {s : State} {n : ℕ} (r : Run f quota l s n) where
    -- one turn
    pub turns : n < length l → s.place.0 < w.count → s.paid + 3 ≤ quota → (move_from m s.column).tries ≤ 3
        → (d : ℕ) → Arrives s d → Run f quota (set l n s.address.0) (moved_by (move_from m s.column) d s) (n + 1)
    turns room here tries cheap d there =
        let t : ℕ = s.place.0 in
        let q : s.column ≡ p.column t = r.stands.column here in
        let mine = r.stands.mine here in
        let cost : w.cost t ≡ (move_from m s.column).tries = rw q (p.cost t here mine) in
        let next : w.next t ≡ at_most w.count (t + (move_from m s.column).places) = rw q (p.next t here mine) in
        let g : Going w f quota l t s.paid n = rw (lt-ltb t w.count here) at r.going in
        record {
          stands = record {
            column = λ b. rw q (sym (p.columns t here mine (rw q at b)));
            address = λ b. sym (there b);
            mine = λ b. rw q (p.same t here mine (rw q at b));
          };
          going =
              rw (← next, ← cost, r.stands.address here)
              (goes_on w g room (λ e. omega arith) (omega (arith, p.least)) (omega (arith, p.least)));
        }

    -- a place that passed the count is the count
    pub stops : Run f quota l (stop_at w.count s) n
    stops = elim (dec_lt s.place.0 w.count) [
      | yes h ↦ rw (lt-ltb s.place.0 w.count h) r
      | no h ↦
          let past : w.count ≤ s.place.0 = omega arith in
          rw (le-ltb s.place.0 w.count past) (record {
            stands = record { column = λ b. absurd (omega arith); address = λ b. absurd (omega arith); mine = λ b. absurd (omega arith) };
            going = rw (le-ltb w.count w.count (le_refl w.count)) (rw (le-ltb s.place.0 w.count past) at r.going);
          })
    ]

    -- nothing more is written where the list is full, the place is the count, or too few tries are left
    pub ends : s.place.0 ≤ w.count → (length l ≤ n) ⊎ ((s.place.0 ≡ w.count) ⊎ (quota - s.paid < 3))
        → f ≡ record { entries = n; tries = s.paid; place = s.place.0; list = l }
    ends inside why = go why
      where
        g : Going w f quota l s.place.0 s.paid n
        g = rw (at-most-is w.count s.place.0 inside) at r.going

        go : (length l ≤ n) ⊎ ((s.place.0 ≡ w.count) ⊎ (quota - s.paid < 3))
            → f ≡ record { entries = n; tries = s.paid; place = s.place.0; list = l }
        go (inl h) = ends-full w g h
        go (inr (inl h)) = ends-place w g h
        go (inr (inr h)) = ends-quota w g (omega (arith, p.least))

-- ---- whatever walk the moves drive

-- The fill of the list l₀ from state s₀ has come to state s, with n entries of the list l written.
pub record Runs (m : Moves) (count quota : ℕ) (s₀ : State) (l₀ l : List ℕ) (s : State) (n : ℕ) : Type 0 where
  pub sound : Sound m s
  pub place : s.place.0 ≤ count
  pub left : s.paid ≤ quota
  pub runs : (w : Walk) → w.count ≡ count → (d : Drives w m) → Stands w m d.paces s₀
      → Run w m d.paces (fill_by w s₀.place.0 quota l₀) quota l s n

pub run-starts : (m : Moves) (count quota : ℕ) (s : State) (l : List ℕ) → Starts m count quota s → Runs m count quota s l l s 0
run-starts m count quota s l v = record {
  sound = v.sound;
  place = v.place;
  left = omega (arith, v.paid);
  runs = λ w e d h. begins w m d.paces quota l s (rw e v.place) v.paid h;
}

pub run_ends : {m : Moves} {count quota : ℕ} {s₀ : State} {l₀ l : List ℕ} {s : State} {n : ℕ} → Runs m count quota s₀ l₀ l s n
    → (length l ≤ n) ⊎ ((s.place.0 ≡ count) ⊎ (quota - s.paid < 3))
    → (w : Walk) → w.count ≡ count → (d : Drives w m) → Stands w m d.paces s₀
    → fill_by w s₀.place.0 quota l₀ ≡ record { entries = n; tries = s.paid; place = s.place.0; list = l }
run_ends r why w e d h =
    ends w _ d.paces (r.runs w e d h) (rw e r.place) (rw e why)
