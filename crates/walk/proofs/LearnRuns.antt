-- What a loop that fills a list by moves that are learnt keeps. Assumes nothing.
use Prim.Native.Nat.{ℕ, ◌+◌, ◌-◌, ◌≤◌, ◌<◌}
use mathlib.Core.Path.{◌≡◌}
use mathlib.Core.List.{List}
use mathlib.Core.Logic.{◌⊎◌}
use native.Mathlib.Nat.{mod-lt}
use native.Mathlib.Omega.{arith}
use lib.ListN.{length, get_or, set}
use Rattle.model.specs.Filling.{Walk, fill_by}
use Rattle.walk.specs.declared.moves.Moves.{Moves}
use Rattle.walk.specs.declared.moves.State.{State}
use Rattle.walk.specs.declared.learning.Elements.{Elements}
use Rattle.walk.specs.Moving.{stop_at, Sound}
use Rattle.walk.specs.Driving.{Stands}
use Rattle.walk.specs.Bursts.{steps_on, burst_by, Sure, Starts}
use Rattle.walk.specs.Learning.{turn_by, known_in, Known, Even}
use Rattle.walk.proofs.MoveLaws.{light, at-most-le}
use Rattle.walk.proofs.RunLaws.{Run, Arrives, begins, turns, stops, ends}
use Rattle.walk.proofs.LearnLaws.{Knows}
use Rattle.walk.proofs.BurstLaws.{steps-within, runs_on}

-- The fill of the list l₀ from state s₀ has come to state s, with n entries of the list l written and the moves in a table by
-- that key known, whatever walk it goes along.
pub record EvenRuns (e : Elements) (m : Moves) (count quota : ℕ) (s₀ : State) (l₀ : List ℕ) (key : ℕ → ℕ) (table l : List ℕ) (s : State) (n : ℕ) : Type 0 where
  pub sound : Sound m s
  pub place : s.place.0 ≤ count
  pub left : s.paid ≤ quota
  pub runs : (w : Walk) → w.count ≡ count → (d : Even w m e) → Stands w m d.paces s₀
      → Run w m d.paces (fill_by w s₀.place.0 quota l₀) quota l s n × Knows w m e d key table

-- what is added leads on from state s, and leaves the table right
abbrev pub Learning : Elements → Moves → ℕ → (ℕ → ℕ) → List ℕ → List ℕ → State → ℕ → Type 0
Learning e m count key table table' s add =
    (w : Walk) → w.count ≡ count → (d : Even w m e) → Stands w m d.paces s → s.place.0 < w.count → Knows w m e d key table
    → Arrives w m d.paces s add × Knows w m e d key table'

module _ {e : Elements} {m : Moves} {count quota : ℕ} {s₀ : State} {key : ℕ → ℕ} (v : Starts m count quota s₀) where
  pub even-starts : {l table : List ℕ} → ((q : ℕ) → get_or table q 0 ≡ 0) → EvenRuns e m count quota s₀ l key table l s₀ 0
  even-starts {l} none = record {
    sound = v.sound;
    place = v.place;
    left = omega (arith, v.paid);
    runs = λ w z d h. (begins w m d.paces quota l s₀ (rw z v.place) v.paid h, λ t f. absurd (f (none _)));
  }

  module _ {l₀ table l : List ℕ} {s : State} {n : ℕ} (r : EvenRuns e m count quota s₀ l₀ key table l s n) where
    -- one turn that learns
    pub even-turns : n < length l → (s.place.0 ≡ count → ⊥) → 3 ≤ quota - s.paid
        → {table' : List ℕ} (add : ℕ) → Learning e m count key table table' s add
        → EvenRuns e m count quota s₀ l₀ key table' (set l n s.address.0) (turn_by m count s add) (n + 1)
    even-turns room some tries add learns =
        let g = light m s.column v.small r.sound.column in
        record {
          sound = record { column = g.column; address = mod-lt _ (omega arith) };
          place = at-most-le count _;
          left = omega (arith, g.tries);
          runs = λ w z d h.
              let k = r.runs w z d h in
              let here : s.place.0 < w.count = omega (arith, r.place) in
              let u = learns w z d k.0.stands here k.1 in
              (rw (← z) (stops w m d.paces (turns w m d.paces k.0 room here (omega arith) g.tries add u.0)), u.1);
        }

    pub even-ends : (length l ≤ n) ⊎ ((s.place.0 ≡ count) ⊎ (quota - s.paid < 3))
        → (w : Walk) → w.count ≡ count → (d : Even w m e) → Stands w m d.paces s₀
        → fill_by w s₀.place.0 quota l₀ ≡ record { entries = n; tries = s.paid; place = s.place.0; list = l }
    even-ends why w z d h = ends w m d.paces (r.runs w z d h).0 (rw z r.place) (rw z why)

-- turns by what a table by columns knows
module _ {e : Elements} {m : Moves} {count quota : ℕ} {s₀ : State} {l₀ columns l : List ℕ} {s : State} {n all : ℕ} (v : Starts m count quota s₀)
    (r : EvenRuns e m count quota s₀ l₀ (λ q. q) columns l s n) where
  pub even-bursts : Sure m (known_in columns) count quota s all → n + all ≤ length l
      → ((i : ℕ) → i < all → Known count columns (steps_on m (known_in columns) i s))
      → EvenRuns e m count quota s₀ l₀ (λ q. q) columns (burst_by set m (known_in columns) l n all s) (stop_at count (steps_on m (known_in columns) all s)) (n + all)
  even-bursts sure room each =
      let b = steps-within m v.small (known_in columns) s r.sound all in
      record {
        sound = record { column = b.sound.column; address = b.sound.address };
        place = at-most-le count _;
        left = omega (arith, b.paid, sure.tries);
        runs = λ w z d h.
            let k = r.runs w z d h in (
              rw (← z) (stops w m d.paces (runs_on w m v.small d.paces (known_in columns) r.sound k.0 all (rw z sure) room (arrives w z d k.1) all (omega arith))),
              k.1,
            );
      }
    where
      arrives : (w : Walk) → w.count ≡ count → (d : Even w m e) → Knows w m e d (λ q. q) columns → (i : ℕ) → i < all
          → Stands w m d.paces (steps_on m (known_in columns) i s)
          → Arrives w m d.paces (steps_on m (known_in columns) i s) (known_in columns (steps_on m (known_in columns) i s).column)
      arrives w z d k i g u y =
          let here : (steps_on m (known_in columns) i s).place.0 < w.count = rw z (each i g).0 in
          let q = u.column here in
          rw (q, u.address here) (k _ (rw q at (each i g).1) here (u.mine here) (rw q at y))
