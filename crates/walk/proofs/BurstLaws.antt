-- What a burst of turns does: how far it goes, and that a fill that has come to its start has come to its end. Assumes nothing.
use Prim.Native.Nat.{ℕ, zero, suc, ◌+◌, ◌-◌, ◌*◌, ◌/◌, ◌≤◌, ◌<◌}
use mathlib.Core.Path.{◌≡◌, refl, sym, ap, ◌∙◌, subst}
use mathlib.Core.List.{List}
use mathlib.Core.Logic.{◌⊎◌, ⊎_elim}
use native.Mathlib.Nat.{add-zero, mul-le-mul_right, mod-lt, div-le_self}
use native.Mathlib.Decide.{dec_lt}
use native.Mathlib.Numerals.{add-one}
use native.Mathlib.Omega.{arith}
use lib.ListN.{length, set, length-set}
use Rattle.numbers.proofs.WordLaws.{store_length}
use Rattle.model.specs.Filling.{Walk, Filled}
use Rattle.model.specs.ByteFills.{store_entry}
use Rattle.walk.specs.declared.moves.Moves.{Moves}
use Rattle.walk.specs.declared.moves.State.{State}
use Rattle.walk.specs.declared.moves.Made.{Made}
use Rattle.walk.specs.Moving.{stepped_by, add_from, stop_at, Small, Sound, Roomy}
use Rattle.walk.specs.Driving.{Paces, Drives, Stands}
use Rattle.walk.specs.Bursts.{steps_on, burst_by, Sure, Short, Bursts, Bursted, Starts}
use Rattle.walk.proofs.MoveLaws.{light, at-most-le}
use Rattle.walk.proofs.RunLaws.{Run, Arrives, turns, stops, Runs}

-- ---- n steps

-- what n steps from s come to at most
pub record Within (m : Moves) (s : State) (n : ℕ) (r : State) : Type 0 where
  pub sound : Sound m r
  pub place : r.place.0 ≤ s.place.0 + n * (m.first + m.second)
  pub paid : r.paid ≤ s.paid + 3 * n

pub steps-within : (m : Moves) → Small m → (δ : ℕ → ℕ) (s : State) → Sound m s → (n : ℕ) → Within m s n (steps_on m δ n s)
unfolding steps_on
steps-within m small δ s v zero = record { sound = v; place = omega arith; paid = omega arith }
steps-within m small δ s v (suc n) =
    let h = steps-within m small δ s v n in
    let g = light m (steps_on m δ n s).column small h.sound.column in
    record {
      sound = record { column = g.column; address = mod-lt _ (omega arith) };
      place = omega (arith, h.place, g.places);
      paid = omega (arith, h.paid, g.tries);
    }

-- before each of the turns that are sure, the count is not reached
pub short-of : (m : Moves) → Small m → (δ : ℕ → ℕ) (count : ℕ) (s : State) → Sound m s → (turns i : ℕ) → Short m count s turns → i < turns
    → (steps_on m δ i s).place.0 < count
short-of m small δ count s v turns i short h =
    let far : i ≤ turns - 1 = omega arith in
    omega (arith, (steps-within m small δ s v i).place, mul-le-mul_right (m.first + m.second) far)

-- a burst that ends where no turn is made has made one, since it did not start there
some_turn : (m : Moves) (δ : ℕ → ℕ) (P : State → Type 0) (s₀ s : State) (i : ℕ) → s ≡ steps_on m δ i s₀ → P s₀ → (P s → ⊥) → 0 < i
unfolding steps_on
some_turn m δ P s₀ s zero e h g = absurd (g (subst P (sym e) h))
some_turn m δ P s₀ s (suc i) e h g = omega arith

-- ---- what the loop of a burst keeps

pub entry_length : (bs : List ℕ) (n a : ℕ) → length (store_entry bs n a) ≡ length bs
entry_length bs n a = store_length 4 _ a bs

pub record Bursting (m : Moves) (δ : ℕ → ℕ) (P : State → Type 0) (l₀ : List ℕ) (from turns : ℕ) (s₀ : State) (l : List ℕ) (s : State) (i : ℕ) : Type 0 where
  pub low : i ≤ turns
  pub same : length l ≡ length l₀
  pub each : (j : ℕ) → j < i → P (steps_on m δ j s₀)
  pub state : s ≡ steps_on m δ i s₀
  pub list : l ≡ burst_by store_entry m δ l₀ from i s₀

module _ {m : Moves} {δ : ℕ → ℕ} {P : State → Type 0} {l₀ : List ℕ} {from turns : ℕ} {s₀ : State} where
  pub bursting-starts : Bursting m δ P l₀ from turns s₀ l₀ s₀ 0
  unfolding steps_on burst_by
  bursting-starts = record { low = omega arith; same = refl; each = λ j h. absurd (omega arith); state = refl; list = refl }

  module _ {l : List ℕ} {s : State} {i : ℕ} (b : Bursting m δ P l₀ from turns s₀ l s i) where
    each_on : P s → (j : ℕ) → j < suc i → P (steps_on m δ j s₀)
    each_on here j h = elim (dec_lt j i) [
      | yes g ↦ b.each j g
      | no g ↦
          let e : j ≡ i = omega arith in
          rw e (subst P b.state here)
    ]

    pub bursting-turns : i < turns → P s → Bursting m δ P l₀ from turns s₀ (store_entry l (from + i) s.address.0) (stepped_by m δ s) (i + 1)
    unfolding steps_on burst_by
    bursting-turns h here =
        rw add-one (record {
          low = h;
          same = entry_length l (from + i) s.address.0 ∙ b.same;
          each = each_on here;
          state = ap (stepped_by m δ) b.state;
          list = (λ j. store_entry (b.list j) (from + i) (b.state j).address.0);
        })

    pub bursting-ends : P s₀ → 0 < turns → (turns ≤ i) ⊎ (P s → ⊥) → Bursted store_entry m δ P s₀ from turns l₀ l (record { state = s; turns = i })
    bursting-ends first pos why = record {
      some = ⊎_elim (λ h. omega arith) (λ h. some_turn m δ P s₀ s i b.state first h) why;
      low = b.low;
      each = b.each;
      state = b.state;
      list = b.list;
    }

    module _ {count : ℕ} (a : Bursts m count s₀ turns) where
      -- before a turn that is sure, the count is not reached
      pub bursting-short : Short m count s₀ turns → i < turns → s.place.0 < count
      bursting-short short h = rw b.state (short-of m a.small δ count s₀ a.sound turns i short h)

      pub bursting-sound : Sound m s
      bursting-sound = rw b.state (steps-within m a.small δ s₀ a.sound i).sound

      -- what a step asks
      pub bursting-steps : i < turns → s.place.0 < count → Small m × Sound m s × Roomy s
      bursting-steps h here =
          let v = steps-within m a.small δ s₀ a.sound i in
          let paid : s.paid < 4294967296 = rw b.state (omega (arith, v.paid, a.tries)) in
          (a.small, bursting-sound, record { place = omega (arith, a.few); paid = paid })

pub burst-length : (put : List ℕ → ℕ → ℕ → List ℕ) → ((l : List ℕ) (n a : ℕ) → length (put l n a) ≡ length l)
    → (m : Moves) (δ : ℕ → ℕ) (l : List ℕ) (from n : ℕ) (s : State) → length (burst_by put m δ l from n s) ≡ length l
unfolding burst_by
burst-length put keeps m δ l from zero s = refl
burst-length put keeps m δ l from (suc n) s = keeps _ _ _ ∙ burst-length put keeps m δ l from n s

-- ---- on a walk that the moves go along, where what is added leads to the walk's addresses
module _ (w : Walk) (m : Moves) (small : Small m) (p : Paces w m) (δ : ℕ → ℕ) {f : Filled} {quota : ℕ} {l : List ℕ} {s : State} {n : ℕ}
    (v : Sound m s) (r : Run w m p f quota l s n) (all : ℕ) (sure : Sure m δ w.count quota s all) (room : n + all ≤ length l)
    (arrives : (i : ℕ) → i < all → Stands w m p (steps_on m δ i s) → Arrives w m p (steps_on m δ i s) (δ (steps_on m δ i s).column)) where
  pub runs_on : (i : ℕ) → i ≤ all → Run w m p f quota (burst_by set m δ l n i s) (steps_on m δ i s) (n + i)
  unfolding steps_on burst_by
  runs_on zero h = rw add-zero r
  runs_on (suc i) h =
      let b = steps-within m small δ s v i in
      let before = runs_on i (omega arith) in
      let here : (steps_on m δ i s).place.0 < w.count = sure.places i h in
      let more : n + suc i ≡ n + i + 1 = omega arith in
      let long : n + i < length (burst_by set m δ l n i s) = omega (arith, burst-length set length-set m δ l n i s) in
      rw more
      (turns w m p before long here (omega (arith, b.paid, sure.tries)) (light m _ small b.sound.column).tries
      (δ (steps_on m δ i s).column) (arrives i h before.stands))

-- ---- what the loop of a fill keeps
module _ {m : Moves} {count quota : ℕ} {s₀ : State} {l₀ l : List ℕ} {s : State} {n : ℕ} (v : Starts m count quota s₀) (r : Runs m count quota s₀ l₀ l s n) where
  pub run-bursts : {all : ℕ} → Sure m (add_from m) count quota s all → n + all ≤ length l
      → Runs m count quota s₀ l₀ (burst_by set m (add_from m) l n all s) (stop_at count (steps_on m (add_from m) all s)) (n + all)
  run-bursts {all} sure room =
      let small = v.small in
      let b = steps-within m small (add_from m) s r.sound all in
      record {
        sound = record { column = b.sound.column; address = b.sound.address };
        place = at-most-le count _;
        left = omega (arith, b.paid, sure.tries);
        runs = λ w e d h. rw (← e) (stops w m d.paces (runs_on w m small d.paces (add_from m) r.sound (r.runs w e d h) all (rw e sure) room
            (λ i g u. drives w e d i g u) all (omega arith)));
      }
    where
      drives : (w : Walk) → w.count ≡ count → (d : Drives w m) (i : ℕ) → i < all → Stands w m d.paces (steps_on m (add_from m) i s)
          → Arrives w m d.paces (steps_on m (add_from m) i s) (add_from m (steps_on m (add_from m) i s).column)
      drives w e d i g u z =
          let here : (steps_on m (add_from m) i s).place.0 < w.count = rw e (sure.places i g) in
          let q = u.column here in
          rw (q, u.address here) (d.address _ here (u.mine here) (rw q at z))

-- the turns that a burst made are sure to write
pub made-sure : {put : List ℕ → ℕ → ℕ → List ℕ} {m : Moves} {δ : ℕ → ℕ} {P : State → Type 0} {count quota : ℕ} {s : State} {from turns : ℕ} {l l' : List ℕ} {r : Made}
    → Bursted put m δ P s from turns l l' r → ((z : State) → P z → z.place.0 < count) → s.paid + 3 * turns ≤ quota → Sure m δ count quota s r.turns
made-sure b before h = record { places = λ i g. before _ (b.each i g); tries = omega (arith, b.low) }

-- ---- how many are sure

pub quotient_fits : (x f b : ℕ) → x + 1 < b → x / f + 1 < b
quotient_fits x f b h = omega (arith, div-le_self x f)
