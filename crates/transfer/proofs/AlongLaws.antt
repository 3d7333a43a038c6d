-- A walk along a share of a pair: where it stands, what lies ahead, and what a turn finds.
use Prim.Native.Nat.{ℕ, ◌-◌, ◌≤◌, ◌<◌}
use mathlib.Core.Path.{◌≡◌, ap, ◌∙◌}
use mathlib.Core.Bool.{Bool, true, false}
use mathlib.Core.List.{List, [], ◌∷◌}
use native.Mathlib.Omega.{arith}
use lib.ListN.{length, get_or}
use Rattle.numbers.specs.Search.{passing}
use Rattle.numbers.proofs.SearchLaws.{passing-none, tally-le, listed}
use Rattle.model.proofs.TransferLaws.{passing-count}
use Rattle.section.specs.declared.shares.Share.{Share}
use Rattle.section.specs.Shares.{owned_by, place_by, next_by, Shared}
use Rattle.transfer.specs.declared.walk.Places.{Places}
use Rattle.transfer.specs.Pairs.{Meets, places}
use Rattle.transfer.specs.Walks as standing
use Rattle.transfer.specs.Walks.{Standing}
use Rattle.transfer.proofs.TestedWalk as walks
use Rattle.transfer.proofs.PairLaws.{known, fitted}

few : (f : ℕ → Bool) (n : ℕ) → length (passing f 0 n) ≤ n
few f n = omega (arith, passing-count f n, tally-le f n)

-- the share that is walked, and the one that is tested
module _ (a b : Share) where
  abbrev N : ℕ
  N = a.section.count

  -- at a position of the walk, or at its end
  abbrev pub Stands : ℕ → Type 0
  Stands t = walks.Stands (owned_by a) (owned_by b) N t

  -- the positions of the pair that lie ahead
  abbrev pub ahead : ℕ → List ℕ
  ahead t = walks.from (owned_by a) (owned_by b) N t

  pub none_ahead : (t : ℕ) → N ≤ t → ahead t ≡ []
  none_ahead t h = let z : N - t ≡ 0 = omega arith in rw (z, passing-none)

  -- the walk goes on from t to u
  pub record Turn (t u : ℕ) : Type 0 where
    pub stands : Stands u
    pub on : t < u
    pub hit : owned_by b t ≡ true → ahead t ≡ t ∷ ahead u
    pub miss : owned_by b t ≡ false → ahead t ≡ ahead u

  module _ (m : Meets a b) where
    -- a position of one section is one of the other
    pub on-walked : (t : ℕ) → t < N → Shared a t
    on-walked t h = record { fitted = fitted a m.first; below = h }

    pub on-tested : (t : ℕ) → t < N → Shared b t
    on-tested t h = record { fitted = fitted b m.second; below = rw m.counts h }

    -- positions fit 32 bits, and there are no more of them than the section has
    pub count-high : N ≤ 2147483647
    count-high = (known a m.first).bounded.count-high

    pub places-high : length (places a b) ≤ 2147483647
    unfolding places
    places-high = omega (arith, few (walks.both (owned_by a) (owned_by b) N) N, count-high)

    -- from the first place on
    module _ (u : ℕ) (e : u ≡ place_by a) where
      first-led : walks.Led (owned_by a) (owned_by b) N 0 N u
      first-led = walks.first-led _ _ _ u (e ∙ (known a m.first).first)

      pub begins : Stands u
      begins = first-led.stands

      pub all-ahead : places a b ≡ ahead u
      unfolding places
      all-ahead = first-led.rest

    pub turn : (t u : ℕ) → Stands t → t < N → u ≡ next_by a t → Turn t u
    turn t u s h e =
        let p = s.mine h in
        let next = e ∙ (known a m.first).next t h p in
        let led = walks.next-led (owned_by a) (owned_by b) N t u h next in
        record {
          stands = led.stands;
          on = led.on;
          hit = walks.found _ _ N t u h next p;
          miss = walks.missed _ _ N t u h next;
        }

-- the next position fits 32 bits
pub next-low : (p : Places) → Standing p → {t : ℕ} {ts : List ℕ} → standing.ahead p ≡ t ∷ ts → t ≤ 2147483647
next-low p s e =
    let n = p.walk.walked.section.count in
    let both = walks.both (owned_by p.walk.walked) (owned_by p.walk.tested) n in
    let first = listed both (n - p.at.0) p.at.0 0 (omega (arith, ap length e)) in
    omega (arith, first.below, ap (λ (l : List ℕ). get_or l 0 0) e, s.inside, count-high _ _ s.meets)
