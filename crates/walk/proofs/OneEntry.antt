-- A fill of one entry writes the address that it starts from, whatever its moves add. Assumes nothing.
use Prim.Native.Nat.{ℕ, ◌/◌, ◌≤◌, ◌<◌}
use mathlib.Core.Path.{◌≡◌, refl, sym, subst}
use mathlib.Core.Bool.{Bool, true, false, cond, ◌||◌}
use mathlib.Core.List.{List, [], ◌∷◌}
use native.Mathlib.Omega.{arith}
use lib.Dec.{eqb, ltb}
use lib.ListN.{length}
use borrow.Author.Tests.{eqb-false}
use Rattle.numbers.specs.Words.{words_of}
use Rattle.numbers.proofs.WordLaws.{words-length}
use Rattle.model.specs.Filling.{Walk, Filled, stopped, wrote, fill_by}
use Rattle.walk.specs.declared.moves.Moves.{Moves}
use Rattle.walk.specs.declared.moves.State.{State}
use Rattle.walk.specs.declared.moves.Report.{Report}
use Rattle.walk.specs.declared.learning.Task.{Task}
use Rattle.walk.specs.Moving.{Move, move_from, Still}
use Rattle.walk.specs.Driving.{Paces, Drives, ByteFilled, FillsBytes}
use Rattle.walk.specs.Learning.{Begins, FillsBytesEven}
use Rattle.walk.proofs.MoveLaws.{by-step}

still-add : (m : Moves) → Still m → (q : ℕ) → (move_from m q).add ≡ 0
still-add m s q = by-step m q (λ (g : Move). g.add ≡ 0) (λ h. s.near) (λ h k. s.far) (λ h k. s.both)

module _ (w : Walk) (a : ℕ) where
  -- the same walk with one address throughout
  abbrev flat : Walk
  flat = record { address = λ t. a; cost = w.cost; next = w.next; count = w.count; least = w.least }

  module _ {m : Moves} (p : Paces w m) where
    flat-paces : Paces flat m
    flat-paces = record {
      column = p.column;
      mine = p.mine;
      least = p.least;
      cost = p.cost;
      next = p.next;
      same = p.same;
      columns = p.columns;
    }

    -- moves that add nothing drive it
    flat-drives : a < 4294967296 → Still m → Drives flat m
    unfolding flat-paces
    flat-drives low s =
        record { paces = flat-paces; address = λ t h o l. rw (still-add m s (p.column t)) (omega arith) }

  -- as long as one entry is all there is, it is filled alike
  flat-fills : (t quota : ℕ) (l : List ℕ) → length l ≤ 1 → t ≤ w.count → (t < w.count → w.address t ≡ a) → fill_by flat t quota l ≡ fill_by w t quota l
  unfolding fill_by
  flat-fills t quota [] h k e = refl
  flat-fills t quota (x ∷ []) h k e = go (eqb t w.count) refl (ltb quota w.least)
    where
      go : (b : Bool) → eqb t w.count ≡ b → (c : Bool)
          → cond (b || c) (stopped t (x ∷ [])) (wrote a (w.cost t) (stopped (w.next t) []))
          ≡ cond (b || c) (stopped t (x ∷ [])) (wrote (w.address t) (w.cost t) (stopped (w.next t) []))
      go true z c = refl
      go false z true = refl
      go false z false = rw (e (omega (arith, eqb-false t w.count z)))
  flat-fills t quota (x ∷ y ∷ l) h k e = absurd (omega arith)

pub one_entry : {f : Task} {s : State} {bs bs' : List ℕ} {r : Report} → Begins f s → Still f.moves → length bs / 4 ≤ 1
    → FillsBytes f.moves f.count f.quota s bs bs' r → FillsBytesEven f s bs bs' r
unfolding flat-drives flat-paces
one_entry {f} {s} {bs} {bs'} {r} v still few fills w z d h =
    let a : ℕ = s.address.0 in
    let p = d.paces in
    subst (λ (g : Filled). ByteFilled g bs bs' r)
    (flat-fills w a s.place.0 f.quota (words_of 4 bs) (rw (words-length 4 bs) few) (rw z v.1.place) (λ k. sym (h.address k)))
    (fills (flat w a) z (flat-drives w a p v.1.sound.address still) (record { column = h.column; address = λ k. refl; mine = h.mine }))
