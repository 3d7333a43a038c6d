-- From two places in one column the address moves alike, by constant moves and by moves that are learnt. Assumes nothing.
use Prim.Native.Nat.{ℕ, ◌+◌, ◌%◌, ◌<◌}
use mathlib.Core.Path.{◌≡◌, sym, ap}
use native.Mathlib.Omega.{arith}
use Rattle.model.specs.Filling.{Walk}
use Rattle.walk.specs.declared.moves.Moves.{Moves}
use Rattle.walk.specs.declared.learning.Elements.{Elements}
use Rattle.walk.specs.Moving.{move_from}
use Rattle.walk.specs.Driving.{Drives}
use Rattle.walk.specs.Learning.{Placed, Even, period_of}
use Rattle.walk.proofs.LearnLaws.{address-fits, cross}
use Rattle.walk.proofs.RepeatLaws.{reach}
use Rattle.walk.proofs.WholePeriods.{Level}

sums : (a b c x A d : ℕ) → a ≡ (x + A) % 4294967296 → b ≡ (a + d) % 4294967296 → c ≡ (x + d) % 4294967296 → b ≡ (c + A) % 4294967296
sums a b c x A d e f g = omega arith

module _ (w : Walk) (m : Moves) where
  pub drives-level : (d : Drives w m) → Level w m d.paces
  drives-level d x y A h l mine mine' q near far e =
      let same : (move_from m (d.paces.column y)).places ≡ reach w m d.paces x = ap (λ (c : ℕ). (move_from m c).places) q in
      let add : (move_from m (d.paces.column y)).add ≡ (move_from m (d.paces.column x)).add = ap (λ (c : ℕ). (move_from m c).add) q in
      let there = rw (same, add) at (d.address y l mine' (rw same far)) in
      sums (w.address y) _ _ (w.address x) A (move_from m (d.paces.column x)).add e there (d.address x h mine near)

  pub even-level : (e : Elements) (d : Even w m e) → Placed e w.count → Level w m d.paces
  even-level e d p x y A h l mine mine' q near far z =
      let same : (move_from m (d.paces.column y)).places ≡ reach w m d.paces x = ap (λ (c : ℕ). (move_from m c).places) q in
      let alike = d.alike x y h l mine mine' (ap (λ (c : ℕ). (move_from m c).tries) (sym q)) (ap (λ (c : ℕ). c % period_of e) (sym q)) near (rw same far) in
      let there = rw same at alike in
      let own = rw same at (d.paces.same y l mine' (rw same far)) in
      let high : w.address (y + reach w m d.paces x) < 4294967296 = rw (d.address _ far own) (omega (arith, address-fits e w.count _ p far)) in
      cross (w.address x) (w.address y) (w.address (x + reach w m d.paces x)) _ A high (omega (arith, there)) z
