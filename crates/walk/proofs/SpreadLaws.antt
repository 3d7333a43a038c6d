-- Which columns one step is taken from, and that columns whole periods apart are of one class. Assumes nothing.
use Prim.Native.Nat.{ℕ, ◌+◌, ◌-◌, ◌*◌, ◌/◌, ◌%◌, ◌≤◌, ◌<◌}
use mathlib.Core.Path.{◌≡◌, sym, ap, ◌∙◌}
use mathlib.Core.List.{List}
use mathlib.Core.Logic.{inl, inr, ⊎_elim}
use native.Mathlib.Nat.{add-mul-mod_self_right, div-mul-le_self, add-mod_right}
use native.Mathlib.Omega.{arith}
use lib.ListN.{set, length-set}
use Rattle.walk.specs.declared.moves.Moves.{Moves}
use Rattle.walk.specs.declared.learning.Elements.{Elements}
use Rattle.walk.specs.declared.spread.Span.{Span}
use Rattle.walk.specs.Moving.{move_from}
use Rattle.walk.specs.Learning.{period_of, Entered}
use Rattle.walk.specs.Spreading.{OneStep, EnteredFrom}
use Rattle.walk.proofs.MoveLaws.{takes_first, takes-second, takes-both}
use Rattle.walk.proofs.LearnLaws.{set-each}

-- ---- the columns of each step

module _ (m : Moves) (q : ℕ) where
  pub first-span : m.up < m.block → q < m.block - m.up → OneStep m q (record { from = 0; end = m.block - m.up })
  first-span u h = record {
    from = omega arith;
    before = h;
    inside = omega arith;
    alike = λ x f l. rw (takes_first m x (omega arith), takes_first m q (omega arith));
  }

  module _ (pos : 0 < m.block) (up : m.up < m.block) (late : m.block - m.up ≤ q) where
    pub both_span : m.down ≤ m.block → q < m.down → OneStep m q (record { from = m.block - m.up; end = m.down })
    both_span d h = record {
      from = late;
      before = h;
      inside = d;
      alike = λ x f l. rw (takes-both m x (omega arith) pos l, takes-both m q (omega arith) pos h);
    }

    pub second-span : (from : ℕ) → m.block - m.up ≤ from → m.down ≤ from → from ≤ q → q < m.block
        → OneStep m q (record { from = from; end = m.block })
    second-span from a b h l = record {
      from = h;
      before = l;
      inside = omega arith;
      alike = λ x f g. rw (takes-second m x (omega arith) pos (omega arith), takes-second m q (omega arith) pos (omega arith));
    }

-- ---- what the loop that enters a move keeps

pub record Entering (first end period add : ℕ) (columns₀ columns : List ℕ) (at : ℕ) : Type 0 where
  pub entered : EnteredFrom first end period add columns₀ columns
  pub from : first ≤ at
  pub rest : at % period ≡ first % period

module _ (first end period add : ℕ) {columns₀ : List ℕ} where
  pub entering-turns : {columns : List ℕ} {at : ℕ} → Entering first end period add columns₀ columns at → at < end
      → Entering first end period add columns₀ (set columns at add) (at + period)
  entering-turns {columns} {at} r h = record {
    entered = record {
      same = length-set columns at add ∙ r.entered.same;
      each = λ x.
          ⊎_elim (λ old. ⊎_elim (λ o. inl (old ∙ o)) (λ n. inr (old ∙ n.0, n.1)) (r.entered.each x))
          (λ new. inr (new.0, (omega (arith, r.from, new.1), omega (arith, new.1), ap (λ (y : ℕ). y % period) new.1 ∙ r.rest)))
          (set-each columns at add x);
    };
    from = omega (arith, r.from);
    rest = add-mod_right at period ∙ r.rest;
  }

-- ---- the first column of a class

module _ (q from period : ℕ) (h : from ≤ q) where
  -- it lies whole periods before q, and not before the span
  pub first-low : from ≤ q - (q - from) / period * period
  first-low = omega (arith, div-mul-le_self (q - from) period)

  pub first_rest : (q - (q - from) / period * period) % period ≡ q % period
  first_rest =
      let low = div-mul-le_self (q - from) period in
      let back : q - (q - from) / period * period + (q - from) / period * period ≡ q = omega arith in
      sym (add-mul-mod_self_right (q - (q - from) / period * period) ((q - from) / period) period) ∙ ap (λ (x : ℕ). x % period) back

pub entered-class : {e : Elements} {m : Moves} {q add : ℕ} {span : Span} {columns columns' : List ℕ} → OneStep m q span
    → EnteredFrom (q - (q - span.from) / period_of e * period_of e) span.end (period_of e) add columns columns' → Entered e m q add columns columns'
entered-class {e} {m} {q} {span = span} o r = record {
  same = r.same;
  each = λ x. ⊎_elim (λ old. inl old) (λ new. inr (new.0, same x new.1)) (r.each x);
}
  where
    same : (x : ℕ) → (q - (q - span.from) / period_of e * period_of e ≤ x) × (x < span.end) × (x % period_of e ≡ (q - (q - span.from) / period_of e * period_of e) % period_of e)
        → x % period_of e * 4 + (move_from m x).tries ≡ q % period_of e * 4 + (move_from m q).tries
    same x p =
        let rest : x % period_of e ≡ q % period_of e = p.2 ∙ first_rest q span.from (period_of e) o.from in
        let tries = o.alike x (omega (arith, p.0, first-low q span.from (period_of e) o.from)) p.1 in
        rw (rest, tries)
