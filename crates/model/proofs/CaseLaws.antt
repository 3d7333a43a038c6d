-- The cases of the Fortran text: they are document 01's count, and no stride of theirs is 0.
use Prim.Native.Nat.{ℕ, zero, suc, ◌+◌, ◌/◌, ◌≤◌, ◌<◌, zero-le}
use mathlib.Core.Path.{◌≡◌, refl, sym, ap, ◌∙◌}
use mathlib.Core.Bool.{Bool, true, false, cond, ◌&&◌}
use native.Mathlib.Nat.{add-div_right, zero-lt-suc}
use native.Mathlib.Omega.{arith}
use borrow.Author.Tests.{lt-ltb, le-ltb, le-leb}
use lib.IntN.{ℤ, pos, negsuc, nat_abs, ◌+ℤ◌, ◌-ℤ◌, +ℤ_idr}
use lib.Signed.{quot_z, le_z, lt_z}
use Rattle.numbers.proofs.Signed.{size-sub}
use Rattle.model.specs.declared.Triplet.{Triplet}
use Rattle.model.specs.declared.Case.{Case}
use Rattle.model.specs.declared.Case.TheVariants.{Forward, Backward, Empty}
use Rattle.model.specs.Ownership.{nat}
use Rattle.model.specs.Sections.{triplet_of, count_of}
use Rattle.model.specs.Questions.{in_range}
use Rattle.model.specs.Cases.{case_of, elements_in, Divides, ByCases}
use Rattle.model.proofs.TripletLaws.{le_up, none, mirrored}
use Rattle.model.proofs.AcceptedLaws.{Ranged, ranged}

-- a is at most b where the distance from a to b is not negative
pub apart : (a b : ℤ) → le_z a b ≡ le_z (pos 0) (b -ℤ a)
apart a b = ap (λ (z : ℤ). le_z z b) (sym (+ℤ_idr a)) ∙ le_up a (pos 0) b

-- ---- the law

-- of a distance d by strides of suc m
by-distance : (d : ℤ) (m : ℕ) → cond (le_z (pos 0) d) (nat_abs d / suc m + 1) 0 ≡ nat (quot_z (d +ℤ pos (suc m)) (pos (suc m)))
unfolding nat
by-distance (pos D) m = rw (le-leb 0 D zero-le) (sym (add-div_right D (zero-lt-suc m)))
by-distance (negsuc D) m = sym (none m D)

-- a case where its test holds, else none
elements-if : (t : Bool) (c : Case) → elements_in (cond t c Empty) ≡ cond t (elements_in c) 0
elements-if true c = refl
elements-if false c = refl

counted : (l h s : ℤ) → 0 < nat_abs s → elements_in (case_of (triplet_of l h s)) ≡ count_of (triplet_of l h s)
unfolding case_of count_of
counted l h (pos zero) some = absurd (omega (arith, some))
counted l h (pos (suc m)) some =
    rw (lt-ltb 0 (suc m) some, le-ltb (suc m) 0 zero-le, apart l h)
    (elements-if (le_z (pos 0) (h -ℤ l)) (Forward (nat_abs (h -ℤ l)) (suc m)) ∙ by-distance (h -ℤ l) m)
counted l h (negsuc m) some =
    rw (apart h l, mirrored l h m)
    (elements-if (le_z (pos 0) (l -ℤ h)) (Backward (nat_abs (l -ℤ h)) (suc m)) ∙ by-distance (l -ℤ h) m)

-- ---- the division

divided : (t u : Bool) {d e s : ℕ} → 0 < s → d ≤ 4294967294 → e ≤ 4294967294 → Divides (cond t (Forward d s) (cond u (Backward e s) Empty))
divided true u some up down = (some, up)
divided false true some up down = (some, down)
divided false false some up down = tt

divides : (x : Triplet) → Ranged x.lower x.upper x.stride → Divides (case_of x)
unfolding case_of
divides x r =
    divided (lt_z (pos 0) x.stride && le_z x.lower x.upper) (lt_z x.stride (pos 0) && le_z x.upper x.lower)
    r.some
    (omega (arith, size-sub x.upper x.lower, r.lower, r.upper))
    (omega (arith, size-sub x.lower x.upper, r.lower, r.upper))

pub by_cases : (x : Triplet) → in_range x ≡ true → ByCases x
by_cases x e =
    let r : Ranged x.lower x.upper x.stride = ranged x e in
    record {
      counted = counted x.lower x.upper x.stride r.some;
      divides = divides x r;
    }
