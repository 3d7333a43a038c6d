-- Value after value into rows: the lines of a part, and the numbers of a line.
use Prim.Native.Nat.{ℕ, zero, suc, ◌+◌, ◌-◌, ◌≤◌, ◌<◌}
use mathlib.Core.Path.{◌≡◌, refl, sym, ◌∙◌, ap}
use mathlib.Core.List.{List, [], ◌∷◌, ◌++◌, append_assoc, append-nil}
use native.Mathlib.Omega.{arith}
use native.Mathlib.Numerals.{add-one}
use lib.ListN.{length, take, drop, set, replicate, get_or, length-set}
use lib.Seq.{take-suc-set, drop-set-lt, drop-cons}
use Rattle.sheet.specs.Reading.{Got, got, bad, map_got, rows}

-- Of n values, i stand in the first of some rows, and the bytes s follow; y is what is read in all. A row without a value
-- holds none.
pub record Filling {A : Type 0} (none : A) (room : ℕ) (r : ℕ → List ℕ → Got A) (n : ℕ) (y : Got (List A)) (held : List A)
    (s : List ℕ) (i : ℕ) : Type 0 where
  pub upto : i ≤ n
  pub long : length held ≡ room
  pub rest : drop i held ≡ replicate (room - i) none
  pub reads : map_got (λ l. take i held ++ l) (rows r (n - i) s) ≡ y

module _ {A : Type 0} (none : A) (room : ℕ) (r : ℕ → List ℕ → Got A) (n : ℕ) where
  module _ {y : Got (List A)} {held : List A} {s : List ℕ} {i : ℕ} (f : Filling none room r n y held s i) where
    module _ (h : n ≤ i) where
      all : i ≡ n
      all = omega (arith, f.upto)

      pub all_read : got (take n held) s ≡ y
      all_read =
          let over : n - i ≡ 0 = omega arith in
          ap (λ (l : List A). got l s) (sym (append-nil (take n held))) ∙ rw (over, all) at f.reads

      pub rest-none : drop n held ≡ replicate (room - n) none
      rest-none = rw all at f.rest

    module _ (h : i < n) where
      -- one value fewer to read
      fewer : n - i ≡ suc (n - (i + 1))
      fewer = omega arith

      pub one-read : {v : A} {t : List ℕ} → n ≤ room → got v t ≡ r (n - (i + 1)) s
          → Filling none room r n y (set held i v) t (i + 1)
      one-read {v} {t} k a =
          record {
            upto = omega arith;
            long = length-set held i v ∙ f.long;
            rest = drop-set-lt (i + 1) held i v (omega arith)
                ∙ rw add-one (tail (drop (suc i) held)
                (sym (drop-cons held i none inside) ∙ f.rest ∙ ap (λ (m : ℕ). replicate m none) left));
            reads = rw first (more (rows r (n - (i + 1)) t)) ∙ rw (← a) at (rw fewer at f.reads);
          }
        where
          inside : i < length held
          inside = omega (arith, f.long)

          left : room - i ≡ suc (room - (i + 1))
          left = omega arith

          first : take (i + 1) (set held i v) ≡ take i held ++ v ∷ []
          first = rw (add-one, take-suc-set held i v inside)

          tail : {x : A} (l : List A) → x ∷ l ≡ replicate (suc (room - (i + 1))) none → l ≡ replicate (room - suc i) none
          tail l e = let q : l ≡ replicate (room - (i + 1)) none = cc in q
              ∙ ap (λ (m : ℕ). replicate (room - m) none) (add-one i)

          cons : A × List A → List A
          cons x = x.0 ∷ x.1

          more : (z : Got (List A))
              → map_got (λ l. (take i held ++ v ∷ []) ++ l) z
              ≡ map_got (λ l. take i held ++ l) (map_got cons (map_got (λ l. (v, l)) z))
          more (got l u) = ap (λ (k : List A). got k u) (append_assoc (take i held) (v ∷ []) l)
          more (bad u) = refl

-- a row past the values holds none
pub kept_row : {A : Type 0} (none : A) (l : List A) (k i : ℕ) → get_or (l ++ replicate k none) i none ≡ get_or l i none
kept_row none [] zero i = refl
kept_row none [] (suc k) zero = refl
kept_row none [] (suc k) (suc i) = kept_row none [] k i
kept_row none (x ∷ l) k zero = refl
kept_row none (x ∷ l) k (suc i) = kept_row none l k i
