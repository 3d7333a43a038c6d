-- The addresses of the first n positions of a list, one after another.
use Prim.Native.Nat.{ℕ, suc, ◌≤◌, ◌<◌}
use mathlib.Core.Path.{◌≡◌, ap, ◌∙◌}
use mathlib.Core.List.{List, ◌∷◌, map}
use lib.ListN.{length, get_or, take, drop}
use lib.Seq.{drop-cons, get_or-take, length-take-le}
use Rattle.section.specs.declared.shares.Share.{Share}
use Rattle.section.specs.Shares.{address_by}

-- those of the positions from i on
abbrev pub left : Share → List ℕ → ℕ → ℕ → List ℕ
left s l n i = map (address_by s) (drop i (take n l))

module _ (s : Share) (l : List ℕ) (n : ℕ) (h : n ≤ length l) where
  pub left-next : (i : ℕ) → i < n → left s l n i ≡ address_by s (get_or l i 0) ∷ left s l n (suc i)
  left-next i k =
      ap (map (address_by s)) (drop-cons (take n l) i 0 (rw (length-take-le n l h) k))
      ∙ ap (λ (t : ℕ). address_by s t ∷ left s l n (suc i)) (get_or-take n l i 0 k)
