-- Writing entries one after another at the front of a list: what a loop keeps, and what the list is in the end.
use Prim.Native.Nat.{ℕ, suc, ◌+◌, ◌≤◌, ◌<◌}
use mathlib.Core.Path.{◌≡◌, refl, sym, ap, ◌∙◌, subst}
use mathlib.Core.List.{List, [], ◌∷◌, ◌++◌, append_assoc}
use native.Mathlib.Nat.{zero-add, le_refl}
use native.Mathlib.Numerals.{add-one}
use native.Mathlib.Omega.{arith}
use lib.ListN.{length, get_or, take, drop, set, take-append-drop, length-set, length-append, length-drop, get_or-append}
use lib.Seq.{drop-cons, take-suc-set, drop-set-lt, take-append_seam}
use Rattle.model.specs.Transfers.{fronted}

-- n entries of the list are written, and with the rest written after them it is the target
pub record Front (target rest l : List ℕ) (n : ℕ) : Type 0 where
  pub room : n + length rest ≤ length l
  pub is : target ≡ take n l ++ fronted rest (drop n l)

pub starts : (xs l : List ℕ) → length xs ≤ length l → Front (fronted xs l) xs l 0
starts xs l h = record { room = rw (zero-add (length xs)) h; is = refl }

pub same_rest : {target xs ys l : List ℕ} {n : ℕ} → xs ≡ ys → Front target xs l n → Front target ys l n
same_rest {target} {l = l} {n} e f = subst (λ (zs : List ℕ). Front target zs l n) e f

pub writes : {target rest l : List ℕ} {n v : ℕ} → Front target (v ∷ rest) l n → Front target rest (set l n v) (n + 1)
writes {target} {rest} {l} {n} {v} f =
    let h : n < length l = omega (arith, f.room) in
    let d : drop (suc (length rest)) (drop n l) ≡ drop (length rest) (drop (suc n) l) = ap (drop (suc (length rest))) (drop-cons l n 0 h) in
    record {
      room = rw length-set (omega (arith, f.room));
      is =
          f.is ∙ ap (λ (z : List ℕ). take n l ++ (v ∷ (rest ++ z))) d
          ∙ sym (append_assoc (take n l) (v ∷ []) (rest ++ drop (length rest) (drop (suc n) l)))
          ∙ rw (add-one, take-suc-set l n v h, drop-set-lt (suc n) l n v (le_refl (suc n)));
    }

pub ends : {target l : List ℕ} {n : ℕ} → Front target [] l n → l ≡ target
ends {target} {l} {n} f = sym (f.is ∙ take-append-drop n l)

-- ---- a list with entries at its front

module _ (xs l : List ℕ) where
  pub front_at : (i : ℕ) → i < length xs → get_or (fronted xs l) i 0 ≡ get_or xs i 0
  front_at i h = get_or-append xs (drop (length xs) l) 0 i h

  pub front-take : take (length xs) (fronted xs l) ≡ xs
  front-take = take-append_seam xs (drop (length xs) l)

  pub front_length : length xs ≤ length l → length (fronted xs l) ≡ length l
  front_length h = omega (arith, length-append xs (drop (length xs) l), length-drop (length xs) l)
