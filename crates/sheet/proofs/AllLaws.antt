-- What holds of all members of a list.
use mathlib.Core.List.{List, [], ◌∷◌}
use Rattle.model.specs.Sheets.{All}

module _ {A : Type 0} (P Q : A → Type 0) where
  pub each : ((x : A) → P x → Q x) → (l : List A) → All P l → All Q l
  each f [] h = tt
  each f (x ∷ l) h = (f x h.0, each f l h.1)

  pub zip : (l : List A) → All P l → All Q l → All (λ x. P x × Q x) l
  zip [] h k = tt
  zip (x ∷ l) h k = ((h.0, k.0), zip l h.1 k.1)

  pub unzip : (l : List A) → All (λ x. P x × Q x) l → All P l × All Q l
  unzip [] h = (tt, tt)
  unzip (x ∷ l) h = let (p, q) = unzip l h.1 in ((h.0.0, p), (h.0.1, q))
