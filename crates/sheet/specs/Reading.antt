-- What reading the front of a list of bytes gives: a value and the bytes after it, or the bytes from the first one that
-- cannot stand there (none, where the list ends early); and readings put together. Definitions only.
use Rattle.std.specs.Prelude.{ℕ, zero, suc, List, [], ◌∷◌}

pub data Got (A : Type 0) : Type 0 where
  got : A → List ℕ → Got A
  bad : List ℕ → Got A

abbrev pub and_then : {A B : Type 0} → Got A → (A → List ℕ → Got B) → Got B
and_then (got a t) f = f a t
and_then (bad t) f = bad t

abbrev pub map_got : {A B : Type 0} → (A → B) → Got A → Got B
map_got f (got a t) = got (f a) t
map_got f (bad t) = bad t

-- one value and then another, whose reading may depend on the first
abbrev pub both : {A B : Type 0} → (List ℕ → Got A) → (A → List ℕ → Got B) → List ℕ → Got (A × B)
both r q s = and_then (r s) (λ a t. map_got (λ b. (a, b)) (q a t))

-- the same value under another type
abbrev pub via : {A B : Type 0} → (A → B) → (List ℕ → Got A) → List ℕ → Got B
via f r s = map_got f (r s)

-- n values, one after the other; the reading of one may depend on how many follow it
abbrev pub rows : {A : Type 0} → (ℕ → List ℕ → Got A) → ℕ → List ℕ → Got (List A)
rows r zero s = got [] s
rows r (suc n) s = via (λ x. x.0 ∷ x.1) (both (r n) (λ a. rows r n)) s

-- nothing may follow
abbrev pub whole : {A : Type 0} → Got A → Got A
whole (got a []) = got a []
whole (got a (b ∷ t)) = bad (b ∷ t)
whole (bad t) = bad t
