-- A list of sizes as bytes: sizes of 0 or more are the words of the bytes, and what a yes to question 16 says. Assumes nothing.
use Prim.Native.Nat.{ℕ, zero, suc, ◌*◌, ◌/◌, ◌%◌, ◌≤◌, ◌<◌, zero-le}
use mathlib.Core.Path.{◌≡◌, refl, sym, ap}
use mathlib.Core.Bool.{Bool, true, false, ◌&&◌, true≢false}
use mathlib.Core.List.{List, [], ◌∷◌, map}
use native.Mathlib.Nat.{div-add-mod', not-suc-le-zero}
use native.Mathlib.Omega.{arith}
use lib.Dec.{leb, ltb, eqb}
use lib.IntN.{pos}
use lib.ListN.{length, get_or, length-map}
use borrow.Author.Tests.{lt-ltb, le-ltb, le-leb, leb-true, eqb-true, eq-eqb}
use Rattle.numbers.specs.Search.{sum}
use Rattle.numbers.specs.Words.{words_of}
use Rattle.numbers.proofs.Tests.{both_true}
use Rattle.numbers.proofs.WordLaws.{words-length}
use Rattle.model.specs.Mappings.{signed_of, sizes_of}
use Rattle.model.specs.Ownership.{nat, run_sizes}
use Rattle.model.specs.Questions.{each_natural, sizes_fit}

-- ---- words and sizes

pub natural-yes : (ws : List ℕ) → ((i : ℕ) → i < length ws → get_or ws i 0 ≤ 2147483647) → each_natural (map signed_of ws) ≡ true
natural-yes [] h = refl
natural-yes (w ∷ ws) h =
    rw (lt-ltb w 2147483648 (omega (arith, h 0 (omega arith))), le-leb 0 w zero-le) (natural-yes ws (λ i l. h (suc i) (omega arith)))

pub natural-no : (ws : List ℕ) (i : ℕ) → i < length ws → 2147483647 < get_or ws i 0 → each_natural (map signed_of ws) ≡ false
natural-no [] i h l = absurd (not-suc-le-zero h)
natural-no (w ∷ ws) zero h l = rw (le-ltb w 2147483648 (omega arith))
natural-no (w ∷ ws) (suc i) h l = go (natural-no ws i (omega arith) l) (ltb w 2147483648) refl
  where
    go : each_natural (map signed_of ws) ≡ false → (b : Bool) → ltb w 2147483648 ≡ b → each_natural (map signed_of (w ∷ ws)) ≡ false
    go ih true e = rw (e, le-leb 0 w zero-le) ih
    go ih false e = rw e

natural-words : (ws : List ℕ) → each_natural (map signed_of ws) ≡ true → map nat (map signed_of ws) ≡ ws
unfolding nat
natural-words [] e = refl
natural-words (w ∷ ws) e = go (natural-words ws) (ltb w 2147483648) refl
  where
    go : (each_natural (map signed_of ws) ≡ true → map nat (map signed_of ws) ≡ ws) → (b : Bool) → ltb w 2147483648 ≡ b
        → map nat (map signed_of (w ∷ ws)) ≡ w ∷ ws
    go ih true p = rw p (ap (λ (l : List ℕ). w ∷ l) (ih (rw (p, le-leb 0 w zero-le) at e)))
    go ih false p = absurd (true≢false (sym (rw p at e)))

-- ---- a list of bytes

-- what a yes to question 16 says
pub record Fitting (cells processors : ℕ) (bytes : List ℕ) : Type 0 where
  pub long : length bytes ≡ 4 * processors
  pub words : run_sizes (sizes_of bytes) ≡ words_of 4 bytes
  pub covers : cells ≤ sum (words_of 4 bytes)

pub sizes-length : (bytes : List ℕ) → length (sizes_of bytes) ≡ length bytes / 4
unfolding sizes_of
sizes-length bytes = rw length-map (words-length 4 bytes)

pub fitting : (cells processors : ℕ) (bytes : List ℕ) → sizes_fit (pos cells) (pos processors) (sizes_of bytes) (length bytes % 4) ≡ true
    → Fitting cells processors bytes
unfolding sizes_fit nat sizes_of
fitting cells processors bytes e =
    let a = eqb (length (sizes_of bytes)) processors in
    let b = eqb (length bytes % 4) 0 in
    let c = each_natural (sizes_of bytes) in
    let d = leb cells (sum (run_sizes (sizes_of bytes))) in
    let three = both_true (a && b && c) d e in
    let two = both_true (a && b) c three.0 in
    let one = both_true a b two.0 in
    let words = natural-words (words_of 4 bytes) two.1 in
    record {
      long =
          omega (
            arith,
            sizes-length bytes,
            eqb-true (length (sizes_of bytes)) processors one.0,
            eqb-true (length bytes % 4) 0 one.1,
            div-add-mod' (length bytes) 4,
          );
      words = words;
      covers = rw words at (leb-true cells (sum (run_sizes (sizes_of bytes))) three.1);
    }

-- ---- the question from its parts

module _ (cells processors : ℕ) (bytes : List ℕ) where
  abbrev asked : Bool
  asked = sizes_fit (pos cells) (pos processors) (sizes_of bytes) (length bytes % 4)

  pub other_length : (length bytes ≡ 4 * processors → ⊥) → asked ≡ false
  other_length f = go asked refl
    where
      go : (b : Bool) → asked ≡ b → asked ≡ false
      go true e = absurd (f (fitting cells processors bytes e).long)
      go false e = e

  module _ (long : length bytes ≡ 4 * processors) where
    entries : eqb (length (sizes_of bytes)) processors ≡ true
    entries = eq-eqb (length (sizes_of bytes)) processors (omega (arith, sizes-length bytes))

    none_left : eqb (length bytes % 4) 0 ≡ true
    none_left = eq-eqb (length bytes % 4) 0 (omega arith)

    pub some-negative : each_natural (sizes_of bytes) ≡ false → asked ≡ false
    unfolding sizes_fit nat
    some-negative e = rw (entries, none_left, e)

    pub by-sum : each_natural (sizes_of bytes) ≡ true → asked ≡ leb cells (sum (words_of 4 bytes))
    unfolding sizes_fit nat sizes_of
    by-sum e = rw (entries, none_left, e, natural-words (words_of 4 bytes) e)
