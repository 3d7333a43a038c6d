-- What is known of a share of an accepted section: its first and next places are the positions in it, one after another, and these
-- have addresses. The positions of two shares are the same whichever is named first.
use Prim.Native.Nat.{ℕ, suc, ◌+◌, ◌-◌, ◌≤◌, ◌<◌}
use mathlib.Core.Path.{◌≡◌, sym, ap, ◌∙◌, subst}
use mathlib.Core.Bool.{true, ◌&&◌, and_comm}
use native.Mathlib.Omega.{arith}
use Rattle.numbers.specs.Search.{passing, head_or}
use Rattle.numbers.proofs.SearchLaws.{passing-same}
use Rattle.model.specs.Mappings.{Section}
use Rattle.model.specs.Sections as sections
use Rattle.model.specs.Sections.{count, owns_at, first_place}
use Rattle.model.specs.Questions.{first_no, of_section}
use Rattle.model.proofs.Walking.{Walks, walks}
use Rattle.model.proofs.ByteFillsHold.{address-low}
use Rattle.section.specs.declared.shares.Share.{Share}
use Rattle.section.specs.Strides.{strided_of, Bounded}
use Rattle.section.specs.Shares.{share_of, owned_by, place_by, next_by, address_by, Fitted, BasedBy, Accepted}
use Rattle.section.proofs.StridedSections.{bounded}
use Rattle.section.proofs.ShareLaws.{owned-by, place-by, next-by, address-by, based-by}
use Rattle.transfer.specs.Pairs.{Meets, places}

pub record Known (s : Share) : Type 0 where
  pub bounded : Bounded s.section
  pub first : place_by s ≡ head_or s.section.count (passing (owned_by s) 0 s.section.count)
  pub next : (t : ℕ) → t < s.section.count → owned_by s t ≡ true
      → next_by s t ≡ head_or s.section.count (passing (owned_by s) (suc t) (s.section.count - suc t))
  pub based : (t : ℕ) → t < s.section.count → owned_by s t ≡ true → BasedBy s t
  pub low : (t : ℕ) → t < s.section.count → owned_by s t ≡ true → address_by s t < 2147483648

module _ (x : Section) (ok : first_no (of_section x) ≡ 0) (q : ℕ) where
  same : (n a : ℕ) → a + n ≤ count x → passing (owns_at x q) a n ≡ passing (owned_by (share_of x q)) a n
  same n a h = passing-same _ _ n a (λ t l k. owned-by x ok q t (omega arith))

  mine : (t : ℕ) → t < count x → owned_by (share_of x q) t ≡ true → owns_at x q t ≡ true
  mine t h e = owned-by x ok q t h ∙ e

  of-section : Known (share_of x q)
  unfolding strided_of first_place sections.places Walks
  of-section =
      let n = count x in
      record {
        bounded = bounded x ok;
        first = sym (place-by x ok q) ∙ ap (head_or n) (same n 0 (omega arith));
        next = λ t h e.
            let m = mine t h e in
            sym (next-by x ok q t h m) ∙ walks x ok q t h m ∙ ap (head_or n) (same (n - suc t) (suc t) (omega arith));
        based = λ t h e. based-by x ok q t h (mine t h e);
        low = λ t h e. omega (arith, address-by x ok q t h (mine t h e), address-low x ok t h);
      }

module _ (s : Share) (a : Accepted s) where
  pub known : Known s
  known = subst Known (sym a.share) (of-section a.whole a.none s.processor)

  pub fitted : Fitted s
  fitted = record { bounded = known.bounded; processor = a.processor }

pub meets-turned : (a b : Share) → Meets a b → Meets b a
meets-turned a b m = record { first = m.second; second = m.first; counts = sym m.counts }

pub places-turned : (a b : Share) → Meets a b → places b a ≡ places a b
unfolding places
places-turned a b m =
    passing-same _ _ b.section.count 0 (λ t l h. and_comm (owned_by b t) (owned_by a t))
    ∙ ap (passing (λ t. owned_by a t && owned_by b t) 0) m.counts
