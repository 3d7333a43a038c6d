-- Fills one after another along the places that a walk leads through, over any walk: together they get, pay and reach what
-- the rule of filling says of the whole list of places. Assumes nothing.
use Prim.Native.Nat.{ℕ, zero, suc, ◌+◌, ◌-◌, ◌≤◌, ◌<◌, zero-le}
use mathlib.Core.Path.{◌≡◌, refl, sym, ap, ◌∙◌, subst}
use mathlib.Core.Bool.{Bool, true, false, cond}
use mathlib.Core.List.{List, [], ◌∷◌, ◌++◌, map, map-append}
use native.Mathlib.Nat.{zero-add, not-suc-le-zero, le_of_suc-le-suc}
use native.Mathlib.Omega.{arith}
use lib.Dec.{ltb, eqb}
use lib.ListN.{length, get_or, take, drop, length-take, length-drop, length-map, drop_of_length-le}
use lib.Seq.{take-add, drop-drop, take_at}
use borrow.Author.Tests.{le-ltb, eq-eqb, ne_eqb, eqb-true}
use Rattle.numbers.specs.Search.{passing, head_or, sum}
use Rattle.numbers.proofs.SearchLaws.{passing-yes, passing-no, passing-none, sum-append}
use Rattle.model.specs.Filling.{Walk, Filled, Request, stopped, wrote, fill_by, answer, got, reported, paid, standing, allowed}
use Rattle.model.specs.Demand3.{Leads, done, on, Follows, share, added, has_entry, roomy, InTurn}

-- ---- the places that a walk leads through

module _ {w : Walk} where
  pub leads-head : {t : ℕ} {ps : List ℕ} → Leads w t ps → head_or w.count ps ≡ t
  unfolding head_or
  leads-head done = refl
  leads-head (on h l) = refl

  -- a walk leads on along a part of its places
  pub leads-drop : {t : ℕ} {ps : List ℕ} (n : ℕ) → Leads w t ps → Leads w (head_or w.count (drop n ps)) (drop n ps)
  unfolding head_or
  leads-drop zero done = done
  leads-drop zero (on h l) = on h l
  leads-drop (suc n) done = done
  leads-drop {t = t} (suc n) (on {ts = ts} h l) = leads-drop {t = w.next t} n l

  -- from one place to the one after it
  leads-first : {t : ℕ} {ps : List ℕ} → Leads w t ps → 0 < length ps → (get_or ps 0 0 ≡ t) × (get_or ps 0 0 < w.count)
  leads-first done h = absurd (not-suc-le-zero h)
  leads-first (on k l) h = (refl, k)

  pub leads-next : {t : ℕ} {ps : List ℕ} → Leads w t ps → (j : ℕ) → suc j < length ps
      → (get_or ps (suc j) 0 ≡ w.next (get_or ps j 0)) × (get_or ps (suc j) 0 < w.count)
  leads-next done j h = absurd (not-suc-le-zero h)
  leads-next (on k l) zero h = leads-first l (le_of_suc-le-suc h)
  leads-next (on k l) (suc j) h = leads-next l j (le_of_suc-le-suc h)

  -- from the count there are no places
  pub leads-done : {t : ℕ} {ps : List ℕ} → Leads w t ps → t ≡ w.count → ps ≡ []
  leads-done done e = refl
  leads-done (on h l) e = absurd (omega arith)

-- where a walk leads to the next number that passes a test, it leads through all of them
module _ (w : Walk) (f : ℕ → Bool)
    (next : (t : ℕ) → t < w.count → f t ≡ true → w.next t ≡ head_or w.count (passing f (suc t) (w.count - suc t))) where
  leads-from : (n a : ℕ) → a + n ≡ w.count → Leads w (head_or w.count (passing f a n)) (passing f a n)
  unfolding head_or
  leads-from zero a e = rw (passing-none f a) done
  leads-from (suc n) a e = go (leads-from n (suc a) (omega arith)) (f a) refl
    where
      left : w.count - suc a ≡ n
      left = omega arith

      go : Leads w (head_or w.count (passing f (suc a) n)) (passing f (suc a) n) → (b : Bool) → f a ≡ b
          → Leads w (head_or w.count (passing f a (suc n))) (passing f a (suc n))
      go l true p = rw (passing-yes f a n p) (on {t = a} {ts = passing f (suc a) n} (omega arith) (rw (next a (omega arith) p, left) l))
      go l false p = rw (passing-no f a n p) l

  pub leads-passing : Leads w (head_or w.count (passing f 0 w.count)) (passing f 0 w.count)
  leads-passing = leads-from w.count 0 (zero-add w.count)

-- ---- one fill

module _ (w : Walk) where
  -- what a fill gives with these places ahead
  abbrev pub given : List ℕ → ℕ → List ℕ → Filled
  given ps quota xs =
      let m = allowed w ps quota (length xs) in
      record {
        entries = m;
        tries = sum (map w.cost (take m ps));
        place = head_or w.count (drop m ps);
        list = map w.address (take m ps) ++ drop m xs;
      }

  pub fill-given : {t : ℕ} {ps : List ℕ} → Leads w t ps → (quota : ℕ) (xs : List ℕ) → fill_by w t quota xs ≡ given ps quota xs
  unfolding fill_by allowed sum head_or
  fill-given done quota [] = refl
  fill-given done quota (x ∷ xs) = rw (eq-eqb w.count w.count refl)
  fill-given (on h l) quota [] = refl
  fill-given (on {t} {ts} h l) quota (x ∷ xs) = go (fill-given l (quota - w.cost t) xs) (ltb quota w.least) refl
    where
      before : eqb t w.count ≡ false
      before = ne_eqb t w.count (λ e. omega arith)

      go : fill_by w (w.next t) (quota - w.cost t) xs ≡ given ts (quota - w.cost t) xs
          → (b : Bool) → ltb quota w.least ≡ b → fill_by w t quota (x ∷ xs) ≡ given (t ∷ ts) quota (x ∷ xs)
      go e true p = rw (before, p)
      go e false p = rw (before, p) (ap (wrote (w.address t) (w.cost t)) e)

  -- a fill takes no more than there is
  pub allowed-le : (ps : List ℕ) (quota room : ℕ) → allowed w ps quota room ≤ length ps
  unfolding allowed
  allowed-le ps quota zero = zero-le
  allowed-le [] quota (suc room) = zero-le
  allowed-le (t ∷ ps) quota (suc room) = go (allowed-le ps (quota - w.cost t) room) (ltb quota w.least) refl
    where
      go : allowed w ps (quota - w.cost t) room ≤ length ps → (b : Bool) → ltb quota w.least ≡ b
          → allowed w (t ∷ ps) quota (suc room) ≤ suc (length ps)
      go ih true p = rw p zero-le
      go ih false p = rw p (omega arith)

  -- ---- one request

  accepted : (r : Request) → eqb r.refusal 0 ≡ true → (answer w r).filled ≡ fill_by w r.place r.quota r.list
  unfolding answer
  accepted r e = rw e

  refused : (r : Request) → eqb r.refusal 0 ≡ false → (answer w r).filled ≡ stopped 0 r.list
  unfolding answer
  refused r e = rw e

  stands_after : (t : ℕ) (r : Request) → standing t (answer w r ∷ []) ≡ cond (eqb r.refusal 0) (answer w r).filled.place t
  unfolding standing answer
  stands_after t r = refl

  abbrev Starts : ℕ → Request → Type 0
  Starts t r = r.refusal ≡ 0 → (r.place ≡ t) × (w.least ≤ r.quota)

  -- what one request adds from place t on, with these places ahead
  record Part (t : ℕ) (ps : List ℕ) (r : Request) (n : ℕ) : Type 0 where
    shared : share w ps r ≡ n
    number : (answer w r).filled.entries ≡ n
    written : take (answer w r).filled.entries (answer w r).filled.list ≡ map w.address (take n ps)
    tries : (answer w r).filled.tries ≡ sum (map w.cost (take n ps))
    place : standing t (answer w r ∷ []) ≡ head_or w.count (drop n ps)
    within : n ≤ length ps

  part : {t : ℕ} {ps : List ℕ} → Leads w t ps → (r : Request) → Starts t r → (n : ℕ) × Part t ps r n
  unfolding share sum
  part {t} {ps} l r s = go (eqb r.refusal 0) refl
    where
      m : ℕ
      m = allowed w ps r.quota (length r.list)

      same : eqb r.refusal 0 ≡ true → (answer w r).filled ≡ given ps r.quota r.list
      same e =
          accepted r e
          ∙ ap (λ (z : ℕ). fill_by w z r.quota r.list) (s (eqb-true r.refusal 0 e)).0
          ∙ fill-given l r.quota r.list

      all : length (map w.address (take m ps)) ≡ m
      all = rw (length-map, length-take) (omega (arith, allowed-le ps r.quota (length r.list)))

      go : (b : Bool) → eqb r.refusal 0 ≡ b → (n : ℕ) × Part t ps r n
      go true e = (
        m,
        record {
          shared = rw e;
          number = rw (same e);
          written = rw (same e) (take_at _ _ m all);
          tries = rw (same e);
          place = rw (stands_after t r, e, same e);
          within = allowed-le ps r.quota (length r.list);
        },
      )
      go false e = (
        0,
        record {
          shared = rw e;
          number = rw (refused r e);
          written = rw (refused r e);
          tries = rw (refused r e);
          place = rw (stands_after t r, e) (sym (leads-head l));
          within = zero-le;
        },
      )

  -- ---- requests one after another

  record Whole (t : ℕ) (ps : List ℕ) (rs : List Request) : Type 0 where
    number : reported (map (answer w) rs) ≡ added w ps rs
    written : got (map (answer w) rs) ≡ map w.address (take (added w ps rs) ps)
    tries : paid (map (answer w) rs) ≡ sum (map w.cost (take (added w ps rs) ps))
    place : standing t (map (answer w) rs) ≡ head_or w.count (drop (added w ps rs) ps)
    within : added w ps rs ≤ length ps

  whole : {t : ℕ} {ps : List ℕ} → Leads w t ps → (rs : List Request) → Follows w t rs → Whole t ps rs
  unfolding reported added got paid standing Follows sum
  whole l [] fs = record { number = refl; written = refl; tries = refl; place = sym (leads-head l); within = zero-le }
  whole {t} {ps} l (r ∷ rs) fs =
      let p = part l r fs.0 in
      let n : ℕ = p.0 in
      let h : Part t ps r n = p.1 in
      let ih : Whole (head_or w.count (drop n ps)) (drop n ps) rs =
      whole {t = head_or w.count (drop n ps)} (leads-drop n l) rs (subst (λ (z : ℕ). Follows w z rs) h.place fs.1) in
      let m : ℕ = added w (drop n ps) rs in
      record {
        number = rw (h.shared, h.number, ih.number);
        written = rw (h.shared, h.written, ih.written, take-add n m ps, map-append);
        tries = rw (h.shared, h.tries, ih.tries, take-add n m ps, map-append, sum-append);
        place = ap (λ (z : ℕ). standing z (map (answer w) rs)) h.place ∙ ih.place ∙ rw (h.shared, drop-drop m n ps);
        within = rw h.shared (omega (arith, ih.within, h.within, length-drop n ps));
      }

  -- ---- enough fills reach the count

  allowed-some : (t : ℕ) (ps : List ℕ) (quota room : ℕ) → w.least ≤ quota → 1 ≤ allowed w (t ∷ ps) quota (suc room)
  unfolding allowed
  allowed-some t ps quota room h = rw (le-ltb quota w.least h) (omega arith)

  -- an accepted request whose list has an entry takes an element where there is one
  takes : (t : ℕ) (ps : List ℕ) (r : Request) → (r.refusal ≡ 0 → w.least ≤ r.quota)
      → cond (eqb r.refusal 0) (has_entry r.list) 0 ≤ share w (t ∷ ps) r
  unfolding share
  takes t ps r least = go (eqb r.refusal 0) refl r.list refl
    where
      go : (b : Bool) → eqb r.refusal 0 ≡ b → (xs : List ℕ) → r.list ≡ xs
          → cond (eqb r.refusal 0) (has_entry r.list) 0 ≤ share w (t ∷ ps) r
      go true e [] p = rw (e, p) zero-le
      go true e (x ∷ xs) p = rw (e, p) (allowed-some t ps r.quota (length xs) (least (eqb-true r.refusal 0 e)))
      go false e xs p = rw e zero-le

  enough : (t : ℕ) (ps : List ℕ) (rs : List Request) → Follows w t rs → length ps ≤ roomy rs → length ps ≤ added w ps rs
  unfolding added roomy Follows
  enough t ps [] fs h = h
  enough t [] (r ∷ rs) fs h = zero-le
  enough t (u ∷ ps) (r ∷ rs) fs h =
      let n : ℕ = share w (u ∷ ps) r in
      let d : length (drop n (u ∷ ps)) ≡ suc (length ps) - n = length-drop n (u ∷ ps) in
      let k : cond (eqb r.refusal 0) (has_entry r.list) 0 ≤ n = takes u ps r (λ e. (fs.0 e).1) in
      let a : length (drop n (u ∷ ps)) ≤ added w (drop n (u ∷ ps)) rs = enough (standing t (answer w r ∷ [])) (drop n (u ∷ ps)) rs fs.1 (omega arith) in
      omega arith

  -- requests that follow one another along the places that the walk leads through
  pub in-turn : (ps : List ℕ) (rs : List Request) → Leads w (head_or w.count ps) ps → Follows w (head_or w.count ps) rs
      → InTurn w ps rs (map (answer w) rs)
  unfolding head_or
  in-turn ps rs l fs =
      let a : Whole (head_or w.count ps) ps rs = whole l rs fs in
      record {
        entries = rw (a.written, a.number, length-map, length-take) (omega (arith, a.within));
        rule = a.number;
        addresses = rw a.number a.written;
        tries = rw a.number a.tries;
        place = rw a.number a.place;
        reaches = λ h. a.place ∙ ap (head_or w.count) (drop_of_length-le ps (enough _ ps rs fs h));
      }
