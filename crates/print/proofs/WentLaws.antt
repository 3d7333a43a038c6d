-- What one fill of an accepted section takes of what is left of a processor's list.
use Prim.Native.Nat.{ℕ, zero, suc, ◌+◌, ◌-◌, ◌≤◌, ◌<◌, min}
use mathlib.Core.Path.{◌≡◌, sym, ◌∙◌, ap}
use mathlib.Core.Bool.{true}
use mathlib.Core.List.{List, [], ◌∷◌, ◌++◌, map}
use native.Mathlib.Omega.{arith}
use lib.Dec.{lit≤}
use lib.ListN.{length, take, drop, length-append, length-map, length-drop}
use lib.Seq.{length-take-le, length_front, take-append-le, take_at, drop-drop}
use Rattle.numbers.specs.Search.{head_or, sum}
use Rattle.model.specs.Mappings.{Section}
use Rattle.model.specs.declared.Position.{Position}
use Rattle.model.specs.Sections.{count, address, places}
use Rattle.model.specs.Steps.{cost}
use Rattle.model.specs.Questions.{first_no, of_section}
use Rattle.model.specs.Filling.{Filled, fill_by, allowed}
use Rattle.model.specs.Calls.{walk_of}
use Rattle.model.proofs.InTurnLaws.{given, fill-given, allowed-le}
use Rattle.section.specs.declared.questions.Strided.{Strided}
use Rattle.section.specs.declared.shares.Extent.TheVariants.{Blocks}
use Rattle.section.specs.declared.shares.Share.{Share}
use Rattle.section.specs.Strides.{strided_of}
use Rattle.section.specs.Shares.{share_of, owned_by}
use Rattle.section.proofs.ShareLaws.{owned-by}
use Rattle.fill.specs.Ready.{Accepted}
use Rattle.print.specs.declared.fills.Listed.{Listed}
use Rattle.print.specs.declared.fills.Rest.{Rest}
use Rattle.print.specs.declared.fills.Gone.{Gone}
use Rattle.print.specs.Ahead.{listed, Owner, rest_of, StandsIn, Went}
use Rattle.print.proofs.ListedLaws.{in_blocks}
use Rattle.print.proofs.AheadLaws.{rest-is, place-within, place-owned, left_is, rest-leads, places-few, costs-few, costs-split, owner-bounded}

-- ---- it may start

pub starts : (y : Listed) (q : ℕ) → Owner y q → {r : Rest} → StandsIn (listed y) q r
    → Accepted (record { section = y.strided; processor = q; extent = Blocks; place = r.place; quota = 1000000 })
unfolding strided_of
starts y q o {r} s =
    let f = o.fair in
    let x = listed y in
    let b = owner-bounded y q o in
    let c : y.strided.count ≡ count x = ap (λ (w : Strided). w.count) f.same in
    let t : ℕ = r.place.0 in
    let mine : t < count x → owned_by (share_of x q) t ≡ true = λ k. sym (owned-by x f.accepted q t k) ∙ place-owned x q s k in
    record {
      started = record {
        section-bounded = b.0;
        processor = b.1;
        place = omega (arith, place-within x q s);
        owned = λ k. ap (λ (z : Share). owned_by z t) (in_blocks y f q) ∙ mine (omega arith);
        least = lit≤ tt;
        most = lit≤ tt;
      };
      source = x;
      accepted = f.accepted;
      same = in_blocks y f q;
    }

-- ---- what it takes

-- one element at least, if there is one and an entry for it
allowed-some : (x : Section) (ps : List ℕ) (room : ℕ) → 0 < length ps → 0 < room → 0 < allowed (walk_of x) ps 1000000 room
unfolding allowed walk_of
allowed-some x [] room h k = absurd (omega arith)
allowed-some x (t ∷ ps) zero h k = absurd (omega arith)
allowed-some x (t ∷ ps) (suc room) h k = omega arith

module _ (x : Section) (ok : first_no (of_section x) ≡ 0) (q : ℕ) {r : Rest} (s : StandsIn x q r) (list : List ℕ) (room : ℕ)
    (fits : room ≡ min r.left (length list)) {n t : ℕ} {p : Position} {l : List ℕ}
    (filled : fill_by (walk_of x) r.place.0 1000000 (take room list) ≡ record { entries = n; tries = t; place = p.0; list = l }) where
  m : ℕ
  m = allowed (walk_of x) (rest_of x q r) 1000000 (length (take room list))

  gave : record { entries = n; tries = t; place = p.0; list = l } ≡ given (walk_of x) (rest_of x q r) 1000000 (take room list)
  gave = sym filled ∙ fill-given (walk_of x) (rest-leads x q ok s) 1000000 (take room list)

  many : n ≡ m
  unfolding m
  many = ap (λ (f : Filled). f.entries) gave

  pub entries-le : n ≤ r.left
  unfolding m
  entries-le = omega (arith, many, allowed-le (walk_of x) (rest_of x q r) 1000000 (length (take room list)), left_is x q s)

  -- the addresses taken
  mine : List ℕ
  mine = map (address x) (take n (rest_of x q r))

  mine-length : length mine ≡ n
  unfolding mine
  mine-length = length-map (take n (rest_of x q r)) (address x) ∙ length-take-le n (rest_of x q r) (omega (arith, entries-le, left_is x q s))

  list-is : l ≡ mine ++ drop n (take room list)
  unfolding mine m walk_of
  list-is = ap (λ (f : Filled). f.list) gave ∙ rw many

  place_is : p.0 ≡ head_or (count x) (drop n (rest_of x q r))
  unfolding m walk_of
  place_is = ap (λ (f : Filled). f.place) gave ∙ rw many

  tries-is : t ≡ sum (map (cost x) (take n (rest_of x q r)))
  unfolding m walk_of
  tries-is = ap (λ (f : Filled). f.tries) gave ∙ rw many

  rest : Rest
  rest = record { place = p; left = r.left - n }

  further : drop n (rest_of x q r) ≡ drop (s.passed + n) (places x q)
  further = rw (rest-is x q s) (drop-drop n s.passed (places x q))

  stands_after : StandsIn x q rest
  unfolding rest
  stands_after =
      record {
        passed = s.passed + n;
        place = place_is ∙ ap (head_or (count x)) further;
        left = omega (arith, left_is x q s, length-drop n (rest_of x q r)) ∙ ap length further;
      }

  some-taken : 0 < r.left → 0 < length list → 0 < n
  unfolding m
  some-taken h k =
      let some : 0 < length (take room list) = omega (arith, length-take-le room list (omega arith)) in
      rw many (allowed-some x (rest_of x q r) (length (take room list)) (omega (arith, left_is x q s)) some)

  pub went : length l ≡ length (take room list)
      → Went x q r list (l ++ drop room list) (record { entries = n; tries = t; rest = record { place = p; left = r.left - n } })
  unfolding rest mine stands_after
  went same =
      let long : n ≤ length l = rw list-is (omega (arith, mine-length, length-append mine (drop n (take room list)))) in
      let front : take n l ≡ mine = rw list-is (take_at mine _ n mine-length) in
      record {
        same = length_front list l room same;
        few = omega (arith, length-append l (drop room list));
        addresses = take-append-le n l (drop room list) long ∙ front;
        tries = tries-is;
        rest = rest-is x q stands_after ∙ sym further;
        stands = stands_after;
        some = some-taken;
      }

-- ---- fills one after another, to the end

module _ (x : Section) (q : ℕ) {r : Rest} {before list : List ℕ} {g : Gone} (v : Went x q r before list g) where
  pub fewer-left : StandsIn x q r → 0 < r.left → 0 < length before → g.rest.left < r.left
  fewer-left s h k =
      omega (arith, v.some h k, left_is x q s, left_is x q v.stands, ap length v.rest, length-drop g.entries (rest_of x q r))

  -- what was paid and what is left to pay
  pub paid-so-far : (paid all : ℕ) → paid + sum (map (cost x) (rest_of x q r)) ≡ all
      → paid + g.tries + sum (map (cost x) (rest_of x q g.rest)) ≡ all
  paid-so-far paid all e =
      omega (arith, v.tries, costs-split x (rest_of x q r) g.entries, ap (λ (l : List ℕ). sum (map (cost x) l)) v.rest)

pub all_paid : (x : Section) (q : ℕ) {r : Rest} → StandsIn x q r → r.left ≤ 0 → (paid all : ℕ) → paid + sum (map (cost x) (rest_of x q r)) ≡ all
    → paid ≡ all
all_paid x q {r} s h paid all e = omega (arith, left_is x q s, costs-few x (rest_of x q r))

-- all the tries of a processor's list
pub tries-few : (x : Section) → first_no (of_section x) ≡ 0 → (q : ℕ) → sum (map (cost x) (places x q)) ≤ 6442450941
tries-few x ok q = omega (arith, costs-few x (places x q), places-few x q ok)
