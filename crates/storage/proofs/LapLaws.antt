-- Laps, one after the other, from the first run on. Assumes nothing.
use Prim.Native.Nat.{ℕ, ◌-◌, ◌≤◌, ◌<◌}
use mathlib.Core.Path.{◌≡◌, refl, sym, ap, ◌∙◌}
use mathlib.Core.Bool.{Bool}
use mathlib.Core.List.{List}
use native.Mathlib.Nat.{mod-lt}
use native.Mathlib.Omega.{arith}
use lib.ListN.{length}
use Rattle.model.specs.declared.Layout.{Layout}
use Rattle.model.specs.Ownership.{cell_owner}
use Rattle.model.specs.Storages.{copied}
use Rattle.storage.specs.declared.runs.Pace.{Pace}
use Rattle.storage.specs.declared.runs.Run.{Run}
use Rattle.storage.specs.Pacing.{pace_of, first_run, wrapped_run}
use Rattle.storage.specs.Copying.{copied_on, Ready, Takes, Begins}
use Rattle.storage.proofs.PaceLaws.{paced, first-stands, wrapped-stands, wrapped-low}
use Rattle.storage.proofs.CopyRuns.{words-join, ready_on}

-- all words below the run's index are copied, and it is ready, unless it is past the array
pub record Along (b : Bool) (l : Layout) (p : Pace) (s row to row' to' : List ℕ) (r : Run) : Type 0 where
  pub reached : r.index.0 ≤ l.size
  pub ready : r.index.0 < l.size → Ready l p r row' s to'
  pub words : to' ≡ copied_on b l 0 r.index.0 s to
  pub row-length : length row' ≡ length row

pub along-start : (b : Bool) (l : Layout) (row s to : List ℕ) → Begins l row s to
    → Along b l (pace_of l) s row to row to (first_run l (pace_of l))
unfolding copied cell_owner
along-start b l row s to h = record {
  reached = omega arith;
  ready = λ k. record {
    sized = h.sized;
    paced = paced l h.sized;
    index = k;
    stands = first-stands l h.sized (pace_of l) (paced l h.sized);
    processor = mod-lt _ h.sized.processors-pos;
    pointers = h.pointers;
    row_room = h.row_room;
    read = h.read;
    written = h.written;
  };
  words = refl;
  row-length = refl;
}

module _ {b : Bool} {l : Layout} {p : Pace} {s row to row' to' : List ℕ} {r : Run} (a : Along b l p s row to row' to' r) where
  pub along-on : (k : r.index.0 < l.size) {e : Run} {row'' to'' : List ℕ} → Takes b l p r e s row' to' row'' to''
      → Along b l p s row to row'' to'' (wrapped_run p e)
  along-on k {e} t =
      let h = a.ready k in
      record {
        reached = t.reached;
        ready = λ below.
            ready_on h t (wrapped_run p e) refl below
            (wrapped-stands l h.sized p h.paced e (t.stands below)) (wrapped-low l h.sized p h.paced e (t.stands below));
        words =
            t.words
            ∙ ap (copied_on b l r.index.0 (e.index.0 - r.index.0) s) (a.words ∙ ap (λ (m : ℕ). copied_on b l 0 m s to) whole)
            ∙ words-join b l 0 r.index.0 e.index.0 s to (omega arith) (omega (arith, t.later))
            ∙ ap (λ (m : ℕ). copied_on b l 0 m s to) (sym all);
        row-length = t.row-length ∙ a.row-length;
      }
    where
      whole : r.index.0 ≡ r.index.0 - 0
      whole = omega arith

      all : e.index.0 ≡ e.index.0 - 0
      all = omega arith
