-- What the program reads of a file is judged as the whole file is.
-- Assumes nothing.
use Prim.Native.Nat.{ℕ, ◌+◌}
use mathlib.Core.Path.{◌≡◌, refl, ap}
use mathlib.Core.Bool.{Bool, true, false, ◌&&◌, ◌||◌}
use mathlib.Core.List.{List}
use native.Mathlib.Omega.{arith}
use lib.ListN.{length, take, length-take}
use lib.Seq.{take_all}
use lib.Dec.{ltb, leb}
use borrow.Author.Tests.{lt-ltb, le-ltb, ltb-true, ltb-false}
use Rattle.base.specs.Pick.{pick}
use Rattle.rules.specs.Walk.{◌at◌}
use Rattle.rules.specs.Verdict.{Verdict.refused, Translation, Translation.withheld}
use Rattle.rules.specs.Verdict.{judge}
use Rattle.rules.specs.Verdict.{translation}
use Rattle.files.specs.Files.{Bounds, too_long, judge_files, translate_files, CutIsEnough}

-- cut one element past a bound, a list is past it exactly when the whole is
past : (m : ℕ) (xs : List ℕ) → ltb m (length (take (m + 1) xs)) ≡ ltb m (length xs)
past m xs = go (ltb m (length xs)) refl
  where
    go : (t : Bool) → ltb m (length xs) ≡ t → ltb m (length (take (m + 1) xs)) ≡ t
    go true e = lt-ltb m (length (take (m + 1) xs)) (rw (length-take (m + 1) xs) (omega (arith, ltb-true m (length xs) e)))
    go false e = le-ltb m (length (take (m + 1) xs)) (rw (length-take (m + 1) xs) (omega (arith, ltb-false m (length xs) e)))

module _ (b : Bounds) (s c : List ℕ) where
  same_long : too_long b (take (b.sheet + 1) s) (take (b.certificate + 1) c) ≡ too_long b s c
  unfolding too_long
  same_long = rw (past b.sheet s, past b.certificate c)

  -- where neither is past its bound, nothing is cut
  same_bytes : {A : Type 0} (f : List ℕ → List ℕ → A) (x : A)
      → pick (too_long b s c) x (f (take (b.sheet + 1) s) (take (b.certificate + 1) c)) ≡ pick (too_long b s c) x (f s c)
  unfolding too_long
  same_bytes f x = go (ltb b.sheet (length s)) (ltb b.certificate (length c)) refl refl
    where
      go : (p q : Bool) → ltb b.sheet (length s) ≡ p → ltb b.certificate (length c) ≡ q
          → pick (p || q) x (f (take (b.sheet + 1) s) (take (b.certificate + 1) c)) ≡ pick (p || q) x (f s c)
      go true q d e = refl
      go false true d e = refl
      go false false d e =
          let m = ltb-false b.sheet (length s) d in
          let n = ltb-false b.certificate (length c) e in
          rw (take_all (b.sheet + 1) s (omega arith), take_all (b.certificate + 1) c (omega arith))

pub cut_is_enough : CutIsEnough
unfolding judge_files translate_files
cut_is_enough = record {
  judged = λ l b s c n. rw (same_long b s c) (same_bytes b s c (λ x y. judge l x y n) (refused (27 at 0)));
  translated = λ l b k s c n.
      rw (same_long b s c)
      (ap (λ (t : Translation). pick (leb 1 k && leb k 3) t (withheld (29 at 0)))
      (same_bytes b s c (λ x y. translation l k x y n) (withheld (27 at 0))));
}
