-- The program's own refusal, 27: a file that is too long. Files within their bounds are the checker's, or the translator's.
use Rattle.std.specs.Prelude.{ℕ, ◌+◌, ◌≡◌, Result, Bool, ◌&&◌, ◌||◌, List, length, take, ltb, leb}
use Rattle.base.specs.Pick.{pick}
use Rattle.base.specs.Lists.{fresh}
use Rattle.rules.specs.declared.Limits.{Limits}
use Rattle.rules.specs.declared.Answer.{Answer}
use Rattle.rules.specs.declared.refusals.Refusal.{Refusal}
use Rattle.rules.specs.Walk.{◌at◌}
use Rattle.rules.specs.Verdict.{Verdict, Verdict.refused, answer_of, Translation, Translation.withheld, written_of, count_of, room_after}
use Rattle.rules.specs.Verdict.{judge}
use Rattle.rules.specs.Verdict.{translation}

-- how many bytes a file may have
pub record Bounds : Type 0 where
  pub sheet : ℕ
  pub certificate : ℕ

-- a sheet file of 4,873 bytes, a certificate of 49,218
abbrev pub base_bounds : Bounds
base_bounds = record { sheet = 4873; certificate = 49218 }

-- a sheet file over its bound, or a certificate over its own
unfoldable pub too_long : Bounds → List ℕ → List ℕ → Bool
too_long b s c = ltb b.sheet (length s) || ltb b.certificate (length c)

-- 27, before 1 (place 0); then the checker's verdict
unfoldable pub judge_files : Limits → Bounds → List ℕ → List ℕ → ℕ → Verdict
judge_files l b s c n = pick (too_long b s c) (refused (27 at 0)) (judge l s c n)

-- the checker's workspace after it: left alone where it is too short, else its first places are zero
abbrev pub zeroed : Limits → List ℕ → List ℕ
zeroed l w = pick (ltb (length w) l.places) w (fresh l.places w)

-- the answer, and every place of the workspace after it; 27 leaves it alone
pub record Judged (l : Limits) (b : Bounds) (s c w w' : List ℕ) (r : Result Answer Refusal) : Type 0 where
  pub answered : answer_of r ≡ judge_files l b s c (length w)
  pub left : w' ≡ pick (too_long b s c) w (zeroed l w)

-- 29, then 27 (both at place 0), then the translation of set number n
unfoldable pub translate_files : Limits → Bounds → ℕ → List ℕ → List ℕ → ℕ → Translation
translate_files l b n s c room =
    pick (leb 1 n && leb n 3)
    (pick (too_long b s c) (withheld (27 at 0)) (translation l n s c room))
    (withheld (29 at 0))

-- the answer, and every place of the room after it
pub record Translates (l : Limits) (b : Bounds) (n : ℕ) (s c w w' : List ℕ) (r : Result ℕ Refusal) : Type 0 where
  pub answered : count_of r ≡ written_of (translate_files l b n s c (length w))
  pub left : w' ≡ room_after (translate_files l b n s c (length w)) w

-- the program reads at most one byte past each bound: what it reads is judged as the whole files are
pub record CutIsEnough : Type 0 where
  pub judged : (l : Limits) (b : Bounds) (s c : List ℕ) (n : ℕ)
      → judge_files l b (take (b.sheet + 1) s) (take (b.certificate + 1) c) n ≡ judge_files l b s c n
  pub translated : (l : Limits) (b : Bounds) (k : ℕ) (s c : List ℕ) (n : ℕ)
      → translate_files l b k (take (b.sheet + 1) s) (take (b.certificate + 1) c) n ≡ translate_files l b k s c n
