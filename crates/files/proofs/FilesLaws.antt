-- The bounds of the two files, by the tests of the code.
-- Assumes nothing.
use Prim.Native.Nat.{ℕ, ◌≤◌}
use mathlib.Core.Path.{◌≡◌, refl, subst}
use mathlib.Core.Bool.{Bool, true, false, ◌&&◌}
use mathlib.Core.List.{List}
use lib.ListN.{length}
use lib.Dec.{leb}
use native.Mathlib.Omega.{arith}
use borrow.Author.Tests.{leb-true}
use Rattle.std.specs.Prelude.{Result, Ok, Err}
use Rattle.rules.specs.Head.{base_limits}
use Rattle.rules.specs.Verdict.{answer_of, written_of, count_of, room_after, judge, translation, NamesSet}
use Rattle.rules.specs.declared.Answer.{Answer}
use Rattle.rules.specs.declared.Set.{Set}
use Rattle.rules.specs.declared.Set.TheVariants.{Start, Keep, Safe}
use Rattle.rules.specs.declared.refusals.Fault.{Fault}
use Rattle.rules.specs.declared.refusals.Fault.TheVariants.{FileSize}
use Rattle.rules.specs.declared.refusals.Refusal.{Refusal}
use Rattle.files.specs.Files.{base_bounds, too_long, judge_files, zeroed, Judged, translate_files, Translates}

module _ (s c w : List ℕ) where
  pub refused_27 : too_long base_bounds s c ≡ true → Judged base_limits base_bounds s c w w (Err (record { fault = FileSize; place = 0 }))
  unfolding answer_of judge_files
  refused_27 e = record { answered = rw e; left = rw e }

  pub checked : (w' : List ℕ) (r : Result Answer Refusal) → too_long base_bounds s c ≡ false
      → answer_of r ≡ judge base_limits s c (length w) → w' ≡ zeroed base_limits w → Judged base_limits base_bounds s c w w' r
  unfolding judge_files
  checked w' r e a z = record { answered = rw e a; left = rw e z }

  module _ (n : ℕ) where
    -- a number that names a set, and one that names none
    named : (x : Set) → NamesSet n (Ok x) → (leb 1 n && leb n 3) ≡ true
    named Start e = rw e
    named Keep e = rw e
    named Safe e = rw e

    unnamed : (f : Fault) → NamesSet n (Err f) → (leb 1 n && leb n 3) ≡ false
    unnamed f e = low (leb 1 n) refl
      where
        high : (b : Bool) → 1 ≤ n → leb n 3 ≡ b → b ≡ false
        high false h q = refl
        high true h q =
            let u : n ≤ 3 = leb-true n 3 q in
            let a : n ≡ 1 → ⊥ = e.1 Start in
            let c : n ≡ 2 → ⊥ = e.1 Keep in
            let d : n ≡ 3 → ⊥ = e.1 Safe in
            absurd (omega arith)

        low : (b : Bool) → leb 1 n ≡ b → (b && leb n 3) ≡ false
        low false q = refl
        low true q = high (leb n 3) (leb-true 1 n q) refl

    pub no_set : (k : ℕ) → k ≡ n → (f : Fault) → NamesSet k (Err f) → Translates base_limits base_bounds n s c w w (Err (record { fault = f; place = 0 }))
    unfolding translate_files written_of count_of room_after
    no_set k q f h = let e : NamesSet n (Err f) = subst (λ i. NamesSet i (Err f)) q h in let b = unnamed f e in let g = e.0 in record { answered = rw (b, g); left = rw b }

    module _ (k : ℕ) (q : k ≡ n) (x : Set) (h : NamesSet k (Ok x)) where
      e : NamesSet n (Ok x)
      e = subst (λ i. NamesSet i (Ok x)) q h

      pub withheld_27 : too_long base_bounds s c ≡ true → Translates base_limits base_bounds n s c w w (Err (record { fault = FileSize; place = 0 }))
      unfolding translate_files written_of count_of room_after
      withheld_27 o = let b = named x e in record { answered = rw (b, o); left = rw (b, o) }

      pub translated : (w' : List ℕ) (r : Result ℕ Refusal) → too_long base_bounds s c ≡ false
          → count_of r ≡ written_of (translation base_limits n s c (length w))
          → w' ≡ room_after (translation base_limits n s c (length w)) w
          → Translates base_limits base_bounds n s c w w' r
      unfolding translate_files
      translated w' r o a z = let b = named x e in record { answered = rw (b, o) a; left = rw (b, o) z }

pub ruleset judge_files_cases = (refused_27, checked)
