-- The line of an answer is that of its verdict, for a refusal of the checker and for one that is told as it is.
-- Assumes nothing.
use Prim.Native.Nat.{ℕ}
use mathlib.Core.Path.{◌≡◌, refl, subst}
use mathlib.Core.List.{List}
use Rattle.std.specs.Prelude.{Result, Ok, Err}
use Rattle.rules.specs.Verdict.{Verdict, answer_of}
use Rattle.rules.specs.declared.Answer.{Answer}
use Rattle.rules.specs.declared.refusals.Refusal.{Refusal}
use Rattle.writing.specs.Room.{Lined}
use Rattle.line.specs.Line.{line_of, told_of, told_verdict, Tells}
use Rattle.line.specs.declared.Told.{Told}

refusal_told : (a : Result Answer Refusal) (v : Verdict) → Tells (λ x t. t ≡ told_of x) a v → v ≡ answer_of a
unfolding Tells told_verdict answer_of
refusal_told (Ok a) v e = e
refusal_told (Err x) v (t, e, f) = rw (f, e) refl

told_as_is : (a : Result Answer Told) (v : Verdict) → Tells (λ x t. t ≡ x) a v → v ≡ told_verdict a
unfolding Tells
told_as_is (Ok a) v e = e
told_as_is (Err x) v (t, e, f) = rw (f, e) refl

module _ (w w' : List ℕ) (n : ℕ) where
  pub refusal_lined : (a : Result Answer Refusal)
      → ((v : Verdict) × Tells (λ x t. t ≡ told_of x) a v × Lined (line_of v) w w' n) → Lined (line_of (answer_of a)) w w' n
  refusal_lined a (v, t, l) = subst (λ u. Lined (line_of u) w w' n) (refusal_told a v t) l

  pub told_lined : (a : Result Answer Told)
      → ((v : Verdict) × Tells (λ x t. t ≡ x) a v × Lined (line_of v) w w' n) → Lined (line_of (told_verdict a)) w w' n
  told_lined a (v, t, l) = subst (λ u. Lined (line_of u) w w' n) (told_as_is a v t) l
