-- What a test's value tells of its parts.
-- Assumes nothing.
use mathlib.Core.Path.{◌≡◌, refl, sym, ◌∙◌}
use mathlib.Core.Logic.{◌⊎◌, ◌⊎◌.inl, ◌⊎◌.inr, ◌↔◌}
use mathlib.Core.Bool.{Bool, true, false, ◌&&◌, ◌||◌, true≢false, false≢true}

pub never : {A : Type 0} (b : Bool) → b ≡ true → b ≡ false → A
never b p q = absurd (true≢false (sym p ∙ q))

pub or_cases : (a b : Bool) → (a || b) ≡ true → (a ≡ true) ⊎ (b ≡ true)
or_cases true b e = inl refl
or_cases false b e = inr e

pub or_left : (a b : Bool) → a ≡ true → (a || b) ≡ true
or_left a b e = rw e

pub or_right : (a b : Bool) → b ≡ true → (a || b) ≡ true
or_right true b e = refl
or_right false b e = e

pub and_both : (a b : Bool) → a ≡ true → b ≡ true → (a && b) ≡ true
and_both a b p q = rw (p, q)

pub and_each : (a b : Bool) → (a && b) ≡ true → (a ≡ true) × (b ≡ true)
and_each true b e = (refl, e)
and_each false b e = absurd (false≢true e)

-- two tests that are true together are equal
pub together : (a b : Bool) → (a ≡ true) ↔ (b ≡ true) → a ≡ b
together true true e = refl
together true false e = sym (e.0 refl)
together false true e = e.1 refl
together false false e = refl
