-- Statements over every element of a list, and lists made of lists.
use Rattle.std.specs.Prelude.{ℕ, List, [], ◌∷◌, ◌++◌, drop, replicate}

abbrev pub All : {A : Type 0} → (A → Type 0) → List A → Type 0
All P [] = Unit {0}
All P (x ∷ xs) = P x × All P xs

-- the lists that f gives, one after the other
abbrev pub each : {A B : Type 0} → (A → List B) → List A → List B
each f [] = []
each f (x ∷ xs) = f x ++ each f xs

-- the first n elements are zero, the others as they were
unfoldable pub fresh : ℕ → List ℕ → List ℕ
fresh n w = replicate n 0 ++ drop n w
