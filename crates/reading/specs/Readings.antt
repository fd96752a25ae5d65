-- What a reading comes to: its marks, what stands after them, and a reading that was cut short.
use Rattle.std.specs.Prelude.{ℕ, ◌≡◌, List, [], ◌∷◌, ◌++◌}
use Rattle.rules.specs.Walk.{◌at◌, Reading, Reading.stopped, Reading.marked, Reading.closed}

-- the marks, in order
unfoldable pub marks : {M X : Type 0} → Reading M X → List M
marks (stopped y) = []
marks (marked p m w) = m ∷ marks w
marks (closed p x) = []

-- what stands after the marks: the refusal, or the closing record
unfoldable pub final : {M X : Type 0} → Reading M X → Reading M X
final (stopped y) = stopped y
final (marked p m w) = final w
final (closed p x) = closed p x

-- w' is w cut short: it has the first marks of w, and then is refused with the number n
pub record CutShort {M X : Type 0} (n : ℕ) (w w' : Reading M X) : Type 0 where
  pub place : ℕ
  pub refused : final w' ≡ stopped (n at place)
  pub others : List M
  pub same : marks w ≡ marks w' ++ others
