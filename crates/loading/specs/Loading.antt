-- What reading a file answers. No contract can say which bytes a file holds.
use Rattle.std.specs.Prelude.{ℕ, ◌≤◌, ◌+◌, List, length, Option, IfSome}

-- the bytes that were read from a place on are there; none where the file cannot be read
abbrev pub Holds : List ℕ → ℕ → Option ℕ → Type 0
Holds w a r = IfSome r (λ k. a + k ≤ length w)
