-- If-then-else over any type. Both branches are computed before the test, so a recursive call goes in by `elim` or `let`.
use Rattle.std.specs.Prelude.{Bool, true, false}

abbrev pub pick : {A : Type 0} → Bool → A → A → A
pick true a b = a
pick false a b = b
