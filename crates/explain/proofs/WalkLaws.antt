-- Walking over whole records: each one leads on, and never past the bytes.
-- Assumes nothing.
use Prim.Native.Nat.{ℕ, ◌-◌, ◌<◌}
use mathlib.Core.Path.{◌≡◌, subst}
use mathlib.Core.List.{List}
use native.Mathlib.Omega.{arith}
use lib.ListN.{length}
use Rattle.std.specs.Prelude.{Ok, Err, Some, Result}
use Rattle.std.specs.Result.{result_ok}
use Rattle.records.specs.Found.{FoundAt}
use Rattle.records.specs.declared.Record.{Record}
use Rattle.records.specs.declared.NoRecord.{NoRecord}
use Rattle.records.proofs.FrontLaws.{passes}

pub nearer : (s : List ℕ) (at : ℕ) (x : Record) → FoundAt s at (Ok x) → length s - x.next < length s - at
nearer s at x f = let p = passes s at x f in omega (arith, p.after, p.within)

pub nears : (s : List ℕ) (at : ℕ) (r : Result Record NoRecord) (x : Record) → FoundAt s at r → result_ok r ≡ Some x
    → length s - x.next < length s - at
nears s at (Ok y) x f e = let z : y ≡ x = cc in subst (λ (w : Record). length s - w.next < length s - at) z (nearer s at y f)
nears s at (Err e) x f g = absurd (cc)
