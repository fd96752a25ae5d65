-- What stands at an offset, by the tests of the code.
-- Assumes nothing.
use Prim.Native.Nat.{ℕ, suc, ◌+◌, ◌-◌, ◌≤◌, ◌<◌}
use mathlib.Core.Path.{◌≡◌, sym, ap, ◌∙◌}
use mathlib.Core.List.{List}
use native.Mathlib.Omega.{arith}
use lib.ListN.{length, get_or, length-drop, drop_of_length-le}
use lib.Seq.{drop-cons}
use borrow.Author.Tests.{le-leb, lt-leb, ne_eqb}
use Rattle.std.specs.Prelude.{Ok, Err}
use Rattle.rules.specs.Record.{body_length, rows, front, record_length}
use Rattle.records.specs.Kinds.{byte_of}
use Rattle.records.specs.Found.{FoundAt}
use Rattle.records.specs.declared.kind.Kind.{Kind}
use Rattle.records.specs.declared.kind.Kind.TheVariants.{Head, Start, Input, Coil, Constant, Not, And, Or, Rung, Condition, End, Step, Qed, Safe, Invariant, Trace, InputOn, Scan}
use Rattle.records.specs.declared.NoRecord.TheVariants.{Nothing, Unknown, Cut}

-- every kind has a body length
kind_length : (k : Kind) → body_length (byte_of k) ≡ 255 → ⊥
unfolding body_length rows
kind_length Head h = omega arith
kind_length Start h = omega arith
kind_length Input h = omega arith
kind_length Coil h = omega arith
kind_length Constant h = omega arith
kind_length Not h = omega arith
kind_length And h = omega arith
kind_length Or h = omega arith
kind_length Rung h = omega arith
kind_length Condition h = omega arith
kind_length End h = omega arith
kind_length Step h = omega arith
kind_length Qed h = omega arith
kind_length Safe h = omega arith
kind_length Invariant h = omega arith
kind_length Trace h = omega arith
kind_length InputOn h = omega arith
kind_length Scan h = omega arith

module _ (s : List ℕ) (p : ℕ) where
  pub at_nothing : length s ≤ p → FoundAt s p (Err Nothing)
  unfolding front
  at_nothing h = record { is = rw (drop_of_length-le s h); ends = tt }

  pub at_unknown : p < length s → body_length (get_or s p 0) ≡ 255 → FoundAt s p (Err Unknown)
  unfolding front
  at_unknown h e = record { is = rw (drop-cons s p 0 h, e); ends = tt }

  -- n is the body length that the code found
  module _ (k : Kind) (n : ℕ) (h : p < length s) (i : byte_of k ≡ get_or s p 0) (e : n ≡ body_length (get_or s p 0)) where
    whole_length : n ≡ body_length (byte_of k)
    whole_length = e ∙ ap body_length (sym i)

    pub at_cut : length s - (p + 1) < n → FoundAt s p (Err (Cut k))
    unfolding front
    at_cut l =
        let m : length s - suc p < body_length (byte_of k) = rw (← whole_length) (omega arith) in
        record {
          is = rw (drop-cons s p 0 h, ← i, ne_eqb _ _ (kind_length k), length-drop (suc p) s, lt-leb _ _ m);
          ends = tt;
        }

    pub at_whole : n ≤ length s - (p + 1) → FoundAt s p (Ok (record { kind = k; next = p + 1 + n }))
    unfolding front record_length
    at_whole l =
        let m : body_length (byte_of k) ≤ length s - suc p = rw (← whole_length) (omega arith) in
        let w = whole_length in
        record {
          is = rw (drop-cons s p 0 h, ← i, ne_eqb _ _ (kind_length k), length-drop (suc p) s, le-leb _ _ m);
          ends = omega arith;
        }

pub ruleset record_at_cases = (at_nothing, at_unknown, at_cut, at_whole)
