-- Both halves: what was read is what is written, and what is written reads back.
-- Assumes nothing.
use Prim.Native.Nat.{ℕ}
use mathlib.Core.Path.{subst}
use mathlib.Core.List.{List}
use Rattle.reading.specs.Traces.{ReadsTrace}
use Rattle.reading.proofs.TraceKept.{trace_written}
use Rattle.reading.proofs.TraceLeads.{trace_back}
use Rattle.reading.proofs.trace_exactly.Goals as goal

pub returns : goal.returns
returns c l n t bs b tr =
    (λ r. trace_written l t bs tr b r, λ w. subst (λ (x : List ℕ). ReadsTrace l t x tr) w.1 (trace_back l t tr w.0))
