use Rattle.std.proofs.Common.{rules}
use Rattle.rules.specs.Verdict.{which_of}
use Rattle.clauses.specs.Sets.{ClauseSetWritten}
use Rattle.clauses.proofs.ScratchLaws.{numbered_written}
use Rattle.clauses.proofs.sets.set_clauses.Goals as goal
use Rattle.clauses.proofs.sets.set_clauses.Goals.{in-Start, in-Keep, in-Safe}

pub returns-clause-written : goal.returns-clause-written
returns-clause-written c =
    let a = c.args in
    let m = c.match-set in
    let e : ClauseSetWritten (which_of a.set) a.s.now a.c.now a.h c.number_coils.new.map c.number_coils-2.new.map a.scratch.stack.now a.out.now m.out m.result =
    elim m.branch [
      | in-Start w ↦ rw (w.in-Start.is, w.out-is, w.result-is) (search rules)
      | in-Keep w ↦ rw (w.in-Keep.is, w.out-is, w.result-is) (search rules)
      | in-Safe w ↦ rw (w.in-Safe.is, w.out-is, w.result-is) (search rules)
    ] in
    numbered_written _ _ _ _ _ _ _ _ c.number_coils.auto.map c.number_coils-2.auto.map _ _ _ _ e
