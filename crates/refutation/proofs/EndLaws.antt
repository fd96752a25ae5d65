-- END after the third QED: the code's answer is the rules' verdict.
-- Assumes nothing.
use Prim.Native.Nat.{ℕ, zero, suc, ◌+◌, ◌≤◌, ◌<◌}
use mathlib.Core.Path.{◌≡◌, refl, sym, ◌∙◌}
use mathlib.Core.Bool.{or-false}
use mathlib.Core.List.{List, [], ◌∷◌}
use native.Mathlib.Omega.{arith}
use lib.ListN.{length, drop}
use lib.Dec.{ltb}
use borrow.Author.Tests.{eqb-true, lt-ltb, le-ltb}
use Rattle.std.specs.Prelude.{Ok, Err}
use Rattle.base.specs.Pick.{pick}
use Rattle.rules.specs.declared.Limits.{Limits}
use Rattle.rules.specs.declared.Answer.TheVariants.{Accepted}
use Rattle.rules.specs.declared.refusals.Fault.{Fault}
use Rattle.rules.specs.declared.refusals.Fault.TheVariants.{AfterCertificate}
use Rattle.rules.specs.Kind as Byte
use Rattle.rules.specs.Record.{record_length, body_length, rows}
use Rattle.rules.specs.Fault.{number_of}
use Rattle.rules.specs.Walk.{◌at◌, Move.no, Move.done, move_at, walk}
use Rattle.rules.specs.Formula.{Formula}
use Rattle.rules.specs.Sheet.{Sheet}
use Rattle.rules.specs.Certificate.{steps_move, steps_reader}
use Rattle.rules.specs.Verdict.{Verdict.accepted, Verdict.refused, Refuting, judge_steps, answer_of}
use Rattle.records.specs.Found.{DueAt}
use Rattle.records.specs.Kinds.{byte_of}
use Rattle.records.specs.declared.Record.{Record}
use Rattle.records.proofs.DueLaws.{Allowed, move_refused, move_due, due_allowed}
use Rattle.refutation.specs.Judging.{Ended}
use Rattle.refutation.proofs.MarkLaws.{certificate}

module _ (c : List ℕ) (p : ℕ) where
  pub end_refused : (f : Fault) → DueAt (Byte.END ∷ []) c p certificate (Err f) → Ended c p (Err (record { fault = f; place = p }))
  unfolding walk judge_steps answer_of steps_reader
  end_refused f d = record { ends = λ l t inv g f e. go l t inv g f e }
    where
      h : move_at steps_reader 3 (drop p c) ≡ no (number_of f)
      h = move_refused steps_reader 3 c p certificate f refl refl d

      go : (l : Limits) (t : Sheet) (inv : Formula) (g : Refuting) (k : ℕ) → length (drop p c) < k
          → refused (number_of f at p) ≡ judge_steps l t inv c g (walk steps_reader k (drop p c) p 3)
      go l t inv g zero e = absurd (omega arith)
      go l t inv g (suc k) e = rw (walk, h, judge_steps)

  module _ (x : Record) (d : DueAt (Byte.END ∷ []) c p certificate (Ok x)) where
    allowed : Allowed (Byte.END ∷ []) c p x
    allowed = due_allowed (Byte.END ∷ []) c p certificate x d

    end_kind : byte_of x.kind ≡ Byte.END
    end_kind = eqb-true (byte_of x.kind) Byte.END (rw or-false at allowed.kind)

    end_next : x.next ≡ p + 1
    unfolding record_length body_length rows
    end_next = rw end_kind at allowed.found.ends

    end_move : move_at steps_reader 3 (drop p c) ≡ done tt
    unfolding steps_reader steps_move
    end_move = move_due steps_reader 3 c p certificate x refl refl d ∙ rw (end_kind, steps_move)

    ending : (l : Limits) (t : Sheet) (inv : Formula) (g : Refuting) (k : ℕ) → length (drop p c) < k
        → judge_steps l t inv c g (walk steps_reader k (drop p c) p 3) ≡ pick (ltb x.next (length c)) (refused (26 at x.next)) accepted
    unfolding walk judge_steps
    ending l t inv g zero e = absurd (omega arith)
    ending l t inv g (suc k) e = rw (walk, end_move, judge_steps, end_next)

    pub end_late : x.next < length c → Ended c p (Err (record { fault = AfterCertificate; place = x.next }))
    unfolding answer_of
    end_late h = record { ends = λ l t inv g k e. sym (ending l t inv g k e ∙ rw (lt-ltb _ _ h)) }

    pub end_right : length c ≤ x.next → Ended c p (Ok Accepted)
    unfolding answer_of
    end_right h = record { ends = λ l t inv g k e. sym (ending l t inv g k e ∙ rw (le-ltb _ _ h)) }
