-- The record at a place where STEP and QED are allowed: the code's answer is the rules' move.
-- Assumes nothing.
use Prim.Native.Nat.{ℕ, ◌<◌}
use mathlib.Core.Path.{◌≡◌, refl, ◌∙◌}
use mathlib.Core.Bool.{true, false}
use mathlib.Core.List.{List, [], ◌∷◌}
use native.Mathlib.Omega.{arith}
use lib.ListN.{drop}
use borrow.Author.Tests.{lt-ltb}
use Rattle.std.specs.Prelude.{Result, Ok, Err}
use Rattle.rules.specs.declared.refusals.Fault.{Fault}
use Rattle.rules.specs.declared.refusals.Fault.TheVariants.{CertificateEnds, CertificateKind}
use Rattle.rules.specs.Record.{one_of}
use Rattle.rules.specs.Certificate.{steps_move, steps_reader}
use Rattle.rules.specs.Walk.{move_at}
use Rattle.records.specs.Found.{DueAt, number_at}
use Rattle.records.specs.Kinds.{byte_of}
use Rattle.records.specs.declared.Common.{Common}
use Rattle.records.specs.declared.Record.{Record}
use Rattle.records.specs.declared.kind.Kind.{Kind}
use Rattle.records.specs.declared.kind.Kind.TheVariants as Kinds
use Rattle.records.proofs.DueLaws.{move_refused, move_due, due_allowed}
use Rattle.records.proofs.FrontLaws.{whole_ends, passes}
use Rattle.refutation.specs.Judging.{Beyond, MarkAt}
use Rattle.refutation.specs.declared.marks.Mark.TheVariants.{Step, Qed}

abbrev pub certificate : Common
certificate = record { ends = CertificateEnds; strange = CertificateKind }

abbrev pub kinds : List ℕ
kinds = 0x40 ∷ 0x41 ∷ []

differ : false ≡ true → ⊥
differ h = let z : ◌≡◌ {A = ℕ} 0 1 = cc in omega arith

-- what is due is one of the two
only : (k : Kind) → one_of kinds (byte_of k) ≡ true → (k ≡ Kinds.Qed → ⊥) → k ≡ Kinds.Step
only Kinds.Step h n = refl
only Kinds.Qed h n = absurd (n refl)
only Kinds.Head h n = absurd (differ h)
only Kinds.Start h n = absurd (differ h)
only Kinds.Input h n = absurd (differ h)
only Kinds.Coil h n = absurd (differ h)
only Kinds.Constant h n = absurd (differ h)
only Kinds.Not h n = absurd (differ h)
only Kinds.And h n = absurd (differ h)
only Kinds.Or h n = absurd (differ h)
only Kinds.Rung h n = absurd (differ h)
only Kinds.Condition h n = absurd (differ h)
only Kinds.End h n = absurd (differ h)
only Kinds.Safe h n = absurd (differ h)
only Kinds.Invariant h n = absurd (differ h)
only Kinds.Trace h n = absurd (differ h)
only Kinds.InputOn h n = absurd (differ h)
only Kinds.Scan h n = absurd (differ h)

module _ (c : List ℕ) (p : ℕ) where
  due_now : (k : ℕ) → k < 3 → {r : Result Record Fault} → DueAt kinds c p certificate r → DueAt (steps_reader.allowed k) c p certificate r
  unfolding steps_reader
  due_now k h d = rw (lt-ltb k 3 h) d

  pub mark_refused : (f : Fault) → DueAt kinds c p certificate (Err f) → MarkAt c p (Err f)
  unfolding steps_reader
  mark_refused f d = record { is = λ k h. move_refused steps_reader k c p certificate f refl refl (due_now k h d); next = tt }

  module _ (x : Record) (d : DueAt kinds c p certificate (Ok x)) where
    beyond : Beyond c p x.next
    beyond = let f = (due_allowed kinds c p certificate x d).found in record { is = whole_ends c p x f; within = (passes c p x f).within }

    move : (k : ℕ) → k < 3 → move_at steps_reader k (drop p c) ≡ steps_move k (byte_of x.kind) (drop p c)
    unfolding steps_reader
    move k h = move_due steps_reader k c p certificate x refl refl (due_now k h d)

    pub mark_qed : x.kind ≡ Kinds.Qed → MarkAt c p (Ok (record { mark = Qed; next = x.next }))
    unfolding steps_move
    mark_qed e = record { is = λ k h. move k h ∙ rw (e, steps_move); next = beyond }

    pub mark_step : (x.kind ≡ Kinds.Qed → ⊥) → (a b v : ℕ) → a ≡ number_at c p 1 → b ≡ number_at c p 3 → v ≡ number_at c p 5
        → MarkAt c p (Ok (record { mark = Step (record { first = a; second = b; pivot = v }); next = x.next }))
    unfolding steps_move
    mark_step n a b v ea eb ev =
        let e = only x.kind (due_allowed kinds c p certificate x d).kind n in
        record { is = λ k h. move k h ∙ rw (e, steps_move, ea, eb, ev); next = beyond }
