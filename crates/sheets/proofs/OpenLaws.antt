-- The opening record, by what is due.
-- Assumes nothing.
use Prim.Native.Nat.{ℕ}
use mathlib.Core.Path.{◌≡◌, refl, sym, ap, ◌∙◌}
use mathlib.Core.Bool.{Bool, true, false, or-false}
use mathlib.Core.List.{List}
use native.Mathlib.Omega.{arith}
use lib.Dec.{eqb}
use borrow.Author.Tests.{ne_eqb, eqb-true}
use Rattle.std.specs.Prelude.{Ok, Err}
use Rattle.rules.specs.Record.{one_of}
use Rattle.rules.specs.Walk.{◌at◌, Move.no, Move.done, Reading.stopped, Reading.closed, move_at, reading}
use Rattle.rules.specs.Fault.{number_of}
use Rattle.rules.specs.declared.refusals.Fault.{Fault}
use Rattle.rules.specs.Certificate.{opening}
use Rattle.records.specs.Kinds.{byte_of}
use Rattle.records.specs.Found.{DueAt}
use Rattle.records.specs.declared.kind.Kind.TheVariants.{Safe as SafeKind}
use Rattle.records.specs.declared.Record.{Record}
use Rattle.records.proofs.KindLaws.{byte_inj}
use Rattle.records.proofs.DueLaws.{due_allowed, move_refused, move_due}
use Rattle.sheets.specs.Certificate.{opening_kinds, opened_as}
use Rattle.sheets.specs.declared.Opening.TheVariants.{Safe, Trace}
use Rattle.sheets.proofs.InvariantLaws.{certificate_common}
use Rattle.sheets.proofs.WalkLaws.{walks_first, walks_no, walks_done}

module _ (c : List ℕ) (both : Bool) where
  -- the whole reading is its first record's
  stops : (n : ℕ) → move_at (opening (opening_kinds both)) tt c ≡ no n → reading (opening (opening_kinds both)) c 0 tt ≡ stopped (n at 0)
  stops n e = walks_no (opening (opening_kinds both)) c tt 0 (reading (opening (opening_kinds both)) c 0 tt) (walks_first (opening (opening_kinds both)) c tt 0) n e

  closes : (k : ℕ) → move_at (opening (opening_kinds both)) tt c ≡ done k → reading (opening (opening_kinds both)) c 0 tt ≡ closed 0 k
  closes k e = walks_done (opening (opening_kinds both)) c tt 0 (reading (opening (opening_kinds both)) c 0 tt) (walks_first (opening (opening_kinds both)) c tt 0) k e

  pub open_refused : (f : Fault) → DueAt (opening_kinds both) c 0 certificate_common (Err f)
      → opened_as (Err (record { fault = f; place = 0 })) ≡ reading (opening (opening_kinds both)) c 0 tt
  unfolding opening
  open_refused f e = sym (stops (number_of f) (move_refused (opening (opening_kinds both)) tt c 0 certificate_common f refl refl e))

  module _ (x : Record) (e : DueAt (opening_kinds both) c 0 certificate_common (Ok x)) where
    reads : reading (opening (opening_kinds both)) c 0 tt ≡ closed 0 (byte_of x.kind)
    unfolding opening
    reads = closes (byte_of x.kind) (move_due (opening (opening_kinds both)) tt c 0 certificate_common x refl refl e)

    pub open_safe : x.kind ≡ SafeKind → opened_as (Ok Safe) ≡ reading (opening (opening_kinds both)) c 0 tt
    open_safe h = rw (reads, h)

    trace : (b : Bool) (k : ℕ) → one_of (opening_kinds b) k ≡ true → (k ≡ 0x50 → ⊥) → k ≡ 0x60
    trace true k h n = eqb-true k 0x60 (sym (or-false (eqb k 0x60)) ∙ (rw (ne_eqb _ _ n) at h))
    trace false k h n =
        let f : false ≡ true = rw (ne_eqb _ _ n) at h in
        let z : ◌≡◌ {A = ℕ} 0 1 = cc in
        absurd (omega arith)

    pub open_trace : (x.kind ≡ SafeKind → ⊥) → opened_as (Ok Trace) ≡ reading (opening (opening_kinds both)) c 0 tt
    open_trace n =
        let a = due_allowed (opening_kinds both) c 0 certificate_common x e in
        sym (reads ∙ ap (closed 0) (trace both (byte_of x.kind) a.kind (λ (k : byte_of x.kind ≡ 0x50). n (byte_inj x.kind SafeKind k))))
