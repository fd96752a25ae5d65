-- The records of an invariant, by the tests of the code, and the loop over them.
-- Assumes nothing.
use Prim.Native.Nat.{ℕ, ◌+◌, ◌-◌, ◌<◌}
use mathlib.Core.Path.{◌≡◌, refl, sym, ap, ◌∙◌}
use mathlib.Core.List.{List}
use native.Mathlib.Omega.{arith}
use lib.ListN.{length, get_or, drop}
use borrow.Author.Tests.{ne_eqb}
use Rattle.rules.specs.declared.Limits.{Limits}
use Rattle.rules.specs.Record.{record_length}
use Rattle.rules.specs.Walk.{Move.no, move_at}
use Rattle.rules.specs.Formula.{size}
use Rattle.rules.specs.Sheet.{Sheet}
use Rattle.rules.specs.ReadFormula.{certificate_faults, Stack, empty, Pushed.fine, Pushed.fault, in_range, entry, operand, push, formula_record}
use Rattle.rules.specs.ReadSheet.{headed_sheet}
use Rattle.rules.specs.Certificate.{invariant_bounds, invariant_move, invariant_reader, read_invariant}
use Rattle.std.specs.Prelude.{Result, Ok, Err, Option, Some, None}
use Rattle.rules.specs.Fault.{number_of}
use Rattle.rules.specs.declared.refusals.Fault.{Fault}
use Rattle.rules.specs.declared.refusals.Fault.TheVariants.{CertificateEnds, CertificateKind, InvariantOperands}
use Rattle.records.specs.Kinds.{byte_of}
use Rattle.records.specs.Found.{DueAt}
use Rattle.records.specs.declared.kind.Kind.TheVariants.{Invariant as InvariantKind}
use Rattle.records.specs.declared.Record.{Record}
use Rattle.records.specs.declared.Common.{Common}
use Rattle.records.proofs.KindLaws.{byte_inj}
use Rattle.records.proofs.DueLaws.{due_allowed, move_refused, move_due}
use Rattle.sheets.specs.Pile.{scope_of, fault_in, Grown, Adds, Puts}
use Rattle.sheets.specs.Draft.{total}
use Rattle.sheets.specs.Certificate.{invariant_kinds, Holds, Onward, Ended, Turned, PartReads, PartAnswers, InvariantSays, InvariantAs}
use Rattle.sheets.specs.declared.Scope.{Scope}
use Rattle.sheets.specs.declared.Pile.{Pile}
use Rattle.sheets.specs.declared.FormulaFault.{FormulaFault}
use Rattle.sheets.specs.declared.Part.{Part}
use Rattle.sheets.proofs.TotalLaws.{Built, record_built, total_built, total_one, sizes_count, one_each}
use Rattle.records.proofs.FrontLaws.{whole_ends}
use Rattle.sheets.proofs.WalkLaws.{Walking, walks_first, walks_no, walks_done, walks_go, within_go, further}

module _ (l : Limits) (coils : ℕ) (c : List ℕ) (p : Part) (x : Record) where
  module _ (e : x.kind ≡ InvariantKind) where
    pub part_operands : (p.pile.depth ≡ 1 → ⊥) → PartReads l coils c p x (Err InvariantOperands)
    unfolding invariant_move Turned
    part_operands h t st q y = rw (e, ← y.piled.height, ne_eqb _ _ h)

    pub part_closes : p.pile.depth ≡ 1 → PartReads l coils c p x (Ok None)
    unfolding invariant_move Turned
    part_closes h t st q y =
        let o : length st.values ≡ 1 = omega (arith, y.piled.height) in
        record { moved = rw (e, o); alone = o }

  -- a formula record; its bounds are the invariant's
  module _ (r : Result Pile FormulaFault) (f : Puts (record { inputs = 0; coils = coils; depth = l.depth; records = l.invariant }) p.pile (drop p.at c) (byte_of x.kind) r) (h : x.kind ≡ InvariantKind → ⊥) where
    abbrev scope : Scope
    scope = record { inputs = 0; coils = coils; depth = l.depth; records = l.invariant }

    no_invariant : byte_of x.kind ≡ byte_of InvariantKind → ⊥
    no_invariant e = h (byte_inj x.kind InvariantKind e)

    same : (t : Sheet) (st : Stack) → t.coils ≡ coils
        → formula_record certificate_faults (scope_of scope) st (byte_of x.kind) (drop p.at c) ≡ formula_record certificate_faults (invariant_bounds l t) st (byte_of x.kind) (drop p.at c)
    unfolding formula_record in_range push
    same t st q = rw q

    pub part_no : (n : FormulaFault) (m : Fault) → r ≡ Err n → number_of m ≡ fault_in certificate_faults n → PartReads l coils c p x (Err m)
    unfolding invariant_move Turned Adds
    part_no n m e v t st q y =
        let g : formula_record certificate_faults (scope_of scope) st (byte_of x.kind) (drop p.at c) ≡ fault (fault_in certificate_faults n) = rw e at (f certificate_faults st y.piled) in
        let i : formula_record certificate_faults (invariant_bounds l t) st (byte_of x.kind) (drop p.at c) ≡ fault (fault_in certificate_faults n) = sym (same t st q) ∙ g in
        rw (ne_eqb _ _ no_invariant, i, invariant_move, v)

    pub part_go : (w : Pile) → r ≡ Ok w → PartReads l coils c p x (Ok (Some (record { pile = w; at = x.next })))
    unfolding invariant_move Turned Adds
    part_go w e t st q y =
        let g : Grown w (formula_record certificate_faults (scope_of scope) st (byte_of x.kind) (drop p.at c)) = rw e at (f certificate_faults st y.piled) in
        let i : formula_record certificate_faults (invariant_bounds l t) st (byte_of x.kind) (drop p.at c) ≡ fine g.to = sym (same t st q) ∙ g.pushed in
        let b : Built st g.to (entry (byte_of x.kind) (drop p.at c)) = record_built certificate_faults (invariant_bounds l t) st g.to (byte_of x.kind) (drop p.at c) i in
        let s : total size g.to.values ≡ total size st.values + 1 = total_built size one_each sizes_count st g.to (entry (byte_of x.kind) (drop p.at c)) b in
        let n : g.to.count ≡ st.count + 1 = ap (λ (u : Stack). u.count) b.made in
        record {
          to = g.to;
          moved = rw (ne_eqb _ _ no_invariant, i, invariant_move);
          holds = record { piled = g.piled; sized = omega (arith, y.sized) };
          comes = refl;
        }

pub ruleset read_part_cases = (part_operands, part_closes, part_no, part_go)

abbrev pub certificate_common : Common
certificate_common = record { ends = CertificateEnds; strange = CertificateKind }

-- the record that is due
module _ (l : Limits) (coils : ℕ) (c : List ℕ) (p : Part) where
  pub part_refused : (f : Fault) → DueAt invariant_kinds c p.at certificate_common (Err f) → PartAnswers l coils c p (Err f)
  unfolding invariant_reader Turned
  part_refused f e t st q y = move_refused (invariant_reader l t) st c p.at certificate_common f refl refl e

  pub part_whole : (x : Record) → DueAt invariant_kinds c p.at certificate_common (Ok x) → (r : Result (Option Part) Fault)
      → PartReads l coils c p x r → PartAnswers l coils c p r
  unfolding invariant_reader
  part_whole x e r g t st q y =
      let a = due_allowed invariant_kinds c p.at certificate_common x e in
      rw (move_due (invariant_reader l t) st c p.at certificate_common x refl refl e, ← whole_ends c p.at x a.found) (g t st q y)

-- the rules' walk from here, with a stack that has this pile, reads what the walk from the start reads
pub record Parting (l : Limits) (t : Sheet) (c : List ℕ) (p : Part) : Type 0 where
  pub stack : Stack
  pub holds : Holds p.pile stack
  pub walking : Walking (invariant_reader l t) c (read_invariant l t c) p.at stack

-- for every sheet with so many coils
pub record PartingAll (l : Limits) (coils : ℕ) (c : List ℕ) (p : Part) : Type 0 where
  pub of : (t : Sheet) → t.coils ≡ coils → Parting l t c p

pub invariant_begins : (l : Limits) (coils : ℕ) (c : List ℕ) → PartingAll l coils c (record { pile = record { depth = 0; count = 0 }; at = 1 })
unfolding read_invariant total
invariant_begins l coils c = record {
  of = λ t q. record {
    stack = empty;
    holds = record { piled = record { height = refl; counted = refl }; sized = refl };
    walking = walks_first (invariant_reader l t) c empty 1;
  };
}

module _ (l : Limits) (coils : ℕ) (c : List ℕ) (p : Part) (r : Result (Option Part) Fault) (i : PartingAll l coils c p) (a : PartAnswers l coils c p r) where
  turned : (t : Sheet) (q : t.coils ≡ coils)
      → Turned (i.of t q).stack (move_at (invariant_reader l t) (i.of t q).stack (drop p.at c)) (p.at + record_length (get_or (drop p.at c) 0 0)) r
  turned t q = a t (i.of t q).stack q (i.of t q).holds

  pub invariant_no : (n : Fault) → r ≡ Err n → InvariantAs l coils c (Err (record { fault = n; place = p.at }))
  unfolding Turned InvariantSays
  invariant_no n e = record {
    answered = λ t q.
        let x : move_at (invariant_reader l t) (i.of t q).stack (drop p.at c) ≡ no (number_of n) = rw e at (turned t q) in
        walks_no (invariant_reader l t) c (i.of t q).stack p.at (read_invariant l t c) (i.of t q).walking (number_of n) x;
  }

  pub invariant_done : r ≡ Ok None → InvariantAs l coils c (Ok (record { end = p.at; size = p.pile.count }))
  unfolding Turned InvariantSays
  invariant_done e = record {
    answered = λ t q.
        let x : Ended (i.of t q).stack (move_at (invariant_reader l t) (i.of t q).stack (drop p.at c)) = rw e at (turned t q) in
        let o = total_one size (i.of t q).stack.values x.alone in
        let h = (i.of t q).holds in
        record {
          invariant = operand (i.of t q).stack.values 0;
          reads = walks_done (invariant_reader l t) c (i.of t q).stack p.at (read_invariant l t c) (i.of t q).walking (operand (i.of t q).stack.values 0) x.moved;
          sized = omega (arith, h.sized, h.piled.counted);
        };
  }

  module _ (w : Part) (e : r ≡ Ok (Some w)) where
    onward : (t : Sheet) (q : t.coils ≡ coils)
        → Onward w (p.at + record_length (get_or (drop p.at c) 0 0)) (move_at (invariant_reader l t) (i.of t q).stack (drop p.at c))
    unfolding Turned
    onward t q = rw e at (turned t q)

    pub invariant_go : PartingAll l coils c w
    invariant_go = record {
      of = λ t q.
          let o = onward t q in
          record {
            stack = o.to;
            holds = o.holds;
            walking = walks_go (invariant_reader l t) c (i.of t q).stack p.at (read_invariant l t c) (i.of t q).walking o.to w.at o.moved o.comes;
          };
    }

    pub invariant_less : length c - w.at < length c - p.at
    invariant_less =
        let t : Sheet = headed_sheet 0 coils in
        let o = onward t refl in
        further (invariant_reader l t) c (i.of t refl).stack p.at w.at (within_go (invariant_reader l t) c (i.of t refl).stack p.at o.to o.moved) o.comes

pub ruleset read_invariant_cases = (invariant_begins, invariant_no, invariant_done, invariant_go, invariant_less)
