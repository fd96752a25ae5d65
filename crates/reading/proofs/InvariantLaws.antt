-- A certificate's invariant: what was read is within the limits and its bytes are those it writes, and what is written reads back.
-- Assumes nothing.
use Prim.Native.Nat.{ℕ, ◌+◌}
use mathlib.Core.Path.{◌≡◌, refl, sym, ap, ◌∙◌}
use mathlib.Core.Bool.{true}
use mathlib.Core.List.{List, [], ◌∷◌, ◌++◌}
use native.Mathlib.Omega.{arith}
use lib.ListN.{length, get_or, drop}
use lib.Seq.{drop-drop, drop-append-add}
use lib.Dec.{eqb}
use Rattle.rules.specs.declared.Limits.{Limits}
use Rattle.rules.specs.Kind
use Rattle.rules.specs.Record.{rows, body_length, one_of}
use Rattle.rules.specs.Walk.{Move, Move.go, Move.no, Move.done, Reading.closed, reading}
use Rattle.rules.specs.Formula.{Leaf.input, Leaf.coil, Leaf.constant, Formula, Entry, Entry.put, Entry.NOT, Entry.AND, Entry.OR, size}
use Rattle.rules.specs.Sheet.{Sheet}
use Rattle.rules.specs.ReadFormula.{certificate_faults, Stack, empty, operand, Pushed, Pushed.fine, Pushed.fault, formula_record}
use Rattle.rules.specs.ReadSheet.{one}
use Rattle.rules.specs.WriteSheet.{Bytes, write_formula, Names}
use Rattle.rules.specs.Certificate.{invariant_bounds, invariant_move, invariant_reader, read_invariant}
use Rattle.rules.specs.WriteCertificate.{WithinInvariant}
use Rattle.reading.specs.Readings.{marks, final}
use Rattle.reading.proofs.FrontLaws.{Whole}
use Rattle.reading.proofs.WalkLaws.{went}
use Rattle.reading.proofs.WholeLaws.{record_at, bytes_drop, Arrived, arrives}
use Rattle.reading.proofs.ByteLaws.{one_of_all}
use Rattle.reading.proofs.EntryLaws.{FormulaKind, FormulaKind.an_input, FormulaKind.a_coil, FormulaKind.a_constant, FormulaKind.a_not, FormulaKind.an_and, FormulaKind.an_or, EntryNames, kind_of, kind_of_lem}
use Rattle.reading.proofs.OpeningLaws.{first_byte}
use Rattle.reading.proofs.RecordLaws.{bare_record}
use Rattle.reading.proofs.LeadLaws.{reads_done, unmarked}
use Rattle.reading.proofs.ClipLaws.{Local}
use Rattle.reading.proofs.AlikeLaws.{pick_same, formula_alike}
use Rattle.reading.proofs.StackLaws.{write_stack, stack_size, StackFits}
use Rattle.reading.proofs.FormulaLaws.{Stacked, record_stacked, record_written, one_fits, one_counted, one_written, Takes, formula_leads}

-- the kinds in an invariant: INVARIANT, or a formula record
pub data InvariantKind : ℕ → Type 0 where
  an_invariant : InvariantKind 0x51
  a_formula : {k : ℕ} → FormulaKind k → InvariantKind k

abbrev invariant_kinds : List ℕ
invariant_kinds = 0x51 ∷ 0x11 ∷ 0x12 ∷ 0x13 ∷ 0x14 ∷ 0x15 ∷ []

invariant_kind : (k : ℕ) → one_of invariant_kinds k ≡ true → InvariantKind k
invariant_kind k e =
    one_of_all InvariantKind invariant_kinds k
    (an_invariant, (a_formula a_coil, (a_formula a_constant, (a_formula a_not, (a_formula an_and, (a_formula an_or, tt)))))) e

-- what a formula record does to the stack
abbrev pushes : Pushed → Move Stack ⊥ Formula
pushes (fault n) = no n
pushes (fine u) = go u

formula_moves : (l : Limits) (t : Sheet) (st : Stack) (k : ℕ) (bs : List ℕ) → FormulaKind k
    → invariant_move l t st k bs ≡ pushes (formula_record certificate_faults (invariant_bounds l t) st k bs)
unfolding invariant_move
formula_moves l t st k bs an_input = refl
formula_moves l t st k bs a_coil = refl
formula_moves l t st k bs a_constant = refl
formula_moves l t st k bs a_not = refl
formula_moves l t st k bs an_and = refl
formula_moves l t st k bs an_or = refl

-- what the invariant's reading keeps
pub record Building (l : Limits) (t : Sheet) (st : Stack) (ws : List ℕ) : Type 0 where
  pub written : ws ≡ write_stack st.values
  pub stacked : Stacked (invariant_bounds l t) 0 st

module _ (l : Limits) (t : Sheet) (st : Stack) (ws bs : List ℕ) (h : Bytes bs) (i : Building l t st ws) where
  goes : (u : Stack) (k : ℕ) → Whole k bs → InvariantKind k → invariant_move l t st k bs ≡ go u → Building l t u (ws ++ record_at bs)
  unfolding invariant_move
  goes u k w an_invariant e =
      let y = (went (go u) tt (one st) _ _ e).1 in
      let z : ◌≡◌ {A = ℕ} 0 1 = cc in
      absurd (omega arith)
  goes u k w (a_formula f) e = by (formula_record certificate_faults (invariant_bounds l t) st k bs) refl (sym (formula_moves l t st k bs f) ∙ e)
    where
      by : (x : Pushed) → formula_record certificate_faults (invariant_bounds l t) st k bs ≡ x → pushes x ≡ go u → Building l t u (ws ++ record_at bs)
      by (fault n) g m = let z : ◌≡◌ {A = ℕ} 0 1 = cc in absurd (omega arith)
      by (fine v) g m =
          let made : v ≡ u = cc in
          rw (← made) (record {
            written =
                ap (λ (z : List ℕ). z ++ record_at bs) i.written
                ∙ sym (record_written certificate_faults (invariant_bounds l t) 0 st v k bs i.stacked h w f g);
            stacked = record_stacked certificate_faults (invariant_bounds l t) 0 st v k bs i.stacked h w f g;
          })

  closing : (inv : Formula) (k : ℕ) → Whole k bs → InvariantKind k → invariant_move l t st k bs ≡ done inv
      → WithinInvariant l t inv × (ws ≡ write_formula inv) × Whole Kind.INVARIANT bs
  unfolding invariant_move
  closing inv k w an_invariant e =
      let x = went (done inv) tt (one st) _ _ e in
      let y = x.1 in
      let made : operand st.values 0 ≡ inv = cc in
      let n = one_counted (invariant_bounds l t) 0 st i.stacked x.0 in (
        rw (← made) (record {
          fits = one_fits (invariant_bounds l t) 0 st i.stacked x.0;
          records_fit = omega (arith, i.stacked.few);
        }),
        i.written ∙ one_written (invariant_bounds l t) 0 st i.stacked x.0 ∙ ap write_formula made,
        w,
      )
  closing inv k w (a_formula f) e = by (formula_record certificate_faults (invariant_bounds l t) st k bs) (sym (formula_moves l t st k bs f) ∙ e)
    where
      by : (x : Pushed) → pushes x ≡ done inv → WithinInvariant l t inv × (ws ≡ write_formula inv) × Whole Kind.INVARIANT bs
      by (fault n) m = let z : ◌≡◌ {A = ℕ} 0 1 = cc in absurd (omega arith)
      by (fine v) m = let z : ◌≡◌ {A = ℕ} 0 1 = cc in absurd (omega arith)

-- an invariant as it was read: its bytes stand after the first, and INVARIANT after them
pub record InvariantWritten (l : Limits) (t : Sheet) (bs : List ℕ) (p : ℕ) (inv : Formula) : Type 0 where
  pub within : WithinInvariant l t inv
  pub bytes : drop 1 bs ≡ write_formula inv ++ (Kind.INVARIANT ∷ drop (p + 1) bs)
  pub place : p ≡ 1 + length (write_formula inv)

-- where its reading arrives
arrived : (l : Limits) (t : Sheet) (bs : List ℕ) (p : ℕ) (inv : Formula) → Bytes bs → read_invariant l t bs ≡ closed p inv
    → Arrived (invariant_reader l t) (λ (st : Stack) (ms : List ⊥) (ws : List ℕ). Building l t st ws) (marks (read_invariant l t bs)) [] (drop 1 bs) 1 p inv
unfolding read_invariant invariant_reader final StackFits stack_size write_stack
arrived l t bs p inv b e =
    arrives (invariant_reader l t) (λ (st : Stack) (ms : List ⊥) (ws : List ℕ). Building l t st ws)
    (λ st u ms ws cs h i k. goes l t st ws cs h i u (get_or cs 0 0) k.whole_kind (invariant_kind (get_or cs 0 0) k.allowed_kind) k.moved)
    (λ st u m ms ws cs h i k. absurd m)
    empty [] [] (drop 1 bs) 1 p inv (bytes_drop 1 bs b)
    (record { written = refl; stacked = record { fits = tt; counted = refl; few = omega arith } }) (ap final e)

-- the bytes after the first record of a place further on
after_record : (k : ℕ) (bs passed left : List ℕ) (p : ℕ) → drop 1 bs ≡ passed ++ left → p ≡ 1 + length passed → Whole k left
    → drop 1 bs ≡ passed ++ (k ∷ drop (p + 1) bs)
after_record k bs passed left p e f w =
    let n : p + 1 ≡ 1 + (length passed + 1) = omega arith in
    let rest : drop (p + 1) bs ≡ drop 1 left =
    rw (n, ← (drop-drop (length passed + 1) 1 bs), e) (drop-append-add passed left 1) in
    e ∙ ap (λ (z : List ℕ). passed ++ z) (first_byte k left w ∙ ap (λ (z : List ℕ). k ∷ z) (sym rest))

pub invariant_written : (l : Limits) (t : Sheet) (bs : List ℕ) (p : ℕ) (inv : Formula) → Bytes bs → read_invariant l t bs ≡ closed p inv → InvariantWritten l t bs p inv
unfolding invariant_reader
invariant_written l t bs p inv b e =
    let a = arrived l t bs p inv b e in
    let k = a.closes in
    let c =
    closing l t a.state a.passed a.left a.bytes a.held inv (get_or a.left 0 0) k.whole_kind
    (invariant_kind (get_or a.left 0 0) k.allowed_kind) k.moved in
    record {
      within = c.0;
      bytes = rw (← c.1) (after_record Kind.INVARIANT bs a.passed a.left p a.split a.place c.2);
      place = rw (← c.1) a.place;
    }

-- a written invariant reads back
entry_allowed : (l : Limits) (t : Sheet) (e : Entry) → EntryNames (invariant_bounds l t) e → one_of invariant_kinds (kind_of e) ≡ true
unfolding Names
entry_allowed l t (put (input n)) h = absurd (omega arith)
entry_allowed l t (put (coil n)) h = refl
entry_allowed l t (put (constant b)) h = refl
entry_allowed l t NOT h = refl
entry_allowed l t AND h = refl
entry_allowed l t OR h = refl

invariant_takes : (l : Limits) (t : Sheet)
    → Takes (invariant_reader l t) certificate_faults (invariant_bounds l t) (λ (st u : Stack). u ≡ st) (λ (st : Stack). st)
unfolding invariant_reader
invariant_takes l t = record {
  ready = λ st. refl;
  allows = λ st u e h n. entry_allowed l t e n;
  moves = λ st v u e bs h f. formula_moves l t u (kind_of e) bs (kind_of_lem e) ∙ rw (h, f);
}

pub invariant_back : (l : Limits) (t : Sheet) (inv : Formula) → WithinInvariant l t inv → (rest : List ℕ)
    → reading (invariant_reader l t) (write_formula inv ++ (Kind.INVARIANT ∷ rest)) 1 empty ≡ closed (1 + length (write_formula inv)) inv
unfolding rows body_length invariant_reader invariant_move final
invariant_back l t inv w rest =
    let r = invariant_reader l t in
    let st : Stack = record { values = inv ∷ []; count = 0 + size inv } in
    let p = 1 + length (write_formula inv) in
    let lead =
    formula_leads r certificate_faults (invariant_bounds l t) (λ (st u : Stack). u ≡ st) (λ (st : Stack). st) (invariant_takes l t) inv empty empty refl
    w.fits.names (omega (arith, w.fits.low)) (omega (arith, w.records_fit)) in
    let e : reading r (Kind.INVARIANT ∷ rest) p st ≡ closed p inv = reads_done r st Kind.INVARIANT [] (bare_record Kind.INVARIANT refl) inv rest p refl refl in
    unmarked _ ∙ (lead (Kind.INVARIANT ∷ rest) 1).final_same ∙ ap final e

pub invariant_local : (l : Limits) (t : Sheet) → Local (invariant_reader l t)
unfolding invariant_reader invariant_move
invariant_local l t st k bs cs a =
    pick_same (eqb k Kind.INVARIANT) _ _ _ _ (λ e. refl)
    (λ e. rw (formula_alike k bs cs a certificate_faults (invariant_bounds l t) st))
