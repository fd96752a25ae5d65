-- A whole record, one that is cut, and whatever stands at the draft's place.
-- Assumes nothing.
use Prim.Native.Nat.{ℕ, ◌+◌}
use mathlib.Core.Path.{◌≡◌, refl, ap, ◌∙◌}
use mathlib.Core.Bool.{true, false}
use mathlib.Core.List.{List}
use native.Mathlib.Omega.{arith}
use lib.ListN.{drop}
use borrow.Author.Tests.{ne_eqb}
use Rattle.rules.specs.declared.Limits.{Limits}
use Rattle.rules.specs.Record.{body_length, rows, record_length, one_of}
use Rattle.rules.specs.Walk.{Move.done}
use Rattle.rules.specs.Formula.{Formula}
use Rattle.rules.specs.Sheet.{Sheet}
use Rattle.rules.specs.ReadFormula.{formula_kinds}
use Rattle.rules.specs.ReadSheet.{Spot, Spot.at_head, Spot.at_starts, Spot.at_rungs, Spot.at_end, Draft, SheetMove, spot_kinds, read_head, read_start, read_entry, read_rung, read_condition, sheet_move, sheet_reader}
use Rattle.std.specs.Prelude.{Result, Ok, Err, None}
use Rattle.rules.specs.declared.refusals.Fault.{Fault}
use Rattle.records.specs.Kinds.{byte_of}
use Rattle.records.specs.declared.kind.Kind.{Kind}
use Rattle.records.specs.declared.kind.Kind.TheVariants.{Head, Start, Rung, Condition, End}
use Rattle.records.specs.declared.Record.{Record}
use Rattle.records.specs.declared.Common.{Common}
use Rattle.rules.specs.declared.refusals.Fault.TheVariants.{SheetEnds, SheetKind}
use Rattle.records.specs.Found.{DueAt}
use Rattle.records.proofs.KindLaws.{byte_inj}
use Rattle.records.proofs.DueLaws.{due_allowed, move_refused, move_due}
use Rattle.sheets.specs.Draft.{Step, spot_of, Heading, Ending, Running, Starting, Laid, Stands, After, Stepped, HeadReads, StartReads, EntryReads, RungReads, ConditionReads, WholeReads, Answers}
use Rattle.sheets.specs.declared.Kept.{Kept}
use Rattle.sheets.proofs.KindLaws.{runs_formula, starts_runs}
use Rattle.sheets.proofs.TotalLaws.{entry_bytes_lem}
use Rattle.records.proofs.FrontLaws.{whole_ends}

never : {A : Type 0} → false ≡ true → A
never e = let z : ◌≡◌ {A = ℕ} 0 1 = cc in absurd (omega arith)

-- what a kind that is allowed at a spot says of the draft there
module _ (d : Kept) (t : Sheet) (fs : List Formula) where
  at_head_lem : (x : Spot) → one_of (spot_kinds x) 0x01 ≡ true → Laid x d t fs → Heading d t
  unfolding spot_kinds Laid
  at_head_lem at_head h y = y
  at_head_lem at_starts h y = never h
  at_head_lem at_rungs h y = never h
  at_head_lem at_end h y = never h

  at_start : (x : Spot) → one_of (spot_kinds x) 0x02 ≡ true → Laid x d t fs → Starting d t fs
  unfolding spot_kinds Laid
  at_start at_head h y = never h
  at_start at_starts h y = y
  at_start at_rungs h y = never h
  at_start at_end h y = never h

  at_end_lem : (x : Spot) → one_of (spot_kinds x) 0x2F ≡ true → Laid x d t fs → Ending d t
  unfolding spot_kinds Laid
  at_end_lem at_head h y = never h
  at_end_lem at_starts h y = never h
  at_end_lem at_rungs h y = never h
  at_end_lem at_end h y = y

  at_rung : (x : Spot) → one_of (spot_kinds x) 0x20 ≡ true → Laid x d t fs → Running d t fs
  unfolding spot_kinds Laid
  at_rung at_head h y = never h
  at_rung at_starts h y = y.running
  at_rung at_rungs h y = y
  at_rung at_end h y = never h

  at_condition : (x : Spot) → one_of (spot_kinds x) 0x21 ≡ true → Laid x d t fs → Running d t fs
  unfolding spot_kinds Laid
  at_condition at_head h y = never h
  at_condition at_starts h y = y.running
  at_condition at_rungs h y = y
  at_condition at_end h y = never h

  -- any other kind
  module _ (k : ℕ) (n1 : k ≡ 0x01 → ⊥) (n2 : k ≡ 0x02 → ⊥) (n3 : k ≡ 0x20 → ⊥) (n4 : k ≡ 0x21 → ⊥) (n5 : k ≡ 0x2F → ⊥) where
    at_entry : (x : Spot) → one_of (spot_kinds x) k ≡ true → Laid x d t fs → Running d t fs
    unfolding spot_kinds Laid
    at_entry at_head h y = never (rw (ne_eqb _ _ n1) at h)
    at_entry at_starts h y = y.running
    at_entry at_rungs h y = y
    at_entry at_end h y = never (rw (ne_eqb _ _ n5) at h)

    entry_kind : (x : Spot) → one_of (spot_kinds x) k ≡ true → one_of formula_kinds k ≡ true
    unfolding spot_kinds
    entry_kind at_head h = never (rw (ne_eqb _ _ n1) at h)
    entry_kind at_starts h = runs_formula k (starts_runs k h n2) n3 n4
    entry_kind at_rungs h = runs_formula k h n3 n4
    entry_kind at_end h = never (rw (ne_eqb _ _ n5) at h)

-- a whole record of a kind that is allowed
module _ (l : Limits) (s m : List ℕ) (d : Kept) (x : Record) (r : Step) where
  -- its move
  moves : (m' : List ℕ) (t : Draft) (v : SheetMove) → sheet_move l t (byte_of x.kind) (drop d.at s) ≡ v
      → Stepped l m m' d t v x.next r → Stepped l m m' d t (sheet_move l t (byte_of x.kind) (drop d.at s)) x.next r
  moves m' t v e y = rw e y

  same : (t : Draft) (v : SheetMove) → After l m d t v x.next r → Stepped l m m d t v x.next r
  same t v y = record { after = y; rest = refl }

  pub whole_head : x.kind ≡ Head → HeadReads l s d x.next r → WholeReads l s m m d x r
  unfolding sheet_move record_length body_length rows
  whole_head e f t st a q =
      moves m t (read_head l (drop d.at s)) (rw e)
      (same t _ (f m t st (at_head_lem d t.sheet t.stack.values t.spot (rw e at a) st.laid) (rw e at q)))

  pub whole_start : x.kind ≡ Start → StartReads l s d x.next r → WholeReads l s m m d x r
  unfolding sheet_move record_length body_length rows
  whole_start e f t st a q =
      moves m t (read_start t (drop d.at s)) (rw e)
      (same t _ (f m t st (at_start d t.sheet t.stack.values t.spot (rw e at a) st.laid) (rw e at q)))

  pub whole_rung : (m' : List ℕ) → x.kind ≡ Rung → RungReads l s m m' d x.next r → WholeReads l s m m' d x r
  unfolding sheet_move record_length body_length rows
  whole_rung m' e f t st a q =
      moves m' t (read_rung t (drop d.at s)) (rw e)
      (f t st (at_rung d t.sheet t.stack.values t.spot (rw e at a) st.laid) (rw e at q))

  pub whole_condition : x.kind ≡ Condition → ConditionReads l d x.next r → WholeReads l s m m d x r
  unfolding sheet_move
  whole_condition e f t st a q =
      moves m t (read_condition t) (rw e)
      (same t _ (f m t st (at_condition d t.sheet t.stack.values t.spot (rw e at a) st.laid)))

  pub whole_entry : (x.kind ≡ Head → ⊥) → (x.kind ≡ Start → ⊥) → (x.kind ≡ Rung → ⊥) → (x.kind ≡ Condition → ⊥) → (x.kind ≡ End → ⊥)
      → EntryReads l s d x.next (byte_of x.kind) r → WholeReads l s m m d x r
  unfolding sheet_move
  whole_entry n1 n2 n3 n4 n5 f t st a q =
      let b1 = other Head n1 in
      let b2 = other Start n2 in
      let b3 = other Rung n3 in
      let b4 = other Condition n4 in
      let b5 = other End n5 in
      moves m t (read_entry l t (byte_of x.kind) (drop d.at s)) (rw (ne_eqb _ _ b1, ne_eqb _ _ b2, ne_eqb _ _ b3, ne_eqb _ _ b4, ne_eqb _ _ b5))
      (same t _ (f m t st (at_entry d t.sheet t.stack.values (byte_of x.kind) b1 b2 b3 b4 b5 t.spot a st.laid)
      (q ∙ ap (λ (n : ℕ). d.at + n) (entry_bytes_lem (byte_of x.kind) (drop d.at s) (entry_kind d t.sheet t.stack.values (byte_of x.kind) b1 b2 b3 b4 b5 t.spot a)))))
    where
      other : (k : Kind) → (x.kind ≡ k → ⊥) → byte_of x.kind ≡ byte_of k → ⊥
      other k n e = n (byte_inj x.kind k e)

pub whole_end : (l : Limits) (s m : List ℕ) (d : Kept) (x : Record) → x.kind ≡ End → WholeReads l s m m d x (Ok None)
unfolding sheet_move After
whole_end l s m d x e t st a q =
    moves l s m d x (Ok None) m t (done t.sheet) (rw e)
    (record {
      after = record { moved = refl; ending = at_end_lem d t.sheet t.stack.values t.spot (rw e at a) st.laid };
      rest = refl;
    })

pub ruleset whole_record_cases = (whole_head, whole_start, whole_rung, whole_condition, whole_entry, whole_end)

abbrev pub sheet_common : Common
sheet_common = record { ends = SheetEnds; strange = SheetKind }

-- the record that is due
module _ (l : Limits) (s m : List ℕ) (d : Kept) where
  kinds : (q : Result Record Fault) → DueAt (spot_kinds (spot_of d.spot)) s d.at sheet_common q
      → (t : Draft) → Stands l m d t → DueAt (spot_kinds t.spot) s d.at sheet_common q
  kinds q e t st = rw (← st.spot_is) e

  pub one_refused : (f : Fault) → DueAt (spot_kinds (spot_of d.spot)) s d.at sheet_common (Err f) → Answers l s m m d (Err f)
  unfolding sheet_reader After
  one_refused f e t st = record { after = move_refused (sheet_reader l) t s d.at sheet_common f refl refl (kinds (Err f) e t st); rest = refl }

  pub one_whole : (x : Record) → DueAt (spot_kinds (spot_of d.spot)) s d.at sheet_common (Ok x)
      → (m' : List ℕ) (r : Step) → WholeReads l s m m' d x r → Answers l s m m' d r
  unfolding sheet_reader
  one_whole x e m' r g t st =
      let a = due_allowed (spot_kinds t.spot) s d.at sheet_common x (kinds (Ok x) e t st) in
      rw (move_due (sheet_reader l) t s d.at sheet_common x refl refl (kinds (Ok x) e t st), ← whole_ends s d.at x a.found)
      (g t st a.kind a.found.ends)
