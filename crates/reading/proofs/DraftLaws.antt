-- What a sheet's draft keeps as its records are walked: the bytes so far are what the draft writes, and it is within the limits so far.
-- Assumes nothing.
use Prim.Native.Nat.{ℕ, ◌+◌, ◌≤◌, ◌<◌}
use mathlib.Core.Path.{◌≡◌, refl, sym, ap, ◌∙◌}
use mathlib.Core.Bool.{true, ◌&&◌}
use mathlib.Core.List.{List, [], ◌∷◌, ◌++◌, map, append-nil, append_assoc, map-append}
use native.Mathlib.Omega.{arith}
use lib.ListN.{length, get_or, length-append}
use lib.Dec.{ltb, leb, eqb}
use borrow.Author.Tests.{ltb-true, ltb-false, leb-true, leb-false}
use Rattle.base.specs.Lists.{All, each}
use Rattle.rules.specs.declared.Limits.{Limits}
use Rattle.rules.specs.Head.{head_fits}
use Rattle.rules.specs.Kind
use Rattle.rules.specs.Record.{rows, body_length, record_length, number, two_bytes}
use Rattle.rules.specs.Walk.{Move.go, Move.no}
use Rattle.rules.specs.Formula.{Formula, size}
use Rattle.rules.specs.Sheet.{Start, Rung}
use Rattle.rules.specs.ReadFormula.{sheet_faults, Bounds, Stack, empty, Pushed, Pushed.fine, Pushed.fault, operand, formula_record}
use Rattle.rules.specs.ReadSheet.{Spot, Spot.at_head, Spot.at_starts, Spot.at_rungs, Spot.at_end, Draft, SheetMove, headed_sheet, add_start, add_rung, set_condition, sheet_bounds, driven, one, cleared, read_head, read_start, read_entry, read_rung, read_condition, sheet_move}
use Rattle.rules.specs.WriteSheet.{Bytes, write_formula, write_start, write_rung, RisesFrom, Once, Fits, sizes, WithinSheet}
use Rattle.reading.proofs.FrontLaws.{Whole}
use Rattle.reading.proofs.WalkLaws.{went, stayed}
use Rattle.reading.proofs.WholeLaws.{record_at}
use Rattle.reading.proofs.ByteLaws.{bare_bytes, number_bytes, numbers_bytes, switch_bytes, each_snoc}
use Rattle.reading.proofs.EntryLaws.{FormulaKind, FormulaKind.an_input, FormulaKind.a_coil, FormulaKind.a_constant, FormulaKind.a_not, FormulaKind.an_and, FormulaKind.an_or}
use Rattle.reading.proofs.StackLaws.{write_stack, stack_size, StackFits}
use Rattle.reading.proofs.FormulaLaws.{Stacked, record_stacked, record_written, one_fits, one_counted, one_written}
use Rattle.reading.proofs.ListLaws.{all_snoc, next, next_snoc, rises_snoc, and_both, once_snoc, driven_one}

-- HEAD's bytes
abbrev pub write_head : ℕ → ℕ → ℕ → List ℕ
write_head i c n = Kind.HEAD ∷ (two_bytes i ++ (two_bytes c ++ two_bytes n))

abbrev pub start_coils : List Start → List ℕ
start_coils ss = map (λ (x : Start). x.coil) ss

abbrev pub rung_coils : List Rung → List ℕ
rung_coils rs = map (λ (x : Rung). x.coil) rs

-- a draft's bytes, with v for those of its stack
abbrev pub wrote : Draft → List ℕ → List ℕ
wrote t v =
    write_head t.sheet.inputs t.sheet.coils t.promised
    ++ (each write_start t.sheet.starts ++ (each write_rung t.sheet.rungs ++ v))

wrote_more : (t : Draft) (ws v c d : List ℕ) → ws ≡ wrote t v → v ++ c ≡ d → ws ++ c ≡ wrote t d
wrote_more t ws v c d e f = rw (e, ← f) (simp append_assoc)

-- HEAD's range test
pub record HeadFits (l : Limits) (i c n : ℕ) : Type 0 where
  pub inputs_fit : i ≤ l.inputs
  pub some_coil : 1 ≤ c
  pub coils_fit : c ≤ l.coils
  pub rungs_drive : n ≤ c
  pub rungs_fit : n ≤ l.rungs

pub head_test : (l : Limits) (i c n : ℕ) → head_fits l i c n ≡ true → HeadFits l i c n
unfolding head_fits
head_test l i c n e =
    let x₁ = and_both (leb i l.inputs && leb 1 c && leb c l.coils && leb n c) (leb n l.rungs) e in
    let x₂ = and_both (leb i l.inputs && leb 1 c && leb c l.coils) (leb n c) x₁.0 in
    let x₃ = and_both (leb i l.inputs && leb 1 c) (leb c l.coils) x₂.0 in
    let x₄ = and_both (leb i l.inputs) (leb 1 c) x₃.0 in
    record {
      inputs_fit = leb-true i l.inputs x₄.0;
      some_coil = leb-true 1 c x₄.1;
      coils_fit = leb-true c l.coils x₃.1;
      rungs_drive = leb-true n c x₂.1;
      rungs_fit = leb-true n l.rungs x₁.1;
    }

-- what STARTs keep: c coils, and the lowest that the next one may name
pub record StartsFit (c : ℕ) (ss : List Start) (least : ℕ) : Type 0 where
  pub rise : RisesFrom 0 (start_coils ss)
  pub least_next : least ≡ next 0 (start_coils ss)
  pub named : All (λ (s : Start). s.coil < c) ss

-- what RUNGs keep: n is HEAD's count
pub record RungsFit (b : Bounds) (rs : List Rung) (n : ℕ) : Type 0 where
  pub once : Once (rung_coils rs)
  pub named : All (λ (r : Rung). r.coil < b.coils) rs
  pub within : All (λ (r : Rung). Fits b r.formula) rs
  pub few : length rs ≤ n

-- a draft between HEAD and CONDITION
pub record Opened (l : Limits) (t : Draft) (ws : List ℕ) : Type 0 where
  pub written : ws ≡ wrote t (write_stack t.stack.values)
  pub head : HeadFits l t.sheet.inputs t.sheet.coils t.promised
  pub starts : StartsFit t.sheet.coils t.sheet.starts t.least
  pub rungs : RungsFit (sheet_bounds l t.sheet) t.sheet.rungs t.promised
  pub stacked : Stacked (sheet_bounds l t.sheet) (sizes t.sheet.rungs) t.stack

-- a draft that has no formula record yet
pub record Fresh (l : Limits) (t : Draft) (ws : List ℕ) : Type 0 where
  pub opened : Opened l t ws
  pub no_rung : t.sheet.rungs ≡ []
  pub no_value : t.stack.values ≡ []

-- a draft after CONDITION
pub record Finished (l : Limits) (t : Draft) (ws : List ℕ) : Type 0 where
  pub written : ws ≡ wrote t (write_formula t.sheet.condition ++ (Kind.CONDITION ∷ []))
  pub rungs_all : length t.sheet.rungs ≡ t.promised
  pub within : WithinSheet l t.sheet

abbrev pub At : Limits → Spot → Draft → List ℕ → Type 0
At l at_head t ws = ws ≡ []
At l at_starts t ws = Fresh l t ws
At l at_rungs t ws = Opened l t ws
At l at_end t ws = Finished l t ws

-- the draft is what the bytes ws come to
abbrev pub DraftIs : Limits → Draft → List ℕ → Type 0
DraftIs l t ws = At l t.spot t ws

-- the drafts that the records leave
abbrev pub headed_draft : ℕ → ℕ → ℕ → Draft
headed_draft i c n = record { spot = at_starts; sheet = headed_sheet i c; stack = empty; promised = n; least = 0 }

abbrev pub started_draft : Draft → Start → Draft
started_draft t x = record { spot = at_starts; sheet = add_start t.sheet x; stack = t.stack; promised = t.promised; least = x.coil + 1 }

abbrev pub stacked_draft : Draft → Stack → Draft
stacked_draft t st = record { spot = at_rungs; sheet = t.sheet; stack = st; promised = t.promised; least = t.least }

abbrev pub runged_draft : Draft → Rung → Draft
runged_draft t r = record { spot = at_rungs; sheet = add_rung t.sheet r; stack = cleared t.stack; promised = t.promised; least = t.least }

abbrev pub closed_draft : Draft → Formula → Draft
closed_draft t f = record { spot = at_end; sheet = set_condition t.sheet f; stack = cleared t.stack; promised = t.promised; least = t.least }

-- their bytes
wrote_start : (t : Draft) (x : Start) → t.sheet.rungs ≡ [] → t.stack.values ≡ []
    → wrote (started_draft t x) (write_stack t.stack.values) ≡ wrote t (write_start x)
unfolding write_stack
wrote_start t x e f = rw (e, f, each_snoc) (simp append-nil)

wrote_rung : (t : Draft) (r : Rung) → wrote (runged_draft t r) [] ≡ wrote t (write_rung r)
wrote_rung t r = rw (each_snoc write_rung t.sheet.rungs r) (simp append-nil)

pub sizes_append : (rs xs : List Rung) → sizes (rs ++ xs) ≡ sizes rs + sizes xs
unfolding sizes
sizes_append [] xs = omega arith
sizes_append (x ∷ rs) xs = omega (arith, sizes_append rs xs)

pub sizes_snoc : (rs : List Rung) (r : Rung) → sizes (rs ++ (r ∷ [])) ≡ sizes rs + size r.formula
unfolding sizes
sizes_snoc rs r = sizes_append rs (r ∷ []) ∙ omega arith

pub entry_moves : (l : Limits) (t : Draft) (k : ℕ) (bs : List ℕ) → FormulaKind k → sheet_move l t k bs ≡ read_entry l t k bs
unfolding sheet_move
entry_moves l t k bs an_input = refl
entry_moves l t k bs a_coil = refl
entry_moves l t k bs a_constant = refl
entry_moves l t k bs a_not = refl
entry_moves l t k bs an_and = refl
entry_moves l t k bs an_or = refl

-- what a formula record makes of a draft
abbrev pub stack_move : Draft → Pushed → SheetMove
stack_move t x = elim x [ fault n ↦ no n | fine st ↦ go (stacked_draft t st) ]

module _ (l : Limits) (bs : List ℕ) (h : Bytes bs) (u : Draft) where
  pub head_kept : Whole Kind.HEAD bs → read_head l bs ≡ go u → DraftIs l u (record_at bs)
  unfolding rows body_length record_length read_head RisesFrom Once next sizes write_stack stack_size StackFits
  head_kept w e =
      let x = went (go u) tt (head_fits l (number bs 1) (number bs 3) (number bs 5)) _ _ e in
      let made : headed_draft (number bs 1) (number bs 3) (number bs 5) ≡ u = cc x.1 in
      rw (← made) (record {
        no_rung = refl;
        no_value = refl;
        opened = record {
          written = numbers_bytes Kind.HEAD bs w h refl;
          head = head_test l (number bs 1) (number bs 3) (number bs 5) x.0;
          starts = record { rise = tt; least_next = refl; named = tt };
          rungs = record { once = tt; named = tt; within = tt; few = omega arith };
          stacked = record { fits = tt; counted = omega arith; few = omega arith };
        };
      })

  module _ (t : Draft) (ws : List ℕ) where
    pub start_kept : Whole Kind.START bs → Fresh l t ws → read_start t bs ≡ go u → DraftIs l u (ws ++ record_at bs)
    unfolding rows body_length record_length read_start write_start write_stack
    start_kept w i e =
        let c = number bs 1 in
        let x = went (go u) tt (ltb c t.sheet.coils && ltb (get_or bs 3 0) 2) _ _ e in
        let y = stayed (go u) tt (ltb c t.least) _ _ x.1 in
        let z = and_both (ltb c t.sheet.coils) (ltb (get_or bs 3 0) 2) x.0 in
        let s : Start = record { coil = c; on = eqb (get_or bs 3 0) 1 } in
        let made : started_draft t s ≡ u = cc y.1 in
        let o = i.opened in
        let low : t.least ≤ c = ltb-false c t.least y.0 in
        rw (← made) (record {
          no_rung = i.no_rung;
          no_value = i.no_value;
          opened = record {
            written =
                wrote_more t ws _ (record_at bs) (write_start s) o.written
                (ap (λ (fs : List Formula). write_stack fs ++ record_at bs) i.no_value ∙ switch_bytes Kind.START bs w h refl (ltb-true (get_or bs 3 0) 2 z.1))
                ∙ sym (wrote_start t s i.no_rung i.no_value);
            head = o.head;
            starts = record {
              rise = rw map-append (rises_snoc 0 (start_coils t.sheet.starts) c o.starts.rise (rw (← o.starts.least_next) low));
              least_next = rw map-append (sym (next_snoc 0 (start_coils t.sheet.starts) c));
              named = all_snoc (λ (s : Start). s.coil < t.sheet.coils) t.sheet.starts s o.starts.named (ltb-true c t.sheet.coils z.0);
            };
            rungs = o.rungs;
            stacked = o.stacked;
          };
        })

    pub entry_kept : (k : ℕ) → FormulaKind k → Whole k bs → Opened l t ws → read_entry l t k bs ≡ go u → DraftIs l u (ws ++ record_at bs)
    unfolding read_entry
    entry_kept k f w o e = by (formula_record sheet_faults (sheet_bounds l t.sheet) t.stack k bs) refl e
      where
        by : (x : Pushed) → formula_record sheet_faults (sheet_bounds l t.sheet) t.stack k bs ≡ x → stack_move t x ≡ go u → DraftIs l u (ws ++ record_at bs)
        by (fault n) g m = let z : ◌≡◌ {A = ℕ} 0 1 = cc in absurd (omega arith)
        by (fine st) g m =
            let made : stacked_draft t st ≡ u = cc in
            rw (← made) (record {
              written =
                  wrote_more t ws _ (record_at bs) _ o.written
                  (sym (record_written sheet_faults (sheet_bounds l t.sheet) (sizes t.sheet.rungs) t.stack st k bs o.stacked h w f g));
              head = o.head;
              starts = o.starts;
              rungs = o.rungs;
              stacked = record_stacked sheet_faults (sheet_bounds l t.sheet) (sizes t.sheet.rungs) t.stack st k bs o.stacked h w f g;
            })

    -- a closing record's bytes go behind those of the one formula on the stack
    closing_written : (r d : List ℕ) → Opened l t ws → one t.stack ≡ true → record_at bs ≡ r → write_formula (operand t.stack.values 0) ++ r ≡ d
        → ws ++ record_at bs ≡ wrote t d
    closing_written r d o x e f =
        wrote_more t ws _ (record_at bs) d o.written
        (ap (λ (z : List ℕ). z ++ record_at bs) (one_written (sheet_bounds l t.sheet) (sizes t.sheet.rungs) t.stack o.stacked x)
        ∙ ap (λ (z : List ℕ). write_formula (operand t.stack.values 0) ++ z) e
        ∙ f)

    pub rung_kept : Whole Kind.RUNG bs → Opened l t ws → read_rung t bs ≡ go u → DraftIs l u (ws ++ record_at bs)
    unfolding rows body_length record_length read_rung write_rung write_stack stack_size StackFits
    rung_kept w o e =
        let c = number bs 1 in
        let x = went (go u) tt (ltb c t.sheet.coils) _ _ e in
        let y = went (go u) tt (one t.stack) _ _ x.1 in
        let z = stayed (go u) tt (driven t.sheet.rungs c) _ _ y.1 in
        let v = stayed (go u) tt (leb t.promised (length t.sheet.rungs)) _ _ z.1 in
        let r : Rung = record { coil = c; formula = operand t.stack.values 0 } in
        let made : runged_draft t r ≡ u = cc v.1 in
        let b = sheet_bounds l t.sheet in
        let rs = t.sheet.rungs in
        let more = leb-false t.promised (length rs) v.0 in
        rw (← made) (record {
          written = closing_written _ (write_rung r) o y.0 (number_bytes Kind.RUNG bs w h refl) refl ∙ sym (wrote_rung t r);
          head = o.head;
          starts = o.starts;
          rungs = record {
            once = rw map-append (once_snoc (rung_coils rs) c o.rungs.once (sym (driven_one rs c) ∙ z.0));
            named = all_snoc (λ (r : Rung). r.coil < t.sheet.coils) rs r o.rungs.named (ltb-true c t.sheet.coils x.0);
            within = all_snoc (λ (r : Rung). Fits b r.formula) rs r o.rungs.within (one_fits b (sizes rs) t.stack o.stacked y.0);
            few = rw length-append (omega arith);
          };
          stacked = record {
            fits = tt;
            counted = rw sizes_snoc (let i = one_counted b (sizes rs) t.stack o.stacked y.0 in omega arith);
            few = o.stacked.few;
          };
        })

    pub condition_kept : Whole Kind.CONDITION bs → Opened l t ws → read_condition t ≡ go u → DraftIs l u (ws ++ record_at bs)
    unfolding rows body_length record_length read_condition
    condition_kept w o e =
        let y = went (go u) tt (one t.stack) _ _ e in
        let z = stayed (go u) tt (ltb (length t.sheet.rungs) t.promised) _ _ y.1 in
        let f = operand t.stack.values 0 in
        let made : closed_draft t f ≡ u = cc z.1 in
        let b = sheet_bounds l t.sheet in
        let rs = t.sheet.rungs in
        let most = ltb-false (length rs) t.promised z.0 in
        let all : length rs ≡ t.promised = omega (arith, o.rungs.few) in
        rw (← made) (record {
          written = closing_written _ _ o y.0 (bare_bytes Kind.CONDITION bs w refl) refl;
          rungs_all = all;
          within = record {
            inputs_fit = o.head.inputs_fit;
            some_coil = o.head.some_coil;
            coils_fit = o.head.coils_fit;
            rungs_drive = omega (arith, o.head.rungs_drive);
            rungs_fit = omega (arith, o.head.rungs_fit);
            starts_rise = o.starts.rise;
            starts_named = o.starts.named;
            coils_once = o.rungs.once;
            coils_named = o.rungs.named;
            rungs_within = o.rungs.within;
            condition_within = one_fits b (sizes rs) t.stack o.stacked y.0;
            records_fit = rw (← (one_counted b (sizes rs) t.stack o.stacked y.0)) o.stacked.few;
          };
        })
