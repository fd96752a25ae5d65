-- The certificate over a good sheet, the sheet before it, and the workspace around both.
-- Assumes nothing.
use Prim.Native.Nat.{ℕ, suc, ◌+◌, ◌-◌, ◌≤◌, ◌<◌}
use mathlib.Core.Path.{◌≡◌, refl, sym, ap, ◌∙◌, subst}
use mathlib.Core.Bool.{true}
use mathlib.Core.List.{List, [], ◌∷◌, ◌++◌}
use native.Mathlib.Omega.{arith}
use lib.ListN.{length, take, drop, length-append, length-drop}
use lib.Seq.{drop_at, length-take-le}
use borrow.Author.Tests.{lt-ltb, le-ltb}
use Rattle.base.specs.Lists.{fresh}
use Rattle.rules.specs.Kind
use Rattle.rules.specs.Record.{front}
use Rattle.rules.specs.declared.Limits.{Limits}
use Rattle.std.specs.Prelude.{Result, Ok, Err}
use Rattle.rules.specs.declared.Answer.{Answer}
use Rattle.rules.specs.declared.refusals.Fault.TheVariants.{ShortWorkspace}
use Rattle.rules.specs.declared.refusals.Refusal.{Refusal}
use Rattle.rules.specs.Fault.{refusal_of}
use Rattle.rules.specs.Head.{base_limits}
use Rattle.rules.specs.Walk.{Reading.stopped, Reading.closed, move_at, walk, reading}
use Rattle.rules.specs.Sheet.{Sheet}
use Rattle.rules.specs.ReadSheet.{SheetRead.bad, read_sheet}
use Rattle.rules.specs.WriteSheet.{write_formula, WithinSheet, Bytes}
use Rattle.rules.specs.Certificate.{Which.start, opening, read_invariant, read_steps}
use Rattle.rules.specs.Verdict.{judge, judge_safe, judge_opened, judge_certificate, answer_of}
use Rattle.reading.proofs.SheetKept.{sheet_written}
use Rattle.reading.proofs.InvariantLaws.{InvariantWritten, invariant_written}
use Rattle.sheets.specs.declared.Outline.{Outline}
use Rattle.sheets.specs.declared.Invariant.{Invariant}
use Rattle.sheets.specs.declared.Opening.TheVariants.{Safe, Trace}
use Rattle.sheets.specs.Answer.{Outlined, Says}
use Rattle.sheets.specs.Certificate.{opening_kinds, opened_as, InvariantThere, InvariantSays, InvariantAs}
use Rattle.clauses.specs.declared.Layout.{Layout}
use Rattle.clauses.specs.Translated.{Fitting, layout_of}
use Rattle.checker.specs.Traced.{TracedAt, Traces}
use Rattle.checker.specs.Refuted.{SafeAt, before_it, Follows}
use Rattle.checker.specs.Checked.{Checked, Lent, JudgesSafe, OpenedFor, JudgesOpened, JudgesBytes}
use Rattle.ladder.proofs.SheetBytes.{starts_length}

-- a safety certificate
module _ (l : Limits) (s c : List ℕ) (h : Outline) (w : List ℕ) where
  pub invariant_bad : (x : Refusal) → InvariantAs l h.coils c (Err x) → JudgesSafe l s c h w (Err x)
  unfolding InvariantSays judge_safe answer_of
  invariant_bad x i a =
      let t = a.outlined.sheet in
      let y : read_invariant l t c ≡ stopped (refusal_of x) = i.answered t (sym a.outlined.coils_are) in
      rw y

  module _ (v : Invariant) (i : InvariantAs l h.coils c (Ok v)) (a : OpenedFor l s c h w) where
    abbrev t : Sheet
    t = a.outlined.sheet

    there : InvariantThere l t c v.end v.size
    unfolding InvariantSays
    there = i.answered t (sym a.outlined.coils_are)

    wrote : InvariantWritten l t c v.end there.invariant
    wrote = invariant_written l t c v.end there.invariant a.bytes there.reads

    within : WithinSheet l t
    within = (sheet_written l s t a.sheet_bytes a.outlined.reads).0

    pub end_inside : v.end + 1 ≤ length c
    end_inside =
        let b : length c - 1 ≡ length (write_formula there.invariant) + suc (length (drop (v.end + 1) c)) =
        sym (length-drop 1 c) ∙ ap length wrote.bytes ∙ length-append (write_formula there.invariant) (Kind.INVARIANT ∷ drop (v.end + 1) c) in
        let p = wrote.place in
        omega arith

    pub next_fits : length c < 18446744073709551616 → v.end + 1 < 18446744073709551616
    next_fits b = let z = end_inside in omega arith

    pub fitting : Fitting h
    fitting =
        let m = a.outlined in
        let k = within in
        let d = a.lent.small.limited in
        record {
          inputs_fit = let x = m.inputs_are in let y = k.inputs_fit in let z = d.inputs_few in omega arith;
          coils_fit = let x = m.coils_are in let y = k.coils_fit in let z = d.coils_few in omega arith;
        }

    pub safe_here : SafeAt l s c (layout_of h) w
    safe_here =
        let m = a.outlined in
        record {
          sheet = t;
          invariant = there.invariant;
          rest = Kind.INVARIANT ∷ drop (v.end + 1) c;
          given = record {
            sheet_bytes = (sheet_written l s t a.sheet_bytes m.reads).1;
            inputs_are = m.inputs_are;
            coils_are = m.coils_are;
            rungs_are = m.rungs_are;
            rungs_at = m.rungs_begin ∙ ap (λ (n : ℕ). 7 + n) (sym (starts_length t.starts));
            within = within;
            invariant_bytes = wrote.bytes;
            closes = refl;
            invariant_within = wrote.within;
            slight = a.lent.small.slight;
          };
          limited = a.lent.small.limited;
          room = a.lent.room;
        }

  pub safe_stands : (v : Invariant) → InvariantAs l h.coils c (Ok v) → (y : Layout) → y ≡ layout_of h → OpenedFor l s c h w → SafeAt l s c y w
  safe_stands v i y z a = subst (λ (g : Layout). SafeAt l s c g w) (sym z) (safe_here v i a)

  pub safe_judged : (v : Invariant) → InvariantAs l h.coils c (Ok v) → (y : Layout) → y ≡ layout_of h → (r : Result Answer Refusal)
      → Follows start l s c y (v.end + 1) w r → JudgesSafe l s c h w r
  unfolding safe_here judge_safe read_steps before_it
  safe_judged v i y z r f a =
      let g : Follows start l s c (layout_of h) (v.end + 1) w r = subst (λ (g : Layout). Follows start l s c g (v.end + 1) w r) z f in
      g (safe_here v i a) (suc (length (drop (v.end + 1) c))) (omega arith) ∙ rw (there v i a).reads

-- the opening record
none_opens : (k : ℕ) → reading (opening (Kind.SAFE ∷ Kind.TRACE ∷ [])) [] 0 tt ≡ closed 0 k → ⊥
unfolding walk move_at front opening
none_opens k e = let z : ◌≡◌ {A = ℕ} 0 1 = cc in omega arith

some_opens : (c : List ℕ) (k : ℕ) → reading (opening (Kind.SAFE ∷ Kind.TRACE ∷ [])) c 0 tt ≡ closed 0 k → 1 ≤ length c
some_opens [] k e = absurd (none_opens k e)
some_opens (b ∷ bs) k e = omega arith

module _ (l : Limits) (s c : List ℕ) (h : Outline) (w : List ℕ) where
  pub not_opened : (x : Refusal) → opened_as (Err x) ≡ reading (opening (opening_kinds true)) c 0 tt → JudgesOpened l s c h w (Err x)
  unfolding judge_opened answer_of
  not_opened x f a = rw (sym f)

  module _ (f : opened_as (Ok Trace) ≡ reading (opening (opening_kinds true)) c 0 tt) where
    pub trace_at : OpenedFor l s c h w → TracedAt l s c h
    trace_at a =
        let m = a.lent.small in
        record {
          outlined = a.outlined;
          bytes = a.sheet_bytes;
          opened = some_opens c Kind.TRACE (sym f);
          few = m.scans_few;
          inputs_room = m.inputs_room;
          coils_room = m.slight.coils_fit;
          stack_room = m.slight.depth_fits;
        }

    pub traced_so : (r : Result Answer Refusal) → Traces l s c h r → JudgesOpened l s c h w r
    unfolding judge_opened trace_at
    traced_so r t a = t (trace_at a) ∙ rw (sym f)

  pub opened_safe : opened_as (Ok Safe) ≡ reading (opening (opening_kinds true)) c 0 tt → (r : Result Answer Refusal) → JudgesSafe l s c h w r → JudgesOpened l s c h w r
  unfolding judge_opened
  opened_safe f r t a = t a ∙ rw (sym f)

-- the whole sheet first
module _ (l : Limits) (s c : List ℕ) where
  pub sheet_bad : (x : Refusal) → Says l s (Err x) → JudgesBytes l s c (Err x)
  unfolding Says judge_certificate answer_of
  sheet_bad x i =
      let y : read_sheet l s ≡ bad (refusal_of x) = i in
      rw y

  module _ (h : Outline) (i : Says l s (Ok h)) (w : List ℕ) (k : Lent l w) (bs : Bytes s) (bc : Bytes c) where
    outlined : Outlined l s h
    unfolding Says
    outlined = i

    pub opened_for : OpenedFor l s c h w
    opened_for = record { lent = k; outlined = outlined; sheet_bytes = bs; bytes = bc }

    pub sheet_good : (r : Result Answer Refusal) → JudgesOpened l s c h w r → JudgesBytes l s c r
    unfolding opened_for judge_certificate
    sheet_good r t = t opened_for ∙ rw outlined.reads

-- the workspace
base_lent : (w : List ℕ) → length w ≡ 32768 → Lent base_limits w
base_lent w e = record {
  small = record {
    limited = record { coils_few = omega arith; inputs_few = omega arith; records_few = omega arith; invariant_few = omega arith; width_few = omega arith };
    slight = record { coils_fit = omega arith; depth_fits = omega arith; narrow = omega arith };
    inputs_room = omega arith;
    scans_few = omega arith;
  };
  room = omega arith;
}

module _ (l : Limits) (b : l ≡ base_limits) (s c w : List ℕ) where
  pub too_short : length w < l.places → Checked base_limits s c w w (Err (record { fault = ShortWorkspace; place = 0 }))
  unfolding judge answer_of
  too_short h = rw b at (short h)
    where
      short : length w < l.places → Checked l s c w w (Err (record { fault = ShortWorkspace; place = 0 }))
      short h = record { answered = rw (lt-ltb _ _ h); left = rw (lt-ltb _ _ h) }

  pub part_taken : l.places ≤ length w → l.places ≡ length (take l.places w)
  part_taken h = sym (length-take-le l.places w h)

  pub lent_part : l.places ≤ length w → Lent l (take l.places w)
  lent_part h =
      let e : length (take l.places w) ≡ 32768 = length-take-le l.places w h ∙ ap (λ (x : Limits). x.places) b in
      subst (λ (x : Limits). Lent x (take l.places w)) (sym b) (base_lent (take l.places w) e)

  pub checked : l.places ≤ length w → (x w' : List ℕ) (r : Result Answer Refusal) → length x ≡ length (take l.places w) → JudgesBytes l s c r → w' ≡ fresh l.places (x ++ drop l.places w)
      → Checked base_limits s c w w' r
  unfolding judge fresh
  checked h x w' r e j z = rw b at all
    where
      all : Checked l s c w w' r
      all = record {
        answered = j ∙ rw (le-ltb _ _ h);
        left = z ∙ rw (le-ltb _ _ h, drop_at x (drop l.places w) l.places (e ∙ length-take-le l.places w h));
      }

pub ruleset check_cases = (too_short, part_taken, lent_part, checked)
