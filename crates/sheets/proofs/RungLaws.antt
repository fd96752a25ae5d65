-- RUNG and CONDITION, by the tests of the code.
-- Assumes nothing.
use Prim.Native.Nat.{ℕ, ◌+◌, ◌≤◌, ◌<◌}
use mathlib.Core.Path.{◌≡◌, refl, sym, ap, ◌∙◌}
use mathlib.Core.Bool.{Bool, true, false, not, ◌||◌, or-true, or-false, or_assoc}
use mathlib.Core.List.{List, [], ◌∷◌, ◌++◌}
use native.Mathlib.Omega.{arith}
use lib.ListN.{length, get_or, drop, set, length-append, length-set}
use lib.Seq.{get_or-set_same, get_or-set_other, drop-set-lt}
use lib.Dec.{eqb}
use borrow.Author.Tests.{le-leb, lt-leb, lt-ltb, le-ltb, eq-eqb, ne_eqb, eqb-true, eqb-false}
use Rattle.base.specs.Lists.{each}
use Rattle.rules.specs.declared.Limits.{Limits}
use Rattle.rules.specs.Record.{number}
use Rattle.rules.specs.Walk.{Move.no}
use Rattle.rules.specs.Sheet.{Rung}
use Rattle.rules.specs.ReadFormula.{operand}
use Rattle.rules.specs.ReadSheet.{Spot.at_rungs, Spot.at_end, Draft, SheetMove, add_rung, set_condition, driven, cleared, read_rung, read_condition}
use Rattle.rules.specs.WriteSheet.{write_rung}
use Rattle.sheets.specs.Draft.{total, bytes_of, Laid, Stands, After, Stepped, RungReads, ConditionReads}
use Rattle.sheets.specs.declared.Kept.{Kept}
use Rattle.std.specs.Prelude.{Ok, Err, Some}
use Rattle.rules.specs.declared.refusals.Fault.{Fault}
use Rattle.rules.specs.declared.refusals.Fault.TheVariants.{SheetRange, SheetOperands, CoilTwice, RungCount}
use Rattle.rules.specs.Fault.{number_of}
use Rattle.sheets.specs.declared.Spot.TheVariants.{Rungs, End}
use Rattle.sheets.proofs.TotalLaws.{total_one}

driven_more : (rs : List Rung) (r : Rung) (c : ℕ) → driven (rs ++ (r ∷ [])) c ≡ (driven rs c || eqb c r.coil)
driven_more [] r c = or-false (eqb c r.coil)
driven_more (x ∷ rs) r c =
    ap (λ (b : Bool). eqb c x.coil || b) (driven_more rs r c) ∙ sym (or_assoc (eqb c x.coil) (driven rs c) (eqb c r.coil))

-- one more mark
marks_more : (rs : List Rung) (r : Rung) (m : List ℕ) (c : ℕ) → c < length m → r.coil < length m
    → driven rs c ≡ not (eqb (get_or m c 0) 0) → driven (rs ++ (r ∷ [])) c ≡ not (eqb (get_or (set m r.coil 1) c 0) 0)
marks_more rs r m c h k e = go (eqb c r.coil) refl
  where
    go : (x : Bool) → eqb c r.coil ≡ x → driven (rs ++ (r ∷ [])) c ≡ not (eqb (get_or (set m r.coil 1) c 0) 0)
    go true q =
        let z : c ≡ r.coil = eqb-true c r.coil q in
        let y : get_or (set m r.coil 1) c 0 ≡ 1 = rw z (get_or-set_same m r.coil 1 0 k) in
        driven_more rs r c ∙ rw (q, y) (or-true (driven rs c))
    go false q =
        let y : get_or (set m r.coil 1) c 0 ≡ get_or m c 0 = get_or-set_other m r.coil c 1 0 (eqb-false c r.coil q) in
        driven_more rs r c ∙ rw (q, y) (or-false (driven rs c) ∙ e)

rung_bytes : (r : Rung) → length (write_rung r) ≡ bytes_of r.formula + 3
unfolding write_rung bytes_of
rung_bytes r = simp length-append

rungs_more : (rs : List Rung) (r : Rung) → length (each write_rung (rs ++ (r ∷ []))) ≡ length (each write_rung rs) + length (write_rung r)
rungs_more [] r = simp length-append (omega arith)
rungs_more (x ∷ rs) r = simp length-append (omega (arith, rungs_more rs r))

-- RUNG, with its coil
module _ (l : Limits) (s m : List ℕ) (d : Kept) (next c : ℕ) (ec : c ≡ number (drop d.at s) 1) where
  stays : (n : Fault) (t : Draft) (x : SheetMove) → x ≡ no (number_of n) → Stepped l m m d t x next (Err n)
  unfolding After
  stays n t x e = record { after = e; rest = refl }

  pub rung_coil : d.coils ≤ c → RungReads l s m m d next (Err SheetRange)
  unfolding read_rung
  rung_coil h t st ru q =
      let k : t.sheet.coils ≤ c = omega (arith, st.coils_are) in
      stays SheetRange t (read_rung t (drop d.at s)) (rw (← ec, le-ltb _ _ k))

  module _ (hc : c < d.coils) where
    pub rung_operands : (d.depth ≡ 1 → ⊥) → RungReads l s m m d next (Err SheetOperands)
    unfolding read_rung
    rung_operands h t st ru q =
        let k : c < t.sheet.coils = omega (arith, st.coils_are) in
        stays SheetOperands t (read_rung t (drop d.at s)) (rw (← ec, lt-ltb _ _ k, ← st.height, ne_eqb _ _ h))

    module _ (ho : d.depth ≡ 1) where
      pub rung_taken : (get_or m c 0 ≡ 0 → ⊥) → RungReads l s m m d next (Err CoilTwice)
      unfolding read_rung
      rung_taken h t st ru q =
          let k : c < t.sheet.coils = omega (arith, st.coils_are) in
          let o : length t.stack.values ≡ 1 = omega (arith, st.height) in
          let j : driven t.sheet.rungs c ≡ true = st.marked c (omega (arith, st.fit.coils_in)) ∙ ap not (ne_eqb _ _ h) in
          stays CoilTwice t (read_rung t (drop d.at s)) (rw (← ec, lt-ltb _ _ k, o, j))

      module _ (hm : get_or m c 0 ≡ 0) where
        undriven : (t : Draft) → Stands l m d t → driven t.sheet.rungs c ≡ false
        undriven t st = st.marked c (omega (arith, st.fit.coils_in)) ∙ ap not (eq-eqb _ _ hm)

        pub rung_surplus : d.promised ≤ d.rungs → RungReads l s m m d next (Err RungCount)
        unfolding read_rung
        rung_surplus h t st ru q =
            let k : c < t.sheet.coils = omega (arith, st.coils_are) in
            let o : length t.stack.values ≡ 1 = omega (arith, st.height) in
            let p : t.promised ≤ length t.sheet.rungs = omega (arith, st.promised_are, st.rungs_are) in
            stays RungCount t (read_rung t (drop d.at s)) (rw (← ec, lt-ltb _ _ k, o, undriven t st, le-leb _ _ p))

        pub rung_go : d.rungs < d.promised
            → RungReads l s m (set m c 1) d next (Ok (Some (record {
              spot = Rungs;
              at = next;
              inputs = d.inputs;
              coils = d.coils;
              promised = d.promised;
              least = d.least;
              rungs = d.rungs + 1;
              depth = 0;
              count = d.count;
              rungs_at = d.rungs_at;
              condition_at = next;
            })))
        unfolding read_rung After Laid total
        rung_go h t st ru q =
            let k : c < t.sheet.coils = omega (arith, st.coils_are) in
            let o : length t.stack.values ≡ 1 = omega (arith, st.height) in
            let p : length t.sheet.rungs < t.promised = omega (arith, st.promised_are, st.rungs_are) in
            let u : Rung = record { coil = c; formula = operand t.stack.values 0 } in
            let w : length (each write_rung (t.sheet.rungs ++ (u ∷ []))) ≡ length (each write_rung t.sheet.rungs) + (bytes_of (operand t.stack.values 0) + 3) =
            rungs_more t.sheet.rungs u ∙ ap (λ (n : ℕ). length (each write_rung t.sheet.rungs) + n) (rung_bytes u) in
            let a : total bytes_of t.stack.values ≡ bytes_of (operand t.stack.values 0) = total_one bytes_of t.stack.values o in
            record {
              rest = drop-set-lt l.coils m c 1 (omega (arith, st.fit.coils_in));
              after = record {
                to = record {
                  spot = at_rungs;
                  sheet = add_rung t.sheet u;
                  stack = cleared t.stack;
                  promised = t.promised;
                  least = t.least;
                };
                moved = rw (← ec, lt-ltb _ _ k, o, undriven t st, lt-leb _ _ p);
                there = refl;
                stands = record {
                  spot_is = refl;
                  inputs_are = st.inputs_are;
                  coils_are = st.coils_are;
                  promised_are = st.promised_are;
                  least_is = st.least_is;
                  rungs_are = simp length-append (omega (arith, st.rungs_are));
                  height = refl;
                  counted = st.counted;
                  fit = record { coils_in = st.fit.coils_in; room = simp length-set st.fit.room };
                  marked = λ x i. marks_more t.sheet.rungs u m x (omega (arith, st.fit.room)) (omega (arith, st.fit.room, st.fit.coils_in)) (st.marked x i);
                  laid = record {
                    ruled = record {
                      rungs_begin = ru.ruled.rungs_begin;
                      condition_begins = omega (arith, ru.so_far, ru.ruled.condition_begins);
                    };
                    so_far = omega arith;
                  };
                };
              };
            }

pub ruleset read_rung_cases = (rung_coil, rung_operands, rung_taken, rung_surplus, rung_go)

module _ (l : Limits) (d : Kept) (next : ℕ) where
  pub condition_operands : (d.depth ≡ 1 → ⊥) → ConditionReads l d next (Err SheetOperands)
  unfolding read_condition After
  condition_operands h m t st ru = rw (← st.height, ne_eqb _ _ h)

  module _ (ho : d.depth ≡ 1) where
    pub condition_early : d.rungs < d.promised → ConditionReads l d next (Err RungCount)
    unfolding read_condition After
    condition_early h m t st ru =
        let o : length t.stack.values ≡ 1 = omega (arith, st.height) in
        let p : length t.sheet.rungs < t.promised = omega (arith, st.promised_are, st.rungs_are) in
        rw (o, lt-ltb _ _ p)

    pub condition_go : d.promised ≤ d.rungs
        → ConditionReads l d next (Ok (Some (record {
          spot = End;
          at = next;
          inputs = d.inputs;
          coils = d.coils;
          promised = d.promised;
          least = d.least;
          rungs = d.rungs;
          depth = 0;
          count = d.count;
          rungs_at = d.rungs_at;
          condition_at = d.condition_at;
        })))
    unfolding read_condition After Laid
    condition_go h m t st ru =
        let o : length t.stack.values ≡ 1 = omega (arith, st.height) in
        let p : t.promised ≤ length t.sheet.rungs = omega (arith, st.promised_are, st.rungs_are) in
        record {
          to = record {
            spot = at_end;
            sheet = set_condition t.sheet (operand t.stack.values 0);
            stack = cleared t.stack;
            promised = t.promised;
            least = t.least;
          };
          moved = rw (o, le-ltb _ _ p);
          there = refl;
          stands = record {
            spot_is = refl;
            inputs_are = st.inputs_are;
            coils_are = st.coils_are;
            promised_are = st.promised_are;
            least_is = st.least_is;
            rungs_are = st.rungs_are;
            height = refl;
            counted = st.counted;
            fit = record { coils_in = st.fit.coils_in; room = st.fit.room };
            marked = st.marked;
            laid = record { rungs_begin = ru.ruled.rungs_begin; condition_begins = ru.ruled.condition_begins };
          };
        }

pub ruleset read_condition_cases = (condition_operands, condition_early, condition_go)
