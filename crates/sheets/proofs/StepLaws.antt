-- HEAD, START and the formula records, by the tests of the code.
-- Assumes nothing.
use Prim.Native.Nat.{ℕ, ◌+◌, ◌*◌, ◌≤◌, ◌<◌}
use mathlib.Core.Path.{◌≡◌, refl, sym, ◌∙◌}
use mathlib.Core.Bool.{Bool, true, false, ◌&&◌, and-false}
use mathlib.Core.List.{List, [], ◌∷◌, ◌++◌}
use native.Mathlib.Omega.{arith}
use lib.ListN.{length, get_or, drop, length-append}
use lib.Dec.{leb, eqb}
use borrow.Author.Tests.{leb-true, lt-ltb, le-ltb}
use Rattle.base.specs.Lists.{each}
use Rattle.rules.specs.declared.Limits.{Limits}
use Rattle.rules.specs.declared.Sheet.{Sheet as Head}
use Rattle.std.specs.Prelude.{Result, Ok, Err, Option, Some, None}
use Rattle.rules.specs.declared.refusals.Fault.{Fault}
use Rattle.rules.specs.declared.refusals.Fault.TheVariants.{SheetRange, StartOrder}
use Rattle.rules.specs.Fault.{number_of}
use Rattle.rules.specs.Head.{head_fits, headed}
use Rattle.rules.specs.Record.{number}
use Rattle.rules.specs.Walk.{Move.no}
use Rattle.rules.specs.ReadFormula.{sheet_faults, empty, Pushed.fine, Pushed.fault, in_range, entry, push, formula_record}
use Rattle.rules.specs.ReadSheet.{Spot.at_starts, Spot.at_rungs, Draft, headed_sheet, add_start, sheet_bounds, read_head, read_start, read_entry}
use Rattle.rules.specs.WriteSheet.{write_rung}
use Rattle.sheets.specs.Pile.{scope_of, fault_in, Piled, Grown, Adds, Puts}
use Rattle.sheets.specs.Draft.{total, bytes_of, Laid, Stands, Went, After, HeadReads, StartReads, EntryReads}
use Rattle.sheets.specs.declared.Scope.{Scope}
use Rattle.sheets.specs.declared.Pile.{Pile}
use Rattle.sheets.specs.declared.FormulaFault.{FormulaFault}
use Rattle.sheets.specs.declared.Spot.TheVariants.{Starts, Rungs}
use Rattle.sheets.specs.declared.Kept.{Kept}
use Rattle.sheets.proofs.TotalLaws.{Built, record_built, total_built, bytes_count, entry_bytes}

both_true : (a b : Bool) → (a && b) ≡ true → (a ≡ true) × (b ≡ true)
both_true true b h = (refl, h)
both_true false b h = let z : ◌≡◌ {A = ℕ} 0 1 = cc in absurd (omega arith)

head_coils : (l : Limits) (i c n : ℕ) → head_fits l i c n ≡ true → c ≤ l.coils
unfolding head_fits
head_coils l i c n h =
    let a = both_true (leb i l.inputs && leb 1 c && leb c l.coils && leb n c) (leb n l.rungs) h in
    let b = both_true (leb i l.inputs && leb 1 c && leb c l.coils) (leb n c) a.0 in
    let d = both_true (leb i l.inputs && leb 1 c) (leb c l.coils) b.0 in
    leb-true _ _ d.1

-- HEAD, with its three numbers and what the range test made of them
module _ (l : Limits) (s : List ℕ) (d : Kept) (next i c n : ℕ)
    (ei : i ≡ number (drop d.at s) 1) (ec : c ≡ number (drop d.at s) 3) (en : n ≡ number (drop d.at s) 5)
    (r : Option Head) (er : r ≡ headed l i c n) where
  pub head_no : r ≡ None → HeadReads l s d next (Err SheetRange)
  unfolding read_head After
  head_no e m t st hd q = go (head_fits l i c n) refl
    where
      go : (x : Bool) → head_fits l i c n ≡ x → read_head l (drop d.at s) ≡ no 4
      go true g = let z : ◌≡◌ {A = ℕ} 0 1 = cc in absurd (omega arith)
      go false g = rw (← ei, ← ec, ← en, g)

  pub head_go : (h : Head) → r ≡ Some h
      → HeadReads l s d next (Ok (Some (record {
        spot = Starts;
        at = next;
        inputs = h.inputs;
        coils = h.coils;
        promised = h.rungs;
        least = 0;
        rungs = 0;
        depth = 0;
        count = 0;
        rungs_at = next;
        condition_at = next;
      })))
  unfolding read_head After Laid total
  head_go h e m t st hd q = go (head_fits l i c n) refl
    where
      go : (x : Bool) → head_fits l i c n ≡ x
          → Went l m (record {
            spot = Starts;
            at = next;
            inputs = h.inputs;
            coils = h.coils;
            promised = h.rungs;
            least = 0;
            rungs = 0;
            depth = 0;
            count = 0;
            rungs_at = next;
            condition_at = next;
          }) (read_head l (drop d.at s)) next
      go false g = let z : ◌≡◌ {A = ℕ} 0 1 = cc in absurd (omega arith)
      go true g =
          let f : h ≡ record { inputs = i; coils = c; rungs = n } = cc in
          record {
            to = record { spot = at_starts; sheet = headed_sheet i c; stack = empty; promised = n; least = 0 };
            moved = rw (← ei, ← ec, ← en, g);
            there = refl;
            stands = record {
              spot_is = refl;
              inputs_are = rw f;
              coils_are = rw f;
              promised_are = rw f;
              least_is = refl;
              rungs_are = refl;
              height = refl;
              counted = refl;
              fit = record { coils_in = rw f (head_coils l i c n g); room = st.fit.room };
              marked = λ x k. rw hd.no_rung at (st.marked x k);
              laid = record {
                running = record {
                  ruled = record { rungs_begin = omega (arith, hd.first); condition_begins = omega arith };
                  so_far = omega arith;
                };
                no_rung = refl;
                no_value = refl;
              };
            };
          }

pub ruleset read_head_cases = (head_no, head_go)

-- START, with its coil and its value
module _ (l : Limits) (s : List ℕ) (d : Kept) (next c v : ℕ)
    (ec : c ≡ number (drop d.at s) 1) (ev : v ≡ get_or (drop d.at s) 3 0) where
  pub start_coil : d.coils ≤ c → StartReads l s d next (Err SheetRange)
  unfolding read_start After
  start_coil h m t st sg q =
      let k : t.sheet.coils ≤ c = omega (arith, st.coils_are) in
      rw (← ec, le-ltb _ _ k)

  pub start_value : 2 ≤ v → StartReads l s d next (Err SheetRange)
  unfolding read_start After
  start_value h m t st sg q = rw (← ev, le-ltb _ _ h, and-false)

  module _ (hc : c < d.coils) (hv : v < 2) where
    pub start_low : c < d.least → StartReads l s d next (Err StartOrder)
    unfolding read_start After
    start_low h m t st sg q =
        let k : c < t.sheet.coils = omega (arith, st.coils_are) in
        let j : c < t.least = omega (arith, st.least_is) in
        rw (← ec, ← ev, lt-ltb _ _ k, lt-ltb _ _ hv, lt-ltb _ _ j)

    pub start_go : d.least ≤ c
        → StartReads l s d next (Ok (Some (record {
          spot = Starts;
          at = next;
          inputs = d.inputs;
          coils = d.coils;
          promised = d.promised;
          least = c + 1;
          rungs = d.rungs;
          depth = d.depth;
          count = d.count;
          rungs_at = next;
          condition_at = next;
        })))
    unfolding read_start After Laid total
    start_go h m t st sg q =
        let k : c < t.sheet.coils = omega (arith, st.coils_are) in
        let j : t.least ≤ c = omega (arith, st.least_is) in
        let p = sg.running in
        let n : length (each write_rung t.sheet.rungs) ≡ 0 = rw sg.no_rung in
        let f : total bytes_of t.stack.values ≡ 0 = rw sg.no_value in
        let b : next ≡ 7 + 4 * length (t.sheet.starts ++ (record { coil = c; on = eqb v 1 } ∷ [])) =
        simp length-append (omega (arith, p.so_far, p.ruled.condition_begins, p.ruled.rungs_begin)) in
        record {
          to = record {
            spot = at_starts;
            sheet = add_start t.sheet (record { coil = c; on = eqb v 1 });
            stack = t.stack;
            promised = t.promised;
            least = c + 1;
          };
          moved = rw (← ec, ← ev, lt-ltb _ _ k, lt-ltb _ _ hv, le-ltb _ _ j);
          there = refl;
          stands = record {
            spot_is = refl;
            inputs_are = st.inputs_are;
            coils_are = st.coils_are;
            promised_are = st.promised_are;
            least_is = refl;
            rungs_are = st.rungs_are;
            height = st.height;
            counted = st.counted;
            fit = record { coils_in = st.fit.coils_in; room = st.fit.room };
            marked = st.marked;
            laid = record {
              running = record {
                ruled = record { rungs_begin = b; condition_begins = omega arith };
                so_far = omega arith;
              };
              no_rung = sg.no_rung;
              no_value = sg.no_value;
            };
          };
        }

pub ruleset read_start_cases = (start_coil, start_value, start_low, start_go)

-- a formula record; its numbers, its bounds and its stack are those of the draft
module _ (l : Limits) (s : List ℕ) (d : Kept) (next k : ℕ) (r : Result Pile FormulaFault) where
  abbrev scope : Scope
  scope = record { inputs = d.inputs; coils = d.coils; depth = l.depth; records = l.records }

  abbrev pile : Pile
  pile = record { depth = d.depth; count = d.count }

  module _ (f : Puts (record { inputs = d.inputs; coils = d.coils; depth = l.depth; records = l.records }) (record { depth = d.depth; count = d.count }) (drop d.at s) k r) where
    same : (m : List ℕ) (t : Draft) → Stands l m d t
        → formula_record sheet_faults (scope_of scope) t.stack k (drop d.at s)
        ≡ formula_record sheet_faults (sheet_bounds l t.sheet) t.stack k (drop d.at s)
    unfolding formula_record in_range push
    same m t st = rw (st.inputs_are, st.coils_are)

    piles : (m : List ℕ) (t : Draft) → Stands l m d t → Piled pile t.stack
    piles m t st = record { height = st.height; counted = st.counted }

    pub entry_no : (x : FormulaFault) (n : Fault) → r ≡ Err x → number_of n ≡ fault_in sheet_faults x → EntryReads l s d next k (Err n)
    unfolding read_entry After Adds
    entry_no x n e i m t st ru q =
        let g : formula_record sheet_faults (scope_of scope) t.stack k (drop d.at s) ≡ fault (fault_in sheet_faults x) = rw e at (f sheet_faults t.stack (piles m t st)) in
        let h : formula_record sheet_faults (sheet_bounds l t.sheet) t.stack k (drop d.at s) ≡ fault (fault_in sheet_faults x) = sym (same m t st) ∙ g in
        rw (h, read_entry, i)

    pub entry_go : (p : Pile) → r ≡ Ok p
        → EntryReads l s d next k (Ok (Some (record {
          spot = Rungs;
          at = next;
          inputs = d.inputs;
          coils = d.coils;
          promised = d.promised;
          least = d.least;
          rungs = d.rungs;
          depth = p.depth;
          count = p.count;
          rungs_at = d.rungs_at;
          condition_at = d.condition_at;
        })))
    unfolding read_entry After Adds Laid
    entry_go p e m t st ru q =
        let g : Grown p (formula_record sheet_faults (scope_of scope) t.stack k (drop d.at s)) = rw e at (f sheet_faults t.stack (piles m t st)) in
        let h : formula_record sheet_faults (sheet_bounds l t.sheet) t.stack k (drop d.at s) ≡ fine g.to = sym (same m t st) ∙ g.pushed in
        let b : Built t.stack g.to (entry k (drop d.at s)) = record_built sheet_faults (sheet_bounds l t.sheet) t.stack g.to k (drop d.at s) h in
        let y : total bytes_of g.to.values ≡ total bytes_of t.stack.values + entry_bytes (entry k (drop d.at s)) =
        total_built bytes_of entry_bytes bytes_count t.stack g.to (entry k (drop d.at s)) b in
        record {
          to = record { spot = at_rungs; sheet = t.sheet; stack = g.to; promised = t.promised; least = t.least };
          moved = rw (h, read_entry);
          there = refl;
          stands = record {
            spot_is = refl;
            inputs_are = st.inputs_are;
            coils_are = st.coils_are;
            promised_are = st.promised_are;
            least_is = st.least_is;
            rungs_are = st.rungs_are;
            height = g.piled.height;
            counted = g.piled.counted;
            fit = record { coils_in = st.fit.coils_in; room = st.fit.room };
            marked = st.marked;
            laid = record {
              ruled = record { rungs_begin = ru.ruled.rungs_begin; condition_begins = ru.ruled.condition_begins };
              so_far = omega (arith, ru.so_far);
            };
          };
        }

pub ruleset read_entry_cases = (entry_no, entry_go)
