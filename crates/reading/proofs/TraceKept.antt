-- Bytes that are read as a trace: it is within the limits, and they are the bytes that it writes.
-- Assumes nothing.
use Prim.Native.Nat.{ℕ, ◌+◌, ◌≤◌, ◌<◌}
use mathlib.Core.Path.{◌≡◌, refl, sym, ap, ◌∙◌}
use mathlib.Core.Logic.{◌≢◌}
use mathlib.Core.Bool.{Bool, true, false}
use mathlib.Core.List.{List, [], ◌∷◌, ◌++◌, append-nil, append_assoc}
use native.Mathlib.Omega.{arith}
use lib.ListN.{length, get_or, drop, length-append}
use lib.Dec.{ltb, leb, eqb}
use borrow.Author.Tests.{ltb-true, ltb-false, leb-false, eqb-true, eqb-false}
use Rattle.base.specs.Pick.{pick}
use Rattle.base.specs.Lists.{All, each}
use Rattle.rules.specs.declared.Limits.{Limits}
use Rattle.rules.specs.Kind
use Rattle.rules.specs.Record.{rows, body_length, record_length, number, one_of}
use Rattle.rules.specs.Walk.{Move.go, Move.mark, Move.done, Reading.closed}
use Rattle.rules.specs.Sheet.{Sheet}
use Rattle.rules.specs.WriteSheet.{Bytes, RisesFrom}
use Rattle.rules.specs.Certificate.{Trace, Scanning, read_input_on, scans_move, scans_reader, read_scans}
use Rattle.rules.specs.WriteCertificate.{write_input_on, write_scan, write_trace, WithinScan, WithinTrace}
use Rattle.reading.specs.Readings.{marks, final}
use Rattle.reading.specs.Traces.{ReadsTrace}
use Rattle.reading.proofs.FrontLaws.{Whole}
use Rattle.reading.proofs.WalkLaws.{went, stayed}
use Rattle.reading.proofs.WholeLaws.{record_at, last_record, bytes_drop, Arrived, arrives}
use Rattle.reading.proofs.ByteLaws.{bare_bytes, number_bytes, one_of_all, each_snoc, each_more}
use Rattle.reading.proofs.ListLaws.{all_snoc, next, next_snoc, rises_snoc}
use Rattle.reading.proofs.OpeningLaws.{opened_first, first_byte}

-- the kinds that may come next
pub data ScanKind (on : List ℕ) : ℕ → Type 0 where
  an_input_on : ScanKind on 0x61
  a_scan : ScanKind on 0x62
  an_end : length on ≡ 0 → ScanKind on 0x2F

pub scan_kind : (on : List ℕ) (k : ℕ) → one_of (0x61 ∷ 0x62 ∷ pick (eqb (length on) 0) (0x2F ∷ []) []) k ≡ true → ScanKind on k
scan_kind on k e = one_of_all (ScanKind on) (0x61 ∷ 0x62 ∷ pick (eqb (length on) 0) (0x2F ∷ []) []) k (an_input_on, (a_scan, ends (eqb (length on) 0) refl)) e
  where
    ends : (x : Bool) → eqb (length on) 0 ≡ x → All (ScanKind on) (pick x (0x2F ∷ []) [])
    ends true f = (an_end (eqb-true (length on) 0 f), tt)
    ends false f = tt

-- what the scans' reading keeps: the bytes so far are those of the scans and of the inputs named since
pub record Scanned (l : Limits) (t : Sheet) (st : Scanning) (ms : Trace) (ws : List ℕ) : Type 0 where
  pub written : ws ≡ each write_scan ms ++ each write_input_on st.on
  pub rises : RisesFrom 0 st.on
  pub least_next : st.least ≡ next 0 st.on
  pub there : All (λ (n : ℕ). n < t.inputs) st.on
  pub counted : st.count ≡ length ms
  pub few : st.count ≤ l.scans
  pub within : All (WithinScan t) ms

scan_grown : (ms : Trace) (on ws : List ℕ) → ws ≡ each write_scan ms ++ each write_input_on on → ws ++ (Kind.SCAN ∷ []) ≡ each write_scan (ms ++ (on ∷ [])) ++ []
unfolding write_scan
scan_grown ms on ws e =
    rw (e, append-nil (each write_scan (ms ++ (on ∷ []))), each_snoc write_scan ms on) (append_assoc (each write_scan ms) (each write_input_on on) (Kind.SCAN ∷ []))

module _ (l : Limits) (t : Sheet) (st : Scanning) (ms : Trace) (ws bs : List ℕ) (h : Bytes bs) (i : Scanned l t st ms ws) where
  -- INPUT-ON is the one that goes on
  goes : (u : Scanning) (k : ℕ) → Whole k bs → ScanKind st.on k → scans_move l t st k bs ≡ go u → Scanned l t u ms (ws ++ record_at bs)
  unfolding rows body_length record_length scans_move read_input_on write_input_on
  goes u k w an_input_on e =
      let n = number bs 1 in
      let x = went (go u) tt (ltb n t.inputs) _ _ e in
      let y = stayed (go u) tt (ltb n st.least) _ _ x.1 in
      let made : record { on = st.on ++ (n ∷ []); least = n + 1; count = st.count } ≡ u = cc y.1 in
      let low : st.least ≤ n = ltb-false n st.least y.0 in
      rw (← made) (record {
        written = each_more write_input_on (each write_scan ms) ws (record_at bs) st.on n i.written (number_bytes Kind.INPUT_ON bs w h refl);
        rises = rises_snoc 0 st.on n i.rises (rw (← i.least_next) low);
        least_next = sym (next_snoc 0 st.on n);
        there = all_snoc (λ (n : ℕ). n < t.inputs) st.on n i.there (ltb-true n t.inputs x.0);
        counted = i.counted;
        few = i.few;
        within = i.within;
      })
  goes u k w a_scan e =
      let y = (stayed (go u) tt (leb l.scans st.count) _ _ e).1 in
      let z : ◌≡◌ {A = ℕ} 0 1 = cc in
      absurd (omega arith)
  goes u k w (an_end n) e =
      let y = (stayed (go u) tt (eqb st.count 0) _ _ e).1 in
      let z : ◌≡◌ {A = ℕ} 0 1 = cc in
      absurd (omega arith)

  -- SCAN is the one that marks
  marking : (o : List ℕ) (u : Scanning) (k : ℕ) → Whole k bs → ScanKind st.on k → scans_move l t st k bs ≡ mark o u
      → Scanned l t u (ms ++ (o ∷ [])) (ws ++ record_at bs)
  unfolding rows body_length record_length scans_move read_input_on RisesFrom next
  marking o u k w an_input_on e =
      let x = went (mark o u) tt (ltb (number bs 1) t.inputs) _ _ e in
      let y = (stayed (mark o u) tt (ltb (number bs 1) st.least) _ _ x.1).1 in
      let z : ◌≡◌ {A = ℕ} 0 1 = cc in
      absurd (omega arith)
  marking o u k w a_scan e =
      let x = stayed (mark o u) tt (leb l.scans st.count) _ _ e in
      let y = x.1 in
      let made : record { on = []; least = 0; count = st.count + 1 } ≡ u = cc in
      let same : st.on ≡ o = cc in
      rw (← made, ← same) (record {
        written = ap (λ (z : List ℕ). ws ++ z) (bare_bytes Kind.SCAN bs w refl) ∙ scan_grown ms st.on ws i.written;
        rises = tt;
        least_next = refl;
        there = tt;
        counted = rw length-append (omega (arith, i.counted));
        few = omega (arith, leb-false l.scans st.count x.0);
        within = all_snoc (WithinScan t) ms st.on i.within (record { rises = i.rises; there = i.there });
      })
  marking o u k w (an_end n) e =
      let y = (stayed (mark o u) tt (eqb st.count 0) _ _ e).1 in
      let z : ◌≡◌ {A = ℕ} 0 1 = cc in
      absurd (omega arith)

  -- END is the one that closes
  closing : (k : ℕ) → Whole k bs → ScanKind st.on k → scans_move l t st k bs ≡ done tt → (length st.on ≡ 0) × (1 ≤ st.count) × Whole Kind.END bs
  unfolding scans_move read_input_on
  closing k w an_input_on e =
      let x = went (done tt) tt (ltb (number bs 1) t.inputs) _ _ e in
      let y = (stayed (done tt) tt (ltb (number bs 1) st.least) _ _ x.1).1 in
      let z : ◌≡◌ {A = ℕ} 0 1 = cc in
      absurd (omega arith)
  closing k w a_scan e =
      let y = (stayed (done tt) tt (leb l.scans st.count) _ _ e).1 in
      let z : ◌≡◌ {A = ℕ} 0 1 = cc in
      absurd (omega arith)
  closing k w (an_end n) e =
      let x : st.count ≢ 0 = eqb-false st.count 0 (stayed (done tt) tt (eqb st.count 0) _ _ e).0 in
      (n, omega arith, w)

-- where the reading of a trace's scans arrives
arrived : (l : Limits) (t : Sheet) (bs : List ℕ) (q : ℕ) → Bytes bs → final (read_scans l t bs) ≡ closed q tt
    → Arrived (scans_reader l t) (Scanned l t) (marks (read_scans l t bs)) [] (drop 1 bs) 1 q tt
unfolding read_scans scans_reader RisesFrom next
arrived l t bs q b e =
    arrives (scans_reader l t) (Scanned l t)
    (λ st u ms ws cs h i k. goes l t st ms ws cs h i u (get_or cs 0 0) k.whole_kind (scan_kind st.on (get_or cs 0 0) k.allowed_kind) k.moved)
    (λ st u o ms ws cs h i k. marking l t st ms ws cs h i o u (get_or cs 0 0) k.whole_kind (scan_kind st.on (get_or cs 0 0) k.allowed_kind) k.moved)
    (record { on = []; least = 0; count = 0 }) [] [] (drop 1 bs) 1 q tt (bytes_drop 1 bs b)
    (record { written = refl; rises = tt; least_next = refl; there = tt; counted = refl; few = omega arith; within = tt }) e

-- END's byte makes it whole
trace_whole : (l : Limits) (t : Sheet) (st : Scanning) (tr : Trace) (ws : List ℕ) → Scanned l t st tr ws → length st.on ≡ 0 → 1 ≤ st.count
    → WithinTrace l t tr × (write_trace tr ≡ Kind.TRACE ∷ (ws ++ (Kind.END ∷ [])))
unfolding write_trace
trace_whole l t st tr ws i n c = (
  record { some = omega (arith, i.counted); few = omega (arith, i.counted, i.few); scans_within = i.within },
  ap (λ (z : List ℕ). Kind.TRACE ∷ (z ++ (Kind.END ∷ []))) (sym (i.written ∙ none st.on n)),
)
  where
    none : (on : List ℕ) → length on ≡ 0 → each write_scan tr ++ each write_input_on on ≡ each write_scan tr
    none [] e = append-nil (each write_scan tr)
    none (x ∷ on) e = absurd (omega arith)

pub trace_written : (l : Limits) (t : Sheet) (bs : List ℕ) (tr : Trace) → Bytes bs → ReadsTrace l t bs tr → WithinTrace l t tr × (write_trace tr ≡ bs)
unfolding scans_reader
trace_written l t bs tr b r =
    let a = arrived l t bs r.place b r.closes in
    let k = a.closes in
    let c =
    closing l t a.state _ _ a.left a.bytes a.held (get_or a.left 0 0) k.whole_kind
    (scan_kind a.state.on (get_or a.left 0 0) k.allowed_kind) k.moved in
    let first : bs ≡ Kind.TRACE ∷ drop 1 bs = first_byte Kind.TRACE bs (opened_first _ bs Kind.TRACE r.opened) in
    let n : length a.left ≤ 1 = omega (arith, simp length-append at (ap length a.split), a.place, ap length first, r.last) in
    let z : a.left ≡ Kind.END ∷ [] = last_record Kind.END a.left c.2 n in
    let held : Scanned l t a.state tr a.passed = rw r.scans at a.held in
    let w = trace_whole l t a.state tr a.passed held c.0 c.1 in (
      w.0,
      w.1
          ∙ ap (λ (x : List ℕ). Kind.TRACE ∷ (a.passed ++ x)) (sym z)
          ∙ ap (λ (x : List ℕ). Kind.TRACE ∷ x) (sym a.split)
          ∙ sym first,
    )
