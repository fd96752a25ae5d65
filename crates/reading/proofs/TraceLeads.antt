-- The bytes that a trace within the limits writes are read as that trace, and every proper prefix of them is refused with 12.
-- Assumes nothing.
use Prim.Native.Nat.{ℕ, zero, suc, ◌+◌, ◌≤◌, ◌<◌}
use mathlib.Core.Path.{◌≡◌, refl, ap, ◌∙◌}
use mathlib.Core.Logic.{⊎_elim}
use mathlib.Core.List.{List, [], ◌∷◌, ◌++◌, append-nil}
use native.Mathlib.Omega.{arith}
use lib.ListN.{length, take, length-append}
use lib.Seq.{append_snoc}
use lib.Dec.{eqb}
use borrow.Author.Tests.{lt-ltb, le-ltb, lt-leb, ne_eqb}
use Rattle.base.specs.Lists.{All, each}
use Rattle.rules.specs.declared.Limits.{Limits}
use Rattle.rules.specs.Kind
use Rattle.rules.specs.Record.{rows, body_length, record_length, two_bytes}
use Rattle.rules.specs.Walk.{Reading.closed, reading}
use Rattle.rules.specs.Sheet.{Sheet}
use Rattle.rules.specs.WriteSheet.{RisesFrom}
use Rattle.rules.specs.Certificate.{Trace, Scanning, read_input_on, scans_move, scans_reader, read_scans}
use Rattle.rules.specs.WriteCertificate.{write_input_on, write_scan, write_trace, WithinScan, WithinTrace}
use Rattle.reading.specs.Readings.{marks, final}
use Rattle.reading.specs.Traces.{ReadsTrace, TraceCut, TraceCut.unopened, TraceCut.scans_cut}
use Rattle.reading.proofs.ByteLaws.{number_back}
use Rattle.reading.proofs.RecordLaws.{bare_record, input_on_record}
use Rattle.reading.proofs.LeadLaws.{Leads, leads_none, leads_then, leads_go, leads_mark, reads_done}
use Rattle.reading.proofs.ListLaws.{next, next_snoc}
use Rattle.reading.proofs.ClipLaws.{Local, clip}
use Rattle.reading.proofs.AlikeLaws.{pick_same, alike_at, number_alike}
use Rattle.reading.proofs.OpeningLaws.{opened_first, opens, unopened_nothing}

-- a scan under way, with these inputs named
abbrev scanning_at : List ℕ → ℕ → Scanning
scanning_at on c = record { on = on; least = next 0 on; count = c }

module _ (l : Limits) (t : Sheet) where
  input_on_leads : (on : List ℕ) (c n : ℕ) → next 0 on ≤ n → n < t.inputs
      → Leads (scans_reader l t) (scanning_at on c) (write_input_on n) [] (scanning_at (on ++ (n ∷ [])) c)
  unfolding scans_reader scans_move read_input_on write_input_on
  input_on_leads on c n h i =
      leads_go (scans_reader l t) (scanning_at on c) Kind.INPUT_ON (two_bytes n) (input_on_record n) (scanning_at (on ++ (n ∷ [])) c) refl
      (λ rest. rw (number_back n, lt-ltb _ _ i, le-ltb _ _ h, next_snoc))

  inputs_lead : (on : List ℕ) (c : ℕ) (xs : List ℕ) → RisesFrom (next 0 on) xs → All (λ (n : ℕ). n < t.inputs) xs
      → Leads (scans_reader l t) (scanning_at on c) (each write_input_on xs) [] (scanning_at (on ++ xs) c)
  unfolding RisesFrom
  inputs_lead on c [] h a = rw append-nil (leads_none (scans_reader l t) (scanning_at on c))
  inputs_lead on c (n ∷ xs) h a =
      leads_then (scans_reader l t) (scanning_at on c) (scanning_at (on ++ (n ∷ [])) c) (scanning_at (on ++ (n ∷ xs)) c) (write_input_on n) (each write_input_on xs) [] []
      (input_on_leads on c n h.0 a.0)
      (rw append_snoc at (inputs_lead (on ++ (n ∷ [])) c xs (rw next_snoc h.1) a.1))

  scan_leads : (on : List ℕ) (c : ℕ) → WithinScan t on → c < l.scans → Leads (scans_reader l t) (scanning_at [] c) (write_scan on) (on ∷ []) (scanning_at [] (c + 1))
  unfolding rows body_length scans_reader scans_move write_scan next
  scan_leads on c w h =
      leads_then (scans_reader l t) (scanning_at [] c) (scanning_at on c) (scanning_at [] (c + 1)) (each write_input_on on) (Kind.SCAN ∷ []) [] (on ∷ [])
      (inputs_lead [] c on w.rises w.there)
      (leads_mark (scans_reader l t) (scanning_at on c) Kind.SCAN [] (bare_record Kind.SCAN refl) on (scanning_at [] (c + 1)) refl (λ rest. rw (lt-leb _ _ h)))

  scans_lead : (tr : Trace) (c : ℕ) → All (WithinScan t) tr → c + length tr ≤ l.scans
      → Leads (scans_reader l t) (scanning_at [] c) (each write_scan tr) tr (scanning_at [] (c + length tr))
  scans_lead [] c a h = let e : c + 0 ≡ c = omega arith in rw e (leads_none (scans_reader l t) (scanning_at [] c))
  scans_lead (on ∷ tr) c a h =
      let e : c + suc (length tr) ≡ c + 1 + length tr = omega arith in
      rw e
      (leads_then (scans_reader l t) (scanning_at [] c) (scanning_at [] (c + 1)) (scanning_at [] (c + 1 + length tr)) (write_scan on) (each write_scan tr) (on ∷ []) tr
      (scan_leads on c a.0 (omega arith))
      (scans_lead tr (c + 1) a.1 (omega arith)))

  end_reads : (c p : ℕ) → 1 ≤ c → reading (scans_reader l t) (Kind.END ∷ []) p (scanning_at [] c) ≡ closed p tt
  unfolding rows body_length scans_reader scans_move
  end_reads c p h =
      reads_done (scans_reader l t) (scanning_at [] c) Kind.END [] (bare_record Kind.END refl) tt [] p refl
      (rw (ne_eqb c 0 (λ e. omega arith)))

  pub trace_back : (tr : Trace) → WithinTrace l t tr → ReadsTrace l t (write_trace tr) tr
  unfolding rows body_length read_scans write_trace next marks final
  trace_back tr w =
      let b = scans_lead tr 0 w.scans_within (omega (arith, w.few)) (Kind.END ∷ []) 1 in
      let e = end_reads (0 + length tr) (1 + length (each write_scan tr)) (omega (arith, w.some)) in
      record {
        opened = opens (Kind.SAFE ∷ Kind.TRACE ∷ []) Kind.TRACE (each write_scan tr ++ (Kind.END ∷ [])) (bare_record Kind.TRACE refl) refl;
        scans = b.marked_first ∙ ap (λ z. tr ++ marks z) e ∙ append-nil tr;
        place = 1 + length (each write_scan tr);
        closes = b.final_same ∙ ap final e;
        last = rw length-append (omega arith);
      }

  scans_local : Local (scans_reader l t)
  unfolding rows body_length record_length scans_reader scans_move
  scans_local st k bs cs a =
      pick_same (eqb k Kind.INPUT_ON) _ _ _ _ (λ e. rw (number_alike 3 bs cs (alike_at k bs cs a Kind.INPUT_ON e) 1 (omega arith))) (λ e. refl)

  pub trace_clipped : (bs : List ℕ) (tr : Trace) → ReadsTrace l t bs tr → (m : ℕ) → m < length bs → TraceCut l t bs (take m bs)
  unfolding rows body_length read_scans scans_reader
  trace_clipped bs tr r zero h = unopened (unopened_nothing (Kind.SAFE ∷ Kind.TRACE ∷ []))
  trace_clipped [] tr r (suc m) h = absurd (omega arith)
  trace_clipped (b ∷ bs) tr r (suc m) h =
      let e : b ≡ Kind.TRACE = (opened_first (Kind.SAFE ∷ Kind.TRACE ∷ []) (b ∷ bs) Kind.TRACE r.opened).first in
      scans_cut (rw e (opens (Kind.SAFE ∷ Kind.TRACE ∷ []) Kind.TRACE (take m bs) (bare_record Kind.TRACE refl) refl))
      (⊎_elim (λ x. absurd (omega (arith, r.last))) (λ x. x)
      (clip (scans_reader l t) scans_local r.place tt m (record { on = []; least = 0; count = 0 }) bs 1 r.closes))
