-- The bytes that a sheet within the limits writes are read as that sheet.
-- Assumes nothing.
use Prim.Native.Nat.{ℕ, ◌+◌, ◌≤◌, ◌<◌}
use mathlib.Core.Path.{◌≡◌, refl, ap, ◌∙◌}
use mathlib.Core.Bool.{true, false}
use mathlib.Core.List.{List, [], ◌∷◌, ◌++◌, append-nil, append_assoc, map-append}
use native.Mathlib.Omega.{arith}
use lib.ListN.{length, length-append}
use lib.Seq.{append_snoc}
use borrow.Author.Tests.{lt-ltb, le-ltb, le-leb, lt-leb}
use Rattle.base.specs.Lists.{All, each}
use Rattle.rules.specs.declared.Limits.{Limits}
use Rattle.rules.specs.Head.{head_fits}
use Rattle.rules.specs.Kind
use Rattle.rules.specs.Record.{rows, body_length, two_bytes, one_of}
use Rattle.rules.specs.Walk.{Reading.closed, reading}
use Rattle.rules.specs.Formula.{Leaf.input, Leaf.coil, Leaf.constant, Formula, Formula.leaf, Entry, Entry.put, Entry.NOT, Entry.AND, Entry.OR, size}
use Rattle.rules.specs.Sheet.{Start, Rung, Sheet}
use Rattle.rules.specs.ReadFormula.{sheet_faults, Bounds, Stack}
use Rattle.rules.specs.ReadSheet.{Spot, Spot.at_head, Spot.at_starts, Spot.at_rungs, Spot.at_end, Draft, blank, spot_kinds, sheet_bounds, read_head, read_start, read_entry, read_rung, read_condition, sheet_move, sheet_reader, SheetRead.good, judge_sheet, read_sheet}
use Rattle.rules.specs.WriteSheet.{bit, write_formula, write_start, write_rung, write_sheet, RisesFrom, Once, Fits, sizes, WithinSheet}
use Rattle.reading.specs.Readings.{final}
use Rattle.reading.proofs.ByteLaws.{number_back, bit_back, bit_small}
use Rattle.reading.proofs.RecordLaws.{bare_record, head_record, start_record, rung_record}
use Rattle.reading.proofs.EntryLaws.{kind_of, kind_of_lem}
use Rattle.reading.proofs.LeadLaws.{unmarked, Leads, leads_none, leads_then, leads_go, reads_done}
use Rattle.reading.proofs.FormulaLaws.{Takes, formula_leads}
use Rattle.reading.proofs.ListLaws.{next, next_snoc, once_apart, driven_one}
use Rattle.reading.proofs.DraftLaws.{write_head, start_coils, rung_coils, stacked_draft, entry_moves, sizes_append, sizes_snoc}

-- formula records are in their spot before END, from the first on
abbrev Midway : Spot → Type 0
Midway at_head = ⊥
Midway at_starts = Unit {0}
Midway at_rungs = Unit {0}
Midway at_end = ⊥

-- the draft d at a spot and with a stack of its own
abbrev respot : Draft → Spot → Stack → Draft
respot d s st = record { spot = s; sheet = d.sheet; stack = st; promised = d.promised; least = d.least }

pub record Ready (d : Draft) (st : Stack) (t : Draft) : Type 0 where
  pub where_at : Spot
  pub midway : Midway where_at
  pub is : t ≡ respot d where_at st

spot_allows : (s : Spot) (e : Entry) → Midway s → one_of (spot_kinds s) (kind_of e) ≡ true
unfolding spot_kinds
spot_allows at_head e h = absurd h
spot_allows at_starts (put (input n)) h = refl
spot_allows at_starts (put (coil n)) h = refl
spot_allows at_starts (put (constant b)) h = refl
spot_allows at_starts NOT h = refl
spot_allows at_starts AND h = refl
spot_allows at_starts OR h = refl
spot_allows at_rungs (put (input n)) h = refl
spot_allows at_rungs (put (coil n)) h = refl
spot_allows at_rungs (put (constant b)) h = refl
spot_allows at_rungs NOT h = refl
spot_allows at_rungs AND h = refl
spot_allows at_rungs OR h = refl
spot_allows at_end e h = absurd h

sheet_takes : (l : Limits) (d : Draft) → Takes (sheet_reader l) sheet_faults (sheet_bounds l d.sheet) (Ready d) (stacked_draft d)
unfolding sheet_reader read_entry
sheet_takes l d = record {
  ready = λ st. record { where_at = at_rungs; midway = tt; is = refl };
  allows = λ st t e h n. rw h.is (spot_allows h.where_at e h.midway);
  moves = λ st u t e bs h f. entry_moves l t (kind_of e) bs (kind_of_lem e) ∙ rw h.is (rw (f, read_entry));
}

-- the spot after these rungs
unfoldable spot_of : List Rung → Spot
spot_of [] = at_starts
spot_of (r ∷ rs) = at_rungs

spot_snoc : (rs : List Rung) (r : Rung) → spot_of (rs ++ (r ∷ [])) ≡ at_rungs
unfolding spot_of
spot_snoc [] r = refl
spot_snoc (x ∷ rs) r = refl

-- a draft with starts and rungs, and no value on its stack
abbrev with_rungs : ℕ → ℕ → ℕ → List Start → List Rung → Draft
with_rungs i c n ss rs = record {
  spot = spot_of rs;
  sheet = record { inputs = i; coils = c; starts = ss; rungs = rs; condition = leaf (constant false) };
  stack = record { values = []; count = sizes rs };
  promised = n;
  least = next 0 (start_coils ss);
}

-- the draft that only END closes
abbrev whole_draft : Sheet → Draft
whole_draft t = record {
  spot = at_end;
  sheet = t;
  stack = record { values = []; count = sizes t.rungs + size t.condition };
  promised = length t.rungs;
  least = next 0 (start_coils t.starts);
}

abbrev bounds : Limits → ℕ → ℕ → Bounds
bounds l i c = record { inputs = i; coils = c; depth = l.depth; records = l.records }

module _ (l : Limits) (i c n : ℕ) where
  head_leads : i ≤ l.inputs → 1 ≤ c → c ≤ l.coils → n ≤ c → n ≤ l.rungs → Leads (sheet_reader l) blank (write_head i c n) [] (with_rungs i c n [] [])
  unfolding rows body_length sheet_reader spot_kinds sheet_move read_head head_fits spot_of sizes next
  head_leads h₁ h₂ h₃ h₄ h₅ =
      leads_go (sheet_reader l) blank Kind.HEAD (two_bytes i ++ (two_bytes c ++ two_bytes n)) (head_record i c n) (with_rungs i c n [] []) refl
      (λ rest. rw (number_back i, number_back c, number_back n, le-leb _ _ h₁, le-leb _ _ h₂, le-leb _ _ h₃, le-leb _ _ h₄, le-leb _ _ h₅))

  start_leads : (ss : List Start) (s : Start) → next 0 (start_coils ss) ≤ s.coil → s.coil < c
      → Leads (sheet_reader l) (with_rungs i c n ss []) (write_start s) [] (with_rungs i c n (ss ++ (s ∷ [])) [])
  unfolding rows body_length sheet_reader spot_kinds sheet_move read_start spot_of sizes write_start
  start_leads ss s h j =
      leads_go (sheet_reader l) (with_rungs i c n ss []) Kind.START (two_bytes s.coil ++ (bit s.on ∷ [])) (start_record s.coil s.on)
      (with_rungs i c n (ss ++ (s ∷ [])) []) refl
      (λ rest. rw (number_back s.coil, lt-ltb _ _ j, bit_small s.on, le-ltb _ _ h, bit_back s.on, map-append, next_snoc))

  starts_lead : (ss xs : List Start) → RisesFrom (next 0 (start_coils ss)) (start_coils xs)
      → All (λ (s : Start). s.coil < c) xs → Leads (sheet_reader l) (with_rungs i c n ss []) (each write_start xs) [] (with_rungs i c n (ss ++ xs) [])
  unfolding RisesFrom
  starts_lead ss [] h a = rw append-nil (leads_none (sheet_reader l) (with_rungs i c n ss []))
  starts_lead ss (s ∷ xs) h a =
      leads_then (sheet_reader l) (with_rungs i c n ss []) (with_rungs i c n (ss ++ (s ∷ [])) []) _ (write_start s) (each write_start xs) [] []
      (start_leads ss s h.0 a.0)
      (rw append_snoc at (starts_lead (ss ++ (s ∷ [])) xs (rw (map-append, next_snoc) h.1) a.1))

  -- a formula from there, and what closes it
  formula_from : (ss : List Start) (rs : List Rung) (f : Formula) → Fits (bounds l i c) f → sizes rs + size f ≤ l.records
      → Leads (sheet_reader l) (with_rungs i c n ss rs) (write_formula f) []
      (stacked_draft (with_rungs i c n ss rs) (record { values = f ∷ []; count = sizes rs + size f }))
  unfolding spot_of
  formula_from ss rs f h j =
      let d = with_rungs i c n ss rs in
      formula_leads (sheet_reader l) sheet_faults (sheet_bounds l d.sheet) (Ready d) (stacked_draft d) (sheet_takes l d) f d.stack d
      (record { where_at = spot_of rs; midway = mid rs; is = refl }) h.names (omega (arith, h.low)) j
    where
      mid : (rs : List Rung) → Midway (spot_of rs)
      mid [] = tt
      mid (r ∷ rs) = tt

  rung_leads : (ss : List Start) (rs : List Rung) (r : Rung) → Fits (bounds l i c) r.formula
      → sizes rs + size r.formula ≤ l.records → r.coil < c → one_of (rung_coils rs) r.coil ≡ false → length rs < n
      → Leads (sheet_reader l) (with_rungs i c n ss rs) (write_rung r) [] (with_rungs i c n ss (rs ++ (r ∷ [])))
  unfolding rows body_length sheet_reader spot_kinds sheet_move read_rung write_rung
  rung_leads ss rs r h j k o m =
      let d = stacked_draft (with_rungs i c n ss rs) (record { values = r.formula ∷ []; count = sizes rs + size r.formula }) in
      leads_then (sheet_reader l) (with_rungs i c n ss rs) d _ (write_formula r.formula) (Kind.RUNG ∷ two_bytes r.coil) [] []
      (formula_from ss rs r.formula h j)
      (leads_go (sheet_reader l) d Kind.RUNG (two_bytes r.coil) (rung_record r.coil) _ refl
      (λ rest. rw (number_back r.coil, lt-ltb _ _ k, driven_one rs r.coil, o, lt-leb _ _ m, sizes_snoc, spot_snoc rs r)))

  rungs_lead : (ss : List Start) (rs xs : List Rung) → Once (rung_coils (rs ++ xs)) → All (λ (r : Rung). r.coil < c) xs
      → All (λ (r : Rung). Fits (bounds l i c) r.formula) xs → sizes (rs ++ xs) ≤ l.records → length (rs ++ xs) ≤ n
      → Leads (sheet_reader l) (with_rungs i c n ss rs) (each write_rung xs) [] (with_rungs i c n ss (rs ++ xs))
  unfolding sizes
  rungs_lead ss rs [] o a f k m = rw append-nil (leads_none (sheet_reader l) (with_rungs i c n ss rs))
  rungs_lead ss rs (r ∷ xs) o a f k m =
      let e : rs ++ (r ∷ []) ++ xs ≡ rs ++ (r ∷ xs) = append_snoc rs r xs in
      let k₁ = sizes_append rs (r ∷ xs) in
      let m₁ = length-append rs (r ∷ xs) in
      let o₁ = once_apart (rung_coils rs) r.coil (rung_coils xs) (rw map-append at o) in
      leads_then (sheet_reader l) (with_rungs i c n ss rs) (with_rungs i c n ss (rs ++ (r ∷ []))) _ (write_rung r) (each write_rung xs) [] []
      (rung_leads ss rs r f.0 (omega arith) a.0 o₁ (omega arith))
      (rw e at (rungs_lead ss (rs ++ (r ∷ [])) xs (rw e o) a.1 f.1 (rw e k) (rw e m)))

  condition_leads : (ss : List Start) (rs : List Rung) (f : Formula) → Fits (bounds l i c) f → sizes rs + size f ≤ l.records → length rs ≡ n
      → Leads (sheet_reader l) (with_rungs i c n ss rs) (write_formula f ++ (Kind.CONDITION ∷ [])) []
      (whole_draft (record { inputs = i; coils = c; starts = ss; rungs = rs; condition = f }))
  unfolding rows body_length sheet_reader spot_kinds sheet_move read_condition
  condition_leads ss rs f h j m =
      let d = stacked_draft (with_rungs i c n ss rs) (record { values = f ∷ []; count = sizes rs + size f }) in
      leads_then (sheet_reader l) (with_rungs i c n ss rs) d _ (write_formula f) (Kind.CONDITION ∷ []) [] []
      (formula_from ss rs f h j)
      (leads_go (sheet_reader l) d Kind.CONDITION [] (bare_record Kind.CONDITION refl) _ refl (λ rest. rw (le-ltb (length rs) n (omega arith), m)))

end_reads : (l : Limits) (d : Draft) (p : ℕ) → d.spot ≡ at_end → reading (sheet_reader l) (Kind.END ∷ []) p d ≡ closed p d.sheet
unfolding rows body_length sheet_reader spot_kinds sheet_move
end_reads l d p e = reads_done (sheet_reader l) d Kind.END [] (bare_record Kind.END refl) d.sheet [] p (rw e) refl

-- all of a sheet's bytes but END
abbrev up_to_end : Sheet → List ℕ
up_to_end t =
    write_head t.inputs t.coils (length t.rungs)
    ++ (each write_start t.starts ++ (each write_rung t.rungs ++ (write_formula t.condition ++ (Kind.CONDITION ∷ []))))

sheet_leads : (l : Limits) (t : Sheet) → WithinSheet l t → Leads (sheet_reader l) blank (up_to_end t) [] (whole_draft t)
unfolding next
sheet_leads l t w =
    let i = t.inputs in
    let c = t.coils in
    let n = length t.rungs in
    let r = sheet_reader l in
    let u = whole_draft t in
    let condition = write_formula t.condition ++ (Kind.CONDITION ∷ []) in
    let rungs = each write_rung t.rungs ++ condition in
    let starts = each write_start t.starts ++ rungs in
    leads_then r blank (with_rungs i c n [] []) u (write_head i c n) starts [] []
    (head_leads l i c n w.inputs_fit w.some_coil w.coils_fit w.rungs_drive w.rungs_fit)
    (leads_then r (with_rungs i c n [] []) (with_rungs i c n t.starts []) u (each write_start t.starts) rungs [] []
    (starts_lead l i c n [] t.starts w.starts_rise w.starts_named)
    (leads_then r (with_rungs i c n t.starts []) (with_rungs i c n t.starts t.rungs) u (each write_rung t.rungs) condition [] []
    (rungs_lead l i c n t.starts [] t.rungs w.coils_once w.coils_named w.rungs_within (omega (arith, w.records_fit)) (omega arith))
    (condition_leads l i c n t.starts t.rungs t.condition w.condition_within w.records_fit refl)))

sheet_bytes : (t : Sheet) → write_sheet t ≡ up_to_end t ++ (Kind.END ∷ [])
unfolding write_sheet
sheet_bytes t = simp append_assoc

pub sheet_back : (l : Limits) (t : Sheet) → WithinSheet l t → read_sheet l (write_sheet t) ≡ good t
unfolding read_sheet judge_sheet final
sheet_back l t w =
    let bs = up_to_end t ++ (Kind.END ∷ []) in
    let p = 0 + length (up_to_end t) in
    let e = (sheet_leads l t w (Kind.END ∷ []) 0).final_same ∙ ap final (end_reads l (whole_draft t) p refl) in
    rw (
      sheet_bytes t,
      unmarked (reading (sheet_reader l) bs 0 blank) ∙ e,
      le-ltb (p + 1) (length bs) (rw (length-append (up_to_end t) (Kind.END ∷ [])) (omega arith)),
    )
