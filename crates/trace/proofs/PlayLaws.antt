-- The exits of INPUT-ON, SCAN and END, and of END's answer.
-- Assumes nothing.
use Prim.Native.Nat.{ℕ, zero, suc, ◌+◌, ◌≤◌, ◌<◌}
use mathlib.Core.Path.{◌≡◌, refl, sym, ap, ◌∙◌, fun_ext}
use mathlib.Core.Bool.{Bool, true, false, not, ◌&&◌, ◌||◌}
use mathlib.Core.List.{List, [], ◌∷◌, ◌++◌}
use native.Mathlib.Omega.{arith}
use lib.ListN.{length, get_or, set, replicate, length-append}
use lib.Dec.{eqb}
use borrow.Author.Tests.{lt-ltb, le-ltb, le-leb, lt-leb, ne_eqb, eqb-true}
use Rattle.std.specs.Prelude.{Option, None, Some, Ok, Err}
use Rattle.base.specs.Pick.{pick}
use Rattle.rules.specs.Record.{one_of}
use Rattle.rules.specs.Sheet.{Sheet, with, scan, holds_after}
use Rattle.rules.specs.Walk.{Move.go, Move.mark, Move.no, Move.done}
use Rattle.rules.specs.Certificate.{Scanning, named, read_input_on}
use Rattle.rules.specs.Verdict.{Replay, replayed, answer_of}
use Rattle.ladder.specs.Values.{on}
use Rattle.ladder.specs.Evaluate.{bounds_for}
use Rattle.ladder.specs.Scan.{ScansOnce}
use Rattle.ladder.proofs.ScanLaws.{on_set, run_places_lem}
use Rattle.trace.specs.Playing.{first_of, first_broken, Playing, Follows, Follows.goes, Follows.scans, Follows.stops, Follows.over, ScansMove, Step, NamesInput, scan_move, Drawn, end_move, EndsScans, Finishes}
use Rattle.rules.specs.declared.Limits.{Limits}
use Rattle.rules.specs.declared.Answer.TheVariants.{Confirmed}
use Rattle.rules.specs.declared.refusals.Fault.TheVariants.{CertificateRange, InputOrder, ScanCount, ConditionHeld, AfterCertificate}
use Rattle.rules.specs.declared.refusals.Refusal.{Refusal as Told}
use Rattle.trace.specs.declared.Play.{Play}
use Rattle.trace.specs.declared.Ladder.{Ladder}

-- naming one input more
named_more : (os : List ℕ) (n : ℕ) → with (named os) n true ≡ named (os ++ (n ∷ []))
unfolding with
named_more os n = fun_ext (λ m. go m os)
  where
    go : (m : ℕ) (os : List ℕ) → pick (eqb m n) true (one_of os m) ≡ one_of (os ++ (n ∷ [])) m
    go m [] = last (eqb m n)
      where
        last : (b : Bool) → pick b true false ≡ (b || false)
        last true = refl
        last false = refl
    go m (x ∷ xs) = more (eqb m n) (eqb m x) (one_of xs m) ∙ ap (λ (b : Bool). eqb m x || b) (go m xs)
      where
        more : (a b c : Bool) → pick a true (b || c) ≡ (b || pick a true c)
        more true true c = refl
        more true false c = refl
        more false b c = refl

some_named : (os : List ℕ) (n : ℕ) → eqb (length (os ++ (n ∷ []))) 0 ≡ eqb (n + 1) 0
some_named os n =
    let a : length (os ++ (n ∷ [])) ≡ length os + 1 = length-append os (n ∷ []) in
    let b : length (os ++ (n ∷ [])) ≡ 0 → ⊥ = λ (z : length (os ++ (n ∷ [])) ≡ 0). omega arith in
    let c : n + 1 ≡ 0 → ⊥ = λ (z : n + 1 ≡ 0). omega arith in
    ne_eqb _ _ b ∙ sym (ne_eqb _ _ c)

-- a follower's answer to another move that is the same
follow : (t : Sheet) (inputs coils : List ℕ) (g : Replay) (q : ℕ) (r : Step) (m m' : ScansMove) → m ≡ m' → Follows t inputs coils g q r m → Follows t inputs coils g q r m'
follow t inputs coils g q r m m' e f = rw (← e) f

module _ (known : ℕ) (inputs : List ℕ) (p : Play) (n : ℕ) where
  pub input_14 : known ≤ n → NamesInput known inputs inputs p n (Err CertificateRange)
  unfolding read_input_on
  input_14 h t coils st g e q = follow t inputs coils g p.at (Err CertificateRange) (no 14) (read_input_on t st n) (rw (e, le-ltb _ _ h)) stops

  pub input_23 : n < known → n < p.least → NamesInput known inputs inputs p n (Err InputOrder)
  unfolding read_input_on
  input_23 h k t coils st g e q =
      let l : n < st.least = rw q.least at k in
      follow t inputs coils g p.at (Err InputOrder) (no 23) (read_input_on t st n) (rw (e, lt-ltb _ _ h, lt-ltb _ _ l)) stops

  pub input_named : known ≤ length inputs → n < known → p.least ≤ n
      → NamesInput known inputs (set inputs n 1) p n (Ok (Some (record { at = p.at; least = n + 1; count = p.count; first = p.first; broken = p.broken })))
  unfolding read_input_on
  input_named b h k t coils st g e q =
      let l : st.least ≤ n = rw q.least at k in
      follow t (set inputs n 1) coils g p.at (Ok (Some (record { at = p.at; least = n + 1; count = p.count; first = p.first; broken = p.broken })))
      (go (record { on = st.on ++ (n ∷ []); least = n + 1; count = st.count })) (read_input_on t st n)
      (rw (e, lt-ltb _ _ h, le-ltb _ _ l))
      (goes refl
      (record {
        least = refl;
        none = some_named st.on n;
        count = q.count;
        counted = q.counted;
        first = q.first;
        broken = q.broken;
        sound = q.sound;
        inputs_are = on_set inputs n true (omega arith) ∙ ap (λ (k : ℕ → Bool). with k n true) q.inputs_are ∙ named_more st.on n;
        coils_are = q.coils_are;
      }))

pub ruleset input_on_cases = (input_14, input_23, input_named)

-- the first scan that broke the condition, in the code's words and in the rules'
first_next : (f n : ℕ) (holds : Bool) → first_broken (first_of f) (n + 1) holds ≡ first_of (pick (eqb f 0 && not holds) (n + 1) f)
first_next f n holds = go (eqb f 0) refl holds
  where
    go : (x : Bool) → eqb f 0 ≡ x → (holds : Bool) → first_broken (first_of f) (n + 1) holds ≡ first_of (pick (eqb f 0 && not holds) (n + 1) f)
    go true e true = rw e (rw e)
    go true e false = let z : eqb (n + 1) 0 ≡ false = ne_eqb _ _ (λ q. omega arith) in rw (e, z)
    go false e true = rw e (rw e)
    go false e false = rw e (rw e)

first_sound : (f n : ℕ) (b : Bool) → pick (eqb f 0 && b) (n + 1) f ≡ 0 → b ≡ false
first_sound f n true e = go (eqb f 0) refl e
  where
    go : (x : Bool) → eqb f 0 ≡ x → pick (x && true) (n + 1) f ≡ 0 → true ≡ false
    go true q h = absurd (omega arith)
    go false q h = let z : eqb f 0 ≡ true = rw h in cc
first_sound f n false e = refl

zero_at : (n m : ℕ) → ◌≡◌ {A = ℕ} (get_or (replicate n 0) m 0) 0
zero_at zero m = refl
zero_at (suc n) zero = refl
zero_at (suc n) (suc m) = zero_at n m

all_off : (n : ℕ) → on (replicate n 0) ≡ named []
all_off n = fun_ext (λ m. rw (zero_at n m))

module _ (l : Limits) (a : Ladder) (inputs coils w : List ℕ) (p : Play) (d : Drawn a inputs coils w) (st : Scanning) (g : Replay) (q : Playing inputs coils p st g) where
  pub scan_24 : l.scans ≤ p.count → Follows d.sheet inputs coils g p.at (Err ScanCount) (scan_move l st)
  scan_24 h =
      let k : l.scans ≤ st.count = rw q.count at h in
      follow d.sheet inputs coils g p.at (Err ScanCount) (no 24) (scan_move l st) (rw (le-leb _ _ k)) stops

  pub scanned : p.count < l.scans → (coils' w' : List ℕ) (holds : Bool) → ScansOnce a.sheet.now a.from a.rungs inputs coils coils' w w' holds
      → (inputs' : List ℕ) → inputs' ≡ replicate (length inputs) 0 → (first : Option ℕ) → first ≡ first_broken p.first (p.count + 1) holds
      → Follows d.sheet inputs' coils' g p.at (Ok (Some (record { at = p.at; least = 0; count = p.count + 1; first = first; broken = not holds }))) (scan_move l st)
  unfolding replayed scan
  scanned h coils' w' holds f inputs' z first e =
      let k : st.count < l.scans = rw q.count at h in
      let o = f d in
      let held : holds ≡ holds_after d.sheet (named st.on) g.coils = o.holds ∙ rw (q.inputs_are, q.coils_are) in
      let c : on coils' ≡ scan d.sheet (named st.on) g.coils =
      ap on o.coils ∙ run_places_lem (bounds_for inputs coils w) inputs coils d.sheet.rungs refl d.runnable ∙ rw (q.inputs_are, q.coils_are) in
      follow d.sheet inputs' coils' g p.at (Ok (Some (record { at = p.at; least = 0; count = p.count + 1; first = first; broken = not holds })))
      (mark st.on (record { on = []; least = 0; count = st.count + 1 })) (scan_move l st)
      (rw (lt-leb _ _ k))
      (scans refl
      (record {
        least = refl;
        none = refl;
        count = ap (λ (x : ℕ). x + 1) q.count;
        counted = ap (λ (x : ℕ). x + 1) q.counted;
        first = e ∙ rw (q.first, q.counted, held) (first_next g.first g.count (holds_after d.sheet (named st.on) g.coils));
        broken = ap not held;
        sound = first_sound g.first g.count (not (holds_after d.sheet (named st.on) g.coils));
        inputs_are = ap on z ∙ all_off (length inputs);
        coils_are = c;
      }))

pub ruleset scan_record_cases = (scan_24, scanned)

pub no_scan : (p : Play) → p.count ≡ 0 → EndsScans p (Err ScanCount)
no_scan p e t inputs coils st g q = follow t inputs coils g p.at (Err ScanCount) (no 24) (end_move st) (rw (sym q.count ∙ e)) stops

pub some_scan : (p : Play) → (p.count ≡ 0 → ⊥) → EndsScans p (Ok None)
some_scan p e t inputs coils st g q = follow t inputs coils g p.at (Ok None) (done tt) (end_move st) (rw (← q.count, ne_eqb _ _ e)) over

pub ruleset end_record_cases = (no_scan, some_scan)

-- END's answer
module _ (c : List ℕ) (p : Play) where
  -- a scan that is named is the rules' own
  same_first : (n : ℕ) (m : ℕ) → Some n ≡ first_of m → n ≡ m
  same_first n m e = go (eqb m 0) e
    where
      go : (x : Bool) → Some n ≡ pick x None (Some m) → n ≡ m
      go true q = cc
      go false q = cc

  no_first : (m : ℕ) → None ≡ first_of m → m ≡ 0
  no_first m e = go (eqb m 0) refl e
    where
      go : (x : Bool) → eqb m 0 ≡ x → ◌≡◌ {A = Option ℕ} None (pick x None (Some m)) → m ≡ 0
      go true q h = eqb-true m 0 q
      go false q h = cc

  pub held_last : p.broken ≡ false → (x : Told) → x ≡ record { fault = ConditionHeld; place = p.at } → Finishes c p (Err x)
  unfolding answer_of
  held_last e x i g f b s = rw (sym b ∙ e, i)

  pub held_always : p.first ≡ None → (x : Told) → x ≡ record { fault = ConditionHeld; place = p.at } → Finishes c p (Err x)
  unfolding answer_of
  held_always e x i g f b s = rw (s (no_first g.first (sym e ∙ f)), i)

  module _ (n : ℕ) (e : p.first ≡ Some n) (k : p.broken ≡ true) where
    pub end_26 : p.at + 1 < length c → (x : Told) → x ≡ record { fault = AfterCertificate; place = p.at + 1 } → Finishes c p (Err x)
    unfolding answer_of
    end_26 h x i g f b s = rw (sym b ∙ k, lt-ltb _ _ h, i)

    pub end_confirmed : length c ≤ p.at + 1 → Finishes c p (Ok (Confirmed n))
    unfolding answer_of
    end_confirmed h g f b s = rw (sym b ∙ k, le-ltb _ _ h, same_first n g.first (sym e ∙ f))

pub ruleset at_end_cases = (held_last, held_always, end_26, end_confirmed)
