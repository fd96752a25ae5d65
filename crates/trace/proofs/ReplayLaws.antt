-- The record at the replay's place, and the replay's loop: its invariant, and its turns.
-- Assumes nothing.
use Prim.Native.Nat.{ℕ, zero, suc, ◌+◌, ◌-◌, ◌≤◌, ◌<◌}
use mathlib.Core.Path.{◌≡◌, refl, sym, ap, ◌∙◌, subst}
use mathlib.Core.Bool.{false}
use mathlib.Core.List.{List, []}
use native.Mathlib.Omega.{arith}
use lib.ListN.{length, get_or, drop, length-drop}
use lib.Seq.{drop-drop}
use lib.Dec.{eqb}
use Rattle.std.specs.Prelude.{None, Some, Result, Ok, Err}
use Rattle.rules.specs.Kind
use Rattle.rules.specs.declared.Limits.{Limits}
use Rattle.rules.specs.declared.Answer.{Answer}
use Rattle.rules.specs.declared.refusals.Fault.{Fault}
use Rattle.rules.specs.declared.refusals.Fault.TheVariants.{CertificateEnds, CertificateKind}
use Rattle.rules.specs.declared.refusals.Refusal.{Refusal as Told}
use Rattle.rules.specs.Fault.{number_of}
use Rattle.rules.specs.Record.{record_length}
use Rattle.rules.specs.Walk.{Move.go, Move.mark, Move.no, Move.done, move_at, past, walk}
use Rattle.rules.specs.Sheet.{Sheet}
use Rattle.rules.specs.Certificate.{Scanning, scans_move, scans_reader, read_scans}
use Rattle.rules.specs.Verdict.{Replay, replayed, unplayed, judge_scans, answer_of}
use Rattle.records.specs.Kinds.{byte_of}
use Rattle.records.specs.Found.{number_at, DueAt}
use Rattle.records.specs.declared.kind.Kind.{Kind as Named}
use Rattle.records.specs.declared.kind.Kind.TheVariants.{Head, Start, Input, Coil, Constant, Not, And, Or, Rung, Condition, End, Step as StepKind, Qed, Safe, Invariant, Trace, InputOn, Scan}
use Rattle.records.specs.declared.Common.{Common}
use Rattle.records.specs.declared.Record.{Record}
use Rattle.records.proofs.FrontLaws.{passes, whole_ends}
use Rattle.records.proofs.DueLaws.{due_allowed, move_refused, move_due}
use Rattle.trace.specs.Playing.{Playing, Follows, Follows.goes, Follows.scans, Follows.stops, Follows.over, ScansMove, Step, NamesInput, DrawnIn, ScanIn, AsLong, Scans, EndsScans, play_kinds, Inside, Stepped, Steps, Finishes, ReplayAt, Replays}
use Rattle.trace.specs.declared.Play.{Play}
use Rattle.trace.specs.declared.Ladder.{Ladder}
use Rattle.trace.specs.declared.Places.{Places}

clash : {A : Type 0} → ◌≡◌ {A = ℕ} 0 1 → A
clash z = absurd (omega arith)

-- the refusals that a trace's reader shares
abbrev pub common : Common
common = record { ends = CertificateEnds; strange = CertificateKind }

-- the same numbers with the next record's place
abbrev pub moved : Play → ℕ → Play
moved p n = record { at = n; least = p.least; count = p.count; first = p.first; broken = p.broken }

plays : (inputs coils : List ℕ) (p : Play) (n : ℕ) (st : Scanning) (g : Replay) → Playing inputs coils p st g → Playing inputs coils (moved p n) st g
plays inputs coils p n st g y = record {
  least = y.least;
  none = y.none;
  count = y.count;
  counted = y.counted;
  first = y.first;
  broken = y.broken;
  sound = y.sound;
  inputs_are = y.inputs_are;
  coils_are = y.coils_are;
}

-- the code's kinds are the reader's
kinds_are : (l : Limits) (t : Sheet) (inputs coils : List ℕ) (p : Play) (st : Scanning) (g : Replay) → Playing inputs coils p st g
    → play_kinds p ≡ (scans_reader l t).allowed st
unfolding scans_reader
kinds_are l t inputs coils p st g y = let z : eqb p.least 0 ≡ eqb (length st.on) 0 = ap (λ (n : ℕ). eqb n 0) y.least ∙ sym y.none in rw z

-- no record that is due
pub step_refused : (l : Limits) (a : Ladder) (c : List ℕ) (m : Places) (p : Play) (f : Fault) → DueAt (play_kinds p) c p.at common (Err f) → Steps l a c m m p (Err f)
unfolding scans_reader
step_refused l a c m p f d h st g i y =
    let k = kinds_are l h.sheet m.inputs.now m.coils.now p st g y in
    let e : move_at (scans_reader l h.sheet) st (drop p.at c) ≡ no (number_of f) =
    move_refused (scans_reader l h.sheet) st c p.at common f refl refl (rw k at d) in
    record { inside = tt; follows = rw e stops }

module _ (l : Limits) (a : Ladder) (c : List ℕ) (m m' : Places) (p : Play) where
  module _ (x : Record) (d : DueAt (play_kinds p) c p.at common (Ok x)) where
    next_is : x.next ≡ p.at + record_length (get_or (drop p.at c) 0 0)
    next_is = whole_ends c p.at x (due_allowed (play_kinds p) c p.at common x d).found

    module _ (h : DrawnIn a m) (st : Scanning) (g : Replay) (y : Playing m.inputs.now m.coils.now p st g) where
      moves : move_at (scans_reader l h.sheet) st (drop p.at c) ≡ scans_move l h.sheet st (byte_of x.kind) (drop p.at c)
      unfolding scans_reader
      moves = move_due (scans_reader l h.sheet) st c p.at common x refl refl (rw (kinds_are l h.sheet m.inputs.now m.coils.now p st g y) at d)

      lies : (r : Step) (o : ScansMove) → Follows h.sheet m'.inputs.now m'.coils.now g x.next r o → Inside c p.at r
      lies r o f =
          let u = passes c p.at x (due_allowed (play_kinds p) c p.at common x d).found in
          go r o f u.after u.within
        where
          go : (r : Step) (o : ScansMove) → Follows h.sheet m'.inputs.now m'.coils.now g x.next r o → p.at < x.next → x.next ≤ length c → Inside c p.at r
          go r o (goes e z) v w = (omega arith, omega arith)
          go r o (scans e z) v w = (omega arith, omega arith)
          go r o stops v w = tt
          go r o over v w = omega arith

    -- an answer that follows the rules' move of this record
    by_move : (r : Step)
        → ((h : DrawnIn a m) (st : Scanning) (g : Replay) → h.sheet.inputs ≡ a.inputs → Playing m.inputs.now m.coils.now (moved p x.next) st g
        → Follows h.sheet m'.inputs.now m'.coils.now g x.next r (scans_move l h.sheet st (byte_of x.kind) (drop p.at c)))
        → Steps l a c m m' p r
    by_move r f h st g i y =
        let e = moves h st g y in
        let z = f h st g i (plays m.inputs.now m.coils.now p x.next st g y) in
        record { inside = lies h st g y r (scans_move l h.sheet st (byte_of x.kind) (drop p.at c)) z; follows = rw (e, ← next_is) z }

    pub step_input : x.kind ≡ InputOn → (n k : ℕ) → k ≡ number_at c p.at 1 → n ≡ k → (r : Step) → NamesInput a.inputs m.inputs.now m'.inputs.now (moved p x.next) n r
        → m'.coils.now ≡ m.coils.now → Steps l a c m m' p r
    unfolding scans_move
    step_input e n k z o r f w = by_move r (λ h st g i y. rw (e, w, ← z, ← o) (f h.sheet m.coils.now st g i y))

    pub step_scan : x.kind ≡ Scan → (r : Step) → Scans l a m m' (moved p x.next) r → Steps l a c m m' p r
    unfolding scans_move
    step_scan e r f = by_move r (λ h st g i y. rw e (f h st g y))

-- a kind that is neither is END, where it is due
other_kind : (k : Named) → (k ≡ InputOn → ⊥) → (k ≡ Scan → ⊥) → (eqb (byte_of k) Kind.INPUT_ON ≡ false) × (eqb (byte_of k) Kind.SCAN ≡ false)
other_kind Head a b = (refl, refl)
other_kind Start a b = (refl, refl)
other_kind Input a b = (refl, refl)
other_kind Coil a b = (refl, refl)
other_kind Constant a b = (refl, refl)
other_kind Not a b = (refl, refl)
other_kind And a b = (refl, refl)
other_kind Or a b = (refl, refl)
other_kind Rung a b = (refl, refl)
other_kind Condition a b = (refl, refl)
other_kind End a b = (refl, refl)
other_kind StepKind a b = (refl, refl)
other_kind Qed a b = (refl, refl)
other_kind Safe a b = (refl, refl)
other_kind Invariant a b = (refl, refl)
other_kind Trace a b = (refl, refl)
other_kind InputOn a b = absurd (a refl)
other_kind Scan a b = absurd (b refl)

module _ (l : Limits) (a : Ladder) (c : List ℕ) (m : Places) (p : Play) (x : Record) (d : DueAt (play_kinds p) c p.at common (Ok x)) where
  pub step_end : (x.kind ≡ InputOn → ⊥) → (x.kind ≡ Scan → ⊥) → (r : Step) → EndsScans (moved p x.next) r → Steps l a c m m p r
  unfolding scans_move
  step_end e b r f =
      by_move l a c m m p x d r
      (λ h st g i y. let k = other_kind x.kind e b in rw (k.0, k.1) (f h.sheet m.inputs.now m.coils.now st g y))

-- what an answer says of the move that it follows
module _ (t : Sheet) (inputs coils : List ℕ) (g : Replay) (n : ℕ) where
  no_move : (r : Step) (o : ScansMove) → Follows t inputs coils g n r o → (f : Fault) → r ≡ Err f → o ≡ no (number_of f)
  no_move r o (goes q y) f e = clash (cc)
  no_move r o (scans q y) f e = clash (cc)
  no_move r o (stops {f = k}) f e = let z : k ≡ f = cc in ap (λ (x : Fault). no (number_of x)) z
  no_move r o over f e = clash (cc)

  last_move : (r : Step) (o : ScansMove) → Follows t inputs coils g n r o → r ≡ Ok None → o ≡ done tt
  last_move r o (goes q y) e = clash (cc)
  last_move r o (scans q y) e = clash (cc)
  last_move r o stops e = clash (cc)
  last_move r o over e = refl

  -- it goes on, with a scan or without
  data Onward (o : ScansMove) (p : Play) : Type 0 where
    on_with : (st : Scanning) → o ≡ go st → p.at ≡ n → Playing inputs coils p st g → Onward o p
    on_after : (os : List ℕ) (st : Scanning) → o ≡ mark os st → p.at ≡ n → Playing inputs coils p st (replayed t g os) → Onward o p

  go_move : (r : Step) (o : ScansMove) → Follows t inputs coils g n r o → (p : Play) → r ≡ Ok (Some p) → Onward o p
  go_move r o (goes {p = j} {st = st} q y) p e = let z : j ≡ p = cc in on_with st refl (rw z at q) (subst (λ (x : Play). Playing inputs coils x st g) z y)
  go_move r o (scans {p = j} {on = os} {st = st} q y) p e = let z : j ≡ p = cc in on_after os st refl (rw z at q) (subst (λ (x : Play). Playing inputs coils x st (replayed t g os)) z y)
  go_move r o stops p e = clash (cc)
  go_move r o over p e = clash (cc)

-- the rules from here, with a state that the numbers and places stand for, judge as the rules from the start
pub record PlayingOn (l : Limits) (a : Ladder) (c : List ℕ) (m₀ : Places) (h : ReplayAt l a c m₀.inputs.now m₀.coils.now m₀.stack.now) (m : Places) (p : Play) : Type 0 where
  pub st : Scanning
  pub g : Replay
  pub fuel : ℕ
  pub stands : Playing m.inputs.now m.coils.now p st g
  pub inside : p.at ≤ length c
  pub enough : length c < fuel + p.at
  pub from : judge_scans h.scan_at.drawn.sheet c g (walk (scans_reader l h.scan_at.drawn.sheet) fuel (drop p.at c) p.at st)
      ≡ judge_scans h.scan_at.drawn.sheet c (unplayed h.scan_at.drawn.sheet) (read_scans l h.scan_at.drawn.sheet c)

-- the loop's invariant
pub record Turning (l : Limits) (a : Ladder) (c : List ℕ) (m₀ m : Places) (p : Play) : Type 0 where
  pub long : AsLong m₀ m
  pub turning : (h : ReplayAt l a c m₀.inputs.now m₀.coils.now m₀.stack.now) → PlayingOn l a c m₀ h m p

module _ (l : Limits) (a : Ladder) (c : List ℕ) (m₀ : Places) where
  pub begins : Turning l a c m₀ m₀ (record { at = 1; least = 0; count = 0; first = None; broken = false })
  unfolding read_scans
  begins = record {
    long = record { inputs_long = refl; coils_long = refl; stack_long = refl };
    turning = λ h.
        let o = h.opened in
        let k = length-drop 1 c in
        record {
          st = record { on = []; least = 0; count = 0 };
          g = unplayed h.scan_at.drawn.sheet;
          fuel = suc (length (drop 1 c));
          stands = record {
            least = refl;
            none = refl;
            count = refl;
            counted = refl;
            first = refl;
            broken = refl;
            sound = λ e. refl;
            inputs_are = h.inputs_off;
            coils_are = h.started;
          };
          inside = o;
          enough = omega arith;
          from = refl;
        };
  }

  module _ (m : Places) (p : Play) (i : Turning l a c m₀ m p) where
    pub ready : ReplayAt l a c m₀.inputs.now m₀.coils.now m₀.stack.now → ScanIn l a m
    ready h =
        let o = h.scan_at in
        let n = i.long in
        record { few = o.few; known = rw n.inputs_long o.known; drawn = rw (n.inputs_long, n.coils_long, n.stack_long) o.drawn }

    module _ (m' : Places) (r : Step) (f : Steps l a c m m' p r) where
      module _ (h : ReplayAt l a c m₀.inputs.now m₀.coils.now m₀.stack.now) where
        abbrev t : Sheet
        t = h.scan_at.drawn.sheet

        abbrev here : PlayingOn l a c m₀ h m p
        here = i.turning h

        drawn_here : DrawnIn a m
        drawn_here =
            let d = h.scan_at.drawn in
            let n = i.long in
            record {
              sheet = d.sheet;
              rest = d.rest;
              bytes = d.bytes;
              closes = d.closes;
              count = d.count;
              runnable = rw (n.inputs_long, n.coils_long, n.stack_long) d.runnable;
              fits = rw (n.inputs_long, n.coils_long, n.stack_long) d.fits;
            }

        stepped : Stepped l t c m' p here.st here.g r
        unfolding drawn_here
        stepped = f drawn_here here.st here.g h.inputs_known here.stands

        -- there is fuel for one more record
        closes : (x : Result Answer Told) → ((k : ℕ) → judge_scans t c here.g (walk (scans_reader l t) (suc k) (drop p.at c) p.at here.st) ≡ answer_of x)
            → answer_of x ≡ judge_scans t c (unplayed t) (read_scans l t c)
        closes x y = go here.fuel here.enough here.from
          where
            go : (k : ℕ) → length c < k + p.at → judge_scans t c here.g (walk (scans_reader l t) k (drop p.at c) p.at here.st) ≡ judge_scans t c (unplayed t) (read_scans l t c)
                → answer_of x ≡ judge_scans t c (unplayed t) (read_scans l t c)
            go zero b e = let j = here.inside in absurd (omega arith)
            go (suc k) b e = sym (y k) ∙ e

        pub at_no : (n : Fault) → r ≡ Err n → answer_of (Err (record { fault = n; place = p.at })) ≡ judge_scans t c (unplayed t) (read_scans l t c)
        unfolding walk judge_scans answer_of
        at_no n e =
            let z = no_move t m'.inputs.now m'.coils.now here.g _ r _ stepped.follows n e in
            closes (Err (record { fault = n; place = p.at })) (λ k. rw (z, walk))

        pub at_done : r ≡ Ok None → (x : Result Answer Told) → Finishes c p x → answer_of x ≡ judge_scans t c (unplayed t) (read_scans l t c)
        unfolding walk judge_scans
        at_done e x b =
            let z = last_move t m'.inputs.now m'.coils.now here.g _ r _ stepped.follows e in
            closes x (λ k. rw (z, walk) (sym (b here.g here.stands.first here.stands.broken here.stands.sound)))

        module _ (q : Play) (e : r ≡ Ok (Some q)) where
          further : (p.at < q.at) × (q.at ≤ length c)
          further = subst (λ (x : Step). Inside c p.at x) e stepped.inside

          pub at_go : PlayingOn l a c m₀ h m' q
          unfolding walk judge_scans past
          at_go = again here.fuel here.enough here.from (go_move t m'.inputs.now m'.coils.now here.g _ r _ stepped.follows q e)
            where
              again : (j : ℕ) → length c < j + p.at → judge_scans t c here.g (walk (scans_reader l t) j (drop p.at c) p.at here.st) ≡ judge_scans t c (unplayed t) (read_scans l t c)
                  → Onward t m'.inputs.now m'.coils.now here.g (p.at + record_length (get_or (drop p.at c) 0 0)) (move_at (scans_reader l t) here.st (drop p.at c)) q → PlayingOn l a c m₀ h m' q
              again zero b x o = let v = here.inside in absurd (omega arith)
              again (suc j) b x (on_with st o n v) =
                  let u = further in
                  record {
                    st = st;
                    g = here.g;
                    fuel = j;
                    stands = v;
                    inside = u.1;
                    enough = let w = u.0 in omega arith;
                    from = rw (o, walk, past, drop-drop (record_length (get_or (drop p.at c) 0 0)) p.at c, ← n) at x;
                  }
              again (suc j) b x (on_after os st o n v) =
                  let u = further in
                  record {
                    st = st;
                    g = replayed t here.g os;
                    fuel = j;
                    stands = v;
                    inside = u.1;
                    enough = let w = u.0 in omega arith;
                    from = rw (o, walk, past, drop-drop (record_length (get_or (drop p.at c) 0 0)) p.at c, ← n) at x;
                  }

      -- the turns as the code meets them
      pub nearer : ReplayAt l a c m₀.inputs.now m₀.coils.now m₀.stack.now → (q : Play) → r ≡ Ok (Some q) → length c - q.at < length c - p.at
      nearer h q e = let u = further h q e in let x = u.0 in let y = u.1 in omega arith

      pub end_inside : ReplayAt l a c m₀.inputs.now m₀.coils.now m₀.stack.now → r ≡ Ok None → p.at < length c
      end_inside h e = subst (λ (x : Step). Inside c p.at x) e (stepped h).inside

      pub goes_on : AsLong m m' → (q : Play) → r ≡ Ok (Some q) → Turning l a c m₀ m' q
      goes_on n q e = record {
        long = record {
          inputs_long = n.inputs_long ∙ i.long.inputs_long;
          coils_long = n.coils_long ∙ i.long.coils_long;
          stack_long = n.stack_long ∙ i.long.stack_long;
        };
        turning = λ h. at_go h q e;
      }

      module _ (inputs' coils' w' : List ℕ) (x : length inputs' ≡ length m₀.inputs.now) (y : length coils' ≡ length m₀.coils.now) (z : length w' ≡ length m₀.stack.now) where
        pub refused_there : (n : Fault) → r ≡ Err n → (k : Told) → k ≡ record { fault = n; place = p.at }
            → Replays l a c m₀.inputs.now inputs' m₀.coils.now coils' m₀.stack.now w' (Err k)
        refused_there n e k j h = record { answered = ap (λ (v : Told). answer_of (Err v)) j ∙ at_no h n e; inputs_long = x; coils_long = y; stack_long = z }

        pub ended_there : r ≡ Ok None → (k : Result Answer Told) → Finishes c p k
            → Replays l a c m₀.inputs.now inputs' m₀.coils.now coils' m₀.stack.now w' k
        ended_there e k b h = record { answered = at_done h e k b; inputs_long = x; coils_long = y; stack_long = z }
