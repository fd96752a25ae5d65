-- The loop over the coils, beside the STARTs that are left: both rise, so a coil's START is the next one or there is none.
-- Assumes nothing.
use Prim.Native.Nat.{ℕ, zero, suc, ◌+◌, ◌-◌, ◌/◌, ◌%◌, ◌≤◌, ◌<◌}
use mathlib.Core.Path.{◌≡◌, refl, sym, ap, ◌∙◌, subst}
use mathlib.Core.Bool.{Bool, true, false, and-false}
use mathlib.Core.List.{List, [], ◌∷◌, ◌++◌, map}
use native.Mathlib.Numerals.{add-one}
use native.Mathlib.Omega.{arith}
use lib.ListN.{length, get_or, drop, length-drop}
use lib.Seq.{drop-drop}
use lib.Dec.{eqb}
use borrow.Author.Tests.{eq-eqb, ne_eqb, eqb-true, eqb-false}
use mir.Val.{Fits}
use mir.Syntax.{w16}
use Rattle.base.specs.Pick.{pick}
use Rattle.base.specs.Lists.{each}
use Rattle.rules.specs.Kind
use Rattle.rules.specs.Record.{body_length, rows, number}
use Rattle.rules.specs.Sheet.{Start, start_of}
use Rattle.rules.specs.WriteSheet.{write_start, bit, RisesFrom}
use Rattle.rules.specs.Clauses.{Clause, start_units}
use Rattle.formulas.proofs.ReadBack.{two_bytes_lem}
use Rattle.clauses.specs.declared.starts.Begun.{Begun}
use Rattle.clauses.specs.Emits.{emits, Emitted, Small, signed}
use Rattle.clauses.specs.Started.{start_at, Started, StartsAt, StartsWritten}
use Rattle.clauses.proofs.EmitLaws.{emits_append}

-- a byte of no kind is not START's
pub unknown_byte : (b : ℕ) → body_length b ≡ 255 → eqb b Kind.START ≡ false
unfolding body_length rows
unknown_byte b h = ne_eqb b Kind.START (λ (e : b ≡ 2). let z : 3 ≡ 255 = ap body_length (sym e) ∙ h in omega arith)

module _ (bs : List ℕ) (p c : ℕ) where
  pub other_kind : eqb (get_or bs 0 0) Kind.START ≡ false → record { on = false; at = p } ≡ start_at bs p c
  unfolding start_at
  other_kind h = rw h

  pub other_coil : (m : ℕ) → m ≡ number bs 1 → (m ≡ c → ⊥) → record { on = false; at = p } ≡ start_at bs p c
  unfolding start_at
  other_coil m e h = rw (← e, ne_eqb _ _ h, and-false)

  pub that_coil : (m v : ℕ) → eqb (get_or bs 0 0) Kind.START ≡ true → m ≡ number bs 1 → m ≡ c → v ≡ get_or bs 3 0
      → record { on = eqb v 1; at = p + 4 } ≡ start_at bs p c
  unfolding start_at
  that_coil m v h f i j = rw (h, ← f, ← j, eq-eqb _ _ i)

pub ruleset start_at_cases = (other_kind, other_coil, that_coil)

-- a START's bytes
start_bytes : (x : Start) (ss : List Start) (rest : List ℕ)
    → each write_start (x ∷ ss) ++ rest ≡ Kind.START ∷ x.coil % 256 ∷ x.coil / 256 ∷ bit x.on ∷ (each write_start ss ++ rest)
unfolding write_start
start_bytes x ss rest = refl

bit_back : (b : Bool) → eqb (bit b) 1 ≡ b
bit_back true = refl
bit_back false = refl

same_starts : (ss ss' : List Start) (rest rest' : List ℕ) → eqb (get_or rest 0 0) Kind.START ≡ false → eqb (get_or rest' 0 0) Kind.START ≡ false
    → each write_start ss ++ rest ≡ each write_start ss' ++ rest' → ss ≡ ss'
unfolding write_start
same_starts [] [] rest rest' e e' h = refl
same_starts [] (x ∷ ss) rest rest' e e' h =
    let a : true ≡ false = ap (λ (l : List ℕ). eqb (get_or l 0 0) Kind.START) (sym h) ∙ e in
    let z : ◌≡◌ {A = ℕ} 0 1 = cc in
    absurd (omega arith)
same_starts (x ∷ ss) [] rest rest' e e' h =
    let a : true ≡ false = ap (λ (l : List ℕ). eqb (get_or l 0 0) Kind.START) h ∙ e' in
    let z : ◌≡◌ {A = ℕ} 0 1 = cc in
    absurd (omega arith)
same_starts (x ∷ ss) (y ∷ ss') rest rest' e e' h =
    let c : x.coil ≡ y.coil = sym (two_bytes_lem x.coil) ∙ ap (λ (l : List ℕ). number l 1) h ∙ two_bytes_lem y.coil in
    let b : x.on ≡ y.on = sym (bit_back x.on) ∙ ap (λ (l : List ℕ). eqb (get_or l 3 0) 1) h ∙ bit_back y.on in
    let q = same_starts ss ss' rest rest' e e' (ap (drop 4) h) in
    λ i. record { coil = c i; on = b i } ∷ q i

abbrev coils_of : List Start → List ℕ
coils_of ss = map (λ (x : Start). x.coil) ss

lower_rise : (m n : ℕ) (ns : List ℕ) → m ≤ n → RisesFrom n ns → RisesFrom m ns
unfolding RisesFrom
lower_rise m n [] h r = tt
lower_rise m n (x ∷ ns) h r = let a : n ≤ x = r.0 in (omega arith, r.1)

-- a coil below all that are named starts off
off_below : (ss : List Start) (c : ℕ) → RisesFrom (c + 1) (coils_of ss) → start_of ss c ≡ false
unfolding RisesFrom start_of
off_below [] c r = refl
off_below (x ∷ ss) c r =
    let a : c + 1 ≤ x.coil = r.0 in
    let b : (c ≡ x.coil → ⊥) = λ e. omega arith in
    rw (ne_eqb _ _ b) (off_below ss c (lower_rise (c + 1) (x.coil + 1) (coils_of ss) (omega arith) r.1))

-- a START of a lower coil does not matter
past_start : (x : Start) (ss : List Start) (c n : ℕ) → x.coil < c → start_units (x ∷ ss) c n ≡ start_units ss c n
unfolding start_units start_of
past_start x ss c zero h = refl
past_start x ss c (suc n) h =
    let b : (c ≡ x.coil → ⊥) = λ e. omega arith in
    rw (ne_eqb _ _ b, past_start x ss (suc c) n (omega arith))

-- what the record at the front says of coil c, where ss are the STARTs that are left and name none below c
record Passed (s rest : List ℕ) (ss : List Start) (c : ℕ) (b : Begun) : Type 0 where
  left : List Start
  on_is : b.on ≡ start_of ss c
  inside : b.at ≤ length s
  bytes : drop b.at s ≡ each write_start left ++ rest
  rises : RisesFrom (c + 1) (coils_of left)
  same : (n : ℕ) → start_units ss (c + 1) n ≡ start_units left (c + 1) n

module _ (s rest : List ℕ) (e : eqb (get_or rest 0 0) Kind.START ≡ false) (p c : ℕ) (inside : p ≤ length s) where
  passed : (ss : List Start) → drop p s ≡ each write_start ss ++ rest → RisesFrom c (coils_of ss) → Passed s rest ss c (start_at (drop p s) p c)
  unfolding start_at RisesFrom start_of
  passed [] h r = rw (h, e) (record { left = []; on_is = refl; inside = inside; bytes = h; rises = tt; same = λ n. refl })
  passed (x ∷ ss) h r = rw (h, start_bytes x ss rest, two_bytes_lem x.coil) (go (eqb x.coil c) refl)
    where
      go : (t : Bool) → eqb x.coil c ≡ t
          → Passed s rest (x ∷ ss) c (pick (eqb x.coil c) (record { on = eqb (bit x.on) 1; at = p + 4 }) (record { on = false; at = p }))
      go true z =
          let a : x.coil ≡ c = eqb-true x.coil c z in
          let b : c ≡ x.coil = sym a in
          let k = sym (length-drop p s) ∙ ap length (h ∙ start_bytes x ss rest) in
          rw z (record {
            left = ss;
            on_is = rw (eq-eqb _ _ b) (bit_back x.on);
            inside = omega arith;
            bytes = rw (← drop-drop 4 p s, h, start_bytes x ss rest);
            rises = subst (λ (j : ℕ). RisesFrom (j + 1) (coils_of ss)) a r.1;
            same = λ n. past_start x ss (c + 1) n (omega arith);
          })
      go false z =
          let a : (x.coil ≡ c → ⊥) = eqb-false x.coil c z in
          let b : c ≤ x.coil = r.0 in
          let q : RisesFrom (c + 1) (coils_of (x ∷ ss)) = (omega arith, r.1) in
          rw z (record {
            left = x ∷ ss;
            on_is = sym (off_below (x ∷ ss) c q);
            inside = inside;
            bytes = h;
            rises = q;
            same = λ n. refl;
          })

-- ss are left, and coils c and on
pub record Starting (s : List ℕ) (coils : ℕ) (out₀ out : List ℕ) (at c : ℕ) : Type 0 where
  pub all : List Start
  pub rest : List ℕ
  pub started : Started s coils all rest
  pub ss : List Start
  pub long : length out ≡ length out₀
  pub inside : at ≤ length s
  pub upto : c ≤ coils
  pub bytes : drop at s ≡ each write_start ss ++ rest
  pub rises : RisesFrom c (coils_of ss)
  pub few : c + length (start_units ss c (coils - c)) ≡ length (start_units all 0 coils)
  pub out_is : emits out c (start_units ss c (coils - c)) ≡ emits out₀ 0 (start_units all 0 coils)

pub starts : (s : List ℕ) (coils : ℕ) (out : List ℕ) → StartsAt s coils → Starting s coils out out 7 0
starts s coils out q =
    let a : coils - 0 ≡ coils = omega arith in
    record {
      all = q.starts;
      rest = q.rest;
      started = q.started;
      ss = q.starts;
      long = refl;
      inside = q.started.headed;
      upto = omega arith;
      bytes = q.started.bytes;
      rises = q.started.rises;
      few = rw a (omega arith);
      out_is = rw a refl;
    }

module _ (s : List ℕ) (coils : ℕ) (out₀ out : List ℕ) (at c : ℕ) (w : Starting s coils out₀ out at c) where
  pub coil_small : c < coils → Small c (c + 1) (c + 1) (c + 1)
  coil_small h =
      let f : coils < 32768 = w.started.few in
      record { few = omega arith; g_fits = omega arith; x_fits = omega arith; y_fits = omega arith }

  pub coil_fits : c < coils → Fits w16 (c + 1)
  coil_fits h = let f : coils < 32768 = w.started.few in record { fits = omega arith }

  pub starts_on : c < coils → (b : Begun) → b ≡ start_at (drop at s) at c → (out' : List ℕ) (m : ℕ) → Emitted out c (signed b.on (c + 1)) out' m
      → length out' ≡ length out → Starting s coils out₀ out' b.at (c + 1)
  unfolding start_units emits
  starts_on h b e out' m d l =
      let p : Passed s w.rest w.ss c b = rw e (passed s w.rest w.started.ends at c w.inside w.ss w.bytes w.rises) in
      let k : coils - c ≡ suc (coils - (c + 1)) = omega arith in
      let u : 1 + c ≡ c + 1 = omega arith in
      let cs : List Clause = start_units p.left (c + 1) (coils - (c + 1)) in
      let q : start_units w.ss c (coils - c) ≡ signed b.on (c + 1) ++ cs =
      rw (k, u, ← add-one c, ← p.on_is, p.same (coils - (c + 1))) refl in
      record {
        all = w.all;
        rest = w.rest;
        started = w.started;
        ss = p.left;
        long = l ∙ w.long;
        inside = p.inside;
        upto = omega arith;
        bytes = p.bytes;
        rises = p.rises;
        few = let f : c + length (signed b.on (c + 1) ++ cs) ≡ length (start_units w.all 0 coils) = rw q at w.few in omega arith;
        out_is = (λ i. emits (d.wrote i) (c + 1) cs) ∙ sym (emits_append out c (signed b.on (c + 1)) cs) ∙ (rw q at w.out_is);
      }

  pub started : coils ≤ c → (r : ℕ) → r ≡ coils → StartsWritten s coils out₀ out r
  unfolding start_units emits
  started h r e = let x : r ≡ c = omega (arith, w.upto) in rw x (record { of = λ ss rest q. done ss rest q })
    where
      z : coils - c ≡ 0
      z = omega arith

      done : (ss : List Start) (rest : List ℕ) → Started s coils ss rest → Emitted out₀ 0 (start_units ss 0 coils) out c
      done ss rest q =
          let a : w.all ≡ ss = same_starts w.all ss w.rest rest w.started.ends q.ends (sym w.started.bytes ∙ q.bytes) in
          let f : c + 0 ≡ length (start_units w.all 0 coils) = rw z at w.few in
          rw (← a) (record { wrote = rw z at w.out_is; counted = omega arith })

pub ruleset start_cases = (starts, coil_small, coil_fits, starts_on, started)
