-- The translator, from the set back to the sheet, by the answers of the code.
-- Assumes nothing.
use Prim.Native.Nat.{ℕ, ◌+◌, ◌*◌, ◌/◌, ◌≤◌, ◌<◌}
use mathlib.Core.Path.{◌≡◌, refl, sym, ◌∙◌}
use mathlib.Core.List.{List, [], ◌∷◌}
use native.Mathlib.Omega.{arith}
use lib.ListN.{length, get_or, drop}
use borrow.Author.Tests.{lt-ltb, le-ltb, ne_eqb}
use mir.Val.{Fits}
use mir.Syntax.{w8}
use mathlib.Core.Bool.{false}
use Rattle.std.specs.Prelude.{Result, Ok, Err}
use Rattle.base.specs.Lists.{each}
use Rattle.rules.specs.declared.Limits.{Limits}
use Rattle.rules.specs.declared.Set.{Set}
use Rattle.rules.specs.declared.Set.TheVariants.{Start, Keep, Safe}
use Rattle.rules.specs.declared.refusals.Fault.{Fault}
use Rattle.rules.specs.declared.refusals.Fault.TheVariants.{ShortRoom, NoSet}
use Rattle.rules.specs.declared.refusals.Refusal.{Refusal}
use Rattle.rules.specs.Fault.{refusal_of}
use Rattle.rules.specs.Head.{base_limits}
use Rattle.rules.specs.Kind
use Rattle.rules.specs.Walk.{◌at◌, Reading.stopped, Reading.closed, reading}
use Rattle.rules.specs.Formula.{Formula}
use Rattle.rules.specs.Sheet.{Start as StartRecord, Sheet}
use Rattle.rules.specs.ReadSheet.{SheetRead.good, SheetRead.bad, read_sheet}
use Rattle.rules.specs.WriteSheet.{write_start}
use Rattle.rules.specs.Certificate.{Which, opening, read_invariant}
use Rattle.rules.specs.Clauses.{Clause, clause_set}
use Rattle.rules.specs.Verdict.{Translation.withheld, room_for, translate_invariant, translate_opened, translate_sheet, translation, written_of, count_of, room_after, which_of, number_of_set, NamesSet}
use Rattle.sheets.specs.declared.Outline.{Outline}
use Rattle.sheets.specs.declared.Invariant.{Invariant}
use Rattle.sheets.specs.declared.Opening.{Opening}
use Rattle.sheets.specs.declared.Opening.TheVariants.{Safe as OpensSafe, Trace as OpensTrace}
use Rattle.sheets.specs.Answer.{Outlined, Says, ReadAs}
use Rattle.sheets.specs.Certificate.{opening_kinds, opened_as, InvariantThere, InvariantSays, InvariantAs}
use Rattle.reading.proofs.SheetKept.{sheet_written}
use Rattle.reading.proofs.InvariantLaws.{invariant_written}
use Rattle.clauses.specs.declared.Layout.{Layout}
use Rattle.clauses.specs.Sets.{Slight, Given, SetThere, SetWritten}
use Rattle.clauses.specs.Translated.{Did, SetCounted, SetTranslated, Fitting, layout_of, SheetThere, CertificateTranslated, Translated}
use Rattle.clauses.proofs.PlacesLaws.{emits_places}

module _ (w : Which) (s c : List ℕ) (h : Layout) where
  pub set_counted : (room room' : List ℕ) (r : ℕ) → SetWritten w s c h room room' r → SetCounted w s c h r
  set_counted room room' r d = record { of = λ l t inv rest v. let n = (d.of l t inv rest v).counted in omega arith }

  module _ (count : ℕ) (d : SetCounted w s c h count) (room : List ℕ) where
    pub too_small : length room / 3 < count → (x : Refusal) → x ≡ record { fault = ShortRoom; place = 0 } → SetTranslated w s c h room room (Err x)
    unfolding written_of count_of room_after
    too_small k x e = rw e (record { of = λ l t inv rest v. done l t inv rest v })
      where
        done : (l : Limits) (t : Sheet) (inv : Formula) (rest : List ℕ) → Given l s c h t inv rest
            → Did (room_for (length room) (clause_set t inv w)) room room (Err (record { fault = ShortRoom; place = 0 }))
        done l t inv rest v =
            let n : count ≡ length (clause_set t inv w) = d.of l t inv rest v in
            let i : length room < 3 * length (clause_set t inv w) = omega arith in
            rw (lt-ltb _ _ i) (record { answered = refl; left = refl })

    pub all_placed : (room' : List ℕ) (m : ℕ) → count ≤ length room / 3 → SetWritten w s c h room room' m → SetTranslated w s c h room room' (Ok count)
    unfolding written_of count_of room_after
    all_placed room' m k f = record { of = λ l t inv rest v. done l t inv rest v }
      where
        done : (l : Limits) (t : Sheet) (inv : Formula) (rest : List ℕ) → Given l s c h t inv rest
            → Did (room_for (length room) (clause_set t inv w)) room room' (Ok count)
        done l t inv rest v =
            let cs : List Clause = clause_set t inv w in
            let n : count ≡ length cs = d.of l t inv rest v in
            let i : 3 * length cs ≤ length room = omega arith in
            rw (le-ltb _ _ i) (record { answered = rw n; left = (f.of l t inv rest v).wrote ∙ emits_places room cs i })

starts_length : (ss : List StartRecord) → length (each write_start ss) ≡ 4 * length ss
unfolding write_start
starts_length [] = refl
starts_length (x ∷ ss) = let e = starts_length ss in omega arith

-- a sheet with its outline
module _ (l : Limits) (s : List ℕ) (h : Outline) (p : SheetThere l s h) where
  t₀ : Sheet
  t₀ = p.outlined.sheet

  pub fitting : Fitting h
  unfolding t₀
  fitting = record {
    inputs_fit = omega (arith, p.outlined.inputs_are, p.within.inputs_fit, p.slight.narrow);
    coils_fit = omega (arith, p.outlined.coils_are, p.within.coils_fit, p.slight.narrow);
  }

  same_sheet : (t : Sheet) → read_sheet l s ≡ good t → t₀ ≡ t
  unfolding t₀
  same_sheet t e = let f = p.outlined.reads in cc

  -- and a certificate
  module _ (w : Which) (c room : List ℕ) (r : Result Opening Refusal) (d : opened_as r ≡ reading (opening (opening_kinds false)) c 0 tt) where
    pub not_opened : (x : Refusal) → r ≡ Err x → CertificateTranslated l w s c room room (Err x)
    unfolding translate_opened written_of count_of room_after
    not_opened x e = record {
      of = λ t z.
          let y : reading (opening (Kind.SAFE ∷ [])) c 0 tt ≡ stopped (refusal_of x) = sym (rw e at d) in
          rw y (record { answered = refl; left = refl });
    }

    -- that opens, and the answer of its invariant
    module _ (o : Opening) (k : r ≡ Ok o) (b : (i : ℕ) → Fits w8 (get_or c i 0)) (q : Result Invariant Refusal) (a : InvariantAs l h.coils c q) where
      opened : (t : Sheet) → translate_opened l (length room) t w c (reading (opening (Kind.SAFE ∷ [])) c 0 tt) ≡ translate_invariant (length room) t w (read_invariant l t c)
      unfolding translate_opened
      opened t = go o k
        where
          go : (x : Opening) → r ≡ Ok x → translate_opened l (length room) t w c (reading (opening (Kind.SAFE ∷ [])) c 0 tt) ≡ translate_invariant (length room) t w (read_invariant l t c)
          go OpensSafe e = let y : reading (opening (Kind.SAFE ∷ [])) c 0 tt ≡ closed 0 Kind.SAFE = sym (rw e at d) in rw y
          go OpensTrace e = let y : reading (opening (Kind.SAFE ∷ [])) c 0 tt ≡ closed 0 Kind.TRACE = sym (rw e at d) in rw y

      says : InvariantSays l t₀ c q
      unfolding t₀
      says = a.answered p.outlined.sheet (sym p.outlined.coils_are)

      pub no_invariant : (x : Refusal) → q ≡ Err x → CertificateTranslated l w s c room room (Err x)
      unfolding InvariantSays translate_invariant written_of count_of room_after
      no_invariant x e = record {
        of = λ t z.
            let y : read_invariant l t₀ c ≡ stopped (refusal_of x) = rw e at says in
            rw (opened t, ← same_sheet t z, y) (record { answered = refl; left = refl });
      }

      module _ (i : Invariant) (e : q ≡ Ok i) where
        there : InvariantThere l t₀ c i.end i.size
        unfolding InvariantSays
        there = rw e at says

        given : Given l s c (layout_of h) t₀ there.invariant (Kind.INVARIANT ∷ drop (i.end + 1) c)
        unfolding t₀
        given =
            let x = invariant_written l p.outlined.sheet c i.end there.invariant (λ k. (b k).fits) there.reads in
            let n = starts_length p.outlined.sheet.starts in
            record {
              sheet_bytes = p.bytes;
              inputs_are = p.outlined.inputs_are;
              coils_are = p.outlined.coils_are;
              rungs_are = p.outlined.rungs_are;
              rungs_at = omega (arith, p.outlined.rungs_begin);
              within = p.within;
              invariant_bytes = x.bytes;
              closes = refl;
              invariant_within = x.within;
              slight = p.slight;
            }

        pub set_there : (y : Layout) → y ≡ layout_of h → SetThere s c y
        set_there y f = rw f (record {
          limits = l;
          sheet = t₀;
          invariant = there.invariant;
          rest = Kind.INVARIANT ∷ drop (i.end + 1) c;
          given = given;
        })

        pub certificate_translated : (y : Layout) → y ≡ layout_of h → (room' : List ℕ) (x : Result ℕ Refusal) → SetTranslated w s c y room room' x
            → CertificateTranslated l w s c room room' x
        unfolding translate_invariant
        certificate_translated y f room' x m = record {
          of = λ t z.
              let n : SetTranslated w s c (layout_of h) room room' x = rw f at m in
              rw (opened t, ← same_sheet t z, there.reads) (n.of l t₀ there.invariant (Kind.INVARIANT ∷ drop (i.end + 1) c) given);
        }

-- the sheet
module _ (l : Limits) (k : Slight l) (s m m' : List ℕ) (r : Result Outline Refusal) (d : ReadAs l s m m' r) (w : Which) (c room : List ℕ) where
  pub no_sheet : (x : Refusal) → r ≡ Err x → Did (translate_sheet l (length room) w c (read_sheet l s)) room room (Err x)
  unfolding Says translate_sheet written_of count_of room_after
  no_sheet x e = let y : read_sheet l s ≡ bad (refusal_of x) = rw e at d.answered in rw y (record { answered = refl; left = refl })

  module _ (h : Outline) (e : r ≡ Ok h) where
    outlined : Outlined l s h
    unfolding Says
    outlined = rw e at d.answered

    pub sheet_there : ((i : ℕ) → Fits w8 (get_or s i 0)) → SheetThere l s h
    sheet_there b =
        let x = sheet_written l s outlined.sheet (λ j. (b j).fits) outlined.reads in
        record { slight = k; outlined = outlined; within = x.0; bytes = x.1 }

    pub sheet_translated : (room' : List ℕ) (x : Result ℕ Refusal) → CertificateTranslated l w s c room room' x
        → Did (translate_sheet l (length room) w c (read_sheet l s)) room room' x
    unfolding translate_sheet
    sheet_translated room' x y = rw outlined.reads (y.of outlined.sheet outlined.reads)

-- the set's number
module _ (set : ℕ) (s c room : List ℕ) where
  pub no_set : (r : Result Set Fault) → NamesSet set r → (f : Fault) → r ≡ Err f → (x : Refusal) → x ≡ record { fault = f; place = 0 }
      → Translated base_limits set s c room room (Err x)
  unfolding translation written_of count_of room_after
  no_set r n f e x k =
      let y : NamesSet set (Err f) = rw e at n in
      let z : x ≡ record { fault = NoSet; place = 0 } = rw y.0 at k in
      let u : translation base_limits set s c (length room) ≡ withheld (29 at 0) =
      rw (ne_eqb set 1 (y.1 Start), ne_eqb set 2 (y.1 Keep), ne_eqb set 3 (y.1 Safe)) in
      record { answered = rw (z, u); left = rw u }

  pub base_slight : (l : Limits) → l ≡ base_limits → Slight l
  base_slight l e = rw e (record { coils_fit = omega arith; depth_fits = omega arith; narrow = omega arith })

  pub translated : (r : Result Set Fault) → NamesSet set r → (w : Set) → r ≡ Ok w → (l : Limits) → l ≡ base_limits → (room' : List ℕ) (x : Result ℕ Refusal)
      → Did (translate_sheet l (length room) (which_of w) c (read_sheet l s)) room room' x → Translated base_limits set s c room room' x
  unfolding translation
  translated r n w e l k room' x d = go w (rw e at n) (rw k at d)
    where
      go : (v : Set) → set ≡ number_of_set v → Did (translate_sheet base_limits (length room) (which_of v) c (read_sheet base_limits s)) room room' x
          → Translated base_limits set s c room room' x
      go Start i f = rw i (record { answered = f.answered; left = f.left })
      go Keep i f = rw i (record { answered = f.answered; left = f.left })
      go Safe i f = rw i (record { answered = f.answered; left = f.left })
