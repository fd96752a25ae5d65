use Rattle.std.proofs.Common.{refl, rules}
use Rattle.std.specs.Prelude.{Ok, Err}
use Rattle.rules.specs.Verdict.{which_of}
use Rattle.clauses.proofs.TranslateLaws.{not_opened, no_invariant, set_there, certificate_translated}
use Rattle.clauses.proofs.translator.translate_certificate.Goals as goal

pub returns-in_err-open : goal.returns-in_err-open
returns-in_err-open c = search (rules, not_opened _ _ _ c.requires (which_of c.args.set) _ c.args.room.now (Err c.in_err-open.field-0.0) c.in_err-open.ensures _ refl)

pub returns-in_err-read_invariant : goal.returns-in_err-read_invariant
returns-in_err-read_invariant c =
    search (
      rules,
      no_invariant _ _ _ c.requires (which_of c.args.set) _ c.args.room.now (Ok _) c.in_ok-open.ensures _ refl c.type_inv.c
          (Err c.in_err-read_invariant.field-0.0) c.in_err-read_invariant.ensures _ refl,
    )

pub write_set-requires : goal.write_set-requires
write_set-requires c =
    set_there _ _ _ c.requires (which_of c.args.set) _ c.args.room.now (Ok _) c.in_ok-open.ensures _ refl c.type_inv.c (Ok _) c.in_ok-read_invariant.ensures _ refl _ c.of.ensures

pub returns : goal.returns
returns c =
    certificate_translated _ _ _ c.requires _ _ _ (Ok _) c.in_ok-open.ensures _ refl c.type_inv.c (Ok _) c.in_ok-read_invariant.ensures _ refl _ c.of.ensures _ _ c.write_set.ensures
