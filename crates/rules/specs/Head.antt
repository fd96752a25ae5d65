-- How large a sheet may be: inputs 0 to 256, coils 1 to 256, rungs 0 to the number of coils; formula records in a sheet 1,024;
-- in an invariant 256; formula stack 32; steps in one refutation 512; literals in a derived clause 24; scans in a trace 64;
-- workspace 32,768 places of 16 bits. Every other definition takes the limits as a parameter.
use Rattle.std.specs.Prelude.{ℕ, Bool, ◌&&◌, Option, Some, None, leb}
use Rattle.base.specs.Pick.{pick}
use Rattle.rules.specs.declared.Limits.{Limits}
use Rattle.rules.specs.declared.Sheet.{Sheet}

abbrev pub base_limits : Limits
base_limits = record {
  inputs = 256;
  coils = 256;
  rungs = 256;
  records = 1024;
  invariant = 256;
  depth = 32;
  steps = 512;
  width = 24;
  scans = 64;
  places = 32768;
}

-- HEAD's range: inputs 0 to a limit, coils 1 to a limit, rungs 0 to the number of coils
unfoldable pub head_fits : Limits → ℕ → ℕ → ℕ → Bool
head_fits l inputs coils rungs = leb inputs l.inputs && leb 1 coils && leb coils l.coils && leb rungs coils && leb rungs l.rungs

-- the head that passes it
abbrev pub headed : Limits → ℕ → ℕ → ℕ → Option Sheet
headed l inputs coils rungs = pick (head_fits l inputs coils rungs) (Some (record { inputs = inputs; coils = coils; rungs = rungs })) None
