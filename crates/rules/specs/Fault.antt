-- The number of each fault, and a refusal of the code as its number at its place.
use Rattle.std.specs.Prelude.{ℕ}
use Rattle.rules.specs.Walk.{Refusal as Numbered, ◌at◌}
use Rattle.rules.specs.declared.refusals.Fault.{Fault}
use Rattle.rules.specs.declared.refusals.Fault.TheVariants.{ShortWorkspace, SheetEnds, SheetKind, SheetRange, StartOrder, SheetOperands, SheetDepth, SheetRecords, CoilTwice, RungCount, AfterSheet, CertificateEnds, CertificateKind, CertificateRange, InvariantOperands, InvariantDepth, InvariantRecords, NoClause, NoPivot, Width, Steps, NotEmpty, InputOrder, ScanCount, ConditionHeld, AfterCertificate, FileSize, ShortRoom, NoSet}
use Rattle.rules.specs.declared.refusals.Refusal.{Refusal}

abbrev pub number_of : Fault → ℕ
number_of ShortWorkspace = 1
number_of SheetEnds = 2
number_of SheetKind = 3
number_of SheetRange = 4
number_of StartOrder = 5
number_of SheetOperands = 6
number_of SheetDepth = 7
number_of SheetRecords = 8
number_of CoilTwice = 9
number_of RungCount = 10
number_of AfterSheet = 11
number_of CertificateEnds = 12
number_of CertificateKind = 13
number_of CertificateRange = 14
number_of InvariantOperands = 15
number_of InvariantDepth = 16
number_of InvariantRecords = 17
number_of NoClause = 18
number_of NoPivot = 19
number_of Width = 20
number_of Steps = 21
number_of NotEmpty = 22
number_of InputOrder = 23
number_of ScanCount = 24
number_of ConditionHeld = 25
number_of AfterCertificate = 26
number_of FileSize = 27
number_of ShortRoom = 28
number_of NoSet = 29

abbrev pub refusal_of : Refusal → Numbered
refusal_of x = number_of x.fault at x.place
