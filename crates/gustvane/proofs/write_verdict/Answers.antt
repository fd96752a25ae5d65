use Rattle.std.proofs.Common.{rules}
use Rattle.line.proofs.LineLaws.{refusal_lined}
use Rattle.gustvane.proofs.ProgramLaws.{verdict}
use Rattle.gustvane.proofs.write_verdict.Goals as goal

pub returns : goal.returns
returns c = search (rules, refusal_lined, verdict)
