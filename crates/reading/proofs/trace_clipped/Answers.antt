-- The general law of clipped readings, at the reader of scans.
-- Assumes nothing.
use Rattle.reading.proofs.TraceLeads.{trace_clipped}
use Rattle.reading.proofs.trace_clipped.Goals as goal

pub returns : goal.returns
returns c l n t bs b tr r m h = trace_clipped l t bs tr r m h
