use Rattle.jsp_frame.proofs.Readings.{Reads-exists, Reads-unique}
use Rattle.jsp_frame.proofs.reading.one_reading.Goals as goal

pub returns-clause-some : goal.returns-clause-some
returns-clause-some c limit stream bytes = Reads-exists limit stream bytes

pub returns-clause-only : goal.returns-clause-only
returns-clause-only c limit stream fits payloads others rest other one two = Reads-unique limit stream payloads others rest other fits one two
