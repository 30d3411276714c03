use Rattle.jsp_drive.proofs.Readings.{Reads-exists, Reads-unique}
use Rattle.jsp_drive.proofs.reading.one_reading.Goals as goal

pub returns-clause-some : goal.returns-clause-some
returns-clause-some c v stream bytes = Reads-exists v stream bytes

pub returns-clause-only : goal.returns-clause-only
returns-clause-only c v stream payloads others rest other one two = Reads-unique v stream payloads others rest other one two
