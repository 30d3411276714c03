use Rattle.jsp_script.proofs.output.tell.Goals as goal

pub returns-in-CannotRead-clause-all : goal.returns-in-CannotRead-clause-all
returns-in-CannotRead-clause-all g c = rw c.in-CannotRead.is c.write_bytes.ensures.all

pub returns-in-CannotRead-clause-part : goal.returns-in-CannotRead-clause-part
returns-in-CannotRead-clause-part g c = rw c.in-CannotRead.is c.write_bytes.ensures.part

pub returns-in-TooLong-clause-all : goal.returns-in-TooLong-clause-all
returns-in-TooLong-clause-all g c = rw c.in-TooLong.is c.write_bytes-in-TooLong.ensures.all

pub returns-in-TooLong-clause-part : goal.returns-in-TooLong-clause-part
returns-in-TooLong-clause-part g c = rw c.in-TooLong.is c.write_bytes-in-TooLong.ensures.part

pub returns-in-NoMemory-clause-all : goal.returns-in-NoMemory-clause-all
returns-in-NoMemory-clause-all g c = rw c.in-NoMemory.is c.write_bytes-in-NoMemory.ensures.all

pub returns-in-NoMemory-clause-part : goal.returns-in-NoMemory-clause-part
returns-in-NoMemory-clause-part g c = rw c.in-NoMemory.is c.write_bytes-in-NoMemory.ensures.part

pub returns-in-CannotWrite-clause-all : goal.returns-in-CannotWrite-clause-all
returns-in-CannotWrite-clause-all g c = rw c.in-CannotWrite.is c.write_bytes-in-CannotWrite.ensures.all

pub returns-in-CannotWrite-clause-part : goal.returns-in-CannotWrite-clause-part
returns-in-CannotWrite-clause-part g c = rw c.in-CannotWrite.is c.write_bytes-in-CannotWrite.ensures.part

pub returns-in-DoesNotReplay-clause-all : goal.returns-in-DoesNotReplay-clause-all
returns-in-DoesNotReplay-clause-all g c = rw c.in-DoesNotReplay.is c.write_bytes-in-DoesNotReplay.ensures.all

pub returns-in-DoesNotReplay-clause-part : goal.returns-in-DoesNotReplay-clause-part
returns-in-DoesNotReplay-clause-part g c = rw c.in-DoesNotReplay.is c.write_bytes-in-DoesNotReplay.ensures.part
