-- The number of each refusal.
use Rattle.std.specs.Prelude.{ℕ}
use Rattle.jsp_reply.specs.declared.refusal.Refusal.{Refusal}
use Rattle.jsp_reply.specs.declared.refusal.Refusal.TheVariants as refusal

abbrev pub number_of : Refusal → ℕ
number_of refusal.BadJson = 1
number_of refusal.BadRequest = 2
number_of refusal.IdInUse = 3
number_of refusal.TooManyWaiting = 4
number_of refusal.UnknownSpace = 5
number_of refusal.BadClass = 6
number_of refusal.Differs = 7
number_of refusal.UnknownClass = 8
number_of refusal.BadEntry = 9
number_of refusal.BadLease = 10
number_of refusal.BadTimeout = 11
number_of refusal.UnknownLease = 12
number_of refusal.UnknownTransaction = 13
number_of refusal.NotActive = 14
number_of refusal.Aborted = 15
number_of refusal.LeftActive = 16
number_of refusal.TooMany = 17
number_of refusal.CrashCount = 18
number_of refusal.InDoubt = 19
number_of refusal.SpaceFull = 20
number_of refusal.TooLong = 21
number_of refusal.UsedUp = 22
