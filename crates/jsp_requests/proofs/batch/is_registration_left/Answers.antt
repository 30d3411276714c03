use Rattle.std.proofs.Common.{refl}
use Rattle.jsp_requests.proofs.batch.is_registration_left.Goals as goal

pub any_of-requires : goal.any_of-requires
any_of-requires c = λ owed r. refl
