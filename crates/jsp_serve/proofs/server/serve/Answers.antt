use Rattle.std.proofs.Common.{refl}
use Rattle.std.proofs.lemmas.Result.{IfOk-weaker}
use Rattle.jsp_floor.proofs.Coming.{are_served}
use Rattle.jsp_serve.proofs.server.serve.Goals as goal

pub returns-clause-served : goal.returns-clause-served
returns-clause-served g c = IfOk-weaker c.run_house.result _ _ (λ closed come. are_served _ _ _ (λ reader. refl) (λ writer. refl) closed come) c.run_house.ensures.comes
