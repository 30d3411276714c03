use Rattle.std.proofs.Common.{length}
use Rattle.jsp_index.proofs.shape.+key_of_values.Given as goal

abbrev pub decreases-key_of_values : goal.decreases-key_of_values
decreases-key_of_values l = length l.names.now
