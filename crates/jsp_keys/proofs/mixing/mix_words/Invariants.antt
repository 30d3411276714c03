use Rattle.std.proofs.Common.{◌≡◌, length}
use Rattle.jsp_keys.specs.Keys.{mix_words as words_mixed}
use Rattle.jsp_keys.proofs.mixing.mix_words.Given as goal

abbrev pub invariant-words : goal.invariant-words
invariant-words l = words_mixed l.mixed l.left ≡ words_mixed l.fn.key l.fn.bytes

abbrev pub decreases-words : goal.decreases-words
decreases-words l = length l.left
