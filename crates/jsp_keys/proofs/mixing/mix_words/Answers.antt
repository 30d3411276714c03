use Rattle.std.proofs.Common.{◌≡◌, ℕ, ◌-◌, ◌<◌, ◌≤◌, length, List, [], ◌∷◌, refl, ap, ◌∙◌, take, drop, arith}
use Rattle.std.specs.Prelude.{slice_index}
use Rattle.std.specs.Int.{w64, from_le_bytes}
use Rattle.std.proofs.lemmas.List.{take_all}
use Rattle.jsp_keys.specs.Keys.{mix, mix_all, mix_words as words_mixed}
use Rattle.jsp_keys.proofs.mixing.mix_words.Goals as goal

-- the last few are mixed in one by one
few : (key : ℕ) (bytes : List ℕ) → length bytes < 8 → mix_all key bytes ≡ words_mixed key bytes
few key [] lt = refl
few key (a ∷ []) lt = refl
few key (a ∷ b ∷ []) lt = refl
few key (a ∷ b ∷ c ∷ []) lt = refl
few key (a ∷ b ∷ c ∷ d ∷ []) lt = refl
few key (a ∷ b ∷ c ∷ d ∷ e ∷ []) lt = refl
few key (a ∷ b ∷ c ∷ d ∷ e ∷ f ∷ []) lt = refl
few key (a ∷ b ∷ c ∷ d ∷ e ∷ f ∷ g ∷ []) lt = refl
few key (a ∷ b ∷ c ∷ d ∷ e ∷ f ∷ g ∷ h ∷ bytes) lt = absurd (omega (arith, lt))

abbrev word_of : List ℕ → ℕ
word_of xs = from_le_bytes w64 (slice_index xs 0 ∷ slice_index xs 1 ∷ slice_index xs 2 ∷ slice_index xs 3 ∷ slice_index xs 4 ∷ slice_index xs 5 ∷ slice_index xs 6 ∷ slice_index xs 7 ∷ [])

-- and the first eight as a word
eight : (key : ℕ) (bytes : List ℕ) → 8 ≤ length bytes → words_mixed (mix key (word_of bytes)) (take (length bytes - 8) (drop 8 bytes)) ≡ words_mixed key bytes
eight key [] le = absurd (omega (arith, le))
eight key (a ∷ []) le = absurd (omega (arith, le))
eight key (a ∷ b ∷ []) le = absurd (omega (arith, le))
eight key (a ∷ b ∷ c ∷ []) le = absurd (omega (arith, le))
eight key (a ∷ b ∷ c ∷ d ∷ []) le = absurd (omega (arith, le))
eight key (a ∷ b ∷ c ∷ d ∷ e ∷ []) le = absurd (omega (arith, le))
eight key (a ∷ b ∷ c ∷ d ∷ e ∷ f ∷ []) le = absurd (omega (arith, le))
eight key (a ∷ b ∷ c ∷ d ∷ e ∷ f ∷ g ∷ []) le = absurd (omega (arith, le))
eight key (a ∷ b ∷ c ∷ d ∷ e ∷ f ∷ g ∷ h ∷ bytes) le =
    let all = a ∷ b ∷ c ∷ d ∷ e ∷ f ∷ g ∷ h ∷ bytes in
    ap (words_mixed (mix key (word_of all))) (take_all (length all - 8) bytes (omega arith))

pub words-preserved : goal.words-preserved
words-preserved c =
    let left = c.words.left.now in
    ap (λ (m : ℕ). words_mixed m (take (length left - 8) (drop 8 left))) (c.mix-mixed.ensures ∙ ap (mix c.words.mixed) c.from_le_bytes.ensures)
    ∙ (eight c.words.mixed left c.in-len8-up.len_at_least ∙ c.words.invariant)

pub returns : goal.returns
returns c = c.mix_bytes.ensures ∙ (few c.words.mixed c.words.left.now c.in_default.len_below ∙ c.words.invariant)
