-- Bytes that are written in parts.
use Rattle.std.proofs.Common.{◌≡◌, ℕ, ◌-◌, arith, length-append, List, ◌++◌, Option, length, take, drop, ap, sym, ◌∙◌, append_assoc, take-append-drop}
use Rattle.std.specs.Io.KnownBytes.{Appends}
use Rattle.std.proofs.KnownBytes.{Appends-trans}
use Rattle.std.proofs.lemmas.List.{take_rest}
use Rattle.jsp_script.specs.Faults.{AppendsPart, AppendsSome}

-- some of the first part, and nothing of the second
pub some_of_first : (old new : Option (List ℕ)) (first second : List ℕ) → AppendsSome old new first → AppendsSome old new (first ++ second)
some_of_first old new first second h = record {
  written = h.written;
  rest = h.rest ++ second;
  text_is = ap (λ l. l ++ second) h.text_is ∙ append_assoc h.written h.rest second;
  appends = h.appends;
}

-- the first part, and some of the second
pub some_of_second : (old mid new : Option (List ℕ)) (first second : List ℕ) → Appends old mid first → AppendsSome mid new second → AppendsSome old new (first ++ second)
some_of_second old mid new first second whole h = record {
  written = first ++ h.written;
  rest = h.rest;
  text_is = ap (λ l. first ++ l) h.text_is ∙ sym (append_assoc first h.written h.rest);
  appends = Appends-trans old mid new first h.written whole h.appends;
}

-- the same of beginnings that aren't all
pub part_of_first : (old new : Option (List ℕ)) (first second : List ℕ) → AppendsPart old new first → AppendsPart old new (first ++ second)
part_of_first old new first second h = record {
  written = h.written;
  rest = h.rest ++ second;
  text_is = ap (λ l. l ++ second) h.text_is ∙ append_assoc h.written h.rest second;
  appends = h.appends;
  missing = omega (arith, h.missing, length-append h.rest second);
}

pub part_of_second : (old mid new : Option (List ℕ)) (first second : List ℕ) → Appends old mid first → AppendsPart mid new second → AppendsPart old new (first ++ second)
part_of_second old mid new first second whole h = record {
  written = first ++ h.written;
  rest = h.rest;
  text_is = ap (λ l. first ++ l) h.text_is ∙ sym (append_assoc first h.written h.rest);
  appends = Appends-trans old mid new first h.written whole h.appends;
  missing = h.missing;
}

-- what was taken from the front of the rest
pub moves_front : (all done rest : List ℕ) (n : ℕ) → all ≡ done ++ rest → all ≡ (done ++ take n rest) ++ take (length rest - n) (drop n rest)
moves_front all done rest n e =
    e ∙ ap (λ l. done ++ l) (sym (take-append-drop n rest)) ∙ sym (append_assoc done (take n rest) (drop n rest)) ∙ ap (λ l. (done ++ take n rest) ++ l) (sym (take_rest rest n))
