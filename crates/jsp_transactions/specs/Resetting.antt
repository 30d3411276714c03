-- Spaces once one was reset.
use Rattle.std.specs.Prelude.{ℕ, ◌+◌, List, ◌++◌, map, take, drop}
use Rattle.jsp_model.specs.declared.state.Space.{Space}

-- the space counts a crash more
abbrev pub counted : ℕ → List Space → List Space
counted space spaces = take space spaces ++ map (λ (p : Space). record p { crash_count = p.crash_count + 1 }) (take 1 (drop space spaces)) ++ drop (space + 1) spaces
